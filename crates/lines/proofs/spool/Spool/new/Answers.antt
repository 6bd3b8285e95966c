use Rattle.lines.proofs.Rings.{whole_front}
use Rattle.lines.proofs.spool.Spool.new.Goals as goal

pub invariant_of-result-clause-whole : goal.invariant_of-result-clause-whole
invariant_of-result-clause-whole c =
    let slots = c.as_chunks_mut-slots in
    whole_front c.min-most.result c.args.bytes.now slots.result.0.now slots.ensures.front slots.ensures.front_len
