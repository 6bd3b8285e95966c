use Rattle.kinds.specs.Carried.{carried_key}
use Rattle.kinds.proofs.plane_place.key_to_carry.Goals as goal

pub returns : goal.returns
returns c =
    let h = carried_key c.args.cell c.key_of.result c.key_of.ensures.value c.key_of.ensures.back in
    rw c.unwrap_or.ensures record { value = h.0; back = h.1 }
