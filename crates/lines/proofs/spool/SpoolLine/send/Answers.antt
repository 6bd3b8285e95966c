use Rattle.std.proofs.Common.{◌≡◌, ◌+◌, ◌%◌, length, rules, arith}
use Rattle.std.proofs.Math.ListN.{length-set}
use Rattle.lines.proofs.Rings.{whole_set}
use Rattle.lines.proofs.spool.SpoolLine.send.Goals as goal

pub invariant_of-self : goal.invariant_of-self
invariant_of-self c =
    let self = c.args.self.now in
    let message = c.in_ok-message.message.now in
    let slot = (self.first + self.count) % length self.slots.now in
    let l = length-set self.slots.now slot message in
    let whole : length message ≡ 64 = search rules in
    record {
      most = omega (arith, l, self.most);
      filled = omega (arith, l, c.if-self.false);
      within = λ z. let w = self.within (omega (arith, l, z)) in omega (arith, l, w);
      whole = whole_set 64 self.slots.now slot message whole self.whole;
    }
