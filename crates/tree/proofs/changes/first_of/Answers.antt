use Rattle.std.proofs.Common.{arith}
use Rattle.tree.proofs.Loops.{first_step, first_end}
use Rattle.tree.proofs.changes.first_of.Goals as goal

pub loop-left-preserved : goal.loop-left-preserved
loop-left-preserved g c =
    λ t y. first_step g.P.PlaceKind.model (c.loop-left.invariant t y) (λ z. omega arith)
    c.left_at-left-in-loop-left.ensures

pub returns : goal.returns
returns g c = λ t y. first_end g.P.PlaceKind.model (c.loop-left.invariant t y) (omega arith)
