use Rattle.std.proofs.Common.{arith}
use Rattle.tree.proofs.Writes.{right_first, right_second, done_done}
use Rattle.tree.proofs.rotations.rotate_once_right.Goals as goal

pub plant-requires-2 : goal.plant-requires-2
plant-requires-2 g c =
    let m = g.P.PlaceKind.model in
    let y = c.requires.3 in
    (c.requires.0, _, right_second m y c.args.apart.high.place _ (omega arith) (c.plant.ensures _ _ (right_first m y)))

pub returns : goal.returns
returns g c =
    let m = g.P.PlaceKind.model in
    λ ta tb tc y.
    let d = c.plant.ensures _ _ (right_first m y) in
    done_done m d (c.plant-2.ensures _ _ (right_second m y c.args.apart.high.place _ (omega arith) d)) (λ j z. omega arith)
