use Rattle.std.proofs.Common.{◌<◌, length, sym, subst, arith}
use Rattle.tree.specs.Shapes.{rotated_twice}
use Rattle.tree.specs.Contracted.{Done}
use Rattle.tree.proofs.Held.{holds_root}
use Rattle.tree.proofs.Writes.{both_first, both_second, both_third, done_done, opened, opened_three}
use Rattle.tree.proofs.Named.{two_named, planted}
use Rattle.tree.proofs.rotations.rotate_twice.Goals as goal

pub branch_at-middle-requires : goal.branch_at-middle-requires
branch_at-middle-requires g c =
    let y = c.requires.three.3 in
    let pos : 0 < length c.args.nodes.now = omega arith in
    (c.requires.some, rw y.b_is (holds_root _ c.requires.three.1 pos y.held_b))

pub plant-requires : goal.plant-requires
plant-requires g c =
    let m = g.P.PlaceKind.model in
    let y = c.requires.three.3 in
    let o = opened m c.args.nodes.now c.requires.three.1 c.requires.some y.b_is y.held_b
    c.branch_at-middle.ensures.place c.branch_at-middle.ensures.left c.branch_at-middle.ensures.right in (
      _,
      _,
      both_first m c.branch_at-middle.result.entry.place o.v c.branch_at-middle.result.left c.branch_at-middle.result.right
          (opened_three m y o) o.left_is o.right_is,
    )

pub plant-requires-2 : goal.plant-requires-2
plant-requires-2 g c =
    let m = g.P.PlaceKind.model in
    let y = c.requires.three.3 in
    let o = opened m c.args.nodes.now c.requires.three.1 c.requires.some y.b_is y.held_b
    c.branch_at-middle.ensures.place c.branch_at-middle.ensures.left c.branch_at-middle.ensures.right in
    let z = opened_three m y o in
    let f = c.plant.ensures _ _
    (both_first m c.branch_at-middle.result.entry.place o.v c.branch_at-middle.result.left c.branch_at-middle.result.right z
    o.left_is o.right_is) in (
      _,
      _,
      both_second m c.branch_at-middle.result.entry.place o.v c.branch_at-middle.result.left c.branch_at-middle.result.right z
          o.left_is o.right_is c.args.apart.low.place _ (omega arith) f,
    )

pub plant-requires-3 : goal.plant-requires-3
plant-requires-3 g c =
    let m = g.P.PlaceKind.model in
    let y = c.requires.three.3 in
    let o = opened m c.args.nodes.now c.requires.three.1 c.requires.some y.b_is y.held_b
    c.branch_at-middle.ensures.place c.branch_at-middle.ensures.left c.branch_at-middle.ensures.right in
    let z = opened_three m y o in
    let f = c.plant.ensures _ _
    (both_first m c.branch_at-middle.result.entry.place o.v c.branch_at-middle.result.left c.branch_at-middle.result.right z
    o.left_is o.right_is) in
    let h = c.plant-2.ensures _ _
    (both_second m c.branch_at-middle.result.entry.place o.v c.branch_at-middle.result.left c.branch_at-middle.result.right z
    o.left_is o.right_is c.args.apart.low.place _ (omega arith) f) in (
      _,
      _,
      two_named c.branch_at-middle.ensures.set
          (both_third m c.branch_at-middle.result.entry.place o.v c.branch_at-middle.result.left c.branch_at-middle.result.right z
          o.left_is o.right_is c.args.apart.low.place c.args.apart.high.place _ _ (omega arith) f h),
    )

pub returns : goal.returns
returns g c =
    λ ta tb tc y.
    let m = g.P.PlaceKind.model in
    let o = opened m c.args.nodes.now tb c.requires.some y.b_is y.held_b c.branch_at-middle.ensures.place
    c.branch_at-middle.ensures.left c.branch_at-middle.ensures.right in
    let z = opened_three m y o in
    let f = c.plant.ensures _ _
    (both_first m c.branch_at-middle.result.entry.place o.v c.branch_at-middle.result.left c.branch_at-middle.result.right z
    o.left_is o.right_is) in
    let h = c.plant-2.ensures _ _
    (both_second m c.branch_at-middle.result.entry.place o.v c.branch_at-middle.result.left c.branch_at-middle.result.right z
    o.left_is o.right_is c.args.apart.low.place _ (omega arith) f) in
    let i = planted m c.branch_at-middle.ensures.set c.branch_at-middle.result.entry.place c.plant-3.ensures _ _
    (both_third m c.branch_at-middle.result.entry.place o.v c.branch_at-middle.result.left c.branch_at-middle.result.right z
    o.left_is o.right_is c.args.apart.low.place c.args.apart.high.place _ _ (omega arith) f h) in
    subst (λ t. Done c.args.nodes.now c.plant-3.new.nodes c.args.apart.second
    (rotated_twice m ta c.args.apart.low.set c.args.apart.low.place t c.args.apart.high.set c.args.apart.high.place tc)) (sym o.is)
    (done_done m f (done_done m h i (λ j e. omega arith)) (λ j e. omega arith))
