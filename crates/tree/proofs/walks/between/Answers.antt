use Rattle.std.proofs.Common.{sym, ◌∙◌, arith}
use Rattle.tree.proofs.Removal.{tree_open, tree_left, tree_right}
use Rattle.tree.proofs.Descent.{joined_left, joined_right, between_mid}
use Rattle.tree.proofs.Loops.{run_root, run_step_left, run_step_right}
use Rattle.tree.proofs.walks.between.Goals as goal

pub loop-keep-preserved-then-keep-lower : goal.loop-keep-preserved-then-keep-lower
loop-keep-preserved-then-keep-lower g c =
    let m = g.P.PlaceKind.model in
    let w = c.loop-keep.invariant in
    let laws = g.met.P.PlaceKind.lawful in
    run_step_left m laws w
    (λ t y. tree_open m (w.way t y).held (run_root m laws w y) c.branch_at-here.ensures.place
    c.branch_at-here.ensures.left c.branch_at-here.ensures.right) c.count_at-lower.ensures c.if-keep-lower.true

pub loop-keep-preserved : goal.loop-keep-preserved
loop-keep-preserved g c =
    let m = g.P.PlaceKind.model in
    let w = c.loop-keep.invariant in
    let laws = g.met.P.PlaceKind.lawful in
    run_step_right m laws w
    (λ t y. tree_open m (w.way t y).held (run_root m laws w y) c.branch_at-here.ensures.place
    c.branch_at-here.ensures.left c.branch_at-here.ensures.right) c.count_at-lower.ensures c.requires.treed.1
    c.if-skip-lower.true

pub suffix-low-requires : goal.suffix-low-requires
suffix-low-requires g c =
    let m = g.P.PlaceKind.model in
    let w = c.loop-keep.invariant in
    let laws = g.met.P.PlaceKind.lawful in
    let y = c.requires.treed.1 in
    let v = w.way _ y in
    let o = tree_open m v.held (run_root m laws w y) c.branch_at-here.ensures.place c.branch_at-here.ensures.left
    c.branch_at-here.ensures.right in
    (o.d, tree_left m v.held o)

pub prefix-requires : goal.prefix-requires
prefix-requires g c =
    let m = g.P.PlaceKind.model in
    let w = c.loop-keep.invariant in
    let laws = g.met.P.PlaceKind.lawful in
    let y = c.requires.treed.1 in
    let v = w.way _ y in
    let o = tree_open m v.held (run_root m laws w y) c.branch_at-here.ensures.place c.branch_at-here.ensures.left
    c.branch_at-here.ensures.right in
    (o.e, tree_right m v.held o)

pub returns-else-skip-lower : goal.returns-else-skip-lower
returns-else-skip-lower g c = λ t y h e es parts.
    let m = g.P.PlaceKind.model in
    let w = c.loop-keep.invariant in
    let laws = g.met.P.PlaceKind.lawful in
    let v = w.way t y in
    let o = tree_open m v.held (run_root m laws w y) c.branch_at-here.ensures.place c.branch_at-here.ensures.left
    c.branch_at-here.ensures.right in
    between_mid m v.held o laws c.count_at-lower.result c.loop-keep.skip c.loop-keep.keep
    c.region.result c.suffix-low.result _ e es c.count_at-lower.ensures c.if-skip-lower.false
    (omega (arith, c.if-keep-lower.false)) c.region.ensures
    (c.suffix-low.ensures _ (tree_left m v.held o) (joined_left m v.held o (v.joined h)))
    (c.prefix.ensures _ (tree_right m v.held o) (joined_right m v.held o (v.joined h)))
    (sym v.same ∙ parts)
