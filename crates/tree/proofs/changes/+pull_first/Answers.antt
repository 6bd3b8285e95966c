use Rattle.std.proofs.Common.{arith}
use Rattle.tree.specs.Shapes.{pulled}
use Rattle.tree.proofs.Rebalancing.{done_at}
use Rattle.tree.proofs.Removal.{tree_open, tree_left, less_left, left_became, then_left, pulled_is, smaller_pulled}
use Rattle.tree.proofs.Named.{even_named, rebalanced}
use Rattle.tree.proofs.changes.+pull_first.Goals as goal

pub pull_first-left-requires : goal.pull_first-left-requires
pull_first-left-requires g t c κs within =
    let m = g.P.PlaceKind.model in
    let y = c.requires.treed.1 in
    let o = tree_open m y c.requires.some c.branch_at-here.ensures.place c.branch_at-here.ensures.left
    c.branch_at-here.ensures.right in
    (less_left m y o _ c.decreases, (within.0, (within.1, ((o.d, tree_left m y o), omega arith))))

pub rebalance-requires : goal.rebalance-requires
rebalance-requires g t c =
    let m = g.P.PlaceKind.model in
    let y = c.requires.treed.1 in
    let o = tree_open m y c.requires.some c.branch_at-here.ensures.place c.branch_at-here.ensures.left
    c.branch_at-here.ensures.right in
    let w = smaller_pulled m o.d (tree_left m y o).balanced in (
      _,
      _,
      even_named c.branch_at-here.ensures.set
          (left_became m y o (pulled m o.d) _ c.pull_first-left.result w (omega arith)
          (c.pull_first-left.ensures _ (tree_left m y o))),
    )

pub returns : goal.returns
returns g t c = λ u y.
    let m = g.P.PlaceKind.model in
    let o = tree_open m y c.requires.some c.branch_at-here.ensures.place c.branch_at-here.ensures.left
    c.branch_at-here.ensures.right in
    let w = smaller_pulled m o.d (tree_left m y o).balanced in
    let f = c.pull_first-left.ensures _ (tree_left m y o) in
    let e = left_became m y o (pulled m o.d) _ c.pull_first-left.result w (omega arith) f in
    done_at m (pulled_is m y o c.if-here-eq0.false)
    (then_left m (pulled m o.d) o.e c.args.root c.branch_at-here.result.entry.place f
    (rebalanced m c.branch_at-here.ensures.set c.branch_at-here.result.entry.place c.rebalance.ensures _ _ e))
