use Rattle.std.proofs.Common.{cond, sym, arith}
use Rattle.tree.specs.Shapes.{shrunk}
use Rattle.tree.proofs.Rebalancing.{done_at}
use Rattle.tree.proofs.Shrinking.{smaller}
use Rattle.tree.proofs.Removal.{tree_open, tree_child, tree_pair, less_child, child_became, then_child, shrunk_here, shrunk_child}
use Rattle.tree.proofs.Named.{even_named, rebalanced, stands_named}
use Rattle.tree.proofs.changes.+remove.Goals as goal

pub fuse-requires : goal.fuse-requires
fuse-requires g t c =
    let m = g.P.PlaceKind.model in
    let o = tree_open m c.requires.1 (omega arith) c.branch_at-here.ensures.place c.branch_at-here.ensures.left
    c.branch_at-here.ensures.right in
    (_, _, tree_pair m c.requires.1 o)

pub returns-then-entry-root : goal.returns-then-entry-root
returns-then-entry-root g t c = λ u y.
    let m = g.P.PlaceKind.model in
    let o = tree_open m y (omega arith) c.branch_at-here.ensures.place c.branch_at-here.ensures.left
    c.branch_at-here.ensures.right in
    done_at m (shrunk_here m c.args.entry.place c.args.entry.set u o c.if-entry-root.true)
    (c.fuse.ensures _ _ (tree_pair m y o))

pub remove-shorter-requires : goal.remove-shorter-requires
remove-shorter-requires g t c κs within =
    let m = g.P.PlaceKind.model in
    let p = c.args.entry.place in
    let s = c.args.entry.set in
    let b = c.stands_ahead-goes_left.result in
    let y = c.requires.1 in
    let o = tree_open m y (omega arith) c.branch_at-here.ensures.place c.branch_at-here.ensures.left
    c.branch_at-here.ensures.right in (
      less_child m y o b c.child.ensures _ c.decreases,
      (within.0, (within.1, (_, tree_child m y o b c.child.ensures))),
    )

pub rebalance-requires : goal.rebalance-requires
rebalance-requires g t c =
    let m = g.P.PlaceKind.model in
    let p = c.args.entry.place in
    let s = c.args.entry.set in
    let b = c.stands_ahead-goes_left.result in
    let y = c.requires.1 in
    let o = tree_open m y (omega arith) c.branch_at-here.ensures.place c.branch_at-here.ensures.left
    c.branch_at-here.ensures.right in
    let z = tree_child m y o b c.child.ensures in
    let v = shrunk m p s (cond b o.d o.e) in
    let w = smaller m p s (cond b o.d o.e) z.balanced in
    let f = c.remove-shorter.ensures _ z in
    let e = child_became m y o b v _ c.remove-shorter.result c.with_child-left.ensures.left
    c.with_child-left.ensures.right w (omega arith) f in
    (_, _, even_named c.branch_at-here.ensures.set e)

pub returns : goal.returns
returns g t c = λ u y.
    let m = g.P.PlaceKind.model in
    let p = c.args.entry.place in
    let s = c.args.entry.set in
    let b = c.stands_ahead-goes_left.result in
    let o = tree_open m y (omega arith) c.branch_at-here.ensures.place c.branch_at-here.ensures.left
    c.branch_at-here.ensures.right in
    let z = tree_child m y o b c.child.ensures in
    let v = shrunk m p s (cond b o.d o.e) in
    let w = smaller m p s (cond b o.d o.e) z.balanced in
    let f = c.remove-shorter.ensures _ z in
    let e = child_became m y o b v _ c.remove-shorter.result c.with_child-left.ensures.left
    c.with_child-left.ensures.right w (omega arith) f in
    let stands = stands_named m c.branch_at-here.ensures.set c.args.entry c.branch_at-here.result.entry.place b c.stands_ahead-goes_left.ensures in
    done_at m (shrunk_child m p s u o b c.if-entry-root.false (sym stands))
    (then_child m b o.d v o.e c.args.root c.branch_at-here.result.entry.place f
    (rebalanced m c.branch_at-here.ensures.set c.branch_at-here.result.entry.place c.rebalance.ensures _ _ e))
