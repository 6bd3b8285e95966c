use Rattle.std.proofs.Common.{sym, arith}
use Rattle.tree.proofs.Rebalancing.{grow_open, grow_child, fewer_child, after_child, end_child}
use Rattle.tree.proofs.Named.{even_named, rebalanced, stands_named}
use Rattle.tree.proofs.changes.+insert.Goals as goal

pub insert-longer-requires : goal.insert-longer-requires
insert-longer-requires g t c κs within =
    let m = g.P.PlaceKind.model in
    let p = c.args.entry.place in
    let b = c.stands_ahead-goes_left.result in
    let y = c.requires.1 in
    let o = grow_open m p y c.if-root-eq0.false c.branch_at-here.ensures.place c.branch_at-here.ensures.left
    c.branch_at-here.ensures.right in (
      fewer_child m p y o b c.child.ensures _ c.decreases,
      (within.0, (within.1, (_, grow_child m p y o b c.child.ensures))),
    )

pub rebalance-requires : goal.rebalance-requires
rebalance-requires g t c =
    let m = g.P.PlaceKind.model in
    let p = c.args.entry.place in
    let b = c.stands_ahead-goes_left.result in
    let y = c.requires.1 in
    let o = grow_open m p y c.if-root-eq0.false c.branch_at-here.ensures.place c.branch_at-here.ensures.left
    c.branch_at-here.ensures.right in
    let f = c.insert-longer.ensures _ (grow_child m p y o b c.child.ensures) in (
      _,
      _,
      even_named c.branch_at-here.ensures.set
          (after_child m p y o b _ c.insert-longer.result c.with_child-left.ensures.left
          c.with_child-left.ensures.right (omega arith) f),
    )

pub returns : goal.returns
returns g t c = λ u y.
    let m = g.P.PlaceKind.model in
    let p = c.args.entry.place in
    let b = c.stands_ahead-goes_left.result in
    let o = grow_open m p y c.if-root-eq0.false c.branch_at-here.ensures.place c.branch_at-here.ensures.left
    c.branch_at-here.ensures.right in
    let f = c.insert-longer.ensures _ (grow_child m p y o b c.child.ensures) in
    let stands = stands_named m c.branch_at-here.ensures.set c.args.entry c.branch_at-here.result.entry.place b c.stands_ahead-goes_left.ensures in
    end_child m p y o b (sym stands) f
    (rebalanced m c.branch_at-here.ensures.set c.branch_at-here.result.entry.place c.rebalance.ensures _ _
    (after_child m p y o b _ c.insert-longer.result c.with_child-left.ensures.left c.with_child-left.ensures.right
    (omega arith) f))
