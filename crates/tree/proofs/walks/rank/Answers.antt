use Rattle.std.proofs.Common.{sym, arith}
use Rattle.tree.proofs.Removal.{tree_open}
use Rattle.tree.proofs.Loops.{rank_end, rank_found, rank_step_left, rank_step_right}
use Rattle.tree.proofs.Named.{stands_named}
use Rattle.tree.proofs.walks.rank.Goals as goal

pub returns-then-entry-slot : goal.returns-then-entry-slot
returns-then-entry-slot g c = λ t y.
    let m = g.P.PlaceKind.model in
    let w = c.loop-slot.invariant t y in
    let o = tree_open m w.held (omega arith) c.branch_at-here.ensures.place c.branch_at-here.ensures.left
    c.branch_at-here.ensures.right in
    rank_found m c.args.entry.place c.args.entry.set w o c.count_at-lower.ensures c.if-entry-slot.true

pub loop-slot-preserved-then-stands_ahead : goal.loop-slot-preserved-then-stands_ahead
loop-slot-preserved-then-stands_ahead g c = λ t y.
    let m = g.P.PlaceKind.model in
    let w = c.loop-slot.invariant t y in
    let o = tree_open m w.held (omega arith) c.branch_at-here.ensures.place c.branch_at-here.ensures.left
    c.branch_at-here.ensures.right in
    rank_step_left m c.args.entry.place c.args.entry.set w o c.count_at-lower.ensures c.if-entry-slot.false
    (sym (stands_named m c.branch_at-here.ensures.set c.args.entry c.branch_at-here.result.entry.place _ c.if-stands_ahead.ensures))

pub loop-slot-preserved : goal.loop-slot-preserved
loop-slot-preserved g c = λ t y.
    let m = g.P.PlaceKind.model in
    let w = c.loop-slot.invariant t y in
    let o = tree_open m w.held (omega arith) c.branch_at-here.ensures.place c.branch_at-here.ensures.left
    c.branch_at-here.ensures.right in
    rank_step_right m c.args.entry.place c.args.entry.set w o c.count_at-lower.ensures c.if-entry-slot.false
    (sym (stands_named m c.branch_at-here.ensures.set c.args.entry c.branch_at-here.result.entry.place _ c.if-stands_ahead.ensures))

pub returns : goal.returns
returns g c =
    λ t y. rank_end g.P.PlaceKind.model c.args.entry.place c.args.entry.set (c.loop-slot.invariant t y) (omega arith)
