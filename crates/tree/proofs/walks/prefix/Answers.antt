use Rattle.std.proofs.Common.{ap, ◌∙◌, arith}
use Rattle.tree.proofs.Removal.{tree_open}
use Rattle.tree.proofs.Descent.{left_in}
use Rattle.tree.proofs.Loops.{prefix_end, prefix_step_left, prefix_step_right}
use Rattle.tree.proofs.walks.prefix.Goals as goal

pub loop-slot-preserved-then-keep-lower : goal.loop-slot-preserved-then-keep-lower
loop-slot-preserved-then-keep-lower g c = λ t y.
    let m = g.P.PlaceKind.model in
    let w = c.loop-slot.invariant t y in
    let o = tree_open m w.held (omega arith) c.branch_at-here.ensures.place c.branch_at-here.ensures.left
    c.branch_at-here.ensures.right in
    prefix_step_left m g.met.P.PlaceKind.lawful w o c.count_at-lower.ensures c.if-keep-lower.true

pub joined_at-joined-requires : goal.joined_at-joined-requires
joined_at-joined-requires g c =
    let m = g.P.PlaceKind.model in
    let w = c.loop-slot.invariant _ c.requires.1 in
    let o = tree_open m w.held (omega arith) c.branch_at-here.ensures.place c.branch_at-here.ensures.left
    c.branch_at-here.ensures.right in
    left_in m w.held o

pub loop-slot-preserved : goal.loop-slot-preserved
loop-slot-preserved g c = λ t y.
    let m = g.P.PlaceKind.model in
    let w = c.loop-slot.invariant t y in
    let o = tree_open m w.held (omega arith) c.branch_at-here.ensures.place c.branch_at-here.ensures.left
    c.branch_at-here.ensures.right in
    prefix_step_right m g.met.P.PlaceKind.lawful w o c.count_at-lower.ensures c.if-keep-lower.false
    (c.join-own.ensures ∙ ap (m.joined c.loop-slot.joined) c.region.ensures)
    c.joined_at-joined.ensures

pub returns : goal.returns
returns g c =
    λ t y. prefix_end g.P.PlaceKind.model g.met.P.PlaceKind.lawful (c.loop-slot.invariant t y) (omega arith)
