use Rattle.std.proofs.Common.{ap, ◌∙◌, arith}
use Rattle.tree.proofs.Removal.{tree_open}
use Rattle.tree.proofs.Descent.{right_in}
use Rattle.tree.proofs.Loops.{suffix_end, suffix_step_left, suffix_step_right}
use Rattle.tree.proofs.walks.suffix.Goals as goal

pub loop-slot-preserved-then-skip-lower : goal.loop-slot-preserved-then-skip-lower
loop-slot-preserved-then-skip-lower g c = λ t y.
    let m = g.P.PlaceKind.model in
    let w = c.loop-slot.invariant t y in
    let o = tree_open m w.held (omega arith) c.branch_at-here.ensures.place c.branch_at-here.ensures.left
    c.branch_at-here.ensures.right in
    suffix_step_right m g.met.P.PlaceKind.lawful w o c.count_at-lower.ensures c.if-skip-lower.true

pub joined_at-joined-requires : goal.joined_at-joined-requires
joined_at-joined-requires g c =
    let m = g.P.PlaceKind.model in
    let w = c.loop-slot.invariant _ c.requires.1 in
    let o = tree_open m w.held (omega arith) c.branch_at-here.ensures.place c.branch_at-here.ensures.left
    c.branch_at-here.ensures.right in
    right_in m w.held o

pub loop-slot-preserved : goal.loop-slot-preserved
loop-slot-preserved g c = λ t y.
    let m = g.P.PlaceKind.model in
    let w = c.loop-slot.invariant t y in
    let o = tree_open m w.held (omega arith) c.branch_at-here.ensures.place c.branch_at-here.ensures.left
    c.branch_at-here.ensures.right in
    suffix_step_left m g.met.P.PlaceKind.lawful w o c.count_at-lower.ensures c.if-skip-lower.false
    (c.join-own.ensures ∙ ap (m.joined c.loop-slot.joined) c.region.ensures)
    c.joined_at-joined.ensures

pub returns : goal.returns
returns g c =
    λ t y. suffix_end g.P.PlaceKind.model g.met.P.PlaceKind.lawful (c.loop-slot.invariant t y) (omega arith)
