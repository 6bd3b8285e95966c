use Rattle.std.proofs.Common.{◌<◌, ◌≤◌, min, length, arith}
use native.Mathlib.Decide.{dec_le}
use Rattle.tree.proofs.Shape.{shape_made}
use Rattle.tree.proofs.Clearing.{cleared_more, clear_shape, clear_view, clear_order, both_empty}
use Rattle.tree.proofs.writing.clear_all.Goals as goal

pub loop-slot-preserved : goal.loop-slot-preserved
loop-slot-preserved g c =
    let l : c.loop-slot.slot < length c.loop-slot.nodes = omega arith in
    cleared_more c.args.nodes.now c.loop-slot.nodes c.clear.new.nodes c.loop-slot.slot (omega arith)
    l c.loop-slot.invariant c.clear.ensures

pub returns : goal.returns
returns g c =
    let far : min (length c.loop-slot.nodes) 4096 ≤ c.loop-slot.slot = omega arith in
    let near : 1 ≤ c.limit-end.result → c.loop-slot.slot ≤ c.limit-end.result = c.loop-slot.auto.slot-end in
    record {
      shape = shape_made c.loop-slot.nodes 0 _ (clear_shape c.loop-slot.invariant far);
      view = clear_view c.loop-slot.invariant far;
      others = λ j h. elim (dec_le 1 c.limit-end.result) [
        | yes a ↦ c.loop-slot.invariant.same j (λ p. omega (arith, h p, near a))
        | no a ↦ both_empty
            c.loop-slot.nodes c.args.nodes.now j (omega arith) (omega arith)
      ];
      order = clear_order c.loop-slot.invariant far g.P.PlaceKind.model;
    }
