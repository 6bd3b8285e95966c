use Rattle.std.proofs.Common.{◌≡◌, ◌+◌, ◌*◌, Some, ap, ◌∙◌, arith}
use mathlib.Core.Path.{subst⁻¹}
use Rattle.std.proofs.lemmas.Bool.{lt-ltb}
use Rattle.curve.specs.Hilbert.{cell_of}
use Rattle.curve.specs.Grid.{grid_key, AtKey}
use Rattle.curve.proofs.Orders.{curve_laws}
use Rattle.curve.proofs.square.cell_at.Goals as goal

pub returns : goal.returns
returns c =
    let k = c.args.key in
    let h = c.requires in
    let r = c.reached.result in
    let z : k * 1 + 0 ≡ k = omega arith in
    let e : r ≡ cell_of 12 k = c.reached.ensures ∙ ap (cell_of 12) z in
    let w = (curve_laws 12).cell_inside k h in
    let g : grid_key (cell_of 12 k) ≡ Some k =
    simp (lt-ltb _ 4096 w.x_below, lt-ltb _ 4096 w.y_below) (ap Some ((curve_laws 12).key_of_cell k h)) in
    record {
      value = simp (lt-ltb k 16777216 h) (ap Some e);
      back = subst⁻¹ (AtKey k) e (record { has_key = g; next_beside = (curve_laws 12).steps_beside k });
    }
