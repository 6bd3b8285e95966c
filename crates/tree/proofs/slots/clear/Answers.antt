use Rattle.std.proofs.Common.{◌≡◌, set, Some, sym, ap, ◌∙◌}
use Rattle.tree.specs.Slots.{held_place, held_join}
use Rattle.tree.proofs.slots.clear.Goals as goal

pub returns : goal.returns
returns g c = λ x is.
    let p : Some c.place_at-place.result ≡ Some x.place = sym c.place_at-place.ensures ∙ ap held_place is in
    let q : Some c.join_at-join.result ≡ Some x.join = sym c.join_at-join.ensures ∙ ap held_join is in
    let r : c.place_at-place.result ≡ x.place = cc in
    let t : c.join_at-join.result ≡ x.join = cc in
    ap (set c.args.nodes.now c.args.slot)
    (λ i. record { place = r i; join = t i; left = 0; right = 0; count = 0; height = 0 })
