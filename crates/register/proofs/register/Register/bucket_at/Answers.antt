use Rattle.std.proofs.Common.{◌≡◌, Some, None, sym, refl, ap, ◌∙◌, subst, rules}
use Rattle.buckets.specs.Regions.{members}
use Rattle.buckets.specs.Rows.{rank_of}
use Rattle.tree.specs.Rows.{find}
use Rattle.register.specs.View.{row_of}
use Rattle.register.proofs.Buckets.{bucket_told, bucket_none, rank_within}
use Rattle.register.proofs.register.Register.bucket_at.Goals as goal

pub returns-in_err-ends : goal.returns-in_err-ends
returns-in_err-ends g c =
    let m = g.P.PlaceKind.model in
    let r = c.args.self.now in
    let row = row_of m r in
    let n = c.args.entry.set in
    let found : find n row ≡ Some c.args.entry.place =
    subst (λ es. find n es ≡ Some c.args.entry.place) (c.one_row.ensures.one r.order)
    ((c.one_row.ensures.row n).0 ∙ c.requires.there) in
    let none : c.ends_of.result ≡ None = search rules in
    let few = bucket_none m row n c.args.size (rank_of n row) c.requires.size
    (rank_within n row c.args.entry.place found) (sym none ∙ c.ends_of.ensures.value) in
    search rules

pub returns : goal.returns
returns g c =
    let m = g.P.PlaceKind.model in
    let r = c.args.self.now in
    let row = row_of m r in
    let n = c.args.entry.set in
    let some : c.ends_of.result ≡ Some c.in_ok-ends.ends = search rules in
    bucket_told m c.bucket_laws.ensures row n c.args.size (rank_of n row)
    c.in_ok-ends.ends c.covers-region.result refl (sym some ∙ c.ends_of.ensures.value)
    (λ x xs h. c.covers-region.ensures r.order x xs (ap (members c.in_ok-ends.ends) (c.one_row.ensures.one r.order) ∙ h))
