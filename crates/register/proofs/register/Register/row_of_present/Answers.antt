use Rattle.register.proofs.TreeRow.{tree_row}
use Rattle.register.proofs.register.Register.row_of_present.Goals as goal

pub returns : goal.returns
returns g c =
    let r = c.args.self.now in
    tree_row g.P.PlaceKind.model r c.row_laws.ensures r.order (c.one_row.ensures.one r.order)
    (λ j. (c.one_row.ensures.row j).0)
