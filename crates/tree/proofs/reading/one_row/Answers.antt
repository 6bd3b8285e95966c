use Rattle.tree.proofs.Presence.{row_says}
use Rattle.tree.proofs.Shape.{shape_of}
use Rattle.tree.proofs.TheRow.{the_row}
use Rattle.tree.proofs.reading.one_row.Goals as goal

pub returns : goal.returns
returns g c =
    let ns = c.args.nodes.now in
    let root = c.args.root in
    let y = shape_of ns root c.requires.shape in
    record {
      row = row_says ns root y;
      one = λ o. the_row g.P.PlaceKind.model ns root _ y o c.row_laws.ensures;
    }
