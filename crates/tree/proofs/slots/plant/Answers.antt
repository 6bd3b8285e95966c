use Rattle.tree.proofs.Writes.{room, planted}
use Rattle.tree.proofs.slots.plant.Goals as goal

pub link-requires : goal.link-requires
link-requires g c = room g.P.PlaceKind.model c.requires.2

pub returns : goal.returns
returns g c = λ l r y. planted g.P.PlaceKind.model _ c.args.entry.place c.link.ensures y
