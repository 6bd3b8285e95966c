use Rattle.kinds.specs.Carried.{same_place}
use Rattle.kinds.proofs.plane.one_place_a_cell.Goals as goal

pub returns : goal.returns
returns c = same_place
