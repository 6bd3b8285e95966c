use Rattle.tree.specs.Slots.{at, count_of}
use Rattle.tree.proofs.changes.+remove.Given as goal

abbrev pub decreases-remove : goal.decreases-remove
decreases-remove g l = count_of (at l.nodes.now l.root)
