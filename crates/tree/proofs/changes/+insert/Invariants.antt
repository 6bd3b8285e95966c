use Rattle.tree.specs.Slots.{at, count_of}
use Rattle.tree.proofs.changes.+insert.Given as goal

abbrev pub decreases-insert : goal.decreases-insert
decreases-insert g l = count_of (at l.nodes.now l.root)
