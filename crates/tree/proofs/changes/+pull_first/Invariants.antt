use Rattle.tree.specs.Slots.{at, count_of}
use Rattle.tree.proofs.changes.+pull_first.Given as goal

abbrev pub decreases-pull_first : goal.decreases-pull_first
decreases-pull_first g l = count_of (at l.nodes.now l.root)
