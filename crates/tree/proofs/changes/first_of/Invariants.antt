use Rattle.tree.specs.Slots.{at, count_of}
use Rattle.tree.proofs.Loops.{FirstWays}
use Rattle.tree.proofs.changes.first_of.Given as goal

abbrev pub invariant-loop-left : goal.invariant-loop-left
invariant-loop-left g l = FirstWays l.nodes l.root l.first l.left

abbrev pub decreases-loop-left : goal.decreases-loop-left
decreases-loop-left g l = count_of (at l.nodes l.left)
