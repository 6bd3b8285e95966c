use Rattle.tree.specs.Slots.{at, count_of}
use Rattle.tree.proofs.Loops.{RankWays}
use Rattle.tree.proofs.walks.rank.Given as goal

abbrev pub invariant-loop-slot : goal.invariant-loop-slot
invariant-loop-slot g l = RankWays g.P.PlaceKind.model l.entry.place l.entry.set l.nodes l.root l.slot l.before

abbrev pub decreases-loop-slot : goal.decreases-loop-slot
decreases-loop-slot g l = count_of (at l.nodes l.slot)
