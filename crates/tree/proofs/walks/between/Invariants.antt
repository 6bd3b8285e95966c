use Rattle.tree.specs.Slots.{at, count_of}
use Rattle.tree.proofs.Loops.{RunWays}
use Rattle.tree.proofs.walks.between.Given as goal

abbrev pub invariant-loop-keep : goal.invariant-loop-keep
invariant-loop-keep g l =
    RunWays g.P.PlaceKind.model l.nodes l.root l.slot l.first l.end l.skip l.keep

abbrev pub decreases-loop-keep : goal.decreases-loop-keep
decreases-loop-keep g l = count_of (at l.nodes l.slot)
