use Rattle.tree.proofs.Clearing.{Cleared}
use Rattle.tree.proofs.writing.clear_all.Given as goal

abbrev pub invariant-loop-slot : goal.invariant-loop-slot
invariant-loop-slot g l = Cleared l.initial.nodes l.nodes l.slot
