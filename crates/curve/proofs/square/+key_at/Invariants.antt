use Rattle.curve.proofs.square.+key_at.Given as goal

abbrev pub decreases-key_at : goal.decreases-key_at
decreases-key_at l = l.order
