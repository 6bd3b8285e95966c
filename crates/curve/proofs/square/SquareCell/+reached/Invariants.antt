use Rattle.curve.proofs.square.SquareCell.+reached.Given as goal

abbrev pub decreases-reached : goal.decreases-reached
decreases-reached l = l.left
