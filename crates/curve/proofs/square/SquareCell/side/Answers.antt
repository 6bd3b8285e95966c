use Rattle.std.proofs.Common.{arith, pow_mono, ◌≤◌, ◌^◌}
use Rattle.curve.proofs.square.SquareCell.side.Goals as goal

pub returns-clause-bound : goal.returns-clause-bound
returns-clause-bound c = let b : 2 ^ c.args.self.order ≤ 4096 = pow_mono c.args.self.known in grind arith
