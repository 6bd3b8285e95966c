use Rattle.std.proofs.Common.{arith}
use Rattle.curve.proofs.Orders.{fewer_digits, reached_now, reached_next}
use Rattle.curve.proofs.square.SquareCell.+reached.Goals as goal

pub reached-requires : goal.reached-requires
reached-requires t c =
    (omega arith, (omega arith, fewer_digits _ _ c.if-left-eq0.false c.requires.1))

pub returns : goal.returns
returns t c =
    reached_next _ _ _ _ _ _ _ c.if-left-eq0.false c.outer.ensures.order c.args.self.inside c.outer.ensures.cell c.reached.ensures

pub returns-then-left-eq0 : goal.returns-then-left-eq0
returns-then-left-eq0 t c = reached_now _ _ _ _ c.if-left-eq0.true c.requires.1 c.args.self.inside
