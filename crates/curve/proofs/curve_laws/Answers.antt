use Rattle.curve.proofs.Orders.{curve_laws}
use Rattle.curve.proofs.curve_laws.Goals as goal

pub returns : goal.returns
returns c = curve_laws
