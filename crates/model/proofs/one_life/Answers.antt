use Rattle.model.proofs.OneLife.{one_life, extends}
use Rattle.model.proofs.one_life.Goals as goal

pub returns : goal.returns
returns g c = record { lives = one_life; extends = extends }
