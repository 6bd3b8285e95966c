use Rattle.model.proofs.AskerHidden.{asker_hidden}
use Rattle.model.proofs.asker_hidden.Goals as goal

pub returns : goal.returns
returns g c box = asker_hidden box c.row_laws.ensures c.bucket_laws.ensures c.member_laws.ensures
