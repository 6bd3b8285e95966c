use Rattle.buckets.proofs.EndsLaws.{ends_laws}
use Rattle.buckets.proofs.bucket_laws.Goals as goal

pub returns : goal.returns
returns c = ends_laws
