use Rattle.buckets.proofs.RegionLaws.{region_laws}
use Rattle.buckets.proofs.region_laws.Goals as goal

pub returns : goal.returns
returns g c = region_laws g.P.PlaceKind.model g.met.P.PlaceKind.lawful
