use Rattle.buckets.proofs.MemberLaws.{member_laws}
use Rattle.buckets.proofs.member_laws.Goals as goal

pub returns : goal.returns
returns g c = member_laws
