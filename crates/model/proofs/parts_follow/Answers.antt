use Rattle.model.proofs.Parts.{follows, part_answers}
use Rattle.model.proofs.parts_follow.Goals as goal

pub returns : goal.returns
returns g c =
    record {
      after = follows;
      answers = λ box h l.
          part_answers box h l c.row_laws.ensures c.bucket_laws.ensures c.member_laws.ensures c.region_laws.ensures;
    }
