use Rattle.model.proofs.Points.{regions_least}
use Rattle.model.proofs.laws_at_each_point.Goals as goal

pub returns : goal.returns
returns g c box h l =
    let least = c.region_least.ensures in
    record {
      asker_hidden = λ f k a. c.asker_hidden.ensures box h f l k a;
      regions_least = regions_least box (least.row box) (least.query box) (least.others box) h l;
      queries_kept = c.queries_kept.ensures.kept box h l;
    }
