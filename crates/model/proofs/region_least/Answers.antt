use Rattle.std.proofs.Common.{subst, arith}
use Rattle.model.specs.Laws.{SendsLeast}
use Rattle.model.proofs.RegionLeast.{sends_least, row_holds, sends_nothing}
use Rattle.model.proofs.region_least.Goals as goal

pub returns : goal.returns
returns g c =
    let rows = c.row_laws.ensures in
    record {
      query = λ box h e q l z.
          let r = subst (λ o. SendsLeast box h e o) z
          (sends_least box rows c.bucket_laws.ensures c.member_laws.ensures c.region_laws.ensures e h l) in
          record {
            present = r.present;
            one_each = r.one_each;
            asker = r.asker;
            at_least = omega (arith, r.at_least);
            at_most = omega (arith, r.at_most);
            region = r.region;
            covers = r.covers;
            least = r.least;
            sends = r.sends;
          };
      row = λ box h l. row_holds box rows h l;
      others = λ box h e z. sends_nothing box e h z;
    }
