use Rattle.std.proofs.Common.{arith}
use Rattle.model.proofs.QueriesKept.{queries_kept, given_below}
use Rattle.model.proofs.queries_kept.Goals as goal

pub returns : goal.returns
returns g c = record {
  kept = λ box h l.
      let k = queries_kept box h l in
      record {
        balance = k.balance;
        own_serials = k.own_serials;
        ended = λ s. omega (arith, k.ended s);
        named = k.named;
      };
  fresh = λ box h s l i. omega (arith, given_below box h l s i);
}
