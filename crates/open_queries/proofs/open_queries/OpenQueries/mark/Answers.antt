use Rattle.std.proofs.Common.{◌≡◌, rules, arith, refl}
use Rattle.open_queries.proofs.open_queries.OpenQueries.mark.Goals as goal
use Rattle.open_queries.proofs.Tables.{turned, Found, found_in, turns, no_stage_absent, no_stage_at, none_unless, same_unless}

pub returns-in_err-i : goal.returns-in_err-i
returns-in_err-i c = search (rules, no_stage_absent, none_unless, same_unless)

pub returns-in_err-entry : goal.returns-in_err-entry
returns-in_err-entry c =
    let p = no_stage_at c.args.self.now.entries c.in_ok-i.i c.args.serial c.args.from (search rules) (search rules) (λ e a s. grind arith) in
    search (rules, none_unless, same_unless)

pub invariant_of-self : goal.invariant_of-self
invariant_of-self c =
    let t : c.map.result ≡ turned c.in_ok-entry.entry c.args.to = search rules in
    let f : Found c.args.self.now.entries c.in_ok-i.i c.args.serial c.args.from c.in_ok-entry.entry = found_in (search rules) (search rules) (search rules) (search rules) in
    let h = turns _ _ _ _ _ _ f _ t in
    record {
      low = c.args.self.now.low;
      high = c.args.self.now.high;
      once = λ s. omega (arith, h.fewer s, c.args.self.now.once s);
      past = λ s l. omega (arith, h.fewer s, c.args.self.now.past s l);
    }

pub returns : goal.returns
returns c =
    let t : c.map.result ≡ turned c.in_ok-entry.entry c.args.to = search rules in
    let f : Found c.args.self.now.entries c.in_ok-i.i c.args.serial c.args.from c.in_ok-entry.entry = found_in (search rules) (search rules) (search rules) (c.args.self.now.once _) in
    let h = turns _ _ _ _ _ _ f _ t in
    record { answer = h.answers; after = h.statuses; count = h.stand; next = refl; refused = search rules }
