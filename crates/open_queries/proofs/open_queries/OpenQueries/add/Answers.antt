use Rattle.std.proofs.Common.{◌≡◌, ◌+◌, rules, arith}
use Rattle.open_queries.specs.Table.{next_number}
use Rattle.open_queries.specs.View.{next_of}
use Rattle.open_queries.proofs.open_queries.OpenQueries.add.Goals as goal
use Rattle.open_queries.proofs.Tables.{once_put, past_put, in_use_put, table_status_put}

pub invariant_of-self : goal.invariant_of-self
invariant_of-self c =
    let given : next_number c.args.self.now.next ≡ c.in_ok-i.serial = search rules in
    let next : next_number c.checked_add-self.result ≡ c.in_ok-i.serial + 1 = search rules in
    let fresh = c.args.self.now.past c.in_ok-i.serial (omega arith) in
    record {
      low = omega arith;
      high = omega arith;
      once = λ s. once_put c.args.self.now.entries c.in_ok-i.i _ s (search rules) fresh (c.args.self.now.once s);
      past = λ s l. past_put c.args.self.now.entries c.in_ok-i.i _ s (search rules) (omega arith) (c.args.self.now.past s (omega arith));
    }

pub returns-clause-after : goal.returns-clause-after
returns-clause-after c = λ s.
    let given : next_of c.args.self.now ≡ c.in_ok-i.serial = search rules in
    rw given (table_status_put c.args.self.now.entries c.in_ok-i.i _ s (search rules) (search rules))

pub returns-clause-count : goal.returns-clause-count
returns-clause-count c = search (rules, in_use_put)
