use Rattle.std.proofs.Common.{Some, sym, ◌∙◌, subst}
use Rattle.model.specs.Events.{enter, entered}
use Rattle.model.specs.Parts.{OnRegister}
use Rattle.calls.proofs.OnRegister.{goes_on, enter_same}
use Rattle.calls.proofs.registering.enter.Goals as goal

pub returns-clause-lives : goal.returns-clause-lives
returns-clause-lives g c q w room box h a =
    let n = c.args.set in
    let p = c.args.place in
    let old = c.args.register.now in
    let right = c.enter.ensures.answer ∙ enter_same box h old q w room n p a in
    let on : OnRegister box h (enter n p) (entered n p) n (Some p) c.enter.result =
    subst (OnRegister box h (enter n p) (entered n p) n (Some p)) (sym right)
    ((c.parts_follow.ensures.answers box h a.life).at_enter n p) in
    let agrees = goes_on box h (enter n p) (entered n p) n (Some p) c.enter.result old c.enter.new.self q w room a
    (c.one_life.ensures.extends box h (enter n p)) on c.enter.ensures.after c.enter.ensures.kept in
    (agrees, c.laws_at_each_point.ensures box _ agrees.life)
