use Rattle.curve.proofs.Orders.{key_found}
use Rattle.curve.proofs.square.+key_at.Goals as goal

pub returns : goal.returns
returns t c =
    let split = c.split-digit.ensures in
    let k =
    key_found _ _ _ _ _ _ _ c.requires.1 split.order c.side-side.ensures.value split.digit.0 split.inner
    c.key_at.ensures.value in
    record { value = k.value; below = k.below; back = k.back }
