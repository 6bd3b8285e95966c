use Rattle.std.proofs.Common.{◌≤◌, arith}
use Rattle.kinds.proofs.Padding.{water_padded}
use Rattle.kinds.proofs.water.before_water.Goals as goal

pub returns : goal.returns
returns g c =
    let h : g.P.PlaceKind.model.width ≤ 24 = omega arith in
    water_padded g.P.PlaceKind.model c.args.region c.requires.narrow
    (g.met.P.PlaceKind.lawful.bytes_length c.args.region.below h) c.args.bytes c.two_numbers_before.result
    c.requires.below c.two_numbers_before.ensures
