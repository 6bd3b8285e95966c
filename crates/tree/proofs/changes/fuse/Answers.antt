use Rattle.std.proofs.Common.{◌<◌, arith}
use Rattle.tree.proofs.Removal.{head_in, fuse_even, fuse_end}
use Rattle.tree.proofs.changes.fuse.Goals as goal

pub place_at-place-requires : goal.place_at-place-requires
place_at-place-requires g c =
    let y = c.requires.2 in
    head_in g.P.PlaceKind.model c.requires.1 y.tree_r (omega arith) c.first_of-set.result
    (c.first_of-set.ensures _ y.tree_r)

pub rebalance-requires : goal.rebalance-requires
rebalance-requires g c =
    let y = c.requires.2 in (
      _,
      _,
      fuse_even g.P.PlaceKind.model c.requires.0 c.requires.1 y (omega arith) c.first_of-set.result
          (c.first_of-set.ensures _ y.tree_r) _ c.pull_first-right.result (omega arith)
          (c.pull_first-right.ensures _ y.tree_r),
    )

pub returns : goal.returns
returns g c = λ l r y.
    let m = g.P.PlaceKind.model in
    let pos : 0 < c.args.right = omega arith in
    let is = c.first_of-set.ensures _ y.tree_r in
    let f = c.pull_first-right.ensures _ y.tree_r in
    fuse_end m l r y pos c.first_of-set.result c.place_at-place.result is c.place_at-place.ensures f
    (c.rebalance.ensures _ _
    (fuse_even m l r y pos c.first_of-set.result is _ c.pull_first-right.result (omega arith) f))
