use Rattle.std.proofs.Common.{arith}
use Rattle.tree.proofs.Held.{height_is, tall_root}
use Rattle.tree.proofs.Rebalancing.{open_left, three_left, right_is_once, done_at}
use Rattle.tree.proofs.Named.{low_named, right_turned}
use Rattle.tree.proofs.rotations.rotate_right.Goals as goal

pub rotate_twice-requires : goal.rotate_twice-requires
rotate_twice-requires g c =
    let m = g.P.PlaceKind.model in
    let y = c.requires.even.2 in
    let ns = c.args.nodes.now in
    let o = open_left m y c.requires.some.0 c.branch_at-below.ensures.place c.branch_at-below.ensures.left
    c.branch_at-below.ensures.right in
    let z = three_left m y c.requires.some o in
    let he = height_is ns c.branch_at-below.result.right c.height_at-2.result o.e z.b_is
    c.height_at-2.ensures z.held_b in
    record {
      three = (_, _, _, low_named c.branch_at-below.ensures.set z);
      some = tall_root o.e ns c.branch_at-below.result.right z.b_is z.held_b
          (omega (arith, he, c.if-height_at.true));
    }

pub rotate_once_right-requires : goal.rotate_once_right-requires
rotate_once_right-requires g c =
    let m = g.P.PlaceKind.model in
    let y = c.requires.even.2 in
    let ns = c.args.nodes.now in
    let o = open_left m y c.requires.some.0 c.branch_at-below.ensures.place c.branch_at-below.ensures.left
    c.branch_at-below.ensures.right in
    let z = three_left m y c.requires.some o in
    (_, _, _, low_named c.branch_at-below.ensures.set z)

pub returns-else-height_at : goal.returns-else-height_at
returns-else-height_at g c =
    λ l r y.
    let m = g.P.PlaceKind.model in
    let ns = c.args.nodes.now in
    let o = open_left m y c.requires.some.0 c.branch_at-below.ensures.place c.branch_at-below.ensures.left
    c.branch_at-below.ensures.right in
    let z = three_left m y c.requires.some o in
    let hd = height_is ns c.branch_at-below.result.left c.height_at.result o.d z.a_is c.height_at.ensures
    z.held_a in
    let he = height_is ns c.branch_at-below.result.right c.height_at-2.result o.e z.b_is
    c.height_at-2.ensures z.held_b in
    done_at m (right_is_once m l o c.args.entry.set c.args.entry.place r (omega (arith, hd, he, c.if-height_at.false)))
    (right_turned m c.branch_at-below.ensures.set c.branch_at-below.result.entry.place c.args.entry.place c.rotate_once_right.ensures _ _ _ z)
