use Rattle.std.proofs.Common.{arith}
use Rattle.tree.proofs.Held.{root_in, height_is, tall_root}
use Rattle.tree.proofs.Rebalancing.{open_right, three_right, left_is_both, left_is_once, done_at}
use Rattle.tree.proofs.Named.{high_named, high_turned, left_turned}
use Rattle.tree.proofs.rotations.rotate_left.Goals as goal

pub height_at-requires : goal.height_at-requires
height_at-requires g c =
    let m = g.P.PlaceKind.model in
    let y = c.requires.even.2 in
    let ns = c.args.nodes.now in
    let o = open_right m y c.requires.some.0 c.branch_at-below.ensures.place c.branch_at-below.ensures.left
    c.branch_at-below.ensures.right in
    let z = three_right m y c.requires.some o in
    root_in ns _ o.e z.c_is (omega arith) z.held_c

pub height_at-requires-2 : goal.height_at-requires-2
height_at-requires-2 g c =
    let m = g.P.PlaceKind.model in
    let y = c.requires.even.2 in
    let ns = c.args.nodes.now in
    let o = open_right m y c.requires.some.0 c.branch_at-below.ensures.place c.branch_at-below.ensures.left
    c.branch_at-below.ensures.right in
    let z = three_right m y c.requires.some o in
    root_in ns _ o.d z.b_is (omega arith) z.held_b

pub rotate_twice-requires : goal.rotate_twice-requires
rotate_twice-requires g c =
    let m = g.P.PlaceKind.model in
    let y = c.requires.even.2 in
    let ns = c.args.nodes.now in
    let o = open_right m y c.requires.some.0 c.branch_at-below.ensures.place c.branch_at-below.ensures.left
    c.branch_at-below.ensures.right in
    let z = three_right m y c.requires.some o in
    let he = height_is ns c.branch_at-below.result.left c.height_at-2.result o.d z.b_is c.height_at-2.ensures
    z.held_b in
    record {
      three = (_, _, _, high_named c.branch_at-below.ensures.set z);
      some = tall_root o.d ns c.branch_at-below.result.left z.b_is z.held_b
          (omega (arith, he, c.if-height_at.true));
    }

pub rotate_once_left-requires : goal.rotate_once_left-requires
rotate_once_left-requires g c =
    let m = g.P.PlaceKind.model in
    let y = c.requires.even.2 in
    let ns = c.args.nodes.now in
    let o = open_right m y c.requires.some.0 c.branch_at-below.ensures.place c.branch_at-below.ensures.left
    c.branch_at-below.ensures.right in
    let z = three_right m y c.requires.some o in
    (_, _, _, high_named c.branch_at-below.ensures.set z)

pub returns-then-height_at : goal.returns-then-height_at
returns-then-height_at g c =
    λ l r y.
    let m = g.P.PlaceKind.model in
    let ns = c.args.nodes.now in
    let o = open_right m y c.requires.some.0 c.branch_at-below.ensures.place c.branch_at-below.ensures.left
    c.branch_at-below.ensures.right in
    let z = three_right m y c.requires.some o in
    let hd = height_is ns c.branch_at-below.result.right c.height_at.result o.e z.c_is c.height_at.ensures
    z.held_c in
    let he = height_is ns c.branch_at-below.result.left c.height_at-2.result o.d z.b_is c.height_at-2.ensures
    z.held_b in
    done_at m (left_is_both m r o l c.args.entry.set c.args.entry.place (omega (arith, hd, he, c.if-height_at.true)))
    (high_turned m c.branch_at-below.ensures.set c.branch_at-below.result.entry.place c.args.entry.place c.rotate_twice.ensures _ _ _ z)

pub returns-else-height_at : goal.returns-else-height_at
returns-else-height_at g c =
    λ l r y.
    let m = g.P.PlaceKind.model in
    let ns = c.args.nodes.now in
    let o = open_right m y c.requires.some.0 c.branch_at-below.ensures.place c.branch_at-below.ensures.left
    c.branch_at-below.ensures.right in
    let z = three_right m y c.requires.some o in
    let hd = height_is ns c.branch_at-below.result.right c.height_at.result o.e z.c_is c.height_at.ensures
    z.held_c in
    let he = height_is ns c.branch_at-below.result.left c.height_at-2.result o.d z.b_is c.height_at-2.ensures
    z.held_b in
    done_at m (left_is_once m r o l c.args.entry.set c.args.entry.place (omega (arith, hd, he, c.if-height_at.false)))
    (left_turned m c.branch_at-below.ensures.set c.branch_at-below.result.entry.place c.args.entry.place c.rotate_once_left.ensures _ _ _ z)
