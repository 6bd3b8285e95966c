use Rattle.std.proofs.Common.{◌<◌, arith, rules}
use Rattle.tree.proofs.Held.{root_in, height_is, tall_root}
use Rattle.tree.proofs.rotations.rebalance.Goals as goal

pub height_at-high-requires : goal.height_at-high-requires
height_at-high-requires g c =
    let y = c.requires.2.two in root_in _ _ c.requires.1 y.right_is (omega arith) y.held_r

pub overflow_add-high : goal.overflow_add-high
overflow_add-high g c =
    let y = c.requires.2.two in
    let h = height_is c.args.nodes.now c.args.right c.height_at-high.result c.requires.1 y.right_is
    c.height_at-high.ensures y.held_r in
    let lt : c.height_at-high.result < 50 = omega (arith, c.requires.2.short_r) in
    search rules

pub rotate_right-requires : goal.rotate_right-requires
rotate_right-requires g c =
    let m = g.P.PlaceKind.model in
    let y = c.requires.2.two in
    let ns = c.args.nodes.now in
    let h = height_is ns c.args.left c.height_at-low.result c.requires.0 y.left_is c.height_at-low.ensures
    y.held_l in
    record {
      even = c.requires;
      some = (
        tall_root c.requires.0 ns c.args.left y.left_is y.held_l (omega (arith, c.if-low-high.true)),
        root_in ns _ c.requires.0 y.left_is (omega arith) y.held_l,
      );
    }

pub rotate_left-requires : goal.rotate_left-requires
rotate_left-requires g c =
    let m = g.P.PlaceKind.model in
    let y = c.requires.2.two in
    let ns = c.args.nodes.now in
    let h = height_is ns c.args.right c.height_at-high.result c.requires.1 y.right_is
    c.height_at-high.ensures y.held_r in
    record {
      even = c.requires;
      some = (
        tall_root c.requires.1 ns c.args.right y.right_is y.held_r (omega (arith, c.if-high-low.true)),
        root_in ns _ c.requires.1 y.right_is (omega arith) y.held_r,
      );
    }
