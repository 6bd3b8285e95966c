use Rattle.std.proofs.Common.{sym, arith}
use Rattle.tree.specs.Whole.{tree_in}
use Rattle.tree.proofs.Held.{height_is}
use Rattle.tree.proofs.Balance.{low}
use Rattle.tree.proofs.Shape.{shape_of, shape_few, shape_root, shape_flat}
use Rattle.tree.proofs.reading.height.Goals as goal

pub returns-then-root-eq0-clause-value : goal.returns-then-root-eq0-clause-value
returns-then-root-eq0-clause-value g c =
    let ns = c.args.nodes.now in
    sym (shape_flat ns c.args.root _ (shape_of ns c.args.root c.requires.shape) c.if-root-eq0.true)

pub height_at-requires : goal.height_at-requires
height_at-requires g c =
    let ns = c.args.nodes.now in
    let root = c.args.root in
    let a = shape_root ns root _ (shape_of ns root c.requires.shape) (omega (arith, c.if-root-eq0.false)) in
    omega arith

pub returns : goal.returns
returns g c =
    let ns = c.args.nodes.now in
    let root = c.args.root in
    let tree = tree_in ns root in
    let y = shape_of ns root c.requires.shape in
    let a = height_is ns root c.height_at.result tree y.root_is c.height_at.ensures y.held in
    let b = low tree y.balanced (shape_few ns root _ y) in
    record { value = a; most = omega arith }
