use Rattle.std.proofs.Common.{sym, ◌∙◌, arith}
use Rattle.tree.specs.Whole.{tree_in}
use Rattle.tree.proofs.Without.{length_row}
use Rattle.tree.proofs.Shape.{shape_of, shape_root, shape_none}
use Rattle.tree.proofs.Presence.{row_says}
use Rattle.tree.proofs.Shaped.{few, many}
use Rattle.tree.proofs.reading.count.Goals as goal

pub returns-then-root-eq0 : goal.returns-then-root-eq0
returns-then-root-eq0 g c =
    let ns = c.args.nodes.now in
    let root = c.args.root in
    let y = shape_of ns root c.requires.shape in
    let e = shape_none ns root _ y c.if-root-eq0.true in
    record { many = sym (length_row (tree_in ns root) ∙ e); most = omega arith; row = row_says ns root y }

pub count_at-requires : goal.count_at-requires
count_at-requires g c =
    let ns = c.args.nodes.now in
    let root = c.args.root in
    let a = shape_root ns root _ (shape_of ns root c.requires.shape) (omega (arith, c.if-root-eq0.false)) in
    omega arith

pub returns : goal.returns
returns g c =
    let ns = c.args.nodes.now in
    let root = c.args.root in
    let y = shape_of ns root c.requires.shape in
    let a = many ns root y c.count_at.result c.count_at.ensures in
    record { many = a; most = let b = few ns root y in omega arith; row = row_says ns root y }
