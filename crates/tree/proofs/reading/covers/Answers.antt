use Rattle.std.proofs.Common.{◌≡◌, ◌+◌, ◌-◌, take, drop, refl, ap, ◌∙◌, arith}
use Rattle.std.proofs.lemmas.List.{drop-take}
use Rattle.tree.specs.Whole.{tree_in, row_in}
use Rattle.tree.proofs.Without.{length_row}
use Rattle.tree.proofs.Shape.{shape_of, shape_some}
use Rattle.tree.proofs.Presence.{shape_tree_at}
use Rattle.tree.proofs.Shaped.{few, many}
use Rattle.tree.proofs.reading.covers.Goals as goal

pub overflow_add-ends : goal.overflow_add-ends
overflow_add-ends g c =
    let ns = c.args.nodes.now in
    let r = c.requires.range in
    let l = few ns c.args.root (shape_of ns c.args.root c.requires.shape) in
    omega arith

pub between-requires : goal.between-requires
between-requires g c =
    let ns = c.args.nodes.now in
    let root = c.args.root in
    let y = shape_of ns root c.requires.shape in
    let l = length_row (tree_in ns root) in
    let r = c.requires.range in
    let b = many ns root y _ refl in
    record {
      treed = (_, shape_tree_at g.P.PlaceKind.model ns root _ y (shape_some ns root _ y (omega arith)));
      range = (omega arith, omega arith);
    }

pub returns : goal.returns
returns g c = λ o e es is.
    let ns = c.args.nodes.now in
    let root = c.args.root in
    let first = c.args.ends.first in
    let last = c.args.ends.last in
    let y = shape_of ns root c.requires.shape in
    let l = length_row (tree_in ns root) in
    let r = c.requires.range in
    let long : last + 1 ≡ first + (last + 1 - first) = omega arith in
    c.between.ensures _ (shape_tree_at g.P.PlaceKind.model ns root _ y (shape_some ns root _ y (omega arith)))
    o.joined e es
    (ap (λ n. drop first (take n (row_in ns root))) long ∙ drop-take first (last + 1 - first) (row_in ns root) ∙ is)
