use Rattle.std.proofs.Common.{◌∙◌, arith}
use Rattle.tree.specs.Whole.{tree_in}
use Rattle.tree.proofs.Without.{length_row, ranked_low}
use Rattle.tree.proofs.Shape.{shape_of}
use Rattle.tree.proofs.Presence.{in_room, shape_tree_at}
use Rattle.tree.proofs.Ranks.{ranked_is}
use Rattle.tree.proofs.reading.rank_of.Goals as goal

pub returns : goal.returns
returns g c =
    let m = g.P.PlaceKind.model in
    let ns = c.args.nodes.now in
    let root = c.args.root in
    let s = c.args.entry.set in
    let p = c.args.entry.place in
    let y = shape_of ns root c.requires.shape in
    let r = in_room ns s p c.requires.there in
    let is = c.rank.ensures _ (shape_tree_at m ns root _ y (omega arith)) in
    let a = ranked_low m p s (tree_in ns root) in
    record {
      low = omega (arith, length_row (tree_in ns root));
      rank = λ o. is ∙ ranked_is m c.ahead_laws.ensures ns root s p _ y c.requires.there o;
    }

pub rank-requires : goal.rank-requires
rank-requires g c =
    let ns = c.args.nodes.now in
    let root = c.args.root in
    let r = in_room ns c.args.entry.set _ c.requires.there in
    (_, shape_tree_at g.P.PlaceKind.model ns root _ (shape_of ns root c.requires.shape) (omega arith))
