use Rattle.std.proofs.Common.{◌≡◌, ◌<◌, length, sym, ap, ◌∙◌, subst, arith}
use Rattle.tree.specs.Slots.{idle}
use Rattle.tree.specs.Tree.{size}
use Rattle.tree.specs.Shapes.{shrunk}
use Rattle.tree.specs.Whole.{tree_in, ShapeAt}
use Rattle.std.specs.List.{slice_get}
use Rattle.tree.proofs.Held.{root_in, count_is}
use Rattle.tree.proofs.Shape.{shape_of, shape_made}
use Rattle.tree.proofs.Presence.{shape_tree_at, nowhere, in_room}
use Rattle.tree.proofs.Leaving.{shape_stays, shape_went, was, others_stay, others_went, found, view_went, order_went}
use Rattle.tree.proofs.writing.leave.Goals as goal

pub count_at-many-requires : goal.count_at-many-requires
count_at-many-requires g c =
    let ns = c.args.nodes.now in
    let y = shape_of ns c.args.root c.requires.shape in
    let r = in_room ns c.args.entry.set c.args.entry.place c.requires.there in
    root_in ns c.args.root _ y.root_is (omega arith) y.held

pub remove-rest-requires : goal.remove-rest-requires
remove-rest-requires g c =
    let ns = c.args.nodes.now in
    let r = in_room ns c.args.entry.set c.args.entry.place c.requires.there in (
      _,
      shape_tree_at g.P.PlaceKind.model ns c.args.root _ (shape_of ns c.args.root c.requires.shape)
          (omega arith),
    )

pub count_at-requires : goal.count_at-requires
count_at-requires g c =
    let m = g.P.PlaceKind.model in
    let ns = c.args.nodes.now in
    let r = in_room ns c.args.entry.set c.args.entry.place c.requires.there in
    let pos : 0 < length ns = omega arith in
    let d = c.remove-rest.ensures _
    (shape_tree_at m ns c.args.root _ (shape_of ns c.args.root c.requires.shape) pos) in
    root_in c.remove-rest.new.nodes c.remove-rest.result _ d.root (omega arith) d.held

pub returns-then-count_at-many : goal.returns-then-count_at-many
returns-then-count_at-many g c =
    let m = g.P.PlaceKind.model in
    let ns = c.args.nodes.now in
    let ms = c.remove-rest.new.nodes in
    let end = c.clear.new.nodes in
    let root = c.args.root in
    let res = c.remove-rest.result in
    let r = in_room ns c.args.entry.set c.args.entry.place c.requires.there in
    let pos : 0 < length ns = omega arith in
    let y = shape_of ns root c.requires.shape in
    let d = c.remove-rest.ensures _ (shape_tree_at m ns root _ y pos) in
    let a = count_is ns root c.count_at-many.result (tree_in ns root) y.root_is c.count_at-many.ensures
    y.held in
    let b = count_is ms res c.count_at.result (shrunk m c.args.entry.place c.args.entry.set (tree_in ns root)) d.root
    c.count_at.ensures d.held in
    let ne : size (shrunk m c.args.entry.place c.args.entry.set (tree_in ns root)) ≡ size (tree_in ns root) → ⊥ = λ e.
    c.if-count_at-many.true (b ∙ e ∙ sym a) in
    let w = was m c.args.entry.set c.args.entry.place y c.requires.there d ne in
    let is = c.clear.ensures w.0 w.1 in
    let z = subst (λ n. ShapeAt n res (shrunk m c.args.entry.place c.args.entry.set (tree_in ns root))) (sym is)
    (shape_went m c.args.entry.set c.args.entry.place y c.requires.there d ne) in
    record {
      shape = shape_made end res _ z;
      view = λ ord. view_went m c.args.entry.set c.args.entry.place y c.requires.there d c.ahead_laws.ensures ord end z;
      others = λ j none. ap (λ n. slice_get n j) is
          ∙ others_went m c.args.entry.set c.args.entry.place y c.requires.there d (idle w.0) j (nowhere ns j none);
      order = λ ord. order_went m c.args.entry.set c.args.entry.place y c.requires.there d c.ahead_laws.ensures ord end
          z;
    }

pub returns-else-count_at-many : goal.returns-else-count_at-many
returns-else-count_at-many g c =
    let m = g.P.PlaceKind.model in
    let ns = c.args.nodes.now in
    let ms = c.remove-rest.new.nodes in
    let root = c.args.root in
    let res = c.remove-rest.result in
    let r = in_room ns c.args.entry.set c.args.entry.place c.requires.there in
    let pos : 0 < length ns = omega arith in
    let y = shape_of ns root c.requires.shape in
    let unchanged = c.if-count_at-many.false in
    let d = c.remove-rest.ensures _ (shape_tree_at m ns root _ y pos) in
    let a = count_is ns root c.count_at-many.result (tree_in ns root) y.root_is c.count_at-many.ensures
    y.held in
    let b = count_is ms res c.count_at.result (shrunk m c.args.entry.place c.args.entry.set (tree_in ns root)) d.root
    c.count_at.ensures d.held in
    let same : size (shrunk m c.args.entry.place c.args.entry.set (tree_in ns root)) ≡ size (tree_in ns root) = sym b
    ∙ unchanged ∙ a in
    let z = shape_stays m c.args.entry.set c.args.entry.place y c.requires.there d same in
    record {
      shape = shape_made ms res _ z;
      view = λ ord. absurd (found m c.args.entry.set c.args.entry.place y c.requires.there d c.ahead_laws.ensures ord
          same);
      others = λ j none. others_stay m c.args.entry.set c.args.entry.place y c.requires.there d j (nowhere ns j none);
      order = λ ord. absurd
          (found m c.args.entry.set c.args.entry.place y c.requires.there d c.ahead_laws.ensures ord same);
    }
