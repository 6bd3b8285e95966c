use Rattle.std.proofs.Common.{arith}
use Rattle.tree.proofs.Shape.{shape_of, shape_made}
use Rattle.tree.proofs.Presence.{nowhere}
use Rattle.tree.proofs.Entering.{shape_grow, grown_shape, view_grown, others_kept, order_grown}
use Rattle.tree.proofs.writing.enter.Goals as goal

pub insert-requires : goal.insert-requires
insert-requires g c =
    let r = c.requires.room in
    let ns = c.args.nodes.now in (
      _,
      shape_grow g.P.PlaceKind.model ns c.args.root c.args.entry.set _
          (shape_of ns c.args.root c.requires.shape) (nowhere ns c.args.entry.set c.requires.absent) r.0 r.1,
    )

pub returns : goal.returns
returns g c =
    let m = g.P.PlaceKind.model in
    let r = c.requires.room in
    let ns = c.args.nodes.now in
    let ms = c.insert.new.nodes in
    let root = c.args.root in
    let res = c.insert.result in
    let s = c.args.entry.set in
    let p = c.args.entry.place in
    let y = shape_of ns root c.requires.shape in
    let off = nowhere ns s c.requires.absent in
    let z = shape_grow m ns root s _ y off r.0 r.1 in
    let d = c.insert.ensures _ z in
    let w = grown_shape m ns ms root res s p _ y z (omega arith) d in
    record {
      shape = shape_made ms res _ w;
      view = view_grown m ns ms root res s p _ y w off;
      others = λ j none. others_kept m ns ms res _ w d j (nowhere ms j none);
      order = order_grown m c.ahead_laws.ensures ns ms root res s p _ y w off;
    }
