use Rattle.std.proofs.Common.{List, Option, ap, ◌∙◌}
use Rattle.cjc_fixpoint.specs.Walks.{Walking}
use Rattle.cjc_intervals.specs.Frames.{RangeState}
use Rattle.cjc_flow.proofs.Answering.{walk_stands, walk_rows}
use Rattle.cjc_flow.proofs.ranging.Ranging.walk.Goals as goal

pub new-requires : goal.new-requires
new-requires c =
    let of = c.requires in
    walk_stands c.self.invariant.classes c.self.inside.method c.self.inside.types.now c.self.invariant.typed
    c.self.inside.values c.args.self.now c.self.view_is c.places.result c.places.ensures c.args.table.now.marks
    c.args.table.now.rows of.0 of.1 of.2 of.3

pub returns : goal.returns
returns c = λ constant numbers values.
    let of = c.requires in
    let stands = walk_stands c.self.invariant.classes c.self.inside.method c.self.inside.types.now
    c.self.invariant.typed c.self.inside.values c.args.self.now c.self.view_is c.places.result c.places.ensures
    c.args.table.now.marks c.args.table.now.rows of.0 of.1 of.2 of.3 in
    let make : List (Option RangeState) → Walking RangeState = λ rows. record { at = 0; rows = rows } in
    c.new.ensures ∙ ap make (walk_rows c.self.invariant.classes c.self.inside.method c.self.inside.types.now
    c.self.invariant.typed c.self.inside.values c.args.self.now c.self.view_is c.places.result c.places.ensures
    c.args.table.now.marks c.args.table.now.rows stands constant numbers values)
