use Rattle.std.proofs.Common.{◌≡◌, ◌∷◌, ◌++◌, ◌+◌, [], take, sym, ap, subst, ◌∙◌}
use Rattle.std.specs.Prelude.{option_map}
use Rattle.cjc_world.specs.Working.Known.{class_of}
use Rattle.cjc_world.specs.Working.Members.{AreIndices}
use Rattle.cjc_world.specs.Working.Spots.{stood}
use Rattle.cjc_world.proofs.Called.{indices-grow, indices-kept, spot-counted}
use Rattle.cjc_world.proofs.members.indices_of.Goals as goal
use Rattle.cjc_world.proofs.members.indices_of.Goals.{in-Some+in_ok-index_of+in_ok-push, in_default}

pub loop-spot-init : goal.loop-spot-init
unfolding AreIndices
loop-spot-init c = subst (AreIndices []) (sym c.in_ok-rows.ensures.items) tt

pub index_of-requires : goal.index_of-requires
index_of-requires c =
    spot-counted c.args.classes.now c.args.exports.now c.args.spots.now c.loop-spot.spot-index _
    (class_of c.in-Some.class) c.requires c.loop-spot-test.true (sym c.known.ensures ∙ ap (option_map class_of)
    c.in-Some.is)

pub loop-spot-preserved : goal.loop-spot-preserved
loop-spot-preserved c =
    let ss = c.args.spots.now in
    let i = c.loop-spot.spot-index in
    let Holds = AreIndices (stood c.args.classes.now c.args.exports.now (take (i + 1) ss)) in
    elim c.match-known.branch [
      | in-Some+in_ok-index_of+in_ok-push w ↦
          let rows : c.loop-spot.rows.items ++ w.in_ok-index_of.field-0 ∷ [] ≡ c.match-known.rows.items =
          let a = w.in_ok-push.ensures.items in cc in
          subst Holds rows (indices-grow c.args.classes.now c.args.exports.now ss i _ c.loop-spot-test.true
          c.loop-spot.rows.items c.loop-spot.invariant (class_of w.in-Some.class) w.in_ok-index_of.field-0
          (sym c.known.ensures ∙ ap (option_map class_of) w.in-Some.is) w.in_ok-index_of.ensures)
      | in_default w ↦
          let rows : c.loop-spot.rows.items ≡ c.match-known.rows.items = cc in
          subst Holds rows (indices-kept c.args.classes.now c.args.exports.now ss i _ c.loop-spot-test.true
          c.loop-spot.rows.items c.loop-spot.invariant (sym c.known.ensures ∙ ap (option_map class_of)
          w.in_default.is))
    ]
