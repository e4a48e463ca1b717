use Rattle.std.proofs.Common.{◌≡◌, cond, ℕ, List, ◌+◌, take, ap, sym, subst, ◌∙◌}
use Rattle.std.specs.Prelude.{option_map, Some}
use Rattle.std.specs.Str.{bytes_eq}
use Rattle.cjc_world.specs.declared.names.Names.{Names}
use Rattle.cjc_world.specs.Working.Known.{class_of}
use Rattle.cjc_world.specs.Working.Names.{place_in, spot_named}
use Rattle.cjc_world.proofs.Noted.{none_noted, old_noted, new_noted}
use Rattle.cjc_world.proofs.names.names_of.Goals as goal
use Rattle.cjc_world.proofs.names.names_of.Goals.{in-Some+in-Some-get, in-Some+in-None+in_ok-note-in-None, in_default}

pub loop-place-init : goal.loop-place-init
unfolding spot_named
loop-place-init c = c.new-names.ensures

pub loop-place-preserved : goal.loop-place-preserved
loop-place-preserved c =
    let kept = c.loop-place.invariant in
    let Holds : Names → Type 0 = λ n. (x : List ℕ) → place_in n x ≡ spot_named c.args.classes.now c.args.exports.now
    (take (c.loop-place.place + 1) c.args.spots.now) x in
    elim c.match-known.branch [
      | in-Some+in-Some-get w ↦ subst Holds (sym w.names-is)
          (old_noted c.args.classes.now c.args.exports.now c.args.spots.now c.loop-place.place _ c.loop-place-test.true
          (place_in c.loop-place.names) kept (class_of w.in-Some.class) (sym c.known.ensures
          ∙ ap (option_map class_of) w.in-Some.is) w.in-Some-get.field-0 (ap (place_in c.loop-place.names)
          (sym w.name.ensures) ∙ sym w.get.ensures ∙ w.in-Some-get.is))
      | in-Some+in-None+in_ok-note-in-None w ↦ subst Holds (sym w.names-is)
          (new_noted c.args.classes.now c.args.exports.now c.args.spots.now c.loop-place.place _ c.loop-place-test.true
          (place_in c.loop-place.names) kept (class_of w.in-Some.class) (place_in w.note.new.self)
          (sym c.known.ensures ∙ ap (option_map class_of) w.in-Some.is) (ap (place_in c.loop-place.names)
          (sym w.name.ensures) ∙ sym w.get.ensures ∙ w.in-None.is) (λ x. w.in_ok-note-in-None.ensures x
          ∙ ap (λ z. cond (bytes_eq z x) (Some c.loop-place.place) (place_in c.loop-place.names x))
          w.name-in-None.ensures))
      | in_default w ↦ subst Holds (sym w.names-is)
          (none_noted c.args.classes.now c.args.exports.now c.args.spots.now c.loop-place.place _ c.loop-place-test.true
          (place_in c.loop-place.names) kept (sym c.known.ensures ∙ ap (option_map class_of) w.in_default.is))
    ]
