use Rattle.std.proofs.Common.{◌<◌, sym, subst, ◌∙◌}
use Rattle.std.proofs.lemmas.Option.{slice_get-get_or}
use Rattle.cjc_methods.proofs.Lacking.{in_int_mode_with_code, in_int_mode_without_code}
use Rattle.cjc_methods.proofs.Own.{class_of, none_there, place_there, place_within, tree_at}
use Rattle.cjc_methods.proofs.modes.is_in_int_mode.Goals as goal

pub bounds-sources-place : goal.bounds-sources-place
bounds-sources-place c =
    let s = c.args.sources in
    subst (λ n. c.in-Some.place < n) (sym c.requires.count) (place_within c.args.world.now s.codes.now s.types.now
    c.args.member c.requires.own s.places.now c.requires.ready c.requires.places c.in-Some.place c.in-Some.ensures)

pub returns-in-Some : goal.returns-in-Some
returns-in-Some c = λ tables told.
    let s = c.args.sources in
    let files = c.args.world.now in
    let f = c.args.member in
    let own = c.requires.own in
    let within = place_within files s.codes.now s.types.now f own s.places.now c.requires.ready c.requires.places
    c.in-Some.place c.in-Some.ensures in
    let here = place_there files s.codes.now s.types.now f own s.places.now c.requires.ready c.requires.places
    c.in-Some.place c.in-Some.ensures in
    let mode = slice_get-get_or s.modes.now c.in-Some.place _ (subst (λ n. c.in-Some.place < n) (sym c.requires.count)
    within) in
    c.is_int.ensures ∙ sym (in_int_mode_with_code files s.codes.now s.types.now s.modes.now c.requires.ready tables told
    f own.own (class_of files f own) (tree_at files f own).1 c.in-Some.place here _ mode)

pub returns-in-None : goal.returns-in-None
returns-in-None c = λ tables told.
    let s = c.args.sources in
    let files = c.args.world.now in
    let f = c.args.member in
    let own = c.requires.own in
    sym (in_int_mode_without_code files s.codes.now s.types.now s.modes.now c.requires.ready tables told f own.own
    (class_of files f own) (tree_at files f own).1 (none_there files s.codes.now s.types.now f own s.places.now
    c.requires.ready c.requires.places c.in-None.ensures))
