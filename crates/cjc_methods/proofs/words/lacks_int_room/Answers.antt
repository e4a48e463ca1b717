use Rattle.std.proofs.Common.{◌<◌, ◌-◌, sym, ap, subst, ◌∙◌, get_or, length}
use Rattle.std.proofs.lemmas.Option.{get_or_from_slice_get, slice_get-get_or}
use Rattle.cjc_bytes.proofs.Options.{if_more}
use Rattle.cjc_components.specs.Bytecode.declared.method_code.MethodCode.{MethodCode}
use Rattle.cjc_narrow.specs.Types.Tables.{IsMethodOf}
use Rattle.cjc_methods.specs.Working.Places.{place_in}
use Rattle.cjc_methods.proofs.Lacking.{int_room, lacks_with_code, lacks_without_code, no_code_has_room, room_told}
use Rattle.cjc_methods.proofs.Own.{class_of, none_there, place_there, place_within, tree_at, type_within, with_read}
use Rattle.cjc_methods.proofs.words.lacks_int_room.Goals as goal

pub bounds-sources-place : goal.bounds-sources-place
bounds-sources-place c =
    let s = c.args.sources in
    place_within c.args.world.now s.codes.now s.types.now c.args.member c.requires.own s.places.now c.requires.ready
    c.requires.places c.in-Some.place c.in-Some.ensures

pub bounds-sources-place-in-Some : goal.bounds-sources-place-in-Some
bounds-sources-place-in-Some c =
    let s = c.args.sources in
    type_within c.args.world.now s.codes.now s.types.now c.args.member c.requires.own s.places.now c.requires.ready
    c.requires.places c.in-Some.place c.in-Some.ensures

pub bounds-sources-place-in-Some-2 : goal.bounds-sources-place-in-Some-2
bounds-sources-place-in-Some-2 c =
    let s = c.args.sources in
    subst (λ n. c.in-Some.place < n) (sym c.requires.count) (place_within c.args.world.now s.codes.now s.types.now
    c.args.member c.requires.own s.places.now c.requires.ready c.requires.places c.in-Some.place c.in-Some.ensures)

pub lacks_room-requires-clause-code : goal.lacks_room-requires-clause-code
lacks_room-requires-clause-code c =
    let s = c.args.sources in
    let files = c.args.world.now in
    let h = place_there files s.codes.now s.types.now c.args.member c.requires.own s.places.now c.requires.ready
    c.requires.places c.in-Some.place c.in-Some.ensures in (
      h.class,
      h.method,
      h.tree,
      subst (λ (y : MethodCode). IsMethodOf files y h.class h.method h.tree)
          (sym (get_or_from_slice_get s.codes.now c.in-Some.place h.code c.index-sources-place.result h.is_code))
          h.is_own,
    )

pub lacks_room-requires-clause-types : goal.lacks_room-requires-clause-types
lacks_room-requires-clause-types c = λ k m tr of.
    let s = c.args.sources in
    let files = c.args.world.now in
    let within = place_within files s.codes.now s.types.now c.args.member c.requires.own s.places.now c.requires.ready
    c.requires.places c.in-Some.place c.in-Some.ensures in
    let typed = type_within files s.codes.now s.types.now c.args.member c.requires.own s.places.now c.requires.ready
    c.requires.places c.in-Some.place c.in-Some.ensures in
    (c.requires.ready.each c.in-Some.place _ _ (slice_get-get_or s.codes.now c.in-Some.place
    c.index-sources-place.result within) (slice_get-get_or s.types.now c.in-Some.place
    c.index-sources-place-in-Some.result typed) k m tr of).types

pub returns-in-Some-clause-told : goal.returns-in-Some-clause-told
returns-in-Some-clause-told c = λ tables told.
    let s = c.args.sources in
    let files = c.args.world.now in
    let f = c.args.member in
    let own = c.requires.own in
    let h = place_there files s.codes.now s.types.now f own s.places.now c.requires.ready c.requires.places
    c.in-Some.place c.in-Some.ensures in
    let within = place_within files s.codes.now s.types.now f own s.places.now c.requires.ready c.requires.places
    c.in-Some.place c.in-Some.ensures in
    let read = slice_get-get_or s.codes.now c.in-Some.place c.index-sources-place.result within in
    let table = slice_get-get_or s.types.now c.in-Some.place c.index-sources-place-in-Some.result
    (subst (λ n. c.in-Some.place < n) (sym c.requires.ready.count) within) in
    let mode = slice_get-get_or s.modes.now c.in-Some.place _ (subst (λ n. c.in-Some.place < n) (sym c.requires.count)
    within) in
    let g = with_read _ read h in
    if_more (λ l e. e ∙ sym (lacks_with_code files s.codes.now s.types.now s.modes.now c.requires.ready tables told f
    own.own (class_of files f own) (tree_at files f own).1 c.in-Some.place g _ table _ mode))
    c.lacks_room.result (c.lacks_room.ensures g.class g.method g.tree g.is_own)

pub returns-in-Some-clause-room : goal.returns-in-Some-clause-room
returns-in-Some-clause-room c =
    let s = c.args.sources in
    let files = c.args.world.now in
    let f = c.args.member in
    let within = place_within files s.codes.now s.types.now f c.requires.own s.places.now c.requires.ready
    c.requires.places c.in-Some.place c.in-Some.ensures in
    let read = slice_get-get_or s.codes.now c.in-Some.place c.index-sources-place.result within in
    let table = slice_get-get_or s.types.now c.in-Some.place c.index-sources-place-in-Some.result
    (subst (λ n. c.in-Some.place < n) (sym c.requires.ready.count) within) in
    let mode = slice_get-get_or s.modes.now c.in-Some.place _ (subst (λ n. c.in-Some.place < n) (sym c.requires.count)
    within) in
    if_more (λ l room off. int_room files s.codes.now s.types.now s.modes.now f c.in-Some.place _ _ _
    (λ class is. c.in-Some.ensures class is ∙ ap (λ rows. place_in rows f.class (f.member - length class.fields))
    c.requires.places) read table mode (room off))
    c.lacks_room.result (room_told files
    (get_or s.codes.now c.in-Some.place c.index-sources-place.result)
    (get_or s.types.now c.in-Some.place c.index-sources-place-in-Some.result) _ c.lacks_room.result
    c.lacks_room.ensures)

pub returns-in-None-clause-told : goal.returns-in-None-clause-told
returns-in-None-clause-told c = λ tables told.
    let s = c.args.sources in
    let files = c.args.world.now in
    let f = c.args.member in
    let own = c.requires.own in
    sym (lacks_without_code files s.codes.now s.types.now s.modes.now c.requires.ready tables told f own.own
    (class_of files f own) (tree_at files f own).1 (none_there files s.codes.now s.types.now f own s.places.now
    c.requires.ready c.requires.places c.in-None.ensures))

pub returns-in-None-clause-room : goal.returns-in-None-clause-room
returns-in-None-clause-room c = λ e.
    let s = c.args.sources in
    let f = c.args.member in
    no_code_has_room c.args.world.now s.codes.now s.types.now s.modes.now f
    (λ class is. c.in-None.ensures class is ∙ ap (λ rows. place_in rows f.class (f.member - length class.fields))
    c.requires.places)
