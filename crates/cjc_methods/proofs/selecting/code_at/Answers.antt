use Rattle.std.proofs.Common.{◌<◌, ◌-◌, arith, sym, ap, subst, ◌∙◌, length}
use Rattle.std.proofs.lemmas.Option.{get_or_from_slice_get, slice_get-get_or}
use Rattle.std.specs.Prelude.{slice_get, Some}
use Rattle.cjc_world.specs.ClassFile.declared.tree.ClassTree.{ClassTree}
use Rattle.cjc_components.specs.Bytecode.declared.method_code.MethodCode.{MethodCode}
use Rattle.cjc_narrow.specs.Types.Tables.{IsMethodOf}
use Rattle.cjc_world.specs.Classes.{all_classes}
use Rattle.cjc_narrow.specs.Rows.Resolved.{argument_words}
use Rattle.cjc_narrow.specs.Rows.Selected.{near_fields}
use Rattle.cjc_components.specs.Descriptor.{method_in}
use Rattle.cjc_components.specs.Written.{no_code}
use Rattle.cjc_methods.specs.Working.Places.{place_in}
use Rattle.cjc_methods.proofs.Coded.{with_code_by_mode, without_code_by_mode}
use Rattle.cjc_methods.proofs.Own.{class_of, few_words, none_there, place_there, place_within, same_class}
use Rattle.cjc_methods.proofs.Own.{tree_at, type_within, with_read, words_like}
use Rattle.cjc_bytes.proofs.Options.{if_more}
use Rattle.cjc_methods.proofs.selecting.code_at.Goals as goal

pub place_of-requires : goal.place_of-requires
place_of-requires c = c.requires.listed.own

pub bounds-sources-place : goal.bounds-sources-place
bounds-sources-place c =
    let s = c.args.sources in
    place_within c.args.world.now s.codes.now s.types.now c.args.member c.requires.listed.own s.places.now
    c.requires.ready c.requires.places c.in-Some.place c.in-Some.ensures

pub bounds-sources-place-in-Some : goal.bounds-sources-place-in-Some
bounds-sources-place-in-Some c =
    let s = c.args.sources in
    type_within c.args.world.now s.codes.now s.types.now c.args.member c.requires.listed.own s.places.now
    c.requires.ready c.requires.places c.in-Some.place c.in-Some.ensures

pub bounds-sources-place-in-Some-2 : goal.bounds-sources-place-in-Some-2
bounds-sources-place-in-Some-2 c =
    let s = c.args.sources in
    subst (λ n. c.in-Some.place < n) (sym c.requires.count) (place_within c.args.world.now s.codes.now s.types.now
    c.args.member c.requires.listed.own s.places.now c.requires.ready c.requires.places c.in-Some.place
    c.in-Some.ensures)

pub selected-requires-clause-code : goal.selected-requires-clause-code
selected-requires-clause-code c =
    let s = c.args.sources in
    let h = place_there c.args.world.now s.codes.now s.types.now c.args.member c.requires.listed.own s.places.now
    c.requires.ready c.requires.places c.in-Some.place c.in-Some.ensures in (
      h.class,
      h.method,
      h.tree,
      subst (λ (y : MethodCode). IsMethodOf c.args.world.now y h.class h.method h.tree)
          (sym (get_or_from_slice_get s.codes.now c.in-Some.place h.code c.index-sources-place.result h.is_code))
          h.is_own,
    )

pub selected-requires-clause-ready : goal.selected-requires-clause-ready
selected-requires-clause-ready c = λ k m tr of.
    let s = c.args.sources in
    let files = c.args.world.now in
    let own = c.requires.listed.own in
    let within = place_within files s.codes.now s.types.now c.args.member own s.places.now c.requires.ready
    c.requires.places c.in-Some.place c.in-Some.ensures in
    let typed = type_within files s.codes.now s.types.now c.args.member own s.places.now c.requires.ready
    c.requires.places c.in-Some.place c.in-Some.ensures in
    c.requires.ready.each c.in-Some.place _ _
    (slice_get-get_or s.codes.now c.in-Some.place c.index-sources-place.result within)
    (slice_get-get_or s.types.now c.in-Some.place c.index-sources-place-in-Some.result typed) k m tr of

pub selected-requires-clause-free : goal.selected-requires-clause-free
selected-requires-clause-free c = λ short.
    let s = c.args.sources in
    let files = c.args.world.now in
    let own = c.requires.listed.own in
    let h = place_there files s.codes.now s.types.now c.args.member own s.places.now c.requires.ready c.requires.places
    c.in-Some.place c.in-Some.ensures in
    let within = place_within files s.codes.now s.types.now c.args.member own s.places.now c.requires.ready
    c.requires.places c.in-Some.place c.in-Some.ensures in
    let read = slice_get-get_or s.codes.now c.in-Some.place c.index-sources-place.result within in
    let mode = slice_get-get_or s.modes.now c.in-Some.place _ (subst (λ n. c.in-Some.place < n) (sym c.requires.count)
    within) in
    let g = with_read _ read h in
    let same = same_class files c.args.member.class _ _ (tree_at files c.args.member own).1 h.is_class in
    c.requires.free c.in-Some.place _ g.class g.method g.tree read (mode ∙ ap Some short) g.is_own
    (c.requires.listed.written g.class g.method g.is_class
    (ap (λ (x : ClassTree). slice_get h.class.methods (c.args.member.member - length x.fields)) same
    ∙ h.is_method))

pub selected-requires-clause-room : goal.selected-requires-clause-room
selected-requires-clause-room c = λ int k m tr of.
    let s = c.args.sources in
    let files = c.args.world.now in
    let f = c.args.member in
    let own = c.requires.listed.own in
    let within = place_within files s.codes.now s.types.now f own s.places.now c.requires.ready c.requires.places
    c.in-Some.place c.in-Some.ensures in
    let typed = type_within files s.codes.now s.types.now f own s.places.now c.requires.ready c.requires.places
    c.in-Some.place c.in-Some.ensures in
    let mode = slice_get-get_or s.modes.now c.in-Some.place _ (subst (λ n. c.in-Some.place < n) (sym c.requires.count)
    within) in
    let owner = class_of files f own in
    let is = (tree_at files f own).1 in
    c.requires.room.in_int_mode owner c.in-Some.place is
    (sym (c.in-Some.ensures owner is ∙ ap (λ rows. place_in rows f.class (f.member - length owner.fields))
    c.requires.places)) (mode ∙ ap Some int) _ _
    (slice_get-get_or s.codes.now c.in-Some.place c.index-sources-place.result within)
    (slice_get-get_or s.types.now c.in-Some.place c.index-sources-place-in-Some.result typed) k m tr of

pub overflow_cast-words : goal.overflow_cast-words
overflow_cast-words c =
    let o = c.requires.listed.own in
    let m = method_in (all_classes c.args.world.now) o.class c.args.member.member in
    let few = few_words c.in_ok-words-in-None.words (argument_words m.flags m.desc) (c.in_ok-words-in-None.ensures
    ∙ words_like c.method_in-method.result m (c.method_in-method.ensures o.class o.is_class))
    (c.requires.room.arguments o.class o.is_class) in
    omega (arith, few)

pub returns-in-Some : goal.returns-in-Some
returns-in-Some c = λ tables told.
    let s = c.args.sources in
    let files = c.args.world.now in
    let f = c.args.member in
    let own = c.requires.listed.own in
    let h = place_there files s.codes.now s.types.now f own s.places.now c.requires.ready c.requires.places
    c.in-Some.place c.in-Some.ensures in
    let within = place_within files s.codes.now s.types.now f own s.places.now c.requires.ready c.requires.places
    c.in-Some.place c.in-Some.ensures in
    let typed = type_within files s.codes.now s.types.now f own s.places.now c.requires.ready c.requires.places
    c.in-Some.place c.in-Some.ensures in
    let read = slice_get-get_or s.codes.now c.in-Some.place c.index-sources-place.result within in
    let table = slice_get-get_or s.types.now c.in-Some.place c.index-sources-place-in-Some.result typed in
    let mode = slice_get-get_or s.modes.now c.in-Some.place _ (subst (λ n. c.in-Some.place < n) (sym c.requires.count)
    within) in
    let g = with_read _ read h in
    if_more (λ n e. e ∙ sym (with_code_by_mode files (near_fields c.args.pool.now) s.codes.now s.types.now s.modes.now
    c.requires.ready tables told f own.own c.in-Some.place (class_of files f own) (tree_at files f own).1 g _ table _
    mode)) c.selected.result (c.selected.ensures g.class g.method g.tree g.is_own _
    (told.ranges c.in-Some.place _ _ read table g.class g.method g.tree g.is_own))

pub returns-in_ok-words-in-None : goal.returns-in_ok-words-in-None
returns-in_ok-words-in-None c = λ tables told.
    let s = c.args.sources in
    let files = c.args.world.now in
    let f = c.args.member in
    let o = c.requires.listed.own in
    let m = method_in (all_classes files) o.class f.member in
    let tree = tree_at files f o in
    let none = none_there files s.codes.now s.types.now f o s.places.now c.requires.ready c.requires.places
    c.in-None.ensures in
    c.no_code.ensures
    ∙ ap no_code (c.in_ok-words-in-None.ensures ∙ words_like c.method_in-method.result m (c.method_in-method.ensures
    o.class o.is_class))
    ∙ sym (without_code_by_mode files (near_fields c.args.pool.now) s.codes.now s.types.now s.modes.now c.requires.ready
    tables told f o.own (class_of files f o) o.class tree.1 o.is_class (tree.2 o.class o.is_class) none)
