use Rattle.std.proofs.Common.{ap, sym, ◌∙◌}
use Rattle.std.specs.List.{list_any}
use Rattle.std.proofs.lemmas.Option.{get_or_from_slice_get}
use Rattle.cjc_bytes.proofs.Bools.{not_true}
use Rattle.cjc_components.specs.Bytecode.declared.method_code.MethodCode.{MethodCode}
use Rattle.cjc_methods.specs.Working.Fields.{names_field}
use Rattle.cjc_methods.proofs.SameCode.{kept_code, kept_none}
use Rattle.cjc_methods.proofs.Own.{class_of, none_there, place_there, place_within, tree_at}
use Rattle.cjc_methods.proofs.keeping.keeps_code.Goals as goal

pub bounds-sources-place : goal.bounds-sources-place
bounds-sources-place c =
    let s = c.args.sources in
    place_within c.args.world.now s.codes.now s.types.now c.args.member c.requires.own s.places.now c.requires.ready
    c.requires.places c.in-Some.place c.in-Some.ensures

pub returns-in-Some : goal.returns-in-Some
returns-in-Some c = λ t before after told keeps.
    let s = c.args.sources in
    let files = c.args.world.now in
    let f = c.args.member in
    let own = c.requires.own in
    let h = place_there files s.codes.now s.types.now f own s.places.now c.requires.ready c.requires.places
    c.in-Some.place c.in-Some.ensures in
    let same = get_or_from_slice_get s.codes.now c.in-Some.place h.code c.index-sources-place.result h.is_code in
    kept_code files s.codes.now s.types.now s.modes.now c.requires.ready t told f own.own (class_of files f own)
    (tree_at files f own).1 before after c.in-Some.place h
    (ap (λ (y : MethodCode). list_any names_field y.insns) (sym same)
    ∙ ap (list_any names_field) (sym c.items.ensures)
    ∙ sym c.any_names_field.ensures ∙ not_true c.any_names_field.result keeps)

pub returns-in-None : goal.returns-in-None
returns-in-None c = λ t before after told keeps.
    let s = c.args.sources in
    let files = c.args.world.now in
    let f = c.args.member in
    let own = c.requires.own in
    let tree = tree_at files f own in
    kept_none files s.codes.now s.types.now s.modes.now c.requires.ready t told f own.own (class_of files f own) tree.1
    before after own.class own.is_class (tree.2 own.class own.is_class)
    (none_there files s.codes.now s.types.now f own s.places.now c.requires.ready c.requires.places c.in-None.ensures)
