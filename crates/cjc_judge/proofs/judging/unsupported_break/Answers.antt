use Rattle.std.proofs.Common.{◌≡◌, ◌∙◌, refl, ap, sym, subst, length, List, [], ◌∷◌}
use Rattle.std.specs.Prelude.{Some, slice_get}
use Rattle.std.proofs.lemmas.Option.{slice_get_read}
use Rattle.cjc_bytes.specs.declared.settings.FileLine.{FileLine}
use Rattle.cjc_bytes.specs.Told.{file_place_of, spot_of}
use Rattle.cjc_clinit.specs.Subset.Places.{at_method}
use Rattle.cjc_bytes.specs.Breaks.{RulePlace, IsFirstOf, broken_at}
use Rattle.cjc_bytes.specs.Order.{FilePlace, file_of}
use Rattle.cjc_vtable.proofs.SubsetCodes.{code_there}
use Rattle.cjc_judge.specs.Rules.{unsupported_break}
use Rattle.cjc_bytes.proofs.Firsts.{first_of_one}
use Rattle.cjc_judge.proofs.judging.unsupported_break.Goals as goal

pub returns : goal.returns
unfolding unsupported_break
returns c =
    let files = c.args.world.now in
    let x = c.args.unsupported.now in
    let class = c.in_ok-class.class.now in
    let method = c.in_ok-method.method.now in
    let a = c.in_ok-class.ensures.lookup in
    let d = c.in_ok-method.ensures.lookup in
    let f : FilePlace = file_place_of c.file_of-file.result in
    let lines = c.items-3.ensures ∙ c.lines.ensures in
    let in_classes : slice_get files.classes x.class ≡ Some class =
    ap (λ xs. slice_get xs x.class) (sym (c.items.ensures ∙ c.classes.ensures))
    ∙ slice_get_read c.items.result.now (length c.items.result.now) x.class class refl a.3.0 a.1 in
    let in_methods : slice_get class.methods x.method ≡ Some method =
    ap (λ xs. slice_get xs x.method) (sym c.items-2.ensures)
    ∙ slice_get_read c.items-2.result.now (length c.items-2.result.now) x.method method refl d.3.0 d.1 in
    let file : f ≡ file_of files.lines x.class = c.file_of-file.ensures
    ∙ ap (λ (ls : List FileLine). file_of ls x.class) lines in
    let spot : spot_of c.method_spot.result ≡ at_method f class x.method method x.offset =
    c.method_spot.ensures f c.class_spot-spot.ensures in
    code_there files x.class x.method (λ f c m. broken_at (at_method f c x.method m x.offset) 303 ∷ []) class method f
    (Some (broken_at (spot_of c.method_spot.result) 303)) in_classes in_methods file
    (subst (λ (s : RulePlace). IsFirstOf (broken_at (at_method f class x.method method x.offset) 303
    ∷ []) (Some (broken_at s 303))) (sym spot) (first_of_one (broken_at (at_method f class x.method method x.offset)
    303)))
