use Rattle.std.proofs.Common.{◌≡◌, ◌<◌, ◌∙◌, ap, sym, subst, refl, length}
use Rattle.std.specs.Prelude.{◌||◌, slice_get, Some}
use Rattle.std.specs.List.{list_any}
use Rattle.std.proofs.lemmas.Option.{slice_get_read}
use Rattle.cjc_classes.specs.Subset.Types.{is_int_desc}
use Rattle.cjc_captree.proofs.LimitsLaws.IntMembers.{class_ints, has_file}
use Rattle.cjc_captree.proofs.limits.ints.has_int.Goals as goal

pub bounds-items-number : goal.bounds-items-number
bounds-items-number c =
    let (d, there) = c.requires in
    subst (λ xs. c.args.number < length xs) (sym (c.items.ensures ∙ c.classes.ensures)) (has_file c.args.world.now
    c.args.number d there)

pub added-requires : goal.added-requires
added-requires c = let (d, there) = c.requires in has_file c.args.world.now c.args.number d there

pub returns : goal.returns
returns c = λ d is.
    let files = c.args.world.now in
    let n = c.args.number in
    let t = c.index-items-number.result in
    let all = c.items.result.now in
    let below : n < length all = subst (λ xs. n < length xs) (sym (c.items.ensures ∙ c.classes.ensures))
    (has_file files n d is) in
    let there : slice_get files.classes n ≡ Some t = ap (λ xs. slice_get xs n) (sym (c.items.ensures
    ∙ c.classes.ensures)) ∙ slice_get_read all (length all) n t refl below c.index-items-number.is in
    class_ints files n d t c.items-4.result.now c.any_int.result is there (c.items-4.ensures ∙ c.added.ensures)
    (c.any_int.ensures
    ∙ ap (λ fs. (list_any (λ f. is_int_desc f.desc) fs || list_any (λ m. is_int_desc m.desc) c.items-3.result.now)
    || list_any (λ m. is_int_desc m.desc) c.items-4.result.now) c.items-2.ensures
    ∙ ap (λ ms. (list_any (λ f. is_int_desc f.desc) t.fields || list_any (λ m. is_int_desc m.desc) ms)
    || list_any (λ m. is_int_desc m.desc) c.items-4.result.now) c.items-3.ensures)
