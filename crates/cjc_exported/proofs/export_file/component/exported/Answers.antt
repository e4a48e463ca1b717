use Rattle.std.proofs.Common.{◌≡◌, ◌≤◌, ◌+◌, ◌∙◌, ◌∷◌, [], ◌++◌, ap, sym, subst, refl, drop, length, map, false}
use Rattle.std.specs.Prelude.{filter, if◌then◌else◌, not, ◌&&◌, option_map, slice_get, Some}
use Rattle.std.proofs.Math.ListN.{drop_of_length-le}
use Rattle.std.proofs.lemmas.List.{length-map}
use Rattle.std.proofs.lemmas.Option.{slice_get-map, slice_get_read}
use Rattle.cjc_world.specs.Classes.{Class, all_classes}
use Rattle.cjc_world.specs.Exported.{is_exported}
use Rattle.cjc_world.specs.Working.Known.{class_of}
use Rattle.cjc_components.specs.Exports.{exported_class}
use Rattle.cjc_components.specs.Package.{has_applets}
use Rattle.cjc_exported.specs.ExportFile.Working.Sources.{is_of_kind}
use Rattle.cjc_exported.proofs.ExportFile.Methods.{own-number}
use Rattle.cjc_exported.proofs.ExportFile.Piles.{filtered-twice, mapped, piled, piled-all}
use Rattle.cjc_world.proofs.BytesGets.{drop_at}
use Rattle.cjc_exported.proofs.export_file.component.exported.Goals as goal

pub put_exported-requires : goal.put_exported-requires
put_exported-requires c =
    let n = c.loop-number.number in
    let all = c.as_slice-declared.result.now in
    let k = c.index-declared-number.result in
    let at : slice_get c.in_ok-kept.kept.items n ≡ Some k =
    ap (λ xs. slice_get xs n) (sym c.as_slice-declared.ensures.value) ∙ slice_get_read all (length all) n k refl
    c.loop-number-test.true c.index-declared-number.is in
    own-number c.args.world.now c.in_ok-kept.kept.items n k c.in_ok-kept.ensures at

pub loop-number-preserved : goal.loop-number-preserved
loop-number-preserved c = λ p of_files offsets.
    let w = all_classes c.args.world.now in
    let n = c.loop-number.number in
    let all = c.as_slice-declared.result.now in
    let k = c.index-declared-number.result in
    let at : slice_get all n ≡ Some k = slice_get_read all (length all) n k refl c.loop-number-test.true
    c.index-declared-number.is in
    let ks = map class_of all in
    let here : slice_get ks n ≡ Some (class_of k) = slice_get-map class_of all n ∙ ap (option_map class_of) at in
    let test = is_exported w c.args.applets in
    let f = exported_class p in
    let old = c.loop-number.classes in
    piled c.put_exported.new.classes old (if test (class_of k) then f (class_of k) ∷ []
    else []) (map f (filter test (drop (n + 1) ks))) _
    (c.in_ok-put_exported.ensures p of_files offsets)
    (ap (λ q. old ++ q) (sym (ap (λ xs. map f (filter test xs)) (drop_at ks n (class_of k) here)
    ∙ mapped test f (class_of k) (drop (n + 1) ks))) ∙ c.loop-number.invariant p of_files offsets)

pub returns : goal.returns
returns c = λ p of_files of_applets offsets.
    let w = all_classes c.args.world.now in
    let n = c.loop-number.number in
    let all = c.as_slice-declared.result.now in
    let ks = map class_of all in
    let past : length ks ≤ n = subst (λ m. m ≤ n) (sym (length-map all class_of)) c.loop-number-test.false in
    let test = is_exported w c.args.applets in
    let f = exported_class p in
    piled-all c.loop-number.classes (map f (filter test (drop n ks))) (map f (filter test ks))
    (ap (λ xs. map f (filter test xs)) (drop_of_length-le ks past)) (c.loop-number.invariant p of_files offsets)
    ∙ ap (map f)
    (ap (λ xs. filter test (map class_of xs)) c.as_slice-declared.ensures.value ∙ ap (filter test) c.in_ok-kept.ensures
    ∙ filtered-twice (is_of_kind false) test w
    ∙ ap (λ b. filter (λ (d : Class). not d.is_imported && is_exported w b d) w) of_applets
    ∙ ap (λ files. filter (λ (d : Class). not d.is_imported && is_exported (all_classes files) (has_applets p) d)
    (all_classes files)) (sym of_files))
