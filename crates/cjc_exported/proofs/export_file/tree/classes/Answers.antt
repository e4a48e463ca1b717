use Rattle.std.proofs.Common.{◌≡◌, ◌≤◌, ◌+◌, ◌∙◌, ◌∷◌, [], ◌++◌, ap, sym, subst, refl, drop, length, map, false}
use Rattle.std.specs.Prelude.{filter, if◌then◌else◌, not, ◌&&◌, option_map, slice_get, Some}
use Rattle.std.proofs.Math.ListN.{drop_of_length-le}
use Rattle.std.proofs.lemmas.List.{length-map}
use Rattle.std.proofs.lemmas.Option.{slice_get-map, slice_get_read}
use Rattle.cjc_world.specs.Classes.{Class}
use Rattle.cjc_world.specs.Exported.{is_exported}
use Rattle.cjc_world.specs.Working.Known.{class_of}
use Rattle.cjc_components.specs.ExportFile.{export_class}
use Rattle.cjc_exported.specs.ExportFile.Working.Sources.{is_of_kind, package_in, world_in}
use Rattle.cjc_exported.proofs.ExportFile.Methods.{declared-at}
use Rattle.cjc_exported.proofs.ExportFile.Piles.{filtered-twice, mapped, piled, piled-all}
use Rattle.cjc_world.proofs.BytesGets.{drop_at}
use Rattle.cjc_exported.proofs.export_file.tree.classes.Goals as goal

pub put_class-requires-clause-numbered : goal.put_class-requires-clause-numbered
put_class-requires-clause-numbered c =
    let n = c.loop-number.number in
    let all = c.as_slice-declared.result.now in
    let k = c.index-declared-number.result in
    let at : slice_get c.args.source.now.declared.items n ≡ Some k =
    ap (λ xs. slice_get xs n) (sym c.as_slice-declared.ensures.value) ∙ slice_get_read all (length all) n k refl
    c.loop-number-test.true c.index-declared-number.is in
    (declared-at c.args.source.now c.requires n k at).0

pub put_class-requires-clause-own : goal.put_class-requires-clause-own
put_class-requires-clause-own c =
    let n = c.loop-number.number in
    let all = c.as_slice-declared.result.now in
    let k = c.index-declared-number.result in
    let at : slice_get c.args.source.now.declared.items n ≡ Some k =
    ap (λ xs. slice_get xs n) (sym c.as_slice-declared.ensures.value) ∙ slice_get_read all (length all) n k refl
    c.loop-number-test.true c.index-declared-number.is in
    (declared-at c.args.source.now c.requires n k at).1

pub loop-number-preserved : goal.loop-number-preserved
loop-number-preserved c =
    let s = c.args.source.now in
    let n = c.loop-number.number in
    let all = c.as_slice-declared.result.now in
    let k = c.index-declared-number.result in
    let at : slice_get s.declared.items n ≡ Some k = ap (λ xs. slice_get xs n) (sym c.as_slice-declared.ensures.value)
    ∙ slice_get_read all (length all) n k refl c.loop-number-test.true c.index-declared-number.is in
    let ks = map class_of s.declared.items in
    let here : slice_get ks n ≡ Some (class_of k) = slice_get-map class_of s.declared.items n
    ∙ ap (option_map class_of) at in
    let p = is_exported (world_in s) c.has_applets-applets.result in
    let f = export_class (package_in s) in
    piled c.put_class.new.classes c.loop-number.classes (if p (class_of k) then f (class_of k) ∷ []
    else []) (map f (filter p (drop (n + 1) ks))) _
    c.in_ok-put_class.ensures
    (ap (λ q. c.loop-number.classes ++ q) (sym (ap (λ xs. map f (filter p xs)) (drop_at ks n (class_of k) here)
    ∙ mapped p f (class_of k) (drop (n + 1) ks))) ∙ c.loop-number.invariant)

pub returns : goal.returns
returns c =
    let s = c.args.source.now in
    let n = c.loop-number.number in
    let w = world_in s in
    let ks = map class_of s.declared.items in
    let counts : length ks ≡ length c.as_slice-declared.result.now = length-map s.declared.items class_of
    ∙ ap length (sym c.as_slice-declared.ensures.value) in
    let past : length ks ≤ n = subst (λ m. m ≤ n) (sym counts) c.loop-number-test.false in
    let p = is_exported w c.has_applets-applets.result in
    let f = export_class (package_in s) in
    piled-all c.loop-number.classes (map f (filter p (drop n ks))) (map f (filter p ks)) (ap (λ xs. map f (filter p xs))
    (drop_of_length-le ks past)) c.loop-number.invariant
    ∙ ap (map f)
    (ap (filter p) c.requires.declared ∙ filtered-twice (is_of_kind false) p w
    ∙ ap (λ b. filter (λ (d : Class). not d.is_imported && is_exported w b d) w) c.has_applets-applets.ensures)
