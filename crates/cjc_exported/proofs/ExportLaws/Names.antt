-- Classes of an export file have names and tokens of their own.
use Rattle.std.proofs.Common.{◌≡◌, ℕ, ◌<◌, refl, sym, ap, ◌∙◌, Bool, true, false, List, [], ◌∷◌, take, arith, Option}
use Rattle.std.proofs.Common.{Some, None}
use Rattle.std.specs.Prelude.{slice_get, option_map, unwrap_or, not, ◌==◌, ◌&&◌, if◌then◌else◌}
use Rattle.std.specs.Str.{bytes_eq}
use Rattle.std.proofs.lemmas.Option.{slice_get-map}
use Rattle.std.proofs.lemmas.Bool.Decides.{nat_tests}
use Rattle.cjc_world.specs.ExportFile.declared.tree.ExportClass.{ExportClass}
use Rattle.cjc_world.specs.ExportFile.ExportFile.{class_token, name_taken, new_name, token_taken}
use Rattle.cjc_world.specs.Classes.{Class, class_at, class_named, is_at}
use Rattle.cjc_world.specs.Rules.{is_other, is_second, same_place}
use Rattle.cjc_components.specs.LowerTokens.Tokens.{token_of_class}
use Rattle.cjc_components.specs.Package.{Package, tokens, world}
use Rattle.cjc_components.specs.Exports.{exported_classes}
use Rattle.cjc_components.specs.ExportFile.{export_class, export_of}
use Rattle.cjc_exported.specs.Exportable.{IsExportable}
use Rattle.cjc_exported.proofs.ExportLaws.Each.{none_before}
use Rattle.cjc_exported.proofs.ExportLaws.Own.{own_class}
use Rattle.cjc_world.proofs.BytesLists.{name_is, bytes_true}

-- the class of the package that an exported one is
pub exported_one : (p : Package) (k : ℕ) (e : ExportClass) → (let t = export_of p in slice_get t.classes k ≡ Some e)
    → (c : Class) × (slice_get (exported_classes p) k ≡ Some c) × (export_class p c ≡ e)
exported_one p k e at = by (slice_get (exported_classes p) k) refl
    (sym (slice_get-map (export_class p) (exported_classes p) k) ∙ at)
  where
    by : (o : Option Class) → slice_get (exported_classes p) k ≡ o → option_map (export_class p) o ≡ Some e
        → (c : Class) × (slice_get (exported_classes p) k ≡ Some c) × (export_class p c ≡ e)
    by None f g = cc
    by (Some c) f g = (c, f, (let same : export_class p c ≡ e = cc in same))

-- ---- a class of the world is found by its name

some_named : (w : List Class) (n : ℕ) (c : Class) → class_at w false n ≡ Some c → (d : Class)
    × (class_named w c.name ≡ Some d)
unfolding class_at class_named
some_named [] n c e = cc
some_named (x ∷ w) n c e = by (is_at false n x) (bytes_eq x.name c.name) refl e (some_named w n c)
  where
    by : (a b : Bool) → bytes_eq x.name c.name ≡ b → (if a then Some x else class_at w false n) ≡ Some c
        → (class_at w false n ≡ Some c → (d : Class) × (class_named w c.name ≡ Some d)) → (d : Class)
        × ((if b then Some x else class_named w c.name) ≡ Some d)
    by a true f e rest = (x, refl)
    by true false f e rest = let same : x ≡ c = cc in let yes' : bytes_eq x.name c.name ≡ true =
        ap (λ (y : Class). bytes_eq x.name y.name) (sym same) ∙ name_is x.name in cc
    by false false f e rest = rest e

first_number : (w : List Class) (c d : Class) → is_second w c ≡ false → class_named w c.name ≡ Some d
    → c.number ≡ d.number
unfolding is_second
first_number w c d e f = by (same_place c d) (ap (is_other c) (sym f) ∙ e) refl
  where
    by : (b : Bool) → not b ≡ false → same_place c d ≡ b → c.number ≡ d.number
    by false g h = cc
    by true g h = same (if c.is_imported then d.is_imported else not d.is_imported) (c.number == d.number) h
        (λ t. grind (arith, nat_tests))
      where
        same : (p q : Bool) → (p && q) ≡ true → (q ≡ true → c.number ≡ d.number) → c.number ≡ d.number
        same true true e so = so refl
        same true false e so = cc
        same false q e so = cc

module _ (p : Package) (h : IsExportable p) (places : (k : ℕ) (e : ExportClass)
    → (let t = export_of p in slice_get t.classes k ≡ Some e) → e.token ≡ k) where
  pub own_token : (k : ℕ) (e : ExportClass) → (let t = export_of p in slice_get t.classes k ≡ Some e)
      → (let t = export_of p in class_token (take k t.classes) e.token ≡ Some e.token)
  own_token k e at = let t = export_of p in
      let none : token_taken (take k t.classes) e.token ≡ false = none_before (λ d. d.token == e.token) t.classes k
      (λ j d lt there. (let a = places j d there in let b = places k e at in grind (arith, nat_tests))) in
      ap (λ b. if b then None else Some e.token) none

  -- two of one name stand at one place
  one_place : (j k : ℕ) (d e : ExportClass) → j < k → (let t = export_of p in slice_get t.classes j ≡ Some d)
      → (let t = export_of p in slice_get t.classes k ≡ Some e) → d.name ≡ e.name → ⊥
  one_place j k d e lt dat eat same =
      let (x, xat, is_x) = exported_one p j d dat in
      let (y, yat, is_y) = exported_one p k e eat in
      let xo = own_class p j x xat in
      let yo = own_class p k y yat in
      let names : x.name ≡ y.name = ap (λ (v : ExportClass). v.name) is_x ∙ same
      ∙ ap (λ (v : ExportClass). v.name) (sym is_y) in
      let (z, found) = some_named (world p) xo.number x xo.is_class in
      let fx = first_number (world p) x z (h.once xo.number x xo.is_class) found in
      let fy = first_number (world p) y z (h.once yo.number y yo.is_class) (ap (class_named (world p)) (sym names)
      ∙ found) in
      let tx : unwrap_or (token_of_class (tokens p) x.number) 0xFF ≡ j = ap (λ (v : ExportClass). v.token) is_x
      ∙ places j d dat in
      let ty : unwrap_or (token_of_class (tokens p) y.number) 0xFF ≡ k = ap (λ (v : ExportClass). v.token) is_y
      ∙ places k e eat in
      let one : j ≡ k = sym tx ∙ ap (λ n. unwrap_or (token_of_class (tokens p) n) 0xFF) (fx ∙ sym fy) ∙ ty in
      omega (arith, one, lt)

  pub own_name : (k : ℕ) (e : ExportClass) → (let t = export_of p in slice_get t.classes k ≡ Some e)
      → (let t = export_of p in new_name (take k t.classes) e.name ≡ Some e.name)
  own_name k e at = let t = export_of p in
      let none : name_taken (take k t.classes) e.name ≡ false = none_before (λ d. bytes_eq d.name e.name) t.classes k
      (λ j d lt there. apart (bytes_eq d.name e.name) (λ is. one_place j k d e lt there at (bytes_true d.name e.name
      is))) in
      ap (λ b. if b then None else Some e.name) none
    where
      apart : (b : Bool) → (b ≡ true → ⊥) → b ≡ false
      apart true isnt = absurd (isnt refl)
      apart false isnt = refl
