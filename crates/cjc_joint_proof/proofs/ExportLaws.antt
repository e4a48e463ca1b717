-- The export file of a package, and its Export component: the same classes by the same tokens.
use Rattle.std.proofs.Common.{◌≡◌, ℕ, zero, suc, ◌+◌, arith, refl, sym, ap, ◌∙◌, Bool, true, false, List, []}
use Rattle.std.proofs.Common.{◌∷◌}
use Rattle.std.specs.Prelude.{Option, None, Some, is_some, option_map, slice_get, ◌==◌, if◌then◌else◌}
use Rattle.cjc_token_proof.proofs.BytesGets.{get_mapped}
use Rattle.cjc_token_proof.proofs.BytesNumbers.{like_number, number_same}
use Rattle.cjc_card_semantics.specs.Machine.Classes.{External, Own, info_of, with_token}
use Rattle.cjc_card_semantics.specs.ExportFile.declared.tree.ExportClass.{ExportClass}
use Rattle.cjc_exported.specs.World.Classes.{Class}
use Rattle.cjc_link_semantics.specs.Components.ExportFile.{export_class, export_of}
use Rattle.cjc_link_semantics.specs.Components.Exports.{export, export_with, exported_class, exported_classes}
use Rattle.cjc_link_semantics.specs.Components.Package.{Package}
use Rattle.cjc_link_semantics.specs.Components.Paired.Naming.{exported_in}
use Rattle.cjc_exported.proofs.ExportFile.Tokened.{token-is-place}
use Rattle.cjc_link_semantics.specs.Loaded.{group_loaded, package_number, part_in}
use Rattle.cjc_token_proof.specs.Tables.Loading.{loaded}
use Rattle.cjc_joint_proof.specs.Loading.{group_of, member_of, offset_in}
use Rattle.cjc_joint_proof.specs.Parts.{class_in}
use Rattle.cjc_joint_proof.proofs.LoadLaws.{leads_inside}

-- a class of its place for a token
by_place : (cs : List ExportClass) (n : ℕ) → ((k : ℕ) (c : ExportClass) → slice_get cs k ≡ Some c → c.token ≡ n + k)
    → (token : ℕ) → with_token cs (n + token) ≡ slice_get cs token
by_place [] n h token = refl
by_place (c ∷ cs) n h zero =
    let same : c.token ≡ n + 0 = h 0 c refl in
    ap (λ b. if b then Some c else with_token cs (n + 0)) (ap (λ t. t == n + 0) same ∙ like_number (n + 0))
by_place (c ∷ cs) n h (suc token) =
    let s : n + 1 + token ≡ n + suc token = omega arith in
    let here : c.token ≡ n + 0 = h 0 c refl in
    let rest = by_place cs (n + 1) (λ k d at. let m : n + suc k ≡ n + 1 + k = omega arith in h (suc k) d at ∙ m) token
    in
    by (c.token == n + suc token) refl here (ap (with_token cs) (sym s) ∙ rest)
  where
    by : (b : Bool) → (c.token == n + suc token) ≡ b → c.token ≡ n + 0 → with_token cs (n + suc token)
        ≡ slice_get cs token → (if b then Some c else with_token cs (n + suc token)) ≡ slice_get cs token
    by true e here rest = let same = number_same c.token (n + suc token) e in absurd (omega (arith, same, here))
    by false e here rest = rest

module _ (p : Package) where
  -- a token of the export file is a place among the classes that others may name
  pub by_token : (token : ℕ) → (let t = export_of p in with_token t.classes token)
      ≡ option_map (export_class p) (slice_get (exported_classes p) token)
  by_token token =
      let t = export_of p in
      let z : 0 + token ≡ token = omega arith in
      ap (with_token t.classes) (sym z)
      ∙ (by_place t.classes 0 (λ k c at. let y : k ≡ 0 + k = omega arith in token-is-place p k c at ∙ y) token
      ∙ get_mapped (export_class p) (exported_classes p) token)

  -- and so is a place in Export
  pub in_export : (token : ℕ) → slice_get (exported_in (export p)) token
      ≡ option_map (exported_class p) (slice_get (exported_classes p) token)
  in_export token = by (exported_classes p)
    where
      by : (cs : List Class) → slice_get (exported_in (export_with p cs)) token ≡ option_map (exported_class p)
          (slice_get cs token)
      by [] = refl
      by (c ∷ cs) = get_mapped (exported_class p) (c ∷ cs) token

-- ---- imports of a group

module _ (packages : List Package) (q r : ℕ) (p e : Package) (k token : ℕ) (entry : ExportClass)
    (here : slice_get packages q ≡ Some p) (there : slice_get packages r ≡ Some e)
    (listed : let files = p.files in slice_get files.exports k ≡ Some (export_of e))
    (number : package_number (group_of packages) (let t = export_of e in t.name) ≡ Some r)
    (is : let t = export_of e in with_token t.classes token ≡ Some entry) where
  of_package : (i : ℕ) (x : Package) → slice_get packages i ≡ Some x
      → slice_get (group_of packages) i ≡ Some (member_of x)
  of_package i x at = get_mapped member_of packages i ∙ ap (option_map member_of) at

  loaded_part : (let l = group_loaded (group_of packages) in slice_get l.parts r ≡ Some (part_in (group_of packages)
      l.trees (member_of e)))
  loaded_part =
      let l = group_loaded (group_of packages) in
      get_mapped (part_in (group_of packages) l.trees) (group_of packages) r
      ∙ ap (option_map (part_in (group_of packages) l.trees)) (of_package r e there)

  pub record Exporting : Type 0 where
    pub class : Class
    pub name : class.name ≡ entry.name
    pub written : export_class e class ≡ entry
    pub at : slice_get (exported_classes e) token ≡ Some class
    pub has : slice_get (exported_in (export e)) token ≡ Some (exported_class e class)

  pub exporting : Exporting
  exporting = by (slice_get (exported_classes e) token) refl (sym (by_token e token) ∙ is)
    where
      by : (o : Option Class) → slice_get (exported_classes e) token ≡ o → option_map (export_class e) o ≡ Some entry
          → Exporting
      by None at f = cc
      by (Some c) at f =
          let same : export_class e c ≡ entry = cc in
          record {
            class = c;
            name = ap (λ (x : ExportClass). x.name) same;
            written = same;
            at = at;
            has = in_export e token ∙ ap (option_map (exported_class e)) at;
          }

  pub leads_by_name : is_some (info_of (loaded e) 0 (offset_in e entry.name)) ≡ true
      → class_in (group_loaded (group_of packages)) q (External k token) ≡ Some (Own r (offset_in e entry.name))
  leads_by_name info =
      let l = group_loaded (group_of packages) in
      let x = exporting in
      let c = x.class in
      let offset : offset_in e c.name ≡ offset_in e entry.name = ap (offset_in e) x.name in
      leads_inside (group_of packages) q (member_of p) (of_package q p here) k token (export_of e) listed r (part_in
      (group_of packages) l.trees (member_of e)) number loaded_part (exported_class e c) x.has (ap (λ o. is_some
      (info_of (loaded e) 0 o)) offset ∙ info)
      ∙ ap (λ o. Some (Own r o)) offset
