-- Imports of packages that link with one another lead to what export files describe.
use Rattle.std.proofs.Common.{◌≡◌, ℕ, refl, sym, ap, subst, ◌∙◌, List, Some, None}
use Rattle.std.specs.Prelude.{Option, option_map, slice_get}
use Rattle.cjc_card_semantics.specs.ExportFile.declared.tree.ExportClass.{ExportClass}
use Rattle.cjc_card_semantics.specs.Machine.Classes.{with_token}
use Rattle.cjc_card_semantics.specs.Machine.Loaded.{Loaded, Part}
use Rattle.cjc_card_semantics.specs.Machine.Operations.{unbound_of}
use Rattle.cjc_exported.specs.World.Classes.{Class}
use Rattle.cjc_exported.specs.World.Files.{Files}
use Rattle.cjc_link_semantics.specs.Components.ExportFile.{export_class, export_of}
use Rattle.cjc_link_semantics.specs.Components.Exports.{exported_class, exported_classes}
use Rattle.cjc_link_semantics.specs.Components.Package.{Package}
use Rattle.cjc_link_semantics.specs.Loaded.{group_loaded, part_in}
use Rattle.cjc_joint_proof.specs.JointPackages.{AreLinked, IsLinked, files_together, to_outside, to_package}
use Rattle.cjc_joint_proof.specs.Loading.{AllLead, IsExportOf, IsExported, Leads, ListsMethods, group_of, member_of}
use Rattle.cjc_joint_proof.specs.Loading as loading
use Rattle.cjc_joint_proof.proofs.AboveLaws.{flat_at}
use Rattle.cjc_joint_proof.proofs.ClassLaws.{listing, number_of, part_at, sound_at, together_at}
use Rattle.cjc_joint_proof.proofs.ExportLaws.{by_token, in_export}
use Rattle.cjc_joint_proof.proofs.OutsideLaws.{no_package, outside_kept}
use Rattle.cjc_joint_proof.proofs.ReferLaws.{exported_info, info_there}

module _ (packages : List Package) (linked : AreLinked packages) where
  abbrev l : Loaded
  l = group_loaded (group_of packages)

  abbrev part_there : Package → Part
  part_there e = part_in (group_of packages) l.trees (member_of e)

  -- Export and the export file of one package have the same classes
  is_export_of : (r : ℕ) (e : Package) → slice_get packages r ≡ Some e → ListsMethods e
      → IsExportOf (export_of e) (part_there e)
  is_export_of r e there lists = record { each = each; no_other = no_other }
    where
      each : (token : ℕ) (x : ExportClass) → (let t = export_of e in with_token t.classes token ≡ Some x)
          → IsExported (part_there e) token x
      each token x at = by (slice_get (exported_classes e) token) refl (sym (by_token e token) ∙ at)
        where
          by : (o : Option Class) → slice_get (exported_classes e) token ≡ o → option_map (export_class e) o ≡ Some x
              → IsExported (part_there e) token x
          by None f g = cc
          by (Some c) f g =
              let s = sound_at packages linked r e there in
              let same : export_class e c ≡ x = cc in
              record {
                class = exported_class e c;
                listed = in_export e token ∙ ap (option_map (exported_class e)) f;
                there = info_there e c (exported_info e s.list s.sound token c f);
                methods = λ t m h. lists token t c m f (ap (λ (y : ExportClass). unbound_of y.methods t) same ∙ h);
              }

      no_other : (token : ℕ) → (let t = export_of e in with_token t.classes token ≡ None)
          → (let y = part_there e in slice_get y.exports token ≡ None)
      no_other token none = in_export e token ∙ by (slice_get (exported_classes e) token) (sym (by_token e token)
          ∙ none)
        where
          by : (o : Option Class) → option_map (export_class e) o ≡ None → option_map (exported_class e) o ≡ None
          by None g = refl
          by (Some c) g = cc

  pub all_lead : ((r : ℕ) (e : Package) → slice_get packages r ≡ Some e → ListsMethods e) → (q : ℕ) (p : Package)
      → slice_get packages q ≡ Some p → AllLead (group_of packages) (member_of p)
  all_lead lists q p here k t at = by (linked.imports q k p t (record { member = here; file = at }))
    where
      by : IsLinked packages q t → Leads (group_of packages) t
      by (to_package r e less there same) =
          subst (Leads (group_of packages)) (sym same) (loading.to_package r (part_there e) (number_of packages linked r
          e there) (part_at packages linked r e there) (is_export_of r e there (lists r e there)))
      by (to_outside out) =
          let j = flat_at (λ (f : Files). f.exports) (files_together packages) q k p.files t (together_at packages
          linked q p here) at in
          loading.to_outside (no_package (group_of packages) t.name out) (outside_kept (files_together packages) j.0 t
          j.1 out (λ i u there name. let y = listing packages linked i u there in linked.same q k y.part y.place p
          y.«package» t u (record { member = here; file = at }) y.listed out name))
