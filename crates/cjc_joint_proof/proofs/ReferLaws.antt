-- Class_refs of a package in a group of packages: each means the class of its name in the package that declares it.
use Rattle.std.proofs.Common.{◌≡◌, ℕ, refl, sym, ap, subst, ◌∙◌, true, List, Some, None}
use Rattle.std.specs.Prelude.{Option, is_some, option_map, slice_get, unwrap_or, if◌then◌else◌}
use Rattle.cjc_token_proof.proofs.BytesGets.{get_mapped}
use Rattle.cjc_card_semantics.specs.Machine.Classes.{External, Own, class_of, info_of, or_else}
use Rattle.cjc_card_semantics.specs.Machine.Classes.{with_token}
use Rattle.cjc_exported.specs.World.Classes.{Class, declared}
use Rattle.cjc_link_semantics.specs.Components.ExportFile.{export_of}
use Rattle.cjc_link_semantics.specs.Components.Exports.{exported_classes}
use Rattle.cjc_link_semantics.specs.Components.Names.{class_offset, class_ref}
use Rattle.cjc_link_semantics.specs.Components.Package.{Package}
use Rattle.cjc_exported.proofs.ExportLaws.Own.{own_class}
use Rattle.cjc_link_semantics.specs.Loaded.{group_loaded, package_number, tree_number}
use Rattle.cjc_token_proof.proofs.TablesLaws.Filed.{own_in}
use Rattle.cjc_token_proof.proofs.TablesLaws.Named.{has_info}
use Rattle.cjc_token_proof.specs.Tables.Infos.{HasEntry, HasInfo}
use Rattle.cjc_token_proof.specs.Tables.Loading.{loaded}
use Rattle.cjc_token_proof.specs.Tables.Sound.{IsSound}
use Rattle.cjc_joint_proof.specs.Loading.{group_of, member_of, offset_in}
use Rattle.cjc_joint_proof.proofs.ExportLaws.{exporting, leads_by_name}
use Rattle.cjc_joint_proof.proofs.LoadLaws.{external_at, is_part, leads_outside}
use Rattle.cjc_joint_proof.proofs.PartLaws.{infos_same}

-- the offset of an info is that of its name
pub offset_is : (p : Package) (c : Class) (h : HasInfo p c) → offset_in p c.name ≡ h.offset
offset_is p c h = by (class_offset p c.name) (sym (ap (λ o. unwrap_or (or_else (option_map (Own 0) (class_offset p
    c.name)) o) (Own 0 0)) h.in_no_file) ∙ h.on_card)
  where
    by : (o : Option ℕ) → unwrap_or (or_else (option_map (Own 0) o) None) (Own 0 0) ≡ Own 0 h.offset
        → unwrap_or o 0 ≡ h.offset
    by None e = cc
    by (Some n) e = cc

pub info_there : (p : Package) (c : Class) → HasInfo p c → is_some (info_of (loaded p) 0 (offset_in p c.name)) ≡ true
info_there p c h = ap (λ o. is_some (info_of (loaded p) 0 o)) (offset_is p c h) ∙ ap is_some h.info

-- a class that others may name has an info
pub exported_info : (e : Package) (list : List ℕ) → IsSound list e.files → (k : ℕ) (d : Class)
    → slice_get (exported_classes e) k ≡ Some d → HasInfo e d
exported_info e list s k d at =
    let own = own_class e k d at in
    let files = e.files in
    let c = declared own.number own.tree in
    let info = has_info list e s (declared own.number own.tree) (own_in files s.classes s.exports own.number own.tree
    own.is_tree) refl in
    subst (HasInfo e) {x = c} (sym own.is) info

module _ (packages : List Package) (q : ℕ) (p : Package) (here : slice_get packages q ≡ Some p) where
  pub of_package : slice_get (group_of packages) q ≡ Some (member_of p)
  of_package = get_mapped member_of packages q ∙ ap (option_map member_of) here

  pub own_ref : (c : Class) → HasInfo p c → class_of (group_loaded (group_of packages)) q (class_ref p c.name)
      ≡ Some (Own q (offset_in p c.name))
  own_ref c h =
      let l = group_loaded (group_of packages) in
      let info = infos_same (loaded p) l q (is_part (group_of packages) q (member_of p) of_package) h.offset ∙ h.info in
      ap (class_of l q) h.ref
      ∙ (ap (λ o. if is_some o then Some (Own q h.offset) else None) info
      ∙ ap (λ o. Some (Own q o)) (sym (offset_is p c h)))

  module _ (r : ℕ) (e : Package) (there : slice_get packages r ≡ Some e) (list : List ℕ) (sound : IsSound list e.files)
      (number : package_number (group_of packages) (let t = export_of e in t.name) ≡ Some r) where
    pub imported_ref : (c : Class) (h : HasEntry p c) → h.tree ≡ export_of e
        → class_of (group_loaded (group_of packages)) q (class_ref p c.name) ≡ Some (Own r (offset_in e c.name))
    imported_ref c h same =
        let l = group_loaded (group_of packages) in
        let entry = h.entry in
        let listed : (let files = p.files in slice_get files.exports h.file ≡ Some (export_of e)) = h.in_list ∙ ap Some
        same in
        let is : (let t = export_of e in with_token t.classes entry.token ≡ Some entry) = sym (external_at (loaded p)
        h.file entry.token (Some (export_of e)) listed) ∙ h.there in
        let x = exporting packages q r p e h.file entry.token entry here there listed number is in
        let d = x.class in
        let info = exported_info e list sound entry.token d x.at in
        let name : entry.name ≡ c.name = sym (ap (λ (y : Class). y.name) h.class) in
        let has = sym (ap (λ y. is_some (info_of (loaded e) 0 (offset_in e y))) x.name) ∙ info_there e d info in
        ap (class_of l q) h.ref
        ∙ (leads_by_name packages q r p e h.file entry.token entry here there listed number is has
        ∙ ap (λ y. Some (Own r (offset_in e y))) name)

  pub outside_ref : (c : Class) (h : HasEntry p c)
      → package_number (group_of packages) (let t = h.tree in t.name) ≡ None
      → (let l = group_loaded (group_of packages) in let t = h.tree in slice_get l.trees (tree_number l.trees t.name)
      ≡ Some h.tree)
      → class_of (group_loaded (group_of packages)) q (class_ref p c.name)
      ≡ Some (External (tree_number (let l = group_loaded (group_of packages) in l.trees) (let t = h.tree in t.name))
      (let e = h.entry in e.token))
  outside_ref c h number kept =
      let l = group_loaded (group_of packages) in
      let entry = h.entry in
      let t = h.tree in
      let is : with_token t.classes entry.token ≡ Some entry = sym (external_at (loaded p) h.file entry.token (Some
      h.tree) h.in_list) ∙ h.there in
      ap (class_of l q) h.ref
      ∙ leads_outside (group_of packages) q (member_of p) of_package h.file entry.token h.tree h.in_list entry is number
      kept
