-- Static methods of classes from outside that a package calls: in the group each is the event of its name, by name and
-- by token.
use Rattle.std.proofs.Common.{◌≡◌, ℕ, ◌+◌, sym, ap, subst, ◌∙◌, Bool, true, false, List, Some, None}
use Rattle.std.specs.Prelude.{Option, option_and_then, option_map, slice_get, unwrap_or, if◌then◌else◌}
use Rattle.cjc_card_semantics.specs.Bytecode.Alike.{IsFound, reached_as}
use Rattle.cjc_card_semantics.specs.Bytecode.Machine.{Abroad, Nowhere, Reached}
use Rattle.cjc_card_semantics.specs.Bytecode.Renaming.{option_as, shape_as}
use Rattle.cjc_card_semantics.specs.Bytes.declared.fault.MemberId.{MemberId}
use Rattle.cjc_card_semantics.specs.CapRead.declared.tree.StaticRef.TheVariants as refs
use Rattle.cjc_card_semantics.specs.ExportFile.declared.tree.ExportClass.{ExportClass}
use Rattle.cjc_card_semantics.specs.ExportFile.declared.tree.ExportTree.{ExportTree}
use Rattle.cjc_card_semantics.specs.Machine.Calls.{reached, words}
use Rattle.cjc_card_semantics.specs.Machine.Loaded.{Loaded}
use Rattle.cjc_card_semantics.specs.Machine.Operations.{Outer, method_through, outer, static_method, unbound_of}
use Rattle.cjc_card_semantics.specs.Script.Sorts.{Shape, shape_name}
use Rattle.cjc_exported.specs.Narrow.Rows.Package.{words as words_by_name, words_where}
use Rattle.cjc_exported.specs.World.Classes.{Class, class_named, imported}
use Rattle.cjc_exported.specs.World.Files.{Files}
use Rattle.cjc_exported.specs.World.Lookup.{find_method, own_method}
use Rattle.cjc_exported.specs.World.Subtype.{is_subtype}
use Rattle.cjc_exported.proofs.WorldCycles.{class_named-name}
use Rattle.cjc_link_semantics.specs.Components.Names.{class_at, fixed_as, member_ref, member_token, method_ref}
use Rattle.cjc_link_semantics.specs.Components.Names.{offset_where}
use Rattle.cjc_link_semantics.specs.Components.Package.{Package, world}
use Rattle.cjc_link_semantics.specs.JvmSemantics.Group.{joint, joint_exports, joint_method}
use Rattle.cjc_link_semantics.specs.JvmSemantics.Linked.{Method}
use Rattle.cjc_link_semantics.specs.JvmSemantics.Linked
use Rattle.cjc_link_semantics.specs.JvmSemantics.OnePackage.{ResolvedMember, method_at, method_hit, of_class}
use Rattle.cjc_link_semantics.specs.Loaded.{group_loaded, import_as}
use Rattle.cjc_token_proof.proofs.VTableFiled.{at-number}
use Rattle.cjc_token_proof.specs.Calls.Reaching.{start_placed}
use Rattle.cjc_token_proof.specs.NCode.ByLabel as ByLabel
use Rattle.cjc_token_proof.specs.NCode.Lowering.Naming.{callee}
use Rattle.cjc_token_proof.specs.NCode.Lowering.Placed.{Placed}
use Rattle.cjc_token_proof.specs.Tables.Infos.{HasEntry}
use Rattle.cjc_token_proof.specs.Tables.Loading.{loaded, naming}
use Rattle.cjc_joint_proof.specs.JointAlike.{JointNaming, callee_at, code_at, offset_at}
use Rattle.cjc_joint_proof.specs.JointCalled.{NamesOutsideMethod}
use Rattle.cjc_joint_proof.specs.JointCode.{InPackage, of_package}
use Rattle.cjc_joint_proof.specs.JointNames.{callee_for, direct, direct_by, found_for, hit_for, joint_calls, reached_for}
use Rattle.cjc_joint_proof.specs.JointNames.{words_for}
use Rattle.cjc_joint_proof.specs.JointPackages.{AreLinked, class_together, files_together}
use Rattle.cjc_joint_proof.specs.JointTables.{world_together}
use Rattle.cjc_joint_proof.specs.JointTogether.{cell_together, field_together, names_by, naming_together}
use Rattle.cjc_joint_proof.specs.Loading.{group_of, member_of}
use Rattle.cjc_joint_proof.specs.Worlds.{IsForeign, found_at, hit_at, outside_classes}
use Rattle.cjc_joint_proof.proofs.AboveLaws.{flat_at}
use Rattle.cjc_joint_proof.proofs.ApartLaws.{apart_outside, import_named, packages_apart}
use Rattle.cjc_joint_proof.proofs.ClassLaws.{entry_in, kept_in, number_in, together_at, token_in}
use Rattle.cjc_joint_proof.proofs.ForeignLaws.{foreign_found, foreign_hit_at, foreign_method, foreign_owner}
use Rattle.cjc_joint_proof.proofs.LoadLaws.{import_at}
use Rattle.cjc_joint_proof.proofs.OutsideLaws.{no_package}
use Rattle.cjc_joint_proof.proofs.ReferLaws.{of_package as member_at}
use Rattle.cjc_joint_proof.proofs.StandLaws.{place_named}

module _ (packages : List Package) (linked : AreLinked packages) (at : Method → Placed) (q : ℕ) (p : Package)
    (here : slice_get packages q ≡ Some p) (id : MemberId) (c : NamesOutsideMethod packages p id) where
  abbrev l : Loaded
  l = group_loaded (group_of packages)

  abbrev group : List Files
  group = files_together packages

  abbrev w : List Class
  w = world_together packages

  abbrev g : JointNaming
  g = naming_together packages

  abbrev h : HasEntry p c.class
  h = c.entry

  abbrev file : ℕ
  file = number_in packages linked q p here id.class c.class c.known h c.outside

  kept : slice_get l.trees file ≡ Some h.tree
  kept = kept_in packages linked q p here id.class c.class c.known h c.outside

  -- ---- by name

  -- where the class stands in its file
  place : (k : ℕ) × (e : ExportClass) × (let t = h.tree in slice_get t.classes k ≡ Some e) × (e.name ≡ id.class)
  place = let t = h.tree in let v = h.entry in place_named t.classes id.class v.token (token_in packages linked q p here
      id.class c.class c.known h c.outside)

  numbers : (n : ℕ) × ((k : ℕ) (e : ExportClass) → (let t = h.tree in slice_get t.classes k ≡ Some e)
      → class_named (world p) e.name ≡ Some (imported (n + k) e))
  numbers = import_named packages linked q h.file p h.tree here h.in_list

  abbrev e : ExportClass
  e = place.1

  abbrev number : ℕ
  number = numbers.0 + place.0

  class_is : c.class ≡ imported number e
  class_is =
      let both : Some c.class ≡ Some (imported number e) = sym c.known ∙ ap (class_named (world p)) (sym place.3)
      ∙ numbers.1 place.0 e place.2 in cc

  foreign : IsForeign p.files number e
  foreign = at-number p.files id.class (imported number e) (c.known ∙ ap Some class_is)

  outside_place : (n : ℕ) × (slice_get (outside_classes group) n ≡ Some e)
  outside_place = flat_at (λ (t : ExportTree). t.classes) (joint_exports group) file place.0 h.tree e kept place.2

  own : own_method false id.name id.desc (imported number e) ≡ Some c.found
  own = ap (own_method false id.name id.desc) (sym class_is) ∙ c.own

  direct_is : direct (joint group) w p.files id ≡ Some (Linked.Abroad id)
  direct_is =
      let n = outside_place.0 in
      let owner = foreign_owner group (packages_apart packages linked) (apart_outside packages linked) n number p.files e
      outside_place.1 foreign id c.found own c.hit c.is_hit in
      let resolved : found_for (joint group) w p.files id ≡ Some (found_at n c.found) =
      ap (λ o. option_and_then (λ (hit : ResolvedMember). let owner = hit.owner in joint_method w owner id)
      (option_and_then (method_hit (world p)) o)) c.is_found
      ∙ ap (option_and_then (λ (hit : ResolvedMember). let owner = hit.owner in joint_method w owner id)) c.is_hit
      ∙ ap (λ d. joint_method w d id) owner
      ∙ foreign_method group (packages_apart packages linked) (apart_outside packages linked) n number p.files e
      outside_place.1 foreign id c.found own in
      ap (option_and_then (λ f. option_and_then (direct_by (joint group) w p.files id f) (method_hit w f))) resolved
      ∙ ap (option_and_then (direct_by (joint group) w p.files id (found_at n c.found))) (foreign_hit_at group (packages_apart
      packages linked) (apart_outside packages linked) n number p.files e outside_place.1 foreign id c.found own c.hit
      c.is_hit)
      ∙ ap (λ b. if b then Some (Linked.Abroad (of_class (let x = hit_at n c.hit in let owner = x.owner in owner.name)
      id)) else option_map Linked.Inside (method_at (joint group) (found_at n c.found))) (foreign_found group
      (packages_apart packages linked) (apart_outside packages linked) n number p.files e outside_place.1 foreign id
      c.found own)
      ∙ ap (λ y. Some (Linked.Abroad (of_class y id))) (ap (λ (d : Class). d.name) owner ∙ place.3)

  -- what is reached is that event, where anything is
  pub outside_is : (on : Bool) (o : Option (Shape (List ℕ))) (r : Reached (InPackage Placed))
      → (let calls = joint_calls group (start_placed at) in calls.reached (of_package q (ByLabel.Fixed on id)) o) ≡ r
      → IsFound r → r ≡ Abroad id
  outside_is on o r e is_found = by on o (sym (ap (λ x. reached_for group (start_placed at) (option_and_then (λ asker.
      callee_for (joint group) w asker (ByLabel.Fixed on id) o) x)) (together_at packages linked q p here)) ∙ e)
    where
      met : reached_for group (start_placed at) (direct (joint group) w p.files id) ≡ r → r ≡ Abroad id
      met h = sym h ∙ ap (reached_for group (start_placed at)) direct_is

      nothing : Nowhere ≡ r → r ≡ Abroad id
      nothing h = absurd (subst IsFound (sym h) is_found)

      by : (on : Bool) (o : Option (Shape (List ℕ))) → reached_for group (start_placed at) (callee_for (joint group) w
          p.files (ByLabel.Fixed on id) o) ≡ r → r ≡ Abroad id
      by false None h = met h
      by true None h = nothing h
      by on (Some kind) h = split (is_subtype w (shape_name kind) id.class) h
        where
          split : (b : Bool) → reached_for group (start_placed at) (if b then direct (joint group) w p.files id
              else None) ≡ r → r ≡ Abroad id
          split true h = met h
          split false h = nothing h

  -- ---- by token

  ref_is : method_ref p id ≡ refs.Outside h.file (let v = h.entry in v.token) (member_token p (Some c.found))
  ref_is =
      let method = find_method (world p) id.class id.name id.desc in
      let name : (let d = c.class in d.name) ≡ id.class = class_named-name (world p) id.class c.class c.known in
      ap (λ x. member_ref x (offset_where p method) (member_token p method)) (sym (ap (class_at p) name) ∙ h.on_card)
      ∙ ap (λ o. refs.Outside h.file (let v = h.entry in v.token) (member_token p o)) c.is_found

  method_is : (on : Bool) → static_method l q on (method_ref p id) ≡ Some (Outer on id)
  method_is on =
      let t = h.tree in
      let token = member_token p (Some c.found) in
      let entry_name : (let v = h.entry in v.name) ≡ id.class = sym (ap (λ (d : Class). d.name) h.class)
      ∙ class_named-name (world p) id.class c.class c.known in
      ap (static_method l q on) ref_is
      ∙ ap (option_and_then (method_through l on (let v = h.entry in v.token) token)) (import_at (group_of packages) q
      (member_of p) (member_at packages q p here) h.file (Some h.tree) h.in_list
      ∙ ap (λ o. Some (import_as l.trees t.name o)) (no_package (group_of packages) t.name c.outside))
      ∙ ap (option_and_then (λ (x : ExportClass). option_map (outer on x.name) (unbound_of x.methods token))) (entry_in
      packages linked q p here id.class c.class c.known h c.outside)
      ∙ ap (option_map (outer on (let v = h.entry in v.name))) c.listed
      ∙ ap (λ x. Some (Outer on (record {
        class = x;
        name = let m = c.method in m.name;
        desc = let m = c.method
            in m.desc;
      }))) entry_name
      ∙ ap (λ x. Some (Outer on (record { class = id.class; name = x; desc = let m = c.method in m.desc }))) c.name_is
      ∙ ap (λ x. Some (Outer on (record { class = id.class; name = id.name; desc = x }))) c.desc_is

  callee_is : (on : Bool) → callee_at g (of_package q (ByLabel.Fixed on id)) ≡ Outer on id
  callee_is on =
      ap (λ o. callee (record (names_by l q o) {
        loaded = l;
        part = q;
        class = class_together packages;
        field_token = field_together packages;
        cell = cell_together packages;
      }) (ByLabel.Fixed on id)) here
      ∙ ap (λ o. unwrap_or o (Outer on id)) (method_is on)

  pub outside_reach : (on : Bool) (o : Option (Shape (List ℕ))) (r : Reached (InPackage Placed))
      → (let calls = joint_calls group (start_placed at) in calls.reached (of_package q (ByLabel.Fixed on id)) o ≡ r)
      → IsFound r
      → reached l (callee_at g (of_package q (ByLabel.Fixed on id))) (option_as (shape_as (class_together packages)) o)
      ≡ reached_as (code_at g) (offset_at g) r
  outside_reach on o r e is_found =
      ap (λ x. reached l x (option_as (shape_as (class_together packages)) o)) (callee_is on)
      ∙ sym (ap (reached_as (code_at g) (offset_at g)) (outside_is on o r e is_found))

  pub outside_words : (on : Bool) → ((n : ℕ) → words_by_name p.files (world p) (ByLabel.Fixed on id) ≡ Some n
      → words (loaded p) (callee (naming p) (ByLabel.Fixed on id)) ≡ Some n) → (n : ℕ)
      → (let calls = joint_calls group (start_placed at) in calls.words (of_package q (ByLabel.Fixed on id)) ≡ Some n)
      → words l (callee_at g (of_package q (ByLabel.Fixed on id))) ≡ Some n
  outside_words on alone n e =
      let taken : words_by_name p.files (world p) (ByLabel.Fixed on id) ≡ Some n =
      ap (λ o. words_where on id (option_and_then (method_hit (world p)) o)) c.is_found ∙ ap (words_where on id)
      c.is_hit
      ∙ by_any (hit_for (joint group) w p.files id) (sym (ap (option_and_then (λ asker. words_for (joint group) w asker (ByLabel.Fixed
      on id))) (together_at packages linked q p here)) ∙ e) in
      ap (words l) (callee_is on) ∙ sym (ap (λ r. words (loaded p) (fixed_as on id r)) ref_is) ∙ alone n taken
    where
      by_any : (o : Option ResolvedMember) → words_where on id o ≡ Some n → words_where on id (Some c.hit) ≡ Some n
      by_any None h = cc
      by_any (Some x) h = h
