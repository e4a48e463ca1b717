-- Static methods that a package calls of a class of another package: in the group each is the method of that package, by
-- name and by token.
use Rattle.std.proofs.Common.{◌≡◌, ℕ, ◌+◌, refl, sym, ap, subst, ◌∙◌, Bool, true, false, List, [], ◌∷◌, length, map, Some}
use Rattle.std.proofs.Common.{None}
use Rattle.std.specs.Prelude.{Option, ◌&&◌, not, option_and_then, option_map, position, slice_get, unwrap_or}
use Rattle.std.specs.Prelude.{if◌then◌else◌}
use Rattle.cjc_card_semantics.specs.Bytecode.Alike.{IsFound, reached_as}
use Rattle.cjc_card_semantics.specs.Bytecode.Machine.{Nowhere, Reached, Start, Within}
use Rattle.cjc_card_semantics.specs.Bytecode.Renaming.{option_as, shape_as}
use Rattle.cjc_card_semantics.specs.Bytes.declared.fault.MemberId.{MemberId}
use Rattle.cjc_card_semantics.specs.CapRead.declared.tree.ExportedClass.{ExportedClass}
use Rattle.cjc_card_semantics.specs.CapRead.declared.tree.StaticRef.TheVariants as refs
use Rattle.cjc_card_semantics.specs.ExportFile.declared.tree.ExportTree.{ExportTree}
use Rattle.cjc_card_semantics.specs.Machine.Calls.{reached, with_code, words}
use Rattle.cjc_card_semantics.specs.Machine.Loaded.{Loaded, Part}
use Rattle.cjc_card_semantics.specs.Machine.Methods.{Code, start_of}
use Rattle.cjc_card_semantics.specs.Machine.Operations.{Fixed, Outer, method_through, static_method}
use Rattle.cjc_card_semantics.specs.Script.Sorts.{Shape, shape_name}
use Rattle.cjc_world.proofs.Upwards.{line_goes_up}
use Rattle.cjc_world.specs.Supertypes.{IsAcyclic, line}
use Rattle.cjc_exported.specs.ClassFile.declared.tree.ClassTree.{ClassTree}
use Rattle.cjc_exported.specs.Components.Methods.{method_offset, placed_methods}
use Rattle.cjc_exported.specs.Narrow.Rows.Package.{words_where}
use Rattle.cjc_exported.specs.World.Classes.{Class, Member, class_named, declared, field_of_class}
use Rattle.cjc_exported.specs.World.Classes.{method_of_class}
use Rattle.cjc_exported.specs.World.Files.{Files}
use Rattle.cjc_exported.specs.World.Interfaces.{gathered, known as known_interfaces}
use Rattle.cjc_exported.specs.World.Lookup.{find_method, first, is_called, or_else, own_method}
use Rattle.cjc_exported.specs.World.Subtype.{is_subtype}
use Rattle.cjc_exported.specs.World.Supertypes.{supertypes}
use Rattle.cjc_exported.specs.World.declared.found.Found.{Found}
use Rattle.cjc_exported.proofs.WorldCycles.{class_named-name}
use Rattle.cjc_link_semantics.specs.Components.Exports.{export}
use Rattle.cjc_link_semantics.specs.Components.Names.{class_at, member_ref, member_token, method_ref, offset_where}
use Rattle.cjc_link_semantics.specs.Components.Package.{Package, world}
use Rattle.cjc_link_semantics.specs.Components.Paired.Naming.{exported_in}
use Rattle.cjc_link_semantics.specs.JvmSemantics.Group.{find_exposed, is_exposed, joint, joint_method, own_where}
use Rattle.cjc_link_semantics.specs.JvmSemantics.Linked.{Inside, Method}
use Rattle.cjc_link_semantics.specs.JvmSemantics.OnePackage.{ResolvedMember, method_at, method_hit}
use Rattle.cjc_link_semantics.specs.Loaded.{group_loaded, import_as, package_number}
use Rattle.cjc_token_proof.specs.Calls.Reaching.{start_placed}
use Rattle.cjc_token_proof.specs.NCode.ByLabel as ByLabel
use Rattle.cjc_token_proof.specs.NCode.Lowering.Agreement.{IsAmong}
use Rattle.cjc_token_proof.specs.NCode.Lowering.Naming.{callee}
use Rattle.cjc_token_proof.specs.NCode.Lowering.Placed.{Placed}
use Rattle.cjc_token_proof.specs.WrittenCalls.Standing.{place}
use Rattle.cjc_token_proof.specs.Tables.Loading.{loaded}
use Rattle.cjc_joint_proof.specs.JointAlike.{IsOfGroup, JointNaming, callee_at, code_at, offset_at}
use Rattle.cjc_joint_proof.specs.JointCalled.{NamesSharedMethod, StandByPackage}
use Rattle.cjc_joint_proof.specs.JointCode.{InPackage, of_package}
use Rattle.cjc_joint_proof.specs.JointNames.{callee_for, direct, direct_by, found_for, hit_for, joint_calls, place_of}
use Rattle.cjc_joint_proof.specs.JointNames.{reached_for, start_for, words_for}
use Rattle.cjc_joint_proof.specs.JointPackages.{AreLinked, class_together, files_together}
use Rattle.cjc_joint_proof.specs.JointTables.{world_together}
use Rattle.cjc_joint_proof.specs.JointTogether.{cell_together, field_together, methods_together, names_by}
use Rattle.cjc_joint_proof.specs.JointTogether.{naming_together}
use Rattle.cjc_joint_proof.specs.Loading.{group_of, member_of}
use Rattle.cjc_joint_proof.specs.Parts.{start_in}
use Rattle.cjc_joint_proof.specs.Worlds.{IsListed, IsOwn, before, found_in, hit_in, own_member}
use Rattle.cjc_joint_proof.proofs.ApartLaws.{packages_apart}
use Rattle.cjc_joint_proof.proofs.CalledLaws.{begins_among, method_class, start_there}
use Rattle.cjc_joint_proof.proofs.ClassLaws.{number_of, part_at, together_at}
use Rattle.cjc_joint_proof.proofs.LoadLaws.{import_at}
use Rattle.cjc_joint_proof.proofs.MeantLaws.{part_of}
use Rattle.cjc_joint_proof.proofs.MemberLaws.{method_hit_moves, method_stays}
use Rattle.cjc_joint_proof.proofs.PartLaws.{starts_same}
use Rattle.cjc_joint_proof.proofs.ReferLaws.{of_package as member_at}
use Rattle.cjc_joint_proof.proofs.SoundLaws as sound
use Rattle.cjc_joint_proof.proofs.TogetherLaws.{at_home}
use Rattle.cjc_joint_proof.proofs.WorldLaws.{own_is_found}

-- ---- a public or protected method that a class declares

moves : (n k : ℕ) (at : ℕ → ℕ) (o : Option ℕ) → option_map (λ i. own_member (n + k) (at i)) o
    ≡ option_map (found_in n) (option_map (λ i. own_member k (at i)) o)
moves n k at None = refl
moves n k at (Some i) = refl

exposed_moves : (n k : ℕ) (t : ClassTree) (name desc : List ℕ) → own_where is_exposed name desc (declared (n + k) t)
    ≡ option_map (found_in n) (own_where is_exposed name desc (declared k t))
exposed_moves n k t name desc = moves n k (λ i. length (map field_of_class t.fields) + i) (position (λ (m : Member).
    is_exposed m.flags && is_called name desc m) (map method_of_class t.methods))

exposed_place : (k : ℕ) (t : ClassTree) (name desc : List ℕ) (f : Found) → own_where is_exposed name desc (declared k t)
    ≡ Some f → (place : ℕ) × (f ≡ own_member k place)
exposed_place k t name desc f e = by (position (λ (m : Member). is_exposed m.flags && is_called name desc m) (map
    method_of_class t.methods)) e
  where
    by : (o : Option ℕ) → option_map (λ i. own_member k (length (map field_of_class t.fields) + i)) o ≡ Some f
        → (place : ℕ) × (f ≡ own_member k place)
    by None g = cc
    by (Some i) g =
        let same : own_member k (length (map field_of_class t.fields) + i) ≡ f = cc in
        (length (map field_of_class t.fields) + i, sym same)

-- it is found from its class
exposed_first : (w : List Class) → IsAcyclic w → (id : MemberId) (n : ℕ) (t : ClassTree) (f : Found)
    → class_named w id.class ≡ Some (declared n t) → own_where is_exposed id.name id.desc (declared n t) ≡ Some f
    → find_exposed w id.class id ≡ Some f
unfolding first
exposed_first w acyclic id n t f known own =
    let own_at = own_where is_exposed id.name id.desc in
    let others = first own_at (known_interfaces (gathered false (supertypes w (id.class ∷ [])))) in
    ap (λ cs. or_else (first own_at cs) others) (line_goes_up w acyclic id.class t.superclass (declared n t) known refl)
    ∙ ap (λ o. or_else (or_else o (first own_at (line w t.superclass))) others) own

-- what a package token leads to
through_export : (r t n : ℕ) (on : Bool) (o : Option ExportedClass) → option_and_then (λ (x : ExportedClass). slice_get
    x.methods t) o ≡ Some n → option_and_then (λ (x : ExportedClass). option_map (Fixed on r) (slice_get x.methods t)) o
    ≡ Some (Fixed on r n)
through_export r t n on None e = cc
through_export r t n on (Some x) e = ap (option_map (Fixed on r)) e

module _ (packages : List Package) (linked : AreLinked packages) (acyclic : IsAcyclic (world_together packages))
    (at : Method → Placed) (stand : StandByPackage packages at) (q : ℕ) (p : Package)
    (here : slice_get packages q ≡ Some p) (id : MemberId) (c : NamesSharedMethod packages p id) where
  abbrev l : Loaded
  l = group_loaded (group_of packages)

  abbrev group : List Files
  group = files_together packages

  abbrev w : List Class
  w = world_together packages

  abbrev g : JointNaming
  g = naming_together packages

  abbrev r : ℕ
  r = c.part

  abbrev e : Package
  e = c.exporter

  abbrev n : ℕ
  n = before group r

  own_file : IsOwn group r c.number e.files c.tree
  own_file = record { member = together_at packages linked r e c.there; file = c.file }

  listed : IsListed e.files c.number c.tree
  listed = sound.listed group linked.sound r c.number e.files c.tree own_file

  known_there : class_named (world e) id.class ≡ Some (declared c.number c.tree)
  known_there = ap (class_named (world e)) (sym c.name) ∙ listed.name

  class_is : (let d = c.class in d.name) ≡ id.class
  class_is = class_named-name (world p) id.class c.class c.known

  joint_known : class_named w id.class ≡ Some (declared (n + c.number) c.tree)
  joint_known = ap (class_named w) (sym c.name) ∙ own_is_found group (packages_apart packages linked) r c.number e.files
      c.tree own_file

  met_place : (place : ℕ) × (c.met ≡ own_member c.number place)
  met_place = exposed_place c.number c.tree id.name id.desc c.met c.exposed

  -- ---- by name

  method_there : joint_method w c.class id ≡ Some (found_in n c.met)
  method_there =
      let h = c.entry in
      let foreign : (let d = c.class in d.is_imported) ≡ true = ap (λ (d : Class). d.is_imported) h.class in
      ap (option_and_then (λ (d : Class). if (let x = c.class in x.is_imported) && not d.is_imported then find_exposed w
      (let x = c.class in x.name) id else own_method false id.name id.desc d)) (ap (class_named w) class_is
      ∙ joint_known)
      ∙ ap (λ b. if b && true then find_exposed w (let x = c.class in x.name) id else own_method false id.name id.desc
      (declared (n + c.number) c.tree)) foreign
      ∙ ap (λ y. find_exposed w y id) class_is
      ∙ exposed_first w acyclic id (n + c.number) c.tree (found_in n c.met) joint_known (exposed_moves n c.number c.tree
      id.name id.desc ∙ ap (option_map (found_in n)) c.exposed)

  hit_there : method_hit w (found_in n c.met) ≡ Some (hit_in n c.met_hit)
  hit_there = ap (λ f. method_hit w (found_in n f)) met_place.1
      ∙ (method_hit_moves group r c.number e.files c.tree own_file listed met_place.0
      ∙ ap (option_map (hit_in n)) (ap (method_hit (world e)) (sym met_place.1) ∙ c.is_met_hit))

  code_here : method_at (joint group) (found_in n c.met) ≡ Some c.method
  code_here = ap (λ f. method_at (joint group) (found_in n f)) met_place.1
      ∙ (method_stays group r c.number e.files c.tree own_file met_place.0
      ∙ ap (method_at e.files) (sym met_place.1) ∙ c.is_method)

  direct_is : direct (joint group) w p.files id ≡ Some (Inside c.method)
  direct_is =
      let resolved : found_for (joint group) w p.files id ≡ Some (found_in n c.met) =
      ap (λ o. option_and_then (λ (hit : ResolvedMember). let owner = hit.owner in joint_method w owner id)
      (option_and_then (method_hit (world p)) o)) c.is_found
      ∙ ap (option_and_then (λ (hit : ResolvedMember). let owner = hit.owner in joint_method w owner id)) c.is_hit
      ∙ ap (λ d. joint_method w d id) c.owner ∙ method_there in
      ap (option_and_then (λ f. option_and_then (direct_by (joint group) w p.files id f) (method_hit w f))) resolved
      ∙ ap (option_and_then (direct_by (joint group) w p.files id (found_in n c.met))) hit_there
      ∙ ap (λ f. direct_by (joint group) w p.files id (found_in n f) (hit_in n c.met_hit)) met_place.1
      ∙ ap (option_map Inside) (ap (λ f. method_at (joint group) (found_in n f)) (sym met_place.1) ∙ code_here)

  -- what is reached is that method, where anything is
  reached_is : (on : Bool) (o : Option (Shape (List ℕ))) (v : Reached (InPackage Placed))
      → (let calls = joint_calls group (start_placed at) in calls.reached (of_package q (ByLabel.Fixed on id)) o) ≡ v
      → IsFound v → v ≡ Within (start_for group (start_placed at) c.method)
  reached_is on o v is is_found = by on o (sym (ap (λ x. reached_for group (start_placed at) (option_and_then (λ asker.
      callee_for (joint group) w asker (ByLabel.Fixed on id) o) x)) (together_at packages linked q p here)) ∙ is)
    where
      met_is : reached_for group (start_placed at) (direct (joint group) w p.files id) ≡ v
          → v ≡ Within (start_for group (start_placed at) c.method)
      met_is k = sym k ∙ ap (reached_for group (start_placed at)) direct_is

      nothing : Nowhere ≡ v → v ≡ Within (start_for group (start_placed at) c.method)
      nothing k = absurd (subst IsFound (sym k) is_found)

      by : (on : Bool) (o : Option (Shape (List ℕ))) → reached_for group (start_placed at) (callee_for (joint group) w
          p.files (ByLabel.Fixed on id) o) ≡ v → v ≡ Within (start_for group (start_placed at) c.method)
      by false None k = met_is k
      by true None k = nothing k
      by on (Some kind) k = split (is_subtype w (shape_name kind) id.class) k
        where
          split : (b : Bool) → reached_for group (start_placed at) (if b then direct (joint group) w p.files id
              else None) ≡ v → v ≡ Within (start_for group (start_placed at) c.method)
          split true k = met_is k
          split false k = nothing k

  -- ---- by token

  ref_is : method_ref p id ≡ refs.Outside (let h = c.entry in h.file) (let h = c.entry in let v = h.entry in v.token)
      (member_token p (Some c.found))
  ref_is =
      let h = c.entry in
      let method = find_method (world p) id.class id.name id.desc in
      ap (λ x. member_ref x (offset_where p method) (member_token p method)) (sym (ap (class_at p) class_is)
      ∙ h.on_card)
      ∙ ap (λ o. refs.Outside h.file (let v = h.entry in v.token) (member_token p o)) c.is_found

  method_is : (on : Bool) → static_method l q on (method_ref p id) ≡ Some (Fixed on r (method_offset e c.met))
  method_is on =
      let h = c.entry in
      let class = (let v = h.entry in v.token) in
      let token = member_token p (Some c.found) in
      let t = h.tree in
      let number = ap (λ (v : ExportTree). package_number (group_of packages) v.name) c.written ∙ number_of packages linked r e c.there in
      ap (static_method l q on) ref_is
      ∙ ap (option_and_then (method_through l on class token)) (import_at (group_of packages) q (member_of p) (member_at
      packages q p here) h.file (Some h.tree) h.in_list ∙ ap (λ o. Some (import_as l.trees t.name o)) number)
      ∙ ap (option_and_then (λ (part : Part). option_and_then (λ (x : ExportedClass). option_map (Fixed on r) (slice_get
      x.methods token)) (slice_get part.exports class))) (part_at packages linked r e c.there)
      ∙ through_export r token (method_offset e c.met) on (slice_get (exported_in (export e)) class) c.listed

  callee_is : (on : Bool) → callee_at g (of_package q (ByLabel.Fixed on id)) ≡ Fixed on r (method_offset e c.met)
  callee_is on =
      ap (λ o. callee (record (names_by l q o) {
        loaded = l;
        part = q;
        class = class_together packages;
        field_token = field_together packages;
        cell = cell_together packages;
      }) (ByLabel.Fixed on id)) here
      ∙ ap (λ o. unwrap_or o (Outer on id)) (method_is on)

  home : (let x = c.method in let m = x.id in place_of group m.class ≡ r)
  home = ap (place_of group) (method_class e.files c.met c.number c.tree c.method c.file (ap (λ (f : Found). f.class)
      met_place.1) c.is_method ∙ c.name) ∙ at_home packages linked r e c.there id.class (record {
        class = declared c.number c.tree;
        there = known_there;
        own = refl;
      })

  pub shared_reach : (on : Bool) (o : Option (Shape (List ℕ))) (v : Reached (InPackage Placed))
      → (let calls = joint_calls group (start_placed at) in calls.reached (of_package q (ByLabel.Fixed on id)) o ≡ v)
      → IsFound v
      → reached l (callee_at g (of_package q (ByLabel.Fixed on id))) (option_as (shape_as (class_together packages)) o)
      ≡ reached_as (code_at g) (offset_at g) v
  shared_reach on o v is is_found =
      ap (λ x. reached l x (option_as (shape_as (class_together packages)) o)) (callee_is on)
      ∙ ap with_code (starts_same (loaded e) l r (part_of packages linked r e c.there) (method_offset e c.met)
      ∙ ap (option_map (start_in r)) c.begins ∙ ap Some (start_there packages linked at stand r e c.there c.method home))
      ∙ sym (ap (reached_as (code_at g) (offset_at g)) (reached_is on o v is is_found))

  pub shared_words : (on : Bool) → ((k : ℕ) → words_where on id (Some c.met_hit) ≡ Some k
      → words (loaded e) (Fixed on 0 (method_offset e c.met)) ≡ Some k) → (k : ℕ)
      → (let calls = joint_calls group (start_placed at) in calls.words (of_package q (ByLabel.Fixed on id)) ≡ Some k)
      → words l (callee_at g (of_package q (ByLabel.Fixed on id))) ≡ Some k
  shared_words on alone k is =
      ap (words l) (callee_is on)
      ∙ ap (option_map (λ (s : Start Code). s.nargs)) (starts_same (loaded e) l r (part_of packages linked r e c.there)
      (method_offset e c.met))
      ∙ same_words (start_of (loaded e) 0 (method_offset e c.met))
      ∙ alone k (by_any (hit_for (joint group) w p.files id) (sym (ap (option_and_then (λ asker. words_for (joint group)
      w asker (ByLabel.Fixed on id))) (together_at packages linked q p here)) ∙ is))
    where
      by_any : (o : Option ResolvedMember) → words_where on id o ≡ Some k → words_where on id (Some c.met_hit) ≡ Some k
      by_any None h = cc
      by_any (Some x) h = h

      same_words : (o : Option (Start Code)) → option_map (λ (s : Start Code). s.nargs) (option_map (start_in r) o)
          ≡ option_map (λ (s : Start Code). s.nargs) o
      same_words None = refl
      same_words (Some s) = refl

  pub shared_stand : IsAmong (placed_methods e) (place e c.method) → (on : Bool) (o : Option (Shape (List ℕ)))
      (start : Start (InPackage Placed)) → (let calls = joint_calls group (start_placed at) in calls.reached (of_package
      q (ByLabel.Fixed on id)) o ≡ Within start) → IsOfGroup l (methods_together packages) start.code
  shared_stand among on o start is =
      let both = reached_is on o (Within start) is tt in
      let same : start ≡ start_for group (start_placed at) c.method = cc in
      subst (λ (s : Start (InPackage Placed)). IsOfGroup l (methods_together packages) s.code) (sym same) (begins_among
      packages linked at stand r e c.there c.method home among)
