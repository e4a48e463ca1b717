-- Static methods, constructors and private methods of a package's own classes, which its code calls: in the group each
-- is that very method, by name and by token.
use Rattle.std.proofs.Common.{◌≡◌, ℕ, refl, sym, ap, subst, ◌∙◌, Bool, true, false, List, [], ◌∷◌, Some, None}
use Rattle.std.specs.Prelude.{Option, option_and_then, option_map, slice_get, unwrap_or, if◌then◌else◌}
use Rattle.cjc_card_semantics.specs.Bytecode.Alike.{IsFound, reached_as}
use Rattle.cjc_card_semantics.specs.Bytecode.Machine.{Nowhere, Reached, Start, Within}
use Rattle.cjc_card_semantics.specs.Bytecode.Renaming.{option_as, shape_as}
use Rattle.cjc_card_semantics.specs.Bytes.declared.fault.MemberId.{MemberId}
use Rattle.cjc_card_semantics.specs.CapRead.declared.tree.StaticRef.TheVariants as refs
use Rattle.cjc_card_semantics.specs.Machine.Calls.{reached, with_code, words}
use Rattle.cjc_card_semantics.specs.Machine.Loaded.{Loaded}
use Rattle.cjc_card_semantics.specs.Machine.Methods.{Code, start_of}
use Rattle.cjc_card_semantics.specs.Machine.Operations.{Fixed, Outer, static_method}
use Rattle.cjc_card_semantics.specs.Script.Sorts.{Shape, shape_name}
use Rattle.cjc_exported.specs.ClassFile.declared.tree.ClassTree.{ClassTree}
use Rattle.cjc_exported.specs.Components.Methods.{method_offset, placed_methods}
use Rattle.cjc_exported.specs.Narrow.Rows.Package.{words as words_by_name, words_where}
use Rattle.cjc_exported.specs.World.Classes.{Class, class_named, declared}
use Rattle.cjc_exported.specs.World.Files.{Files}
use Rattle.cjc_exported.specs.World.Lookup.{find_method, own_method}
use Rattle.cjc_exported.specs.World.Subtype.{is_subtype}
use Rattle.cjc_exported.specs.World.declared.found.Found.{Found}
use Rattle.cjc_exported.proofs.WorldCycles.{class_named-name}
use Rattle.cjc_link_semantics.specs.Components.Names.{class_at, fixed_as, member_ref, member_token, method_ref, offset_where}
use Rattle.cjc_link_semantics.specs.Components.Package.{Package, world}
use Rattle.cjc_link_semantics.specs.JvmSemantics.Group.{joint, joint_method}
use Rattle.cjc_link_semantics.specs.JvmSemantics.Linked.{Inside, Method}
use Rattle.cjc_link_semantics.specs.JvmSemantics.Linked
use Rattle.cjc_link_semantics.specs.JvmSemantics.OnePackage.{ResolvedMember, method_at, method_hit, method_in, of_class}
use Rattle.cjc_link_semantics.specs.Loaded.{group_loaded}
use Rattle.cjc_token_proof.specs.Calls.Reaching.{start_placed}
use Rattle.cjc_token_proof.specs.NCode.ByLabel as ByLabel
use Rattle.cjc_token_proof.specs.NCode.Lowering.Agreement.{IsAmong}
use Rattle.cjc_token_proof.specs.NCode.Lowering.Naming.{callee}
use Rattle.cjc_token_proof.specs.NCode.Lowering.Placed.{Placed, start_on_card}
use Rattle.cjc_token_proof.specs.Tables.Loading.{loaded, naming}
use Rattle.cjc_token_proof.specs.WrittenCalls.Standing.{place}
use Rattle.cjc_token_proof.proofs.TablesLaws.Clean.{has_named}
use Rattle.cjc_token_proof.proofs.TablesLaws.Named.{has_info}
use Rattle.cjc_token_proof.proofs.WrittenCalls.Found.{own_is}
use Rattle.cjc_joint_proof.specs.JointAlike.{IsOfGroup, JointNaming, callee_at, code_at, offset_at}
use Rattle.cjc_joint_proof.specs.JointCalled.{NamesOwnMethod, StandByPackage}
use Rattle.cjc_joint_proof.specs.JointCode.{InPackage, of_package}
use Rattle.cjc_joint_proof.specs.JointNames.{callee_for, direct, direct_by, found_for, joint_calls, reached_for}
use Rattle.cjc_joint_proof.specs.JointNames.{hit_for, place_of, start_for, words_for}
use Rattle.cjc_joint_proof.specs.JointPackages.{AreLinked, class_together, files_together}
use Rattle.cjc_joint_proof.specs.JointTables.{world_together}
use Rattle.cjc_joint_proof.specs.JointTogether.{cell_together, field_together, methods_together, names_by}
use Rattle.cjc_joint_proof.specs.JointTogether.{naming_together}
use Rattle.cjc_joint_proof.specs.Loading.{group_of}
use Rattle.cjc_joint_proof.specs.Parts.{start_in}
use Rattle.cjc_joint_proof.specs.Worlds.{IsListed, IsOwn, before, found_in, hit_in}
use Rattle.cjc_joint_proof.proofs.ApartLaws.{packages_apart}
use Rattle.cjc_joint_proof.proofs.CalledLaws.{begins_among, method_class, start_there}
use Rattle.cjc_joint_proof.proofs.ClassLaws.{sound_at, together_at}
use Rattle.cjc_joint_proof.proofs.MeantLaws.{part_of}
use Rattle.cjc_joint_proof.proofs.MemberLaws.{code_together, hit_together, method_resolves, owner_is}
use Rattle.cjc_joint_proof.proofs.PartLaws.{starts_same}
use Rattle.cjc_joint_proof.proofs.SoundLaws as sound
use Rattle.cjc_joint_proof.proofs.TogetherLaws.{at_home}

module _ (packages : List Package) (linked : AreLinked packages) (at : Method → Placed)
    (stand : StandByPackage packages at) (q : ℕ) (p : Package) (here : slice_get packages q ≡ Some p) (id : MemberId)
    (k : ℕ) (t : ClassTree) (file : let files = p.files in slice_get files.classes k ≡ Some t) (name : t.name ≡ id.class)
    (known : class_named (world p) id.class ≡ Some (declared k t)) (f : Found)
    (own : own_method false id.name id.desc (declared k t) ≡ Some f)
    (found : find_method (world p) id.class id.name id.desc ≡ Some f) (m : Method)
    (there : method_at p.files f ≡ Some m) where
  abbrev l : Loaded
  l = group_loaded (group_of packages)

  abbrev group : List Files
  group = files_together packages

  abbrev w : List Class
  w = world_together packages

  abbrev g : JointNaming
  g = naming_together packages

  own_file : IsOwn group q k p.files t
  own_file = record { member = together_at packages linked q p here; file = file }

  listed : IsListed p.files k t
  listed = sound.listed group linked.sound q k p.files t own_file

  -- ---- by name

  module _ (hit : ResolvedMember) (is : method_hit (world p) f ≡ Some hit) where
    direct_is : direct (joint group) w p.files id ≡ Some (Inside m)
    direct_is =
        let n = before group q in
        let resolved : found_for (joint group) w p.files id ≡ Some (found_in n f) =
        ap (λ o. option_and_then (λ (hit : ResolvedMember). let owner = hit.owner in joint_method w owner id)
        (option_and_then (method_hit (world p)) o)) found
        ∙ ap (option_and_then (λ (hit : ResolvedMember). let owner = hit.owner in joint_method w owner id)) is
        ∙ ap (λ d. joint_method w d id) (owner_is group (packages_apart packages linked) q k p.files t own_file listed
        id f own hit is)
        ∙ method_resolves group (packages_apart packages linked) q k p.files t own_file listed id f own in
        ap (option_and_then (λ f. option_and_then (direct_by (joint group) w p.files id f) (method_hit w f))) resolved
        ∙ ap (option_and_then (direct_by (joint group) w p.files id (found_in n f))) (hit_together group (packages_apart packages
        linked) q k p.files t own_file listed id f own hit is)
        ∙ inside (method_at (joint group) (found_in n f)) refl
      where
        inside : (o : Option Method) → method_at (joint group) (found_in (before group q) f) ≡ o
            → direct_by (joint group) w p.files id (found_in (before group q) f) (hit_in (before group q) hit) ≡ Some (Inside m)
        inside o e = by f.imported refl
          where
            same : method_at (joint group) (found_in (before group q) f) ≡ Some m
            same = code_together group (packages_apart packages linked) q k p.files t own_file listed id f own ∙ there

            by : (b : Bool) → f.imported ≡ b
                → direct_by (joint group) w p.files id (found_in (before group q) f) (hit_in (before group q) hit)
                ≡ Some (Inside m)
            by false own_f =
                ap (λ b. if b then Some (Linked.Abroad (of_class
                (let h = hit_in (before group q) hit in let owner = h.owner in owner.name) id))
                else option_map Inside (method_at (joint group) (found_in (before group q) f))) own_f
                ∙ ap (option_map Inside) same
            by true foreign =
                let no : None ≡ Some m = sym (ap (λ b. if b then None else option_and_then (method_in f.member) (let files = p.files in slice_get files.classes f.class)) foreign) ∙ there in
                absurd cc

    -- what is reached is that method, where anything is
    reached_is : (on : Bool) (o : Option (Shape (List ℕ))) (r : Reached (InPackage Placed))
        → (let calls = joint_calls group (start_placed at) in calls.reached (of_package q (ByLabel.Fixed on id)) o) ≡ r
        → IsFound r → r ≡ Within (start_for group (start_placed at) m)
    reached_is on o r e is_found = by on o (sym (ap (λ x. reached_for group (start_placed at) (option_and_then (λ asker.
        callee_for (joint group) w asker (ByLabel.Fixed on id) o) x)) (together_at packages linked q p here)) ∙ e)
      where
        met : reached_for group (start_placed at) (direct (joint group) w p.files id) ≡ r
            → r ≡ Within (start_for group (start_placed at) m)
        met h = sym h ∙ ap (reached_for group (start_placed at)) direct_is

        nothing : Nowhere ≡ r → r ≡ Within (start_for group (start_placed at) m)
        nothing h = absurd (subst IsFound (sym h) is_found)

        by : (on : Bool) (o : Option (Shape (List ℕ))) → reached_for group (start_placed at) (callee_for (joint group) w
            p.files (ByLabel.Fixed on id) o) ≡ r → r ≡ Within (start_for group (start_placed at) m)
        by false None h = met h
        by true None h = nothing h
        by on (Some kind) h = split (is_subtype w (shape_name kind) id.class) h
          where
            split : (b : Bool) → reached_for group (start_placed at) (if b then direct (joint group) w p.files id
                else None) ≡ r → r ≡ Within (start_for group (start_placed at) m)
            split true h = met h
            split false h = nothing h

  -- ---- by token

  ref_is : method_ref p id ≡ refs.Inside (method_offset p f)
  ref_is =
      let s = sound_at packages linked q p here in
      let h = has_info s.list p s.sound (declared k t) (has_named (world p) id.class (declared k t) known) refl in
      let method = find_method (world p) id.class id.name id.desc in
      ap (λ c. member_ref c (offset_where p method) (member_token p method)) (sym (ap (class_at p) name) ∙ h.on_card)
      ∙ ap (λ o. refs.Inside (offset_where p o)) found

  callee_is : (on : Bool) → callee_at g (of_package q (ByLabel.Fixed on id)) ≡ Fixed on q (method_offset p f)
  callee_is on =
      ap (λ o. callee (record (names_by l q o) {
        loaded = l;
        part = q;
        class = class_together packages;
        field_token = field_together packages;
        cell = cell_together packages;
      }) (ByLabel.Fixed on id)) here
      ∙ ap (λ r. unwrap_or (static_method l q on r) (Outer on id)) ref_is

  -- where the package by itself has the method at its offset, the call reaches it in the group
  pub fixed_reaches : (let n = naming p in start_of n.loaded n.part (method_offset p f) ≡ Some (start_on_card n
      m.is_abstract (place p m))) → (let x = m.id in place_of group x.class ≡ q)
      → (hit : ResolvedMember) → method_hit (world p) f ≡ Some hit → (on : Bool) (o : Option (Shape (List ℕ)))
      (r : Reached (InPackage Placed)) → (let calls = joint_calls group (start_placed at) in calls.reached (of_package q
      (ByLabel.Fixed on id)) o) ≡ r → IsFound r
      → reached l (callee_at g (of_package q (ByLabel.Fixed on id))) (option_as (shape_as (class_together packages)) o)
      ≡ reached_as (code_at g) (offset_at g) r
  fixed_reaches begins home hit is on o r e is_found =
      ap (λ c. reached l c (option_as (shape_as (class_together packages)) o)) (callee_is on)
      ∙ ap with_code (starts_same (loaded p) l q (part_of packages linked q p here) (method_offset p f)
      ∙ ap (option_map (start_in q)) begins ∙ ap Some (start_there packages linked at stand q p here m home))
      ∙ sym (ap (reached_as (code_at g) (offset_at g)) (reached_is hit is on o r e is_found))

  -- the words that it takes, where it takes them in the package by itself
  pub fixed_words : (hit : ResolvedMember) → method_hit (world p) f ≡ Some hit → (on : Bool)
      → ((n : ℕ) → words_by_name p.files (world p) (ByLabel.Fixed on id) ≡ Some n
      → words (loaded p) (callee (naming p) (ByLabel.Fixed on id)) ≡ Some n) → (n : ℕ)
      → (let calls = joint_calls group (start_placed at) in calls.words (of_package q (ByLabel.Fixed on id)) ≡ Some n)
      → words l (callee_at g (of_package q (ByLabel.Fixed on id))) ≡ Some n
  fixed_words hit is on alone n e =
      let taken : words_by_name p.files (world p) (ByLabel.Fixed on id) ≡ Some n =
      ap (λ o. words_where on id (option_and_then (method_hit (world p)) o)) found ∙ ap (words_where on id) is
      ∙ by_any (hit_for (joint group) w p.files id) (sym (ap (option_and_then (λ asker. words_for (joint group) w asker (ByLabel.Fixed
      on id))) (together_at packages linked q p here)) ∙ e) in
      ap (words l) (callee_is on)
      ∙ ap (option_map (λ (s : Start Code). s.nargs)) (starts_same (loaded p) l q (part_of packages linked q p here)
      (method_offset p f))
      ∙ same_words (start_of (loaded p) 0 (method_offset p f))
      ∙ sym (ap (λ r. words (loaded p) (fixed_as on id r)) ref_is)
      ∙ alone n taken
    where
      by_any : (o : Option ResolvedMember) → words_where on id o ≡ Some n → words_where on id (Some hit) ≡ Some n
      by_any None h = cc
      by_any (Some x) h = h

      same_words : (o : Option (Start Code)) → option_map (λ (s : Start Code). s.nargs) (option_map (start_in q) o)
          ≡ option_map (λ (s : Start Code). s.nargs) o
      same_words None = refl
      same_words (Some s) = refl

-- the package of such a method
own_home : (packages : List Package) (linked : AreLinked packages) (q : ℕ) (p : Package) → slice_get packages q ≡ Some p
    → (id : MemberId) (c : NamesOwnMethod p id) → (let x = c.method in let m = x.id in place_of (files_together packages)
    m.class ≡ q)
own_home packages linked q p here id c =
    let t = c.class in
    let d = declared c.number c.class in
    let name : t.name ≡ id.class = class_named-name (world p) id.class d c.known in
    let place_is = own_is (d ∷ []) false id.name id.desc d c.found c.own in
    let class_is = method_class p.files c.found c.number c.class c.method c.file (ap (λ (x : Found). x.class)
    place_is.is) c.there in
    ap (place_of (files_together packages)) (class_is ∙ name) ∙ at_home packages linked q p here id.class (record {
      class = d;
      there = c.known;
      own = refl;
    })

pub own_calls_reach : (packages : List Package) → AreLinked packages → (at : Method → Placed)
    → StandByPackage packages at → (q : ℕ) (p : Package) → slice_get packages q ≡ Some p → (id : MemberId)
    → NamesOwnMethod p id → (on : Bool) (o : Option (Shape (List ℕ))) (r : Reached (InPackage Placed))
    → (let calls = joint_calls (files_together packages) (start_placed at) in calls.reached (of_package q (ByLabel.Fixed
    on id)) o ≡ r) → IsFound r
    → (let g = naming_together packages in reached g.loaded (callee_at g (of_package q (ByLabel.Fixed on id)))
    (option_as (shape_as (class_together packages)) o) ≡ reached_as (code_at g) (offset_at g) r)
own_calls_reach packages linked at stand q p here id c =
    let t = c.class in
    let name : t.name ≡ id.class = class_named-name (world p) id.class (declared c.number c.class) c.known in
    fixed_reaches packages linked at stand q p here id c.number c.class c.file name c.known c.found c.own c.is_found
    c.method c.there c.begins (own_home packages linked q p here id c) c.hit c.is_hit

pub own_calls_stand : (packages : List Package) → AreLinked packages → (at : Method → Placed)
    → StandByPackage packages at → (q : ℕ) (p : Package) → slice_get packages q ≡ Some p → (id : MemberId)
    → (c : NamesOwnMethod p id) → IsAmong (placed_methods p) (place p c.method) → (on : Bool)
    (o : Option (Shape (List ℕ))) (start : Start (InPackage Placed))
    → (let calls = joint_calls (files_together packages) (start_placed at) in calls.reached (of_package q (ByLabel.Fixed
    on id)) o ≡ Within start) → IsOfGroup (group_loaded (group_of packages)) (methods_together packages) start.code
own_calls_stand packages linked at stand q p here id c among on o start e =
    let t = c.class in
    let name : t.name ≡ id.class = class_named-name (world p) id.class (declared c.number c.class) c.known in
    let both = reached_is packages linked at stand q p here id c.number c.class c.file name c.known c.found c.own
    c.is_found c.method c.there c.hit c.is_hit on o (Within start) e tt in
    let same : start ≡ start_for (files_together packages) (start_placed at) c.method = cc in
    subst (λ (s : Start (InPackage Placed)). IsOfGroup (group_loaded (group_of packages)) (methods_together packages)
    s.code) (sym same) (begins_among packages linked at stand q p here c.method (own_home packages linked q p here id c)
    among)

pub own_calls_take : (packages : List Package) → AreLinked packages → (at : Method → Placed)
    → StandByPackage packages at → (q : ℕ) (p : Package) → slice_get packages q ≡ Some p → (id : MemberId)
    → NamesOwnMethod p id → (on : Bool) → ((n : ℕ) → words_by_name p.files (world p) (ByLabel.Fixed on id) ≡ Some n
    → words (loaded p) (callee (naming p) (ByLabel.Fixed on id)) ≡ Some n) → (n : ℕ)
    → (let calls = joint_calls (files_together packages) (start_placed at) in calls.words (of_package q (ByLabel.Fixed
    on id)) ≡ Some n)
    → (let g = naming_together packages in words g.loaded (callee_at g (of_package q (ByLabel.Fixed on id))) ≡ Some n)
own_calls_take packages linked at stand q p here id c =
    let t = c.class in
    let name : t.name ≡ id.class = class_named-name (world p) id.class (declared c.number c.class) c.known in
    fixed_words packages linked at stand q p here id c.number c.class c.file name c.known c.found c.own c.is_found
    c.method c.there c.hit c.is_hit
