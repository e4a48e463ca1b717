-- Static methods of several packages that scripts call begin by token as by name, each in the code of its package.
use Rattle.std.proofs.Common.{◌≡◌, ℕ, refl, sym, ap, subst, ◌∙◌, Bool, true, false, List, [], ◌∷◌, length, Some}
use Rattle.std.proofs.Common.{None, ⊎_elim}
use Rattle.std.specs.Prelude.{Option, ◌-◌, option_and_then, option_map, slice_get, if◌then◌else◌}
use Rattle.cjc_card_semantics.specs.Bytecode.Alike.{start_as}
use Rattle.cjc_card_semantics.specs.Bytecode.Machine.{Start}
use Rattle.cjc_card_semantics.specs.Bytecode.Renaming.{option_as}
use Rattle.cjc_card_semantics.specs.Bytes.AccessFlags.{is_static}
use Rattle.cjc_card_semantics.specs.Bytes.declared.fault.MemberId.{MemberId}
use Rattle.cjc_card_semantics.specs.Machine.Calls.{called, declared as declared_on_card, static_start}
use Rattle.cjc_card_semantics.specs.Machine.Classes.{Own, class_named as class_on_card}
use Rattle.cjc_card_semantics.specs.Machine.Loaded.{Loaded}
use Rattle.cjc_card_semantics.specs.Machine.Methods.{Code}
use Rattle.cjc_exported.specs.ClassFile.declared.tree.ClassTree.{ClassTree}
use Rattle.cjc_exported.specs.ClassFile.declared.tree.MethodTree.{MethodTree}
use Rattle.cjc_exported.specs.Components.Methods.{placed_methods}
use Rattle.cjc_exported.specs.World.Classes.{Class, class_named, declared}
use Rattle.cjc_exported.specs.World.Files.{Files}
use Rattle.cjc_exported.specs.World.Lookup.{own_method}
use Rattle.cjc_exported.specs.World.declared.found.Found.{Found}
use Rattle.cjc_link_semantics.specs.Components.Names.{class_at}
use Rattle.cjc_link_semantics.specs.Components.Package.{Package, world}
use Rattle.cjc_link_semantics.specs.JvmSemantics.Group.{joint}
use Rattle.cjc_link_semantics.specs.JvmSemantics.Linked.{Method}
use Rattle.cjc_link_semantics.specs.JvmSemantics.OnePackage.{ResolvedMember, entry_in, entry_named, is_initialiser}
use Rattle.cjc_link_semantics.specs.JvmSemantics.OnePackage.{method_at, method_by, method_hit}
use Rattle.cjc_link_semantics.specs.JvmSemantics.OnePackage.{method_in as method_in_file}
use Rattle.cjc_link_semantics.specs.Loaded.{group_loaded, part_in}
use Rattle.cjc_token_proof.specs.Calls.Reaching.{start_placed}
use Rattle.cjc_token_proof.specs.NCode.Lowering.Agreement.{IsAmong}
use Rattle.cjc_token_proof.specs.NCode.Lowering.Placed.{Placed, code_of, offset_of}
use Rattle.cjc_token_proof.specs.Tables.Loading.{loaded, naming}
use Rattle.cjc_token_proof.specs.WrittenCalls.Standing.{place}
use Rattle.cjc_token_proof.proofs.TablesLaws.Clean.{has_named}
use Rattle.cjc_token_proof.proofs.TablesLaws.Named.{has_info}
use Rattle.cjc_token_proof.proofs.TablesLaws.Tables.{names_agree}
use Rattle.cjc_token_proof.proofs.WrittenCalls.Found.{own_is}
use Rattle.cjc_joint_proof.specs.JointAlike.{IsOfGroup, JointNaming, code_at, offset_at}
use Rattle.cjc_joint_proof.specs.JointCalled.{EntriesBegin, EntriesStand, StandByPackage}
use Rattle.cjc_joint_proof.specs.JointCode.{InPackage, of_package}
use Rattle.cjc_joint_proof.specs.JointNames.{place_of, start_for}
use Rattle.cjc_joint_proof.specs.JointPackages.{AreLinked, class_together, files_together}
use Rattle.cjc_joint_proof.specs.JointTables.{world_together}
use Rattle.cjc_joint_proof.specs.JointTogether.{cell_together, field_together, methods_by, methods_together, names_by}
use Rattle.cjc_joint_proof.specs.JointTogether.{naming_together}
use Rattle.cjc_joint_proof.specs.Loading.{group_of, member_of, offset_in}
use Rattle.cjc_joint_proof.specs.Parts.{start_in}
use Rattle.cjc_joint_proof.specs.Worlds.{IsOwn}
use Rattle.cjc_joint_proof.proofs.ApartLaws.{packages_apart}
use Rattle.cjc_joint_proof.proofs.ClassLaws.{part_at, sound_at, together_at}
use Rattle.cjc_joint_proof.proofs.MeantLaws.{part_of}
use Rattle.cjc_joint_proof.proofs.MemberLaws.{entry_named_stays}
use Rattle.cjc_joint_proof.proofs.NameLaws.{called_same}
use Rattle.cjc_joint_proof.proofs.ReferLaws.{offset_is}
use Rattle.cjc_joint_proof.proofs.SoundLaws as sound
use Rattle.cjc_joint_proof.proofs.StandLaws.{Inside, Outside, none_named, stands}
use Rattle.cjc_joint_proof.proofs.TogetherLaws.{at_home}

-- ---- entries by name

-- an imported class has no method that a script calls
entry_none : (files : Files) (id : MemberId) (c : Class) → c.is_imported ≡ true → entry_in files id c ≡ None
entry_none files id c import = by (own_method false id.name id.desc c) refl
  where
    hidden : (f : Found) → f.imported ≡ true → (h : Option ResolvedMember)
        → option_and_then (λ (hit : ResolvedMember). if is_static hit.flags then method_at files f else None) h ≡ None
    hidden f is None = refl
    hidden f is (Some hit) = split (is_static hit.flags)
      where
        split : (t : Bool) → (if t then method_at files f else None) ≡ None
        split true = ap (λ t. if t then None else option_and_then (method_in_file f.member) (slice_get files.classes
            f.class)) is
        split false = refl

    by : (o : Option Found) → own_method false id.name id.desc c ≡ o
        → option_and_then (λ f. option_and_then (λ (hit : ResolvedMember). if is_static hit.flags then method_at files f
        else None) (method_hit (c ∷ []) f)) o ≡ None
    by None is = refl
    by (Some f) is = let o = own_is (c ∷ []) false id.name id.desc c f is
        in hidden f (ap (λ (g : Found). g.imported) o.is ∙ import) (method_hit (c ∷ []) f)

class_of_method : (t : ClassTree) (m : MethodTree) → (let x = method_by t m m.code in let id = x.id in id.class)
    ≡ t.name
class_of_method t m = elim (m.code) as (λ o. (let x = method_by t m o in let id = x.id in id.class) ≡ t.name) [
  | None ↦ refl
  | Some code ↦ refl
]

-- what stands in a class file is of its class
pub method_class : (files : Files) (f : Found) (k : ℕ) (t : ClassTree) (m : Method) → slice_get files.classes k ≡ Some t
    → f.class ≡ k → method_at files f ≡ Some m → (let x = m.id in x.class) ≡ t.name
method_class files f k t m at is e = by f.imported e
  where
    in_file : (o : Option MethodTree) → option_map (λ x. method_by t x x.code) o ≡ Some m
        → (let x = m.id in x.class) ≡ t.name
    in_file None g = cc
    in_file (Some x) g =
        let same : method_by t x x.code ≡ m = cc in
        sym (ap (λ (y : Method). let v = y.id in v.class) same) ∙ class_of_method t x

    by : (b : Bool) → (if b then None else option_and_then (method_in_file f.member) (slice_get files.classes f.class))
        ≡ Some m → (let x = m.id in x.class) ≡ t.name
    by true g = cc
    by false g = in_file (slice_get t.methods (f.member - length t.fields)) (sym (ap (option_and_then (method_in_file
        f.member)) (ap (slice_get files.classes) is ∙ at)) ∙ g)

-- what a class file declares is of its class
of_its_class : (files : Files) (id : MemberId) (k : ℕ) (t : ClassTree) (m : Method) → slice_get files.classes k
    ≡ Some t → entry_in files id (declared k t) ≡ Some m → (let x = m.id in x.class) ≡ t.name
of_its_class files id k t m at e = by (own_method false id.name id.desc (declared k t)) refl e
  where
    hit_by : (f : Found) → f.class ≡ k → (h : Option ResolvedMember)
        → option_and_then (λ (hit : ResolvedMember). if is_static hit.flags then method_at files f else None) h ≡ Some m
        → (let x = m.id in x.class) ≡ t.name
    hit_by f is None g = cc
    hit_by f is (Some hit) g = split (is_static hit.flags) g
      where
        split : (b : Bool) → (if b then method_at files f else None) ≡ Some m → (let x = m.id in x.class) ≡ t.name
        split true h = method_class files f k t m at is h
        split false h = cc

    by : (o : Option Found) → own_method false id.name id.desc (declared k t) ≡ o
        → option_and_then (λ f. option_and_then (λ (hit : ResolvedMember). if is_static hit.flags then method_at files f
        else None) (method_hit (declared k t ∷ []) f)) o ≡ Some m → (let x = m.id in x.class) ≡ t.name
    by None is g = cc
    by (Some f) is g =
        let o = own_is (declared k t ∷ []) false id.name id.desc (declared k t) f is in
        hit_by f (ap (λ (x : Found). x.class) o.is) (method_hit (declared k t ∷ []) f) g

module _ (packages : List Package) (linked : AreLinked packages) (at : Method → Placed)
    (stand : StandByPackage packages at) where
  abbrev l : Loaded
  l = group_loaded (group_of packages)

  abbrev group : List Files
  group = files_together packages

  abbrev w : List Class
  w = world_together packages

  abbrev g : JointNaming
  g = naming_together packages

  -- where the methods of a package stand by token
  abbrev begun : Option (Start (InPackage Placed)) → Option (Start Code)
  begun o = option_as (start_as (code_at g) (offset_at g)) o

  module _ (q : ℕ) (p : Package) (here : slice_get packages q ≡ Some p) where
    -- one of the package by itself, and in the group
    code_there : (m : Placed) → code_at g (of_package q m) ≡ (let c = code_of (naming p) m in record c { part = q })
    code_there m = ap (λ o. code_of (record (names_by l q o) {
      loaded = l;
      part = q;
      class = class_together packages;
      field_token = field_together packages;
      cell = cell_together packages;
    }) m) here

    offset_there : (m : Placed) (label : ℕ) → offset_at g (of_package q m) label ≡ offset_of (naming p) m label
    offset_there m label = ap (λ o. offset_of (record (names_by l q o) {
      loaded = l;
      part = q;
      class = class_together packages;
      field_token = field_together packages;
      cell = cell_together packages;
    }) m label) here

    pub start_there : (m : Method) → (let id = m.id in place_of group id.class ≡ q)
        → start_in q (start_as (code_of (naming p)) (offset_of (naming p)) (start_placed (place p) m))
        ≡ start_as (code_at g) (offset_at g) (start_for group (start_placed at) m)
    start_there m home =
        let x = place p m in
        let start = start_placed (place p) m in
        ap (λ c. record {
          code = c;
          at = offset_of (naming p) x 0;
          nargs = start.nargs;
          max_locals = start.max_locals;
          is_abstract = start.is_abstract;
        }) (sym (code_there x))
        ∙ ap (λ o. record {
          code = code_at g (of_package q x);
          at = o;
          nargs = start.nargs;
          max_locals = start.max_locals;
          is_abstract = start.is_abstract;
        }) (sym (offset_there x 0))
        ∙ ap (λ r. start_as (code_at g) (offset_at g) (start_as (of_package r) (λ code at. at) (start_placed (place p)
        m))) (sym home)
        ∙ ap (λ (y : Placed). start_as (code_at g) (offset_at g) (start_as (of_package (place_of group (let id = m.id
        in id.class))) (λ code at. at) (let code = y.method in record {
          code = y;
          at = 0;
          nargs = code.nargs;
          max_locals = code.max_locals;
          is_abstract = m.is_abstract;
        }))) (sym (stand q p here m home))

    module _ (id : MemberId) (k : ℕ) (t : ClassTree)
        (file : let f = p.files in slice_get f.classes k ≡ Some t) (name : t.name ≡ id.class)
        (known : class_named (world p) id.class ≡ Some (declared k t)) where
      own_file : IsOwn group q k p.files t
      own_file = record { member = together_at packages linked q p here; file = file }

      home_is : place_of group id.class ≡ q
      home_is = at_home packages linked q p here id.class (record { class = declared k t; there = known; own = refl })

      entries_same : entry_named (joint group) w id ≡ entry_named p.files (world p) id
      entries_same = entry_named_stays group q k p.files t own_file (packages_apart packages linked) (sound.listed group
          linked.sound q k p.files t own_file) id (sym name)

      entry_home : (m : Method) → entry_named p.files (world p) id ≡ Some m → (let x = m.id in place_of group x.class
          ≡ q)
      entry_home m e = ap (place_of group) (of_its_class p.files id k t m file (by (is_initialiser id.name) e) ∙ name)
          ∙ home_is
        where
          by : (b : Bool) → (if b then None else option_and_then (entry_in p.files id) (class_named (world p) id.class))
              ≡ Some m → entry_in p.files id (declared k t) ≡ Some m
          by true h = cc
          by false h = sym (ap (option_and_then (entry_in p.files id)) known) ∙ h

      own_offset : (let s = sound_at packages linked q p here in let h = has_info s.list p s.sound (declared k t)
          (has_named (world p) id.class (declared k t) known) refl in class_on_card (loaded p) id.class
          ≡ Some (Own 0 h.offset))
      own_offset =
          let s = sound_at packages linked q p here in
          let h = has_info s.list p s.sound (declared k t) (has_named (world p) id.class (declared k t) known) refl in
          let names = names_agree s.list p s.sound in
          names.class_named id.class
          ∙ ap (λ o. option_as (class_at p) (option_map (λ (c : Class). c.name) o)) known
          ∙ ap Some h.on_card

      inside_called : EntriesBegin p → (offset : ℕ) → class_on_card l id.class ≡ Some (Own q offset)
          → class_on_card (loaded p) id.class ≡ Some (Own 0 offset)
          → called l id ≡ begun (option_map (start_for group (start_placed at)) (entry_named (joint group) w id))
      inside_called begins offset there alone =
          called_same (loaded p) l q (part_of packages linked q p here) id offset there alone
          ∙ ap (option_map (start_in q)) (begins id)
          ∙ by (entry_named p.files (world p) id) refl
          ∙ sym (ap (λ o. begun (option_map (start_for group (start_placed at)) o)) entries_same)
        where
          by : (o : Option Method) → entry_named p.files (world p) id ≡ o
              → option_map (start_in q) (option_as (start_as (code_of (naming p)) (offset_of (naming p))) (option_map
              (start_placed (place p)) o)) ≡ begun (option_map (start_for group (start_placed at)) o)
          by None e = refl
          by (Some m) e = ap Some (start_there m (entry_home m e))

  module _ (begins : (q : ℕ) (p : Package) → slice_get packages q ≡ Some p → EntriesBegin p) where
    nothing : (t : Bool) → None ≡ begun (option_map (start_for group (start_placed at)) (if t then None else None))
    nothing true = refl
    nothing false = refl

    pub called_together : (id : MemberId) → called l id
        ≡ begun (option_map (start_for group (start_placed at)) (entry_named (joint group) w id))
    called_together id = by (class_named w id.class) refl
      where
        inside : (c : Class) → Inside packages linked id.class c → called l id
            ≡ begun (option_map (start_for group (start_placed at)) (entry_named (joint group) w id))
        inside c i =
            let q = i.part in
            let p = i.«package» in
            let s = sound_at packages linked q p i.here in
            let d = declared i.place i.tree in
            let h = has_info s.list p s.sound d (has_named (world p) id.class d i.there) refl in
            let offset : offset_in p id.class ≡ h.offset = sym (ap (offset_in p) i.name) ∙ offset_is p d h in
            inside_called q p i.here id i.place i.tree i.file i.name i.there (begins q p i.here) h.offset (i.named
            ∙ ap Some (i.on_card ∙ ap (Own q) offset)) (own_offset q p i.here id i.place i.tree i.file i.name
            i.there)

        outside : (c : Class) → class_named w id.class ≡ Some c → Outside packages linked id.class c → called l id
            ≡ begun (option_map (start_for group (start_placed at)) (entry_named (joint group) w id))
        outside c e o =
            ap (option_and_then (λ k. option_and_then (static_start l) (declared_on_card l k id))) (o.named ∙ ap Some
            o.on_card)
            ∙ nothing (is_initialiser id.name)
            ∙ sym (ap (λ x. begun (option_map (start_for group (start_placed at)) (if is_initialiser id.name then None
            else option_and_then (entry_in (joint group) id) x))) e
            ∙ ap (λ x. begun (option_map (start_for group (start_placed at)) (if is_initialiser id.name then None
            else x))) (entry_none (joint group) id c (ap (λ (v : Class). v.is_imported) o.is)))

        by : (o : Option Class) → class_named w id.class ≡ o → called l id
            ≡ begun (option_map (start_for group (start_placed at)) (entry_named (joint group) w id))
        by None e =
            ap (option_and_then (λ k. option_and_then (static_start l) (declared_on_card l k id))) (none_named packages
            linked id.class e)
            ∙ nothing (is_initialiser id.name)
            ∙ sym (ap (λ x. begun (option_map (start_for group (start_placed at)) (if is_initialiser id.name then None
            else option_and_then (entry_in (joint group) id) x))) e)
        by (Some c) e = ⊎_elim (inside c) (outside c e) (stands packages linked id.class c e)

  -- ---- each is one of the methods of its package

  -- a method that stands in Method of its package
  pub begins_among : (q : ℕ) (p : Package) → slice_get packages q ≡ Some p → (m : Method) → (let x = m.id
      in place_of group x.class ≡ q) → IsAmong (placed_methods p) (place p m)
      → IsOfGroup l (methods_together packages) (of_package (let x = m.id in place_of group x.class) (at m))
  begins_among q p here m home among =
      subst (λ r. IsOfGroup l (methods_together packages) (of_package r (at m))) (sym home) (record {
        component = part_in (group_of packages) l.trees (member_of p);
        there = part_at packages linked q p here;
        among = subst (λ (y : Placed). IsAmong (methods_together packages q) y) (sym (stand q p here m home))
            (subst (λ x. IsAmong (methods_by x) (place p m)) (sym here) among);
      })

  module _ (each : (q : ℕ) (p : Package) → slice_get packages q ≡ Some p → EntriesStand p) where
    pub called_among : (id : MemberId) (start : Start (InPackage Placed))
        → option_map (start_for group (start_placed at)) (entry_named (joint group) w id) ≡ Some start
        → IsOfGroup l (methods_together packages) start.code
    called_among id start e = by (class_named w id.class) refl
      where
        inside : (c : Class) → Inside packages linked id.class c → IsOfGroup l (methods_together packages) start.code
        inside c i = from (entry_named p.files (world p) id) refl (sym (ap (option_map (start_for group (start_placed
            at))) (entries_same i.part p i.here id i.place i.tree i.file i.name i.there)) ∙ e)
          where
            p : Package
            p = i.«package»

            from : (o : Option Method) → entry_named p.files (world p) id ≡ o → option_map (start_for group
                (start_placed at)) o ≡ Some start → IsOfGroup l (methods_together packages) start.code
            from None f h = cc
            from (Some m) f h =
                let same : start_for group (start_placed at) m ≡ start = cc in
                let among = each i.part p i.here id (start_placed (place p) m) (ap (option_map (start_placed (place p)))
                f) in
                subst (λ (s : Start (InPackage Placed)). IsOfGroup l (methods_together packages) s.code) same
                (begins_among i.part p i.here m (entry_home i.part p i.here id i.place i.tree i.file i.name i.there m f)
                among)

        by : (o : Option Class) → class_named w id.class ≡ o → IsOfGroup l (methods_together packages) start.code
        by None f = absurd (never (is_initialiser id.name) (sym (ap (λ x. option_map (start_for group (start_placed at))
            (if is_initialiser id.name then None else option_and_then (entry_in (joint group) id) x)) f) ∙ e))
          where
            never : (t : Bool) → option_map (start_for group (start_placed at)) (if t then None else None) ≡ Some start
                → ⊥
            never true h = cc
            never false h = cc
        by (Some c) f = ⊎_elim (inside c) outside (stands packages linked id.class c f)
          where
            never : (t : Bool) → option_map (start_for group (start_placed at)) (if t then None else None) ≡ Some start
                → ⊥
            never true h = cc
            never false h = cc

            outside : Outside packages linked id.class c → IsOfGroup l (methods_together packages) start.code
            outside o = absurd (never (is_initialiser id.name) (sym (ap (λ x. option_map (start_for group (start_placed
                at)) (if is_initialiser id.name then None else option_and_then (entry_in (joint group) id) x)) f
                ∙ ap (λ x. option_map (start_for group (start_placed at)) (if is_initialiser id.name then None else x))
                (entry_none (joint group) id c (ap (λ (v : Class). v.is_imported) o.is))) ∙ e))
