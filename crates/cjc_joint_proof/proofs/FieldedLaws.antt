-- Objects of several packages: class infos of all packages say of instance fields what the class files say, whichever
-- package a superclass is of.
use Rattle.std.proofs.Common.{◌≡◌, ℕ, zero, suc, ◌+◌, ◌<◌, ◌≤◌, arith, refl, sym, ap, subst, ◌∙◌, Bool, true, false, List}
use Rattle.std.proofs.Common.{[], ◌∷◌, ◌++◌, length, map, Some, None, inl, inr, ⊎_elim, append-nil}
use Rattle.std.specs.Prelude.{Option, is_some, not, ◌&&◌, ◌||◌, ◌==◌, ◌⊎◌, option_map, reverse, slice_get, if◌then◌else◌}
use Rattle.std.specs.List.{flat_map, list_any}
use Rattle.std.proofs.lemmas.Bool.Decides.{nat_tests}
use Rattle.std.proofs.lemmas.Grind.{flat_map-append, reverse_onto}
use Rattle.std.proofs.lemmas.List.Folds.{list_any-append}
use Rattle.std.specs.Str.{bytes_eq}
use Rattle.cjc_card_semantics.specs.Bytes.AccessFlags.{is_abstract, is_interface}
use Rattle.cjc_card_semantics.specs.Bytes.declared.fault.MemberId.{MemberId}
use Rattle.cjc_card_semantics.specs.CapRead.declared.tree.ClassEntry.{ClassEntry}
use Rattle.cjc_card_semantics.specs.Machine.Classes.{Class as CardClass, External, Info, IsClass, IsInterface, Own}
use Rattle.cjc_card_semantics.specs.Machine.Classes.{depth, info_at, info_count, info_of, info_size, infos}
use Rattle.cjc_card_semantics.specs.Machine.Classes.{is_reference_token, number_from, number_of, offset_from}
use Rattle.cjc_card_semantics.specs.Machine.Classes.{superclass as superclass_on_card, superclass_by}
use Rattle.cjc_card_semantics.specs.Machine.Loaded.{Loaded, Part}
use Rattle.cjc_world.proofs.Settled.{Settles, clear_settles, lists-front, nothing, something, supertypes-AreSupertypes}
use Rattle.cjc_world.proofs.Upwards.{line_goes_up}
use Rattle.cjc_world.specs.Supertypes.{AreSupertypes, Lists, Supertypes, after, directly, ends, foremost}
use Rattle.cjc_world.specs.Supertypes.{known_here, line, onwards, supertypes, unknown_here, upwards}
use Rattle.cjc_world.specs.Supertypes.{Above}
use Rattle.cjc_exported.specs.ClassFile.declared.tree.ClassTree.{ClassTree}
use Rattle.cjc_exported.specs.Components.Class.{class_entry, interface_entry}
use Rattle.cjc_exported.specs.World.Classes.{Class, class_named, declared, field_of_class, imported}
use Rattle.cjc_exported.specs.World.Files.{Files}
use Rattle.cjc_exported.specs.World.Rules.{is_interface_of}
use Rattle.cjc_exported.proofs.WorldCycles.{class_named-name}
use Rattle.cjc_link_semantics.specs.Components.Names.{class_ref, field_token}
use Rattle.cjc_link_semantics.specs.Components.Package.{Package, tokens, world}
use Rattle.cjc_link_semantics.specs.Components.Paired.Naming.{class_names}
use Rattle.cjc_link_semantics.specs.JvmSemantics.OnePackage.{declared_fields, instance_fields, object_fields}
use Rattle.cjc_link_semantics.specs.Loaded.{group_loaded}
use Rattle.cjc_token_proof.specs.NCode.Lowering.Naming.{Naming}
use Rattle.cjc_token_proof.specs.NCode.PoolOrder.{same_member}
use Rattle.cjc_token_proof.specs.ByToken.Cells.{are_apart, is_one_of}
use Rattle.cjc_token_proof.specs.ByToken.Objects.{Declares, HasFields, HasObjects, StandsBefore, declares, field_name}
use Rattle.cjc_token_proof.specs.ByToken.Objects.{imported as declares_imported}
use Rattle.cjc_token_proof.specs.ByToken.Objects as objects
use Rattle.cjc_token_proof.specs.Tables.Infos.{HasEntry, HasInfo}
use Rattle.cjc_token_proof.specs.Tables.Kept.{KeepsRules}
use Rattle.cjc_token_proof.specs.Tables.Known.{is_field_of, is_holder, is_own_exception, may_hold, may_name}
use Rattle.cjc_token_proof.specs.Tables.Known.{own_exceptions, same_members}
use Rattle.cjc_token_proof.specs.Tables.Loading.{loaded, naming, part}
use Rattle.cjc_token_proof.specs.Tables.Sound.{AreTyped, IsSound}
use Rattle.cjc_token_proof.proofs.VTableFiled.{Has, at_front, behind, has-either}
use Rattle.cjc_token_proof.proofs.ByToken.Members.{member_same, member_tells}
use Rattle.cjc_token_proof.proofs.TablesLaws.Clean.{has_named, kept}
use Rattle.cjc_token_proof.proofs.TablesLaws.Fields.{fields_apart, named, own_among}
use Rattle.cjc_token_proof.proofs.TablesLaws.Infos.{not_before, some_bytes}
use Rattle.cjc_token_proof.proofs.TablesLaws.Lists.{right_supers, supers_there}
use Rattle.cjc_token_proof.proofs.TablesLaws.Named.{has_entry, has_info}
use Rattle.cjc_token_proof.proofs.TablesLaws.Objects.{has_fields, own_entry}
use Rattle.cjc_token_proof.proofs.TablesLaws.Order.{super_before}
use Rattle.cjc_joint_proof.specs.JointAlike.{naming_at}
use Rattle.cjc_joint_proof.specs.JointPackages.{AreLinked, IsLinked, class_together, files_together, to_outside}
use Rattle.cjc_joint_proof.specs.JointPackages.{to_package}
use Rattle.cjc_joint_proof.specs.JointTables.{KeepSupers, world_together}
use Rattle.cjc_joint_proof.specs.JointTogether.{field_together, naming_together}
use Rattle.cjc_joint_proof.specs.Loading.{group_of, offset_in}
use Rattle.cjc_joint_proof.specs.Worlds.{before}
use Rattle.cjc_joint_proof.proofs.ApartLaws.{packages_apart}
use Rattle.cjc_joint_proof.proofs.ClassLaws.{class_means, exported, named_in, own_named, sound_at, together_at}
use Rattle.cjc_joint_proof.proofs.ClassLaws.{kept_in, number_in, token_in}
use Rattle.cjc_joint_proof.proofs.MeantLaws.{class_there, once, part_of}
use Rattle.cjc_joint_proof.proofs.PartLaws.{infos_same, names_same}
use Rattle.cjc_joint_proof.proofs.ReferLaws.{offset_is}
use Rattle.cjc_joint_proof.proofs.StandLaws.{Inside, Outside, file_together, known_together, own_together, stands}
use Rattle.cjc_joint_proof.proofs.StandLaws.{stands_outside, told}
use Rattle.cjc_joint_proof.proofs.TogetherLaws.{field_kept}
use Rattle.cjc_joint_proof.proofs.WorldLaws.{own_is_found}

-- ---- infos in their order

offsets_rise : (at : ℕ) (is : List Info) (j k a b : ℕ) → offset_from at is j ≡ Some a → offset_from at is k ≡ Some b
    → j < k → a < b
offsets_rise at [] j k a b e f lt = cc
offsets_rise at (i ∷ is) j zero a b e f lt = absurd (omega (arith, lt))
offsets_rise at (i ∷ is) zero (suc k) a b e f lt =
    let same : at ≡ a = cc in
    let le = not_before (at + info_size i) is k b f in
    let size = some_bytes i in
    omega (arith, same, le, size)
offsets_rise at (i ∷ is) (suc j) (suc k) a b e f lt =
    offsets_rise (at + info_size i) is j k a b e f (omega (arith, lt))

-- an info that stands before another has a lesser number
lesser : (at : ℕ) (is : List Info) (j k a b : ℕ) → offset_from at is j ≡ Some a → offset_from at is k ≡ Some b
    → a < b → j < k
lesser at [] j k a b e f lt = cc
lesser at (i ∷ is) zero zero a b e f lt =
    let one : at ≡ a = cc in let other : at ≡ b = cc in absurd (omega (arith, one, other, lt))
lesser at (i ∷ is) zero (suc k) a b e f lt = omega arith
lesser at (i ∷ is) (suc j) zero a b e f lt =
    let same : at ≡ b = cc in
    let le = not_before (at + info_size i) is j a e in
    absurd (omega (arith, same, le, lt))
lesser at (i ∷ is) (suc j) (suc k) a b e f lt =
    let r = lesser (at + info_size i) is j k a b e f lt in omega (arith, r)

-- where an info with this number begins
number_has : (at : ℕ) (is : List Info) (offset k : ℕ) → number_from at is offset ≡ Some k → (offset_from at is k
    ≡ Some offset) × (k < length is)
number_has at [] offset k e = cc
number_has at (i ∷ is) offset k e = by (at == offset) refl k e (number_has (at + info_size i) is offset)
  where
    by : (b : Bool) → (at == offset) ≡ b → (k : ℕ)
        → (if b then Some 0 else option_map suc (number_from (at + info_size i) is offset)) ≡ Some k
        → ((k : ℕ) → number_from (at + info_size i) is offset ≡ Some k → (offset_from (at + info_size i) is k
        ≡ Some offset) × (k < length is)) → (offset_from at (i ∷ is) k ≡ Some offset) × (k < length (i ∷ is))
    by true is_so zero f rest =
        let same : at ≡ offset = grind (arith, nat_tests, is_so) in (ap Some same, omega arith)
    by true is_so (suc k) f rest = cc
    by false is_so k f rest = later (number_from (at + info_size i) is offset) refl k f
      where
        later : (o : Option ℕ) → number_from (at + info_size i) is offset ≡ o → (k : ℕ) → option_map suc o ≡ Some k
            → (offset_from at (i ∷ is) k ≡ Some offset) × (k < length (i ∷ is))
        later None g k h = cc
        later (Some j) g zero h = cc
        later (Some j) g (suc k) h =
            let same : j ≡ k = cc in
            let r = rest k (g ∙ ap Some same) in
            let lt = r.1 in (r.0, omega (arith, lt))

-- how many infos stand in the packages before
abbrev infos_before : List Part → ℕ → ℕ
infos_before [] q = 0
infos_before (part ∷ parts) zero = 0
infos_before (part ∷ parts) (suc q) = length (infos part) + infos_before parts q

within_all : (parts : List Part) (q : ℕ) (part : Part) → slice_get parts q ≡ Some part
    → infos_before parts q + length (infos part) ≤ info_count parts
within_all [] q part e = cc
within_all (x ∷ parts) zero part e =
    let same : x ≡ part = cc in
    let lengths : length (infos x) ≡ length (infos part) = ap (λ (v : Part). length (infos v)) same in
    omega (arith, lengths)
within_all (x ∷ parts) (suc q) part e = let r = within_all parts q part e in omega (arith, r)

within_later : (parts : List Part) (r q : ℕ) (part : Part) → slice_get parts r ≡ Some part → r < q
    → infos_before parts r + length (infos part) ≤ infos_before parts q
within_later [] r q part e lt = cc
within_later (x ∷ parts) r zero part e lt = absurd (omega (arith, lt))
within_later (x ∷ parts) zero (suc q) part e lt =
    let same : x ≡ part = cc in
    let lengths : length (infos x) ≡ length (infos part) = ap (λ (v : Part). length (infos v)) same in
    omega (arith, lengths)
within_later (x ∷ parts) (suc r) (suc q) part e lt =
    let more = within_later parts r q part e (omega (arith, lt)) in omega (arith, more)

-- an info that is there, with its package and its number
record Numbered (l : Loaded) (q offset : ℕ) : Type 0 where
  part : Part
  there : slice_get l.parts q ≡ Some part
  number : ℕ
  is : number_of part offset ≡ Some number

numbered : (l : Loaded) (q offset : ℕ) (i : Info) → info_of l q offset ≡ Some i → Numbered l q offset
numbered l q offset i e = by (slice_get l.parts q) refl e
  where
    by : (o : Option Part) → slice_get l.parts q ≡ o → Rattle.std.specs.Prelude.option_and_then (λ part. info_at part
        offset) o ≡ Some i → Numbered l q offset
    by None f g = cc
    by (Some part) f g = within (number_of part offset) refl g
      where
        within : (o : Option ℕ) → number_of part offset ≡ o → Rattle.std.specs.Prelude.option_and_then (slice_get
            (infos part)) o ≡ Some i → Numbered l q offset
        within None h k = cc
        within (Some number) h k = record { part = part; there = f; number = number; is = h }

module _ (n : Naming) (may : MemberId → Bool) where
  -- none of the packages, none above
  low_height : {height : ℕ} {o : Option CardClass} {fields : List MemberId} → Declares n may height o fields
      → ((q offset : ℕ) → o ≡ Some (Own q offset) → ⊥) → height ≡ 0
  low_height objects.no_class none = refl
  low_height objects.imported none = refl
  low_height (objects.declares {part = q} {offset = offset} info names has first more) none = absurd (none q offset
      refl)

  info_there : {height : ℕ} {o : Option CardClass} {fields : List MemberId} → Declares n may height o fields
      → (q offset : ℕ) → o ≡ Some (Own q offset) → (i : Info) × (info_of n.loaded q offset ≡ Some i)
  info_there objects.no_class q offset e = cc
  info_there objects.imported q offset e = cc
  info_there (objects.declares {part = part} {offset = at} {entry = entry} info names has first more) q offset e =
      let parts : part ≡ q = cc in
      let offsets : at ≡ offset = cc in
      (IsClass entry, ap (λ r. info_of n.loaded r offset) (sym parts) ∙ ap (info_of n.loaded part) (sym offsets) ∙ info)

  -- a class stands no higher than there are infos up to its own
  bounded : {height : ℕ} {o : Option CardClass} {fields : List MemberId} → Declares n may height o fields
      → (q offset : ℕ) → o ≡ Some (Own q offset) → (a : Numbered n.loaded q offset)
      → height ≤ suc (infos_before (let l = n.loaded in l.parts) q + a.number)
  bounded objects.no_class q offset e a = cc
  bounded objects.imported q offset e a = cc
  bounded (objects.declares {height = height} {part = part} {offset = at} info names has first more) q offset e a =
      let parts : part ≡ q = cc in
      let offsets : at ≡ offset = cc in
      by (superclass_on_card n.loaded part at) refl (subst (λ r. StandsBefore r offset (superclass_on_card n.loaded part
      at)) parts (subst (λ x. StandsBefore part x (superclass_on_card n.loaded part at)) offsets first)) (bounded more)
      (low_height more) (info_there more)
    where
      by : (o : Option CardClass) → superclass_on_card n.loaded part at ≡ o → StandsBefore q offset o
          → ((q offset : ℕ) → superclass_on_card n.loaded part at ≡ Some (Own q offset)
          → (a : Numbered n.loaded q offset) → height ≤ suc (infos_before (let l = n.loaded in l.parts) q + a.number))
          → (((q offset : ℕ) → superclass_on_card n.loaded part at ≡ Some (Own q offset) → ⊥) → height ≡ 0)
          → ((q offset : ℕ) → superclass_on_card n.loaded part at ≡ Some (Own q offset) → (i : Info)
          × (info_of n.loaded q offset ≡ Some i))
          → suc height ≤ suc (infos_before (let l = n.loaded in l.parts) q + a.number)
      by _ is objects.no_class rest low there =
          let z = low (λ r x f. let no : None ≡ Some (Own r x) = sym is ∙ f in cc) in omega (arith, z)
      by _ is (objects.imported {tree = tree} {token = token}) rest low there =
          let z = low (λ r x f. let no : Some (External tree token) ≡ Some (Own r x) = sym is ∙ f in cc) in
          omega (arith, z)
      by _ is (objects.own {before = x} less) rest low there =
          let i = there q x is in
          let b = numbered n.loaded q x i.0 i.1 in
          let le = rest q x is b in
          let same : b.part ≡ a.part = (let both : Some b.part ≡ Some a.part = sym b.there ∙ a.there in cc) in
          let here = number_has 2 (infos a.part) offset a.number a.is in
          let above = number_has 2 (infos a.part) x b.number (ap (λ v. number_of v x) (sym same) ∙ b.is) in
          let lt = lesser 2 (infos a.part) b.number a.number x offset above.0 here.0 less in
          omega (arith, le, lt)
      by _ is (objects.earlier {lower = r} {before = x} less) rest low there =
          let i = there r x is in
          let b = numbered n.loaded r x i.0 i.1 in
          let le = rest r x is b in
          let above = number_has 2 (infos b.part) x b.number b.is in
          let within = within_later (let l = n.loaded in l.parts) r q b.part b.there less in
          let lt = above.1 in
          omega (arith, le, lt, within)

  within_depth : {height : ℕ} {o : Option CardClass} {fields : List MemberId} → Declares n may height o fields
      → height ≤ depth n.loaded
  within_depth objects.no_class = omega arith
  within_depth objects.imported = omega arith
  within_depth (objects.declares {height = height} {part = q} {offset = offset} {entry = entry} info names has first
      more) =
      let a = numbered n.loaded q offset (IsClass entry) info in
      let le = bounded (declares info names has first more) q offset refl a in
      let number = number_has 2 (infos a.part) offset a.number a.is in
      let lt = number.1 in
      let within = within_all (let l = n.loaded in l.parts) q a.part a.there in
      omega (arith, le, lt, within)

-- ---- lists of fields

map_same : {B : Type 0} (g h : MemberId → B) (fs : List MemberId) → ((f : MemberId) → is_one_of f fs ≡ true → g f ≡ h f)
    → map g fs ≡ map h fs
map_same g h [] e = refl
map_same g h (f ∷ fs) e =
    ap (λ x. x ∷ map g fs) (e f (ap (λ q. q || is_one_of f fs) (member_same f)))
    ∙ ap (λ xs. h f ∷ xs) (map_same g h fs (λ x i. e x (later x i)))
  where
    later : (x : MemberId) → is_one_of x fs ≡ true → is_one_of x (f ∷ fs) ≡ true
    later x i = go (same_member f x)
      where
        go : (q : Bool) → (q || is_one_of x fs) ≡ true
        go true = refl
        go false = i

apart_both : (xs ys : List MemberId) → are_apart xs ≡ true → are_apart ys ≡ true
    → ((f : MemberId) → is_one_of f xs ≡ true → is_one_of f ys ≡ true → ⊥) → are_apart (xs ++ ys) ≡ true
apart_both [] ys a b h = b
apart_both (x ∷ xs) ys a b h =
    let parts = split (is_one_of x xs) (are_apart xs) a in
    ap (λ q. not q && are_apart (xs ++ ys)) (list_any-append (λ g. same_member g x) xs ys
    ∙ none (is_one_of x xs) (is_one_of x ys) parts.0 (λ t. h x (ap (λ q. q || is_one_of x xs) (member_same x)) t))
    ∙ apart_both xs ys parts.1 b (λ f t u. h f (later f t) u)
  where
    split : (q r : Bool) → (not q && r) ≡ true → (q ≡ false) × (r ≡ true)
    split false true e = (refl, refl)
    split false false e = cc
    split true r e = cc

    none : (q r : Bool) → q ≡ false → (r ≡ true → ⊥) → (q || r) ≡ false
    none false false e k = refl
    none false true e k = absurd (k refl)
    none true r e k = cc

    later : (f : MemberId) → is_one_of f xs ≡ true → is_one_of f (x ∷ xs) ≡ true
    later f t = go (same_member x f)
      where
        go : (q : Bool) → (q || is_one_of f xs) ≡ true
        go true = refl
        go false = t

one_of_either : (f : MemberId) (xs ys : List MemberId) → is_one_of f (xs ++ ys) ≡ true → (is_one_of f xs ≡ true)
    ⊎ (is_one_of f ys ≡ true)
one_of_either f xs ys e = go (is_one_of f xs) (is_one_of f ys) (sym (list_any-append (λ g. same_member g f) xs ys) ∙ e)
  where
    go : (q r : Bool) → (q || r) ≡ true → (q ≡ true) ⊎ (r ≡ true)
    go true r u = inl refl
    go false r u = inr u

same_tells : (xs ys : List MemberId) → same_members xs ys ≡ true → xs ≡ ys
same_tells [] [] e = refl
same_tells (x ∷ xs) (y ∷ ys) e = go (same_member x y) refl e (same_tells xs ys)
  where
    go : (q : Bool) → same_member x y ≡ q → (q && same_members xs ys) ≡ true → (same_members xs ys ≡ true → xs ≡ ys)
        → (x ∷ xs) ≡ (y ∷ ys)
    go true t u rest = ap (λ v. v ∷ xs) (member_tells x y t) ∙ ap (λ vs. y ∷ vs) (rest u)
    go false t u rest = cc
same_tells [] (y ∷ ys) e = cc
same_tells (x ∷ xs) [] e = cc

-- ---- objects of the classes of several packages

none_in : (f : Class → List MemberId) (cs : List Class) → ((d : Class) → Has d cs → f d ≡ []) → flat_map f (reverse cs)
    ≡ []
none_in f [] h = refl
none_in f (d ∷ cs) h =
    ap (flat_map f) (reverse_onto cs d []) ∙ flat_map-append f (reverse cs) (d ∷ [])
    ∙ ap (λ xs. xs ++ (f d ++ [])) (none_in f cs (λ e g. h e (behind g))) ∙ ap (λ xs. xs ++ []) (h d at_front)

module _ (packages : List Package) (linked : AreLinked packages) (keep : KeepSupers packages) where
  abbrev l : Loaded
  l = group_loaded (group_of packages)

  abbrev group : List Files
  group = files_together packages

  abbrev w : List Class
  w = world_together packages

  abbrev n : Naming
  n = naming_at (naming_together packages) 0

  -- what a class from outside lists is from outside
  lists_outside : (x : List ℕ) (c : Class) → class_named w x ≡ Some c → c.is_imported ≡ true → (y : List ℕ)
      → Lists y (c.supers ++ c.interfaces) → (d : Class) → class_named w y ≡ Some d → d.is_imported ≡ true
  lists_outside x c e im y j d f =
      ⊎_elim (λ i. inside i (stands_outside packages linked x c e im)) (λ o. ap (λ (v : Class). v.is_imported) o.is)
      (stands packages linked y d f)
    where
      inside : Inside packages linked y d → Outside packages linked x c → d.is_imported ≡ true
      inside i o =
          let listed = subst (λ (v : Class). Lists y (v.supers ++ v.interfaces)) o.is j in
          let no : false ≡ true = keep.outside o.file o.place i.part o.tree o.class i.«package» (declared i.place
          i.tree) y o.in_list o.in_file listed i.here i.there in
          absurd cc

  imports_up : (xs : List (List ℕ)) (k : Supertypes) → AreSupertypes w xs k → ((y : List ℕ) (d : Class) → Lists y xs
      → class_named w y ≡ Some d → d.is_imported ≡ true) → (d : Class) → Has d (upwards k) → d.is_imported ≡ true
  imports_up xs k ends h d g = elim g [ ]
  imports_up (x ∷ xs) k (unknown_here {next = next} e rest) h d g =
      imports_up xs next rest (λ y b j m. h y b (after j) m) d g
  imports_up (x ∷ xs) k (known_here {c = b} {supers = supers} {interfaces = interfaces} {next = next} e s i rest) h d
      g =
      let im = h x b foremost e in
      by im g (imports_up b.supers supers s (λ y q j m. lists_outside x b e im y (lists-front y b.supers b.interfaces j)
      q m)) (imports_up xs next rest (λ y q j m. h y q (after j) m))
    where
      front : (d b : Class) (cs : List Class) → b.is_imported ≡ true → (Has d cs → d.is_imported ≡ true)
          → Has d (b ∷ cs) → d.is_imported ≡ true
      front d b cs im h at_front = im
      front d b cs im h (behind g) = h g

      by : b.is_imported ≡ true → Has d (b ∷ upwards supers ++ upwards next) → ((d : Class) → Has d (upwards supers)
          → d.is_imported ≡ true) → ((d : Class) → Has d (upwards next) → d.is_imported ≡ true) → d.is_imported ≡ true
      by im g u v = front d b (upwards supers ++ upwards next) im (λ r. ⊎_elim (λ q. u d q) (λ q. v d q)
          (has-either d (upwards supers) (upwards next) r)) g

  -- an object of a class from outside holds nothing
  pub imported_fields : (x : List ℕ) (c : Class) → class_named w x ≡ Some c → c.is_imported ≡ true
      → object_fields w x ≡ []
  unfolding line
  imported_fields x c e im =
      none_in declared_fields (upwards (supertypes w (x ∷ []))) (λ d h. ap (λ b. if b then []
      else instance_fields d.name d.fields) (imports_up (x ∷ []) (supertypes w (x ∷ [])) (supertypes-AreSupertypes w
      keep.acyclic (x ∷ [])) one d h))
    where
      one : (y : List ℕ) (b : Class) → Lists y (x ∷ []) → class_named w y ≡ Some b → b.is_imported ≡ true
      one y b foremost m = let both : Some b ≡ Some c = sym m ∙ e in let is : b ≡ c = cc
          in ap (λ (v : Class). v.is_imported) is ∙ im
      one y b (after j) m = elim j [ ]

  own_object_fields : (x s : List ℕ) (c : Class) → class_named w x ≡ Some c → c.supers ≡ s ∷ []
      → object_fields w x ≡ object_fields w s ++ declared_fields c
  own_object_fields x s c e one =
      ap (λ cs. flat_map declared_fields (reverse cs)) (line_goes_up w keep.acyclic x s c e one)
      ∙ ap (flat_map declared_fields) (reverse_onto (line w s) c [])
      ∙ flat_map-append declared_fields (reverse (line w s)) (c ∷ [])
      ∙ ap (λ xs. object_fields w s ++ xs) (append-nil (declared_fields c))

  record Holds (x : List ℕ) : Type 0 where
    height : ℕ
    declared : Declares n (may_name w) height (Some (class_together packages x)) (object_fields w x)
    apart : are_apart (object_fields w x) ≡ true
    among : (f : MemberId) → is_one_of f (object_fields w x) ≡ true → (x ≡ f.class) ⊎ Above w x f.class

  of_import : (x : List ℕ) (c : Class) → class_named w x ≡ Some c → c.is_imported ≡ true → Holds x
  of_import x c e im =
      let none = imported_fields x c e im in
      let o = stands_outside packages linked x c e im in
      record {
        height = 0;
        declared = subst (λ fs. Declares n (may_name w) 0 (Some (class_together packages x)) fs) (sym none)
            (subst (λ q. Declares n (may_name w) 0 (Some q) []) (sym o.on_card) declares_imported);
        apart = ap are_apart none;
        among = λ f h. (let no : is_one_of f [] ≡ true = ap (is_one_of f) (sym none) ∙ h in absurd cc);
      }

  module _ (typed : (q : ℕ) (p : Package) → slice_get packages q ≡ Some p → AreTyped p.files) where
    -- a class of a package
    module _ (q : ℕ) (p : Package) (here : slice_get packages q ≡ Some p) (k : ℕ) (t : ClassTree)
        (file : let f = p.files in slice_get f.classes k ≡ Some t) (plain : is_interface t.flags ≡ false) where
      abbrev list : List ℕ
      list = let s = sound_at packages linked q p here in s.list

      abbrev sound_is : IsSound list p.files
      sound_is = let s = sound_at packages linked q p here in s.sound

      abbrev d : Class
      d = declared k t

      abbrev together : Class
      together = declared (before group q + k) t

      abbrev super : List ℕ
      super = t.superclass

      abbrev own_fields : List MemberId
      own_fields = instance_fields t.name (map field_of_class t.fields)

      abbrev i : HasInfo p d
      i = own_entry list p sound_is (typed q p here) k t file

      abbrev entry : ClassEntry
      entry = class_entry (class_ref p) p d

      known : class_named (world p) t.name ≡ Some d
      known = named list p sound_is k t file

      joint_known : class_named w t.name ≡ Some together
      joint_known = own_is_found group (packages_apart packages linked) q k p.files t (record {
        member = together_at packages linked q p here;
        file = file;
      })

      on_card : class_together packages t.name ≡ Own q i.offset
      on_card = told packages linked t.name (Own q (offset_in p t.name)) (own_named packages linked q p here t.name d
          known refl) ∙ ap (Own q) (offset_is p d i)

      home : (f : MemberId) → is_one_of f own_fields ≡ true → f.class ≡ t.name
      home f e = let r = own_among t.name t.fields f e in ap (λ (m : MemberId). m.class) (sym r.4)

      token : (f : MemberId) → is_one_of f own_fields ≡ true → field_together packages f ≡ field_token p f
      token f e = field_kept packages linked q p here f (record {
        class = d;
        there = ap (class_named (world p)) (home f e) ∙ known;
        own = refl;
      })

      fields_there : HasFields n (may_name w) q i.offset entry (class_names p.files (tokens p) d) own_fields
      fields_there =
          let hf = has_fields list p sound_is (typed q p here) k t file in
          record {
            order = hf.order ∙ map_same (field_name (naming p)) (field_name n) own_fields (λ f e. ap (λ x. record {
              token = x;
              name = f.name;
              desc = f.desc;
            }) (sym (token f e)));
            class = hf.class;
            on_card = λ f e. ap (class_together packages) (home f e) ∙ on_card;
            all = all;
            named = λ f e. ap (is_field_of f) (ap (class_named w) (home f e) ∙ joint_known) ∙ e;
            sized = λ f e. subst (λ x. x < entry.declared_instance_size) (sym (token f e)) (hf.sized f e);
            references = λ f e. ap (is_reference_token entry) (token f e) ∙ hf.references f e;
            once = λ f g e h same. hf.once f g e h (sym (token f e) ∙ same ∙ token g h);
            empty = hf.empty;
          }
        where
          there : (f : MemberId) → (o : Option Class) → is_field_of f o ≡ true → is_some o ≡ true
          there f None e = cc
          there f (Some c) e = refl

          all : (f : MemberId) → may_name w f ≡ true → class_together packages f.class ≡ Own q i.offset
              → is_one_of f own_fields ≡ true
          all f may at =
              let same = once packages linked f.class t.name (there f (class_named w f.class) may) (ap is_some
              joint_known) (at ∙ sym on_card) in
              sym (ap (is_field_of f) (ap (class_named w) same ∙ joint_known)) ∙ may

      info : info_of l q i.offset ≡ Some (IsClass entry)
      info =
          infos_same (loaded p) l q (part_of packages linked q p here) i.offset ∙ i.info
          ∙ ap (λ b. Some (if b then IsInterface (interface_entry (class_ref p) (world p) d) else IsClass entry)) plain

      rules : KeepsRules (let f = p.files in f.package_name) (world p) d
      rules = kept list p.files sound_is d (has_named (world p) t.name d known)

      pub super_there : (b : Class) × (class_named (world p) super ≡ Some b)
      super_there = class_there (world p) super (supers_there (world p) d (rules.there refl) super foremost)

      super_plain : is_interface (let b = super_there.0 in b.flags) ≡ false
      super_plain = let right = right_supers (world p) d rules.supers in
          ap is_interface_of (sym super_there.1) ∙ right.supers super foremost

      super_on_card : superclass_on_card l q i.offset ≡ Some (class_together packages super)
      super_on_card = ap (superclass_by l q) info ∙ class_means packages linked q p here super super_there.0
          super_there.1

      abbrev b : Class
      b = super_there.0

      pub stands_before : StandsBefore q i.offset (Some (class_together packages super))
      stands_before = by b.is_imported refl
        where
          at : (c : CardClass) → class_together packages super ≡ c → StandsBefore q i.offset (Some c)
              → StandsBefore q i.offset (Some (class_together packages super))
          at c e s = subst (λ v. StandsBefore q i.offset (Some v)) (sym e) s

          linked_so : (h : HasEntry p b) → IsLinked packages q h.tree
              → StandsBefore q i.offset (Some (class_together packages super))
          linked_so h (to_package r m less there same) =
              let o = exported packages linked q p here super b super_there.1 h r m there same in
              at (Own r (offset_in m super)) (told packages linked super (Own r (offset_in m super)) (own_named packages
              linked r m there super o.class o.there o.own)) (objects.earlier less)
          linked_so h (to_outside out) =
              let c = External (number_in packages linked q p here super b super_there.1 h out) (let v = h.entry
              in v.token) in
              at c (told packages linked super c (named_in packages linked q p here super b super_there.1 h out))
              objects.imported

          by : (v : Bool) → b.is_imported ≡ v → StandsBefore q i.offset (Some (class_together packages super))
          by false im =
              let h = has_info list p sound_is b (has_named (world p) super b super_there.1) im in
              let name : b.name ≡ super = class_named-name (world p) super b super_there.1 in
              let place : class_together packages super ≡ Own q h.offset = told packages linked super (Own q (offset_in
              p super)) (own_named packages linked q p here super b super_there.1 im)
              ∙ ap (Own q) (sym (ap (offset_in p) name) ∙ offset_is p b h) in
              let lt = super_before list p.files sound_is h.number i.number d b super i.ordered h.ordered plain
              super_plain foremost super_there.1 in
              at (Own q h.offset) place (objects.own (offsets_rise 2 (infos (part p)) h.number i.number h.offset
              i.offset h.at i.at lt))
          by true im =
              let h = has_entry list p sound_is b (has_named (world p) super b super_there.1) im in
              linked_so h (linked.imports q h.file p h.tree (record { member = here; file = h.in_list }))

      -- its superclass is no interface in the world of all
      pub plain_above : (c : Class) → class_named w super ≡ Some c → c.is_imported ≡ false → is_interface c.flags ≡ false
      plain_above c e own = by b.is_imported refl
        where
          of_tree : (r : ℕ) (m : Package) → slice_get packages r ≡ Some m → (x : Class) → class_named (world m) super
              ≡ Some x → x.is_imported ≡ false → is_interface x.flags ≡ false → is_interface c.flags ≡ false
          of_tree r m there x f own_x plain_x =
              let j = own_together packages linked r m there super x f own_x in
              let both : Some c ≡ Some (declared (before group r + j.place) j.tree) = sym e ∙ j.together in
              let same : c ≡ declared (before group r + j.place) j.tree = cc in
              ap (λ (v : Class). is_interface v.flags) same ∙ sym (ap (λ (v : Class). is_interface v.flags) j.is)
              ∙ plain_x

          linked_so : (h : HasEntry p b) → IsLinked packages q h.tree → is_interface c.flags ≡ false
          linked_so h (to_package r m less there same) =
              let o = exported packages linked q p here super b super_there.1 h r m there same in
              of_tree r m there o.class o.there o.own (sym o.kind ∙ super_plain)
          linked_so h (to_outside out) =
              let f = file_together packages linked (number_in packages linked q p here super b super_there.1 h out)
              h.tree super (let v = h.entry in v.token) (kept_in packages linked q p here super b super_there.1 h out)
              (token_in packages linked q p here super b super_there.1 h out) in
              let both : Some c ≡ Some (imported f.0 f.1) = sym e ∙ f.2 in
              let same : c ≡ imported f.0 f.1 = cc in
              let no : true ≡ false = sym (ap (λ (v : Class). v.is_imported) same) ∙ own in
              absurd cc

          by : (v : Bool) → b.is_imported ≡ v → is_interface c.flags ≡ false
          by false im = of_tree q p here b super_there.1 im super_plain
          by true im =
              let h = has_entry list p sound_is b (has_named (world p) super b super_there.1) im in
              linked_so h (linked.imports q h.file p h.tree (record { member = here; file = h.in_list }))

      pub above_step : (y : List ℕ) → (super ≡ y) ⊎ Above w super y → Above w t.name y
      above_step y way =
          let j : Lists super (together.supers ++ together.interfaces) = lists-front super together.supers
          together.interfaces foremost in
          ⊎_elim (λ same. subst (Above w t.name) same (directly together joint_known j)) (λ far. onwards together
          joint_known j far) way

      of_class : Holds super → Holds t.name
      of_class h =
          let fields : object_fields w t.name ≡ object_fields w super ++ own_fields = own_object_fields t.name super
          together joint_known refl in
          let made : Declares n (may_name w) (suc h.height) (Some (Own q i.offset)) (object_fields w super
          ++ own_fields) =
          declares info (names_same (loaded p) l q (part_of packages linked q p here) i.offset ∙ i.names) fields_there
          (subst (StandsBefore q i.offset) (sym super_on_card) stands_before)
          (subst (λ o. Declares n (may_name w) h.height o (object_fields w super)) (sym super_on_card) h.declared) in
          record {
            height = suc h.height;
            declared = subst (λ fs. Declares n (may_name w) (suc h.height) (Some (class_together packages t.name)) fs)
                (sym fields) (subst (λ v. Declares n (may_name w) (suc h.height) (Some v) (object_fields w super
                ++ own_fields)) (sym on_card) made);
            apart = ap are_apart fields ∙ apart_both (object_fields w super) own_fields h.apart (fields_apart list p
                sound_is k t file) (λ g a c. keep.acyclic t.name (subst (Above w t.name) (home g c) (above_step g.class
                (h.among g a))));
            among = λ g a. ⊎_elim (λ u. inr (above_step g.class (h.among g u))) (λ c. inl (sym (home g c)))
                (one_of_either g (object_fields w super) own_fields (sym (ap (is_one_of g) fields) ∙ a));
          }

    -- ---- each class that is no interface

    holds : (m : ℕ) (x : List ℕ) → Settles w m x → (c : Class) → class_named w x ≡ Some c
        → (c.is_imported ≡ false → is_interface c.flags ≡ false) → Holds x
    holds zero x settles c e plain = elim settles [ ]
    holds (suc m) x (nothing none) c e plain = cc
    holds (suc m) x (something b named_b up) c e plain =
        let both : Some b ≡ Some c = sym named_b ∙ e in
        let is : b ≡ c = cc in
        by is (stands packages linked x c e) (λ y j d f pl. holds m y (up y (lists-front y b.supers b.interfaces j)) d f
        pl)
      where
        by : b ≡ c → Inside packages linked x c ⊎ Outside packages linked x c → ((y : List ℕ) → Lists y b.supers
            → (d : Class) → class_named w y ≡ Some d → (d.is_imported ≡ false → is_interface d.flags ≡ false)
            → Holds y) → Holds x
        by is (inr o) rest = of_import x c e (ap (λ (v : Class). v.is_imported) o.is)
        by is (inl i) rest =
            let t = i.tree in
            let t_plain : is_interface t.flags ≡ false = sym (ap (λ (v : Class). is_interface v.flags) i.is)
            ∙ plain (ap (λ (v : Class). v.is_imported) i.is) in
            let s = super_there i.part i.«package» i.here i.place i.tree i.file t_plain in
            let d = class_there w t.superclass (known_together packages linked i.part i.«package» i.here t.superclass
            s.0 s.1) in
            let listed : Lists t.superclass b.supers = subst (λ (v : Class). Lists t.superclass v.supers) (sym (is
            ∙ i.is)) foremost in
            subst Holds i.name (of_class i.part i.«package» i.here i.place i.tree i.file t_plain (rest t.superclass
            listed d.0 d.1 (plain_above i.part i.«package» i.here i.place i.tree i.file t_plain d.0 d.1)))

    pub holder_plain : (c : Class) → is_holder (Some c) ≡ true → c.is_imported ≡ false → is_interface c.flags ≡ false
    holder_plain c e own = by (is_interface c.flags) e
      where
        by : (v : Bool) → (if v then is_own_exception c else (c.is_imported || not (is_abstract c.flags))) ≡ true
            → v ≡ false
        by false f = refl
        by true f = let no : false ≡ true = sym (ap (λ u. u && list_any (λ name. bytes_eq name c.name) own_exceptions)
            own) ∙ f in absurd cc

    both_parts : (u v : Bool) → (u && v) ≡ true → (u ≡ true) × (v ≡ true)
    both_parts true true e = (refl, refl)
    both_parts true false e = cc
    both_parts false v e = cc

    pub has_objects : (x : List ℕ) (fields : List MemberId) → may_hold w x fields ≡ true
        → HasObjects n (may_name w) x fields
    has_objects x fields e = by (class_named w x) refl (both_parts (is_holder (class_named w x)) (same_members fields
        (object_fields w x)) e)
      where
        by : (o : Option Class) → class_named w x ≡ o → (is_holder (class_named w x) ≡ true)
            × (same_members fields (object_fields w x) ≡ true) → HasObjects n (may_name w) x fields
        by None m r = let never : is_holder None ≡ true = ap is_holder (sym m) ∙ r.0 in absurd cc
        by (Some c) m r =
            let h = holds (suc (length w)) x (clear_settles w x (λ z way far. keep.acyclic z far)) c m (holder_plain c
            (ap is_holder (sym m) ∙ r.0)) in
            let same = same_tells fields (object_fields w x) r.1 in
            record {
              height = h.height;
              low = within_depth n (may_name w) h.declared;
              declared = subst (Declares n (may_name w) h.height (Some (class_together packages x))) (sym same)
                  h.declared;
              once = ap are_apart same ∙ h.apart;
            }

  pub import_holds : (x : List ℕ) (c : Class) → class_named w x ≡ Some c → c.is_imported ≡ true
      → is_holder (Some c) ≡ true → may_hold w x [] ≡ true
  import_holds x c e im holds_some = ap (λ o. is_holder o && same_members [] (object_fields w x)) e
      ∙ ap (λ b. b && same_members [] (object_fields w x)) holds_some
      ∙ ap (same_members []) (imported_fields x c e im)
