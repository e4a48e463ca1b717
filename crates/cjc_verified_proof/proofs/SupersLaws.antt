-- What stands above the classes of a package, by the rule of superclasses and interfaces.
use Rattle.std.proofs.Common.{◌≡◌, ◌<◌, ◌+◌, ◌*◌, ℕ, zero, suc, Bool, true, false, List, [], ◌∷◌, ◌++◌, length, map}
use Rattle.std.proofs.Common.{slice_get, Option, Some, None, refl, sym, ap, subst, ◌∙◌, arith, inl, inr, append-nil}
use Rattle.std.specs.Prelude.{◌==◌, ◌||◌, ◌⊎◌, codes, flat_map, nat_lt, sum_by, option_and_then, option_map}
use Rattle.std.specs.Prelude.{cond, option_to_list, if◌then◌else◌}
use Rattle.std.specs.List.{find}
use Rattle.std.proofs.lemmas.Bool.Decides.{nat_tests}
use Rattle.std.proofs.lemmas.List.Sums.{sum_by-cons}
use Rattle.cjc_capread.specs.declared.tree.ClassEntry.{ClassEntry}
use Rattle.cjc_capread.specs.declared.tree.ClassRef.{ClassRef}
use Rattle.cjc_capread.specs.declared.tree.ClassRef.TheVariants.{Inside, Outside}
use Rattle.cjc_capread.specs.declared.tree.ImplementedInterface.{ImplementedInterface}
use Rattle.cjc_capread.specs.declared.tree.InterfaceEntry.{InterfaceEntry}
use Rattle.cjc_world.specs.ExportFile.declared.tree.ExportClass.{ExportClass}
use Rattle.cjc_world.specs.ExportFile.declared.tree.ExportTree.{ExportTree}
use Rattle.cjc_check_rules.specs.declared.spot.ComponentPlace.{ComponentPlace}
use Rattle.cjc_check_rules.specs.Spots.{along, begins, in_info, placed, unless}
use Rattle.cjc_check_rules.specs.Classes.{class_with, first_class, first_interface}
use Rattle.cjc_check_rules.specs.Classes.{is_exported_interface, names_class, names_interface}
use Rattle.cjc_check_rules.specs.ClassRefs.{has_superclass, in_interface, in_map, in_maps, interfaces_in_described}
use Rattle.cjc_check_rules.specs.ClassRefs.{maps_begin, one_ref, stands_earlier, super_in_class, super_spots}
use Rattle.cjc_check_rules.specs.Complete.{Complete, class_size, described_size, interface_size, map_size}
use Rattle.cjc_world.specs.declared.image.StaticImage.{StaticImage}
use Rattle.cjc_world.specs.Files.{Files}
use Rattle.cjc_card_semantics.specs.Machine.Loaded.{Import, OfFile, Loaded}
use Rattle.cjc_card_semantics.specs.Machine.Classes.{Class, Own, External, Info, IsInterface, IsClass, class_of}
use Rattle.cjc_card_semantics.specs.Machine.Classes.{external}
use Rattle.cjc_card_semantics.specs.Machine.Classes.{external_from, external_named, imported_class, info_of}
use Rattle.cjc_card_semantics.specs.Machine.Classes.{info_size, is_in, is_interface, is_interface_file}
use Rattle.cjc_card_semantics.specs.Machine.Classes.{is_interface_info}
use Rattle.cjc_card_semantics.specs.Machine.Classes.{is_there, offset_of}
use Rattle.cjc_card_semantics.specs.Machine.Classes.{map_sizes, number_from, object_class, or_else, some_of}
use Rattle.cjc_card_semantics.specs.Machine.Classes.{supers, token_named, with_token}
use Rattle.cjc_components.specs.Paired.Naming.{files_from, part_of}
use Rattle.cjc_verify.specs.Pairs.{Pair, pair_of}
use Rattle.cjc_verify_proof.specs.Memories.{SupersStand, interfaces_of}
use Rattle.cjc_bytes.proofs.Bools.{and_true}
use Rattle.cjc_bytes.proofs.Gets.{mapped_at}
use Rattle.cjc_bytes.proofs.Lists.{none_left, none_right}
use Rattle.cjc_bytes.proofs.Numbers.{number_same}
use Rattle.cjc_card_semantics.proofs.MachineLaws.Upwards.{either_in, first_or_later}
use Rattle.cjc_verified_proof.specs.PackageTypes.{HasNoObject}
use Rattle.cjc_verified_proof.proofs.PlaceLaws.{along_none, class_bytes, found_token, import_is}
use Rattle.cjc_verified_proof.proofs.EntryLaws.{unless_holds}

-- ---- items one behind the other

abbrev Places : Type 0
Places = List ComponentPlace

suc_of : (o : Option ℕ) (k : ℕ) → option_map suc o ≡ Some k → (j : ℕ) × (o ≡ Some j) × (k ≡ suc j)
suc_of None k e = cc
suc_of (Some j) k e = (j, refl, (let same : suc j ≡ k = cc in sym same))

-- what is tested of a class, at the offset of its info
class_only : (broken : ℕ → ClassEntry → Places) (at : ℕ) (cs : List ClassEntry) (offset k : ℕ) (c : ClassEntry)
    → number_from at (map IsClass cs) offset ≡ Some k → slice_get (map IsClass cs) k ≡ Some (IsClass c)
    → along class_size broken at cs ≡ [] → broken offset c ≡ []
unfolding along
class_only broken at [] offset k c e f g = cc
class_only broken at (d ∷ cs) offset k c e f g = by (at == offset) refl e
    (λ j h i. class_only broken (at + info_size (IsClass d)) cs offset j c h i (subst (λ n. along class_size broken
    (at + n) cs ≡ []) (class_bytes d) (none_right (broken at d) (along class_size broken (at + class_size d) cs) g)))
  where
    by : (b : Bool) → (at == offset) ≡ b → (if b then Some 0 else option_map suc (number_from (at
        + info_size (IsClass d)) (map IsClass cs) offset)) ≡ Some k → ((j : ℕ) → number_from (at
        + info_size (IsClass d)) (map IsClass cs) offset ≡ Some j → slice_get (map IsClass cs) j ≡ Some (IsClass c)
        → broken offset c ≡ []) → broken offset c ≡ []
    by true is h rest =
        let z : 0 ≡ k = cc in
        let head : Some (IsClass d) ≡ Some (IsClass c) = ap (slice_get (map IsClass (d ∷ cs))) z ∙ f in
        let same : d ≡ c = cc in
        let here = number_same at offset is in
        ap (λ n. broken n c) (sym here) ∙ ap (broken at) (sym same) ∙ none_left (broken at d) (along class_size broken
        (at + class_size d) cs) g
    by false off h rest =
        let r = suc_of (number_from (at + info_size (IsClass d)) (map IsClass cs) offset) k h in
        rest r.0 r.1 (ap (slice_get (map IsClass (d ∷ cs))) (sym r.2) ∙ f)

class_tested : (broken : ℕ → ClassEntry → Places) (at : ℕ) (is : List InterfaceEntry) (cs : List ClassEntry)
    (offset k : ℕ) (c : ClassEntry) → number_from at (map IsInterface is ++ map IsClass cs) offset ≡ Some k
    → slice_get (map IsInterface is ++ map IsClass cs) k ≡ Some (IsClass c)
    → along class_size broken (at + sum_by interface_size is) cs ≡ [] → broken offset c ≡ []
class_tested broken at [] cs offset k c e f g = class_only broken at cs offset k c e f (subst (λ n. along class_size
    broken n cs ≡ []) (let z : at + 0 ≡ at = omega arith in z) g)
class_tested broken at (i ∷ is) cs offset k c e f g = by (at == offset) refl e
    (λ j h q. class_tested broken (at + info_size (IsInterface i)) is cs offset j c h q (subst (λ n. along class_size
    broken n cs ≡ []) (let s = sum_by-cons interface_size i is in let z : at + sum_by interface_size (i ∷ is) ≡ at
    + info_size (IsInterface i) + sum_by interface_size is = omega (arith, s) in z) g))
  where
    by : (b : Bool) → (at == offset) ≡ b → (if b then Some 0 else option_map suc (number_from (at
        + info_size (IsInterface i)) (map IsInterface is ++ map IsClass cs) offset)) ≡ Some k → ((j : ℕ)
        → number_from (at + info_size (IsInterface i)) (map IsInterface is ++ map IsClass cs) offset ≡ Some j
        → slice_get (map IsInterface is ++ map IsClass cs) j ≡ Some (IsClass c) → broken offset c ≡ [])
        → broken offset c ≡ []
    by true at_it h rest =
        let z : 0 ≡ k = cc in
        let head : Some (IsInterface i) ≡ Some (IsClass c) = ap (slice_get (IsInterface i ∷ (map IsInterface is
        ++ map IsClass cs))) z ∙ f in
        cc
    by false off h rest =
        let r = suc_of (number_from (at + info_size (IsInterface i)) (map IsInterface is ++ map IsClass cs) offset) k h
        in
        rest r.0 r.1 (ap (slice_get (IsInterface i ∷ (map IsInterface is ++ map IsClass cs))) (sym r.2) ∙ f)

-- an interface begins at an offset
interface_there : (at : ℕ) (is : List InterfaceEntry) (cs : List ClassEntry) (offset : ℕ)
    → begins (placed interface_size at is) offset ≡ true → (i : InterfaceEntry)
    × (option_and_then (slice_get (map IsInterface is ++ map IsClass cs)) (number_from at (map IsInterface is
    ++ map IsClass cs) offset) ≡ Some (IsInterface i))
unfolding placed
interface_there at [] cs offset e = cc
interface_there at (i ∷ is) cs offset e = by (at == offset) e (interface_there (at + interface_size i) is cs offset)
  where
    more : (o : Option ℕ) → option_and_then (slice_get (IsInterface i ∷ (map IsInterface is ++ map IsClass cs)))
        (option_map suc o) ≡ option_and_then (slice_get (map IsInterface is ++ map IsClass cs)) o
    more None = refl
    more (Some k) = refl

    by : (b : Bool) → (b || begins (placed interface_size (at + interface_size i) is) offset) ≡ true
        → (begins (placed interface_size (at + interface_size i) is) offset ≡ true → (j : InterfaceEntry)
        × (option_and_then (slice_get (map IsInterface is ++ map IsClass cs)) (number_from (at + interface_size i)
        (map IsInterface is ++ map IsClass cs) offset) ≡ Some (IsInterface j)))
        → (j : InterfaceEntry) × (option_and_then (slice_get (IsInterface i ∷ (map IsInterface is ++ map IsClass cs)))
        (if b then Some 0 else option_map suc (number_from (at + interface_size i) (map IsInterface is
        ++ map IsClass cs) offset)) ≡ Some (IsInterface j))
    by true h rest = (i, refl)
    by false h rest = let r = rest h in (
      r.0,
      more (number_from (at + interface_size i) (map IsInterface is
          ++ map IsClass cs) offset) ∙ r.1,
    )

-- an interface among all infos is one of the interfaces
interface_number : (is : List InterfaceEntry) (cs : List ClassEntry) (k : ℕ) (i : InterfaceEntry)
    → slice_get (map IsInterface is ++ map IsClass cs) k ≡ Some (IsInterface i) → slice_get is k ≡ Some i
interface_number [] cs k i e = let r = mapped_at IsClass cs k (IsInterface i) e in let clash : IsClass r.0
    ≡ IsInterface i = r.2 in cc
interface_number (j ∷ is) cs zero i e = (let same : j ≡ i = cc in ap (λ x. Some x) same)
interface_number (j ∷ is) cs (suc k) i e = interface_number is cs k i e

-- ---- imports

-- a name of export files means no class of the group
outside_named : (k : ℕ) (trees : List ExportTree) (name : List ℕ) (p offset : ℕ) → external_from k trees name
    ≡ Some (Own p offset) → ⊥
outside_named k [] name p offset e = cc
outside_named k (t ∷ trees) name p offset e = by (token_named t.classes name) e
    (outside_named (k + 1) trees name p offset)
  where
    by : (o : Option ℕ) → or_else (option_map (External k) o) (external_from (k + 1) trees name) ≡ Some (Own p offset)
        → (external_from (k + 1) trees name ≡ Some (Own p offset) → ⊥) → ⊥
    by None h rest = rest h
    by (Some token) h rest = cc

none_own : (l : Loaded) (names : List (List ℕ)) (p offset : ℕ) → is_in (Own p offset) (some_of (map (external_named l)
    names)) ≡ false
none_own l [] p offset = refl
none_own l (n ∷ names) p offset = by (external_named l n) refl (none_own l names p offset)
  where
    by : (o : Option Class) → external_named l n ≡ o → is_in (Own p offset) (some_of (map (external_named l) names))
        ≡ false → is_in (Own p offset) (option_to_list o ++ some_of (map (external_named l) names)) ≡ false
    by None h rest = rest
    by (Some (Own q above)) h rest = absurd (outside_named 0 l.trees n q above h)
    by (Some (External tree token)) h rest = rest

-- ---- supers

module _ (applets : Bool) (files : Files) (image : StaticImage) (c : Complete)
    (clean : super_spots c files.exports ≡ []) where
  abbrev p : Pair
  p = pair_of applets files image c

  abbrev l : Loaded
  l = p.loaded

  abbrev tested : ClassRef → Bool
  tested r = names_interface c.class files.exports r

  abbrev in_interfaces : List ComponentPlace
  in_interfaces = along interface_size (in_interface tested) first_interface (let i = c.class in i.interfaces)

  abbrev in_classes : List ComponentPlace
  in_classes = along class_size (super_in_class c.class files.exports) (first_class c.class) (let i = c.class
      in i.classes)

  abbrev in_descriptor : List ComponentPlace
  in_descriptor = along described_size (interfaces_in_described tested) 1 (let d = c.descriptor in d.classes)

  interfaces_clean : in_interfaces ≡ []
  interfaces_clean = none_left in_interfaces in_classes (none_left (in_interfaces ++ in_classes) in_descriptor clean)

  classes_clean : in_classes ≡ []
  classes_clean = none_right in_interfaces in_classes (none_left (in_interfaces ++ in_classes) in_descriptor clean)

  abbrev all : List Info
  all = let i = c.class in map IsInterface i.interfaces ++ map IsClass i.classes

  record HasNumber (offset : ℕ) (info : Info) : Type 0 where
    number : ℕ
    from : number_from 2 all offset ≡ Some number
    there : slice_get all number ≡ Some info

  info_there : (q offset : ℕ) (info : Info) → info_of l q offset ≡ Some info → (q ≡ 0) × HasNumber offset info
  info_there zero offset info e = (refl, by (number_from 2 all offset) refl e)
    where
      by : (o : Option ℕ) → number_from 2 all offset ≡ o → option_and_then (slice_get all) o ≡ Some info
          → HasNumber offset info
      by None f h = cc
      by (Some k) f h = record { number = k; from = f; there = h }
  info_there (suc q) offset info e = cc

  -- a class_ref outside means an imported class
  outside_meant : (import token : ℕ) (class : Class) → class_of l 0 (Outside import token) ≡ Some class
      → class ≡ External import token
  outside_meant import token class e = by (slice_get (files_from 0 files.exports) import) refl e
    where
      through : (t : Bool) → (if t then Some (External import token) else None) ≡ Some class
          → class ≡ External import token
      through true h = let same : External import token ≡ class = cc in sym same
      through false h = cc

      by : (o : Option Import) → slice_get (files_from 0 files.exports) import ≡ o
          → option_and_then (imported_class l token) o ≡ Some class → class ≡ External import token
      by None f h = cc
      by (Some x) f h =
          let is = import_is 0 files.exports import x f in
          let z : 0 + import ≡ import = omega arith in
          through (is_there l (External import token)) (sym (ap (imported_class l token) (is ∙ ap OfFile z)) ∙ h)

  inside_meant : (offset : ℕ) (class : Class) → class_of l 0 (Inside offset) ≡ Some class → class ≡ Own 0 offset
  inside_meant offset class e = by (is_there l (Own 0 offset)) e
    where
      by : (t : Bool) → (if t then Some (Own 0 offset) else None) ≡ Some class → class ≡ Own 0 offset
      by true h = let same : Own 0 offset ≡ class = cc in sym same
      by false h = cc

  stands_before : (q offset : ℕ) (e : ClassEntry) (r above : ℕ) → info_of l q offset ≡ Some (IsClass e)
      → class_of l q e.superclass ≡ Some (Own r above) → (r ≡ q) × (above < offset)
  stands_before q offset e r above is super = by e.superclass refl
    where
      i : (q ≡ 0) × HasNumber offset (IsClass e)
      i = info_there q offset (IsClass e) is

      meant : class_of l 0 e.superclass ≡ Some (Own r above)
      meant = ap (λ n. class_of l n e.superclass) (sym i.0) ∙ super

      broken_none : super_in_class c.class files.exports offset e ≡ []
      broken_none = let k = i.1 in class_tested (super_in_class c.class files.exports) 2 (let x = c.class
          in x.interfaces) (let x = c.class in x.classes) offset k.number e k.from k.there classes_clean

      right : (names_class c.class files.exports e.superclass ≡ true) × (stands_earlier e.superclass offset ≡ true)
      right = and_true (names_class c.class files.exports e.superclass) (stands_earlier e.superclass offset)
          (unless_holds (has_superclass c.class files.exports offset e) (in_info 6 (offset + 1)) (none_left (unless
          (has_superclass c.class files.exports offset e) (in_info 6 (offset + 1))) (in_maps (names_interface c.class
          files.exports) offset e) broken_none))

      by : (x : ClassRef) → e.superclass ≡ x → (r ≡ q) × (above < offset)
      by (Inside o) f =
          let same = inside_meant o (Own r above) (ap (class_of l 0) (sym f) ∙ meant) in
          let parts : r ≡ 0 = cc in
          let offsets : above ≡ o = cc in
          let less : nat_lt o offset ≡ true = ap (λ x. stands_earlier x offset) (sym f) ∙ right.1 in
          let lt : o < offset = grind (arith, nat_tests, less) in
          (parts ∙ sym i.0, omega (arith, offsets, lt))
      by (Outside import token) f =
          let same = outside_meant import token (Own r above) (ap (class_of l 0) (sym f) ∙ meant) in
          cc

  -- a class_ref that names an interface means one
  interface_meant : (r : ClassRef) (class : Class) → tested r ≡ true → class_of l 0 r ≡ Some class
      → is_interface l class ≡ true
  interface_meant (Inside offset) class t e =
      let same = inside_meant offset class e in
      let r = interface_there 2 (let i = c.class in i.interfaces) (let i = c.class in i.classes) offset t in
      subst (λ x. is_interface l x ≡ true) (sym same) (ap is_interface_info r.1)
  interface_meant (Outside import token) class t e =
      let same = outside_meant import token class e in
      subst (λ x. is_interface l x ≡ true) (sym same) (by (slice_get files.exports import) refl t)
    where
      at : (o : Option ExportClass) → is_exported_interface o ≡ true → is_interface_file o ≡ true
      at None h = cc
      at (Some x) h = h

      by : (o : Option ExportTree) → slice_get files.exports import ≡ o
          → is_exported_interface (option_and_then (class_with token) o) ≡ true
          → is_interface_file (external l import token) ≡ true
      by None f h = cc
      by (Some tree) f h =
          let found : external l import token ≡ with_token tree.classes token = ap (option_and_then
          (λ (x : ExportTree). with_token x.classes token)) f in
          ap is_interface_file found ∙ at (with_token tree.classes token) (ap is_exported_interface (sym
          (found_token tree.classes token)) ∙ h)

  -- each of several class_refs names an interface
  all_tested : (rs : List ClassRef) → ((k : ℕ) (r : ClassRef) → slice_get rs k ≡ Some r → tested r ≡ true)
      → (class : Class) → is_in class (some_of (map (class_of l 0) rs)) ≡ true → is_interface l class ≡ true
  all_tested [] each class e = cc
  all_tested (r ∷ rs) each class e = by (class_of l 0 r) refl (either_in class (option_to_list (class_of l 0 r))
      (some_of (map (class_of l 0) rs)) e) (all_tested rs (λ k x f. each (suc k) x f) class)
    where
      by : (o : Option Class) → class_of l 0 r ≡ o → (is_in class (option_to_list o) ≡ true)
          ⊎ (is_in class (some_of (map (class_of l 0) rs)) ≡ true)
          → (is_in class (some_of (map (class_of l 0) rs)) ≡ true → is_interface l class ≡ true)
          → is_interface l class ≡ true
      by None f (inl h) rest = cc
      by (Some x) f (inl h) rest = elim (first_or_later class x [] h) [
        | inl same ↦ subst (λ y. is_interface l y ≡ true) (sym same) (interface_meant r x (each 0 r refl) f)
        | inr never ↦ cc
      ]
      by o f (inr h) rest = rest h

  listed : (offset : ℕ) (info : Info) → HasNumber offset info → (k : ℕ) (r : ClassRef)
      → slice_get (interfaces_of info) k ≡ Some r → tested r ≡ true
  listed offset (IsInterface i) n k r e =
      let j = interface_number (let x = c.class in x.interfaces) (let x = c.class in x.classes) n.number i n.there in
      let a = along_none interface_size (in_interface tested) first_interface (let x = c.class in x.interfaces) n.number
      i interfaces_clean j in
      let b = along_none (λ (x : ClassRef). 2) (one_ref tested 6) (a.0 + 1) i.superinterfaces k r a.1 e in
      unless_holds (tested r) (in_info 6 b.0) b.1
  listed offset (IsClass x) n k r e =
      let broken_none = class_tested (super_in_class c.class files.exports) 2 (let i = c.class in i.interfaces)
      (let i = c.class in i.classes) offset n.number x n.from n.there classes_clean in
      let maps = none_right (unless (has_superclass c.class files.exports offset x) (in_info 6 (offset + 1)))
      (in_maps (names_interface c.class files.exports) offset x) broken_none in
      let m = mapped_at (λ (y : ImplementedInterface). y.interface) x.interfaces k r e in
      let b = along_none map_size (in_map tested) (maps_begin offset x) x.interfaces k m.0 maps m.1 in
      ap tested (sym m.2) ∙ unless_holds (tested (let y = m.0 in y.interface)) (in_info 6 b.0) b.1

  pub supers_stand : HasNoObject l → SupersStand l
  supers_stand no_object = record {
    before = stands_before;
    interfaces = λ q offset info class is h. (
        let i = info_there q offset info is in
        all_tested (interfaces_of info) (listed offset info i.1) class (ap (λ n. is_in class (some_of (map
        (class_of l n)
        (interfaces_of info)))) (sym i.0) ∙ h)
        );
    outside = λ tree token q offset. outside_none tree token q offset;
    object = λ q offset e. own_object q offset e;
  }
    where
      outside_none : (tree token q offset : ℕ) → is_in (Own q offset) (supers l (External tree token)) ≡ false
      outside_none tree token q offset = by (external l tree token)
        where
          nothing_behind : (cs : List Class) → is_in (Own q offset) (cs ++ []) ≡ is_in (Own q offset) cs
          nothing_behind cs = ap (is_in (Own q offset)) (append-nil cs)

          by : (o : Option ExportClass) → is_in (Own q offset) (flat_map (λ (x : ExportClass). some_of (map
              (external_named l) (x.supers ++ x.interfaces))) (option_to_list o)) ≡ false
          by None = refl
          by (Some x) = nothing_behind (some_of (map (external_named l) (x.supers ++ x.interfaces)))
              ∙ none_own l (x.supers ++ x.interfaces) q offset

      own_object : (q offset : ℕ) → object_class l ≡ Some (Own q offset) → ⊥
      own_object q offset e = outside_named 0 l.trees (codes "java/lang/Object") q offset (sym named ∙ e)
        where
          named : object_class l ≡ external_named l (codes "java/lang/Object")
          named = ap (λ (o : Option ℕ). or_else (or_else (option_and_then (λ (n : ℕ). option_map (Own 0)
              (offset_of (part_of applets files image c) n)) o) None) (external_named l (codes "java/lang/Object")))
              (no_object 0 (part_of applets files image c) refl)
