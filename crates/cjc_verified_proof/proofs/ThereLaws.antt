-- What class_refs mean that name a class or interface, by the rule that each one does.
use Rattle.std.proofs.Common.{◌≡◌, ◌+◌, ℕ, suc, Bool, true, false, List, [], ◌∷◌, ◌++◌, map, slice_get, Option, Some}
use Rattle.std.proofs.Common.{None, refl, sym, ap, ◌∙◌, arith}
use Rattle.std.specs.Prelude.{◌==◌, ◌||◌, if◌then◌else◌, is_some, option_and_then, option_map, sum_by}
use Rattle.std.proofs.lemmas.List.Sums.{sum_by-cons}
use Rattle.cjc_capread.specs.declared.tree.ClassEntry.{ClassEntry}
use Rattle.cjc_capread.specs.declared.tree.ClassRef.{ClassRef}
use Rattle.cjc_capread.specs.declared.tree.ClassRef.TheVariants.{Inside, Outside}
use Rattle.cjc_capread.specs.declared.tree.InterfaceEntry.{InterfaceEntry}
use Rattle.cjc_capread.specs.declared.tree.PoolEntry.{PoolEntry}
use Rattle.cjc_world.specs.ExportFile.declared.tree.ExportClass.{ExportClass}
use Rattle.cjc_world.specs.ExportFile.declared.tree.ExportTree.{ExportTree}
use Rattle.cjc_check_rules.specs.Spots.{along, begins, in_info, placed, unless}
use Rattle.cjc_check_rules.specs.Classes.{class_with, first_class, first_interface, imported, is_there}
use Rattle.cjc_check_rules.specs.ClassRefs.{class_ref_spots, in_class, in_described, in_entry, in_interface, in_type}
use Rattle.cjc_check_rules.specs.ClassRefs.{types_begin}
use Rattle.cjc_check_rules.specs.Complete.{Complete, class_size, described_size, interface_size, type_size}
use Rattle.cjc_world.specs.declared.image.StaticImage.{StaticImage}
use Rattle.cjc_world.specs.Files.{Files}
use Rattle.cjc_card_semantics.specs.Machine.Loaded.{Loaded, OfFile}
use Rattle.cjc_card_semantics.specs.Machine.Classes.{Class, Own, External, Info, IsInterface, IsClass, class_of}
use Rattle.cjc_card_semantics.specs.Machine.Classes.{external, import_of, imported_class, info_size, number_from}
use Rattle.cjc_card_semantics.specs.Machine.Classes.{with_token}
use Rattle.cjc_components.specs.Paired.Naming.{files_from}
use Rattle.cjc_verify.specs.Pairs.{Pair, pair_of}
use Rattle.cjc_bytes.proofs.Lists.{none_left}
use Rattle.cjc_verified_proof.proofs.EntryLaws.{unless_holds}
use Rattle.cjc_verified_proof.proofs.PlaceLaws.{along_none, class_bytes, found_token, import_there}

-- ---- infos of Class by their starts

module _ (offset : ℕ) where
  classes_begin : (at : ℕ) (cs : List ClassEntry) → begins (placed class_size at cs) offset
      ≡ begins (placed info_size at (map IsClass cs)) offset
  unfolding placed
  classes_begin at [] = refl
  classes_begin at (c ∷ cs) = ap (λ b. (at == offset) || b) (ap (λ n. begins (placed class_size (at + n) cs) offset)
      (class_bytes c) ∙ classes_begin (at + info_size (IsClass c)) cs)

  either : (a b c : Bool) → ((a || b) || c) ≡ (a || (b || c))
  either true b c = refl
  either false b c = refl

  infos_begin : (at : ℕ) (is : List InterfaceEntry) (cs : List ClassEntry) → (begins
      (placed interface_size at is) offset
      || begins (placed class_size (at + sum_by interface_size is) cs) offset) ≡ begins (placed info_size at
      (map IsInterface is ++ map IsClass cs)) offset
  unfolding placed
  infos_begin at [] cs = let z : at + 0 ≡ at = omega arith in ap (λ n. begins (placed class_size n cs) offset) z
      ∙ classes_begin at cs
  infos_begin at (i ∷ is) cs =
      let s = sum_by-cons interface_size i is in
      let z : at + sum_by interface_size (i ∷ is) ≡ at + interface_size i + sum_by interface_size is =
      omega (arith, s) in
      either (at == offset) (begins (placed interface_size (at + interface_size i) is) offset) (begins
      (placed class_size
      (at + sum_by interface_size (i ∷ is)) cs) offset)
      ∙ ap (λ b. (at == offset) || b) (ap (λ n. begins (placed interface_size (at + interface_size i) is) offset
      || begins (placed class_size n cs) offset) z ∙ infos_begin (at + interface_size i) is cs)

  -- what begins at an offset stands there
  begun_there : (at : ℕ) (is : List Info) → begins (placed info_size at is) offset ≡ true
      → is_some (option_and_then (slice_get is) (number_from at is offset)) ≡ true
  unfolding placed
  begun_there at [] e = cc
  begun_there at (i ∷ is) e = by (at == offset) e (begun_there (at + info_size i) is)
    where
      more : (o : Option ℕ) → option_and_then (slice_get (i ∷ is)) (option_map suc o) ≡ option_and_then (slice_get is) o
      more None = refl
      more (Some k) = refl

      by : (b : Bool) → (b || begins (placed info_size (at + info_size i) is) offset) ≡ true
          → (begins (placed info_size (at + info_size i) is) offset ≡ true
          → is_some (option_and_then (slice_get is) (number_from (at + info_size i) is offset)) ≡ true)
          → is_some (option_and_then (slice_get (i ∷ is)) (if b then Some 0 else option_map suc (number_from
          (at + info_size i) is offset))) ≡ true
      by true h rest = refl
      by false h rest = ap is_some (more (number_from (at + info_size i) is offset)) ∙ rest h

-- ---- what class_refs mean

module _ (applets : Bool) (files : Files) (image : StaticImage) (c : Complete) where
  abbrev p : Pair
  p = pair_of applets files image c

  abbrev l : Loaded
  l = p.loaded

  -- an imported class that is there
  pub record IsThere (import token : ℕ) (x : ExportClass) : Type 0 where
    pub through : import_of l 0 import ≡ Some (OfFile import)
    pub external_is : external l import token ≡ Some x
    pub meant : class_of l 0 (Outside import token) ≡ Some (External import token)

  pub outside_there : (import token : ℕ) (x : ExportClass) → imported files.exports import token ≡ Some x
      → IsThere import token x
  outside_there import token x e = by (slice_get files.exports import) refl e
    where
      by : (o : Option ExportTree) → slice_get files.exports import ≡ o
          → option_and_then (class_with token) o ≡ Some x → IsThere import token x
      by None f h = cc
      by (Some tree) f h =
          let there : external l import token ≡ Some x = ap (option_and_then (λ (t : ExportTree). with_token t.classes
          token)) f ∙ sym (found_token tree.classes token) ∙ h in
          let z : 0 + import ≡ import = omega arith in
          let named : slice_get (files_from 0 files.exports) import ≡ Some
          (OfFile import) = import_there 0 files.exports
          import tree f ∙ ap (λ n. Some (OfFile n)) z in
          record {
            through = named;
            external_is = there;
            meant = ap (option_and_then (imported_class l token)) named ∙ ap (λ b. if b then Some
                (External import token)
                else None) (ap is_some there);
          }

  -- the class that a class_ref means which names one
  pub there_meant : (r : ClassRef) → is_there c.class files.exports r ≡ true → (class : Class) × (class_of l 0 r
      ≡ Some class)
  there_meant (Inside offset) e =
      let i = c.class in
      let there = begun_there offset 2 (map IsInterface i.interfaces ++ map IsClass i.classes) (sym
      (infos_begin offset 2
      i.interfaces i.classes) ∙ e) in
      (Own 0 offset, ap (λ b. if b then Some (Own 0 offset) else None) there)
  there_meant (Outside import token) e = by (imported files.exports import token) refl e
    where
      by : (o : Option ExportClass) → imported files.exports import token ≡ o → is_some o ≡ true → (class : Class)
          × (class_of l 0 (Outside import token) ≡ Some class)
      by None f h = cc
      by (Some x) f h = let r = outside_there import token x f in (External import token, r.meant)

  -- that of an entry of the constant pool
  module _ (clean : class_ref_spots c files.exports ≡ []) where
    abbrev test : ClassRef → Bool
    test r = is_there c.class files.exports r

    entries_clean : along (λ x. 4) (in_entry test) 2 (let q = c.pool in q.entries) ≡ []
    entries_clean =
        let q = c.pool in
        let i = c.class in
        let d = c.descriptor in
        let a = along (λ x. 4) (in_entry test) 2 q.entries in
        let b = along interface_size (in_interface test) first_interface i.interfaces in
        let e = along class_size (in_class test) (first_class c.class) i.classes in
        let f = along described_size (in_described test) 1 d.classes in
        let g = along type_size (in_type test) (types_begin c.descriptor) d.types in
        none_left a b (none_left (a ++ b) e (none_left ((a ++ b) ++ e) f (none_left (((a ++ b) ++ e) ++ f) g clean)))

    pub entry_meant : (k : ℕ) (item : PoolEntry) (r : ClassRef) → slice_get (let q = c.pool in q.entries) k ≡ Some item
        → ((at : ℕ) → in_entry test at item ≡ unless (test r) (in_info 5 (at + 1))) → (class : Class) × (class_of l 0 r
        ≡ Some class)
    entry_meant k item r is tested =
        let one = along_none (λ (x : PoolEntry). 4) (in_entry test) 2 (let q = c.pool in q.entries) k item entries_clean
        is in
        there_meant r (unless_holds (test r) (in_info 5 (one.0 + 1)) (sym (tested one.0) ∙ one.1))
