-- Class.
use Rattle.std.proofs.Common.{◌≡◌, ℕ, zero, suc, ◌+◌, ◌^◌, ◌<◌, ◌≤◌, refl, sym, ap, subst, ◌∙◌, Bool, true, false, List}
use Rattle.std.proofs.Common.{[], ◌∷◌, ◌++◌, map, length, arith, Option, Some, None}
use Rattle.std.specs.Prelude.{slice_get, not, ◌&&◌, if◌then◌else◌}
use Rattle.std.specs.List.{AllByRecursion}
use Rattle.std.proofs.lemmas.List.{length-map}
use Rattle.cjc_bytes.specs.AccessFlags.{is_interface}
use Rattle.cjc_bytes.proofs.Bools.{both_front, both_back}
use Rattle.cjc_bytes.proofs.Gets.{in_front}
use Rattle.cjc_pool.specs.CapWrite.Fits.{ClassEntryFits, ClassFits, ClassInfoFits, Fits2, ImplementedFits}
use Rattle.cjc_pool.specs.CapWrite.Fits.{InterfaceFits}
use Rattle.cjc_world.specs.declared.found.Found.{Found}
use Rattle.cjc_world.specs.Classes.{Class}
use Rattle.cjc_world.specs.Order.{and_then, class_order, in_order, is_in, is_of_kind, lined_up, may_stand, next, waits}
use Rattle.cjc_vtable.specs.declared.table.InterfaceMap.{InterfaceMap}
use Rattle.cjc_vtable.specs.Tables.{table_of}
use Rattle.cjc_components.specs.Package.{Package, world}
use Rattle.cjc_components.specs.Class.{class_entry, class_info, implemented, interface_entry, interfaces_of}
use Rattle.cjc_components.specs.Class.{is_shareable, superclass, table_entry}
use Rattle.cjc_components.specs.Methods.{method_offset}
use Rattle.cjc_components.specs.Names.{class_ref}
use Rattle.cjc_check_proof.specs.Limits.Premises.{ClassIsSmall, IsLimited}
use Rattle.cjc_check_proof.proofs.LimitsLaws.Lists.{all_mapped}
use Rattle.cjc_check_proof.proofs.LimitsLaws.Offsets.{offset_low}
use Rattle.cjc_check_proof.proofs.LimitsLaws.Refs.{class_fits}
use Rattle.cjc_check_proof.proofs.ClassesLaws.Earlier.{next_stands}

-- ---- what stands in order is of its kind

stands_of_kind : (w : List Class) (i : Bool) (placed : List ℕ) (c : Class) → may_stand w i placed c ≡ true
    → is_of_kind i c ≡ true
unfolding may_stand
stands_of_kind w i placed c e =
    let waiting : waits i placed c ≡ true = both_front (waits i placed c) _ e in
    both_back (not c.is_imported) (is_of_kind i c) (both_front (not c.is_imported && is_of_kind i c)
    (not (is_in placed c.number)) waiting)

lined_of_kind : (w : List Class) (i : Bool) (n : ℕ) (placed : List ℕ) (k : ℕ) (c : Class)
    → slice_get (lined_up w i n placed) k ≡ Some c → is_of_kind i c ≡ true
unfolding lined_up
lined_of_kind w i zero placed k c e = cc
lined_of_kind w i (suc n) placed k c e = by (next w i placed w) refl k e (λ (d : Class) (j : ℕ) f. lined_of_kind w i n
    (placed ++ d.number ∷ []) j c f)
  where
    by : (o : Option Class) → next w i placed w ≡ o → (k : ℕ)
        → slice_get (and_then o (λ d. lined_up w i n (placed ++ d.number ∷ []))) k ≡ Some c
        → ((d : Class) (j : ℕ) → slice_get (lined_up w i n (placed ++ d.number ∷ [])) j ≡ Some c
        → is_of_kind i c ≡ true) → is_of_kind i c ≡ true
    by None f k e rest = cc
    by (Some d) f zero e rest = let same : d ≡ c = cc in ap (is_of_kind i) (sym same)
        ∙ stands_of_kind w i placed d (next_stands w i placed w d f)
    by (Some d) f (suc k) e rest = rest d k e

pub of_kind : (w : List Class) (i : Bool) (k : ℕ) (c : Class) → slice_get (in_order w i) k ≡ Some c
    → is_of_kind i c ≡ true
unfolding in_order
of_kind w i k c e = lined_of_kind w i (length w) [] k c e

-- ---- in the order of all

get_behind : {A : Type 0} (xs ys : List A) (k : ℕ) (x : A) → slice_get ys k ≡ Some x
    → slice_get (xs ++ ys) (length xs + k) ≡ Some x
get_behind {A} xs ys k x e = behind xs k e
  where
    behind : (xs : List A) (k : ℕ) → slice_get ys k ≡ Some x → slice_get (xs ++ ys) (length xs + k) ≡ Some x
    behind [] k e = let z : k ≡ 0 + k = omega arith in subst (λ n. slice_get ys n ≡ Some x) z e
    behind (y ∷ xs) k e = let z : suc (length xs + k) ≡ suc (length xs) + k = omega arith
        in subst (λ n. slice_get (y ∷ xs ++ ys) n ≡ Some x) z (behind xs k e)

module _ (p : Package) (h : IsLimited p) where
  small_interface : (k : ℕ) (c : Class) → slice_get (in_order (world p) true) k ≡ Some c → ClassIsSmall p c
  unfolding class_order
  small_interface k c e = h.classes k c (in_front (in_order (world p) true) (in_order (world p) false) k c e)

  small_class : (k : ℕ) (c : Class) → slice_get (in_order (world p) false) k ≡ Some c → ClassIsSmall p c
  unfolding class_order
  small_class k c e = h.classes (length (in_order (world p) true) + k) c (get_behind (in_order (world p) true)
      (in_order (world p) false) k c e)

  -- ---- flags

  interface_low : (b s : Bool) → b ≡ true → 8 ≤ (if b then 8 else 0) + (if s then 4 else 0)
  interface_low true true e = omega arith
  interface_low true false e = omega arith
  interface_low false s e = cc

  interface_high : (b s : Bool) → (if b then 8 else 0) + (if s then 4 else 0) < 16
  interface_high true true = omega arith
  interface_high true false = omega arith
  interface_high false true = omega arith
  interface_high false false = omega arith

  class_high : (b s : Bool) → not b ≡ true → (if b then 8 else 0) + (if s then 4 else 0) < 8
  class_high true s e = cc
  class_high false true e = omega arith
  class_high false false e = omega arith

  few : (b : Bool) (n : ℕ) → n ≤ (if b then 14 else 15) → n < 16
  few true n le = omega (arith, le)
  few false n le = omega (arith, le)

  -- ---- infos

  interface_fits : (k : ℕ) (c : Class) → slice_get (in_order (world p) true) k ≡ Some c
      → InterfaceFits (interface_entry (class_ref p) (world p) c)
  interface_fits k c e =
      let small = small_interface k c e in
      let is = interfaces_of (world p) c in
      let ref = λ (s : Class). class_ref p s.name in
      record {
        marked = interface_low (is_interface c.flags) (is_shareable (world p) c) (of_kind (world p) true k c e);
        flags = interface_high (is_interface c.flags) (is_shareable (world p) c);
        count = (let n = few (is_interface c.flags) (length is) small.interfaces in let same = length-map is ref
            in let lt : length (map ref is) < 16 = omega (arith, n, same) in lt);
        superinterfaces = all_mapped ClassFits ref is (λ k s e. class_fits p h s.name);
      }

  entry_low : (o : Option Found) → table_entry p o < 2 ^ 16
  entry_low None = omega arith
  entry_low (Some f) = offset_low p h f

  maps_fit : (ms : List InterfaceMap) → AllByRecursion (λ (m : InterfaceMap). length m.index ≤ 255) ms
      → AllByRecursion ImplementedFits (map (implemented (class_ref p)) ms)
  maps_fit [] all = tt
  maps_fit (m ∷ ms) all = (
    record {
      interface = class_fits p h m.interface;
      index = (let le = all.0 in let lt : length m.index < 2 ^ 8 = omega
          (arith, le) in lt);
    },
    maps_fit ms all.1,
  )

  entry_fits : (k : ℕ) (c : Class) → slice_get (in_order (world p) false) k ≡ Some c
      → ClassEntryFits (class_entry (class_ref p) p c)
  entry_fits k c e =
      let small = small_class k c e in
      let t = table_of (world p) c in
      record {
        flags = class_high (is_interface c.flags) (is_shareable (world p) c) (of_kind (world p) false k c e);
        superclass = class_fits p h (superclass c);
        public_count = (let n = small.public (plain (of_kind (world p) false k c e))
            in let same = length-map t.public (table_entry p) in let lt : length (map (table_entry p) t.public) < 2 ^
            8 = omega (arith, n, same) in lt);
        package_count = (let n = small.«package» (plain (of_kind (world p) false k c e))
            in let same = length-map t.«package» (method_offset p)
            in let lt : length (map (method_offset p) t.«package») < 2 ^ 8 = omega (arith, n, same) in lt);
        public_methods = all_mapped Fits2 (table_entry p) t.public (λ j o f. entry_low o);
        package_methods = all_mapped Fits2 (method_offset p) t.«package» (λ j o f. offset_low p h o);
        count = (let n = few (is_interface c.flags) (length (interfaces_of (world p) c)) small.interfaces
            in let a = length-map t.maps (implemented (class_ref p)) in let b = maps_long c
            in let lt : length (map (implemented (class_ref p)) t.maps) < 16 = omega (arith, n, a, b) in lt);
        interfaces = maps_fit t.maps small.maps;
      }
    where
      plain : is_of_kind false c ≡ true → is_interface c.flags ≡ false
      plain = off (is_interface c.flags)
        where
          off : (b : Bool) → not b ≡ true → b ≡ false
          off true f = cc
          off false f = refl

      maps_long : (c : Class) → (let t = table_of (world p) c in length t.maps) ≡ length (interfaces_of (world p) c)
      maps_long c = length-map (interfaces_of (world p) c) _

  pub classes_fit : ClassInfoFits (class_info (class_ref p) p)
  classes_fit = record {
    interfaces = all_mapped InterfaceFits (interface_entry (class_ref p) (world p)) (in_order (world p) true)
        interface_fits;
    classes = all_mapped ClassEntryFits (class_entry (class_ref p) p) (in_order (world p) false) entry_fits;
  }
