-- References to classes and to static members.
use Rattle.std.proofs.Common.{◌≡◌, ℕ, ◌+◌, ◌^◌, ◌<◌, ◌≤◌, refl, ap, subst, ◌∙◌, Bool, true, false, List, []}
use Rattle.std.proofs.Common.{◌∷◌, ◌++◌, map, length, arith, Option, Some, None}
use Rattle.std.specs.Prelude.{slice_get, sum_by, position, option_and_then, option_map, unwrap_or}
use Rattle.std.specs.Prelude.{if◌then◌else◌}
use Rattle.std.specs.List.{AllByRecursion}
use Rattle.std.specs.Str.{bytes_eq}
use Rattle.std.proofs.lemmas.List.Sums.{sum_by-cons}
use Rattle.cjc_bytes.specs.declared.fault.MemberId.{MemberId}
use Rattle.cjc_bytes.proofs.Gets.{all_at}
use Rattle.cjc_bytes.proofs.Quantified.{all_both}
use Rattle.cjc_bytes.proofs.Lists.{each_size, sums_same}
use Rattle.cjc_capread.specs.declared.tree.ClassRef.{ClassRef}
use Rattle.cjc_capread.specs.declared.tree.ClassRef.TheVariants.{Inside}
use Rattle.cjc_pool.specs.CapWrite.Class.{interface_bytes, class_entry_bytes, class_info_bytes}
use Rattle.cjc_pool.specs.CapWrite.Fits.{ClassFits, StaticFits}
use Rattle.cjc_components.proofs.CapWriteLengths.{interface_length, class_info_length}
use Rattle.cjc_token_proof.specs.CardSemantics.Machine.Classes.{Class as CardClass, Own, External, external_from}
use Rattle.cjc_token_proof.specs.CardSemantics.Machine.Classes.{or_else}
use Rattle.cjc_token_proof.specs.CardSemantics.Machine.Classes.{token_named}
use Rattle.cjc_world.specs.ExportFile.declared.tree.ExportClass.{ExportClass}
use Rattle.cjc_world.specs.ExportFile.declared.tree.ExportTree.{ExportTree}
use Rattle.cjc_world.specs.ExportFile.Writable.{EachAfter, IsWritable}
use Rattle.cjc_world.specs.ExportFile.Writable as Writable
use Rattle.cjc_check_rules.specs.Spots.{placed, starts}
use Rattle.cjc_check_rules.specs.Complete.{interface_size, class_size, class_info_size}
use Rattle.cjc_check_rules.specs.Classes.{first_interface, first_class}
use Rattle.cjc_world.specs.declared.found.Found.{Found}
use Rattle.cjc_world.specs.Classes.{Class}
use Rattle.cjc_world.specs.Lookup.{find_method}
use Rattle.cjc_world.specs.Order.{class_order, in_order}
use Rattle.cjc_components.specs.Package.{Package, world}
use Rattle.cjc_components.specs.Class.{class_info, class_entry, interface_entry}
use Rattle.cjc_components.specs.Names.{class_at, class_offset, class_ref, field_ref, info_starts, member_ref}
use Rattle.cjc_components.specs.Names.{method_ref, offset_where, ref_to}
use Rattle.cjc_check_proof.specs.Limits.Premises.{IsLimited}
use Rattle.cjc_check_proof.proofs.LimitsLaws.Lists.{all_of}
use Rattle.cjc_check_proof.proofs.LimitsLaws.Limits.{components_short, sizes_kept}
use Rattle.cjc_check_proof.proofs.LimitsLaws.Offsets.{cell_low, offset_low}
use Rattle.cjc_token_proof.proofs.ComponentsLaws.Sizes.{class_is}
use Rattle.cjc_token_proof.proofs.ComponentsLaws.Starts.{class_same, interface_same}

-- ---- the bytes of Class, whatever class_refs it holds

module _ (ref other : List ℕ → ClassRef) (p : Package) where
  info_same : class_info_size (class_info ref p) ≡ class_info_size (class_info other p)
  info_same =
      ap (λ n. 2 + n + sum_by class_size (map (class_entry ref p) (in_order (world p) false))) (sums_same interface_size
      (interface_entry ref (world p)) (interface_entry other (world p)) (interface_same ref other p)
      (in_order (world p) true))
      ∙ ap (λ n. 2 + sum_by interface_size (map (interface_entry other (world p)) (in_order (world p) true)) + n)
      (sums_same class_size (class_entry ref p) (class_entry other p) (class_same ref other p)
      (in_order (world p) false))

-- ---- starts

pub starts_below : {A : Type 0} (size : A → ℕ) (at limit : ℕ) (xs : List A) → at + sum_by size xs ≤ limit
    → AllByRecursion (λ s. s ≤ limit) (starts size at xs)
unfolding placed
starts_below size at limit [] le = tt
starts_below size at limit (x ∷ xs) le =
    let l = sum_by-cons size x xs in
    (omega (arith, le, l), starts_below size (at + size x) limit xs (omega (arith, le, l)))

-- ---- export files

token_low : (before cs : List ExportClass) (name : List ℕ) (token : ℕ) → EachAfter Writable.ClassFits before cs
    → token_named cs name ≡ Some token → token < 2 ^ 8
token_low before [] name token all e = cc
token_low before (c ∷ cs) name token all e = by (bytes_eq c.name name) e (λ f. token_low (before ++ c ∷ []) cs name
    token all.1 f)
  where
    by : (b : Bool) → (if b then Some c.token else token_named cs name) ≡ Some token → (token_named cs name ≡ Some token
        → token < 2 ^ 8) → token < 2 ^ 8
    by true e rest = let fits = all.0 in let low = fits.token in let same : c.token ≡ token = cc
        in omega (arith, low, same)
    by false e rest = rest e

external_fits : (tree : ℕ) (trees : List ExportTree) (name : List ℕ) (c : CardClass) → tree + length trees ≤ 128
    → AllByRecursion IsWritable trees → external_from tree trees name ≡ Some c → ClassFits (ref_to c)
external_fits tree [] name c few all e = cc
external_fits tree (t ∷ trees) name c few all e = by (token_named t.classes name) refl e (λ f. external_fits (tree + 1)
    trees name c (omega (arith, few)) all.1 f)
  where
    by : (o : Option ℕ) → token_named t.classes name ≡ o
        → or_else (option_map (External tree) o) (external_from (tree + 1) trees name) ≡ Some c
        → (external_from (tree + 1) trees name ≡ Some c → ClassFits (ref_to c)) → ClassFits (ref_to c)
    by None f e rest = rest e
    by (Some token) f e rest =
        let w = all.0 in
        let same : External tree token ≡ c = cc in
        subst (λ (d : CardClass). ClassFits (ref_to d)) same (
          omega (arith, few),
          token_low [] t.classes name token
              w.classes f,
        )

-- ---- references

static_by : (c : CardClass) (offset token : ℕ) → ClassFits (ref_to c) → offset < 2 ^ 16
    → StaticFits (member_ref c offset token)
static_by (Own part at) offset token fits low = low
static_by (External file class) offset token fits low = fits.0

module _ (p : Package) (h : IsLimited p) where
  pub class_short : length (class_info_bytes (class_info (class_ref p) p)) ≤ 32767
  class_short = let s = components_short p (sizes_kept p h.limits) in s.class

  info_short : class_info_size (class_info (λ name. Inside 0) p) ≤ 32767
  info_short =
      let info = class_info (class_ref p) p in
      let i = each_size interface_bytes interface_size interface_length info.interfaces in
      let c = each_size class_entry_bytes class_size class_is info.classes in
      let long = class_info_length info in
      let short = class_short in
      let same = info_same (class_ref p) (λ name. Inside 0) p in
      omega (arith, i, c, long, short, same)

  starts_low : AllByRecursion (λ s. s ≤ 32767) (info_starts p)
  starts_low =
      let info = class_info (λ name. Inside 0) p in
      let short = info_short in
      all_both (λ s. s ≤ 32767) (starts interface_size first_interface info.interfaces)
      (starts class_size (first_class info) info.classes)
      (starts_below interface_size first_interface 32767 info.interfaces (omega (arith, short)))
      (starts_below class_size (first_class info) 32767 info.classes (omega (arith, short)))

  pub class_low : (name : List ℕ) (s : ℕ) → class_offset p name ≡ Some s → s ≤ 32767
  class_low name s e = by (position (λ (c : Class). bytes_eq c.name name) (class_order (world p))) e
    where
      by : (o : Option ℕ) → option_and_then (slice_get (info_starts p)) o ≡ Some s → s ≤ 32767
      by None e = cc
      by (Some k) e = all_at (λ s. s ≤ 32767) (info_starts p) k s starts_low e

  pub class_fits : (name : List ℕ) → ClassFits (class_ref p name)
  class_fits name = let files = p.files in
      by (class_offset p name) (class_low name) (external_from 0 files.exports name) (λ c e. external_fits 0
      files.exports name c (let few = h.few_imports in omega (arith, few)) (all_of IsWritable files.exports
      h.exports) e)
    where
      by : (o : Option ℕ) → ((s : ℕ) → o ≡ Some s → s ≤ 32767) → (f : Option CardClass) → ((c : CardClass) → f ≡ Some c
          → ClassFits (ref_to c)) → ClassFits (ref_to (unwrap_or (or_else (option_map (Own 0) o) f) (Own 0 0)))
      by None low None fits = omega arith
      by None low (Some c) fits = fits c refl
      by (Some s) low f fits = let le = low s refl in omega (arith, le)

  pub field_fits : (f : MemberId) → StaticFits (field_ref p f)
  field_fits f = static_by (class_at p f.class) _ _ (class_fits f.class) (cell_low p h f)

  pub where_low : (o : Option Found) → offset_where p o < 2 ^ 16
  where_low None = omega arith
  where_low (Some f) = offset_low p h f

  pub method_fits : (m : MemberId) → StaticFits (method_ref p m)
  method_fits m = static_by (class_at p m.class) (offset_where p (find_method (world p) m.class m.name m.desc)) _
      (class_fits m.class) (where_low (find_method (world p) m.class m.name m.desc))
