-- Where 401 and 413 are not broken, few classes are exported, each with few static fields and methods; and interfaces
-- have neither static methods nor constructors.
use Rattle.std.proofs.Common.{◌≡◌, ℕ, zero, suc, ◌+◌, ◌≤◌, refl, sym, ap, ◌∙◌, arith, Bool, true, false, not, List, []}
use Rattle.std.proofs.Common.{◌∷◌, ◌++◌, length, map, take, Some}
use Rattle.std.specs.Prelude.{◌&&◌, ◌||◌, cond, count_by, filter, is_some, nat_lt, slice_get, if◌then◌else◌}
use Rattle.std.proofs.lemmas.Bool.{ltb-false}
use Rattle.std.proofs.lemmas.List.Sums.{length-filter, sum_by-cons}
use Rattle.cjc_bytes.specs.AccessFlags.{acc_native, acc_strict, acc_synchronized, has, is_abstract, is_interface}
use Rattle.cjc_bytes.specs.AccessFlags.{is_private, is_static}
use Rattle.cjc_bytes.specs.Format.{FileSpells}
use Rattle.cjc_bytes.proofs.Bools.{or_left, or_right}
use Rattle.cjc_world.specs.ClassFile.ClassFile.{class_file}
use Rattle.cjc_world.specs.ClassFile.declared.tree.ClassTree.{ClassTree}
use Rattle.cjc_world.specs.ClassFile.declared.tree.MethodTree.{MethodTree}
use Rattle.cjc_components.specs.Class.{fields_in, fields_of}
use Rattle.cjc_components.specs.Exports.{exported_classes, open_methods}
use Rattle.cjc_components.specs.Package.{Package, has_applets, world}
use Rattle.cjc_shape.proofs.ExportedOwn.{IsOwn, own_class}
use Rattle.cjc_shape.proofs.ExportedTokens.{few_statics, low_tokens}
use Rattle.cjc_check_proof.specs.Limits.Premises.{ExportsFew}
use Rattle.cjc_classes.specs.Subset.Flags.{has_two_accesses, is_unfit_method}
use Rattle.cjc_tokens.specs.Fields.{is_open_static}
use Rattle.cjc_tokens.specs.Members.{is_constructor, is_exposed, is_initialiser}
use Rattle.cjc_tokens.specs.Methods.{interface_methods, is_open_bound}
use Rattle.cjc_tokens.specs.Rules.{has_high_method, has_high_token, token_breaks}
use Rattle.cjc_vtable.proofs.Filed.{Has}
use Rattle.cjc_vtable.proofs.Read.{has-code}
use Rattle.cjc_world.specs.Classes.{Class, Member, declared, method_of_class}
use Rattle.cjc_world.specs.Lookup.{member_at}

-- ---- methods of interfaces

-- what a method of an interface is that breaks no 304
module _ (t : ClassTree) (bytes : List ℕ) (m : MethodTree) (spelt : FileSpells class_file t bytes)
    (there : Has m t.methods) (fit : is_unfit_method (is_interface t.flags) m.flags m.name (is_some m.code) ≡ false)
    (interface : is_interface t.flags ≡ true) where
  pub is_bare : is_initialiser m.name ≡ false → (is_abstract m.flags ≡ true) × (is_static m.flags ≡ false)
      × (is_private m.flags ≡ false) × (is_constructor m.name ≡ false)
  is_bare plain = by (is_abstract m.flags) refl
    where
      A : Bool
      A = has m.flags acc_native || has m.flags acc_synchronized || has m.flags acc_strict || has_two_accesses m.flags

      kind : Bool
      kind = A || (is_abstract m.flags && (is_static m.flags || is_private m.flags))

      special : Bool
      special = is_abstract m.flags && (is_constructor m.name || is_initialiser m.name)

      bare_start : Bool
      bare_start = is_initialiser m.name && not (is_static m.flags)

      coded : Bool
      coded = is_interface t.flags && is_some m.code && not (is_initialiser m.name)

      three : kind || special || bare_start ≡ false
      three = or_left (kind || special || bare_start) coded fit

      kind_off : kind ≡ false
      kind_off = or_left kind special (or_left (kind || special) bare_start three)

      native_off : has m.flags acc_native ≡ false
      native_off =
          let n = has m.flags acc_native in let y = has m.flags acc_synchronized in let s = has m.flags acc_strict
          in let w = has_two_accesses m.flags in
          or_left n y (or_left (n || y) s (or_left (n || y || s) w (or_left A (is_abstract m.flags
          && (is_static m.flags || is_private m.flags)) kind_off)))

      code_off : is_some m.code ≡ false
      code_off = off (is_interface t.flags) (is_some m.code) (is_initialiser m.name) interface plain (or_right (kind
          || special || bare_start) coded fit)
        where
          off : (i c n : Bool) → i ≡ true → n ≡ false → (i && c && not n) ≡ false → c ≡ false
          off true c false e f g = last c g
            where
              last : (c : Bool) → (c && true) ≡ false → c ≡ false
              last true g = cc
              last false g = refl
          off true c true e f g = cc
          off false c n e f g = cc

      clash : {X : Type 0} (b : Bool) → b ≡ true → b ≡ false → X
      clash true e f = absurd (cc)
      clash false e f = absurd (cc)

      by : (a : Bool) → is_abstract m.flags ≡ a → (is_abstract m.flags ≡ true) × (is_static m.flags ≡ false)
          × (is_private m.flags ≡ false) × (is_constructor m.name ≡ false)
      by false e = clash (is_some m.code) (has-code t bytes m spelt there e native_off) code_off
      by true e =
          let both = last (is_abstract m.flags) (is_static m.flags || is_private m.flags) e
          (or_right A (is_abstract m.flags && (is_static m.flags || is_private m.flags)) kind_off) in
          let names = last (is_abstract m.flags) (is_constructor m.name || is_initialiser m.name) e
          (or_right kind special (or_left (kind || special) bare_start three)) in (
            e,
            or_left (is_static m.flags) (is_private m.flags) both,
            or_right (is_static m.flags) (is_private m.flags)
                both,
            or_left (is_constructor m.name) (is_initialiser m.name) names,
          )
        where
          last : (a b : Bool) → a ≡ true → (a && b) ≡ false → b ≡ false
          last true b e f = f
          last false b e f = cc

  pub not_open : is_open_bound (method_of_class m) ≡ false
  not_open = by (is_initialiser m.name) refl
    where
      third : (a b c : Bool) → c ≡ true → (a && b && not c) ≡ false
      third a b false e = cc
      third true true true e = refl
      third true false true e = refl
      third false b true e = refl

      none : (a s c i : Bool) → s ≡ false → c ≡ false → (a && (s || c) && not i) ≡ false
      none true false false true e f = refl
      none true false false false e f = refl
      none false s c i e f = refl
      none a true c i e f = cc
      none a s true i e f = cc

      by : (b : Bool) → is_initialiser m.name ≡ b → is_open_bound (method_of_class m) ≡ false
      by true e = third (is_exposed m.flags) (is_static m.flags || is_constructor m.name) (is_initialiser m.name) e
      by false e = let r = is_bare e in none (is_exposed m.flags) (is_static m.flags) (is_constructor m.name)
          (is_initialiser m.name) r.1 r.3

-- ---- counts

open_counted : (c : Class) (i : ℕ) (ms : List Member) → length (open_methods c i ms) ≡ count_by is_open_bound ms
open_counted c i [] = refl
open_counted c i (m ∷ ms) = by (is_open_bound m) (open_counted c (i + 1) ms)
    ∙ sym (sum_by-cons (λ x. cond (is_open_bound x) 1 0) m ms)
  where
    by : (b : Bool) → length (open_methods c (i + 1) ms) ≡ count_by is_open_bound ms
        → length ((if b then member_at c i ∷ [] else []) ++ open_methods c (i + 1) ms)
        ≡ cond b 1 0 + count_by is_open_bound ms
    by true e = let z : suc (length (open_methods c (i + 1) ms)) ≡ 1 + count_by is_open_bound ms = omega (arith, e) in z
    by false e = let z : length (open_methods c (i + 1) ms) ≡ 0 + count_by is_open_bound ms = omega (arith, e) in z

-- such a method stands at the place that its token counts
pub open_at : (c : Class) (i : ℕ) (ms : List Member) (k : ℕ) (m : Member) → slice_get ms k ≡ Some m → is_open_bound m
    ≡ true → slice_get (open_methods c i ms) (count_by is_open_bound (take k ms)) ≡ Some (member_at c (i + k))
open_at c i [] k m e o = cc
open_at c i (x ∷ ms) zero m e o =
    let is : x ≡ m = cc in
    let z : i ≡ i + 0 = omega arith in
    ap (λ b. slice_get ((if b then member_at c i ∷ [] else []) ++ open_methods c (i + 1) ms) 0) (ap is_open_bound is
    ∙ o)
    ∙ ap (λ j. Some (member_at c j)) z
open_at c i (x ∷ ms) (suc k) m e o =
    let z : i + 1 + k ≡ i + suc k = omega arith in
    ap (slice_get (open_methods c i (x ∷ ms))) (sum_by-cons (λ y. cond (is_open_bound y) 1 0) x (take k ms))
    ∙ by (is_open_bound x) (open_at c (i + 1) ms k m e o ∙ ap (λ j. Some (member_at c j)) z)
  where
    by : (b : Bool) → slice_get (open_methods c (i + 1) ms) (count_by is_open_bound (take k ms)) ≡ Some (member_at c (i
        + suc k)) → slice_get ((if b then member_at c i ∷ [] else []) ++ open_methods c (i + 1) ms) (cond b 1 0
        + count_by is_open_bound (take k ms)) ≡ Some (member_at c (i + suc k))
    by true e =
        let z : 1 + count_by is_open_bound (take k ms) ≡ suc (count_by is_open_bound (take k ms)) = omega arith in
        ap (slice_get (member_at c i ∷ open_methods c (i + 1) ms)) z ∙ e
    by false e =
        let z : 0 + count_by is_open_bound (take k ms) ≡ count_by is_open_bound (take k ms) = omega arith in
        ap (slice_get (open_methods c (i + 1) ms)) z ∙ e

none_counted : (ms : List MethodTree) → ((k : ℕ) (m : MethodTree) → slice_get ms k ≡ Some m
    → is_open_bound (method_of_class m) ≡ false) → count_by is_open_bound (map method_of_class ms) ≡ 0
none_counted [] all = refl
none_counted (m ∷ ms) all =
    let here : ◌≡◌ {A = ℕ} (cond (is_open_bound (method_of_class m)) 1 0) 0 = ap (λ b. cond b 1 0) (all 0 m refl) in
    let rest = none_counted ms (λ k x e. all (suc k) x e) in
    let both = sum_by-cons (λ x. cond (is_open_bound x) 1 0) (method_of_class m) (map method_of_class ms) in
    omega (arith, here, rest, both)

module _ (p : Package) (tokens : token_breaks (has_applets p) p.files ≡ []) (bare : (n : ℕ) (t : ClassTree)
    → slice_get (let files = p.files in files.classes) n ≡ Some t → is_interface t.flags ≡ true
    → (k : ℕ) (m : MethodTree) → slice_get t.methods k ≡ Some m → is_open_bound (method_of_class m) ≡ false) where
  module _ (k : ℕ) (c : Class) (at : slice_get (exported_classes p) k ≡ Some c) where
    abbrev own : IsOwn p c
    own = own_class p k c at

    fields_few : length (filter is_open_static (fields_of p.files c)) ≤ 255
    fields_few =
        let o = own in let t = o.tree in
        let few = few_statics p c o tokens in
        let same : fields_of p.files c ≡ t.fields = ap (λ (d : Class). fields_of p.files d) o.is
        ∙ ap fields_in o.is_tree in
        let all = length-filter is_open_static t.fields in
        let moved : length (filter is_open_static (fields_of p.files c)) ≡ length (filter is_open_static t.fields) =
        ap (λ fs. length (filter is_open_static fs)) same in
        omega (arith, few, all, moved)

    pub bound_few : (let o = own in count_by is_open_bound (declared o.number o.tree).methods ≤ 255)
    unfolding has_high_token
    bound_few = let o = own in by (is_interface (let t = o.tree in t.flags)) refl
        (or_left _ _ (low_tokens p c o tokens))
      where
        by : (b : Bool) → (let o = own in let t = o.tree in is_interface t.flags ≡ b)
            → (let o = own in (if b then nat_lt 128 (length (interface_methods (world p) (declared o.number o.tree)))
            else (has_high_method (world p) (declared o.number o.tree)
            || (true && nat_lt 255 (count_by is_open_bound (declared o.number o.tree).methods)))) ≡ false)
            → (let o = own in count_by is_open_bound (declared o.number o.tree).methods ≤ 255)
        by true e f = let o = own in let t = o.tree in let none =
            none_counted t.methods (λ j m g. bare o.number t o.is_tree e j m g) in omega (arith, none)
        by false e f = let o = own in ltb-false 255 (count_by is_open_bound (declared o.number o.tree).methods)
            (or_right (has_high_method (world p) (declared o.number o.tree))
            (nat_lt 255 (count_by is_open_bound (declared o.number o.tree).methods)) f)

    pub exports_few : ExportsFew p c
    exports_few = record {
      fields = fields_few;
      methods =
          let o = own in
          let few = bound_few in
          let all = open_counted c (length c.fields) c.methods in
          let same : count_by is_open_bound c.methods ≡ count_by is_open_bound (declared o.number o.tree).methods =
          ap (λ (d : Class). count_by is_open_bound d.methods) o.is in
          let le : length (open_methods c (length c.fields) c.methods) ≤ 255 = omega (arith, few, all, same) in le;
    }
