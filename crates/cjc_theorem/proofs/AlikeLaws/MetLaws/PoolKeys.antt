-- Where the keys of a package's pool come from: each is one that an instruction or a handler of its methods names, or
-- that of any exception.
use Rattle.std.proofs.Common.{◌≡◌, ⊎_elim, ℕ, sym, subst, Bool, true, false, not, List, [], ◌∷◌, ◌++◌}
use Rattle.std.specs.Prelude.{Some, filter, flat_map, slice_get, if◌then◌else◌}
use Rattle.std.specs.List.{list_any}
use Rattle.cjc_shape_proof.proofs.CheckProofLists.{has-mapped, has-other}
use Rattle.cjc_components.specs.Package.{LaidMethod, Package, codes, pool}
use Rattle.cjc_shape_proof.proofs.WrittenLaws.FittingLaws.Order.{has_cons, has_none}
use Rattle.cjc_ncode.specs.PoolOrder.{any_exception, class_key, has_catch_type, insn_keys, is_field, method_keys, once}
use Rattle.cjc_ncode.specs.PoolOrder.{same_key}
use Rattle.cjc_ncode.specs.declared.narrow.NCatch.{NCatch}
use Rattle.cjc_ncode.specs.declared.narrow.NInsn.{NInsn}
use Rattle.cjc_ncode.specs.declared.narrow.NMethod.{NMethod}
use Rattle.cjc_ncode.specs.declared.narrow.PoolKey.{PoolKey}
use Rattle.cjc_ncode.specs.declared.narrow.PoolKey.TheVariants as keys
use Rattle.cjc_vtable.proofs.Filed.{Has, at_front, behind, get-has, has-get, has-either}
use Rattle.cjc_world.specs.Lookup.{object}

-- ---- lists

-- what is kept once stands in the list
once_has : (seen rest : List PoolKey) (key : PoolKey) → Has key (once seen rest) → Has key rest
once_has seen [] key h = h
once_has seen (k ∷ rest) key h = by (list_any (same_key k) seen) h (once_has seen rest key) (once_has (k ∷ seen) rest
    key)
  where
    by : (b : Bool) → Has key (if b then once seen rest else k ∷ once (k ∷ seen) rest) → (Has key (once seen rest)
        → Has key rest) → (Has key (once (k ∷ seen) rest) → Has key rest) → Has key (k ∷ rest)
    by true h old fresh = behind (old h)
    by false h old fresh = has-other key k (once (k ∷ seen) rest) rest fresh h

pub filter_has : {A : Type 0} (test : A → Bool) (xs : List A) (x : A) → Has x (filter test xs) → Has x xs
filter_has test [] x h = h
filter_has test (y ∷ xs) x h = by (test y) h (filter_has test xs x)
  where
    by : (b : Bool) → Has x (if b then y ∷ filter test xs else filter test xs) → (Has x (filter test xs) → Has x xs)
        → Has x (y ∷ xs)
    by true h rest = has-other x y (filter test xs) xs rest h
    by false h rest = behind (rest h)

pub flat_has : {A B : Type 0} (f : A → List B) (xs : List A) (y : B) → Has y (flat_map f xs) → (x : A) × Has x xs
    × Has y (f x)
flat_has f [] y h = has_none y h
flat_has f (x ∷ xs) y h = ⊎_elim (λ here. (x, at_front, here)) (λ later. let r = flat_has f xs y later
    in (r.0, behind r.1, r.2)) (has-either y (f x) (flat_map f xs) h)

-- ---- keys

-- What names a key.
pub data IsNamedIn (p : Package) (key : PoolKey) : Type 0 where
  of_any : keys.Class object ≡ key → IsNamedIn p key
  by_insn : (k : ℕ) (m : LaidMethod) → slice_get p.methods k ≡ Some m → (j : ℕ) (insn : NInsn)
      → (let code = m.code in slice_get code.insns j ≡ Some insn) → Has key (insn_keys insn) → IsNamedIn p key
  by_handler : (k : ℕ) (m : LaidMethod) → slice_get p.methods k ≡ Some m → (j : ℕ) (c : NCatch)
      → (let code = m.code in slice_get code.catches j ≡ Some c) → Has key (class_key c.class) → IsNamedIn p key

module _ (p : Package) (key : PoolKey) where
  any_named : Has key (any_exception (codes p)) → IsNamedIn p key
  any_named h = by (list_any has_catch_type (codes p)) h
    where
      by : (b : Bool) → Has key (if b then keys.Class object ∷ [] else []) → IsNamedIn p key
      by true h = ⊎_elim (λ same. of_any (sym same)) (λ none. has_none key none) (has_cons key (keys.Class object) [] h)
      by false h = has_none key h

  method_named : (m : LaidMethod) → Has m p.methods → Has key (method_keys m.code) → IsNamedIn p key
  method_named m there h =
      let at = has-get m p.methods there in
      let code = m.code in
      ⊎_elim
      (λ of_insns. let i = flat_has insn_keys code.insns key of_insns in let j = has-get i.0 code.insns i.1
      in by_insn at.0 m at.1 j.0 i.0 j.1 i.2)
      (λ of_catches. let c = flat_has (λ (c : NCatch). class_key c.class) code.catches key of_catches
      in let j = has-get c.0 code.catches c.1 in by_handler at.0 m at.1 j.0 c.0 j.1 c.2)
      (has-either key (flat_map insn_keys code.insns) (flat_map (λ (c : NCatch). class_key c.class) code.catches) h)

  seen_named : Has key (flat_map method_keys (codes p)) → IsNamedIn p key
  seen_named h =
      let c = flat_has method_keys (codes p) key h in
      let m = has-mapped (λ (x : LaidMethod). x.code) c.0 p.methods c.1 in
      method_named m.0 m.1 (subst (λ (n : NMethod). Has key (method_keys n)) (sym m.2) c.2)

  pub key_named : (k : ℕ) → slice_get (pool p) k ≡ Some key → IsNamedIn p key
  key_named k e =
      let seen = flat_map method_keys (codes p) in
      let first = filter is_field seen in
      let others = filter (λ q. not (is_field q)) seen in
      let h = once_has [] (any_exception (codes p) ++ first ++ others) key (get-has key (pool p) k e) in
      ⊎_elim
      (λ front. ⊎_elim any_named (λ g. seen_named (filter_has is_field seen key g))
      (has-either key (any_exception (codes p)) first front))
      (λ g. seen_named (filter_has (λ q. not (is_field q)) seen key g))
      (has-either key (any_exception (codes p) ++ first) others h)
