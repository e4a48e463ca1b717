-- A field has an index of one byte where its key stands among the first keys of the pool.
use Rattle.std.proofs.Common.{◌≡◌, ℕ, zero, suc, ◌+◌, ◌<◌, arith, refl, sym, ap, ◌∙◌, Bool, true, false, cond, ◌||◌}
use Rattle.std.proofs.Common.{List, [], ◌∷◌, ◌++◌, length, take}
use Rattle.std.specs.Prelude.{◌&&◌, nat_lt, not, position, Option, Some, None}
use Rattle.std.specs.List.{list_any, prefix_len}
use Rattle.cjc_types.specs.Bytes.declared.fault.MemberId.{MemberId}
use Rattle.cjc_ncode.specs.declared.narrow.PoolKey.{PoolKey}
use Rattle.cjc_ncode.specs.declared.narrow.PoolKey.TheVariants as keys
use Rattle.cjc_ncode.specs.PoolOrder.{same_key, same_member}
use Rattle.cjc_narrow.specs.Keys.Index.{index_of}
use Rattle.cjc_narrow.specs.Rows.Selected.{fields_of_keys, near_fields}
use Rattle.cjc_narrow.specs.Select.Working.Names.{is_one_byte}

module _ (id : MemberId) where
  -- fields among keys are keys among keys
  of_keys : (ks : List PoolKey) → list_any (same_member id) (fields_of_keys ks) ≡ list_any (same_key (keys.Field id)) ks
  of_keys [] = refl
  of_keys (keys.Field f ∷ ks) = ap (λ b. same_member id f || b) (of_keys ks)
  of_keys (keys.Class c ∷ ks) = of_keys ks
  of_keys (keys.Virtual m ∷ ks) = of_keys ks
  of_keys (keys.Super m ∷ ks) = of_keys ks
  of_keys (keys.StaticField f ∷ ks) = of_keys ks
  of_keys (keys.StaticMethod m ∷ ks) = of_keys ks

  place : List PoolKey → ℕ
  place ks = prefix_len (λ k. not (same_key (keys.Field id) k)) ks

  behind : (p n l : ℕ) → (nat_lt p n && nat_lt p l) ≡ (nat_lt (1 + p) (suc n) && nat_lt (1 + p) (suc l))
  behind p n l = grind arith

  none_below : (p l : ℕ) → (nat_lt p 0 && nat_lt p l) ≡ false
  none_below p l = grind arith

  first : (n l : ℕ) → (nat_lt 0 (suc n) && nat_lt 0 (suc l)) ≡ true
  first n l = grind arith

  -- among the first n keys
  among : (n : ℕ) (ks : List PoolKey) → list_any (same_key (keys.Field id)) (take n ks) ≡ (nat_lt (place ks) n
      && nat_lt (place ks) (length ks))
  unfolding place
  among zero [] = refl
  among (suc n) [] = sym (no_length (suc n))
    where
      no_length : (n : ℕ) → (nat_lt 0 n && nat_lt 0 0) ≡ false
      no_length n = grind arith
  among zero (k ∷ ks) = sym (none_below (place (k ∷ ks)) (length (k ∷ ks)))
  among (suc n) (k ∷ ks) = by (same_key (keys.Field id) k) (among n ks)
    where
      by : (b : Bool) → list_any (same_key (keys.Field id)) (take n ks)
          ≡ (nat_lt (prefix_len (λ k. not (same_key (keys.Field id) k)) ks) n
          && nat_lt (prefix_len (λ k. not (same_key (keys.Field id) k)) ks) (length ks))
          → (b || list_any (same_key (keys.Field id)) (take n ks))
          ≡ (nat_lt (cond (not b) (1 + prefix_len (λ k. not (same_key (keys.Field id) k)) ks) 0) (suc n)
          && nat_lt (cond (not b) (1 + prefix_len (λ k. not (same_key (keys.Field id) k)) ks) 0) (suc (length ks)))
      by true rest = sym (first n (length ks))
      by false rest = rest ∙ behind (prefix_len (λ k. not (same_key (keys.Field id) k)) ks) n (length ks)

  by_length : (p l : ℕ) (b : Bool) → (nat_lt p 256 && b) ≡ is_one_byte (cond b (Some p) None)
  by_length p l true = and_true (nat_lt p 256)
    where
      and_true : (b : Bool) → (b && true) ≡ b
      and_true true = refl
      and_true false = refl
  by_length p l false = and_false (nat_lt p 256)
    where
      and_false : (b : Bool) → (b && false) ≡ false
      and_false true = refl
      and_false false = refl

pub near_by_index : (id : MemberId) (ks : List PoolKey) → list_any (same_member id) (near_fields ks)
    ≡ is_one_byte (index_of ks (keys.Field id))
unfolding place
near_by_index id ks =
    of_keys id (take 256 ks) ∙ among id 256 ks ∙ by_length id (place id ks) (length ks)
    (nat_lt (place id ks) (length ks))
