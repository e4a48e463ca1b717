-- Indices and keys.
use Rattle.std.proofs.Common.{◌≡◌, ℕ, suc, ◌+◌, ◌<◌, ◌≤◌, List, [], ◌∷◌, ◌++◌, refl, sym, ap, ◌∙◌, length, get_or}
use Rattle.std.proofs.Common.{arith, Bool, true, false, cond, ◌||◌, Some, None, Option, true≢false}
use Rattle.std.specs.Prelude.{if◌then◌else◌, filter, not, map, position, slice_get, IsSome, nat_lt, codes}
use Rattle.std.specs.List.{flat_map, list_any, position_or_len}
use Rattle.std.proofs.lemmas.List.Quantifiers.{position-Some}
use Rattle.std.proofs.lemmas.List.Concat.{flat_map-cons}
use Rattle.std.proofs.lemmas.List.Folds.{list_any-append}
use Rattle.std.proofs.lemmas.Option.{slice_get-get_or}
use Rattle.std.proofs.lemmas.Bool.{or_right}
use Rattle.cjc_ncode.specs.declared.narrow.NMethod.{NMethod}
use Rattle.cjc_ncode.specs.declared.narrow.PoolKey.{PoolKey}
use Rattle.cjc_ncode.specs.declared.narrow.PoolKey.TheVariants as keys
use Rattle.cjc_ncode.specs.PoolOrder.{any_exception, has_catch_type, is_field, method_keys, once, pool_order, same_key}
use Rattle.cjc_narrow.specs.Keys.Index.{index_of}
use Rattle.cjc_narrow.specs.Keys.Working.Same.{same_key-Decides}
use Rattle.cjc_types.proofs.WorldWalked.{or-assoc}

pub key_at : (ks : List PoolKey) (key : PoolKey) (i : ℕ) → index_of ks key ≡ Some i → slice_get ks i ≡ Some key
key_at ks key i e =
    let found = position-Some (same_key key) ks i key e in
    slice_get-get_or ks i key found.0 ∙ ap (λ k. Some k) (sym ((same_key-Decides key (get_or ks i key)).0 found.1))

-- ---- what is among the keys has an index

or_swap : (a b c : Bool) → (a || (b || c)) ≡ (b || (a || c))
or_swap true true c = refl
or_swap true false c = refl
or_swap false true c = refl
or_swap false false c = refl

or_in : (a b : Bool) → (a ≡ true → b ≡ true) → (a || b) ≡ b
or_in true b h = sym (h refl)
or_in false b h = refl

-- what is left once was there
pub any_once : (q : PoolKey) (seen rest : List PoolKey)
    → (list_any (same_key q) seen || list_any (same_key q) (once seen rest)) ≡ (list_any (same_key q) seen
    || list_any (same_key q) rest)
any_once q seen [] = refl
any_once q seen (k ∷ rest) = by (any_once q seen rest) (any_once q (k ∷ seen) rest) (list_any (same_key k) seen) refl
  where
    by : (list_any (same_key q) seen || list_any (same_key q) (once seen rest)) ≡ (list_any (same_key q) seen
        || list_any (same_key q) rest) → (list_any (same_key q) (k ∷ seen)
        || list_any (same_key q) (once (k ∷ seen) rest)) ≡ (list_any (same_key q) (k ∷ seen)
        || list_any (same_key q) rest) → (b : Bool) → list_any (same_key k) seen ≡ b
        → (list_any (same_key q) seen || list_any (same_key q) (once seen (k ∷ rest))) ≡ (list_any (same_key q) seen
        || list_any (same_key q) (k ∷ rest))
    by there new true e =
        ap (λ b. list_any (same_key q) seen || list_any (same_key q) (if b then once seen rest
        else k ∷ once (k ∷ seen) rest)) e
        ∙ (there
        ∙ (sym (or_in (same_key q k) (list_any (same_key q) seen || list_any (same_key q) rest) (λ s.
        ap (λ b. b || list_any (same_key q) rest) (ap (λ m. list_any (same_key m) seen) ((same_key-Decides q k).0 s)
        ∙ e)))
        ∙ or_swap (same_key q k) (list_any (same_key q) seen) (list_any (same_key q) rest)))
    by there new false e =
        ap (λ b. list_any (same_key q) seen || list_any (same_key q) (if b then once seen rest
        else k ∷ once (k ∷ seen) rest)) e
        ∙ (or_swap (list_any (same_key q) seen) (same_key q k) (list_any (same_key q) (once (k ∷ seen) rest))
        ∙ (or-assoc (same_key q k) (list_any (same_key q) seen) (list_any (same_key q) (once (k ∷ seen) rest))
        ∙ (new
        ∙ (sym (or-assoc (same_key q k) (list_any (same_key q) seen) (list_any (same_key q) rest))
        ∙ or_swap (same_key q k) (list_any (same_key q) seen) (list_any (same_key q) rest)))))

-- those of a kind and the others are all
any_split : (q : PoolKey) (xs : List PoolKey) → (list_any (same_key q) (filter is_field xs)
    || list_any (same_key q) (filter (λ k. not (is_field k)) xs)) ≡ list_any (same_key q) xs
any_split q [] = refl
any_split q (x ∷ xs) = by (any_split q xs) (is_field x) refl
  where
    swapped : (a b c : Bool) → (b || (a || c)) ≡ (a || (b || c))
    swapped true true c = refl
    swapped true false c = refl
    swapped false true c = refl
    swapped false false c = refl

    by : (list_any (same_key q) (filter is_field xs) || list_any (same_key q) (filter (λ k. not (is_field k)) xs))
        ≡ list_any (same_key q) xs → (b : Bool) → is_field x ≡ b → (list_any (same_key q) (filter is_field (x ∷ xs))
        || list_any (same_key q) (filter (λ k. not (is_field k)) (x ∷ xs))) ≡ list_any (same_key q) (x ∷ xs)
    by split true e =
        ap (λ b. list_any (same_key q) (cond b (x ∷ filter is_field xs) (filter is_field xs))
        || list_any (same_key q) (cond (not b) (x ∷ filter (λ k. not (is_field k)) xs)
        (filter (λ k. not (is_field k)) xs))) e
        ∙ (sym (or-assoc (same_key q x) (list_any (same_key q) (filter is_field xs)) (list_any (same_key q)
        (filter (λ k. not (is_field k)) xs)))
        ∙ ap (λ b. same_key q x || b) split)
    by split false e =
        ap (λ b. list_any (same_key q) (cond b (x ∷ filter is_field xs) (filter is_field xs))
        || list_any (same_key q) (cond (not b) (x ∷ filter (λ k. not (is_field k)) xs)
        (filter (λ k. not (is_field k)) xs))) e
        ∙ (swapped (same_key q x) (list_any (same_key q) (filter is_field xs)) (list_any (same_key q)
        (filter (λ k. not (is_field k)) xs))
        ∙ ap (λ b. same_key q x || b) split)

among_pool : (methods : List NMethod) (key : PoolKey) → list_any (same_key key) (flat_map method_keys methods) ≡ true
    → list_any (same_key key) (pool_order methods) ≡ true
among_pool methods key h =
    let seen = flat_map method_keys methods in
    let first = any_exception methods in
    let fields = filter is_field seen in
    let others = filter (λ k. not (is_field k)) seen in
    let rest : list_any (same_key key) (first ++ fields ++ others) ≡ true =
    list_any-append (same_key key) (first ++ fields) others
    ∙ (ap (λ b. b || list_any (same_key key) others) (list_any-append (same_key key) first fields)
    ∙ (sym (or-assoc (list_any (same_key key) first) (list_any (same_key key) fields) (list_any (same_key key) others))
    ∙ or_right (list_any (same_key key) first) (list_any (same_key key) fields || list_any (same_key key) others)
    (any_split key seen ∙ h))) in
    any_once key [] (first ++ fields ++ others) ∙ rest

index_among : (key : PoolKey) (ks : List PoolKey) → list_any (same_key key) ks ≡ true
    → position_or_len (same_key key) ks < length ks
index_among key [] h = absurd (true≢false (sym h))
index_among key (k ∷ ks) h = by (index_among key ks) (same_key key k) refl
  where
    by : (list_any (same_key key) ks ≡ true → position_or_len (same_key key) ks < length ks) → (b : Bool)
        → same_key key k ≡ b → position_or_len (same_key key) (k ∷ ks) < length (k ∷ ks)
    by there true e = let is : position_or_len (same_key key) (k ∷ ks) ≡ 0 =
        ap (λ b. cond (not b) (1 + position_or_len (same_key key) ks) 0) e in omega arith
    by there false e =
        let is : position_or_len (same_key key) (k ∷ ks) ≡ 1 + position_or_len (same_key key) ks =
        ap (λ b. cond (not b) (1 + position_or_len (same_key key) ks) 0) e in
        let less = there (sym (ap (λ b. b || list_any (same_key key) ks) e) ∙ h) in
        omega arith

pub needed : (methods : List NMethod) (key : PoolKey) → list_any (same_key key) (flat_map method_keys methods) ≡ true
    → IsSome (index_of (pool_order methods) key)
needed methods key h = let less = index_among key (pool_order methods) (among_pool methods key h) in grind arith

-- ---- other forms

keys_of_all : (before after : List NMethod) → map method_keys before ≡ map method_keys after
    → flat_map method_keys before ≡ flat_map method_keys after
keys_of_all [] [] e = refl
keys_of_all [] (a ∷ after) e = cc
keys_of_all (b ∷ before) [] e = cc
keys_of_all (b ∷ before) (a ∷ after) e =
    let head : method_keys b ≡ method_keys a = cc in
    let rest : map method_keys before ≡ map method_keys after = cc in
    flat_map-cons method_keys b before ∙ (ap (λ ks. ks ++ flat_map method_keys before) head
    ∙ (ap (λ ks. method_keys a ++ ks) (keys_of_all before after rest) ∙ sym (flat_map-cons method_keys a after)))

types_of_all : (before after : List NMethod) → map has_catch_type before ≡ map has_catch_type after
    → list_any has_catch_type before ≡ list_any has_catch_type after
types_of_all [] [] e = refl
types_of_all [] (a ∷ after) e = cc
types_of_all (b ∷ before) [] e = cc
types_of_all (b ∷ before) (a ∷ after) e =
    let head : has_catch_type b ≡ has_catch_type a = cc in
    let rest : map has_catch_type before ≡ map has_catch_type after = cc in
    ap (λ x. x || list_any has_catch_type before) head ∙ ap (λ x. has_catch_type a
    || x) (types_of_all before after rest)

pub same_pool : (before after : List NMethod) → map method_keys before ≡ map method_keys after
    → map has_catch_type before ≡ map has_catch_type after → pool_order before ≡ pool_order after
same_pool before after e f =
    ap (λ seen. once [] (any_exception before ++ filter is_field seen ++ filter (λ k. not (is_field k)) seen))
    (keys_of_all before after e)
    ∙ ap (λ b. let seen = flat_map method_keys after in once [] ((if b then keys.Class (codes "java/lang/Object") ∷ []
    else []) ++ filter is_field seen ++ filter (λ k. not (is_field k)) seen)) (types_of_all before after f)
