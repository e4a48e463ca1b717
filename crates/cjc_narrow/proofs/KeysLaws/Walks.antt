-- Keys that are added one after the other, and the order that two walks give.
use Rattle.std.proofs.Common.{◌≡◌, ℕ, ◌+◌, ◌<◌, ◌≤◌, List, [], ◌∷◌, ◌++◌, refl, sym, ap, ◌∙◌, length, get_or, drop}
use Rattle.std.proofs.Common.{Bool, true, false, ◌||◌, append_assoc, append-nil}
use Rattle.std.specs.Prelude.{if◌then◌else◌, filter, not}
use Rattle.std.specs.List.{flat_map, list_any}
use Rattle.std.proofs.lemmas.List.{drop_all}
use Rattle.std.proofs.lemmas.List.Concat.{flat_map-cons}
use Rattle.std.proofs.lemmas.List.Folds.{list_any-append}
use Rattle.std.proofs.lemmas.List.Elements.{filter-append}
use Rattle.indexmap.specs.IndexSet.{insert_all, insert_key}
use Rattle.cjc_ncode.specs.declared.narrow.NInsn.{NInsn}
use Rattle.cjc_ncode.specs.declared.narrow.NCatch.{NCatch}
use Rattle.cjc_ncode.specs.declared.narrow.NMethod.{NMethod}
use Rattle.cjc_ncode.specs.declared.narrow.PoolKey.{PoolKey}
use Rattle.cjc_ncode.specs.PoolOrder.{any_exception, class_key, insn_keys, is_field, method_keys, once, pool_order}
use Rattle.cjc_ncode.specs.PoolOrder.{same_key}
use Rattle.cjc_narrow.specs.Keys.Working.Walk.{catch_keys, is_wanted, wanted}
use Rattle.cjc_types.proofs.BytesGets.{get_step}

pub all-append : (ks xs ys : List PoolKey) → insert_all same_key ks (xs ++ ys)
    ≡ insert_all same_key (insert_all same_key ks xs) ys
all-append ks [] ys = refl
all-append ks (x ∷ xs) ys = all-append (insert_key same_key ks x) xs ys

pub walk_next : {A : Type 0} (f : A → List PoolKey) (ks : List PoolKey) (list : List A) (i : ℕ) (d : A)
    (total : List PoolKey) → i < length list
    → insert_all same_key ks (flat_map f (drop i list)) ≡ total
    → insert_all same_key (insert_all same_key ks (f (get_or list i d))) (flat_map f (drop (i + 1) list)) ≡ total
walk_next f ks list i d total lt so_far =
    sym (all-append ks (f (get_or list i d)) (flat_map f (drop (i + 1) list)))
    ∙ (ap (insert_all same_key ks) (sym (get_step f list i d lt)) ∙ so_far)

pub walk_end : {A : Type 0} (f : A → List PoolKey) (ks : List PoolKey) (list : List A) (i : ℕ) (total : List PoolKey)
    → length list ≤ i
    → insert_all same_key ks (flat_map f (drop i list)) ≡ total → ks ≡ total
walk_end f ks list i total le so_far = ap (λ xs. insert_all same_key ks (flat_map f xs)) (sym (drop_all i list le))
    ∙ so_far

-- the wanted keys of all are those of each
pub wanted_in_all : {A : Type 0} (fields : Bool) (f : A → List PoolKey) (xs : List A)
    → filter (is_wanted fields) (flat_map f xs) ≡ flat_map (wanted fields f) xs
wanted_in_all fields f [] = refl
wanted_in_all fields f (x ∷ xs) =
    ap (filter (is_wanted fields)) (flat_map-cons f x xs)
    ∙ (filter-append (is_wanted fields) (f x) (flat_map f xs)
    ∙ (ap (λ ys. wanted fields f x ++ ys) (wanted_in_all fields f xs)
    ∙ sym (flat_map-cons (wanted fields f) x xs)))

-- of a method its operands, then its catch types
pub wanted_in_method : (fields : Bool) (m : NMethod) (ks : List PoolKey)
    → insert_all same_key (insert_all same_key ks (flat_map (wanted fields insn_keys) m.insns))
    (flat_map (wanted fields catch_keys) m.catches) ≡ insert_all same_key ks (wanted fields method_keys m)
wanted_in_method fields m ks =
    let operands = flat_map insn_keys m.insns in
    let types = flat_map catch_keys m.catches in
    sym (all-append ks (flat_map (wanted fields insn_keys) m.insns) (flat_map (wanted fields catch_keys) m.catches))
    ∙ ap (insert_all same_key ks) (
    ap (λ xs. xs ++ flat_map (wanted fields catch_keys) m.catches) (sym (wanted_in_all fields insn_keys m.insns))
    ∙ (ap (λ xs. filter (is_wanted fields) operands ++ xs) (sym (wanted_in_all fields catch_keys m.catches))
    ∙ sym (filter-append (is_wanted fields) operands types)))

-- ---- each once

-- two lists have the same keys
pub record HaveSame (xs ys : List PoolKey) : Type 0 where
  pub same : (k : PoolKey) → list_any (same_key k) xs ≡ list_any (same_key k) ys

or_last : (a b : Bool) → (a || b) ≡ (b || (a || false))
or_last true true = refl
or_last true false = refl
or_last false true = refl
or_last false false = refl

one_more : (xs ys : List PoolKey) (k : PoolKey) → HaveSame xs ys → HaveSame (k ∷ xs) (ys ++ k ∷ [])
one_more xs ys k h = record {
  same = λ q.
      let s : list_any (same_key q) xs ≡ list_any (same_key q) ys = h.same q in
      ap (λ b. same_key q k || b) s ∙ (or_last (same_key q k) (list_any (same_key q) ys)
      ∙ sym (list_any-append (same_key q) ys (k ∷ [])));
}

pub all_once : (seen ks rest : List PoolKey) → HaveSame seen ks → insert_all same_key ks rest ≡ ks ++ once seen rest
all_once seen ks [] h = sym (append-nil ks)
all_once seen ks (k ∷ rest) h = by (all_once seen ks rest h) (all_once (k ∷ seen) (ks
    ++ k ∷ []) rest (one_more seen ks k h)) (list_any (same_key k) seen) refl (sym (h.same k))
  where
    by : insert_all same_key ks rest ≡ ks ++ once seen rest → insert_all same_key (ks ++ k ∷ []) rest ≡ (ks ++ k ∷ [])
        ++ once (k ∷ seen) rest → (b : Bool) → list_any (same_key k) seen ≡ b → list_any (same_key k) ks
        ≡ list_any (same_key k) seen → insert_all same_key ks (k ∷ rest) ≡ ks ++ once seen (k ∷ rest)
    by there new true e f =
        ap (λ c. insert_all same_key (if c then ks else ks ++ k ∷ []) rest) (f ∙ e)
        ∙ (there
        ∙ ap (λ b. ks ++ (if b then once seen rest else k ∷ once (k ∷ seen) rest)) (sym e))
    by there new false e f =
        ap (λ c. insert_all same_key (if c then ks else ks ++ k ∷ []) rest) (f ∙ e)
        ∙ (new
        ∙ (append_assoc ks (k ∷ []) (once (k ∷ seen) rest)
        ∙ ap (λ b. ks ++ (if b then once seen rest else k ∷ once (k ∷ seen) rest)) (sym e)))

-- two walks behind the class of any exception
pub in_pool_order : (methods : List NMethod)
    → insert_all same_key (insert_all same_key (insert_all same_key [] (any_exception methods))
    (flat_map (wanted true method_keys) methods)) (flat_map (wanted false method_keys) methods) ≡ pool_order methods
in_pool_order methods =
    let seen = flat_map method_keys methods in
    let first = any_exception methods in
    let fields = filter is_field seen in
    let others = filter (λ k. not (is_field k)) seen in
    ap (λ xs. insert_all same_key (insert_all same_key (insert_all same_key [] first) xs)
    (flat_map (wanted false method_keys) methods)) (sym (wanted_in_all true method_keys methods))
    ∙ (ap (λ xs. insert_all same_key (insert_all same_key (insert_all same_key [] first) fields) xs)
    (sym (wanted_in_all false method_keys methods))
    ∙ (ap (λ ks. insert_all same_key ks others) (sym (all-append [] first fields))
    ∙ (sym (all-append [] (first ++ fields) others)
    ∙ all_once [] [] (first ++ fields ++ others) (record { same = λ q. refl }))))
