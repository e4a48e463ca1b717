-- Tokens of a class that mean abstract methods, looked for one by one.
use Rattle.std.proofs.Common.{◌≡◌, ℕ, suc, ◌+◌, ◌-◌, ◌<◌, ◌≤◌, ◌||◌, Bool, true, false, List, [], ◌∷◌, ◌++◌, map, refl}
use Rattle.std.proofs.Common.{sym}
use Rattle.std.proofs.Common.{ap, ◌∙◌, arith}
use Rattle.std.specs.Prelude.{Option, Some, None, option_map, option_to_list, slice_get}
use Rattle.std.specs.List.{flat_map, list_any, range_with_len}
use Rattle.std.proofs.lemmas.List.Concat.{flat_map-cons}
use Rattle.cjc_bytes.proofs.Quantified.{any_both}
use Rattle.cjc_card_acts.specs.CardSemantics.Machine.Dispatch.{Hidden, Open, Token}
use Rattle.cjc_classes.specs.ClassOrder.Classes.Numbers.{declared_at}
use Rattle.cjc_world.specs.ClassFile.declared.tree.ClassTree.{ClassTree}
use Rattle.cjc_world.specs.Files.{Files}
use Rattle.cjc_world.specs.Classes.{Class, declared}
use Rattle.cjc_verify.specs.Abstracts.{any_between, is_abstract_token, unmade_at}
use Rattle.cjc_verify.specs.Infos.{has_abstract_method}
use Rattle.cjc_verify.specs.Named.{is_unmade}
use Rattle.cjc_verify.specs.Pairs.{Pair}

-- ---- one number more, or the last

pub any_next : (test : ℕ → Bool) (k high : ℕ) (total : Bool) → k < high → test k ≡ false
    → any_between k high test ≡ total → any_between (k + 1) high test ≡ total
unfolding any_between
any_next test k high total lt fails so_far =
    let n : high - k ≡ suc (high - (k + 1)) = omega arith in
    let rest = list_any test (range_with_len (k + 1) (high - (k + 1))) in
    sym (ap (λ (b : Bool). b || rest) fails) ∙ sym (ap (λ (m : ℕ). list_any test (range_with_len k m)) n) ∙ so_far

pub any_stop : (test : ℕ → Bool) (k high : ℕ) (total : Bool) → k < high → test k ≡ true
    → any_between k high test ≡ total → true ≡ total
unfolding any_between
any_stop test k high total lt holds so_far =
    let n : high - k ≡ suc (high - (k + 1)) = omega arith in
    let rest = list_any test (range_with_len (k + 1) (high - (k + 1))) in
    sym (ap (λ (b : Bool). b || rest) holds) ∙ sym (ap (λ (m : ℕ). list_any test (range_with_len k m)) n) ∙ so_far

pub any_end : (test : ℕ → Bool) (k high : ℕ) (total : Bool) → high ≤ k → any_between k high test ≡ total
    → false ≡ total
unfolding any_between
any_end test k high total le so_far =
    let n : high - k ≡ 0 = omega arith in
    sym (ap (λ (m : ℕ). list_any test (range_with_len k m)) n) ∙ so_far

-- ---- tokens of both kinds

any_mapped : {A B : Type 0} (f : A → B) (test : B → Bool) (xs : List A) → list_any test (map f xs)
    ≡ list_any (λ x. test (f x)) xs
any_mapped f test [] = refl
any_mapped f test (x ∷ xs) = ap (λ (b : Bool). test (f x) || b) (any_mapped f test xs)

any_kinds : (test : Token → Bool) (n : ℕ)
    → list_any test (map Open (range_with_len 0 n) ++ map (Hidden 0) (range_with_len 0 n))
    ≡ (any_between 0 n (λ k. test (Open k)) || any_between 0 n (λ k. test (Hidden 0 k)))
unfolding any_between
any_kinds test n =
    let same : n ≡ n - 0 = omega arith in
    any_both test (map Open (range_with_len 0 n)) (map (Hidden 0) (range_with_len 0 n))
    ∙ ap (λ (b : Bool). b || list_any test (map (Hidden 0) (range_with_len 0 n))) (any_mapped Open test
    (range_with_len 0 n))
    ∙ ap (λ (b : Bool). list_any (λ k. test (Open k)) (range_with_len 0 n) || b) (any_mapped (Hidden 0) test
    (range_with_len 0 n))
    ∙ ap (λ (m : ℕ). list_any (λ k. test (Open k)) (range_with_len 0 m) || list_any (λ k. test (Hidden 0 k))
    (range_with_len 0 m)) same

pub any_of_both : (p : Pair) (at : ℕ) → has_abstract_method p at
    ≡ (any_between 0 128 (λ (k : ℕ). is_abstract_token p at (Open k)) || any_between 0 128 (λ (k : ℕ). is_abstract_token
    p at (Hidden 0 k)))
any_of_both p at = any_kinds (is_abstract_token p at) 128

-- ---- classes of which no objects are made

pub unmade_are : (files : Files) (ns : List ℕ) (cs : List Class) → map Some cs ≡ map (declared_at files.classes) ns
    → flat_map (unmade_at files) ns ≡ map (λ (c : Class). is_unmade c.flags) cs
unmade_are files [] [] e = refl
unmade_are files [] (c ∷ cs) e = cc
unmade_are files (n ∷ ns) [] e = cc
unmade_are files (n ∷ ns) (c ∷ cs) e =
    let first : Some c ≡ declared_at files.classes n = cc in
    let rest : map Some cs ≡ map (declared_at files.classes) ns = cc in
    let flag : Class → Bool = λ d. is_unmade d.flags in
    flat_map-cons (unmade_at files) n ns
    ∙ ap (λ (o : Option Class). map flag (option_to_list o) ++ flat_map (unmade_at files) ns) (sym first)
    ∙ ap (λ (q : List Bool). is_unmade c.flags ∷ q) (unmade_are files ns cs rest)

-- what the class of a number adds
pub unmade_there : (files : Files) (n : ℕ) (t : ClassTree) → slice_get files.classes n ≡ Some t → unmade_at files n
    ≡ is_unmade t.flags ∷ []
unmade_there files n t e = ap (λ (o : Option ClassTree). map (λ (c : Class). is_unmade c.flags) (option_to_list
    (option_map (declared n) o))) e

pub unmade_nowhere : (files : Files) (n : ℕ) → slice_get files.classes n ≡ None → unmade_at files n ≡ []
unmade_nowhere files n e = ap (λ (o : Option ClassTree). map (λ (c : Class). is_unmade c.flags) (option_to_list
    (option_map (declared n) o))) e
