-- The methods of Method one behind the other.
use Rattle.std.proofs.Common.{◌≡◌, ℕ, ◌+◌, ◌<◌, ◌≤◌, Bool, true, false, List, [], ◌∷◌, ◌++◌, drop, get_or, length, map}
use Rattle.std.proofs.Common.{append-nil, append_assoc, refl, sym, ap, ◌∙◌, Option}
use Rattle.std.specs.Prelude.{if◌then◌else◌}
use Rattle.std.specs.List.{filter, flat_map}
use Rattle.cjc_bytes.proofs.Gets.{drop_next, drop_past}
use Rattle.cjc_capread.specs.MethodHeader.{MethodHeader}
use Rattle.cjc_methods.specs.LowerCheck.Codes.Bodies.{code_of}
use Rattle.cjc_methods.specs.LowerCheck.declared.codes.code.Body.{Body as Code}
use Rattle.cjc_check_rules.specs.Complete.{Complete}
use Rattle.cjc_verify.specs.Bodies.{Body, bodies_of, body_with, header_at}
use Rattle.cjc_verify.specs.declared.listed.Listed.{Listed}

-- those that pass a test, and each where it passes
pub flat_filter : {A B : Type 0} (f : A → List B) (p : A → Bool) (xs : List A) → flat_map (λ x. if p x then f x else [])
    xs ≡ flat_map f (filter p xs)
flat_filter f p [] = refl
flat_filter {A} {B} f p (x ∷ xs) = by (p x) (flat_filter f p xs)
  where
    by : (b : Bool) → flat_map (λ x. if p x then f x else []) xs ≡ flat_map f (filter p xs)
        → (if b then f x else []) ++ flat_map (λ x. if p x then f x else []) xs
        ≡ flat_map f (if b then x ∷ filter p xs else filter p xs)
    by true e = ap (λ (ys : List B). f x ++ ys) e
    by false e = e

-- one method more
pub bodies_more : (c : Complete) (listed : List Listed) (codes : List Code) (i : ℕ) (m : Listed) (code : Code)
    (before after total : List Body) → i < length listed → m ≡ get_or listed i m → i < length codes
    → code ≡ get_or codes i code
    → after ≡ before ++ body_with m (header_at c (let d = m.method in d.offset)) (code_of code)
    → before ++ bodies_of c (drop i listed) (map code_of (drop i codes)) ≡ total
    → after ++ bodies_of c (drop (i + 1) listed) (map code_of (drop (i + 1) codes)) ≡ total
bodies_more c listed codes i m code before after total lt is_m less is_code is so_far =
    let one = body_with m (header_at c (let d = m.method in d.offset)) (code_of code) in
    let rest = bodies_of c (drop (i + 1) listed) (map code_of (drop (i + 1) codes)) in
    ap (λ (bs : List Body). bs ++ rest) is
    ∙ append_assoc before one rest
    ∙ sym (ap (λ (xs : List Code). before ++ bodies_of c (m ∷ drop (i + 1) listed) (map code_of xs)) (drop_next codes i
    code less is_code))
    ∙ sym (ap (λ (ms : List Listed). before ++ bodies_of c ms (map code_of (drop i codes))) (drop_next listed i m lt
    is_m))
    ∙ so_far

no_codes : (c : Complete) (ms : List Listed) → bodies_of c ms [] ≡ []
no_codes c [] = refl
no_codes c (m ∷ ms) = refl

-- there is no more code
pub bodies_short : (c : Complete) (listed : List Listed) (codes : List Code) (i : ℕ) (before total : List Body)
    → length codes ≤ i → before ++ bodies_of c (drop i listed) (map code_of (drop i codes)) ≡ total → before ≡ total
bodies_short c listed codes i before total past so_far =
    sym (append-nil before)
    ∙ sym (ap (λ (bs : List Body). before ++ bs) (no_codes c (drop i listed)))
    ∙ sym (ap (λ (xs : List Code). before ++ bodies_of c (drop i listed) (map code_of xs)) (drop_past codes i past))
    ∙ so_far

-- there is no more method
pub bodies_all : (c : Complete) (listed : List Listed) (codes : List Code) (i : ℕ) (before total : List Body)
    → length listed ≤ i → before ++ bodies_of c (drop i listed) (map code_of (drop i codes)) ≡ total → before ≡ total
bodies_all c listed codes i before total past so_far =
    sym (append-nil before)
    ∙ sym (ap (λ (ms : List Listed). before ++ bodies_of c ms (map code_of (drop i codes))) (drop_past listed i past))
    ∙ so_far
