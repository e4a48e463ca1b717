-- Cutting a text at its separators one after the other finds its lines and words.
use Rattle.std.proofs.Common.{◌≡◌, ℕ, ◌+◌, ◌-◌, ◌*◌, ◌<◌, ◌≤◌, ◌==◌, ◌&&◌, ◌⊎◌, inl, inr, nat_le, Bool, true, false}
use Rattle.std.proofs.Common.{cond, ltb, List, [], ◌∷◌, ◌++◌, length, take, drop, get_or, filter, Option, Some, None}
use Rattle.std.proofs.Common.{refl, sym, ap, ◌∙◌, subst, append_assoc, arith, add-one, drop-cons}
use Rattle.std.specs.Prelude.{position}
use Rattle.std.specs.List.{slice_split, position_or_len}
use Rattle.std.specs.Str.Lines.{strip_carriage_return}
use Rattle.std.proofs.lemmas.Bool.{ltb-true, ltb-false, le-leb, lt-leb, and_left, and_right}
use Rattle.std.proofs.lemmas.List.{length-take-le, drop-drop, length-drop, drop_all}
use Rattle.std.proofs.lemmas.List.Elements.{All-from_get_or, filter-append}
use Rattle.std.proofs.lemmas.List.Sums.{fails_before_first}
use Rattle.std.proofs.lemmas.List.Splits.{slice_split_none, slice_split_first, length-slice_split}
use Rattle.cjc_bytes.specs.Text.{TextLine, lines_from, is_kept, kept, is_filled, filled_parts, is_digit, decimal_from}
use Rattle.cjc_bytes.specs.Text.{decimal}
use Rattle.cjc_bytes.proofs.Numbers.{passed_at}

-- the first separator cuts off the first part
pub record Cut (p : ℕ → Bool) (xs : List ℕ) (n : ℕ) : Type 0 where
  pub within : n < length xs
  pub parts : slice_split p xs ≡ take n xs ∷ slice_split p (drop (n + 1) xs)

not_found : (b : Bool) (m : ℕ) → cond b (Some m) None ≡ None → b ≡ false
not_found true m e = absurd cc
not_found false m e = refl

pub cut_at : (p : ℕ → Bool) (xs : List ℕ) (n : ℕ) → position p xs ≡ Some n → Cut p xs n
cut_at p xs n e =
    let found = passed_at (ltb (position_or_len p xs) (length xs)) (position_or_len p xs) n e in
    let within : position_or_len p xs < length xs = ltb-true _ _ found.0 in
    let parts : slice_split p xs ≡ take (position_or_len p xs) xs ∷ slice_split p (drop (position_or_len p xs + 1) xs) =
    slice_split_first p xs 0 within in
    let W : ℕ → Type 0 = λ m. Cut p xs m in
    subst W found.1 (record { within = within; parts = parts })

pub cut_nowhere : (p : ℕ → Bool) (xs : List ℕ) → position p xs ≡ None → slice_split p xs ≡ xs ∷ []
cut_nowhere p xs e =
    let beyond : length xs ≤ position_or_len p xs = ltb-false _ _ (not_found _ _ e) in
    slice_split_none p xs (All-from_get_or (λ x. p x ≡ false) xs 0 (λ i lt. fails_before_first p xs i 0 (omega arith)))

-- a part with parts behind it ends with a line feed
pub lines_from-cons : (at : ℕ) (part : List ℕ) (parts : List (List ℕ)) → 0 < length parts
    → lines_from at (part ∷ parts) ≡ record { at = at; text = strip_carriage_return part }
    ∷ lines_from (at + length part + 1) parts
unfolding lines_from
lines_from-cons at part [] h = absurd (omega arith)
lines_from-cons at part (next ∷ parts) h = refl

filter-cons : {A : Type 0} (p : A → Bool) (x : A) (xs : List A) → filter p (x ∷ xs) ≡ filter p (x ∷ []) ++ filter p xs
filter-cons p x xs = filter-append p (x ∷ []) xs

take_within : (n : ℕ) (xs : List ℕ) → n < length xs → length (take n xs) ≡ n
take_within n xs lt = length-take-le n xs (omega arith)

kept-cut : (at : ℕ) (xs : List ℕ) (n : ℕ) → position (λ b. b == 10) xs ≡ Some n
    → kept at xs ≡ filter is_kept (record { at = at; text = strip_carriage_return (take n xs) } ∷ [])
    ++ kept (at + n + 1) (drop (n + 1) xs)
unfolding kept
kept-cut at xs n e =
    let cut = cut_at (λ b. b == 10) xs n e in
    let more : 0 < length (slice_split (λ b. b == 10) (drop (n + 1) xs)) =
    omega (arith, length-slice_split (λ b. b == 10) (drop (n + 1) xs)) in
    let first : TextLine = record { at = at; text = strip_carriage_return (take n xs) } in
    let rest : List (List ℕ) = slice_split (λ b. b == 10) (drop (n + 1) xs) in
    let step : kept at xs ≡ filter is_kept (first ∷ [])
    ++ filter is_kept (lines_from (at + length (take n xs) + 1) rest) =
    rw (cut.parts, lines_from-cons at (take n xs) rest more) (filter-cons is_kept first
    (lines_from (at + length (take n xs) + 1) rest)) in
    step ∙ ap (λ (m : ℕ). filter is_kept (first ∷ []) ++ filter is_kept (lines_from (at + m + 1) rest))
    (take_within n xs cut.within)

kept-last : (at : ℕ) (xs : List ℕ) → position (λ b. b == 10) xs ≡ None → kept at xs ≡ filter is_kept (record {
  at = at;
  text = xs;
} ∷ [])
unfolding kept lines_from
kept-last at xs e = rw (cut_nowhere (λ b. b == 10) xs e) refl

filled_parts-cut : (xs : List ℕ) (n : ℕ) → position (λ b. b == 32) xs ≡ Some n
    → filled_parts xs ≡ filter is_filled (take n xs ∷ []) ++ filled_parts (drop (n + 1) xs)
unfolding filled_parts
filled_parts-cut xs n e =
    rw (Cut.parts (cut_at (λ b. b == 32) xs n e)) (filter-cons is_filled (take n xs) (slice_split (λ b. b == 32)
    (drop (n + 1) xs)))

filled_parts-last : (xs : List ℕ) → position (λ b. b == 32) xs ≡ None → filled_parts xs ≡ filter is_filled (xs ∷ [])
unfolding filled_parts
filled_parts-last xs e = rw (cut_nowhere (λ b. b == 32) xs e) refl

-- one turn of a loop that cuts stays within the bytes
pub cut_within : (p : ℕ → Bool) (bytes : List ℕ) (at n : ℕ) → at ≤ length bytes → position p (drop at bytes) ≡ Some n
    → at + (n + 1) ≤ length bytes
cut_within p bytes at n within e =
    let cut = cut_at p (drop at bytes) n e in
    omega (arith, cut.within, length-drop at bytes)

-- the lines that were kept and those that are still to be kept, one turn on
pub kept_next : (bytes : List ℕ) (at n : ℕ) (front new total : List TextLine) → position (λ b. b == 10) (drop at bytes)
    ≡ Some n
    → new ≡ front ++ filter is_kept (record { at = at; text = strip_carriage_return (take n (drop at bytes)) } ∷ [])
    → front ++ kept at (drop at bytes) ≡ total → new ++ kept (at + (n + 1)) (drop (at + (n + 1)) bytes) ≡ total
kept_next bytes at n front new total e added so_far =
    let place : at + n + 1 ≡ at + (n + 1) = omega arith in
    let step : kept at (drop at bytes) ≡ filter is_kept (record {
      at = at;
      text = strip_carriage_return (take n (drop at bytes));
    } ∷ [])
    ++ kept (at + (n + 1)) (drop (at + (n + 1)) bytes) =
    kept-cut at (drop at bytes) n e ∙ rw (place, drop-drop (n + 1) at bytes) refl in
    rw added (append_assoc front _ _ ∙ ap (λ (ls : List TextLine). front ++ ls) (sym step)) ∙ so_far

-- the last line
pub kept_end : (bytes : List ℕ) (at : ℕ) (front new total : List TextLine) → position (λ b. b == 10) (drop at bytes)
    ≡ None
    → new ≡ front ++ filter is_kept (record { at = at; text = drop at bytes } ∷ []) → front ++ kept at (drop at bytes)
    ≡ total → new ≡ total
kept_end bytes at front new total e added so_far = added ∙ ap (λ (ls : List TextLine). front
    ++ ls) (sym (kept-last at (drop at bytes) e)) ∙ so_far

-- the words so far and those still to come, one turn on
pub filled_next : (bytes : List ℕ) (at n : ℕ) (front new total : List (List ℕ))
    → position (λ b. b == 32) (drop at bytes) ≡ Some n
    → new ≡ front ++ filter is_filled (take n (drop at bytes) ∷ []) → front ++ filled_parts (drop at bytes) ≡ total
    → new ++ filled_parts (drop (at + (n + 1)) bytes) ≡ total
filled_next bytes at n front new total e added so_far =
    let step : filled_parts (drop at bytes) ≡ filter is_filled (take n (drop at bytes) ∷ [])
    ++ filled_parts (drop (at + (n + 1)) bytes) =
    filled_parts-cut (drop at bytes) n e ∙ rw (drop-drop (n + 1) at bytes) refl in
    rw added (append_assoc front _ _ ∙ ap (λ (ws : List (List ℕ)). front ++ ws) (sym step)) ∙ so_far

-- the last word
pub filled_end : (bytes : List ℕ) (at : ℕ) (front new total : List (List ℕ)) → position (λ b. b == 32) (drop at bytes)
    ≡ None
    → new ≡ front ++ filter is_filled (drop at bytes ∷ []) → front ++ filled_parts (drop at bytes) ≡ total → new ≡ total
filled_end bytes at front new total e added so_far = added ∙ ap (λ (ws : List (List ℕ)). front
    ++ ws) (sym (filled_parts-last (drop at bytes) e)) ∙ so_far

no_more : (limit n d : ℕ) → (d < 48) ⊎ ((57 < d) ⊎ (limit < n * 10 + (d - 48)))
    → (is_digit d && nat_le (n * 10 + (d - 48)) limit) ≡ false
no_more limit n d bad = elim bad [
  | inl low ↦ and_left (is_digit d) _ (and_left (nat_le 48 d) _ (lt-leb 48 d low))
  | inr more ↦ elim more [
    | inl high ↦ and_left (is_digit d) _ (and_right (nat_le 48 d) _ (lt-leb d 57 high))
    | inr large ↦ and_right (is_digit d) _ (lt-leb (n * 10 + (d - 48)) limit large)
  ]
]

-- a digit more
pub decimal_more : (limit n i d : ℕ) (text : List ℕ) (total : Option ℕ) → i < length text → d ≡ get_or text i 0 → 48 ≤ d
    → d ≤ 57 → n * 10 + (d - 48) ≤ limit
    → decimal_from limit n (drop i text) ≡ total → decimal_from limit (n * 10 + (d - 48)) (drop (i + 1) text) ≡ total
unfolding decimal_from
decimal_more limit n i d text total lt is low high small so_far =
    let step : decimal_from limit n (drop i text) ≡ decimal_from limit (n * 10 + (d - 48)) (drop (i + 1) text) =
    rw (add-one, drop-cons text i 0 lt, ← is, le-leb 48 d low, le-leb d 57 high, le-leb (n * 10 + (d - 48)) limit small)
    refl in
    sym step ∙ so_far

-- no digit, or a number past the limit
pub decimal_stops : (limit n i d : ℕ) (text : List ℕ) (total : Option ℕ) → i < length text → d ≡ get_or text i 0
    → (d < 48) ⊎ ((57 < d) ⊎ (limit < n * 10 + (d - 48)))
    → decimal_from limit n (drop i text) ≡ total → total ≡ None
unfolding decimal_from
decimal_stops limit n i d text total lt is bad so_far =
    let step : decimal_from limit n (drop i text) ≡ None = rw (drop-cons text i 0 lt, ← is, no_more limit n d bad) refl
    in
    sym so_far ∙ step

-- no more digits
pub decimal_ends : (limit n i : ℕ) (text : List ℕ) (total : Option ℕ) → length text ≤ i
    → decimal_from limit n (drop i text) ≡ total → total ≡ Some n
unfolding decimal_from
decimal_ends limit n i text total le so_far = sym so_far ∙ rw (drop_all i text le) refl

pub decimal_begins : (limit : ℕ) (text : List ℕ) → 0 < length text → decimal limit text ≡ decimal_from limit 0 text
decimal_begins limit [] h = absurd (omega arith)
decimal_begins limit (c ∷ cs) h = refl
