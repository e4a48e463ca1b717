-- The classes in the nibbles of a type, part by part.
use Rattle.std.proofs.Common.{◌≡◌, ℕ, ◌+◌, ◌/◌, ◌<◌, ◌≤◌, Bool, List, [], ◌∷◌, ◌++◌, length, get_or, drop, refl, sym}
use Rattle.std.proofs.Common.{ap, ◌∙◌, arith, Option, length-drop}
use Rattle.std.proofs.Math.Seq.{drop-drop}
use Rattle.cjc_capread.specs.declared.tree.ClassRef.{ClassRef}
use Rattle.cjc_check_rules.specs.declared.spot.ComponentPlace.{ComponentPlace}
use Rattle.cjc_check_rules.specs.Spots.{earlier, first}
use Rattle.cjc_check_rules.specs.ClassRefs.{in_nibbles}
use Rattle.cjc_check_tables.specs.Links.Nibbles.{names_class, nibble_width, in_front}
use Rattle.cjc_check_rules.proofs.Firsts.{earlier_none, earlier_assoc, first_append}
use Rattle.cjc_capread.proofs.BytesBools.{bool_either}

-- the first part, and those behind it
part : (test : ClassRef → Bool) (at i : ℕ) (xs : List ℕ) → 5 ≤ length xs
    → in_nibbles test at i xs ≡ in_front test (at + 1 + (i + 1) / 2) xs
    ++ in_nibbles test at (i + nibble_width (get_or xs 0 0)) (drop (nibble_width (get_or xs 0 0)) xs)
unfolding in_nibbles
part test at i [] le = absurd (omega (arith, le))
part test at i (n ∷ []) le = absurd (omega (arith, le))
part test at i (n ∷ a ∷ []) le = absurd (omega (arith, le))
part test at i (n ∷ a ∷ b ∷ []) le = absurd (omega (arith, le))
part test at i (n ∷ a ∷ b ∷ c ∷ []) le = absurd (omega (arith, le))
part test at i (n ∷ a ∷ b ∷ c ∷ d ∷ xs) le = bool_either (names_class n) (λ is. rw is refl) (λ is. rw is refl)

pub nibbles_more : (test : ClassRef → Bool) (at i : ℕ) (xs rest : List ℕ) (next : ℕ) (best found total :
    Option ComponentPlace)
    → i + 4 < length xs → rest ≡ drop i xs → next ≡ i + nibble_width (get_or rest 0 0)
    → found ≡ first (in_front test (at + 1 + (i + 1) / 2) rest)
    → earlier best (first (in_nibbles test at i (drop i xs))) ≡ total
    → earlier (earlier best found) (first (in_nibbles test at next (drop next xs))) ≡ total
nibbles_more test at i xs rest next best found total lt r n f so_far =
    let front = in_front test (at + 1 + (i + 1) / 2) (drop i xs) in
    let w = nibble_width (get_or (drop i xs) 0 0) in
    let tail = in_nibbles test at (i + w) (drop (i + w) xs) in
    let g : found ≡ first front = f ∙ ap (λ (ys : List ℕ). first (in_front test (at + 1 + (i + 1) / 2) ys)) r in
    let m : next ≡ i + w = n ∙ ap (λ (ys : List ℕ). i + nibble_width (get_or ys 0 0)) r in
    let le : 5 ≤ length (drop i xs) = omega (arith, length-drop i xs, lt) in
    let one : first (in_nibbles test at i (drop i xs)) ≡ earlier (first front) (first tail) =
    ap first (part test at i (drop i xs) le ∙ ap (λ (ys : List ℕ). front ++ in_nibbles test at (i + w) ys)
    (drop-drop w i xs)) ∙ first_append front tail in
    rw (m, g) (earlier_assoc best (first front) (first tail) ∙ ap (earlier best) (sym one) ∙ so_far)

short : (test : ClassRef → Bool) (at i : ℕ) (xs : List ℕ) → length xs < 5 → in_nibbles test at i xs ≡ []
unfolding in_nibbles
short test at i [] lt = refl
short test at i (n ∷ []) lt = refl
short test at i (n ∷ a ∷ []) lt = refl
short test at i (n ∷ a ∷ b ∷ []) lt = refl
short test at i (n ∷ a ∷ b ∷ c ∷ []) lt = refl
short test at i (n ∷ a ∷ b ∷ c ∷ d ∷ xs) lt = absurd (omega (arith, lt))

pub nibbles_all : (test : ClassRef → Bool) (at i : ℕ) (xs : List ℕ) (best total : Option ComponentPlace)
    → length xs ≤ i + 4
    → earlier best (first (in_nibbles test at i (drop i xs))) ≡ total → best ≡ total
unfolding first
nibbles_all test at i xs best total le so_far =
    let e = short test at i (drop i xs) (omega (arith, length-drop i xs, le)) in
    sym (earlier_none best) ∙ ap (λ (spots : List ComponentPlace). earlier best (first spots)) (sym e) ∙ so_far

pub width_le : (nibble : ℕ) → nibble_width nibble ≤ 5
width_le nibble = bool_either (names_class nibble) (λ is. rw is (omega arith)) (λ is. rw is (omega arith))
