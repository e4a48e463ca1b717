-- Types that nibbles say one behind the other, and the words of several values.
use Rattle.std.proofs.Common.{◌≡◌, ℕ, suc, ◌+◌, ◌-◌, ◌*◌, ◌<◌, ◌≤◌, Bool, true, false, List, [], ◌∷◌, ◌++◌, length}
use Rattle.std.proofs.Common.{take}
use Rattle.std.proofs.Common.{drop, drop-cons, get_or, length-drop, map, slice_index_or, refl, sym, ap, subst, ◌∙◌}
use Rattle.std.proofs.Common.{append_assoc, append-nil, arith, Option, Some, None, option_map}
use Rattle.std.proofs.lemmas.List.{drop_all}
use Rattle.std.proofs.lemmas.Slice.{between_to_end}
use Rattle.std.proofs.lemmas.Grind.{common_steps}
use Rattle.std.specs.Prelude.{if◌then◌else◌, flat_map}
use Rattle.cjc_frames.specs.declared.acts.Given.{Given}
use Rattle.cjc_frames.specs.declared.acts.Need.{Need}
use Rattle.cjc_card_acts.specs.CardTypes.{ValueType, Reference, by_nibble, has_class, member_type, needs_of}
use Rattle.cjc_card_acts.specs.CardTypes.{needs_of_all, onto, types_in, width, widths, with_param, words}
use Rattle.cjc_card_acts.specs.Told.{type_told}
use Rattle.cjc_card_acts.specs.declared.types.ValueType.{ValueType as TypeData}
use Rattle.cjc_card_acts.specs.declared.types.ValueType.TheVariants as types

-- ---- nibbles

-- a class_ref follows
pub class_first : (n : ℕ) (rest : List ℕ) → has_class n ≡ true → 4 ≤ length rest
    → types_in (n ∷ rest) ≡ onto (Some (Reference (n ∷ take 4 rest))) (types_in (drop 4 rest))
unfolding types_in
class_first n [] is long = grind arith
class_first n (a ∷ []) is long = grind arith
class_first n (a ∷ b ∷ []) is long = grind arith
class_first n (a ∷ b ∷ c ∷ []) is long = grind arith
class_first n (a ∷ b ∷ c ∷ d ∷ rest) is long =
    ap (λ (t : Bool). if t then onto (Some (Reference (n ∷ a ∷ b ∷ c ∷ d ∷ []))) (types_in rest)
    else onto (by_nibble n) (types_in (a ∷ b ∷ c ∷ d ∷ rest))) is

-- one nibble says a type by itself
pub nibble_first : (n : ℕ) (rest : List ℕ) → has_class n ≡ false
    → types_in (n ∷ rest) ≡ onto (by_nibble n) (types_in rest)
unfolding types_in
nibble_first n [] is = refl
nibble_first n (a ∷ []) is = refl
nibble_first n (a ∷ b ∷ []) is = refl
nibble_first n (a ∷ b ∷ c ∷ []) is = refl
nibble_first n (a ∷ b ∷ c ∷ d ∷ rest) is =
    ap (λ (t : Bool). if t then onto (Some (Reference (n ∷ a ∷ b ∷ c ∷ d ∷ []))) (types_in rest)
    else onto (by_nibble n) (types_in (a ∷ b ∷ c ∷ d ∷ rest))) is

no_nibble : (n : ℕ) → has_class n ≡ true → by_nibble n ≡ None
no_nibble n is = grind (arith, common_steps)

-- a class_ref is cut
pub class_cut : (n : ℕ) (rest : List ℕ) → has_class n ≡ true → length rest < 4 → types_in (n ∷ rest) ≡ None
unfolding types_in
class_cut n [] is short = ap (λ (t : Option ValueType). onto t (types_in [])) (no_nibble n is)
class_cut n (a ∷ []) is short = ap (λ (t : Option ValueType). onto t (types_in (a ∷ []))) (no_nibble n is)
class_cut n (a ∷ b ∷ []) is short = ap (λ (t : Option ValueType). onto t (types_in (a ∷ b ∷ []))) (no_nibble n is)
class_cut n (a ∷ b ∷ c ∷ []) is short = ap (λ (t : Option ValueType). onto t (types_in (a ∷ b ∷ c ∷ [])))
    (no_nibble n is)
class_cut n (a ∷ b ∷ c ∷ d ∷ rest) is short = grind arith

-- ---- the same as code has it

shorter : (xs : List ℕ) (k : ℕ) → 1 ≤ k → k ≤ length xs → length (take (length xs - k) (drop k xs)) < length xs
shorter xs k some le =
    let same = ap (λ (ys : List ℕ). length ys) (between_to_end xs k (length xs) (omega arith)) in
    let left = length-drop k xs in
    omega (arith, same, left, some, le)

-- a class_ref of four nibbles behind the first
pub class_in : (xs : List ℕ) (n : ℕ) (rest : List ℕ) → 5 ≤ length xs → xs ≡ n ∷ rest → has_class n ≡ true
    → types_in xs ≡ onto (Some (Reference (take 5 xs))) (types_in (take (length xs - 5) (drop 5 xs)))
class_in xs n rest long e is =
    let size : length xs ≡ length (n ∷ rest) = ap (λ (ys : List ℕ). length ys) e in
    let P : List ℕ → Type 0 = λ ys. types_in ys ≡ onto (Some (Reference (take 5 ys))) (types_in (drop 5 ys)) in
    let one : types_in xs ≡ onto (Some (Reference (take 5 xs))) (types_in (drop 5 xs)) =
    subst P (sym e) (class_first n rest is (omega (arith, size, long))) in
    one ∙ sym (ap (λ (ys : List ℕ). onto (Some (Reference (take 5 xs))) (types_in ys)) (between_to_end xs 5 (length xs)
    (omega arith)))

pub class_shorter : (xs : List ℕ) → 5 ≤ length xs → length (take (length xs - 5) (drop 5 xs)) < length xs
class_shorter xs long = shorter xs 5 (omega arith) long

-- one nibble says a type, or none
pub one_nibble : (xs : List ℕ) (found : Option TypeData) → 1 ≤ length xs → has_class (slice_index_or xs 0 0) ≡ false
    → ((n : ℕ) (rest : List ℕ) → xs ≡ n ∷ rest → option_map type_told found ≡ by_nibble n)
    → types_in xs ≡ onto (option_map type_told found) (types_in (take (length xs - 1) (drop 1 xs)))
one_nibble [] found some is said = absurd (omega (arith, some))
one_nibble (n ∷ rest) found some is said =
    nibble_first n rest is
    ∙ ap (λ (t : Option ValueType). onto t (types_in rest)) (sym (said n rest refl))
    ∙ sym (ap (λ (ys : List ℕ). onto (option_map type_told found) (types_in ys)) (between_to_end (n ∷ rest) 1
    (length (n ∷ rest)) (omega arith)))

pub nibble_shorter : (xs : List ℕ) → 1 ≤ length xs → length (take (length xs - 1) (drop 1 xs)) < length xs
nibble_shorter xs some = shorter xs 1 (omega arith) some

-- ---- types in front of those behind

-- types, where what follows says some
abbrev pub followed : List ValueType → Option (List ValueType) → Option (List ValueType)
followed ts None = None
followed ts (Some us) = Some (ts ++ us)

-- no type so far
pub none_so_far : (x : Option (List ValueType)) → followed [] x ≡ x
none_so_far None = refl
none_so_far (Some us) = refl

shifted : (ts : List ValueType) (t : ValueType) (y : Option (List ValueType)) → followed (ts ++ t ∷ []) y
    ≡ followed ts (onto (Some t) y)
shifted ts t None = refl
shifted ts t (Some us) = ap (λ (xs : List ValueType). Some xs) (append_assoc ts (t ∷ []) us)

told_more : (ts : List TypeData) (t : TypeData) → map type_told (ts ++ t ∷ []) ≡ map type_told ts ++ type_told t ∷ []
told_more [] t = refl
told_more (x ∷ ts) t = ap (λ (us : List ValueType). type_told x ∷ us) (told_more ts t)

-- one type more
pub one_more : (ts more : List TypeData) (t : TypeData) (x y z : Option (List ValueType)) → more ≡ ts ++ t ∷ []
    → x ≡ onto (Some (type_told t)) y → followed (map type_told ts) x ≡ z → followed (map type_told more) y ≡ z
one_more ts more t x y z is first so_far =
    ap (λ (us : List TypeData). followed (map type_told us) y) is
    ∙ ap (λ (us : List ValueType). followed us y) (told_more ts t)
    ∙ shifted (map type_told ts) (type_told t) y
    ∙ ap (followed (map type_told ts)) (sym first)
    ∙ so_far

-- what follows says none
pub none_more : (ts : List ValueType) (x z : Option (List ValueType)) → x ≡ None → followed ts x ≡ z → None ≡ z
none_more ts x z is so_far = sym (ap (followed ts) is) ∙ so_far

-- nothing follows
pub all_said : (ts : List ValueType) (nibbles : List ℕ) (z : Option (List ValueType)) → length nibbles < 1
    → followed ts (types_in nibbles) ≡ z → Some ts ≡ z
unfolding types_in
all_said ts [] z none so_far = ap (λ (us : List ValueType). Some us) (sym (append-nil ts)) ∙ so_far
all_said ts (n ∷ nibbles) z none so_far = absurd (omega (arith, none))

-- ---- the result is the last type

pub last_is_result : (ts : List TypeData) (t : TypeData) → member_type (map type_told (ts ++ t ∷ []))
    ≡ record { params = map type_told ts; result = type_told t }
last_is_result [] t = refl
last_is_result (x ∷ []) t = refl
last_is_result (x ∷ y ∷ ts) t = ap (with_param (type_told x)) (last_is_result (y ∷ ts) t)

-- ---- words of several values

-- one value more
pub widths_more : (count more total : ℕ) (t : TypeData) (ts : List TypeData)
    → count + (width (type_told t) + widths (map type_told ts)) ≡ total → more ≡ count + width (type_told t)
    → more + widths (map type_told ts) ≡ total
widths_more count more total t ts so_far is = omega arith

two_words : (t : TypeData) → width (type_told t) ≤ 2
two_words types.Void = omega arith
two_words types.Boolean = omega arith
two_words types.Byte = omega arith
two_words types.Short = omega arith
two_words types.Int = omega arith
two_words (types.Reference nibbles) = omega arith

-- each has two words at most
pub few_words : (ts : List TypeData) → widths (map type_told ts) ≤ 2 * length ts
few_words [] = omega arith
few_words (t ∷ ts) = let one : width (type_told t) ≤ 2 = two_words t in let more = few_words ts in omega arith

-- one value more
pub words_more : (before all more : List Given) (t : TypeData) (ts : List TypeData)
    → before ++ (words (type_told t) ++ flat_map words (map type_told ts)) ≡ all
    → more ≡ before ++ words (type_told t) → more ++ flat_map words (map type_told ts) ≡ all
words_more before all more t ts so_far is =
    ap (λ (ws : List Given). ws ++ flat_map words (map type_told ts)) is
    ∙ append_assoc before (words (type_told t)) (flat_map words (map type_told ts))
    ∙ so_far

-- none of the arguments yet
pub needs_none : (before : List Need) (ts : List TypeData) → before ≡ before
    ++ needs_of_all (map type_told (drop (length ts - 0) ts))
needs_none before ts =
    sym (append-nil before)
    ∙ sym (ap (λ (us : List TypeData). before ++ needs_of_all (map type_told us)) (drop_all (length ts - 0) ts
    (omega arith)))

-- one more, from the last one on
pub needs_step : (before some more : List Need) (ts : List TypeData) (k : ℕ) (d : TypeData) → k < length ts
    → some ≡ before ++ needs_of_all (map type_told (drop (length ts - k) ts))
    → more ≡ some ++ needs_of (type_told (get_or ts (length ts - 1 - k) d))
    → more ≡ before ++ needs_of_all (map type_told (drop (length ts - (k + 1)) ts))
needs_step before some more ts k d within so_far put =
    let i = length ts - (k + 1) in
    let here : length ts - 1 - k ≡ i = omega (arith, within) in
    let next : suc i ≡ length ts - k = omega (arith, within) in
    let at : drop i ts ≡ get_or ts i d ∷ drop (length ts - k) ts = drop-cons ts i d (omega (arith, within))
    ∙ ap (λ (n : ℕ). get_or ts i d ∷ drop n ts) next in
    put
    ∙ ap (λ (n : ℕ). some ++ needs_of (type_told (get_or ts n d))) here
    ∙ ap (λ (ns : List Need). ns ++ needs_of (type_told (get_or ts i d))) so_far
    ∙ append_assoc before (needs_of_all (map type_told (drop (length ts - k) ts)))
    (needs_of (type_told (get_or ts i d)))
    ∙ sym (ap (λ (us : List TypeData). before ++ needs_of_all (map type_told us)) at)

-- all of them
pub needs_end : (before all : List Need) (ts : List TypeData) (k : ℕ) → length ts ≤ k
    → all ≡ before ++ needs_of_all (map type_told (drop (length ts - k) ts))
    → all ≡ before ++ needs_of_all (map type_told ts)
needs_end before all ts k over so_far =
    let none : length ts - k ≡ 0 = omega (arith, over) in
    so_far ∙ ap (λ (n : ℕ). before ++ needs_of_all (map type_told (drop n ts))) none
