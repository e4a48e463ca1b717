-- The matches of switches are words, and in order.
use Rattle.std.proofs.Common.{◌≡◌, ℕ, suc, refl, ap, ◌∙◌, arith, Bool, true, false, List, [], ◌∷◌, length, replicate, ℤ}
use Rattle.std.proofs.Common.{pos, negsuc}
use Rattle.std.specs.Int.RustNames.{int_le, int_lt}
use Rattle.std.specs.List.{Contains}
use Rattle.std.specs.Prelude.{◌&&◌, ◌+ℤ◌, ◌-ℤ◌, ◌≤ℤ◌, filter, map, if◌then◌else◌}
use Rattle.std.proofs.lemmas.Int.{ints}
use Rattle.cjc_card_semantics.specs.Bytecode.Numbers.{is_word}
use Rattle.cjc_card_semantics.specs.CapRead.Decode.{AllFit, IsWithin, matches_ascend, more, negative, none, pairs}
use Rattle.cjc_card_semantics.specs.CapRead.Decode.{positive, up_to}
use Rattle.cjc_card_semantics.specs.CapRead.Opcodes.{Signed2}
use Rattle.cjc_code.specs.declared.insn.JCase.{JCase}
use Rattle.cjc_types.specs.Fixpoint.Working.Edges.{contains_head, contains_tail}
use Rattle.cjc_ncode.specs.Lowering.Laid.{matches, offsets}
use Rattle.cjc_ncode.specs.Lowering.Naming.{Naming}
use Rattle.cjc_ncode.specs.declared.narrow.NCase.{NCase}
use Rattle.cjc_ncode.specs.Written.{pair_case, pair_cases, table_cases}
use Rattle.cjc_narrow_proof.specs.Selected.Operands.{CasesAscend}
use Rattle.cjc_bytes.proofs.Bools.{both_front, both_back}
use Rattle.cjc_bytes.proofs.Integers.{above_if}

-- ---- words

pub within_by : (z : ℤ) → negsuc 32767 ≤ℤ z → z ≤ℤ pos 32767 → IsWithin 32768 z
within_by (pos n) a b = positive (omega (arith, ints))
within_by (negsuc n) a b = negative (omega (arith, ints))

word_low : (z : ℤ) → is_word z ≡ true → negsuc 32767 ≤ℤ z
word_low z e = above_if (negsuc 32767) z (both_front (int_le (negsuc 32767) z) (int_le z (pos 32767)) e)

word_high : (z : ℤ) → is_word z ≡ true → z ≤ℤ pos 32767
word_high z e = above_if z (pos 32767) (both_back (int_le (negsuc 32767) z) (int_le z (pos 32767)) e)

-- ---- a table

-- none, or words from a low number on
abbrev pub AreRow : ℤ → List NCase → Type 0
AreRow low [] = Unit {0}
AreRow low (c ∷ cases) = (low ≤ℤ c.value) × (negsuc 32767 ≤ℤ c.value) × ((c.value +ℤ pos (length cases)) ≤ℤ pos 32767)

lower : (low : ℤ) (cases : List NCase) → AreRow (low +ℤ pos 1) cases → AreRow low cases
lower low [] h = tt
lower low (c ∷ cases) h = let up = h.0 in (omega (arith, ints, up), h.1, h.2)

put_first : (low : ℤ) (target : ℕ) (cases : List NCase) → negsuc 32767 ≤ℤ low → low ≤ℤ pos 32767
    → AreRow (low +ℤ pos 1) cases → AreRow low (record { value = low; target = target } ∷ cases)
put_first low target [] a b h = (omega (arith, ints), a, omega (arith, ints, b))
put_first low target (c ∷ cases) a b h = let up = h.0 in let last = h.2
    in (omega (arith, ints), a, omega (arith, ints, up, last))

pub table_row : (place : ℕ → ℕ) (low : ℤ) (ts : List ℕ) → AreRow low (table_cases place low ts)
table_row place low [] = tt
table_row place low (t ∷ ts) = go (is_word low) refl (table_row place (low +ℤ pos 1) ts)
  where
    go : (b : Bool) → is_word low ≡ b → AreRow (low +ℤ pos 1) (table_cases place (low +ℤ pos 1) ts)
        → AreRow low (if b then record { value = low; target = place t } ∷ table_cases place (low +ℤ pos 1) ts
        else table_cases place (low +ℤ pos 1) ts)
    go true e h = put_first low (place t) (table_cases place (low +ℤ pos 1) ts) (word_low low e) (word_high low e) h
    go false e h = lower low (table_cases place (low +ℤ pos 1) ts) h

-- the last number of so many from one on
abbrev pub last_of : ℤ → (more : ℕ) → ℤ
last_of z k = (z +ℤ pos (suc k)) -ℤ pos 1

pub last_is : (z : ℤ) (k : ℕ) → last_of z k ≡ z +ℤ pos k
last_is z k = omega (arith, ints)

pub count_is : (z : ℤ) (k : ℕ) → up_to (last_of z k -ℤ z) ≡ suc k
count_is z k = let e : last_of z k -ℤ z ≡ pos k = omega (arith, ints) in ap up_to e

pub last_low : (z : ℤ) (k : ℕ) → z ≤ℤ last_of z k
last_low z k = omega (arith, ints)

pub offsets_fit : (n : Naming) (cases : List NCase)
    → AllFit (replicate (length cases) Signed2) (offsets n (λ label. 0) 0 cases)
offsets_fit n [] = none
offsets_fit n (c ∷ cases) = more (positive (omega arith)) (offsets_fit n cases)

-- ---- pairs

abbrev pub AreWords : List NCase → Type 0
AreWords [] = Unit {0}
AreWords (c ∷ cases) = (is_word c.value ≡ true) × AreWords cases

pub pair_words : (place : ℕ → ℕ) (cases : List JCase) → AreWords (pair_cases place cases)
pair_words place [] = tt
pair_words place (c ∷ cases) = go (is_word c.value) refl (pair_words place cases)
  where
    go : (b : Bool) → is_word c.value ≡ b → AreWords (map (pair_case place) (filter (λ d. is_word d.value) cases))
        → AreWords (map (pair_case place) (if b then c ∷ filter (λ d. is_word d.value) cases
        else filter (λ d. is_word d.value) cases))
    go true e h = (e, h)
    go false e h = h

pub pairs_fit : (n : Naming) (cases : List NCase) → AreWords cases
    → AllFit (pairs Signed2 (length cases)) (matches n (λ label. 0) 0 cases)
pairs_fit n [] h = none
pairs_fit n (c ∷ cases) h = more (within_by c.value (word_low c.value h.0) (word_high c.value h.0))
    (more (positive (omega arith)) (pairs_fit n cases h.1))

-- the first is greater than this
abbrev HeadAbove : ℤ → List NCase → Type 0
HeadAbove z [] = Unit {0}
HeadAbove z (c ∷ cases) = int_lt z c.value ≡ true

head_above : (place : ℕ → ℕ) (z : ℤ) (cases : List JCase) → ((d : JCase) → Contains cases d → int_lt z d.value ≡ true)
    → HeadAbove z (pair_cases place cases)
head_above place z [] h = tt
head_above place z (c ∷ cases) h =
    go (is_word c.value) (head_above place z cases (λ d there. h d (contains_tail c cases d there)))
  where
    go : (b : Bool) → HeadAbove z (map (pair_case place) (filter (λ d. is_word d.value) cases))
        → HeadAbove z (map (pair_case place) (if b then c ∷ filter (λ d. is_word d.value) cases
        else filter (λ d. is_word d.value) cases))
    go true rest = h c (contains_head c cases)
    go false rest = rest

on_top : (n : Naming) (c : NCase) (cases : List NCase) → HeadAbove c.value cases
    → matches_ascend (matches n (λ label. 0) 0 cases) ≡ true → matches_ascend (matches n (λ label. 0) 0 (c ∷ cases))
    ≡ true
on_top n c [] above e = refl
on_top n c (d ∷ cases) above e = ap (λ b. b && matches_ascend (matches n (λ label. 0) 0 (d ∷ cases))) above ∙ e

pub pairs_ascend : (n : Naming) (place : ℕ → ℕ) (cases : List JCase) → CasesAscend cases
    → matches_ascend (matches n (λ label. 0) 0 (pair_cases place cases)) ≡ true
pairs_ascend n place [] h = refl
pairs_ascend n place (c ∷ cases) h = go (is_word c.value) (head_above place c.value cases h.0)
    (pairs_ascend n place cases h.1)
  where
    go : (b : Bool) → HeadAbove c.value (map (pair_case place) (filter (λ d. is_word d.value) cases))
        → matches_ascend (matches n (λ label. 0) 0 (map (pair_case place) (filter (λ d. is_word d.value) cases))) ≡ true
        → matches_ascend (matches n (λ label. 0) 0 (map (pair_case place) (if b then c ∷ filter (λ d. is_word d.value)
        cases else filter (λ d. is_word d.value) cases))) ≡ true
    go true above rest = on_top n (pair_case place c) (map (pair_case place) (filter (λ d. is_word d.value) cases))
        above rest
    go false above rest = rest
