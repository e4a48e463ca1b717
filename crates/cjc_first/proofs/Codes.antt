-- The card fetches what was selected.
use Rattle.std.proofs.Common.{◌≡◌, ℕ, zero, suc, ◌+◌, ◌^◌, ◌<◌, refl, ap, ◌∙◌, arith, Bool, true, false, List, ◌∷◌, ◌++◌, length, ℤ, pos, negsuc}
use Rattle.std.specs.Prelude.{◌≤ℤ◌, Option, Some, nat_lt, ◌&&◌, FitsSigned}
use Rattle.std.specs.Int.{w8, w16, cast_signed, cast_unsigned, to_be_bytes}
use Rattle.std.specs.Int.RustNames.{int_le}
use Rattle.std.proofs.lemmas.Bool.{ltb-true}
use Rattle.std.proofs.lemmas.Int.{ints, to_z-of_z}
use Rattle.std.proofs.lemmas.Nat.{from_be_bytes-to_be_bytes_2}
use Rattle.cjc_first.specs.TokenMachine.Rows.{Fetched, Does, fetch, push, sload, sadd, sreturn}
use Rattle.cjc_first.specs.Selected.{sconst, lies_in, constant, load}
use Rattle.cjc_words.proofs.Words.{fits16}

le_true : (a b : ℤ) → int_le a b ≡ true → a ≤ℤ b
le_true a b e = grind (arith, ints)

pub and_true : (a b : Bool) → (a && b) ≡ true → (a ≡ true) × (b ≡ true)
and_true true true e = (refl, refl)
and_true true false e = cc
and_true false b e = cc

pub lies_true : (low high z : ℤ) → lies_in low high z ≡ true → (low ≤ℤ z) × (z ≤ℤ high)
lies_true low high z e =
    let h = and_true (int_le low z) (int_le z high) e in (le_true low z h.0, le_true z high h.1)

-- an instruction of so many bytes
abbrev pub found : Does → ℕ → Option Fetched
found does size = Some (record { does = does; size = size })

-- -1 to 5
fetch-sconst : (z : ℤ) → negsuc 0 ≤ℤ z → z ≤ℤ pos 5 → (rest : List ℕ) → fetch (sconst z ∷ rest) ≡ found (push z) 1
unfolding fetch
fetch-sconst (pos zero) a b rest = refl
fetch-sconst (pos (suc zero)) a b rest = refl
fetch-sconst (pos (suc (suc zero))) a b rest = refl
fetch-sconst (pos (suc (suc (suc zero)))) a b rest = refl
fetch-sconst (pos (suc (suc (suc (suc zero))))) a b rest = refl
fetch-sconst (pos (suc (suc (suc (suc (suc zero)))))) a b rest = refl
fetch-sconst (pos (suc (suc (suc (suc (suc (suc n))))))) a b rest = absurd (omega (arith, ints))
fetch-sconst (negsuc zero) a b rest = refl
fetch-sconst (negsuc (suc n)) a b rest = absurd (omega (arith, ints))

fits8 : (z : ℤ) → negsuc 127 ≤ℤ z → z ≤ℤ pos 127 → FitsSigned w8 z
fits8 (pos n) a b = record { sfits = omega (arith, ints) }
fits8 (negsuc n) a b = record { sfits = omega (arith, ints) }

fetch-bspush : (z : ℤ) → negsuc 127 ≤ℤ z → z ≤ℤ pos 127 → (rest : List ℕ) → fetch (0x10 ∷ cast_unsigned w8 z ∷ rest) ≡ found (push z) 2
unfolding fetch
fetch-bspush z a b rest = ap (λ y. found (push y) 2) (to_z-of_z w8 z (fits8 z a b))

word_small : (z : ℤ) → negsuc 32767 ≤ℤ z → z ≤ℤ pos 32767 → cast_unsigned w16 z < 2 ^ 16
word_small (pos n) a b = omega (arith, ints)
word_small (negsuc n) a b = omega (arith, ints)

fetch-sspush : (z : ℤ) → negsuc 32767 ≤ℤ z → z ≤ℤ pos 32767 → (rest : List ℕ) → fetch (0x11 ∷ to_be_bytes w16 (cast_unsigned w16 z) ++ rest) ≡ found (push z) 3
unfolding fetch
fetch-sspush z a b rest =
    let n = cast_unsigned w16 z in
    let whole = from_be_bytes-to_be_bytes_2 n (word_small z a b) in
    ap (λ y. found (push (cast_signed w16 y)) 3) (omega (arith, whole)) ∙ ap (λ y. found (push y) 3) (to_z-of_z w16 z (fits16 z a b))

pub fetch-constant : (z : ℤ) → negsuc 32767 ≤ℤ z → z ≤ℤ pos 32767 → (rest : List ℕ) → fetch (constant z ++ rest) ≡ found (push z) (length (constant z))
fetch-constant z a b rest = by (lies_in (negsuc 0) (pos 5) z) refl (lies_in (negsuc 127) (pos 127) z) refl
  where
    by : (s : Bool) → lies_in (negsuc 0) (pos 5) z ≡ s → (t : Bool) → lies_in (negsuc 127) (pos 127) z ≡ t → fetch (constant z ++ rest) ≡ found (push z) (length (constant z))
    by true h t k = let w = lies_true (negsuc 0) (pos 5) z h in rw h (fetch-sconst z w.0 w.1 rest)
    by false h true k = let w = lies_true (negsuc 127) (pos 127) z k in rw (h, k) (fetch-bspush z w.0 w.1 rest)
    by false h false k = rw (h, k) (fetch-sspush z a b rest)

fetch-sload_n : (l : ℕ) → l < 4 → (rest : List ℕ) → fetch ((0x1C + l) ∷ rest) ≡ found (sload l) 1
unfolding fetch
fetch-sload_n zero h rest = refl
fetch-sload_n (suc zero) h rest = refl
fetch-sload_n (suc (suc zero)) h rest = refl
fetch-sload_n (suc (suc (suc zero))) h rest = refl
fetch-sload_n (suc (suc (suc (suc l)))) h rest = absurd (omega arith)

fetch-sload : (l : ℕ) (rest : List ℕ) → fetch (0x16 ∷ l ∷ rest) ≡ found (sload l) 2
unfolding fetch
fetch-sload l rest = refl

pub fetch-load : (l : ℕ) (rest : List ℕ) → fetch (load l ++ rest) ≡ found (sload l) (length (load l))
fetch-load l rest = by (nat_lt l 4) refl
  where
    by : (t : Bool) → nat_lt l 4 ≡ t → fetch (load l ++ rest) ≡ found (sload l) (length (load l))
    by true h = rw h (fetch-sload_n l (ltb-true l 4 h) rest)
    by false h = rw h (fetch-sload l rest)

pub fetch-sadd : (rest : List ℕ) → fetch (0x41 ∷ rest) ≡ found sadd 1
unfolding fetch
fetch-sadd rest = refl

pub fetch-sreturn : (rest : List ℕ) → fetch (0x78 ∷ rest) ≡ found sreturn 1
unfolding fetch
fetch-sreturn rest = refl
