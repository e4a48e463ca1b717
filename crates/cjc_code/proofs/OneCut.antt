-- A code is cut in one way only.
use Rattle.std.proofs.Common.{◌≡◌, ℕ, zero, suc, ◌+◌, ◌≤◌, ◌<◌, List, [], ◌∷◌, Result, Ok, Err, refl, ap, arith, length}
use Rattle.std.proofs.Common.{inl, inr}
use Rattle.std.proofs.lemmas.List.{length-append}
use Rattle.cjc_bytes.specs.Rest.{Rest}
use Rattle.cjc_bytes.specs.Format.{Spells, Breaks}
use Rattle.cjc_bytes.specs.Reading.{read}
use Rattle.cjc_bytes.proofs.Laws.{read_ok, read_err, spelt_reads, broken_reads}
use Rattle.cjc_code.specs.declared.raw.Raw.{Raw}
use Rattle.cjc_code.specs.declared.raw.Cut.{Cut}
use Rattle.cjc_code.specs.Instruction.{instruction}
use Rattle.cjc_code.specs.Cut.{IsCutFrom, IsCut, put_first, cut_on, cut_rest, cut}

-- an instruction has bytes
has_bytes : (at : ℕ) (i : Raw) (bytes : List ℕ) → Spells instruction at i bytes → 0 < length bytes
unfolding instruction Spells
has_bytes at i bytes (a, front, back, parts, here, (op, first, rest, parted, opcode, others)) =
    omega (arith, ap length parts, length-append front back, ap length parted, length-append first rest, opcode.0)

-- where no bytes are left, no instruction is
none_left : (at : ℕ) → (k : ℕ) × Breaks instruction at [] k
unfolding instruction Breaks Spells
none_left at = (at + length {A = ℕ} [], inr (at, [], [], refl, (refl, refl), inl (refl, inl (omega arith))))

-- ---- what is cut is a cut

-- the cut from a place, with so many tries
abbrev cut_at : ℕ → ℕ → List ℕ → Cut
cut_at n at bytes = cut_rest n (record { at = at; left = bytes })

cut_on_is : (n at : ℕ) (bytes : List ℕ) (x : Result (Raw × Rest) ℕ) → ((at : ℕ) (bytes : List ℕ) → length bytes ≤ n
    → IsCutFrom at bytes (cut_at n at bytes).insns (cut_at n at bytes).stop)
    → read instruction (record { at = at; left = bytes }) ≡ x → length bytes ≤ suc n
    → IsCutFrom at bytes (cut_on x at (λ s. cut_rest n s)).insns (cut_on x at (λ s. cut_rest n s)).stop
unfolding IsCutFrom
cut_on_is n at bytes (Ok x) from e few =
    let g = read_ok instruction (record { at = at; left = bytes }) x.0 x.1 e in
    let some : 0 < length g.front = has_bytes at x.0 g.front g.spelt in
    let fewer : length x.1.left ≤ n = omega (arith, ap length g.parts, length-append g.front x.1.left) in
    (g.front, x.1.left, g.parts, g.spelt, rw (← g.place) (from x.1.at x.1.left fewer))
cut_on_is n at bytes (Err k) from e few = (refl, (k, read_err instruction (record { at = at; left = bytes }) k e))

-- from any place, with enough tries
cut_is : (n at : ℕ) (bytes : List ℕ) → length bytes ≤ n → IsCutFrom at bytes (cut_at n at bytes).insns
    (cut_at n at bytes).stop
unfolding IsCutFrom cut_rest
cut_is zero at [] few = (refl, none_left at)
cut_is zero at (b ∷ bytes) few = absurd (omega arith)
cut_is (suc n) at bytes few = cut_on_is n at bytes (read instruction (record { at = at; left = bytes })) (cut_is n) refl
    few

pub is_cut : (code : List ℕ) → IsCut code (cut code)
unfolding cut
is_cut code = cut_is (length code) 0 code (omega arith)

-- ---- a cut is what is cut

abbrev parts : List Raw → ℕ → Cut
parts insns stop = record { insns = insns; stop = stop }

cut_only : (insns : List Raw) (n at : ℕ) (bytes : List ℕ) (stop : ℕ) → length bytes ≤ n → IsCutFrom at bytes insns stop
    → parts insns stop ≡ cut_rest n (record { at = at; left = bytes })
unfolding IsCutFrom cut_rest
cut_only [] zero at bytes stop few (is, (k, breaks)) = ap (parts []) is
cut_only [] (suc n) at bytes stop few (is, (k, breaks)) = rw (broken_reads instruction at bytes k breaks)
    (ap (parts []) is)
cut_only (i ∷ insns) zero at bytes stop few (front, back, parted, spelt, rest) =
    let some : 0 < length front = has_bytes at i front spelt in
    absurd (omega (arith, ap length parted, length-append front back))
cut_only (i ∷ insns) (suc n) at bytes stop few (front, back, parted, spelt, rest) =
    let some : 0 < length front = has_bytes at i front spelt in
    let fewer : length back ≤ n = omega (arith, ap length parted, length-append front back) in
    let h = cut_only insns n (at + length front) back stop fewer rest in
    rw (parted, spelt_reads instruction at i front back spelt) (ap (put_first i) h)

pub is_only_cut : (code : List ℕ) (c : Cut) → IsCut code c → c ≡ cut code
unfolding cut
is_only_cut code c h = cut_only c.insns (length code) 0 code c.stop (omega arith) h
