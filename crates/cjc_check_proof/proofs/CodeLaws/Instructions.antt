-- The instructions of laid code are cut out of its bytes.
use Rattle.std.proofs.Common.{◌≡◌, ℕ, zero, suc, ◌+◌, ◌-◌, ◌<◌, ◌≤◌, refl, sym, ap, subst, ◌∙◌, arith, Bool, List, []}
use Rattle.std.proofs.Common.{◌∷◌, ◌++◌, length, take, drop, append_assoc, length-append, add-zero, Some, Ok}
use Rattle.std.specs.Prelude.{slice_get}
use Rattle.std.proofs.Math.Seq.{take-append_seam, drop-append_seam}
use Rattle.cjc_capread.specs.Decode.{Instruction, decode, size}
use Rattle.cjc_capread.proofs.Decoding.{decode_emitted}
use Rattle.cjc_check_rules.specs.Codes.{instructions, onto, with_instruction}
use Rattle.cjc_ncode.specs.declared.narrow.NInsn.{NInsn}
use Rattle.cjc_ncode.specs.Lowering.Naming.{Naming}
use Rattle.cjc_ncode.specs.Lowering.Laid.{laid}
use Rattle.cjc_ncode.specs.Lowering.Placed.{bytes_before, bytes_of, code_bytes, insn_size, IsSpellable}
use Rattle.cjc_ncode.proofs.LoweringLaws.Places.{at_least_one, size_same}
use Rattle.cjc_ncode.proofs.LoweringLaws.Bytes.{length_spelt, spelt_as}
use Rattle.cjc_check_proof.specs.Code.Codes.{laid_code}

nothing_left : (steps at : ℕ) (bytes : List ℕ) → instructions steps 0 at bytes ≡ Ok []
unfolding instructions
nothing_left zero at bytes = refl
nothing_left (suc n) at bytes = refl

one_more : (steps left at : ℕ) (bytes : List ℕ) (i : Instruction) → 0 < steps → 0 < left → decode (take left bytes)
    ≡ Some i
    → instructions steps left at bytes ≡ onto (record { at = at; item = i }) (instructions (steps - 1) (left - size i)
    (at + size i) (drop (size i) bytes))
unfolding instructions
one_more zero left at bytes i a b e = absurd (omega (arith, a))
one_more (suc n) zero at bytes i a b e = absurd (omega (arith, b))
one_more (suc n) (suc left) at bytes i a b e =
    let less : n ≡ suc n - 1 = omega arith in
    ap (λ o. with_instruction at o (λ j. instructions n (suc left - size j) (at + size j) (drop (size j) bytes))) e
    ∙ ap (λ m. onto (record { at = at; item = i }) (instructions m (suc left - size i) (at + size i)
    (drop (size i) bytes))) less

module _ (n : Naming) (to : ℕ → ℕ) where
  -- bytes can say each instruction where it is laid
  abbrev pub AllSpelt : (at : ℕ) → List NInsn → List Bool → Type 0
  AllSpelt at insns wide = (k : ℕ) (i : NInsn) (w : Bool) → slice_get insns k ≡ Some i → slice_get wide k ≡ Some w
      → IsSpellable (laid n to (at + bytes_before n insns wide k) w i)

  pub next_spelt : (at : ℕ) (i : NInsn) (insns : List NInsn) (w : Bool) (wide : List Bool)
      → AllSpelt at (i ∷ insns) (w ∷ wide) → AllSpelt (at + insn_size n w i) insns wide
  next_spelt at i insns w wide spelt k j v e f =
      let a : at + (insn_size n w i + bytes_before n insns wide k) ≡ at + insn_size n w i + bytes_before n insns wide
      k = omega arith in
      subst (λ x. IsSpellable (laid n to x v j)) a (spelt (suc k) j v e f)

  pub first_spelt : (at : ℕ) (i : NInsn) (insns : List NInsn) (w : Bool) (wide : List Bool)
      → AllSpelt at (i ∷ insns) (w ∷ wide) → IsSpellable (laid n to at w i)
  first_spelt at i insns w wide spelt = subst (λ x. IsSpellable (laid n to x w i)) (add-zero at) (spelt 0 i w refl refl)

  pub code_cut : (steps at : ℕ) (insns : List NInsn) (wide : List Bool) (behind : List ℕ) → length wide ≡ length insns
      → AllSpelt at insns wide → length (code_bytes n to at insns wide) ≤ steps
      → instructions steps (length (code_bytes n to at insns wide)) at (code_bytes n to at insns wide ++ behind)
      ≡ Ok (laid_code n to at insns wide)
  code_cut steps at [] wide behind same spelt le = nothing_left steps at behind
  code_cut steps at (i ∷ insns) [] behind same spelt le = absurd (omega (arith, same))
  code_cut steps at (i ∷ insns) (w ∷ wide) behind same spelt le =
      let here = laid n to at w i in
      let s : IsSpellable here = first_spelt at i insns w wide spelt in
      let next = at + insn_size n w i in
      let front = bytes_of here in
      let tail = code_bytes n to next insns wide in
      let bytes = (front ++ tail) ++ behind in
      let sized : length front ≡ size here = length_spelt here s in
      let same_size : size here ≡ insn_size n w i = size_same n to at w i in
      let some : 0 < insn_size n w i = at_least_one n w i in
      let all : length (front ++ tail) ≡ length front + length tail = length-append front tail in
      let d : decode (take (length (front ++ tail)) bytes) ≡ Some here =
      ap decode (take-append_seam (front ++ tail) behind) ∙ ap (λ x. decode (x ++ tail)) (spelt_as here s)
      ∙ decode_emitted s.form here tail s.writable in
      let left : length (front ++ tail) - size here ≡ length tail = omega (arith, all, sized) in
      let rest : drop (size here) bytes ≡ tail ++ behind =
      ap (λ x. drop x bytes) (sym sized) ∙ ap (drop (length front)) (append_assoc front tail behind)
      ∙ drop-append_seam front (tail ++ behind) in
      one_more steps (length (front ++ tail)) at bytes here (omega (arith, all, sized, same_size, some, le))
      (omega (arith, all, sized, same_size, some)) d
      ∙ ap (λ x. onto (record { at = at; item = here }) (instructions (steps - 1) x (at + size here)
      (drop (size here) bytes))) left
      ∙ ap (λ x. onto (record { at = at; item = here }) (instructions (steps - 1) (length tail) (at + x)
      (drop (size here) bytes))) same_size
      ∙ ap (λ x. onto (record { at = at; item = here }) (instructions (steps - 1) (length tail) next x)) rest
      ∙ ap (onto (record { at = at; item = here }))
      (code_cut (steps - 1) next insns wide behind (omega (arith, same)) (next_spelt at i insns w wide spelt)
      (omega (arith, all, sized, same_size, some, le)))
