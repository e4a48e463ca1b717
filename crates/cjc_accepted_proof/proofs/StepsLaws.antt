-- The decoded instructions of a method of Method are those that are laid, label by label.
use Rattle.std.proofs.Common.{◌≡◌, ℕ, zero, suc, ◌+◌, refl, sym, ap, ◌∙◌, arith, Bool, false, List, [], ◌∷◌, length}
use Rattle.std.proofs.Common.{map}
use Rattle.std.specs.Prelude.{get_or}
use Rattle.cjc_check_proof.specs.Code.Codes.{laid_code}
use Rattle.cjc_check_proof.specs.NCode.Lowering.Laid.{laid}
use Rattle.cjc_check_proof.specs.NCode.Lowering.Naming.{Naming}
use Rattle.cjc_check_proof.specs.NCode.Lowering.Placed.{bytes_before, first, insn_size}
use Rattle.cjc_check_proof.specs.NCode.declared.narrow.NInsn.{NInsn}
use Rattle.cjc_verify.specs.Bodies.{step}
use Rattle.cjc_verify.specs.CardActs.CardTypes.{ValueType}
use Rattle.cjc_verify.specs.Components.Methods.{placed_at}
use Rattle.cjc_verify.specs.Components.Names.{names}
use Rattle.cjc_verify.specs.Components.Package.{LaidMethod, Package}
use Rattle.cjc_verify.specs.Pairs.{Pair}
use Rattle.cjc_frames.specs.declared.acts.Step.{Step}
use Rattle.cjc_accepted_proof.specs.Coded.{label_at, step_laid, step_of}
use Rattle.cjc_accepted_proof.specs.Methods.{steps_from}
use Rattle.cjc_accepted_proof.specs.Plain.{act_laid}
use Rattle.cjc_accepted_proof.specs.Written.{written_pair}

none_before : (n : Naming) (insns : List NInsn) (wide : List Bool) → bytes_before n insns wide 0 ≡ 0
none_before n [] wide = refl
none_before n (i ∷ insns) [] = refl
none_before n (i ∷ insns) (w ∷ wide) = refl

module _ (q : Pair) (result : ValueType) (n : Naming) (to : ℕ → ℕ) (wide_at : ℕ → Bool) where
  -- from a label on
  laid_steps : (k : ℕ) (insns : List NInsn) (wide : List Bool) → length wide ≡ length insns → ((j : ℕ) → get_or wide j
      false ≡ wide_at (k + j)) → ((j : ℕ) → to (k + j) ≡ to k + bytes_before n insns wide j)
      → map (step q result) (laid_code n to (to k) insns wide) ≡ steps_from (step_laid q result n to wide_at) k insns
  laid_steps k [] wide long ws ts = refl
  laid_steps k (i ∷ insns) [] long ws ts = absurd (omega (arith, long))
  laid_steps k (i ∷ insns) (w ∷ wide) long ws ts =
      let none : k + 0 ≡ k = omega arith in
      let here : w ≡ wide_at k = ws 0 ∙ ap wide_at none in
      let nothing = none_before n insns wide in
      let first_step : k + suc zero ≡ k + 1 = omega arith in
      let one = sym (ap to first_step) ∙ ts (suc zero) in
      let next : to k + insn_size n w i ≡ to (k + 1) = omega (arith, one, nothing) in
      let head : step q result (record { at = to k; item = laid n to (to k) w i }) ≡ step_laid q result n to wide_at k
      i = ap (λ (v : Bool). record { at = to k; act = act_laid q result n to (to k) v i }) here in
      let rest = laid_steps (k + 1) insns wide (omega (arith, long))
      (λ j. (let same : k + suc j ≡ k + 1 + j = omega arith in ws (suc j) ∙ ap wide_at same))
      (λ j. (
      let same : k + 1 + j ≡ k + suc j = omega arith in
      let there = ts (suc j) in
      let sum : to k + (insn_size n w i + bytes_before n insns wide j) ≡ to (k + 1) + bytes_before n insns wide j =
      omega (arith, next) in
      ap to same ∙ there ∙ sum
      )) in
      ap (λ (s : Step). s ∷ map (step q result) (laid_code n to (to k + insn_size n w i) insns wide)) head
      ∙ ap (λ at. step_laid q result n to wide_at k i ∷ map (step q result) (laid_code n to at insns wide)) next
      ∙ ap (λ ss. step_laid q result n to wide_at k i ∷ ss) rest

-- of a whole method
pub steps_are_laid : (p : Package) (result : ValueType) (offset : ℕ) (m : LaidMethod)
    → length m.wide ≡ (let code = m.code in length code.insns)
    → map (step (written_pair p) result) (let code = m.code in laid_code (names p) (label_at p offset m) (first
    (placed_at offset m)) code.insns m.wide)
    ≡ steps_from (step_of p result offset m) 0 (let code = m.code in code.insns)
steps_are_laid p result offset m long =
    let code = m.code in
    let n = names p in
    let to = label_at p offset m in
    let nothing = none_before n code.insns m.wide in
    let begins : first (placed_at offset m) ≡ to 0 = omega (arith, nothing) in
    ap (λ at. map (step (written_pair p) result) (laid_code n to at code.insns m.wide)) begins
    ∙ laid_steps (written_pair p) result n to (λ k. get_or m.wide k false) 0 code.insns m.wide long
    (λ j. (let same : j ≡ 0 + j = omega arith in ap (λ k. get_or m.wide k false) same))
    (λ j. (
    let same : 0 + j ≡ j = omega arith in
    let sum : first (placed_at offset m) + bytes_before n code.insns m.wide j ≡ to 0 + bytes_before n code.insns m.wide
    j = omega (arith, begins) in
    ap to same ∙ sum
    ))
