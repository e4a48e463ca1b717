-- Where the labels of a method stand: labels ascend up to the end of its code, where the next method begins.
use Rattle.std.proofs.Common.{◌≡◌, ℕ, ◌+◌, ◌<◌, ◌≤◌, refl, sym, ap, ◌∙◌, ⊎_elim, arith, Bool, true, false, List, []}
use Rattle.std.proofs.Common.{◌∷◌, length}
use Rattle.std.specs.Prelude.{nat_lt, ◌==◌, ◌||◌}
use Rattle.std.proofs.lemmas.Bool.{cases_lt}
use Rattle.std.proofs.lemmas.Bool.Decides.{nat_tests}
use Rattle.std.proofs.lemmas.Map.Keys.{any_passes_from_place}
use Rattle.cjc_capread.specs.Decode.{Instruction}
use Rattle.cjc_check_rules.specs.Spots.{Placed, begins}
use Rattle.cjc_check_rules.specs.Instructions.{has_start}
use Rattle.cjc_ncode.specs.declared.narrow.NInsn.{NInsn}
use Rattle.cjc_ncode.specs.Lowering.Naming.{Naming}
use Rattle.cjc_ncode.specs.Lowering.Placed.{bytes_before, first, insn_size, offset_of}
use Rattle.cjc_ncode.proofs.LoweringLaws.Places.{at_least_one, before_ascends, before_grows, before_over}
use Rattle.cjc_components.proofs.LayoutLowered.{before_same}
use Rattle.cjc_pool.specs.Emit.Emitted.{CanBeWritten}
use Rattle.cjc_pool.specs.Emit.Emitted as Emitted
use Rattle.cjc_components.specs.Package.{LaidMethod}
use Rattle.cjc_components.specs.Methods.{bytecode_count, method_size, placed_at}
use Rattle.cjc_check_proof.specs.Code.Codes.{code_at, laid_code}
use Rattle.cjc_check_proof.proofs.CodeLaws.Jumps.{item_of}
use Rattle.cjc_bytes.proofs.Numbers.{like_number}

-- no instruction stands behind the end of code
laid_below : (n : Naming) (to : ℕ → ℕ) (at s : ℕ) (insns : List NInsn) (wide : List Bool)
    → at + bytes_before n insns wide (length insns) ≤ s → begins (laid_code n to at insns wide) s ≡ false
laid_below n to at s [] wide le = refl
laid_below n to at s (i ∷ insns) [] le = refl
laid_below n to at s (i ∷ insns) (w ∷ wide) le =
    let some = at_least_one n w i in
    let here : (at == s) ≡ false = grind (arith, nat_tests, le, some) in
    ap (λ b. b || begins (laid_code n to (at + insn_size n w i) insns wide) s) here
    ∙ laid_below n to (at + insn_size n w i) s insns wide (omega (arith, le))

module _ (n : Naming) (at : ℕ) (m : LaidMethod) (can : CanBeWritten n (Emitted.placed_at 0 m.code m.wide)) where
  abbrev pub to : ℕ → ℕ
  to = offset_of n (placed_at at m)

  abbrev pub count : ℕ
  count = length m.code.insns

  abbrev pub end : ℕ
  end = at + method_size m

  -- the label behind the last instruction is the end
  pub last_label : to count ≡ end
  last_label =
      let e : bytes_before n m.code.insns m.wide (length m.code.insns) ≡ bytecode_count m =
      before_same n m.code.insns m.wide can.forms (length m.code.insns) in
      omega (arith, e)

  pub label_high : (k : ℕ) → to k ≤ end
  label_high k = ⊎_elim
      (λ lt. let up = before_grows n m.code.insns m.wide k (length m.code.insns) (omega (arith, lt))
      in let last = last_label in omega (arith, up, last))
      (λ le. let over = before_over n m.code.insns m.wide k can.count le in let last = last_label
      in omega (arith, over, last))
      (cases_lt k (length m.code.insns))

  pub label_low : (k : ℕ) → at ≤ to k
  label_low k = omega arith

  pub label_grows : (a b : ℕ) → a ≤ b → to a ≤ to b
  label_grows a b le = let up = before_grows n m.code.insns m.wide a b le in omega (arith, up)

  pub label_ascends : (a b : ℕ) → a < b → b ≤ count → to a < to b
  label_ascends a b lt le = let up = before_ascends n m.code.insns m.wide can.count a b lt le in omega (arith, up)

  -- labels are in the order of their places
  pub label_order : (a b : ℕ) → a ≤ count → b ≤ count → nat_lt (to a) (to b) ≡ nat_lt a b
  label_order a b la lb = ⊎_elim
      (λ lt. let up = label_ascends a b lt lb in yes up ∙ sym (yes lt))
      (λ le. let down = label_grows b a le in no down ∙ sym (no le))
      (cases_lt a b)
    where
      yes : {x y : ℕ} → x < y → nat_lt x y ≡ true
      yes {x} {y} lt = grind (arith, nat_tests, lt)

      no : {x y : ℕ} → y ≤ x → nat_lt x y ≡ false
      no {x} {y} le = grind (arith, nat_tests, le)

  -- an instruction begins at the offset of its label
  pub start_there : (k : ℕ) → k < count → has_start (code_at n at m) (to k) ≡ true
  start_there k lt =
      let r = item_of n to (first (placed_at at m)) m.code.insns m.wide can.count k lt in
      any_passes_from_place (λ (p : Placed Instruction). p.at == to k) (laid_code n to (first
      (placed_at at m)) m.code.insns m.wide) k
      r.0 r.1 (ap (λ x. x == to k) r.2 ∙ like_number (to k))

  -- none begins behind the method
  pub none_behind : (s : ℕ) → end ≤ s → has_start (code_at n at m) s ≡ false
  none_behind s le =
      let last = last_label in
      laid_below n to (first (placed_at at m)) s m.code.insns m.wide (omega (arith, le, last))
