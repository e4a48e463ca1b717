-- Bytes at one offset and at another.
use Rattle.std.proofs.Common.{◌≡◌, ℕ, suc, ◌+◌, ◌-◌, refl, sym, ap, subst, ◌∙◌, ⊎_elim, arith, Bool}
use Rattle.std.proofs.Common.{true, false, List, [], ◌∷◌, ◌++◌, length, ℤ, pos, negsuc}
use Rattle.std.specs.Prelude.{nat_le, nat_lt, if◌then◌else◌, ◌+ℤ◌, ◌-ℤ◌, ◌&&◌}
use Rattle.std.proofs.lemmas.Bool.{cases_lt}
use Rattle.std.proofs.lemmas.Bool.Decides.{nat_tests}
use Rattle.cjc_layout.specs.CardSemantics.Bytecode.Meanings.{Meaning, Ranged, meaning}
use Rattle.cjc_layout.specs.CapRead.Decode.{Instruction}
use Rattle.cjc_ncode.proofs.CapReadHeaders.{short_read}
use Rattle.cjc_ncode.specs.declared.narrow.NCase.{NCase}
use Rattle.cjc_ncode.specs.declared.narrow.NInsn.{NInsn}
use Rattle.cjc_ncode.specs.declared.narrow.NInsn.TheVariants as insns
use Rattle.cjc_ncode.specs.declared.narrow.NMethod.{NMethod}
use Rattle.cjc_ncode.specs.Lowering.Naming.{Naming}
use Rattle.cjc_ncode.specs.Lowering.Laid.{distance, laid, matches, offsets, switch_as, untabled, wide_jump}
use Rattle.cjc_ncode.specs.Lowering.Placed.{bytes_before, bytes_of, code_bytes, extended_header, insn_size, IsHeader}
use Rattle.cjc_ncode.specs.Lowering.Placed.{method_bytes, offset_of, short_header}
use Rattle.cjc_emit.specs.Emitted.{emitted_bytes, header_bytes, is_short, placed_at}
use Rattle.cjc_ncode.proofs.BytesBools.{and_true}
use Rattle.cjc_ncode.proofs.BytesNumbers.{number_below}

pub distance_shift : (b x y : ℕ) → distance (b + x) (b + y) ≡ distance x y
distance_shift b x y = ⊎_elim
    (λ lt. let e : nat_le (b + x) (b + y) ≡ false = grind (arith, nat_tests) in let f : nat_le x y
    ≡ false = grind (arith, nat_tests) in
    let g : b + x - suc (b + y) ≡ x - suc y = omega arith in
    ap (λ t. if t then pos (b + y - (b + x)) else negsuc (b + x - suc (b + y))) e ∙ ap (λ n. negsuc n) g
    ∙ ap (λ t. if t then pos (y - x) else negsuc (x - suc y)) (sym f))
    (λ le. let e : nat_le (b + x) (b + y) ≡ true = grind (arith, nat_tests) in let f : nat_le x y ≡ true = grind (
      arith,
      nat_tests,
    ) in
    let g : b + y - (b + x) ≡ y - x = omega arith in
    ap (λ t. if t then pos (b + y - (b + x)) else negsuc (b + x - suc (b + y))) e ∙ ap (λ n. pos n) g
    ∙ ap (λ t. if t then pos (y - x) else negsuc (x - suc y)) (sym f))
    (cases_lt y x)

module _ (n : Naming) (b : ℕ) (to : ℕ → ℕ) where
  abbrev far : ℕ → ℕ
  far k = b + to k

  matches_shift : (at : ℕ) (cases : List NCase) → matches n far (b + at) cases ≡ matches n to at cases
  matches_shift at [] = refl
  matches_shift at (c ∷ cases) = ap (λ z. c.value ∷ z ∷ matches n far (b + at) cases)
      (distance_shift b at (to c.target)) ∙ ap (λ zs. c.value ∷ distance at (to c.target) ∷ zs) (matches_shift at cases)

  offsets_shift : (at : ℕ) (cases : List NCase) → offsets n far (b + at) cases ≡ offsets n to at cases
  offsets_shift at [] = refl
  offsets_shift at (c ∷ cases) = ap (λ z. z ∷ offsets n far (b + at) cases) (distance_shift b at (to c.target))
      ∙ ap (λ zs. distance at (to c.target) ∷ zs) (offsets_shift at cases)

  looked_up : (at op other : ℕ) (cases : List NCase) → let i : Instruction = record {
    opcode = op;
    operands = distance (b + at) (far other) ∷ pos (length cases) ∷ [];
    table = matches n far (b + at) cases;
  }
      in i ≡ record {
        opcode = op;
        operands = distance at (to other) ∷ pos (length cases) ∷ [];
        table = matches n to at cases;
      }
  looked_up at op other cases =
      ap (λ z. let i : Instruction = record {
        opcode = op;
        operands = z ∷ pos (length cases) ∷ [];
        table = matches n far (b + at) cases;
      } in i) (distance_shift b at (to other))
      ∙ ap (λ zs. let i : Instruction = record {
        opcode = op;
        operands = distance at (to other) ∷ pos (length cases)
            ∷ [];
        table = zs;
      } in i) (matches_shift at cases)

  switch_shift : (m : Meaning) (at op other : ℕ) (low : ℤ) (cases : List NCase)
      → switch_as n far m (b + at) op other low cases ≡ switch_as n to m at op other low cases
  switch_shift (Ranged is_int) at op other low cases =
      let high = (low +ℤ pos (length cases)) -ℤ pos 1 in
      ap (λ z. let i : Instruction = record {
        opcode = op;
        operands = z ∷ low ∷ high ∷ [];
        table = offsets n far (b + at) cases;
      } in i) (distance_shift b at (to other))
      ∙ ap (λ zs. let i : Instruction = record {
        opcode = op;
        operands = distance at (to other) ∷ low ∷ high ∷ [];
        table = zs;
      } in i) (offsets_shift at cases)
  switch_shift m at op other low cases = looked_up at op other cases

  pub laid_shift : (at : ℕ) (w : Bool) (i : NInsn) → laid n far (b + at) w i ≡ laid n to at w i
  laid_shift at w (insns.Op op) = refl
  laid_shift at w (insns.Push op value) = refl
  laid_shift at w (insns.Local op index) = refl
  laid_shift at w (insns.Inc op index by) = refl
  laid_shift at w (insns.Words op high low) = refl
  laid_shift at w (insns.Jump op target) = ap (λ z. untabled (if w then wide_jump op else op) (z ∷ []))
      (distance_shift b at (to target))
  laid_shift at w (insns.Switch op other low cases) = switch_shift (meaning op) at op other low cases
  laid_shift at w (insns.Named op key) = refl
  laid_shift at w (insns.Interface nargs m) = refl
  laid_shift at w (insns.NewArray kind) = refl
  laid_shift at w (insns.TypeTest op kind class) = refl

  pub code_shift : (at : ℕ) (insns : List NInsn) (wide : List Bool) → code_bytes n far (b + at) insns wide
      ≡ code_bytes n to at insns wide
  code_shift at [] wide = refl
  code_shift at (i ∷ insns) [] = refl
  code_shift at (i ∷ insns) (w ∷ wide) =
      let e : b + at + insn_size n w i ≡ b + (at + insn_size n w i) = omega arith in
      ap (λ x. bytes_of x ++ code_bytes n far (b + at + insn_size n w i) insns wide) (laid_shift at w i)
      ∙ (ap (λ k. bytes_of (laid n to at w i) ++ code_bytes n far k insns wide) e
      ∙ ap (λ xs. bytes_of (laid n to at w i) ++ xs) (code_shift (at + insn_size n w i) insns wide))

-- where labels stand at equal places
same_code : (n : Naming) (f g : ℕ → ℕ) → ((k : ℕ) → f k ≡ g k) → (at : ℕ) (insns : List NInsn) (wide : List Bool)
    → code_bytes n f at insns wide ≡ code_bytes n g at insns wide
same_code n f g same at insns wide = ap (λ to. code_bytes n to at insns wide) (λ i k. same k i)

pub bytes_anywhere : (n : Naming) (offset : ℕ) (m : NMethod) (wide : List Bool)
    → method_bytes n (placed_at offset m wide) ≡ emitted_bytes n m wide
bytes_anywhere n offset m wide =
    let header = header_bytes m in
    let near : ℕ → ℕ = λ k. 0 + length header + bytes_before n m.insns wide k in
    let label : (k : ℕ) → offset + length header + bytes_before n m.insns wide k
    ≡ offset + (0 + length header + bytes_before n m.insns wide k) = λ k. omega arith in
    let head : offset + length header ≡ offset + (0 + length header) = omega arith in
    ap (λ xs. header ++ xs) (
    same_code n (offset_of n (placed_at offset m wide)) (λ k. offset + near k) label (offset + length header) m.insns
    wide
    ∙ (ap (λ at. code_bytes n (λ k. offset + near k) at m.insns wide) head
    ∙ code_shift n offset near (0 + length header) m.insns wide))

-- ---- headers

pub header_read : (m : NMethod) → IsHeader false m (header_bytes m)
header_read m = by (is_short m) refl
  where
    by : (b : Bool) → is_short m ≡ b → IsHeader false m (header_bytes m)
    by true e =
        let p = and_true (nat_lt m.max_stack 16) (nat_lt m.nargs 16 && nat_lt m.max_locals 16) e in
        let q = and_true (nat_lt m.nargs 16) (nat_lt m.max_locals 16) p.1 in
        subst (λ b. IsHeader false m (if b then short_header m else extended_header m)) (sym e)
        (λ behind. short_read m.max_stack m.nargs m.max_locals behind (number_below m.max_stack 16 p.0)
        (number_below m.nargs 16 q.0)
        (number_below m.max_locals 16 q.1))
    by false e = subst (λ b. IsHeader false m (if b then short_header m else extended_header m)) (sym e)
        (λ behind. refl)
