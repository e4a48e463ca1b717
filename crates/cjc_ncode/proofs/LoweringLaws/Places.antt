-- How many bytes stand before a label.
use Rattle.std.proofs.Common.{◌≡◌, ℕ, zero, suc, ◌+◌, ◌<◌, ◌≤◌, refl, ap, ◌∙◌, arith, Bool, List, [], ◌∷◌, length, ℤ}
use Rattle.std.proofs.Common.{pos}
use Rattle.std.specs.Prelude.{Option, Some, None, slice_get}
use Rattle.cjc_card_semantics.specs.CapRead.Opcodes.{Form, Fields, Table, Lookup, form}
use Rattle.cjc_card_semantics.specs.CapRead.Decode.{Instruction, size, size_by}
use Rattle.cjc_card_semantics.specs.Bytecode.Meanings.{Meaning, Plain, Branches, Ranged, Paired, Touches, Uses}
use Rattle.cjc_card_semantics.specs.Bytecode.Meanings.{CallsInterface, MakesNumbers, Casts, Asks, Nothing, meaning}
use Rattle.cjc_ncode.specs.declared.narrow.NCase.{NCase}
use Rattle.cjc_ncode.specs.declared.narrow.NInsn.{NInsn}
use Rattle.cjc_ncode.specs.declared.narrow.NInsn.TheVariants as insns
use Rattle.cjc_ncode.specs.Lowering.Naming.{Naming}
use Rattle.cjc_ncode.specs.Lowering.Laid.{laid, switch_as}
use Rattle.cjc_ncode.specs.Lowering.Placed.{insn_size, bytes_before}
use Rattle.cjc_code.proofs.BytesGets.{get_inside}

-- ---- sizes

some_byte : (o : Option Form) (i : Instruction) → 0 < size_by o i
some_byte None i = omega arith
some_byte (Some f) i = omega arith

pub at_least_one : (n : Naming) (w : Bool) (i : NInsn) → 0 < insn_size n w i
at_least_one n w i = some_byte _ (laid n (λ label. 0) 0 w i)

module _ (n : Naming) (to : ℕ → ℕ) (at : ℕ) where
  table_size : (o : Option Form) (op : ℕ) (x y low high : ℤ) (xs ys : List ℤ)
      → size_by o (record { opcode = op; operands = x ∷ low ∷ high ∷ []; table = xs })
      ≡ size_by o (record { opcode = op; operands = y ∷ low ∷ high ∷ []; table = ys })
  table_size None op x y low high xs ys = refl
  table_size (Some (Fields kinds)) op x y low high xs ys = refl
  table_size (Some (Table kind)) op x y low high xs ys = refl
  table_size (Some (Lookup kind)) op x y low high xs ys = refl

  pairs_size : (o : Option Form) (op count : ℕ) (x y : ℤ) (xs ys : List ℤ)
      → size_by o (record { opcode = op; operands = x ∷ pos count ∷ []; table = xs }) ≡ size_by o (record {
        opcode = op;
        operands = y ∷ pos count ∷ [];
        table = ys;
      })
  pairs_size None op count x y xs ys = refl
  pairs_size (Some (Fields kinds)) op count x y xs ys = refl
  pairs_size (Some (Table kind)) op count x y xs ys = refl
  pairs_size (Some (Lookup kind)) op count x y xs ys = refl

  plain_size : (o : Option Form) (op : ℕ) (x y : ℤ) → size_by o (record { opcode = op; operands = x ∷ []; table = [] })
      ≡ size_by o (record { opcode = op; operands = y ∷ []; table = [] })
  plain_size None op x y = refl
  plain_size (Some (Fields kinds)) op x y = refl
  plain_size (Some (Table kind)) op x y = refl
  plain_size (Some (Lookup kind)) op x y = refl

  switch_size : (m : Meaning) (op other : ℕ) (low : ℤ) (cases : List NCase)
      → size (switch_as n to m at op other low cases) ≡ size (switch_as n (λ label. 0) m 0 op other low cases)
  switch_size (Plain calculation) op other low cases = pairs_size (form op) op (length cases) _ _ _ _
  switch_size (Branches test) op other low cases = pairs_size (form op) op (length cases) _ _ _ _
  switch_size (Ranged is_int) op other low cases = table_size (form op) op _ _ low _ _ _
  switch_size (Paired is_int) op other low cases = pairs_size (form op) op (length cases) _ _ _ _
  switch_size (Touches access) op other low cases = pairs_size (form op) op (length cases) _ _ _ _
  switch_size (Uses how) op other low cases = pairs_size (form op) op (length cases) _ _ _ _
  switch_size CallsInterface op other low cases = pairs_size (form op) op (length cases) _ _ _ _
  switch_size MakesNumbers op other low cases = pairs_size (form op) op (length cases) _ _ _ _
  switch_size Casts op other low cases = pairs_size (form op) op (length cases) _ _ _ _
  switch_size Asks op other low cases = pairs_size (form op) op (length cases) _ _ _ _
  switch_size Nothing op other low cases = pairs_size (form op) op (length cases) _ _ _ _

  -- no place changes a size
  pub size_same : (w : Bool) (i : NInsn) → size (laid n to at w i) ≡ insn_size n w i
  size_same w (insns.Op op) = refl
  size_same w (insns.Push op value) = refl
  size_same w (insns.Local op index) = refl
  size_same w (insns.Inc op index by) = refl
  size_same w (insns.Words op high low) = refl
  size_same w (insns.Jump op target) = plain_size _ _ _ _
  size_same w (insns.Switch op other low cases) = switch_size (meaning op) op other low cases
  size_same w (insns.Named op key) = refl
  size_same w (insns.Interface nargs m) = refl
  size_same w (insns.NewArray kind) = refl
  size_same w (insns.TypeTest op kind class) = refl

-- ---- labels

pub before_next : (n : Naming) (insns : List NInsn) (wide : List Bool) (k : ℕ) (i : NInsn) (w : Bool)
    → slice_get insns k ≡ Some i → slice_get wide k ≡ Some w → bytes_before n insns wide (suc k)
    ≡ bytes_before n insns wide k + insn_size n w i
before_next n [] wide k i w e f = cc
before_next n (j ∷ insns) [] k i w e f = cc
before_next n (j ∷ insns) (v ∷ wide) zero i w e f =
    let a : j ≡ i = cc in let b : v ≡ w = cc in
    let s : insn_size n v j ≡ insn_size n w i = ap (λ x. insn_size n x j) b ∙ ap (insn_size n w) a in omega arith
before_next n (j ∷ insns) (v ∷ wide) (suc k) i w e f = let r = before_next n insns wide k i w e f in omega arith

pub before_grows : (n : Naming) (insns : List NInsn) (wide : List Bool) (a b : ℕ) → a ≤ b
    → bytes_before n insns wide a ≤ bytes_before n insns wide b
before_grows n insns wide zero b h = omega arith
before_grows n insns wide (suc a) zero h = absurd (omega arith)
before_grows n [] wide (suc a) (suc b) h = omega arith
before_grows n (i ∷ insns) [] (suc a) (suc b) h = omega arith
before_grows n (i ∷ insns) (w ∷ wide) (suc a) (suc b) h = let r = before_grows n insns wide a b (omega arith)
    in omega arith

pub before_ascends : (n : Naming) (insns : List NInsn) (wide : List Bool) → length wide ≡ length insns → (a b : ℕ)
    → a < b → b ≤ length insns → bytes_before n insns wide a < bytes_before n insns wide b
before_ascends n insns wide same a b lt le =
    let i = get_inside insns a (omega arith) in
    let w = get_inside wide a (omega arith) in
    let next = before_next n insns wide a i.0 w.0 i.1 w.1 in
    let some = at_least_one n w.0 i.0 in
    let up = before_grows n insns wide (suc a) b (omega arith) in
    omega arith

-- behind the code nothing more stands
pub before_over : (n : Naming) (insns : List NInsn) (wide : List Bool) (k : ℕ) → length wide ≡ length insns
    → length insns ≤ k → bytes_before n insns wide k ≡ bytes_before n insns wide (length insns)
before_over n [] wide zero same le = refl
before_over n [] wide (suc k) same le = refl
before_over n (i ∷ insns) [] k same le = absurd (omega arith)
before_over n (i ∷ insns) (w ∷ wide) zero same le = absurd (omega arith)
before_over n (i ∷ insns) (w ∷ wide) (suc k) same le = ap (λ x. insn_size n w i + x) (before_over n insns wide k
    (omega arith) (omega arith))
