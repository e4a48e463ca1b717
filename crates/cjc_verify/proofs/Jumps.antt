-- Where instructions may jump.
use Rattle.std.proofs.Common.{◌≡◌, ℕ, ◌-◌, ◌<◌, ◌≤◌, Bool, true, false, List, [], ◌∷◌, ◌++◌, length, drop, map, refl}
use Rattle.std.proofs.Common.{sym}
use Rattle.std.proofs.Common.{ap, ◌∙◌, append_assoc, append-nil, arith, Option, Some, None, ℤ}
use Rattle.std.specs.Prelude.{if◌then◌else◌}
use Rattle.cjc_capread.specs.Decode.{Instruction, operand}
use Rattle.cjc_capread.specs.Decoder.Decoded.{numbers}
use Rattle.cjc_capread.specs.Decoder.Shapes.{entry_size, form_of, matches_in}
use Rattle.cjc_capread.specs.Opcodes.{Form, Signed2, form}
use Rattle.cjc_capread.specs.declared.decoder.shape.Shape.{Shape}
use Rattle.cjc_capread.specs.declared.decoder.shape.Shape.TheVariants as shapes
use Rattle.cjc_capread.specs.declared.decoder.table.Matches.{Matches}
use Rattle.cjc_card_acts.specs.CardSemantics.Machine.Operations.{moved}
use Rattle.cjc_methods.specs.LowerCheck.Jumps.Offsets.{is_switch, offsets_in}
use Rattle.cjc_methods.proofs.CheckLands.{offset_more, offset_none}
use Rattle.cjc_check_rules.specs.Instructions.{default_of, is_jump, jumps, switch_offsets}

-- ---- tables

-- one entry more
pub target_more : (before more all : List ℕ) (at size : ℕ) (m : Matches) (bs r : List ℕ) (far : ℤ) → size ≡ entry_size m
    → size ≤ length bs → operand Signed2 (drop (size - 2) bs) ≡ Some (record { value = far; rest = r })
    → before ++ map (moved at) (offsets_in m (numbers m bs)) ≡ all → more ≡ before ++ moved at far ∷ []
    → more ++ map (moved at) (offsets_in m (numbers m (drop size bs))) ≡ all
target_more before more all at size m bs r far sized le e so_far put =
    let n = entry_size m in
    let e2 : operand Signed2 (drop (n - 2) bs) ≡ Some (record { value = far; rest = r }) =
    ap (λ k. operand Signed2 (drop (k - 2) bs)) (sym sized) ∙ e in
    let left = map (moved at) (offsets_in m (numbers m (drop n bs))) in
    ap (λ (xs : List ℕ). xs ++ map (moved at) (offsets_in m (numbers m (drop size bs)))) put
    ∙ ap (λ k. (before ++ moved at far ∷ []) ++ map (moved at) (offsets_in m (numbers m (drop k bs)))) sized
    ∙ append_assoc before (moved at far ∷ []) left
    ∙ sym (ap (λ (zs : List ℤ). before ++ map (moved at) zs) (offset_more m bs r far (omega (arith, le, sized)) e2))
    ∙ so_far

-- no entry is left
pub no_target_left : (before all : List ℕ) (at size : ℕ) (m : Matches) (bs : List ℕ) → size ≡ entry_size m
    → length bs < size → before ++ map (moved at) (offsets_in m (numbers m bs)) ≡ all → before ≡ all
no_target_left before all at size m bs sized lt so_far =
    sym (append-nil before)
    ∙ sym (ap (λ (zs : List ℤ). before ++ map (moved at) zs) (offset_none m bs (omega (arith, lt, sized))))
    ∙ so_far

-- ---- instructions

map_append : (at : ℕ) (xs ys : List ℤ) → map (moved at) (xs ++ ys) ≡ map (moved at) xs ++ map (moved at) ys
map_append at [] ys = refl
map_append at (x ∷ xs) ys = ap (λ (ns : List ℕ). moved at x ∷ ns) (map_append at xs ys)

of_switch : (s : Shape) (i : Instruction) (m : Matches) → is_switch s ≡ true → m ≡ matches_in s
    → switch_offsets (form_of s) i ≡ default_of i.operands ++ offsets_in m i.table
of_switch shapes.ShortTable i m is e = rw e refl
of_switch shapes.IntTable i m is e = rw e refl
of_switch shapes.ShortPairs i m is e = rw e refl
of_switch shapes.IntPairs i m is e = rw e refl
of_switch shapes.NoOp i m is e = absurd cc
of_switch shapes.Bare i m is e = absurd cc
of_switch shapes.Byte i m is e = absurd cc
of_switch shapes.Signed1 i m is e = absurd cc
of_switch shapes.Signed2 i m is e = absurd cc
of_switch shapes.Signed4 i m is e = absurd cc
of_switch shapes.Increment1 i m is e = absurd cc
of_switch shapes.Increment2 i m is e = absurd cc
of_switch shapes.Index1 i m is e = absurd cc
of_switch shapes.Index2 i m is e = absurd cc
of_switch shapes.Typed i m is e = absurd cc
of_switch shapes.Call i m is e = absurd cc

of_others : (s : Shape) (i : Instruction) → is_switch s ≡ false → switch_offsets (form_of s) i ≡ []
of_others shapes.ShortTable i is = absurd cc
of_others shapes.IntTable i is = absurd cc
of_others shapes.ShortPairs i is = absurd cc
of_others shapes.IntPairs i is = absurd cc
of_others shapes.NoOp i is = refl
of_others shapes.Bare i is = refl
of_others shapes.Byte i is = refl
of_others shapes.Signed1 i is = refl
of_others shapes.Signed2 i is = refl
of_others shapes.Signed4 i is = refl
of_others shapes.Increment1 i is = refl
of_others shapes.Increment2 i is = refl
of_others shapes.Index1 i is = refl
of_others shapes.Index2 i is = refl
of_others shapes.Typed i is = refl
of_others shapes.Call i is = refl

by_form : (s : Shape) (i : Instruction) → is_jump i.opcode ≡ false → form_of s ≡ form i.opcode
    → jumps i ≡ switch_offsets (form_of s) i
by_form s i jump shape =
    ap (λ b. if b then i.operands else switch_offsets (form i.opcode) i) jump
    ∙ ap (λ (o : Option Form). switch_offsets o i) (sym shape)

-- a jump
pub jump_targets : (old new : List ℕ) (at : ℕ) (i : Instruction) → is_jump i.opcode ≡ true
    → new ≡ old ++ map (moved at) i.operands → new ≡ old ++ map (moved at) (jumps i)
jump_targets old new at i jump put =
    put
    ∙ sym (ap (λ b. old ++ map (moved at) (if b then i.operands else switch_offsets (form i.opcode) i)) jump)

-- a switch
pub switch_targets : (old some new : List ℕ) (at : ℕ) (s : Shape) (i : Instruction) (m : Matches)
    → is_jump i.opcode ≡ false → is_switch s ≡ true → form_of s ≡ form i.opcode → m ≡ matches_in s
    → some ≡ old ++ map (moved at) (default_of i.operands) → new ≡ some ++ map (moved at) (offsets_in m i.table)
    → new ≡ old ++ map (moved at) (jumps i)
switch_targets old some new at s i m jump is shape matches default put =
    put
    ∙ ap (λ (xs : List ℕ). xs ++ map (moved at) (offsets_in m i.table)) default
    ∙ append_assoc old (map (moved at) (default_of i.operands)) (map (moved at) (offsets_in m i.table))
    ∙ sym (ap (λ (xs : List ℕ). old ++ xs) (map_append at (default_of i.operands) (offsets_in m i.table)))
    ∙ sym (ap (λ (zs : List ℤ). old ++ map (moved at) zs) (by_form s i jump shape ∙ of_switch s i m is matches))

-- another instruction
pub no_targets : (old : List ℕ) (at : ℕ) (s : Shape) (i : Instruction) → is_jump i.opcode ≡ false
    → is_switch s ≡ false → form_of s ≡ form i.opcode → old ≡ old ++ map (moved at) (jumps i)
no_targets old at s i jump is shape =
    sym (append-nil old)
    ∙ sym (ap (λ (zs : List ℤ). old ++ map (moved at) zs) (by_form s i jump shape ∙ of_others s i is))
