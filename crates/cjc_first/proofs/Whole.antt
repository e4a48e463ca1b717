-- What is written for a method of the form is whole instructions, of which none jumps and none names the constant pool.
use Rattle.std.proofs.Common.{◌≡◌, ℕ, zero, suc, ◌+◌, ◌<◌, refl, sym, ap, subst, ◌∙◌, arith, Bool, true, false, List, [], ◌∷◌, ◌++◌, length, take, ℤ, pos, negsuc, length-append}
use Rattle.std.specs.Prelude.{◌≤ℤ◌, Option, Some, None, nat_lt, ◌&&◌, if◌then◌else◌, flat_map, option_map}
use Rattle.std.specs.List.{list_all, last_or}
use Rattle.std.specs.Int.{w8, w16, cast_unsigned, to_be_bytes}
use Rattle.std.proofs.lemmas.Bool.{ltb-true}
use Rattle.std.proofs.lemmas.Int.{ints}
use Rattle.cjc_capread.specs.Opcodes.{forms, form, op_info}
use Rattle.cjc_code.specs.declared.insn.JOp.{JOp}
use Rattle.cjc_code.specs.declared.insn.JOp.TheVariants as jop
use Rattle.cjc_first.specs.Sentences.Instructions.{Instruction, operands_behind, if_there, begun_with, instructions_behind, instructions, jumps, indices, ends_code}
use Rattle.cjc_first.specs.FirstForm.{is_push, is_iadd, is_i2s, is_ireturn, is_rest, is_sum}
use Rattle.cjc_first.specs.Selected.{sconst, lies_in, low_word, constant, load, selected, selected_code}
use Rattle.cjc_first.proofs.Codes.{and_true, lies_true}
use Rattle.cjc_first.proofs.Lists.{le_test}
use Rattle.cjc_first.proofs.Steps.{i2s_selected, iadd_selected, ireturn_selected}

-- ---- one instruction

-- the bytes of operands are those of the instruction before
skipped : (operands : List ℕ) (at : ℕ) (rest : List ℕ) → instructions_behind (length operands) at (operands ++ rest) ≡ instructions (at + length operands) rest
skipped [] at rest = let e : at ≡ at + 0 = omega arith in ap (λ a. instructions_behind 0 a rest) e
skipped (b ∷ operands) at rest =
    let e : at + 1 + length operands ≡ at + suc (length operands) = omega arith in
    skipped operands (at + 1) rest ∙ ap (λ a. instructions_behind 0 a rest) e

-- an opcode with so many bytes of operands, which neither jumps nor has an index
record IsPlain (op size : ℕ) : Type 0 where
  takes : (bytes : List ℕ) → operands_behind op bytes ≡ if_there size bytes
  no_jumps : (at : ℕ) (operands : List ℕ) → jumps (record { at = at; opcode = op; operands = operands }) ≡ []
  no_indices : (at : ℕ) (operands : List ℕ) → indices (record { at = at; opcode = op; operands = operands }) ≡ []

-- instructions of which none jumps and none has an index
pub data AreQuiet : List Instruction → Type 0 where
  none : AreQuiet []
  more : {i : Instruction} {is : List Instruction} → jumps i ≡ [] → indices i ≡ [] → AreQuiet is → AreQuiet (i ∷ is)

-- the bytes from an offset on are such instructions, the last of which ends the code
pub record Whole (at : ℕ) (bytes : List ℕ) : Type 0 where
  pub is : List Instruction
  pub are : instructions at bytes ≡ Some is
  pub quiet : AreQuiet is
  pub last : (o : Option Instruction) → (i : Instruction) × (last_or o is ≡ Some i) × (ends_code i.opcode ≡ true)

-- bytes that can stand before such instructions
abbrev Adds : List ℕ → Type 0
Adds bytes = (at : ℕ) (rest : List ℕ) → Whole (at + length bytes) rest → Whole at (bytes ++ rest)

adds : (op : ℕ) (operands : List ℕ) → IsPlain op (length operands) → Adds (op ∷ operands)
adds op operands plain at rest w =
    let n = length operands in
    let bytes = operands ++ rest in
    let i : Instruction = record { at = at; opcode = op; operands = take n bytes } in
    let there : operands_behind op bytes ≡ Some n = plain.takes bytes ∙ ap (λ t. if t then Some n else None) (le_test n (length bytes) (omega (arith, length-append operands rest))) in
    let place : at + 1 + n ≡ at + suc n = omega arith in
    record {
      is = i ∷ w.is;
      are =
          ap (λ o. begun_with at op bytes o (λ m. instructions_behind m (at + 1) bytes)) there
          ∙ ap (option_map (λ is. i ∷ is)) (skipped operands (at + 1) rest ∙ ap (λ a. instructions a rest) place ∙ w.are);
      quiet = more (plain.no_jumps at (take n bytes)) (plain.no_indices at (take n bytes)) w.quiet;
      last = λ o. w.last (Some i);
    }

-- ---- the opcodes of the form

sconst_plain : (z : ℤ) → negsuc 0 ≤ℤ z → z ≤ℤ pos 5 → IsPlain (sconst z) 0
unfolding forms form op_info
sconst_plain (pos zero) a b = record { takes = λ bytes. refl; no_jumps = λ at operands. refl; no_indices = λ at operands. refl }
sconst_plain (pos (suc zero)) a b = record { takes = λ bytes. refl; no_jumps = λ at operands. refl; no_indices = λ at operands. refl }
sconst_plain (pos (suc (suc zero))) a b = record { takes = λ bytes. refl; no_jumps = λ at operands. refl; no_indices = λ at operands. refl }
sconst_plain (pos (suc (suc (suc zero)))) a b = record { takes = λ bytes. refl; no_jumps = λ at operands. refl; no_indices = λ at operands. refl }
sconst_plain (pos (suc (suc (suc (suc zero))))) a b = record { takes = λ bytes. refl; no_jumps = λ at operands. refl; no_indices = λ at operands. refl }
sconst_plain (pos (suc (suc (suc (suc (suc zero)))))) a b = record { takes = λ bytes. refl; no_jumps = λ at operands. refl; no_indices = λ at operands. refl }
sconst_plain (pos (suc (suc (suc (suc (suc (suc n))))))) a b = absurd (omega (arith, ints))
sconst_plain (negsuc zero) a b = record { takes = λ bytes. refl; no_jumps = λ at operands. refl; no_indices = λ at operands. refl }
sconst_plain (negsuc (suc n)) a b = absurd (omega (arith, ints))

sload_n_plain : (l : ℕ) → l < 4 → IsPlain (0x1C + l) 0
unfolding forms form op_info
sload_n_plain zero h = record { takes = λ bytes. refl; no_jumps = λ at operands. refl; no_indices = λ at operands. refl }
sload_n_plain (suc zero) h = record { takes = λ bytes. refl; no_jumps = λ at operands. refl; no_indices = λ at operands. refl }
sload_n_plain (suc (suc zero)) h = record { takes = λ bytes. refl; no_jumps = λ at operands. refl; no_indices = λ at operands. refl }
sload_n_plain (suc (suc (suc zero))) h = record { takes = λ bytes. refl; no_jumps = λ at operands. refl; no_indices = λ at operands. refl }
sload_n_plain (suc (suc (suc (suc l)))) h = absurd (omega arith)

bspush_plain : IsPlain 0x10 1
unfolding forms form op_info
bspush_plain = record { takes = λ bytes. refl; no_jumps = λ at operands. refl; no_indices = λ at operands. refl }

sspush_plain : IsPlain 0x11 2
unfolding forms form op_info
sspush_plain = record { takes = λ bytes. refl; no_jumps = λ at operands. refl; no_indices = λ at operands. refl }

sload_plain : IsPlain 0x16 1
unfolding forms form op_info
sload_plain = record { takes = λ bytes. refl; no_jumps = λ at operands. refl; no_indices = λ at operands. refl }

sadd_plain : IsPlain 0x41 0
unfolding forms form op_info
sadd_plain = record { takes = λ bytes. refl; no_jumps = λ at operands. refl; no_indices = λ at operands. refl }

-- sreturn, alone
sreturn_whole : (at : ℕ) → Whole at (0x78 ∷ [])
unfolding forms form op_info
sreturn_whole at = record { is = record { at = at; opcode = 0x78; operands = [] } ∷ []; are = refl; quiet = more refl refl none; last = λ o. (record { at = at; opcode = 0x78; operands = [] }, refl, refl) }

-- ---- what is written

constant_adds : (z : ℤ) → Adds (constant z)
constant_adds z = by (lies_in (negsuc 0) (pos 5) z) refl (lies_in (negsuc 127) (pos 127) z) refl
  where
    by : (s : Bool) → lies_in (negsuc 0) (pos 5) z ≡ s → (t : Bool) → lies_in (negsuc 127) (pos 127) z ≡ t → Adds (constant z)
    by true h t k = let w = lies_true (negsuc 0) (pos 5) z h in rw h (adds (sconst z) [] (sconst_plain z w.0 w.1))
    by false h true k = rw (h, k) (adds 0x10 (cast_unsigned w8 z ∷ []) bspush_plain)
    by false h false k = rw (h, k) (adds 0x11 (to_be_bytes w16 (cast_unsigned w16 z)) sspush_plain)

load_adds : (l : ℕ) → Adds (load l)
load_adds l = by (nat_lt l 4) refl
  where
    by : (t : Bool) → nat_lt l 4 ≡ t → Adds (load l)
    by true h = rw h (adds (0x1C + l) [] (sload_n_plain l (ltb-true l 4 h)))
    by false h = rw h (adds 0x16 (l ∷ []) sload_plain)

push_adds : (k : ℕ) (op : JOp) → is_push k op ≡ true → Adds (selected op)
unfolding selected
push_adds k (jop.Number z) p = constant_adds (low_word z)
push_adds k (jop.Load false l) p = load_adds l
push_adds k _ p = cc

rest_whole : (k : ℕ) (ops : List JOp) → is_rest k ops ≡ true → (at : ℕ) → Whole at (selected_code ops)
unfolding selected_code
rest_whole k [] h at = cc
rest_whole k (a ∷ []) h at = cc
rest_whole k (a ∷ b ∷ []) h at =
    let both = and_true (is_i2s a) (is_ireturn b) h in
    let e : selected_code (a ∷ b ∷ []) ≡ 0x78 ∷ [] = ap (λ x. x ++ (selected b ++ [])) (i2s_selected a both.0) ∙ ap (λ x. x ++ []) (ireturn_selected b both.1) in
    subst (Whole at) (sym e) (sreturn_whole at)
rest_whole k (a ∷ b ∷ c ∷ ops) h at =
    let one = and_true (is_push k a && is_iadd b) (is_rest k (c ∷ ops)) h in
    let two = and_true (is_push k a) (is_iadd b) one.0 in
    let rest = selected_code (c ∷ ops) in
    let e : selected_code (a ∷ b ∷ c ∷ ops) ≡ selected a ++ (0x41 ∷ rest) = ap (λ x. selected a ++ (x ++ rest)) (iadd_selected b two.1) in
    let place = at + length (selected a) in
    subst (Whole at) (sym e) (push_adds k a two.0 at (0x41 ∷ rest) (adds 0x41 [] sadd_plain place rest (rest_whole k (c ∷ ops) one.1 (place + 1))))

pub sum_whole : (k : ℕ) (ops : List JOp) → is_sum k ops ≡ true → (at : ℕ) → Whole at (selected_code ops)
unfolding selected_code
sum_whole k [] h at = cc
sum_whole k (a ∷ ops) h at =
    let both = and_true (is_push k a) (is_rest k ops) h in
    push_adds k a both.0 at (selected_code ops) (rest_whole k ops both.1 (at + length (selected a)))

-- ---- what follows of quiet instructions

pub quiet_lands : (test : ℤ → Instruction → Bool) (is : List Instruction) → AreQuiet is → list_all (λ i. list_all (λ by. test by i) (jumps i)) is ≡ true
quiet_lands test [] q = refl
quiet_lands test (i ∷ is) (more j x q) = ap (λ js. list_all (λ by. test by i) js && list_all (λ i. list_all (λ by. test by i) (jumps i)) is) j ∙ quiet_lands test is q

pub quiet_indices : (is : List Instruction) → AreQuiet is → flat_map indices is ≡ []
quiet_indices [] q = refl
quiet_indices (i ∷ is) (more j x q) = ap (λ xs. xs ++ flat_map indices is) x ∙ quiet_indices is q
