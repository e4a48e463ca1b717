-- The operands of a method's reached instructions fit what is written for them in int mode.
use Rattle.std.proofs.Common.{◌≡◌, ℕ, zero, suc, ◌+◌, ◌<◌, ◌≤◌, arith, refl, ap}
use Rattle.std.proofs.Common.{true, List, [], ◌∷◌}
use Rattle.std.specs.Prelude.{Option, Some, None, length, slice_get, ℤ, pos, negsuc, ◌+ℤ◌, ◌-ℤ◌}
use Rattle.std.proofs.lemmas.Int.{ints}
use Rattle.cjc_int_narrow.specs.Bytes.declared.fault.MemberId.{MemberId}
use Rattle.cjc_ncode.specs.LowerCapRead.Decode.{IsWithin, negative, positive}
use Rattle.cjc_ncode.proofs.BytecodeDecoded.{decoded_instruction}
use Rattle.cjc_ncode.proofs.BytecodeMembers.{read_class}
use Rattle.cjc_int_narrow.specs.Bytecode.ReadLaws.Instructions.{IsInstruction, MatchesAscend, MatchesFit, NumbersFit}
use Rattle.cjc_int_narrow.specs.Bytecode.ReadLaws.Instructions.{SwitchFits}
use Rattle.cjc_int_narrow.specs.Bytecode.ReadLaws.Members.{IsReadClass}
use Rattle.cjc_int_narrow.specs.Bytecode.declared.insn.JCase.{JCase}
use Rattle.cjc_int_narrow.specs.Bytecode.declared.insn.JInsn.{JInsn}
use Rattle.cjc_int_narrow.specs.Bytecode.declared.insn.JOp.{JOp}
use Rattle.cjc_int_narrow.specs.Bytecode.declared.insn.JOp.TheVariants as jop
use Rattle.cjc_int_narrow.specs.Bytecode.declared.method_code.MethodCode.{MethodCode}
use Rattle.cjc_types.specs.Fixpoint.Tables.{HasRow}
use Rattle.cjc_int_narrow.specs.Range.Span.{Holds, full, short_range}
use Rattle.cjc_int_narrow.specs.ClassFile.Code.{CodeTree}
use Rattle.cjc_int_narrow.specs.ClassFile.declared.tree.ClassTree.{ClassTree}
use Rattle.cjc_int_narrow.specs.ClassFile.declared.tree.MethodTree.{MethodTree}
use Rattle.cjc_int_narrow.specs.World.Files.{Files}
use Rattle.cjc_types.specs.Flow.{Body, body_of}
use Rattle.cjc_types.specs.Tables.{IsMethodOf}
use Rattle.cjc_types.specs.TypeLaws.Places.{local_of}
use Rattle.cjc_types.specs.declared.state.State.{State}
use Rattle.cjc_int_narrow.proofs.TypesStanding.{local_there}
use Rattle.cjc_ncode.specs.IntCode.IntCode.{Frame, first_word, scratch}
use Rattle.cjc_ncode.specs.IntCode.IntCode.{scratch_pairs_of, widest}
use Rattle.cjc_ncode.specs.Written.{Resolution, reached}
use Rattle.cjc_narrow_proof.proofs.SelectedLaws.Cuts.{decoded}
use Rattle.cjc_narrow_proof.specs.Selected.Keeps.{IsSpelt}
use Rattle.cjc_int_narrow.specs.LowerIntMode.Room.{IsRoom, many_words}
use Rattle.cjc_int_narrow.specs.LowerIntMode.Written.{argument_words, int_frame, local_words, most_pairs}
use Rattle.cjc_int_narrow.specs.LowerIntMode.declared.modes.Mode.TheVariants as modes
use Rattle.cjc_int_narrow.proofs.Whole.{few_enough}
use Rattle.cjc_int_narrow.specs.LowerIntProof.Operands.{IsInt, MatchesRise, OperandsFit, TableFits}

-- ---- numbers

pub four_bytes : (z : ℤ) → Holds full z → IsInt z
four_bytes (pos n) h = positive (let le = h.below in omega (arith, ints, le))
four_bytes (negsuc n) h = negative (let le = h.above in omega (arith, ints, le))

two_bytes : (z : ℤ) → Holds short_range z → IsWithin 32768 z
two_bytes (pos n) h = positive (let le = h.below in omega (arith, ints, le))
two_bytes (negsuc n) h = negative (let le = h.above in omega (arith, ints, le))

-- ---- scratch pairs

-- a reached instruction has no more than the most
pairs_most : (insns : List JInsn) (rows : List (Option State)) (k : ℕ) (i : JInsn) (x : State)
    → slice_get insns k ≡ Some i → HasRow rows k x → scratch_pairs_of i.op ≤ most_pairs (reached insns rows)
pairs_most [] rows k i x e row = absurd cc
pairs_most (j ∷ insns) [] k i x e row = absurd cc
pairs_most (j ∷ insns) (None ∷ rows) zero i x e row = absurd cc
pairs_most (j ∷ insns) (Some y ∷ rows) zero i x e row =
    let same : j ≡ i = cc in
    let own : scratch_pairs_of j.op ≡ scratch_pairs_of i.op = ap (λ (n : JInsn). scratch_pairs_of n.op) same in
    omega (arith, own)
pairs_most (j ∷ insns) (None ∷ rows) (suc k) i x e row = pairs_most insns rows k i x e row
pairs_most (j ∷ insns) (Some y ∷ rows) (suc k) i x e row = let rest = pairs_most insns rows k i x e row
    in omega (arith, rest)

-- ---- switches

table : (low : ℤ) (count : ℕ) → MatchesFit low count → TableFits low count
table low count fit = record {
  some = fit.some;
  low_fits = four_bytes low fit.low_fits;
  high_fits = four_bytes ((low +ℤ pos count) -ℤ pos 1) fit.high_fits;
}

lookup : (cases : List JCase) → MatchesAscend cases → MatchesRise cases
lookup [] fit = tt
lookup (c ∷ []) fit = four_bytes c.value fit
lookup (c ∷ d ∷ cases) fit = (four_bytes c.value fit.0, fit.1, lookup (d ∷ cases) fit.2)

-- ---- by instruction

fit_by : (f : Frame) (r : Resolution) (op : JOp) → scratch f (scratch_pairs_of op) ≤ 256
    → ((l : ℕ) → local_of op ≡ Some l → first_word f l < 256) → NumbersFit op → SwitchFits op → widest r op ≤ 32767
    → ((g : MemberId) (z : ℤ) → r.constant g ≡ Some z → IsInt z) → OperandsFit f r op
fit_by f r (jop.Number z) pairs locals numbers switch few constants = four_bytes z numbers
fit_by f r (jop.Load refs l) pairs locals numbers switch few constants = locals l refl
fit_by f r (jop.Store refs l) pairs locals numbers switch few constants = locals l refl
fit_by f r (jop.Inc l by) pairs locals numbers switch few constants = (locals l refl, two_bytes by numbers)
fit_by f r (jop.TableSwitch other low targets) pairs locals numbers switch few constants =
    table low (length targets) switch
fit_by f r (jop.LookupSwitch other cases) pairs locals numbers switch few constants =
    (omega (arith, few), lookup cases switch)
fit_by f r (jop.Static put g) pairs locals numbers switch few constants = constants g
fit_by f r (jop.Call op m) pairs locals numbers switch few constants = pairs
fit_by f r jop.Nop pairs locals numbers switch few constants = tt
fit_by f r jop.Null pairs locals numbers switch few constants = tt
fit_by f r (jop.ArrayLoad op) pairs locals numbers switch few constants = tt
fit_by f r (jop.ArrayStore op) pairs locals numbers switch few constants = tt
fit_by f r (jop.Stack op) pairs locals numbers switch few constants = tt
fit_by f r (jop.Arith op) pairs locals numbers switch few constants = tt
fit_by f r (jop.Narrow op) pairs locals numbers switch few constants = tt
fit_by f r (jop.If op target) pairs locals numbers switch few constants = tt
fit_by f r (jop.Goto target) pairs locals numbers switch few constants = tt
fit_by f r (jop.Return op) pairs locals numbers switch few constants = tt
fit_by f r (jop.Field put g) pairs locals numbers switch few constants = tt
fit_by f r (jop.New class) pairs locals numbers switch few constants = tt
fit_by f r (jop.NewArray kind) pairs locals numbers switch few constants = tt
fit_by f r (jop.ANewArray class) pairs locals numbers switch few constants = tt
fit_by f r jop.ArrayLength pairs locals numbers switch few constants = tt
fit_by f r jop.Throw pairs locals numbers switch few constants = tt
fit_by f r (jop.CheckCast class) pairs locals numbers switch few constants = tt
fit_by f r (jop.InstanceOf class) pairs locals numbers switch few constants = tt

-- ---- a method

module _ (files : Files) (code : MethodCode) (class : ClassTree) (method : MethodTree) (tree : CodeTree)
    (is : IsMethodOf files code class method tree) (bytes : List ℕ) (spelt : IsSpelt class bytes)
    (rows : List (Option State)) (room : IsRoom (body_of class method tree code.insns) rows modes.Int true)
    (r : Resolution) (constants : (g : MemberId) (z : ℤ) → r.constant g ≡ Some z → IsInt z) where
  abbrev b : Body
  b = body_of class method tree code.insns

  words : argument_words b + local_words b rows ≤ 255
  words = few_enough (argument_words b + local_words b rows) (λ more. room (many_words more))

  is_read : IsReadClass class
  is_read = read_class class bytes spelt.in_bytes spelt.spelt

  is_instruction : (k : ℕ) (i : JInsn) → slice_get code.insns k ≡ Some i → IsInstruction i.op
  is_instruction =
      decoded_instruction class method tree code.insns (decoded files code class method tree is) is_read.integers
      (is_read.bytes code.method method tree is.is_method is.is_code)

  pub int_operands_fit : (k : ℕ) (i : JInsn) (x : State) → slice_get code.insns k ≡ Some i → HasRow rows k x
      → widest r i.op ≤ 32767 → OperandsFit (int_frame b) r i.op
  int_operands_fit k i x e row few =
      let most = pairs_most code.insns rows k i x e row in
      let all = words in
      let fit = is_instruction k i e in
      fit_by (int_frame b) r i.op (omega (arith, most, all))
      (λ l names. (let lt = local_there files code class method tree is k i l e names in omega (arith, lt, all)))
      fit.numbers fit.switch few constants
