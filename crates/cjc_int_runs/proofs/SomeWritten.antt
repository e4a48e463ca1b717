-- For each row something is written, but for nop.
use Rattle.std.proofs.Common.{◌≡◌, ℕ, ◌<◌, refl, sym, subst, arith, List, [], ◌∷◌, ◌++◌, length}
use Rattle.std.specs.Prelude.{Option, Some, None, ℤ}
use Rattle.cjc_script.specs.Bytes.declared.fault.MemberId.{MemberId}
use Rattle.cjc_script.specs.Sorts.{Shape, OfClass, OfNumbers, OfReferences, Booleans, Bytes, Shorts, Ints}
use Rattle.cjc_int_proof.specs.Bytecode.declared.insn.JOp.{JOp}
use Rattle.cjc_int_proof.specs.Bytecode.declared.insn.JOp.TheVariants as jop
use Rattle.cjc_ncode.specs.declared.narrow.NInsn.{NInsn}
use Rattle.cjc_ncode.specs.declared.narrow.NInsn.TheVariants.{Op}
use Rattle.cjc_ncode.specs.ByLabel.{Named}
use Rattle.cjc_ncode.specs.Written.{Resolution, type_test}
use Rattle.cjc_ncode.specs.IntCode.IntCode.{Before, Frame, index_of_one, index_of_two, static_get, written}
use Rattle.cjc_jvm_semantics.specs.Linked.{Method, Linked}
use Rattle.cjc_narrow_proof.specs.Selection.Relation.{Kind}
use Rattle.cjc_int_runs.specs.Rows.{IsIntRow, IsIntJump}
use Rattle.cjc_int_runs.specs.Rows.{iadd_row, isub_row, imul_row, idiv_row, irem_row, ishl_row, ishr_row}
use Rattle.cjc_int_runs.specs.Rows.{iushr_row, iand_row, ior_row, ixor_row, ineg_row, i2b_row, i2s_row}
use Rattle.cjc_int_runs.specs.Rows.{nop_row, aconst_null_row, number_row, iload_row, aload_row, istore_row}
use Rattle.cjc_int_runs.specs.Rows.{astore_row, iinc_row, dup_row, dup_x1_row, dup_x2_row, dup2_row}
use Rattle.cjc_int_runs.specs.Rows.{dup2_x1_row, dup2_x2_row, pop_row, pop2_row, swap_row, baload_row}
use Rattle.cjc_int_runs.specs.Rows.{saload_row, iaload_row, bastore_row, sastore_row, iastore_row}
use Rattle.cjc_int_runs.specs.Rows.{getfield_row, arraylength_row, cell_row, constant_row, putfield_row}
use Rattle.cjc_int_runs.specs.Rows.{putstatic_row, new_row, booleans_row, bytes_row, shorts_row, ints_row}
use Rattle.cjc_int_runs.specs.Rows.{anewarray_row, checkcast_row, instanceof_row, aaload_row, aastore_row}
use Rattle.cjc_int_runs.specs.Rows.{goto_jump, ifeq_jump, ifne_jump, iflt_jump, ifge_jump, ifgt_jump}
use Rattle.cjc_int_runs.specs.Rows.{ifle_jump, if_icmpeq_jump, if_icmpne_jump, if_icmplt_jump, if_icmpge_jump}
use Rattle.cjc_int_runs.specs.Rows.{if_icmpgt_jump, if_icmple_jump, ifnull_jump, ifnonnull_jump, if_acmpeq_jump}
use Rattle.cjc_int_runs.specs.Rows.{if_acmpne_jump, tableswitch_jump, lookupswitch_jump}

some_behind : (xs : List NInsn) (y : NInsn) (ys : List NInsn) → 0 < length (xs ++ y ∷ ys)
some_behind [] y ys = omega arith
some_behind (x ∷ xs) y ys = omega arith

got_some : (r : Resolution) (named : MemberId) (o : Option ℤ) → 0 < length (static_get r named o)
got_some r named (Some z) = omega arith
got_some r named None = omega arith

test_some : (op : ℕ) (kind : Shape (List ℕ)) → 0 < length (type_test op (Some kind))
test_some op (OfClass class) = omega arith
test_some op (OfReferences class) = omega arith
test_some op (OfNumbers Booleans) = omega arith
test_some op (OfNumbers Bytes) = omega arith
test_some op (OfNumbers Shorts) = omega arith
test_some op (OfNumbers Ints) = omega arith

module _ (by : Linked) (l : Named) (f : Frame) (r : Resolution) (m : Method) (place : ℕ → ℕ) (here : ℕ) where
  pub row_some : {b : Before} {op : JOp} {before after ls js : List Kind} → IsIntRow by l f r m b op before after ls js
      → (op ≡ jop.Nop → ⊥) → 0 < length (written f r place b here op)
  row_some (iadd_row b ls s t) not_nop = omega arith
  row_some (isub_row b ls s t) not_nop = omega arith
  row_some (imul_row b ls s t) not_nop = omega arith
  row_some (idiv_row b ls s t) not_nop = omega arith
  row_some (irem_row b ls s t p10 p11) not_nop = omega arith
  row_some (ishl_row b ls s t) not_nop = omega arith
  row_some (ishr_row b ls s t p10 p11) not_nop = omega arith
  row_some (iushr_row b ls s t p10 p11) not_nop = omega arith
  row_some (iand_row b ls s t p10 p11) not_nop = omega arith
  row_some (ior_row b ls s t p10 p11) not_nop = omega arith
  row_some (ixor_row b ls s t p10 p11) not_nop = omega arith
  row_some (ineg_row b ls s) not_nop = omega arith
  row_some (i2b_row b ls s) not_nop = omega arith
  row_some (i2s_row b ls s) not_nop = omega arith
  row_some (nop_row b ls) not_nop = absurd (not_nop refl)
  row_some (aconst_null_row b ls within) not_nop = omega arith
  row_some (number_row b ls z s p10 p11) not_nop = omega arith
  row_some (iload_row b ls n s p10) not_nop = omega arith
  row_some (aload_row b ls n within p10) not_nop = omega arith
  row_some (istore_row b ls n s p10) not_nop = omega arith
  row_some (astore_row b ls n within p10) not_nop = omega arith
  row_some (iinc_row b ls n s z p11 p12 p13) not_nop = omega arith
  row_some (dup_row ls below inside a) not_nop = omega arith
  row_some (dup_x1_row ls below inside a b) not_nop = omega arith
  row_some (dup_x2_row ls below inside a b c) not_nop = omega arith
  row_some (dup2_row ls below inside a b) not_nop = omega arith
  row_some (dup2_x1_row ls below inside a b c) not_nop = omega arith
  row_some (dup2_x2_row ls below inside a b c d) not_nop = omega arith
  row_some (pop_row ls below inside a) not_nop = omega arith
  row_some (pop2_row ls below inside a b) not_nop = omega arith
  row_some (swap_row ls below inside a b) not_nop = omega arith
  row_some (baload_row ls below inside s t within p12 p13 p14) not_nop = some_behind _ _ _
  row_some (saload_row ls below inside s t within p12 p13 p14) not_nop = some_behind _ _ _
  row_some (iaload_row ls below inside s t within p12 p13 p14) not_nop = some_behind _ _ _
  row_some (bastore_row ls below inside s t within p12 p13 p14) not_nop = omega arith
  row_some (sastore_row ls below inside s t within p12 p13) not_nop = omega arith
  row_some (iastore_row ls below inside s t within p12 p13) not_nop = some_behind (index_of_two inside here) (Op
      0x3A) []
  row_some (getfield_row b ls named within p10) not_nop = omega arith
  row_some (arraylength_row b ls within p9) not_nop = omega arith
  row_some (cell_row b ls named p9) not_nop = got_some r named (r.constant named)
  row_some (constant_row b ls named z s p11 p12 p13) not_nop = got_some r named (r.constant named)
  row_some (putfield_row b ls named k within p11 p12) not_nop = some_behind _ _ _
  row_some (putstatic_row b ls named k p10 p11) not_nop = some_behind _ _ _
  row_some (new_row b ls within class p10 p11) not_nop = omega arith
  row_some (booleans_row b ls within s p10 p11) not_nop = omega arith
  row_some (bytes_row b ls within s p10 p11) not_nop = omega arith
  row_some (shorts_row b ls within s p10 p11) not_nop = omega arith
  row_some (ints_row b ls within s p10 p11) not_nop = omega arith
  row_some (anewarray_row b ls within s p10 class p12 p13) not_nop = omega arith
  row_some (checkcast_row b ls type there within after p12) not_nop = subst (λ o. 0 < length (type_test 0x94 o)) (sym
      there.is_name) (test_some 0x94 there.kind)
  row_some (instanceof_row b ls type p9 within) not_nop = some_behind _ _ _
  row_some (aaload_row ls below inside s within items p12 p13 p14) not_nop = some_behind _ _ _
  row_some (aastore_row ls below inside s within items p12 p13 p14) not_nop = some_behind (index_of_one inside here)
      (Op 0x37) []

  pub jump_some : {b : Before} {op : JOp} {before : List Kind} {offsets : List ℕ} → IsIntJump by l f r m b op before
      offsets → 0 < length (written f r place b here op)
  jump_some (goto_jump b target) = omega arith
  jump_some (ifeq_jump b target s) = omega arith
  jump_some (ifne_jump b target s) = omega arith
  jump_some (iflt_jump b target s) = omega arith
  jump_some (ifge_jump b target s) = omega arith
  jump_some (ifgt_jump b target s) = omega arith
  jump_some (ifle_jump b target s) = omega arith
  jump_some (if_icmpeq_jump b target s t) = omega arith
  jump_some (if_icmpne_jump b target s t) = omega arith
  jump_some (if_icmplt_jump b target s t) = omega arith
  jump_some (if_icmpge_jump b target s t) = omega arith
  jump_some (if_icmpgt_jump b target s t) = omega arith
  jump_some (if_icmple_jump b target s t) = omega arith
  jump_some (ifnull_jump b target within) = omega arith
  jump_some (ifnonnull_jump b target within) = omega arith
  jump_some (if_acmpeq_jump b target within within') = omega arith
  jump_some (if_acmpne_jump b target within within') = omega arith
  jump_some (tableswitch_jump b s other low targets) = omega arith
  jump_some (lookupswitch_jump b s other cases) = omega arith
