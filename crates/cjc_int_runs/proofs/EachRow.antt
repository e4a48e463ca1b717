-- Each row holds.
use Rattle.std.proofs.Common.{ℕ, List}
use Rattle.cjc_int_proof.specs.Bytecode.declared.insn.JOp.{JOp}
use Rattle.cjc_ncode.specs.ByLabel.{Named}
use Rattle.cjc_ncode.specs.Written.{Resolution}
use Rattle.cjc_ncode.specs.IntCode.IntCode.{Before, Frame}
use Rattle.cjc_jvm_semantics.specs.Linked.{Method, Linked}
use Rattle.cjc_narrow_proof.specs.Selection.Relation.{Kind}
use Rattle.cjc_int_runs.specs.Rows.{IsIntRow, IsIntJump, IsIntReturn, iadd_row, isub_row, imul_row, idiv_row}
use Rattle.cjc_int_runs.specs.Rows.{irem_row, ishl_row, ishr_row, iushr_row, iand_row, ior_row, ixor_row, ineg_row}
use Rattle.cjc_int_runs.specs.Rows.{i2b_row, i2s_row, nop_row, aconst_null_row, number_row, iload_row, aload_row}
use Rattle.cjc_int_runs.specs.Rows.{istore_row, astore_row, iinc_row, dup_row, dup_x1_row, dup_x2_row, dup2_row}
use Rattle.cjc_int_runs.specs.Rows.{dup2_x1_row, dup2_x2_row, pop_row, pop2_row, swap_row, baload_row, saload_row}
use Rattle.cjc_int_runs.specs.Rows.{iaload_row, bastore_row, sastore_row, iastore_row, getfield_row, arraylength_row}
use Rattle.cjc_int_runs.specs.Rows.{cell_row, constant_row, putfield_row, putstatic_row, new_row, booleans_row}
use Rattle.cjc_int_runs.specs.Rows.{bytes_row, shorts_row, ints_row, anewarray_row, checkcast_row, instanceof_row}
use Rattle.cjc_int_runs.specs.Rows.{aaload_row, aastore_row, goto_jump, ifeq_jump, ifne_jump, iflt_jump, ifge_jump}
use Rattle.cjc_int_runs.specs.Rows.{ifgt_jump, ifle_jump, if_icmpeq_jump, if_icmpne_jump, if_icmplt_jump}
use Rattle.cjc_int_runs.specs.Rows.{if_icmpge_jump, if_icmpgt_jump, if_icmple_jump, ifnull_jump, ifnonnull_jump}
use Rattle.cjc_int_runs.specs.Rows.{if_acmpeq_jump, if_acmpne_jump, tableswitch_jump, lookupswitch_jump, int_return}
use Rattle.cjc_int_runs.specs.Rows.{short_return, reference_return, nothing_return}
use Rattle.cjc_int_runs.specs.Steps.{IntRow, IntJump, IntReturn}
use Rattle.cjc_int_runs.proofs.Arithmetic.{iadd, isub, imul, idiv, irem, ishl, ishr, iushr, iand, ior, ixor, ineg}
use Rattle.cjc_int_runs.proofs.Arithmetic.{i2b, i2s}
use Rattle.cjc_int_runs.proofs.ArrayLoads.{baload, saload, iaload}
use Rattle.cjc_int_runs.proofs.ArrayStores.{bastore, sastore, iastore}
use Rattle.cjc_int_runs.proofs.Constants.{nothing, aconst_null, constant}
use Rattle.cjc_int_runs.proofs.FieldsPut.{putfield, putstatic}
use Rattle.cjc_int_runs.proofs.FieldsRead.{getfield, arraylength}
use Rattle.cjc_int_runs.proofs.Jumps.{goto, ifeq, ifne, iflt, ifge, ifgt, ifle, if_icmpeq, if_icmpne, if_icmplt}
use Rattle.cjc_int_runs.proofs.Jumps.{if_icmpge, if_icmpgt, if_icmple, ifnull, ifnonnull, if_acmpeq, if_acmpne}
use Rattle.cjc_int_runs.proofs.Locals.{iload, aload, istore, astore, iinc}
use Rattle.cjc_int_runs.proofs.NewThings.{new, booleans, bytes, shorts, arrays_of_ints, anewarray}
use Rattle.cjc_int_runs.proofs.ReferenceArrays.{aaload, aastore}
use Rattle.cjc_int_runs.proofs.Returns.{int_returned, short_returned, reference_returned, nothing_returned}
use Rattle.cjc_int_runs.proofs.Stacks.{dup, dup_x1, dup_x2, dup2, dup2_x1, dup2_x2, pop, pop2, swap}
use Rattle.cjc_int_runs.proofs.StaticsRead.{getstatic, getconstant}
use Rattle.cjc_int_runs.proofs.Switches.{tableswitch, lookupswitch}
use Rattle.cjc_int_runs.proofs.TypesAsked.{checkcast, instanceof}

module _ (by : Linked) (l : Named) (f : Frame) (pairs : ℕ) (r : Resolution) (m : Method) where
  pub each_row : {b : Before} {op : JOp} {before after ls js : List Kind} → IsIntRow by l f r m b op before after ls js
      → IntRow by l f pairs r m b op before after ls js
  each_row (iadd_row b ls s t) = iadd by l f pairs r m b ls s t
  each_row (isub_row b ls s t) = isub by l f pairs r m b ls s t
  each_row (imul_row b ls s t) = imul by l f pairs r m b ls s t
  each_row (idiv_row b ls s t) = idiv by l f pairs r m b ls s t
  each_row (irem_row b ls s t p10 p11) = irem by l f pairs r m b ls s t p10 p11
  each_row (ishl_row b ls s t) = ishl by l f pairs r m b ls s t
  each_row (ishr_row b ls s t p10 p11) = ishr by l f pairs r m b ls s t p10 p11
  each_row (iushr_row b ls s t p10 p11) = iushr by l f pairs r m b ls s t p10 p11
  each_row (iand_row b ls s t p10 p11) = iand by l f pairs r m b ls s t p10 p11
  each_row (ior_row b ls s t p10 p11) = ior by l f pairs r m b ls s t p10 p11
  each_row (ixor_row b ls s t p10 p11) = ixor by l f pairs r m b ls s t p10 p11
  each_row (ineg_row b ls s) = ineg by l f pairs r m b ls s
  each_row (i2b_row b ls s) = i2b by l f pairs r m b ls s
  each_row (i2s_row b ls s) = i2s by l f pairs r m b ls s
  each_row (nop_row b ls) = nothing by l f pairs r m b ls
  each_row (aconst_null_row b ls within) = aconst_null by l f pairs r m b ls within
  each_row (number_row b ls z s p10 p11) = constant by l f pairs r m b ls z s p10 p11
  each_row (iload_row b ls n s p10) = iload by l f pairs r m b ls n s p10
  each_row (aload_row b ls n within p10) = aload by l f pairs r m b ls n within p10
  each_row (istore_row b ls n s p10) = istore by l f pairs r m b ls n s p10
  each_row (astore_row b ls n within p10) = astore by l f pairs r m b ls n within p10
  each_row (iinc_row b ls n s z p11 p12 p13) = iinc by l f pairs r m b ls n s z p11 p12 p13
  each_row (dup_row ls below inside a) = dup by l f pairs r m ls below inside a
  each_row (dup_x1_row ls below inside a b) = dup_x1 by l f pairs r m ls below inside a b
  each_row (dup_x2_row ls below inside a b c) = dup_x2 by l f pairs r m ls below inside a b c
  each_row (dup2_row ls below inside a b) = dup2 by l f pairs r m ls below inside a b
  each_row (dup2_x1_row ls below inside a b c) = dup2_x1 by l f pairs r m ls below inside a b c
  each_row (dup2_x2_row ls below inside a b c d) = dup2_x2 by l f pairs r m ls below inside a b c d
  each_row (pop_row ls below inside a) = pop by l f pairs r m ls below inside a
  each_row (pop2_row ls below inside a b) = pop2 by l f pairs r m ls below inside a b
  each_row (swap_row ls below inside a b) = swap by l f pairs r m ls below inside a b
  each_row (baload_row ls below inside s t within p12 p13 p14) =
      baload by l f pairs r m ls below inside s t within p12 p13 p14
  each_row (saload_row ls below inside s t within p12 p13 p14) =
      saload by l f pairs r m ls below inside s t within p12 p13 p14
  each_row (iaload_row ls below inside s t within p12 p13 p14) =
      iaload by l f pairs r m ls below inside s t within p12 p13 p14
  each_row (bastore_row ls below inside s t within p12 p13 p14) =
      bastore by l f pairs r m ls below inside s t within p12 p13 p14
  each_row (sastore_row ls below inside s t within p12 p13) =
      sastore by l f pairs r m ls below inside s t within p12 p13
  each_row (iastore_row ls below inside s t within p12 p13) =
      iastore by l f pairs r m ls below inside s t within p12 p13
  each_row (getfield_row b ls named within p10) = getfield by l f pairs r m b ls named within p10
  each_row (arraylength_row b ls within p9) = arraylength by l f pairs r m b ls within p9
  each_row (cell_row b ls named p9) = getstatic by l f pairs r m b ls named p9
  each_row (constant_row b ls named z s p11 p12 p13) = getconstant by l f pairs r m b ls named z s p11 p12 p13
  each_row (putfield_row b ls named k within p11 p12) = putfield by l f pairs r m b ls named k within p11 p12
  each_row (putstatic_row b ls named k p10 p11) = putstatic by l f pairs r m b ls named k p10 p11
  each_row (new_row b ls within class p10 p11) = new by l f pairs r m b ls within class p10 p11
  each_row (booleans_row b ls within s p10 p11) = booleans by l f pairs r m b ls within s p10 p11
  each_row (bytes_row b ls within s p10 p11) = bytes by l f pairs r m b ls within s p10 p11
  each_row (shorts_row b ls within s p10 p11) = shorts by l f pairs r m b ls within s p10 p11
  each_row (ints_row b ls within s p10 p11) = arrays_of_ints by l f pairs r m b ls within s p10 p11
  each_row (anewarray_row b ls within s p10 class p12 p13) = anewarray by l f pairs r m b ls within s p10 class p12 p13
  each_row (checkcast_row b ls type there within after p12) =
      checkcast by l f pairs r m b ls type there within after p12
  each_row (instanceof_row b ls type p9 within) = instanceof by l f pairs r m b ls type p9 within
  each_row (aaload_row ls below inside s within items p12 p13 p14) =
      aaload by l f pairs r m ls below inside s within items p12 p13 p14
  each_row (aastore_row ls below inside s within items p12 p13 p14) =
      aastore by l f pairs r m ls below inside s within items p12 p13 p14

  pub each_jump : {b : Before} {op : JOp} {before : List Kind} {offsets : List ℕ} → IsIntJump by l f r m b op before
      offsets → IntJump by l f pairs r m b op before offsets
  each_jump (goto_jump b target) = goto by l f pairs r m b target
  each_jump (ifeq_jump b target s) = ifeq by l f pairs r m b target s
  each_jump (ifne_jump b target s) = ifne by l f pairs r m b target s
  each_jump (iflt_jump b target s) = iflt by l f pairs r m b target s
  each_jump (ifge_jump b target s) = ifge by l f pairs r m b target s
  each_jump (ifgt_jump b target s) = ifgt by l f pairs r m b target s
  each_jump (ifle_jump b target s) = ifle by l f pairs r m b target s
  each_jump (if_icmpeq_jump b target s t) = if_icmpeq by l f pairs r m b target s t
  each_jump (if_icmpne_jump b target s t) = if_icmpne by l f pairs r m b target s t
  each_jump (if_icmplt_jump b target s t) = if_icmplt by l f pairs r m b target s t
  each_jump (if_icmpge_jump b target s t) = if_icmpge by l f pairs r m b target s t
  each_jump (if_icmpgt_jump b target s t) = if_icmpgt by l f pairs r m b target s t
  each_jump (if_icmple_jump b target s t) = if_icmple by l f pairs r m b target s t
  each_jump (ifnull_jump b target within) = ifnull by l f pairs r m b target within
  each_jump (ifnonnull_jump b target within) = ifnonnull by l f pairs r m b target within
  each_jump (if_acmpeq_jump b target within within') = if_acmpeq by l f pairs r m b target within within'
  each_jump (if_acmpne_jump b target within within') = if_acmpne by l f pairs r m b target within within'
  each_jump (tableswitch_jump b s other low targets) = tableswitch by l f pairs r m b s other low targets
  each_jump (lookupswitch_jump b s other cases) = lookupswitch by l f pairs r m b s other cases

  pub each_return : {b : Before} {op : JOp} {kinds : List Kind} → IsIntReturn by l f r m b op kinds
      → IntReturn by l f r m b op kinds
  each_return (int_return b s p7) = int_returned by l f r m b s p7
  each_return (short_return b sort s p8 p9 p10) = short_returned by l f r m b sort s p8 p9 p10
  each_return (reference_return b shape within p8) = reference_returned by l f r m b shape within p8
  each_return (nothing_return b p6) = nothing_returned by l f r m b p6
