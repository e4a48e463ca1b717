-- What is written for each reached instruction of a method in int mode stands between its frames, where the type table
-- of the method is closed and breaks no rule, and what its instructions name is served.
use Rattle.std.proofs.Common.{◌≡◌, ℕ, ◌*◌, ◌<◌, ◌≤◌, refl, arith, Bool, true, false, List, length}
use Rattle.std.proofs.Common.{map, slice_get, get_or, Option, Some, None}
use Rattle.std.specs.Prelude.{◌==◌, nat_le}
use Rattle.cjc_types.specs.Bytecode.Jvm as jvm
use Rattle.cjc_types.specs.Bytecode.declared.insn.JInsn.{JInsn}
use Rattle.cjc_types.specs.Bytecode.declared.insn.JOp.{JOp}
use Rattle.cjc_types.specs.Bytecode.declared.insn.JOp.TheVariants as jop
use Rattle.cjc_types.specs.ClassFile.Code.{CodeTree}
use Rattle.cjc_types.specs.Fixpoint.Tables.{HasRow}
use Rattle.cjc_types.specs.Flow.{Body as BodyByName}
use Rattle.cjc_types.specs.Rules.{is_reference}
use Rattle.cjc_types.specs.Search.{cells_of}
use Rattle.cjc_types.specs.States.{most_cells}
use Rattle.cjc_types.specs.TypeLaws.Places.{local_of}
use Rattle.cjc_types.specs.Types.{parts}
use Rattle.cjc_types.specs.World.Classes.{Class}
use Rattle.cjc_types.specs.declared.state.State.{State}
use Rattle.cjc_check_proof.specs.NCode.Lowering.Naming.{Naming}
use Rattle.cjc_check_proof.specs.NCode.Written.{Resolution}
use Rattle.cjc_check_proof.specs.NarrowProof.Tables.Arrays.{IsOnArray}
use Rattle.cjc_check_proof.specs.NarrowProof.Tables.Arrays as on_arrays
use Rattle.cjc_check_proof.specs.NarrowProof.Tables.Supported.{IsPlain}
use Rattle.cjc_check_proof.specs.NarrowProof.Tables.Supported as plains
use Rattle.cjc_ncode.specs.IntCode.IntCode.{Before, Frame, nargs, scratch_pairs_of}
use Rattle.cjc_int_mode.specs.Intervals.Frames.{RangeState}
use Rattle.cjc_int_mode.specs.Written.{before, int_frame}
use Rattle.cjc_frames.specs.Acts.{Subtype}
use Rattle.cjc_verify.specs.Bodies.{Body, frames_of}
use Rattle.cjc_verify.specs.CardActs.CardTypes.{ValueType}
use Rattle.cjc_verify.specs.Components.Names.{class_ref, names}
use Rattle.cjc_verify.specs.Components.Package.{LaidMethod, Package, world}
use Rattle.cjc_verify.specs.Pairs.{Pair}
use Rattle.cjc_verify.specs.Script.Sorts.{result_by}
use Rattle.cjc_accepted_proof.specs.Coded.{card_type, is_of, is_wide, label_at, step_of}
use Rattle.cjc_accepted_proof.specs.Plain as stacks
use Rattle.cjc_accepted_proof.specs.Written.{written_pair}
use Rattle.cjc_int_accepted.specs.Entered.{AreShapes}
use Rattle.cjc_int_accepted.specs.Frames.{Room}
use Rattle.cjc_int_accepted.specs.Guards as guards
use Rattle.cjc_int_accepted.specs.Headers.{InsnsStand, IsReadInIntMode}
use Rattle.cjc_int_accepted.specs.Insns.{IsServedMethod}
use Rattle.cjc_int_accepted.specs.Methods.{Selection, StretchStands}
use Rattle.cjc_int_accepted.specs.Runs.{most_words}
use Rattle.cjc_int_accepted.specs.Selection.{label_in, room_of, selected}
use Rattle.cjc_int_accepted.specs.Served.{IsServed, IsServedIn}
use Rattle.cjc_int_accepted.specs.Served as serves
use Rattle.cjc_int_accepted.specs.Standing.{IsStanding}
use Rattle.cjc_int_accepted.proofs.BeginsLaws.{shapes_named}
use Rattle.cjc_int_accepted.proofs.CallsStandLaws.{call_stands}
use Rattle.cjc_int_accepted.proofs.ElementsStandLaws.{element_stands}
use Rattle.cjc_int_accepted.proofs.NamedStandLaws as named
use Rattle.cjc_int_accepted.proofs.ReachedLaws.{is_right, is_short}
use Rattle.cjc_int_accepted.proofs.ReturnsStandLaws.{result_of_frame, return_stands}
use Rattle.cjc_int_accepted.proofs.SelectionLaws.{pairs_fit, room_low}
use Rattle.cjc_int_accepted.proofs.SingleLaws as singles
use Rattle.cjc_int_accepted.proofs.StackStandsLaws.{stack_stands}

-- ---- an instruction

module _ (card_type : List ℕ → Option (List ℕ)) (is_of : Subtype) (m : Room) (new : Selection) (b : BodyByName)
    (rows : List (Option State)) (label to : ℕ → ℕ) (p : Pair) (result : ValueType) (n : Naming) (wide : ℕ → Bool)
    (f : Frame) (r : Resolution) (known : Before) (w : List Class) (count place here o : ℕ) (x : State) where
  abbrev Standing : JOp → Type 0
  Standing op = IsStanding card_type is_of m new b rows label to p result n wide f r known w count place here o x op

  -- those that name nothing outside of their method
  module _ (references : known.references ≡ map is_reference (cells_of x.stack)) (args : nargs f ≡ m.arguments) where
    on_stack : (op : ℕ) → stacks.IsStackOpcode op → Standing (jop.Stack op)
    on_stack = stack_stands card_type is_of m new b rows label to p result n wide f r known w count place here o x
        references

    calculation : (op : ℕ) → (op == jvm.ineg) ≡ false → Standing (jop.Arith op)
    calculation = singles.arithmetic_stands card_type is_of m new b rows label to p result n wide f r known w count
        place here o x

    narrowing : (op : ℕ) → Standing (jop.Narrow op)
    narrowing = singles.narrowing_stands card_type is_of m new b rows label to p result n wide f r known w count place
        here o x

    number_jump : (op target : ℕ) → nat_le op jvm.ifle ≡ true → Standing (jop.If op target)
    number_jump = singles.zero_stands card_type is_of m new b rows label to p result n wide f r known w count place here
        o x

    numbers_jump : (op target : ℕ) → nat_le op jvm.ifle ≡ false → nat_le op jvm.if_icmple ≡ true → Standing (jop.If op
        target)
    numbers_jump = singles.compare_stands card_type is_of m new b rows label to p result n wide f r known w count place
        here o x

    plain_stands : (op : JOp) → IsPlain op → ((k : ℕ) → local_of op ≡ Some k → k < length x.locals) → Standing op
    plain_stands _ plains.nop there = singles.nop_stands card_type is_of m new b rows label to p result n wide f r known
        w count place here o x
    plain_stands _ plains.aconst_null there = singles.null_stands card_type is_of m new b rows label to p result n wide
        f r known w count place here o x
    plain_stands _ (plains.number {z = z} h) there = singles.number_stands card_type is_of m new b rows label to p
        result n wide f r known w count place here o x z
    plain_stands _ (plains.iload {k = k}) there = singles.load_stands card_type is_of m new b rows label to p result n
        wide f r known w count place here o x args false k
    plain_stands _ (plains.aload {k = k}) there = singles.load_stands card_type is_of m new b rows label to p result n
        wide f r known w count place here o x args true k
    plain_stands _ (plains.istore {k = k}) there = singles.store_stands card_type is_of m new b rows label to p result n
        wide f r known w count place here o x args false k (there k refl)
    plain_stands _ (plains.astore {k = k}) there = singles.store_stands card_type is_of m new b rows label to p result n
        wide f r known w count place here o x args true k (there k refl)
    plain_stands _ plains.pop there = on_stack jvm.pop stacks.pop
    plain_stands _ plains.pop2 there = on_stack jvm.pop2 stacks.pop2
    plain_stands _ plains.dup there = on_stack jvm.dup stacks.dup
    plain_stands _ plains.dup_x1 there = on_stack jvm.dup_x1 stacks.dup_x1
    plain_stands _ plains.dup_x2 there = on_stack jvm.dup_x2 stacks.dup_x2
    plain_stands _ plains.dup2 there = on_stack jvm.dup2 stacks.dup2
    plain_stands _ plains.dup2_x1 there = on_stack jvm.dup2_x1 stacks.dup2_x1
    plain_stands _ plains.dup2_x2 there = on_stack jvm.dup2_x2 stacks.dup2_x2
    plain_stands _ plains.swap there = on_stack jvm.swap stacks.swap
    plain_stands _ plains.iadd there = calculation jvm.iadd refl
    plain_stands _ plains.isub there = calculation jvm.isub refl
    plain_stands _ plains.imul there = calculation jvm.imul refl
    plain_stands _ plains.idiv there = calculation jvm.idiv refl
    plain_stands _ plains.irem there = calculation jvm.irem refl
    plain_stands _ plains.ineg there = singles.negation_stands card_type is_of m new b rows label to p result n wide f r
        known w count place here o x
    plain_stands _ plains.ishl there = calculation jvm.ishl refl
    plain_stands _ plains.ishr there = calculation jvm.ishr refl
    plain_stands _ plains.iushr there = calculation jvm.iushr refl
    plain_stands _ plains.iand there = calculation jvm.iand refl
    plain_stands _ plains.ior there = calculation jvm.ior refl
    plain_stands _ plains.ixor there = calculation jvm.ixor refl
    plain_stands _ (plains.iinc {k = k} {z = z} h) there = singles.increase_stands card_type is_of m new b rows label to
        p result n wide f r known w count place here o x args k z
    plain_stands _ plains.i2b there = narrowing jvm.i2b
    plain_stands _ plains.i2s there = narrowing jvm.i2s
    plain_stands _ (plains.ifeq {target = t}) there = number_jump jvm.ifeq t refl
    plain_stands _ (plains.ifne {target = t}) there = number_jump jvm.ifne t refl
    plain_stands _ (plains.iflt {target = t}) there = number_jump jvm.iflt t refl
    plain_stands _ (plains.ifge {target = t}) there = number_jump jvm.ifge t refl
    plain_stands _ (plains.ifgt {target = t}) there = number_jump jvm.ifgt t refl
    plain_stands _ (plains.ifle {target = t}) there = number_jump jvm.ifle t refl
    plain_stands _ (plains.if_icmpeq {target = t}) there = numbers_jump jvm.if_icmpeq t refl refl
    plain_stands _ (plains.if_icmpne {target = t}) there = numbers_jump jvm.if_icmpne t refl refl
    plain_stands _ (plains.if_icmplt {target = t}) there = numbers_jump jvm.if_icmplt t refl refl
    plain_stands _ (plains.if_icmpge {target = t}) there = numbers_jump jvm.if_icmpge t refl refl
    plain_stands _ (plains.if_icmpgt {target = t}) there = numbers_jump jvm.if_icmpgt t refl refl
    plain_stands _ (plains.if_icmple {target = t}) there = numbers_jump jvm.if_icmple t refl refl
    plain_stands _ (plains.if_acmpeq {target = t}) there = singles.if_acmpeq_stands card_type is_of m new b rows label
        to p result n wide f r known w count place here o x t
    plain_stands _ (plains.if_acmpne {target = t}) there = singles.if_acmpne_stands card_type is_of m new b rows label
        to p result n wide f r known w count place here o x t
    plain_stands _ (plains.ifnull {target = t}) there = singles.ifnull_stands card_type is_of m new b rows label to p
        result n wide f r known w count place here o x t
    plain_stands _ (plains.ifnonnull {target = t}) there = singles.ifnonnull_stands card_type is_of m new b rows label
        to p result n wide f r known w count place here o x t
    plain_stands _ (plains.goto {target = t}) there = singles.goto_stands card_type is_of m new b rows label to p result
        n wide f r known w count place here o x t
    plain_stands _ (plains.tableswitch {other = other} {low = low} {targets = ts}) there = singles.table_stands
        card_type is_of m new b rows label to p result n wide f r known w count place here o x other low ts
    plain_stands _ (plains.lookupswitch {other = other} {cases = cases}) there = singles.lookup_stands card_type is_of m
        new b rows label to p result n wide f r known w count place here o x other cases

    module _ (low : most_words b.max_stack ≤ most_cells) (shapes : AreShapes card_type) (locals : length x.locals
        ≡ f.max_locals) (frame_is : f.result ≡ (let d = parts b.desc in let v = d.result in result_by v.kind v))
        (all : IsServedIn card_type is_of w p n r b result) where
      elements : (op : JOp) → guards.IsOnElement op → Standing op
      elements = element_stands card_type is_of m new b rows label to p result n wide f r known w count place here o x
          low all.arrays

      on_array : (op : JOp) → IsOnArray op → Standing op
      on_array _ on_arrays.arraylength = named.length_stands card_type is_of m new b rows label to p result n wide f r
          known w count place here o x all.arrays
      on_array _ on_arrays.aaload = elements (jop.ArrayLoad jvm.aaload) guards.aaload
      on_array _ on_arrays.baload = elements (jop.ArrayLoad jvm.baload) guards.baload
      on_array _ on_arrays.saload = elements (jop.ArrayLoad jvm.saload) guards.saload
      on_array _ on_arrays.aastore = elements (jop.ArrayStore jvm.aastore) guards.aastore
      on_array _ on_arrays.bastore = elements (jop.ArrayStore jvm.bastore) guards.bastore
      on_array _ on_arrays.sastore = elements (jop.ArrayStore jvm.sastore) guards.sastore

      pub served_stands : (op : JOp) → IsServed card_type is_of w p n r b op → ((k : ℕ) → local_of op ≡ Some k → k
          < length x.locals) → 2 * scratch_pairs_of op ≤ m.scratch → Standing op
      served_stands op (serves.plain is) there room = plain_stands op is there
      served_stands op (serves.on_array is) there room = on_array op is
      served_stands _ serves.loads_int there room = elements (jop.ArrayLoad jvm.iaload) guards.iaload
      served_stands _ serves.stores_int there room = elements (jop.ArrayStore jvm.iastore) guards.iastore
      served_stands _ (serves.returns {opcode = op} is) there room = return_stands card_type is_of m new b rows label to
          p result n wide f r known w count place here o x all.subtypes all.returned frame_is op is
      served_stands _ serves.throws there room = named.throw_stands card_type is_of m new b rows label to p result n
          wide f r known w count place here o x all.subtypes all.exceptions
      served_stands _ (serves.a_field {f = g} put is) there room = named.field_stands card_type is_of m new b rows label
          to p result n wide f r known w count place here o x all.subtypes g is put
      served_stands _ (serves.a_static {f = g} put is) there room = named.static_stands card_type is_of m new b rows
          label to p result n wide f r known w count place here o x all.subtypes g is put
      served_stands _ (serves.a_constant {f = g} z is told) there room = named.constant_stands card_type is_of m new b
          rows label to p result n wide f r known w count place here o x g z is told
      served_stands _ (serves.a_call {opcode = op} {m = id} is) there room = call_stands card_type is_of m new b rows
          label to p result n wide f r known w count place here o x all.subtypes shapes op id is args locals room
      served_stands _ (serves.an_object {c = c} class entry typed made) there room = named.object_stands card_type is_of
          m new b rows label to p result n wide f r known w count place here o x c class entry typed made
      served_stands _ (serves.an_array {c = c} class entry typed) there room = named.array_stands card_type is_of m new
          b rows label to p result n wide f r known w count place here o x c class entry typed
      served_stands _ (serves.an_array_of_numbers {number = kind} type is typed) there room = named.numbers_stand
          card_type is_of m new b rows label to p result n wide f r known w count place here o x kind type is typed
      served_stands _ (serves.a_cast {name = name} is) there room = named.cast_stands card_type is_of m new b rows label
          to p result n wide f r known w count place here o x name is
      served_stands _ (serves.a_test {name = name} is) there room = named.test_stands card_type is_of m new b rows label
          to p result n wide f r known w count place here o x name is

-- ---- a method

module _ (p : Package) (offset : ℕ) (laid : LaidMethod) (r : Resolution) (code : CodeTree) (b : BodyByName)
    (rows : List (Option State)) (ranges : List (Option RangeState)) (result : ValueType) (v : Body) (read
    : IsReadInIntMode (card_type p) (written_pair p) r code b rows ranges v) (is : IsServedMethod p r b rows result
    laid) where
  -- a local that an instruction names is one of the frame
  local_there : (at : ℕ) (i : JInsn) (x : State) → slice_get b.insns at ≡ Some i → HasRow rows at x → (k : ℕ)
      → local_of i.op ≡ Some k → k < length x.locals
  local_there at i x there row k e =
      let lt = is.decoded.locals at i k there e in
      let own = is.closed.own at x row in
      let locals = own.1 in
      let long = locals.sized in
      omega (arith, lt, long)

  insn_stands : (at : ℕ) (i : JInsn) (x : State) → slice_get b.insns at ≡ Some i → HasRow rows at x → StretchStands
      (card_type p) (is_of p) (room_of b rows ranges) (selected r b rows ranges (step_of p result offset laid)) b rows
      (label_in r b rows ranges) (label_at p offset laid) (let c = frames_of (written_pair p) v in c.local_count) at
      (label_in r b rows ranges i.at) i x
  insn_stands at i x there row =
      let own = is.closed.own at x row in
      let locals = own.1 in
      served_stands (card_type p) (is_of p) (room_of b rows ranges) (selected r b rows ranges (step_of p result offset
      laid)) b rows (label_in r b rows ranges) (label_at p offset laid) (written_pair p) result (names p) (is_wide p
      laid) (int_frame b) r (before i.op x (get_or ranges at None)) (world p) (let c = frames_of (written_pair p) v in
      c.local_count) at (label_in r b rows ranges i.at) i.at x refl refl (room_low b rows read.room) (shapes_named
      (world p) (class_ref p)) locals.sized (result_of_frame b read.is_desc read.is_method) is.in_code i.op (is.each at
      i x there row) (local_there at i x there row) (pairs_fit b rows ranges at i x there row) (is_right (world p) b
      rows is.decoded is.closed is.unbroken read.room at i x there row) refl

  pub insns_stand : InsnsStand p r b rows ranges (step_of p result offset laid) (label_at p offset laid) laid v
  insns_stand = record {
    stand = insn_stands;
    short = is_short (world p) b rows is.decoded is.closed is.unbroken read.room;
    caught = is.caught;
  }
