-- Which rows the instructions of a method in int mode have: what they take from the stack and leave there, and what is
-- asked of the intervals, types and names in them.
use Rattle.std.specs.Prelude.{◌≡◌, ℕ, ◌<◌, ℤ, pos, List, [], ◌∷◌, length, Bool, Some}
use Rattle.std.specs.Prelude.{None}
use Rattle.std.specs.Prelude.{true, false, slice_get, slice_set}
use Rattle.cjc_script.specs.Bytes.declared.fault.MemberId.{MemberId}
use Rattle.cjc_range.specs.Span.{Span, span, Holds, IsWord, Within, full, short_range}
use Rattle.cjc_range.specs.Rows.{add_row, sub_row, mul_row, neg_row, div_row, rem_row, shl_row, shr_row}
use Rattle.cjc_range.specs.Rows.{ushr_row, and_row, or_row, to_byte_row, to_short_row}
use Rattle.cjc_int_proof.specs.Bytecode.Jvm as jvm
use Rattle.cjc_int_proof.specs.Bytecode.declared.insn.JCase.{JCase}
use Rattle.cjc_int_proof.specs.Bytecode.declared.insn.JOp.{JOp}
use Rattle.cjc_int_proof.specs.Bytecode.declared.insn.JOp.TheVariants as jop
use Rattle.cjc_script.specs.Sorts.{Shape, Sort, Int, Reference, OfClass, OfNumbers, OfReferences, field_sort}
use Rattle.cjc_script.specs.Sorts.{Booleans, Bytes, Shorts, Ints}
use Rattle.cjc_ncode.specs.ByLabel.{Named}
use Rattle.cjc_ncode.specs.Written.{Resolution}
use Rattle.cjc_ncode.specs.IntCode.IntCode.{Before, Frame, is_short}
use Rattle.cjc_jvm_semantics.specs.Linked.{Method, Linked}
use Rattle.cjc_narrow_proof.specs.Selection.Relation.{Kind, Range, Refers, boolean_range}
use Rattle.cjc_narrow_proof.specs.Selection.Elements.{index_range, IsBytes, IsShorts, AreAll, AreArrays}
use Rattle.cjc_narrow_proof.specs.Selection.Elements.{ElementsLie, IsReferences, ItemsPass, KeepsAlike}
use Rattle.cjc_narrow_proof.specs.Selection.Rows.{kind_of}
use Rattle.cjc_int_runs.specs.Relation.{type_range}
use Rattle.cjc_int_runs.specs.Fields.{IntFieldIsThere, IntCellIsThere, MayBePutInt}
use Rattle.cjc_narrow_proof.specs.Selection.Cells.{IsConstant}
use Rattle.cjc_narrow_proof.specs.Selection.Objects.{IsMade, IsClassThere, IsTypeThere}
use Rattle.cjc_narrow_proof.specs.Selection.Switches.{targets_of}
use Rattle.cjc_int_runs.specs.Elements.{IsInts}
use Rattle.cjc_int_runs.specs.Steps.{known}

-- the frame of what is written, how names are resolved, and the method
module _ (by : Linked) (l : Named) (f : Frame) (r : Resolution) (m : Method) where
  -- An instruction that goes on behind itself or raises: what is known before it, it itself, the cells that it takes
  -- and
  -- leaves, and the locals before and behind it.
  pub data IsIntRow : Before → JOp → (before after ls js : List Kind) → Type 0 where
    iadd_row : (b : Before) (ls : List Kind) (s t : Span)
        → IsIntRow b (jop.Arith jvm.iadd) (Range t ∷ Range s ∷ []) (Range (add_row s t) ∷ []) ls ls
    isub_row : (b : Before) (ls : List Kind) (s t : Span)
        → IsIntRow b (jop.Arith jvm.isub) (Range t ∷ Range s ∷ []) (Range (sub_row s t) ∷ []) ls ls
    imul_row : (b : Before) (ls : List Kind) (s t : Span)
        → IsIntRow b (jop.Arith jvm.imul) (Range t ∷ Range s ∷ []) (Range (mul_row s t) ∷ []) ls ls
    idiv_row : (b : Before) (ls : List Kind) (s t : Span)
        → IsIntRow b (jop.Arith jvm.idiv) (Range t ∷ Range s ∷ []) (Range (div_row s t) ∷ []) ls ls
    irem_row : (b : Before) (ls : List Kind) (s t : Span) → IsWord s → IsWord t
        → IsIntRow b (jop.Arith jvm.irem) (Range t ∷ Range s ∷ []) (Range (rem_row s t) ∷ []) ls ls
    ishl_row : (b : Before) (ls : List Kind) (s t : Span)
        → IsIntRow b (jop.Arith jvm.ishl) (Range t ∷ Range s ∷ []) (Range (shl_row s t) ∷ []) ls ls
    ishr_row : (b : Before) (ls : List Kind) (s t : Span) → IsWord s → IsWord t
        → IsIntRow b (jop.Arith jvm.ishr) (Range t ∷ Range s ∷ []) (Range (shr_row s t) ∷ []) ls ls
    iushr_row : (b : Before) (ls : List Kind) (s t : Span) → IsWord s → IsWord t
        → IsIntRow b (jop.Arith jvm.iushr) (Range t ∷ Range s ∷ []) (Range (ushr_row s t) ∷ []) ls ls
    iand_row : (b : Before) (ls : List Kind) (s t : Span) → IsWord s → IsWord t
        → IsIntRow b (jop.Arith jvm.iand) (Range t ∷ Range s ∷ []) (Range (and_row s t) ∷ []) ls ls
    ior_row : (b : Before) (ls : List Kind) (s t : Span) → IsWord s → IsWord t
        → IsIntRow b (jop.Arith jvm.ior) (Range t ∷ Range s ∷ []) (Range (or_row s t) ∷ []) ls ls
    ixor_row : (b : Before) (ls : List Kind) (s t : Span) → IsWord s → IsWord t
        → IsIntRow b (jop.Arith jvm.ixor) (Range t ∷ Range s ∷ []) (Range (or_row s t) ∷ []) ls ls
    ineg_row : (b : Before) (ls : List Kind) (s : Span)
        → IsIntRow b (jop.Arith jvm.ineg) (Range s ∷ []) (Range (neg_row s) ∷ []) ls ls
    i2b_row : (b : Before) (ls : List Kind) (s : Span)
        → IsIntRow b (jop.Narrow jvm.i2b) (Range s ∷ []) (Range (to_byte_row s) ∷ []) ls ls
    i2s_row : (b : Before) (ls : List Kind) (s : Span)
        → IsIntRow b (jop.Narrow jvm.i2s) (Range s ∷ []) (Range (to_short_row s) ∷ []) ls ls
    nop_row : (b : Before) (ls : List Kind) → IsIntRow b jop.Nop [] [] ls ls
    aconst_null_row : (b : Before) (ls : List Kind) (within : Shape (List ℕ) → Bool)
        → IsIntRow b jop.Null [] (Refers within ∷ []) ls ls
    number_row : (b : Before) (ls : List Kind) (z : ℤ) (s : Span) → Holds full z → Holds s z
        → IsIntRow b (jop.Number z) [] (Range s ∷ []) ls ls
    iload_row : (b : Before) (ls : List Kind) (n : ℕ) (s : Span) → slice_get ls n ≡ Some (Range s)
        → IsIntRow b (jop.Load false n) [] (Range s ∷ []) ls ls
    aload_row : (b : Before) (ls : List Kind) (n : ℕ) (within : Shape (List ℕ) → Bool)
        → slice_get ls n ≡ Some (Refers within) → IsIntRow b (jop.Load true n) [] (Refers within ∷ []) ls ls
    istore_row : (b : Before) (ls : List Kind) (n : ℕ) (s : Span) → n < length ls
        → IsIntRow b (jop.Store false n) (Range s ∷ []) [] ls (slice_set ls n (Range s))
    astore_row : (b : Before) (ls : List Kind) (n : ℕ) (within : Shape (List ℕ) → Bool) → n < length ls
        → IsIntRow b (jop.Store true n) (Refers within ∷ []) [] ls (slice_set ls n (Refers within))
    iinc_row : (b : Before) (ls : List Kind) (n : ℕ) (s : Span) (z : ℤ) → slice_get ls n ≡ Some (Range s)
        → n < length ls → Holds short_range z
        → IsIntRow b (jop.Inc n z) [] [] ls (slice_set ls n (Range (add_row s (span z z))))
    dup_row : (ls : List Kind) (below : List Bool) (inside : Bool) (a : Kind)
        → IsIntRow (known (a ∷ []) below inside) (jop.Stack jvm.dup) (a ∷ []) (a ∷ a ∷ []) ls ls
    dup_x1_row : (ls : List Kind) (below : List Bool) (inside : Bool) (a b : Kind)
        → IsIntRow (known (a ∷ b ∷ []) below inside) (jop.Stack jvm.dup_x1) (a ∷ b ∷ []) (a ∷ b ∷ a ∷ []) ls ls
    dup_x2_row : (ls : List Kind) (below : List Bool) (inside : Bool) (a b c : Kind)
        → IsIntRow (known (a ∷ b ∷ c ∷ []) below inside) (jop.Stack jvm.dup_x2) (a ∷ b ∷ c ∷ []) (a ∷ b ∷ c ∷ a ∷
        []) ls ls
    dup2_row : (ls : List Kind) (below : List Bool) (inside : Bool) (a b : Kind)
        → IsIntRow (known (a ∷ b ∷ []) below inside) (jop.Stack jvm.dup2) (a ∷ b ∷ []) (a ∷ b ∷ a ∷ b ∷ []) ls ls
    dup2_x1_row : (ls : List Kind) (below : List Bool) (inside : Bool) (a b c : Kind)
        → IsIntRow (known (a ∷ b ∷ c ∷ []) below inside) (jop.Stack jvm.dup2_x1) (a ∷ b ∷ c ∷ []) (a ∷ b ∷ c ∷ a ∷
        b ∷ []) ls ls
    dup2_x2_row : (ls : List Kind) (below : List Bool) (inside : Bool) (a b c d : Kind)
        → IsIntRow (known (a ∷ b ∷ c ∷ d ∷ []) below inside) (jop.Stack jvm.dup2_x2) (a ∷ b ∷ c ∷ d ∷ []) (a ∷ b ∷
        c ∷ d ∷ a ∷ b ∷ []) ls ls
    pop_row : (ls : List Kind) (below : List Bool) (inside : Bool) (a : Kind)
        → IsIntRow (known (a ∷ []) below inside) (jop.Stack jvm.pop) (a ∷ []) ([]) ls ls
    pop2_row : (ls : List Kind) (below : List Bool) (inside : Bool) (a b : Kind)
        → IsIntRow (known (a ∷ b ∷ []) below inside) (jop.Stack jvm.pop2) (a ∷ b ∷ []) ([]) ls ls
    swap_row : (ls : List Kind) (below : List Bool) (inside : Bool) (a b : Kind)
        → IsIntRow (known (a ∷ b ∷ []) below inside) (jop.Stack jvm.swap) (a ∷ b ∷ []) (b ∷ a ∷ []) ls ls
    baload_row : (ls : List Kind) (below : List Bool) (inside : Bool) (s t : Span) (within : Shape (List ℕ) → Bool)
        → (inside ≡ true → Within s index_range) → AreAll l IsBytes within → ElementsLie within t
        → IsIntRow (known (Range s ∷ Refers within ∷ []) below inside) (jop.ArrayLoad jvm.baload) (Range s ∷ Refers
        within ∷ []) (Range t ∷ []) ls ls
    saload_row : (ls : List Kind) (below : List Bool) (inside : Bool) (s t : Span) (within : Shape (List ℕ) → Bool)
        → (inside ≡ true → Within s index_range) → AreAll l IsShorts within → ElementsLie within t
        → IsIntRow (known (Range s ∷ Refers within ∷ []) below inside) (jop.ArrayLoad jvm.saload) (Range s ∷ Refers
        within ∷ []) (Range t ∷ []) ls ls
    iaload_row : (ls : List Kind) (below : List Bool) (inside : Bool) (s t : Span) (within : Shape (List ℕ) → Bool)
        → (inside ≡ true → Within s index_range) → AreAll l IsInts within → Within full t
        → IsIntRow (known (Range s ∷ Refers within ∷ []) below inside) (jop.ArrayLoad jvm.iaload) (Range s ∷ Refers
        within ∷ []) (Range t ∷ []) ls ls
    bastore_row : (ls : List Kind) (below : List Bool) (inside : Bool) (s t : Span) (within : Shape (List ℕ) → Bool)
        → (inside ≡ true → Within s index_range) → AreAll l IsBytes within → (within (OfNumbers Booleans) ≡ true
        → Within t boolean_range)
        → IsIntRow (known (Range t ∷ Range s ∷ Refers within ∷ []) below inside) (jop.ArrayStore jvm.bastore)
        (Range t ∷ Range s ∷ Refers within ∷ []) [] ls ls
    sastore_row : (ls : List Kind) (below : List Bool) (inside : Bool) (s t : Span) (within : Shape (List ℕ) → Bool)
        → (inside ≡ true → Within s index_range) → AreAll l IsShorts within
        → IsIntRow (known (Range t ∷ Range s ∷ Refers within ∷ []) below inside) (jop.ArrayStore jvm.sastore)
        (Range t ∷ Range s ∷ Refers within ∷ []) [] ls ls
    iastore_row : (ls : List Kind) (below : List Bool) (inside : Bool) (s t : Span) (within : Shape (List ℕ) → Bool)
        → (inside ≡ true → Within s index_range) → AreAll l IsInts within
        → IsIntRow (known (Range t ∷ Range s ∷ Refers within ∷ []) below inside) (jop.ArrayStore jvm.iastore)
        (Range t ∷ Range s ∷ Refers within ∷ []) [] ls ls
    getfield_row : (b : Before) (ls : List Kind) (named : MemberId) (within : Shape (List ℕ) → Bool)
        → IntFieldIsThere by l r m named within
        → IsIntRow b (jop.Field false named) (Refers within ∷ []) (kind_of l (field_sort named.desc) ∷ []) ls ls
    arraylength_row : (b : Before) (ls : List Kind) (within : Shape (List ℕ) → Bool) → AreArrays l within
        → IsIntRow b jop.ArrayLength (Refers within ∷ []) (Range (span (pos 0) (pos 32767)) ∷ []) ls ls
    cell_row : (b : Before) (ls : List Kind) (named : MemberId) → IntCellIsThere by l r m named
        → IsIntRow b (jop.Static false named) [] (kind_of l (field_sort named.desc) ∷ []) ls ls
    constant_row : (b : Before) (ls : List Kind) (named : MemberId) (z : ℤ) (s : Span) → IsConstant by r m named z
        → Holds full z → Holds s z → IsIntRow b (jop.Static false named) [] (Range s ∷ []) ls ls
    putfield_row : (b : Before) (ls : List Kind) (named : MemberId) (k : Kind) (within : Shape (List ℕ) → Bool)
        → IntFieldIsThere by l r m named within → MayBePutInt l (field_sort named.desc) k
        → IsIntRow b (jop.Field true named) (k ∷ Refers within ∷ []) [] ls ls
    putstatic_row : (b : Before) (ls : List Kind) (named : MemberId) (k : Kind) → IntCellIsThere by l r m named
        → MayBePutInt l (field_sort named.desc) k → IsIntRow b (jop.Static true named) (k ∷ []) [] ls ls
    new_row : (b : Before) (ls : List Kind) (within : Shape (List ℕ) → Bool) (class : List ℕ) → IsMade by l m class
        → within (OfClass class) ≡ true → IsIntRow b (jop.New class) [] (Refers within ∷ []) ls ls
    booleans_row : (b : Before) (ls : List Kind) (within : Shape (List ℕ) → Bool) (s : Span) → Within s short_range
        → within (OfNumbers Booleans) ≡ true → IsIntRow b (jop.NewArray 4) (Range s ∷ []) (Refers within ∷ []) ls ls
    bytes_row : (b : Before) (ls : List Kind) (within : Shape (List ℕ) → Bool) (s : Span) → Within s short_range
        → within (OfNumbers Bytes) ≡ true → IsIntRow b (jop.NewArray 8) (Range s ∷ []) (Refers within ∷ []) ls ls
    shorts_row : (b : Before) (ls : List Kind) (within : Shape (List ℕ) → Bool) (s : Span) → Within s short_range
        → within (OfNumbers Shorts) ≡ true → IsIntRow b (jop.NewArray 9) (Range s ∷ []) (Refers within ∷ []) ls ls
    ints_row : (b : Before) (ls : List Kind) (within : Shape (List ℕ) → Bool) (s : Span) → Within s short_range
        → within (OfNumbers Ints) ≡ true → IsIntRow b (jop.NewArray 10) (Range s ∷ []) (Refers within ∷ []) ls ls
    anewarray_row : (b : Before) (ls : List Kind) (within : Shape (List ℕ) → Bool) (s : Span) → Within s short_range
        → (class : List ℕ) → IsClassThere by l m class → within (OfReferences class) ≡ true
        → IsIntRow b (jop.ANewArray class) (Range s ∷ []) (Refers within ∷ []) ls ls
    checkcast_row : (b : Before) (ls : List Kind) (type : List ℕ) (there : IsTypeThere by l m type) (within after :
        Shape (List ℕ)
        → Bool) → ((kind : Shape (List ℕ)) → within kind ≡ true → l.is_of kind there.kind ≡ true
        → after kind ≡ true) → IsIntRow b (jop.CheckCast type) (Refers within ∷ []) (Refers after ∷ []) ls ls
    instanceof_row : (b : Before) (ls : List Kind) (type : List ℕ) → IsTypeThere by l m type
        → (within : Shape (List ℕ) → Bool)
        → IsIntRow b (jop.InstanceOf type) (Refers within ∷ []) (Range boolean_range ∷ []) ls ls
    aaload_row : (ls : List Kind) (below : List Bool) (inside : Bool) (s : Span) (within items : Shape (List ℕ)
        → Bool) → (inside ≡ true → Within s index_range) → AreAll l IsReferences within → ItemsPass l within items
        → IsIntRow (known (Range s ∷ Refers within ∷ []) below inside) (jop.ArrayLoad jvm.aaload) (Range s ∷ Refers
        within ∷ []) (Refers items ∷ []) ls ls
    aastore_row : (ls : List Kind) (below : List Bool) (inside : Bool) (s : Span) (within items : Shape (List ℕ)
        → Bool) → (inside ≡ true → Within s index_range) → AreAll l IsReferences within
        → KeepsAlike by l m within items
        → IsIntRow (known (Refers items ∷ Range s ∷ Refers within ∷ []) below inside) (jop.ArrayStore jvm.aastore)
        (Refers items ∷ Range s ∷ Refers within ∷ []) [] ls ls

  -- one that jumps: the cells that it takes, and the offsets to which it may lead
  pub data IsIntJump : Before → JOp → (before : List Kind) → (offsets : List ℕ) → Type 0 where
    goto_jump : (b : Before) (target : ℕ) → IsIntJump b (jop.Goto target) [] (target ∷ [])
    ifeq_jump : (b : Before) (target : ℕ) (s : Span)
        → IsIntJump b (jop.If jvm.ifeq target) (Range s ∷ []) (target ∷ [])
    ifne_jump : (b : Before) (target : ℕ) (s : Span)
        → IsIntJump b (jop.If jvm.ifne target) (Range s ∷ []) (target ∷ [])
    iflt_jump : (b : Before) (target : ℕ) (s : Span)
        → IsIntJump b (jop.If jvm.iflt target) (Range s ∷ []) (target ∷ [])
    ifge_jump : (b : Before) (target : ℕ) (s : Span)
        → IsIntJump b (jop.If jvm.ifge target) (Range s ∷ []) (target ∷ [])
    ifgt_jump : (b : Before) (target : ℕ) (s : Span)
        → IsIntJump b (jop.If jvm.ifgt target) (Range s ∷ []) (target ∷ [])
    ifle_jump : (b : Before) (target : ℕ) (s : Span)
        → IsIntJump b (jop.If jvm.ifle target) (Range s ∷ []) (target ∷ [])
    if_icmpeq_jump : (b : Before) (target : ℕ) (s t : Span)
        → IsIntJump b (jop.If jvm.if_icmpeq target) (Range t ∷ Range s ∷ []) (target ∷ [])
    if_icmpne_jump : (b : Before) (target : ℕ) (s t : Span)
        → IsIntJump b (jop.If jvm.if_icmpne target) (Range t ∷ Range s ∷ []) (target ∷ [])
    if_icmplt_jump : (b : Before) (target : ℕ) (s t : Span)
        → IsIntJump b (jop.If jvm.if_icmplt target) (Range t ∷ Range s ∷ []) (target ∷ [])
    if_icmpge_jump : (b : Before) (target : ℕ) (s t : Span)
        → IsIntJump b (jop.If jvm.if_icmpge target) (Range t ∷ Range s ∷ []) (target ∷ [])
    if_icmpgt_jump : (b : Before) (target : ℕ) (s t : Span)
        → IsIntJump b (jop.If jvm.if_icmpgt target) (Range t ∷ Range s ∷ []) (target ∷ [])
    if_icmple_jump : (b : Before) (target : ℕ) (s t : Span)
        → IsIntJump b (jop.If jvm.if_icmple target) (Range t ∷ Range s ∷ []) (target ∷ [])
    ifnull_jump : (b : Before) (target : ℕ) (within : Shape (List ℕ) → Bool)
        → IsIntJump b (jop.If jvm.ifnull target) (Refers within ∷ []) (target ∷ [])
    ifnonnull_jump : (b : Before) (target : ℕ) (within : Shape (List ℕ) → Bool)
        → IsIntJump b (jop.If jvm.ifnonnull target) (Refers within ∷ []) (target ∷ [])
    if_acmpeq_jump : (b : Before) (target : ℕ) (within within' : Shape (List ℕ) → Bool)
        → IsIntJump b (jop.If jvm.if_acmpeq target) (Refers within ∷ Refers within' ∷ []) (target ∷ [])
    if_acmpne_jump : (b : Before) (target : ℕ) (within within' : Shape (List ℕ) → Bool)
        → IsIntJump b (jop.If jvm.if_acmpne target) (Refers within ∷ Refers within' ∷ []) (target ∷ [])
    tableswitch_jump : (b : Before) (s : Span) (other : ℕ) (low : ℤ) (targets : List ℕ)
        → IsIntJump b (jop.TableSwitch other low targets) (Range s ∷ []) (other ∷ targets)
    lookupswitch_jump : (b : Before) (s : Span) (other : ℕ) (cases : List JCase)
        → IsIntJump b (jop.LookupSwitch other cases) (Range s ∷ []) (other ∷ targets_of cases)

  -- one that returns these cells
  pub data IsIntReturn : Before → JOp → (kinds : List Kind) → Type 0 where
    int_return : (b : Before) (s : Span) → f.result ≡ Some Int → IsIntReturn b (jop.Return jvm.ireturn) (Range s ∷ [])
    short_return : (b : Before) (sort : Sort) (s : Span) → f.result ≡ Some sort → is_short sort ≡ true
        → Within s (type_range sort) → IsIntReturn b (jop.Return jvm.ireturn) (Range s ∷ [])
    reference_return : (b : Before) (shape : Shape (List ℕ)) (within : Shape (List ℕ) → Bool)
        → f.result ≡ Some (Reference shape) → IsIntReturn b (jop.Return jvm.areturn) (Refers within ∷ [])
    nothing_return : (b : Before) → f.result ≡ None → IsIntReturn b (jop.Return jvm.return) []
