-- What an instruction makes of own states is own, and grows with them.
use Rattle.std.proofs.Common.{ℕ, Bool, true, false, cond, List, [], ◌∷◌, drop, slice_set, All, ◌∙◌}
use Rattle.std.specs.List.{AllZip}
use Rattle.std.proofs.lemmas.List.{length-set}
use Rattle.std.proofs.lemmas.List.Elements.{All-nil, All-append, All-drop, All-set}
use Rattle.cjc_bytes.specs.Descriptor.{Part}
use Rattle.cjc_code.specs.declared.insn.JOp.{JOp}
use Rattle.cjc_code.specs.declared.insn.JOp.TheVariants as jop
use Rattle.cjc_fixpoint.specs.Lattice.{IsListOf}
use Rattle.cjc_fixpoint.proofs.Lattices.{zip-slice_set}
use Rattle.cjc_types.specs.declared.cell.Cell.{Cell}
use Rattle.cjc_types.specs.declared.cell.Cell.TheVariants.{Number, Refs, Unusable}
use Rattle.cjc_types.specs.declared.state.Stack.{Stack}
use Rattle.cjc_types.specs.declared.state.Stack.TheVariants.{Cells, Clash}
use Rattle.cjc_types.specs.declared.state.State.{State}
use Rattle.cjc_types.specs.Cells.{IsCell, IsCellBelow, cells}
use Rattle.cjc_types.specs.Working.CellLaws.{below_refl}
use Rattle.cjc_types.specs.States.{IsStack, IsStackBelow, states}
use Rattle.cjc_types.specs.Working.OperandLaws.{one_own, read_own, all_read_own, below_same, below_append, below_drop}
use Rattle.cjc_types.specs.Working.OperandLaws.{read_up, all_read_up}
use Rattle.cjc_types.specs.Working.StateLaws.{own_stack_of, stack_of_up}
use Rattle.cjc_types.specs.Types.{parts, result_of}
use Rattle.cjc_types.specs.Working.TypeLaws.{own_one, own_null, own_result, own_element, element_up, own_reference}
use Rattle.cjc_types.specs.Working.TypeLaws.{reference_up}
use Rattle.cjc_types.specs.Steps.{operand, takes, shuffled, local_value, gives, stack_behind, stack_after, stored}
use Rattle.cjc_types.specs.Steps.{locals_after, after}

-- ---- lists of cells

-- the lists have one length, and each cell of the first is below that of the second in its place
abbrev pub AreBelow : List Cell → List Cell → Type 0
AreBelow xs ys = AllZip IsCellBelow xs ys

below_itself : (xs : List Cell) → AreBelow xs xs
below_itself xs = below_same IsCellBelow below_refl xs

-- an operand of own cells is own
pub own_operand : (xs : List Cell) (k : ℕ) → All IsCell xs → IsCell (operand xs k)
own_operand xs k h = read_own IsCell Unusable tt xs k h

-- an operand grows with the cells
pub operand_up : (xs ys : List Cell) (k : ℕ) → AreBelow xs ys → IsCellBelow (operand xs k) (operand ys k)
operand_up xs ys k h = read_up IsCellBelow Unusable tt xs ys k h

-- ---- what is given

own_local : (refs : Bool) (x : Cell) → IsCell x → IsCell (local_value refs x)
own_local true x own = own_reference x own
own_local false x own = tt

local_up : (refs : Bool) (x y : Cell) → IsCellBelow x y → IsCellBelow (local_value refs x) (local_value refs y)
local_up true x y h = reference_up x y h
local_up false x y h = tt

own_got : (put : Bool) (p : Part) → All IsCell (cond put [] (result_of p))
own_got true p = All-nil IsCell
own_got false p = own_result p

own_gives : (op : JOp) (locals s : List Cell) → All IsCell locals → All IsCell s → All IsCell (gives op locals s)
own_gives jop.Nop locals s own_l own_s = All-nil IsCell
own_gives jop.Null locals s own_l own_s = one_own IsCell (Refs []) own_null
own_gives (jop.Number z) locals s own_l own_s = one_own IsCell Number tt
own_gives (jop.Load refs k) locals s own_l own_s =
    one_own IsCell _ (own_local refs (operand locals k) (own_operand locals k own_l))
own_gives (jop.Store refs k) locals s own_l own_s = All-nil IsCell
own_gives (jop.ArrayLoad opcode) locals s own_l own_s =
    one_own IsCell _ (own_element opcode (operand s 1) (own_operand s 1 own_s))
own_gives (jop.ArrayStore opcode) locals s own_l own_s = All-nil IsCell
own_gives (jop.Stack opcode) locals s own_l own_s = all_read_own IsCell Unusable tt (shuffled opcode) s own_s
own_gives (jop.Arith opcode) locals s own_l own_s = one_own IsCell Number tt
own_gives (jop.Inc k by) locals s own_l own_s = All-nil IsCell
own_gives (jop.Narrow opcode) locals s own_l own_s = one_own IsCell Number tt
own_gives (jop.If opcode target) locals s own_l own_s = All-nil IsCell
own_gives (jop.Goto target) locals s own_l own_s = All-nil IsCell
own_gives (jop.TableSwitch other low targets) locals s own_l own_s = All-nil IsCell
own_gives (jop.LookupSwitch other cases) locals s own_l own_s = All-nil IsCell
own_gives (jop.Return opcode) locals s own_l own_s = All-nil IsCell
own_gives (jop.Static put field) locals s own_l own_s = own_got put (parts field.desc).result
own_gives (jop.Field put field) locals s own_l own_s = own_got put (parts field.desc).result
own_gives (jop.Call opcode method) locals s own_l own_s = own_result (parts method.desc).result
own_gives (jop.New class) locals s own_l own_s = one_own IsCell _ (own_one class)
own_gives (jop.NewArray number) locals s own_l own_s = one_own IsCell _ (own_one _)
own_gives (jop.ANewArray class) locals s own_l own_s = one_own IsCell _ (own_one _)
own_gives jop.ArrayLength locals s own_l own_s = one_own IsCell Number tt
own_gives jop.Throw locals s own_l own_s = All-nil IsCell
own_gives (jop.CheckCast class) locals s own_l own_s = one_own IsCell _ (own_one class)
own_gives (jop.InstanceOf class) locals s own_l own_s = one_own IsCell Number tt

gives_up : (op : JOp) (locals more s t : List Cell) → AreBelow locals more → AreBelow s t
    → AreBelow (gives op locals s) (gives op more t)
gives_up (jop.Load refs k) locals more s t h k' =
    (local_up refs (operand locals k) (operand more k) (operand_up locals more k h), tt)
gives_up (jop.ArrayLoad opcode) locals more s t h k =
    (element_up opcode (operand s 1) (operand t 1) (operand_up s t 1 k), tt)
gives_up (jop.Stack opcode) locals more s t h k = all_read_up IsCellBelow Unusable tt (shuffled opcode) s t k
gives_up jop.Nop locals more s t h k = tt
gives_up jop.Null locals more s t h k = below_itself (Refs [] ∷ [])
gives_up (jop.Number z) locals more s t h k = (tt, tt)
gives_up (jop.Store refs i) locals more s t h k = tt
gives_up (jop.ArrayStore opcode) locals more s t h k = tt
gives_up (jop.Arith opcode) locals more s t h k = (tt, tt)
gives_up (jop.Inc i by) locals more s t h k = tt
gives_up (jop.Narrow opcode) locals more s t h k = (tt, tt)
gives_up (jop.If opcode target) locals more s t h k = tt
gives_up (jop.Goto target) locals more s t h k = tt
gives_up (jop.TableSwitch other low targets) locals more s t h k = tt
gives_up (jop.LookupSwitch other cases) locals more s t h k = tt
gives_up (jop.Return opcode) locals more s t h k = tt
gives_up (jop.Static put field) locals more s t h k = below_itself (cond put [] (result_of (parts field.desc).result))
gives_up (jop.Field put field) locals more s t h k = below_itself (cond put [] (result_of (parts field.desc).result))
gives_up (jop.Call opcode method) locals more s t h k = below_itself (result_of (parts method.desc).result)
gives_up (jop.New class) locals more s t h k = (λ n is. is, tt)
gives_up (jop.NewArray number) locals more s t h k = (λ n is. is, tt)
gives_up (jop.ANewArray class) locals more s t h k = (λ n is. is, tt)
gives_up jop.ArrayLength locals more s t h k = (tt, tt)
gives_up jop.Throw locals more s t h k = tt
gives_up (jop.CheckCast class) locals more s t h k = (λ n is. is, tt)
gives_up (jop.InstanceOf class) locals more s t h k = (tt, tt)

-- ---- the stack

own_behind : (op : JOp) (locals s : List Cell) → All IsCell locals → All IsCell s
    → All IsCell (stack_behind op locals s)
own_behind op locals s own_l own_s = All-append IsCell (gives op locals s) (drop (takes op) s) (own_gives op locals s
    own_l own_s) (All-drop IsCell (takes op) s own_s)

-- the stack behind an instruction grows with the stack and the locals before it
pub behind_up : (op : JOp) (locals more s t : List Cell) → AreBelow locals more → AreBelow s t
    → AreBelow (stack_behind op locals s) (stack_behind op more t)
behind_up op locals more s t h k = below_append IsCellBelow (gives op locals s) (gives op more t) (drop (takes op) s)
    (drop (takes op) t) (gives_up op locals more s t h k) (below_drop IsCellBelow (takes op) s t k)

own_stack : (op : JOp) (locals : List Cell) (s : Stack) → All IsCell locals → IsStack s
    → IsStack (stack_after op locals s)
own_stack op locals Clash own_l own_s = tt
own_stack op locals (Cells s) own_l own_s = own_stack_of (stack_behind op locals s) (own_behind op locals s own_l
    own_s.own)

stack_up : (op : JOp) (locals more : List Cell) (s t : Stack) → AreBelow locals more → IsStackBelow s t
    → IsStackBelow (stack_after op locals s) (stack_after op more t)
stack_up op locals more s Clash h k = tt
stack_up op locals more Clash (Cells t) h k = absurd k
stack_up op locals more (Cells s) (Cells t) h k = stack_of_up (stack_behind op locals s) (stack_behind op more t)
    (behind_up op locals more s t h k)

-- ---- locals

own_stored : (refs : Bool) (s : Stack) → IsStack s → IsCell (stored refs s)
own_stored refs Clash own = tt
own_stored true (Cells s) own = own_reference (operand s 0) (own_operand s 0 own.own)
own_stored false (Cells s) own = tt

stored_up : (refs : Bool) (s t : Stack) → IsStackBelow s t → IsCellBelow (stored refs s) (stored refs t)
stored_up refs s Clash h = tt
stored_up refs Clash (Cells t) h = absurd h
stored_up true (Cells s) (Cells t) h = reference_up (operand s 0) (operand t 0) (operand_up s t 0 h)
stored_up false (Cells s) (Cells t) h = tt

own_set : (n : ℕ) (locals : List Cell) (k : ℕ) (x : Cell) → IsListOf cells n locals → IsCell x
    → IsListOf cells n (slice_set locals k x)
own_set n locals k x own own_x = record {
  sized = length-set locals k x ∙ own.sized;
  own = All-set IsCell locals k x own_x own.own;
}

own_locals : (op : JOp) (n : ℕ) (locals : List Cell) (s : Stack) → IsListOf cells n locals → IsStack s
    → IsListOf cells n (locals_after op locals s)
own_locals (jop.Store refs k) n locals s own_l own_s = own_set n locals k (stored refs s) own_l
    (own_stored refs s own_s)
own_locals (jop.Inc k by) n locals s own_l own_s = own_set n locals k Number own_l tt
own_locals _ n locals s own_l own_s = own_l

locals_up : (op : JOp) (locals more : List Cell) (s t : Stack) → AreBelow locals more → IsStackBelow s t
    → AreBelow (locals_after op locals s) (locals_after op more t)
locals_up (jop.Store refs i) locals more s t h k = zip-slice_set IsCellBelow locals more i (stored refs s)
    (stored refs t) h (stored_up refs s t k)
locals_up (jop.Inc i by) locals more s t h k = zip-slice_set IsCellBelow locals more i Number Number h tt
locals_up _ locals more s t h k = h

-- ---- states

-- the state behind an instruction is own where the state before it is
pub own_after : (op : JOp) (n : ℕ) (x : State) → (states n).Own x → (states n).Own (after op x)
own_after op n x own = (own_stack op x.locals x.stack own.1.own own.0, own_locals op n x.locals x.stack own.1 own.0)

-- the state behind an instruction grows with the state before it
pub after_up : (op : JOp) (n : ℕ) (x y : State) → (states n).Below x y → (states n).Below (after op x) (after op y)
after_up op n x y h = (
  stack_up op x.locals y.locals x.stack y.stack h.1 h.0,
  locals_up op x.locals y.locals x.stack
      y.stack h.1 h.0,
)
