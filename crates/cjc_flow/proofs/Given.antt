-- What an instruction does by the elements of its array is what it does by the types of its stack.
use Rattle.std.proofs.Common.{◌≡◌, List, ◌++◌, drop, Option, refl, ap, ◌∙◌, ℤ}
use Rattle.cjc_range.specs.Span.{Span}
use Rattle.cjc_types.specs.Bytecode.declared.insn.JOp.{JOp}
use Rattle.cjc_types.specs.Bytecode.declared.insn.JOp.TheVariants as jop
use Rattle.cjc_types.specs.declared.cell.Cell.{Cell}
use Rattle.cjc_types.specs.Steps.{takes}
use Rattle.cjc_intervals.specs.Frames.{StackOf, Cells, Clash, RangeState, stack_of}
use Rattle.cjc_intervals.specs.Steps.{gives, stack_after, locals_after, after}
use Rattle.cjc_flow.specs.Working.Given.{element_given, given_by, stack_by, after_by}

given_same : (value : Option ℤ) (op : JOp) (types : List Cell) (locals s : List Span)
    → given_by value (element_given op types) op locals s ≡ gives (λ _. value) op types locals s
given_same value (jop.ArrayLoad opcode) types locals s = refl
given_same value _ types locals s = refl

stack_same : (value : Option ℤ) (op : JOp) (types : List Cell) (locals : List Span) (s : StackOf Span)
    → stack_by value (element_given op types) op locals s ≡ stack_after (λ _. value) op types locals s
stack_same value op types locals Clash = refl
stack_same value op types locals (Cells s) = ap (λ (xs : List Span). stack_of (xs ++ drop (takes op) s))
    (given_same value op types locals s)

pub after_same : (value : Option ℤ) (element : Span) (op : JOp) (types : List Cell) (x : RangeState)
    → element ≡ element_given op types → after_by value element op x ≡ after (λ _. value) op types x
after_same value element op types x is =
    let make : StackOf Span → RangeState = λ s. record { stack = s; locals = locals_after op x.locals x.stack } in
    ap (λ (e : Span). make (stack_by value e op x.locals x.stack)) is
    ∙ ap make (stack_same value op types x.locals x.stack)

-- A store gives nothing, so it doesn't matter whether the locals are those before it or behind it.
given_later : (value : Option ℤ) (element : Span) (op : JOp) (locals : List Span) (stack : StackOf Span) (s : List Span)
    → given_by value element op (locals_after op locals stack) s ≡ given_by value element op locals s
given_later value element (jop.Store refs k) locals stack s = refl
given_later value element (jop.Inc k by) locals stack s = refl
given_later value element (jop.ArrayLoad opcode) locals stack s = refl
given_later value element _ locals stack s = refl

pub stack_later : (value : Option ℤ) (element : Span) (op : JOp) (locals : List Span) (s : StackOf Span)
    → stack_by value element op (locals_after op locals s) s ≡ stack_by value element op locals s
stack_later value element op locals Clash = refl
stack_later value element op locals (Cells s) = ap (λ (xs : List Span). stack_of (xs ++ drop (takes op) s))
    (given_later value element op locals (Cells s) s)

pub state_later : (value : Option ℤ) (element : Span) (op : JOp) (x : RangeState) (locals later : List Span)
    (stack after : StackOf Span) → record { stack = stack; locals = locals } ≡ x → later ≡ locals_after op locals stack
    → after ≡ stack_by value element op later stack → record { stack = after; locals = later } ≡ after_by value element
    op x
state_later value element op x locals later stack after is is_later is_after =
    let make : StackOf Span → List Span → RangeState = λ s l. record { stack = s; locals = l } in
    ap (λ (s : StackOf Span). make s later) (is_after ∙ ap (λ (l : List Span). stack_by value element op l stack)
    is_later ∙ stack_later value element op locals stack)
    ∙ ap (make (stack_by value element op locals stack)) is_later
    ∙ ap (after_by value element op) is
