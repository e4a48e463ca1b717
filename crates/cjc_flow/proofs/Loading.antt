-- What array loads give, instruction by instruction.
use Rattle.std.proofs.Common.{◌≡◌, ◌≤◌, ◌+◌, ℕ, zero, suc, List, [], ◌∷◌, ◌++◌, take, length, slice_get, get_or, Option}
use Rattle.std.proofs.Common.{Some, None, sym, ap, ◌∙◌, arith}
use Rattle.std.proofs.lemmas.List.{take_more}
use Rattle.std.proofs.lemmas.Option.{slice_get_within, slice_get-get_or, get_or_from_slice_get}
use Rattle.cjc_fixpoint.proofs.Runs.{full_sized}
use Rattle.cjc_range.specs.Span.{Span}
use Rattle.cjc_types.specs.Bytecode.declared.insn.JInsn.{JInsn}
use Rattle.cjc_types.specs.declared.state.State.{State}
use Rattle.cjc_types.specs.declared.table.TypeTable.{TypeTable}
use Rattle.cjc_types.specs.Flow.{Body, type_flow}
use Rattle.cjc_types.specs.Tables.{rows_of, states_of}
use Rattle.cjc_flow.specs.Working.Given.{element_at, elements_of}

elements_read : (insns : List JInsn) (rows : List (Option State)) (k : ℕ) (i : JInsn) (row : Option State)
    → slice_get insns k ≡ Some i → slice_get rows k ≡ Some row → slice_get (elements_of insns rows) k
    ≡ Some (element_at i row)
elements_read [] rows k i row is there = absurd cc
elements_read (j ∷ insns) [] k i row is there = absurd cc
elements_read (j ∷ insns) (o ∷ rows) zero i row is there =
    let insn : j ≡ i = cc in
    let same : o ≡ row = cc in
    ap (λ (n : JInsn). Some (element_at n o)) insn ∙ ap (λ (p : Option State). Some (element_at i p)) same
elements_read (j ∷ insns) (o ∷ rows) (suc k) i row is there = elements_read insns rows k i row is there

pub elements_step : (insns : List JInsn) (rows : List (Option State)) (k : ℕ) (i : JInsn) (row : Option State)
    (e : Option Span) (before after : List (Option Span)) → slice_get insns k ≡ Some i → slice_get rows k ≡ Some row
    → e ≡ element_at i row → before ≡ take k (elements_of insns rows) → after ≡ before ++ e ∷ []
    → after ≡ take (k + 1) (elements_of insns rows)
elements_step insns rows k i row e before after is there is_e was now =
    let found = elements_read insns rows k i row is there in
    let lt = slice_get_within (elements_of insns rows) k (element_at i row) found in
    let read = get_or_from_slice_get (elements_of insns rows) k (element_at i row) e found in
    now ∙ ap (λ (xs : List (Option Span)). xs ++ e ∷ []) was ∙ ap (λ (v : Option Span). take k (elements_of insns rows)
    ++ v ∷ []) (is_e ∙ sym read) ∙ sym (take_more (elements_of insns rows) k e lt)

pub elements_few : (insns : List JInsn) (rows : List (Option State)) → length (elements_of insns rows) ≤ length insns
elements_few [] rows = omega arith
elements_few (i ∷ insns) [] = omega arith
elements_few (i ∷ insns) (o ∷ rows) = let rest = elements_few insns rows in omega (arith, rest)

pub rows_sized : (b : Body) (types : TypeTable) → length (rows_of b types) ≡ length b.insns
rows_sized b types = full_sized (type_flow b) types.marks (states_of types.frames) (length b.insns)

element_is : (b : Body) (types : TypeTable) (at : ℕ) (insn : JInsn) → slice_get b.insns at ≡ Some insn
    → slice_get (elements_of b.insns (rows_of b types)) at ≡ Some (element_at insn (get_or (rows_of b types) at None))
element_is b types at insn is =
    let lt = slice_get_within b.insns at insn is in
    let sized = rows_sized b types in
    elements_read b.insns (rows_of b types) at insn (get_or (rows_of b types) at None) is
    (slice_get-get_or (rows_of b types) at None (omega (arith, lt, sized)))

pub element_kept : (b : Body) (types : TypeTable) (elements : List (Option Span))
    → elements ≡ elements_of b.insns (rows_of b types) → (at : ℕ) (insn : JInsn) → slice_get b.insns at ≡ Some insn
    → get_or elements at None ≡ element_at insn (get_or (rows_of b types) at None)
element_kept b types elements h at insn is =
    ap (λ (es : List (Option Span)). get_or es at None) h
    ∙ get_or_from_slice_get (elements_of b.insns (rows_of b types)) at (element_at insn (get_or (rows_of b types) at
    None)) None (element_is b types at insn is)
