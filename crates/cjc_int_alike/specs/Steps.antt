-- What an instruction of a method in int mode is, by both tables: a row, a jump, or nothing.
use Rattle.std.specs.Prelude.{◌≡◌, ◌⊎◌, ◌+◌, ℕ, true, List, [], length, take, drop, Option, Some}
use Rattle.std.specs.List.{Contains}
use Rattle.cjc_range.specs.Span.{Span}
use Rattle.cjc_code.specs.declared.insn.JOp.{JOp}
use Rattle.cjc_code.specs.declared.insn.JOp.TheVariants as jop
use Rattle.cjc_script.specs.declared.value.Value.{Value}
use Rattle.cjc_types.specs.declared.cell.Cell.{Cell}
use Rattle.cjc_types.specs.declared.state.State.{State}
use Rattle.cjc_types.specs.Search.{cells_of}
use Rattle.cjc_types.specs.Steps.{takes, goes_on, targets}
use Rattle.cjc_types.specs.Steps as typed
use Rattle.cjc_intervals.specs.Frames.{RangeState, spans_of}
use Rattle.cjc_intervals.specs.Steps.{gives, stack_behind, locals_after}
use Rattle.cjc_ncode.specs.ByLabel.{Named}
use Rattle.cjc_ncode.specs.Written.{Resolution}
use Rattle.cjc_jvm_semantics.specs.Linked.{Method, Linked}
use Rattle.cjc_jvm_semantics.specs.Effects.{Store}
use Rattle.cjc_jvm_semantics.specs.Effects as by_name
use Rattle.cjc_narrow_proof.specs.Selection.Relation.{Kind, AllWider}
use Rattle.cjc_narrow_proof.specs.Tables.Analysis.{Found}
use Rattle.cjc_narrow_proof.specs.Tables.Kinds.{kinds, kinds_from}
use Rattle.cjc_int_mode.specs.Written.{before, int_frame}
use Rattle.cjc_int_runs.specs.Rows.{IsIntRow, IsIntJump}

-- the instruction at a place of a method, with a row of both tables there
module _ (by : Linked) (l : Named) (r : Resolution) (f : Found) (m : Method) (at : ℕ) (op : JOp) (t : State)
    (x : RangeState) where
  -- the cells before it, and their intervals
  abbrev pub cells : List Cell
  cells = cells_of t.stack

  abbrev pub numbers : List Span
  numbers = spans_of x.stack

  -- the cells that it gives, and their intervals
  abbrev pub given : List Cell
  given = typed.gives op t.locals cells

  abbrev pub new : List Span
  new = gives r.constant op cells x.locals numbers

  -- the intervals of the stack behind it
  abbrev pub behind : List Span
  behind = stack_behind r.constant op cells x.locals numbers

  -- what is taken, what is given and what stays
  abbrev pub taken : List Kind
  taken = kinds l (take (takes op) cells) numbers

  abbrev pub after : List Kind
  after = kinds l given behind

  abbrev pub rest : List Kind
  rest = kinds_from l (takes op) (drop (takes op) cells) numbers

  -- the locals before it and behind it
  abbrev pub locals : List Kind
  locals = kinds l t.locals x.locals

  abbrev pub locals_behind : List Kind
  locals_behind = kinds l (typed.locals_after op t.locals t.stack) (locals_after op x.locals x.stack)

  -- Where the machine by name goes on behind it, it is one that goes on, or one of its targets stands there.
  abbrev pub MayFall : Type 0
  MayFall = (ls those : List (Option Value)) (store new : Store) (vs stack : List Value)
      → by_name.effect by m at ls store op vs ≡ by_name.Go (at + 1) stack those new → (goes_on op ≡ true)
      ⊎ ((o : ℕ) × Contains (targets op) o × (by_name.place m.insns o ≡ at + 1))

  -- Nothing is written for it; it has a row, which leaves cells of which no less is known than the tables say; or it
  -- jumps.
  pub data IntStep : Type 0 where
    is_nop : op ≡ jop.Nop → IntStep
    has_row : goes_on op ≡ true → (op ≡ jop.Nop → ⊥) → length given ≡ length new → (left : List Kind)
        → AllWider left after
        → IsIntRow by l (int_frame f.body) r m (before op t (Some x)) op taken left locals locals_behind → IntStep
    has_jump : given ≡ [] → new ≡ [] → locals_behind ≡ locals
        → IsIntJump by l (int_frame f.body) r m (before op t (Some x)) op taken (targets op) → MayFall → IntStep
