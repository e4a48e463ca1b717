-- When a method in int mode can be selected, and how what is known before its instructions stands for its least tables.
use Rattle.std.specs.Prelude.{◌≡◌, ℕ, ◌+◌, ◌<◌, ◌≤◌, List, [], ◌∷◌, length, map, get_or, slice_get, Option, Some, None}
use Rattle.std.specs.Prelude.{option_map, true}
use Rattle.cjc_int_mode.specs.Bytecode.declared.insn.JInsn.{JInsn}
use Rattle.cjc_int_mode.specs.Bytecode.declared.insn.JOp.{JOp}
use Rattle.cjc_int_mode.specs.Bytecode.declared.insn.JOp.TheVariants as jop
use Rattle.cjc_int_mode.specs.Bytecode.Jvm as jvm
use Rattle.cjc_ncode.specs.Written.{nargs_of}
use Rattle.cjc_ncode.specs.IntCode.IntCode.{Before as TableRow}
use Rattle.cjc_narrow.specs.Written.Operands.{IsAscending, IsByte}
use Rattle.cjc_int_mode.specs.Fixpoint.Tables.{HasRow}
use Rattle.cjc_narrow.specs.Types.declared.state.State.{State}
use Rattle.cjc_narrow.specs.Types.Flow.{Body}
use Rattle.cjc_int_mode.specs.Intervals.Frames.{RangeState}
use Rattle.cjc_int_mode.specs.declared.modes.Mode.TheVariants as modes
use Rattle.cjc_int_mode.specs.Room.{IsRoom}
use Rattle.cjc_int_mode.specs.Written.{before, int_frame}
use Rattle.cjc_int_narrow.specs.declared.known.Before.{Before}
use Rattle.cjc_int_narrow.specs.Reached.{known}

-- The local of an instruction is one of the method's, and one byte can say the words of the method that an
-- invokeinterface (0xB9) calls.
abbrev pub OperandsStand : (max_locals : ℕ) → JOp → Type 0
OperandsStand max_locals (jop.Load refs local) = local < max_locals
OperandsStand max_locals (jop.Store refs local) = local < max_locals
OperandsStand max_locals (jop.Inc local by) = local < max_locals
OperandsStand max_locals (jop.Call op method) = op ≡ jvm.invokeinterface → IsByte (nargs_of method)
OperandsStand max_locals _ = Unit {0}

-- There is room for what is written, the locals have room for the arguments, instructions stand in the order of their
-- offsets, and the operands of those that the types reach stand.
pub record IsSelectable (b : Body) (types : List (Option State)) : Type 0 where
  pub room : IsRoom b types modes.Int true
  pub arguments : (let f = int_frame b in length f.params ≤ b.max_locals)
  pub each : length types ≡ length b.insns
  pub ascending : IsAscending b.insns
  pub stand : (k : ℕ) (i : JInsn) (x : State) → slice_get b.insns k ≡ Some i → HasRow types k x
      → OperandsStand b.max_locals i.op

-- what tables say before instructions of which the first has this place
abbrev pub rows_before : List (Option RangeState) → (place : ℕ) → List JInsn → List (Option State)
    → List (Option TableRow)
rows_before ranges place (i ∷ insns) (t ∷ types) = option_map (λ x. before i.op x (get_or ranges place None)) t
    ∷ rows_before ranges (place + 1) insns types
rows_before ranges place insns types = []

-- What is known before the instructions of a method is what its tables say.
abbrev pub AreBefore : Body → List (Option State) → List (Option RangeState) → List (Option Before) → Type 0
AreBefore b types ranges befores = map (option_map known) befores ≡ rows_before ranges 0 b.insns types
