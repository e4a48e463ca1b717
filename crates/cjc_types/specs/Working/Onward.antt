-- What an instruction hands to the next, where no jump and no handler leads there.
use Rattle.std.specs.Prelude.{ℕ, ◌+◌, nat_lt, if◌then◌else◌, length, slice_get, Option, Some, None}
use Rattle.cjc_code.specs.declared.insn.JInsn.{JInsn}
use Rattle.cjc_types.specs.declared.state.State.{State}
use Rattle.cjc_types.specs.Steps.{after, goes_on}
use Rattle.cjc_types.specs.Flow.{Body}

-- the state behind an instruction, if execution may fall through
abbrev pub gone_on_by : Option JInsn → State → Option State
gone_on_by None x = None
gone_on_by (Some insn) x = if goes_on insn.op then Some (after insn.op x) else None

-- the state that falls through from a place, if there is a place behind it
abbrev pub gone_on : Body → (at : ℕ) → State → Option State
gone_on b at x = if nat_lt (at + 1) (length b.insns) then gone_on_by (slice_get b.insns at) x else None
