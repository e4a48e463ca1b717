-- Which places hand nothing to handlers but what the place before hands to them.
use Rattle.std.specs.Prelude.{◌≡◌, ℕ, suc, ◌-◌, ◌<◌, ◌≤◌, ◌==◌, Bool, true, false, ◌||◌, if◌then◌else◌, is_some, List}
use Rattle.std.specs.Prelude.{get_or, slice_get, Option, Some, None}
use Rattle.std.specs.List.{Contains}
use Rattle.cjc_classfile.specs.declared.tree.Catch.{Catch}
use Rattle.cjc_code.specs.declared.insn.JInsn.{JInsn}
use Rattle.cjc_code.specs.declared.insn.JOp.{JOp}
use Rattle.cjc_code.specs.declared.insn.JOp.TheVariants as jop
use Rattle.cjc_types.specs.Flow.{Body, covers}
use Rattle.cjc_fixpoint.specs.Kept.{mark_of}
use Rattle.cjc_types.specs.Marks.{marks_of}

-- each instruction before the place is before the offset, and no other is
abbrev pub IsFrom : List JInsn → (offset place : ℕ) → Type 0
IsFrom insns offset place = (k : ℕ) (i : JInsn) → slice_get insns k ≡ Some i → (k < place → i.at < offset)
    × (place ≤ k → offset ≤ i.at)

-- where no range of a handler begins or ends, the handler is that of the place before or of neither
abbrev pub CoverAlike : List JInsn → (bounds : List Bool) → List Catch → Type 0
CoverAlike insns bounds catches =
    (c : Catch) → Contains catches c → (at : ℕ) (i j : JInsn) → slice_get insns at ≡ Some i → slice_get insns (suc at)
    ≡ Some j → get_or bounds (suc at) false ≡ false → covers c i.at ≡ covers c j.at

-- whether an instruction leaves all locals as they are
abbrev pub keeps_locals : JOp → Bool
keeps_locals (jop.Store refs k) = false
keeps_locals (jop.Inc k by) = false
keeps_locals _ = true

-- whether an instruction may go elsewhere than to the next
abbrev pub jumps : JOp → Bool
jumps (jop.If opcode target) = true
jumps (jop.Goto target) = true
jumps (jop.TableSwitch other low more) = true
jumps (jop.LookupSwitch other cases) = true
jumps _ = false

-- by the instructions before a place and at it; at a fixed one nothing is known
abbrev pub repeats_by : (fixed : Bool) → Option JInsn → Option JInsn → Bool
repeats_by true before here = false
repeats_by false None here = false
repeats_by false (Some i) None = false
repeats_by false (Some i) (Some j) = if jumps j.op then false else keeps_locals i.op

-- the place is neither marked nor at a bound, the instruction before it keeps the locals, and its own does not jump
abbrev pub repeats_at : Body → (bounds : List Bool) → (at : ℕ) → Bool
repeats_at b bounds at = if at == 0 then false else repeats_by (is_some (mark_of (marks_of b) at)
    || get_or bounds at false) (slice_get b.insns (at - 1)) (slice_get b.insns at)
