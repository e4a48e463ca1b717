-- A method by its parts, and when its numbers fit.
use Rattle.std.specs.Prelude.{◌≡◌, ℕ, ◌+◌, ◌*◌, ◌<◌, ◌≤◌, ◌^◌, ◌++◌, List, length, replicate, Option}
use Rattle.cjc_int_mode.specs.ClassFile.Code.{CodeTree}
use Rattle.cjc_int_mode.specs.Bytecode.declared.insn.JInsn.{JInsn}
use Rattle.cjc_ncode.specs.declared.narrow.NMethod.{NMethod}
use Rattle.cjc_ncode.specs.Written.{Resolution, catches_at}
use Rattle.cjc_ncode.specs.IntCode.IntCode.{Frame, nargs, prologue, scratch_pairs, sources, widest_sum, written_from}
use Rattle.cjc_narrow.specs.Written.Operands.{IsAscending}
use Rattle.cjc_int_narrow.specs.declared.known.Before.{Before}
use Rattle.cjc_int_narrow.specs.Operands.{AllCanBeSaid}
use Rattle.cjc_int_narrow.specs.Reached.{places_by, reached_by}

-- one byte says each number of the written method, and each operand
pub record Fits (f : Frame) (code : CodeTree) (insns : List JInsn) (befores : List (Option Before)) : Type 0 where
  pub stack : 2 * code.max_stack + 4 ≤ 255
  pub words : nargs f + (2 * f.max_locals + 2 * scratch_pairs (reached_by insns befores)) ≤ 255
  pub arguments : length f.params ≤ f.max_locals
  pub few : length insns < 2 ^ 32
  pub each : length befores ≡ length insns
  pub ascending : IsAscending insns
  pub said : AllCanBeSaid f insns befores

-- the parts of a method whose offsets have these places
pub record AreParts (f : Frame) (r : Resolution) (code : CodeTree) (insns : List JInsn) (befores : List (Option Before))
    (place : ℕ → ℕ) (m : NMethod) : Type 0 where
  pub has_insns : m.insns ≡ prologue f ++ written_from f r place (length (prologue f)) (reached_by insns befores)
  pub has_from : m.from ≡ replicate (length (prologue f)) 0 ++ sources f r (reached_by insns befores) (places_by 0 insns
      befores)
  pub has_catches : m.catches ≡ catches_at place code.catches
  pub has_stack : m.max_stack ≡ 2 * code.max_stack + 4
  pub has_nargs : m.nargs ≡ nargs f
  pub has_locals : m.max_locals ≡ 2 * f.max_locals + 2 * scratch_pairs (reached_by insns befores)
  pub has_widest : m.widest ≡ widest_sum f r (reached_by insns befores)
