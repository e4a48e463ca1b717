-- Which instructions of a method are reached, with what its least tables say before each.
use Rattle.std.specs.Prelude.{ℕ, ◌+◌, List, [], ◌∷◌, Option, Some, None}
use Rattle.cjc_int_mode.specs.Bytecode.declared.insn.JInsn.{JInsn}
use Rattle.cjc_ncode.specs.IntCode.IntCode.{Reached, Before as TableRow}
use Rattle.cjc_int_narrow.specs.declared.known.Before.{Before}

-- what is known before an instruction
abbrev pub known : Before → TableRow
known b = record { references = b.references; is_index_inside = b.is_index_inside }

-- the instructions before which something is known: those that are reached
abbrev pub reached_by : List JInsn → List (Option Before) → List Reached
reached_by (i ∷ insns) (Some b ∷ befores) = record { insn = i; before = known b } ∷ reached_by insns befores
reached_by (i ∷ insns) (None ∷ befores) = reached_by insns befores
reached_by insns befores = []

-- their places, where the first instruction has this one
abbrev pub places_by : (place : ℕ) → List JInsn → List (Option Before) → List ℕ
places_by place (i ∷ insns) (Some b ∷ befores) = place ∷ places_by (place + 1) insns befores
places_by place (i ∷ insns) (None ∷ befores) = places_by (place + 1) insns befores
places_by place insns befores = []
