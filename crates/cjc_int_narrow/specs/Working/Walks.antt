-- What is written for instructions one after the other.
use Rattle.std.specs.Prelude.{ℕ, ◌+◌, max, List, [], ◌∷◌, Option, Some, None, length, replicate, sum_by}
use Rattle.cjc_int_mode.specs.Bytecode.declared.insn.JInsn.{JInsn}
use Rattle.cjc_int_mode.specs.Bytecode.declared.insn.JOp.{JOp}
use Rattle.cjc_ncode.specs.declared.narrow.NInsn.{NInsn}
use Rattle.cjc_ncode.specs.Written.{Resolution}
use Rattle.cjc_ncode.specs.IntCode.IntCode.{Frame, Reached, scratch_pairs_of, widest, written}
use Rattle.cjc_int_narrow.specs.declared.known.Before.{Before}
use Rattle.cjc_int_narrow.specs.Reached.{known, reached_by}

-- how many instructions are written for one
abbrev pub count : Frame → Resolution → Before → JOp → ℕ
count f r b op = length (written f r (λ o. 0) (known b) 0 op)

-- of one, where it is reached
abbrev pub written_if : Option Before → Frame → Resolution → (place : ℕ → ℕ) → (here : ℕ) → JOp → List NInsn
written_if None f r place here op = []
written_if (Some b) f r place here op = written f r place (known b) here op

-- its place, as often as instructions are written for it
abbrev pub source_if : Option Before → Frame → Resolution → (k : ℕ) → JOp → List ℕ
source_if None f r k op = []
source_if (Some b) f r k op = replicate (count f r b op) k

-- those before one, with its own where it is reached
abbrev pub count_if : Option Before → Frame → Resolution → (before : ℕ) → JOp → ℕ
count_if None f r before op = before
count_if (Some b) f r before op = before + count f r b op

-- a size, with the widest of one where it is reached
abbrev pub widest_if : Resolution → Option Before → (size : ℕ) → JOp → ℕ
widest_if r None size op = size
widest_if r (Some b) size op = size + widest r op

-- of each place how many are written before it, and at the end of all
abbrev pub starts : Frame → Resolution → (before : ℕ) → List JInsn → List (Option Before) → List ℕ
starts f r before [] befores = before ∷ []
starts f r before (i ∷ insns) [] = before ∷ []
starts f r before (i ∷ insns) (b ∷ befores) = before ∷ starts f r (count_if b f r before i.op) insns befores

-- so many scratch pairs, or those of an instruction where it is reached and has more
abbrev pub pairs_if : Option Before → (pairs : ℕ) → JOp → ℕ
pairs_if None pairs op = pairs
pairs_if (Some b) pairs op = max pairs (scratch_pairs_of op)

-- the widest sizes of all that are reached
abbrev pub all_widest : Resolution → List JInsn → List (Option Before) → ℕ
all_widest r insns befores = sum_by (λ (i : Reached). let j = i.insn in widest r j.op) (reached_by insns befores)
