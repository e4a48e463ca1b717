-- What is written outside int mode for an instruction by itself.
use Rattle.std.proofs.Common.{◌≡◌, ℕ, ◌∙◌, [], ◌∷◌, append-nil}
use Rattle.std.specs.Prelude.{flat_map}
use Rattle.cjc_int_narrow.specs.Bytecode.declared.insn.JInsn.{JInsn}
use Rattle.cjc_int_narrow.specs.Bytecode.declared.insn.JOp.{JOp}
use Rattle.cjc_ncode.specs.Written.{Resolution, written, written_for}
use Rattle.cjc_ncode.specs.declared.narrow.PairRole.{PairRole}
use Rattle.cjc_ncode.specs.declared.narrow.PairRole.TheVariants.{Alone}
use Rattle.cjc_int_narrow.proofs.NarrowRoles.{written_as_same}

-- no instruction opens or closes a pair
abbrev pub alone : ℕ → PairRole
alone offset = Alone

-- an instruction by itself
abbrev pub lone : JOp → JInsn
lone op = record { at = 0; op = op }

-- what is written for one by itself
pub lone_written : (r : Resolution) (place : ℕ → ℕ) (op : JOp)
    → flat_map (written_for (record r { role = alone }) place) (lone op ∷ []) ≡ written r place op
lone_written r place op = append-nil (written_for (record r { role = alone }) place (lone op))
    ∙ written_as_same r alone Alone place op
