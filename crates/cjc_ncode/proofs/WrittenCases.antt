-- What is written for an instruction, whatever its role is to a pair.
use Rattle.std.proofs.Common.{◌≡◌, ℕ, refl, Bool, true, false, List, []}
use Rattle.std.specs.Prelude.{if◌then◌else◌, Option, Some, None}
use Rattle.cjc_code.specs.declared.insn.JOp.{JOp}
use Rattle.cjc_ncode.specs.declared.narrow.NInsn.{NInsn}
use Rattle.cjc_ncode.specs.declared.narrow.PairRole.{PairRole}
use Rattle.cjc_ncode.specs.declared.narrow.PairRole.TheVariants.{Alone, Opens, Closes}
use Rattle.cjc_ncode.specs.Written.{Access, Resolution, accessed, is_load, on_this, written, written_as}

pub written_cases : (P : List NInsn → Type 0) (role : PairRole) (r : Resolution) (place : ℕ → ℕ) (op : JOp)
    → (is_load op ≡ true → P []) → P (written r place op)
    → ((a : Access) → accessed op ≡ Some a → P (on_this r place op (Some a)))
    → P (written_as role r place op)
written_cases P Alone r place op none alone access = alone
written_cases P Opens r place op none alone access = by (is_load op) refl
  where
    by : (b : Bool) → is_load op ≡ b → P (if b then [] else written r place op)
    by true e = none e
    by false e = alone
written_cases P Closes r place op none alone access = by (accessed op) refl
  where
    by : (found : Option Access) → accessed op ≡ found → P (on_this r place op found)
    by None e = alone
    by (Some a) e = access a e
