-- What stands for an instruction of a class file, in whatever role, is written for it.
use Rattle.std.proofs.Common.{◌≡◌, ℕ, zero, suc, sym, ap, subst, ◌∙◌, List, [], ◌∷◌, ◌++◌}
use Rattle.std.specs.Prelude.{Some, slice_get}
use Rattle.cjc_bytes.proofs.Gets.{in_front}
use Rattle.cjc_components.proofs.NarrowRoles.{written_as_same}
use Rattle.cjc_components.specs.Bytecode.declared.insn.JInsn.{JInsn}
use Rattle.cjc_narrow_proof.proofs.NamesLaws.Sources.{source_at}
use Rattle.cjc_narrow_proof.specs.NCode.Written.{Resolution, written_as}
use Rattle.cjc_narrow_proof.specs.NCode.declared.narrow.NInsn.{NInsn}
use Rattle.cjc_narrow_proof.specs.NCode.declared.narrow.PairRole.{PairRole}
use Rattle.cjc_narrow_proof.specs.Sources.{IsWrittenFor}

pub one_source : (r : Resolution) (role : PairRole) (place : ℕ → ℕ) (n : JInsn) (k : ℕ) (i : NInsn)
    → slice_get (written_as role r place n.op) k ≡ Some i → IsWrittenFor r n.op i
one_source r role place n k i e = by s.0 s.1 s.2 s.3
  where
    s : (j : ℕ) × (x : JInsn) × (slice_get (n ∷ []) j ≡ Some x) × IsWrittenFor r x.op i
    s = source_at r place (λ at. role) (n ∷ []) k i
        (ap (λ xs. slice_get (xs ++ []) k) (written_as_same r (λ at. role) role place n.op)
        ∙ in_front (written_as role r place n.op) [] k i e)

    by : (j : ℕ) (x : JInsn) → slice_get (n ∷ []) j ≡ Some x → IsWrittenFor r x.op i → IsWrittenFor r n.op i
    by zero x e h = let same : x ≡ n = cc in subst (λ (y : JInsn). IsWrittenFor r y.op i) same h
    by (suc j) x e h = absurd cc
