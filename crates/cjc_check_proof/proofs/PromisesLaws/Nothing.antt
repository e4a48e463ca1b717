-- Methods without instructions.
use Rattle.std.proofs.Common.{◌≡◌, ℕ, zero, suc, sym, subst, true, List, [], ◌∷◌, length}
use Rattle.std.specs.Prelude.{slice_get, Some}
use Rattle.cjc_ncode.specs.declared.narrow.NInsn.{NInsn}
use Rattle.cjc_ncode.specs.Lowering.Naming.{Naming}
use Rattle.cjc_pool.specs.Layout.Legal.{IsLeast}
use Rattle.cjc_pool.specs.Layout.Sizes.{AllLead}
use Rattle.cjc_pool.specs.Emit.Emitted.{CanBeWritten, placed_at}
use Rattle.cjc_components.specs.Package.{LaidMethod}
use Rattle.cjc_check_proof.specs.Code.Ends.{is_abstract, StaysInside}
use Rattle.cjc_check_proof.specs.Code.Kinds.{HasKind}

-- nothing stands in no code
nowhere : (insns : List NInsn) → insns ≡ [] → (k : ℕ) (i : NInsn) → slice_get insns k ≡ Some i → ⊥
nowhere [] none zero i e = absurd cc
nowhere [] none (suc k) i e = absurd cc
nowhere (j ∷ insns) none k i e = absurd cc

pub nothing_written : (n : Naming) (m : LaidMethod) → m.code.insns ≡ [] → IsLeast m.code.insns m.wide
    → CanBeWritten n (placed_at 0 m.code m.wide)
nothing_written n m none least = record {
  count = least.legal.count;
  forms = λ k i e. absurd (nowhere m.code.insns none k i e);
  spellable = λ k i w e f. absurd (nowhere m.code.insns none k i e);
}

pub nothing_inside : (m : LaidMethod) → m.is_abstract ≡ true → m.code.insns ≡ [] → StaysInside m
nothing_inside m abstract_one none = record {
  leads = subst (λ insns. AllLead (length insns) insns) (sym none) tt;
  ends = is_abstract abstract_one none;
}

pub nothing_named : (m : LaidMethod) → m.code.insns ≡ [] → (k : ℕ) (i : NInsn) → slice_get m.code.insns k ≡ Some i
    → HasKind i
nothing_named m none k i e = absurd (nowhere m.code.insns none k i e)
