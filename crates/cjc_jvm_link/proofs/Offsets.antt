-- Indices of instructions by their offsets: room at the end, places put, and what is behind an instruction.
use Rattle.std.proofs.Common.{◌≡◌, ℕ, zero, suc, ◌+◌, ◌<◌, ◌^◌, refl, sym, ap, ◌∙◌, arith, Bool, true, false, List, []}
use Rattle.std.proofs.Common.{◌∷◌, ◌++◌, length, set}
use Rattle.std.specs.Prelude.{slice_get, if◌then◌else◌, ◌==◌}
use Rattle.std.proofs.lemmas.Bool.{eqb-true}
use Rattle.std.proofs.lemmas.Bool.Decides.{Decides-eqb}
use Rattle.cjc_jvm_step.specs.Bytecode.declared.insn.JInsn.{JInsn}
use Rattle.cjc_jvm_step.specs.Bytecode.declared.method_code.MethodCode.{MethodCode}
use Rattle.cjc_jvm_semantics.specs.Effects.{or_other, place}
use Rattle.cjc_jvm_step.specs.Frame.Places.{IsIndex}
use Rattle.cjc_jvm_link.specs.Methods.{AreIndices}

-- room is made by what stands for no instruction
pub with_room : (none : ℕ) (xs : List ℕ) (at : ℕ) → or_other none (slice_get (xs ++ none ∷ []) at)
    ≡ or_other none (slice_get xs at)
with_room none [] zero = refl
with_room none [] (suc at) = refl
with_room none (x ∷ xs) zero = refl
with_room none (x ∷ xs) (suc at) = with_room none xs at

put_same : (none : ℕ) (xs : List ℕ) (o p : ℕ) → o < length xs → or_other none (slice_get (set xs o p) o) ≡ p
put_same none [] o p h = absurd (omega arith)
put_same none (x ∷ xs) zero p h = refl
put_same none (x ∷ xs) (suc o) p h = put_same none xs o p (omega arith)

put_apart : (none : ℕ) (xs : List ℕ) (o p at : ℕ) → (o ≡ at → ⊥) → slice_get (set xs o p) at ≡ slice_get xs at
put_apart none [] o p at h = refl
put_apart none (x ∷ xs) zero p zero h = absurd (h refl)
put_apart none (x ∷ xs) zero p (suc at) h = refl
put_apart none (x ∷ xs) (suc o) p zero h = refl
put_apart none (x ∷ xs) (suc o) p (suc at) h = put_apart none xs o p at (λ e. h (ap suc e))

-- a place that is put
pub with_place : (none : ℕ) (xs : List ℕ) (o p at : ℕ) → o < length xs → or_other none (slice_get (set xs o p) at)
    ≡ (if o == at then p else or_other none (slice_get xs at))
with_place none xs o p at h = by (o == at) refl
  where
    by : (b : Bool) → (o == at) ≡ b → or_other none (slice_get (set xs o p) at) ≡ (if b then p
        else or_other none (slice_get xs at))
    by true e = let same : o ≡ at = eqb-true o at e in ap (λ k. or_other none (slice_get (set xs o p) k)) (sym same)
        ∙ put_same none xs o p h
    by false e = ap (or_other none) (put_apart none xs o p at (λ same. let t : (o == at) ≡ true = (Decides-eqb o at).1
        same in cc))

-- the places behind an instruction and from it on
pub place_from : (k at : ℕ) (i : JInsn) (insns : List JInsn) (x : ℕ) → x ≡ suc k + place insns at
    → (if i.at == at then k else x) ≡ k + place (i ∷ insns) at
place_from k at i insns x e = by (i.at == at)
  where
    by : (b : Bool) → (if b then k else x) ≡ k + (if b then 0 else suc (place insns at))
    by true = omega arith
    by false = omega arith

-- one method more
pub more_indices : (cs : List MethodCode) (is : List (List ℕ)) (c : MethodCode) (i : List ℕ) → AreIndices cs is
    → IsIndex c.insns i → length c.insns < 2 ^ 32 → AreIndices (cs ++ c ∷ []) (is ++ i ∷ [])
more_indices [] [] c i h index few = (index, few, tt)
more_indices [] (j ∷ is) c i h index few = absurd h
more_indices (d ∷ cs) [] c i h index few = absurd h
more_indices (d ∷ cs) (j ∷ is) c i h index few = (h.0, h.1, more_indices cs is c i h.2 index few)
