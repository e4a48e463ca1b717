-- The code of a method of a package as the type checker reads it: where what is written for its instructions stands,
-- what each takes and gives there, and what types by name are on the card.
use Rattle.std.specs.Prelude.{ℕ, Bool, false, List, Option, get_or}
use Rattle.cjc_check_proof.specs.NCode.Lowering.Naming.{Naming}
use Rattle.cjc_check_proof.specs.NCode.Lowering.Placed.{offset_of}
use Rattle.cjc_check_proof.specs.NCode.declared.narrow.NInsn.{NInsn}
use Rattle.cjc_check_proof.specs.TokenProof.Tables.Loading.{loaded}
use Rattle.cjc_frames.specs.Acts.{Subtype}
use Rattle.cjc_frames.specs.declared.acts.Step.{Step}
use Rattle.cjc_verify.specs.CardActs.CardTypes.{ValueType, is_type_of}
use Rattle.cjc_verify.specs.Components.Methods.{placed_at}
use Rattle.cjc_verify.specs.Components.Names.{class_ref, names}
use Rattle.cjc_verify.specs.Components.Package.{LaidMethod, Package, world}
use Rattle.cjc_verify.specs.Pairs.{Pair}
use Rattle.cjc_accepted_proof.specs.Frames.{type_named}
use Rattle.cjc_accepted_proof.specs.Plain.{act_laid}
use Rattle.cjc_accepted_proof.specs.Written.{written_pair}

-- a step of a method with this result, whose labels stand at `to`, where these jumps have their wide form
abbrev pub step_laid : Pair → (result : ValueType) → Naming → (to : ℕ → ℕ) → (wide : ℕ → Bool) → (label : ℕ) → NInsn
    → Step
step_laid p result n to wide label insn = record {
  at = to label;
  act = act_laid p result n to (to label) (wide label) insn;
}

module _ (p : Package) where
  -- the card's types of classes and arrays, and which is of which
  abbrev pub card_type : List ℕ → Option (List ℕ)
  card_type = type_named (world p) (class_ref p)

  abbrev pub is_of : Subtype
  is_of = is_type_of (loaded p)

  -- the labels of a method whose header stands at this offset
  abbrev pub label_at : (offset : ℕ) → LaidMethod → (label : ℕ) → ℕ
  label_at offset m = offset_of (names p) (placed_at offset m)

  -- its jumps that have their wide form
  abbrev pub is_wide : LaidMethod → (label : ℕ) → Bool
  is_wide m label = get_or m.wide label false

  -- its steps
  abbrev pub step_of : (result : ValueType) → (offset : ℕ) → LaidMethod → (label : ℕ) → NInsn → Step
  step_of result offset m = step_laid (written_pair p) result (names p) (label_at offset m) (is_wide m)
