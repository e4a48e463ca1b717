-- athrow.
use Rattle.std.proofs.Common.{ℕ, List, ◌∷◌, refl, Bool}
use Rattle.cjc_script.specs.declared.value.Value.TheVariants.{Null, Obj}
use Rattle.cjc_script.specs.Sorts.{Shape}
use Rattle.cjc_card_semantics.specs.Bytecode.Effects as narrow
use Rattle.cjc_card_semantics.specs.Bytecode.Meanings.{meaning}
use Rattle.cjc_ncode.specs.declared.narrow.NInsn.TheVariants as insns
use Rattle.cjc_ncode.specs.ByLabel.{Named}
use Rattle.cjc_ncode.specs.Written.{Resolution}
use Rattle.cjc_ncode.specs.IntCode.IntCode.{Before, Frame}
use Rattle.cjc_jvm_semantics.specs.Linked.{Method, Linked}
use Rattle.cjc_jvm_semantics.specs.Effects.{NullPointer, effect}
use Rattle.cjc_narrow_proof.specs.Selection.Rows.{narrow_fault}
use Rattle.cjc_int_runs.specs.Relation.{to_null, to_object, reference}
use Rattle.cjc_int_runs.specs.Throws.{throws_object, throws_null, IntThrow}
use Rattle.cjc_int_runs.proofs.Stepping.{led_out, raised}

pub int_throw : (by : Linked) (l : Named) (f : Frame) (r : Resolution) (m : Method) (b : Before)
    (within : Shape (List ℕ) → Bool) → IntThrow by l f r m b within
unfolding effect meaning
int_throw by l f r m b within place code here stand at ks _ _ locals words store memory (reference {ws = ws} to_null
    rest) =
    throws_null (Null ∷ ws) refl (raised l code 0 here (insns.Op 0x93) (Null ∷ ws) words memory
    (narrow_fault NullPointer) stand.0 refl)
int_throw by l f r m b within place code here stand at ks _ _ locals words store memory (reference {ws = ws}
    (to_object {k = k} thing is passes) rest) =
    throws_object k thing (Obj k ∷ ws) is passes refl (led_out l code 0 here (insns.Op 0x93) (Obj k ∷ ws) words memory
    (narrow.Toss k) stand.0 refl refl)
