-- Nothing is put into what is no array.
use Rattle.std.proofs.Common.{◌≡◌, ℕ, ℤ, List, refl}
use Rattle.std.specs.Prelude.{Some, None}
use Rattle.cjc_jvm_step.specs.Script.declared.value.Value.{Value}
use Rattle.cjc_jvm_step.specs.Script.declared.report.Thing.{Thing}
use Rattle.cjc_jvm_step.specs.Script.declared.report.Thing.TheVariants.{Array, Object}
use Rattle.cjc_jvm_semantics.specs.Linked.{Linked}
use Rattle.cjc_jvm_semantics.specs.Effects.{Effect, Toss, Stick, array_in}
use Rattle.cjc_jvm_semantics.specs.Machine.{put_in}

pub put_none : (l : Linked) (heap : List Thing) (thing : Thing) (i : ℤ) (v : Value)
    → ((go : List ℕ → List Value → Effect) → array_in thing go ≡ Stick) → put_in l heap (Some thing) i v ≡ None
put_none l heap (Array desc items) i v h = let e : Toss 0 ≡ Stick = h (λ d xs. Toss 0) in absurd (cc e)
put_none l heap (Object class fields) i v h = refl
