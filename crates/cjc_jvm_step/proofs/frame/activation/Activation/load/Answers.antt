use Rattle.std.proofs.Common.{◌≡◌, ◌∙◌, sym, true}
use Rattle.std.specs.Prelude.{Some, slice_get}
use Rattle.cjc_jvm_semantics.specs.Effects.{is_kind}
use Rattle.cjc_jvm_step.proofs.frame.activation.Activation.load.Goals as goal

pub returns-in-Some-Some : goal.returns-in-Some-Some
returns-in-Some-Some c =
    let v = c.in-Some-Some.value in
    let set : slice_get c.args.self.now.locals c.args.local ≡ Some (Some v) = cc in
    let fits : is_kind c.args.refs v ≡ true = sym c.is_kind.ensures ∙ c.if-is_kind.true in
    rw (set, fits) c.push.ensures
