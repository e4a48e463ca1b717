use Rattle.std.proofs.Common.{rules, ◌≡◌, ◌∙◌, ap}
use Rattle.std.specs.Prelude.{FitsSigned, Some, None, if◌then◌else◌}
use Rattle.std.specs.Int.{w32, cast_signed, cast_unsigned}
use Rattle.std.proofs.lemmas.Int.{to_z-of_z}
use Rattle.cjc_jvm_step.specs.Script.declared.value.Value.TheVariants.{Num}
use Rattle.cjc_jvm_semantics.specs.Effects.{is_same_field}
use Rattle.cjc_jvm_link.specs.Starts.{start_in, either}
use Rattle.cjc_jvm_link.proofs.Starting.{numbers_step}
use Rattle.cjc_jvm_link.proofs.cells.Starts.note_numbers.Goals as goal

pub loop-number-preserved : goal.loop-number-preserved
loop-number-preserved c = λ id.
    let v = c.number-item.result in
    let fits : FitsSigned w32 v.value = search rules in
    let same : cast_signed w32 (cast_unsigned w32 v.value) ≡ v.value = to_z-of_z w32 v.value fits in
    c.in_ok-note.ensures id
    ∙ ap (λ z. either (start_in c.loop-number.self id) (if is_same_field v.field id then Some (Num z) else None)) same
    ∙ numbers_step c.args.arrays.now c.args.others.now c.loop-number.number-index v id (start_in c.loop-number.self id)
    c.loop-number-test.true c.number-item.is (c.loop-number.invariant id)
