use Rattle.std.proofs.Common.{◌∙◌, arith, ap, length, List, Bool}
use Rattle.cjc_check_rules.specs.ExportFile.declared.tree.ExportField.{ExportField}
use Rattle.cjc_check_index.specs.Imported.Working.Rows.{is_wanted, with_answer}
use Rattle.cjc_check_index.proofs.ImportedLaws.Answers.{answers_more, answers_all, length-with_answer}
use Rattle.cjc_check_index.proofs.imported.listed.fields_of.Goals as goal

pub with_answer-answers-requires : goal.with_answer-answers-requires
with_answer-answers-requires c = c.loop-field.invariant.0

pub loop-field-preserved : goal.loop-field-preserved
loop-field-preserved c =
    let answers = c.loop-field.answers.items in
    let x = c.field-item.result in
    let size = c.loop-field.invariant.0 in
    let next = c.with_answer-answers.ensures ∙ ap (λ (b : Bool). with_answer b answers x.token) c.is_wanted.ensures in (
      ap (λ (bs : List Bool). length bs) next ∙ length-with_answer (is_wanted c.args.statics x) answers x.token ∙ size,
      λ t small. answers_more (is_wanted c.args.statics) (λ (y : ExportField). y.token) c.loop-field.field-index t x
          c.args.fields.now answers _ _ c.loop-field-test.true c.field-item.is (omega (arith, size, small)) next
          (c.loop-field.invariant.1 t small),
    )

pub returns : goal.returns
returns c = c.of.ensures ∙ answers_all (is_wanted c.args.statics) (λ (y : ExportField). y.token)
    c.loop-field.field-index c.args.fields.now c.loop-field.answers.items c.loop-field-test.false
    c.loop-field.invariant.0 c.loop-field.invariant.1
