use Rattle.std.proofs.Common.{◌∙◌, arith, ap, length, List, Bool}
use Rattle.cjc_check_rules.specs.ExportFile.declared.tree.ExportMethod.{ExportMethod}
use Rattle.cjc_check_index.specs.Imported.Working.Rows.{is_asked, with_answer}
use Rattle.cjc_check_index.proofs.ImportedLaws.Answers.{answers_more, answers_all, length-with_answer}
use Rattle.cjc_check_index.proofs.imported.listed.methods_of.Goals as goal

pub with_answer-answers-requires : goal.with_answer-answers-requires
with_answer-answers-requires c = c.loop-method.invariant.0

pub loop-method-preserved : goal.loop-method-preserved
loop-method-preserved c =
    let answers = c.loop-method.answers.items in
    let x = c.method-item.result in
    let size = c.loop-method.invariant.0 in
    let next = c.with_answer-answers.ensures ∙ ap (λ (b : Bool). with_answer b answers x.token) c.is_asked.ensures in (
      ap (λ (bs : List Bool). length bs) next ∙ length-with_answer (is_asked c.args.unbound x) answers x.token ∙ size,
      λ t small. answers_more (is_asked c.args.unbound) (λ (y : ExportMethod). y.token) c.loop-method.method-index t x
          c.args.methods.now answers _ _ c.loop-method-test.true c.method-item.is (omega (arith, size, small)) next
          (c.loop-method.invariant.1 t small),
    )

pub returns : goal.returns
returns c = c.of.ensures ∙ answers_all (is_asked c.args.unbound) (λ (y : ExportMethod). y.token)
    c.loop-method.method-index c.args.methods.now c.loop-method.answers.items c.loop-method-test.false
    c.loop-method.invariant.0 c.loop-method.invariant.1
