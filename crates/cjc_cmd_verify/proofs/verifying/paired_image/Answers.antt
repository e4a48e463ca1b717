use Rattle.std.proofs.lemmas.Result.{err_from_is_err_and}
use Rattle.cjc_cmd_card.proofs.ReportLaws.Free.{no_initialiser_breaks, pair_first}
use Rattle.cjc_cmd_card.proofs.ReportLaws.Free.{paired_by}
use Rattle.cjc_cmd_verify.proofs.VerifyingLaws.Free.{early_fault}
use Rattle.cjc_cmd_verify.specs.Working.{ready_of}
use Rattle.cjc_cmd_verify.proofs.verifying.paired_image.Goals as goal

pub image_of-requires : goal.image_of-requires
image_of-requires c =
    let r = c.requires in
    no_initialiser_breaks c.args.input.now _ (ready_of c.args.judged.now c.args.checked.now.tree r.script) r.is_ready

pub parts_in-parts-requires : goal.parts_in-parts-requires
parts_in-parts-requires c = let is = c.requires.is_ready in (is.whole, is.complete_is, is.small)

pub returns-in_err-test_pair-clause-refused : goal.returns-in_err-test_pair-clause-refused
returns-in_err-test_pair-clause-refused c =
    let r = c.requires in
    let e = err_from_is_err_and c.from_residual-in_err-test_pair.result c.from_residual-in_err-test_pair.ensures.1 in
    rw (e.1, e.2) (early_fault c.args.input.now _ (pair_first c.consistent_where_unbroken.ensures.unbroken
    c.args.input.now _ (ready_of c.args.judged.now c.args.checked.now.tree r.script) r.is_ready _ c.in_ok-image.ensures
    _ c.parts_in-parts.ensures.whole _ c.in_err-test_pair.ensures.refused))

pub returns-clause-paired : goal.returns-clause-paired
returns-clause-paired c = λ whole is. paired_by c.args.checked.now.tree _ whole c.args.judged.now.world
    c.in_ok-image.image c.parts_in-parts.ensures.whole is c.in_ok-test_pair.ensures.paired
