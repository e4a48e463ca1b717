use Rattle.std.proofs.Common.{[]}
use Rattle.std.proofs.lemmas.Result.{err_from_is_err_and}
use Rattle.cjc_cmd_card.proofs.ReportLaws.Free.{no_initialiser_breaks, pair_first}
use Rattle.cjc_cmd_card.proofs.ReportLaws.Free.{paired_by}
use Rattle.cjc_cmd_link.proofs.members.paired_image.Goals as goal

pub image_of-requires : goal.image_of-requires
image_of-requires c = no_initialiser_breaks c.args.input.now [] c.args.ready.now c.requires

pub parts_in-parts-requires : goal.parts_in-parts-requires
parts_in-parts-requires c = (c.args.input.now, [], c.requires)

pub returns-in_err-test_pair-clause-refused : goal.returns-in_err-test_pair-clause-refused
returns-in_err-test_pair-clause-refused c =
    let e = err_from_is_err_and c.from_residual-in_err-test_pair.result c.from_residual-in_err-test_pair.ensures.1 in
    rw (e.1, e.2) (pair_first c.consistent_where_unbroken.ensures.unbroken c.args.input.now [] c.args.ready.now
    c.requires _ c.in_ok-image.ensures _ c.parts_in-parts.ensures.whole _ c.in_err-test_pair.ensures.refused)

pub returns-clause-paired : goal.returns-clause-paired
returns-clause-paired c = λ whole is. paired_by c.args.ready.now.cap _ whole c.args.ready.now.judged.world
    c.in_ok-image.image c.parts_in-parts.ensures.whole is c.in_ok-test_pair.ensures.paired
