use Rattle.std.proofs.Common.{[], refl}
use Rattle.std.proofs.lemmas.Result.{err_from_is_err_and}
use Rattle.cjc_cmd_card.proofs.ReportLaws.Free.{first_fault}
use Rattle.cjc_cmd_link.proofs.members.test_member.Goals as goal

pub returns-in_err-ready-clause-refused : goal.returns-in_err-ready-clause-refused
returns-in_err-ready-clause-refused c =
    let e = err_from_is_err_and c.from_residual.result c.from_residual.ensures.1 in
    rw (e.1, e.2) (first_fault c.args.input.now [] _ c.in_err-ready.ensures.refused)

pub returns-in_err-image-clause-refused : goal.returns-in_err-image-clause-refused
returns-in_err-image-clause-refused c =
    let e = err_from_is_err_and c.from_residual-in_err-image.result c.from_residual-in_err-image.ensures.1 in
    rw (e.1, e.2) c.in_err-image.ensures.refused

pub returns-clause-made : goal.returns-clause-made
returns-clause-made c =
    let is = c.in_ok-ready.ensures.ready in
    record {
      input_is = refl;
      is_ready = is;
      whole = is.whole;
      whole_is = is.complete_is;
      is_image = c.in_ok-image.ensures.image;
      paired = c.in_ok-image.ensures.paired is.whole is.complete_is;
    }
