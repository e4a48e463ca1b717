use Rattle.std.proofs.Common.{◌∙◌}
use Rattle.std.proofs.lemmas.Result.{err_from_is_err_and}
use Rattle.cjc_convert.proofs.conversion.assemble.Goals as goal

pub judged_files-requires-clause-sound : goal.judged_files-requires-clause-sound
judged_files-requires-clause-sound c = (c.args.files.now, c.in_ok-judged.ensures.sound)

pub returns-in_err-judged-clause-refused : goal.returns-in_err-judged-clause-refused
returns-in_err-judged-clause-refused c =
    let e = err_from_is_err_and c.from_residual.result c.from_residual.ensures.1 in
    rw (e.1, e.2) c.in_err-judged.ensures.refused

pub returns-clause-converted : goal.returns-clause-converted
returns-clause-converted c = c.judged_files.ensures.converted c.args.files.now c.in_ok-judged.ensures.sound

pub returns-clause-refused : goal.returns-clause-refused
returns-clause-refused c = c.judged_files.ensures.refused c.args.files.now c.in_ok-judged.ensures.sound
