use Rattle.std.proofs.lemmas.Result.{err_from_is_err_and}
use Rattle.cjc_convert.proofs.converting.conversion.components_of_files.Goals as goal

pub judged_components-requires-clause-sound : goal.judged_components-requires-clause-sound
judged_components-requires-clause-sound c = (c.args.files.now, c.in_ok-judged.ensures.sound)

pub returns-in_err-judged-clause-refused : goal.returns-in_err-judged-clause-refused
returns-in_err-judged-clause-refused c =
    let e = err_from_is_err_and c.from_residual.result c.from_residual.ensures.1 in
    rw (e.1, e.2) c.in_err-judged.ensures.refused

pub returns-clause-made : goal.returns-clause-made
returns-clause-made c = c.judged_components.ensures.made c.args.files.now c.in_ok-judged.ensures.sound

pub returns-clause-refused : goal.returns-clause-refused
returns-clause-refused c = c.judged_components.ensures.refused c.args.files.now c.in_ok-judged.ensures.sound
