use Rattle.std.proofs.lemmas.Result.{err_from_is_err_and}
use Rattle.cjc_prepared.specs.Prepared.{IsSound}
use Rattle.cjc_converting.proofs.Listed.{no_ints}
use Rattle.cjc_converting.proofs.Stops.{stopped_by_files}
use Rattle.cjc_converting.proofs.conversion.components_of_files.Goals as goal

pub caps_judged-requires-clause-sound : goal.caps_judged-requires-clause-sound
caps_judged-requires-clause-sound c =
    let list = c.args.list.now in
    let files = c.args.files.now in
    let is : IsSound list files c.in_ok-judged.judged = record { judged_by = c.in_ok-judged.ensures.judged; are_files = c.requires.bytes; no_int = no_ints list c.requires.read } in
    (files, is)

pub returns-in_err-judged-clause-refused : goal.returns-in_err-judged-clause-refused
returns-in_err-judged-clause-refused c =
    let list = c.args.list.now in
    let files = c.args.files.now in
    let e = err_from_is_err_and c.from_residual.result c.from_residual.ensures.1 in
    rw (e.1, e.2) (stopped_by_files list files c.in_err-judged.field-0.0 c.in_err-judged.ensures.refused)

pub returns-clause-made : goal.returns-clause-made
returns-clause-made c =
    let list = c.args.list.now in
    let files = c.args.files.now in
    let is : IsSound list files c.in_ok-judged.judged = record { judged_by = c.in_ok-judged.ensures.judged; are_files = c.requires.bytes; no_int = no_ints list c.requires.read } in
    c.caps_judged.ensures.made files is

pub returns-clause-refused : goal.returns-clause-refused
returns-clause-refused c =
    let list = c.args.list.now in
    let files = c.args.files.now in
    let is : IsSound list files c.in_ok-judged.judged = record { judged_by = c.in_ok-judged.ensures.judged; are_files = c.requires.bytes; no_int = no_ints list c.requires.read } in
    c.caps_judged.ensures.refused files is
