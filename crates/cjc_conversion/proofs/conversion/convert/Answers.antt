use Rattle.std.proofs.Common.{◌≡◌, inl, inr, true, false, ap, sym, ◌∙◌}
use Rattle.std.proofs.lemmas.Result.{err_from_is_err_and, MatchResult-weaker}
use Rattle.cjc_conversion.proofs.Answered.{by_rule}
use Rattle.cjc_conversion.proofs.conversion.convert.Goals as goal

pub judged_files-requires-clause-sound : goal.judged_files-requires-clause-sound
judged_files-requires-clause-sound c = (c.args.files.now, c.in_ok-judged.ensures.sound)
