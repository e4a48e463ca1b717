use Rattle.std.proofs.Common.{◌≡◌, drop}
use Rattle.cjc_clinit.specs.Reading.{after_codes}
use Rattle.cjc_clinit.specs.Working.{puts}
use Rattle.cjc_clinit.proofs.puts.after_codes.Given as goal

abbrev pub invariant-loop-code : goal.invariant-loop-code
invariant-loop-code l = after_codes l.world (puts l.rows l.arrays) (drop l.code-index l.codes) ≡ after_codes l.world (puts l.initial.rows l.initial.arrays) l.codes
