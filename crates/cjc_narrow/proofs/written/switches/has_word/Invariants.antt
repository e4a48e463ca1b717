use Rattle.std.proofs.Common.{◌≡◌, drop}
use Rattle.cjc_narrow.specs.Written.Working.Switches.{any_word}
use Rattle.cjc_narrow.proofs.written.switches.has_word.Given as goal

abbrev pub invariant-loop : goal.invariant-loop
invariant-loop l = any_word l.value (drop l.index l.targets) ≡ any_word l.low l.targets
