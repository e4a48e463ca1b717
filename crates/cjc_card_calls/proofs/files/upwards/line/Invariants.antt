use Rattle.std.proofs.Common.{◌≡◌, ◌-◌}
use Rattle.cjc_card_calls.specs.Files.Climbs.{climbed}
use Rattle.cjc_card_calls.specs.Files.Files.{line_of}
use Rattle.cjc_card_calls.proofs.files.upwards.line.Given as goal

abbrev pub invariant-loop-done : goal.invariant-loop-done
invariant-loop-done l = climbed l.names (l.steps - l.done) l.climb ≡ line_of l.names l.fn.class
