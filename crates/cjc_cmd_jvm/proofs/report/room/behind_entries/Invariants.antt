use Rattle.std.proofs.Common.{◌≡◌, ◌+◌, length, take}
use Rattle.std.specs.List.{sum_by}
use Rattle.cjc_cmd_jvm.proofs.report.room.behind_entries.Given as goal

abbrev pub invariant-loop-entry : goal.invariant-loop-entry
invariant-loop-entry l = l.rest + sum_by (λ e. length e.acts) (take l.entry-index l.entries) ≡ l.left
