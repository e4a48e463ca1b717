use Rattle.std.proofs.Common.{◌≡◌, drop}
use Rattle.std.specs.List.{list_any}
use Rattle.cjc_types.specs.Working.Onward.{begins_at}
use Rattle.cjc_flow.proofs.code.begins.Given as goal

abbrev pub invariant-loop-catch : goal.invariant-loop-catch
invariant-loop-catch l = list_any (begins_at l.offset) (drop l.catch-index l.catches) ≡ list_any (begins_at l.offset) l.catches
