use Rattle.std.proofs.Common.{◌≡◌, ◌+◌, drop}
use Rattle.std.specs.Prelude.{sum_by}
use Rattle.cjc_methods.specs.Layouts.Working.Offsets.{handlers_of}
use Rattle.cjc_methods.proofs.layouts.starts.handler_count.Given as goal

abbrev pub invariant-loop-method : goal.invariant-loop-method
invariant-loop-method l = l.count + sum_by handlers_of (drop l.method-index l.laid) ≡ sum_by handlers_of l.laid
