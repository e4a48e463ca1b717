use Rattle.std.proofs.Common.{◌≡◌, length}
use Rattle.cjc_first.specs.FirstForm.{object}
use Rattle.std.specs.List.{find}
use Rattle.std.specs.Str.{bytes_eq}
use Rattle.cjc_first.proofs.above.object_in.Given as goal

abbrev pub invariant-loop-left : goal.invariant-loop-left
invariant-loop-left l = find (λ c. bytes_eq c.name object) l.left ≡ find (λ c. bytes_eq c.name object) l.lang.classes

abbrev pub decreases-loop-left : goal.decreases-loop-left
decreases-loop-left l = length l.left
