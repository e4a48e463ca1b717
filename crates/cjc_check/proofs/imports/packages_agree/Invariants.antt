use Rattle.std.proofs.Common.{◌≡◌, ◌+◌, drop}
use Rattle.std.specs.Prelude.{sum_by}
use Rattle.cjc_check.specs.Complete.{package_size}
use Rattle.cjc_check.specs.Imports.{packages_agree}
use Rattle.cjc_check.specs.Spots.{earlier, first}
use Rattle.cjc_check.proofs.imports.packages_agree.Given as goal

abbrev pub invariant-loop-i : goal.invariant-loop-i
invariant-loop-i l =
    (l.at + sum_by package_size (drop l.i l.packages) ≡ 1 + sum_by package_size l.packages)
    × (earlier l.least (first (packages_agree l.at (drop l.i l.packages) (drop l.i l.exports))) ≡ first (packages_agree 1 l.packages l.exports))
