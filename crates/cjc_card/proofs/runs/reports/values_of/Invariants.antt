use Rattle.std.proofs.Common.{◌≡◌, map, take}
use Rattle.cjc_script.specs.declared.value.Value.TheVariants.{Num}
use Rattle.cjc_card.proofs.runs.reports.values_of.Given as goal

abbrev pub invariant-loop-number : goal.invariant-loop-number
invariant-loop-number l = l.row ≡ map Num (take l.number-index l.numbers)
