use Rattle.std.proofs.Common.{◌≡◌, ◌++◌, drop}
use Rattle.std.specs.Prelude.{map}
use Rattle.cjc_clinit.specs.Initialiser.{nothing_in}
use Rattle.cjc_clinit.proofs.puts.no_puts.Given as goal

abbrev pub invariant-loop-class : goal.invariant-loop-class
invariant-loop-class l = l.rows.items ++ map nothing_in (drop l.class-index l.classes) ≡ map nothing_in l.classes
