use Rattle.std.proofs.Common.{◌≡◌, ◌-◌, ◌++◌, map}
use Rattle.cjc_card_link.specs.Group.{files_from, import_of}
use Rattle.cjc_card_link.proofs.tables.files_from.Given as goal

abbrev pub invariant-loop-number : goal.invariant-loop-number
invariant-loop-number l = map import_of l.imports ++ files_from l.number (l.count - l.number) ≡ files_from 0 l.count
