use Rattle.std.proofs.Common.{◌≡◌, take}
use Rattle.cjc_imported.specs.Tokens.{each_class}
use Rattle.cjc_imported.specs.Working.Rows.{lists_method}
use Rattle.cjc_imported.proofs.listed.method_tables.Given as goal

abbrev pub invariant-loop-listed : goal.invariant-loop-listed
invariant-loop-listed l = l.tables ≡ each_class (lists_method l.unbound) (take l.listed-index l.classes)
