use Rattle.std.proofs.Common.{◌≡◌, take}
use Rattle.cjc_check_index.specs.Imported.Tokens.{each_class}
use Rattle.cjc_check_index.specs.Imported.Working.Rows.{lists_method}
use Rattle.cjc_check_index.proofs.imported.listed.method_tables.Given as goal

abbrev pub invariant-loop-listed : goal.invariant-loop-listed
invariant-loop-listed l = l.tables ≡ each_class (lists_method l.unbound) (take l.listed-index l.classes)
