use Rattle.std.proofs.Common.{◌≡◌, ℕ, List, Bool, map}
use Rattle.std.specs.List.{range_with_len}
use Rattle.cjc_check_rules.specs.ExportFile.declared.tree.ExportClass.{ExportClass}
use Rattle.cjc_check_index.specs.Imported.Tokens.{each_class}
use Rattle.cjc_check_index.specs.Imported.Working.Graph.{AreBelow, above_of}
use Rattle.cjc_check_index.specs.Imported.Working.Rows.{has_or_inherits}
use Rattle.cjc_check_index.proofs.imported.rows.closed_rows.Given as goal

abbrev pub invariant-loop-token : goal.invariant-loop-token
invariant-loop-token l = (classes : List ExportClass) → (test : ℕ → ExportClass → Bool)
    → AreBelow (above_of classes) l.below → l.tables ≡ each_class test classes
    → l.rows ≡ map (λ token. map (has_or_inherits (test token) classes) classes) (range_with_len 0 l.token)
