use Rattle.std.proofs.Common.{◌≡◌, ◌++◌, drop, map}
use Rattle.cjc_classes.specs.Descriptor.Made.{numbered}
use Rattle.cjc_captree.specs.Working.Tables.{nowhere, row_of, table_of}
use Rattle.cjc_captree.proofs.extents.rows.empty_rows.Given as goal

abbrev pub invariant-loop-number : goal.invariant-loop-number
invariant-loop-number l = let files = l.world in l.rows.items
    ++ map (row_of files (λ _. nowhere)) (numbered l.number (drop l.number files.classes))
    ≡ table_of files (λ _. nowhere)
