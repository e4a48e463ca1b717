use Rattle.std.proofs.Common.{◌≡◌, []}
use Rattle.cjc_bytes.specs.Format.{iterated}
use Rattle.cjc_bytes.specs.Reading.{read}
use Rattle.cjc_export.specs.Members.{grown}
use Rattle.cjc_export.specs.ExportFile.{class_tree}
use Rattle.cjc_export.proofs.file.read_class_trees.Given as goal

abbrev pub invariant-loop-behind : goal.invariant-loop-behind
invariant-loop-behind l = read (iterated l._behind (grown (class_tree l.pool)) l.classes) l.cursor
    ≡ read (iterated l.count (grown (class_tree l.pool)) []) l.fn.cursor
