-- Import names the export files (Java Card Virtual Machine Specification 2.2.2, 6.6 and 4.5.2).
use Rattle.std.specs.Prelude.{List, [], ◌∷◌, Bool, true, false, ◌==◌, ◌&&◌}
use Rattle.std.specs.Str.{bytes_eq}
use Rattle.cjc_capread.specs.declared.tree.ImportedPackage.{ImportedPackage}
use Rattle.cjc_export.specs.declared.tree.ExportTree.{ExportTree}
use Rattle.cjc_first.specs.Sentences.Complete.{Complete}

abbrev pub are_these : List ImportedPackage → List ExportTree → Bool
are_these [] [] = true
are_these (p ∷ packages) (t ∷ exports) = p.major == t.major && bytes_eq p.aid t.aid && are_these packages exports
are_these _ _ = false

-- 703. The imported packages are those of the export files, in order, with the same AID and major version.
unfoldable pub imports_agree : Complete → List ExportTree → Bool
imports_agree c exports = are_these c.import.packages exports
