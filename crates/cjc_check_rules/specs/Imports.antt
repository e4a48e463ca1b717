-- Import names the export files (Java Card Virtual Machine Specification 2.2.2, 6.6 and 4.5.2).
use Rattle.std.specs.Prelude.{ℕ, ◌+◌, List, ◌++◌, length, ◌==◌}
use Rattle.cjc_capread.specs.declared.tree.ImportedPackage.{ImportedPackage}
use Rattle.cjc_capread.specs.declared.tree.Import.{Import}
use Rattle.cjc_export.specs.declared.tree.ExportTree.{ExportTree}
use Rattle.cjc_check_rules.specs.Spots.{ComponentPlace, in_info, unless, beside, bytes_differ}
use Rattle.cjc_check_rules.specs.Complete.{package_size}

-- An AID, whose length stands at this offset and whose bytes stand behind it. Broken are the length, where it is
-- another,
-- and each byte that is another.
abbrev pub aid_agrees : (at : ℕ) → (aid own : List ℕ) → List ComponentPlace
aid_agrees at aid own = unless (length aid == length own) (in_info 4 at) ++ bytes_differ 4 (at + 1) aid own

-- a package, which begins at this offset with its minor and its major version and its AID
abbrev pub package_agrees : (at : ℕ) → ImportedPackage → ExportTree → List ComponentPlace
package_agrees at p t = unless (p.major == t.major) (in_info 4 (at + 1)) ++ aid_agrees (at + 2) p.aid t.aid

-- packages beside export files, as far as there are both
abbrev pub packages_agree : (at : ℕ) → List ImportedPackage → List ExportTree → List ComponentPlace
packages_agree at packages exports = beside package_size package_agrees at packages exports

-- 703. The imported packages are those of the export files, in order, with the same AID and major version. Broken is
-- the number of
-- packages, the major version, or the AID: its length where that is another, else its first byte that is.
abbrev pub import_spots : Import → List ExportTree → List ComponentPlace
import_spots i exports = unless (length i.packages == length exports) (in_info 4 0)
    ++ packages_agree 1 i.packages exports
