-- The imported packages (section 6.6).
use Rattle.cjc_bytes.specs.Format.{Format, gives, ◌>>=◌, repeated, u1}
use Rattle.cjc_capread.specs.declared.tree.Import.{Import}
use Rattle.cjc_capread.specs.declared.tree.ImportedPackage.{ImportedPackage}
use Rattle.cjc_capread.specs.Parts.{bytes1}

-- a package: its version and its AID
unfoldable pub imported_package : Format ImportedPackage
imported_package = do
  minor ← u1
  major ← u1
  aid ← bytes1
  gives (record { minor = minor; major = major; aid = aid })

-- the packages, behind their number
unfoldable pub import : Format Import
import = do
  count ← u1
  packages ← repeated count imported_package
  gives (record { packages = packages })
