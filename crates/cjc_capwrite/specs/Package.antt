-- The bytes of Header, Directory, Applet and Import.
use Rattle.std.specs.Prelude.{ℕ, List, [], ◌∷◌, ◌++◌, length}
use Rattle.std.specs.List.{flat_map}
use Rattle.std.specs.Int.{w32, to_be_bytes}
use Rattle.cjc_capread.specs.declared.tree.Header.{Header}
use Rattle.cjc_capread.specs.declared.tree.Directory.{Directory}
use Rattle.cjc_capread.specs.declared.tree.Applet.{Applet}
use Rattle.cjc_capread.specs.declared.tree.AppletEntry.{AppletEntry}
use Rattle.cjc_capread.specs.declared.tree.Import.{Import}
use Rattle.cjc_capread.specs.declared.tree.ImportedPackage.{ImportedPackage}
use Rattle.cjc_capwrite.specs.Parts.{one, two, bytes1}

-- the info of Header: the magic number, version 2.2 of the format, the package (section 6.3)
unfoldable pub header_bytes : Header → List ℕ
header_bytes x = to_be_bytes w32 0xDECAFFED
    ++ (2 ∷ [] ++ (2 ∷ [] ++ (x.flags ∷ [] ++ (x.minor ∷ [] ++ (x.major ∷ [] ++ (bytes1 x.aid ++ bytes1 x.name))))))

-- the info of Directory: sizes and counts, no custom component (section 6.4)
unfoldable pub directory_bytes : Directory → List ℕ
directory_bytes x = flat_map two x.component_sizes ++ (two x.image_size ++ (two x.array_init_count
    ++ (two x.array_init_size ++ (x.import_count ∷ [] ++ (x.applet_count ∷ [] ++ 0 ∷ [])))))

-- an applet: its AID and its install method (section 6.5)
unfoldable pub applet_entry_bytes : AppletEntry → List ℕ
applet_entry_bytes x = bytes1 x.aid ++ two x.install_method

-- the info of Applet (section 6.5)
unfoldable pub applet_bytes : Applet → List ℕ
applet_bytes x = one (length x.applets) ++ flat_map applet_entry_bytes x.applets

-- an imported package: its version and its AID (section 6.6)
unfoldable pub imported_package_bytes : ImportedPackage → List ℕ
imported_package_bytes x = x.minor ∷ [] ++ (x.major ∷ [] ++ bytes1 x.aid)

-- the info of Import, by package token (section 6.6)
unfoldable pub import_bytes : Import → List ℕ
import_bytes x = one (length x.packages) ++ flat_map imported_package_bytes x.packages
