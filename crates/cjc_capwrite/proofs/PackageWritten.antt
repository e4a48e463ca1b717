-- What is written of Header, Directory, Applet and Import spells it.
use Rattle.std.proofs.Common.{ℕ, length, refl, lit<}
use Rattle.cjc_capread.proofs.BytesWriters.{Writes, then_writes, last_writes, number1_writes, number4_writes, u1_writes}
use Rattle.cjc_capread.proofs.BytesWriters.{repeated_writes}
use Rattle.cjc_capread.specs.declared.tree.Header.{Header}
use Rattle.cjc_capread.specs.declared.tree.Directory.{Directory}
use Rattle.cjc_capread.specs.declared.tree.Applet.{Applet}
use Rattle.cjc_capread.specs.declared.tree.AppletEntry.{AppletEntry}
use Rattle.cjc_capread.specs.declared.tree.Import.{Import}
use Rattle.cjc_capread.specs.declared.tree.ImportedPackage.{ImportedPackage}
use Rattle.cjc_capread.specs.Parts.{exactly}
use Rattle.cjc_capread.specs.Header.{header}
use Rattle.cjc_capread.specs.Directory.{directory}
use Rattle.cjc_capread.specs.Applet.{applet_entry, applet}
use Rattle.cjc_capread.specs.Import.{imported_package, import}
use Rattle.cjc_capwrite.specs.Package.{header_bytes, directory_bytes, applet_entry_bytes, applet_bytes}
use Rattle.cjc_capwrite.specs.Package.{imported_package_bytes, import_bytes}
use Rattle.cjc_capwrite.specs.Fits.{HeaderFits, DirectoryFits, AppletEntryFits, AppletFits, ImportedPackageFits}
use Rattle.cjc_capwrite.specs.Fits.{ImportFits}
use Rattle.cjc_capwrite.proofs.PartsWritten.{one_writes, two_writes, bytes1_writes, numbers_write}

pub header_writes : (at : ℕ) (x : Header) → HeaderFits x → Writes header at x (header_bytes x)
unfolding header header_bytes
header_writes at x fits =
    then_writes (number4_writes (exactly 0xDECAFFED) at 0xDECAFFED 0xDECAFFED (lit< tt) refl)
    (then_writes (number1_writes (exactly 2) _ 2 2 refl)
    (then_writes (number1_writes (exactly 2) _ 2 2 refl)
    (then_writes (u1_writes _ x.flags)
    (then_writes (u1_writes _ x.minor)
    (then_writes (u1_writes _ x.major)
    (then_writes (bytes1_writes _ x.aid fits.aid)
    (last_writes (bytes1_writes _ x.name fits.name) refl)))))))

pub directory_writes : (at : ℕ) (x : Directory) → DirectoryFits x → Writes directory at x (directory_bytes x)
unfolding directory directory_bytes
directory_writes at x fits =
    then_writes (numbers_write at 12 x.component_sizes fits.twelve fits.component_sizes)
    (then_writes (two_writes _ x.image_size fits.image_size)
    (then_writes (two_writes _ x.array_init_count fits.array_init_count)
    (then_writes (two_writes _ x.array_init_size fits.array_init_size)
    (then_writes (u1_writes _ x.import_count)
    (then_writes (u1_writes _ x.applet_count)
    (last_writes (number1_writes (exactly 0) _ 0 0 refl) refl))))))

pub applet_entry_writes : (at : ℕ) (x : AppletEntry) → AppletEntryFits x
    → Writes applet_entry at x (applet_entry_bytes x)
unfolding applet_entry applet_entry_bytes
applet_entry_writes at x fits = then_writes (bytes1_writes at x.aid fits.aid)
    (last_writes (two_writes _ x.install_method fits.install_method) refl)

pub applet_writes : (at : ℕ) (x : Applet) → AppletFits x → Writes applet at x (applet_bytes x)
unfolding applet applet_bytes
applet_writes at x fits =
    then_writes (one_writes at (length x.applets) fits.count)
    (last_writes (repeated_writes applet_entry applet_entry_bytes AppletEntryFits applet_entry_writes _
    (length x.applets) x.applets refl fits.applets) refl)

pub imported_package_writes : (at : ℕ) (x : ImportedPackage) → ImportedPackageFits x
    → Writes imported_package at x (imported_package_bytes x)
unfolding imported_package imported_package_bytes
imported_package_writes at x fits = then_writes (u1_writes at x.minor) (then_writes (u1_writes _ x.major)
    (last_writes (bytes1_writes _ x.aid fits.aid) refl))

pub import_writes : (at : ℕ) (x : Import) → ImportFits x → Writes import at x (import_bytes x)
unfolding import import_bytes
import_writes at x fits =
    then_writes (one_writes at (length x.packages) fits.count)
    (last_writes (repeated_writes imported_package imported_package_bytes ImportedPackageFits imported_package_writes _
    (length x.packages) x.packages refl fits.packages) refl)
