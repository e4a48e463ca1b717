-- The package that an export file describes.
use Rattle.std.specs.Prelude.{ℕ, List, Option, None, option_and_then, option_map, slice_get}
use Rattle.std.specs.Int.{w16}
use Rattle.cjc_bytes.specs.Format.{Format, number}
use Rattle.cjc_export.specs.declared.file.Package.{Package}
use Rattle.cjc_export.specs.Entry.{Entry, package_info}
use Rattle.cjc_export.specs.Pool.{text_at}

-- the package that a CONSTANT_Package tells, where its name is a text of the pool
abbrev pub package_of : List Entry → Entry → Option Package
package_of pool (package_info library name minor major aid) = option_map (λ n. record {
  name = n;
  aid = aid;
  major = major;
  minor = minor;
  library = library;
}) (text_at pool name.to)
package_of pool _ = None

-- the package at an index
unfoldable pub package_at : List Entry → ℕ → Option Package
package_at pool i = option_and_then (package_of pool) (slice_get pool i)

-- the index of the CONSTANT_Package that tells of the package of the file
unfoldable pub package_field : List Entry → Format Package
package_field pool = number w16 (package_at pool)
