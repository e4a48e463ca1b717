-- The package itself (section 6.3).
use Rattle.std.specs.Int.{w8, w32}
use Rattle.cjc_bytes.specs.Format.{Format, number, gives, ◌>>=◌, u1}
use Rattle.cjc_capread.specs.declared.tree.Header.{Header}
use Rattle.cjc_capread.specs.Parts.{exactly, bytes1}

-- the magic number and version 2.2 of the format, then what the package is
unfoldable pub header : Format Header
header = do
  magic ← number w32 (exactly 0xDECAFFED)
  format_minor ← number w8 (exactly 2)
  format_major ← number w8 (exactly 2)
  flags ← u1
  minor ← u1
  major ← u1
  aid ← bytes1
  name ← bytes1
  gives (record { flags = flags; minor = minor; major = major; aid = aid; name = name })
