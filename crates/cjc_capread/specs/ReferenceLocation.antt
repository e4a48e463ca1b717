-- Where in Method the indices into the constant pool stand (section 6.11).
use Rattle.cjc_bytes.specs.Format.{Format, gives, ◌>>=◌}
use Rattle.cjc_capread.specs.declared.tree.ReferenceLocation.{ReferenceLocation}
use Rattle.cjc_capread.specs.Parts.{bytes2}

-- the distances of one-byte indices, then of two-byte ones
unfoldable pub reference_location : Format ReferenceLocation
reference_location = do
  one_byte ← bytes2
  two_byte ← bytes2
  gives (record { one_byte = one_byte; two_byte = two_byte })
