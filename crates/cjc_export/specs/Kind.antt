-- Entries of the constant pool as the code keeps them, the entries of the definitions that these are, and short
-- texts.
use Rattle.std.specs.Prelude.{◌<◌, ◌^◌, length}
use Rattle.cjc_export.specs.declared.pool.Kind.{Kind}
use Rattle.cjc_export.specs.declared.pool.Kind.TheVariants as kinds
use Rattle.cjc_export.specs.Entry.{Entry, text, integer, class, package_info}

-- the entry of the constant pool that the code's kind is
abbrev pub entry_of : Kind → Entry
entry_of (kinds.Text bytes) = text bytes.now
entry_of (kinds.Integer n) = integer n
entry_of (kinds.Class name) = class name
entry_of (kinds.Package library name minor major aid) = package_info library name minor major aid.now

-- A text has at most 65535 bytes.
abbrev pub IsShort : Kind → Type 0
IsShort (kinds.Text bytes) = length bytes.now < 2 ^ 16
IsShort _ = Unit {0}
