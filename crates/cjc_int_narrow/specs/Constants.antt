-- The constants of a package, by which its methods have their intervals.
use Rattle.std.specs.Prelude.{Option, ℤ}
use Rattle.cjc_int_mode.specs.Bytes.declared.fault.MemberId.{MemberId}
use Rattle.cjc_int_mode.specs.World.Classes.{all_classes}
use Rattle.cjc_int_mode.specs.World.Files.{Files}
use Rattle.cjc_narrow.specs.Rows.Resolved.{constant_named}

-- what a package's instructions get of a field that they name: its value, where the field that is found is a constant
abbrev pub constants_of : Files → MemberId → Option ℤ
constants_of files = constant_named files (all_classes files)
