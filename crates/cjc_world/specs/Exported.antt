-- Which classes of a package others may name (Java Card Virtual Machine Specification 2.2.2, section 4.3.1).
use Rattle.std.specs.Prelude.{ℕ, List, Bool, false, not, ◌&&◌, ◌||◌, Option, Some, None, codes}
use Rattle.cjc_world.specs.Classes.{Class, class_named}
use Rattle.cjc_bytes.specs.AccessFlags.{is_interface, is_public}
use Rattle.cjc_world.specs.Subtype.{is_subtype}

-- the interface that makes those below it shareable
abbrev pub shareable : List ℕ
shareable = codes "javacard/framework/Shareable"

-- there is a class, and it is of an export file
abbrev pub is_imported : Option Class → Bool
is_imported None = false
is_imported (Some c) = c.is_imported

-- an interface that is the imported javacard/framework/Shareable or stands below it
abbrev pub is_shareable : List Class → Class → Bool
is_shareable w c = is_interface c.flags && is_imported (class_named w shareable) && is_subtype w c.name shareable

-- Public classes where the package has no applet; else the public shareable interfaces.
unfoldable pub is_exported : List Class → (applets : Bool) → Class → Bool
is_exported w applets c = is_public c.flags && (not applets || is_shareable w c)
