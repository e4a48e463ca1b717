-- The components of a package some of whose methods are in int mode: ACC_INT says so in Header, and Method has the code
-- of each by its mode.
use Rattle.std.specs.Prelude.{Bool, false, ◌||◌, Option, Some, None, is_some}
use Rattle.std.specs.List.{list_any}
use Rattle.cjc_components.specs.LowerCapRead.declared.tree.CapTree.{CapTree}
use Rattle.cjc_components.specs.LowerCapRead.declared.tree.Header.{Header}
use Rattle.cjc_components.specs.LowerJvmSemantics.Linked.{Method}
use Rattle.cjc_components.specs.LowerJvmSemantics.OnePackage.{method_at}
use Rattle.cjc_components.specs.Components.{components_of, header, header_flags, uses_int}
use Rattle.cjc_components.specs.Exports.{export}
use Rattle.cjc_components.specs.Package.{Package, has_applets, world}
use Rattle.cjc_int_package.specs.Modes.{Tables, is_int}

-- a method of a class file is in int mode; one that is added to its class is not
abbrev pub is_in_int_mode : Tables → Option Method → Bool
is_in_int_mode t None = false
is_in_int_mode t (Some m) = is_int (t.mode m)

-- some method of Method is in int mode
abbrev pub has_int_mode : Tables → Package → Bool
has_int_mode t p = list_any (λ m. is_in_int_mode t (method_at p.files m.member)) p.methods

-- Header, with ACC_INT where a field or a method names int in its descriptor, or a method is in int mode.
abbrev pub header_by_modes : Tables → Package → Header
header_by_modes t p = record (header p) {
  flags = header_flags (uses_int (world p) || has_int_mode t p) (is_some (export p)) (has_applets p);
}

-- All components. Header has as many bytes whatever its flags are, so Directory has the sizes of `components_of`.
abbrev pub components_by_modes : Tables → Package → CapTree
components_by_modes t p = record (components_of p) { header = header_by_modes t p }
