-- What the code makes the export file from.
use Rattle.std.specs.Prelude.{◌≡◌, ℕ, ◌+◌, List, [], ◌∷◌, ◌++◌, length, map, filter, nat_lt, Bool, true, false, not}
use Rattle.std.specs.Prelude.{if◌then◌else◌, Some}
use Rattle.cjc_world.specs.Bytes.declared.fault.MemberId.{MemberId}
use Rattle.cjc_world.specs.ExportFile.declared.tree.ExportMethod.{ExportMethod}
use Rattle.cjc_world.specs.Classes.{Member, Class, all_classes, class_at}
use Rattle.cjc_world.specs.Added.{added}
use Rattle.cjc_world.specs.Lookup.{member_at}
use Rattle.cjc_world.specs.Working.Known.{class_of}
use Rattle.cjc_components.specs.LowerTokens.Tokens.{assigned}
use Rattle.cjc_components.specs.Package.{Package, world}
use Rattle.cjc_components.specs.Descriptor.{added_flags}
use Rattle.cjc_components.specs.ExportFile.{method_entry, methods_from, added_from, inherited}
use Rattle.cjc_components.specs.Names.{member_token}
use Rattle.cjc_exported.specs.declared.export_file.source.Source.{Source}
use Rattle.cjc_exported.specs.declared.export_file.method.Method.{Method}
use Rattle.cjc_exported.specs.ExportFile.Working.Plain.{plain}

-- the package that is written
abbrev pub package_in : Source → Package
package_in s = plain s.list.now s.world.now

-- the classes of all its files
abbrev pub world_in : Source → List Class
world_in s = all_classes s.world.now

-- an imported class, or one of the package
abbrev pub is_of_kind : (imported : Bool) → Class → Bool
is_of_kind imported c = if imported then c.is_imported else not c.is_imported

-- The tokens are those of the package, and the classes of each kind stand in order.
pub record AreSources (s : Source) : Type 0 where
  pub tokens : (let list = s.list.now in s.tokens.now ≡ assigned (nat_lt 0 (length list.applets)) s.world.now)
  pub declared : map class_of s.declared.items ≡ filter (is_of_kind false) (world_in s)
  pub imported : map class_of s.imported.items ≡ filter (is_of_kind true) (world_in s)

-- The class is the one of its kind and number.
abbrev pub IsNumbered : Source → Class → Type 0
IsNumbered s c = class_at (world_in s) c.is_imported c.number ≡ Some c

-- a method as the code lends it
abbrev pub method_of : Method → Member
method_of m = record { flags = m.flags; name = m.name.now; desc = m.desc.now; token = 0 }

-- without the token of an export file
abbrev pub bare : Member → Member
bare m = record m { token = 0 }

-- a method that is added to a class, by its name in the world
abbrev pub given : MemberId → Member
given m = record { flags = added_flags; name = m.name; desc = m.desc; token = 0 }

-- the methods that are added to a class, the first of which has this place
abbrev pub given_from : Package → Class → (place : ℕ) → List MemberId → List ExportMethod
given_from p c i [] = []
given_from p c i (m ∷ methods) = method_entry (member_token p (Some (member_at c i))) (given m)
    ∷ given_from p c (i + 1) methods

-- the methods of a class in an export file
abbrev pub methods_of : Package → Class → List ExportMethod
methods_of p c = methods_from p c (length c.fields) c.methods
    ++ (added_from p c (length c.fields + length c.methods) (added (world p) c) ++ inherited (world p) c)
