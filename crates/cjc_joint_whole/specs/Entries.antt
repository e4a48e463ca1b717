-- What the export file of a package says of the virtual methods of its classes: by each token that it lists the method
-- that the class means by the token, whether it declares it, got it or inherits it; and each that the class means.
use Rattle.std.specs.Prelude.{◌≡◌, ℕ, Some, false, slice_get, true}
use Rattle.cjc_bytes.specs.AccessFlags.{is_interface}
use Rattle.cjc_components.specs.ExportFile.{export_class, method_entry, method_meant}
use Rattle.cjc_components.specs.Exports.{exported_classes}
use Rattle.cjc_components.specs.Package.{Package, world}
use Rattle.cjc_tokens.specs.Lines.{line_at, line_of}
use Rattle.cjc_tokens.specs.Members.{is_exposed, signature_of}
use Rattle.cjc_tokens.specs.Slots.{row, slots, token}
use Rattle.cjc_world.specs.Classes.{Class, Member}
use Rattle.cjc_world.specs.ExportFile.Members.{is_unbound}
use Rattle.cjc_world.specs.ExportFile.declared.tree.ExportMethod.{ExportMethod}
use Rattle.cjc_world.specs.declared.found.Found.{Found}

-- A virtual method that is listed of a class has the name, the descriptor and the flags of the one that the class means
-- by its token, which is the token of that name and descriptor in the class.
pub record IsOwnVirtual (p : Package) (c : Class) (e : ExportMethod) : Type 0 where
  pub found : Found
  pub there : slice_get (row (line_at (world p) c)) e.token ≡ Some (Some found)
  pub member : Member
  pub meant : method_meant (world p) found ≡ Some member
  pub is : method_entry e.token member ≡ e
  pub exposed : is_exposed member.flags ≡ true
  pub its_token : token (slots (line_of (world p) c.name)) (signature_of member) ≡ Some e.token

-- So it is of each that is listed of a class that others may name and that is no interface.
abbrev pub VirtualAreOwn : Package → Type 0
VirtualAreOwn p = (k i : ℕ) (c : Class) (e : ExportMethod) → slice_get (exported_classes p) k ≡ Some c
    → is_interface c.flags ≡ false → (let x = export_class p c in slice_get x.methods i ≡ Some e)
    → is_unbound e.flags e.name ≡ false → IsOwnVirtual p c e

-- Each public or protected method that such a class means by a token is listed under it.
abbrev pub MeantAreListed : Package → Type 0
MeantAreListed p = (k t : ℕ) (c : Class) (f : Found) (m : Member) → slice_get (exported_classes p) k ≡ Some c
    → is_interface c.flags ≡ false → slice_get (row (line_at (world p) c)) t ≡ Some (Some f)
    → method_meant (world p) f ≡ Some m → is_exposed m.flags ≡ true → (i : ℕ)
    × (let x = export_class p c in slice_get x.methods i ≡ Some (method_entry t m))
