-- Where the classes and members of a package stand, as Export names them.
use Rattle.std.specs.Prelude.{◌≡◌, ◌≤◌, ◌<◌, ℕ, ◌+◌, List, map, length, false, Option, Some, option_and_then, slice_get}
use Rattle.cjc_world.specs.Classes.{Class, class_at}
use Rattle.cjc_world.specs.Lookup.{member_at}
use Rattle.cjc_components.specs.LowerClinit.Image.{field_id}
use Rattle.cjc_components.specs.Package.{Package, world}
use Rattle.cjc_components.specs.Methods.{method_offset}
use Rattle.cjc_components.specs.Statics.{cell_offset}
use Rattle.cjc_components.specs.Names.{class_ref}
use Rattle.cjc_exported.specs.declared.export_file.component.Offsets.{Offsets}

-- what stands in rows for a member of a class
abbrev pub offset_at : List (List ℕ) → (class member : ℕ) → Option ℕ
offset_at rows n k = option_and_then (λ row. slice_get row k) (slice_get rows n)

-- These are of the package: of each of its classes by number the class_ref, of each field the offset of its cell, and
-- of each of
-- its own methods the offset of its header. More may stand behind the class_refs and the rows of methods.
pub record AreOffsets (p : Package) (o : Offsets) : Type 0 where
  pub refs : (n : ℕ) (c : Class) → class_at (world p) false n ≡ Some c → slice_get o.refs.now n
      ≡ Some (class_ref p c.name)
  pub cells : (let files = p.files in o.cells.now ≡ map (λ c. map (λ f. cell_offset p.image (field_id c.name f))
      c.fields) files.classes)
  pub methods : (n k : ℕ) (c : Class) → class_at (world p) false n ≡ Some c → length c.fields ≤ k
      → k < length c.fields + length c.methods → offset_at o.methods.now n k ≡ Some (method_offset p (member_at c k))
