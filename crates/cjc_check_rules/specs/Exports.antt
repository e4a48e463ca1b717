-- Export names what Descriptor gives its tokens (Java Card Virtual Machine Specification 2.2.2, 6.12).
use Rattle.std.specs.Prelude.{ℕ, ◌+◌, ◌*◌, List, [], ◌∷◌, ◌++◌, length, Bool, ◌==◌, ◌&&◌, ◌||◌, Option, Some, None}
use Rattle.std.specs.List.{list_any, find}
use Rattle.cjc_capread.specs.declared.tree.ClassDescriptor.{ClassDescriptor}
use Rattle.cjc_capread.specs.declared.tree.ExportedClass.{ExportedClass}
use Rattle.cjc_capread.specs.declared.tree.Export.{Export}
use Rattle.cjc_capread.specs.ClassRefs.{is_inside}
use Rattle.cjc_export.specs.Bytes.AccessFlags.{is_static}
use Rattle.cjc_check_rules.specs.Spots.{ComponentPlace, in_info, unless, numbered}
use Rattle.cjc_check_rules.specs.Complete.{Complete, exported_size}
use Rattle.cjc_check_rules.specs.Classes.{is_start}
use Rattle.cjc_check_rules.specs.Members.{is_constructor, is_cell_at, is_method_start}

-- a static method or a constructor with this token begins at this offset
abbrev pub has_method : ClassDescriptor → (token offset : ℕ) → Bool
has_method d token offset = list_any (λ m. m.token == token && (is_static m.flags || is_constructor m.flags)
    && m.offset == offset) d.methods

-- a static field with this token has this cell
abbrev pub has_field : ClassDescriptor → (token offset : ℕ) → Bool
has_field d token offset = list_any (λ f. f.token == token && is_cell_at f.place offset) d.fields

-- the class or interface of Descriptor with this token and this start
abbrev pub class_for : Complete → (token offset : ℕ) → Option ClassDescriptor
class_for c token offset = find (λ d. d.token == token && is_inside d.this_class offset) c.descriptor.classes

-- an exported class that begins at this offset: its own offset, two counts of one byte, an offset for each static field
-- and for each
-- static method, by token
abbrev pub in_exported : Complete → (at : ℕ) → ExportedClass → Option ClassDescriptor → List ComponentPlace
in_exported c at e None = in_info 10 at ∷ []
in_exported c at e (Some d) =
    unless (is_start c.class e.class_offset) (in_info 10 at)
    ++ numbered (λ o. 2) (λ token at o. unless (has_field d token o) (in_info 10 at)) 0 (at + 4) e.fields
    ++ numbered (λ o. 2) (λ token at o. unless (is_method_start c o && has_method d token o) (in_info 10 at)) 0
    (at + 4 + 2 * length e.fields) e.methods

-- the classes that Export lists; none where it is absent
abbrev pub exported_classes : Option Export → List ExportedClass
exported_classes None = []
exported_classes (Some e) = e.classes

-- 717. The offsets of Export are starts of classes, static fields and static methods, in the order of the tokens that
-- Descriptor gives
-- them. Broken is the offset.
abbrev pub export_spots : Complete → List ComponentPlace
export_spots c =
    numbered exported_size (λ token at e. in_exported c at e (class_for c token e.class_offset)) 0 1
    (exported_classes c.export)
