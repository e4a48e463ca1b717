-- What ties to a package what is made of it before its Descriptor.
use Rattle.std.specs.Prelude.{◌≡◌, ℕ, ◌+◌, List, [], ◌∷◌, map, length}
use Rattle.std.specs.List.{range_with_len}
use Rattle.cjc_world.specs.ClassFile.declared.tree.ClassTree.{ClassTree}
use Rattle.cjc_world.specs.Classes.{Class, declared}
use Rattle.cjc_world.specs.Lookup.{member_at}
use Rattle.cjc_world.specs.Added.{added}
use Rattle.cjc_components.specs.LowerClinit.Image.{field_id}
use Rattle.cjc_components.specs.Package.{Package, tokens, world}
use Rattle.cjc_components.specs.Methods as methods
use Rattle.cjc_components.specs.Methods.{extent_of}
use Rattle.cjc_components.specs.Statics.{cell_offset}
use Rattle.cjc_classes.specs.ClassInfo.Refs.{ref_of}
use Rattle.cjc_classes.specs.TypeInfo.TypeTable.{AreOf, type_table}
use Rattle.cjc_classes.specs.declared.descriptor.parts.Extent.{Extent}
use Rattle.cjc_classes.specs.declared.descriptor.parts.Parts.{Parts}

-- the offset of the cell of each field by the number of its class and its own
abbrev pub cells_of : Package → List (List ℕ)
cells_of p = let files = p.files in map (λ c. map (λ f. cell_offset p.image (field_id c.name f)) c.fields) files.classes

-- class files as classes, the first of which has this number
abbrev pub numbered : ℕ → List ClassTree → List Class
numbered n [] = []
numbered n (c ∷ classes) = declared n c ∷ numbered (n + 1) classes

-- the members of a class: fields, methods, and those that it got
abbrev pub member_count : List Class → Class → ℕ
member_count w c = length c.fields + length c.methods + length (added w c)

-- where a method stands
abbrev pub extent_by : methods.Extent → Extent
extent_by e = record {
  offset = e.offset;
  bytecode_count = e.bytecode_count;
  handler_count = e.handler_count;
  first_handler = e.first_handler;
}

-- where each method of a class stands, by its place among the members
abbrev pub extents_in : Package → Class → List Extent
extents_in p c = map (λ k. extent_by (extent_of p (member_at c k))) (range_with_len 0 (member_count (world p) c))

-- of each class by its number
abbrev pub extents_of : Package → List (List Extent)
extents_of p = let files = p.files in map (extents_in p) (numbered 0 files.classes)

-- All of it is the package's.
pub record AreMade (p : Package) (q : Parts) : Type 0 where
  pub of : AreOf p q.world.now q.order.now q.keys.now (ref_of q.refs.now)
  pub by_tokens : q.tokens.now ≡ tokens p
  pub by_cells : q.cells.now ≡ cells_of p
  pub by_extents : q.extents.now ≡ extents_of p
  pub by_types : q.types.now ≡ type_table p
