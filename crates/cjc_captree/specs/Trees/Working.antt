-- What the code and its proofs keep for themselves; a reader of the contracts may pass over it.
use Rattle.std.specs.Prelude.{◌≡◌, ℕ, List, map, Some}
use Rattle.cjc_methods.specs.CapRead.declared.tree.CapTree.{CapTree}
use Rattle.cjc_exported.specs.World.Order.{class_order}
use Rattle.cjc_exported.specs.Components.Package.{Package, world}
use Rattle.cjc_exported.specs.Components.Names.{class_ref}
use Rattle.cjc_exported.specs.Components.Components.{components_with, directory_with}
use Rattle.cjc_classes.specs.ClassInfo.Refs.{AreRefs}
use Rattle.cjc_classes.specs.TypeInfo.TypeTable.{class_at}
use Rattle.cjc_classes.specs.declared.descriptor.parts.Extent.{Extent}
use Rattle.cjc_classes.specs.Descriptor.Made.{cells_of, extents_of}
use Rattle.cjc_captree.specs.declared.trees.names.Names.{Names}

-- the offsets of methods
abbrev pub offsets_in : List (List Extent) → List (List ℕ)
offsets_in extents = map (map (λ (e : Extent). e.offset)) extents

-- They are the package's.
pub record AreNames (p : Package) (n : Names) : Type 0 where
  pub refs : AreRefs p n.refs
  pub order : map Some (class_order (world p)) ≡ map (class_at (let files = p.files in files.classes)) n.order
  pub offsets : n.offsets ≡ offsets_in (extents_of p)
  pub cells : n.cells ≡ cells_of p
  pub numbered : n.numbered ≡ map (λ c. class_ref p c.name) (let files = p.files in files.classes)

-- All components but Directory are the package's.
abbrev pub HasComponents : Package → CapTree → Type 0
HasComponents p t = (sizes : List ℕ) → record t { directory = directory_with sizes p } ≡ components_with sizes p
