-- Static cells by the offsets of their fields.
use Rattle.std.specs.Prelude.{ℕ, List, [], ◌∷◌, ◌++◌, if◌then◌else◌}
use Rattle.cjc_classes.specs.CardSemantics.Machine.Loaded.{CellName}
use Rattle.cjc_classes.specs.ClassFile.declared.tree.ClassTree.{ClassTree}
use Rattle.cjc_classes.specs.ClassFile.declared.tree.FieldTree.{FieldTree}
use Rattle.cjc_classes.specs.Clinit.Fields.{is_cell}
use Rattle.cjc_classes.specs.Clinit.Image.{field_id}

-- what items give beside others, as far as there are both
abbrev pub beside : {A B C : Type 0} → (A → B → List C) → List A → List B → List C
beside f (x ∷ xs) (y ∷ ys) = f x y ++ beside f xs ys
beside f _ _ = []

-- the cell at an offset, where a field of the class of this name has one
abbrev pub cell_where : (class : List ℕ) → FieldTree → (offset : ℕ) → List CellName
cell_where class f offset = if is_cell f then record { offset = offset; id = field_id class f } ∷ [] else []

-- the cells of a class by the offsets of its fields
abbrev pub cells_by : ClassTree → (offsets : List ℕ) → List CellName
cells_by c offsets = beside (cell_where c.name) c.fields offsets
