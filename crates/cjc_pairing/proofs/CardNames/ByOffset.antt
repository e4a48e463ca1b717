-- Cells by the offsets of fields are those of the image.
use Rattle.std.proofs.Common.{◌≡◌, ℕ, Bool, true, false, List, [], ◌∷◌, ◌++◌, map, refl, ap, ◌∙◌}
use Rattle.std.specs.Prelude.{filter, if◌then◌else◌}
use Rattle.std.specs.List.{flat_map}
use Rattle.cjc_classes.specs.CardSemantics.Machine.Loaded.{CellName}
use Rattle.cjc_classes.specs.ClassFile.declared.tree.ClassTree.{ClassTree}
use Rattle.cjc_classes.specs.ClassFile.declared.tree.FieldTree.{FieldTree}
use Rattle.cjc_classes.specs.Clinit.Fields.{is_cell}
use Rattle.cjc_classes.specs.Clinit.Image.{field_id}
use Rattle.cjc_classes.specs.LowerComponents.Statics.{cell_offset}
use Rattle.cjc_classes.specs.LowerComponents.Paired.Naming.{cells_in}
use Rattle.cjc_card_link.specs.World.declared.image.StaticImage.{StaticImage}
use Rattle.cjc_pairing.specs.CardNames.Working.Cells.{beside, cell_where, cells_by}

-- the cell of a field of a class of this name
abbrev named : (class : List ℕ) → (FieldTree → ℕ) → FieldTree → CellName
named class g f = record { offset = g f; id = field_id class f }

of_class : (class : List ℕ) (g : FieldTree → ℕ) (fs : List FieldTree) → beside (cell_where class) fs (map g fs)
    ≡ map (named class g) (filter is_cell fs)
of_class class g [] = refl
of_class class g (f ∷ fs) = by (is_cell f) (of_class class g fs)
  where
    by : (b : Bool) → beside (cell_where class) fs (map g fs) ≡ map (named class g) (filter is_cell fs)
        → (if b then named class g f ∷ [] else []) ++ beside (cell_where class) fs (map g fs)
        ≡ map (named class g) (if b then f ∷ filter is_cell fs else filter is_cell fs)
    by true rest = ap (λ cs. named class g f ∷ cs) rest
    by false rest = rest

-- where the cells of a class stand
abbrev pub offsets_in : StaticImage → ClassTree → List ℕ
offsets_in image c = map (λ f. cell_offset image (field_id c.name f)) c.fields

pub cells_are : (image : StaticImage) (cs : List ClassTree) → beside cells_by cs (map (offsets_in image) cs)
    ≡ flat_map (cells_in image) cs
cells_are image [] = refl
cells_are image (c ∷ cs) =
    ap (λ xs. xs ++ beside cells_by cs (map (offsets_in image) cs))
    (of_class c.name (λ f. cell_offset image (field_id c.name f)) c.fields)
    ∙ ap (λ xs. cells_in image c ++ xs) (cells_are image cs)
