-- What the machine by token holds before the first entry, of several packages.
use Rattle.std.specs.Prelude.{◌≡◌, ℕ, ◌+◌, List, [], ◌∷◌, ◌++◌, length, map, true}
use Rattle.cjc_card_semantics.specs.Script.declared.report.FieldValue.{FieldValue}
use Rattle.cjc_card_semantics.specs.CapRead.declared.tree.StaticField.{StaticField}
use Rattle.cjc_card_semantics.specs.Machine.Statics.{Image, first_image}
use Rattle.cjc_exported.specs.Narrow.Rows.Package.{first_cell}
use Rattle.cjc_token_proof.specs.ByToken.Cells.{are_cells, image_of}
use Rattle.cjc_joint_proof.specs.Cells.{Statics}
use Rattle.cjc_joint_proof.specs.Images.{cell_behind, value_behind}

-- an image, where so many objects stand before those of its package
abbrev pub image_behind : (before : ℕ) → Image → Image
image_behind n i = record i { references = map (value_behind n) i.references }

-- A package's static fields, with what they hold at first by name, and its StaticField component.
pub record First : Type 0 where
  pub fields : Statics
  pub cells : List FieldValue
  pub component : StaticField

-- By itself the package's image holds at first what its cells do, and each cell can hold its value in the group.
pub record BeginsAlike (before : ℕ) (p : First) : Type 0 where
  pub image : first_image 0 p.component ≡ (let s = p.fields in image_of s.order (map first_cell p.cells))
  pub fit : (let s = p.fields in are_cells s.all (map first_cell (map (cell_behind before) p.cells))) ≡ true

-- the static fields of all packages
abbrev pub fields_in : List First → List Statics
fields_in group = map (λ (p : First). p.fields) group

-- What all static cells hold at first by name, package by package, each package's arrays behind those before.
abbrev pub all_cells : (before : ℕ) → List First → List FieldValue
all_cells n [] = []
all_cells n (p ∷ group) =
    map (cell_behind n) p.cells ++ all_cells (n + (let s = p.component in length s.array_inits)) group

-- and on the card
abbrev pub images_from : (before : ℕ) → List First → List Image
images_from n [] = []
images_from n (p ∷ group) =
    first_image n p.component ∷ images_from (n + (let s = p.component in length s.array_inits)) group

-- each package begins alike, where so many arrays stand before
abbrev pub AllBegin : (before : ℕ) → List First → Type 0
AllBegin n [] = Unit {0}
AllBegin n (p ∷ group) = BeginsAlike n p × AllBegin (n + (let s = p.component in length s.array_inits)) group
