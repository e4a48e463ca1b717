-- The static fields of several packages by name, and their static field images one behind the other (Java Card Virtual
-- Machine Specification 2.2.2, section 6.10).
use Rattle.std.specs.Prelude.{◌≡◌, ℕ, List, map, flat_map, Some, true, slice_get}
use Rattle.cjc_card_semantics.specs.Bytes.declared.fault.MemberId.{MemberId}
use Rattle.cjc_card_semantics.specs.Script.declared.value.Value.{Value}
use Rattle.cjc_card_semantics.specs.Bytecode.Effects.{Letter, slot_of, IsOperand}
use Rattle.cjc_card_semantics.specs.Bytecode.Renaming.{option_as}
use Rattle.cjc_card_semantics.specs.Machine.ByToken.{shown_cells}
use Rattle.cjc_card_semantics.specs.Machine.Loaded.{CellName, Part}
use Rattle.cjc_card_semantics.specs.Machine.Statics.{Image, StaticCell, get_static, put_static}
use Rattle.cjc_token_proof.specs.NCode.ByLabel.{shown_slot}
use Rattle.cjc_token_proof.specs.NCode.ByLabel.{put_static as put_by_name}
use Rattle.cjc_token_proof.specs.NCode.Lowering.Agreement.{Cells}
use Rattle.cjc_token_proof.specs.NCode.PoolOrder.{same_member}
use Rattle.cjc_token_proof.specs.ByToken.Cells.{HasCells, Order, are_cells, cell_names, cell_offset, image_of}
use Rattle.cjc_token_proof.specs.ByToken.Cells.{is_one_of, may_access}

-- the static fields of a package: all of them in the order of the report, and in that of their cells
pub record Statics : Type 0 where
  pub all : List MemberId
  pub order : Order

-- those of all packages
abbrev pub all_fields : List Statics → List MemberId
all_fields group = flat_map (λ (s : Statics). s.all) group

-- The images of all packages that hold what the static cells hold by name.
abbrev pub images_of : List Statics → Cells → List Image
images_of group cells = map (λ (s : Statics). image_of s.order cells) group

-- the cell of a field of the package at this place
abbrev pub cell_in : (part : ℕ) → Order → MemberId → StaticCell
cell_in q o f = record { part = q; offset = cell_offset o f }

-- the names of a package's cells
abbrev pub names_in : Statics → List CellName
names_in s = cell_names s.order s.all

-- what a loaded package names as its cells
abbrev pub names_of : Part → List CellName
names_of part = part.cells

-- Each package has cells for its fields, and no field is of two packages.
pub record HaveCells (group : List Statics) : Type 0 where
  pub each : (q : ℕ) (s : Statics) → slice_get group q ≡ Some s → HasCells s.order s.all
  pub apart : (q r : ℕ) (s t : Statics) (f : MemberId) → slice_get group q ≡ Some s → slice_get group r ≡ Some t
      → is_one_of f s.all ≡ true → is_one_of f t.all ≡ true → q ≡ r

-- What instructions and reports ask of static cells of a group is the same by name and in the images.
pub record JointCellsAgree (group : List Statics) : Type 0 where
  pub get : (q : ℕ) (s : Statics) (k : Letter) (f : MemberId) (cells : Cells) → slice_get group q ≡ Some s
      → may_access s.order k f ≡ true → are_cells (all_fields group) cells ≡ true
      → get_static k (cell_in q s.order f) (images_of group cells) ≡ slot_of same_member cells f
  pub put : (q : ℕ) (s : Statics) (k : Letter) (f : MemberId) (v : Value) (cells : Cells) → slice_get group q ≡ Some s
      → IsOperand k v → may_access s.order k f ≡ true → are_cells (all_fields group) cells ≡ true
      → put_static k (cell_in q s.order f) v (images_of group cells)
      ≡ option_as (images_of group) (put_by_name cells f v)
  pub put_known : (q : ℕ) (s : Statics) (k : Letter) (f : MemberId) (v : Value) (cells after : Cells)
      → slice_get group q ≡ Some s → IsOperand k v → may_access s.order k f ≡ true
      → are_cells (all_fields group) cells ≡ true → put_by_name cells f v ≡ Some after
      → are_cells (all_fields group) after ≡ true
  pub shown : (parts : List Part) (cells : Cells) → map names_of parts ≡ map names_in group
      → are_cells (all_fields group) cells ≡ true
      → shown_cells 0 parts (images_of group cells) ≡ map shown_slot cells
