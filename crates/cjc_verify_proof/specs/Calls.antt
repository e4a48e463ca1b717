-- What a call takes and what an imported method returns.
use Rattle.std.specs.Prelude.{◌≡◌, ℕ, Bool, true, false, List, [], ◌∷◌, ◌++◌, flat_map, Option, Some, None}
use Rattle.std.specs.List.{AllZip}
use Rattle.cjc_script.specs.Sorts.{Sort, Boolean, Byte, Short, Int, Reference}
use Rattle.cjc_types.specs.declared.cell.Cell.{Cell}
use Rattle.cjc_types.specs.declared.cell.Cell.TheVariants.{Refs}
use Rattle.cjc_card_semantics.specs.Bytecode.Machine.{shape_of}
use Rattle.cjc_card_semantics.specs.Machine.Loaded.{Loaded}
use Rattle.cjc_card_semantics.specs.Machine.ByToken.{by_token}
use Rattle.cjc_frames.specs.declared.acts.Need.{Need}
use Rattle.cjc_frames.specs.declared.acts.Need.TheVariants.{OfType}
use Rattle.cjc_card_acts.specs.CardTypes.{ValueType, shape_by}
use Rattle.cjc_card_acts.specs.CardTypes as types
use Rattle.cjc_verify_proof.specs.Control.{cells_of}

-- what a receiver of a type is to be, where there is one
abbrev pub receiver_needs : Option (List ℕ) → List Need
receiver_needs None = []
receiver_needs (Some type) = OfType type ∷ []

-- whether there is one
abbrev pub has_receiver : Option (List ℕ) → Bool
has_receiver None = false
has_receiver (Some type) = true

-- its cell
abbrev pub receiver_cells : Option (List ℕ) → List Cell
receiver_cells None = []
receiver_cells (Some type) = Refs (type ∷ []) ∷ []

-- the cells of the arguments of a call, the receiver first
abbrev pub argument_cells : Option (List ℕ) → List ValueType → List Cell
argument_cells receiver params = receiver_cells receiver ++ flat_map cells_of params

-- a type of a class file or export file and one of components have the same values
abbrev pub IsSort : Loaded → Sort → ValueType → Type 0
IsSort l Boolean types.Boolean = Unit {0}
IsSort l Byte types.Byte = Unit {0}
IsSort l Short types.Short = Unit {0}
IsSort l Int types.Int = Unit {0}
IsSort l (Reference shape) (types.Reference type) = shape_of (by_token l) shape ≡ shape_by l type
IsSort l other type = ⊥

-- the same of several
abbrev pub AreSorts : Loaded → List Sort → List ValueType → Type 0
AreSorts l sorts params = AllZip (IsSort l) sorts params

-- the same of a result
abbrev pub IsResult : Loaded → Option Sort → ValueType → Type 0
IsResult l None types.Void = Unit {0}
IsResult l (Some sort) type = IsSort l sort type
IsResult l None type = ⊥
