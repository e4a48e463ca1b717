-- What the types and rows that code keeps stand for.
use Rattle.std.specs.Prelude.{[], ◌∷◌, true, false, replicate}
use Rattle.cjc_card_frame.specs.Meanings.{letter_if, letter_of, use_of}
use Rattle.cjc_frames.specs.declared.acts.Given.TheVariants.{ANumber, ANull}
use Rattle.cjc_frames.specs.declared.acts.Need.TheVariants.{NumberWord, ReferenceWord}
use Rattle.cjc_card_acts.specs.CardTypes.{ValueType, Void, Boolean, Byte, Short, Int, Reference}
use Rattle.cjc_card_acts.specs.Rows.{Row, Pushes, Loads, Stores, Increases, Pops, Copies, CopiesBelow, Swaps}
use Rattle.cjc_card_acts.specs.Rows.{Calculates}
use Rattle.cjc_card_acts.specs.Rows.{LoadsItem, StoresItem, CountsItems, Throws, Jumps, Switches, Returns, Uses}
use Rattle.cjc_card_acts.specs.Rows.{CallsInterface, MakesNumbers, Casts, Asks, Forbidden}
use Rattle.cjc_card_acts.specs.declared.table.OpcodeRow.{OpcodeRow}
use Rattle.cjc_card_acts.specs.declared.table.OpcodeRow.TheVariants as rows
use Rattle.cjc_card_acts.specs.declared.types.ValueType.{ValueType as TypeData}
use Rattle.cjc_card_acts.specs.declared.types.ValueType.TheVariants as types

-- the type of a value
abbrev pub type_told : TypeData → ValueType
type_told types.Void = Void
type_told types.Boolean = Boolean
type_told types.Byte = Byte
type_told types.Short = Short
type_told types.Int = Int
type_told (types.Reference nibbles) = Reference nibbles.now

-- the row of an opcode
abbrev pub row_told : OpcodeRow → Row
row_told (rows.PushesNumbers n) = Pushes (replicate n ANumber)
row_told rows.PushesNull = Pushes (ANull ∷ [])
row_told (rows.Loads letter local) = Loads (letter_of letter) local
row_told (rows.Stores letter local) = Stores (letter_of letter) local
row_told (rows.Increases letter) = Increases (letter_of letter)
row_told (rows.Pops n) = Pops n
row_told (rows.Copies n) = Copies n
row_told rows.CopiesBelow = CopiesBelow
row_told rows.Swaps = Swaps
row_told (rows.Calculates m n) = Calculates m n
row_told (rows.LoadsItem letter) = LoadsItem (letter_of letter)
row_told (rows.StoresItem letter) = StoresItem (letter_of letter)
row_told rows.CountsItems = CountsItems
row_told rows.Throws = Throws
row_told (rows.JumpsByNumbers n) = Jumps (replicate n NumberWord) true
row_told (rows.JumpsByReferences n) = Jumps (replicate n ReferenceWord) true
row_told rows.JumpsAlways = Jumps [] false
row_told (rows.Switches n) = Switches n
row_told (rows.Returns letter) = Returns (letter_if letter)
row_told (rows.Uses how) = Uses (use_of how)
row_told rows.CallsInterface = CallsInterface
row_told rows.MakesNumbers = MakesNumbers
row_told rows.Casts = Casts
row_told rows.Asks = Asks
row_told rows.Forbidden = Forbidden
