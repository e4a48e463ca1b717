-- The words of arguments where a method in int mode is entered, and those of the locals to which they go.
use Rattle.std.specs.Prelude.{List, [], ◌∷◌, flat_map}
use Rattle.cjc_types.specs.declared.cell.Cell.{Cell}
use Rattle.cjc_types.specs.declared.cell.Cell.TheVariants.{Number, Refs, Unusable}
use Rattle.cjc_verify.specs.CardActs.CardTypes.{ValueType}
use Rattle.cjc_verify.specs.CardActs.CardTypes as types

-- the words of an argument
abbrev pub argument_of : ValueType → List Cell
argument_of types.Void = []
argument_of types.Boolean = Number ∷ []
argument_of types.Byte = Number ∷ []
argument_of types.Short = Number ∷ []
argument_of types.Int = Number ∷ Number ∷ []
argument_of (types.Reference type) = Refs (type ∷ []) ∷ []

-- the two words of its local
abbrev pub local_of : ValueType → List Cell
local_of types.Void = Unusable ∷ Unusable ∷ []
local_of types.Boolean = Number ∷ Number ∷ []
local_of types.Byte = Number ∷ Number ∷ []
local_of types.Short = Number ∷ Number ∷ []
local_of types.Int = Number ∷ Number ∷ []
local_of (types.Reference type) = Refs (type ∷ []) ∷ Unusable ∷ []

-- of several
abbrev pub arguments_of : List ValueType → List Cell
arguments_of ts = flat_map argument_of ts

abbrev pub locals_of : List ValueType → List Cell
locals_of ts = flat_map local_of ts
