-- What the code's table of opcodes says of what follows each.
use Rattle.std.specs.Prelude.{ℕ, List, [], ◌∷◌, replicate, Bool, true, false, Option, Some, None}
use Rattle.cjc_capread.specs.Opcodes.{Operand, Byte, Signed1, Signed2, Signed4, Index1, Index2, Form, Fields, Table}
use Rattle.cjc_capread.specs.Opcodes.{Lookup}
use Rattle.cjc_capread.specs.Decode.{before_table, pairs}
use Rattle.cjc_capread.specs.declared.decoder.number.Kind.{Kind}
use Rattle.cjc_capread.specs.declared.decoder.number.Kind.TheVariants as kinds
use Rattle.cjc_capread.specs.declared.decoder.shape.Shape.{Shape}
use Rattle.cjc_capread.specs.declared.decoder.shape.Shape.TheVariants as shapes
use Rattle.cjc_capread.specs.declared.decoder.table.Matches.{Matches}
use Rattle.cjc_capread.specs.declared.decoder.table.Matches.TheVariants.{Counted, Short, Int}

-- the operand of a kind
abbrev pub operand_of : Kind → Operand
operand_of kinds.Byte = Byte
operand_of kinds.Signed1 = Signed1
operand_of kinds.Signed2 = Signed2
operand_of kinds.Signed4 = Signed4
operand_of kinds.Index1 = Index1
operand_of kinds.Index2 = Index2

-- the form that a shape stands for
abbrev pub form_of : Shape → Option Form
form_of shapes.NoOp = None
form_of shapes.Bare = Some (Fields [])
form_of shapes.Byte = Some (Fields (Byte ∷ []))
form_of shapes.Signed1 = Some (Fields (Signed1 ∷ []))
form_of shapes.Signed2 = Some (Fields (Signed2 ∷ []))
form_of shapes.Signed4 = Some (Fields (Signed4 ∷ []))
form_of shapes.Increment1 = Some (Fields (Byte ∷ Signed1 ∷ []))
form_of shapes.Increment2 = Some (Fields (Byte ∷ Signed2 ∷ []))
form_of shapes.Index1 = Some (Fields (Index1 ∷ []))
form_of shapes.Index2 = Some (Fields (Index2 ∷ []))
form_of shapes.Typed = Some (Fields (Byte ∷ Index2 ∷ []))
form_of shapes.Call = Some (Fields (Byte ∷ Index2 ∷ Byte ∷ []))
form_of shapes.ShortTable = Some (Table Signed2)
form_of shapes.IntTable = Some (Table Signed4)
form_of shapes.ShortPairs = Some (Lookup Signed2)
form_of shapes.IntPairs = Some (Lookup Signed4)

-- the operands that stand before a table, or that are all
abbrev pub before : Option Form → List Operand
before None = []
before (Some f) = before_table f

-- what so many entries of a table are
abbrev pub entries_of : Matches → ℕ → List Operand
entries_of Counted n = replicate n Signed2
entries_of Short n = pairs Signed2 n
entries_of Int n = pairs Signed4 n

-- the bytes of an entry
abbrev pub entry_size : Matches → ℕ
entry_size Counted = 2
entry_size Short = 4
entry_size Int = 6

-- the matches of a lookup switch, of two bytes or of four
abbrev pub matches_of : (wide : Bool) → Matches
matches_of true = Int
matches_of false = Short

-- a match of a lookup switch, of four bytes or of two
abbrev pub match_of : (wide : Bool) → Operand
match_of true = Signed4
match_of false = Signed2

-- what the entries of its table are, if it has one
abbrev pub matches_in : Shape → Matches
matches_in shapes.ShortPairs = Short
matches_in shapes.IntPairs = Int
matches_in _ = Counted
