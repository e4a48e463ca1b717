-- The table of the card's opcodes (Java Card Virtual Machine Specification 2.2.2, chapter 7): the operands in the bytes behind
-- each, and what it does.
use Rattle.std.specs.Prelude.{ℕ, ◌+◌, ◌-◌, ◌*◌, List, [], ◌∷◌, length, Option, Some, None, nat_lt, nat_le, ◌&&◌, if◌then◌else◌, slice_get, ℤ, pos, ◌+ℤ◌, ◌-ℤ◌}
use Rattle.std.specs.Int.{w8, w16, cast_signed}
use Rattle.cjc_first.specs.TokenMachine.Cells.{Cell, Word, low_word, Store, Fault}

-- ---- what an instruction asks for

-- To go on in its frame, to raise an exception of the machine's own, to throw an object, to call by an opcode and its
-- operands, to return, or nothing that the machine has.
pub data Deed : Type 0 where
  Go : (at : ℕ) (stack : List Cell) (locals : List (Option Cell)) (store : Store) → Deed
  Raise : (fault : Fault) → Deed
  Toss : (object : ℕ) → Deed
  Invoke : (op : ℕ) (operands : List ℤ) → Deed
  Leave : (value : Option Cell) → Deed
  Stick : Deed

-- from the greatest stack, the offset of the next instruction, locals, store and stack
abbrev pub Does : Type 0
Does = (room next : ℕ) (locals : List (Option Cell)) → Store → List Cell → Deed

abbrev pub nothing : Does
nothing room next locals store stack = Stick

-- ---- operands on the stack

abbrev pub one_word : List Cell → (ℤ → List Cell → Deed) → Deed
one_word (Word x ∷ stack) go = go x stack
one_word stack go = Stick

abbrev pub two_words : List Cell → (ℤ → ℤ → List Cell → Deed) → Deed
two_words (Word y ∷ Word x ∷ stack) go = go x y stack
two_words stack go = Stick

-- ---- the rows

abbrev pub push : ℤ → Does
push z room next locals store stack = if nat_lt (length stack) room then Go next (Word z ∷ stack) locals store else Stick

abbrev pub push_local : Option (Option Cell) → Does
push_local (Some (Some (Word z))) = push z
push_local cell = nothing

abbrev pub sload : ℕ → Does
sload l room next locals store stack = push_local (slice_get locals l) room next locals store stack

abbrev pub sadd : Does
sadd room next locals store stack = two_words stack (λ x y rest. Go next (Word (low_word (x +ℤ y)) ∷ rest) locals store)

abbrev pub sreturn : Does
sreturn room next locals store stack = one_word stack (λ x rest. Leave (Some (Word x)))

-- an operand: one byte without a sign, or one or two with a sign
pub data Operand : Type 0 where
  U1 : Operand
  S1 : Operand
  S2 : Operand

-- the opcodes from first to last, their operands, and what they do
pub record Row : Type 0 where
  pub first : ℕ
  pub last : ℕ
  pub operands : List Operand
  pub meaning : ℕ → List ℤ → Does

-- the only operand
abbrev pub by_number : (ℤ → Does) → List ℤ → Does
by_number f (z ∷ []) = f z
by_number f operands = nothing

abbrev pub by_local : (ℕ → Does) → List ℤ → Does
by_local f (pos n ∷ []) = f n
by_local f operands = nothing

abbrev pub rows : List Row
rows =
    -- sconst_m1 to sconst_5
    record { first = 0x02; last = 0x08; operands = []; meaning = λ op operands. push (pos op -ℤ pos 3) }
    -- bspush, sspush
    ∷ record { first = 0x10; last = 0x10; operands = S1 ∷ []; meaning = λ op operands. by_number push operands }
    ∷ record { first = 0x11; last = 0x11; operands = S2 ∷ []; meaning = λ op operands. by_number push operands }
    -- sload, sload_0 to sload_3
    ∷ record { first = 0x16; last = 0x16; operands = U1 ∷ []; meaning = λ op operands. by_local sload operands }
    ∷ record { first = 0x1C; last = 0x1F; operands = []; meaning = λ op operands. sload (op - 0x1C) }
    -- sadd
    ∷ record { first = 0x41; last = 0x41; operands = []; meaning = λ op operands. sadd }
    -- sreturn
    ∷ record { first = 0x78; last = 0x78; operands = []; meaning = λ op operands. sreturn }
    ∷ []

abbrev pub row_among : List Row → ℕ → Option Row
row_among [] op = None
row_among (r ∷ rows) op = if nat_le r.first op && nat_le op r.last then Some r else row_among rows op

-- ---- fetching

-- an instruction as it stands in the bytes, and how many bytes it has
pub record Fetched : Type 0 where
  pub does : Does
  pub size : ℕ

-- the operands at the front of the bytes
abbrev pub operands_then : {A : Type 0} → List Operand → List ℕ → (List ℤ → Option A) → Option A
operands_then [] bytes go = go []
operands_then (U1 ∷ kinds) (a ∷ bytes) go = operands_then kinds bytes (λ zs. go (pos a ∷ zs))
operands_then (S1 ∷ kinds) (a ∷ bytes) go = operands_then kinds bytes (λ zs. go (cast_signed w8 a ∷ zs))
operands_then (S2 ∷ kinds) (a ∷ b ∷ bytes) go = operands_then kinds bytes (λ zs. go (cast_signed w16 (256 * a + b) ∷ zs))
operands_then kinds bytes go = None

abbrev pub width : Operand → ℕ
width U1 = 1
width S1 = 1
width S2 = 2

abbrev pub widths : List Operand → ℕ
widths [] = 0
widths (kind ∷ kinds) = width kind + widths kinds

abbrev pub fetched_by : Option Row → (op : ℕ) → List ℕ → Option Fetched
fetched_by None op bytes = None
fetched_by (Some r) op bytes =
    operands_then r.operands bytes (λ zs. Some (record { does = r.meaning op zs; size = 1 + widths r.operands }))

-- the instruction at the front of the bytes
unfoldable pub fetch : List ℕ → Option Fetched
fetch [] = None
fetch (op ∷ bytes) = fetched_by (row_among rows op) op bytes
