-- What the card's machine holds: words and references, arrays and objects by token (Java Card Virtual Machine Specification 2.2.2, chapter 3).
use Rattle.std.specs.Prelude.{ℕ, List, ℤ}
use Rattle.std.specs.Int.{w16, int_wrap}
use Rattle.cjc_capread.specs.declared.tree.ClassRef.{ClassRef}

-- a cell of a frame: a number from -32768 to 32767, null, or an object by its number
pub data Cell : Type 0 where
  Word : (number : ℤ) → Cell
  Null : Cell
  Obj : (index : ℕ) → Cell

-- what wraps modulo 2^16
abbrev pub low_word : ℤ → ℤ
low_word z = int_wrap w16 z

-- the elements of an array of numbers
pub data Element : Type 0 where
  Booleans : Element
  Bytes : Element
  Shorts : Element
  Ints : Element

-- a field of an object, by the class that declares it and its token
pub record Slot : Type 0 where
  pub class : ClassRef
  pub token : ℕ
  pub value : Cell

pub data Thing : Type 0 where
  Numbers : (element : Element) (items : List ℤ) → Thing
  References : (class : ClassRef) (items : List Cell) → Thing
  Object : (class : ClassRef) (slots : List Slot) → Thing

-- arrays and objects in order of creation, and the static image: its reference cells, and the bytes behind them
pub record Store : Type 0 where
  pub heap : List Thing
  pub references : List Cell
  pub bytes : List ℕ

-- the machine's own exceptions
pub data Fault : Type 0 where
  Arithmetic : Fault
  NullPointer : Fault
  IndexOutside : Fault
  NegativeSize : Fault
  ClassCast : Fault
  ArrayStore : Fault
