-- What a row of the table of opcodes may stand beside: the meaning of its opcode and the form of its operands.
use Rattle.std.specs.Prelude.{ℕ, Bool, true, false, List, [], ◌∷◌, Option, Some, None, ℤ, pos, negsuc}
use Rattle.cjc_card_semantics.specs.CapRead.Opcodes.{Operand, Signed1, Signed2, Signed4, Index1, Index2, Form, Fields}
use Rattle.cjc_card_semantics.specs.CapRead.Opcodes.{Table, Lookup}
use Rattle.cjc_card_semantics.specs.CapRead.Opcodes as opcodes
use Rattle.cjc_card_semantics.specs.Bytecode.Calculations.{Calculation, Test}
use Rattle.cjc_card_semantics.specs.Bytecode.Calculations as machine
use Rattle.cjc_card_semantics.specs.Bytecode.Effects.{Letter, Reference, Short, Int, Load, Store, Length, Throw}
use Rattle.cjc_card_semantics.specs.Bytecode.Effects.{Return}
use Rattle.cjc_card_semantics.specs.Bytecode.Meanings.{Meaning, Plain, Branches, Ranged, Paired, Touches, Use, Nothing}
use Rattle.cjc_card_semantics.specs.Bytecode.Meanings as meanings
use Rattle.cjc_frames.specs.declared.acts.Need.{Need}
use Rattle.cjc_frames.specs.declared.acts.Need.TheVariants.{NumberWord, ReferenceWord}
use Rattle.cjc_frames.specs.declared.acts.Given.TheVariants.{ANumber, ANull}
use Rattle.cjc_card_acts.specs.Rows.{Row, Pushes, Loads, Stores, Increases, Pops, Copies, CopiesBelow, Swaps}
use Rattle.cjc_card_acts.specs.Rows.{Calculates}
use Rattle.cjc_card_acts.specs.Rows.{LoadsItem, StoresItem, CountsItems, Throws, Jumps, Switches, Returns, Forbidden}
use Rattle.cjc_card_acts.specs.Rows as rows

-- a number that is read with these operands: with a sign or without
abbrev pub IsRead : Operand → ℤ → Type 0
IsRead opcodes.Byte (pos n) = Unit {0}
IsRead opcodes.Byte (negsuc n) = ⊥
IsRead Index1 (pos n) = Unit {0}
IsRead Index1 (negsuc n) = ⊥
IsRead Index2 (pos n) = Unit {0}
IsRead Index2 (negsuc n) = ⊥
IsRead signed z = Unit {0}

-- numbers that are read with these operands
abbrev pub AreRead : List Operand → List ℤ → Type 0
AreRead [] [] = Unit {0}
AreRead [] (z ∷ zs) = ⊥
AreRead (k ∷ kinds) [] = ⊥
AreRead (k ∷ kinds) (z ∷ zs) = IsRead k z × AreRead kinds zs

-- a row of what sees the stack and the locals alone
pub data BesidePlain : Row → (List ℤ → Calculation) → List Operand → Type 0 where
  nop : BesidePlain (Pushes []) machine.none []
  null : BesidePlain (Pushes (ANull ∷ [])) machine.null []
  constant : (z : ℤ) → BesidePlain (Pushes (ANumber ∷ [])) (machine.constant z) []
  int_constant : (z : ℤ) → BesidePlain (Pushes (ANumber ∷ ANumber ∷ [])) (machine.int_constant z) []
  literal : (k : Operand) → BesidePlain (Pushes (ANumber ∷ [])) machine.literal (k ∷ [])
  int_literal : (k : Operand) → BesidePlain (Pushes (ANumber ∷ ANumber ∷ [])) machine.int_literal (k ∷ [])
  aload : BesidePlain (Loads Reference None) (machine.numbered machine.load_reference) (opcodes.Byte ∷ [])
  sload : BesidePlain (Loads Short None) (machine.numbered machine.load_word) (opcodes.Byte ∷ [])
  iload : BesidePlain (Loads Int None) (machine.numbered machine.load_int) (opcodes.Byte ∷ [])
  aload_n : (l : ℕ) → BesidePlain (Loads Reference (Some l)) (machine.always (machine.load_reference l)) []
  sload_n : (l : ℕ) → BesidePlain (Loads Short (Some l)) (machine.always (machine.load_word l)) []
  iload_n : (l : ℕ) → BesidePlain (Loads Int (Some l)) (machine.always (machine.load_int l)) []
  astore : BesidePlain (Stores Reference None) (machine.numbered (machine.store_if machine.is_reference))
      (opcodes.Byte ∷ [])
  sstore : BesidePlain (Stores Short None) (machine.numbered (machine.store_if machine.is_number)) (opcodes.Byte ∷ [])
  istore : BesidePlain (Stores Int None) (machine.numbered machine.store_int) (opcodes.Byte ∷ [])
  astore_n : (l : ℕ)
      → BesidePlain (Stores Reference (Some l)) (machine.always (machine.store_if machine.is_reference l)) []
  sstore_n : (l : ℕ) → BesidePlain (Stores Short (Some l)) (machine.always (machine.store_if machine.is_number l)) []
  istore_n : (l : ℕ) → BesidePlain (Stores Int (Some l)) (machine.always (machine.store_int l)) []
  sinc : (k : Operand) → BesidePlain (Increases Short) machine.increased (opcodes.Byte ∷ k ∷ [])
  iinc : (k : Operand) → BesidePlain (Increases Int) machine.int_increased (opcodes.Byte ∷ k ∷ [])
  pop : (n : ℕ) → BesidePlain (Pops n) (machine.always (machine.popped n)) []
  dup : (n : ℕ) → BesidePlain (Copies n) (machine.always (machine.copied n n)) []
  dup_x : BesidePlain CopiesBelow (machine.by_nibbles machine.dup_x) (opcodes.Byte ∷ [])
  swap_x : BesidePlain Swaps (machine.by_nibbles machine.swap_x) (opcodes.Byte ∷ [])
  unary : (f : ℤ → ℤ) → BesidePlain (Calculates 1 1) (machine.unary f) []
  binary : (f : ℤ → ℤ → ℤ) → BesidePlain (Calculates 2 1) (machine.binary f) []
  divided : (f : ℤ → ℤ → ℤ) → BesidePlain (Calculates 2 1) (machine.divided f) []
  int_unary : (f : ℤ → ℤ) → BesidePlain (Calculates 2 2) (machine.int_unary f) []
  int_binary : (f : ℤ → ℤ → ℤ) → BesidePlain (Calculates 4 2) (machine.int_binary f) []
  int_divided : (f : ℤ → ℤ → ℤ) → BesidePlain (Calculates 4 2) (machine.int_divided f) []
  to_int : BesidePlain (Calculates 1 2) machine.to_int []
  from_int : (f : ℤ → ℤ) → BesidePlain (Calculates 2 1) (machine.from_int f) []
  from_ints : (f : ℤ → ℤ → ℤ) → BesidePlain (Calculates 4 1) (machine.from_ints f) []

-- what a jump needs, and its condition
pub data BesideTest : List Need → (falls : Bool) → Test → Type 0 where
  number : (holds : ℤ → Bool) → BesideTest (NumberWord ∷ []) true (machine.if_number holds)
  numbers : (holds : ℤ → ℤ → Bool) → BesideTest (NumberWord ∷ NumberWord ∷ []) true (machine.if_numbers holds)
  a_null : (t : Bool) → BesideTest (ReferenceWord ∷ []) true (machine.if_null t)
  same : (t : Bool) → BesideTest (ReferenceWord ∷ ReferenceWord ∷ []) true (machine.if_same t)
  goto : BesideTest [] false machine.at_once

-- A row beside the meaning of its opcode and the form of its operands.
pub data Beside : Row → Meaning → Option Form → Type 0 where
  plain : {r : Row} {f : List ℤ → Calculation} {kinds : List Operand} → BesidePlain r f kinds
      → Beside r (Plain f) (Some (Fields kinds))
  jump : {needs : List Need} {falls : Bool} {test : Test} {k : Operand} → BesideTest needs falls test
      → Beside (Jumps needs falls) (Branches test) (Some (Fields (k ∷ [])))
  table : Beside (Switches 1) (Ranged false) (Some (Table Signed2))
  int_table : Beside (Switches 2) (Ranged true) (Some (Table Signed4))
  lookup : Beside (Switches 1) (Paired false) (Some (Lookup Signed2))
  int_lookup : Beside (Switches 2) (Paired true) (Some (Lookup Signed4))
  load : (letter : Letter) → Beside (LoadsItem letter) (Touches (Load letter)) (Some (Fields []))
  store : (letter : Letter) → Beside (StoresItem letter) (Touches (Store letter)) (Some (Fields []))
  arraylength : Beside CountsItems (Touches Length) (Some (Fields []))
  athrow : Beside Throws (Touches Throw) (Some (Fields []))
  return : (letter : Option Letter) → Beside (Returns letter) (Touches (Return letter)) (Some (Fields []))
  uses : {how : Use} {k : Operand} → Beside (rows.Uses how) (meanings.Uses how) (Some (Fields (k ∷ [])))
  invokeinterface : Beside rows.CallsInterface meanings.CallsInterface
      (Some (Fields (opcodes.Byte ∷ Index2 ∷ opcodes.Byte ∷ [])))
  newarray : Beside rows.MakesNumbers meanings.MakesNumbers (Some (Fields (opcodes.Byte ∷ [])))
  checkcast : Beside rows.Casts meanings.Casts (Some (Fields (opcodes.Byte ∷ Index2 ∷ [])))
  instanceof : Beside rows.Asks meanings.Asks (Some (Fields (opcodes.Byte ∷ Index2 ∷ [])))
  forbidden : {f : Option Form} → Beside Forbidden Nothing f

-- tables of rows and meanings beside each other, of one length, and as many forms or more
abbrev pub AllBeside : List Row → List Meaning → List (Option Form) → Type 0
AllBeside [] [] fs = Unit {0}
AllBeside [] (m ∷ ms) fs = ⊥
AllBeside (r ∷ rs) [] fs = ⊥
AllBeside (r ∷ rs) (m ∷ ms) [] = ⊥
AllBeside (r ∷ rs) (m ∷ ms) (f ∷ fs) = Beside r m f × AllBeside rs ms fs
