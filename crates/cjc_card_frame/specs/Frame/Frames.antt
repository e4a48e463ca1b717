-- A frame's words, and what a calculation does to them.
use Rattle.std.specs.Prelude.{◌≡◌, ℕ, ◌+◌, List, [], ◌∷◌, ◌++◌, length, take, drop, Option, Some, None, option_map}
use Rattle.std.specs.Prelude.{Bool, true, false, nat_le, ◌==◌, slice_get, ℤ, FitsSigned}
use Rattle.std.specs.Int.{w16}
use Rattle.std.specs.List.{All}
use Rattle.cjc_card_semantics.specs.Script.declared.value.Value.{Value}
use Rattle.cjc_card_semantics.specs.Script.declared.value.Value.TheVariants.{Num, Null, Obj}
use Rattle.cjc_card_semantics.specs.Bytecode.Calculations.{Fault, Result, Fine, Fails, Wrong, Calculation, Choice}
use Rattle.cjc_card_semantics.specs.Bytecode.Calculations.{Takes, Neither, Test, if_so, numbered}
use Rattle.cjc_card_semantics.specs.Bytecode.Calculations
use Rattle.cjc_card_semantics.specs.Bytecode.Numbers.{spelt_by}
use Rattle.cjc_card_frame.specs.declared.opcodes.kinds.Calculation.{Calculation as CalculationData}
use Rattle.cjc_card_frame.specs.declared.opcodes.kinds.Calculation.TheVariants as calculations
use Rattle.cjc_jvm_step.specs.declared.frame.deed.Exception.{Exception}
use Rattle.cjc_jvm_step.specs.declared.frame.deed.Exception.TheVariants as exceptions
use Rattle.cjc_card_frame.specs.declared.frame.ending.Ending.{Ending}
use Rattle.cjc_card_frame.specs.declared.frame.ending.Ending.TheVariants as endings
use Rattle.cjc_card_frame.specs.declared.frame.ending.Choice.{Choice as Told}
use Rattle.cjc_card_frame.specs.declared.frame.ending.Choice.TheVariants as told

-- ---- words

-- A number of 16 bits, null or an object.
abbrev pub IsWord : Value → Type 0
IsWord (Num z) = FitsSigned w16 z
IsWord Null = Unit {0}
IsWord (Obj k) = Unit {0}

-- a local that is not set, or holds a word
abbrev pub IsLocal : Option Value → Type 0
IsLocal None = Unit {0}
IsLocal (Some v) = IsWord v

-- the operands of a frame, the top first, and its locals
pub record Words : Type 0 where
  pub stack : List Value
  pub locals : List (Option Value)

-- they are words
pub record AreWords (w : Words) : Type 0 where
  pub stack : All IsWord w.stack
  pub locals : All IsLocal w.locals

-- ---- what stands in a stack

-- a number
abbrev pub number_of : Option Value → Option ℤ
number_of (Some (Num x)) = Some x
number_of word = None

-- the number at a depth, 0 for the top
abbrev pub number_at : (depth : ℕ) → List Value → Option ℤ
number_at n stack = number_of (slice_get stack n)

-- both numbers
abbrev pub pair_of : (lower upper : Option ℤ) → Option (ℤ × ℤ)
pair_of (Some x) (Some y) = Some (x, y)
pair_of x y = None

-- two numbers from a depth on, the upper one second
abbrev pub numbers_at : (depth : ℕ) → List Value → Option (ℤ × ℤ)
numbers_at n stack = pair_of (number_at (n + 1) stack) (number_at n stack)

-- the number of 32 bits that two words spell, the low one on top
abbrev pub int_by : ℤ × ℤ → ℤ
int_by p = spelt_by p.0 p.1

-- the number of 32 bits that two words from a depth on spell
abbrev pub int_at : (depth : ℕ) → List Value → Option ℤ
int_at n stack = option_map int_by (numbers_at n stack)

-- the word in a local, where it is there and set
abbrev pub set_in : Option (Option Value) → Option Value
set_in None = None
set_in (Some o) = o

-- two references are the same
abbrev pub same_reference : Option Value → Option Value → Option Bool
same_reference (Some Null) (Some Null) = Some true
same_reference (Some (Obj j)) (Some (Obj k)) = Some (j == k)
same_reference (Some Null) (Some (Obj k)) = Some false
same_reference (Some (Obj k)) (Some Null) = Some false
same_reference a b = None

-- ---- what calculations and conditions do

-- an exception of the machine's own
abbrev pub fault_of : Exception → Fault
fault_of exceptions.Arithmetic = Calculations.Arithmetic
fault_of exceptions.NullPointer = Calculations.NullPointer
fault_of exceptions.IndexOutside = Calculations.IndexOutside
fault_of exceptions.NegativeSize = Calculations.NegativeSize
fault_of exceptions.ClassCast = Calculations.ClassCast
fault_of exceptions.ArrayStore = Calculations.ArrayStore

-- what a calculation gives that ended so and left these words
abbrev pub result_of : Ending → Words → Result
result_of endings.Fine w = Fine w.stack w.locals
result_of (endings.Fails e) w = Fails (fault_of e)
result_of endings.Wrong w = Wrong

-- only where all is fine have they changed
abbrev pub Keeps : Ending → (old new : Words) → Type 0
Keeps endings.Fine old new = Unit {0}
Keeps (endings.Fails e) old new = new ≡ old
Keeps endings.Wrong old new = new ≡ old

-- The calculation has been made, where the stack may have so many words.
pub record Does (f : Calculation) (room : ℕ) (ending : Ending) (old new : Words) : Type 0 where
  pub result : f room old.locals old.stack ≡ result_of ending new
  pub keeps : Keeps ending old new

-- what a condition tells that ended so and left this stack
abbrev pub choice_of : Told → List Value → Choice
choice_of (told.Takes taken) stack = Takes taken stack
choice_of told.Neither stack = Neither

-- it takes its operands and nothing else
abbrev pub KeepsWhere : Told → (old new : Words) → Type 0
KeepsWhere (told.Takes taken) old new = new.locals ≡ old.locals
KeepsWhere told.Neither old new = new ≡ old

-- The condition has been asked.
pub record Asks (f : Test) (choice : Told) (old new : Words) : Type 0 where
  pub result : f old.stack ≡ choice_of choice new.stack
  pub keeps : KeepsWhere choice old new

-- the operand that is pushed as a word is one
abbrev pub AreOperands : CalculationData → List ℤ → Type 0
AreOperands calculations.Literal (z ∷ []) = FitsSigned w16 z
AreOperands calculation operands = Unit {0}

-- no local is named
abbrev pub NoLocal : List ℤ → Type 0
NoLocal operands = (f : ℕ → Calculation) (room : ℕ) (locals : List (Option Value)) (stack : List Value)
    → numbered f operands room locals stack ≡ Wrong

-- ---- names for families of instructions

-- the top words and those beneath change places, where there are as many
abbrev pub sunk : (words below : ℕ) → Calculation
sunk m n room locals stack = if_so (nat_le (m + n) (length stack)) (Fine (take n (drop m stack)
    ++ (take m stack ++ drop (m + n) stack)) locals)
