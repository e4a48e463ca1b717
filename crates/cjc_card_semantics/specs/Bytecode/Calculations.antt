-- Instructions that see the stack and the locals alone. A word is a number of 16 bits, null or an object. The top of a
-- stack is its first item; the high word of an int is the deeper one, and has the lower local number.
use Rattle.std.specs.Prelude.{ℕ, ◌+◌, ◌/◌, ◌%◌, List, [], ◌∷◌, ◌++◌, length, take, drop, Option, Some, None, Bool, true}
use Rattle.std.specs.Prelude.{false, nat_le, ◌==◌, ◌&&◌, ◌||◌, if◌then◌else◌, slice_get, slice_set, ℤ, pos, ◌+ℤ◌}
use Rattle.cjc_range.specs.Words.{wide, low_word}
use Rattle.cjc_script.specs.declared.value.Value.{Value}
use Rattle.cjc_script.specs.declared.value.Value.TheVariants.{Num, Null, Obj}
use Rattle.cjc_card_semantics.specs.Bytecode.Numbers.{high_word, spelt_by, is_zero}

-- the machine's own exceptions
pub data Fault : Type 0 where
  Arithmetic : Fault
  NullPointer : Fault
  IndexOutside : Fault
  NegativeSize : Fault
  ClassCast : Fault
  ArrayStore : Fault

-- a stack and locals, an exception of the machine's own, or nothing that applies
pub data Result : Type 0 where
  Fine : (stack : List Value) (locals : List (Option Value)) → Result
  Fails : (fault : Fault) → Result
  Wrong : Result

-- from the greatest height of the stack, the locals and the stack
abbrev pub Calculation : Type 0
Calculation = ℕ → List (Option Value) → List Value → Result

-- a condition takes its operands from the stack
pub data Choice : Type 0 where
  Takes : (taken : Bool) (rest : List Value) → Choice
  Neither : Choice

-- from the stack
abbrev pub Test : Type 0
Test = List Value → Choice

-- ---- operands, and what is stuck without them

-- a number on top of the stack
abbrev pub one_number : {A : Type 0} → A → List Value → (ℤ → List Value → A) → A
one_number stuck (Num x ∷ stack) go = go x stack
one_number stuck stack go = stuck

-- two numbers, the upper one last
abbrev pub two_numbers : {A : Type 0} → A → List Value → (ℤ → ℤ → List Value → A) → A
two_numbers stuck (Num y ∷ Num x ∷ stack) go = go x y stack
two_numbers stuck stack go = stuck

-- any word on top of the stack
abbrev pub one_value : {A : Type 0} → A → List Value → (Value → List Value → A) → A
one_value stuck [] go = stuck
one_value stuck (v ∷ stack) go = go v stack

-- an int on top of the stack
abbrev pub one_int : {A : Type 0} → A → List Value → (ℤ → List Value → A) → A
one_int stuck stack go = two_numbers stuck stack (λ high low rest. go (spelt_by high low) rest)

-- two ints, the upper one last
abbrev pub two_ints : {A : Type 0} → A → List Value → (ℤ → ℤ → List Value → A) → A
two_ints stuck stack go = one_int stuck stack (λ y below. one_int stuck below (λ x rest. go x y rest))

-- a reference, null or not
abbrev pub is_reference : Value → Bool
is_reference (Num x) = false
is_reference Null = true
is_reference (Obj k) = true

-- a number
abbrev pub is_number : Value → Bool
is_number (Num x) = true
is_number Null = false
is_number (Obj k) = false

-- ---- results

-- the two words of a number of 32 bits on the stack
abbrev pub int_words : ℤ → List Value
int_words z = Num (low_word z) ∷ Num (high_word z) ∷ []

-- words that make the stack higher
abbrev pub pushed : List Value → Calculation
pushed words room locals stack = if nat_le (length (words ++ stack)) room then Fine (words ++ stack) locals else Wrong

-- ---- constants

-- nothing is done
abbrev pub none : List ℤ → Calculation
none operands room locals stack = Fine stack locals

-- an instruction without operands
abbrev pub always : Calculation → List ℤ → Calculation
always f operands = f

-- a number is pushed
abbrev pub constant : ℤ → List ℤ → Calculation
constant z operands = pushed (Num z ∷ [])

-- an int is pushed
abbrev pub int_constant : ℤ → List ℤ → Calculation
int_constant z operands = pushed (int_words z)

-- null is pushed
abbrev pub null : List ℤ → Calculation
null operands = pushed (Null ∷ [])

-- the operand is pushed
abbrev pub literal : List ℤ → Calculation
literal (z ∷ []) = pushed (Num z ∷ [])
literal operands = λ room locals stack. Wrong

-- the operand is pushed as an int
abbrev pub int_literal : List ℤ → Calculation
int_literal (z ∷ []) = pushed (int_words z)
int_literal operands = λ room locals stack. Wrong

-- ---- locals

-- what is done with the local of this number
abbrev pub numbered : (ℕ → Calculation) → List ℤ → Calculation
numbered f (pos l ∷ []) = f l
numbered f operands = λ room locals stack. Wrong

-- what a local holds, where it is set
abbrev pub set_local : Option (Option Value) → (Value → Result) → Result
set_local (Some (Some v)) go = go v
set_local o go = Wrong

-- a local of this number is there
abbrev pub there : Option (Option Value) → Result → Result
there None result = Wrong
there (Some old) result = result

-- a condition without which nothing applies
abbrev pub if_so : Bool → Result → Result
if_so true result = result
if_so false result = Wrong

-- the reference in a local is pushed
abbrev pub load_reference : ℕ → Calculation
load_reference l room locals stack =
    set_local (slice_get locals l) (λ v. if_so (is_reference v) (pushed (v ∷ []) room locals stack))

-- the number in a local is pushed
abbrev pub load_word : ℕ → Calculation
load_word l room locals stack =
    set_local (slice_get locals l) (λ v. if_so (is_number v) (pushed (v ∷ []) room locals stack))

-- the int in two locals is pushed
abbrev pub load_int : ℕ → Calculation
load_int l room locals stack =
    set_local (slice_get locals l) (λ high. set_local (slice_get locals (l + 1)) (λ low.
    if_so (is_number high && is_number low) (pushed (low ∷ high ∷ []) room locals stack)))

-- the top word goes into a local, where it is of a kind
abbrev pub store_if : (Value → Bool) → ℕ → Calculation
store_if is_kind l room locals stack =
    one_value Wrong stack (λ v rest. if_so (is_kind v) (there (slice_get locals l)
    (Fine rest (slice_set locals l (Some v)))))

-- the int on top goes into two locals
abbrev pub store_int : ℕ → Calculation
store_int l room locals stack =
    two_numbers Wrong stack (λ high low rest. there (slice_get locals (l + 1))
    (Fine rest (slice_set (slice_set locals l (Some (Num high))) (l + 1) (Some (Num low)))))

-- the number that a local holds
abbrev pub number_in : Option (Option Value) → (ℤ → Result) → Result
number_in (Some (Some (Num x))) go = go x
number_in o go = Wrong

-- a local's number is increased by the operand
abbrev pub increased : List ℤ → Calculation
increased (pos l ∷ by ∷ []) room locals stack =
    number_in (slice_get locals l) (λ x. Fine stack (slice_set locals l (Some (Num (low_word (x +ℤ by))))))
increased operands room locals stack = Wrong

-- two locals hold an int
abbrev pub int_set : ℕ → ℤ → List (Option Value) → List (Option Value)
int_set l z locals = slice_set (slice_set locals l (Some (Num (high_word z)))) (l + 1) (Some (Num (low_word z)))

-- the int in two locals is increased by the operand
abbrev pub int_increased : List ℤ → Calculation
int_increased (pos l ∷ by ∷ []) room locals stack =
    number_in (slice_get locals l) (λ high. number_in (slice_get locals (l + 1)) (λ low.
    Fine stack (int_set l (spelt_by high low +ℤ by) locals)))
int_increased operands room locals stack = Wrong

-- ---- the stack

-- so many words leave the stack
abbrev pub popped : ℕ → Calculation
popped n room locals stack = if_so (nat_le n (length stack)) (Fine (drop n stack) locals)

-- the top words are copied below some words
abbrev pub copied : (words below : ℕ) → Calculation
copied m n room locals stack = if_so (nat_le n (length stack)) (if_so (nat_le (length (take m stack ++ stack)) room)
    (Fine (take n stack ++ (take m stack ++ drop n stack)) locals))

-- numbers that dup_x may have
abbrev pub is_copy : (m n : ℕ) → Bool
is_copy m n = (nat_le 1 m && nat_le m 4) && ((n == 0) || (nat_le m n && nat_le n (m + 4)))

-- one byte gives both numbers
abbrev pub by_nibbles : (ℕ → ℕ → Calculation) → List ℤ → Calculation
by_nibbles f (pos b ∷ []) = f (b / 16) (b % 16)
by_nibbles f operands = λ room locals stack. Wrong

-- the top words are copied; no words below is as many as are copied
abbrev pub dup_x : ℕ → ℕ → Calculation
dup_x m n room locals stack = if_so (is_copy m n) (copied m (if n == 0 then m else n) room locals stack)

-- numbers that swap_x may have
abbrev pub is_swap : ℕ → Bool
is_swap m = (m == 1) || (m == 2)

-- the top words and those beneath change places
abbrev pub swap_x : ℕ → ℕ → Calculation
swap_x m n room locals stack = if_so (is_swap m && is_swap n) (if_so (nat_le (m + n) (length stack))
    (Fine (take n (drop m stack) ++ (take m stack ++ drop (m + n) stack)) locals))

-- ---- arithmetic

-- of one number, cut to a word
abbrev pub unary : (ℤ → ℤ) → List ℤ → Calculation
unary f operands room locals stack = one_number Wrong stack (λ x rest. Fine (Num (low_word (f x)) ∷ rest) locals)

-- of two numbers, cut to a word
abbrev pub binary : (ℤ → ℤ → ℤ) → List ℤ → Calculation
binary f operands room locals stack = two_numbers Wrong stack (λ x y rest. Fine (Num (low_word (f x y)) ∷ rest) locals)

-- of two numbers, where the second is not 0
abbrev pub divided : (ℤ → ℤ → ℤ) → List ℤ → Calculation
divided f operands room locals stack =
    two_numbers Wrong stack (λ x y rest. if is_zero y then Fails Arithmetic else Fine (Num (low_word (f x y)) ∷ rest)
    locals)

-- of one int, cut to 32 bits
abbrev pub int_unary : (ℤ → ℤ) → List ℤ → Calculation
int_unary f operands room locals stack = one_int Wrong stack (λ x rest. Fine (int_words (wide (f x)) ++ rest) locals)

-- of two ints, cut to 32 bits
abbrev pub int_binary : (ℤ → ℤ → ℤ) → List ℤ → Calculation
int_binary f operands room locals stack = two_ints Wrong stack (λ x y rest. Fine (int_words (wide (f x y))
    ++ rest) locals)

-- of two ints, where the second is not 0
abbrev pub int_divided : (ℤ → ℤ → ℤ) → List ℤ → Calculation
int_divided f operands room locals stack =
    two_ints Wrong stack (λ x y rest. if is_zero y then Fails Arithmetic else Fine (int_words (wide (f x y))
    ++ rest) locals)

-- a number as an int
abbrev pub to_int : List ℤ → Calculation
to_int operands room locals stack = one_number Wrong stack (λ x rest. pushed (int_words x) room locals rest)

-- one word of two: of an int, or of a comparison
abbrev pub from_int : (ℤ → ℤ) → List ℤ → Calculation
from_int f operands room locals stack = one_int Wrong stack (λ x rest. Fine (Num (f x) ∷ rest) locals)

-- one word of two ints
abbrev pub from_ints : (ℤ → ℤ → ℤ) → List ℤ → Calculation
from_ints f operands room locals stack = two_ints Wrong stack (λ x y rest. Fine (Num (f x y) ∷ rest) locals)

-- ---- conditions

-- a number is so
abbrev pub if_number : (ℤ → Bool) → Test
if_number holds stack = one_number Neither stack (λ x rest. Takes (holds x) rest)

-- two numbers are so
abbrev pub if_numbers : (ℤ → ℤ → Bool) → Test
if_numbers holds stack = two_numbers Neither stack (λ x y rest. Takes (holds x y) rest)

-- a reference is null, or is not
abbrev pub if_null : (null : Bool) → Test
if_null t (Null ∷ rest) = Takes t rest
if_null true (Obj k ∷ rest) = Takes false rest
if_null false (Obj k ∷ rest) = Takes true rest
if_null t stack = Neither

-- the other truth
abbrev pub flipped : Bool → Bool
flipped true = false
flipped false = true

-- two truths are the same
abbrev pub alike : Bool → Bool → Bool
alike true b = b
alike false b = flipped b

-- two references are the same, or are not
abbrev pub if_same : (same : Bool) → Test
if_same t (Null ∷ Null ∷ rest) = Takes t rest
if_same t (Obj j ∷ Obj k ∷ rest) = Takes (alike t (j == k)) rest
if_same t (Null ∷ Obj k ∷ rest) = Takes (flipped t) rest
if_same t (Obj k ∷ Null ∷ rest) = Takes (flipped t) rest
if_same t stack = Neither

-- without a condition
abbrev pub at_once : Test
at_once stack = Takes true stack
