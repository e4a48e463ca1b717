-- Arguments and results between the words of a stack and the values of scripts and reports: a number of 32 bits is two
-- words. Words stand the deepest first.
use Rattle.std.specs.Prelude.{ℕ, ◌+◌, List, [], ◌∷◌, ◌++◌, Option, Some, None, Bool, true, false}
use Rattle.cjc_script.specs.declared.value.Value.{Value}
use Rattle.cjc_script.specs.declared.value.Value.TheVariants.{Num, Null, Obj}
use Rattle.cjc_script.specs.Sorts.{Sort, Boolean, Byte, Short, Int, Reference}
use Rattle.cjc_card_semantics.specs.Bytecode.Numbers.{high_word, spelt_by}
use Rattle.cjc_range.specs.Words.{low_word}

-- how many words a value of a type has
abbrev pub width : Sort → ℕ
width Int = 2
width other = 1

-- how many words values of these types have
abbrev pub widths : List Sort → ℕ
widths [] = 0
widths (s ∷ sorts) = width s + widths sorts

-- the words of a value, where it is of the type's kind
abbrev pub value_words : Sort → Value → Option (List Value)
value_words Boolean (Num z) = Some (Num z ∷ [])
value_words Byte (Num z) = Some (Num z ∷ [])
value_words Short (Num z) = Some (Num z ∷ [])
value_words Int (Num z) = Some (Num (high_word z) ∷ Num (low_word z) ∷ [])
value_words (Reference shape) Null = Some (Null ∷ [])
value_words (Reference shape) (Obj k) = Some (Obj k ∷ [])
value_words other value = None

-- the words of one behind those of another
abbrev pub both_words : Option (List Value) → Option (List Value) → Option (List Value)
both_words (Some a) (Some b) = Some (a ++ b)
both_words a b = None

-- the words of as many values as types
abbrev pub words_of : List Sort → List Value → Option (List Value)
words_of [] [] = Some []
words_of (s ∷ sorts) (v ∷ values) = both_words (value_words s v) (words_of sorts values)
words_of others values = None

-- a value in front, where there are others
abbrev pub first_and : Value → Option (List Value) → Option (List Value)
first_and v None = None
first_and v (Some values) = Some (v ∷ values)

-- the values of words, where each word is of its type's kind
abbrev pub values_of : List Sort → List Value → Option (List Value)
values_of [] [] = Some []
values_of [] (w ∷ words) = None
values_of (Boolean ∷ sorts) (Num z ∷ words) = first_and (Num z) (values_of sorts words)
values_of (Byte ∷ sorts) (Num z ∷ words) = first_and (Num z) (values_of sorts words)
values_of (Short ∷ sorts) (Num z ∷ words) = first_and (Num z) (values_of sorts words)
values_of (Int ∷ sorts) (Num high ∷ Num low ∷ words) = first_and (Num (spelt_by high low)) (values_of sorts words)
values_of (Reference shape ∷ sorts) (Null ∷ words) = first_and Null (values_of sorts words)
values_of (Reference shape ∷ sorts) (Obj k ∷ words) = first_and (Obj k) (values_of sorts words)
values_of (s ∷ sorts) words = None

-- the values of a call's words, with its receiver
abbrev pub event_values : (on_object : Bool) → List Sort → List Value → Option (List Value)
event_values false sorts args = values_of sorts args
event_values true sorts [] = None
event_values true sorts (v ∷ args) = first_and v (values_of sorts args)

-- none where a value is not of its type
abbrev pub no_words : Option (List Value) → List Value
no_words None = []
no_words (Some words) = words

-- the words of a result
abbrev pub result_words : Option Sort → Option Value → List Value
result_words (Some sort) (Some v) = no_words (value_words sort v)
result_words sort v = []

-- the result of an entry by its words: two numbers are an int
abbrev pub result_of : List Value → Option Value
result_of [] = None
result_of (v ∷ []) = Some v
result_of (Num high ∷ Num low ∷ words) = Some (Num (spelt_by high low))
result_of (v ∷ w ∷ words) = Some v
