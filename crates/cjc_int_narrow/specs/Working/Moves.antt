-- What is written for parameters one after the other, by the word at which the first is or goes.
use Rattle.std.specs.Prelude.{ℕ, ◌+◌, List, [], ◌∷◌, ◌++◌, Option, Some, Bool, true, false, if◌then◌else◌}
use Rattle.std.specs.List.{list_any}
use Rattle.cjc_int_mode.specs.CapRead.Card as card
use Rattle.cjc_int_mode.specs.Script.Sorts.{Sort, Int}
use Rattle.cjc_int_mode.specs.CardSemantics.Bytecode.Arguments.{width}
use Rattle.cjc_ncode.specs.declared.narrow.NInsn.{NInsn}
use Rattle.cjc_ncode.specs.declared.narrow.NInsn.TheVariants.{Op}
use Rattle.cjc_ncode.specs.Written.{local}
use Rattle.cjc_ncode.specs.IntCode.IntCode.{is_short, is_by_scratch, is_reference, loads, stores, narrowed}
use Rattle.cjc_int_narrow.specs.declared.kinds.Kept.{Kept}

-- how values of a type are kept
abbrev pub kept_as : Sort → Kept
kept_as sort = record { is_short = is_short sort; is_reference = is_reference sort; words = width sort }

-- how a receiver is kept
abbrev pub receiver_kept : Kept
receiver_kept = record { is_short = false; is_reference = true; words = 1 }

-- the load of a value so kept
abbrev pub loaded : Kept → (word : ℕ) → List NInsn
loaded k word = if k.is_short then local card.sload_0 card.sload word else loads k.is_reference word

-- s2i behind a value of one word
abbrev pub widened_if : Bool → List NInsn
widened_if short = if short then Op card.s2i ∷ [] else []

-- i2s where a value is cut to one word
abbrev pub narrowed_if : Bool → List NInsn
narrowed_if short = if short then Op card.i2s ∷ [] else []

-- an argument goes from one word to another
abbrev pub moved_by : Kept → (word to : ℕ) → List NInsn
moved_by k word to = loaded k word ++ widened_if k.is_short ++ stores k.is_reference to

-- arguments go to the pairs from a word on
abbrev pub moved_all : (word to : ℕ) → List Sort → List NInsn
moved_all word to [] = []
moved_all word to (sort ∷ sorts) = moved_by (kept_as sort) word to ++ moved_all (word + width sort) (to + 2) sorts

-- values go into the pairs from a word on, the last first
abbrev pub aside_all : (word : ℕ) → List Sort → List NInsn
aside_all word [] = []
aside_all word (sort ∷ sorts) = aside_all (word + 2) sorts ++ stores (is_reference sort) word

-- and come back in order
abbrev pub back_all : (word : ℕ) → List Sort → List NInsn
back_all word [] = []
back_all word (sort ∷ sorts) = loads (is_reference sort) word ++ narrowed sort ++ back_all (word + 2) sorts

-- the result is an int
abbrev pub is_int : Option Sort → Bool
is_int (Some Int) = true
is_int _ = false

-- how the parameters of a call are cut: by the pairs from a word on, by i2s of the last alone, or not at all
abbrev pub handed : (word : ℕ) → List Sort → List NInsn
handed word params = if is_by_scratch params then aside_all word params ++ back_all word params
    else narrowed_if (list_any is_short params)
