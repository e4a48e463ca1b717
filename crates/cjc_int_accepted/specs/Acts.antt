-- What the instructions of the card take and give that are written in int mode for elements of arrays: the guard of an
-- index, and what stands around it.
use Rattle.std.specs.Prelude.{ℕ, ◌+◌, Bool, true, false, List, [], ◌∷◌, ◌++◌, length, Option, if◌then◌else◌}
use Rattle.cjc_types.specs.declared.cell.Cell.{Cell}
use Rattle.cjc_frames.specs.declared.acts.Act.{Act}
use Rattle.cjc_frames.specs.declared.acts.Given.{Given}
use Rattle.cjc_frames.specs.declared.acts.Given.TheVariants.{ANumber}
use Rattle.cjc_frames.specs.declared.acts.Need.{Need}
use Rattle.cjc_frames.specs.declared.acts.Need.TheVariants.{NumberWord}
use Rattle.cjc_verify.specs.CardActs.CardTypes.{ValueType, width}
use Rattle.cjc_verify.specs.CardActs.CardTypes as types
use Rattle.cjc_verify.specs.CardActs.Rows.{any_words, calculating, copying, idle, loading, loading_item, pushing}
use Rattle.cjc_verify.specs.CardActs.Rows.{storing, storing_item, swapping}
use Rattle.cjc_verify.specs.CardSemantics.Bytecode.Effects.{Byte, Int, Letter, Reference, Short}
use Rattle.cjc_int_accepted.specs.Frames.{words_of}

-- an instruction that takes and gives words of the stack alone
abbrev pub taking : List Need → List Given → (falls : Bool) → (targets : List ℕ) → Act
taking needs words falls targets = record idle { takes = needs; gives = words; falls = falls; targets = targets }

-- the guard of an index, whose jump has these targets
abbrev pub guarding : (inside : Bool) → (targets : List ℕ) → List Act
guarding true targets = calculating 2 1 ∷ []
guarding false targets = copying 2 2 ∷ copying 2 2 ∷ calculating 2 1 ∷ calculating 1 2 ∷ calculating 4 1
    ∷ taking (NumberWord ∷ []) [] true targets ∷ taking (any_words 2) [] true [] ∷ pushing (ANumber ∷ ANumber ∷ [])
    ∷ calculating 2 1 ∷ []

-- an element is read, and widened where it has one word
abbrev pub reading_item : Letter → List Act
reading_item Reference = loading_item Reference ∷ []
reading_item Byte = loading_item Byte ∷ calculating 1 2 ∷ []
reading_item Short = loading_item Short ∷ calculating 1 2 ∷ []
reading_item Int = loading_item Int ∷ []

-- the index below a value becomes one word
abbrev pub indexing : (words : ℕ) → (inside : Bool) → (targets : List ℕ) → List Act
indexing words inside targets = swapping words 2 ∷ (guarding inside targets ++ swapping 1 words ∷ [])

-- an element is written, cut before where it has one word
abbrev pub writing_item : Letter → (inside : Bool) → (targets : List ℕ) → List Act
writing_item Reference inside targets = indexing 1 inside targets ++ storing_item Reference ∷ []
writing_item Byte inside targets = calculating 2 1 ∷ (indexing 1 inside targets ++ storing_item Byte ∷ [])
writing_item Short inside targets = calculating 2 1 ∷ (indexing 1 inside targets ++ storing_item Short ∷ [])
writing_item Int inside targets = indexing 2 inside targets ++ storing_item Int ∷ []

-- the letter of what loads or stores a local
abbrev pub letter_of_local : (refs : Bool) → Letter
letter_of_local true = Reference
letter_of_local false = Int

-- ---- values of one word

-- a type whose values are numbers of one word
abbrev pub is_short : ValueType → Bool
is_short types.Boolean = true
is_short types.Byte = true
is_short types.Short = true
is_short t = false

-- s2i behind a value of such a type
abbrev pub widening : ValueType → List Act
widening t = if is_short t then calculating 1 2 ∷ [] else []

-- i2s in front of where one is handed over
abbrev pub cutting : ValueType → List Act
cutting t = if is_short t then calculating 2 1 ∷ [] else []

-- ---- arguments

-- an argument of a type goes from a word to the first one of a local
abbrev pub moving : ValueType → (word first : ℕ) → List Act
moving types.Void word first = []
moving types.Boolean word first = loading Short word ∷ calculating 1 2 ∷ storing Int first ∷ []
moving types.Byte word first = loading Short word ∷ calculating 1 2 ∷ storing Int first ∷ []
moving types.Short word first = loading Short word ∷ calculating 1 2 ∷ storing Int first ∷ []
moving types.Int word first = loading Int word ∷ storing Int first ∷ []
moving (types.Reference type) word first = loading Reference word ∷ storing Reference first ∷ []

-- those from a word and a local on
abbrev pub moving_all : (word first : ℕ) → List ValueType → List Act
moving_all word first [] = []
moving_all word first (t ∷ ts) = moving t word first ++ moving_all (word + width t) (first + 2) ts

-- ---- cells

-- the words of a cell are dropped
abbrev pub dropping : (card_type : List ℕ → Option (List ℕ)) → Cell → Act
dropping card_type x = taking (any_words (length (words_of card_type x))) [] true []

-- ---- calls

-- the letter by which a whole value is moved: a number has two words
abbrev pub letter_of_value : ValueType → Letter
letter_of_value (types.Reference type) = Reference
letter_of_value t = Int

-- parameters of these types go into scratch pairs from a word on, the last first
abbrev pub putting_aside : (word : ℕ) → List ValueType → List Act
putting_aside word [] = []
putting_aside word (t ∷ ts) = putting_aside (word + 2) ts ++ storing (letter_of_value t) word ∷ []

-- and come back in order, cut where they have one word
abbrev pub taking_back : (word : ℕ) → List ValueType → List Act
taking_back word [] = []
taking_back word (t ∷ ts) = loading (letter_of_value t) word ∷ (cutting t ++ taking_back (word + 2) ts)
