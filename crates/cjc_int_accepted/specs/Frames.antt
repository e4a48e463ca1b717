-- The types of frames of a method in int mode that follow from those of its class file: a number is two words and a
-- reference one, in a local the first of its two; the words of arguments, below the locals, and of scratch pairs, above
-- them, are free.
use Rattle.std.specs.Prelude.{ℕ, ◌+◌, ◌*◌, List, [], ◌∷◌, ◌++◌, flat_map, length, replicate, Option}
use Rattle.cjc_types.specs.declared.cell.Cell.{Cell}
use Rattle.cjc_types.specs.declared.cell.Cell.TheVariants.{Number, Refs, Unusable}
use Rattle.cjc_types.specs.declared.state.Stack.{Stack}
use Rattle.cjc_types.specs.declared.state.Stack.TheVariants.{Cells, Clash}
use Rattle.cjc_types.specs.declared.state.State.{State}
use Rattle.cjc_accepted_proof.specs.Frames.{card_cell, types_named}

-- where the locals of a method stand: behind so many words of arguments, and before so many of scratch pairs
pub record Room : Type 0 where
  pub arguments : ℕ
  pub scratch : ℕ

-- the first word of a local
abbrev pub word_of : Room → (local : ℕ) → ℕ
word_of m l = m.arguments + 2 * l

-- words of which nothing is known
abbrev pub free : (words : ℕ) → List Cell
free n = replicate n Unusable

-- what is known of the second word of a local
abbrev pub second_word : Cell → Cell
second_word Number = Number
second_word (Refs names) = Unusable
second_word Unusable = Unusable

-- where types by name have these types on the card
module _ (card_type : List ℕ → Option (List ℕ)) where
  -- the words of a cell of the stack; one that is no reference has two
  abbrev pub words_of : Cell → List Cell
  words_of Number = Number ∷ Number ∷ []
  words_of (Refs names) = Refs (types_named card_type names) ∷ []
  words_of Unusable = Unusable ∷ Unusable ∷ []

  -- of several
  abbrev pub stack_words : List Cell → List Cell
  stack_words cells = flat_map words_of cells

  -- how many words cells have
  abbrev pub count_of : List Cell → ℕ
  count_of cells = length (stack_words cells)

  -- the two words of a local
  abbrev pub words_of_local : Cell → List Cell
  words_of_local x = card_cell card_type x ∷ second_word x ∷ []

  -- of several
  abbrev pub local_words : List Cell → List Cell
  local_words cells = flat_map words_of_local cells

  -- the words of a frame: arguments, locals, scratch pairs
  abbrev pub frame_words : Room → (locals : List Cell) → List Cell
  frame_words m locals = free m.arguments ++ (local_words locals ++ free m.scratch)

  -- the stack of the card
  abbrev pub int_stack : Stack → Stack
  int_stack (Cells cells) = Cells (stack_words cells)
  int_stack Clash = Clash

  -- the frame of the card
  abbrev pub int_state : Room → State → State
  int_state m x = record { stack = int_stack x.stack; locals = frame_words m x.locals }
