-- Types of descriptors on the card, in int mode too: int is int.
use Rattle.std.specs.Prelude.{◌≡◌, ℕ, true, false, List, [], ◌∷◌, ◌++◌, Option, Some, if◌then◌else◌}
use Rattle.std.specs.List.{list_all}
use Rattle.cjc_types.specs.Bytes.Descriptor.{Part}
use Rattle.cjc_types.specs.Bytes.declared.descriptor.Kind.{Kind}
use Rattle.cjc_types.specs.Bytes.declared.descriptor.Kind.TheVariants as kinds
use Rattle.cjc_types.specs.Rules.{is_value}
use Rattle.cjc_types.specs.Types.{is_void}
use Rattle.cjc_types.specs.World.Classes.{Class}
use Rattle.cjc_types.specs.declared.cell.Cell.{Cell}
use Rattle.cjc_types.specs.declared.cell.Cell.TheVariants.{Number, Refs, Unusable}
use Rattle.cjc_frames.specs.Types.{begins_with}
use Rattle.cjc_verify.specs.CardActs.CardTypes.{ValueType, arrays_of}
use Rattle.cjc_verify.specs.CardActs.CardTypes as types
use Rattle.cjc_verify.specs.CardSemantics.Bytecode.Effects.{Letter}
use Rattle.cjc_accepted_proof.specs.Frames.{types_named}
use Rattle.cjc_int_accepted.specs.Acts.{is_short}
use Rattle.cjc_int_accepted.specs.Frames.{words_of}

module _ (card_type : List ℕ → Option (List ℕ)) where
  -- a type of a descriptor of a class file is this type on the card
  abbrev pub IsTypedAs : Kind → (class : List ℕ) → ValueType → Type 0
  IsTypedAs kinds.Bool class types.Boolean = Unit {0}
  IsTypedAs kinds.Byte class types.Byte = Unit {0}
  IsTypedAs kinds.Short class types.Short = Unit {0}
  IsTypedAs kinds.Int class types.Int = Unit {0}
  IsTypedAs kinds.Ref class (types.Reference type) = card_type class ≡ Some type
  IsTypedAs kinds.Void class types.Void = Unit {0}
  IsTypedAs kind class t = ⊥

  -- arrays of these names serve the loads and stores of a letter
  abbrev pub ServesItems : Letter → (names : List (List ℕ)) → Type 0
  ServesItems letter names = list_all (begins_with (arrays_of letter)) (types_named card_type names) ≡ true

-- types of parameters: none is void
abbrev pub AreValues : List ValueType → Type 0
AreValues [] = Unit {0}
AreValues (types.Void ∷ ts) = ⊥
AreValues (t ∷ ts) = AreValues ts

module _ (card_type : List ℕ → Option (List ℕ)) (w : List Class) where
  -- Values of the types of parameters, by name and on the card; none is void.
  abbrev pub AreArguments : List Part → List ValueType → (cells : List Cell) → Type 0
  AreArguments [] [] [] = Unit {0}
  AreArguments (p ∷ ps) (t ∷ ts) (x ∷ xs) = IsTypedAs card_type p.kind p.class t × (is_void p.kind ≡ false)
      × (is_value w p.kind p.class x ≡ true) × AreArguments ps ts xs
  AreArguments ps ts xs = ⊥

-- arguments on the stack, the last one on top, over what lies below them
abbrev pub arguments_on : (arguments below : List Cell) → List Cell
arguments_on [] s = s
arguments_on (x ∷ xs) s = arguments_on xs (x ∷ s)

-- no type has values of one word
abbrev pub NoneShort : List ValueType → Type 0
NoneShort [] = Unit {0}
NoneShort (t ∷ ts) = (is_short t ≡ false) × NoneShort ts

module _ (card_type : List ℕ → Option (List ℕ)) where
  -- the words of a cell where it is handed over as a value of a type
  abbrev pub cut_words : ValueType → Cell → List Cell
  cut_words t x = if is_short t then Number ∷ [] else words_of card_type x

  -- the words of arguments over others
  abbrev pub words_on : (cells below : List Cell) → List Cell
  words_on [] s = s
  words_on (x ∷ xs) s = words_on xs (words_of card_type x ++ s)

  -- as they are handed over
  abbrev pub cut_on : List ValueType → (cells below : List Cell) → List Cell
  cut_on [] xs s = s
  cut_on (t ∷ ts) [] s = s
  cut_on (t ∷ ts) (x ∷ xs) s = cut_on ts xs (cut_words t x ++ s)

  -- the words of a scratch pair into which an argument went: a reference leaves the second one as it was
  abbrev pub pair_with : (x second : Cell) → List Cell
  pair_with Number v = Number ∷ Number ∷ []
  pair_with (Refs names) v = Refs (types_named card_type names) ∷ v ∷ []
  pair_with Unusable v = Unusable ∷ v ∷ []

  -- those of several, over these words
  abbrev pub pairs_with : (cells old : List Cell) → List Cell
  pairs_with [] old = old
  pairs_with (x ∷ xs) [] = []
  pairs_with (x ∷ xs) (u ∷ []) = u ∷ []
  pairs_with (x ∷ xs) (u ∷ v ∷ old) = pair_with x v ++ pairs_with xs old
