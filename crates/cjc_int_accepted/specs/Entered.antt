-- How a method in int mode is entered: the types of its parameters as its narrow code sees them and on the card, and
-- the
-- words of its frame.
use Rattle.std.specs.Prelude.{◌≡◌, ℕ, ◌+◌, ◌*◌, ◌<◌, ◌≤◌, true, false, List, [], ◌∷◌, ◌++◌, flat_map, length, map}
use Rattle.std.specs.Prelude.{Option, Some, if◌then◌else◌}
use Rattle.std.specs.List.{Contains}
use Rattle.cjc_types.specs.Bytes.AccessFlags.{is_static}
use Rattle.cjc_types.specs.Bytes.Descriptor.{Part}
use Rattle.cjc_types.specs.Flow.{Body as BodyByName, arguments as arguments_by_name}
use Rattle.cjc_types.specs.States.{most_cells}
use Rattle.cjc_types.specs.Types.{is_void, parts}
use Rattle.cjc_ncode.specs.IntCode.IntCode.{Frame, nargs}
use Rattle.cjc_frames.specs.Flow.{Body, covers}
use Rattle.cjc_frames.specs.declared.acts.Catch.{Catch}
use Rattle.cjc_frames.specs.declared.acts.Given.TheVariants.{AnObject}
use Rattle.cjc_verify.specs.CardActs.CardTypes.{ValueType, words}
use Rattle.cjc_verify.specs.CardActs.CardTypes as types
use Rattle.cjc_verify.specs.Script.Sorts.{Boolean, Byte, Int, OfClass, Reference, Shape, Short, Sort, shape_named}
use Rattle.cjc_verify.specs.Script.Sorts.{sort_of}
use Rattle.cjc_int_accepted.specs.Frames.{Room}
use Rattle.cjc_int_accepted.specs.Types.{IsTypedAs}

-- a type of as many words on the card, which the same instructions move
abbrev pub IsSortFor : Sort → ValueType → Type 0
IsSortFor Boolean types.Boolean = Unit {0}
IsSortFor Byte types.Byte = Unit {0}
IsSortFor Short types.Short = Unit {0}
IsSortFor Int types.Int = Unit {0}
IsSortFor (Reference shape) (types.Reference type) = Unit {0}
IsSortFor _ _ = ⊥

-- those of several
abbrev pub AreSortsFor : List Sort → List ValueType → Type 0
AreSortsFor [] [] = Unit {0}
AreSortsFor (s ∷ sorts) (t ∷ ts) = IsSortFor s t × AreSortsFor sorts ts
AreSortsFor sorts ts = ⊥

module _ (card_type : List ℕ → Option (List ℕ)) where
  -- types of parameters of a descriptor on the card: none is void
  abbrev pub AreTypedAs : List Part → List ValueType → Type 0
  AreTypedAs [] [] = Unit {0}
  AreTypedAs (p ∷ ps) (t ∷ ts) = IsTypedAs card_type p.kind p.class t × (is_void p.kind ≡ false) × AreTypedAs ps ts
  AreTypedAs ps ts = ⊥

  -- what has a type on the card is a class or an array
  abbrev pub AreShapes : Type 0
  AreShapes = (name type : List ℕ) → card_type name ≡ Some type → (shape : Shape (List ℕ)) × (shape_named name ≡ Some
      shape)

  -- The method of the card is entered with the words of the arguments of that of the class file, and has room for them
  -- and for the locals.
  pub record IsEntered (m : Room) (b : BodyByName) (c : Body) (f : Frame) (holder : List ℕ) (ts : List ValueType) :
      Type 0 where
    pub sorts : f.params ≡ (if is_static b.flags then [] else Reference (OfClass b.class) ∷ []) ++ map sort_of
        (let d = parts b.desc in d.params)
    pub typed : AreTypedAs (let d = parts b.desc in d.params) ts
    pub holds : is_static b.flags ≡ false → card_type b.class ≡ Some holder
    pub arguments : c.arguments ≡ (if is_static b.flags then [] else AnObject holder ∷ []) ++ flat_map words ts
    pub words : m.arguments ≡ nargs f
    pub count : c.local_count ≡ m.arguments + 2 * b.max_locals + m.scratch
    pub low : c.max_stack ≤ most_cells
    pub room : 2 ≤ c.max_stack
    pub few : length (arguments_by_name b) ≤ b.max_locals

-- A handler that covers one of so many first instructions begins at a label behind them.
abbrev pub BeginBehind : (to : ℕ → ℕ) → (front : ℕ) → List Catch → Type 0
BeginBehind to front catches = (h : Catch) → Contains catches h → (k : ℕ) → k < front → covers h (to k) ≡ true
    → (label : ℕ) × (front ≤ label) × (h.start ≡ to label)
