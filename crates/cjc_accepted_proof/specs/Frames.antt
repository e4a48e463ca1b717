-- The types of frames of written code that follow from those of its class file: a number is a word, a reference has the
-- card's types of the types by name, and a reference that opens a pair is left out.
use Rattle.std.specs.Prelude.{◌≡◌, ◌≤◌, ℕ, true, false, List, [], ◌∷◌, length, map, Option, Some, None, Bool, is_some}
use Rattle.std.specs.Prelude.{if◌then◌else◌, option_and_then}
use Rattle.std.specs.List.{AllZip}
use Rattle.std.specs.Str.{bytes_eq}
use Rattle.cjc_types.specs.Bytes.Descriptor.{Part}
use Rattle.cjc_types.specs.Bytes.declared.descriptor.Kind.{Kind}
use Rattle.cjc_types.specs.Bytes.declared.descriptor.Kind.TheVariants as kinds
use Rattle.cjc_types.specs.Bytes.declared.fault.MemberId.{MemberId}
use Rattle.cjc_verify.specs.CapRead.declared.tree.ClassRef.{ClassRef}
use Rattle.cjc_verify.specs.CardActs.CardTypes.{Boolean, Byte, MemberType, Reference, Short, ValueType, Void}
use Rattle.cjc_verify.specs.CardActs.CardTypes.{is_moved_by}
use Rattle.cjc_verify.specs.CardSemantics.Bytecode.Effects.{Letter}
use Rattle.cjc_types.specs.Rules.{all_types, throwable}
use Rattle.cjc_types.specs.Types.{is_void, parts}
use Rattle.cjc_verify.specs.ClassTypes.{class_type}
use Rattle.cjc_verify.specs.Named.{is_outside}
use Rattle.cjc_types.specs.Cells.{IsCellBelow, most_names}
use Rattle.cjc_types.specs.Names.{insert}
use Rattle.cjc_types.specs.States.{states}
use Rattle.cjc_types.specs.Steps.{gives, locals_after, stack_behind as behind_by_name, takes}
use Rattle.cjc_types.specs.declared.cell.Cell.{Cell}
use Rattle.cjc_types.specs.declared.cell.Cell.TheVariants.{Number, Refs, Unusable}
use Rattle.cjc_types.specs.declared.state.Stack.{Stack}
use Rattle.cjc_types.specs.declared.state.Stack.TheVariants.{Cells, Clash}
use Rattle.cjc_types.specs.declared.state.State.{State}
use Rattle.cjc_frames.specs.declared.acts.Act.{Act}
use Rattle.cjc_frames.specs.Acts.{Breaks, Subtype, after, given, has_wrong, has_wrong_local, lacks_local}
use Rattle.cjc_frames.specs.Acts.{stack_behind, with_writes}
use Rattle.cjc_types.specs.Bytecode.declared.insn.JOp.{JOp}
use Rattle.cjc_verify.specs.Script.Sorts.{OfClass, OfNumbers, OfReferences, Shape, shape_named}
use Rattle.cjc_types.specs.World.Classes.{Class, class_named}
use Rattle.cjc_types.specs.World.Lookup.{object}
use Rattle.cjc_types.specs.World.Subtype.{is_subtype}
use Rattle.cjc_verify.specs.Narrow.Pairs.Open.{Open, closed, begun, pushed}
use Rattle.cjc_verify.specs.Components.Types.{shape_nibbles}

-- ---- types

-- the types with one more, if there is one
abbrev pub with_type : Option (List ℕ) → List (List ℕ) → List (List ℕ)
with_type None types = types
with_type (Some type) types = insert type types

-- the class of a type is in some file
abbrev pub is_there : List Class → Shape (List ℕ) → Bool
is_there w (OfClass class) = is_some (class_named w class)
is_there w (OfNumbers element) = true
is_there w (OfReferences class) = is_some (class_named w class)

-- its nibbles, where it is
abbrev pub nibbles_there : List Class → (ref : List ℕ → ClassRef) → Shape (List ℕ) → Option (List ℕ)
nibbles_there w ref shape = if is_there w shape then Some (shape_nibbles ref shape) else None

-- The card's type of a class or array of this name, where class_refs are these; none where no file has the class.
abbrev pub type_named : List Class → (ref : List ℕ → ClassRef) → (name : List ℕ) → Option (List ℕ)
type_named w ref name = option_and_then (nibbles_there w ref) (shape_named name)

-- where types by name have these types on the card
module _ (card_type : List ℕ → Option (List ℕ)) where
  -- A handler of java/lang/Object is one of any exception on the card: what it takes is a java/lang/Throwable there.
  abbrev pub thrown_as : (name : List ℕ) → Option (List ℕ)
  thrown_as name = if bytes_eq name object then card_type throwable else None

  -- those of these names, as a set
  abbrev pub types_named : List (List ℕ) → List (List ℕ)
  types_named [] = []
  types_named (name ∷ names) = with_type (card_type name) (with_type (thrown_as name) (types_named names))

  -- what a reference of this name may be of on the card
  pub data IsCardType (name type : List ℕ) : Type 0 where
    its_own : card_type name ≡ Some type → IsCardType name type
    thrown : name ≡ object → card_type throwable ≡ Some type → IsCardType name type

  -- types are no more than a cell may have
  abbrev pub AreFew : Type 0
  AreFew = (names : List (List ℕ)) → length (types_named names) ≤ most_names

  -- what a handler takes, of one that takes this class in the class file
  pub data IsCaughtAs (caught : Option (List ℕ)) (class : List ℕ) : Type 0 where
    by_name : caught ≡ card_type class → IsCaughtAs caught class
    by_any : class ≡ object → caught ≡ card_type throwable → IsCaughtAs caught class

  -- a subtype by name is one by token, where both have types there
  abbrev pub NamesAgree : Subtype → List Class → Type 0
  NamesAgree is_of w = (sub sup t u : List ℕ) → is_subtype w sub sup ≡ true → card_type sub ≡ Some t
      → card_type sup ≡ Some u → is_of t u ≡ true

  -- so is all that a reference of the subtype may be of
  abbrev pub SubtypesAgree : Subtype → List Class → Type 0
  SubtypesAgree is_of w = (sub sup t u : List ℕ) → is_subtype w sub sup ≡ true → IsCardType sub t
      → card_type sup ≡ Some u → is_of t u ≡ true

  -- ---- cells

  -- what the card knows of a cell
  abbrev pub card_cell : Cell → Cell
  card_cell Number = Number
  card_cell (Refs names) = Refs (types_named names)
  card_cell Unusable = Unusable

  -- of several
  abbrev pub card_cells : List Cell → List Cell
  card_cells cells = map card_cell cells

  -- ---- frames

  -- a stack without the reference of the pair that is open
  abbrev pub left_out : Open → List Cell → List Cell
  left_out closed s = s
  left_out begun [] = []
  left_out begun (x ∷ s) = s
  left_out pushed [] = []
  left_out pushed (x ∷ []) = x ∷ []
  left_out pushed (x ∷ y ∷ s) = x ∷ s

  -- the stack of the card, where this pair is open
  abbrev pub card_stack : Open → Stack → Stack
  card_stack o (Cells s) = Cells (card_cells (left_out o s))
  card_stack o Clash = Clash

  -- the frame of the card
  abbrev pub card_state : Open → State → State
  card_state o x = record { stack = card_stack o x.stack; locals = card_cells x.locals }

  -- ---- rows

  -- What a written instruction with this act is beside the one of the class file that it is written for, outside of
  -- pairs, on this stack with these locals: it takes as many words, puts no more than what the card knows of what the
  -- other puts, and finds what it needs.
  pub record Mirrors (is_of : Subtype) (op : JOp) (a : Act) (locals stack : List Cell) : Type 0 where
    pub as_many : length a.takes ≡ takes op
    pub puts : AllZip IsCellBelow (map (given (card_cells locals) (card_cells stack)) a.gives) (card_cells (gives op
        locals stack))
    pub writes : AllZip IsCellBelow (with_writes a (card_cells locals) (Cells (card_cells stack)) a.writes (card_cells
        locals)) (card_cells (locals_after op locals (Cells stack)))
    pub operands : has_wrong is_of a.takes (card_cells stack) ≡ false
    pub locals_right : has_wrong_local is_of a.reads (card_cells locals) ≡ false
    pub fits : a.misfits ≡ false
    pub there : lacks_local a (card_cells locals) ≡ false
    pub known : a.is_unknown ≡ false
    pub named : a.misnames ≡ false

  -- The same with what is open before and behind it: it takes no more words than are there, and leaves no more on the
  -- stack than the card knows of what the other leaves.
  pub record MirrorsInPair (is_of : Subtype) (before behind : Open) (op : JOp) (a : Act) (locals stack : List Cell) :
      Type 0 where
    pub enough : length a.takes ≤ length (left_out before stack)
    pub leaves : AllZip IsCellBelow (stack_behind a (card_cells locals) (card_cells (left_out before stack)))
        (card_cells (left_out behind (behind_by_name op locals stack)))
    pub writes : AllZip IsCellBelow (with_writes a (card_cells locals) (Cells (card_cells (left_out before stack)))
        a.writes (card_cells locals)) (card_cells (locals_after op locals (Cells stack)))
    pub operands : has_wrong is_of a.takes (card_cells (left_out before stack)) ≡ false
    pub locals_right : has_wrong_local is_of a.reads (card_cells locals) ≡ false
    pub fits : a.misfits ≡ false
    pub there : lacks_local a (card_cells locals) ≡ false
    pub known : a.is_unknown ≡ false
    pub named : a.misnames ≡ false

-- A row of a table stands: the frame before the instruction breaks no rule, and the one behind it lies below the frame
-- that the table has there.
pub record Stands (is_of : Subtype) (count max_stack : ℕ) (a : Act) (before behind : State) : Type 0 where
  pub unbroken : (rule : ℕ) → Breaks is_of max_stack a before rule → ⊥
  pub goes : (let s = states count in s.Below (after a before) behind)

-- ---- members

module _ (card_type : List ℕ → Option (List ℕ)) where
  -- a type of a descriptor of a class file is this type on the card, of one word at most
  abbrev pub IsTypeFor : Kind → (class : List ℕ) → ValueType → Type 0
  IsTypeFor kinds.Bool class Boolean = Unit {0}
  IsTypeFor kinds.Byte class Byte = Unit {0}
  IsTypeFor kinds.Short class Short = Unit {0}
  IsTypeFor kinds.Ref class (Reference type) = card_type class ≡ Some type
  IsTypeFor kinds.Void class Void = Unit {0}
  IsTypeFor kind class t = ⊥

  -- parameter by parameter; none is void
  abbrev pub AreTypesFor : List Part → List ValueType → Type 0
  AreTypesFor [] [] = Unit {0}
  AreTypesFor (part ∷ parts) (t ∷ types) = IsTypeFor part.kind part.class t × (is_void part.kind ≡ false)
      × AreTypesFor parts types
  AreTypesFor parts types = ⊥

  -- What is of a class by name is of this type by token.
  abbrev pub PassesFor : Subtype → List Class → (class type : List ℕ) → Type 0
  PassesFor is_of w class type = (x : Cell) → all_types (λ name. is_subtype w name class) x ≡ true
      → all_types (λ t. is_of t type) (card_cell card_type x) ≡ true

  -- What the entry of a field says of the field that an instruction names: its objects are of the class that declares
  -- it, which is one of the package, its type is the descriptor's, and the letter moves that.
  pub record FieldFits (is_of : Subtype) (w : List Class) (f : MemberId) (letter : Letter) (class : ClassRef)
      (t : ValueType) : Type 0 where
    pub receiver : PassesFor is_of w f.class (class_type class)
    pub typed : (let d = parts f.desc in let r = d.result in IsTypeFor r.kind r.class t)
    pub moved : is_moved_by letter t ≡ true
    pub inside : is_outside class ≡ false

  -- What the entry of a method says of the method that an instruction names: its types are the descriptor's.
  pub record MethodFits (m : MemberId) (t : MemberType) : Type 0 where
    pub params : (let d = parts m.desc in AreTypesFor d.params t.params)
    pub result : (let d = parts m.desc in let r = d.result in IsTypeFor r.kind r.class t.result)
