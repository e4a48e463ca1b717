-- Words of a stack and locals as cells type them, where objects are of types in any way.
use Rattle.std.specs.Prelude.{◌≡◌, ℕ, Bool, true, List, Option, Some, None}
use Rattle.std.specs.List.{AllZip}
use Rattle.cjc_script.specs.declared.value.Value.{Value}
use Rattle.cjc_script.specs.declared.value.Value.TheVariants.{Num, Null, Obj}
use Rattle.cjc_types.specs.declared.cell.Cell.{Cell}
use Rattle.cjc_types.specs.declared.cell.Cell.TheVariants.{Number, Refs, Unusable}
use Rattle.cjc_types.specs.Names.{In}
use Rattle.cjc_card_semantics.specs.Bytecode.Calculations.{Result, Fine, Fails, Wrong, Choice, Takes, Neither}

-- by whether the object of a number is of a type
module _ (is : (type : List ℕ) → (object : ℕ) → Bool) where
  -- an object is of one of these types
  pub record IsOneOf (types : List (List ℕ)) (object : ℕ) : Type 0 where
    pub type : List ℕ
    pub among : In type types
    pub holds : is type object ≡ true

  -- a number
  abbrev pub IsNumber : Value → Type 0
  IsNumber (Num z) = Unit {0}
  IsNumber Null = ⊥
  IsNumber (Obj k) = ⊥

  -- null, or an object of one of these types
  abbrev pub IsReference : List (List ℕ) → Value → Type 0
  IsReference types (Num z) = ⊥
  IsReference types Null = Unit {0}
  IsReference types (Obj k) = IsOneOf types k

  -- a word is what a cell says; an unusable one may be any
  abbrev pub IsWord : Cell → Value → Type 0
  IsWord Number v = IsNumber v
  IsWord (Refs types) v = IsReference types v
  IsWord Unusable v = Unit {0}

  -- a local that nothing was put into is unusable
  abbrev pub IsUnset : Cell → Type 0
  IsUnset Number = ⊥
  IsUnset (Refs types) = ⊥
  IsUnset Unusable = Unit {0}

  -- a local is what a cell says
  abbrev pub IsLocal : Cell → Option Value → Type 0
  IsLocal cell None = IsUnset cell
  IsLocal cell (Some v) = IsWord cell v

  -- a stack is what its cells say
  abbrev pub AreWords : List Cell → List Value → Type 0
  AreWords cells stack = AllZip IsWord cells stack

  -- locals are what their cells say
  abbrev pub AreLocals : List Cell → List (Option Value) → Type 0
  AreLocals cells locals = AllZip IsLocal cells locals

  -- A calculation leaves a stack and locals of these cells, or raises.
  abbrev pub Leaves : (stack locals : List Cell) → Result → Type 0
  Leaves s l (Fine stack locals) = AreWords s stack × AreLocals l locals
  Leaves s l (Fails fault) = Unit {0}
  Leaves s l Wrong = ⊥

  -- A condition leaves a stack of these cells.
  abbrev pub Chooses : (stack : List Cell) → Choice → Type 0
  Chooses s (Takes taken rest) = AreWords s rest
  Chooses s Neither = ⊥
