-- The exception handlers of a method as they stand in the handler table of Method (Java Card Virtual Machine
-- Specification 2.2.2, section 6.9.2).
use Rattle.std.specs.Prelude.{◌≡◌, ℕ, suc, ◌+◌, ◌-◌, ◌<◌, ◌≤◌, List, [], ◌∷◌, Option, Some, None, Bool, true, false}
use Rattle.std.specs.Prelude.{not, nat_lt, ◌&&◌, ◌||◌, codes}
use Rattle.cjc_card_semantics.specs.CapRead.declared.tree.Handler.{Handler}
use Rattle.cjc_card_semantics.specs.Script.Sorts.{Shape, OfClass}
use Rattle.cjc_card_semantics.specs.Bytecode.Renaming.{shape_as}
use Rattle.cjc_card_semantics.specs.Machine.Classes.{is_of}
use Rattle.cjc_ncode.specs.declared.narrow.NCatch.{NCatch}
use Rattle.cjc_ncode.specs.declared.narrow.PoolKey.TheVariants as keys
use Rattle.cjc_ncode.specs.ByLabel.{Named}
use Rattle.cjc_ncode.specs.Lowering.Naming.{Naming, Holds, IsClass}
use Rattle.cjc_ncode.specs.Lowering.Laid.{class_index}

-- the ranges have a place in common
abbrev pub meets : NCatch → NCatch → Bool
meets c d = nat_lt c.start d.end && nat_lt d.start c.end

-- the range meets one of these
abbrev pub meets_any : NCatch → List NCatch → Bool
meets_any c [] = false
meets_any c (d ∷ catches) = meets c d || meets_any c catches

-- a handler at its offsets; its stop bit is set where its range meets that of no later one
abbrev pub handler_of : Naming → (to : ℕ → ℕ) → NCatch → (later : List NCatch) → Handler
handler_of n to c later = record {
  start = to c.start;
  stop = not (meets_any c later);
  length = to c.end - to c.start;
  handler = to c.target;
  catch_index = class_index n c.class;
}

-- The handlers of a method in order, where labels stand at `to`.
abbrev pub handlers_of : Naming → (to : ℕ → ℕ) → List NCatch → List Handler
handlers_of n to [] = []
handlers_of n to (c ∷ catches) = handler_of n to c catches ∷ handlers_of n to catches

-- later labels stand at greater offsets, up to the end of the code
abbrev pub IsAscending : (count : ℕ) → (to : ℕ → ℕ) → Type 0
IsAscending count to = (a b : ℕ) → a < b → b ≤ count → to a < to b

-- java/lang/Object
abbrev pub object : List ℕ
object = codes "java/lang/Object"

-- a catch type stands in the pool, at another index than 0; or it is java/lang/Object, and entry 0 serves it
pub data Catches (n : Naming) : Option (List ℕ) → Type 0 where
  any : Catches n None
  one : {c : List ℕ} {k : ℕ} → n.index (keys.Class c) ≡ suc k → Holds n (keys.Class c) → IsClass n c
      → Catches n (Some c)
  every : {c : List ℕ} → c ≡ object → n.index (keys.Class c) ≡ 0 → Catches n (Some c)

-- each range has a place and lies in code of so many instructions
pub data AllLie (n : Naming) (count : ℕ) : List NCatch → Type 0 where
  none : AllLie n count []
  more : {c : NCatch} {catches : List NCatch} → c.start < c.end → c.end ≤ count → Catches n c.class
      → AllLie n count catches → AllLie n count (c ∷ catches)

-- whether an exception of a type is of a class that the pool names is the same by name and by token
abbrev pub SubtypesAgree : Naming → Named → Shape (List ℕ) → Type 0
SubtypesAgree n l kind = (c : List ℕ) → IsClass n c → is_of n.loaded (shape_as n.class kind) (OfClass (n.class c))
    ≡ l.is_of kind (OfClass c)

-- by name, a type is of java/lang/Object
abbrev pub IsObject : Named → Shape (List ℕ) → Type 0
IsObject l kind = l.is_of kind (OfClass object) ≡ true

-- each range ends before a method's code or begins behind it
pub data AllElsewhere (first end : ℕ) : List Handler → Type 0 where
  none : AllElsewhere first end []
  before : {h : Handler} {handlers : List Handler} → h.start + h.length ≤ first → AllElsewhere first end handlers
      → AllElsewhere first end (h ∷ handlers)
  behind : {h : Handler} {handlers : List Handler} → end < h.start → AllElsewhere first end handlers
      → AllElsewhere first end (h ∷ handlers)
