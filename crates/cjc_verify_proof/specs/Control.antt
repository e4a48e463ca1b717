-- Instructions that jump, throw or return.
use Rattle.std.specs.Prelude.{◌≡◌, ℕ, Bool, true, false, List, [], ◌∷◌, map, reverse, Contains}
use Rattle.cjc_types.specs.declared.cell.Cell.{Cell}
use Rattle.cjc_card_semantics.specs.Bytecode.Effects.{Memory, Effect, Go, Raise, Toss, Invoke, Leave, Stick}
use Rattle.cjc_card_semantics.specs.Machine.Loaded.{Loaded}
use Rattle.cjc_card_semantics.specs.Machine.Classes.{Class, Field}
use Rattle.cjc_card_semantics.specs.Machine.Operations.{Callee}
use Rattle.cjc_frames.specs.Acts.{given}
use Rattle.cjc_card_acts.specs.CardTypes.{ValueType, words}
use Rattle.cjc_verify_proof.specs.Words.{AreWords, AreLocals}
use Rattle.cjc_verify_proof.specs.Heaps.{object_is}

-- this place, where the next instruction may follow
abbrev pub next_if : (falls : Bool) → (next : ℕ) → List ℕ
next_if true next = next ∷ []
next_if false next = []

-- the cells of a value on the stack
abbrev pub cells_of : ValueType → List Cell
cells_of t = map (given [] []) (words t)

-- how many words a switch takes
abbrev pub switched_words : (is_int : Bool) → ℕ
switched_words true = 2
switched_words false = 1

-- An instruction goes on to one of these places with a stack and locals of these cells and this memory.
abbrev pub Leads : {X : Type 0} → Loaded → (places : List ℕ) (stack locals : List Cell) (m : Memory Class Field X)
    → Effect Class Field Callee X → Type 0
Leads l places s c m (Go at stack locals memory) = Contains places at × (AreWords (object_is l m.heap) s stack
    × (AreLocals (object_is l m.heap) c locals × (memory ≡ m)))
Leads l places s c m (Raise fault) = ⊥
Leads l places s c m (Toss object) = ⊥
Leads l places s c m (Invoke method) = ⊥
Leads l places s c m (Leave words) = ⊥
Leads l places s c m Stick = ⊥

-- An instruction throws what is of a type, or raises.
abbrev pub Throws : {X : Type 0} → Loaded → (type : List ℕ) (m : Memory Class Field X) → Effect Class Field Callee X
    → Type 0
Throws l type m (Go at stack locals memory) = ⊥
Throws l type m (Raise fault) = Unit {0}
Throws l type m (Toss object) = object_is l m.heap type object ≡ true
Throws l type m (Invoke method) = ⊥
Throws l type m (Leave words) = ⊥
Throws l type m Stick = ⊥

-- An instruction leaves its method with the words of a result of a type, the deepest first.
abbrev pub Returns : {X : Type 0} → Loaded → ValueType → (m : Memory Class Field X) → Effect Class Field Callee X
    → Type 0
Returns l t m (Go at stack locals memory) = ⊥
Returns l t m (Raise fault) = ⊥
Returns l t m (Toss object) = ⊥
Returns l t m (Invoke method) = ⊥
Returns l t m (Leave words) = AreWords (object_is l m.heap) (cells_of t) (reverse words)
Returns l t m Stick = ⊥
