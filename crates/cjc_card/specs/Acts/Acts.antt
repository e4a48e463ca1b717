-- What an act of a script has done to the heap.
use Rattle.std.specs.Prelude.{◌≡◌, ℕ, ℤ, Option, Some, None, Bool, true, false}
use Rattle.cjc_script.specs.declared.value.Value.{Value}
use Rattle.cjc_card_frame.specs.Objects.{number_put, reference_put}
use Rattle.cjc_card.specs.Acts.States.{HeapByToken}
use Rattle.cjc_card.specs.declared.acts.acts.Put.{Put}
use Rattle.cjc_card.specs.declared.acts.acts.Put.TheVariants.{Number, Reference, Neither}

-- an act that fits has left the heap of the definition, and one that does not has left all as it was
abbrev pub IsPerformed : (fits : Bool) → (after : Option HeapByToken) → (old new : HeapByToken) → Type 0
IsPerformed true after old new = after ≡ Some new
IsPerformed false after old new = (after ≡ None) × (new ≡ old)

-- the heap with what is put into an array
abbrev pub put_by : HeapByToken → (array place : ℕ) → Value → Put → Option HeapByToken
put_by heap array place v (Number z) = Some (number_put heap array place z)
put_by heap array place v Reference = Some (reference_put heap array place v)
put_by heap array place v Neither = None
