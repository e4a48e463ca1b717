-- What a narrow instruction leaves of the arrays and objects: each keeps its type.
use Rattle.std.specs.Prelude.{ℕ, List, Option}
use Rattle.cjc_script.specs.declared.value.Value.{Value}
use Rattle.cjc_card_semantics.specs.Bytecode.Calculations
use Rattle.cjc_card_semantics.specs.Bytecode.Effects as narrow
use Rattle.cjc_ncode.specs.ByLabel.{Callee}
use Rattle.cjc_narrow_proof.specs.Selection.Relation.{Heap, NMemory}
use Rattle.cjc_narrow_proof.specs.Selection.Rows.{NEffect}
use Rattle.cjc_narrow_proof.specs.Selection.Acts.{Keeps}

-- Where the machine goes on, each array and object that was there has its type; the other effects change no heap.
pub data TypesStay (heap : Heap) : NEffect → Type 0 where
  goes_on : {at : ℕ} {stack : List Value} {words : List (Option Value)} {memory : NMemory} → Keeps heap memory.heap
      → TypesStay heap (narrow.Go at stack words memory)
  raises : {fault : Calculations.Fault} → TypesStay heap (narrow.Raise fault)
  tosses : {object : ℕ} → TypesStay heap (narrow.Toss object)
  invokes : {method : Callee} → TypesStay heap (narrow.Invoke method)
  leaves : {words : List Value} → TypesStay heap (narrow.Leave words)
  sticks : TypesStay heap narrow.Stick
