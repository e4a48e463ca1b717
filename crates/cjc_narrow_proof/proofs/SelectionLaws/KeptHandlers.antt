-- Handlers are found alike by a table.
use Rattle.std.proofs.Common.{◌≡◌, ℕ, ap, ◌∙◌, List}
use Rattle.std.specs.Prelude.{Some}
use Rattle.cjc_script.specs.Sorts.{Shape, OfClass, shape_name}
use Rattle.cjc_ncode.specs.Written.{catches_at}
use Rattle.cjc_ncode.specs.ByLabel.{Named}
use Rattle.cjc_ncode.specs.ByLabel as labels
use Rattle.cjc_jvm_semantics.specs.Linked.{Method, Linked}
use Rattle.cjc_narrow_proof.specs.Selection.Relation.{Kind}
use Rattle.cjc_narrow_proof.specs.Selection.Calls.{IsWrittenAt}
use Rattle.cjc_narrow_proof.specs.Selection.Tables.{Table, class_of_code, code_of, written_place, offset_at, spot}
use Rattle.cjc_narrow_proof.specs.Selection.Tables.{Handles, handler_at, CatchesAlike}
use Rattle.cjc_narrow_proof.proofs.SelectionLaws.Handlers.{found_alike}

pub handlers_rule : (by : Linked) (l : Named) (tb : Table) (m : Method) (at : ℕ) (ls : List Kind)
    (kind : Shape (List ℕ)) → (let code = code_of tb m in code.catches) ≡ catches_at (written_place tb m) m.catches
    → IsWrittenAt (tb.resolution m) (tb.reached m) (offset_at m at) (spot tb m at)
    → ((class : List ℕ) → by.subtype (Some (class_of_code m)) (shape_name kind) class ≡ l.is_of kind (OfClass class))
    → ((target : ℕ) → handler_at by m at kind ≡ Some target → Handles tb m target ls kind)
    → CatchesAlike by l tb m at ls kind
handlers_rule by l tb m at ls kind same is tells handles = record {
  found = ap (λ cs. labels.handler l cs (spot tb m at) kind) same ∙ found_alike by l (tb.resolution m) (tb.reached m)
      (class_of_code m) kind (offset_at m at) (spot tb m at) is tells m.catches;
  handles = handles;
}
