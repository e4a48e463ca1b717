use Rattle.std.proofs.Common.{◌≡◌, refl, length, ◌∷◌}
use Rattle.cjc_narrow_proof.specs.Selection.Relation.{Refers}
use Rattle.cjc_narrow_proof.specs.Selection.Calls.{MaySelect}
use Rattle.cjc_narrow_proof.proofs.SelectionLaws.Begins.{static_call, object_call}
use Rattle.cjc_narrow_proof.proofs.selection.calls_begin_alike.Goals as goal

pub returns-clause-static_call : goal.returns-clause-static_call
returns-clause-static_call c by l narrowed op id named params ks ls next f outer s g others t call agree =
    static_call by l narrowed (λ m. call.callee ≡ m) op id named params ks ls next f outer s g others t call refl agree

pub returns-clause-object_call : goal.returns-clause-object_call
returns-clause-object_call c by l narrowed op id named within receives params ks ls next f outer s g others t call
    received stores agree =
    let on = call.call in
    object_call by l narrowed (MaySelect l narrowed on.selected named (length (Refers within ∷ params)) within
    call.selects) op id named within receives params ks ls next f outer s g others t call received
    (λ kind is made. (kind, (is, (made, refl)))) stores agree
