use Rattle.std.proofs.Common.{◌≡◌, ◌≤◌, ◌++◌, ◌∷◌, [], length, take, sym, ap, ◌∙◌, arith}
use Rattle.std.specs.Prelude.{None, slice_get}
use Rattle.cjc_jvm.proofs.RunsLaws.Lists.{past}
use Rattle.cjc_jvm.proofs.runs.reports.things_of.Goals as goal
use Rattle.cjc_jvm.proofs.runs.reports.things_of.Goals.{in-Some+in_ok-thing_of+in_ok-push, in_default}
use Rattle.cjc_jvm_semantics.proofs.BytesGets.{one_taken}

pub loop-k-preserved : goal.loop-k-preserved
loop-k-preserved c =
    let heap = c.args.heap.now in
    let k = c.loop-k.k in
    elim c.match-get.branch [
      | in-Some+in_ok-thing_of+in_ok-push w ↦
          w.things-is
          ∙ w.in_ok-push.ensures.ok
          ∙ ap (λ things. things ++ w.in_ok-thing_of.field-0 ∷ []) c.loop-k.invariant
          ∙ ap (λ thing. take k heap ++ thing ∷ []) w.in_ok-thing_of.ensures
          ∙ sym (one_taken heap k w.in-Some.object.now w.in-Some.ensures)
      | in_default w ↦
          let none = rw w.in_default.is at c.get.ensures in
          let behind : length heap ≤ k = past heap k none in
          absurd (omega (arith, behind, c.len-k-end.ensures, c.loop-k-test.true))
    ]
