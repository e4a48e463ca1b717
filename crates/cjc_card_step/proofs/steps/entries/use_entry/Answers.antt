use Rattle.std.specs.Prelude.{FitsSigned}
use Rattle.std.specs.Int.{w32}
use Rattle.std.proofs.lemmas.Int.{to_z-of_z}
use Rattle.std.proofs.lemmas.Result.{IfOk-weaker}
use Rattle.cjc_card_step.specs.Effects.Deeds.{memory}
use Rattle.cjc_card_step.proofs.steps.entries.use_entry.Goals as goal

pub returns-in-Get-clause-row : goal.returns-in-Get-clause-row
returns-in-Get-clause-row g c =
    let fits : FitsSigned w32 c.args.index = c.ranges.index in
    rw c.in-Get.is (IfOk-weaker c.get_named.result _ _ (λ deed h. h c.args.statics.now)
    (simp to_z-of_z at c.get_named.ensures))

pub returns-in-Put-clause-row : goal.returns-in-Put-clause-row
returns-in-Put-clause-row g c =
    let fits : FitsSigned w32 c.args.index = c.ranges.index in
    rw c.in-Put.is ((simp to_z-of_z at c.put_named.ensures.row) c.args.room c.args.statics.now)

pub returns-in-GetStatic-clause-row : goal.returns-in-GetStatic-clause-row
returns-in-GetStatic-clause-row g c =
    let fits : FitsSigned w32 c.args.index = c.ranges.index in
    rw c.in-GetStatic.is (IfOk-weaker c.get_cell.result _ _ (λ deed h. h c.args.heap.now)
    (simp to_z-of_z at c.get_cell.ensures))

pub returns-in-PutStatic-clause-row : goal.returns-in-PutStatic-clause-row
returns-in-PutStatic-clause-row g c =
    let fits : FitsSigned w32 c.args.index = c.ranges.index in
    rw c.in-PutStatic.is ((simp to_z-of_z at c.put_cell.ensures) c.args.room c.args.heap.now)

pub returns-in-Call-clause-row : goal.returns-in-Call-clause-row
returns-in-Call-clause-row g c =
    let fits : FitsSigned w32 c.args.index = c.ranges.index in
    rw c.in-Call.is ((simp to_z-of_z at c.call_named.ensures) c.args.room (memory c.args.heap.now c.args.statics.now))

pub returns-in-New-clause-row : goal.returns-in-New-clause-row
returns-in-New-clause-row g c =
    let fits : FitsSigned w32 c.args.index = c.ranges.index in
    rw c.in-New.is (IfOk-weaker c.new_named.result _ _ (λ deed h. h c.args.statics.now)
    (simp to_z-of_z at c.new_named.ensures.row))

pub returns-in-NewReferences-clause-row : goal.returns-in-NewReferences-clause-row
returns-in-NewReferences-clause-row g c =
    let fits : FitsSigned w32 c.args.index = c.ranges.index in
    rw c.in-NewReferences.is (IfOk-weaker c.new_array_named.result _ _ (λ deed h. h c.args.statics.now)
    (simp to_z-of_z at c.new_array_named.ensures.row))
