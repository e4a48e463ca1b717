use Rattle.cjc_jvm_step.proofs.step.objects.new_object.Goals as goal

pub returns-clause-row : goal.returns-clause-row
returns-clause-row c = rw c.in_ok-object.ensures at c.put_new.ensures.row
