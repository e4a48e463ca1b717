use Rattle.cjc_jvm_step.proofs.step.objects.new_numbers.Goals as goal

pub returns-in-4-clause-row : goal.returns-in-4-clause-row
returns-in-4-clause-row c = rw c.in-4.is c.new_array_of.ensures.row

pub returns-in-8-clause-row : goal.returns-in-8-clause-row
returns-in-8-clause-row c = rw c.in-8.is c.new_array_of-in-8.ensures.row

pub returns-in-9-clause-row : goal.returns-in-9-clause-row
returns-in-9-clause-row c = rw c.in-9.is c.new_array_of-in-9.ensures.row

pub returns-in-10-clause-row : goal.returns-in-10-clause-row
returns-in-10-clause-row c = rw c.in-10.is c.new_array_of-in-10.ensures.row
