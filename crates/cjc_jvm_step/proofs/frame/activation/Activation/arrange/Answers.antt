use Rattle.cjc_jvm_step.proofs.frame.activation.Activation.arrange.Goals as goal

pub returns-in-87 : goal.returns-in-87
returns-in-87 c = rw c.in-87.is c.pop.ensures

pub returns-in-88 : goal.returns-in-88
returns-in-88 c = rw c.in-88.is c.pop-in-88.ensures

pub returns-in-89 : goal.returns-in-89
returns-in-89 c = rw c.in-89.is c.copy_one.ensures

pub returns-in-90 : goal.returns-in-90
returns-in-90 c = rw c.in-90.is c.copy_one-in-90.ensures

pub returns-in-91 : goal.returns-in-91
returns-in-91 c = rw c.in-91.is c.copy_one-in-91.ensures

pub returns-in-92 : goal.returns-in-92
returns-in-92 c = rw c.in-92.is c.copy_two.ensures

pub returns-in-93 : goal.returns-in-93
returns-in-93 c = rw c.in-93.is c.copy_two-in-93.ensures

pub returns-in-94 : goal.returns-in-94
returns-in-94 c = rw c.in-94.is c.copy_two-in-94.ensures

pub returns-in-95 : goal.returns-in-95
returns-in-95 c = rw c.in-95.is c.swap.ensures
