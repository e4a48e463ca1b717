use Rattle.cjc_jvm_step.proofs.step.arrays.array_load.Goals as goal

pub returns-in-46 : goal.returns-in-46
returns-in-46 c = rw c.in-46.is c.load_element.ensures

pub returns-in-50 : goal.returns-in-50
returns-in-50 c = rw c.in-50.is c.load_element-in-50.ensures

pub returns-in-51 : goal.returns-in-51
returns-in-51 c = rw c.in-51.is c.load_element-in-51.ensures

pub returns-in-53 : goal.returns-in-53
returns-in-53 c = rw c.in-53.is c.load_element-in-53.ensures
