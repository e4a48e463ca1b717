use Rattle.cjc_jvm_step.proofs.step.stores.kept.Goals as goal

pub returns-in-Ok : goal.returns-in-Ok
returns-in-Ok g c = rw (c.in-Obj.is, c.in-References.is) c.in-Ok.ensures

pub returns-in-Err : goal.returns-in-Err
returns-in-Err g c = rw (c.in-Obj.is, c.in-References.is) c.in-Err.ensures
