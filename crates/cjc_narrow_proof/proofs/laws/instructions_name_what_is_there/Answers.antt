use Rattle.cjc_code.specs.declared.insn.JOp.TheVariants as jop
use Rattle.cjc_narrow_proof.proofs.LawsLaws.Instructions.{array_of_class, field_there, method_there, new_fields, op_fit}
use Rattle.cjc_narrow_proof.proofs.LawsLaws.Instructions.{op_there, static_there}
use Rattle.cjc_narrow_proof.proofs.laws.instructions_name_what_is_there.Goals as goal
use Rattle.cjc_world.specs.Classes.{all_classes}

pub returns-clause-arrays : goal.returns-clause-arrays
returns-clause-arrays c = λ list files codes settings is class name at.
    (let there = op_there list files codes settings is class (jop.ANewArray name) at
    in let fit = op_fit list files codes settings is class (jop.ANewArray name) at
    in array_of_class (all_classes files) name there.0 fit.0)

pub returns-clause-objects : goal.returns-clause-objects
returns-clause-objects c = λ list files codes settings is class name at. (let there = op_there list files codes settings
    is class (jop.New name) at in new_fields files class name there.0 there.2)

pub returns-clause-fields : goal.returns-clause-fields
returns-clause-fields c = λ list files codes settings is class put id at. (let there = op_there list files codes
    settings is class (jop.Field put id) at in field_there files class put id there.0 there.1)

pub returns-clause-statics : goal.returns-clause-statics
returns-clause-statics c = λ list files codes settings is class put id at. (let there = op_there list files codes
    settings is class (jop.Static put id) at in static_there files class put id there.0 there.1)

pub returns-clause-methods : goal.returns-clause-methods
returns-clause-methods c = λ list files codes settings is class op id at. (let there = op_there list files codes
    settings is class (jop.Call op id) at in method_there files class op id there.0 there.1)
