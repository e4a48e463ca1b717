use Rattle.std.proofs.Common.{refl}
use Rattle.cjc_card_semantics.specs.Bytecode.Meanings.{meaning}
use Rattle.cjc_card_semantics.specs.CapRead.Opcodes.{form, forms}
use Rattle.cjc_ncode.specs.Lowering.Naming.{calls_virtual, calls_static, makes}
use Rattle.cjc_ncode.specs.Lowering.Laid.{named}
use Rattle.cjc_ncode.specs.Lowering.Package.{none, next}
use Rattle.cjc_ncode.proofs.lowering.worked_package_is_laid_out.Goals as goal

pub returns-clause-bytes : goal.returns-clause-bytes
unfolding form forms
returns-clause-bytes c = refl

pub returns-clause-handlers : goal.returns-clause-handlers
unfolding form forms
returns-clause-handlers c = refl

pub returns-clause-consecutive : goal.returns-clause-consecutive
unfolding form forms
returns-clause-consecutive c =
    next refl (next refl (next refl (next refl (next refl (next refl (next refl (next refl none)))))))

pub returns-clause-static_call : goal.returns-clause-static_call
unfolding meaning
returns-clause-static_call c = named refl (record { there = refl }) (calls_static refl)

pub returns-clause-virtual_call : goal.returns-clause-virtual_call
unfolding meaning
returns-clause-virtual_call c = named refl (record { there = refl }) (calls_virtual refl refl)

pub returns-clause-made : goal.returns-clause-made
unfolding meaning
returns-clause-made c = named refl (record { there = refl }) (makes refl)
