use Rattle.std.proofs.Common.{refl}
use Rattle.std.specs.Int.{int_wrap}
use Rattle.cjc_export.specs.Bytes.Spots.{after, bad_at, types_from, parts_of, desc_of}
use Rattle.cjc_capread.specs.Opcodes.{forms, form}
use Rattle.cjc_export.specs.Supers.{upwards_from}
use Rattle.cjc_card_semantics.specs.Bytecode.Meanings.{meaning}
use Rattle.cjc_card_semantics.specs.Machine.ByToken.{by_token}
use Rattle.cjc_card_semantics.proofs.machine.calls_and_handlers_run.Goals as goal

pub returns-clause-static_call : goal.returns-clause-static_call
unfolding form forms meaning int_wrap by_token after bad_at types_from parts_of desc_of upwards_from
returns-clause-static_call c = refl

pub returns-clause-virtual_call : goal.returns-clause-virtual_call
unfolding form forms meaning int_wrap by_token after bad_at types_from parts_of desc_of upwards_from
returns-clause-virtual_call c = refl

pub returns-clause-above : goal.returns-clause-above
unfolding form forms meaning int_wrap by_token after bad_at types_from parts_of desc_of upwards_from
returns-clause-above c = refl

pub returns-clause-caught : goal.returns-clause-caught
unfolding form forms meaning int_wrap by_token after bad_at types_from parts_of desc_of upwards_from
returns-clause-caught c = refl

pub returns-clause-whole : goal.returns-clause-whole
unfolding form forms meaning int_wrap by_token after bad_at types_from parts_of desc_of upwards_from
returns-clause-whole c = refl

pub returns-clause-cut_off : goal.returns-clause-cut_off
unfolding form forms meaning int_wrap by_token after bad_at types_from parts_of desc_of upwards_from
returns-clause-cut_off c = refl

pub returns-clause-unfit : goal.returns-clause-unfit
unfolding form forms meaning int_wrap by_token after bad_at types_from parts_of desc_of upwards_from
returns-clause-unfit c = refl
