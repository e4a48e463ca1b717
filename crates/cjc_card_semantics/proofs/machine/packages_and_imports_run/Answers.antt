use Rattle.std.proofs.Common.{refl}
use Rattle.std.specs.Int.{int_wrap}
use Rattle.cjc_export.specs.Bytes.Spots.{after, bad_at, types_from, parts_of, desc_of}
use Rattle.cjc_capread.specs.Opcodes.{forms, form}
use Rattle.cjc_export.specs.Supers.{upwards_from}
use Rattle.cjc_card_semantics.specs.Bytecode.Meanings.{meaning}
use Rattle.cjc_card_semantics.specs.Machine.ByToken.{by_token}
use Rattle.cjc_card_semantics.proofs.machine.packages_and_imports_run.Goals as goal

pub returns-clause-mapped : goal.returns-clause-mapped
unfolding form forms meaning int_wrap by_token after bad_at types_from parts_of desc_of upwards_from
returns-clause-mapped c = refl

pub returns-clause-across : goal.returns-clause-across
unfolding form forms meaning int_wrap by_token after bad_at types_from parts_of desc_of upwards_from
returns-clause-across c = refl

pub returns-clause-not_overridden : goal.returns-clause-not_overridden
unfolding form forms meaning int_wrap by_token after bad_at types_from parts_of desc_of upwards_from
returns-clause-not_overridden c = refl

pub returns-clause-waits : goal.returns-clause-waits
unfolding form forms meaning int_wrap by_token after bad_at types_from parts_of desc_of upwards_from
returns-clause-waits c = refl

pub returns-clause-answered : goal.returns-clause-answered
unfolding form forms meaning int_wrap by_token after bad_at types_from parts_of desc_of upwards_from
returns-clause-answered c = refl

pub returns-clause-misfit : goal.returns-clause-misfit
unfolding form forms meaning int_wrap by_token after bad_at types_from parts_of desc_of upwards_from
returns-clause-misfit c = refl

pub returns-clause-thrown : goal.returns-clause-thrown
unfolding form forms meaning int_wrap by_token after bad_at types_from parts_of desc_of upwards_from
returns-clause-thrown c = refl
