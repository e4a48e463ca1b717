use Rattle.std.proofs.Common.{refl}
use Rattle.std.specs.Int.{int_wrap}
use Rattle.cjc_export.specs.Bytes.Spots.{after, bad_at, types_from, parts_of, desc_of}
use Rattle.cjc_capread.specs.Opcodes.{forms, form}
use Rattle.cjc_export.specs.Supers.{upwards_from}
use Rattle.cjc_card_semantics.specs.Bytecode.Meanings.{meaning}
use Rattle.cjc_card_semantics.specs.Machine.ByToken.{by_token}
use Rattle.cjc_card_semantics.proofs.machine.ints_run.Goals as goal

pub returns-clause-in_statics : goal.returns-clause-in_statics
unfolding form forms meaning int_wrap by_token after bad_at types_from parts_of desc_of upwards_from
returns-clause-in_statics c = refl

pub returns-clause-in_array : goal.returns-clause-in_array
unfolding form forms meaning int_wrap by_token after bad_at types_from parts_of desc_of upwards_from
returns-clause-in_array c = refl

pub returns-clause-in_field : goal.returns-clause-in_field
unfolding form forms meaning int_wrap by_token after bad_at types_from parts_of desc_of upwards_from
returns-clause-in_field c = refl

pub returns-clause-by_wide_forms : goal.returns-clause-by_wide_forms
unfolding form forms meaning int_wrap by_token after bad_at types_from parts_of desc_of upwards_from
returns-clause-by_wide_forms c = refl

pub returns-clause-as_argument : goal.returns-clause-as_argument
unfolding form forms meaning int_wrap by_token after bad_at types_from parts_of desc_of upwards_from
returns-clause-as_argument c = refl

pub returns-clause-in_table : goal.returns-clause-in_table
unfolding form forms meaning int_wrap by_token after bad_at types_from parts_of desc_of upwards_from
returns-clause-in_table c = refl

pub returns-clause-in_pairs : goal.returns-clause-in_pairs
unfolding form forms meaning int_wrap by_token after bad_at types_from parts_of desc_of upwards_from
returns-clause-in_pairs c = refl
