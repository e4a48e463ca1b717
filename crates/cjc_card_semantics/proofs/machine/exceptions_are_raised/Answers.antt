use Rattle.std.proofs.Common.{refl}
use Rattle.std.specs.Int.{int_wrap}
use Rattle.cjc_export.specs.Bytes.Spots.{after, bad_at, types_from, parts_of, desc_of}
use Rattle.cjc_capread.specs.Opcodes.{forms, form}
use Rattle.cjc_export.specs.Supers.{upwards_from}
use Rattle.cjc_card_semantics.specs.Bytecode.Meanings.{meaning}
use Rattle.cjc_card_semantics.specs.Machine.ByToken.{by_token}
use Rattle.cjc_card_semantics.proofs.machine.exceptions_are_raised.Goals as goal

pub returns-clause-index : goal.returns-clause-index
unfolding form forms meaning int_wrap by_token after bad_at types_from parts_of desc_of upwards_from
returns-clause-index c = refl

pub returns-clause-negative_size : goal.returns-clause-negative_size
unfolding form forms meaning int_wrap by_token after bad_at types_from parts_of desc_of upwards_from
returns-clause-negative_size c = refl

pub returns-clause-other_class : goal.returns-clause-other_class
unfolding form forms meaning int_wrap by_token after bad_at types_from parts_of desc_of upwards_from
returns-clause-other_class c = refl

pub returns-clause-other_element : goal.returns-clause-other_element
unfolding form forms meaning int_wrap by_token after bad_at types_from parts_of desc_of upwards_from
returns-clause-other_element c = refl

pub returns-clause-null_field : goal.returns-clause-null_field
unfolding form forms meaning int_wrap by_token after bad_at types_from parts_of desc_of upwards_from
returns-clause-null_field c = λ l letter f room next locals m rest. refl

pub returns-clause-null_thrown : goal.returns-clause-null_thrown
unfolding form forms meaning int_wrap by_token after bad_at types_from parts_of desc_of upwards_from
returns-clause-null_thrown c = λ l room next locals m rest. refl

pub returns-clause-null_length : goal.returns-clause-null_length
unfolding form forms meaning int_wrap by_token after bad_at types_from parts_of desc_of upwards_from
returns-clause-null_length c = λ l room next locals m rest. refl

pub returns-clause-negative_count : goal.returns-clause-negative_count
unfolding form forms meaning int_wrap by_token after bad_at types_from parts_of desc_of upwards_from
returns-clause-negative_count c = λ l element n room next locals m rest. refl

pub returns-clause-null_is_of_any_class : goal.returns-clause-null_is_of_any_class
unfolding form forms meaning int_wrap by_token after bad_at types_from parts_of desc_of upwards_from
returns-clause-null_is_of_any_class c = λ l kind room next locals m rest. refl
