use Rattle.std.proofs.Common.{refl}
use Rattle.std.specs.Int.{int_wrap}
use Rattle.cjc_export.specs.Bytes.Spots.{after, bad_at, types_from, parts_of, desc_of}
use Rattle.cjc_capread.specs.Opcodes.{forms, form}
use Rattle.cjc_export.specs.Supers.{upwards_from}
use Rattle.cjc_card_semantics.specs.Bytecode.Meanings.{meaning}
use Rattle.cjc_card_semantics.specs.Machine.ByToken.{by_token}
use Rattle.cjc_card_semantics.proofs.machine.ends_are_met.Goals as goal

pub returns-clause-no_room_for_exception : goal.returns-clause-no_room_for_exception
unfolding form forms meaning int_wrap by_token after bad_at types_from parts_of desc_of upwards_from
returns-clause-no_room_for_exception c = refl

pub returns-clause-no_room_for_result : goal.returns-clause-no_room_for_result
unfolding form forms meaning int_wrap by_token after bad_at types_from parts_of desc_of upwards_from
returns-clause-no_room_for_result c = refl

pub returns-clause-no_room_for_answer : goal.returns-clause-no_room_for_answer
unfolding form forms meaning int_wrap by_token after bad_at types_from parts_of desc_of upwards_from
returns-clause-no_room_for_answer c = refl

pub returns-clause-cells_by_header : goal.returns-clause-cells_by_header
unfolding form forms meaning int_wrap by_token after bad_at types_from parts_of desc_of upwards_from
returns-clause-cells_by_header c = refl

pub returns-clause-other_kind_abroad : goal.returns-clause-other_kind_abroad
unfolding form forms meaning int_wrap by_token after bad_at types_from parts_of desc_of upwards_from
returns-clause-other_kind_abroad c = refl

pub returns-clause-any_kind_inside : goal.returns-clause-any_kind_inside
unfolding form forms meaning int_wrap by_token after bad_at types_from parts_of desc_of upwards_from
returns-clause-any_kind_inside c = refl

pub returns-clause-nowhere_before_null : goal.returns-clause-nowhere_before_null
unfolding form forms meaning int_wrap by_token after bad_at types_from parts_of desc_of upwards_from
returns-clause-nowhere_before_null c = refl

pub returns-clause-null : goal.returns-clause-null
unfolding form forms meaning int_wrap by_token after bad_at types_from parts_of desc_of upwards_from
returns-clause-null c = refl

pub returns-clause-null_interface : goal.returns-clause-null_interface
unfolding form forms meaning int_wrap by_token after bad_at types_from parts_of desc_of upwards_from
returns-clause-null_interface c = refl

pub returns-clause-unset : goal.returns-clause-unset
unfolding form forms meaning int_wrap by_token after bad_at types_from parts_of desc_of upwards_from
returns-clause-unset c = refl

pub returns-clause-second_token : goal.returns-clause-second_token
unfolding form forms meaning int_wrap by_token after bad_at types_from parts_of desc_of upwards_from
returns-clause-second_token c = refl

pub returns-clause-not_a_word : goal.returns-clause-not_a_word
unfolding form forms meaning int_wrap by_token after bad_at types_from parts_of desc_of upwards_from
returns-clause-not_a_word c = refl

pub returns-clause-arrays : goal.returns-clause-arrays
unfolding form forms meaning int_wrap by_token after bad_at types_from parts_of desc_of upwards_from
returns-clause-arrays c = refl

pub returns-clause-array_thrown : goal.returns-clause-array_thrown
unfolding form forms meaning int_wrap by_token after bad_at types_from parts_of desc_of upwards_from
returns-clause-array_thrown c = refl

pub returns-clause-abstract_call : goal.returns-clause-abstract_call
unfolding form forms meaning int_wrap by_token after bad_at types_from parts_of desc_of upwards_from
returns-clause-abstract_call c = refl

pub returns-clause-abstract_entry : goal.returns-clause-abstract_entry
unfolding form forms meaning int_wrap by_token after bad_at types_from parts_of desc_of upwards_from
returns-clause-abstract_entry c = refl

pub returns-clause-other_flags : goal.returns-clause-other_flags
unfolding form forms meaning int_wrap by_token after bad_at types_from parts_of desc_of upwards_from
returns-clause-other_flags c = refl

pub returns-clause-number_127 : goal.returns-clause-number_127
unfolding form forms meaning int_wrap by_token after bad_at types_from parts_of desc_of upwards_from
returns-clause-number_127 c = refl
