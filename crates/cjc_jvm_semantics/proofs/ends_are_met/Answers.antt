use Rattle.std.proofs.Common.{refl}
use Rattle.std.specs.Int.{int_wrap}
use Rattle.cjc_code.specs.Bytes.Format.{repeated, raw}
use Rattle.cjc_code.specs.Bytes.Reading.{front, digits}
use Rattle.cjc_code.specs.Bytes.Found.{each}
use Rattle.cjc_code.specs.Bytes.Spots.{desc_of, parts_of, bad_at, after, types_from}
use Rattle.cjc_code.specs.Table.{row}
use Rattle.cjc_code.specs.Instruction.{operand, operands, opcode_at, wide_opcode_at, behind_opcode, behind_first}
use Rattle.cjc_code.specs.Instruction.{instruction}
use Rattle.cjc_code.specs.Cut.{cut_rest, cut}
use Rattle.cjc_code.specs.Unfit.{marks, starts, unfit_code}
use Rattle.cjc_code.specs.Named.{named, all_named}
use Rattle.cjc_code.specs.Decoded.{least, decoding, decoded}
use Rattle.cjc_world.specs.Classes.{classes_from, all_classes, class_named, class_at}
use Rattle.cjc_world.specs.Supertypes.{supertypes_within, supertypes, line}
use Rattle.cjc_world.specs.Interfaces.{gathered, known}
use Rattle.cjc_world.specs.Lookup.{first, own_field, find_field, own_method, find_method, selected}
use Rattle.cjc_world.specs.Subtype.{is_subclass, is_element, is_subtype}
use Rattle.cjc_jvm_semantics.specs.Effects.{effect}
use Rattle.cjc_jvm_semantics.specs.ByName.{linked}
use Rattle.cjc_jvm_semantics.specs.Group.{group_linked}
use Rattle.cjc_jvm_semantics.proofs.ends_are_met.Goals as goal

pub returns-clause-no_room_for_exception : goal.returns-clause-no_room_for_exception
unfolding int_wrap repeated raw front digits each desc_of parts_of bad_at after types_from row operand operands
    opcode_at wide_opcode_at behind_opcode behind_first instruction cut_rest cut marks starts unfit_code named all_named
    least decoding decoded classes_from all_classes class_named class_at supertypes_within supertypes line gathered
    known first own_field find_field own_method find_method selected is_subclass is_element is_subtype effect linked
    group_linked
returns-clause-no_room_for_exception c = refl

pub returns-clause-no_room_for_result : goal.returns-clause-no_room_for_result
unfolding int_wrap repeated raw front digits each desc_of parts_of bad_at after types_from row operand operands
    opcode_at wide_opcode_at behind_opcode behind_first instruction cut_rest cut marks starts unfit_code named all_named
    least decoding decoded classes_from all_classes class_named class_at supertypes_within supertypes line gathered
    known first own_field find_field own_method find_method selected is_subclass is_element is_subtype effect linked
    group_linked
returns-clause-no_room_for_result c = refl

pub returns-clause-no_room_for_answer : goal.returns-clause-no_room_for_answer
unfolding int_wrap repeated raw front digits each desc_of parts_of bad_at after types_from row operand operands
    opcode_at wide_opcode_at behind_opcode behind_first instruction cut_rest cut marks starts unfit_code named all_named
    least decoding decoded classes_from all_classes class_named class_at supertypes_within supertypes line gathered
    known first own_field find_field own_method find_method selected is_subclass is_element is_subtype effect linked
    group_linked
returns-clause-no_room_for_answer c = refl

pub returns-clause-other_sort : goal.returns-clause-other_sort
unfolding int_wrap repeated raw front digits each desc_of parts_of bad_at after types_from row operand operands
    opcode_at wide_opcode_at behind_opcode behind_first instruction cut_rest cut marks starts unfit_code named all_named
    least decoding decoded classes_from all_classes class_named class_at supertypes_within supertypes line gathered
    known first own_field find_field own_method find_method selected is_subclass is_element is_subtype effect linked
    group_linked
returns-clause-other_sort c = refl

pub returns-clause-nowhere_before_null : goal.returns-clause-nowhere_before_null
unfolding int_wrap repeated raw front digits each desc_of parts_of bad_at after types_from row operand operands
    opcode_at wide_opcode_at behind_opcode behind_first instruction cut_rest cut marks starts unfit_code named all_named
    least decoding decoded classes_from all_classes class_named class_at supertypes_within supertypes line gathered
    known first own_field find_field own_method find_method selected is_subclass is_element is_subtype effect linked
    group_linked
returns-clause-nowhere_before_null c = refl

pub returns-clause-null : goal.returns-clause-null
unfolding int_wrap repeated raw front digits each desc_of parts_of bad_at after types_from row operand operands
    opcode_at wide_opcode_at behind_opcode behind_first instruction cut_rest cut marks starts unfit_code named all_named
    least decoding decoded classes_from all_classes class_named class_at supertypes_within supertypes line gathered
    known first own_field find_field own_method find_method selected is_subclass is_element is_subtype effect linked
    group_linked
returns-clause-null c = refl

pub returns-clause-other_receiver : goal.returns-clause-other_receiver
unfolding int_wrap repeated raw front digits each desc_of parts_of bad_at after types_from row operand operands
    opcode_at wide_opcode_at behind_opcode behind_first instruction cut_rest cut marks starts unfit_code named all_named
    least decoding decoded classes_from all_classes class_named class_at supertypes_within supertypes line gathered
    known first own_field find_field own_method find_method selected is_subclass is_element is_subtype effect linked
    group_linked
returns-clause-other_receiver c = refl

pub returns-clause-arrays : goal.returns-clause-arrays
unfolding int_wrap repeated raw front digits each desc_of parts_of bad_at after types_from row operand operands
    opcode_at wide_opcode_at behind_opcode behind_first instruction cut_rest cut marks starts unfit_code named all_named
    least decoding decoded classes_from all_classes class_named class_at supertypes_within supertypes line gathered
    known first own_field find_field own_method find_method selected is_subclass is_element is_subtype effect linked
    group_linked
returns-clause-arrays c = refl

pub returns-clause-array_thrown : goal.returns-clause-array_thrown
unfolding int_wrap repeated raw front digits each desc_of parts_of bad_at after types_from row operand operands
    opcode_at wide_opcode_at behind_opcode behind_first instruction cut_rest cut marks starts unfit_code named all_named
    least decoding decoded classes_from all_classes class_named class_at supertypes_within supertypes line gathered
    known first own_field find_field own_method find_method selected is_subclass is_element is_subtype effect linked
    group_linked
returns-clause-array_thrown c = refl

pub returns-clause-abstract_call : goal.returns-clause-abstract_call
unfolding int_wrap repeated raw front digits each desc_of parts_of bad_at after types_from row operand operands
    opcode_at wide_opcode_at behind_opcode behind_first instruction cut_rest cut marks starts unfit_code named all_named
    least decoding decoded classes_from all_classes class_named class_at supertypes_within supertypes line gathered
    known first own_field find_field own_method find_method selected is_subclass is_element is_subtype effect linked
    group_linked
returns-clause-abstract_call c = refl

pub returns-clause-abstract_entry : goal.returns-clause-abstract_entry
unfolding int_wrap repeated raw front digits each desc_of parts_of bad_at after types_from row operand operands
    opcode_at wide_opcode_at behind_opcode behind_first instruction cut_rest cut marks starts unfit_code named all_named
    least decoding decoded classes_from all_classes class_named class_at supertypes_within supertypes line gathered
    known first own_field find_field own_method find_method selected is_subclass is_element is_subtype effect linked
    group_linked
returns-clause-abstract_entry c = refl

pub returns-clause-abstract_class : goal.returns-clause-abstract_class
unfolding int_wrap repeated raw front digits each desc_of parts_of bad_at after types_from row operand operands
    opcode_at wide_opcode_at behind_opcode behind_first instruction cut_rest cut marks starts unfit_code named all_named
    least decoding decoded classes_from all_classes class_named class_at supertypes_within supertypes line gathered
    known first own_field find_field own_method find_method selected is_subclass is_element is_subtype effect linked
    group_linked
returns-clause-abstract_class c = refl

pub returns-clause-other_sort_abroad : goal.returns-clause-other_sort_abroad
unfolding int_wrap repeated raw front digits each desc_of parts_of bad_at after types_from row operand operands
    opcode_at wide_opcode_at behind_opcode behind_first instruction cut_rest cut marks starts unfit_code named all_named
    least decoding decoded classes_from all_classes class_named class_at supertypes_within supertypes line gathered
    known first own_field find_field own_method find_method selected is_subclass is_element is_subtype effect linked
    group_linked
returns-clause-other_sort_abroad c = refl

pub returns-clause-act_unfit : goal.returns-clause-act_unfit
unfolding int_wrap repeated raw front digits each desc_of parts_of bad_at after types_from row operand operands
    opcode_at wide_opcode_at behind_opcode behind_first instruction cut_rest cut marks starts unfit_code named all_named
    least decoding decoded classes_from all_classes class_named class_at supertypes_within supertypes line gathered
    known first own_field find_field own_method find_method selected is_subclass is_element is_subtype effect linked
    group_linked
returns-clause-act_unfit c = refl

pub returns-clause-long_array : goal.returns-clause-long_array
unfolding int_wrap repeated raw front digits each desc_of parts_of bad_at after types_from row operand operands
    opcode_at wide_opcode_at behind_opcode behind_first instruction cut_rest cut marks starts unfit_code named all_named
    least decoding decoded classes_from all_classes class_named class_at supertypes_within supertypes line gathered
    known first own_field find_field own_method find_method selected is_subclass is_element is_subtype effect linked
    group_linked
returns-clause-long_array c = refl

pub returns-clause-other_object : goal.returns-clause-other_object
unfolding int_wrap repeated raw front digits each desc_of parts_of bad_at after types_from row operand operands
    opcode_at wide_opcode_at behind_opcode behind_first instruction cut_rest cut marks starts unfit_code named all_named
    least decoding decoded classes_from all_classes class_named class_at supertypes_within supertypes line gathered
    known first own_field find_field own_method find_method selected is_subclass is_element is_subtype effect linked
    group_linked
returns-clause-other_object c = refl

pub returns-clause-sent_to_other : goal.returns-clause-sent_to_other
unfolding int_wrap repeated raw front digits each desc_of parts_of bad_at after types_from row operand operands
    opcode_at wide_opcode_at behind_opcode behind_first instruction cut_rest cut marks starts unfit_code named all_named
    least decoding decoded classes_from all_classes class_named class_at supertypes_within supertypes line gathered
    known first own_field find_field own_method find_method selected is_subclass is_element is_subtype effect linked
    group_linked
returns-clause-sent_to_other c = refl

pub returns-clause-not_static : goal.returns-clause-not_static
unfolding int_wrap repeated raw front digits each desc_of parts_of bad_at after types_from row operand operands
    opcode_at wide_opcode_at behind_opcode behind_first instruction cut_rest cut marks starts unfit_code named all_named
    least decoding decoded classes_from all_classes class_named class_at supertypes_within supertypes line gathered
    known first own_field find_field own_method find_method selected is_subclass is_element is_subtype effect linked
    group_linked
returns-clause-not_static c = refl

pub returns-clause-throws_own : goal.returns-clause-throws_own
unfolding int_wrap repeated raw front digits each desc_of parts_of bad_at after types_from row operand operands
    opcode_at wide_opcode_at behind_opcode behind_first instruction cut_rest cut marks starts unfit_code named all_named
    least decoding decoded classes_from all_classes class_named class_at supertypes_within supertypes line gathered
    known first own_field find_field own_method find_method selected is_subclass is_element is_subtype effect linked
    group_linked
returns-clause-throws_own c = refl

pub returns-clause-unset : goal.returns-clause-unset
unfolding int_wrap repeated raw front digits each desc_of parts_of bad_at after types_from row operand operands
    opcode_at wide_opcode_at behind_opcode behind_first instruction cut_rest cut marks starts unfit_code named all_named
    least decoding decoded classes_from all_classes class_named class_at supertypes_within supertypes line gathered
    known first own_field find_field own_method find_method selected is_subclass is_element is_subtype effect linked
    group_linked
returns-clause-unset c = refl

pub returns-clause-negative_count : goal.returns-clause-negative_count
unfolding int_wrap repeated raw front digits each desc_of parts_of bad_at after types_from row operand operands
    opcode_at wide_opcode_at behind_opcode behind_first instruction cut_rest cut marks starts unfit_code named all_named
    least decoding decoded classes_from all_classes class_named class_at supertypes_within supertypes line gathered
    known first own_field find_field own_method find_method selected is_subclass is_element is_subtype effect linked
    group_linked
returns-clause-negative_count c = refl

pub returns-clause-other_class : goal.returns-clause-other_class
unfolding int_wrap repeated raw front digits each desc_of parts_of bad_at after types_from row operand operands
    opcode_at wide_opcode_at behind_opcode behind_first instruction cut_rest cut marks starts unfit_code named all_named
    least decoding decoded classes_from all_classes class_named class_at supertypes_within supertypes line gathered
    known first own_field find_field own_method find_method selected is_subclass is_element is_subtype effect linked
    group_linked
returns-clause-other_class c = refl

pub returns-clause-other_element : goal.returns-clause-other_element
unfolding int_wrap repeated raw front digits each desc_of parts_of bad_at after types_from row operand operands
    opcode_at wide_opcode_at behind_opcode behind_first instruction cut_rest cut marks starts unfit_code named all_named
    least decoding decoded classes_from all_classes class_named class_at supertypes_within supertypes line gathered
    known first own_field find_field own_method find_method selected is_subclass is_element is_subtype effect linked
    group_linked
returns-clause-other_element c = refl
