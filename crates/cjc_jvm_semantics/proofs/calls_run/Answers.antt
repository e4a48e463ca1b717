use Rattle.std.proofs.Common.{refl}
use Rattle.std.specs.Int.{int_wrap}
use Rattle.cjc_code.specs.Bytes.Format.{repeated, raw}
use Rattle.cjc_code.specs.Bytes.Reading.{front, digits}
use Rattle.cjc_code.specs.Bytes.Found.{each}
use Rattle.cjc_code.specs.Bytes.Spots.{desc_of, parts_of, bad_at, after, types_from}
use Rattle.cjc_code.specs.Table.{row}
use Rattle.cjc_code.specs.Instruction.{operand, operands, opcode_at, wide_opcode_at, behind_opcode, behind_first}
use Rattle.cjc_code.specs.Instruction.{instruction}
use Rattle.cjc_code.specs.Cut.{cut_rest, cut}
use Rattle.cjc_code.specs.Unfit.{marks, starts, unfit_code}
use Rattle.cjc_code.specs.Named.{named, all_named}
use Rattle.cjc_code.specs.Decoded.{least, decoding, decoded}
use Rattle.cjc_world.specs.Classes.{classes_from, all_classes, class_named, class_at}
use Rattle.cjc_world.specs.Supertypes.{supertypes_within, supertypes, line}
use Rattle.cjc_world.specs.Interfaces.{gathered, known}
use Rattle.cjc_world.specs.Lookup.{first, own_field, find_field, own_method, find_method, selected}
use Rattle.cjc_world.specs.Subtype.{is_subclass, is_element, is_subtype}
use Rattle.cjc_jvm_semantics.specs.Effects.{effect}
use Rattle.cjc_jvm_semantics.specs.ByName.{linked}
use Rattle.cjc_jvm_semantics.specs.Group.{group_linked}
use Rattle.cjc_jvm_semantics.proofs.calls_run.Goals as goal

pub returns-clause-waits : goal.returns-clause-waits
unfolding int_wrap repeated raw front digits each desc_of parts_of bad_at after types_from row operand operands
    opcode_at wide_opcode_at behind_opcode behind_first instruction cut_rest cut marks starts unfit_code named all_named
    least decoding decoded classes_from all_classes class_named class_at supertypes_within supertypes line gathered
    known first own_field find_field own_method find_method selected is_subclass is_element is_subtype effect linked
    group_linked
returns-clause-waits c = refl

pub returns-clause-answered : goal.returns-clause-answered
unfolding int_wrap repeated raw front digits each desc_of parts_of bad_at after types_from row operand operands
    opcode_at wide_opcode_at behind_opcode behind_first instruction cut_rest cut marks starts unfit_code named all_named
    least decoding decoded classes_from all_classes class_named class_at supertypes_within supertypes line gathered
    known first own_field find_field own_method find_method selected is_subclass is_element is_subtype effect linked
    group_linked
returns-clause-answered c = refl

pub returns-clause-unfit : goal.returns-clause-unfit
unfolding int_wrap repeated raw front digits each desc_of parts_of bad_at after types_from row operand operands
    opcode_at wide_opcode_at behind_opcode behind_first instruction cut_rest cut marks starts unfit_code named all_named
    least decoding decoded classes_from all_classes class_named class_at supertypes_within supertypes line gathered
    known first own_field find_field own_method find_method selected is_subclass is_element is_subtype effect linked
    group_linked
returns-clause-unfit c = refl

pub returns-clause-out_of_range : goal.returns-clause-out_of_range
unfolding int_wrap repeated raw front digits each desc_of parts_of bad_at after types_from row operand operands
    opcode_at wide_opcode_at behind_opcode behind_first instruction cut_rest cut marks starts unfit_code named all_named
    least decoding decoded classes_from all_classes class_named class_at supertypes_within supertypes line gathered
    known first own_field find_field own_method find_method selected is_subclass is_element is_subtype effect linked
    group_linked
returns-clause-out_of_range c = refl

pub returns-clause-throws : goal.returns-clause-throws
unfolding int_wrap repeated raw front digits each desc_of parts_of bad_at after types_from row operand operands
    opcode_at wide_opcode_at behind_opcode behind_first instruction cut_rest cut marks starts unfit_code named all_named
    least decoding decoded classes_from all_classes class_named class_at supertypes_within supertypes line gathered
    known first own_field find_field own_method find_method selected is_subclass is_element is_subtype effect linked
    group_linked
returns-clause-throws c = refl

pub returns-clause-unfit_entry : goal.returns-clause-unfit_entry
unfolding int_wrap repeated raw front digits each desc_of parts_of bad_at after types_from row operand operands
    opcode_at wide_opcode_at behind_opcode behind_first instruction cut_rest cut marks starts unfit_code named all_named
    least decoding decoded classes_from all_classes class_named class_at supertypes_within supertypes line gathered
    known first own_field find_field own_method find_method selected is_subclass is_element is_subtype effect linked
    group_linked
returns-clause-unfit_entry c = refl

pub returns-clause-subclass : goal.returns-clause-subclass
unfolding int_wrap repeated raw front digits each desc_of parts_of bad_at after types_from row operand operands
    opcode_at wide_opcode_at behind_opcode behind_first instruction cut_rest cut marks starts unfit_code named all_named
    least decoding decoded classes_from all_classes class_named class_at supertypes_within supertypes line gathered
    known first own_field find_field own_method find_method selected is_subclass is_element is_subtype effect linked
    group_linked
returns-clause-subclass c = refl

pub returns-clause-superclass : goal.returns-clause-superclass
unfolding int_wrap repeated raw front digits each desc_of parts_of bad_at after types_from row operand operands
    opcode_at wide_opcode_at behind_opcode behind_first instruction cut_rest cut marks starts unfit_code named all_named
    least decoding decoded classes_from all_classes class_named class_at supertypes_within supertypes line gathered
    known first own_field find_field own_method find_method selected is_subclass is_element is_subtype effect linked
    group_linked
returns-clause-superclass c = refl

pub returns-clause-interface : goal.returns-clause-interface
unfolding int_wrap repeated raw front digits each desc_of parts_of bad_at after types_from row operand operands
    opcode_at wide_opcode_at behind_opcode behind_first instruction cut_rest cut marks starts unfit_code named all_named
    least decoding decoded classes_from all_classes class_named class_at supertypes_within supertypes line gathered
    known first own_field find_field own_method find_method selected is_subclass is_element is_subtype effect linked
    group_linked
returns-clause-interface c = refl

pub returns-clause-reaches_imported : goal.returns-clause-reaches_imported
unfolding int_wrap repeated raw front digits each desc_of parts_of bad_at after types_from row operand operands
    opcode_at wide_opcode_at behind_opcode behind_first instruction cut_rest cut marks starts unfit_code named all_named
    least decoding decoded classes_from all_classes class_named class_at supertypes_within supertypes line gathered
    known first own_field find_field own_method find_method selected is_subclass is_element is_subtype effect linked
    group_linked
returns-clause-reaches_imported c = refl

pub returns-clause-constructor : goal.returns-clause-constructor
unfolding int_wrap repeated raw front digits each desc_of parts_of bad_at after types_from row operand operands
    opcode_at wide_opcode_at behind_opcode behind_first instruction cut_rest cut marks starts unfit_code named all_named
    least decoding decoded classes_from all_classes class_named class_at supertypes_within supertypes line gathered
    known first own_field find_field own_method find_method selected is_subclass is_element is_subtype effect linked
    group_linked
returns-clause-constructor c = refl

pub returns-clause-kept : goal.returns-clause-kept
unfolding int_wrap repeated raw front digits each desc_of parts_of bad_at after types_from row operand operands
    opcode_at wide_opcode_at behind_opcode behind_first instruction cut_rest cut marks starts unfit_code named all_named
    least decoding decoded classes_from all_classes class_named class_at supertypes_within supertypes line gathered
    known first own_field find_field own_method find_method selected is_subclass is_element is_subtype effect linked
    group_linked
returns-clause-kept c = refl

pub returns-clause-passed : goal.returns-clause-passed
unfolding int_wrap repeated raw front digits each desc_of parts_of bad_at after types_from row operand operands
    opcode_at wide_opcode_at behind_opcode behind_first instruction cut_rest cut marks starts unfit_code named all_named
    least decoding decoded classes_from all_classes class_named class_at supertypes_within supertypes line gathered
    known first own_field find_field own_method find_method selected is_subclass is_element is_subtype effect linked
    group_linked
returns-clause-passed c = refl

pub returns-clause-sent_by_imported : goal.returns-clause-sent_by_imported
unfolding int_wrap repeated raw front digits each desc_of parts_of bad_at after types_from row operand operands
    opcode_at wide_opcode_at behind_opcode behind_first instruction cut_rest cut marks starts unfit_code named all_named
    least decoding decoded classes_from all_classes class_named class_at supertypes_within supertypes line gathered
    known first own_field find_field own_method find_method selected is_subclass is_element is_subtype effect linked
    group_linked
returns-clause-sent_by_imported c = refl

pub returns-clause-private_method : goal.returns-clause-private_method
unfolding int_wrap repeated raw front digits each desc_of parts_of bad_at after types_from row operand operands
    opcode_at wide_opcode_at behind_opcode behind_first instruction cut_rest cut marks starts unfit_code named all_named
    least decoding decoded classes_from all_classes class_named class_at supertypes_within supertypes line gathered
    known first own_field find_field own_method find_method selected is_subclass is_element is_subtype effect linked
    group_linked
returns-clause-private_method c = refl

pub returns-clause-only_in_interface : goal.returns-clause-only_in_interface
unfolding int_wrap repeated raw front digits each desc_of parts_of bad_at after types_from row operand operands
    opcode_at wide_opcode_at behind_opcode behind_first instruction cut_rest cut marks starts unfit_code named all_named
    least decoding decoded classes_from all_classes class_named class_at supertypes_within supertypes line gathered
    known first own_field find_field own_method find_method selected is_subclass is_element is_subtype effect linked
    group_linked
returns-clause-only_in_interface c = refl

pub returns-clause-interface_abroad : goal.returns-clause-interface_abroad
unfolding int_wrap repeated raw front digits each desc_of parts_of bad_at after types_from row operand operands
    opcode_at wide_opcode_at behind_opcode behind_first instruction cut_rest cut marks starts unfit_code named all_named
    least decoding decoded classes_from all_classes class_named class_at supertypes_within supertypes line gathered
    known first own_field find_field own_method find_method selected is_subclass is_element is_subtype effect linked
    group_linked
returns-clause-interface_abroad c = refl

pub returns-clause-first_imported : goal.returns-clause-first_imported
unfolding int_wrap repeated raw front digits each desc_of parts_of bad_at after types_from row operand operands
    opcode_at wide_opcode_at behind_opcode behind_first instruction cut_rest cut marks starts unfit_code named all_named
    least decoding decoded classes_from all_classes class_named class_at supertypes_within supertypes line gathered
    known first own_field find_field own_method find_method selected is_subclass is_element is_subtype effect linked
    group_linked
returns-clause-first_imported c = refl

pub returns-clause-super_abroad : goal.returns-clause-super_abroad
unfolding int_wrap repeated raw front digits each desc_of parts_of bad_at after types_from row operand operands
    opcode_at wide_opcode_at behind_opcode behind_first instruction cut_rest cut marks starts unfit_code named all_named
    least decoding decoded classes_from all_classes class_named class_at supertypes_within supertypes line gathered
    known first own_field find_field own_method find_method selected is_subclass is_element is_subtype effect linked
    group_linked
returns-clause-super_abroad c = refl

pub returns-clause-cut_off : goal.returns-clause-cut_off
unfolding int_wrap repeated raw front digits each desc_of parts_of bad_at after types_from row operand operands
    opcode_at wide_opcode_at behind_opcode behind_first instruction cut_rest cut marks starts unfit_code named all_named
    least decoding decoded classes_from all_classes class_named class_at supertypes_within supertypes line gathered
    known first own_field find_field own_method find_method selected is_subclass is_element is_subtype effect linked
    group_linked
returns-clause-cut_off c = refl

pub returns-clause-sent : goal.returns-clause-sent
unfolding int_wrap repeated raw front digits each desc_of parts_of bad_at after types_from row operand operands
    opcode_at wide_opcode_at behind_opcode behind_first instruction cut_rest cut marks starts unfit_code named all_named
    least decoding decoded classes_from all_classes class_named class_at supertypes_within supertypes line gathered
    known first own_field find_field own_method find_method selected is_subclass is_element is_subtype effect linked
    group_linked
returns-clause-sent c = refl
