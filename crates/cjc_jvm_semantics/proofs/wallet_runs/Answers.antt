use Rattle.std.proofs.Common.{refl}
use Rattle.std.specs.Int.{int_wrap}
use Rattle.cjc_code.specs.Bytes.Format.{repeated, raw}
use Rattle.cjc_code.specs.Bytes.Reading.{front, digits}
use Rattle.cjc_code.specs.Bytes.Found.{each}
use Rattle.cjc_code.specs.Bytes.Spots.{desc_of, parts_of, bad_at, after, types_from}
use Rattle.cjc_code.specs.Table.{row}
use Rattle.cjc_code.specs.Instruction.{operand, operands, opcode_at, wide_opcode_at, behind_opcode, behind_first}
use Rattle.cjc_code.specs.Instruction.{instruction}
use Rattle.cjc_code.specs.Cut.{cut_rest, cut}
use Rattle.cjc_code.specs.Unfit.{marks, starts, unfit_code}
use Rattle.cjc_code.specs.Named.{named, all_named}
use Rattle.cjc_code.specs.Decoded.{least, decoding, decoded}
use Rattle.cjc_world.specs.Classes.{classes_from, all_classes, class_named, class_at}
use Rattle.cjc_world.specs.Supertypes.{supertypes_within, supertypes, line}
use Rattle.cjc_world.specs.Interfaces.{gathered, known}
use Rattle.cjc_world.specs.Lookup.{first, own_field, find_field, own_method, find_method, selected}
use Rattle.cjc_world.specs.Subtype.{is_subclass, is_element, is_subtype}
use Rattle.cjc_jvm_semantics.specs.Effects.{effect}
use Rattle.cjc_jvm_semantics.specs.ByName.{linked}
use Rattle.cjc_jvm_semantics.specs.Group.{group_linked}
use Rattle.cjc_jvm_semantics.proofs.wallet_runs.Goals as goal

pub returns-clause-whole : goal.returns-clause-whole
unfolding int_wrap repeated raw front digits each desc_of parts_of bad_at after types_from row operand operands
    opcode_at wide_opcode_at behind_opcode behind_first instruction cut_rest cut marks starts unfit_code named all_named
    least decoding decoded classes_from all_classes class_named class_at supertypes_within supertypes line gathered
    known first own_field find_field own_method find_method selected is_subclass is_element is_subtype effect linked
    group_linked
returns-clause-whole c = refl

pub returns-clause-to_the_last : goal.returns-clause-to_the_last
unfolding int_wrap repeated raw front digits each desc_of parts_of bad_at after types_from row operand operands
    opcode_at wide_opcode_at behind_opcode behind_first instruction cut_rest cut marks starts unfit_code named all_named
    least decoding decoded classes_from all_classes class_named class_at supertypes_within supertypes line gathered
    known first own_field find_field own_method find_method selected is_subclass is_element is_subtype effect linked
    group_linked
returns-clause-to_the_last c = refl

pub returns-clause-cut_off : goal.returns-clause-cut_off
unfolding int_wrap repeated raw front digits each desc_of parts_of bad_at after types_from row operand operands
    opcode_at wide_opcode_at behind_opcode behind_first instruction cut_rest cut marks starts unfit_code named all_named
    least decoding decoded classes_from all_classes class_named class_at supertypes_within supertypes line gathered
    known first own_field find_field own_method find_method selected is_subclass is_element is_subtype effect linked
    group_linked
returns-clause-cut_off c = refl
