use Rattle.std.proofs.Common.{refl}
use Rattle.std.specs.Int.{int_wrap}
use Rattle.cjc_examples.specs.Bytes.Format.{repeated, raw}
use Rattle.cjc_examples.specs.Bytes.Reading.{front, digits}
use Rattle.cjc_examples.specs.Bytes.Found.{each}
use Rattle.cjc_examples.specs.Bytes.Spots.{desc_of, parts_of, bad_at, after, types_from}
use Rattle.cjc_examples.specs.Bytecode.Table.{row}
use Rattle.cjc_examples.specs.Bytecode.Instruction.{operand, operands, opcode_at, wide_opcode_at, behind_opcode}
use Rattle.cjc_examples.specs.Bytecode.Instruction.{behind_first}
use Rattle.cjc_examples.specs.Bytecode.Instruction.{instruction}
use Rattle.cjc_examples.specs.Bytecode.Cut.{cut_rest, cut}
use Rattle.cjc_examples.specs.Bytecode.Unfit.{marks, starts, unfit_code}
use Rattle.cjc_examples.specs.Bytecode.Named.{named, all_named}
use Rattle.cjc_examples.specs.Bytecode.Decoded.{least, decoding, decoded}
use Rattle.cjc_examples.specs.World.Classes.{classes_from, all_classes, class_named, class_at}
use Rattle.cjc_examples.specs.World.Supertypes.{supertypes_within, supertypes, line}
use Rattle.cjc_examples.specs.World.Interfaces.{gathered, known}
use Rattle.cjc_examples.specs.World.Lookup.{first, own_field, find_field, own_method, find_method, selected}
use Rattle.cjc_examples.specs.World.Subtype.{is_subclass, is_element, is_subtype}
use Rattle.cjc_examples.specs.CapRead.Opcodes.{forms, form}
use Rattle.cjc_examples.specs.ExportFile.Supers.{upwards_from}
use Rattle.cjc_examples.specs.CardSemantics.Bytecode.Meanings.{meaning}
use Rattle.cjc_examples.specs.LowerNarrow.Rows.Resolved.{resolution}
use Rattle.cjc_tests_selection.proofs.selection.rows_are_selected.Goals as goal

pub returns-clause-calculating : goal.returns-clause-calculating
unfolding int_wrap repeated raw front digits each desc_of parts_of bad_at after types_from row operand operands
    opcode_at wide_opcode_at behind_opcode behind_first instruction cut_rest cut marks starts unfit_code named all_named
    least decoding decoded classes_from all_classes class_named class_at supertypes_within supertypes line gathered
    known first own_field find_field own_method find_method selected is_subclass is_element is_subtype forms form
    meaning upwards_from resolution
returns-clause-calculating c = refl

pub returns-clause-handlers : goal.returns-clause-handlers
unfolding int_wrap repeated raw front digits each desc_of parts_of bad_at after types_from row operand operands
    opcode_at wide_opcode_at behind_opcode behind_first instruction cut_rest cut marks starts unfit_code named all_named
    least decoding decoded classes_from all_classes class_named class_at supertypes_within supertypes line gathered
    known first own_field find_field own_method find_method selected is_subclass is_element is_subtype forms form
    meaning upwards_from resolution
returns-clause-handlers c = refl

pub returns-clause-overriding : goal.returns-clause-overriding
unfolding int_wrap repeated raw front digits each desc_of parts_of bad_at after types_from row operand operands
    opcode_at wide_opcode_at behind_opcode behind_first instruction cut_rest cut marks starts unfit_code named all_named
    least decoding decoded classes_from all_classes class_named class_at supertypes_within supertypes line gathered
    known first own_field find_field own_method find_method selected is_subclass is_element is_subtype forms form
    meaning upwards_from resolution
returns-clause-overriding c = refl

pub returns-clause-sharing : goal.returns-clause-sharing
unfolding int_wrap repeated raw front digits each desc_of parts_of bad_at after types_from row operand operands
    opcode_at wide_opcode_at behind_opcode behind_first instruction cut_rest cut marks starts unfit_code named all_named
    least decoding decoded classes_from all_classes class_named class_at supertypes_within supertypes line gathered
    known first own_field find_field own_method find_method selected is_subclass is_element is_subtype forms form
    meaning upwards_from resolution
returns-clause-sharing c = refl
