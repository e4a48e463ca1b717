use Rattle.std.proofs.Common.{refl}
use Rattle.std.specs.Int.{int_wrap}
use Rattle.cjc_bytes.specs.Format.{repeated, raw}
use Rattle.cjc_bytes.specs.Reading.{front, digits}
use Rattle.cjc_bytes.specs.Found.{each}
use Rattle.cjc_bytes.specs.Spots.{desc_of, parts_of, bad_at, after, types_from}
use Rattle.cjc_code.specs.Table.{row}
use Rattle.cjc_code.specs.Instruction.{operand, operands, opcode_at, wide_opcode_at, behind_opcode, behind_first}
use Rattle.cjc_code.specs.Instruction.{instruction}
use Rattle.cjc_code.specs.Cut.{cut_rest, cut}
use Rattle.cjc_code.specs.Unfit.{marks, starts, unfit_code}
use Rattle.cjc_code.specs.Named.{named, all_named}
use Rattle.cjc_code.specs.Decoded.{least, decoding, decoded}
use Rattle.cjc_world.specs.Classes.{classes_from, all_classes, class_named, class_at}
use Rattle.cjc_world.specs.Supertypes.{supertypes_within, supertypes, line}
use Rattle.cjc_world.specs.Interfaces.{gathered, known}
use Rattle.cjc_world.specs.Lookup.{first, own_field, find_field, own_method, find_method, selected}
use Rattle.cjc_world.specs.Subtype.{is_subclass, is_element, is_subtype}
use Rattle.cjc_capwrite.specs.CapRead.Opcodes.{forms, form}
use Rattle.cjc_world.specs.ExportFile.Supers.{upwards_from}
use Rattle.cjc_components.specs.LowerJvmSemantics.Effects.{effect}
use Rattle.cjc_components.specs.LowerJvmSemantics.ByName.{linked}
use Rattle.cjc_components.specs.LowerCardSemantics.Bytecode.Meanings.{meaning}
use Rattle.cjc_components.specs.LowerCardSemantics.Machine.ByToken.{by_token}
use Rattle.cjc_components.specs.LowerNCode.ByLabel.{by_label}
use Rattle.cjc_components.specs.LowerNarrow.Pairs.Roles.{with_pairs}
use Rattle.cjc_components.specs.LowerNarrow.Rows.Resolved.{resolution}
use Rattle.cjc_components.specs.LowerNarrow.Rows.Package
use Rattle.cjc_examples.proofs.narrow.dispatch_runs_alike.Goals as goal

pub returns-clause-overrides : goal.returns-clause-overrides
unfolding int_wrap repeated raw front digits each desc_of parts_of bad_at after types_from row operand operands
    opcode_at wide_opcode_at behind_opcode behind_first instruction cut_rest cut marks starts unfit_code named all_named
    least decoding decoded classes_from all_classes class_named class_at supertypes_within supertypes line gathered
    known first own_field find_field own_method find_method selected is_subclass is_element is_subtype effect linked
    form forms meaning by_token upwards_from by_label resolution with_pairs Package.named
returns-clause-overrides c = refl

pub returns-clause-shares : goal.returns-clause-shares
unfolding int_wrap repeated raw front digits each desc_of parts_of bad_at after types_from row operand operands
    opcode_at wide_opcode_at behind_opcode behind_first instruction cut_rest cut marks starts unfit_code named all_named
    least decoding decoded classes_from all_classes class_named class_at supertypes_within supertypes line gathered
    known first own_field find_field own_method find_method selected is_subclass is_element is_subtype effect linked
    form forms meaning by_token upwards_from by_label resolution with_pairs Package.named
returns-clause-shares c = refl
