use Rattle.std.proofs.Common.{refl}
use Rattle.std.specs.Int.{int_wrap}
use Rattle.cjc_bytes.specs.Format.{repeated, raw}
use Rattle.cjc_bytes.specs.Reading.{front, digits}
use Rattle.cjc_bytes.specs.Found.{each}
use Rattle.cjc_bytes.specs.Spots.{desc_of, parts_of, bad_at, after, types_from}
use Rattle.cjc_code.specs.Table.{row}
use Rattle.cjc_code.specs.Instruction.{operand, operands, opcode_at, wide_opcode_at, behind_opcode, behind_first}
use Rattle.cjc_code.specs.Instruction.{instruction}
use Rattle.cjc_code.specs.Cut.{cut_rest, cut}
use Rattle.cjc_code.specs.Unfit.{marks, starts, unfit_code}
use Rattle.cjc_code.specs.Named.{named, all_named}
use Rattle.cjc_code.specs.Decoded.{least, decoding, decoded}
use Rattle.cjc_world.specs.Classes.{classes_from, all_classes, class_named, class_at}
use Rattle.cjc_world.specs.Supertypes.{supertypes_within, supertypes, line}
use Rattle.cjc_world.specs.Interfaces.{gathered, known}
use Rattle.cjc_world.specs.Lookup.{first, own_field, find_field, own_method, find_method}
use Rattle.cjc_world.specs.Added.{own_methods, methods_of, asked_by, has_open, lacking, added}
use Rattle.cjc_world.specs.Order.{may_stand, next, lined_up, in_order, class_order, method_order}
use Rattle.cjc_components.specs.LowerNarrow.Pairs.Roles.{with_pairs}
use Rattle.cjc_components.specs.LowerNarrow.Rows.Resolved.{resolution}
use Rattle.cjc_tokens.specs.Slots.{token, own, got, first_answer, taken_slots, token_among, shown_token}
use Rattle.cjc_tokens.specs.Methods.{interfaces_at, interface_methods}
use Rattle.cjc_components.specs.LowerCheckRules.Spots.{placed}
use Rattle.cjc_capwrite.specs.CapRead.Opcodes.{forms, form}
use Rattle.cjc_capwrite.specs.Class.{interface_bytes, implemented_bytes, class_entry_bytes, class_info_bytes}
use Rattle.cjc_components.specs.LowerCardSemantics.Bytecode.Meanings.{meaning}
use Rattle.cjc_capwrite.specs.Method.{handler_bytes, method_bytes}
use Rattle.cjc_examples.proofs.components.added_methods_are_written.Goals as goal

pub returns-clause-class : goal.returns-clause-class
unfolding int_wrap repeated raw front digits each desc_of parts_of bad_at after types_from row operand operands
    opcode_at wide_opcode_at behind_opcode behind_first instruction cut_rest cut marks starts unfit_code named all_named
    least decoding decoded classes_from all_classes class_named class_at supertypes_within supertypes line gathered
    known first own_field find_field own_method find_method own_methods methods_of asked_by has_open lacking added
    may_stand next lined_up in_order class_order method_order resolution with_pairs token own got first_answer
    taken_slots
    token_among shown_token interfaces_at interface_methods placed forms form interface_bytes implemented_bytes
    class_entry_bytes class_info_bytes
returns-clause-class c = refl

pub returns-clause-method : goal.returns-clause-method
unfolding int_wrap repeated raw front digits each desc_of parts_of bad_at after types_from row operand operands
    opcode_at wide_opcode_at behind_opcode behind_first instruction cut_rest cut marks starts unfit_code named all_named
    least decoding decoded classes_from all_classes class_named class_at supertypes_within supertypes line gathered
    known first own_field find_field own_method find_method own_methods methods_of asked_by has_open lacking added
    may_stand next lined_up in_order class_order method_order resolution with_pairs token own got first_answer
    taken_slots
    token_among shown_token interfaces_at interface_methods placed forms form meaning handler_bytes method_bytes
returns-clause-method c = refl
