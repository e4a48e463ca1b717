use Rattle.std.proofs.Common.{refl}
use Rattle.std.specs.Int.{int_wrap}
use Rattle.cjc_bytes.specs.Format.{repeated, raw}
use Rattle.cjc_bytes.specs.Reading.{front, digits}
use Rattle.cjc_bytes.specs.Found.{each}
use Rattle.cjc_bytes.specs.Spots.{desc_of, parts_of, bad_at, after, types_from}
use Rattle.cjc_code.specs.Table.{row}
use Rattle.cjc_code.specs.Instruction.{operand, operands, opcode_at, wide_opcode_at, behind_opcode, behind_first}
use Rattle.cjc_code.specs.Instruction.{instruction}
use Rattle.cjc_code.specs.Cut.{cut_rest, cut}
use Rattle.cjc_code.specs.Unfit.{marks, starts, unfit_code}
use Rattle.cjc_code.specs.Named.{named, all_named}
use Rattle.cjc_code.specs.Decoded.{least, decoding, decoded}
use Rattle.cjc_world.specs.Classes.{classes_from, all_classes, class_named, class_at}
use Rattle.cjc_world.specs.Supertypes.{supertypes_within, supertypes, line}
use Rattle.cjc_world.specs.Interfaces.{gathered, known}
use Rattle.cjc_world.specs.Lookup.{first, own_field, find_field, own_method, find_method, method_of_interface}
use Rattle.cjc_world.specs.Added.{own_methods, methods_of, asked_by, has_open, lacking, added}
use Rattle.cjc_world.specs.Order.{may_stand, next, lined_up, in_order, class_order, method_order}
use Rattle.cjc_components.specs.LowerNarrow.Pairs.Roles.{with_pairs}
use Rattle.cjc_components.specs.LowerNarrow.Rows.Resolved.{resolution}
use Rattle.cjc_tokens.specs.Slots.{token, own, got, first_answer, taken_slots, token_among, shown_token}
use Rattle.cjc_tokens.specs.Methods.{interfaces_at, interface_methods, class_method_token, class_method_tokens}
use Rattle.cjc_components.specs.LowerCheckRules.Spots.{placed}
use Rattle.cjc_capwrite.specs.CapRead.Opcodes.{forms, form, op_info}
use Rattle.cjc_world.specs.Exported.{is_exported}
use Rattle.cjc_world.specs.Subtype.{is_subclass, is_subtype}
use Rattle.cjc_tokens.specs.Fields.{instance_token, field_token, field_tokens, instance_tokens}
use Rattle.cjc_tokens.specs.Tokens.{classes_from as token_classes_from, assigned}
use Rattle.cjc_components.specs.LowerCardSemantics.Bytecode.Meanings.{meaning}
use Rattle.cjc_capwrite.specs.Package.{header_bytes, import_bytes, imported_package_bytes, applet_bytes}
use Rattle.cjc_capwrite.specs.Package.{applet_entry_bytes, directory_bytes}
use Rattle.cjc_components.specs.LowerSubset.Types.{is_int_desc, is_int_element}
use Rattle.cjc_capwrite.specs.Class.{interface_bytes, implemented_bytes, class_entry_bytes, class_info_bytes}
use Rattle.cjc_capwrite.specs.Method.{handler_bytes, method_bytes}
use Rattle.cjc_capwrite.specs.Statics.{reference_location_bytes, array_init_bytes, static_field_bytes}
use Rattle.cjc_components.specs.LowerCheckRules.Locations.{catch_places, distances}
use Rattle.cjc_capwrite.specs.Export.{exported_class_bytes, export_bytes}
use Rattle.cjc_capwrite.specs.Descriptor.{field_bytes, code_bytes, method_descriptor_bytes, class_descriptor_bytes}
use Rattle.cjc_capwrite.specs.Descriptor.{type_bytes, types_bytes, descriptor_bytes}
use Rattle.cjc_capwrite.specs.Pool.{entry_bytes, pool_bytes}
use Rattle.cjc_world.specs.ExportFile.Written.{value_name, class_tree_needs, needs}
use Rattle.cjc_world.specs.ExportFile.Supers.{upwards_from}
use Rattle.cjc_components.specs.LowerCardSemantics.Machine.ByToken.{by_token}
use Rattle.cjc_examples.proofs.components.components_run_by_token.Goals as goal

pub returns-clause-sum : goal.returns-clause-sum
unfolding int_wrap repeated raw front digits each desc_of parts_of bad_at after types_from row operand operands
    opcode_at wide_opcode_at behind_opcode behind_first instruction cut_rest cut marks starts unfit_code named all_named
    least decoding decoded classes_from all_classes class_named class_at supertypes_within supertypes line gathered
    known first own_field find_field own_method find_method method_of_interface own_methods methods_of asked_by has_open
    lacking added may_stand next lined_up in_order class_order method_order resolution with_pairs token own got
    first_answer
    taken_slots token_among shown_token interfaces_at interface_methods class_method_token class_method_tokens placed
    forms form op_info is_exported is_subclass is_subtype instance_token field_token field_tokens instance_tokens
    token_classes_from assigned meaning header_bytes import_bytes imported_package_bytes applet_bytes applet_entry_bytes
    directory_bytes is_int_desc is_int_element interface_bytes implemented_bytes class_entry_bytes class_info_bytes
    handler_bytes method_bytes reference_location_bytes array_init_bytes static_field_bytes catch_places distances
    exported_class_bytes export_bytes field_bytes code_bytes method_descriptor_bytes class_descriptor_bytes type_bytes
    types_bytes descriptor_bytes entry_bytes pool_bytes value_name class_tree_needs needs upwards_from by_token
returns-clause-sum c = refl

pub returns-clause-wallet : goal.returns-clause-wallet
unfolding int_wrap repeated raw front digits each desc_of parts_of bad_at after types_from row operand operands
    opcode_at wide_opcode_at behind_opcode behind_first instruction cut_rest cut marks starts unfit_code named all_named
    least decoding decoded classes_from all_classes class_named class_at supertypes_within supertypes line gathered
    known first own_field find_field own_method find_method method_of_interface own_methods methods_of asked_by has_open
    lacking added may_stand next lined_up in_order class_order method_order resolution with_pairs token own got
    first_answer
    taken_slots token_among shown_token interfaces_at interface_methods class_method_token class_method_tokens placed
    forms form op_info is_exported is_subclass is_subtype instance_token field_token field_tokens instance_tokens
    token_classes_from assigned meaning header_bytes import_bytes imported_package_bytes applet_bytes applet_entry_bytes
    directory_bytes is_int_desc is_int_element interface_bytes implemented_bytes class_entry_bytes class_info_bytes
    handler_bytes method_bytes reference_location_bytes array_init_bytes static_field_bytes catch_places distances
    exported_class_bytes export_bytes field_bytes code_bytes method_descriptor_bytes class_descriptor_bytes type_bytes
    types_bytes descriptor_bytes entry_bytes pool_bytes value_name class_tree_needs needs upwards_from by_token
returns-clause-wallet c = refl
