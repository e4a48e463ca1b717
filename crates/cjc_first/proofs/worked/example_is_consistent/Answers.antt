use Rattle.std.proofs.Common.{refl}
use Rattle.cjc_capread.specs.Opcodes.{forms, form, op_info}
use Rattle.cjc_capwrite.specs.Package.{header_bytes, directory_bytes, applet_bytes, applet_entry_bytes, import_bytes, imported_package_bytes}
use Rattle.cjc_capwrite.specs.Pool.{entry_bytes, pool_bytes}
use Rattle.cjc_capwrite.specs.Class.{interface_bytes, implemented_bytes, class_entry_bytes, class_info_bytes}
use Rattle.cjc_capwrite.specs.Method.{handler_bytes, method_bytes}
use Rattle.cjc_capwrite.specs.Statics.{array_init_bytes, static_field_bytes, reference_location_bytes}
use Rattle.cjc_capwrite.specs.Export.{exported_class_bytes, export_bytes}
use Rattle.cjc_capwrite.specs.Descriptor.{field_bytes, code_bytes, method_descriptor_bytes, class_descriptor_bytes, type_bytes, types_bytes, descriptor_bytes}
use Rattle.cjc_first.specs.Sentences.Directory.{directory_agrees, flags_agree}
use Rattle.cjc_first.specs.Sentences.Imports.{imports_agree}
use Rattle.cjc_first.specs.Sentences.ClassRefs.{classes_are_there, supers_fit}
use Rattle.cjc_first.specs.Sentences.Tables.{tables_hold_methods, maps_hold_tokens}
use Rattle.cjc_first.specs.Sentences.PoolEntries.{members_are_there}
use Rattle.cjc_first.specs.Sentences.Methods.{cut, methods_are_whole, codes_are_closed, indices_have_tags}
use Rattle.cjc_first.specs.Sentences.Handlers.{handlers_stand, stop_bits_fit}
use Rattle.cjc_first.specs.Sentences.Locations.{locations_are_listed}
use Rattle.cjc_first.specs.Sentences.Statics.{installs_are_static, image_adds_up}
use Rattle.cjc_first.specs.Sentences.Described.{exports_are_described, descriptor_is_whole}
use Rattle.cjc_first.proofs.worked.example_is_consistent.Goals as goal

pub returns-clause-consistent : goal.returns-clause-consistent
unfolding forms form op_info header_bytes directory_bytes applet_bytes applet_entry_bytes import_bytes imported_package_bytes entry_bytes pool_bytes interface_bytes implemented_bytes class_entry_bytes class_info_bytes handler_bytes method_bytes array_init_bytes static_field_bytes reference_location_bytes exported_class_bytes export_bytes field_bytes code_bytes method_descriptor_bytes class_descriptor_bytes type_bytes types_bytes descriptor_bytes directory_agrees flags_agree imports_agree classes_are_there supers_fit tables_hold_methods maps_hold_tokens members_are_there cut methods_are_whole codes_are_closed indices_have_tags handlers_stand stop_bits_fit locations_are_listed installs_are_static image_adds_up exports_are_described descriptor_is_whole
returns-clause-consistent c = refl

pub returns-clause-with_applet : goal.returns-clause-with_applet
unfolding forms form op_info header_bytes directory_bytes applet_bytes applet_entry_bytes import_bytes imported_package_bytes entry_bytes pool_bytes interface_bytes implemented_bytes class_entry_bytes class_info_bytes handler_bytes method_bytes array_init_bytes static_field_bytes reference_location_bytes exported_class_bytes export_bytes field_bytes code_bytes method_descriptor_bytes class_descriptor_bytes type_bytes types_bytes descriptor_bytes directory_agrees flags_agree imports_agree classes_are_there supers_fit tables_hold_methods maps_hold_tokens members_are_there cut methods_are_whole codes_are_closed indices_have_tags handlers_stand stop_bits_fit locations_are_listed installs_are_static image_adds_up exports_are_described descriptor_is_whole
returns-clause-with_applet c = refl

pub returns-clause-altered : goal.returns-clause-altered
unfolding forms form op_info header_bytes directory_bytes applet_bytes applet_entry_bytes import_bytes imported_package_bytes entry_bytes pool_bytes interface_bytes implemented_bytes class_entry_bytes class_info_bytes handler_bytes method_bytes array_init_bytes static_field_bytes reference_location_bytes exported_class_bytes export_bytes field_bytes code_bytes method_descriptor_bytes class_descriptor_bytes type_bytes types_bytes descriptor_bytes directory_agrees flags_agree imports_agree classes_are_there supers_fit tables_hold_methods maps_hold_tokens members_are_there cut methods_are_whole codes_are_closed indices_have_tags handlers_stand stop_bits_fit locations_are_listed installs_are_static image_adds_up exports_are_described descriptor_is_whole
returns-clause-altered c = refl
