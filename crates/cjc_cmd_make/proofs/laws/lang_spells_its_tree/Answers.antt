use Rattle.std.proofs.Common.{refl}
use Rattle.cjc_cmd_card.specs.Bytes.Format.{repeated, in_a_row, iterated, u1, u2, u4, raw}
use Rattle.cjc_cmd_card.specs.Bytes.Reading.{front, digits, read_file}
use Rattle.cjc_cmd_card.specs.Bytes.Found.{each, all_of}
use Rattle.cjc_cmd_card.specs.Bytes.Spots.{desc_of, parts_of, bad_at, after, types_from}
use Rattle.cjc_cmd_convert.proofs.BytesLaws.{file_ok}
use Rattle.cjc_cmd_card.specs.ExportFile.Pool
use Rattle.cjc_cmd_card.specs.ExportFile.Package
use Rattle.cjc_cmd_card.specs.ExportFile.Members
use Rattle.cjc_cmd_card.specs.ExportFile.ExportFile
use Rattle.cjc_cmd_card.specs.ExportFile.Root
use Rattle.cjc_cmd_make.specs.Package.Lang.{lang_file}
use Rattle.cjc_cmd_make.specs.Laws.LangTree.{lang_tree}
use Rattle.cjc_cmd_make.proofs.laws.lang_spells_its_tree.Goals as goal

pub returns : goal.returns
unfolding repeated in_a_row iterated u1 u2 u4 raw front digits read_file each all_of desc_of parts_of bad_at after
    types_from Pool.index Pool.counted Pool.content Pool.entry Pool.text_at Pool.tested_name Pool.tested
    Pool.class_name_at Package.package_at Package.package_field Members.grown Members.text_field Members.class_field
    Members.desc_at Members.desc_field Members.constant_name_at Members.integer_at Members.attribute_content
    Members.attribute Members.field Members.class_method Members.interface_name_at Members.interface_method
    Members.method ExportFile.new_name_at ExportFile.class_tree ExportFile.front_part ExportFile.export_file
    Root.with_root
returns c = file_ok ExportFile.export_file lang_file lang_tree refl
