use Rattle.std.proofs.Common.{refl, codes}
use Rattle.std.specs.Fmt.{digits as decimal_digits}
use Rattle.cjc_cmd_card.specs.Bytes.Format.{repeated, in_a_row, iterated, u1, u2, u4, raw}
use Rattle.cjc_cmd_card.specs.Bytes.Reading.{front, digits, read_file}
use Rattle.cjc_cmd_card.specs.Bytes.Found.{each, all_of}
use Rattle.cjc_cmd_card.specs.Bytes.Spots.{desc_of, parts_of, bad_at, after, types_from}
use Rattle.cjc_cmd_convert.proofs.BytesLaws.{file_ok}
use Rattle.cjc_cmd_card.specs.ClassFile.Pool
use Rattle.cjc_cmd_card.specs.ClassFile.Items
use Rattle.cjc_cmd_card.specs.ClassFile.Members
use Rattle.cjc_cmd_card.specs.ClassFile.CodeAttribute
use Rattle.cjc_cmd_card.specs.ClassFile.Methods
use Rattle.cjc_cmd_card.specs.ClassFile.ClassFile as Reader
use Rattle.cjc_cmd_make.specs.Package.ClassFile.{attribute_bytes, method_bytes, file_bytes}
use Rattle.cjc_cmd_make.specs.Package.Classes.{class_with}
use Rattle.cjc_cmd_make.specs.Laws.ClassTrees.{class_tree}
use Rattle.cjc_cmd_make.proofs.laws.first_classes_spell_their_trees.Goals as goal

pub returns-clause-first : goal.returns-clause-first
unfolding decimal_digits repeated in_a_row iterated u1 u2 u4 raw front digits read_file each all_of desc_of parts_of
    bad_at after types_from Pool.desc_kind Pool.index Pool.pair Pool.utf8 Pool.content Pool.entry Pool.entries
    Pool.pool_of Items.text_at Items.desc_at Items.desc_of_at Items.class_text_at Items.class_at Items.pair_at
    Items.class_name_at Items.tested_member Items.tested Items.member Items.item Items.pool_items Members.text_field
    Members.desc_field Members.class_field Members.skipped Members.attribute Members.constant_at
    Members.constant_content Members.constant_name_at Members.field_attribute Members.field_tree
    CodeAttribute.catch_class_at CodeAttribute.catch_class CodeAttribute.catch CodeAttribute.code_content
    CodeAttribute.code Methods.code_name_at Methods.method_content Methods.method_attribute Methods.method_tree
    Reader.front_part Reader.back_part Reader.class_file attribute_bytes method_bytes file_bytes
returns-clause-first c = λ a b. file_ok Reader.class_file (file_bytes (class_with 0 a b)) (class_tree (codes "gen/p/C0")
    (codes "java/lang/Object") a b) refl

pub returns-clause-second : goal.returns-clause-second
unfolding decimal_digits repeated in_a_row iterated u1 u2 u4 raw front digits read_file each all_of desc_of parts_of
    bad_at after types_from Pool.desc_kind Pool.index Pool.pair Pool.utf8 Pool.content Pool.entry Pool.entries
    Pool.pool_of Items.text_at Items.desc_at Items.desc_of_at Items.class_text_at Items.class_at Items.pair_at
    Items.class_name_at Items.tested_member Items.tested Items.member Items.item Items.pool_items Members.text_field
    Members.desc_field Members.class_field Members.skipped Members.attribute Members.constant_at
    Members.constant_content Members.constant_name_at Members.field_attribute Members.field_tree
    CodeAttribute.catch_class_at CodeAttribute.catch_class CodeAttribute.catch CodeAttribute.code_content
    CodeAttribute.code Methods.code_name_at Methods.method_content Methods.method_attribute Methods.method_tree
    Reader.front_part Reader.back_part Reader.class_file attribute_bytes method_bytes file_bytes
returns-clause-second c = λ a b. file_ok Reader.class_file (file_bytes (class_with 1 a b))
    (class_tree (codes "gen/p/C1") (codes "gen/p/C0") a b) refl
