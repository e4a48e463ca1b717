-- Where an offset of Export is broken, of one class.
use Rattle.std.specs.Prelude.{ℕ, List, ◌&&◌}
use Rattle.cjc_capread.specs.declared.tree.ClassDescriptor.{ClassDescriptor}
use Rattle.cjc_capread.specs.declared.tree.ExportedClass.{ExportedClass}
use Rattle.cjc_sentences.specs.declared.spot.Spot.{Spot}
use Rattle.cjc_sentences.specs.Spots.{in_info, unless}
use Rattle.cjc_sentences.specs.Complete.{Complete}
use Rattle.cjc_sentences.specs.Exports.{class_for, has_field, has_method, in_exported}
use Rattle.cjc_sentences.specs.Members.{is_method_start}

abbrev pub field_spot : ClassDescriptor → (token at offset : ℕ) → List Spot
field_spot d token at o = unless (has_field d token o) (in_info 10 at)

abbrev pub method_spot : Complete → ClassDescriptor → (token at offset : ℕ) → List Spot
method_spot c d token at o = unless (is_method_start c o && has_method d token o) (in_info 10 at)

abbrev pub exported_spot : Complete → (token at : ℕ) → ExportedClass → List Spot
exported_spot c token at e = in_exported c at e (class_for c token e.class_offset)
