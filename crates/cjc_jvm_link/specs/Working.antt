-- The tables that are made once for the machine by name, methods, new objects and static cells, and that they
-- are those of the files.
use Rattle.std.specs.Prelude.{◌≡◌, List, map}
use Rattle.cjc_jvm_step.specs.Script.declared.report.FieldValue.{FieldValue}
use Rattle.cjc_world.specs.declared.image.StaticImage.{StaticImage}
use Rattle.cjc_world.specs.Files.{Files}
use Rattle.cjc_world.specs.Classes.{all_classes}
use Rattle.cjc_jvm_semantics.specs.Linked.{Method}
use Rattle.cjc_jvm_semantics.specs.OnePackage.{cells}
use Rattle.cjc_jvm_link.specs.declared.fresh.Fresh.{Fresh}
use Rattle.cjc_jvm_link.specs.Methods.{methods_of}
use Rattle.cjc_jvm_link.specs.Fresh.{AreFresh, HasAll}

-- The methods, the fields of new objects and the static cells are those of the files and of the image.
pub record AreKept (files : Files) (image : StaticImage) (methods : List (List Method)) (fresh : Fresh)
    (statics : List FieldValue) : Type 0 where
  pub are_methods : methods ≡ map methods_of files.classes
  pub are_fresh : AreFresh (all_classes files) fresh
  pub has_all : HasAll (all_classes files) fresh
  pub are_cells : statics ≡ cells image files.classes
