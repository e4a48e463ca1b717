-- The machine by name of one package: its look-ups are those of its class files and export files.
use Rattle.std.specs.Prelude.{ℕ, List, is_some, map}
use Rattle.cjc_script.specs.declared.script.Script.{Script}
use Rattle.cjc_script.specs.declared.report.Report.{Report}
use Rattle.cjc_world.specs.declared.image.StaticImage.{StaticImage}
use Rattle.cjc_world.specs.Files.{Files}
use Rattle.cjc_world.specs.Classes.{Class, all_classes, class_named}
use Rattle.cjc_world.specs.Subtype.{is_subtype}
use Rattle.cjc_jvm_semantics.specs.Linked.{Linked}
use Rattle.cjc_jvm_semantics.specs.OnePackage.{field_named, call_named, made_of, entry_named, sent_named}
use Rattle.cjc_jvm_semantics.specs.OnePackage.{is_plain_import, cells, static_array}
use Rattle.cjc_jvm_semantics.specs.Machine

-- the look-ups over the classes of all files; one package asks for all
abbrev pub linked_by : Files → StaticImage → List Class → Linked
linked_by files image w = record {
  field = λ holder id. field_named files w id;
  call = λ holder op id. call_named files w holder op id;
  made = λ holder class. made_of w class;
  is_there = λ asker class. is_some (class_named w class);
  subtype = λ asker sub sup. is_subtype w sub sup;
  entry = entry_named files w;
  sent = sent_named files w;
  is_imported = λ class. is_plain_import (class_named w class);
  statics = cells image files.classes;
  heap = map static_array image.arrays;
}

-- the look-ups of one package, whose static cells the image tells
unfoldable pub linked : Files → StaticImage → Linked
linked files image = linked_by files image (all_classes files)

-- The run of n instructions.
abbrev pub run : Files → StaticImage → Script → ℕ → Report
run files image script n = Machine.run (linked files image) script n
