-- A package that breaks no rule is one whose narrow code runs as its class files, as far as its rules say.
use Rattle.std.proofs.Common.{ℕ, List}
use Rattle.cjc_bytes.specs.declared.fault.MemberId.{MemberId}
use Rattle.cjc_bytes.specs.declared.settings.Settings.{Settings}
use Rattle.cjc_code.specs.declared.method_code.MethodCode.{MethodCode}
use Rattle.cjc_jvm_semantics.specs.Linked.{Method}
use Rattle.cjc_narrow_proof.specs.Laws.Left.{HasLeast, IsLeft}
use Rattle.cjc_narrow_proof.specs.Laws.Unbroken.{AreSpelt, IsUnbroken}
use Rattle.cjc_narrow_proof.proofs.LawsLaws.ClassNames.{each_name, own_name}
use Rattle.cjc_narrow_proof.proofs.LawsLaws.Handlers.{caught_there, class_there}
use Rattle.cjc_narrow_proof.proofs.LawsLaws.Own.{flags_by_name}
use Rattle.cjc_narrow_proof.proofs.LawsLaws.OwnTypes.{own_word_desc}
use Rattle.cjc_narrow_proof.proofs.LawsLaws.Room.{room_to_begin}
use Rattle.cjc_narrow_proof.specs.Runs.Converted.{IsConverted}
use Rattle.cjc_narrow_proof.specs.Runs.Tables.{HasTables, Tables}
use Rattle.cjc_world.specs.Classes.{all_classes}
use Rattle.cjc_world.specs.Files.{Files}
use Rattle.cjc_world.specs.declared.image.StaticImage.{StaticImage}

module _ (list : List ℕ) (files : Files) (codes : List MethodCode) (settings : Settings) (is : IsUnbroken list files
    codes settings) (spelt : AreSpelt files) where
  pub has_tables : (tables : Tables) (m : Method) → HasLeast files codes tables m → HasTables files tables m
  has_tables tables m h =
      let of = h.of_package in
      let read = h.read in
      record {
        code = h.code;
        class = h.class;
        method = h.method;
        tree = h.tree;
        of_package = of;
        is = h.is;
        table = h.table;
        is_table = h.is_table;
        types = h.types;
        ranges = h.ranges;
        passes = h.passes;
        found = flags_by_name files list is.listed is.world (let k = h.code in k.class) h.class of.is_class
            (let k = h.code in k.method) h.method of.is_method;
        desc = own_word_desc list files codes settings is h.code h.class h.method h.tree of h.listed h.written
            read.types read.short read.is_desc read.is_method;
        named = own_name files list is.listed is.world spelt (let k = h.code in k.class) h.class of.is_class;
        begins = record { some = read.some; room = room_to_begin files h.code h.class h.method h.tree of read.short };
        caught = λ c name there e. (let found = class_there (all_classes files) name (caught_there files codes is.names
            h.code h.class h.method h.tree of h.listed c name there e) in each_name files list is.listed is.world spelt
            name found.0 found.1);
      }

  pub converted : (image : StaticImage) (near : List MemberId) (tables : Tables) → IsLeft files image near codes tables
      → IsConverted files image near tables
  converted image near tables left = record {
    methods = λ m at t row. has_tables tables m (left.tabled m at t row);
    names = each_name files list is.listed is.world spelt;
    exceptions = left.exceptions;
    named = left.named;
    scripted = left.scripted;
    first = left.first;
  }
