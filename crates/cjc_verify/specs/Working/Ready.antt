-- What holds of the tables that the code keeps beside a package.
use Rattle.std.specs.Prelude.{◌≡◌, ℕ, List, map, Some}
use Rattle.cjc_card_calls.specs.declared.files.files.Files.{Files as Kept}
use Rattle.cjc_card_calls.specs.declared.lines.lines.Lines.{Lines}
use Rattle.cjc_card_calls.specs.Files.Files.{AreFiles}
use Rattle.cjc_card_calls.specs.Lines.Lines.{AreLines}
use Rattle.cjc_card_calls.specs.LowerCardLink.declared.tables.Tables.{Tables}
use Rattle.cjc_card_calls.specs.LowerCardLink.Tables.{AreKept, loaded_of}
use Rattle.cjc_pairing.specs.CheckIndex.Lookup.Parts.{complete_of}
use Rattle.cjc_pairing.specs.CheckIndex.declared.lookup.parts.Parts.{Parts}
use Rattle.cjc_check_rules.specs.Complete.{AreSmall}
use Rattle.cjc_classes.specs.ClassInfo.Refs.{ref_of}
use Rattle.cjc_classes.specs.declared.class_info.refs.ClassRefs.{ClassRefs}
use Rattle.cjc_classes.specs.ClassOrder.Classes.Numbers.{declared_at}
use Rattle.cjc_methods.specs.Tokens.Tokens.{Assigned}
use Rattle.cjc_world.specs.declared.image.StaticImage.{StaticImage}
use Rattle.cjc_world.specs.Files.{Files}
use Rattle.cjc_world.specs.Order.{class_order}
use Rattle.cjc_verify.specs.Pairs.{Pair, class_ref, world, starts as starts_of}
use Rattle.cjc_verify.specs.Working.Methods.{facts}
use Rattle.cjc_verify.specs.declared.methods.KnownMethod.{KnownMethod}

-- components beside a package by what the code is lent
abbrev pub pair_by : Files → Assigned → StaticImage → Parts → Tables → Pair
pair_by files tokens image parts tables = record {
  files = files;
  tokens = tokens;
  image = image;
  components = complete_of parts;
  loaded = loaded_of tables;
}

-- The tables are those of the components and of the export files of the package; 32 bits count the components' bytes.
pub record AreReady (p : Pair) (parts : Parts) (tables : Tables) (lines : Lines) (kept : Kept) (refs : ClassRefs)
    (order starts : List ℕ) (methods : List KnownMethod) : Type 0 where
  pub tables_kept : AreKept tables
  pub lines_kept : AreLines (loaded_of tables) lines
  pub files_kept : AreFiles (loaded_of tables) kept
  pub refs_kept : (name : List ℕ) → ref_of refs name ≡ class_ref p name
  pub same_files : (loaded_of tables).trees ≡ (let files = p.files in files.exports)
  pub in_order : map Some (class_order (world p)) ≡ map (declared_at (let files = p.files in files.classes)) order
  pub begin : starts ≡ starts_of p
  pub methods_kept : methods ≡ facts p
  pub small : AreSmall (complete_of parts)
