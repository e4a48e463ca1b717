-- Scratch.
use Rattle.std.specs.Prelude.{◌≡◌, ℕ, ◌+◌, ◌*◌, ◌/◌, ◌%◌, ◌==◌, ◌&&◌, ◌||◌, nat_le, Bool, true, false, List, [], ◌∷◌, ◌++◌, Option}
use Rattle.std.specs.Prelude.{Some, None, option_map, option_and_then, if◌then◌else◌, flat_map, map, position, slice_get, unwrap_or, filter}
use Rattle.std.specs.List.{AllZip, list_all}
use Rattle.std.specs.Str.{bytes_eq}
use Rattle.cjc_capread.specs.Parts.{class_of}
use Rattle.cjc_capread.specs.declared.tree.ClassRef.{ClassRef}
use Rattle.cjc_capread.specs.declared.tree.ClassRef.TheVariants.{Inside, Outside}
use Rattle.cjc_capread.specs.declared.tree.ClassInfo.{ClassInfo}
use Rattle.cjc_capwrite.specs.Parts.{class_bytes}
use Rattle.cjc_card_semantics.specs.Bytecode.Effects.{Letter}
use Rattle.cjc_card_semantics.specs.Bytecode.Effects
use Rattle.cjc_card_semantics.specs.Bytecode.Machine.{shape_of}
use Rattle.cjc_card_semantics.specs.Machine.ByToken.{by_token}
use Rattle.cjc_card_semantics.specs.Machine.Loaded.{ClassNames, CellName, Import, OfFile, Loaded, Part}
use Rattle.cjc_card_semantics.specs.Machine.Classes.{Class, Own, External, external_from, or_else, Info, IsInterface, IsClass}
use Rattle.cjc_card_semantics.specs.Machine.Classes
use Rattle.cjc_card_semantics.specs.Script.Sorts.{Shape, OfClass, OfNumbers, OfReferences, Booleans, Bytes, Shorts, Ints, Element}
use Rattle.cjc_card_semantics.specs.Script.Sorts.{Sort, Signature, field_sort, signature_of, NoValue}
use Rattle.cjc_card_semantics.specs.Script.Sorts as sorts
use Rattle.cjc_check_rules.specs.Complete.{Complete}
use Rattle.cjc_check_rules.specs.Described.{all_starts}
use Rattle.cjc_capread.specs.declared.tree.Export.{Export}
use Rattle.cjc_capread.specs.declared.tree.ExportedClass.{ExportedClass}
use Rattle.cjc_check_rules.specs.ExportFile.declared.tree.ExportTree.{ExportTree}
use Rattle.cjc_world.specs.Classes as world_of
use Rattle.cjc_world.specs.Files.{Files}
use Rattle.cjc_world.specs.Order.{class_order}

abbrev pub ref_to : Class → ClassRef
ref_to (Own part offset) = Inside offset
ref_to (External file token) = Outside file token
abbrev pub class_names : Files → ℕ → world_of.Class → ClassNames
class_names files a c = record { name = c.name; methods = []; fields = []; interface_methods = [] }
abbrev pub files_from : (number : ℕ) → List ExportTree → List Import
files_from k [] = []
files_from k (t ∷ trees) = OfFile k ∷ files_from (k + 1) trees
abbrev pub exported_in : Option Export → List ExportedClass
exported_in None = []
exported_in (Some e) = e.classes
abbrev pub part_of : (applets : Bool) → Files → ℕ → Complete → Part
part_of applets files image c =
    let pool = c.pool in
    let descriptor = c.descriptor in
    record {
      method = c.method;
      pool = pool.entries;
      class = c.class;
      descriptor = descriptor.classes;
      exports = exported_in c.export;
      statics = c.statics;
      imports = files_from 0 files.exports;
      classes = map (class_names files 0) (class_order (world_of.all_classes files));
      cells = [];
    }
pub record Pair : Type 0 where
  pub files : Files
  pub components : Complete
  pub loaded : Loaded
abbrev pub pair_of : (applets : Bool) → Files → ℕ → Complete → Pair
pair_of applets files image c = record {
  files = files;
  components = c;
  loaded = record { parts = part_of applets files image c ∷ []; trees = files.exports };
}
abbrev pub world : Pair → List world_of.Class
world p = world_of.all_classes p.files
abbrev pub starts : Pair → List ℕ
starts p = let c = p.components in all_starts c.class
abbrev pub offset_of : Pair → (name : List ℕ) → Option ℕ
offset_of p name = option_and_then (slice_get (starts p)) (position (λ c. bytes_eq c.name name) (class_order (world p)))
abbrev pub class_named : Pair → (name : List ℕ) → Class
class_named p name = unwrap_or (or_else (option_map (Own 0) (offset_of p name)) (let files = p.files
    in external_from 0 files.exports name)) (Own 0 0)
abbrev pub class_ref : Pair → (name : List ℕ) → ClassRef
class_ref p name = ref_to (class_named p name)
abbrev pub infos : ClassInfo → List Info
infos c = map IsInterface c.interfaces ++ map IsClass c.classes
