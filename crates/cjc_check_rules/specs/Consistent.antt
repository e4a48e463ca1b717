-- Consistent components: eighteen sentences over the components of a package and the export files that it imports,
-- which stand in the
-- order of Import (Java Card Virtual Machine Specification 2.2.2, chapter 6). What is true and where it is false come
-- from one text: a
-- sentence is the list of the places where it is broken.
use Rattle.std.specs.Prelude.{◌≡◌, ℕ, List, [], ◌∷◌, map, flat_map, Bool, true, ◌==◌, ◌&&◌, if◌then◌else◌, Option, Some}
use Rattle.std.specs.Prelude.{None, codes}
use Rattle.std.specs.List.{list_all}
use Rattle.cjc_export.specs.Bytes.declared.order.FileKey.TheVariants as keys
use Rattle.cjc_export.specs.Bytes.Refused.{in_file}
use Rattle.cjc_export.specs.Bytes.Breaks.{Break, broken_at, RulePlace as Place}
use Rattle.cjc_capread.specs.declared.tree.CapTree.{CapTree}
use Rattle.cjc_export.specs.declared.tree.ExportTree.{ExportTree}
use Rattle.cjc_check_rules.specs.Spots.{ComponentPlace}
use Rattle.cjc_check_rules.specs.Complete.{Complete, complete}
use Rattle.cjc_check_rules.specs.Listed.{directory_spots, flags_spots}
use Rattle.cjc_check_rules.specs.Imports.{import_spots}
use Rattle.cjc_check_rules.specs.ClassRefs.{class_ref_spots, super_spots}
use Rattle.cjc_check_rules.specs.Tables.{table_spots, map_spots}
use Rattle.cjc_check_rules.specs.PoolEntries.{pool_spots}
use Rattle.cjc_check_rules.specs.Codes.{whole_spots}
use Rattle.cjc_check_rules.specs.Instructions.{jump_spots, index_spots, is_empty}
use Rattle.cjc_check_rules.specs.Handlers.{handler_spots, stop_spots}
use Rattle.cjc_check_rules.specs.Locations.{location_spots}
use Rattle.cjc_check_rules.specs.Statics.{install_spots, image_spots}
use Rattle.cjc_check_rules.specs.Exports.{export_spots}
use Rattle.cjc_check_rules.specs.Described.{descriptor_spots}

-- ---- the sentences

-- a sentence: the number of the rule that it breaks where it is false, whether those that it needs, through others too,
-- are true, and
-- where it is broken
pub record Sentence : Type 0 where
  pub number : ℕ
  pub needed : Bool
  pub spots : List ComponentPlace

-- a sentence by its number, whether those that it needs are true, and where it is broken
abbrev pub sentence : ℕ → Bool → List ComponentPlace → Sentence
sentence number needed spots = record { number = number; needed = needed; spots = spots }

-- it is true where it is broken nowhere
abbrev pub is_true : List ComponentPlace → Bool
is_true spots = is_empty spots

-- Of components of which only Applet and Export may be absent. 704 needs 703, 705 needs 704, and 706 to 708 need 705;
-- 710, 711, 712 and
-- 714 need 709.
abbrev pub of_complete : Complete → List ExportTree → List Sentence
of_complete c exports =
    let imports = is_true (import_spots c.import exports) in
    let refs = imports && is_true (class_ref_spots c exports) in
    let supers = refs && is_true (super_spots c exports) in
    let whole = is_true (whole_spots c) in
    sentence 703 true (import_spots c.import exports)
    ∷ sentence 704 imports (class_ref_spots c exports)
    ∷ sentence 705 refs (super_spots c exports)
    ∷ sentence 706 supers (table_spots c)
    ∷ sentence 707 supers (map_spots c exports)
    ∷ sentence 708 supers (pool_spots c exports)
    ∷ sentence 709 true (whole_spots c)
    ∷ sentence 710 whole (jump_spots c)
    ∷ sentence 711 whole (index_spots c)
    ∷ sentence 712 whole (handler_spots c)
    ∷ sentence 713 true (stop_spots c.method)
    ∷ sentence 714 whole (location_spots c)
    ∷ sentence 715 true (install_spots c)
    ∷ sentence 716 true (image_spots c.statics)
    ∷ sentence 717 true (export_spots c)
    ∷ sentence 718 true (descriptor_spots c)
    ∷ []

-- where another component is absent, which breaks 701, nothing more is tested
abbrev pub where_complete : Option Complete → List ExportTree → List Sentence
where_complete None exports = []
where_complete (Some c) exports = of_complete c exports

-- all sentences on the components of a package beside the export files that it imports, in the order of numbers
abbrev pub sentences : CapTree → List ExportTree → List Sentence
sentences cap exports =
    sentence 701 true (directory_spots cap)
    ∷ sentence 702 true (flags_spots cap)
    ∷ where_complete (complete cap) exports

-- The components are consistent with the export files: every sentence is true.
abbrev pub Consistent : CapTree → List ExportTree → Type 0
Consistent cap exports = list_all (λ s. is_true s.spots) (sentences cap exports) ≡ true

-- ---- what is broken

-- the name of a component's file by its tag, the folder aside
abbrev pub file_name : (tag : ℕ) → List ℕ
file_name tag =
    if tag == 1 then codes "Header.cap"
    else if tag == 2 then codes "Directory.cap"
    else if tag == 3 then codes "Applet.cap"
    else if tag == 4 then codes "Import.cap"
    else if tag == 5 then codes "ConstantPool.cap"
    else if tag == 6 then codes "Class.cap"
    else if tag == 7 then codes "Method.cap"
    else if tag == 8 then codes "StaticField.cap"
    else if tag == 9 then codes "RefLocation.cap"
    else if tag == 10 then codes "Export.cap"
    else codes "Descriptor.cap"

-- a place of a component as a refusal tells it
abbrev pub place_of : ComponentPlace → Place
place_of s = record {
  file = keys.Component s.component;
  class = 0;
  member = 0;
  place = in_file (file_name s.component) s.offset;
}

-- a rule broken at a place of a component
abbrev pub break_at : (number : ℕ) → ComponentPlace → Break
break_at number s = broken_at (place_of s) number

-- a sentence counts as true where one that it needs is false
abbrev pub breaks_of : Sentence → List Break
breaks_of s = if s.needed then map (break_at s.number) s.spots else []

-- What is broken, sentence by sentence. The first of these in the order of refusals is answered.
abbrev pub breaks : CapTree → List ExportTree → List Break
breaks cap exports = flat_map breaks_of (sentences cap exports)

-- Every sentence counts as true.
abbrev pub Unbroken : CapTree → List ExportTree → Type 0
Unbroken cap exports = breaks cap exports ≡ []
