-- Consistent components: eighteen sentences over the components of a package and the export files that it imports, which stand in the
-- order of Import (Java Card Virtual Machine Specification 2.2.2, chapter 6).
use Rattle.std.specs.Prelude.{◌≡◌, ℕ, List, [], ◌∷◌, Bool, true, not, ◌&&◌, ◌||◌, Option, Some, None}
use Rattle.std.specs.List.{list_all}
use Rattle.cjc_capread.specs.declared.tree.CapTree.{CapTree}
use Rattle.cjc_export.specs.declared.tree.ExportTree.{ExportTree}
use Rattle.cjc_first.specs.Sentences.Complete.{Complete, complete}
use Rattle.cjc_first.specs.Sentences.Directory.{directory_agrees, flags_agree}
use Rattle.cjc_first.specs.Sentences.Imports.{imports_agree}
use Rattle.cjc_first.specs.Sentences.ClassRefs.{classes_are_there, supers_fit}
use Rattle.cjc_first.specs.Sentences.Tables.{tables_hold_methods, maps_hold_tokens}
use Rattle.cjc_first.specs.Sentences.PoolEntries.{members_are_there}
use Rattle.cjc_first.specs.Sentences.Methods.{methods_are_whole, codes_are_closed, indices_have_tags}
use Rattle.cjc_first.specs.Sentences.Handlers.{handlers_stand, stop_bits_fit}
use Rattle.cjc_first.specs.Sentences.Locations.{locations_are_listed}
use Rattle.cjc_first.specs.Sentences.Statics.{installs_are_static, image_adds_up}
use Rattle.cjc_first.specs.Sentences.Described.{exports_are_described, descriptor_is_whole}

-- a sentence: the number of the rule that it breaks where it is false, whether those that it needs, through others too, are true, and
-- whether it is true
pub record Sentence : Type 0 where
  pub number : ℕ
  pub needed : Bool
  pub holds : Bool

abbrev pub sentence : ℕ → Bool → Bool → Sentence
sentence number needed holds = record { number = number; needed = needed; holds = holds }

-- of components of which only Applet and Export may be absent
abbrev pub of_complete : Complete → List ExportTree → List Sentence
of_complete c exports =
    let imports = imports_agree c exports in
    let classes = classes_are_there c exports in
    let supers = supers_fit c exports in
    let whole = methods_are_whole c in
    sentence 703 true imports
    ∷ sentence 704 imports classes
    ∷ sentence 705 (imports && classes) supers
    ∷ sentence 706 (imports && classes && supers) (tables_hold_methods c)
    ∷ sentence 707 (imports && classes && supers) (maps_hold_tokens c exports)
    ∷ sentence 708 (imports && classes && supers) (members_are_there c exports)
    ∷ sentence 709 true whole
    ∷ sentence 710 whole (codes_are_closed c)
    ∷ sentence 711 whole (indices_have_tags c)
    ∷ sentence 712 whole (handlers_stand c)
    ∷ sentence 713 true (stop_bits_fit c)
    ∷ sentence 714 whole (locations_are_listed c)
    ∷ sentence 715 true (installs_are_static c)
    ∷ sentence 716 true (image_adds_up c)
    ∷ sentence 717 true (exports_are_described c)
    ∷ sentence 718 true (descriptor_is_whole c)
    ∷ []

-- where another component is absent, which breaks 701, nothing more is tested
abbrev pub where_complete : Option Complete → List ExportTree → List Sentence
where_complete None exports = []
where_complete (Some c) exports = of_complete c exports

abbrev pub sentences : CapTree → List ExportTree → List Sentence
sentences cap exports =
    sentence 701 true (directory_agrees cap)
    ∷ sentence 702 true (flags_agree cap)
    ∷ where_complete (complete cap) exports

-- a sentence counts as true where one that it needs is false
abbrev pub counts_as_true : Sentence → Bool
counts_as_true s = not s.needed || s.holds

-- The components are consistent with the export files: every sentence is true.
abbrev pub Consistent : CapTree → List ExportTree → Type 0
Consistent cap exports = list_all (λ s. s.holds) (sentences cap exports) ≡ true

-- Every sentence counts as true.
abbrev pub Unbroken : CapTree → List ExportTree → Type 0
Unbroken cap exports = list_all counts_as_true (sentences cap exports) ≡ true
