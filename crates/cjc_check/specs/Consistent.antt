-- Consistent components: eighteen sentences over the components of a package and the export files that it imports, which stand in the
-- order of Import (Java Card Virtual Machine Specification 2.2.2, chapter 6).
use Rattle.std.specs.Prelude.{◌≡◌, ℕ, List, [], ◌∷◌, Bool, true, not, ◌==◌, ◌&&◌, ◌||◌, Option, Some, None}
use Rattle.std.specs.List.{list_all, list_any}
use Rattle.cjc_capread.specs.declared.tree.CapTree.{CapTree}
use Rattle.cjc_export.specs.declared.tree.ExportTree.{ExportTree}
use Rattle.cjc_check.specs.Complete.{Complete, complete}
use Rattle.cjc_check.specs.Directory.{directory_agrees, flags_agree}
use Rattle.cjc_check.specs.Imports.{imports_agree}
use Rattle.cjc_check.specs.ClassRefs.{classes_are_there, supers_fit}
use Rattle.cjc_check.specs.Tables.{tables_hold_methods, maps_hold_tokens}
use Rattle.cjc_check.specs.PoolEntries.{members_are_there}
use Rattle.cjc_check.specs.Methods.{methods_are_whole, codes_are_closed, indices_have_tags}
use Rattle.cjc_check.specs.Handlers.{handlers_stand, stop_bits_fit}
use Rattle.cjc_check.specs.Locations.{locations_are_listed}
use Rattle.cjc_check.specs.Statics.{installs_are_static, image_adds_up}
use Rattle.cjc_check.specs.Described.{exports_are_described, descriptor_is_whole}

-- a sentence: the number of the rule that it breaks where it is false, the sentences that it needs, through others too, and whether it is true
pub record Sentence : Type 0 where
  pub number : ℕ
  pub needs : List ℕ
  pub holds : Bool

abbrev pub sentence : ℕ → List ℕ → Bool → Sentence
sentence number needs holds = record { number = number; needs = needs; holds = holds }

-- of components of which only Applet and Export may be absent
abbrev pub of_complete : Complete → List ExportTree → List Sentence
of_complete c exports =
    sentence 703 [] (imports_agree c exports)
    ∷ sentence 704 (703 ∷ []) (classes_are_there c exports)
    ∷ sentence 705 (703 ∷ 704 ∷ []) (supers_fit c exports)
    ∷ sentence 706 (703 ∷ 704 ∷ 705 ∷ []) (tables_hold_methods c)
    ∷ sentence 707 (703 ∷ 704 ∷ 705 ∷ []) (maps_hold_tokens c exports)
    ∷ sentence 708 (703 ∷ 704 ∷ 705 ∷ []) (members_are_there c exports)
    ∷ sentence 709 [] (methods_are_whole c)
    ∷ sentence 710 (709 ∷ []) (codes_are_closed c)
    ∷ sentence 711 (709 ∷ []) (indices_have_tags c)
    ∷ sentence 712 (709 ∷ []) (handlers_stand c)
    ∷ sentence 713 [] (stop_bits_fit c)
    ∷ sentence 714 (709 ∷ []) (locations_are_listed c)
    ∷ sentence 715 [] (installs_are_static c)
    ∷ sentence 716 [] (image_adds_up c)
    ∷ sentence 717 [] (exports_are_described c)
    ∷ sentence 718 [] (descriptor_is_whole c)
    ∷ []

-- where another component is absent, which breaks 701, nothing more is tested
abbrev pub where_complete : Option Complete → List ExportTree → List Sentence
where_complete None exports = []
where_complete (Some c) exports = of_complete c exports

abbrev pub sentences : CapTree → List ExportTree → List Sentence
sentences cap exports =
    sentence 701 [] (directory_agrees cap)
    ∷ sentence 702 [] (flags_agree cap)
    ∷ where_complete (complete cap) exports

-- one of these numbers is that of a false sentence
abbrev pub lacks : List Sentence → List ℕ → Bool
lacks all needs = list_any (λ n. list_any (λ s. s.number == n && not s.holds) all) needs

-- a sentence counts as true where one that it needs is false
abbrev pub counts_as_true : List Sentence → Sentence → Bool
counts_as_true all s = lacks all s.needs || s.holds

-- The components are consistent with the export files: every sentence counts as true, so that every one is true.
abbrev pub Consistent : CapTree → List ExportTree → Type 0
Consistent cap exports = list_all (λ s. s.holds) (sentences cap exports) ≡ true
