-- Components by modes are consistent where those without modes are: they differ in the flag ACC_INT of Header, which no
-- sentence on components reads.
use Rattle.std.proofs.Common.{◌≡◌, refl, sym, subst, ◌∙◌, Bool, true, false, List, ◌∷◌, ◌||◌}
use Rattle.std.specs.Prelude.{is_some}
use Rattle.std.specs.List.{list_all}
use Rattle.cjc_check_proof.specs.CapRead.declared.tree.CapTree.{CapTree}
use Rattle.cjc_check_proof.specs.CapRead.declared.tree.Header.{Header}
use Rattle.cjc_check_proof.specs.CheckRules.Complete.{complete}
use Rattle.cjc_check_proof.specs.CheckRules.Consistent.{Consistent, Sentence, is_true, sentence, where_complete}
use Rattle.cjc_check_proof.specs.CheckRules.Listed.{directory_spots, flags_spots}
use Rattle.cjc_check_proof.specs.LowerComponents.Components.{components_of, header, header_flags, uses_int}
use Rattle.cjc_check_proof.specs.LowerComponents.Exports.{export}
use Rattle.cjc_check_proof.specs.LowerComponents.Package.{Package, has_applets, world}
use Rattle.cjc_check_proof.specs.LowerExportFile.declared.tree.ExportTree.{ExportTree}
use Rattle.cjc_int_components.specs.Components.{components_by_modes, has_int_mode}
use Rattle.cjc_int_components.specs.Modes.{Tables}

-- ---- 702

module _ (cap : CapTree) (h : Header) where
  abbrev with_flags : (int export applet : Bool) → CapTree
  with_flags int export applet = record cap { header = record h { flags = header_flags int export applet } }

  without_int : (int export applet : Bool) → flags_spots (with_flags int export applet)
      ≡ flags_spots (with_flags false export applet)
  without_int false export applet = refl
  without_int true true true = refl
  without_int true true false = refl
  without_int true false true = refl
  without_int true false false = refl

  flags_alike : (one other export applet : Bool) → flags_spots (with_flags one export applet)
      ≡ flags_spots (with_flags other export applet)
  flags_alike one other export applet = without_int one export applet ∙ sym (without_int other export applet)

-- ---- all sentences

pub consistent_by_modes : (t : Tables) (p : Package) (exports : List ExportTree)
    → Consistent (components_of p) exports → Consistent (components_by_modes t p) exports
consistent_by_modes t p exports is =
    subst (λ flags. list_all (λ (s : Sentence). is_true s.spots)
    (sentence 701 true (directory_spots (components_of p)) ∷ sentence 702 true flags
    ∷ where_complete (complete (components_of p)) exports) ≡ true)
    (flags_alike (components_of p) (header p) (uses_int (world p)) (uses_int (world p) || has_int_mode t p)
    (is_some (export p)) (has_applets p)) is
