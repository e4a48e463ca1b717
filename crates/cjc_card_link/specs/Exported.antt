-- The classes of export files, and what is kept so that each is found at once.
use Rattle.std.specs.Prelude.{◌≡◌, ℕ, List, map, Option, option_and_then, slice_get}
use Rattle.cjc_card_semantics.specs.ExportFile.declared.tree.ExportClass.{ExportClass}
use Rattle.cjc_card_semantics.specs.ExportFile.declared.tree.ExportTree.{ExportTree}
use Rattle.cjc_check_index.specs.Lookup.Indexed.{places_of}
use Rattle.cjc_card_semantics.specs.Machine.Classes.{with_token, external_from}
use Rattle.cjc_card_link.specs.declared.indices.Classes.{Classes}
use Rattle.cjc_card_link.specs.Indices.{class_under}

-- the class of an export file by its token
abbrev pub exported_class : List ExportTree → (tree token : ℕ) → Option ExportClass
exported_class trees tree token = option_and_then (λ t. with_token t.classes token) (slice_get trees tree)

-- Places are by token, and classes by name.
pub record AreExported (trees : List ExportTree) (tokens : List (List (Option ℕ))) (names : Classes) : Type 0 where
  pub by_token : tokens ≡ map (λ t. places_of t.classes) trees
  pub by_name : (x : List ℕ) → class_under names x ≡ external_from 0 trees x
