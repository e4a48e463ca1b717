-- The classes of export files by their names.
use Rattle.std.specs.Prelude.{◌≡◌, ℕ, List, Option, Bool, is_some}
use Rattle.std.specs.Borrow.{Bor}
use Rattle.std.specs.HashMap.{get_by}
use Rattle.std.specs.Option.{option_copied}
use Rattle.std.specs.Str.{bytes_eq}
use Rattle.cjc_card_semantics.specs.ExportFile.declared.tree.ExportClass.{ExportClass}
use Rattle.cjc_card_semantics.specs.ExportFile.Supers.{class_named, super_count}
use Rattle.cjc_card_calls.specs.declared.files.named.ByName.{ByName}
use Rattle.cjc_card_calls.specs.declared.files.upwards.Passed.{Passed}

-- what is kept under a name
abbrev pub kept_under : ByName → List ℕ → Option (Bor ExportClass)
kept_under names name = get_by (λ k. bytes_eq name k) names.kept

-- what class that is
abbrev pub class_under : ByName → List ℕ → Option ExportClass
class_under names name = option_copied (kept_under names name)

-- The first class of each name is kept under it, and this many supers are listed.
pub record AreNamed (classes : List ExportClass) (names : ByName) (supers : ℕ) : Type 0 where
  pub by_name : (x : List ℕ) → class_under names x ≡ class_named classes x
  pub count : supers ≡ super_count classes

-- what is kept under a name that was passed
abbrev pub mark_under : Passed → List ℕ → Option Bool
mark_under passed name = get_by (λ k. bytes_eq name k) passed.kept

-- a name was passed
abbrev pub is_passed : Passed → List ℕ → Bool
is_passed passed name = is_some (mark_under passed name)
