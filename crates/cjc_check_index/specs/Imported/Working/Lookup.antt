-- Answers as they are looked up: of a class by its place among all.
use Rattle.std.specs.Prelude.{ℕ, List, [], get_or, Bool, false, Option, Some, None}
use Rattle.cjc_check_rules.specs.ExportFile.declared.tree.ExportClass.{ExportClass}

-- in rows by token
abbrev pub answer_by_token : List (List Bool) → (token : ℕ) → Option ℕ → Bool
answer_by_token rows token None = false
answer_by_token rows token (Some at) = get_or (get_or rows token []) at false

-- in tables of classes
abbrev pub answer_of_class : List (List Bool) → (token : ℕ) → Option ℕ → Bool
answer_of_class tables token None = false
answer_of_class tables token (Some at) = get_or (get_or tables at []) token false

-- a test of a class that is there
abbrev pub holds_of : (test : ExportClass → Bool) → Option ExportClass → Bool
holds_of test None = false
holds_of test (Some c) = test c
