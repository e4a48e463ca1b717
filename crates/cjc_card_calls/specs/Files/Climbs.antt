-- Going upwards: what is met so far, and what is still met.
use Rattle.std.specs.Prelude.{ℕ, zero, suc, ◌||◌, List, [], ◌∷◌, ◌++◌, Bool, if◌then◌else◌}
use Rattle.std.specs.Str.{bytes_eq}
use Rattle.cjc_card_semantics.specs.ExportFile.declared.tree.ExportClass.{ExportClass}
use Rattle.cjc_card_semantics.specs.ExportFile.Supers.{class_named, with_class}
use Rattle.cjc_card_calls.specs.declared.files.upwards.Climb.{Climb}
use Rattle.cjc_card_calls.specs.Files.Files.{classes_at}
use Rattle.cjc_card_calls.specs.Files.Named.{is_passed}

-- The classes of names and what stands above them, in so many names at most, without the names that were passed.
abbrev pub climb_from : List ExportClass → (steps : ℕ) → (passed : List ℕ → Bool) → (names : List (List ℕ))
    → List ExportClass
climb_from classes zero passed names = []
climb_from classes (suc n) passed [] = []
climb_from classes (suc n) passed (x ∷ names) =
    if passed x then climb_from classes n passed names
    else with_class (class_named classes x) names (λ more. climb_from classes n (λ y. bytes_eq x y || passed y) more)

-- the line, and what so many more steps put at its end
abbrev pub climbed : List ExportClass → (steps : ℕ) → Climb → List ExportClass
climbed classes n c = classes_at c.line.items ++ climb_from classes n (is_passed c.passed) c.left
