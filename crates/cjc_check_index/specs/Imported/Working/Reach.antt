-- Marks that go from classes to all that stand below them.
use Rattle.std.specs.Prelude.{◌≡◌, ℕ, ◌+◌, ◌<◌, List, [], ◌∷◌, ◌++◌, length, get_or, set, Bool, true, false}
use Rattle.std.specs.Prelude.{if◌then◌else◌}
use Rattle.cjc_check_index.specs.Imported.Working.Graph.{is_in}

-- a class is marked; one that there is none of counts as marked
abbrev pub with_mark : List Bool → (at : ℕ) → List Bool
with_mark marks at = if get_or marks at true then marks else set marks at true

-- one that was not marked is to be looked at
abbrev pub with_new : List Bool → (stack : List ℕ) → (at : ℕ) → List ℕ
with_new marks stack at = if get_or marks at true then stack else stack ++ at ∷ []

-- the marks once the classes at these places are marked too
abbrev pub marks_after : List Bool → List ℕ → List Bool
marks_after marks [] = marks
marks_after marks (at ∷ places) = marks_after (with_mark marks at) places

-- what is to be looked at once the classes at these places are marked too
abbrev pub stack_after : List Bool → (stack : List ℕ) → List ℕ → List ℕ
stack_after marks stack [] = stack
stack_after marks stack (at ∷ places) = stack_after (with_mark marks at) (with_new marks stack at) places

-- the places that are marked, where the first of these has this place
abbrev pub marked_from : (at : ℕ) → List Bool → List ℕ
marked_from at [] = []
marked_from at (b ∷ marks) = (if b then at ∷ [] else []) ++ marked_from (at + 1) marks

-- how many are not marked
abbrev pub unmarked : List Bool → ℕ
unmarked [] = 0
unmarked (b ∷ marks) = (if b then 0 else 1) + unmarked marks

-- a walk that began with some marks: what is marked has all below it marked, or is to be looked at; and no mark
-- stands without cause
pub record IsWalk (below : List (List ℕ)) (begin marks : List Bool) (stack : List ℕ) : Type 0 where
  pub size : length marks ≡ length begin
  pub kept : (i : ℕ) → get_or begin i false ≡ true → get_or marks i false ≡ true
  pub waits : (j : ℕ) → is_in j stack ≡ true → get_or marks j false ≡ true
  pub closed : (j i : ℕ) → get_or marks j false ≡ true → is_in i (get_or below j []) ≡ true → i < length begin
      → is_in j stack ≡ false → get_or marks i false ≡ true
  pub least : (test : ℕ → Bool) → ((i : ℕ) → get_or begin i false ≡ true → test i ≡ true)
      → ((j i : ℕ) → test j ≡ true → is_in i (get_or below j []) ≡ true → i < length begin → test i ≡ true) → (i : ℕ)
      → get_or marks i false ≡ true → test i ≡ true

-- the marks at its end
abbrev pub IsReached : (below : List (List ℕ)) → (begin marks : List Bool) → Type 0
IsReached below begin marks = IsWalk below begin marks []
