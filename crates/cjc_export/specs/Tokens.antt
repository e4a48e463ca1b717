-- The tokens of the classes of an export file (Java Card Virtual Machine Specification 2.2.2, 5.7).
use Rattle.std.specs.Prelude.{◌≡◌, ℕ, List, [], ◌∷◌, Bool, true, false, ◌==◌, ◌&&◌, ◌||◌, not}
use Rattle.std.specs.List.{list_all}
use Rattle.cjc_export.specs.declared.tree.ExportClass.{ExportClass}
use Rattle.cjc_export.specs.declared.tree.ExportTree.{ExportTree}

-- one of the classes has the token
abbrev pub has_token : ℕ → List ExportClass → Bool
has_token token [] = false
has_token token (c ∷ classes) = c.token == token || has_token token classes

-- no two of the classes have the same token
abbrev pub own_tokens : List ExportClass → Bool
own_tokens [] = true
own_tokens (c ∷ classes) = not (has_token c.token classes) && own_tokens classes

-- In each tree every class has a token of its own.
abbrev pub HaveOwnTokens : List ExportTree → Type 0
HaveOwnTokens trees = list_all (λ t. own_tokens t.classes) trees ≡ true
