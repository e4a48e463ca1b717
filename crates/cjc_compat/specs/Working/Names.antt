-- The names that the code notes.
use Rattle.std.specs.Prelude.{ℕ, List, Bool, is_some}
use Rattle.std.specs.HashMap.{get_by}
use Rattle.std.specs.Str.{bytes_eq}
use Rattle.cjc_compat.specs.declared.names.Names.{Names}

-- whether a name is noted
abbrev pub is_noted : Names → List ℕ → Bool
is_noted names x = is_some (get_by (λ k. bytes_eq x k.items) names.kept)
