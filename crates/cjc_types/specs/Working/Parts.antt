-- Lists that are cut into parts.
use Rattle.std.specs.Prelude.{List, flat_map}

-- the parts one after another
abbrev pub bottom_up : {X : Type 0} → List (List X) → List X
bottom_up parts = flat_map (λ part. part) parts
