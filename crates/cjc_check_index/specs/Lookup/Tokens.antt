-- Places of classes by token, as they are put down one by one.
use Rattle.std.specs.Prelude.{ℕ, Option, Some, None}

-- a place, or else another
abbrev pub or_else : Option ℕ → Option ℕ → Option ℕ
or_else None other = other
or_else (Some k) other = Some k
