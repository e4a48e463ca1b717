-- Words on numbers and flags that the tables use.
use Rattle.std.specs.Prelude.{ℕ, Bool, true, false, nat_lt, ◌==◌, if◌then◌else◌, Option, Some, None, Result, Ok, Err}
use Rattle.std.specs.Prelude.{bit_and}

-- the one number that may stand there
abbrev pub exactly : ℕ → ℕ → Option ℕ
exactly m n = if n == m then Some n else None

-- the place of an earlier field, where it breaks its table after all
abbrev pub broken_where : ℕ → Bool → Result Unit ℕ
broken_where place true = Err place
broken_where place false = Ok tt
