-- Limits on sums, tested by counting an allowance down: what is left of it.
use Rattle.std.specs.Prelude.{ℕ, ◌-◌, nat_le, if◌then◌else◌, Option, Some, None}

-- what a sum leaves of an allowance
abbrev pub left_of : (allowance sum : ℕ) → Option ℕ
left_of allowance sum = if nat_le sum allowance then Some (allowance - sum) else None
