-- Items that fill the bytes up to a place, each after what the items before it gave.
use Rattle.std.specs.Prelude.{ℕ, zero, suc, Bool, true, false, nat_lt}
use Rattle.cjc_bytes.specs.Format.{Format, here, gives, ◌>>=◌}

-- the format where the test holds, else this value
abbrev pub or_gives : {S : Type 0} → Bool → Format S → S → Format S
or_gives true p s = p
or_gives false p s = gives s

-- one after the other while they begin before this place, and so many at most
unfoldable pub until : {S : Type 0} → ℕ → ℕ → (S → Format S) → S → Format S
until zero end p s = gives s
until (suc n) end p s = do
  more ← here (λ at. nat_lt at end)
  or_gives more (p s >>= until n end p) s
