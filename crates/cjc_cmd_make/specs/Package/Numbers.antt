-- The numbers that a package is made from.
use Rattle.std.specs.Prelude.{ℕ, zero, suc, ◌+◌, ◌*◌, ◌%◌, List, [], ◌∷◌, ◌++◌}

-- the number behind one in a sequence of 16-bit numbers
abbrev pub number_behind : ℕ → ℕ
number_behind x = (25173 * x + 13849) % 65536

-- the numbers of the sequence by their places from 0 on; the low 16 bits of the given number stand first
unfoldable pub number_at : (given place : ℕ) → ℕ
number_at given zero = given % 65536
number_at given (suc place) = number_behind (number_at given place)

-- a number from 1000 to 30999
abbrev pub operand_of : ℕ → ℕ
operand_of x = 1000 + x % 30000

-- what class i adds
abbrev pub addend : (given i : ℕ) → ℕ
addend given i = operand_of (number_at given (2 * i + 1))

-- what class i combines bit by bit, by exclusive or
abbrev pub mask : (given i : ℕ) → ℕ
mask given i = operand_of (number_at given (2 * i + 2))

-- the numbers below this one, ascending
unfoldable pub below : ℕ → List ℕ
below zero = []
below (suc n) = below n ++ n ∷ []
