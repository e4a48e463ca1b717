-- The code's table of opcodes has the rows of the ranges: the checker computes those of all 256.
use Rattle.std.specs.Prelude.{◌≡◌, ℕ, zero, suc, ◌+◌, ◌<◌, List, [], ◌∷◌, Some, length, slice_get, get_or}
use Rattle.std.proofs.Common.{refl, ap, ◌∙◌, arith}
use Rattle.std.proofs.lemmas.Option.{slice_get-get_or}
use Rattle.cjc_code.specs.declared.table.TheConstants.{TABLE}
use Rattle.cjc_code.specs.declared.table.Operands.{Operands}
use Rattle.cjc_code.specs.declared.table.Family.{Family}
use Rattle.cjc_code.specs.Table.{row}

-- the rows of so many opcodes from this one on
abbrev pub rows_from : (opcode : ℕ) → ℕ → List (Operands × Family)
rows_from opcode zero = []
rows_from opcode (suc n) = row opcode ∷ rows_from (suc opcode) n

table_is : TABLE ≡ rows_from 0 256
unfolding row
table_is = refl

get_or-rows_from : (n opcode k : ℕ) (d : Operands × Family) → k < n → get_or (rows_from opcode n) k d ≡ row (opcode + k)
get_or-rows_from zero opcode k d h = absurd (omega (arith, h))
get_or-rows_from (suc n) opcode zero d h = ap row (omega arith)
get_or-rows_from (suc n) opcode (suc k) d h = get_or-rows_from n (suc opcode) k d (omega (arith, h))
    ∙ ap row (omega arith)

pub get_or-table : (opcode : ℕ) (d : Operands × Family) → opcode < 256 → get_or TABLE opcode d ≡ row opcode
get_or-table opcode d h = ap (λ t. get_or t opcode d) table_is ∙ get_or-rows_from 256 0 opcode d h
    ∙ ap row (omega arith)

pub slice_get-table : (opcode : ℕ) → opcode < 256 → slice_get TABLE opcode ≡ Some (row opcode)
slice_get-table opcode h =
    let inside : opcode < length TABLE = h in
    slice_get-get_or TABLE opcode (row 0) inside ∙ ap Some (get_or-table opcode (row 0) h)
