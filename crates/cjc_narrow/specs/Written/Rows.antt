-- Tables that say of each instruction whether it is reached. What is written for a method depends on its table by that
-- alone.
use Rattle.std.proofs.Common.{◌≡◌, ℕ, ◌+◌, ◌-◌, refl, ap, ◌∙◌, Bool, true, false, List, [], ◌∷◌, ◌++◌, length}
use Rattle.std.specs.Prelude.{map, Option, Some, None, is_some, replicate}
use Rattle.cjc_types.specs.ClassFile.Code.{CodeTree}
use Rattle.cjc_types.specs.Bytecode.declared.insn.JInsn.{JInsn}
use Rattle.cjc_ncode.specs.declared.narrow.NMethod.{NMethod}
use Rattle.cjc_ncode.specs.Written.{Resolution, catches_at, narrow_code, narrow_method, place_in, reached, sources}
use Rattle.cjc_ncode.specs.Written.{widest_sum, written_for}

-- a row where an instruction is reached
abbrev pub row_if : Bool → Option (Unit {0})
row_if true = Some tt
row_if false = None

-- The rows of a table that says which instructions are reached, and no more.
abbrev pub rows_by : (reached : List Bool) → List (Option (Unit {0}))
rows_by reached = map row_if reached

-- which instructions have a row
abbrev pub has_rows : {A : Type 0} → List (Option A) → List Bool
has_rows rows = map is_some rows

-- a table of which instructions are reached says which are
pub has_rows_by : (flags : List Bool) → has_rows (rows_by flags) ≡ flags
has_rows_by [] = refl
has_rows_by (true ∷ flags) = ap (λ fs. true ∷ fs) (has_rows_by flags)
has_rows_by (false ∷ flags) = ap (λ fs. false ∷ fs) (has_rows_by flags)

same_reached : {A : Type 0} (insns : List JInsn) (rows : List (Option A))
    → reached insns rows ≡ reached insns (rows_by (has_rows rows))
same_reached [] rows = refl
same_reached (i ∷ insns) [] = refl
same_reached (i ∷ insns) (Some row ∷ rows) = ap (λ rest. i ∷ rest) (same_reached insns rows)
same_reached (i ∷ insns) (None ∷ rows) = same_reached insns rows

same_sources : {A : Type 0} (r : Resolution) (k : ℕ) (insns : List JInsn) (rows : List (Option A))
    → sources r k insns rows ≡ sources r k insns (rows_by (has_rows rows))
same_sources r k [] rows = refl
same_sources r k (i ∷ insns) [] = refl
same_sources r k (i ∷ insns) (Some row ∷ rows) = ap (λ rest. replicate (length (written_for r (λ o. 0) i)) k
    ++ rest) (same_sources r (k + 1) insns rows)
same_sources r k (i ∷ insns) (None ∷ rows) = same_sources r (k + 1) insns rows

-- the narrow method over its reached instructions and its sources
built : Resolution → CodeTree → (nargs : ℕ) → (kept : List JInsn) → (from : List ℕ) → NMethod
built r code nargs kept from = record {
  insns = narrow_code r kept;
  from = from;
  catches = catches_at (place_in r kept) code.catches;
  max_stack = code.max_stack;
  nargs = nargs;
  max_locals = code.max_locals - nargs;
  widest = widest_sum kept;
}

-- Any table says as much as which of its rows are there.
pub by_rows_there : {A : Type 0} (r : Resolution) (code : CodeTree) (nargs : ℕ) (insns : List JInsn)
    (rows : List (Option A)) → narrow_method r code nargs insns rows ≡ narrow_method r code nargs insns
    (rows_by (has_rows rows))
unfolding built
by_rows_there r code nargs insns rows =
    ap (λ kept. built r code nargs kept (sources r 0 insns rows)) (same_reached insns rows)
    ∙ ap (built r code nargs (reached insns (rows_by (has_rows rows)))) (same_sources r 0 insns rows)
