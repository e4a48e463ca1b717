-- The scratch pairs that are counted are the greatest number, and where they are no cell is unusable.
use Rattle.std.proofs.Common.{◌≡◌, ℕ, zero, suc, ◌≤◌, max, Bool, true, false, cond, List, [], ◌∷◌, length, slice_get}
use Rattle.std.proofs.Common.{Option, Some, None, refl, sym, ap, ◌∙◌, arith}
use Rattle.std.specs.Prelude.{◌||◌, option_and_then}
use Rattle.std.specs.List.{list_any}
use Rattle.cjc_ncode.specs.Written.{reached}
use Rattle.cjc_ncode.specs.IntCode.IntCode.{scratch_pairs_of}
use Rattle.cjc_flow.specs.LowerFixpoint.Tables.{HasRow}
use Rattle.cjc_flow.specs.Bytecode.declared.insn.JInsn.{JInsn}
use Rattle.cjc_flow.specs.LowerTypes.declared.cell.Cell.{Cell}
use Rattle.cjc_flow.specs.LowerTypes.declared.cell.Cell.TheVariants.{Number, Refs, Unusable}
use Rattle.cjc_flow.specs.LowerTypes.declared.state.State.{State}
use Rattle.cjc_flow.specs.LowerTypes.Search.{cells_of}
use Rattle.cjc_int_mode.specs.Written.{most_pairs}
use Rattle.cjc_int_mode.specs.Working.Pairs.{is_unusable, pairs_from}

-- ---- cells

unusable_is : (c : Cell) → is_unusable c ≡ true → c ≡ Unusable
unusable_is Number e = absurd cc
unusable_is (Refs names) e = absurd cc
unusable_is Unusable e = refl

any_at : (xs : List Cell) → list_any is_unusable xs ≡ true → (k : ℕ) × (slice_get xs k ≡ Some Unusable)
any_at [] e = absurd cc
any_at (x ∷ xs) e = go (is_unusable x) refl (λ f. any_at xs f) e
  where
    go : (b : Bool) → is_unusable x ≡ b
        → (list_any is_unusable xs ≡ true → (k : ℕ) × (slice_get xs k ≡ Some Unusable))
        → (b || list_any is_unusable xs) ≡ true → (k : ℕ) × (slice_get (x ∷ xs) k ≡ Some Unusable)
    go true h further e = (0, ap Some (unusable_is x h))
    go false h further e = let later = further e in (suc later.0, later.1)

none_at : (xs : List Cell) (k : ℕ) → list_any is_unusable xs ≡ false → slice_get xs k ≡ Some Unusable → ⊥
none_at [] k e at = absurd cc
none_at (x ∷ xs) zero e at =
    let is : x ≡ Unusable = let a = at in cc in
    let no : (true || list_any is_unusable xs) ≡ false = ap (λ (c : Cell). is_unusable c || list_any is_unusable xs)
    (sym is) ∙ e in
    absurd cc
none_at (x ∷ xs) (suc k) e at = go (is_unusable x) (λ f. none_at xs k f at) e
  where
    go : (b : Bool) → (list_any is_unusable xs ≡ false → ⊥) → (b || list_any is_unusable xs) ≡ false → ⊥
    go true further e = absurd cc
    go false further e = further e

-- ---- rows

-- what is counted behind an instruction with these scratch pairs
abbrev Behind : List JInsn → List (Option State) → Option ℕ → Option ℕ
Behind insns rows o = option_and_then (λ more. pairs_from more insns rows) o

pub greatest : (pairs : ℕ) (insns : List JInsn) (rows : List (Option State)) (q : ℕ)
    → pairs_from pairs insns rows ≡ Some q → q ≡ max pairs (most_pairs (reached insns rows))
greatest pairs [] rows q e = let is : pairs ≡ q = let f = e in cc in omega (arith, is)
greatest pairs (i ∷ insns) [] q e = let is : pairs ≡ q = let f = e in cc in omega (arith, is)
greatest pairs (i ∷ insns) (None ∷ rows) q e = greatest pairs insns rows q e
greatest pairs (i ∷ insns) (Some x ∷ rows) q e = go (list_any is_unusable (cells_of x.stack))
    (λ f. greatest (max pairs (scratch_pairs_of i.op)) insns rows q f) e
  where
    go : (b : Bool) → (pairs_from (max pairs (scratch_pairs_of i.op)) insns rows ≡ Some q
        → q ≡ max (max pairs (scratch_pairs_of i.op)) (most_pairs (reached insns rows)))
        → Behind insns rows (cond b None (Some (max pairs (scratch_pairs_of i.op)))) ≡ Some q
        → q ≡ max pairs (max (scratch_pairs_of i.op) (most_pairs (reached insns rows)))
    go true further e = absurd cc
    go false further e = let more = further e in omega (arith, more)

pub usable : (pairs : ℕ) (insns : List JInsn) (rows : List (Option State)) (q : ℕ)
    → pairs_from pairs insns rows ≡ Some q → length rows ≤ length insns → (place k : ℕ) (x : State)
    → HasRow rows place x → slice_get (cells_of x.stack) k ≡ Some Unusable → ⊥
usable pairs [] [] q e le place k x row at = absurd cc
usable pairs [] (r ∷ rows) q e le place k x row at = absurd (omega (arith, le))
usable pairs (i ∷ insns) [] q e le place k x row at = absurd cc
usable pairs (i ∷ insns) (None ∷ rows) q e le zero k x row at = absurd cc
usable pairs (i ∷ insns) (None ∷ rows) q e le (suc place) k x row at = usable pairs insns rows q e (omega (arith, le))
    place k x row at
usable pairs (i ∷ insns) (Some y ∷ rows) q e le place k x row at = go (list_any is_unusable (cells_of y.stack)) refl
    (λ f n r. usable (max pairs (scratch_pairs_of i.op)) insns rows q f (omega (arith, le)) n k x r at) e place row
  where
    go : (b : Bool) → list_any is_unusable (cells_of y.stack) ≡ b
        → (pairs_from (max pairs (scratch_pairs_of i.op)) insns rows ≡ Some q → (n : ℕ) → HasRow rows n x → ⊥)
        → Behind insns rows (cond b None (Some (max pairs (scratch_pairs_of i.op)))) ≡ Some q → (place : ℕ)
        → HasRow (Some y ∷ rows) place x → ⊥
    go true h further e place row = absurd cc
    go false h further e zero row =
        let same : y ≡ x = let f = row in cc in
        none_at (cells_of y.stack) k h (ap (λ (s : State). slice_get (cells_of s.stack) k) same ∙ at)
    go false h further e (suc place) row = further e place row

-- some cell of a stack is unusable
abbrev pub AnUnusable : List (Option State) → Type 0
AnUnusable rows = (place : ℕ) × (k : ℕ) × (x : State) × (row : HasRow rows place x) × (slice_get (cells_of x.stack) k
    ≡ Some Unusable)

one_further : (r : Option State) (rows : List (Option State)) → AnUnusable rows → AnUnusable (r ∷ rows)
one_further r rows later = (suc later.0, later.1, later.2, later.3, later.4)

pub unusable : (pairs : ℕ) (insns : List JInsn) (rows : List (Option State)) → pairs_from pairs insns rows ≡ None
    → AnUnusable rows
unusable pairs [] rows e = absurd cc
unusable pairs (i ∷ insns) [] e = absurd cc
unusable pairs (i ∷ insns) (None ∷ rows) e = one_further None rows (unusable pairs insns rows e)
unusable pairs (i ∷ insns) (Some y ∷ rows) e = go (list_any is_unusable (cells_of y.stack)) refl
    (λ f. unusable (max pairs (scratch_pairs_of i.op)) insns rows f) e
  where
    go : (b : Bool) → list_any is_unusable (cells_of y.stack) ≡ b
        → (pairs_from (max pairs (scratch_pairs_of i.op)) insns rows ≡ None → AnUnusable rows)
        → Behind insns rows (cond b None (Some (max pairs (scratch_pairs_of i.op)))) ≡ None
        → AnUnusable (Some y ∷ rows)
    go true h further e = let at = any_at (cells_of y.stack) h in (0, at.0, y, refl, at.1)
    go false h further e = one_further (Some y) rows (further e)
