-- A push does the same on both machines.
use Rattle.std.proofs.Common.{◌≡◌, ℕ, zero, suc, ◌+◌, ◌<◌, refl, sym, ap, ◌∙◌, arith, Bool, true, false, List, [], ◌∷◌, ◌++◌, length, replicate, ℤ, pos, negsuc}
use Rattle.std.specs.Prelude.{◌≤ℤ◌, Option, Some, slice_get, nat_lt, ◌&&◌, if◌then◌else◌, map}
use Rattle.std.proofs.lemmas.Bool.{ltb-true}
use Rattle.cjc_code.specs.declared.insn.JOp.{JOp}
use Rattle.cjc_code.specs.declared.insn.JOp.TheVariants as jop
use Rattle.cjc_script.specs.declared.value.Value.{Value}
use Rattle.cjc_script.specs.declared.value.Value.TheVariants.{Num, Null, Obj}
use Rattle.cjc_script.specs.declared.report.Thing.{Thing}
use Rattle.cjc_first.specs.Scripts.Types.{Short}
use Rattle.cjc_first.specs.Scripts.Fits.{all_fit, lies_in}
use Rattle.cjc_first.specs.NameMachine.ByName.{Store, does, local_of, pushed, low_word}
use Rattle.cjc_first.specs.NameMachine.ByName
use Rattle.cjc_first.specs.TokenMachine.Cells.{Cell, Word}
use Rattle.cjc_first.specs.TokenMachine.Cells
use Rattle.cjc_first.specs.TokenMachine.Rows.{Does, Fetched, fetch, push, push_local, sload}
use Rattle.cjc_first.specs.TokenMachine.Rows
use Rattle.cjc_first.specs.TokenMachine.ByToken.{cell_of}
use Rattle.cjc_first.specs.FirstForm.{is_push}
use Rattle.cjc_first.specs.Selected.{selected}
use Rattle.cjc_words.proofs.Words.{low_word_same, low_word_ends}
use Rattle.cjc_first.proofs.Codes.{and_true, lies_true, found, fetch-constant, fetch-load}

-- ---- arguments

-- a local that holds a parameter, on both machines
pub record IsParam (args : List Value) (more : List (Option Value)) (cells' : List (Option Cell)) (l : ℕ) : Type 0 where
  pub x : ℤ
  pub named : slice_get (map (λ v. Some v) args ++ more) l ≡ Some (Some (Num x))
  pub card : slice_get (map (λ c. Some c) (map cell_of args) ++ cells') l ≡ Some (Some (Word x))
  pub low : negsuc 32767 ≤ℤ x
  pub high : x ≤ℤ pos 32767

module _ (sub : List ℕ → List ℕ → Bool) (heap : List Thing) where
  pub param_at : (k : ℕ) (args : List Value) (more : List (Option Value)) (cells' : List (Option Cell)) → all_fit sub heap (replicate k Short) args ≡ true → (l : ℕ) → l < k → IsParam args more cells' l
  param_at zero args more cells' e l h = absurd (omega arith)
  param_at (suc k) [] more cells' e l h = cc
  param_at (suc k) (Num x ∷ args) more cells' e zero h =
      let both = and_true (lies_in (negsuc 32767) (pos 32767) x) (all_fit sub heap (replicate k Short) args) e in
      let w = lies_true (negsuc 32767) (pos 32767) x both.0 in
      record { x = x; named = refl; card = refl; low = w.0; high = w.1 }
  param_at (suc k) (Num x ∷ args) more cells' e (suc l) h =
      let both = and_true (lies_in (negsuc 32767) (pos 32767) x) (all_fit sub heap (replicate k Short) args) e in
      let r = param_at k args more cells' both.1 l (omega arith) in
      record { x = r.x; named = r.named; card = r.card; low = r.low; high = r.high }
  param_at (suc k) (Null ∷ args) more cells' e l h = cc
  param_at (suc k) (Obj o ∷ args) more cells' e l h = cc

  pub args_length : (k : ℕ) (args : List Value) → all_fit sub heap (replicate k Short) args ≡ true → length args ≡ k
  args_length zero [] e = refl
  args_length zero (v ∷ args) e = cc
  args_length (suc k) [] e = cc
  args_length (suc k) (Num x ∷ args) e = ap suc (args_length k args (and_true (lies_in (negsuc 32767) (pos 32767) x) (all_fit sub heap (replicate k Short) args) e).1)
  args_length (suc k) (Null ∷ args) e = cc
  args_length (suc k) (Obj o ∷ args) e = cc

-- whether values are so many shorts asks neither of the classes nor of the heap
pub fits_alike : (sub sub' : List ℕ → List ℕ → Bool) (heap heap' : List Thing) (k : ℕ) (args : List Value) → all_fit sub heap (replicate k Short) args ≡ all_fit sub' heap' (replicate k Short) args
fits_alike sub sub' heap heap' zero [] = refl
fits_alike sub sub' heap heap' zero (v ∷ args) = refl
fits_alike sub sub' heap heap' (suc k) [] = refl
fits_alike sub sub' heap heap' (suc k) (Num x ∷ args) = ap (λ t. lies_in (negsuc 32767) (pos 32767) x && t) (fits_alike sub sub' heap heap' k args)
fits_alike sub sub' heap heap' (suc k) (Null ∷ args) = refl
fits_alike sub sub' heap heap' (suc k) (Obj o ∷ args) = refl

-- ---- pushes

module _ (room : ℕ) (locals : List (Option Value)) (store : Store) (cells' : List (Option Cell)) (store' : Cells.Store) where
  pub record Pushes (op : JOp) (at : ℕ) (stack : List Value) (cells : List Cell) : Type 0 where
    pub x : ℤ
    pub y : ℤ
    pub same : y ≡ low_word x
    pub named : does op room at locals store stack ≡ ByName.Go (at + 1) (Num x ∷ stack) locals store
    pub row : Does
    pub fetched : (more : List ℕ) → fetch (selected op ++ more) ≡ found row (length (selected op))
    pub card : (next : ℕ) → row room next cells' store' cells ≡ Rows.Go next (Word y ∷ cells) cells' store'

  -- a word is pushed where there is room
  push_goes : (y : ℤ) (next : ℕ) (cells : List Cell) → nat_lt (length cells) room ≡ true → push y room next cells' store' cells ≡ Rows.Go next (Word y ∷ cells) cells' store'
  push_goes y next cells e = ap (λ t. if t then Rows.Go next (Word y ∷ cells) cells' store' else Rows.Stick) e

  pushed_goes : (x : ℤ) (at : ℕ) (stack : List Value) → nat_lt (length stack) room ≡ true → pushed room at locals store (Num x) stack ≡ ByName.Go (at + 1) (Num x ∷ stack) locals store
  pushed_goes x at stack e = ap (λ t. if t then ByName.Go (at + 1) (Num x ∷ stack) locals store else ByName.Stick) e

  number_pushes : (z : ℤ) (at : ℕ) (stack : List Value) (cells : List Cell) → nat_lt (length stack) room ≡ true → nat_lt (length cells) room ≡ true → Pushes (jop.Number z) at stack cells
  unfolding selected does
  number_pushes z at stack cells e e' =
      let w = low_word_ends z in
      record {
        x = z;
        y = low_word z;
        same = refl;
        named = pushed_goes z at stack e;
        row = push (low_word z);
        fetched = λ more. fetch-constant (low_word z) w.0 w.1 more;
        card = λ next. push_goes (low_word z) next cells e';
      }

  load_pushes : (l : ℕ) (x : ℤ) → slice_get locals l ≡ Some (Some (Num x)) → slice_get cells' l ≡ Some (Some (Word x)) → negsuc 32767 ≤ℤ x → x ≤ℤ pos 32767 → (at : ℕ) (stack : List Value) (cells : List Cell) → nat_lt (length stack) room ≡ true → nat_lt (length cells) room ≡ true → Pushes (jop.Load false l) at stack cells
  unfolding selected does
  load_pushes l x named card low high at stack cells e e' = record {
    x = x;
    y = x;
    same = sym (low_word_same x low high);
    named = ap (λ o. local_of o false (λ v. pushed room at locals store v stack)) named ∙ pushed_goes x at stack e;
    row = sload l;
    fetched = fetch-load l;
    card = λ next. ap (λ o. push_local o room next cells' store' cells) card ∙ push_goes x next cells e';
  }

  pub op_pushes : (k : ℕ) → ((l : ℕ) → l < k → (x : ℤ) × (slice_get locals l ≡ Some (Some (Num x))) × (slice_get cells' l ≡ Some (Some (Word x))) × (negsuc 32767 ≤ℤ x) × (x ≤ℤ pos 32767)) → (op : JOp) → is_push k op ≡ true → (at : ℕ) (stack : List Value) (cells : List Cell) → nat_lt (length stack) room ≡ true → nat_lt (length cells) room ≡ true → Pushes op at stack cells
  op_pushes k params (jop.Number z) p at stack cells e e' = number_pushes z at stack cells e e'
  op_pushes k params (jop.Load false l) p at stack cells e e' =
      let r = params l (ltb-true l k p) in load_pushes l r.0 r.1 r.2 r.3 r.4 at stack cells e e'
  op_pushes k params _ p at stack cells e e' = cc
