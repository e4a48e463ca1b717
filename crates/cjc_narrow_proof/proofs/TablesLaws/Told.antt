-- Less is known by greater cells and wider intervals; and cells by their intervals, from a place on.
use Rattle.std.proofs.Common.{◌≡◌, ℕ, zero, suc, ◌+◌, ◌≤◌, refl, sym, ap, subst, ◌∙◌, arith, Bool, true, false, ◌||◌}
use Rattle.std.proofs.Common.{List, [], ◌∷◌, ◌++◌, length, take, drop, inl, inr}
use Rattle.std.specs.List.{AllZip}
use Rattle.cjc_range.specs.Span.{Span, Within}
use Rattle.cjc_script.specs.Sorts.{Shape}
use Rattle.cjc_types.specs.declared.cell.Cell.{Cell}
use Rattle.cjc_types.specs.declared.cell.Cell.TheVariants.{Number, Refs, Unusable}
use Rattle.cjc_types.specs.Names.{In, IsWithin}
use Rattle.cjc_types.specs.Cells.{IsCellBelow}
use Rattle.cjc_types.specs.Steps as typed
use Rattle.cjc_ncode.specs.ByLabel.{Named}
use Rattle.cjc_intervals.specs.Steps.{operand}
use Rattle.cjc_narrow_proof.specs.Selection.Relation.{Wider, more_numbers, more_types, number_free, reference_free}
use Rattle.cjc_narrow_proof.specs.Selection.Relation.{free_free, AllWider, none_wider, one_wider, OnBoth, no_cell}
use Rattle.cjc_narrow_proof.specs.Selection.Relation.{a_range, a_reference, an_unused}
use Rattle.cjc_narrow_proof.specs.Tables.Kinds.{is_named, is_one_of, kind_of_cell, kinds_from, kinds}
use Rattle.cjc_bytes.proofs.Bools.{or_true}
use Rattle.cjc_bytes.proofs.Gets.{taken_length}

-- ---- types

pub one_of_in : (l : Named) (names : List (List ℕ)) (n : List ℕ) (kind : Shape (List ℕ)) → In n names
    → is_named l n kind ≡ true → is_one_of l names kind ≡ true
one_of_in l [] n kind h e = absurd h
one_of_in l (x ∷ names) n kind (inl same) e = ap (λ b. b || is_one_of l names kind) (ap (λ y. is_named l y kind) same
    ∙ e)
one_of_in l (x ∷ names) n kind (inr later) e = ap (λ b. is_named l x kind || b) (one_of_in l names n kind later e)
    ∙ or_true (is_named l x kind)

pub one_of_from : (l : Named) (names : List (List ℕ)) (kind : Shape (List ℕ)) → is_one_of l names kind ≡ true
    → (n : List ℕ) × In n names × (is_named l n kind ≡ true)
one_of_from l [] kind e = cc
one_of_from l (x ∷ names) kind e = go (is_named l x kind) refl e (one_of_from l names kind)
  where
    go : (b : Bool) → is_named l x kind ≡ b → (b || is_one_of l names kind) ≡ true → (is_one_of l names kind ≡ true
        → (n : List ℕ) × In n names × (is_named l n kind ≡ true)) → (n : List ℕ) × In n (x ∷ names)
        × (is_named l n kind ≡ true)
    go true is f more = (x, inl refl, is)
    go false is f more = let h = more f in (h.0, inr h.1, h.2)

pub one_of_wider : (l : Named) (less names : List (List ℕ)) → IsWithin less names → (kind : Shape (List ℕ))
    → is_one_of l less kind ≡ true → is_one_of l names kind ≡ true
one_of_wider l less names within kind e = let h = one_of_from l less kind e
    in one_of_in l names h.0 kind (within h.0 h.1) h.2

-- ---- cells

pub cell_wider : (l : Named) (c d : Cell) (s t : Span) → IsCellBelow c d → (d ≡ Number → Within s t)
    → Wider (kind_of_cell l c s) (kind_of_cell l d t)
cell_wider l Number Number s t h w = more_numbers (w refl)
cell_wider l (Refs less) Number s t h w = absurd h
cell_wider l Unusable Number s t h w = absurd h
cell_wider l Number (Refs names) s t h w = absurd h
cell_wider l (Refs less) (Refs names) s t h w = more_types (one_of_wider l less names h)
cell_wider l Unusable (Refs names) s t h w = absurd h
cell_wider l Number Unusable s t h w = number_free
cell_wider l (Refs less) Unusable s t h w = reference_free
cell_wider l Unusable Unusable s t h w = free_free

-- ---- lists of cells

pub kinds_wider : (l : Named) (a b : ℕ) (cs ds : List Cell) (s t : List Span) → AllZip IsCellBelow cs ds
    → ((k : ℕ) → typed.operand ds k ≡ Number → Within (operand s (a + k)) (operand t (b + k)))
    → AllWider (kinds_from l a cs s) (kinds_from l b ds t)
kinds_wider l a b [] [] s t h w = none_wider
kinds_wider l a b [] (d ∷ ds) s t h w = absurd h
kinds_wider l a b (c ∷ cs) [] s t h w = absurd h
kinds_wider l a b (c ∷ cs) (d ∷ ds) s t h w =
    let left : a + 0 ≡ a = omega arith in
    let right : b + 0 ≡ b = omega arith in
    one_wider (cell_wider l c d (operand s a) (operand t b) h.0 (λ e. subst (λ n. Within (operand s n) (operand t b))
    left (subst (λ n. Within (operand s (a + 0)) (operand t n)) right (w 0 e))))
    (kinds_wider l (suc a) (suc b) cs ds s t h.1 (λ k e. further k (w (suc k) e)))
  where
    further : (k : ℕ) → Within (operand s (a + suc k)) (operand t (b + suc k))
        → Within (operand s (suc a + k)) (operand t (suc b + k))
    further k h =
        let left : a + suc k ≡ suc a + k = omega arith in
        let right : b + suc k ≡ suc b + k = omega arith in
        subst (λ n. Within (operand s n) (operand t (suc b + k))) left
        (subst (λ n. Within (operand s (a + suc k)) (operand t n)) right h)

pub kinds_same : (l : Named) (a b : ℕ) (cs : List Cell) (s t : List Span)
    → ((k : ℕ) → operand s (a + k) ≡ operand t (b + k)) → kinds_from l a cs s ≡ kinds_from l b cs t
kinds_same l a b [] s t h = refl
kinds_same l a b (c ∷ cs) s t h =
    let left : a + 0 ≡ a = omega arith in
    let right : b + 0 ≡ b = omega arith in
    let first : operand s a ≡ operand t b = ap (operand s) (sym left) ∙ h 0 ∙ ap (operand t) right in
    ap (λ x. kind_of_cell l c x ∷ kinds_from l (suc a) cs s) first
    ∙ ap (λ ks. kind_of_cell l c (operand t b) ∷ ks) (kinds_same l (suc a) (suc b) cs s t (λ k. further k (h (suc k))))
  where
    further : (k : ℕ) → operand s (a + suc k) ≡ operand t (b + suc k) → operand s (suc a + k) ≡ operand t (suc b + k)
    further k e =
        let left : suc a + k ≡ a + suc k = omega arith in
        let right : b + suc k ≡ suc b + k = omega arith in
        ap (operand s) left ∙ e ∙ ap (operand t) right

pub kinds_append : (l : Named) (a : ℕ) (cs ds : List Cell) (s : List Span) → kinds_from l a (cs ++ ds) s
    ≡ kinds_from l a cs s ++ kinds_from l (a + length cs) ds s
kinds_append l a [] ds s = let same : a ≡ a + 0 = omega arith in ap (λ n. kinds_from l n ds s) same
kinds_append l a (c ∷ cs) ds s =
    let same : suc a + length cs ≡ a + suc (length cs) = omega arith in
    ap (λ ks. kind_of_cell l c (operand s a) ∷ ks) (kinds_append l (suc a) cs ds s ∙ ap (λ n. kinds_from l (suc a) cs s
    ++ kinds_from l n ds s) same)

pub kinds_length : (l : Named) (a : ℕ) (cs : List Cell) (s : List Span) → length (kinds_from l a cs s) ≡ length cs
kinds_length l a [] s = refl
kinds_length l a (c ∷ cs) s = ap suc (kinds_length l (suc a) cs s)

-- ---- intervals

pub operand_behind : (xs ys : List Span) (k : ℕ) → operand (xs ++ ys) (length xs + k) ≡ operand ys k
operand_behind [] ys k = let e : 0 + k ≡ k = omega arith in ap (operand ys) e
operand_behind (x ∷ xs) ys k = let e : suc (length xs) + k ≡ suc (length xs + k) = omega arith
    in ap (operand (x ∷ xs ++ ys)) e ∙ operand_behind xs ys k

pub operand_dropped : (n : ℕ) (s : List Span) (k : ℕ) → operand (drop n s) k ≡ operand s (n + k)
operand_dropped zero s k = let e : k ≡ 0 + k = omega arith in ap (operand s) e
operand_dropped (suc n) [] k = refl
operand_dropped (suc n) (x ∷ s) k = let e : suc (n + k) ≡ suc n + k = omega arith in operand_dropped n s k
    ∙ ap (operand (x ∷ s)) e

take_drop : {A : Type 0} (n : ℕ) (xs : List A) → take n xs ++ drop n xs ≡ xs
take_drop zero xs = refl
take_drop (suc n) [] = refl
take_drop (suc n) (x ∷ xs) = ap (λ ys. x ∷ ys) (take_drop n xs)

-- The cells that are taken stand before those that stay.
pub before_is : (l : Named) (n : ℕ) (cells : List Cell) (s : List Span) → n ≤ length cells
    → kinds l cells s ≡ kinds l (take n cells) s ++ kinds_from l n (drop n cells) s
before_is l n cells s h =
    let long : 0 + length (take n cells) ≡ n = (let e = taken_length n cells h in omega (arith, e)) in
    ap (λ cs. kinds l cs s) (sym (take_drop n cells)) ∙ kinds_append l 0 (take n cells) (drop n cells) s
    ∙ ap (λ k. kinds l (take n cells) s ++ kinds_from l k (drop n cells) s) long

-- What is given stands before them afterwards.
pub behind_is : (l : Named) (n : ℕ) (given cells : List Cell) (new s : List Span) → length given ≡ length new
    → kinds l (given ++ drop n cells) (new ++ drop n s) ≡ kinds l given (new ++ drop n s)
    ++ kinds_from l n (drop n cells) s
behind_is l n given cells new s same =
    let long : 0 + length given ≡ length new = omega (arith, same) in
    kinds_append l 0 given (drop n cells) (new ++ drop n s)
    ∙ ap (λ ks. kinds l given (new ++ drop n s) ++ ks) (ap (λ k. kinds_from l k (drop n cells) (new ++ drop n s)) long
    ∙ kinds_same l (length new) n (drop n cells) (new ++ drop n s) s (λ k. operand_behind new (drop n s) k
    ∙ operand_dropped n s k))

-- ---- cells on both stacks

pub on_both : (l : Named) (a : ℕ) (cs : List Cell) (s : List Span) → OnBoth (kinds_from l a cs s)
on_both l a [] s = no_cell
on_both l a (Number ∷ cs) s = a_range (on_both l (suc a) cs s)
on_both l a (Refs names ∷ cs) s = a_reference (on_both l (suc a) cs s)
on_both l a (Unusable ∷ cs) s = an_unused (on_both l (suc a) cs s)
