-- Operands, locals and words that are put on both sides: what the card knows of a cell meets what the card needs, where
-- the cell is one that the instruction of the class file accepts.
use Rattle.std.proofs.Common.{◌≡◌, ℕ, zero, suc, ◌+◌, ◌<◌, ◌≤◌, refl, ap, subst, ◌∙◌, arith, true, false}
use Rattle.std.proofs.Common.{List, [], ◌∷◌, length, map, slice_get, Option, Some}
use Rattle.std.specs.Prelude.{◌||◌, not, nat_le}
use Rattle.std.specs.List.{AllZip}
use Rattle.std.proofs.lemmas.Bool.Decides.{nat_tests}
use Rattle.std.proofs.lemmas.List.{length-map}
use Rattle.cjc_types.specs.Cells.{IsCellBelow}
use Rattle.cjc_types.specs.Rules.{is_number, is_reference}
use Rattle.cjc_types.specs.Steps.{operand}
use Rattle.cjc_types.specs.Types.{as_reference}
use Rattle.cjc_types.specs.declared.cell.Cell.{Cell}
use Rattle.cjc_types.specs.declared.cell.Cell.TheVariants.{Number, Refs, Unusable}
use Rattle.cjc_frames.specs.declared.acts.Given.TheVariants.{Operand}
use Rattle.cjc_frames.specs.declared.acts.Need.{Need}
use Rattle.cjc_frames.specs.declared.acts.Need.TheVariants.{NumberWord, ReferenceWord}
use Rattle.cjc_frames.specs.Acts.{Subtype, given, has_wrong, meets}
use Rattle.cjc_verify.specs.CardActs.Rows.{any_words}
use Rattle.cjc_accepted_proof.specs.Frames.{card_cell, card_cells}
use Rattle.cjc_accepted_proof.proofs.RowsLaws.{zip_itself}

-- cells that are the same are below each other
pub zip_same : (xs ys : List Cell) → xs ≡ ys → AllZip IsCellBelow xs ys
zip_same xs ys e = subst (λ (zs : List Cell). AllZip IsCellBelow xs zs) e (zip_itself xs)

module _ (card_type : List ℕ → Option (List ℕ)) where
  abbrev cells : List Cell → List Cell
  cells = card_cells card_type

  -- ---- cells

  -- what is known of an operand, or of a local
  pub operand_same : (s : List Cell) (k : ℕ) → operand (cells s) k ≡ card_cell card_type (operand s k)
  operand_same [] k = refl
  operand_same (x ∷ s) zero = refl
  operand_same (x ∷ s) (suc k) = operand_same s k

  -- a reference stays one, and nothing else becomes one
  pub reference_same : (x : Cell) → as_reference (card_cell card_type x) ≡ card_cell card_type (as_reference x)
  reference_same Number = refl
  reference_same (Refs names) = refl
  reference_same Unusable = refl

  -- several operands, once more
  pub operands_same : (locals s : List Cell) (ks : List ℕ) → map (given locals (cells s)) (map Operand ks)
      ≡ cells (map (operand s) ks)
  operands_same locals s [] = refl
  operands_same locals s (k ∷ ks) = ap (λ x. x ∷ map (given locals (cells s)) (map Operand ks)) (operand_same s k)
      ∙ ap (λ xs. card_cell card_type (operand s k) ∷ xs) (operands_same locals s ks)

  -- a local that is there
  pub local_there : (ls : List Cell) (k : ℕ) → k < length ls → slice_get (cells ls) k ≡ Some (card_cell card_type
      (operand ls k))
  local_there [] k lt = absurd (omega (arith, lt))
  local_there (x ∷ ls) zero lt = refl
  local_there (x ∷ ls) (suc k) lt = local_there ls k (omega (arith, lt))

  -- and is not lacking
  pub not_lacking : (ls : List Cell) (k : ℕ) → k < length ls → nat_le (length (cells ls)) k ≡ false
  not_lacking ls k lt = let long = length-map ls (card_cell card_type) in grind (arith, nat_tests, lt, long)

  -- ---- needs

  module _ (is_of : Subtype) where
    -- a number is one on the card
    pub number_meets : (x : Cell) → is_number x ≡ true → meets is_of NumberWord (card_cell card_type x) ≡ true
    number_meets Number e = refl
    number_meets (Refs names) e = absurd cc
    number_meets Unusable e = absurd cc

    -- a reference is one
    pub reference_meets : (x : Cell) → is_reference x ≡ true → meets is_of ReferenceWord (card_cell card_type x) ≡ true
    reference_meets Number e = absurd cc
    reference_meets (Refs names) e = refl
    reference_meets Unusable e = absurd cc

    -- each operand that is there meets its need
    pub needs_met : (ns : List Need) (s : List Cell) → ((k : ℕ) (n : Need) (x : Cell) → slice_get ns k ≡ Some n
        → slice_get s k ≡ Some x → meets is_of n (card_cell card_type x) ≡ true) → has_wrong is_of ns (cells s) ≡ false
    needs_met [] s h = refl
    needs_met (n ∷ ns) [] h = refl
    needs_met (n ∷ ns) (x ∷ s) h = ap (λ b. not b || has_wrong is_of ns (cells s)) (h 0 n x refl refl)
        ∙ needs_met ns s (λ k m y e f. h (suc k) m y e f)

    -- one need, two, three
    pub one_need : (n : Need) (s : List Cell) → ((x : Cell) → slice_get s 0 ≡ Some x → meets is_of n (card_cell
        card_type x) ≡ true) → has_wrong is_of (n ∷ []) (cells s) ≡ false
    one_need n [] first = refl
    one_need n (x ∷ s) first = ap (λ b. not b || false) (first x refl)

    pub two_needs : (n m : Need) (s : List Cell) → ((x : Cell) → slice_get s 0 ≡ Some x → meets is_of n (card_cell
        card_type x) ≡ true) → ((x : Cell) → slice_get s 1 ≡ Some x → meets is_of m (card_cell card_type x) ≡ true)
        → has_wrong is_of (n ∷ m ∷ []) (cells s) ≡ false
    two_needs n m [] first second = refl
    two_needs n m (x ∷ s) first second = ap (λ b. not b || has_wrong is_of (m ∷ []) (cells s)) (first x refl)
        ∙ one_need m s second

    pub three_needs : (n m o : Need) (s : List Cell) → ((x : Cell) → slice_get s 0 ≡ Some x → meets is_of n (card_cell
        card_type x) ≡ true) → ((x : Cell) → slice_get s 1 ≡ Some x → meets is_of m (card_cell card_type x) ≡ true)
        → ((x : Cell) → slice_get s 2 ≡ Some x → meets is_of o (card_cell card_type x) ≡ true)
        → has_wrong is_of (n ∷ m ∷ o ∷ []) (cells s) ≡ false
    three_needs n m o [] first second third = refl
    three_needs n m o (x ∷ s) first second third = ap (λ b. not b || has_wrong is_of (m ∷ o ∷ []) (cells s))
        (first x refl) ∙ two_needs m o s second third

    -- words of any kind are never wrong
    pub any_met : (n : ℕ) (s : List Cell) → has_wrong is_of (any_words n) (cells s) ≡ false
    any_met zero s = refl
    any_met (suc n) [] = refl
    any_met (suc n) (x ∷ s) = any_met n s
