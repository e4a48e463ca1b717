-- What conditions of jumps leave on the stack.
use Rattle.std.proofs.Common.{◌≡◌, ◌≤◌, ℕ, zero, suc, Bool, true, false, not, List, [], ◌∷◌, length, drop}
use Rattle.std.proofs.Common.{replicate, ℤ, arith}
use Rattle.std.proofs.lemmas.Bool.{or_parts}
use Rattle.cjc_script.specs.declared.value.Value.{Value}
use Rattle.cjc_script.specs.declared.value.Value.TheVariants.{Num, Null, Obj}
use Rattle.cjc_types.specs.declared.cell.Cell.{Cell}
use Rattle.cjc_types.specs.declared.cell.Cell.TheVariants.{Number, Refs, Unusable}
use Rattle.cjc_types.specs.Rules.{is_reference}
use Rattle.cjc_card_semantics.specs.Bytecode.Calculations.{Test}
use Rattle.cjc_card_semantics.specs.Bytecode.Calculations as machine
use Rattle.cjc_frames.specs.declared.acts.Need.{Need}
use Rattle.cjc_frames.specs.declared.acts.Need.TheVariants.{ReferenceWord}
use Rattle.cjc_frames.specs.Acts.{Subtype, has_wrong}
use Rattle.cjc_verify_proof.specs.Words.{IsOneOf, IsWord, AreWords, Chooses}
use Rattle.cjc_verify_proof.specs.Beside.{BesideTest, a_null, same, goto}
use Rattle.cjc_verify_proof.specs.Beside as row
use Rattle.cjc_verify_proof.proofs.WordLaws.{true_of, Tops, number, tops}
use Rattle.cjc_verify_proof.proofs.WordLaws as words

module _ (is : (type : List ℕ) → (object : ℕ) → Bool) where
  -- so many references lie on top, and words behind them
  pub data Points : (n : ℕ) → List Cell → List Value → Type 0 where
    behind : {cs : List Cell} {vs : List Value} → AreWords is cs vs → Points 0 cs vs
    none : {n : ℕ} {cs : List Cell} {vs : List Value} (names : List (List ℕ)) → Points n cs vs
        → Points (suc n) (Refs names ∷ cs) (Null ∷ vs)
    object : {n : ℕ} {cs : List Cell} {vs : List Value} (names : List (List ℕ)) (k : ℕ) → IsOneOf is names k
        → Points n cs vs → Points (suc n) (Refs names ∷ cs) (Obj k ∷ vs)

  reference_on : (n : ℕ) (c : Cell) (cs : List Cell) (v : Value) (vs : List Value) → is_reference c ≡ true
      → IsWord is c v → Points n cs vs → Points (suc n) (c ∷ cs) (v ∷ vs)
  reference_on n (Refs names) cs (Num z) vs e w t = absurd w
  reference_on n (Refs names) cs Null vs e w t = none names t
  reference_on n (Refs names) cs (Obj k) vs e w t = object names k w t
  reference_on n Number cs v vs e w t = cc
  reference_on n Unusable cs v vs e w t = cc

  pub points : (is_of : Subtype) (n : ℕ) (cs : List Cell) (vs : List Value) → AreWords is cs vs
      → has_wrong is_of (replicate n ReferenceWord) cs ≡ false → n ≤ length cs → Points n cs vs
  points is_of zero cs vs w h o = behind w
  points is_of (suc n) [] vs w h o = absurd (omega (arith, o))
  points is_of (suc n) (c ∷ cs) [] w h o = absurd w
  points is_of (suc n) (c ∷ cs) (v ∷ vs) w h o =
      let k = or_parts (not (is_reference c)) (has_wrong is_of (replicate n ReferenceWord) cs) h in
      reference_on n c cs v vs (true_of (is_reference c) k.0) w.0 (points is_of n cs vs w.1 k.1 (omega (arith, o)))

  number_chooses : (f : ℤ → Bool) {cs : List Cell} {vs : List Value} → Tops is 1 cs vs
      → Chooses is (drop 1 cs) (machine.if_number f vs)
  number_chooses f (number x (words.behind w)) = w

  numbers_choose : (f : ℤ → ℤ → Bool) {cs : List Cell} {vs : List Value} → Tops is 2 cs vs
      → Chooses is (drop 2 cs) (machine.if_numbers f vs)
  numbers_choose f (number y (number x (words.behind w))) = w

  null_chooses : (t : Bool) {cs : List Cell} {vs : List Value} → Points 1 cs vs
      → Chooses is (drop 1 cs) (machine.if_null t vs)
  null_chooses t (none names (behind w)) = w
  null_chooses true (object names k i (behind w)) = w
  null_chooses false (object names k i (behind w)) = w

  same_chooses : (t : Bool) {cs : List Cell} {vs : List Value} → Points 2 cs vs
      → Chooses is (drop 2 cs) (machine.if_same t vs)
  same_chooses t (none names (none others (behind w))) = w
  same_chooses t (none names (object others k i (behind w))) = w
  same_chooses t (object names k i (none others (behind w))) = w
  same_chooses t (object names k i (object others j o (behind w))) = w

  -- a condition leaves what is behind its operands
  pub test_chooses : (is_of : Subtype) (needs : List Need) (falls : Bool) (test : Test) → BesideTest needs falls test
      → (cs : List Cell) (vs : List Value) → AreWords is cs vs → has_wrong is_of needs cs ≡ false
      → length needs ≤ length cs → Chooses is (drop (length needs) cs) (test vs)
  test_chooses is_of needs falls test (row.number f) cs vs w h o = number_chooses f (tops is is_of 1 cs vs w h o)
  test_chooses is_of needs falls test (row.numbers f) cs vs w h o = numbers_choose f (tops is is_of 2 cs vs w h o)
  test_chooses is_of needs falls test (a_null t) cs vs w h o = null_chooses t (points is_of 1 cs vs w h o)
  test_chooses is_of needs falls test (same t) cs vs w h o = same_chooses t (points is_of 2 cs vs w h o)
  test_chooses is_of needs falls test goto cs vs w h o = w
