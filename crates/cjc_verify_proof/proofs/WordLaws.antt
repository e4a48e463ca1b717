-- What operands and locals are that meet what an instruction needs.
use Rattle.std.proofs.Common.{◌≡◌, ◌≤◌, ◌<◌, ℕ, zero, suc, Bool, true, false, not, List, [], ◌∷◌}
use Rattle.std.proofs.Common.{◌++◌, length, take, drop, slice_get, slice_set, Option, Some, None, refl, ap, arith, ℤ}
use Rattle.std.specs.List.{AllZip}
use Rattle.std.proofs.lemmas.Bool.{or_parts}
use Rattle.cjc_script.specs.declared.value.Value.{Value}
use Rattle.cjc_script.specs.declared.value.Value.TheVariants.{Num, Null, Obj}
use Rattle.cjc_types.specs.declared.cell.Cell.{Cell}
use Rattle.cjc_types.specs.declared.cell.Cell.TheVariants.{Number, Refs, Unusable}
use Rattle.cjc_types.specs.Cells.{IsCellBelow}
use Rattle.cjc_types.specs.Steps.{operand}
use Rattle.cjc_types.specs.Rules.{is_number, is_reference}
use Rattle.cjc_frames.specs.Acts.{Subtype, has_wrong}
use Rattle.cjc_card_acts.specs.Rows.{number_words}
use Rattle.cjc_verify_proof.specs.Words.{IsWord, IsLocal, AreWords, AreLocals}

-- ---- truths

pub true_of : (b : Bool) → not b ≡ false → b ≡ true
true_of true e = refl
true_of false e = cc

-- ---- cells

pub number_is : (c : Cell) → is_number c ≡ true → c ≡ Number
number_is Number e = refl
number_is (Refs names) e = cc
number_is Unusable e = cc

pub reference_is : (c : Cell) → is_reference c ≡ true → (names : List (List ℕ)) × (c ≡ Refs names)
reference_is Number e = cc
reference_is (Refs names) e = (names, refl)
reference_is Unusable e = cc

module _ (is : (type : List ℕ) → (object : ℕ) → Bool) where
  -- a word of a cell is one of each cell above it
  pub word_up : (x y : Cell) (v : Value) → IsCellBelow x y → IsWord is x v → IsWord is y v
  word_up x Unusable v h w = tt
  word_up Number Number v h w = w
  word_up (Refs less) Number v h w = absurd h
  word_up Unusable Number v h w = absurd h
  word_up Number (Refs names) v h w = absurd h
  word_up Unusable (Refs names) v h w = absurd h
  word_up (Refs less) (Refs names) (Num z) h w = absurd w
  word_up (Refs less) (Refs names) Null h w = tt
  word_up (Refs less) (Refs names) (Obj k) h w = record { type = w.type; among = h w.type w.among; holds = w.holds }

  local_up : (x y : Cell) (o : Option Value) → IsCellBelow x y → IsLocal is x o → IsLocal is y o
  local_up x y (Some v) h w = word_up x y v h w
  local_up x Unusable None h w = tt
  local_up Number y None h w = absurd w
  local_up (Refs less) y None h w = absurd w
  local_up Unusable Number None h w = absurd h
  local_up Unusable (Refs names) None h w = absurd h

  -- words of cells are words of cells above them
  pub words_up : (xs ys : List Cell) (vs : List Value) → AllZip IsCellBelow xs ys → AreWords is xs vs
      → AreWords is ys vs
  words_up [] [] vs h w = w
  words_up [] (y ∷ ys) vs h w = absurd h
  words_up (x ∷ xs) [] vs h w = absurd h
  words_up (x ∷ xs) (y ∷ ys) [] h w = absurd w
  words_up (x ∷ xs) (y ∷ ys) (v ∷ vs) h w = (word_up x y v h.0 w.0, words_up xs ys vs h.1 w.1)

  -- the same of locals
  pub locals_up : (xs ys : List Cell) (vs : List (Option Value)) → AllZip IsCellBelow xs ys → AreLocals is xs vs
      → AreLocals is ys vs
  locals_up [] [] vs h w = w
  locals_up [] (y ∷ ys) vs h w = absurd h
  locals_up (x ∷ xs) [] vs h w = absurd h
  locals_up (x ∷ xs) (y ∷ ys) [] h w = absurd w
  locals_up (x ∷ xs) (y ∷ ys) (v ∷ vs) h w = (local_up x y v h.0 w.0, locals_up xs ys vs h.1 w.1)

  -- ---- numbers on top

  -- so many numbers lie on top, and words behind them
  pub data Tops : (n : ℕ) → List Cell → List Value → Type 0 where
    behind : {cs : List Cell} {vs : List Value} → AreWords is cs vs → Tops 0 cs vs
    number : {n : ℕ} {cs : List Cell} {vs : List Value} (z : ℤ) → Tops n cs vs → Tops (suc n) (Number ∷ cs) (Num z ∷ vs)

  number_on : (n : ℕ) (c : Cell) (cs : List Cell) (v : Value) (vs : List Value) → c ≡ Number → IsWord is c v
      → Tops n cs vs → Tops (suc n) (c ∷ cs) (v ∷ vs)
  number_on n Number cs (Num z) vs e w t = number z t
  number_on n Number cs Null vs e w t = absurd w
  number_on n Number cs (Obj k) vs e w t = absurd w
  number_on n (Refs names) cs v vs e w t = cc
  number_on n Unusable cs v vs e w t = cc

  pub tops : (is_of : Subtype) (n : ℕ) (cs : List Cell) (vs : List Value) → AreWords is cs vs
      → has_wrong is_of (number_words n) cs ≡ false → length (number_words n) ≤ length cs → Tops n cs vs
  tops is_of zero cs vs w h o = behind w
  tops is_of (suc n) [] vs w h o = absurd (omega (arith, o))
  tops is_of (suc n) (c ∷ cs) [] w h o = absurd w
  tops is_of (suc n) (c ∷ cs) (v ∷ vs) w h o =
      let k = or_parts (not (is_number c)) (has_wrong is_of (number_words n) cs) h in
      number_on n c cs v vs (number_is c (true_of (is_number c) k.0)) w.0 (tops is_of n cs vs w.1 k.1 (omega (
        arith,
        o,
      )))

  -- ---- lengths

  pub words_length : (cs : List Cell) (vs : List Value) → AreWords is cs vs → length vs ≡ length cs
  words_length [] [] w = refl
  words_length [] (v ∷ vs) w = absurd w
  words_length (c ∷ cs) [] w = absurd w
  words_length (c ∷ cs) (v ∷ vs) w = ap suc (words_length cs vs w.1)

  pub words_append : (xs ys : List Cell) (us vs : List Value) → AreWords is xs us → AreWords is ys vs
      → AreWords is (xs ++ ys) (us ++ vs)
  words_append [] ys [] vs h k = k
  words_append [] ys (u ∷ us) vs h k = absurd h
  words_append (x ∷ xs) ys [] vs h k = absurd h
  words_append (x ∷ xs) ys (u ∷ us) vs h k = (h.0, words_append xs ys us vs h.1 k)

  pub words_drop : (n : ℕ) (cs : List Cell) (vs : List Value) → AreWords is cs vs → AreWords is (drop n cs) (drop n vs)
  words_drop zero cs vs w = w
  words_drop (suc n) [] [] w = tt
  words_drop (suc n) [] (v ∷ vs) w = absurd w
  words_drop (suc n) (c ∷ cs) [] w = absurd w
  words_drop (suc n) (c ∷ cs) (v ∷ vs) w = words_drop n cs vs w.1

  pub words_take : (n : ℕ) (cs : List Cell) (vs : List Value) → AreWords is cs vs → AreWords is (take n cs) (take n vs)
  words_take zero cs vs w = tt
  words_take (suc n) [] [] w = tt
  words_take (suc n) [] (v ∷ vs) w = absurd w
  words_take (suc n) (c ∷ cs) [] w = absurd w
  words_take (suc n) (c ∷ cs) (v ∷ vs) w = (w.0, words_take n cs vs w.1)

  -- ---- locals

  -- a local that is there, and its cell
  pub record There (lc : List Cell) (lv : List (Option Value)) (l : ℕ) : Type 0 where
    pub cell : Cell
    pub held : Option Value
    pub typed : slice_get lc l ≡ Some cell
    pub read : operand lc l ≡ cell
    pub found : slice_get lv l ≡ Some held
    pub is_local : IsLocal is cell held

  pub there : (lc : List Cell) (lv : List (Option Value)) (l : ℕ) → AreLocals is lc lv → l < length lc → There lc lv l
  there [] lv l k lt = absurd (omega (arith, lt))
  there (c ∷ lc) [] l k lt = absurd k
  there (c ∷ lc) (o ∷ lv) zero k lt = record {
    cell = c;
    held = o;
    typed = refl;
    read = refl;
    found = refl;
    is_local = k.0;
  }
  there (c ∷ lc) (o ∷ lv) (suc l) k lt =
      let t = there lc lv l k.1 (omega (arith, lt)) in
      record {
        cell = t.cell;
        held = t.held;
        typed = t.typed;
        read = t.read;
        found = t.found;
        is_local = t.is_local;
      }

  pub locals_set : (lc : List Cell) (lv : List (Option Value)) (l : ℕ) (c : Cell) (o : Option Value)
      → AreLocals is lc lv → IsLocal is c o → AreLocals is (slice_set lc l c) (slice_set lv l o)
  locals_set [] [] l c o k h = tt
  locals_set [] (p ∷ lv) l c o k h = absurd k
  locals_set (d ∷ lc) [] l c o k h = absurd k
  locals_set (d ∷ lc) (p ∷ lv) zero c o k h = (h, k.1)
  locals_set (d ∷ lc) (p ∷ lv) (suc l) c o k h = (k.0, locals_set lc lv l c o k.1 h)
