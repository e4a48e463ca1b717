-- What instructions do to the words of a stack and to locals, by what is known of these.
use Rattle.std.proofs.Common.{◌≡◌, ◌≤◌, ◌+◌, ℕ, zero, suc, Bool, true, false, nat_lt, nat_le, List, [], ◌∷◌}
use Rattle.std.proofs.Common.{◌++◌, length, take, drop, map, slice_get, Option, Some, None, refl, sym, ap}
use Rattle.std.proofs.Common.{subst, ◌∙◌, arith, ℤ, leb-false, ltb-false, length-append}
use Rattle.std.proofs.lemmas.List.{drop_more}
use Rattle.std.specs.Prelude.{if◌then◌else◌}
use Rattle.cjc_script.specs.declared.value.Value.{Value}
use Rattle.cjc_script.specs.declared.value.Value.TheVariants.{Num, Null, Obj}
use Rattle.cjc_types.specs.declared.cell.Cell.{Cell}
use Rattle.cjc_types.specs.declared.cell.Cell.TheVariants.{Number, Refs, Unusable}
use Rattle.cjc_types.specs.Steps.{operand}
use Rattle.cjc_types.specs.Types.{as_reference}
use Rattle.cjc_card_semantics.specs.Bytecode.Calculations.{Fine, Wrong, pushed, popped, copied, set_local, if_so}
use Rattle.cjc_card_semantics.specs.Bytecode.Calculations.{is_reference, is_number}
use Rattle.cjc_frames.specs.declared.acts.Need.{Need}
use Rattle.cjc_frames.specs.declared.acts.Need.TheVariants.{NumberWord, ReferenceWord}
use Rattle.cjc_frames.specs.Acts.{Subtype, given, meets, is_wrong_local}
use Rattle.cjc_card_acts.specs.Rows.{any_words, operands_from}
use Rattle.cjc_verify_proof.specs.Words.{IsLocal, AreWords, AreLocals, Leaves}
use Rattle.cjc_script.proofs.BytesGets.{taken_length}
use Rattle.cjc_verify_proof.proofs.WordLaws as words

pub any_length : (n : ℕ) → length (any_words n) ≡ n
any_length zero = refl
any_length (suc n) = ap suc (any_length n)

-- operands that are given in order are those of the stack
pub from_operands : (lc cs : List Cell) (k n : ℕ) → k + n ≤ length cs
    → map (given lc cs) (operands_from k n) ≡ take n (drop k cs)
from_operands lc cs k zero h = refl
from_operands lc cs k (suc n) h =
    ap (λ xs. operand cs k ∷ xs) (from_operands lc cs (k + 1) n (omega (arith, h)))
    ∙ sym (ap (take (suc n)) (drop_more cs k Unusable (omega (arith, h))))

-- a local that is not wrong meets its need
pub met : (is_of : Subtype) (n : Need) (o : Option Cell) (c : Cell) → o ≡ Some c → is_wrong_local is_of n o ≡ false
    → meets is_of n c ≡ true
met is_of n o c e h = words.true_of (meets is_of n c) (subst (λ (p : Option Cell). is_wrong_local is_of n p ≡ false)
    e h)

module _ (is : (type : List ℕ) → (object : ℕ) → Bool) (room : ℕ) (lc : List Cell) (lv : List (Option Value))
    (k : AreLocals is lc lv) where
  -- words that are pushed
  pub pushes : (cs : List Cell) (vs : List Value) → AreWords is cs vs → (new : List Cell) (ws : List Value)
      → AreWords is new ws → nat_lt room (length (new ++ cs)) ≡ false → Leaves is (new ++ cs) lc (pushed ws room lv vs)
  pushes cs vs w new ws n h = go (nat_le (length (ws ++ vs)) room) refl
    where
      both : AreWords is (new ++ cs) (ws ++ vs)
      both = words.words_append is new cs ws vs n w

      go : (b : Bool) → nat_le (length (ws ++ vs)) room ≡ b → Leaves is (new ++ cs) lc (if b then Fine (ws ++ vs) lv
          else Wrong)
      go true e = (both, k)
      go false e =
          let long = words.words_length is (new ++ cs) (ws ++ vs) both in
          let more = leb-false (length (ws ++ vs)) room e in
          let less = ltb-false room (length (new ++ cs)) h in
          absurd (omega (arith, long, more, less))

  -- ---- locals

  pub loads_reference : (is_of : Subtype) (cs : List Cell) (vs : List Value) → AreWords is cs vs
      → (c : Cell) (o : Option Value) → meets is_of ReferenceWord c ≡ true → IsLocal is c o
      → nat_lt room (suc (length cs)) ≡ false → Leaves is (as_reference c ∷ cs) lc
      (set_local (Some o) (λ v. if_so (is_reference v) (pushed (v ∷ []) room lv vs)))
  loads_reference is_of cs vs w (Refs names) (Some (Num z)) e i h = absurd i
  loads_reference is_of cs vs w (Refs names) (Some Null) e i h = pushes cs vs w (Refs names ∷ []) (Null ∷ []) (tt, tt) h
  loads_reference is_of cs vs w (Refs names) (Some (Obj j)) e i h = pushes cs vs w (Refs names ∷ []) (Obj j ∷ [])
      (i, tt) h
  loads_reference is_of cs vs w (Refs names) None e i h = absurd i
  loads_reference is_of cs vs w Number o e i h = cc
  loads_reference is_of cs vs w Unusable o e i h = cc

  pub loads_number : (is_of : Subtype) (cs : List Cell) (vs : List Value) → AreWords is cs vs
      → (c : Cell) (o : Option Value) → meets is_of NumberWord c ≡ true → IsLocal is c o
      → nat_lt room (suc (length cs)) ≡ false → Leaves is (Number ∷ cs) lc
      (set_local (Some o) (λ v. if_so (is_number v) (pushed (v ∷ []) room lv vs)))
  loads_number is_of cs vs w Number (Some (Num z)) e i h = pushes cs vs w (Number ∷ []) (Num z ∷ []) (tt, tt) h
  loads_number is_of cs vs w Number (Some Null) e i h = absurd i
  loads_number is_of cs vs w Number (Some (Obj j)) e i h = absurd i
  loads_number is_of cs vs w Number None e i h = absurd i
  loads_number is_of cs vs w (Refs names) o e i h = cc
  loads_number is_of cs vs w Unusable o e i h = cc

  -- the number of a local, as an option that holds it
  pub record Held (o : Option (Option Value)) : Type 0 where
    pub value : ℤ
    pub holds : o ≡ Some (Some (Num value))

  held_by : (is_of : Subtype) (c : Cell) (o : Option Value) (found : Option (Option Value)) → found ≡ Some o
      → meets is_of NumberWord c ≡ true → IsLocal is c o → Held found
  held_by is_of Number (Some (Num z)) found f e i = record { value = z; holds = f }
  held_by is_of Number (Some Null) found f e i = absurd i
  held_by is_of Number (Some (Obj j)) found f e i = absurd i
  held_by is_of Number None found f e i = absurd i
  held_by is_of (Refs names) o found f e i = cc
  held_by is_of Unusable o found f e i = cc

  -- a local that is read as a number holds one
  pub held : (is_of : Subtype) (l : ℕ) → nat_le (length lc) l ≡ false
      → is_wrong_local is_of NumberWord (slice_get lc l) ≡ false → Held (slice_get lv l)
  held is_of l lack wrong =
      let t = words.there is lc lv l k (leb-false (length lc) l lack) in
      held_by is_of t.cell t.held (slice_get lv l) t.found (met is_of NumberWord (slice_get lc l) t.cell t.typed wrong)
      t.is_local

  -- ---- the stack

  pub pops : (cs : List Cell) (vs : List Value) → AreWords is cs vs → (n : ℕ) → n ≤ length cs
      → Leaves is (drop n cs) lc (popped n room lv vs)
  pops cs vs w n h = go (nat_le n (length vs)) refl
    where
      go : (b : Bool) → nat_le n (length vs) ≡ b → Leaves is (drop n cs) lc (if_so b (Fine (drop n vs) lv))
      go true e = (words.words_drop is n cs vs w, k)
      go false e =
          let long = words.words_length is cs vs w in
          let more = leb-false n (length vs) e in
          absurd (omega (arith, long, more, h))

  pub copies : (cs : List Cell) (vs : List Value) → AreWords is cs vs → (m n : ℕ) → m ≤ n → n ≤ length cs
      → m + length cs ≤ room → Leaves is (take n cs ++ (take m cs ++ drop n cs)) lc (copied m n room lv vs)
  copies cs vs w m n le h r = go (nat_le n (length vs)) (nat_le (length (take m vs ++ vs)) room) refl refl
    where
      long : length vs ≡ length cs
      long = words.words_length is cs vs w

      go : (a b : Bool) → nat_le n (length vs) ≡ a → nat_le (length (take m vs ++ vs)) room ≡ b
          → Leaves is (take n cs ++ (take m cs ++ drop n cs)) lc
          (if_so a (if_so b (Fine (take n vs ++ (take m vs ++ drop n vs)) lv)))
      go true true e f = (
        words.words_append is (take n cs) (take m cs ++ drop n cs) (take n vs) (take m vs ++ drop n vs)
            (words.words_take is n cs vs w) (words.words_append is (take m cs) (drop n cs) (take m vs) (drop n vs)
            (words.words_take is m cs vs w) (words.words_drop is n cs vs w)),
        k,
      )
      go false b e f = let more = leb-false n (length vs) e in absurd (omega (arith, long, more, h))
      go true false e f =
          let more = leb-false (length (take m vs ++ vs)) room f in
          let sum = length-append (take m vs) vs in
          let few = taken_length m vs (omega (arith, long, le, h)) in
          absurd (omega (arith, more, sum, few, long, r))

  pub swaps : (cs : List Cell) (vs : List Value) → AreWords is cs vs → (m n : ℕ) → m + n ≤ length cs
      → Leaves is (take n (drop m cs) ++ (take m cs ++ drop (m + n) cs)) lc
      (if_so (nat_le (m + n) (length vs)) (Fine (take n (drop m vs) ++ (take m vs ++ drop (m + n) vs)) lv))
  swaps cs vs w m n h = go (nat_le (m + n) (length vs)) refl
    where
      go : (b : Bool) → nat_le (m + n) (length vs) ≡ b
          → Leaves is (take n (drop m cs) ++ (take m cs ++ drop (m + n) cs)) lc
          (if_so b (Fine (take n (drop m vs) ++ (take m vs ++ drop (m + n) vs)) lv))
      go true e = (
        words.words_append is (take n (drop m cs)) (take m cs ++ drop (m + n) cs) (take n (drop m vs)) (take m vs
            ++ drop (m + n) vs)
            (words.words_take is n (drop m cs) (drop m vs) (words.words_drop is m cs vs w))
            (words.words_append is (take m cs) (drop (m + n) cs) (take m vs) (drop (m + n) vs)
            (words.words_take is m cs vs w) (words.words_drop is (m + n) cs vs w)),
        k,
      )
      go false e =
          let long = words.words_length is cs vs w in
          let more = leb-false (m + n) (length vs) e in
          absurd (omega (arith, long, more, h))
