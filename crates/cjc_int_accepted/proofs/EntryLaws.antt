-- The entry of a method in int mode: what brings the arguments to the locals breaks no rule, and arrives below the
-- frame
-- of the class file's entry.
use Rattle.std.proofs.Common.{◌≡◌, ℕ, zero, suc, ◌+◌, ◌-◌, ◌*◌, ◌≤◌, refl, sym, ap, subst, ◌∙◌, arith, List, [], ◌∷◌}
use Rattle.std.proofs.Common.{◌++◌}
use Rattle.std.proofs.Common.{append_assoc, flat_map, length, length-append, map, slice_get, take, Option, Some}
use Rattle.std.specs.Prelude.{replicate}
use Rattle.std.specs.List.{AllZip}
use Rattle.std.proofs.lemmas.List.{length-replicate, map-append}
use Rattle.cjc_types.specs.Cells.{IsCellBelow}
use Rattle.cjc_types.specs.Flow.{Body as BodyByName, arguments as arguments_by_name, entry as entry_by_name}
use Rattle.cjc_types.specs.States.{most_cells, states}
use Rattle.cjc_types.specs.declared.cell.Cell.{Cell}
use Rattle.cjc_types.specs.declared.cell.Cell.TheVariants.{Unusable}
use Rattle.cjc_types.specs.declared.state.State.{State}
use Rattle.cjc_frames.specs.Acts.{Breaks, Subtype, given}
use Rattle.cjc_frames.specs.Flow.{Body, entry}
use Rattle.cjc_frames.specs.declared.acts.Step.{Step}
use Rattle.cjc_verify.specs.CardActs.CardTypes.{ValueType, words as words_given}
use Rattle.cjc_verify.specs.CardActs.CardTypes as types
use Rattle.cjc_accepted_proof.proofs.RowsLaws.{zip_both, zip_itself}
use Rattle.cjc_int_accepted.specs.Acts.{moving_all}
use Rattle.cjc_int_accepted.specs.Arguments.{argument_of, arguments_of, locals_of}
use Rattle.cjc_int_accepted.specs.Frames.{Room, free, int_state, local_words, words_of_local}
use Rattle.cjc_int_accepted.specs.Methods.{acts_of}
use Rattle.cjc_int_accepted.specs.Runs.{Walks, stack_through}
use Rattle.cjc_int_accepted.specs.Stretches.{IsAlong, frame_through, frames_along}
use Rattle.cjc_int_accepted.specs.Types.{AreValues}
use Rattle.cjc_int_accepted.proofs.RowsLaws.Prologue.{arguments_walk}
use Rattle.cjc_int_accepted.proofs.RunsLaws.{frame_of, nothing_breaks, sound_along, through_is}
use Rattle.cjc_int_accepted.proofs.WordsLaws.{zip_free}

-- words that are filled up to so many
taken : (xs : List Cell) (n k : ℕ) → length xs ≤ n → n ≤ length xs + k → take n (xs ++ replicate k Unusable) ≡ xs ++
    free
    (n - length xs)
taken [] zero k le more = refl
taken [] (suc n) zero le more = absurd (omega (arith, more))
taken [] (suc n) (suc k) le more =
    let rest = taken [] n k (omega arith) (omega (arith, more)) in
    let one : n - 0 ≡ n = omega arith in
    let two : suc n - 0 ≡ suc n = omega arith in
    ap (λ zs. Unusable ∷ zs) (rest ∙ ap free one) ∙ ap free (sym two)
taken (x ∷ xs) zero k le more = absurd (omega (arith, le))
taken (x ∷ xs) (suc n) k le more =
    let same : suc n - suc (length xs) ≡ n - length xs = omega arith in
    ap (λ zs. x ∷ zs) (taken xs n k (omega (arith, le)) (omega (arith, more))) ∙ ap (λ j. x ∷ (xs ++ free j)) (sym same)

free_both : (m n : ℕ) → free m ++ free n ≡ free (m + n)
free_both zero n = let none : 0 + n ≡ n = omega arith in ap free (sym none)
free_both (suc m) n = let up : suc m + n ≡ suc (m + n) = omega arith in ap (λ zs. Unusable ∷ zs) (free_both m n) ∙ ap
    free
    (sym up)

given_one : (t : ValueType) → map (given [] []) (words_given t) ≡ argument_of t
given_one types.Void = refl
given_one types.Boolean = refl
given_one types.Byte = refl
given_one types.Short = refl
given_one types.Int = refl
given_one (types.Reference type) = refl

given_all : (ts : List ValueType) → map (given [] []) (flat_map words_given ts) ≡ arguments_of ts
given_all [] = refl
given_all (t ∷ ts) = map-append (given [] []) (words_given t) (flat_map words_given ts) ∙ ap (λ zs. zs ++ map (given []
    [])
    (flat_map words_given ts)) (given_one t) ∙ ap (λ zs. argument_of t ++ zs) (given_all ts)

module _ (card_type : List ℕ → Option (List ℕ)) (is_of : Subtype) (m : Room) (b : BodyByName) (c : Body)
    (front : List Step) (ts : List ValueType) (some : AreValues ts) (low : c.max_stack ≤ most_cells) (room : 2
    ≤ c.max_stack) (acts : acts_of front ≡ moving_all 0 m.arguments ts) (given_are : c.arguments ≡ flat_map words_given
    ts)
    (words : length (arguments_of ts) ≡ m.arguments) (count : c.local_count ≡ m.arguments + 2 * b.max_locals +
    m.scratch)
    (few : length ts ≤ b.max_locals) (as_many : length (arguments_by_name b) ≡ length ts) (below : AllZip IsCellBelow
    (locals_of ts) (local_words card_type (arguments_by_name b))) where
  abbrev others : ℕ
  others = 2 * (b.max_locals - length ts) + m.scratch

  pairs_two : (us : List ValueType) → length (locals_of us) ≡ 2 * length us
  pairs_two [] = refl
  pairs_two (types.Void ∷ us) = let rest = pairs_two us in omega (arith, rest)
  pairs_two (types.Boolean ∷ us) = let rest = pairs_two us in omega (arith, rest)
  pairs_two (types.Byte ∷ us) = let rest = pairs_two us in omega (arith, rest)
  pairs_two (types.Short ∷ us) = let rest = pairs_two us in omega (arith, rest)
  pairs_two (types.Int ∷ us) = let rest = pairs_two us in omega (arith, rest)
  pairs_two (types.Reference type ∷ us) = let rest = pairs_two us in omega (arith, rest)

  -- the words with which the method is entered
  entered : take c.local_count (map (given [] []) c.arguments ++ replicate c.local_count Unusable) ≡ arguments_of ts ++
      ([]
      ++ (free (2 * length ts) ++ free (2 * (b.max_locals - length ts) + m.scratch)))
  entered =
      let all : c.local_count - length (arguments_of ts) ≡ 2 * length ts + (2 * (b.max_locals - length ts) + m.scratch)
      =
      omega (arith, count, words, few) in
      ap (λ gs. take c.local_count (gs ++ replicate c.local_count Unusable)) (ap (map (given [] [])) given_are ∙
      given_all
      ts) ∙ taken (arguments_of ts) c.local_count c.local_count (omega (arith, count, words)) (omega arith)
      ∙ ap (λ k. arguments_of ts ++ free k) all ∙ ap (λ zs. arguments_of ts ++ zs) (sym (free_both (2 * length ts) (2
      * (b.max_locals - length ts) + m.scratch)))

  abbrev start : List Cell
  start = arguments_of ts ++ ([] ++ (free (2 * length ts) ++ free (2 * (b.max_locals - length ts) + m.scratch)))

  abbrev end : List Cell
  end = arguments_of ts ++ ([] ++ (locals_of ts ++ free (2 * (b.max_locals - length ts) + m.scratch)))

  start_long : length (arguments_of ts ++ ([] ++ (free (2 * length ts) ++ free (2 * (b.max_locals - length ts)
      + m.scratch)))) ≡ c.local_count
  start_long =
      let one = length-append (arguments_of ts) (free (2 * length ts) ++ free (2 * (b.max_locals - length ts) +
      m.scratch))
      in
      let two = length-append (free (2 * length ts)) (free (2 * (b.max_locals - length ts) + m.scratch)) in
      let three = length-replicate (2 * length ts) Unusable in
      let four = length-replicate (2 * (b.max_locals - length ts) + m.scratch) Unusable in
      omega (arith, one, two, three, four, count, words, few)

  walked : Walks is_of c.max_stack (free c.local_count) (acts_of front) (arguments_of ts ++ ([] ++ (free (2 * length ts)
      ++ free (2 * (b.max_locals - length ts) + m.scratch)))) [] (arguments_of ts ++ ([] ++ (locals_of ts ++ free (2
      * (b.max_locals - length ts) + m.scratch)))) []
  walked =
      let none : m.arguments ≡ length ([] ++ arguments_of ts) + length {A = Cell} [] = omega (arith, words) in
      subst (λ xs. Walks is_of c.max_stack (free c.local_count) xs (arguments_of ts ++ ([] ++ (free (2 * length ts)
      ++ free (2 * (b.max_locals - length ts) + m.scratch)))) [] (arguments_of ts ++ ([] ++ (locals_of ts ++ free (2
      * (b.max_locals - length ts) + m.scratch)))) []) (sym acts) (arguments_walk is_of c.max_stack c.local_count room
      ts
      some [] [] (free (2 * (b.max_locals - length ts) + m.scratch)) 0 m.arguments refl none start_long)

  entry_is : entry c ≡ frame_of (arguments_of ts ++ ([] ++ (free (2 * length ts) ++ free (2 * (b.max_locals - length ts)
      + m.scratch)))) []
  entry_is = ap (λ ls. frame_of ls []) entered

  pub entry_unbroken : (index : ℕ) (s : Step) (x : State) → IsAlong (record { steps = front; before = entry c }) index s
      x
      → (rule : ℕ) → Breaks is_of c.max_stack s.act x rule → ⊥
  entry_unbroken index s x along rule breaks =
      let w = walked in
      let r = sound_along is_of c.max_stack low (free c.local_count) front (arguments_of ts ++ ([] ++ (free (2 * length
      ts)
      ++ free (2 * (b.max_locals - length ts) + m.scratch)))) [] w.sound index s x along.step (subst (λ (z : State).
      slice_get (frames_along front z) index ≡ Some x) entry_is along.frame) in
      nothing_breaks is_of c.max_stack low s.act r.locals r.stack r.sound x r.is rule breaks

  -- the class file's entry, filled up
  by_name : local_words card_type (take b.max_locals (arguments_by_name b ++ replicate b.max_locals Unusable))
      ≡ local_words card_type (arguments_by_name b) ++ free (2 * (b.max_locals - length ts))
  by_name =
      let left : b.max_locals - length (arguments_by_name b) ≡ b.max_locals - length ts = ap (λ k. b.max_locals - k)
      as_many
      in
      ap (local_words card_type) (taken (arguments_by_name b) b.max_locals b.max_locals (omega (arith, few, as_many))
      (omega
      arith) ∙ ap (λ k. arguments_by_name b ++ free k) left) ∙ both (arguments_by_name b) (b.max_locals - length ts)
    where
      pairs_free : (k : ℕ) → local_words card_type (free k) ≡ free (2 * k)
      pairs_free zero = refl
      pairs_free (suc k) = let up : 2 * suc k ≡ suc (suc (2 * k)) = omega arith in ap (λ zs. Unusable ∷ Unusable ∷ zs)
          (pairs_free k) ∙ ap free (sym up)

      both : (xs : List Cell) (k : ℕ) → local_words card_type (xs ++ free k) ≡ local_words card_type xs ++ free (2 * k)
      both [] k = pairs_free k
      both (x ∷ xs) k = ap (λ zs. words_of_local card_type x ++ zs) (both xs k)

  pub entry_arrives : (let l = states c.local_count in l.Below (frame_through front (entry c)) (int_state card_type m
      (entry_by_name b)))
  entry_arrives =
      let w = walked in
      let through = ap (frame_through front) entry_is ∙ through_is is_of c.max_stack low (free c.local_count) front
      (arguments_of ts ++ ([] ++ (free (2 * length ts) ++ free (2 * (b.max_locals - length ts) + m.scratch)))) []
      w.sound in
      let ends : frame_through front (entry c) ≡ frame_of (arguments_of ts ++ ([] ++ (locals_of ts ++ free (2
      * (b.max_locals - length ts) + m.scratch)))) [] = through ∙ ap (λ ls. frame_of ls (stack_through (acts_of front)
      (arguments_of ts ++ ([] ++ (free (2 * length ts) ++ free (2 * (b.max_locals - length ts) + m.scratch)))) []))
      w.locals ∙ ap (frame_of (arguments_of ts ++ ([] ++ (locals_of ts ++ free (2 * (b.max_locals - length ts)
      + m.scratch))))) w.stack in
      let split : free (2 * (b.max_locals - length ts) + m.scratch) ≡ free (2 * (b.max_locals - length ts)) ++ free
      m.scratch
      = sym (free_both (2 * (b.max_locals - length ts)) m.scratch) in
      let target : local_words card_type (arguments_by_name b) ++ (free (2 * (b.max_locals - length ts)) ++ free
      m.scratch)
      ≡ local_words card_type (take b.max_locals (arguments_by_name b ++ replicate b.max_locals Unusable)) ++ free
      m.scratch
      = sym (append_assoc (local_words card_type (arguments_by_name b)) (free (2 * (b.max_locals - length ts))) (free
      m.scratch)) ∙ ap (λ zs. zs ++ free m.scratch) (sym by_name) in
      let locals : AllZip IsCellBelow (arguments_of ts ++ (locals_of ts ++ free (2 * (b.max_locals - length ts)
      + m.scratch))) (free m.arguments ++ (local_words card_type (arguments_by_name b) ++ (free (2 * (b.max_locals -
      length
      ts)) ++ free m.scratch))) = zip_both (arguments_of ts) (locals_of ts ++ free (2 * (b.max_locals - length ts)
      + m.scratch)) (free m.arguments) (local_words card_type (arguments_by_name b) ++ (free (2 * (b.max_locals - length
      ts)) ++ free m.scratch)) (zip_free (arguments_of ts) m.arguments words) (zip_both (locals_of ts) (free (2
      * (b.max_locals - length ts) + m.scratch)) (local_words card_type (arguments_by_name b)) (free (2 * (b.max_locals
      - length ts)) ++ free m.scratch) below (subst (λ (zs : List Cell). AllZip IsCellBelow (free (2 * (b.max_locals
      - length ts) + m.scratch)) zs) split (zip_itself (free (2 * (b.max_locals - length ts) + m.scratch))))) in
      subst (λ (z : State). let l = states c.local_count in l.Below z (int_state card_type m (entry_by_name b))) (sym
      ends) (
        tt,
        subst (λ (zs : List Cell). AllZip IsCellBelow (arguments_of ts ++ (locals_of ts ++ free (2 * (b.max_locals -
            length
            ts) + m.scratch))) (free m.arguments ++ zs)) target locals,
      )
