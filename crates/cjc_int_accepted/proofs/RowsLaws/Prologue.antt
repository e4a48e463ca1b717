-- What stands before the first instruction of a method in int mode: each argument goes to the two words of its local.
use Rattle.std.proofs.Common.{◌≡◌, ℕ, suc, ◌+◌, ◌*◌, ◌<◌, ◌≤◌, refl, sym, ap, subst, ◌∙◌, arith}
use Rattle.std.proofs.Common.{false, List, [], ◌∷◌, ◌++◌, append_assoc, length, length-append}
use Rattle.std.proofs.Common.{slice_get, slice_set, Some}
use Rattle.std.specs.Prelude.{◌||◌, nat_le}
use Rattle.std.specs.List.{AllZip}
use Rattle.std.proofs.lemmas.Bool.Decides.{nat_tests}
use Rattle.cjc_types.proofs.BytesGets.{get_behind, get_below, get_front}
use Rattle.cjc_types.specs.Cells.{IsCellBelow}
use Rattle.cjc_types.specs.Types.{as_reference}
use Rattle.cjc_types.specs.declared.cell.Cell.{Cell}
use Rattle.cjc_types.specs.declared.cell.Cell.TheVariants.{Number, Refs, Unusable}
use Rattle.cjc_frames.specs.Acts.{Subtype, is_wrong_local}
use Rattle.cjc_frames.specs.declared.acts.Act.{Act}
use Rattle.cjc_frames.specs.declared.acts.Need.TheVariants.{NumberWord, ReferenceWord}
use Rattle.cjc_verify.specs.CardActs.CardTypes.{ValueType, width}
use Rattle.cjc_verify.specs.CardActs.CardTypes as types
use Rattle.cjc_verify.specs.CardActs.Rows.{calculating, loading, storing}
use Rattle.cjc_verify.specs.CardSemantics.Bytecode.Effects as letters
use Rattle.cjc_int_accepted.specs.Acts.{moving, moving_all}
use Rattle.cjc_int_accepted.specs.Arguments.{argument_of, arguments_of, local_of, locals_of}
use Rattle.cjc_int_accepted.specs.Frames.{free}
use Rattle.cjc_int_accepted.specs.Runs.{Walks}
use Rattle.cjc_int_accepted.specs.Types.{AreValues}
use Rattle.cjc_int_accepted.proofs.RowsLaws.Sound.{widen_sound}
use Rattle.cjc_int_accepted.proofs.RowsLaws.Walks.{walk_both, walk_none, walk_one}
use Rattle.cjc_int_accepted.proofs.WordsLaws.{operand_got, set_past, zip_free}

-- ---- lists

set_one : (xs ps : List Cell) (u x : Cell) (rest : List Cell) (n : ℕ) → n ≡ length xs + length ps → slice_set (xs ++ (ps
    ++ (u ∷ rest))) n x ≡ xs ++ (ps ++ (x ∷ rest))
set_one xs ps u x rest n e =
    let none : length ps ≡ length ps + 0 = omega arith in
    set_past xs (ps ++ (u ∷ rest)) (length ps) n x e ∙ ap (λ zs. xs ++ zs) (set_past ps (u ∷ rest) 0 (length ps) x none)

set_two : (xs ps : List Cell) (u v x y : Cell) (rest : List Cell) (n : ℕ) → n ≡ length xs + length ps → slice_set
    (slice_set (xs ++ (ps ++ (u ∷ v ∷ rest))) n x) (n + 1) y ≡ xs ++ (ps ++ (x ∷ y ∷ rest))
set_two xs ps u v x y rest n e =
    let next : n + 1 ≡ length xs + (length ps + 1) = omega (arith, e) in
    ap (λ zs. slice_set zs (n + 1) y) (set_one xs ps u x (v ∷ rest) n e)
    ∙ set_past xs (ps ++ (x ∷ v ∷ rest)) (length ps + 1) (n + 1) y next
    ∙ ap (λ zs. xs ++ zs) (set_past ps (x ∷ v ∷ rest) 1 (length ps + 1) y refl)

-- a word of the arguments
word_there : (front here back rest : List Cell) (k : ℕ) (x : Cell) (n : ℕ) → n ≡ length front + k → slice_get here k
    ≡ Some x → slice_get ((front ++ (here ++ back)) ++ rest) n ≡ Some x
word_there front here back rest k x n e f =
    let lt = get_below here k x f in
    let one = length-append front (here ++ back) in
    let two = length-append here back in
    let within : length front + k < length (front ++ (here ++ back)) = omega (arith, lt, one, two) in
    ap (slice_get ((front ++ (here ++ back)) ++ rest)) e ∙ get_front (front ++ (here ++ back)) rest (length front + k)
    within ∙ get_behind front (here ++ back) k ∙ get_front here back k lt ∙ f

module _ (is_of : Subtype) (most n : ℕ) (room : 2 ≤ most) where
  abbrev base : List Cell
  base = free n

  abbrev Goes : List Act → (ls ms : List Cell) → Type 0
  Goes acts ls ms = Walks is_of most base acts ls [] ms []

  -- ---- one argument

  module _ (front here back ps rest : List Cell) (u v : Cell) (word first : ℕ) (at : word ≡ length front)
      (to : first ≡ length (front ++ (here ++ back)) + length ps) where
    abbrev args : List Cell
    args = front ++ (here ++ back)

    abbrev old : List Cell
    old = (front ++ (here ++ back)) ++ (ps ++ (u ∷ v ∷ rest))

    old_long : length ((front ++ (here ++ back)) ++ (ps ++ (u ∷ v ∷ rest))) ≡ length (front ++ (here ++ back)) + (length
        ps + suc (suc (length rest)))
    old_long =
        let one = length-append (front ++ (here ++ back)) (ps ++ (u ∷ v ∷ rest)) in
        let two = length-append ps (u ∷ v ∷ rest) in
        omega (arith, one, two)

    first_in : nat_le (length ((front ++ (here ++ back)) ++ (ps ++ (u ∷ v ∷ rest)))) first ≡ false
    first_in = let long = old_long in grind (arith, nat_tests, long, to)

    second_in : nat_le (length ((front ++ (here ++ back)) ++ (ps ++ (u ∷ v ∷ rest)))) (first + 1) ≡ false
    second_in = let long = old_long in grind (arith, nat_tests, long, to)

    word_in : (k : ℕ) (x : Cell) → slice_get here k ≡ Some x → (j : ℕ) → j ≡ length front + k → nat_le (length ((front
        ++
        (here ++ back)) ++ (ps ++ (u ∷ v ∷ rest)))) j ≡ false
    word_in k x f j e =
        let lt = get_below here k x f in
        let long = old_long in
        let one = length-append front (here ++ back) in
        let two = length-append here back in
        let within : j < length ((front ++ (here ++ back)) ++ (ps ++ (u ∷ v ∷ rest))) = omega (
          arith,
          lt,
          long,
          one,
          two,
          e,
        ) in
        grind (arith, nat_tests, within)

    module _ (sized : length ((front ++ (here ++ back)) ++ (ps ++ (u ∷ v ∷ rest))) ≡ n) where
      below : AllZip IsCellBelow ((front ++ (here ++ back)) ++ (ps ++ (u ∷ v ∷ rest))) (free n)
      below = zip_free ((front ++ (here ++ back)) ++ (ps ++ (u ∷ v ∷ rest))) n sized

      -- a number of two words is stored
      store_walk : Walks is_of most (free n) (storing letters.Int first ∷ []) ((front ++ (here ++ back)) ++ (ps ++ (u ∷
          v
          ∷ rest))) (Number ∷ Number ∷ []) ((front ++ (here ++ back)) ++ (ps ++ (Number ∷ Number ∷ rest))) []
      store_walk = walk_one is_of most (free n) (storing letters.Int first) ((front ++ (here ++ back)) ++ (ps ++ (u ∷ v
          ∷ rest))) (Number ∷ Number ∷ []) ((front ++ (here ++ back)) ++ (ps ++ (Number ∷ Number ∷ rest))) [] (record {
            enough = omega arith;
            before = omega (arith, room);
            behind = omega arith;
            operands = refl;
            locals_right = refl;
            there = ap (λ p. false || (p || (nat_le (length ((front ++ (here ++ back)) ++ (ps ++ (u ∷ v ∷ rest))))
                (first
                + 1) || false))) first_in ∙ ap (λ p. false || (false || (p || false))) second_in;
            fits = refl;
            known = refl;
            named = refl;
          }) below (set_two (front ++ (here ++ back)) ps u v Number Number rest first to) refl

      -- a number of one word
      short_walk : slice_get here 0 ≡ Some Number → Goes (loading letters.Short word ∷ calculating 1 2 ∷ storing
          letters.Int first ∷ []) ((front ++ (here ++ back)) ++ (ps ++ (u ∷ v ∷ rest))) ((front ++ (here ++ back)) ++
          (ps
          ++ (Number ∷ Number ∷ rest)))
      short_walk f =
          let none : word ≡ length front + 0 = omega (arith, at) in
          let got = word_there front here back (ps ++ (u ∷ v ∷ rest)) 0 Number word none f in
          let ls : List Cell = (front ++ (here ++ back)) ++ (ps ++ (u ∷ v ∷ rest)) in
          walk_both is_of most (free n) (loading letters.Short word ∷ []) (calculating 1 2 ∷ storing letters.Int first
          ∷ []) ((front ++ (here ++ back)) ++ (ps ++ (u ∷ v ∷ rest))) [] ((front ++ (here ++ back)) ++ (ps ++ (u ∷ v
          ∷ rest))) (Number ∷ []) ((front ++ (here ++ back)) ++ (ps ++ (Number ∷ Number ∷ rest))) [] (walk_one is_of
          most
          (free n) (loading letters.Short word) ((front ++ (here ++ back)) ++ (ps ++ (u ∷ v ∷ rest))) [] ((front ++
          (here
          ++ back)) ++ (ps ++ (u ∷ v ∷ rest))) (Number ∷ []) (record {
            enough = omega arith;
            before = omega arith;
            behind = omega (arith, room);
            operands = refl;
            locals_right = ap (λ o. is_wrong_local is_of NumberWord o || false) got;
            there = ap (λ p. (p || false) || false) (word_in 0 Number f word none);
            fits = refl;
            known = refl;
            named = refl;
          }) below refl refl) (walk_both is_of most (free n) (calculating 1 2 ∷ []) (storing letters.Int first ∷ [])
          ((front ++ (here ++ back)) ++ (ps ++ (u ∷ v ∷ rest))) (Number ∷ []) ((front ++ (here ++ back)) ++ (ps ++ (u ∷
          v
          ∷ rest))) (Number ∷ Number ∷ []) ((front ++ (here ++ back)) ++ (ps ++ (Number ∷ Number ∷ rest))) [] (walk_one
          is_of most (free n) (calculating 1 2) ((front ++ (here ++ back)) ++ (ps ++ (u ∷ v ∷ rest))) (Number ∷ [])
          ((front ++ (here ++ back)) ++ (ps ++ (u ∷ v ∷ rest))) (Number ∷ Number ∷ []) (widen_sound is_of most ((front
          ++ (here ++ back)) ++ (ps ++ (u ∷ v ∷ rest))) [] (omega (arith, room))) below refl refl) store_walk)

      -- one of two words
      int_walk : slice_get here 0 ≡ Some Number → slice_get here 1 ≡ Some Number → Goes (loading letters.Int word
          ∷ storing letters.Int first ∷ []) ((front ++ (here ++ back)) ++ (ps ++ (u ∷ v ∷ rest))) ((front ++ (here
          ++ back)) ++ (ps ++ (Number ∷ Number ∷ rest)))
      int_walk f g =
          let none : word ≡ length front + 0 = omega (arith, at) in
          let next : word + 1 ≡ length front + 1 = omega (arith, at) in
          let got = word_there front here back (ps ++ (u ∷ v ∷ rest)) 0 Number word none f in
          let beside = word_there front here back (ps ++ (u ∷ v ∷ rest)) 1 Number (word + 1) next g in
          walk_both is_of most (free n) (loading letters.Int word ∷ []) (storing letters.Int first ∷ []) ((front ++
          (here
          ++ back)) ++ (ps ++ (u ∷ v ∷ rest))) [] ((front ++ (here ++ back)) ++ (ps ++ (u ∷ v ∷ rest))) (Number ∷ Number
          ∷ []) ((front ++ (here ++ back)) ++ (ps ++ (Number ∷ Number ∷ rest))) [] (walk_one is_of most (free n)
          (loading
          letters.Int word) ((front ++ (here ++ back)) ++ (ps ++ (u ∷ v ∷ rest))) [] ((front ++ (here ++ back)) ++ (ps
          ++ (u ∷ v ∷ rest))) (Number ∷ Number ∷ []) (record {
            enough = omega arith;
            before = omega arith;
            behind = omega (arith, room);
            operands = refl;
            locals_right = ap (λ o. is_wrong_local is_of NumberWord o || (is_wrong_local is_of NumberWord (slice_get
                ((front ++ (here ++ back)) ++ (ps ++ (u ∷ v ∷ rest))) (word + 1)) || false)) got ∙ ap (λ o. false
                || (is_wrong_local is_of NumberWord o || false)) beside;
            there = ap (λ p. (p || (nat_le (length ((front ++ (here ++ back)) ++ (ps ++ (u ∷ v ∷ rest)))) (word + 1)
                || false)) || false) (word_in 0 Number f word none) ∙ ap (λ p. (false || (p || false)) || false)
                (word_in
                1 Number g (word + 1) next);
            fits = refl;
            known = refl;
            named = refl;
          }) below refl refl) store_walk

      -- a reference
      reference_walk : (type : List ℕ) → slice_get here 0 ≡ Some (Refs (type ∷ [])) → Goes (loading letters.Reference
          word
          ∷ storing letters.Reference first ∷ []) ((front ++ (here ++ back)) ++ (ps ++ (u ∷ v ∷ rest))) ((front ++ (here
          ++ back)) ++ (ps ++ (Refs (type ∷ []) ∷ v ∷ rest)))
      reference_walk type f =
          let none : word ≡ length front + 0 = omega (arith, at) in
          let got = word_there front here back (ps ++ (u ∷ v ∷ rest)) 0 (Refs (type ∷ [])) word none f in
          walk_both is_of most (free n) (loading letters.Reference word ∷ []) (storing letters.Reference first ∷ [])
          ((front ++ (here ++ back)) ++ (ps ++ (u ∷ v ∷ rest))) [] ((front ++ (here ++ back)) ++ (ps ++ (u ∷ v ∷ rest)))
          (Refs (type ∷ []) ∷ []) ((front ++ (here ++ back)) ++ (ps ++ (Refs (type ∷ []) ∷ v ∷ rest))) [] (walk_one
          is_of
          most (free n) (loading letters.Reference word) ((front ++ (here ++ back)) ++ (ps ++ (u ∷ v ∷ rest))) []
          ((front
          ++ (here ++ back)) ++ (ps ++ (u ∷ v ∷ rest))) (Refs (type ∷ []) ∷ []) (record {
            enough = omega arith;
            before = omega arith;
            behind = omega (arith, room);
            operands = refl;
            locals_right = ap (λ o. is_wrong_local is_of ReferenceWord o || false) got;
            there = ap (λ p. (p || false) || false) (word_in 0 (Refs (type ∷ [])) f word none);
            fits = refl;
            known = refl;
            named = refl;
          }) below refl (ap (λ x. as_reference x ∷ []) (operand_got ((front ++ (here ++ back)) ++ (ps ++ (u ∷ v ∷
          rest)))
          word (Refs (type ∷ [])) got))) (walk_one is_of most (free n) (storing letters.Reference first) ((front ++
          (here
          ++ back)) ++ (ps ++ (u ∷ v ∷ rest))) (Refs (type ∷ []) ∷ []) ((front ++ (here ++ back)) ++ (ps ++ (Refs (type
          ∷ []) ∷ v ∷ rest))) [] (record {
            enough = omega arith;
            before = omega (arith, room);
            behind = omega arith;
            operands = refl;
            locals_right = refl;
            there = ap (λ p. false || (p || false)) first_in;
            fits = refl;
            known = refl;
            named = refl;
          }) below (set_one (front ++ (here ++ back)) ps u (Refs (type ∷ [])) (v ∷ rest) first to) refl)

  -- of any type
  argument_walk : (t : ValueType) (ts : List ValueType) → AreValues (t ∷ ts) → (front back ps rest : List Cell)
      (word first : ℕ) → word ≡ length front → first ≡ length (front ++ (argument_of t ++ back)) + length ps → length
      ((front ++ (argument_of t ++ back)) ++ (ps ++ (Unusable ∷ Unusable ∷ rest))) ≡ n → Goes (moving t word first)
      ((front ++ (argument_of t ++ back)) ++ (ps ++ (Unusable ∷ Unusable ∷ rest))) ((front ++ (argument_of t ++ back))
      ++ (ps ++ (local_of t ++ rest)))
  argument_walk types.Void ts some front back ps rest word first at to sized = absurd some
  argument_walk types.Boolean ts some front back ps rest word first at to sized = short_walk front (Number ∷ []) back ps
      rest Unusable Unusable word first at to sized refl
  argument_walk types.Byte ts some front back ps rest word first at to sized = short_walk front (Number ∷ []) back ps
      rest
      Unusable Unusable word first at to sized refl
  argument_walk types.Short ts some front back ps rest word first at to sized = short_walk front (Number ∷ []) back ps
      rest
      Unusable Unusable word first at to sized refl
  argument_walk types.Int ts some front back ps rest word first at to sized = int_walk front (Number ∷ Number ∷ []) back
      ps
      rest Unusable Unusable word first at to sized refl refl
  argument_walk (types.Reference type) ts some front back ps rest word first at to sized = reference_walk front (Refs
      (type
      ∷ []) ∷ []) back ps rest Unusable Unusable word first at to sized type refl

  words_width : (t : ValueType) → length (argument_of t) ≡ width t
  words_width types.Void = refl
  words_width types.Boolean = refl
  words_width types.Byte = refl
  words_width types.Short = refl
  words_width types.Int = refl
  words_width (types.Reference type) = refl

  two_words : (t : ValueType) → length (local_of t) ≡ 2
  two_words types.Void = refl
  two_words types.Boolean = refl
  two_words types.Byte = refl
  two_words types.Short = refl
  two_words types.Int = refl
  two_words (types.Reference type) = refl

  fewer : (t : ValueType) (ts : List ValueType) → AreValues (t ∷ ts) → AreValues ts
  fewer types.Void ts some = absurd some
  fewer types.Boolean ts some = some
  fewer types.Byte ts some = some
  fewer types.Short ts some = some
  fewer types.Int ts some = some
  fewer (types.Reference type) ts some = some

  -- ---- all of them

  pub arguments_walk : (ts : List ValueType) → AreValues ts → (front ps rest : List Cell) (word first : ℕ) → word ≡
      length
      front → first ≡ length (front ++ arguments_of ts) + length ps → length ((front ++ arguments_of ts) ++ (ps ++ (free
      (2
      * length ts) ++ rest))) ≡ n → Goes (moving_all word first ts) ((front ++ arguments_of ts) ++ (ps ++ (free (2 *
      length
      ts) ++ rest))) ((front ++ arguments_of ts) ++ (ps ++ (locals_of ts ++ rest)))
  arguments_walk [] some front ps rest word first at to sized = walk_none is_of most (free n) ((front ++ []) ++ (ps ++
      ([]
      ++ rest))) []
  arguments_walk (t ∷ ts) some front ps rest word first at to sized =
      let up : 2 * suc (length ts) ≡ suc (suc (2 * length ts)) = omega arith in
      let more : List Cell = free (2 * length ts) ++ rest in
      let begun : (front ++ (argument_of t ++ arguments_of ts)) ++ (ps ++ (free (2 * suc (length ts)) ++ rest)) ≡ (front
      ++ (argument_of t ++ arguments_of ts)) ++ (ps ++ (Unusable ∷ Unusable ∷ (free (2 * length ts) ++ rest))) = ap (λ
      k.
      (front ++ (argument_of t ++ arguments_of ts)) ++ (ps ++ (free k ++ rest))) up in
      let one = argument_walk t ts some front (arguments_of ts) ps (free (2 * length ts) ++ rest) word first at to (ap
      length (sym begun) ∙ sized) in
      let args : (front ++ argument_of t) ++ arguments_of ts ≡ front ++ (argument_of t ++ arguments_of ts) =
      append_assoc
      front (argument_of t) (arguments_of ts) in
      let mids : (ps ++ local_of t) ++ (free (2 * length ts) ++ rest) ≡ ps ++ (local_of t ++ (free (2 * length ts)
      ++ rest)) = append_assoc ps (local_of t) (free (2 * length ts) ++ rest) in
      let ends : (ps ++ local_of t) ++ (locals_of ts ++ rest) ≡ ps ++ ((local_of t ++ locals_of ts) ++ rest) =
      append_assoc
      ps (local_of t) (locals_of ts ++ rest) ∙ ap (λ zs. ps ++ zs) (sym (append_assoc (local_of t) (locals_of ts) rest))
      in
      let wide = words_width t in
      let two = two_words t in
      let front_long = length-append front (argument_of t) in
      let ps_long = length-append ps (local_of t) in
      let args_long = ap length args in
      let mid_long = ap length mids in
      let all_long : length (((front ++ argument_of t) ++ arguments_of ts) ++ ((ps ++ local_of t) ++ (free (2 * length
      ts)
      ++ rest))) ≡ n =
      (let a = length-append ((front ++ argument_of t) ++ arguments_of ts) ((ps ++ local_of t) ++ (free (2 * length ts)
      ++ rest)) in
      let b = length-append (ps ++ local_of t) (free (2 * length ts) ++ rest) in
      let c = ap length (sym begun) ∙ sized in
      let d = length-append (front ++ (argument_of t ++ arguments_of ts)) (ps ++ (Unusable ∷ Unusable ∷ (free (2 *
      length
      ts) ++ rest))) in
      let f = length-append ps (Unusable ∷ Unusable ∷ (free (2 * length ts) ++ rest)) in
      omega (arith, a, b, c, d, f, args_long, ps_long, two)) in
      let rest_walk = arguments_walk ts (fewer t ts some) (front ++ argument_of t) (ps ++ local_of t) rest (word + width
      t)
      (first + 2) (omega (arith, at, wide, front_long)) (omega (arith, to, args_long, ps_long, two)) all_long in
      subst (λ (zs : List Cell). Goes (moving_all word first (t ∷ ts)) zs ((front ++ arguments_of (t ∷ ts)) ++ (ps
      ++ (locals_of (t ∷ ts) ++ rest)))) (sym begun) (walk_both is_of most (free n) (moving t word first) (moving_all
      (word
      + width t) (first + 2) ts) ((front ++ (argument_of t ++ arguments_of ts)) ++ (ps ++ (Unusable ∷ Unusable ∷ (free
      (2
      * length ts) ++ rest)))) [] ((front ++ (argument_of t ++ arguments_of ts)) ++ (ps ++ (local_of t ++ (free (2 *
      length
      ts) ++ rest)))) [] ((front ++ arguments_of (t ∷ ts)) ++ (ps ++ (locals_of (t ∷ ts) ++ rest))) [] one (subst (λ (zs
      :
      List Cell). Goes (moving_all (word + width t) (first + 2) ts) ((front ++ (argument_of t ++ arguments_of ts)) ++
      zs)
      ((front ++ arguments_of (t ∷ ts)) ++ (ps ++ (locals_of (t ∷ ts) ++ rest)))) mids (subst (λ (zs : List Cell). Goes
      (moving_all (word + width t) (first + 2) ts) (zs ++ ((ps ++ local_of t) ++ (free (2 * length ts) ++ rest)))
      ((front
      ++ arguments_of (t ∷ ts)) ++ (ps ++ (locals_of (t ∷ ts) ++ rest)))) args (subst (λ (zs : List Cell). Goes
      (moving_all
      (word + width t) (first + 2) ts) (((front ++ argument_of t) ++ arguments_of ts) ++ ((ps ++ local_of t) ++ (free (2
      * length ts) ++ rest))) ((front ++ arguments_of (t ∷ ts)) ++ zs)) ends (subst (λ (zs : List Cell). Goes
      (moving_all
      (word + width t) (first + 2) ts) (((front ++ argument_of t) ++ arguments_of ts) ++ ((ps ++ local_of t) ++ (free (2
      * length ts) ++ rest))) (zs ++ ((ps ++ local_of t) ++ (locals_of ts ++ rest)))) args rest_walk)))))
