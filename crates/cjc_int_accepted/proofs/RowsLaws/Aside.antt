-- Arguments that are handed over by scratch pairs: all are put aside, the last first, and come back in order, cut where
-- they have one word.
use Rattle.std.proofs.Common.{◌≡◌, ℕ, suc, ◌+◌, ◌*◌, ◌≤◌, refl, sym, ap, subst, ◌∙◌, arith, Bool, true}
use Rattle.std.proofs.Common.{false, List, [], ◌∷◌, ◌++◌, append_assoc, length, length-append, slice_get, slice_set}
use Rattle.std.proofs.Common.{Option}
use Rattle.std.proofs.Common.{Some}
use Rattle.std.specs.Prelude.{◌||◌, nat_le, if◌then◌else◌}
use Rattle.std.specs.List.{AllZip}
use Rattle.std.proofs.lemmas.Bool.Decides.{nat_tests}
use Rattle.std.proofs.lemmas.List.{length-replicate}
use Rattle.cjc_types.proofs.BytesGets.{get_behind}
use Rattle.cjc_types.specs.Bytes.Descriptor.{Part}
use Rattle.cjc_types.specs.Bytes.declared.descriptor.Kind.{Kind}
use Rattle.cjc_types.specs.Bytes.declared.descriptor.Kind.TheVariants as kinds
use Rattle.cjc_types.specs.Cells.{IsCellBelow}
use Rattle.cjc_types.specs.Rules.{is_value}
use Rattle.cjc_types.specs.Types.{as_reference, is_void}
use Rattle.cjc_types.specs.World.Classes.{Class}
use Rattle.cjc_types.specs.declared.cell.Cell.{Cell}
use Rattle.cjc_types.specs.declared.cell.Cell.TheVariants.{Number, Refs, Unusable}
use Rattle.cjc_frames.specs.Acts.{Subtype, is_wrong_local}
use Rattle.cjc_frames.specs.declared.acts.Act.{Act}
use Rattle.cjc_frames.specs.declared.acts.Need.TheVariants.{NumberWord, ReferenceWord}
use Rattle.cjc_verify.specs.CardActs.CardTypes.{ValueType}
use Rattle.cjc_verify.specs.CardActs.CardTypes as types
use Rattle.cjc_verify.specs.CardActs.Rows.{loading, storing}
use Rattle.cjc_verify.specs.CardSemantics.Bytecode.Effects as letters
use Rattle.cjc_accepted_proof.specs.Frames.{SubtypesAgree, types_named}
use Rattle.cjc_accepted_proof.proofs.RowsLaws.{zip_both, zip_itself}
use Rattle.cjc_int_accepted.specs.Acts.{cutting, is_short, letter_of_value, putting_aside, taking_back}
use Rattle.cjc_int_accepted.specs.Frames.{Room, frame_words, free, local_words, words_of}
use Rattle.cjc_int_accepted.specs.Runs.{Walks, most_words}
use Rattle.cjc_int_accepted.specs.Types.{AreArguments, IsTypedAs, cut_on, cut_words, pair_with, pairs_with, words_on}
use Rattle.cjc_int_accepted.proofs.RowsLaws.Values.{value_cut}
use Rattle.cjc_int_accepted.proofs.RowsLaws.Walks.{walk_both, walk_none, walk_one}
use Rattle.cjc_int_accepted.proofs.WordsLaws.{operand_got, pairs_long as pairs_long_of, set_past, zip_free}

-- ---- a pair behind so many words

got_past : (xs ys : List Cell) (k n : ℕ) (y : Cell) → n ≡ length xs + k → slice_get ys k ≡ Some y → slice_get (xs ++ ys)
    n
    ≡ Some y
got_past xs ys k n y e f = ap (slice_get (xs ++ ys)) e ∙ get_behind xs ys k ∙ f

-- the kinds of values on the card: a number of two words, or a reference
pub data IsMoved : ValueType → Cell → Type 0 where
  a_number : {t : ValueType} → letter_of_value t ≡ letters.Int → IsMoved t Number
  a_reference : {type : List ℕ} {names : List (List ℕ)} → IsMoved (types.Reference type) (Refs names)

module _ (card_type : List ℕ → Option (List ℕ)) (is_of : Subtype) (w : List Class) (agree : SubtypesAgree card_type
    is_of w)
  where
    moved_as : (kind : Kind) (class : List ℕ) (t : ValueType) → IsTypedAs card_type kind class t → is_void kind ≡ false
        → (x : Cell) → is_value w kind class x ≡ true → IsMoved t x
    moved_as kinds.Bool class types.Boolean typed some Number e = a_number refl
    moved_as kinds.Bool class types.Boolean typed some (Refs names) e = absurd cc
    moved_as kinds.Bool class types.Boolean typed some Unusable e = absurd cc
    moved_as kinds.Byte class types.Byte typed some Number e = a_number refl
    moved_as kinds.Byte class types.Byte typed some (Refs names) e = absurd cc
    moved_as kinds.Byte class types.Byte typed some Unusable e = absurd cc
    moved_as kinds.Short class types.Short typed some Number e = a_number refl
    moved_as kinds.Short class types.Short typed some (Refs names) e = absurd cc
    moved_as kinds.Short class types.Short typed some Unusable e = absurd cc
    moved_as kinds.Int class types.Int typed some Number e = a_number refl
    moved_as kinds.Int class types.Int typed some (Refs names) e = absurd cc
    moved_as kinds.Int class types.Int typed some Unusable e = absurd cc
    moved_as kinds.Ref class (types.Reference type) typed some Number e = absurd cc
    moved_as kinds.Ref class (types.Reference type) typed some (Refs names) e = a_reference
    moved_as kinds.Ref class (types.Reference type) typed some Unusable e = absurd cc
    moved_as kinds.Void class t typed some x e = absurd cc
    moved_as kind class t typed some x e = absurd typed

    module _ (most : ℕ) (base : List Cell) where
      abbrev Goes : List Act → (ls s ms t : List Cell) → Type 0
      Goes acts ls s ms t = Walks is_of most base acts ls s ms t

      -- so many words behind these are of the frame, whatever they hold
      abbrev Free : (front : List Cell) → (n : ℕ) → Type 0
      Free front n = (zs : List Cell) → length zs ≡ n → AllZip IsCellBelow (front ++ zs) base

      -- ---- one value

      module _ (front rest : List Cell) (u v : Cell) (word : ℕ) (at : word ≡ length front) (n : ℕ) (free : Free front n)
          (sized : suc (suc (length rest)) ≡ n) where
        first_in : (a b : Cell) → nat_le (length (front ++ (a ∷ b ∷ rest))) word ≡ false
        first_in a b = let long = length-append front (a ∷ b ∷ rest) in grind (arith, nat_tests, long, at)

        second_in : (a b : Cell) → nat_le (length (front ++ (a ∷ b ∷ rest))) (word + 1) ≡ false
        second_in a b = let long = length-append front (a ∷ b ∷ rest) in grind (arith, nat_tests, long, at)

        none_behind : word ≡ length front + 0
        none_behind = omega (arith, at)

        next_behind : word + 1 ≡ length front + 1
        next_behind = omega (arith, at)

        store_one : (t : ValueType) (x : Cell) → IsMoved t x → (s : List Cell) → length (words_of card_type x ++ s) ≤
            most
            → Goes (storing (letter_of_value t) word ∷ []) (front ++ (u ∷ v ∷ rest)) (words_of card_type x ++ s) (front
            ++ (pair_with card_type x v ++ rest)) s
        store_one t Number (a_number letter) s few = subst (λ (l : letters.Letter). Goes (storing l word ∷ []) (front ++
            (u
            ∷ v ∷ rest)) (Number ∷ Number ∷ s) (front ++ (Number ∷ Number ∷ rest)) s) (sym letter) (walk_one is_of most
            base
            (storing letters.Int word) (front ++ (u ∷ v ∷ rest)) (Number ∷ Number ∷ s) (front ++ (Number ∷ Number ∷
            rest)) s
            (record {
              enough = omega arith;
              before = few;
              behind = omega (arith, few);
              operands = refl;
              locals_right = refl;
              there = ap (λ p. false || (p || (nat_le (length (front ++ (u ∷ v ∷ rest))) (word + 1) || false)))
                  (first_in u
                  v) ∙ ap (λ p. false || (false || (p || false))) (second_in u v);
              fits = refl;
              known = refl;
              named = refl;
            }) (free (u ∷ v ∷ rest) sized) (ap (λ zs. slice_set zs (word + 1) Number) (set_past front (u ∷ v ∷ rest) 0
            word
            Number none_behind) ∙ set_past front (Number ∷ v ∷ rest) 1 (word + 1) Number next_behind) refl)
        store_one (types.Reference type) (Refs names) a_reference s few = walk_one is_of most base (storing
            letters.Reference
            word) (front ++ (u ∷ v ∷ rest)) (Refs (types_named card_type names) ∷ s) (front ++ (Refs (types_named
            card_type
            names) ∷ v ∷ rest)) s (record {
              enough = omega arith;
              before = few;
              behind = omega (arith, few);
              operands = refl;
              locals_right = refl;
              there = ap (λ p. false || (p || false)) (first_in u v);
              fits = refl;
              known = refl;
              named = refl;
            }) (free (u ∷ v ∷ rest) sized) (set_past front (u ∷ v ∷ rest) 0 word (Refs (types_named card_type names))
            none_behind) refl
        store_one types.Void (Refs names) moved s few = elim moved [ ]
        store_one types.Boolean (Refs names) moved s few = elim moved [ ]
        store_one types.Byte (Refs names) moved s few = elim moved [ ]
        store_one types.Short (Refs names) moved s few = elim moved [ ]
        store_one types.Int (Refs names) moved s few = elim moved [ ]
        store_one t Unusable moved s few = elim moved [ ]

        load_one : (t : ValueType) (x : Cell) → IsMoved t x → (s : List Cell) → length (words_of card_type x ++ s) ≤
            most
            → Goes (loading (letter_of_value t) word ∷ []) (front ++ (pair_with card_type x v ++ rest)) s (front ++
            (pair_with
            card_type x v ++ rest)) (words_of card_type x ++ s)
        load_one t Number (a_number letter) s few =
            let got = got_past front (Number ∷ Number ∷ rest) 0 word Number none_behind refl in
            let beside = got_past front (Number ∷ Number ∷ rest) 1 (word + 1) Number next_behind refl in
            subst (λ (l : letters.Letter). Goes (loading l word ∷ []) (front ++ (Number ∷ Number ∷ rest)) s (front ++
            (Number
            ∷ Number ∷ rest)) (Number ∷ Number ∷ s)) (sym letter) (walk_one is_of most base (loading letters.Int word)
            (front
            ++ (Number ∷ Number ∷ rest)) s (front ++ (Number ∷ Number ∷ rest)) (Number ∷ Number ∷ s) (record {
              enough = omega arith;
              before = omega (arith, few);
              behind = few;
              operands = refl;
              locals_right = ap (λ o. is_wrong_local is_of NumberWord o || (is_wrong_local is_of NumberWord (slice_get
                  (front
                  ++ (Number ∷ Number ∷ rest)) (word + 1)) || false)) got ∙ ap (λ o. false || (is_wrong_local is_of
                  NumberWord
                  o || false)) beside;
              there = ap (λ p. (p || (nat_le (length (front ++ (Number ∷ Number ∷ rest))) (word + 1) || false)) ||
                  false)
                  (first_in Number Number) ∙ ap (λ p. (false || (p || false)) || false) (second_in Number Number);
              fits = refl;
              known = refl;
              named = refl;
            }) (free (Number ∷ Number ∷ rest) sized) refl refl)
        load_one (types.Reference type) (Refs names) a_reference s few =
            let got = got_past front (Refs (types_named card_type names) ∷ v ∷ rest) 0 word (Refs (types_named card_type
            names)) none_behind refl in
            walk_one is_of most base (loading letters.Reference word) (front ++ (Refs (types_named card_type names) ∷ v
            ∷ rest)) s (front ++ (Refs (types_named card_type names) ∷ v ∷ rest)) (Refs (types_named card_type names) ∷
            s)
            (record {
              enough = omega arith;
              before = omega (arith, few);
              behind = few;
              operands = refl;
              locals_right = ap (λ o. is_wrong_local is_of ReferenceWord o || false) got;
              there = ap (λ p. (p || false) || false) (first_in (Refs (types_named card_type names)) v);
              fits = refl;
              known = refl;
              named = refl;
            }) (free (Refs (types_named card_type names) ∷ v ∷ rest) sized) refl (ap (λ x. as_reference x ∷ s)
            (operand_got
            (front ++ (Refs (types_named card_type names) ∷ v ∷ rest)) word (Refs (types_named card_type names)) got))
        load_one types.Void (Refs names) moved s few = elim moved [ ]
        load_one types.Boolean (Refs names) moved s few = elim moved [ ]
        load_one types.Byte (Refs names) moved s few = elim moved [ ]
        load_one types.Short (Refs names) moved s few = elim moved [ ]
        load_one types.Int (Refs names) moved s few = elim moved [ ]
        load_one t Unusable moved s few = elim moved [ ]

      -- ---- all of them

      -- the pair of the first, in front of those of the others
      behind_pair : (front rest : List Cell) (u v : Cell) → (front ++ (u ∷ v ∷ [])) ++ rest ≡ front ++ (u ∷ v ∷ rest)
      behind_pair front rest u v = append_assoc front (u ∷ v ∷ []) rest

      free_later : (front : List Cell) (u v : Cell) (n k : ℕ) → n ≡ suc (suc k) → Free front n → Free (front ++ (u ∷ v
          ∷ [])) k
      free_later front u v n k e free zs f = subst (λ (ys : List Cell). AllZip IsCellBelow ys base) (sym (behind_pair
          front zs
          u v)) (free (u ∷ v ∷ zs) (omega (arith, e, f)))

      pair_is : (x v : Cell) → (a : Cell) × (b : Cell) × (pair_with card_type x v ≡ a ∷ b ∷ [])
      pair_is Number v = (Number, Number, refl)
      pair_is (Refs names) v = (Refs (types_named card_type names), v, refl)
      pair_is Unusable v = (Unusable, v, refl)

      words_higher : (ps : List Part) (ts : List ValueType) (xs : List Cell) → AreArguments card_type w ps ts xs → (s :
          List
          Cell) → length s ≤ length (words_on card_type xs s)
      words_higher [] [] [] good s = omega arith
      words_higher [] [] (x ∷ xs) good s = absurd good
      words_higher [] (t ∷ ts) xs good s = absurd good
      words_higher (p ∷ ps) [] xs good s = absurd good
      words_higher (p ∷ ps) (t ∷ ts) [] good s = absurd good
      words_higher (p ∷ ps) (t ∷ ts) (x ∷ xs) good s =
          let rest = words_higher ps ts xs good.3 (words_of card_type x ++ s) in
          let long = length-append (words_of card_type x) s in
          omega (arith, rest, long)

      pub pairs_long : (ys zs : List Cell) → length (pairs_with card_type ys zs) ≡ length zs
      pairs_long [] zs = refl
      pairs_long (y ∷ ys) [] = refl
      pairs_long (y ∷ ys) (a ∷ []) = refl
      pairs_long (Number ∷ ys) (a ∷ b ∷ zs) = ap (λ j. suc (suc j)) (pairs_long ys zs)
      pairs_long (Refs names ∷ ys) (a ∷ b ∷ zs) = ap (λ j. suc (suc j)) (pairs_long ys zs)
      pairs_long (Unusable ∷ ys) (a ∷ b ∷ zs) = ap (λ j. suc (suc j)) (pairs_long ys zs)

      pub aside_walk : (ps : List Part) (ts : List ValueType) (xs : List Cell) → AreArguments card_type w ps ts xs
          → (front old : List Cell) (word n : ℕ) → word ≡ length front → Free front n → length old ≡ n → 2 * length ts ≤
          n
          → (s : List Cell) → length (words_on card_type xs s) ≤ most → Goes (putting_aside word ts) (front ++ old)
          (words_on card_type xs s) (front ++ pairs_with card_type xs old) s
      aside_walk [] [] [] good front old word n at free sized fits s few = walk_none is_of most base (front ++ old) s
      aside_walk [] [] (x ∷ xs) good front old word n at free sized fits s few = absurd good
      aside_walk [] (t ∷ ts) xs good front old word n at free sized fits s few = absurd good
      aside_walk (p ∷ ps) [] xs good front old word n at free sized fits s few = absurd good
      aside_walk (p ∷ ps) (t ∷ ts) [] good front old word n at free sized fits s few = absurd good
      aside_walk (p ∷ ps) (t ∷ ts) (x ∷ xs) good front [] word n at free sized fits s few = absurd (omega (
        arith,
        sized,
        fits,
      ))
      aside_walk (p ∷ ps) (t ∷ ts) (x ∷ xs) good front (u ∷ []) word n at free sized fits s few = absurd (omega (
        arith,
        sized,
        fits,
      ))
      aside_walk (p ∷ ps) (t ∷ ts) (x ∷ xs) good front (u ∷ v ∷ old) word n at free sized fits s few =
          let moved = moved_as p.kind p.class t good.0 good.1 x good.2 in
          let long = length-append front (u ∷ v ∷ []) in
          let k : n ≡ suc (suc (length old)) = omega (arith, sized) in
          let rest = aside_walk ps ts xs good.3 (front ++ (u ∷ v ∷ [])) old (word + 2) (length old) (omega (
            arith,
            at,
            long,
          )) (free_later front u v n (length old) k free) refl (omega (arith, k, fits)) (words_of card_type x ++ s) few
          in
          let higher = words_higher ps ts xs good.3 (words_of card_type x ++ s) in
          let same = pairs_long xs old in
          let here = store_one front (pairs_with card_type xs old) u v word at n free (omega (arith, same, k)) t x moved
          s
          (omega (arith, higher, few)) in
          walk_both is_of most base (putting_aside (word + 2) ts) (storing (letter_of_value t) word ∷ []) (front ++ (u ∷
          v
          ∷ old)) (words_on card_type (x ∷ xs) s) (front ++ (u ∷ v ∷ pairs_with card_type xs old)) (words_of card_type x
          ++ s) (front ++ (pair_with card_type x v ++ pairs_with card_type xs old)) s (subst (λ (ys : List Cell). Goes
          (putting_aside (word + 2) ts) ys (words_on card_type (x ∷ xs) s) (front ++ (u ∷ v ∷ pairs_with card_type xs
          old))
          (words_of card_type x ++ s)) (behind_pair front old u v) (subst (λ (ys : List Cell). Goes (putting_aside (word
          + 2)
          ts) ((front ++ (u ∷ v ∷ [])) ++ old) (words_on card_type (x ∷ xs) s) ys (words_of card_type x ++ s))
          (behind_pair
          front (pairs_with card_type xs old) u v) rest)) here

      -- fewer words below are fewer words
      words_fewer : (xs s t : List Cell) → length s ≤ length t → length (words_on card_type xs s) ≤ length (words_on
          card_type
          xs t)
      words_fewer [] s t le = le
      words_fewer (x ∷ xs) s t le =
          let one = length-append (words_of card_type x) s in
          let two = length-append (words_of card_type x) t in
          words_fewer xs (words_of card_type x ++ s) (words_of card_type x ++ t) (omega (arith, le, one, two))

      cut_fewer : (t : ValueType) (x : Cell) → IsMoved t x → length (cut_words card_type t x) ≤ length (words_of
          card_type x)
      cut_fewer t Number (a_number letter) = by (is_short t)
        where
          by : (b : Bool) → length (if b then Number ∷ [] else Number ∷ Number ∷ []) ≤ 2
          by true = omega arith
          by false = omega arith
      cut_fewer (types.Reference type) (Refs names) a_reference = omega arith
      cut_fewer types.Void (Refs names) moved = elim moved [ ]
      cut_fewer types.Boolean (Refs names) moved = elim moved [ ]
      cut_fewer types.Byte (Refs names) moved = elim moved [ ]
      cut_fewer types.Short (Refs names) moved = elim moved [ ]
      cut_fewer types.Int (Refs names) moved = elim moved [ ]
      cut_fewer t Unusable moved = elim moved [ ]

      pub back_walk : (ps : List Part) (ts : List ValueType) (xs : List Cell) → AreArguments card_type w ps ts xs
          → (front old : List Cell) (word n : ℕ) → word ≡ length front → Free front n → length old ≡ n → 2 * length ts ≤
          n
          → (s : List Cell) → length (words_on card_type xs s) + 1 ≤ most → Goes (taking_back word ts) (front ++
          pairs_with
          card_type xs old) s (front ++ pairs_with card_type xs old) (cut_on card_type ts xs s)
      back_walk [] [] [] good front old word n at free sized fits s few = walk_none is_of most base (front ++ old) s
      back_walk [] [] (x ∷ xs) good front old word n at free sized fits s few = absurd good
      back_walk [] (t ∷ ts) xs good front old word n at free sized fits s few = absurd good
      back_walk (p ∷ ps) [] xs good front old word n at free sized fits s few = absurd good
      back_walk (p ∷ ps) (t ∷ ts) [] good front old word n at free sized fits s few = absurd good
      back_walk (p ∷ ps) (t ∷ ts) (x ∷ xs) good front [] word n at free sized fits s few = absurd (omega (
        arith,
        sized,
        fits,
      ))
      back_walk (p ∷ ps) (t ∷ ts) (x ∷ xs) good front (u ∷ []) word n at free sized fits s few = absurd (omega (
        arith,
        sized,
        fits,
      ))
      back_walk (p ∷ ps) (t ∷ ts) (x ∷ xs) good front (u ∷ v ∷ old) word n at free sized fits s few =
          let moved = moved_as p.kind p.class t good.0 good.1 x good.2 in
          let pair = pair_is x v in
          let long = length-append front (pair.0 ∷ pair.1 ∷ []) in
          let k : n ≡ suc (suc (length old)) = omega (arith, sized) in
          let same = pairs_long xs old in
          let higher = words_higher ps ts xs good.3 (words_of card_type x ++ s) in
          let less = cut_fewer t x moved in
          let one = length-append (cut_words card_type t x) s in
          let two = length-append (words_of card_type x) s in
          let lower = words_fewer xs (cut_words card_type t x ++ s) (words_of card_type x ++ s) (omega (
            arith,
            less,
            one,
            two,
          )) in
          let some = words_some x in
          let shape : front ++ (pair_with card_type x v ++ pairs_with card_type xs old) ≡ (front ++ (pair.0 ∷ pair.1 ∷
          []))
          ++ pairs_with card_type xs old = ap (λ zs. front ++ (zs ++ pairs_with card_type xs old)) pair.2 ∙ sym
          (behind_pair
          front (pairs_with card_type xs old) pair.0 pair.1) in
          let below : AllZip IsCellBelow (front ++ (pair_with card_type x v ++ pairs_with card_type xs old)) base =
          subst
          (λ (zs : List Cell). AllZip IsCellBelow (front ++ (zs ++ pairs_with card_type xs old)) base) (sym pair.2)
          (free
          (pair.0 ∷ pair.1 ∷ pairs_with card_type xs old) (omega (arith, same, k))) in
          let load = load_one front (pairs_with card_type xs old) u v word at n free (omega (arith, same, k)) t x moved
          s
          (omega (arith, higher, few)) in
          let cut = value_cut card_type is_of w agree most base (front ++ (pair_with card_type x v ++ pairs_with
          card_type xs
          old)) below p.kind p.class t good.0 good.1 x good.2 s (omega (arith, higher, few, two, some)) in
          let rest = back_walk ps ts xs good.3 (front ++ (pair.0 ∷ pair.1 ∷ [])) old (word + 2) (length old) (omega (
            arith,
            at,
            long,
          )) (free_later front pair.0 pair.1 n (length old) k free) refl (omega (arith, k, fits)) (cut_words card_type t
          x
          ++ s) (omega (arith, lower, few)) in
          let last : Goes (taking_back (word + 2) ts) (front ++ (pair_with card_type x v ++ pairs_with card_type xs
          old))
          (cut_words card_type t x ++ s) (front ++ (pair_with card_type x v ++ pairs_with card_type xs old)) (cut_on
          card_type
          ts xs (cut_words card_type t x ++ s)) = subst (λ (zs : List Cell). Goes (taking_back (word + 2) ts) zs
          (cut_words
          card_type t x ++ s) zs (cut_on card_type ts xs (cut_words card_type t x ++ s))) (sym shape) rest in
          walk_both is_of most base (loading (letter_of_value t) word ∷ []) (cutting t ++ taking_back (word + 2) ts)
          (front
          ++ (pair_with card_type x v ++ pairs_with card_type xs old)) s (front ++ (pair_with card_type x v ++
          pairs_with
          card_type xs old)) (words_of card_type x ++ s) (front ++ (pair_with card_type x v ++ pairs_with card_type xs
          old))
          (cut_on card_type ts xs (cut_words card_type t x ++ s)) load (walk_both is_of most base (cutting t)
          (taking_back
          (word + 2) ts) (front ++ (pair_with card_type x v ++ pairs_with card_type xs old)) (words_of card_type x ++ s)
          (front ++ (pair_with card_type x v ++ pairs_with card_type xs old)) (cut_words card_type t x ++ s) (front
          ++ (pair_with card_type x v ++ pairs_with card_type xs old)) (cut_on card_type ts xs (cut_words card_type t x
          ++ s))
          cut last)
        where
          words_some : (y : Cell) → 1 ≤ length (words_of card_type y)
          words_some Number = omega arith
          words_some (Refs names) = omega arith
          words_some Unusable = omega arith

    -- ---- by the scratch pairs of a frame

    module _ (m : Room) (max_stack : ℕ) where
      abbrev frame : List Cell → List Cell
      frame ls = frame_words card_type m ls

      abbrev locals : List Cell → List Cell
      locals ls = free m.arguments ++ local_words card_type ls

      split : (ls zs : List Cell) → (free m.arguments ++ local_words card_type ls) ++ zs ≡ free m.arguments ++
          (local_words
          card_type ls ++ zs)
      split ls zs = append_assoc (free m.arguments) (local_words card_type ls) zs

      free_pairs : (ls zs : List Cell) → length zs ≡ m.scratch → AllZip IsCellBelow ((free m.arguments ++ local_words
          card_type ls) ++ zs) (frame_words card_type m ls)
      free_pairs ls zs e = subst (λ (ys : List Cell). AllZip IsCellBelow ((free m.arguments ++ local_words card_type ls)
          ++ zs) ys) (split ls (free m.scratch)) (zip_both (free m.arguments ++ local_words card_type ls) zs (free
          m.arguments
          ++ local_words card_type ls) (free m.scratch) (zip_itself (free m.arguments ++ local_words card_type ls))
          (zip_free
          zs m.scratch e))

      -- arguments go into scratch pairs and come back cut; the words of those pairs are free
      pub pairs_walk : (ps : List Part) (ts : List ValueType) (xs : List Cell) → AreArguments card_type w ps ts xs
          → (ls : List Cell) (word : ℕ) → word ≡ m.arguments + 2 * length ls → 2 * length ts ≤ m.scratch → (s : List
          Cell)
          → length (words_on card_type xs s) + 1 ≤ most_words max_stack → Walks is_of (most_words max_stack)
          (frame_words
          card_type m ls) (putting_aside word ts ++ taking_back word ts) (frame_words card_type m ls) (words_on
          card_type xs s)
          ((free m.arguments ++ local_words card_type ls) ++ pairs_with card_type xs (free m.scratch)) (cut_on card_type
          ts xs
          s)
      pairs_walk ps ts xs good ls word at fits s few =
          let args = length-replicate m.arguments Unusable in
          let scratch = length-replicate m.scratch Unusable in
          let mid = pairs_long_of card_type ls in
          let both = length-append (free m.arguments) (local_words card_type ls) in
          let here : word ≡ length (free m.arguments ++ local_words card_type ls) = omega (arith, at, args, mid, both)
          in
          let aside = aside_walk (most_words max_stack) (frame_words card_type m ls) ps ts xs good (free m.arguments
          ++ local_words card_type ls) (free m.scratch) word m.scratch here (free_pairs ls) scratch fits s (omega (
            arith,
            few,
          )) in
          let back = back_walk (most_words max_stack) (frame_words card_type m ls) ps ts xs good (free m.arguments
          ++ local_words card_type ls) (free m.scratch) word m.scratch here (free_pairs ls) scratch fits s few in
          subst (λ (ys : List Cell). Walks is_of (most_words max_stack) (frame_words card_type m ls) (putting_aside word
          ts
          ++ taking_back word ts) ys (words_on card_type xs s) ((free m.arguments ++ local_words card_type ls) ++
          pairs_with
          card_type xs (free m.scratch)) (cut_on card_type ts xs s)) (split ls (free m.scratch)) (walk_both is_of
          (most_words
          max_stack) (frame_words card_type m ls) (putting_aside word ts) (taking_back word ts) ((free m.arguments
          ++ local_words card_type ls) ++ free m.scratch) (words_on card_type xs s) ((free m.arguments ++ local_words
          card_type
          ls) ++ pairs_with card_type xs (free m.scratch)) s ((free m.arguments ++ local_words card_type ls) ++
          pairs_with
          card_type xs (free m.scratch)) (cut_on card_type ts xs s) aside back)

      pub pairs_free : (ls xs : List Cell) → length (pairs_with card_type xs (free m.scratch)) ≡ m.scratch → AllZip
          IsCellBelow ((free m.arguments ++ local_words card_type ls) ++ pairs_with card_type xs (free m.scratch))
          (frame_words
          card_type m ls)
      pairs_free ls xs e = free_pairs ls (pairs_with card_type xs (free m.scratch)) e
