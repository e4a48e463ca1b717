-- Calls in int mode: arguments that were cut are those that the method takes, and its result is widened.
use Rattle.std.proofs.Common.{◌≡◌, ℕ, ◌+◌, ◌≤◌, refl, sym, ap, subst, ◌∙◌, arith, Bool, true, false, List}
use Rattle.std.proofs.Common.{[]}
use Rattle.std.proofs.Common.{◌∷◌, ◌++◌, append_assoc, length, length-append, drop, Option}
use Rattle.std.specs.Prelude.{if◌then◌else◌}
use Rattle.std.specs.List.{AllZip}
use Rattle.cjc_types.specs.Bytecode.declared.insn.JOp.{JOp}
use Rattle.cjc_types.specs.Bytes.Descriptor.{Part}
use Rattle.cjc_types.specs.Cells.{IsCellBelow}
use Rattle.cjc_types.specs.Steps.{locals_after, stack_behind as behind_by_name}
use Rattle.cjc_types.specs.Types.{result_of}
use Rattle.cjc_types.specs.World.Classes.{Class}
use Rattle.cjc_types.specs.declared.cell.Cell.{Cell}
use Rattle.cjc_types.specs.declared.cell.Cell.TheVariants.{Number}
use Rattle.cjc_types.specs.declared.state.Stack.TheVariants.{Cells}
use Rattle.cjc_frames.specs.Acts.{Subtype, has_wrong}
use Rattle.cjc_frames.specs.declared.acts.Act.{Act}
use Rattle.cjc_frames.specs.declared.acts.Need.{Need}
use Rattle.cjc_verify.specs.CardActs.CardTypes.{ValueType, needs_of, needs_of_all, words as words_given}
use Rattle.cjc_accepted_proof.specs.Frames.{SubtypesAgree}
use Rattle.cjc_accepted_proof.proofs.RowsLaws.{zip_both, zip_itself}
use Rattle.cjc_int_accepted.specs.Acts.{cutting, taking, widening}
use Rattle.cjc_int_accepted.specs.Frames.{Room, frame_words, stack_words, words_of}
use Rattle.cjc_int_accepted.specs.Runs.{IsOn, Runs, Walks, most_words}
use Rattle.cjc_int_accepted.specs.Types.{AreArguments, IsTypedAs, NoneShort, arguments_on, cut_on, cut_words, words_on}
use Rattle.cjc_int_accepted.proofs.RowsLaws.Sound.{zip_same}
use Rattle.cjc_int_accepted.proofs.RowsLaws.Values.{back_below, back_words, value_back, value_cut, value_long}
use Rattle.cjc_int_accepted.proofs.RowsLaws.Values.{value_right}
use Rattle.cjc_int_accepted.proofs.RowsLaws.Walks.{row_of_walk, walk_both, walk_none}
use Rattle.cjc_int_accepted.proofs.WordsLaws.{drop_past, words_both}

module _ (card_type : List ℕ → Option (List ℕ)) where
  pub on_words : (xs s : List Cell) → stack_words card_type (arguments_on xs s) ≡ words_on card_type xs (stack_words
      card_type s)
  on_words [] s = refl
  on_words (x ∷ xs) s = on_words xs (x ∷ s)

  module _ (is_of : Subtype) (w : List Class) (agree : SubtypesAgree card_type is_of w) where
    -- the method finds the arguments that it takes
    arguments_right : (ps : List Part) (ts : List ValueType) (xs : List Cell) → AreArguments card_type w ps ts xs
        → (rest : List Need) (s : List Cell) → has_wrong is_of rest s ≡ false → has_wrong is_of (needs_of_all ts ++
        rest)
        (cut_on card_type ts xs s) ≡ false
    arguments_right [] [] [] good rest s e = e
    arguments_right [] [] (x ∷ xs) good rest s e = absurd good
    arguments_right [] (t ∷ ts) xs good rest s e = absurd good
    arguments_right (p ∷ ps) [] xs good rest s e = absurd good
    arguments_right (p ∷ ps) (t ∷ ts) [] good rest s e = absurd good
    arguments_right (p ∷ ps) (t ∷ ts) (x ∷ xs) good rest s e =
        let here = value_right card_type is_of w agree p.kind p.class t good.0 good.1 x good.2 rest s e in
        let more = arguments_right ps ts xs good.3 (needs_of t ++ rest) (cut_words card_type t x ++ s) here in
        ap (λ (ns : List Need). has_wrong is_of ns (cut_on card_type ts xs (cut_words card_type t x ++ s)))
        (append_assoc
        (needs_of_all ts) (needs_of t) rest) ∙ more

    arguments_long : (ps : List Part) (ts : List ValueType) (xs : List Cell) → AreArguments card_type w ps ts xs
        → (s : List Cell) → length (cut_on card_type ts xs s) ≡ length (needs_of_all ts) + length s
    arguments_long [] [] [] good s = omega arith
    arguments_long [] [] (x ∷ xs) good s = absurd good
    arguments_long [] (t ∷ ts) xs good s = absurd good
    arguments_long (p ∷ ps) [] xs good s = absurd good
    arguments_long (p ∷ ps) (t ∷ ts) [] good s = absurd good
    arguments_long (p ∷ ps) (t ∷ ts) (x ∷ xs) good s =
        let more = arguments_long ps ts xs good.3 (cut_words card_type t x ++ s) in
        let here = value_long card_type is_of w agree p.kind p.class t good.0 good.1 x good.2 in
        let both = length-append (cut_words card_type t x) s in
        let needs = length-append (needs_of_all ts) (needs_of t) in
        omega (arith, more, here, both, needs)

    -- behind them lies what lay below
    arguments_dropped : (ps : List Part) (ts : List ValueType) (xs : List Cell) → AreArguments card_type w ps ts xs
        → (k : ℕ) (s : List Cell) → drop (length (needs_of_all ts) + k) (cut_on card_type ts xs s) ≡ drop k s
    arguments_dropped [] [] [] good k s = let none : 0 + k ≡ k = omega arith in ap (λ n. drop n s) none
    arguments_dropped [] [] (x ∷ xs) good k s = absurd good
    arguments_dropped [] (t ∷ ts) xs good k s = absurd good
    arguments_dropped (p ∷ ps) [] xs good k s = absurd good
    arguments_dropped (p ∷ ps) (t ∷ ts) [] good k s = absurd good
    arguments_dropped (p ∷ ps) (t ∷ ts) (x ∷ xs) good k s =
        let here = value_long card_type is_of w agree p.kind p.class t good.0 good.1 x good.2 in
        let needs = length-append (needs_of_all ts) (needs_of t) in
        let up : length (needs_of_all ts ++ needs_of t) + k ≡ length (needs_of_all ts) + (length (cut_words card_type t
        x)
        + k) = omega (arith, here, needs) in
        ap (λ n. drop n (cut_on card_type ts xs (cut_words card_type t x ++ s))) up ∙ arguments_dropped ps ts xs good.3
        (length
        (cut_words card_type t x) + k) (cut_words card_type t x ++ s) ∙ drop_past (cut_words card_type t x) s k

    module _ (m : Room) (max_stack : ℕ) where
      abbrev words : List Cell → List Cell
      words s = stack_words card_type s

      abbrev frame : List Cell → List Cell
      frame ls = frame_words card_type m ls

      abbrev most : ℕ
      most = most_words max_stack

      -- a call, however its arguments were handed over
      pub call_runs : (op : JOp) (ps : List Part) (ts : List ValueType) (xs : List Cell) (part : Part) (t : ValueType)
          (receiver : List Need) (handed : List Act) (ls ms s left : List Cell) → AreArguments card_type w ps ts xs
          → IsTypedAs card_type part.kind part.class t → IsOn max_stack op ls (arguments_on xs s) → behind_by_name op ls
          (arguments_on xs s) ≡ result_of part ++ left → locals_after op ls (Cells (arguments_on xs s)) ≡ ls → has_wrong
          is_of receiver (words s) ≡ false → length receiver ≤ length (words s) → drop (length receiver) (words s) ≡
          words
          left → Walks is_of most (frame ls) handed (frame ls) (words_on card_type xs (words s)) ms (cut_on card_type ts
          xs (words s)) → AllZip
          IsCellBelow ms (frame ls) → length (cut_on card_type ts xs (words s)) ≤ most → length (words left) + 2 ≤ most
          → Runs
          card_type is_of m max_stack op (handed ++ (taking (needs_of_all ts ++ receiver) (words_given t) true []
          ∷ widening t)) ls (arguments_on xs s)
      call_runs op ps ts xs part t receiver handed ls ms s left good typed on is stays right enough drops walk below few
          less =
          let needs = length-append (needs_of_all ts) receiver in
          let long = arguments_long ps ts xs good (words s) in
          let dropped : drop (length (needs_of_all ts ++ receiver)) (cut_on card_type ts xs (words s)) ≡ words left = ap
          (λ n. drop n
          (cut_on card_type ts xs (words s))) needs ∙ arguments_dropped ps ts xs good (length receiver) (words s) ∙
          drops in
          let left_long = ap length dropped in
          let back = value_back card_type is_of w agree most (frame ls) ms below (needs_of_all ts ++ receiver) t (cut_on
          card_type ts
          xs (words s)) (omega (arith, needs, long, enough)) few (omega (arith, left_long, less)) (arguments_right ps ts
          xs
          good receiver (words s) right) in
          let puts = back_below card_type is_of w agree most (frame ls) ms below part t typed in
          row_of_walk card_type is_of m max_stack op (handed ++ (taking (needs_of_all ts ++ receiver) (words_given t)
          true
          [] ∷ widening t)) ls (arguments_on xs s) ms (back_words card_type is_of w agree most (frame ls) ms below t ++
          drop
          (length (needs_of_all ts ++ receiver)) (cut_on card_type ts xs (words s))) (subst (λ (zs : List Cell). Walks
          is_of most
          (frame ls) (handed ++ (taking (needs_of_all ts ++ receiver) (words_given t) true [] ∷ widening t)) (frame ls)
          zs
          ms (back_words card_type is_of w agree most (frame ls) ms below t ++ drop (length (needs_of_all ts ++
          receiver))
          (cut_on card_type ts xs (words s)))) (sym (on_words xs s)) (walk_both is_of most (frame ls) handed (taking
          (needs_of_all ts
          ++ receiver) (words_given t) true [] ∷ widening t) (frame ls) (words_on card_type xs (words s)) ms (cut_on
          card_type ts xs (words s))
          ms (back_words card_type is_of w agree most (frame ls) ms below t ++ drop (length (needs_of_all ts ++
          receiver))
          (cut_on card_type ts xs (words s))) walk back)) (subst (λ (zs : List Cell). AllZip IsCellBelow (back_words
          card_type is_of w
          agree most (frame ls) ms below t ++ drop (length (needs_of_all ts ++ receiver)) (cut_on card_type ts xs (words
          s))) (words
          zs)) (sym is) (subst (λ (zs : List Cell). AllZip IsCellBelow (back_words card_type is_of w agree most (frame
          ls) ms
          below t ++ drop (length (needs_of_all ts ++ receiver)) (cut_on card_type ts xs (words s))) zs) (sym
          (words_both card_type
          (result_of part) left)) (zip_both (back_words card_type is_of w agree most (frame ls) ms below t) (drop
          (length
          (needs_of_all ts ++ receiver)) (cut_on card_type ts xs (words s))) (words (result_of part)) (words left) puts
          (zip_same _ _
          dropped)))) (subst (λ (zs : List Cell). AllZip IsCellBelow ms (frame zs)) (sym stays) below)

      -- ---- how arguments are handed over

      -- as they are, where none has one word
      whole_on : (ts : List ValueType) (ps : List Part) (xs : List Cell) → AreArguments card_type w ps ts xs → NoneShort
          ts
          → (s : List Cell) → words_on card_type xs s ≡ cut_on card_type ts xs s
      whole_on [] [] [] good none s = refl
      whole_on [] [] (x ∷ xs) good none s = absurd good
      whole_on (t ∷ ts) [] xs good none s = absurd good
      whole_on [] (p ∷ ps) xs good none s = absurd good
      whole_on (t ∷ ts) (p ∷ ps) [] good none s = absurd good
      whole_on (t ∷ ts) (p ∷ ps) (x ∷ xs) good none s =
          let same : words_of card_type x ≡ cut_words card_type t x = ap (λ (b : Bool). if b then Number ∷ []
          else words_of card_type x) (sym none.0) in
          ap (λ zs. words_on card_type xs (zs ++ s)) same ∙ whole_on ts ps xs good.3 none.1 (cut_words card_type t x ++
          s)

      pub whole_walk : (ts : List ValueType) (ps : List Part) (xs : List Cell) → AreArguments card_type w ps ts xs
          → NoneShort ts → (ls s : List Cell) → Walks is_of most (frame ls) [] (frame ls) (words_on card_type xs s)
          (frame ls) (cut_on card_type ts xs s)
      whole_walk ts ps xs good none ls s = subst (λ (zs : List Cell). Walks is_of most (frame ls) [] (frame ls)
          (words_on card_type xs
          s) (frame ls) zs) (whole_on ts ps xs good none s) (walk_none is_of most (frame ls) (frame ls) (words_on
          card_type xs s))

      -- the last one alone is cut
      pub last_walk : (ts : List ValueType) (ps : List Part) (xs : List Cell) → AreArguments card_type w ps ts xs
          → NoneShort ts → (p : Part) (t : ValueType) (x : Cell) → AreArguments card_type w (p ∷ []) (t ∷ []) (x ∷ [])
          → (ls s : List Cell) → length (cut_on card_type ts xs s) + 2 ≤ most → Walks is_of most (frame ls) (cutting t)
          (frame ls)
          (words_of card_type x ++ words_on card_type xs s) (frame ls) (cut_words card_type t x ++ cut_on card_type ts
          xs s)
      last_walk ts ps xs good none p t x last ls s few = subst (λ (zs : List Cell). Walks is_of most (frame ls) (cutting
          t)
          (frame ls) (words_of card_type x ++ zs) (frame ls) (cut_words card_type t x ++ cut_on card_type ts xs s)) (sym
          (whole_on ts
          ps xs good none s)) (value_cut card_type is_of w agree most (frame ls) (frame ls) (zip_itself (frame ls))
          p.kind
          p.class t last.0 last.1 x last.2 (cut_on card_type ts xs s) few)
