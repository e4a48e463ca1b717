-- What is written for a call that is served stands between its frames, where they break no rule: its arguments are
-- handed over as they are, by a cut of the last one or by scratch pairs.
use Rattle.std.proofs.Common.{◌≡◌, ℕ, suc, ◌+◌, ◌*◌, ◌-◌, ◌<◌, ◌≤◌, refl, sym, ap, subst, ◌∙◌, arith, Bool, true, false}
use Rattle.std.proofs.Common.{List, [], ◌∷◌, ◌++◌, length, length-append, map, drop, get_or, slice_get, Contains}
use Rattle.std.proofs.Common.{Option}
use Rattle.std.proofs.Common.{Some, None}
use Rattle.std.specs.Prelude.{◌||◌, not, nat_lt, take, if◌then◌else◌, option_and_then}
use Rattle.std.specs.List.{AllByRecursion, AllZip, list_any}
use Rattle.std.proofs.lemmas.Bool.Decides.{nat_tests}
use Rattle.std.proofs.lemmas.List.{length-replicate}
use Rattle.cjc_types.proofs.BytesBools.{or_left, or_right}
use Rattle.cjc_types.proofs.BytesQuantified.{all_both}
use Rattle.cjc_types.specs.Bytecode.declared.insn.JOp.{JOp}
use Rattle.cjc_types.specs.Bytecode.declared.insn.JOp.TheVariants as jop
use Rattle.cjc_types.specs.Bytes.Descriptor.{Part}
use Rattle.cjc_types.specs.Bytes.declared.descriptor.Kind.{Kind}
use Rattle.cjc_types.specs.Bytes.declared.descriptor.Kind.TheVariants as kinds
use Rattle.cjc_types.specs.Bytes.declared.fault.MemberId.{MemberId}
use Rattle.cjc_types.specs.Cells.{IsCellBelow}
use Rattle.cjc_types.specs.Flow.{Body as BodyByName}
use Rattle.cjc_types.specs.Rules.{has_wrong as has_wrong_by_name, is_of as is_of_class, is_value_of, receiver_class}
use Rattle.cjc_types.specs.Steps.{receivers, stack_behind as behind_by_name, takes}
use Rattle.cjc_types.specs.Types.{parts, result_of}
use Rattle.cjc_types.specs.World.Classes.{Class}
use Rattle.cjc_types.specs.declared.cell.Cell.{Cell}
use Rattle.cjc_types.specs.declared.cell.Cell.TheVariants.{Number, Refs, Unusable}
use Rattle.cjc_types.specs.declared.state.State.{State}
use Rattle.cjc_check_proof.specs.NCode.Lowering.Naming.{Naming}
use Rattle.cjc_check_proof.specs.NCode.Written.{Resolution}
use Rattle.cjc_check_proof.specs.NarrowProof.Tables.Names.{IsDesc}
use Rattle.cjc_ncode.specs.IntCode.IntCode.{Before, Frame, is_by_scratch, nargs, scratch, scratch_pairs_by}
use Rattle.cjc_ncode.specs.IntCode.IntCode.{scratch_pairs_of}
use Rattle.cjc_ncode.specs.IntCode.IntCode as intcode
use Rattle.cjc_frames.specs.Acts.{Subtype, has_wrong}
use Rattle.cjc_frames.specs.declared.acts.Act.{Act}
use Rattle.cjc_frames.specs.declared.acts.Need.{Need}
use Rattle.cjc_frames.specs.declared.acts.Need.TheVariants.{OfType}
use Rattle.cjc_verify.specs.CardActs.CardTypes.{MemberType, ValueType, needs_of_all, words as words_given}
use Rattle.cjc_verify.specs.CardActs.CardTypes as types
use Rattle.cjc_verify.specs.CardActs.Rows.{calculating, loading, storing}
use Rattle.cjc_verify.specs.CardSemantics.Bytecode.Effects as letters
use Rattle.cjc_verify.specs.Pairs.{Pair}
use Rattle.cjc_verify.specs.Script.Sorts.{Shape, Signature, Sort, reference_to, result_by, signature_by, signature_of}
use Rattle.cjc_verify.specs.Script.Sorts.{sort_of}
use Rattle.cjc_verify.specs.Script.Sorts as sorts
use Rattle.cjc_accepted_proof.specs.Frames.{SubtypesAgree}
use Rattle.cjc_accepted_proof.proofs.KindsLaws.{first_operand}
use Rattle.cjc_accepted_proof.proofs.RowsLaws.{zip_itself}
use Rattle.cjc_int_accepted.specs.Acts.{cutting, is_short, letter_of_value, putting_aside, taking, taking_back}
use Rattle.cjc_int_accepted.specs.Acts.{widening}
use Rattle.cjc_int_accepted.specs.Ends.{LeadAtEnd}
use Rattle.cjc_int_accepted.specs.Entered.{AreShapes, AreSortsFor, AreTypedAs, IsSortFor}
use Rattle.cjc_int_accepted.specs.Frames.{Room, frame_words, free, local_words, stack_words, words_of}
use Rattle.cjc_int_accepted.specs.Methods.{Selection, acts_of}
use Rattle.cjc_int_accepted.specs.Named.{AreSortsOf, CallNamed, IsResultOf, IsSortOf, handing}
use Rattle.cjc_int_accepted.specs.Named as names
use Rattle.cjc_int_accepted.specs.Reached.{IsRight}
use Rattle.cjc_int_accepted.specs.Runs.{IsOn, Runs, Walks, most_words}
use Rattle.cjc_int_accepted.specs.Served.{CallServed, IsReceiver}
use Rattle.cjc_int_accepted.specs.Standing.{IsStanding}
use Rattle.cjc_int_accepted.specs.Types.{AreArguments, IsTypedAs, NoneShort, arguments_on, cut_on, cut_words}
use Rattle.cjc_int_accepted.specs.Types.{pairs_with}
use Rattle.cjc_int_accepted.specs.Types.{words_on}
use Rattle.cjc_int_accepted.proofs.FrontLaws.{sorts_for}
use Rattle.cjc_int_accepted.proofs.HandedLaws.{call_acts}
use Rattle.cjc_int_accepted.proofs.RowsLaws.Aside.{pairs_free, pairs_long, pairs_walk}
use Rattle.cjc_int_accepted.proofs.RowsLaws.Calls.{call_runs, on_words, whole_walk}
use Rattle.cjc_int_accepted.proofs.RowsLaws.Sound.{before_few, behind_few}
use Rattle.cjc_int_accepted.proofs.RowsLaws.Values.{value_cut}
use Rattle.cjc_int_accepted.proofs.StandLaws.{none_in, stands_by_acts}
use Rattle.cjc_int_accepted.proofs.WordsLaws.{words_both}

-- ---- acts that jump nowhere

abbrev Quiet : Act → Type 0
Quiet a = a.targets ≡ []

quiet_ends : (label to : ℕ → ℕ) (op : JOp) (acts : List Act) → AllByRecursion Quiet acts → LeadAtEnd label to op acts
quiet_ends label to op [] all = tt
quiet_ends label to op (a ∷ []) all = λ offset on. absurd (none_in offset (subst (λ (ts : List ℕ). Contains ts offset)
    all.0 on))
quiet_ends label to op (a ∷ c ∷ acts) all = (
  λ offset on. none_in offset (subst (λ (ts : List ℕ). Contains ts offset) all.0 on),
  quiet_ends label to op (c ∷ acts) all.1,
)

quiet_store : (l : letters.Letter) (k : ℕ) → Quiet (storing l k)
quiet_store letters.Reference k = refl
quiet_store letters.Byte k = refl
quiet_store letters.Short k = refl
quiet_store letters.Int k = refl

quiet_load : (l : letters.Letter) (k : ℕ) → Quiet (loading l k)
quiet_load letters.Reference k = refl
quiet_load letters.Byte k = refl
quiet_load letters.Short k = refl
quiet_load letters.Int k = refl

quiet_cut : (t : ValueType) → AllByRecursion Quiet (cutting t)
quiet_cut t = by (is_short t)
  where
    by : (c : Bool) → AllByRecursion Quiet (if c then calculating 2 1 ∷ [] else [])
    by true = (refl, tt)
    by false = tt

quiet_widening : (t : ValueType) → AllByRecursion Quiet (widening t)
quiet_widening t = by (is_short t)
  where
    by : (c : Bool) → AllByRecursion Quiet (if c then calculating 1 2 ∷ [] else [])
    by true = (refl, tt)
    by false = tt

quiet_aside : (word : ℕ) (ts : List ValueType) → AllByRecursion Quiet (putting_aside word ts)
quiet_aside word [] = tt
quiet_aside word (t ∷ ts) = all_both Quiet (putting_aside (word + 2) ts) (storing (letter_of_value t) word ∷ [])
    (quiet_aside (word + 2) ts) (quiet_store (letter_of_value t) word, tt)

quiet_back : (word : ℕ) (ts : List ValueType) → AllByRecursion Quiet (taking_back word ts)
quiet_back word [] = tt
quiet_back word (t ∷ ts) = (
  quiet_load (letter_of_value t) word,
  all_both Quiet (cutting t) (taking_back (word + 2) ts) (quiet_cut t) (quiet_back (word + 2) ts),
)

quiet_handing : (f : Frame) (ss : List Sort) (ts : List ValueType) → AllByRecursion Quiet (handing f ss ts)
quiet_handing f ss ts = by (is_by_scratch ss) (list_any intcode.is_short ss)
  where
    by : (x y : Bool) → AllByRecursion Quiet (if x then putting_aside (scratch f 0) ts ++ taking_back (scratch f 0) ts
        else (if y then calculating 2 1 ∷ [] else []))
    by true y = all_both Quiet (putting_aside (scratch f 0) ts) (taking_back (scratch f 0) ts) (quiet_aside (scratch f
        0) ts) (quiet_back (scratch f 0) ts)
    by false true = (refl, tt)
    by false false = tt

-- ---- types of descriptors

sorts_of : (ss : List Sort) (ts : List ValueType) → AreSortsFor ss ts → AreSortsOf ss ts
sorts_of [] [] h = tt
sorts_of [] (t ∷ ts) h = absurd h
sorts_of (s ∷ ss) [] h = absurd h
sorts_of (s ∷ ss) (t ∷ ts) h = (by s t h.0, sorts_of ss ts h.1)
  where
    by : (s : Sort) (t : ValueType) → IsSortFor s t → IsSortOf s t
    by sorts.Boolean types.Boolean e = tt
    by sorts.Byte types.Byte e = tt
    by sorts.Short types.Short e = tt
    by sorts.Int types.Int e = tt
    by (sorts.Reference shape) (types.Reference type) e = tt
    by s t e = absurd e

short_same : (s : Sort) (t : ValueType) → IsSortOf s t → intcode.is_short s ≡ is_short t
short_same sorts.Boolean types.Boolean e = refl
short_same sorts.Byte types.Byte e = refl
short_same sorts.Short types.Short e = refl
short_same sorts.Int types.Int e = refl
short_same (sorts.Reference shape) (types.Reference type) e = refl
short_same s t e = absurd e

none_short : (ss : List Sort) (ts : List ValueType) → AreSortsOf ss ts → list_any intcode.is_short ss ≡ false
    → NoneShort ts
none_short [] [] h e = tt
none_short [] (t ∷ ts) h e = absurd h
none_short (s ∷ ss) [] h e = absurd h
none_short (s ∷ ss) (t ∷ ts) h e = (
  sym (short_same s t h.0) ∙ or_left (intcode.is_short s) (list_any intcode.is_short ss) e,
  none_short ss ts h.1 (or_right (intcode.is_short s) (list_any intcode.is_short ss) e),
)

sorts_long : (ss : List Sort) (ts : List ValueType) → AreSortsOf ss ts → length ss ≡ length ts
sorts_long [] [] h = refl
sorts_long [] (t ∷ ts) h = absurd h
sorts_long (s ∷ ss) [] h = absurd h
sorts_long (s ∷ ss) (t ∷ ts) h = ap suc (sorts_long ss ts h.1)

-- one that is not the last
not_last : (s q : Sort) (ss : List Sort) → is_by_scratch (s ∷ q ∷ ss) ≡ (intcode.is_short s || is_by_scratch (q ∷ ss))
not_last s q ss =
    let up : length (s ∷ q ∷ ss) - 1 ≡ suc (length (q ∷ ss) - 1) = omega arith in
    ap (λ n. list_any intcode.is_short (take n (s ∷ q ∷ ss))) up

module _ (card_type : List ℕ → Option (List ℕ)) (shapes : AreShapes card_type) where
  result_for : (kind : Kind) (class : List ℕ) (t : ValueType) → IsTypedAs card_type kind class t → IsResultOf (result_by
      kind (record { kind = kind; class = class })) t
  result_for kinds.Bool class types.Boolean h = tt
  result_for kinds.Byte class types.Byte h = tt
  result_for kinds.Short class types.Short h = tt
  result_for kinds.Int class types.Int h = tt
  result_for kinds.Ref class (types.Reference type) h =
      let r = shapes class type h in
      subst (λ (o : Option (Shape (List ℕ))). IsSortOf (reference_to o) (types.Reference type)) (sym r.1) tt
  result_for kinds.Void class types.Void h = tt
  result_for kind class t h = absurd h

-- the types of a method's descriptor
abbrev types_of : List ℕ → Signature
types_of desc = let d = parts desc in record {
  params = map sort_of d.params;
  result = (let e = d.result in result_by e.kind e);
}

signed : (desc : List ℕ) → IsDesc desc → (let d = parts desc in d.is_method) ≡ true → signature_of desc ≡ Some (types_of
    desc)
signed desc is_desc is_method = ap (option_and_then signature_by) is_desc ∙ ap (λ (t : Bool). if t then Some (types_of
    desc) else None) is_method

-- ---- arguments on the stack

got_on : (xs s : List Cell) (k : ℕ) → slice_get (arguments_on xs s) (length xs + k) ≡ slice_get s k
got_on [] s k = let none : 0 + k ≡ k = omega arith in ap (slice_get s) none
got_on (x ∷ xs) s k =
    let up : suc (length xs) + k ≡ length xs + suc k = omega arith in
    ap (slice_get (arguments_on xs (x ∷ s))) up ∙ got_on xs (x ∷ s) (suc k)

dropped_on : (xs s : List Cell) (k : ℕ) → drop (length xs + k) (arguments_on xs s) ≡ drop k s
dropped_on [] s k = let none : 0 + k ≡ k = omega arith in ap (λ n. drop n s) none
dropped_on (x ∷ xs) s k =
    let up : suc (length xs) + k ≡ length xs + suc k = omega arith in
    ap (λ n. drop n (arguments_on xs (x ∷ s))) up ∙ dropped_on xs (x ∷ s) (suc k)

long_on : (xs s : List Cell) → length (arguments_on xs s) ≡ length xs + length s
long_on [] s = omega arith
long_on (x ∷ xs) s = let rest = long_on xs (x ∷ s) in omega (arith, rest)

module _ (card_type : List ℕ → Option (List ℕ)) (w : List Class) where
  -- operands that have the types of parameters are arguments
  record AreOn (ps : List Part) (ts : List ValueType) (s : List Cell) : Type 0 where
    cells : List Cell
    rest : List Cell
    is : s ≡ arguments_on cells rest
    many : length cells ≡ length ps
    good : AreArguments card_type w ps ts cells

  are_on : (ps : List Part) (ts : List ValueType) → AreTypedAs card_type ps ts → (other : Part) (s : List Cell)
      → length ps ≤ length s → ((k : ℕ) (x : Cell) → k < length ps → slice_get s k ≡ Some x → is_value_of w (get_or ps
      (length ps - 1 - k) other) x ≡ true) → AreOn ps ts s
  are_on [] [] typed other s le each = record { cells = []; rest = s; is = refl; many = refl; good = tt }
  are_on [] (t ∷ ts) typed other s le each = absurd typed
  are_on (p ∷ ps) [] typed other s le each = absurd typed
  are_on (p ∷ ps) (t ∷ ts) typed other s le each =
      let a = are_on ps ts typed.2 other s (omega (arith, le)) (λ k x lt e. (
      let up : length (p ∷ ps) - 1 - k ≡ suc (length ps - 1 - k) = omega (arith, lt) in
      ap (λ j. is_value_of w (get_or (p ∷ ps) j other) x) (sym up) ∙ each k x (omega (arith, lt)) e
      )) in
      by a.cells a.rest a.is a.many a.good
    where
      by : (xs rest : List Cell) → s ≡ arguments_on xs rest → length xs ≡ length ps → AreArguments card_type w ps ts xs
          → AreOn (p ∷ ps) (t ∷ ts) s
      by xs [] is many good =
          let long = long_on xs [] in
          let same = ap length is in
          absurd (omega (arith, long, same, many, le))
      by xs (x ∷ rest) is many good =
          let at : length ps ≡ length xs + 0 = omega (arith, many) in
          let none : length (p ∷ ps) - 1 - length ps ≡ 0 = omega arith in
          let found : slice_get s (length ps) ≡ Some x = ap (λ z. slice_get z (length ps)) is ∙ ap (slice_get
          (arguments_on xs (x ∷ rest))) at ∙ got_on xs (x ∷ rest) 0 in
          let value : is_value_of w p x ≡ true = ap (λ j. is_value_of w (get_or (p ∷ ps) j other) x) (sym none) ∙ each
          (length ps) x (omega arith) found in
          record {
            cells = x ∷ xs;
            rest = rest;
            is = is;
            many = ap suc many;
            good = (typed.0, typed.1, value, good);
          }

-- ---- how they are handed over

module _ (card_type : List ℕ → Option (List ℕ)) (is_of : Subtype) (w : List Class)
    (agree : SubtypesAgree card_type is_of w) (m : Room) (max_stack : ℕ) where
  abbrev words : List Cell → List Cell
  words s = stack_words card_type s

  abbrev frame : List Cell → List Cell
  frame ls = frame_words card_type m ls

  abbrev most : ℕ
  most = most_words max_stack

  -- cut they have no more words
  cut_few : (ps : List Part) (ts : List ValueType) (xs : List Cell) → AreArguments card_type w ps ts xs
      → (s t : List Cell) → length s ≤ length t → length (cut_on card_type ts xs s) ≤ length (words_on card_type xs t)
  cut_few [] [] [] good s t le = le
  cut_few [] [] (x ∷ xs) good s t le = absurd good
  cut_few [] (u ∷ ts) xs good s t le = absurd good
  cut_few (p ∷ ps) [] xs good s t le = absurd good
  cut_few (p ∷ ps) (u ∷ ts) [] good s t le = absurd good
  cut_few (p ∷ ps) (u ∷ ts) (x ∷ xs) good s t le =
      let one = length-append (cut_words card_type u x) s in
      let two = length-append (words_of card_type x) t in
      let less : length (cut_words card_type u x) ≤ length (words_of card_type x) = by (is_short u) x in
      cut_few ps ts xs good.3 (cut_words card_type u x ++ s) (words_of card_type x ++ t) (omega (
        arith,
        one,
        two,
        less,
        le,
      ))
    where
      by : (c : Bool) (y : Cell) → length (if c then Number ∷ [] else words_of card_type y) ≤ length (words_of card_type
          y)
      by true Number = omega arith
      by true (Refs others) = omega arith
      by true Unusable = omega arith
      by false y = omega arith

  -- the last alone has one word
  cut_last : (ss : List Sort) (ps : List Part) (ts : List ValueType) (xs : List Cell) → AreSortsOf ss ts
      → AreArguments card_type w ps ts xs → is_by_scratch ss ≡ false → list_any intcode.is_short ss ≡ true
      → (ls s : List Cell) → length (words_on card_type xs s) + 2 ≤ most → Walks is_of most (frame ls) (calculating 2 1
      ∷ []) (frame ls) (words_on card_type xs s) (frame ls) (cut_on card_type ts xs s)
  cut_last [] ps ts xs like good none some ls s few = absurd cc
  cut_last (q ∷ ss) ps [] xs like good none some ls s few = absurd like
  cut_last (q ∷ ss) [] (t ∷ ts) xs like good none some ls s few = absurd good
  cut_last (q ∷ ss) (p ∷ ps) (t ∷ ts) [] like good none some ls s few = absurd good
  cut_last (q ∷ []) (p ∷ ps) (t ∷ u ∷ ts) (x ∷ xs) like good none some ls s few = absurd like.1
  cut_last (q ∷ []) (p ∷ v ∷ ps) (t ∷ []) (x ∷ xs) like good none some ls s few = absurd good.3
  cut_last (q ∷ []) (p ∷ []) (t ∷ []) (x ∷ y ∷ xs) like good none some ls s few = absurd good.3
  cut_last (q ∷ []) (p ∷ []) (t ∷ []) (x ∷ []) like good none some ls s few =
      let long = length-append (words_of card_type x) s in
      let its : is_short t ≡ true = sym (short_same q t like.0) ∙ alone (intcode.is_short q) some in
      subst (λ (acts : List Act). Walks is_of most (frame ls) acts (frame ls) (words_of card_type x ++ s) (frame ls)
      (cut_words card_type t x ++ s)) (ap (λ (c : Bool). if c then calculating 2 1 ∷ [] else []) its) (value_cut
      card_type is_of w agree most (frame ls) (frame ls) (zip_itself (frame ls)) p.kind p.class t good.0 good.1 x good.2
      s (omega (arith, few, long)))
    where
      alone : (c : Bool) → (c || false) ≡ true → c ≡ true
      alone true e = refl
      alone false e = absurd cc
  cut_last (q ∷ a ∷ ss) (p ∷ ps) (t ∷ ts) (x ∷ xs) like good none some ls s few =
      let split = sym (not_last q a ss) ∙ none in
      let first = or_left (intcode.is_short q) (is_by_scratch (a ∷ ss)) split in
      let rest = or_right (intcode.is_short q) (is_by_scratch (a ∷ ss)) split in
      let more : list_any intcode.is_short (a ∷ ss) ≡ true = ap (λ (c : Bool). c || list_any intcode.is_short (a ∷ ss))
      (sym first) ∙ some in
      let same : words_of card_type x ≡ cut_words card_type t x = ap (λ (c : Bool). if c then Number ∷ []
      else words_of card_type x) (sym first ∙ short_same q t like.0) in
      subst (λ (zs : List Cell). Walks is_of most (frame ls) (calculating 2 1 ∷ []) (frame ls) (words_on card_type xs
      (words_of card_type x ++ s)) (frame ls) (cut_on card_type ts xs (zs ++ s))) same (cut_last (a ∷ ss) ps ts xs
      like.1 good.3 rest more ls (words_of card_type x ++ s) few)

  -- by acts, to a frame of which nothing is known but the locals
  record AreHanded (acts : List Act) (ts : List ValueType) (xs ls s : List Cell) : Type 0 where
    behind : List Cell
    walk : Walks is_of most (frame ls) acts (frame ls) (words_on card_type xs s) behind (cut_on card_type ts xs s)
    below : AllZip IsCellBelow behind (frame ls)

  are_handed : (f : Frame) (ss : List Sort) (ps : List Part) (ts : List ValueType) (xs : List Cell) → AreSortsOf ss ts
      → AreArguments card_type w ps ts xs → (ls s : List Cell) → scratch f 0 ≡ m.arguments + 2 * length ls
      → (is_by_scratch ss ≡ true → 2 * length ts ≤ m.scratch) → length (words_on card_type xs s) + 2 ≤ most
      → AreHanded (handing f ss ts) ts xs ls s
  are_handed f ss ps ts xs like good ls s at pairs few = by (is_by_scratch ss) refl (list_any intcode.is_short ss) refl
    where
      by : (c : Bool) → is_by_scratch ss ≡ c → (d : Bool) → list_any intcode.is_short ss ≡ d → AreHanded (if c then
          putting_aside (scratch f 0) ts ++ taking_back (scratch f 0) ts else (if d then calculating 2 1 ∷ [] else []))
          ts xs ls s
      by true e d g = record {
        behind = (free m.arguments ++ local_words card_type ls) ++ pairs_with card_type xs (free m.scratch);
        walk = pairs_walk card_type is_of w agree m max_stack ps ts xs good ls (scratch f 0) at (pairs e) s (omega (
          arith,
          few,
        ));
        below = pairs_free card_type is_of w agree m max_stack ls xs (pairs_long card_type is_of w agree most (frame ls)
            xs (free m.scratch) ∙ length-replicate m.scratch Unusable);
      }
      by false e true g = record {
        behind = frame ls;
        walk = cut_last ss ps ts xs like good e g ls s few;
        below = zip_itself (frame ls);
      }
      by false e false g = record {
        behind = frame ls;
        walk = whole_walk card_type is_of w agree m max_stack ts ps xs good (none_short ss ts like g) ls s;
        below = zip_itself (frame ls);
      }

-- ---- what a method is called on

module _ (card_type : List ℕ → Option (List ℕ)) (is_of : Subtype) (w : List Class) (p : Pair) (n : Naming)
    (r : Resolution) where
  -- the receiver meets what the card needs, where there is one, and what lies below it is left
  record IsReceived (needs : List Need) (count : ℕ) (s : List Cell) : Type 0 where
    left : List Cell
    right : has_wrong is_of needs (stack_words card_type s) ≡ false
    enough : length needs ≤ length (stack_words card_type s)
    drops : drop (length needs) (stack_words card_type s) ≡ stack_words card_type left
    is : drop count s ≡ left

  received : (class : List ℕ) (needs : List Need) → IsReceiver card_type is_of w p n r class needs → (s : List Cell)
      → length needs ≤ length s → (0 < length needs → (x : Cell) → slice_get s 0 ≡ Some x → is_of_class w class x
      ≡ true) → IsReceived needs (length needs) s
  received class [] fits s le each = record {
    left = s;
    right = refl;
    enough = omega arith;
    drops = refl;
    is = refl;
  }
  received class (OfType type ∷ []) fits [] le each = absurd (omega (arith, le))
  received class (OfType type ∷ []) fits (Number ∷ s) le each =
      let no : false ≡ true = each (omega arith) Number refl in absurd cc
  received class (OfType type ∷ []) fits (Unusable ∷ s) le each =
      let no : false ≡ true = each (omega arith) Unusable refl in absurd cc
  received class (OfType type ∷ []) fits (Refs others ∷ s) le each =
      let passes = fits (Refs others) (each (omega arith) (Refs others) refl) in
      record {
        left = s;
        right = ap (λ v. not v || false) passes;
        enough = omega arith;
        drops = refl;
        is = refl;
      }
  received class needs fits s le each = absurd fits

-- a call needs a receiver where the class file's takes one
receivers_are : (p : Pair) (n : Naming) (r : Resolution) (op : ℕ) (m : MemberId) (t : MemberType) (needs : List Need)
    → CallNamed p n r op m t needs → length needs ≡ receivers op
receivers_are p n r _ m _ _ (names.sent class token entry) = refl
receivers_are p n r _ m _ _ (names.above class token entry bare) = refl
receivers_are p n r _ m _ _ (names.fixed method entry right) = refl
receivers_are p n r _ m _ _ (names.static method entry right) = refl
receivers_are p n r _ m t _ (names.by_interface class _ entry typed many) = refl

-- ---- a call

module _ (card_type : List ℕ → Option (List ℕ)) (is_of : Subtype) (m : Room) (new : Selection) (b : BodyByName)
    (rows : List (Option State)) (label to : ℕ → ℕ) (p : Pair) (result : ValueType) (n : Naming) (wide : ℕ → Bool)
    (f : Frame) (r : Resolution) (known : Before) (w : List Class) (count place here o : ℕ) (x : State) (agree
    : SubtypesAgree card_type is_of w) (shapes : AreShapes card_type) where
  module _ (op : ℕ) (id : MemberId) (c : CallServed card_type is_of w p n r b op id) where
    abbrev ps : List Part
    ps = let d = parts id.desc in d.params

    abbrev ts : List ValueType
    ts = let t = c.type in t.params

    abbrev ss : List Sort
    ss = map sort_of (let d = parts id.desc in d.params)

    like : AreSortsOf (map sort_of (let d = parts id.desc in d.params)) (let t = c.type in t.params)
    like = sorts_of ss ts (sorts_for card_type shapes ps ts c.params)

    -- as many scratch pairs as the call needs
    pairs_fit : 2 * scratch_pairs_of (jop.Call op id) ≤ m.scratch → is_by_scratch (map sort_of (let d = parts id.desc in
        d.params)) ≡ true → 2 * length (let t = c.type in t.params) ≤ m.scratch
    pairs_fit room e =
        let many : scratch_pairs_of (jop.Call op id) ≡ length ss = ap scratch_pairs_by (signed id.desc c.is_desc
        c.is_method) ∙ ap (λ (t : Bool). if t then length ss else 0) e in
        let same = sorts_long ss ts like in
        omega (arith, room, many, same)

    -- the operands from the k-th on are those that the class file's call accepts
    argument_right : (s : List Cell) → has_wrong_by_name w b (jop.Call op id) (takes (jop.Call op id)) 0 s ≡ false
        → (k : ℕ) (y : Cell) → k < length ps → slice_get s k ≡ Some y → is_value_of w (get_or ps (length ps - 1 - k)
        (let d = parts id.desc in d.result)) y ≡ true
    argument_right s e k y lt there =
        let first : nat_lt k (length ps) ≡ true = grind (arith, nat_tests, lt) in
        sym (ap (λ (t : Bool). if t then is_value_of w (get_or ps (length ps - 1 - k) (let d = parts id.desc in
        d.result)) y else is_of_class w (receiver_class w b op id) y) first) ∙ first_operand w b (jop.Call op id) (takes
        (jop.Call op id)) s e k y there (omega (arith, lt))

    receiver_right : (s : List Cell) → has_wrong_by_name w b (jop.Call op id) (takes (jop.Call op id)) 0 s ≡ false
        → 0 < receivers op → (y : Cell) → slice_get s (length ps) ≡ Some y → is_of_class w (receiver_class w b op id) y
        ≡ true
    receiver_right s e some y there =
        let past : nat_lt (length ps) (length ps) ≡ false = grind (arith, nat_tests) in
        sym (ap (λ (t : Bool). if t then is_value_of w (get_or ps (length ps - 1 - length ps) (let d = parts id.desc in
        d.result)) y else is_of_class w (receiver_class w b op id) y) past) ∙ first_operand w b (jop.Call op id) (takes
        (jop.Call op id)) s e (length ps) y there (omega (arith, some))

    call_row : nargs f ≡ m.arguments → length x.locals ≡ f.max_locals → 2 * scratch_pairs_of (jop.Call op id)
        ≤ m.scratch → (q : IsRight w b (jop.Call op id) x) → Runs card_type is_of m b.max_stack (jop.Call op id)
        (handing f (map sort_of (let d = parts id.desc in d.params)) (let t = c.type in t.params) ++ (taking
        (needs_of_all (let t = c.type in t.params) ++ c.receiver) (words_given (let t = c.type in t.result)) true []
        ∷ widening (let t = c.type in t.result))) x.locals q.stack
    call_row args locals room q =
        let on = q.on in
        let enough : length ps + receivers op ≤ length q.stack = on.enough in
        let a = are_on card_type w ps ts c.params (let d = parts id.desc in d.result) q.stack (omega (arith, enough))
        (argument_right q.stack q.operands) in
        by a.cells a.rest a.is a.many a.good
      where
        by : (xs rest : List Cell) → q.stack ≡ arguments_on xs rest → length xs ≡ length ps
            → AreArguments card_type w ps ts xs → Runs card_type is_of m b.max_stack (jop.Call op id) (handing f
            (map sort_of (let d = parts id.desc in d.params)) (let t = c.type in t.params) ++ (taking (needs_of_all
            (let t = c.type in t.params) ++ c.receiver) (words_given (let t = c.type in t.result)) true []
            ∷ widening (let t = c.type in t.result))) x.locals q.stack
        by xs rest is many good =
            let on : IsOn b.max_stack (jop.Call op id) x.locals (arguments_on xs rest) = subst (λ (s : List Cell). IsOn
            b.max_stack (jop.Call op id) x.locals s) is q.on in
            let operands : has_wrong_by_name w b (jop.Call op id) (takes (jop.Call op id)) 0 (arguments_on xs rest)
            ≡ false = subst (λ (s : List Cell). has_wrong_by_name w b (jop.Call op id) (takes (jop.Call op id)) 0 s
            ≡ false) is q.operands in
            let enough : length ps + receivers op ≤ length (arguments_on xs rest) = on.enough in
            let long = long_on xs rest in
            let count_is = receivers_are p n r op id c.type c.receiver c.named in
            let got = received card_type is_of w p n r (receiver_class w b op id) c.receiver c.received rest (omega (
              arith,
              enough,
              long,
              many,
              count_is,
            )) (λ some y e. receiver_right (arguments_on xs rest) operands (omega (arith, some, count_is)) y (
            let at : length ps ≡ length xs + 0 = omega (arith, many) in
            ap (slice_get (arguments_on xs rest)) at ∙ got_on xs rest 0 ∙ e
            )) in
            let before = before_few card_type is_of m b.max_stack (jop.Call op id) x.locals (arguments_on xs rest) on in
            let behind = behind_few card_type is_of m b.max_stack (jop.Call op id) x.locals (arguments_on xs rest) on in
            let spelt = ap length (on_words card_type xs rest) in
            let gone : behind_by_name (jop.Call op id) x.locals (arguments_on xs rest) ≡ result_of (let d = parts
            id.desc in d.result) ++ got.left = ap (λ (zs : List Cell). result_of (let d = parts id.desc in d.result)
            ++ zs) (ap (λ k. drop (k + receivers op) (arguments_on xs rest)) (sym many) ∙ dropped_on xs rest (receivers
            op) ∙ ap (λ k. drop k rest) (sym count_is) ∙ got.is) in
            let gone_long = ap (λ (zs : List Cell). length (stack_words card_type zs)) gone in
            let both = ap length (words_both card_type (result_of (let d = parts id.desc in d.result)) got.left) in
            let sum = length-append (stack_words card_type (result_of (let d = parts id.desc in d.result))) (stack_words
            card_type got.left) in
            let cut = cut_few card_type is_of w agree m b.max_stack ps ts xs good (stack_words card_type rest)
            (stack_words card_type rest) (omega arith) in
            let first : scratch f 0 ≡ m.arguments + 2 * length x.locals = omega (arith, args, locals) in
            let h = are_handed card_type is_of w agree m b.max_stack f ss ps ts xs like good x.locals (stack_words
            card_type rest) first (pairs_fit room) (omega (arith, before, spelt)) in
            subst (λ (s : List Cell). Runs card_type is_of m b.max_stack (jop.Call op id) (handing f (map sort_of
            (let d = parts id.desc in d.params)) (let t = c.type in t.params) ++ (taking (needs_of_all (let t = c.type
            in t.params) ++ c.receiver) (words_given (let t = c.type in t.result)) true [] ∷ widening (let t = c.type in
            t.result))) x.locals s) (sym is) (call_runs card_type is_of w agree m b.max_stack (jop.Call op id) ps ts xs
            (let d = parts id.desc in d.result) (let t = c.type in t.result) c.receiver (handing f ss ts) x.locals
            h.behind rest got.left good c.result on gone refl got.right got.enough got.drops h.walk h.below (omega (
              arith,
              cut,
              before,
              spelt,
            )) (omega (arith, gone_long, both, sum, behind)))

  pub call_stands : (op : ℕ) (id : MemberId) → CallServed card_type is_of w p n r b op id → nargs f ≡ m.arguments
      → length x.locals ≡ f.max_locals → 2 * scratch_pairs_of (jop.Call op id) ≤ m.scratch → IsStanding card_type is_of
      m new b rows label to p result n wide f r known w count place here o x (jop.Call op id)
  call_stands op id c args locals room q selected = stands_by_acts card_type is_of m new b rows label to count place
      here (record { at = o; op = jop.Call op id }) x q.stack (handing f (ss op id c) (ts op id c) ++ (taking
      (needs_of_all (ts op id c) ++ c.receiver) (words_given (let t = c.type in t.result)) true [] ∷ widening (let t =
      c.type in t.result))) q.is (ap acts_of selected ∙ call_acts p result n to wide f r label known here op id
      (types_of id.desc) c.type c.receiver (signed id.desc c.is_desc c.is_method) (like op id c) returned c.named)
      (call_row op id c args locals room q) (quiet_ends label to (jop.Call op id) (handing f (ss op id c) (ts op id c)
      ++ (taking (needs_of_all (ts op id c) ++ c.receiver) (words_given (let t = c.type in t.result)) true []
      ∷ widening (let t = c.type in t.result))) (all_both Quiet (handing f (ss op id c) (ts op id c)) (taking
      (needs_of_all (ts op id c) ++ c.receiver) (words_given (let t = c.type in t.result)) true [] ∷ widening (let t =
      c.type in t.result)) (quiet_handing f (ss op id c) (ts op id c)) (
        refl,
        quiet_widening (let t = c.type in
            t.result),
      ))) (λ h. refl)
    where
      returned : IsResultOf (let d = parts id.desc in let e = d.result in result_by e.kind e) (let t = c.type in
          t.result)
      returned = result_for card_type shapes (let d = parts id.desc in let e = d.result in e.kind) (let d = parts
          id.desc in let e = d.result in e.class) (let t = c.type in t.result) c.result
