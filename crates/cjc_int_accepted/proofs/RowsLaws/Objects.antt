-- Fields, returns, and what makes and tests objects and arrays, in int mode.
use Rattle.std.proofs.Common.{◌≡◌, ℕ, ◌+◌, ◌≤◌, refl, sym, ap, subst, ◌∙◌, arith, Bool, true, false, List}
use Rattle.std.proofs.Common.{[]}
use Rattle.std.proofs.Common.{◌∷◌, ◌++◌, append-nil, length, length-append, drop, Option, Some}
use Rattle.std.specs.Prelude.{◌||◌, ◌&&◌, ◌==◌, not, if◌then◌else◌}
use Rattle.std.specs.List.{AllZip, list_all}
use Rattle.cjc_types.specs.Bytecode.Jvm as jvm
use Rattle.cjc_types.specs.Bytecode.declared.insn.JOp.{JOp}
use Rattle.cjc_types.specs.Bytecode.declared.insn.JOp.TheVariants as jop
use Rattle.cjc_types.specs.Bytes.Descriptor.{Part}
use Rattle.cjc_types.specs.Bytes.declared.fault.MemberId.{MemberId}
use Rattle.cjc_types.specs.Cells.{IsCellBelow}
use Rattle.cjc_types.specs.Flow.{Body}
use Rattle.cjc_types.specs.Rules.{has_wrong as has_wrong_by_name, is_of as is_of_class, is_value}
use Rattle.cjc_types.specs.Rules.{is_value_of}
use Rattle.cjc_types.specs.Rules.{throwable}
use Rattle.cjc_types.specs.Steps.{locals_after, stack_behind as behind_by_name, takes}
use Rattle.cjc_types.specs.Types.{array_of, is_void, letter, parts, result_of}
use Rattle.cjc_types.specs.World.Classes.{Class}
use Rattle.cjc_types.specs.declared.cell.Cell.{Cell}
use Rattle.cjc_types.specs.declared.cell.Cell.TheVariants.{Number, Refs, Unusable}
use Rattle.cjc_types.specs.declared.state.Stack.TheVariants.{Cells}
use Rattle.cjc_frames.specs.Acts.{Subtype, has_wrong}
use Rattle.cjc_frames.specs.declared.acts.Act.{Act}
use Rattle.cjc_types.specs.Bytes.declared.descriptor.Kind.{Kind}
use Rattle.cjc_frames.specs.declared.acts.Given.TheVariants.{ANumber, AnObject}
use Rattle.cjc_frames.specs.declared.acts.Need.{Need}
use Rattle.cjc_frames.specs.declared.acts.Need.TheVariants.{NumberWord, OfArrays, OfType, ReferenceWord}
use Rattle.cjc_frames.specs.Types.{begins_with}
use Rattle.cjc_verify.specs.CardActs.CardTypes.{ValueType, all_arrays, needs_of, words as words_given}
use Rattle.cjc_verify.specs.CardActs.Rows.{calculating}
use Rattle.cjc_accepted_proof.specs.Frames.{PassesFor, SubtypesAgree, types_named}
use Rattle.cjc_accepted_proof.proofs.RowsLaws.{zip_both, zip_itself}
use Rattle.cjc_accepted_proof.proofs.TypesLaws.{class_passes, own_below}
use Rattle.cjc_int_accepted.specs.Acts.{cutting, is_short, taking, widening}
use Rattle.cjc_int_accepted.specs.Frames.{Room, frame_words, stack_words, words_of}
use Rattle.cjc_int_accepted.specs.Runs.{IsOn, Runs, most_words}
use Rattle.cjc_int_accepted.specs.Types.{IsTypedAs, cut_words}
use Rattle.cjc_int_accepted.proofs.RowsLaws.Sound.{before_few, behind_few, narrow_sound, row_of_one, row_widened}
use Rattle.cjc_int_accepted.proofs.RowsLaws.Sound.{sound_taking, zip_same}
use Rattle.cjc_int_accepted.proofs.RowsLaws.Values.{back_below, back_words, value_back, value_cut, value_long}
use Rattle.cjc_int_accepted.proofs.RowsLaws.Values.{value_right}
use Rattle.cjc_int_accepted.proofs.RowsLaws.Walks.{row_of_walk, walk_both, walk_one}
use Rattle.cjc_int_accepted.proofs.WordsLaws.{drop_past, words_both}

module _ (card_type : List ℕ → Option (List ℕ)) (is_of : Subtype) (m : Room) (max_stack : ℕ) where
  abbrev words : List Cell → List Cell
  words s = stack_words card_type s

  abbrev frame : List Cell → List Cell
  frame ls = frame_words card_type m ls

  abbrev most : ℕ
  most = most_words max_stack

  abbrev Row : JOp → (ls s : List Cell) → (acts : List Act) → Type 0
  Row op ls s acts = Runs card_type is_of m max_stack op acts ls s

  -- ---- what is made

  pub new_runs : (class type : List ℕ) → card_type class ≡ Some type → (ls s : List Cell) → IsOn max_stack (jop.New
      class)
      ls s → Runs card_type is_of m max_stack (jop.New class) (taking [] (AnObject type ∷ []) true [] ∷ []) ls s
  new_runs class type typed ls s on = row_of_one card_type is_of m max_stack (jop.New class) [] (AnObject type ∷ [])
      true
      [] ls s on (omega arith) refl (own_below card_type class type typed, zip_itself (words s)) refl

  module _ (w : List Class) (b : Body) where
    -- arrays: their length is cut to a word
    making_runs : (op : JOp) (name type : List ℕ) (ls s : List Cell) → card_type name ≡ Some type → IsOn max_stack op ls
        (Number ∷ s) → behind_by_name op ls (Number ∷ s) ≡ Refs (name ∷ []) ∷ s → locals_after op ls (Cells (Number ∷
        s))
        ≡ ls → Runs card_type is_of m max_stack op (calculating 2 1 ∷ taking (NumberWord ∷ []) (AnObject type ∷ []) true
        []
        ∷ []) ls (Number ∷ s)
    making_runs op name type ls s typed on is stays =
        let before = before_few card_type is_of m max_stack op ls (Number ∷ s) on in
        record {
          sound = (
            narrow_sound is_of most (frame ls) (words s) (omega (arith, before)),
            zip_itself (frame ls),
            (
              sound_taking is_of most (NumberWord ∷ []) (AnObject type ∷ []) true [] (frame ls) (Number ∷ words s)
                  (omega
                  arith) (omega (arith, before)) (omega (arith, before)) refl,
              zip_itself (frame ls),
              tt,
            ),
          );
          stack_below = subst (λ (ys : List Cell). AllZip IsCellBelow (Refs (type ∷ []) ∷ words s) (words ys))
              (sym is) (
                own_below card_type name type typed,
                zip_itself (words s),
              );
          locals_below = zip_same (frame ls) (frame (locals_after op ls (Cells (Number ∷ s)))) (ap frame (sym stays));
        }

    pub numbers_made : (number : ℕ) (type : List ℕ) → card_type (91 ∷ letter number ∷ []) ≡ Some type → (ls s : List
        Cell)
        → IsOn max_stack (jop.NewArray number) ls s → has_wrong_by_name w b (jop.NewArray number) 1 0 s ≡ false → Runs
        card_type is_of m max_stack (jop.NewArray number) (calculating 2 1 ∷ taking (NumberWord ∷ []) (AnObject type ∷
        [])
        true [] ∷ []) ls s
    numbers_made number type typed ls [] on e = let enough = on.enough in absurd (omega (arith, enough))
    numbers_made number type typed ls (Refs names ∷ s) on e = absurd cc
    numbers_made number type typed ls (Unusable ∷ s) on e = absurd cc
    numbers_made number type typed ls (Number ∷ s) on e = making_runs (jop.NewArray number) (91 ∷ letter number ∷ [])
        type
        ls s typed on refl refl

    pub references_made : (class type : List ℕ) → card_type (array_of class) ≡ Some type → (ls s : List Cell) → IsOn
        max_stack (jop.ANewArray class) ls s → has_wrong_by_name w b (jop.ANewArray class) 1 0 s ≡ false → Runs
        card_type
        is_of m max_stack (jop.ANewArray class) (calculating 2 1 ∷ taking (NumberWord ∷ []) (AnObject type ∷ []) true []
        ∷ []) ls s
    references_made class type typed ls [] on e = let enough = on.enough in absurd (omega (arith, enough))
    references_made class type typed ls (Refs names ∷ s) on e = absurd cc
    references_made class type typed ls (Unusable ∷ s) on e = absurd cc
    references_made class type typed ls (Number ∷ s) on e = making_runs (jop.ANewArray class) (array_of class) type ls s
        typed on refl refl

    -- ---- what is tested

    pub length_runs : (ls : List Cell) (names : List (List ℕ)) (s : List Cell) → IsOn max_stack jop.ArrayLength ls (Refs
        names ∷ s) → list_all (begins_with all_arrays) (types_named card_type names) ≡ true → Runs card_type is_of m
        max_stack jop.ArrayLength (taking (OfArrays all_arrays ∷ []) (ANumber ∷ []) true [] ∷ calculating 1 2 ∷ []) ls
        (Refs names ∷ s)
    length_runs ls names s on e = row_widened card_type is_of m max_stack jop.ArrayLength (OfArrays all_arrays ∷ [])
        ANumber
        ls (Refs names ∷ s) s on (omega arith) (ap (λ v. not v || false) e) refl refl refl refl

    pub cast_runs : (class type : List ℕ) → card_type class ≡ Some type → (ls s : List Cell) → IsOn max_stack
        (jop.CheckCast class) ls s → has_wrong_by_name w b (jop.CheckCast class) 1 0 s ≡ false → Runs card_type is_of m
        max_stack (jop.CheckCast class) (taking (ReferenceWord ∷ []) (AnObject type ∷ []) true [] ∷ []) ls s
    cast_runs class type typed ls [] on e = let enough = on.enough in absurd (omega (arith, enough))
    cast_runs class type typed ls (Number ∷ s) on e = absurd cc
    cast_runs class type typed ls (Unusable ∷ s) on e = absurd cc
    cast_runs class type typed ls (Refs names ∷ s) on e = row_of_one card_type is_of m max_stack (jop.CheckCast class)
        (ReferenceWord ∷ []) (AnObject type ∷ []) true [] ls (Refs names ∷ s) on (omega arith) refl (
          own_below card_type
              class type typed,
          zip_itself (words s),
        ) refl

    pub ask_runs : (class : List ℕ) (ls s : List Cell) → IsOn max_stack (jop.InstanceOf class) ls s → has_wrong_by_name
        w b
        (jop.InstanceOf class) 1 0 s ≡ false → Runs card_type is_of m max_stack (jop.InstanceOf class) (taking
        (ReferenceWord ∷ []) (ANumber ∷ []) true [] ∷ calculating 1 2 ∷ []) ls s
    ask_runs class ls [] on e = let enough = on.enough in absurd (omega (arith, enough))
    ask_runs class ls (Number ∷ s) on e = absurd cc
    ask_runs class ls (Unusable ∷ s) on e = absurd cc
    ask_runs class ls (Refs names ∷ s) on e = row_widened card_type is_of m max_stack (jop.InstanceOf class)
        (ReferenceWord
        ∷ []) ANumber ls (Refs names ∷ s) s on (omega arith) refl refl refl refl refl

    module _ (agree : SubtypesAgree card_type is_of w) where
      -- what is thrown
      pub throw_runs : (type : List ℕ) → card_type throwable ≡ Some type → (ls s : List Cell) → IsOn max_stack jop.Throw
          ls
          s → has_wrong_by_name w b jop.Throw 1 0 s ≡ false → Runs card_type is_of m max_stack jop.Throw (taking (OfType
          type ∷ []) [] false [] ∷ []) ls s
      throw_runs type typed ls [] on e = let enough = on.enough in absurd (omega (arith, enough))
      throw_runs type typed ls (x ∷ s) on e = by x refl (passes (is_of_class w throwable x) e)
        where
          passes : (p : Bool) → ((true && not p) || has_wrong_by_name w b jop.Throw 1 1 s) ≡ false → p ≡ true
          passes true f = refl
          passes false f = absurd cc

          by : (y : Cell) → x ≡ y → is_of_class w throwable x ≡ true → Runs card_type is_of m max_stack jop.Throw
              (taking
              (OfType type ∷ []) [] false [] ∷ []) ls (x ∷ s)
          by Number is f = let no : false ≡ true = ap (is_of_class w throwable) (sym is) ∙ f in absurd cc
          by Unusable is f = let no : false ≡ true = ap (is_of_class w throwable) (sym is) ∙ f in absurd cc
          by (Refs names) is f =
              let right = class_passes card_type is_of w agree throwable type typed (Refs names) (ap (is_of_class w
              throwable) (sym is) ∙ f) in
              subst (λ (z : Cell). IsOn max_stack jop.Throw ls (z ∷ s) → Runs card_type is_of m max_stack jop.Throw
              (taking
              (OfType type ∷ []) [] false [] ∷ []) ls (z ∷ s)) (sym is) (λ o. row_of_one card_type is_of m max_stack
              jop.Throw (OfType type ∷ []) [] false [] ls (Refs names ∷ s) o (omega arith) (ap (λ v. not v || false)
              right)
              (zip_itself (words s)) refl) on

      -- ---- values that are taken

      -- a value is cut and taken, with what lies below it
      value_taken : (op : JOp) (kind : Kind) (class : List ℕ) (t : ValueType) → IsTypedAs card_type kind class t →
          is_void
          kind ≡ false → (rest : List Need) (falls : Bool) (x : Cell) (ls s left : List Cell) → is_value w kind class x
          ≡ true → IsOn max_stack op ls (x ∷ s) → has_wrong is_of rest (words s) ≡ false → length rest ≤ length (words
          s)
          → drop (length rest) (words s) ≡ words left → behind_by_name op ls (x ∷ s) ≡ left → locals_after op ls (Cells
          (x
          ∷ s)) ≡ ls → Runs card_type is_of m max_stack op (cutting t ++ taking (needs_of t ++ rest) [] falls [] ∷ [])
          ls (x
          ∷ s)
      value_taken op kind class t typed some rest falls x ls s left good on right enough drops is stays =
          let before = before_few card_type is_of m max_stack op ls (x ∷ s) on in
          let all = length-append (words_of card_type x) (words s) in
          let cut = length-append (cut_words card_type t x) (words s) in
          let long = value_long card_type is_of w agree kind class t typed some x good in
          let both = length-append (needs_of t) rest in
          let fits : length (cut_words card_type t x) ≤ 2 = two t x in
          let behind : drop (length (needs_of t ++ rest)) (cut_words card_type t x ++ words s) ≡ words left = ap (λ n.
          drop
          n (cut_words card_type t x ++ words s)) (both ∙ ap (λ n. n + length rest) (sym long)) ∙ drop_past (cut_words
          card_type t x) (words s) (length rest) ∙ drops in
          let less = ap length behind in
          let few = few_left left is in
          row_of_walk card_type is_of m max_stack op (cutting t ++ taking (needs_of t ++ rest) [] falls [] ∷ []) ls (x ∷
          s)
          (frame ls) (words left) (walk_both is_of most (frame ls) (cutting t) (taking (needs_of t ++ rest) [] falls []
          ∷ []) (frame ls) (words (x ∷ s)) (frame ls) (cut_words card_type t x ++ words s) (frame ls) (words left)
          (value_cut
          card_type is_of w agree most (frame ls) (frame ls) (zip_itself (frame ls)) kind class t typed some x good
          (words
          s) (omega (arith, before, all))) (walk_one is_of most (frame ls) (taking (needs_of t ++ rest) [] falls [])
          (frame
          ls) (cut_words card_type t x ++ words s) (frame ls) (words left) (sound_taking is_of most (needs_of t ++ rest)
          []
          falls [] (frame ls) (cut_words card_type t x ++ words s) (omega (arith, both, long, cut, enough)) (omega (
            arith,
            cut,
            fits,
            before,
            all,
          )) (omega (arith, less, few)) (value_right card_type is_of w agree kind class t typed some x good rest (words
          s)
          right)) (zip_itself (frame ls)) refl behind)) (zip_same _ _ (ap words (sym is))) (zip_same _ _ (ap frame (sym
          stays)))
        where
          two : (u : ValueType) (y : Cell) → length (cut_words card_type u y) ≤ 2
          two u y = by (is_short u) y
            where
              by : (p : Bool) (z : Cell) → length (if p then Number ∷ [] else words_of card_type z) ≤ 2
              by true z = omega arith
              by false Number = omega arith
              by false (Refs names) = omega arith
              by false Unusable = omega arith

          few_left : (ys : List Cell) → behind_by_name op ls (x ∷ s) ≡ ys → length (words ys) ≤ most
          few_left ys f = let few = behind_few card_type is_of m max_stack op ls (x ∷ s) on in let same = ap (λ (zs :
              List
              Cell). length (words zs)) f in omega (arith, few, same)

      -- ---- fields, statics and returns

      -- a value comes back from what lies on top
      value_given : (op : JOp) (part : Part) (t : ValueType) → IsTypedAs card_type part.kind part.class t
          → (needs : List Need) (ls s left : List Cell) → IsOn max_stack op ls s → has_wrong is_of needs (words s) ≡
          false
          → length needs ≤ length (words s) → drop (length needs) (words s) ≡ words left → behind_by_name op ls s
          ≡ result_of part ++ left → locals_after op ls (Cells s) ≡ ls → length (words left) + 2 ≤ most
          → Runs card_type is_of m max_stack op (taking needs (words_given t) true [] ∷ widening t) ls s
      value_given op part t typed needs ls s left on right enough drops is stays few =
          let before = before_few card_type is_of m max_stack op ls s on in
          let less = ap length drops in
          let back = back_below card_type is_of w agree most (frame ls) (frame ls) (zip_itself (frame ls)) part t typed
          in
          row_of_walk card_type is_of m max_stack op (taking needs (words_given t) true [] ∷ widening t) ls s (frame ls)
          (back_words card_type is_of w agree most (frame ls) (frame ls) (zip_itself (frame ls)) t ++ drop (length
          needs)
          (words s)) (value_back card_type is_of w agree most (frame ls) (frame ls) (zip_itself (frame ls)) needs t
          (words
          s) enough (omega (arith, before)) (omega (arith, less, few)) right) (subst (λ (ys : List Cell). AllZip
          IsCellBelow (back_words card_type is_of w agree most (frame ls) (frame ls) (zip_itself (frame ls)) t ++ drop
          (length needs) (words s)) (words ys)) (sym is) (subst (λ (ys : List Cell). AllZip IsCellBelow (back_words
          card_type is_of w agree most (frame ls) (frame ls) (zip_itself (frame ls)) t ++ drop (length needs) (words s))
          ys)
          (sym (words_both card_type (result_of part) left)) (zip_both (back_words card_type is_of w agree most (frame
          ls)
          (frame ls) (zip_itself (frame ls)) t) (drop (length needs) (words s)) (words (result_of part)) (words left)
          back
          (zip_same (drop (length needs) (words s)) (words left) drops)))) (zip_same _ _ (ap frame (sym stays)))

      -- a static field is read
      pub static_read : (f : MemberId) (t : ValueType) → (let d = parts f.desc in let r = d.result in IsTypedAs
          card_type
          r.kind r.class t) → (ls s : List Cell) → IsOn max_stack (jop.Static false f) ls s → Runs card_type is_of m
          max_stack (jop.Static false f) (taking [] (words_given t) true [] ∷ widening t) ls s
      static_read f t typed ls s on =
          let before = before_few card_type is_of m max_stack (jop.Static false f) ls s on in
          value_given (jop.Static false f) (let d = parts f.desc in d.result) t typed [] ls s s on refl (omega arith)
          refl
          refl refl (omega (arith, before))

      -- an instance field is read
      pub field_read : (f : MemberId) (t : ValueType) (type : List ℕ) → (let d = parts f.desc in let r = d.result in
          IsTypedAs card_type r.kind r.class t) → PassesFor card_type is_of w f.class type → (ls s : List Cell) → IsOn
          max_stack (jop.Field false f) ls s → has_wrong_by_name w b (jop.Field false f) 1 0 s ≡ false → Runs card_type
          is_of m max_stack (jop.Field false f) (taking (OfType type ∷ []) (words_given t) true [] ∷ widening t) ls s
      field_read f t type typed receiver ls [] on e = let enough = on.enough in absurd (omega (arith, enough))
      field_read f t type typed receiver ls (Number ∷ s) on e = absurd cc
      field_read f t type typed receiver ls (Unusable ∷ s) on e = absurd cc
      field_read f t type typed receiver ls (Refs names ∷ s) on e =
          let before = before_few card_type is_of m max_stack (jop.Field false f) ls (Refs names ∷ s) on in
          let right = receiver (Refs names) (passes (is_of_class w f.class (Refs names)) (has_wrong_by_name w b
          (jop.Field
          false f) 1 1 s) e) in
          value_given (jop.Field false f) (let d = parts f.desc in d.result) t typed (OfType type ∷ []) ls (Refs names ∷
          s)
          s on (ap (λ v. not v || false) right) (omega arith) refl refl refl (omega (arith, before))
        where
          passes : (p r : Bool) → ((true && not p) || r) ≡ false → p ≡ true
          passes true r g = refl
          passes false r g = absurd cc

      -- the operand on top is one that the instruction accepts
      on_top : (p r : Bool) → ((true && not p) || r) ≡ false → p ≡ true
      on_top true r g = refl
      on_top false r g = absurd cc

      below_top : (p r : Bool) → (p || r) ≡ false → r ≡ false
      below_top true r g = absurd cc
      below_top false r g = g

      -- a static field is written
      pub static_written : (f : MemberId) (t : ValueType) → (let d = parts f.desc in let r = d.result in IsTypedAs
          card_type r.kind r.class t) → (let d = parts f.desc in let r = d.result in is_void r.kind) ≡ false
          → (ls s : List Cell) → IsOn max_stack (jop.Static true f) ls s → has_wrong_by_name w b (jop.Static true f) 1 0
          s
          ≡ false → Runs card_type is_of m max_stack (jop.Static true f) (cutting t ++ taking (needs_of t) [] true [] ∷
          [])
          ls s
      static_written f t typed some ls [] on e = let enough = on.enough in absurd (omega (arith, enough))
      static_written f t typed some ls (x ∷ s) on e =
          let good = on_top (is_value_of w (let d = parts f.desc in d.result) x) (has_wrong_by_name w b (jop.Static true
          f)
          1 1 s) e in
          let none : needs_of t ++ [] ≡ needs_of t = append-nil (needs_of t) in
          subst (λ (ns : List Need). Runs card_type is_of m max_stack (jop.Static true f) (cutting t ++ taking ns []
          true []
          ∷ []) ls (x ∷ s)) none (value_taken (jop.Static true f) (let d = parts f.desc in let r = d.result in r.kind)
          (let d
          = parts f.desc in let r = d.result in r.class) t typed some [] true x ls s s good on refl (omega arith) refl
          refl
          refl)

      -- an instance field is written
      pub field_written : (f : MemberId) (t : ValueType) (type : List ℕ) → (let d = parts f.desc in let r = d.result in
          IsTypedAs card_type r.kind r.class t) → (let d = parts f.desc in let r = d.result in is_void r.kind) ≡ false
          → PassesFor card_type is_of w f.class type → (ls s : List Cell) → IsOn max_stack (jop.Field true f) ls s
          → has_wrong_by_name w b (jop.Field true f) 2 0 s ≡ false → Runs card_type is_of m max_stack (jop.Field true f)
          (cutting t ++ taking (needs_of t ++ OfType type ∷ []) [] true [] ∷ []) ls s
      field_written f t type typed some receiver ls [] on e = let enough = on.enough in absurd (omega (arith, enough))
      field_written f t type typed some receiver ls (x ∷ []) on e = let enough = on.enough in absurd (omega (
        arith,
        enough,
      ))
      field_written f t type typed some receiver ls (x ∷ y ∷ s) on e =
          let good = on_top (is_value_of w (let d = parts f.desc in d.result) x) (has_wrong_by_name w b (jop.Field true
          f)
          2 1 (y ∷ s)) e in
          let rest = below_top (true && not (is_value_of w (let d = parts f.desc in d.result) x)) (has_wrong_by_name w b
          (jop.Field true f) 2 1 (y ∷ s)) e in
          by y refl (on_top (is_of_class w f.class y) (has_wrong_by_name w b (jop.Field true f) 2 2 s) rest) good
        where
          by : (z : Cell) → y ≡ z → is_of_class w f.class y ≡ true → is_value_of w (let d = parts f.desc in d.result) x
              ≡ true → Runs card_type is_of m max_stack (jop.Field true f) (cutting t ++ taking (needs_of t ++ OfType
              type
              ∷ []) [] true [] ∷ []) ls (x ∷ y ∷ s)
          by Number is f_is good = let no : false ≡ true = ap (is_of_class w f.class) (sym is) ∙ f_is in absurd cc
          by Unusable is f_is good = let no : false ≡ true = ap (is_of_class w f.class) (sym is) ∙ f_is in absurd cc
          by (Refs names) is f_is good =
              let right = receiver (Refs names) (ap (is_of_class w f.class) (sym is) ∙ f_is) in
              subst (λ (z : Cell). IsOn max_stack (jop.Field true f) ls (x ∷ z ∷ s) → Runs card_type is_of m max_stack
              (jop.Field true f) (cutting t ++ taking (needs_of t ++ OfType type ∷ []) [] true [] ∷ []) ls (x ∷ z ∷ s))
              (sym
              is) (λ o. value_taken (jop.Field true f) (let d = parts f.desc in let r = d.result in r.kind) (let d =
              parts
              f.desc in let r = d.result in r.class) t typed some (OfType type ∷ []) true x ls (Refs names ∷ s) s good o
              (ap
              (λ v. not v || false) right) (omega arith) refl refl refl) on

      -- a value is returned
      pub value_returned : (op : ℕ) → (op == jvm.return) ≡ false → (t : ValueType) → (let d = parts b.desc in let r =
          d.result in IsTypedAs card_type r.kind r.class t) → (let d = parts b.desc in let r = d.result in is_void
          r.kind)
          ≡ false → (ls s : List Cell) → IsOn max_stack (jop.Return op) ls s → has_wrong_by_name w b (jop.Return op) 1 0
          s
          ≡ false → Runs card_type is_of m max_stack (jop.Return op) (cutting t ++ taking (needs_of t) [] false [] ∷ [])
          ls
          s
      value_returned op other t typed some ls [] on e = let enough = on.enough in let many : takes (jop.Return op) ≡ 1 =
          ap
          (λ (v : Bool). if v then 0 else 1) other in absurd (omega (arith, enough, many))
      value_returned op other t typed some ls (x ∷ s) on e =
          let good = on_top (is_value_of w (let d = parts b.desc in d.result) x) (has_wrong_by_name w b (jop.Return op)
          1 1
          s) e in
          let none : needs_of t ++ [] ≡ needs_of t = append-nil (needs_of t) in
          subst (λ (ns : List Need). Runs card_type is_of m max_stack (jop.Return op) (cutting t ++ taking ns [] false
          []
          ∷ []) ls (x ∷ s)) none (value_taken (jop.Return op) (let d = parts b.desc in let r = d.result in r.kind) (let
          d =
          parts b.desc in let r = d.result in r.class) t typed some [] false x ls s s good on refl (omega arith) refl
          (ap
          (λ (v : Bool). drop (if v then 0 else 1) (x ∷ s)) other) refl)

  -- nothing is returned
  pub nothing_returned : (ls s : List Cell) → IsOn max_stack (jop.Return jvm.return) ls s → Runs card_type is_of m
      max_stack
      (jop.Return jvm.return) (taking [] [] false [] ∷ []) ls s
  nothing_returned ls s on = row_of_one card_type is_of m max_stack (jop.Return jvm.return) [] [] false [] ls s on
      (omega
      arith) refl (zip_itself (words s)) refl
