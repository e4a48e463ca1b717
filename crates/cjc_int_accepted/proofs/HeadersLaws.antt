-- Headers of methods in int mode have the words of their types, and room for the frames of the method.
use Rattle.std.proofs.Common.{◌≡◌, ℕ, ◌+◌, ◌*◌, ◌≤◌, ◌<◌, ◌==◌, refl, sym, ap, ◌∙◌, arith, Bool, true, false}
use Rattle.std.proofs.Common.{List, [], ◌∷◌, ◌++◌, flat_map, map, ⊎_elim, Option, Some, None}
use Rattle.std.specs.Prelude.{◌&&◌, if◌then◌else◌, not, option_and_then}
use Rattle.std.proofs.lemmas.Bool.{cases_lt}
use Rattle.cjc_types.proofs.BytesNumbers.{like_number}
use Rattle.cjc_types.specs.Bytes.AccessFlags.{is_static}
use Rattle.cjc_types.specs.ClassFile.Code.{CodeTree}
use Rattle.cjc_types.specs.Flow.{Body as BodyByName}
use Rattle.cjc_types.specs.Types.{parts}
use Rattle.cjc_types.specs.declared.state.State.{State}
use Rattle.cjc_ncode.specs.LowerCardSemantics.Bytecode.Arguments as sorts
use Rattle.cjc_ncode.specs.Written.{Resolution}
use Rattle.cjc_ncode.specs.IntCode.IntCode.{nargs}
use Rattle.cjc_int_mode.proofs.Written.{pairs_same}
use Rattle.cjc_int_mode.specs.Intervals.Frames.{RangeState}
use Rattle.cjc_int_mode.specs.Room.{LacksRoom, high_stack, many_words}
use Rattle.cjc_int_mode.specs.Written.{argument_words, int_frame, local_words, params_by, stack_words}
use Rattle.cjc_int_mode.specs.declared.modes.Mode.TheVariants as modes
use Rattle.cjc_verify.specs.CheckRules.Spots.{in_info, unless}
use Rattle.cjc_frames.specs.declared.acts.Given.TheVariants.{AnObject}
use Rattle.cjc_verify.specs.Bodies.{Body, frames_of, type_of_body}
use Rattle.cjc_verify.specs.CardActs.CardTypes.{ValueType, widths, words}
use Rattle.cjc_verify.specs.CardActs.CardTypes as types
use Rattle.cjc_verify.specs.ClassTypes.{class_type}
use Rattle.cjc_verify.specs.Headers.{header_spots}
use Rattle.cjc_verify.specs.Headers as headers
use Rattle.cjc_verify.specs.Named.{holds}
use Rattle.cjc_verify.specs.Pairs.{Pair, method_at}
use Rattle.cjc_verify.specs.Script.Sorts.{Boolean, Byte, Int, OfClass, Reference, Short, Sort, result_by, signature_by}
use Rattle.cjc_verify.specs.Script.Sorts.{signature_of, sort_of}
use Rattle.cjc_int_accepted.specs.Entered.{AreShapes, AreSortsFor, IsEntered, IsSortFor}
use Rattle.cjc_int_accepted.specs.Headers.{IsReadInIntMode}
use Rattle.cjc_int_accepted.specs.Runs.{most_words}
use Rattle.cjc_int_accepted.specs.Selection.{room_of}
use Rattle.cjc_int_accepted.proofs.FrontLaws.{sorts_for}
use Rattle.cjc_int_accepted.proofs.SelectionLaws.{room_low}

-- types of parameters have the words of their sorts
widths_same : (ss : List Sort) (ts : List ValueType) → AreSortsFor ss ts → sorts.widths ss ≡ widths ts
widths_same [] [] h = refl
widths_same [] (t ∷ ts) h = absurd h
widths_same (s ∷ ss) [] h = absurd h
widths_same (s ∷ ss) (t ∷ ts) h = by s t h.0 (widths_same ss ts h.1)
  where
    by : (s : Sort) (t : ValueType) → IsSortFor s t → sorts.widths ss ≡ widths ts → sorts.widths (s ∷ ss) ≡ widths (t
        ∷ ts)
    by Boolean types.Boolean f rest = ap (λ k. 1 + k) rest
    by Byte types.Byte f rest = ap (λ k. 1 + k) rest
    by Short types.Short f rest = ap (λ k. 1 + k) rest
    by Int types.Int f rest = ap (λ k. 2 + k) rest
    by (Reference shape) (types.Reference type) f rest = ap (λ k. 1 + k) rest
    by _ _ f rest = absurd f

few_enough : (n : ℕ) → (255 < n → ⊥) → n ≤ 255
few_enough n not_more = ⊎_elim (λ more. absurd (not_more more)) (λ le. le) (cases_lt 255 n)

-- ---- room

module _ (b : BodyByName) (rows : List (Option State)) (room : LacksRoom b rows modes.Int → ⊥) where
  pub words_few : argument_words b + local_words b rows ≤ 255
  words_few = few_enough (argument_words b + local_words b rows) (λ more. room (many_words more))

  pub stack_few : most_words b.max_stack ≤ 255
  stack_few = few_enough (stack_words b) (λ more. room (high_stack more))

-- ---- a method

module _ (card_type : List ℕ → Option (List ℕ)) (shapes : AreShapes card_type) (q : Pair) (r : Resolution)
    (code : CodeTree) (b : BodyByName) (rows : List (Option State)) (ranges : List (Option RangeState)) (v : Body)
    (is : IsReadInIntMode card_type q r code b rows ranges v) where
  abbrev ts : List ValueType
  ts = let t = type_of_body q.components v in t.params

  params_are : params_by (signature_of b.desc) ≡ map sort_of (let d = parts b.desc in d.params)
  params_are =
      ap (λ o. params_by (option_and_then signature_by o)) is.is_desc
      ∙ ap (λ t. params_by (if t then Some (record {
        params = map sort_of (let d = parts b.desc in d.params);
        result = (let d = parts b.desc in let e = d.result in result_by e.kind e);
      }) else None)) is.is_method

  nargs_are : nargs (int_frame b) ≡ (if is_static b.flags then 0 else 1) + widths ts
  nargs_are =
      ap (λ ss. sorts.widths ((if is_static b.flags then [] else Reference (OfClass b.class) ∷ []) ++ ss)) params_are
      ∙ by (is_static b.flags)
    where
      by : (s : Bool) → sorts.widths ((if s then [] else Reference (OfClass b.class) ∷ []) ++ map sort_of
          (let d = parts b.desc in d.params)) ≡ (if s then 0 else 1) + widths ts
      by true =
          let same = widths_same (map sort_of (let d = parts b.desc in d.params)) ts (sorts_for card_type shapes
          (let d = parts b.desc in d.params) ts is.typed) in
          omega (arith, same)
      by false = ap (λ k. 1 + k) (widths_same (map sort_of (let d = parts b.desc in d.params)) ts (sorts_for card_type
          shapes (let d = parts b.desc in d.params) ts is.typed))

  -- the header breaks no rule
  pub header_fits : header_spots q v ≡ []
  header_fits =
      let h = v.header in
      let words : h.nargs ≡ headers.argument_words q v = is.header.nargs ∙ nargs_are ∙ ap (λ s. (if s then 0 else 1)
      + widths ts) (sym is.static) in
      let test : (h.nargs == headers.argument_words q v) ≡ true = ap (λ n. n == headers.argument_words q v) words
      ∙ like_number (headers.argument_words q v) in
      let off = holds (headers.has_code q) (method_at q (let m = v.method in m.offset)) in
      ap (λ t. unless (t && not (h.is_abstract && off)) (in_info 7 (let m = v.method in m.offset))) test
      ∙ ap (λ t. unless (true && not (t && off)) (in_info 7 (let m = v.method in m.offset))) is.header.has_code

  pub stack_read : (let c = frames_of q v in c.max_stack) ≡ most_words b.max_stack
  stack_read = is.header.max_stack ∙ ap (λ k. 2 * k + 4) is.stack

  pub locals_read : (let c = frames_of q v in c.local_count) ≡ (let m = room_of b rows ranges in m.arguments +
      2 * b.max_locals
      + m.scratch)
  locals_read =
      let h = v.header in
      let first = is.header.nargs in
      let second = is.header.max_locals in
      omega (arith, first, second)

  pub words_read : (let c = frames_of q v in c.local_count) ≤ 255
  words_read =
      let few = words_few b rows is.room in
      let same = locals_read in
      let pairs = pairs_same ranges 0 b.insns rows in
      omega (arith, few, same, pairs)

  -- the entry has the words of the arguments
  pub is_entered : IsEntered card_type (room_of b rows ranges) b (frames_of q v) (int_frame b) (class_type v.holder)
      (let t = type_of_body q.components v in t.params)
  is_entered =
      let stack = stack_read in
      let low = room_low b rows is.room in
      record {
        sorts = ap (λ ss. (if is_static b.flags then [] else Reference (OfClass b.class) ∷ []) ++ ss) params_are;
        typed = is.typed;
        holds = is.holds;
        arguments = ap (λ s. (if s then [] else AnObject (class_type v.holder) ∷ []) ++ flat_map words ts) is.static;
        words = refl;
        count = locals_read;
        low = omega (arith, stack, low);
        room = omega (arith, stack);
        few = is.few;
      }
