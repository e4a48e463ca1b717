-- An answer to an imported method is the same on both sides.
use Rattle.std.proofs.Common.{◌≡◌, ℕ, refl, sym, ap, subst, ◌∙◌, arith, Bool, true, false, List, [], ◌∷◌, ◌++◌, ℤ, pos}
use Rattle.std.proofs.Common.{negsuc}
use Rattle.std.specs.Prelude.{Option, Some, None, map, slice_get, ◌≤ℤ◌, int_le, if◌then◌else◌}
use Rattle.std.proofs.lemmas.Int.{ints}
use Rattle.cjc_bytes.specs.declared.fault.MemberId.{MemberId}
use Rattle.cjc_bytes.proofs.Bools.{and_true}
use Rattle.cjc_bytes.proofs.Integers.{above_if}
use Rattle.cjc_range.proofs.WordsLaws.Words.{low_word_same}
use Rattle.cjc_range.specs.Span.{span, Holds}
use Rattle.cjc_script.specs.declared.value.Value.{Value}
use Rattle.cjc_script.specs.declared.value.Value.TheVariants.{Num, Null, Obj}
use Rattle.cjc_script.specs.declared.script.Act.{Act}
use Rattle.cjc_script.specs.declared.script.Answer.{Answer}
use Rattle.cjc_script.specs.declared.script.Reply.{Reply}
use Rattle.cjc_script.specs.declared.script.Reply.TheVariants.{Give, Throw}
use Rattle.cjc_script.specs.declared.report.Outcome.TheVariants.{Unfit}
use Rattle.cjc_script.specs.declared.report.Thing.{Thing}
use Rattle.cjc_script.specs.Sorts.{Shape, Sort, Boolean, Byte, Short, Int, Reference, NoValue, shape_name, fits}
use Rattle.cjc_script.specs.Sorts.{result_fits, lies_in}
use Rattle.cjc_card_semantics.specs.Bytecode.Runs.{Move, Over}
use Rattle.cjc_card_semantics.specs.Bytecode.Arguments.{result_words}
use Rattle.cjc_card_semantics.specs.Bytecode.Effects.{HeapObject, shape}
use Rattle.cjc_card_semantics.specs.Bytecode.Machine.{Ended, shape_of}
use Rattle.cjc_card_semantics.specs.Bytecode.Machine as narrow
use Rattle.cjc_card_semantics.specs.Bytecode.Renaming.{option_as}
use Rattle.cjc_card_semantics.proofs.BytecodeLaws.Natural.{get_map}
use Rattle.cjc_ncode.specs.ByLabel.{Named, by_label}
use Rattle.cjc_jvm_semantics.specs.Linked.{Linked}
use Rattle.cjc_jvm_semantics.specs.Machine.{Frame, State, heap_of, with_heap, room, offset, report, object_fits, is_of}
use Rattle.cjc_jvm_semantics.specs.Machine.{heap_after_act, after_act, after_acts, after_raise, after_reply}
use Rattle.cjc_jvm_semantics.specs.Machine.{after_result, after_answer}
use Rattle.cjc_narrow_proof.specs.Selection.Relation.{Kind, Range, Heap, Agrees, number, null, object, Stacks, Locals}
use Rattle.cjc_narrow_proof.specs.Selection.Relation.{shown}
use Rattle.cjc_narrow_proof.specs.Selection.Rows.{HasRoom, kind_of, is_word_sort}
use Rattle.cjc_narrow_proof.specs.Selection.Jumps.{Results, no_result, result as result_of}
use Rattle.cjc_narrow_proof.specs.Selection.Calls.{NFrame, NState, NTurn}
use Rattle.cjc_narrow_proof.specs.Selection.Throws.{nheap}
use Rattle.cjc_narrow_proof.specs.Selection.Results.{Resumes, resumes}
use Rattle.cjc_narrow_proof.specs.Selection.Acts.{Keeps, SameHeaps, unfit, changed, ActsAlike}
use Rattle.cjc_narrow_proof.specs.Selection.Replies.{StatesAgree, is_of_some, AsksAlike, may_be_thrown, result_kinds}
use Rattle.cjc_narrow_proof.specs.Selection.Replies.{Replies, goes_on, throws, waits, is_unfit, AnswersLand}
use Rattle.cjc_narrow_proof.specs.Selection.Replies.{RaisesAlike, AnswersAlike}
use Rattle.cjc_narrow_proof.proofs.SelectionLaws.Begins.{type_shown}
use Rattle.cjc_narrow_proof.proofs.SelectionLaws.Keeps.{stacks_kept, locals_kept, slots_kept}
use Rattle.cjc_narrow_proof.proofs.SelectionLaws.Results.{resumed}
use Rattle.cjc_narrow_proof.proofs.SelectionLaws.Throws.{handle_kept, raised}

-- ---- heaps in turn

pub keeps_itself : (heap : Heap) → Keeps heap heap
keeps_itself heap k thing is = record { thing = thing; is = is; type = refl }

keeps_through : (a b c : Heap) → Keeps a b → Keeps b c → Keeps a c
keeps_through a b c first second k thing is =
    let p = first k thing is in let q = second k p.thing p.is in record {
      thing = q.thing;
      is = q.is;
      type = q.type
          ∙ p.type;
    }

-- ---- acts

module _ (by : Linked) (l : Named) (alike : ActsAlike by l) (number : ℕ) (Meets : Move State → NTurn
    → Type 0) (go : State → Move State) (go' : NState → NTurn) where
  -- what follows acts that are done
  abbrev Follows : NState → Type 0
  Follows t = (u : State) (v : NState) → StatesAgree l u v → Keeps (nheap t) (nheap v) → v.notes ≡ t.notes
      → Meets (go u) (go' v)

  abbrev Unfits : Type 0
  Unfits = (u : State) (v : NState) → StatesAgree l u v
      → Meets (Over (report (Unfit number) u)) (Ended (Unfit number) v)

  one_act : (s : State) (t : NState) → StatesAgree l s t → Unfits → (rest : State → Move State) (rest' : NState → NTurn)
      → ((u : State) (v : NState) → StatesAgree l u v → Keeps (nheap t) (nheap v) → v.notes ≡ t.notes
      → Meets (rest u) (rest' v))
      → (o : Option (List Thing)) (o' : Option Heap) → SameHeaps l (nheap t) o o'
      → Meets (after_act by o number s rest) (narrow.prepared_by (by_label l) o' number t rest')
  one_act s t agree unfits rest rest' more _ _ unfit = unfits s t agree
  one_act s t agree unfits rest rest' more _ _ (changed {after = after} keeps fits) =
      let stores = agree.stores in
      more (with_heap (map (shown l) after) s) (narrow.with_heap (by_label l) after t)
      (record {
        stores = record {
          heap = refl;
          statics = stores.statics;
          heap_fits = fits;
          statics_fit = slots_kept keeps l stores.statics_fit;
          cells = stores.cells;
        };
        entries = agree.entries;
        answers = agree.answers;
        notes = agree.notes;
      }) keeps refl

  pub acts_both : (acts : List Act) (s : State) (t : NState) → StatesAgree l s t → Unfits → Follows t
      → Meets (after_acts by acts number s go) (narrow.turn_after_acts (by_label l) acts number t go')
  acts_both [] s t agree unfits follows = follows s t agree (keeps_itself (nheap t)) refl
  acts_both (a ∷ acts) s t agree unfits follows =
      let stores = agree.stores in
      subst (λ heap. Meets (after_act by (heap_after_act by a heap) number s (λ u. after_acts by acts number u go))
      (narrow.turn_after_acts (by_label l) (a ∷ acts) number t go')) (sym stores.heap)
      (one_act s t agree unfits (λ u. after_acts by acts number u go) (λ v. narrow.turn_after_acts (by_label l) acts
      number v go')
      (λ u v states keeps noted. acts_both acts u v states unfits (λ u' v' states' keeps' noted'. follows u' v' states'
      (keeps_through (nheap t) (nheap v) (nheap v') keeps keeps') (noted' ∙ noted)))
      (heap_after_act by a (map (shown l) (nheap t))) (narrow.heap_after (by_label l) a (nheap t))
      (alike a (nheap t) stores.heap_fits))

-- ---- what fits a result

module _ (by : Linked) (l : Named) (heap : Heap) (things : List Thing) (same : things ≡ map (shown l) heap) where
  thing_told : (kind : Shape (List ℕ)) → AsksAlike by l kind → (o : Option (HeapObject (List ℕ) MemberId))
      → is_of by (option_as (shown l) o) (shape_name kind) ≡ narrow.thing_fits (by_label l) o (shape_of (by_label l)
      kind)
  unfolding by_label
  thing_told kind asks None = refl
  thing_told kind asks (Some thing) = ap (λ type. by.subtype None type (shape_name kind)) (type_shown l thing)
      ∙ asks.tells (shape thing) ∙ fits_some (shape_of (by_label l) kind)
    where
      fits_some : (o : Option (Shape (List ℕ))) → is_of_some l (shape thing) o ≡ narrow.thing_fits (by_label l)
          (Some thing) o
      fits_some None = refl
      fits_some (Some other) = refl

  object_told : (kind : Shape (List ℕ)) → AsksAlike by l kind → (k : ℕ) → object_fits by things k kind
      ≡ narrow.object_fits (by_label l) heap k kind
  object_told kind asks k = ap (λ o. is_of by o (shape_name kind)) (ap (λ h. slice_get h k) same
      ∙ get_map (shown l) heap k) ∙ thing_told kind asks (slice_get heap k)

  pub value_told : (sort : Sort) (v : Value) → ((kind : Shape (List ℕ)) → sort ≡ Reference kind → AsksAlike by l kind)
      → fits (object_fits by things) sort v ≡ fits (narrow.object_fits (by_label l) heap) sort v
  value_told (Reference kind) (Obj k) asks = object_told kind (asks kind refl) k
  value_told (Reference kind) Null asks = refl
  value_told (Reference kind) (Num z) asks = refl
  value_told Boolean (Num z) asks = refl
  value_told Boolean Null asks = refl
  value_told Boolean (Obj k) asks = refl
  value_told Byte (Num z) asks = refl
  value_told Byte Null asks = refl
  value_told Byte (Obj k) asks = refl
  value_told Short (Num z) asks = refl
  value_told Short Null asks = refl
  value_told Short (Obj k) asks = refl
  value_told Int (Num z) asks = refl
  value_told Int Null asks = refl
  value_told Int (Obj k) asks = refl
  value_told NoValue (Num z) asks = refl
  value_told NoValue Null asks = refl
  value_told NoValue (Obj k) asks = refl

  result_told : (result : Option Sort) (v : Option Value) → ((kind : Shape (List ℕ)) → result ≡ Some (Reference kind)
      → AsksAlike by l kind) → result_fits (object_fits by things) result v
      ≡ result_fits (narrow.object_fits (by_label l) heap) result v
  result_told None None asks = refl
  result_told None (Some v) asks = refl
  result_told (Some type) None asks = refl
  result_told (Some type) (Some v) asks = value_told type v (λ kind e. asks kind (ap Some e))

-- ---- a result that fits agrees

pub held_if : (low high z : ℤ) → lies_in low high z ≡ true → Holds (span low high) z
held_if low high z e = let p = and_true (int_le low z) (int_le z high) e in record {
  above = above_if low z p.0;
  below = above_if z high p.1;
}

word_agrees : (heap : Heap) (low high z : ℤ) → negsuc 32767 ≤ℤ low → high ≤ℤ pos 32767 → lies_in low high z ≡ true
    → Results heap (Range (span low high) ∷ []) (Some (Num z)) (Num z ∷ [])
word_agrees heap low high z a b e =
    let h = held_if low high z e in let c = h.above in let d = h.below in
    result_of (number (sym (low_word_same z (omega (arith, ints, a, c)) (omega (arith, ints, b, d)))) h)

module _ (by : Linked) (l : Named) (heap : Heap) where
  -- a reference to an array or object of the type
  pub object_agrees : (kind : Shape (List ℕ)) → AsksAlike by l kind → (k : ℕ)
      → narrow.object_fits (by_label l) heap k kind ≡ true → Agrees heap (kind_of l (Reference kind)) (Obj k) (Obj k)
  unfolding by_label
  object_agrees kind asks k e = by_thing (slice_get heap k) refl (shape_of (by_label l) kind) refl e
    where
      by_thing : (o : Option (HeapObject (List ℕ) MemberId)) → slice_get heap k ≡ o → (p : Option (Shape (List ℕ)))
          → shape_of (by_label l) kind ≡ p → narrow.thing_fits (by_label l) o p ≡ true
          → Agrees heap (kind_of l (Reference kind)) (Obj k) (Obj k)
      by_thing None is p named fit = cc
      by_thing (Some thing) is None named fit = cc
      by_thing (Some thing) is (Some other) named fit =
          object thing is (ap (l.is_of (shape thing)) (sym (asks.same other named)) ∙ fit)

  pub result_agrees : (result : Option Sort) (v : Option Value) → ((sort : Sort) → result ≡ Some sort
      → is_word_sort sort ≡ true) → ((kind : Shape (List ℕ)) → result ≡ Some (Reference kind) → AsksAlike by l kind)
      → result_fits (narrow.object_fits (by_label l) heap) result v ≡ true
      → Results heap (result_kinds l result) v (result_words result v)
  result_agrees None None word asks e = no_result
  result_agrees None (Some v) word asks e = cc
  result_agrees (Some type) None word asks e = cc
  result_agrees (Some Boolean) (Some (Num z)) word asks e = word_agrees heap (pos 0) (pos 1) z (omega (arith, ints))
      (omega (arith, ints)) e
  result_agrees (Some Boolean) (Some Null) word asks e = cc
  result_agrees (Some Boolean) (Some (Obj k)) word asks e = cc
  result_agrees (Some Byte) (Some (Num z)) word asks e = word_agrees heap (negsuc 127) (pos 127) z (omega (arith, ints))
      (omega (arith, ints)) e
  result_agrees (Some Byte) (Some Null) word asks e = cc
  result_agrees (Some Byte) (Some (Obj k)) word asks e = cc
  result_agrees (Some Short) (Some (Num z)) word asks e = word_agrees heap (negsuc 32767) (pos 32767) z (omega (
    arith,
    ints,
  )) (omega (arith, ints)) e
  result_agrees (Some Short) (Some Null) word asks e = cc
  result_agrees (Some Short) (Some (Obj k)) word asks e = cc
  result_agrees (Some Int) (Some v) word asks e = let f = word Int refl in cc
  result_agrees (Some NoValue) (Some v) word asks e = let f = word NoValue refl in cc
  result_agrees (Some (Reference kind)) (Some (Num z)) word asks e = cc
  result_agrees (Some (Reference kind)) (Some Null) word asks e = result_of null
  result_agrees (Some (Reference kind)) (Some (Obj k)) word asks e = result_of (object_agrees kind (asks kind refl) k e)

-- ---- replies

module _ (by : Linked) (l : Named) (Lands : (class : List ℕ) → State → NState → Move State → NTurn
    → Type 0) (result : Option Sort) (word : (sort : Sort) → result ≡ Some sort → is_word_sort sort ≡ true)
    (asks : (kind : Shape (List ℕ)) → result ≡ Some (Reference kind) → AsksAlike by l kind)
    (heap : Heap) (ks ls : List Kind) (f : Frame) (outer : List Frame) (g : NFrame) (others : List NFrame)
    (roomy : HasRoom (result_kinds l result ++ ks) (room f) (let m = g.code in m.max_stack)) (alike : AnswersLand by
    l Lands heap f outer g others) where
  abbrev Meets : Move State → NTurn → Type 0
  Meets = Replies by l Lands heap (result_kinds l result) ks ls f outer g others

  on_from : {s : State} {t : NState} {m : Move State} {n : NTurn} → StatesAgree l s t → Keeps heap (nheap t)
      → Locals (nheap t) ls f.locals g.locals → Resumes l (result_kinds l result ++ ks) s t f outer g others m n
      → Meets m n
  on_from agree keeps held (resumes stack) = goes_on agree keeps stack held

  give_both : (v : Option Value) (ordinal : ℕ) (s : State) (t : NState) → StatesAgree l s t → Keeps heap (nheap t)
      → Locals (nheap t) ls f.locals g.locals → Stacks (nheap t) ks f.stack g.stack
      → Meets (after_reply by (Give v) ordinal result f outer s) (narrow.turn_after_reply (by_label l) (Give v) ordinal
      result g others t)
  give_both v ordinal s t agree keeps held rest =
      let stores = agree.stores in
      subst (λ b. Meets (if b then after_result (offset f) v f outer s else Over (report (Unfit ordinal) s))
      (narrow.turn_after_reply (by_label l) (Give v) ordinal result g others t))
      (sym (result_told by l (nheap t) (heap_of s) stores.heap result v asks))
      (by_answer (result_fits (narrow.object_fits (by_label l) (nheap t)) result v) refl)
    where
      by_answer : (b : Bool) → result_fits (narrow.object_fits (by_label l) (nheap t)) result v ≡ b
          → Meets (if b then after_result (offset f) v f outer s else Over (report (Unfit ordinal) s)) (if b
          then narrow.returned (by_label l) g.at (result_words result v) g others t else Ended (Unfit ordinal) t)
      by_answer true e = on_from agree keeps held (resumed by l ks f outer s g others t rest (result_kinds l result) v
          (result_words result v) (offset f) g.at (result_agrees by l (nheap t) result v word asks e) roomy)
      by_answer false e = is_unfit ordinal agree

  throw_both : (class : List ℕ) (ordinal : ℕ) (s : State) (t : NState) → StatesAgree l s t → Keeps heap (nheap t)
      → Meets (after_reply by (Throw class) ordinal result f outer s) (narrow.turn_after_reply (by_label l)
      (Throw class) ordinal result g others t)
  unfolding by_label
  throw_both class ordinal s t agree keeps =
      let thrown = alike.throws class in
      subst (λ o. Meets (after_reply by (Throw class) ordinal result f outer s) (narrow.turn_after_raise (by_label l) o
      g others t (Ended (Unfit ordinal) t))) (sym thrown.tells)
      (by_answer (may_be_thrown by class) refl)
    where
      by_answer : (b : Bool) → may_be_thrown by class ≡ b → Meets (if b then after_raise by class f outer s
          else Over (report (Unfit ordinal) s)) (narrow.turn_after_raise (by_label l) (if b then Some class
          else None) g others t (Ended (Unfit ordinal) t))
      by_answer true e = throws class (alike.lands class e s t agree keeps (Ended (Unfit ordinal) t))
      by_answer false e = is_unfit ordinal agree

  reply_both : (reply : Reply) (ordinal : ℕ) (s : State) (t : NState) → StatesAgree l s t → Keeps heap (nheap t)
      → Locals (nheap t) ls f.locals g.locals → Stacks (nheap t) ks f.stack g.stack
      → Meets (after_reply by reply ordinal result f outer s) (narrow.turn_after_reply (by_label l) reply ordinal result
      g others t)
  reply_both (Give v) ordinal s t agree keeps held rest = give_both v ordinal s t agree keeps held rest
  reply_both (Throw class) ordinal s t agree keeps held rest = throw_both class ordinal s t agree keeps

  pub answer_both : (answers : List Answer) (s : State) (t : NState) → StatesAgree l s t → Keeps heap (nheap t)
      → Locals (nheap t) ls f.locals g.locals → Stacks (nheap t) ks f.stack g.stack
      → Meets (after_answer by answers result f outer s) (narrow.turn_after_answer (by_label l) answers result g others
      t)
  answer_both [] s t agree keeps held rest = waits agree
  answer_both (a ∷ answers) s t agree keeps held rest =
      acts_both by l alike.acts a.number Meets (λ u. after_reply by a.reply a.number result f outer u)
      (λ v. narrow.turn_after_reply (by_label l) a.reply a.number result g others v) a.acts
      (record s { answers = answers }) (record t { answers = answers })
      (record { stores = agree.stores; entries = agree.entries; answers = refl; notes = agree.notes })
      (λ u v states. is_unfit a.number states)
      (λ u v states more noted. reply_both a.reply a.number u v states (keeps_through heap (nheap t) (nheap v) keeps
      more) (locals_kept more held) (stacks_kept more rest))

-- ---- frames that handle alike

pub land_in_frames : {by : Linked} {l : Named} {t : NState} {f : Frame} {outer : List Frame} {g : NFrame}
    {others : List NFrame} → AnswersAlike by l t f outer g others → AnswersLand by l (RaisesAlike by l f outer g others)
    (nheap t) f outer g others
land_in_frames {by = by} {l = l} {t = t} {f = f} {outer = outer} {g = g} {others = others} alike = record {
  acts = alike.acts;
  throws = alike.throws;
  lands = λ class may s u agree keeps otherwise. (let thrown = alike.throws class in record {
    agree = agree;
    raises = λ within passes. raised by l within f outer s g others u agree.stores class (thrown.imported may) passes
        (handle_kept keeps (alike.handle class may)) otherwise;
  });
}
