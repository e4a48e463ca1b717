-- A call of an imported method is noted and answered alike.
use Rattle.std.proofs.Common.{◌≡◌, ℕ, suc, refl, sym, ap, subst, ◌∙◌, arith, Bool, true, false, List, [], ◌∷◌, ◌++◌, length, take, drop, reverse, ℤ}
use Rattle.std.specs.Prelude.{Option, Some, None, nat_le, slice_get, ◌&&◌, if◌then◌else◌, codes}
use Rattle.std.specs.Str.{bytes_eq}
use Rattle.std.proofs.lemmas.Bool.Decides.{nat_tests}
use Rattle.std.proofs.lemmas.Slice.Eq.{bytes_eq-Decides}
use Rattle.cjc_bytes.specs.declared.fault.MemberId.{MemberId}
use Rattle.cjc_bytes.specs.Spots.{desc_of, parts_of, bad_at, after, types_from}
use Rattle.cjc_script.specs.declared.value.Value.{Value}
use Rattle.cjc_script.specs.declared.value.Value.TheVariants.{Num, Null, Obj}
use Rattle.cjc_script.specs.declared.report.Note.TheVariants.{Event}
use Rattle.cjc_script.specs.Sorts.{Shape, Sort, Boolean, Byte, Short, Int, Reference, NoValue, Signature, signature_of}
use Rattle.cjc_bytecode.specs.Runs.{Move}
use Rattle.cjc_bytecode.specs.Arguments.{first_and, values_of, event_values}
use Rattle.cjc_bytecode.specs.Effects.{Invoke, HeapObject, shape}
use Rattle.cjc_bytecode.specs.Machine.{Abroad, StuckAt}
use Rattle.cjc_bytecode.specs.Machine as narrow
use Rattle.cjc_ncode.specs.ByLabel.{Callee, Named, on_object, by_label}
use Rattle.cjc_by_name.specs.Linked.{OnClass, OnObject, Linked}
use Rattle.cjc_by_name.specs.Linked
use Rattle.cjc_by_name.specs.Effects as effects
use Rattle.cjc_by_name.specs.Machine.{Frame, State, heap_of, with_note, holder_of, room, offset, stuck_at, is_at_once, at_callee, at_selected, on_receiver, with_types, after_lookup, after_effect, after_result, after_answer}
use Rattle.cjc_shrink.specs.Relation.{Kind, Refers, Heap, Agrees, number, null, object, Stacks, bottom, cell, Locals}
use Rattle.cjc_shrink.specs.Rows.{HasRoom}
use Rattle.cjc_shrink.specs.Jumps.{no_result}
use Rattle.cjc_shrink.specs.Calls.{NFrame, NState, NTurn, Frames, is_number_sort, Passes, no_parameter, a_number, a_reference}
use Rattle.cjc_shrink.specs.Throws.{nheap}
use Rattle.cjc_shrink.specs.Results.{Resumes, resumes, AreShort}
use Rattle.cjc_shrink.specs.Replies.{StatesAgree, result_kinds, IsImport, IsStaticImport, SelectsImport, IsObjectImport, Replies, goes_on, AnswersAlike, ImportAgrees, is_null, is_answered}
use Rattle.cjc_shrink.proofs.Begins.{type_shown, thing_shown, to_receiver}
use Rattle.cjc_shrink.proofs.Passed.{passed_plain, passed_length, args_agree, below_agree, enough_words, of_sorts, receiver_first, receiver_off}
use Rattle.cjc_shrink.proofs.Replies.{answer_both}
use Rattle.cjc_shrink.proofs.Results.{same_cells, resumed}

-- ---- the values of an event

number_value : (type : Sort) (x : ℤ) (types : List Sort) (vs : List Value) → is_number_sort type ≡ true → values_of (type ∷ types) (Num x ∷ vs) ≡ first_and (Num x) (values_of types vs)
number_value Boolean x types vs e = refl
number_value Byte x types vs e = refl
number_value Short x types vs e = refl
number_value Int x types vs e = cc
number_value (Reference kind) x types vs e = cc
number_value NoValue x types vs e = cc

values_same : {heap : Heap} {types : List Sort} {ks : List Kind} {vs ws : List Value} → Passes types ks → Stacks heap ks vs ws → values_of types vs ≡ Some vs
values_same no_parameter bottom = refl
values_same (a_number {type = type} {types = types} e p) (cell {vs = vs} (number {x = x} is h) rest) = number_value type x types vs e ∙ ap (first_and (Num x)) (values_same p rest)
values_same (a_reference p) (cell null rest) = ap (first_and Null) (values_same p rest)
values_same (a_reference p) (cell (object {k = k} thing is e) rest) = ap (first_and (Obj k)) (values_same p rest)

words_as_values : {heap : Heap} {types : List Sort} {ks : List Kind} {vs ws : List Value} → Passes types ks → AreShort ks → Stacks heap ks vs ws → values_of types ws ≡ Some vs
words_as_values {types = types} passes short stack = ap (values_of types) (same_cells short stack) ∙ values_same passes stack

-- ---- java/lang/Object.<init>()V

last_so : (a b c : Bool) → (a && (b && c)) ≡ true → c ≡ true
last_so true true c e = e
last_so true false c e = cc
last_so false b c e = cc

nothing_given : signature_of (codes "()V") ≡ Some (record { params = []; result = None })
unfolding desc_of parts_of bad_at after types_from
nothing_given = refl

no_result_at_once : (event : MemberId) (types : Signature) → signature_of event.desc ≡ Some types → is_at_once event ≡ true → types.result ≡ None
no_result_at_once event types has e =
    let desc : event.desc ≡ codes "()V" = (bytes_eq-Decides event.desc (codes "()V")).0 (last_so (bytes_eq event.class (codes "java/lang/Object")) (bytes_eq event.name (codes "<init>")) (bytes_eq event.desc (codes "()V")) e) in
    let is : Some types ≡ Some (record { params = []; result = None }) = sym has ∙ ap signature_of desc ∙ nothing_given in
    let same : types ≡ record { params = []; result = None } = cc in
    ap (λ t. t.result) same

-- ---- frames that wait behind the call

module _ (by : Linked) (l : Named) (ks ls : List Kind) (f : Frame) (outer : List Frame) (g : NFrame) (others : List NFrame) (id event : MemberId) (types : Signature) (params : List Kind) (is : IsImport by l id event types params) (s : State) (t : NState) (agree : StatesAgree l s t) (held : Locals (nheap t) ls f.locals g.locals) (rest : Stacks (nheap t) ks f.stack g.stack)
    (roomy : HasRoom (result_kinds l types.result ++ ks) (room f) (let m = g.code in m.max_stack)) (alike : AnswersAlike by l t f outer g others) where
  abbrev Meets : Move State → NTurn → Type 0
  Meets = Replies by l (result_kinds l types.result) ks ls f outer g others

  on_from : {m : Move State} {n : NTurn} → Resumes l ks s t f outer g others m n → Replies by l [] ks ls f outer g others m n
  on_from (resumes stack) = goes_on agree stack held

  -- it returns at once
  returned_both : is_at_once event ≡ true → Meets (after_result (offset f) None f outer s) (narrow.returned (by_label l) g.at [] g others t)
  returned_both e =
      let none = no_result_at_once event types (ap signature_of is.desc ∙ is.has_types) e in
      subst (λ r. Replies by l (result_kinds l r) ks ls f outer g others (after_result (offset f) None f outer s) (narrow.returned (by_label l) g.at [] g others t)) (sym none)
      (on_from (resumed by l ks f outer s g others t rest [] None [] (offset f) g.at no_result (subst (λ r. HasRoom (result_kinds l r ++ ks) (room f) (let m = g.code in m.max_stack)) none roomy)))

  pub abroad_both : (on : Bool) (args words : List Value) → event_values on types.params words ≡ Some args → Meets (at_callee by (Some (Linked.Abroad event)) types.result args f outer s) (narrow.reaches (by_label l) (Abroad event) on words g others t)
  abroad_both on args words values = by_case (is_at_once event) refl
    where
      by_case : (b : Bool) → is_at_once event ≡ b → Meets (if b then after_result (offset f) None f outer s else after_answer by s.answers types.result f outer (with_note (Event event args) s)) (if b then narrow.returned (by_label l) g.at [] g others t else narrow.typed (by_label l) on event (signature_of event.desc) words g others t)
      by_case true e = returned_both e
      by_case false e =
          let named_side = after_answer by s.answers types.result f outer (with_note (Event event args) s) in
          subst (λ o. Meets named_side (narrow.typed (by_label l) on event o words g others t)) (sym (ap signature_of is.desc ∙ is.has_types))
          (subst (λ o. Meets named_side (narrow.noted (by_label l) event types.result o g others t)) (sym values)
          (subst (λ answers. Meets (after_answer by answers types.result f outer (with_note (Event event args) s)) (narrow.noted (by_label l) event types.result (Some args) g others t)) (sym agree.answers)
          (answer_both by l types.result is.one_word is.asks ks ls f outer g others roomy t.answers (with_note (Event event args) s) (record t { notes = t.notes ++ Event event args ∷ [] })
          (record { stores = agree.stores; entries = agree.entries; answers = agree.answers; notes = ap (λ ns. ns ++ Event event args ∷ []) agree.notes }) held rest
          (record { acts = alike.acts; throws = alike.throws; handle = alike.handle }))))

-- ---- a static call

pub static_import : (by : Linked) (l : Named) (op : ℕ) (id event : MemberId) (named : Callee) (types : Signature) (params ks ls : List Kind) (next : ℕ) (f : Frame) (outer : List Frame) (s : State) (g : NFrame) (others : List NFrame) (t : NState) → IsStaticImport by l (holder_of f) op id event named types params → StatesAgree l s t → Frames (nheap t) (reverse params ++ ks) ls f g → HasRoom (result_kinds l types.result ++ ks) (room f) (let m = g.code in m.max_stack)
    → ((vs ws : List Value) → AnswersAlike by l t (record f { stack = vs }) outer (record g { next = next; stack = ws }) others)
    → ImportAgrees by l (result_kinds l types.result) ks ls next f outer s g others t (after_effect by (effects.Invoke op id) f outer s) (narrow.made (by_label l) (Invoke named) next g others t)
unfolding by_label
static_import by l op id event named types params ks ls next f outer s g others t call states agree roomy alike =
    let import_is = call.is in
    let Meets = ImportAgrees by l (result_kinds l types.result) ks ls next f outer s g others t in
    let n = length types.params in
    let count = passed_length import_is.passes in
    let plain = passed_plain import_is.passes in
    let args = reverse (take n f.stack) in
    let words = reverse (take n g.stack) in
    let passed = args_agree ks n plain count agree.stack in
    let low = below_agree ks n plain count agree.stack in
    let many = enough_words ks n plain count agree.stack in
    let enough : nat_le n (length g.stack) ≡ true = grind (arith, nat_tests) in
    let narrow_side = narrow.made (by_label l) (Invoke named) next g others t in
    let waits = record f { stack = drop n f.stack } in
    let waiting = record g { next = next; stack = drop n g.stack } in
    let named_side = at_callee by (Some (Linked.Abroad event)) types.result args waits outer s in
    subst (λ o. Meets (after_lookup by o id f outer s) narrow_side) (sym call.by_name)
    (subst (λ o. Meets (with_types by (OnClass (Linked.Abroad event)) o f outer s) narrow_side) (sym import_is.has_types)
    (subst (λ b. Meets (if b then named_side else stuck_at (offset f) s) narrow_side) (sym (of_sorts import_is.passes passed))
    (subst (λ o. Meets named_side (narrow.counted (by_label l) o named (record g { next = next }) others t)) (sym (call.narrow_words ∙ ap Some (sym count)))
    (subst (λ b. Meets named_side (if b then narrow.with_args (by_label l) (on_object named) named words waiting others t else StuckAt g.at t)) (sym enough)
    (subst (λ b. Meets named_side (narrow.with_args (by_label l) b named words waiting others t)) (sym call.narrow_class)
    (subst (λ x. Meets named_side (narrow.reaches (by_label l) x false words waiting others t)) (sym call.narrow_reached)
    (is_answered (drop n f.stack) (drop n g.stack)
    (abroad_both by l ks ls waits outer waiting others id event types params import_is s t states agree.locals low roomy (alike (drop n f.stack) (drop n g.stack)) false args words (words_as_values import_is.passes import_is.short passed)))))))))

-- ---- a call on a receiver

module _ (by : Linked) (l : Named) (id : MemberId) (named : Callee) (within : Shape (List ℕ) → Bool) (types : Signature) (params ks ls : List Kind) (next : ℕ) (f : Frame) (outer : List Frame) (s : State) (g : NFrame) (others : List NFrame) (t : NState) (selected : List ℕ → Option Linked.Callee)
    (selects : (kind : Shape (List ℕ)) → within kind ≡ true → SelectsImport by l selected id named types params kind) (agree : StatesAgree l s t) (held : Locals (nheap t) ls f.locals g.locals) (roomy : HasRoom (result_kinds l types.result ++ ks) (room f) (let m = g.code in m.max_stack))
    (alike : (vs ws : List Value) → AnswersAlike by l t (record f { stack = vs }) outer (record g { next = next; stack = ws }) others) where
  abbrev Answers : Move State → NTurn → Type 0
  Answers = ImportAgrees by l (result_kinds l types.result) ks ls next f outer s g others t

  -- by the type of the receiver
  select_both : {args words vs ws : List Value} (k : ℕ) (thing : HeapObject (List ℕ) MemberId) → slice_get (nheap t) k ≡ Some thing → within (shape thing) ≡ true → Stacks (nheap t) params args words → Stacks (nheap t) ks vs ws
      → Answers (at_selected by selected (slice_get (heap_of s) k) types.result (Obj k ∷ args) (record f { stack = vs }) outer s) (narrow.reaches_on (by_label l) named (slice_get (nheap t) k) (Obj k ∷ words) (record g { next = next; stack = ws }) others t)
  unfolding by_label
  select_both {args = args} {words = words} {vs = vs} {ws = ws} k thing there passes passed low =
      let h = selects (shape thing) passes in
      let import_is = h.is in
      let stores = agree.stores in
      let waits = record f { stack = vs } in
      let waiting = record g { next = next; stack = ws } in
      let narrow_side = narrow.reaches_on (by_label l) named (slice_get (nheap t) k) (Obj k ∷ words) waiting others t in
      subst (λ o. Answers (at_selected by selected o types.result (Obj k ∷ args) waits outer s) narrow_side) (sym (thing_shown l (nheap t) k thing stores.heap there))
      (subst (λ o. Answers (at_callee by o types.result (Obj k ∷ args) waits outer s) narrow_side) (sym (ap selected (type_shown l thing) ∙ h.by_name))
      (subst (λ o. Answers (at_callee by (Some (Linked.Abroad h.event)) types.result (Obj k ∷ args) waits outer s) (narrow.reaches_on (by_label l) named o (Obj k ∷ words) waiting others t)) (sym there)
      (subst (λ x. Answers (at_callee by (Some (Linked.Abroad h.event)) types.result (Obj k ∷ args) waits outer s) (narrow.reaches (by_label l) x true (Obj k ∷ words) waiting others t)) (sym h.narrow)
      (is_answered vs ws
      (abroad_both by l ks ls waits outer waiting others id h.event types params import_is s t agree held low roomy (alike vs ws) true (Obj k ∷ args) (Obj k ∷ words) (ap (first_and (Obj k)) (words_as_values import_is.passes import_is.short passed)))))))

  -- with the receiver below the arguments; null raises
  pub receive_both : (n : ℕ) (vs ws vs' ws' : List Value) → drop n vs ≡ vs' → drop n ws ≡ ws' → Stacks (nheap t) params (reverse (take n vs)) (reverse (take n ws)) → Stacks (nheap t) (Refers within ∷ ks) vs' ws'
      → Answers (on_receiver by selected vs' types.result (reverse (take n vs)) (record f { stack = vs' }) outer s) (narrow.on_receiver (by_label l) named (reverse (take (suc n) ws)) (record g { next = next; stack = drop (suc n) ws }) others t)
  receive_both n vs ws _ _ off off' passed (cell {v = v} {w = w} {vs = below} {ws = below'} receiver low) =
      subst (λ words. Answers (on_receiver by selected (v ∷ below) types.result (reverse (take n vs)) (record f { stack = v ∷ below }) outer s) (narrow.on_receiver (by_label l) named words (record g { next = next; stack = drop (suc n) ws }) others t)) (sym (receiver_first n ws off'))
      (subst (λ rest. Answers (on_receiver by selected (v ∷ below) types.result (reverse (take n vs)) (record f { stack = v ∷ below }) outer s) (narrow.on_receiver (by_label l) named (w ∷ reverse (take n ws)) (record g { next = next; stack = rest }) others t)) (sym (receiver_off n ws off'))
      (by_value v w receiver))
    where
      by_value : (v w : Value) → Agrees (nheap t) (Refers within) v w → Answers (on_receiver by selected (v ∷ below) types.result (reverse (take n vs)) (record f { stack = v ∷ below }) outer s) (narrow.on_receiver (by_label l) named (w ∷ reverse (take n ws)) (record g { next = next; stack = below' }) others t)
      by_value _ _ null = is_null (Null ∷ below) below'
      by_value _ _ (object {k = k} thing there passes) = select_both k thing there passes passed low

pub object_import : (by : Linked) (l : Named) (op : ℕ) (id : MemberId) (named : Callee) (within : Shape (List ℕ) → Bool) (types : Signature) (params ks ls : List Kind) (next : ℕ) (f : Frame) (outer : List Frame) (s : State) (g : NFrame) (others : List NFrame) (t : NState) → IsObjectImport by l (holder_of f) op id named within types params → StatesAgree l s t → Frames (nheap t) (reverse (Refers within ∷ params) ++ ks) ls f g → HasRoom (result_kinds l types.result ++ ks) (room f) (let m = g.code in m.max_stack)
    → ((vs ws : List Value) → AnswersAlike by l t (record f { stack = vs }) outer (record g { next = next; stack = ws }) others)
    → ImportAgrees by l (result_kinds l types.result) ks ls next f outer s g others t (after_effect by (effects.Invoke op id) f outer s) (narrow.made (by_label l) (Invoke named) next g others t)
object_import by l op id named within types params ks ls next f outer s g others t call states agree roomy alike =
    to_receiver by l op id named within types params ks next f outer s g others t (ImportAgrees by l (result_kinds l types.result) ks ls next f outer s g others t) call.selected call.by_name call.has_types call.passes call.narrow_object call.narrow_words agree.stack (λ plain passed rest.
    receive_both by l id named within types params ks ls next f outer s g others t call.selected call.selects states agree.locals roomy alike (length types.params) f.stack g.stack (drop (length types.params) f.stack) (drop (length types.params) g.stack) refl refl passed rest)
