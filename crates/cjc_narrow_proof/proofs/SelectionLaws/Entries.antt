-- Entries of scripts begin alike.
use Rattle.std.proofs.Common.{◌≡◌, ℕ, suc, ◌+◌, refl, sym, ap, subst, ◌∙◌, arith, Bool, true, false, List, [], ◌∷◌}
use Rattle.std.proofs.Common.{length, drop, ℤ, pos, negsuc}
use Rattle.std.specs.Prelude.{Option, Some, None, option_map, map, slice_get, ◌&&◌, ◌≤ℤ◌, if◌then◌else◌}
use Rattle.std.proofs.lemmas.Int.{ints}
use Rattle.cjc_bytes.specs.declared.fault.MemberId.{MemberId}
use Rattle.cjc_bytes.proofs.Bools.{and_true}
use Rattle.cjc_range.proofs.WordsLaws.Words.{low_word_same}
use Rattle.cjc_range.specs.Span.{span}
use Rattle.cjc_script.specs.declared.value.Value.{Value}
use Rattle.cjc_script.specs.declared.value.Value.TheVariants.{Num, Null, Obj}
use Rattle.cjc_script.specs.declared.script.Entry.{Entry}
use Rattle.cjc_script.specs.declared.report.Note.{Note}
use Rattle.cjc_script.specs.declared.report.Thing.{Thing}
use Rattle.cjc_script.specs.Sorts.{Shape, Sort, Boolean, Byte, Short, Int, Reference, NoValue, Signature, shape_name}
use Rattle.cjc_script.specs.Sorts.{signature_of, fits, all_fit, lies_in}
use Rattle.cjc_card_semantics.specs.Bytecode.Runs.{Move}
use Rattle.cjc_card_semantics.specs.Bytecode.Arguments.{value_words, both_words, words_of, first_and}
use Rattle.cjc_card_semantics.specs.Bytecode.Effects.{HeapObject, shape}
use Rattle.cjc_card_semantics.specs.Bytecode.Machine.{Start}
use Rattle.cjc_card_semantics.specs.Bytecode.Machine as narrow
use Rattle.cjc_card_semantics.specs.Bytecode.Renaming.{option_as}
use Rattle.cjc_card_semantics.proofs.BytecodeLaws.Natural.{get_map}
use Rattle.cjc_ncode.specs.declared.narrow.NMethod.{NMethod}
use Rattle.cjc_ncode.specs.ByLabel.{Named, by_label}
use Rattle.cjc_jvm_semantics.specs.Linked.{Method, Linked}
use Rattle.cjc_jvm_semantics.specs.Machine.{State, heap_of, frame_for_call, object_fits, entry_method, args_fit}
use Rattle.cjc_jvm_semantics.specs.Machine.{entry_begins, sent_to, sent_on}
use Rattle.cjc_jvm_semantics.specs.Machine as named
use Rattle.cjc_jvm_semantics.specs.Effects.{type_of}
use Rattle.cjc_narrow_proof.specs.Selection.Relation.{OnBoth, no_cell, a_range, a_reference as both_reference, Kind}
use Rattle.cjc_narrow_proof.specs.Selection.Relation.{Range, Refers, Heap, Agrees, number, null, object, Stacks, bottom}
use Rattle.cjc_narrow_proof.specs.Selection.Relation.{cell, shown, IsMadeOf}
use Rattle.cjc_narrow_proof.specs.Selection.Rows.{kind_of, is_word_sort}
use Rattle.cjc_narrow_proof.specs.Selection.Calls.{NState, NTurn, Frames, first_locals, IsNarrowed}
use Rattle.cjc_narrow_proof.specs.Selection.Throws.{nheap}
use Rattle.cjc_narrow_proof.specs.Selection.Acts.{ActsAlike}
use Rattle.cjc_narrow_proof.specs.Selection.Replies.{StatesAgree, AsksAlike}
use Rattle.cjc_narrow_proof.specs.Selection.Entries.{is_called, is_sent, kinds_of, AreGiven, no_parameter, a_parameter}
use Rattle.cjc_narrow_proof.specs.Selection.Entries.{IsEntry, entry_kinds, IsNoEntry, EntryAgrees, begins, unfit}
use Rattle.cjc_narrow_proof.proofs.SelectionLaws.Keeps.{made_there}
use Rattle.cjc_narrow_proof.proofs.SelectionLaws.Begins.{type_shown, frames_begin}
use Rattle.cjc_narrow_proof.proofs.SelectionLaws.Replies.{acts_both, value_told, held_if, object_agrees}

-- ---- arguments

-- one value on both sides, as one word
record IsGiven (l : Named) (heap : Heap) (type : Sort) (v : Value) : Type 0 where
  agree : Agrees heap (kind_of l type) v v
  word : value_words type v ≡ Some (v ∷ [])

number_given : (l : Named) (heap : Heap) (low high z : ℤ) → negsuc 32767 ≤ℤ low → high ≤ℤ pos 32767
    → lies_in low high z ≡ true → Agrees heap (Range (span low high)) (Num z) (Num z)
number_given l heap low high z a b e =
    let h = held_if low high z e in let c = h.above in let d = h.below in
    number (sym (low_word_same z (omega (arith, ints, a, c)) (omega (arith, ints, b, d)))) h

module _ (by : Linked) (l : Named) (heap : Heap) where
  given : (type : Sort) (v : Value) → is_word_sort type ≡ true → ((kind : Shape (List ℕ)) → type ≡ Reference kind
      → AsksAlike by l kind) → fits (narrow.object_fits (by_label l) heap) type v ≡ true → IsGiven l heap type v
  given Boolean (Num z) word asks e = record {
    agree = number_given l heap (pos 0) (pos 1) z (omega (arith, ints))
        (omega (arith, ints)) e;
    word = refl;
  }
  given Boolean Null word asks e = cc
  given Boolean (Obj k) word asks e = cc
  given Byte (Num z) word asks e = record {
    agree = number_given l heap (negsuc 127) (pos 127) z (omega (arith, ints))
        (omega (arith, ints)) e;
    word = refl;
  }
  given Byte Null word asks e = cc
  given Byte (Obj k) word asks e = cc
  given Short (Num z) word asks e = record {
    agree = number_given l heap (negsuc 32767) (pos 32767) z (omega (
      arith,
      ints,
    )) (omega (arith, ints)) e;
    word = refl;
  }
  given Short Null word asks e = cc
  given Short (Obj k) word asks e = cc
  given Int v word asks e = cc
  given NoValue v word asks e = cc
  given (Reference kind) (Num z) word asks e = cc
  given (Reference kind) Null word asks e = record { agree = null; word = refl }
  given (Reference kind) (Obj k) word asks e = record {
    agree = object_agrees by l heap kind (asks kind refl) k e;
    word = refl;
  }

  -- all arguments
  record AreAll (types : List Sort) (args : List Value) : Type 0 where
    agree : Stacks heap (kinds_of l types) args args
    words : words_of types args ≡ Some args

  all_given : (types : List Sort) (args : List Value) → AreGiven by l types
      → all_fit (narrow.object_fits (by_label l) heap) types args ≡ true → AreAll types args
  all_given _ [] no_parameter e = record { agree = bottom; words = refl }
  all_given _ (v ∷ args) no_parameter e = cc
  all_given _ [] (a_parameter word asks more) e = cc
  all_given _ (v ∷ args) (a_parameter {type = type} {types = types} word asks more) e =
      let p = and_true (fits (narrow.object_fits (by_label l) heap) type v)
      (all_fit (narrow.object_fits (by_label l) heap) types args) e in
      let one = given type v word asks p.0 in
      let others = all_given types args more p.1 in
      record {
        agree = cell one.agree others.agree;
        words = ap (λ a. both_words a (words_of types args)) one.word
            ∙ ap (both_words (Some (v ∷ []))) others.words;
      }

  all_told : (things : List Thing) → things ≡ map (shown l) heap → (types : List Sort) (args : List Value)
      → AreGiven by l types → all_fit (object_fits by things) types args
      ≡ all_fit (narrow.object_fits (by_label l) heap) types args
  all_told things same _ [] no_parameter = refl
  all_told things same _ (v ∷ args) no_parameter = refl
  all_told things same _ [] (a_parameter word asks more) = refl
  all_told things same _ (v ∷ args) (a_parameter {type = type} {types = types} word asks more) =
      ap (λ b. b && all_fit (object_fits by things) types args) (value_told by l heap things same type v asks)
      ∙ ap (λ b. fits (narrow.object_fits (by_label l) heap) type v && b) (all_told things same types args more)

word_kind : (l : Named) (type : Sort) → is_word_sort type ≡ true → (ks : List Kind) → OnBoth ks
    → OnBoth (kind_of l type ∷ ks)
word_kind l Boolean e ks p = a_range p
word_kind l Byte e ks p = a_range p
word_kind l Short e ks p = a_range p
word_kind l Int e ks p = cc
word_kind l (Reference kind) e ks p = both_reference p
word_kind l NoValue e ks p = cc

kinds_plain : {by : Linked} {l : Named} {types : List Sort} → AreGiven by l types → OnBoth (kinds_of l types)
kinds_plain no_parameter = no_cell
kinds_plain {l = l} (a_parameter {type = type} {types = types} word asks more) =
    word_kind l type word (kinds_of l types) (kinds_plain more)

kinds_long : (l : Named) (types : List Sort) → length (kinds_of l types) ≡ length types
kinds_long l [] = refl
kinds_long l (type ∷ types) = ap suc (kinds_long l types)

-- ---- an entry

module _ (by : Linked) (l : Named) (narrowed : Method → Start NMethod) (types : Signature) (within : Method
    → Shape (List ℕ) → Bool) (e : Entry) (entries : List Entry) (is : IsEntry by l narrowed e.method types within)
    (s : State) (t : NState) (agree : StatesAgree l s t) (notes : List Note) (noted : t.notes ≡ notes) where
  abbrev Meets : Bool → Move State → NTurn → Type 0
  Meets on = EntryAgrees by l narrowed on (entry_kinds on l within types) e entries notes

  -- the state where the script goes on behind the entry
  behind : StatesAgree l (record s { entries = entries }) (record t { entries = entries })
  behind = record { stores = agree.stores; entries = refl; answers = agree.answers; notes = agree.notes }

  -- a static method
  called_both : (o : Option Method) → by.entry e.method ≡ o → (b : Bool)
      → all_fit (narrow.object_fits (by_label l) (nheap t)) types.params e.args ≡ b
      → Meets false (entry_begins by o b e entries s) (narrow.entered_by (by_label l) (option_map narrowed o)
      (narrow.words_if (by_label l) b types.params e.args) e entries t)
  called_both None found b fit = unfit agree
  called_both (Some m) found false fit = unfit agree
  called_both (Some m) found true fit =
      let h = all_given by l (nheap t) types.params e.args is.given fit in
      let size : length types.params ≡ length (kinds_of l types.params) = sym (kinds_long l types.params) in
      subst (λ o. Meets false (entry_begins by (Some m) true e entries s) (narrow.entered_by (by_label l)
      (Some (narrowed m)) o e entries t)) (sym h.words)
      (begins s t m e.args (is_called found) noted behind (frames_begin (nheap t) narrowed (kinds_of l types.params)
      (kinds_plain is.given) (subst (λ n. IsNarrowed narrowed n m) size (is.called_narrowed m found)) h.agree))

  -- a method that is selected on an array or object
  selected_both : (k : ℕ) (args : List Value) → e.args ≡ Obj k ∷ args → (thing : HeapObject (List ℕ) MemberId)
      → slice_get (nheap t) k ≡ Some thing → (o : Option Method) → by.sent (shape_name (shape thing)) e.method ≡ o
      → (b : Bool) → all_fit (narrow.object_fits (by_label l) (nheap t)) types.params args ≡ b
      → Meets true (entry_begins by o b e entries s) (narrow.entered_by (by_label l) (option_map narrowed o)
      (first_and (Obj k) (narrow.words_if (by_label l) b types.params args)) e entries t)
  selected_both k args same thing there None found b fit = unfit agree
  selected_both k args same thing there (Some m) found false fit = unfit agree
  selected_both k args same thing there (Some m) found true fit =
      let h = all_given by l (nheap t) types.params args is.given fit in
      let params = Refers (within m) ∷ kinds_of l types.params in
      let stores = agree.stores in
      let made = made_there l thing (stores.heap_fits k thing there) in
      let size : 1 + length types.params ≡ length params = (let long = kinds_long l types.params in omega (arith, long))
      in
      subst (λ o. Meets true (entry_begins by (Some m) true e entries s) (narrow.entered_by (by_label l)
      (Some (narrowed m)) o e entries t)) (sym (ap (first_and (Obj k)) h.words))
      (begins s t m (Obj k ∷ args) (is_sent (shape thing) made found) noted behind
      (subst (λ values. Frames (nheap t) [] (first_locals m params) (frame_for_call m values) (narrow.frame_for_call
      (narrowed m) (Obj k ∷ args))) (sym same)
      (frames_begin (nheap t) narrowed params (both_reference (kinds_plain is.given))
      (subst (λ n. IsNarrowed narrowed n m) size (is.sent_narrowed (shape thing) m made found))
      (cell (object thing there (is.receives (shape thing) m made found)) h.agree))))

  -- by what is at the receiver's place
  thing_both : (k : ℕ) (args : List Value) → e.args ≡ Obj k ∷ args → (o : Option (HeapObject (List ℕ) MemberId))
      → slice_get (nheap t) k ≡ o
      → Meets true (entry_begins by (sent_to by (option_as (shown l) o) e.method)
      (all_fit (narrow.object_fits (by_label l) (nheap t)) types.params args) e entries s)
      (narrow.entered_by (by_label l) (narrow.sent_to (by_label l) o e.method) (narrow.words_behind (by_label l)
      (nheap t) types.params (Obj k ∷ args)) e entries t)
  unfolding by_label
  thing_both k args same None there = unfit agree
  thing_both k args same (Some thing) there =
      let fit = all_fit (narrow.object_fits (by_label l) (nheap t)) types.params args in
      let words = first_and (Obj k) (narrow.words_if (by_label l) fit types.params args) in
      subst (λ type. Meets true (entry_begins by (by.sent type e.method) fit e entries s)
      (narrow.entered_by (by_label l) (l.sent (shape thing) e.method) words e entries t)) (sym (type_shown l thing))
      (subst (λ o. Meets true (entry_begins by (by.sent (shape_name (shape thing)) e.method) fit e entries s)
      (narrow.entered_by (by_label l) o words e entries t)) (sym (is.sent (shape thing)))
      (selected_both k args same thing there (by.sent (shape_name (shape thing)) e.method) refl fit refl))

  -- by the first argument
  sent_both : (args : List Value) → e.args ≡ args
      → Meets true (entry_begins by (sent_on by (heap_of s) e.method args) (all_fit (object_fits by (heap_of s))
      types.params (drop 1 args)) e entries s) (narrow.entered_by (by_label l) (narrow.sent_on (by_label l)
      (nheap t) e.method args) (narrow.words_behind (by_label l) (nheap t) types.params args) e entries t)
  sent_both [] same = unfit agree
  sent_both (Num x ∷ args) same = unfit agree
  sent_both (Null ∷ args) same = unfit agree
  sent_both (Obj k ∷ args) same =
      let stores = agree.stores in
      let narrow_side = narrow.entered_by (by_label l) (narrow.sent_to (by_label l) (slice_get (nheap t) k) e.method)
      (narrow.words_behind (by_label l) (nheap t) types.params (Obj k ∷ args)) e entries t in
      subst (λ o. Meets true (entry_begins by (sent_to by o e.method) (all_fit (object_fits by (heap_of s)) types.params
      args) e entries s) narrow_side) (sym (ap (λ h. slice_get h k) stores.heap ∙ get_map (shown l) (nheap t) k))
      (subst (λ b. Meets true (entry_begins by (sent_to by (option_as (shown l) (slice_get (nheap t) k)) e.method) b e
      entries s) narrow_side) (sym (all_told by l (nheap t) (heap_of s) stores.heap types.params args is.given))
      (thing_both k args same (slice_get (nheap t) k) refl))

  -- by whether it is sent
  by_call : (on : Bool) → Meets on (entry_begins by (if on then sent_on by (heap_of s) e.method e.args
      else by.entry e.method) (all_fit (object_fits by (heap_of s)) types.params (if on then drop 1 e.args else e.args))
      e entries s) (narrow.entered_by (by_label l) (if on then narrow.sent_on (by_label l) (nheap t) e.method e.args
      else l.called e.method) (if on then narrow.words_behind (by_label l) (nheap t) types.params e.args
      else narrow.fitting_words (by_label l) (nheap t) types.params e.args) e entries t)
  by_call true = sent_both e.args refl
  by_call false =
      let stores = agree.stores in
      let fit = all_fit (narrow.object_fits (by_label l) (nheap t)) types.params e.args in
      subst (λ b. Meets false (entry_begins by (by.entry e.method) b e entries s) (narrow.entered_by (by_label l)
      (l.called e.method) (narrow.words_if (by_label l) fit types.params e.args) e entries t))
      (sym (all_told by l (nheap t) (heap_of s) stores.heap types.params e.args is.given))
      (subst (λ o. Meets false (entry_begins by (by.entry e.method) fit e entries s) (narrow.entered_by (by_label l) o
      (narrow.words_if (by_label l) fit types.params e.args) e entries t)) (sym is.called)
      (called_both (by.entry e.method) refl fit refl))

  -- once its acts are done
  pub entry_both : Meets e.virtual_call (entry_begins by (entry_method by (heap_of s) e) (args_fit by (heap_of s) e
      (signature_of (let m = e.method in m.desc))) e entries s) (narrow.entered_by (by_label l)
      (narrow.entry_start (by_label l) (nheap t) e) (narrow.entry_words (by_label l) (nheap t) e) e entries t)
  unfolding by_label
  entry_both =
      subst (λ o. Meets e.virtual_call (entry_begins by (entry_method by (heap_of s) e) (args_fit by (heap_of s) e o) e
      entries s) (narrow.entered_by (by_label l) (narrow.entry_start (by_label l) (nheap t) e)
      (narrow.words_for (by_label l) (nheap t) e o) e entries t)) (sym is.has_types)
      (by_call e.virtual_call)

-- an entry, where no frame is active
pub entry_begun : (by : Linked) (l : Named) (narrowed : Method → Start NMethod) (types : Signature) (within : Method
    → Shape (List ℕ) → Bool) (e : Entry) (entries : List Entry) → ActsAlike by l
    → IsEntry by l narrowed e.method types within → (s : State) (t : NState) → StatesAgree l s t
    → EntryAgrees by l narrowed e.virtual_call (entry_kinds e.virtual_call l within types) e entries t.notes
    (named.begins by [] (e ∷ entries) s) (narrow.begins (by_label l) [] (e ∷ entries) t)
entry_begun by l narrowed types within e entries alike is s t agree =
    acts_both by l alike e.number (EntryAgrees by l narrowed e.virtual_call (entry_kinds e.virtual_call l within types)
    e entries t.notes)
    (λ u. entry_begins by (entry_method by (heap_of u) e) (args_fit by (heap_of u) e (signature_of (let m = e.method
    in m.desc))) e entries u)
    (λ v. narrow.entered_by (by_label l) (narrow.entry_start (by_label l) (nheap v) e) (narrow.entry_words (by_label l)
    (nheap v) e) e entries v) e.acts s t agree
    (λ u v states. unfit states) (λ u v states keeps noted. entry_both by l narrowed types within e entries is u v
    states t.notes noted)

-- ---- an entry for which no method is found

module _ (by : Linked) (l : Named) (narrowed : Method → Start NMethod) (params : Method → List Kind) (e : Entry)
    (entries : List Entry) (none : IsNoEntry by l e.method) (s : State) (t : NState) (agree : StatesAgree l s t)
    (notes : List Note) where
  abbrev Ends : Move State → NTurn → Type 0
  Ends = EntryAgrees by l narrowed e.virtual_call params e entries notes

  no_method : (fit : Bool) (words : Option (List Value))
      → Ends (entry_begins by None fit e entries s) (narrow.entered_by (by_label l) None words e entries t)
  no_method fit words = unfit agree

  -- by what is at the receiver's place
  none_there : (o : Option Thing) (p : Option (HeapObject (List ℕ) MemberId)) (fit : Bool) (words : Option (List Value))
      → ((thing : Thing) → o ≡ Some thing → by.sent (type_of thing) e.method ≡ None)
      → ((h : HeapObject (List ℕ) MemberId) → p ≡ Some h → IsMadeOf l (shape h))
      → Ends (entry_begins by (sent_to by o e.method) fit e entries s) (narrow.entered_by (by_label l)
      (narrow.sent_to (by_label l) p e.method) words e entries t)
  unfolding by_label
  none_there o p fit words off made =
      subst (λ m. Ends (entry_begins by m fit e entries s) (narrow.entered_by (by_label l) (narrow.sent_to (by_label l)
      p e.method) words e entries t)) (sym (by_none o off))
      (subst (λ m. Ends (entry_begins by None fit e entries s) (narrow.entered_by (by_label l) m words e entries t))
      (sym (narrow_none p made)) (no_method fit words))
    where
      by_none : (o : Option Thing) → ((thing : Thing) → o ≡ Some thing → by.sent (type_of thing) e.method ≡ None)
          → sent_to by o e.method ≡ None
      by_none None off = refl
      by_none (Some thing) off = off thing refl

      narrow_none : (p : Option (HeapObject (List ℕ) MemberId)) → ((h : HeapObject (List ℕ) MemberId) → p ≡ Some h
          → IsMadeOf l (shape h)) → narrow.sent_to (by_label l) p e.method ≡ None
      narrow_none None made = refl
      narrow_none (Some thing) made = none.narrow_not_sent (shape thing) (made thing refl)

  none_sent : (args : List Value) (fit : Bool) (words : Option (List Value))
      → Ends (entry_begins by (sent_on by (heap_of s) e.method args) fit e entries s) (narrow.entered_by (by_label l)
      (narrow.sent_on (by_label l) (nheap t) e.method args) words e entries t)
  unfolding by_label
  none_sent [] fit words = no_method fit words
  none_sent (Num x ∷ args) fit words = no_method fit words
  none_sent (Null ∷ args) fit words = no_method fit words
  none_sent (Obj k ∷ args) fit words = none_there (slice_get (heap_of s) k) (slice_get (nheap t) k) fit words
      (λ thing there. off thing (let stores = agree.stores in sym (ap (λ h. slice_get h k) stores.heap
      ∙ get_map (shown l) (nheap t) k) ∙ there))
      made
    where
      made : (h : HeapObject (List ℕ) MemberId) → slice_get (nheap t) k ≡ Some h → IsMadeOf l (shape h)
      made h there = let stores = agree.stores in made_there l h (stores.heap_fits k h there)

      off : (thing : Thing) → option_as (shown l) (slice_get (nheap t) k) ≡ Some thing
          → by.sent (type_of thing) e.method ≡ None
      off thing there = go (slice_get (nheap t) k) refl there
        where
          go : (o : Option (HeapObject (List ℕ) MemberId)) → slice_get (nheap t) k ≡ o → option_as (shown l) o
              ≡ Some thing → by.sent (type_of thing) e.method ≡ None
          go None at is = cc
          go (Some h) at is = let same : shown l h ≡ thing = cc in ap (λ x. by.sent (type_of x) e.method) (sym same)
              ∙ ap (λ n. by.sent n e.method) (type_shown l h) ∙ none.not_sent (shape h) (made h at)

  none_by : (on : Bool) (fit : Bool) (words : Option (List Value))
      → Ends (entry_begins by (if on then sent_on by (heap_of s) e.method e.args else by.entry e.method) fit e entries
      s) (narrow.entered_by (by_label l) (if on then narrow.sent_on (by_label l) (nheap t) e.method e.args
      else l.called e.method) words e entries t)
  none_by true fit words = none_sent e.args fit words
  none_by false fit words =
      subst (λ m. Ends (entry_begins by m fit e entries s) (narrow.entered_by (by_label l) (l.called e.method) words e
      entries t)) (sym none.not_called)
      (subst (λ m. Ends (entry_begins by None fit e entries s) (narrow.entered_by (by_label l) m words e entries t))
      (sym none.narrow_not_called) (no_method fit words))

  pub none_both : Ends (entry_begins by (entry_method by (heap_of s) e) (args_fit by (heap_of s) e
      (signature_of (let m = e.method in m.desc))) e entries s) (narrow.entered_by (by_label l)
      (narrow.entry_start (by_label l) (nheap t) e) (narrow.entry_words (by_label l) (nheap t) e) e entries t)
  unfolding by_label
  none_both = none_by e.virtual_call (args_fit by (heap_of s) e (signature_of (let m = e.method in m.desc)))
      (narrow.entry_words (by_label l) (nheap t) e)

pub none_begun : (by : Linked) (l : Named) (narrowed : Method → Start NMethod) (params : Method → List Kind) (e : Entry)
    (entries : List Entry) → ActsAlike by l → IsNoEntry by l e.method → (s : State) (t : NState) → StatesAgree l s t
    → EntryAgrees by l narrowed e.virtual_call params e entries t.notes (named.begins by [] (e ∷ entries) s)
    (narrow.begins (by_label l) [] (e ∷ entries) t)
none_begun by l narrowed params e entries alike none s t agree =
    acts_both by l alike e.number (EntryAgrees by l narrowed e.virtual_call params e entries t.notes)
    (λ u. entry_begins by (entry_method by (heap_of u) e) (args_fit by (heap_of u) e (signature_of (let m = e.method
    in m.desc))) e entries u)
    (λ v. narrow.entered_by (by_label l) (narrow.entry_start (by_label l) (nheap v) e) (narrow.entry_words (by_label l)
    (nheap v) e) e entries v) e.acts s t agree
    (λ u v states. unfit states) (λ u v states keeps noted. none_both by l narrowed params e entries none u v states
    t.notes)
