-- Elements of arrays are read alike, by an index of two words.
use Rattle.std.proofs.Common.{◌≡◌, ℕ, ◌+◌, ◌≤◌, List, ◌∷◌, [], ◌++◌, length, refl, sym, ap}
use Rattle.std.proofs.Common.{subst, arith}
use Rattle.std.proofs.Common.{Bool, true, ℤ, pos, negsuc, ◌≤ℤ◌}
use Rattle.std.specs.Prelude.{Option, map, slice_get, nat_le, FitsSigned, if◌then◌else◌}
use Rattle.std.specs.Int.{w32}
use Rattle.std.proofs.lemmas.Bool.Decides.{nat_tests}
use Rattle.std.proofs.lemmas.List.{length-append}
use Rattle.std.proofs.lemmas.Int.{ints}
use Rattle.cjc_script.specs.Bytes.declared.fault.MemberId.{MemberId}
use Rattle.cjc_script.specs.Bytes.Spots.{desc_of, bad_at, after}
use Rattle.cjc_script.proofs.BytesGets.{item_has}
use Rattle.cjc_script.proofs.BytesLists.{length_mapped}
use Rattle.cjc_range.specs.Span.{Span, Holds, Within, full, byte_range, short_range}
use Rattle.cjc_range.proofs.Order.{held_wider}
use Rattle.cjc_range.proofs.Spans.{fits_word}
use Rattle.cjc_script.specs.declared.value.Value.{Value}
use Rattle.cjc_script.specs.declared.value.Value.TheVariants.{Num}
use Rattle.cjc_script.specs.declared.report.Thing.{Thing}
use Rattle.cjc_script.specs.Sorts.{Element, Booleans, Bytes, Shorts, Ints, Shape, OfNumbers, array_name}
use Rattle.cjc_script.specs.Sorts.{shape_named}
use Rattle.cjc_card_semantics.specs.Bytecode.Numbers.{is_word}
use Rattle.cjc_card_semantics.specs.Bytecode.Calculations.{int_words}
use Rattle.cjc_card_semantics.specs.Bytecode.Calculations
use Rattle.cjc_card_semantics.specs.Bytecode.Effects.{Letter, HeapObject, Numbers, References, Object, shape}
use Rattle.cjc_card_semantics.specs.Bytecode.Effects.{is_element}
use Rattle.cjc_card_semantics.specs.Bytecode.Effects.{words_of}
use Rattle.cjc_card_semantics.specs.Bytecode.Effects as narrow
use Rattle.cjc_card_semantics.proofs.BytecodeLaws.Natural.{get_map}
use Rattle.cjc_ncode.specs.ByLabel.{Named, by_label}
use Rattle.cjc_jvm_semantics.specs.Linked.{Method, Linked}
use Rattle.cjc_jvm_semantics.specs.Effects.{Fault, Store, Moves, AByte, AShort, AnInt, serves, load_of}
use Rattle.cjc_jvm_semantics.specs.Effects as by_name
use Rattle.cjc_narrow_proof.specs.Selection.Relation.{NMemory, boolean_range, element_range, ThingFits, numbers}
use Rattle.cjc_narrow_proof.specs.Selection.Relation.{shown, IsMadeOf, Stores}
use Rattle.cjc_narrow_proof.specs.Selection.Rows.{NEffect, narrow_fault}
use Rattle.cjc_narrow_proof.specs.Selection.Elements.{ElementsLie, IsBytes, booleans, bytes, IsShorts, shorts}
use Rattle.cjc_narrow_proof.proofs.SelectionLaws.Keeps.{made_there}
use Rattle.cjc_narrow_proof.proofs.SelectionLaws.Begins.{thing_shown}
use Rattle.cjc_narrow_proof.proofs.SelectionLaws.Fields.{is_word_held}
use Rattle.cjc_narrow_proof.proofs.SelectionLaws.Items.{item_both}
use Rattle.cjc_narrow_proof.proofs.SelectionLaws.Puts.{byte_same}
use Rattle.cjc_int_runs.specs.Elements.{IsInts, ints_of}
use Rattle.cjc_int_runs.specs.Guards.{GuardedIndex}
use Rattle.cjc_int_runs.specs.Relation.{RefersTo, to_null, to_object}

-- ---- what is read

-- a number of 16 bits, as one word
pub data OneWord (t : Span) : Value → List Value → Type 0 where
  one_word : (x : ℤ) → Holds t x → FitsSigned w32 x → OneWord t (Num x) (Num x ∷ [])

-- a number of 32 bits, as two
pub data TwoWords (t : Span) : Value → List Value → Type 0 where
  two_words : (x : ℤ) → Holds t x → FitsSigned w32 x → TwoWords t (Num x) (int_words x)

-- A value is pushed by name, and words of it by label; or both raise the same exception.
pub data Reads (P : Value → List Value → Type 0) (at next : ℕ) (vs ws : List Value) (locals words : List (Option Value))
    (store : Store) (memory : NMemory) : by_name.Effect → NEffect → Type 0 where
  reads : (v : Value) (new : List Value) → P v new
      → Reads P at next vs ws locals words store memory (by_name.Go (at + 1) (v ∷ vs) locals store)
      (narrow.Go next (new ++ ws) words memory)
  fails : {fault : Fault} → Reads P at next vs ws locals words store memory (by_name.Raise fault)
      (narrow.Raise (narrow_fault fault))

-- the letter and what is moved serve the elements of an array
pub record ReadsAs (P : Value → List Value → Type 0) (letter : Letter) (moves : Moves) (element : Element) : Type 0
  where
    pub is_served : serves moves (shape_named (array_name element)) ≡ true
    pub is_of_letter : is_element letter element ≡ true
    pub new : ℤ → List Value
    pub few : (x : ℤ) → length (new x) ≤ 2
    pub gives : (x : ℤ) → Holds (element_range element) x → load_of moves (Num x) ≡ Num x
    pub words : (x : ℤ) (onto : List Value → NEffect) → Holds (element_range element) x
        → words_of letter (Num x) narrow.Stick onto ≡ onto (new x)
    pub pushed : (x : ℤ) → Holds (element_range element) x → P (Num x) (new x)

-- those of 16 bits, which a load gives as they are held
reads_words : (letter : Letter) (moves : Moves) (element : Element) (t : Span)
    → serves moves (shape_named (array_name element)) ≡ true → is_element letter element ≡ true
    → Within (element_range element) short_range → ((x : ℤ) → Holds (element_range element) x → load_of moves (Num x)
    ≡ Num x) → ((x : ℤ) (onto : List Value → NEffect) → is_word x ≡ true → words_of letter (Num x) narrow.Stick onto
    ≡ onto (Num x ∷ [])) → Within (element_range element) t → ReadsAs (OneWord t) letter moves element
reads_words letter moves element t served of_letter small gives words wide =
    let low = small.low in let high = small.high in
    record {
      is_served = served;
      is_of_letter = of_letter;
      new = λ x. Num x ∷ [];
      few = λ x. omega arith;
      gives = gives;
      words = λ x onto h. words x onto (is_word_held (element_range element) x low high h);
      pushed = λ x h. one_word x (held_wider (element_range element) t x wide h) (fits_word x (let a = h.above in
          let b = h.below in record { above = omega (arith, ints, a, low); below = omega (arith, ints, b, high) }));
    }

-- one word where the number has 16 bits
one_of : (x : ℤ) (onto : List Value → NEffect) → is_word x ≡ true
    → (let e : NEffect = if is_word x then onto (Num x ∷ []) else narrow.Stick in e) ≡ onto (Num x ∷ [])
one_of x onto e = ap (λ t. let e : NEffect = if t then onto (Num x ∷ []) else narrow.Stick in e) e

byte_read : (x : ℤ) → negsuc 127 ≤ℤ x → x ≤ℤ pos 127 → load_of AByte (Num x) ≡ Num x
byte_read x a b = ap Num (byte_same x a b)

reads_booleans : (t : Span) → Within boolean_range t → ReadsAs (OneWord t) narrow.Byte AByte Booleans
unfolding desc_of bad_at after
reads_booleans t wide = reads_words narrow.Byte AByte Booleans t refl refl
    (record { low = omega (arith, ints); high = omega (arith, ints) })
    (λ x h. let a = h.above in let b = h.below in byte_read x (omega (arith, ints, a)) (omega (arith, ints, b)))
    one_of wide

reads_bytes : (t : Span) → Within byte_range t → ReadsAs (OneWord t) narrow.Byte AByte Bytes
unfolding desc_of bad_at after
reads_bytes t wide = reads_words narrow.Byte AByte Bytes t refl refl
    (record { low = omega (arith, ints); high = omega (arith, ints) })
    (λ x h. let a = h.above in let b = h.below in byte_read x (omega (arith, ints, a)) (omega (arith, ints, b)))
    one_of wide

reads_shorts : (t : Span) → Within short_range t → ReadsAs (OneWord t) narrow.Short AShort Shorts
unfolding desc_of bad_at after
reads_shorts t wide = reads_words narrow.Short AShort Shorts t refl refl
    (record { low = omega (arith, ints); high = omega (arith, ints) }) (λ x h. refl) one_of wide

-- ints
pub reads_ints : (t : Span) → Within full t → ReadsAs (TwoWords t) narrow.Int AnInt Ints
unfolding desc_of bad_at after
reads_ints t wide = record {
  is_served = refl;
  is_of_letter = refl;
  new = int_words;
  few = λ x. omega arith;
  gives = λ x h. refl;
  words = λ x onto h. refl;
  pushed = λ x h. two_words x (held_wider full t x wide h) (fits_word x h);
}

-- of an array of this type
pub record ReadsKind (P : Value → List Value → Type 0) (letter : Letter) (moves : Moves) (kind : Shape (List ℕ)) :
    Type 0 where
  pub element : Element
  pub is : kind ≡ OfNumbers element
  pub reads_as : ReadsAs P letter moves element

-- the arrays of each load
pub bytes_read : (within : Shape (List ℕ) → Bool) (t : Span) → ElementsLie within t → (kind : Shape (List ℕ))
    → within kind ≡ true → IsBytes kind → ReadsKind (OneWord t) narrow.Byte AByte kind
bytes_read within t lie _ o booleans = record {
  element = Booleans;
  is = refl;
  reads_as = reads_booleans t (lie Booleans o);
}
bytes_read within t lie _ o bytes = record { element = Bytes; is = refl; reads_as = reads_bytes t (lie Bytes o) }

pub shorts_read : (within : Shape (List ℕ) → Bool) (t : Span) → ElementsLie within t → (kind : Shape (List ℕ))
    → within kind ≡ true → IsShorts kind → ReadsKind (OneWord t) narrow.Short AShort kind
shorts_read within t lie _ o shorts = record { element = Shorts; is = refl; reads_as = reads_shorts t (lie Shorts o) }

pub ints_read : (t : Span) (kind : Shape (List ℕ)) → Within full t → IsInts kind → ReadsKind (TwoWords t) narrow.Int
    AnInt kind
ints_read t _ wide ints_of = record { element = Ints; is = refl; reads_as = reads_ints t wide }

element_told : {a b : Element} → ◌≡◌ {A = Shape (List ℕ)} (OfNumbers a) (OfNumbers b) → a ≡ b
element_told e = cc

-- ---- loads

module _ (by : Linked) (l : Named) (m : Method) (P : Value → List Value → Type 0) (room at next : ℕ) (vs ws : List
    Value)
    (locals words : List (Option Value)) (store : Store) (memory : NMemory) (stores : Stores l store memory)
    (roomy : length ws + 2 ≤ room) (letter : Letter) (moves : Moves) (i j : ℤ) (g : GuardedIndex i j) where
  abbrev Meets : by_name.Effect → NEffect → Type 0
  Meets = Reads P at next vs ws locals words store memory

  abbrev named_load : Thing → by_name.Effect
  named_load thing = by_name.array_in thing (λ desc items. by_name.only_if (serves moves (shape_named desc))
      (by_name.item_at items i (λ n v. by_name.onward by m at locals store (load_of moves v ∷ vs))))

  abbrev narrow_load : HeapObject (List ℕ) MemberId → NEffect
  narrow_load = narrow.numbers_in letter (λ element items. narrow.item_at (narrow.Raise Calculations.IndexOutside) items
      j (λ n x. words_of letter (Num x) narrow.Stick (λ new. narrow.onward new room next words memory ws)))

  item_read : (element : Element) → ReadsAs P letter moves element → (x : ℤ) → Holds (element_range element) x
      → Meets (by_name.onward by m at locals store (load_of moves (Num x) ∷ vs))
      (words_of letter (Num x) narrow.Stick (λ new. narrow.onward new room next words memory ws))
  item_read element s x h =
      let few = s.few x in let long = length-append (s.new x) ws in
      let right : nat_le (length (s.new x ++ ws)) room ≡ true = grind (arith, nat_tests, few, long, roomy) in
      subst (λ v. Meets (by_name.onward by m at locals store (v ∷ vs)) (words_of letter (Num x) narrow.Stick
      (λ new. narrow.onward new room next words memory ws))) (sym (s.gives x h))
      (subst (Meets (by_name.onward by m at locals store (Num x ∷ vs)))
      (sym (s.words x (λ new. narrow.onward new room next words memory ws) h))
      (subst (λ b. Meets (by_name.onward by m at locals store (Num x ∷ vs)) (if b then narrow.Go next (s.new x ++ ws)
      words memory else narrow.Stick)) (sym right)
      (reads (Num x) (s.new x) (s.pushed x h))))

  load_item : (thing : HeapObject (List ℕ) MemberId) → ReadsKind P letter moves (shape thing)
      → ThingFits l memory.heap thing → Meets (named_load (shown l thing)) (narrow_load thing)
  unfolding by_label
  load_item (Numbers element items) s (numbers few fits) =
      let same = element_told s.is in
      let serving = subst (ReadsAs P letter moves) (sym same) s.reads_as in
      let go = λ (n : ℕ) (v : Value). by_name.onward by m at locals store (load_of moves v ∷ vs) in
      let go' = λ (n : ℕ) (x : ℤ). words_of letter (Num x) narrow.Stick (λ new. narrow.onward new room next words memory
      ws) in
      let long = length_mapped Num items in
      subst (λ b. Meets (by_name.only_if b (by_name.item_at (map Num items) i go)) (narrow_load (Numbers element
      items)))
      (sym serving.is_served)
      (subst (λ b. Meets (by_name.item_at (map Num items) i go) (if b
      then narrow.item_at (narrow.Raise Calculations.IndexOutside) items j go' else narrow.Stick))
      (sym serving.is_of_letter)
      (subst (λ e. Meets e (narrow.item_at (narrow.Raise Calculations.IndexOutside) items j go'))
      (sym (g.same (map Num items) go (omega (arith, long, few))))
      (subst (λ z. Meets (by_name.item_at (map Num items) g.near go)
      (narrow.item_at (narrow.Raise Calculations.IndexOutside) items z go')) (sym g.word)
      (item_both Meets Num (map Num items) items (get_map Num items) go go' g.near few g.in_range
      (fails {fault = by_name.IndexOutside}) (λ n x e. item_read element serving x
      (item_has (Holds (element_range element)) items n x fits e))))))
  load_item (References class items) s fits = let e = s.is in absurd cc
  load_item (Object class slots) s fits = let e = s.is in absurd cc

  -- of the array of a reference; null raises
  pub load_at : (within : Shape (List ℕ) → Bool) → ((kind : Shape (List ℕ)) → within kind ≡ true → IsMadeOf l kind
      → ReadsKind P letter moves kind) → (v : Value) → RefersTo memory.heap within v
      → Meets (by_name.thing_at store.heap v (λ k. named_load)) (narrow.thing_of memory.heap v (λ k. narrow_load))
  load_at within all _ to_null = fails {fault = by_name.NullPointer}
  load_at within all _ (to_object {k = k} thing is passes) =
      subst (λ o. Meets (by_name.with_some o named_load) (narrow.with_some narrow.Stick (slice_get memory.heap k)
      narrow_load)) (sym (thing_shown l memory.heap k thing stores.heap is))
      (subst (λ o. Meets (named_load (shown l thing)) (narrow.with_some narrow.Stick o narrow_load)) (sym is)
      (load_item thing (all (shape thing) passes (made_there l thing (stores.heap_fits k thing is)))
      (stores.heap_fits k thing is)))
