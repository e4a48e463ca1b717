-- What instructions on fields and static cells, and new, leave, where operands are what their rows need.
use Rattle.std.proofs.Common.{◌≡◌, ◌≤◌, ◌<◌, ℕ, zero, suc, true, false, not, List, [], ◌∷◌, ◌++◌, length, map}
use Rattle.std.proofs.Common.{drop, slice_get, slice_set, Option, Some, None, refl, sym, ap, subst, ◌∙◌, arith, ℤ}
use Rattle.std.proofs.Common.{nat_lt, nat_le, leb-false, length-drop}
use Rattle.std.proofs.Common.{append-nil}
use Rattle.std.specs.Prelude.{if◌then◌else◌}
use Rattle.std.specs.List.{list_any}
use Rattle.std.proofs.lemmas.Bool.{or_parts}
use Rattle.cjc_card_semantics.specs.Range.Words.{low_word, low_byte}
use Rattle.cjc_script.specs.declared.value.Value.{Value}
use Rattle.cjc_script.specs.declared.value.Value.TheVariants.{Num, Null, Obj}
use Rattle.cjc_script.specs.Sorts.{OfClass}
use Rattle.cjc_types.specs.declared.cell.Cell.{Cell}
use Rattle.cjc_types.specs.declared.cell.Cell.TheVariants.{Number, Refs, Unusable}
use Rattle.cjc_types.specs.Rules.{all_types, is_number}
use Rattle.cjc_card_semantics.specs.Bytecode.Numbers.{spelt_by}
use Rattle.cjc_card_semantics.specs.Bytecode.Effects.{Letter, Reference, Byte, Short, Int, HeapObject, Numbers}
use Rattle.cjc_card_semantics.specs.Bytecode.Effects.{References, Object, Slot, slot_of, slots_with, Memory, Effect, Go}
use Rattle.cjc_card_semantics.specs.Bytecode.Effects.{Stick, Get, Put, GetStatic, PutStatic, New, effect, made}
use Rattle.cjc_card_semantics.specs.Bytecode.Effects.{object_in}
use Rattle.cjc_card_semantics.specs.Bytecode.Effects.{onward, put_slot, receiver, thing_of, with_some, words_of}
use Rattle.cjc_card_semantics.specs.Bytecode.Effects.{with_thing}
use Rattle.cjc_card_semantics.specs.Bytecode.Effects as effects
use Rattle.cjc_card_semantics.specs.Machine.Loaded.{Loaded}
use Rattle.cjc_card_semantics.specs.Machine.Classes.{Class, Field, fresh, is_interface_info}
use Rattle.cjc_card_semantics.specs.Machine.Classes.{depth, is_interface, is_kind_of, is_object, same_field}
use Rattle.cjc_card_semantics.specs.Machine.Classes.{slots_upwards}
use Rattle.cjc_card_semantics.specs.Machine.Statics.{Image, StaticCell, put_static}
use Rattle.cjc_card_semantics.specs.Machine.Operations.{Callee}
use Rattle.cjc_card_semantics.specs.Machine.ByToken.{classes}
use Rattle.cjc_frames.specs.declared.acts.Act.{Act}
use Rattle.cjc_frames.specs.declared.acts.Need.{Need}
use Rattle.cjc_frames.specs.declared.acts.Need.TheVariants.{NumberWord, OfType}
use Rattle.cjc_frames.specs.declared.acts.Given.{Given}
use Rattle.cjc_frames.specs.declared.acts.Given.TheVariants.{AnObject}
use Rattle.cjc_frames.specs.declared.acts.Read.{Read}
use Rattle.cjc_frames.specs.declared.acts.Write.{Write}
use Rattle.cjc_frames.specs.Acts.{Subtype, given, has_wrong, has_wrong_local, is_wrong_local, lacks_local}
use Rattle.cjc_frames.specs.Acts.{stack_behind}
use Rattle.cjc_card_acts.specs.Rows.{reading}
use Rattle.cjc_card_acts.specs.CardTypes.{ValueType, is_moved_by, is_type_of, needs_of, shape_by, words}
use Rattle.cjc_card_acts.specs.CardTypes as types
use Rattle.cjc_verify_proof.specs.Words.{IsWord, IsLocal, AreWords, AreLocals}
use Rattle.cjc_verify_proof.specs.Acts.{Passes}
use Rattle.cjc_verify_proof.specs.Heaps.{thing_is, object_is}
use Rattle.cjc_verify_proof.specs.Control.{cells_of}
use Rattle.cjc_verify_proof.specs.Values.{IsValue, Holds}
use Rattle.cjc_verify_proof.specs.Memories.{FieldTypes, IsMemory, Goes, SupersStand, AreDeclared}
use Rattle.cjc_verify_proof.proofs.WordLaws.{true_of}
use Rattle.cjc_verify_proof.proofs.WordLaws as word_laws
use Rattle.cjc_verify_proof.proofs.StackLaws.{met}
use Rattle.cjc_verify_proof.proofs.PlainLaws.{parts}
use Rattle.cjc_verify_proof.proofs.StoreLaws.{byte_is_word, word_is_word}
use Rattle.cjc_verify_proof.proofs.TypeLaws.{of_itself, of_only, word_of_type}
use Rattle.cjc_verify_proof.proofs.GrowthLaws.{words_stay, locals_stay, object_still, set_extends, extends_itself}
use Rattle.cjc_verify_proof.proofs.OffLaws.{no_object}
use Rattle.cjc_verify_proof.proofs.FreshLaws.{fresh_slots}
use Rattle.cjc_verify_proof.proofs.ImageLaws.{Moves, of_booleans, of_bytes, of_shorts, of_ints, of_references, moves}
use Rattle.cjc_verify_proof.proofs.ImageLaws.{gets_cell, puts_cell}
use Rattle.cjc_verify_proof.proofs.MemoryLaws.{kind_of_type, memory_set, slots_put, value_goes, held_goes, new_goes}

-- ---- what an act takes and gives

record Takes (is_of : Subtype) (room : ℕ) (takes : List Need) (gives : List Given) (lc cs : List Cell) : Type 0 where
  operands : has_wrong is_of takes cs ≡ false
  enough : length takes ≤ length cs
  after : nat_lt room (length (map (given lc cs) gives ++ drop (length takes) cs)) ≡ false

taking : (is_of : Subtype) (room : ℕ) (a : Act) (lc cs : List Cell) (takes : List Need) (gives : List Given)
    → a.takes ≡ takes → a.gives ≡ gives → Passes is_of room a lc cs → Takes is_of room takes gives lc cs
taking is_of room a lc cs takes gives e f passes =
    let p = parts is_of room a lc cs passes in
    record {
      operands = subst (λ (ns : List Need). has_wrong is_of ns cs ≡ false) e p.operands;
      enough = subst (λ (ns : List Need). length ns ≤ length cs) e p.enough;
      after = subst (λ (gs : List Given). nat_lt room (length (map (given lc cs) gs ++ drop (length takes) cs))
          ≡ false) f
          (subst (λ (ns : List Need). nat_lt room (length (map (given lc cs) a.gives ++ drop (length ns) cs)) ≡ false) e
          p.after);
    }

-- the stack behind an act
behind : (a : Act) (lc cs : List Cell) (takes : List Need) (gives : List Given) → a.takes ≡ takes → a.gives ≡ gives
    → stack_behind a lc cs ≡ map (given lc cs) gives ++ drop (length takes) cs
behind a lc cs takes gives e f = ap (λ (gs : List Given). map (given lc cs) gs ++ drop (length a.takes) cs) f
    ∙ ap (λ (ns : List Need). map (given lc cs) gives ++ drop (length ns) cs) e

given_words : (lc cs : List Cell) (type : ValueType) → map (given lc cs) (words type) ≡ cells_of type
given_words lc cs types.Void = refl
given_words lc cs types.Boolean = refl
given_words lc cs types.Byte = refl
given_words lc cs types.Short = refl
given_words lc cs types.Int = refl
given_words lc cs (types.Reference type) = refl

-- ---- lists

one_less : {A : Type 0} (n : ℕ) (xs : List A) (x : A) (ys : List A) → drop n xs ≡ x ∷ ys → drop (suc n) xs ≡ ys
one_less zero [] x ys e = cc
one_less zero (z ∷ xs) x ys e = cc
one_less (suc n) [] x ys e = cc
one_less (suc n) (z ∷ xs) x ys e = one_less n xs x ys e

one_more : {A : Type 0} (xs : List A) (x : A) → length (xs ++ x ∷ []) ≡ suc (length xs)
one_more [] x = refl
one_more (y ∷ xs) x = ap suc (one_more xs x)

-- ---- words on the stack

module _ (l : Loaded) (t : FieldTypes) (room next : ℕ) (lc : List Cell) (lv : List (Option Value))
    (m : Memory Class Field (List Image)) (k : AreLocals (object_is l m.heap) lc lv) (fit : IsMemory l t m) where
  abbrev Outcome : Type 0
  Outcome = Effect Class Field Callee (List Image)

  -- a value that a letter takes from the stack
  record IsOperand (letter : Letter) (type : ValueType) (needs : List Need) (cs : List Cell) (vs : List Value) : Type 0
    where
      value : Value
      rest : List Value
      is : (go : Value → List Value → Outcome) → effects.operand letter Stick vs go ≡ go value rest
      typed : IsValue (object_is l m.heap) type value
      below : AreWords (object_is l m.heap) (drop (length (needs_of type)) cs) rest
      right : has_wrong (is_type_of l) needs (drop (length (needs_of type)) cs) ≡ false

  number_there : (c : Cell) (v : Value) → not (is_number c) ≡ false → IsWord (object_is l m.heap) c v → (z : ℤ)
      × (v ≡ Num z)
  number_there Number (Num z) e w = (z, refl)
  number_there Number Null e w = absurd w
  number_there Number (Obj j) e w = absurd w
  number_there (Refs names) v e w = cc
  number_there Unusable v e w = cc

  operand_there : {letter : Letter} {type : ValueType} → Moves letter type → (needs : List Need) (cs : List Cell)
      (vs : List Value) → AreWords (object_is l m.heap) cs vs
      → has_wrong (is_type_of l) (needs_of type ++ needs) cs ≡ false → length (needs_of type) ≤ length cs
      → IsOperand letter type needs cs vs
  operand_there of_booleans needs [] vs w h o = absurd (omega (arith, o))
  operand_there of_booleans needs (c ∷ cs) [] w h o = absurd w
  operand_there of_booleans needs (c ∷ cs) (v ∷ vs) w h o =
      let p = or_parts (not (is_number c)) (has_wrong (is_type_of l) needs cs) h in
      let z = number_there c v p.0 w.0 in
      record {
        value = Num (low_byte z.0);
        rest = vs;
        is = λ go. ap (λ x. effects.operand Byte Stick (x ∷ vs) go) z.1;
        typed = byte_is_word z.0;
        below = w.1;
        right = p.1;
      }
  operand_there of_bytes needs [] vs w h o = absurd (omega (arith, o))
  operand_there of_bytes needs (c ∷ cs) [] w h o = absurd w
  operand_there of_bytes needs (c ∷ cs) (v ∷ vs) w h o =
      let p = or_parts (not (is_number c)) (has_wrong (is_type_of l) needs cs) h in
      let z = number_there c v p.0 w.0 in
      record {
        value = Num (low_byte z.0);
        rest = vs;
        is = λ go. ap (λ x. effects.operand Byte Stick (x ∷ vs) go) z.1;
        typed = byte_is_word z.0;
        below = w.1;
        right = p.1;
      }
  operand_there of_shorts needs [] vs w h o = absurd (omega (arith, o))
  operand_there of_shorts needs (c ∷ cs) [] w h o = absurd w
  operand_there of_shorts needs (c ∷ cs) (v ∷ vs) w h o =
      let p = or_parts (not (is_number c)) (has_wrong (is_type_of l) needs cs) h in
      let z = number_there c v p.0 w.0 in
      record {
        value = Num (low_word z.0);
        rest = vs;
        is = λ go. ap (λ x. effects.operand Short Stick (x ∷ vs) go) z.1;
        typed = word_is_word z.0;
        below = w.1;
        right = p.1;
      }
  operand_there of_ints needs [] vs w h o = absurd (omega (arith, o))
  operand_there of_ints needs (c ∷ []) vs w h o = absurd (omega (arith, o))
  operand_there of_ints needs (c ∷ d ∷ cs) [] w h o = absurd w
  operand_there of_ints needs (c ∷ d ∷ cs) (u ∷ []) w h o = absurd w.1
  operand_there of_ints needs (c ∷ d ∷ cs) (u ∷ v ∷ vs) w h o =
      let p = or_parts (not (is_number c)) (has_wrong (is_type_of l) (NumberWord ∷ needs) (d ∷ cs)) h in
      let q = or_parts (not (is_number d)) (has_wrong (is_type_of l) needs cs) p.1 in
      let low = number_there c u p.0 w.0 in
      let high = number_there d v q.0 w.1.0 in
      record {
        value = Num (spelt_by high.0 low.0);
        rest = vs;
        is = λ go. ap (λ x. effects.operand Int Stick (x ∷ v ∷ vs) go) low.1
            ∙ ap (λ x. effects.operand Int Stick (Num low.0 ∷ x ∷ vs) go) high.1;
        typed = tt;
        below = w.1.1;
        right = q.1;
      }
  operand_there (of_references type) needs [] vs w h o = absurd (omega (arith, o))
  operand_there (of_references type) needs (c ∷ cs) [] w h o = absurd w
  operand_there (of_references type) needs (c ∷ cs) (v ∷ vs) w h o =
      let p = or_parts (not (all_types (λ u. is_type_of l u type) c)) (has_wrong (is_type_of l) needs cs) h in
      by v (word_of_type l m.heap type c v (true_of (all_types (λ u. is_type_of l u type) c) p.0) w.0) w.1 p.1
    where
      by : (v : Value) → IsWord (object_is l m.heap) (Refs (type ∷ [])) v → AreWords (object_is l m.heap) cs vs
          → has_wrong (is_type_of l) needs cs ≡ false
          → IsOperand Reference (types.Reference type) needs (c ∷ cs) (v ∷ vs)
      by (Num z) is behind right = absurd is
      by Null is behind right = record {
        value = Null;
        rest = vs;
        is = λ go. refl;
        typed = is;
        below = behind;
        right = right;
      }
      by (Obj j) is behind right = record {
        value = Obj j;
        rest = vs;
        is = λ go. refl;
        typed = is;
        below = behind;
        right = right;
      }

  -- ---- receivers

  -- null, or an object of a class or below it
  data IsReceiver (class : Class) : Value → Type 0 where
    null : IsReceiver class Null
    object : (j : ℕ) (c : Class) (slots : List (Slot Field)) → slice_get m.heap j ≡ Some (Object c slots)
        → is_kind_of l c class ≡ true → IsReceiver class (Obj j)

  module _ (s : SupersStand l) (declared : AreDeclared l t) (f : Field) (type : ValueType)
      (typed : t.field f ≡ Some type) (name : List ℕ) (named : shape_by l name ≡ Some (OfClass f.class)) where
    -- java/lang/Object is below no class that declares a field
    apart : is_object l f.class ≡ false
    apart =
        let d = declared f type typed in
        subst (λ c. is_object l c ≡ false) (sym d.class) (no_object l s d.part d.offset (ap is_interface_info d.info))

    receiver_there : (v : Value) → IsWord (object_is l m.heap) (Refs (name ∷ [])) v → IsReceiver f.class v
    receiver_there (Num z) w = absurd w
    receiver_there Null w = null
    receiver_there (Obj j) w = by (slice_get m.heap j) refl (subst (λ kind. thing_is l (slice_get m.heap j) kind ≡ true)
        named (of_only l m.heap name j w))
      where
        by : (o : Option (HeapObject Class Field)) → slice_get m.heap j ≡ o
            → thing_is l o (Some (OfClass f.class)) ≡ true → IsReceiver f.class (Obj j)
        by None e h = cc
        by (Some (Numbers element items)) e h = let clash : true ≡ false = sym h ∙ apart in cc
        by (Some (References class items)) e h = let clash : true ≡ false = sym h ∙ apart in cc
        by (Some (Object c slots)) e h = object j c slots e h

    -- the object that a word of the stack refers to
    on_stack : (c : Cell) (v : Value) → has_wrong (is_type_of l) (OfType name ∷ []) (c ∷ []) ≡ false
        → IsWord (object_is l m.heap) c v → IsReceiver f.class v
    on_stack c v h w =
        let p = or_parts (not (all_types (λ u. is_type_of l u name) c)) false h in
        receiver_there v (word_of_type l m.heap name c v (true_of (all_types (λ u. is_type_of l u name) c) p.0) w)

    -- the object that local 0 refers to
    record IsThis : Type 0 where
      value : Value
      found : slice_get lv 0 ≡ Some (Some value)
      receives : IsReceiver f.class value

    in_local : (a : Act) (cs : List Cell) → a.reads ≡ reading 0 (OfType name) ∷ [] → Passes (is_type_of l) room a lc cs
        → IsThis
    in_local a cs e passes =
        let p = parts (is_type_of l) room a lc cs passes in
        let wrong : has_wrong_local (is_type_of l) (reading 0 (OfType name) ∷ []) lc ≡ false =
        subst (λ (rs : List Read). has_wrong_local (is_type_of l) rs lc ≡ false) e p.reads in
        let one = or_parts (is_wrong_local (is_type_of l) (OfType name) (slice_get lc 0)) false wrong in
        let x = word_laws.there (object_is l m.heap) lc lv 0 k (lacks p.locals) in
        by x.cell x.held x.found (met (is_type_of l) (OfType name) (slice_get lc 0) x.cell x.typed one.0) x.is_local
      where
        lacks : lacks_local a lc ≡ false → 0 < length lc
        lacks h =
            let q = or_parts (list_any (λ (r : Read). nat_le (length lc) r.local) a.reads) (list_any
            (λ (w : Write). nat_le (length lc) w.local) a.writes) h in
            let r = or_parts (nat_le (length lc) 0) false (subst (λ (rs : List Read). list_any
            (λ (r : Read). nat_le (length lc) r.local) rs ≡ false) e q.0) in
            leb-false (length lc) 0 r.0

        by : (c : Cell) (o : Option Value) → slice_get lv 0 ≡ Some o → all_types (λ u. is_type_of l u name) c ≡ true
            → IsLocal (object_is l m.heap) c o → IsThis
        by c (Some v) found h w = record {
          value = v;
          found = found;
          receives = receiver_there v (word_of_type l m.heap name c v h w);
        }
        by Number None found h w = cc
        by Unusable None found h w = cc
        by (Refs names) None found h w = absurd w

  -- ---- fields

  -- a field of an object is pushed
  get_goes : (f : Field) {letter : Letter} {type : ValueType} → Moves letter type → t.field f ≡ Some type → (v : Value)
      → IsReceiver f.class v → (cs : List Cell) (vs : List Value) → AreWords (object_is l m.heap) cs vs
      → nat_lt room (length (cells_of type ++ cs)) ≡ false
      → Goes l t next (cells_of type ++ cs) lc m (thing_of m.heap v (λ j. object_in (λ class slots. with_some Stick
      (slot_of same_field slots f) (λ x. words_of letter x Stick (λ ws. onward ws room next lv m vs)))))
  get_goes f mv typed _ null cs vs w h = tt
  get_goes f {letter = letter} {type = type} mv typed _ (object j c slots at kind) cs vs w h =
      subst (λ (o : Option (HeapObject Class Field)). Goes l t next (cells_of type ++ cs) lc m (with_some Stick o
      (object_in (λ class slots. with_some Stick (slot_of same_field slots f) (λ x. words_of letter x Stick
      (λ ws. onward ws room next lv m vs)))))) (sym at)
      (held_goes l t room next lc lv m k fit mv (slot_of same_field slots f) (fit.slots j
      (Object c slots) at f type typed
      kind) cs vs w h)

  -- a value is put into a field of an object
  put_goes : (f : Field) {type : ValueType} → t.field f ≡ Some type → (v : Value) → IsValue (object_is l m.heap) type v
      → (r : Value) → IsReceiver f.class r → (cs : List Cell) (vs : List Value) → AreWords (object_is l m.heap) cs vs
      → Goes l t next cs lc m (thing_of m.heap r (λ j. object_in (λ class slots. put_slot (classes l)
      (slot_of same_field slots f) v
      (Go next vs lv (with_thing m j (Object class (slots_with same_field slots f v)))))))
  put_goes f typed v new _ null cs vs w = tt
  put_goes f {type = type} typed v new _ (object j c slots at kind) cs vs w =
      subst (λ (o : Option (HeapObject Class Field)). Goes l t next cs lc m (with_some Stick o (object_in
      (λ class slots. put_slot (classes l) (slot_of same_field slots f) v (Go next vs lv (with_thing m j (Object class
      (slots_with same_field slots f v)))))))) (sym at)
      (by (slot_of same_field slots f) refl (fit.slots j (Object c slots) at f type typed kind))
    where
      changed : HeapObject Class Field
      changed = Object c (slots_with same_field slots f v)

      by : (o : Option Value) → slot_of same_field slots f ≡ o → Holds (object_is l m.heap) type o
          → Goes l t next cs lc m (put_slot (classes l) o v (Go next vs lv (with_thing m j changed)))
      by None e h = absurd h
      by (Some old) e h =
          let more = set_extends m.heap j (Object c slots) changed at refl in
          let still = object_still l m.heap (slice_set m.heap j changed) more in
          subst (λ b. Goes l t next cs lc m (if b then Go next vs lv (with_thing m j changed) else Stick))
          (sym (kind_of_type (object_is l m.heap) type old v h new)) (
            refl,
            (
              words_stay (object_is l m.heap) (object_is l (slice_set m.heap j changed)) still cs vs w,
              (
                locals_stay (object_is l m.heap) (object_is l (slice_set m.heap j changed)) still lc lv k,
                (
                  memory_set l t m j (Object c slots) changed at refl fit tt tt (slots_put l t
                      (object_is l m.heap) c slots
                      (fit.slots j (Object c slots) at) f type typed old v e new),
                  more,
                ),
              ),
            ),
          )

  -- ---- by what an act says

  module _ (s : SupersStand l) (declared : AreDeclared l t) (f : Field) (type : ValueType)
      (typed : t.field f ≡ Some type) (letter : Letter) (moved : is_moved_by letter type ≡ true) (name : List ℕ)
      (named : shape_by l name ≡ Some (OfClass f.class)) where
    -- getfield
    pub get_field : (a : Act) → a.takes ≡ OfType name ∷ [] → a.gives ≡ words type → (cs : List Cell) (vs : List Value)
        → AreWords (object_is l m.heap) cs vs → Passes (is_type_of l) room a lc cs
        → Goes l t next (stack_behind a lc cs) lc m (effect (classes l) (Get false letter f) room next lv m vs)
    get_field a e g [] vs w passes =
        let p = taking (is_type_of l) room a lc [] (OfType name ∷ []) (words type) e g passes in
        let o = p.enough in
        absurd (omega (arith, o))
    get_field a e g (c ∷ cs) [] w passes = absurd w
    get_field a e g (c ∷ cs) (v ∷ vs) w passes =
        let p = taking (is_type_of l) room a lc (c ∷ cs) (OfType name ∷ []) (words type) e g passes in
        let is = given_words lc (c ∷ cs) type in
        subst (λ (x : List Cell). Goes l t next x lc m (effect (classes l) (Get false letter f) room next lv m
        (v ∷ vs)))
        (sym (behind a lc (c ∷ cs) (OfType name ∷ []) (words type) e g ∙ ap (λ (x : List Cell). x ++ cs) is))
        (get_goes f (moves letter type moved) typed v (on_stack s declared f type typed name named c v p.operands w.0)
        cs
        vs w.1 (subst (λ (x : List Cell). nat_lt room (length (x ++ cs)) ≡ false) is p.after))

    -- getfield of this
    pub get_field_this : (a : Act) → a.takes ≡ [] → a.reads ≡ reading 0 (OfType name) ∷ [] → a.gives ≡ words type
        → (cs : List Cell) (vs : List Value) → AreWords (object_is l m.heap) cs vs → Passes (is_type_of l) room a lc cs
        → Goes l t next (stack_behind a lc cs) lc m (effect (classes l) (Get true letter f) room next lv m vs)
    get_field_this a e r g cs vs w passes =
        let p = taking (is_type_of l) room a lc cs [] (words type) e g passes in
        let is = given_words lc cs type in
        let this = in_local s declared f type typed name named a cs r passes in
        subst (λ (x : List Cell). Goes l t next x lc m (effect (classes l) (Get true letter f) room next lv m vs))
        (sym (behind a lc cs [] (words type) e g ∙ ap (λ (x : List Cell). x ++ cs) is))
        (subst (λ (o : Option (Option Value)). Goes l t next (cells_of type ++ cs) lc m (with_some Stick o
        (λ (q : Option Value). with_some Stick q (λ (v : Value). thing_of m.heap v (λ j. object_in
        (λ class slots. with_some Stick (slot_of same_field slots f) (λ x. words_of letter x Stick (λ ws. onward ws room
        next lv m vs)))))))) (sym this.found) (get_goes f (moves letter type moved) typed this.value this.receives cs vs
        w
        (subst (λ (x : List Cell). nat_lt room (length (x ++ cs)) ≡ false) is p.after)))

    -- putfield
    pub put_field : (a : Act) → a.takes ≡ needs_of type ++ OfType name ∷ [] → a.gives ≡ [] → (cs : List Cell)
        (vs : List Value) → AreWords (object_is l m.heap) cs vs → Passes (is_type_of l) room a lc cs
        → Goes l t next (stack_behind a lc cs) lc m (effect (classes l) (Put false letter f) room next lv m vs)
    put_field a e g cs vs w passes = by (drop n cs) o.rest refl refl o.below o.right
      where
        n : ℕ
        n = length (needs_of type)

        takes : List Need
        takes = needs_of type ++ OfType name ∷ []

        p : Takes (is_type_of l) room takes [] lc cs
        p = taking (is_type_of l) room a lc cs takes [] e g passes

        long : length takes ≡ suc n
        long = one_more (needs_of type) (OfType name)

        enough : n ≤ length cs
        enough = let q = p.enough in let r = long in omega (arith, q, r)

        o : IsOperand letter type (OfType name ∷ []) cs vs
        o = operand_there (moves letter type moved) (OfType name ∷ []) cs vs w p.operands enough

        go : Value → List Value → Outcome
        go v below = receiver false lv below (λ r rest. thing_of m.heap r (λ j. object_in (λ class slots. put_slot
            (classes l) (slot_of same_field slots f) v (Go next rest lv (with_thing m j (Object class
            (slots_with same_field slots f
            v)))))))

        by : (under : List Cell) (rest : List Value) → drop n cs ≡ under → o.rest ≡ rest
            → AreWords (object_is l m.heap) (drop n cs) o.rest
            → has_wrong (is_type_of l) (OfType name ∷ []) (drop n cs) ≡ false
            → Goes l t next (stack_behind a lc cs) lc m (effect (classes l) (Put false letter f) room next lv m vs)
        by [] rest is there below right =
            let none : length (drop n cs) ≡ 0 = ap (λ (x : List Cell). length x) is in
            let some = length-drop n cs in
            let q = p.enough in
            let r = long in
            absurd (omega (arith, none, some, q, r))
        by (c ∷ under) [] is there below right = absurd (subst (λ (x : List Cell). AreWords
            (object_is l m.heap) x []) is
            (subst (λ (x : List Value). AreWords (object_is l m.heap) (drop n cs) x) there below))
        by (c ∷ under) (r ∷ rest) is there below right =
            let words_are = subst (λ (x : List Cell). AreWords (object_is l m.heap) x (r ∷ rest)) is
            (subst (λ (x : List Value). AreWords (object_is l m.heap) (drop n cs) x) there below) in
            let meets_it = subst (λ (x : List Cell). has_wrong (is_type_of l) (OfType name ∷ []) x ≡ false) is right in
            let left : stack_behind a lc cs ≡ under = behind a lc cs takes [] e g ∙ ap (λ j. drop j cs) long
            ∙ one_less n cs c under is in
            subst (λ (x : List Cell). Goes l t next x lc m (effect (classes l) (Put false letter f) room next lv m vs))
            (sym left)
            (subst (λ (x : Outcome). Goes l t next under lc m x) (sym (o.is go ∙ ap (go o.value) there))
            (put_goes f typed o.value o.typed r (on_stack s declared f type typed name named c r meets_it words_are.0)
            under
            rest words_are.1))

    -- putfield of this
    pub put_field_this : (a : Act) → a.takes ≡ needs_of type → a.reads ≡ reading 0 (OfType name) ∷ [] → a.gives ≡ []
        → (cs : List Cell) (vs : List Value) → AreWords (object_is l m.heap) cs vs → Passes (is_type_of l) room a lc cs
        → Goes l t next (stack_behind a lc cs) lc m (effect (classes l) (Put true letter f) room next lv m vs)
    put_field_this a e r g cs vs w passes =
        let p = taking (is_type_of l) room a lc cs (needs_of type) [] e g passes in
        let this = in_local s declared f type typed name named a cs r passes in
        let o = operand_there (moves letter type moved) [] cs vs w (subst (λ (ns : List Need). has_wrong
        (is_type_of l) ns
        cs ≡ false) (sym (append-nil (needs_of type))) p.operands) p.enough in
        let go : Value → List Value → Outcome = λ v below. receiver true lv below (λ q rest. thing_of m.heap q
        (λ j. object_in (λ class slots. put_slot (classes l) (slot_of same_field slots f) v (Go next rest lv
        (with_thing m j
        (Object class (slots_with same_field slots f v))))))) in
        subst (λ (x : List Cell). Goes l t next x lc m (effect (classes l) (Put true letter f) room next lv m vs))
        (sym (behind a lc cs (needs_of type) [] e g))
        (subst (λ (x : Outcome). Goes l t next (drop (length (needs_of type)) cs) lc m x) (sym (o.is go))
        (subst (λ (q : Option (Option Value)). Goes l t next (drop (length (needs_of type)) cs) lc m (with_some Stick q
        (λ (x : Option Value). with_some Stick x (λ (v : Value). thing_of m.heap v (λ j. object_in
        (λ class slots. put_slot (classes l) (slot_of same_field slots f) o.value (Go next o.rest lv (with_thing m j
        (Object class
        (slots_with same_field slots f o.value)))))))))) (sym this.found)
        (put_goes f typed o.value o.typed this.value this.receives (drop (length (needs_of type)) cs) o.rest o.below)))

  module _ (c : StaticCell) (type : ValueType) (typed : t.cell c ≡ Some type) (letter : Letter)
      (moved : is_moved_by letter type ≡ true) where
    -- getstatic
    pub get_cell : (a : Act) → a.takes ≡ [] → a.gives ≡ words type → (cs : List Cell) (vs : List Value)
        → AreWords (object_is l m.heap) cs vs → Passes (is_type_of l) room a lc cs
        → Goes l t next (stack_behind a lc cs) lc m (effect (classes l) (GetStatic letter c) room next lv m vs)
    get_cell a e g cs vs w passes =
        let p = taking (is_type_of l) room a lc cs [] (words type) e g passes in
        let is = given_words lc cs type in
        let got = gets_cell l t m.heap m.statics fit.cells c type letter typed moved in
        subst (λ (x : List Cell). Goes l t next x lc m (effect (classes l) (GetStatic letter c) room next lv m vs))
        (sym (behind a lc cs [] (words type) e g ∙ ap (λ (x : List Cell). x ++ cs) is))
        (subst (λ (o : Option Value). Goes l t next (cells_of type ++ cs) lc m (with_some Stick o
        (λ v. words_of letter v
        Stick (λ ws. onward ws room next lv m vs)))) (sym got.1) (value_goes l t room next lc lv m k fit
        (moves letter type moved) got.0 got.2 cs vs w (subst (λ (x : List Cell). nat_lt room (length (x ++ cs))
        ≡ false) is
        p.after)))

    -- putstatic
    pub put_cell : (a : Act) → a.takes ≡ needs_of type → a.gives ≡ [] → (cs : List Cell) (vs : List Value)
        → AreWords (object_is l m.heap) cs vs → Passes (is_type_of l) room a lc cs
        → Goes l t next (stack_behind a lc cs) lc m (effect (classes l) (PutStatic letter c) room next lv m vs)
    put_cell a e g cs vs w passes =
        let p = taking (is_type_of l) room a lc cs (needs_of type) [] e g passes in
        let o = operand_there (moves letter type moved) [] cs vs w (subst (λ (ns : List Need). has_wrong
        (is_type_of l) ns
        cs ≡ false) (sym (append-nil (needs_of type))) p.operands) p.enough in
        let put = puts_cell l t m.heap m.statics fit.cells c type letter typed moved o.value o.typed in
        let go : Value → List Value → Outcome = λ v rest. with_some Stick (put_static letter c v m.statics)
        (λ (x : List Image). Go next rest lv (record m { statics = x })) in
        subst (λ (x : List Cell). Goes l t next x lc m (effect (classes l) (PutStatic letter c) room next lv m vs))
        (sym (behind a lc cs (needs_of type) [] e g))
        (subst (λ (x : Outcome). Goes l t next (drop (length (needs_of type)) cs) lc m x) (sym (o.is go))
        (subst (λ (q : Option (List Image)). Goes l t next (drop (length (needs_of type)) cs) lc m (with_some Stick q
        (λ (x : List Image). Go next o.rest lv (record m { statics = x })))) (sym put.1) (
          refl,
          (
            o.below,
            (
              k,
              (
                record {
                  numbers = fit.numbers;
                  references = fit.references;
                  slots = fit.slots;
                  cells = put.2;
                },
                extends_itself m.heap,
              ),
            ),
          ),
        )))

  -- new
  pub new_object : SupersStand l → AreDeclared l t → (class : Class) → is_interface l class ≡ false → (name : List ℕ)
      → shape_by l name ≡ Some (OfClass class) → (a : Act) → a.takes ≡ [] → a.gives ≡ AnObject name ∷ []
      → (cs : List Cell) (vs : List Value) → AreWords (object_is l m.heap) cs vs → Passes (is_type_of l) room a lc cs
      → Goes l t next (stack_behind a lc cs) lc m (effect (classes l) (New class) room next lv m vs)
  new_object s declared class made_of name named a e g cs vs w passes =
      let p = taking (is_type_of l) room a lc cs [] (AnObject name ∷ []) e g passes in
      let slots = slots_upwards l (depth l) (Some class) in
      let is : fresh l class ≡ Some slots = ap (λ b. if b then None else Some (slots_upwards l (depth l) (Some class)))
      made_of in
      let thing : HeapObject Class Field = Object class slots in
      let kind : thing_is l (Some thing) (shape_by l name) ≡ true = ap (thing_is l (Some thing)) named ∙ of_itself l
      (OfClass class) in
      subst (λ (x : List Cell). Goes l t next x lc m (effect (classes l) (New class) room next lv m vs))
      (sym (behind a lc cs [] (AnObject name ∷ []) e g))
      (subst (λ (o : Option (List (Slot Field))). Goes l t next (Refs (name ∷ []) ∷ cs) lc m (with_some Stick o
      (λ (x : List (Slot Field)). made (Object class x) room next lv m vs))) (sym is)
      (new_goes l t room next lc lv m k fit thing tt tt (fresh_slots l t s declared (object_is l m.heap) class slots is)
      name kind cs vs w p.after))
