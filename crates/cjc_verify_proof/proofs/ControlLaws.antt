-- Instructions that jump, throw or return lead where their rows say.
use Rattle.std.proofs.Common.{◌≡◌, ◌≤◌, ℕ, zero, suc, Bool, true, false, not, List, [], ◌∷◌, length, drop, map}
use Rattle.std.proofs.Common.{slice_get, Option, Some, None, refl, arith, ℤ}
use Rattle.std.specs.Prelude.{if◌then◌else◌, Contains}
use Rattle.std.specs.Int.RustNames.{int_le}
use Rattle.std.proofs.lemmas.Bool.{or_parts}
use Rattle.cjc_script.specs.declared.value.Value.{Value}
use Rattle.cjc_script.specs.declared.value.Value.TheVariants.{Num, Null, Obj}
use Rattle.cjc_types.specs.declared.cell.Cell.{Cell}
use Rattle.cjc_types.specs.declared.cell.Cell.TheVariants.{Number, Refs}
use Rattle.cjc_types.specs.Rules.{all_types}
use Rattle.cjc_card_semantics.specs.Bytecode.Calculations.{Test, Choice, Takes, Neither, one_number, one_int}
use Rattle.cjc_card_semantics.specs.Bytecode.Effects.{Letter, Reference, Short, Int, Throw, Return, Arm}
use Rattle.cjc_card_semantics.specs.Bytecode.Effects.{Memory, Classes, Effect, Go, Stick, arm_of, chosen, thrown}
use Rattle.cjc_card_semantics.specs.Bytecode.Effects.{effect_of_access, effect, Pick, Branch}
use Rattle.cjc_card_semantics.specs.Machine.Loaded.{Loaded}
use Rattle.cjc_card_semantics.specs.Machine.Classes.{Class, Field}
use Rattle.cjc_card_semantics.specs.Machine.Statics.{StaticCell}
use Rattle.cjc_card_semantics.specs.Machine.Operations.{Callee}
use Rattle.cjc_frames.specs.declared.acts.Need.{Need}
use Rattle.cjc_frames.specs.Acts.{Subtype, has_wrong}
use Rattle.cjc_card_acts.specs.Rows.{number_words}
use Rattle.cjc_card_acts.specs.CardTypes.{ValueType, needs_of, is_returned_by, is_type_of}
use Rattle.cjc_card_acts.specs.CardTypes as types
use Rattle.cjc_verify_proof.specs.Words.{IsWord, AreWords, AreLocals, Chooses}
use Rattle.cjc_verify_proof.specs.Heaps.{object_is}
use Rattle.cjc_verify_proof.specs.Beside.{BesideTest, goto, a_null, same}
use Rattle.cjc_verify_proof.specs.Beside as row
use Rattle.cjc_verify_proof.specs.Control.{next_if, cells_of, switched_words, Leads, Throws, Returns}
use Rattle.cjc_verify_proof.proofs.WordLaws.{Tops, behind, number, tops, true_of}
use Rattle.cjc_verify_proof.proofs.TestLaws.{test_chooses}
use Rattle.cjc_verify_proof.proofs.FlowLaws.{in_first}
use Rattle.cjc_verify_proof.proofs.TypeLaws.{word_of_type, of_only}
use Rattle.cjc_script.proofs.BytesGets.{contained, contains_at}

-- ---- switches' places

-- the arm of a switch is one of its places
arm_among : (other : ℕ) (arms : List Arm) (x : ℤ) → Contains (other ∷ map (λ (a : Arm). a.to) arms) (arm_of other arms
    x)
arm_among other [] x = in_first other []
arm_among other (a ∷ arms) x = go (int_le a.value x) (int_le x a.value) (arm_among other arms x)
  where
    rest : List ℕ
    rest = map (λ (a : Arm). a.to) arms

    over : (k : ℕ) → Contains (other ∷ rest) k → Contains (other ∷ a.to ∷ rest) k
    over k h = go (contains_at (other ∷ rest) k h)
      where
        go : (i : ℕ) × (slice_get (other ∷ rest) i ≡ Some k) → Contains (other ∷ a.to ∷ rest) k
        go h = by h.0 h.1
          where
            by : (i : ℕ) → slice_get (other ∷ rest) i ≡ Some k → Contains (other ∷ a.to ∷ rest) k
            by zero e = contained (other ∷ a.to ∷ rest) 0 k e
            by (suc i) e = contained (other ∷ a.to ∷ rest) (suc (suc i)) k e

    go : (b c : Bool) → Contains (other ∷ rest) (arm_of other arms x)
        → Contains (other ∷ a.to ∷ rest) (if b then (if c then a.to else arm_of other arms x) else arm_of other arms x)
    go true true h = contained (other ∷ a.to ∷ rest) 1 a.to refl
    go true false h = over (arm_of other arms x) h
    go false c h = over (arm_of other arms x) h

module _ {X : Type 0} (l : Loaded) (room next : ℕ) (lc : List Cell) (lv : List (Option Value)) (m : Memory Class Field
    X) (k : AreLocals (object_is l m.heap) lc lv) where
  -- ---- switches

  abbrev Picked : (other : ℕ) → List Arm → List Cell → Effect Class Field Callee X → Type 0
  Picked other arms cs e = Leads l (other ∷ map (λ (a : Arm). a.to) arms) cs lc m e

  word_picks : (other : ℕ) (arms : List Arm) {cs : List Cell} {vs : List Value} → Tops (object_is l m.heap) 1 cs vs
      → Picked other arms (drop 1 cs) (one_number Stick vs (λ x rest. Go (arm_of other arms x) rest lv m))
  word_picks other arms (number x (behind w)) = (arm_among other arms x, (w, (k, refl)))

  int_picks : (other : ℕ) (arms : List Arm) {cs : List Cell} {vs : List Value} → Tops (object_is l m.heap) 2 cs vs
      → Picked other arms (drop 2 cs) (one_int Stick vs (λ x rest. Go (arm_of other arms x) rest lv m))
  int_picks other arms (number low (number high (behind w))) = (arm_among other arms _, (w, (k, refl)))

  pub picks : (classes : Classes Class Field StaticCell X) (is_of : Subtype) (is_int : Bool) (other : ℕ)
      (arms : List Arm) (cs : List Cell) (vs : List Value) → AreWords (object_is l m.heap) cs vs
      → has_wrong is_of (number_words (switched_words is_int)) cs ≡ false
      → length (number_words (switched_words is_int)) ≤ length cs
      → Picked other arms (drop (switched_words is_int) cs) (effect classes (Pick is_int other arms) room next lv m vs)
  picks classes is_of true other arms cs vs w h o = int_picks other arms (tops (object_is l m.heap) is_of 2 cs vs w h o)
  picks classes is_of false other arms cs vs w h o = word_picks other arms (tops (object_is l m.heap) is_of 1 cs vs w h
      o)

  -- ---- jumps

  choice_leads : (to : ℕ) (cs : List Cell) (c : Choice) → Chooses (object_is l m.heap) cs c
      → Leads l (to ∷ next_if true next) cs lc m (chosen c to next lv m)
  choice_leads to cs (Takes true rest) w = (in_first to (next ∷ []), (w, (k, refl)))
  choice_leads to cs (Takes false rest) w = (contained (to ∷ next ∷ []) 1 next refl, (w, (k, refl)))
  choice_leads to cs Neither w = absurd w

  pub jump_leads : (classes : Classes Class Field StaticCell X) (is_of : Subtype) (to : ℕ) (needs : List Need)
      (falls : Bool) (test : Test) → BesideTest needs falls test → (cs : List Cell) (vs : List Value)
      → AreWords (object_is l m.heap) cs vs → has_wrong is_of needs cs ≡ false → length needs ≤ length cs
      → Leads l (to ∷ next_if falls next) (drop (length needs) cs) lc m (effect classes (Branch test to) room next lv m
      vs)
  jump_leads classes is_of to needs falls test goto cs vs w h o = (in_first to [], (w, (k, refl)))
  jump_leads classes is_of to needs falls test (row.number f) cs vs w h o = choice_leads to (drop (length needs)
      cs) (test vs) (test_chooses (object_is l m.heap) is_of needs falls test (row.number f) cs vs w h o)
  jump_leads classes is_of to needs falls test (row.numbers f) cs vs w h o = choice_leads to (drop (length needs)
      cs) (test vs) (test_chooses (object_is l m.heap) is_of needs falls test (row.numbers f) cs vs w h o)
  jump_leads classes is_of to needs falls test (a_null t) cs vs w h o = choice_leads to (drop (length needs) cs)
      (test vs) (test_chooses (object_is l m.heap) is_of needs falls test (a_null t) cs vs w h o)
  jump_leads classes is_of to needs falls test (same t) cs vs w h o = choice_leads to (drop (length needs) cs)
      (test vs) (test_chooses (object_is l m.heap) is_of needs falls test (same t) cs vs w h o)

  -- ---- exceptions

  thrown_by : (type : List ℕ) (v : Value) → IsWord (object_is l m.heap) (Refs (type ∷ [])) v
      → Throws {X = X} l type m (thrown v)
  thrown_by type (Num z) w = absurd w
  thrown_by type Null w = tt
  thrown_by type (Obj j) w = of_only l m.heap type j w

  pub throws : (classes : Classes Class Field StaticCell X) (type : List ℕ) (c : Cell) (cs : List Cell) (v : Value)
      (vs : List Value) → all_types (λ t. is_type_of l t type) c ≡ true
      → AreWords (object_is l m.heap) (c ∷ cs) (v ∷ vs)
      → Throws l type m (effect_of_access classes Throw room next lv m (v ∷ vs))
  throws classes type c cs v vs e w = thrown_by type v (word_of_type l m.heap type c v e w.0)

  -- ---- returns

  abbrev Left : Option Letter → types.ValueType → List Value → Type 0
  Left letter t vs = (classes : Classes Class Field StaticCell X) → Returns l t m (effect_of_access classes
      (Return letter) room next lv m vs)

  reference_left : (type : List ℕ) (v : Value) (vs : List Value)
      → IsWord (object_is l m.heap) (Refs (type ∷ [])) v → Left (Some Reference) (types.Reference type) (v ∷ vs)
  reference_left type (Num z) vs w classes = absurd w
  reference_left type Null vs w classes = (w, tt)
  reference_left type (Obj j) vs w classes = (w, tt)

  references_left : (type : List ℕ) (cs : List Cell) (vs : List Value) → AreWords (object_is l m.heap) cs vs
      → has_wrong (is_type_of l) (needs_of (types.Reference type)) cs ≡ false → 1 ≤ length cs
      → Left (Some Reference) (types.Reference type) vs
  references_left type [] vs w h o classes = absurd (omega (arith, o))
  references_left type (c ∷ cs) [] w h o classes = absurd w
  references_left type (c ∷ cs) (v ∷ vs) w h o classes =
      let meets = true_of (all_types (λ t. is_type_of l t type) c) (or_parts (not (all_types (λ t. is_type_of l t type)
      c)) false h).0 in
      reference_left type v vs (word_of_type l m.heap type c v meets w.0) classes

  word_left : (t : types.ValueType) → ((z : ℤ) → IsWord (object_is l m.heap) Number (Num z)
      → AreWords (object_is l m.heap) (cells_of t) (Num z ∷ [])) → {cs : List Cell} {vs : List Value}
      → Tops (object_is l m.heap) 1 cs vs → Left (Some Short) t vs
  word_left t f (number z (behind w)) classes = f z tt

  int_left : {cs : List Cell} {vs : List Value} → Tops (object_is l m.heap) 2 cs vs → Left (Some Int) types.Int vs
  int_left (number low (number high (behind w))) classes = (tt, (tt, tt))

  pub leaves : (letter : Option Letter) (t : types.ValueType) → is_returned_by letter t ≡ true → (cs : List Cell)
      (vs : List Value) → AreWords (object_is l m.heap) cs vs → has_wrong (is_type_of l) (needs_of t) cs ≡ false
      → length (needs_of t) ≤ length cs → Left letter t vs
  leaves None types.Void e cs vs w h o classes = tt
  leaves (Some Reference) (types.Reference type) e cs vs w h o classes = references_left type cs vs w h o classes
  leaves (Some Short) types.Boolean e cs vs w h o classes = word_left types.Boolean (λ z i. (i, tt))
      (tops (object_is l m.heap) (is_type_of l) 1 cs vs w h o) classes
  leaves (Some Short) types.Byte e cs vs w h o classes = word_left types.Byte (λ z i. (i, tt))
      (tops (object_is l m.heap) (is_type_of l) 1 cs vs w h o) classes
  leaves (Some Short) types.Short e cs vs w h o classes = word_left types.Short (λ z i. (i, tt))
      (tops (object_is l m.heap) (is_type_of l) 1 cs vs w h o) classes
  leaves (Some Int) types.Int e cs vs w h o classes = int_left (tops (object_is l m.heap) (is_type_of l) 2 cs vs w h o)
      classes
  leaves letter t e cs vs w h o classes = cc
