-- What static cells hold, and what a put leaves of them.
use Rattle.std.proofs.Common.{◌≡◌, ◌≤◌, ◌<◌, ◌+◌, ◌-◌, ◌*◌, ◌/◌, ◌%◌, ℕ, zero, suc, Bool, true, false, List, [], ◌∷◌}
use Rattle.std.proofs.Common.{length, drop, slice_get, slice_set, Option, Some, None, refl, sym, ap, subst, ◌∙◌, arith}
use Rattle.std.proofs.Common.{inl, inr, leb-true, leb-false, length-drop}
use Rattle.std.specs.Prelude.{◌==◌, nat_le, if◌then◌else◌, option_and_then, option_map}
use Rattle.std.specs.Int.{w8, w16, cast_signed}
use Rattle.std.proofs.lemmas.Int.{ints}
use Rattle.cjc_script.specs.declared.value.Value.{Value}
use Rattle.cjc_card_semantics.specs.Bytecode.Numbers.{is_word}
use Rattle.cjc_card_semantics.specs.Bytecode.Effects.{HeapObject, Letter, Reference, Byte, Short, Int}
use Rattle.cjc_card_semantics.specs.Machine.Loaded.{Loaded}
use Rattle.cjc_card_semantics.specs.Machine.Classes.{Class, Field}
use Rattle.cjc_card_semantics.specs.Machine.Statics.{Image, StaticCell, bytes_at, cell_in, cell_put, get_static}
use Rattle.cjc_card_semantics.specs.Machine.Statics.{image_put, number_bytes, number_in, overwritten, put_static}
use Rattle.cjc_card_acts.specs.CardTypes.{ValueType, is_moved_by}
use Rattle.cjc_card_acts.specs.CardTypes as types
use Rattle.cjc_verify_proof.specs.Heaps.{object_is}
use Rattle.cjc_verify_proof.specs.Values.{IsValue, Holds}
use Rattle.cjc_verify_proof.specs.Memories.{FieldTypes, AreCells}
use Rattle.cjc_script.proofs.BytesGets.{get_set_other, set_same}
use Rattle.cjc_script.proofs.BytesNumbers.{number_same, same_place}
use Rattle.cjc_verify_proof.proofs.StoreLaws.{within}

-- ---- words

pub byte_signed : (n : ℕ) → is_word (cast_signed w8 n) ≡ true
byte_signed n = within (cast_signed w8 n) (omega (arith, ints)) (omega (arith, ints))

pub short_signed : (n : ℕ) → is_word (cast_signed w16 n) ≡ true
short_signed n = within (cast_signed w16 n) (omega (arith, ints)) (omega (arith, ints))

-- ---- letters and the types of what they move

pub data Moves : Letter → ValueType → Type 0 where
  of_booleans : Moves Byte types.Boolean
  of_bytes : Moves Byte types.Byte
  of_shorts : Moves Short types.Short
  of_ints : Moves Int types.Int
  of_references : (type : List ℕ) → Moves Reference (types.Reference type)

pub moves : (letter : Letter) (type : ValueType) → is_moved_by letter type ≡ true → Moves letter type
moves Byte types.Boolean e = of_booleans
moves Byte types.Byte e = of_bytes
moves Short types.Short e = of_shorts
moves Int types.Int e = of_ints
moves Reference (types.Reference type) e = of_references type
moves Byte types.Void e = cc
moves Byte types.Short e = cc
moves Byte types.Int e = cc
moves Byte (types.Reference type) e = cc
moves Short types.Void e = cc
moves Short types.Boolean e = cc
moves Short types.Byte e = cc
moves Short types.Int e = cc
moves Short (types.Reference type) e = cc
moves Int types.Void e = cc
moves Int types.Boolean e = cc
moves Int types.Byte e = cc
moves Int types.Short e = cc
moves Int (types.Reference type) e = cc
moves Reference types.Void e = cc
moves Reference types.Boolean e = cc
moves Reference types.Byte e = cc
moves Reference types.Short e = cc
moves Reference types.Int e = cc

pub moved_back : {letter : Letter} {type : ValueType} → Moves letter type → is_moved_by letter type ≡ true
moved_back of_booleans = refl
moved_back of_bytes = refl
moved_back of_shorts = refl
moved_back of_ints = refl
moved_back (of_references type) = refl

-- a letter of numbers
abbrev pub IsOfNumbers : Letter → Type 0
IsOfNumbers Reference = ⊥
IsOfNumbers Byte = Unit {0}
IsOfNumbers Short = Unit {0}
IsOfNumbers Int = Unit {0}

-- in bytes
abbrev pub size : Letter → ℕ
size Reference = 2
size Byte = 1
size Short = 2
size Int = 4

some_size : (letter : Letter) → 0 < size letter
some_size Reference = omega arith
some_size Byte = omega arith
some_size Short = omega arith
some_size Int = omega arith

-- ---- numbers in bytes

-- the cell of a number lies behind the reference cells and within the image
pub record HasBytes (letter : Letter) (i : Image) (offset : ℕ) : Type 0 where
  pub behind : 2 * length i.references ≤ offset
  pub within : offset + size letter ≤ 2 * length i.references + length i.bytes

module _ (is : (type : List ℕ) → (object : ℕ) → Bool) where
  -- bytes that are enough spell a number of each type that the letter moves
  long_holds : {letter : Letter} {type : ValueType} → Moves letter type → IsOfNumbers letter → (bytes : List ℕ)
      → size letter ≤ length bytes → Holds is type (number_in letter bytes)
  long_holds of_booleans n [] le = absurd (omega (arith, le))
  long_holds of_booleans n (a ∷ bytes) le = byte_signed a
  long_holds of_bytes n [] le = absurd (omega (arith, le))
  long_holds of_bytes n (a ∷ bytes) le = byte_signed a
  long_holds of_shorts n [] le = absurd (omega (arith, le))
  long_holds of_shorts n (a ∷ []) le = absurd (omega (arith, le))
  long_holds of_shorts n (a ∷ b ∷ bytes) le = short_signed (256 * a + b)
  long_holds of_ints n [] le = absurd (omega (arith, le))
  long_holds of_ints n (a ∷ []) le = absurd (omega (arith, le))
  long_holds of_ints n (a ∷ b ∷ []) le = absurd (omega (arith, le))
  long_holds of_ints n (a ∷ b ∷ c ∷ []) le = absurd (omega (arith, le))
  long_holds of_ints n (a ∷ b ∷ c ∷ d ∷ bytes) le = tt
  long_holds (of_references type) n bytes le = absurd n

  -- where they spell one, they are enough
  holds_long : {letter : Letter} {type : ValueType} → Moves letter type → IsOfNumbers letter → (bytes : List ℕ)
      → Holds is type (number_in letter bytes) → size letter ≤ length bytes
  holds_long of_booleans n [] h = absurd h
  holds_long of_booleans n (a ∷ bytes) h = omega arith
  holds_long of_bytes n [] h = absurd h
  holds_long of_bytes n (a ∷ bytes) h = omega arith
  holds_long of_shorts n [] h = absurd h
  holds_long of_shorts n (a ∷ []) h = absurd h
  holds_long of_shorts n (a ∷ b ∷ bytes) h = omega arith
  holds_long of_ints n [] h = absurd h
  holds_long of_ints n (a ∷ []) h = absurd h
  holds_long of_ints n (a ∷ b ∷ []) h = absurd h
  holds_long of_ints n (a ∷ b ∷ c ∷ []) h = absurd h
  holds_long of_ints n (a ∷ b ∷ c ∷ d ∷ bytes) h = omega arith
  holds_long (of_references type) n bytes h = absurd n

  cell_is : (letter : Letter) → IsOfNumbers letter → (i : Image) (offset : ℕ)
      → cell_in letter i offset ≡ option_and_then (number_in letter) (bytes_at i offset)
  cell_is Reference n i offset = absurd n
  cell_is Byte n i offset = refl
  cell_is Short n i offset = refl
  cell_is Int n i offset = refl

  pub bytes_hold : {letter : Letter} {type : ValueType} → Moves letter type → IsOfNumbers letter → (i : Image)
      (offset : ℕ) → HasBytes letter i offset → Holds is type (cell_in letter i offset)
  bytes_hold {letter = letter} {type = type} mv n i offset h = subst (Holds is type) (sym (cell_is letter n i offset))
      (go (nat_le (2 * length i.references) offset) refl)
    where
      go : (b : Bool) → nat_le (2 * length i.references) offset ≡ b
          → Holds is type (option_and_then (number_in letter) (if b then Some (drop (offset - 2 * length i.references)
          i.bytes) else None))
      go true e =
          let long = length-drop (offset - 2 * length i.references) i.bytes in
          long_holds mv n (drop (offset - 2 * length i.references) i.bytes) (omega (arith, long, h.behind, h.within))
      go false e = let more = leb-false (2 * length i.references) offset e in absurd (omega (arith, more, h.behind))

  pub hold_bytes : {letter : Letter} {type : ValueType} → Moves letter type → IsOfNumbers letter → (i : Image)
      (offset : ℕ) → Holds is type (cell_in letter i offset) → HasBytes letter i offset
  hold_bytes {letter = letter} {type = type} mv n i offset h = go (nat_le (2 * length i.references) offset) refl
      (subst (Holds is type) (cell_is letter n i offset) h)
    where
      go : (b : Bool) → nat_le (2 * length i.references) offset ≡ b
          → Holds is type (option_and_then (number_in letter) (if b then Some (drop (offset - 2 * length i.references)
          i.bytes) else None)) → HasBytes letter i offset
      go true e f =
          let long = length-drop (offset - 2 * length i.references) i.bytes in
          let enough = holds_long mv n (drop (offset - 2 * length i.references) i.bytes) f in
          let le = leb-true (2 * length i.references) offset e in
          let some = some_size letter in
          record { behind = le; within = omega (arith, long, enough, le, some) }
      go false e f = absurd f

  -- an image of the same lengths
  number_kept : {letter : Letter} {type : ValueType} → Moves letter type → IsOfNumbers letter → (i j : Image)
      (offset : ℕ) → length j.references ≡ length i.references → length j.bytes ≡ length i.bytes
      → Holds is type (cell_in letter i offset) → Holds is type (cell_in letter j offset)
  number_kept mv n i j offset refs bytes h =
      let r = hold_bytes mv n i offset h in
      let low = r.behind in
      let high = r.within in
      bytes_hold mv n j offset (record {
        behind = omega (arith, refs, low);
        within = omega (arith, refs, bytes, high);
      })

-- ---- puts

set_long : {A : Type 0} (xs : List A) (k : ℕ) (x : A) → length (slice_set xs k x) ≡ length xs
set_long [] k x = refl
set_long (y ∷ xs) zero x = refl
set_long (y ∷ xs) (suc k) x = ap suc (set_long xs k x)

written_long : (bytes : List ℕ) (at : ℕ) (new : List ℕ) → length (overwritten bytes at new) ≡ length bytes
written_long bytes at [] = refl
written_long bytes at (b ∷ new) = written_long (slice_set bytes at b) (at + 1) new ∙ set_long bytes at b

put_references : (letter : Letter) (v : Value) (i : Image) (offset : ℕ)
    → (let j = cell_put letter v i offset in length j.references) ≡ length i.references
put_references Reference v i offset = set_long i.references (offset / 2) v
put_references Byte v i offset = refl
put_references Short v i offset = refl
put_references Int v i offset = refl

put_bytes : (letter : Letter) (v : Value) (i : Image) (offset : ℕ)
    → (let j = cell_put letter v i offset in length j.bytes) ≡ length i.bytes
put_bytes Reference v i offset = refl
put_bytes Byte v i offset = written_long i.bytes (offset - 2 * length i.references) (number_bytes Byte v)
put_bytes Short v i offset = written_long i.bytes (offset - 2 * length i.references) (number_bytes Short v)
put_bytes Int v i offset = written_long i.bytes (offset - 2 * length i.references) (number_bytes Int v)

-- a reference cell that is there
record IsThereAt (i : Image) (offset : ℕ) (old : Value) : Type 0 where
  even : (offset % 2 == 0) ≡ true
  held : slice_get i.references (offset / 2) ≡ Some old

reference_there : (i : Image) (offset : ℕ) (old : Value) → cell_in Reference i offset ≡ Some old
    → IsThereAt i offset old
reference_there i offset old e = go (offset % 2 == 0) refl e
  where
    go : (b : Bool) → (offset % 2 == 0) ≡ b
        → option_and_then (slice_get i.references) (if b then Some (offset / 2) else None) ≡ Some old
        → IsThereAt i offset old
    go true even h = record { even = even; held = h }
    go false odd h = cc

-- a cell and its offset
same_cell : (u s : StaticCell) → u.part ≡ s.part → u.offset ≡ s.offset → u ≡ s
same_cell u s parts offsets = ap (λ p. record { part = p; offset = u.offset }) parts
    ∙ ap (λ o. record { part = s.part; offset = o }) offsets

module _ (l : Loaded) (t : FieldTypes) (heap : List (HeapObject Class Field)) (images : List Image)
    (cells : AreCells l t heap images) (s : StaticCell) (type : ValueType) (typed : t.cell s ≡ Some type)
    (letter : Letter) (mv : Moves letter type) where
  -- the cell is there
  pub record IsThere : Type 0 where
    pub image : Image
    pub old : Value
    pub at : slice_get images s.part ≡ Some image
    pub held : cell_in letter image s.offset ≡ Some old
    pub value : IsValue (object_is l heap) type old

  pub there : IsThere
  there = by (slice_get images s.part) refl (cells s type letter typed (moved_back mv))
    where
      in_image : (i : Image) → slice_get images s.part ≡ Some i → (o : Option Value) → cell_in letter i s.offset ≡ o
          → Holds (object_is l heap) type o → IsThere
      in_image i at None e h = absurd h
      in_image i at (Some old) e h = record { image = i; old = old; at = at; held = e; value = h }

      by : (o : Option Image) → slice_get images s.part ≡ o
          → Holds (object_is l heap) type (option_and_then (λ (i : Image). cell_in letter i s.offset) o) → IsThere
      by None e h = absurd h
      by (Some i) e h = in_image i e (cell_in letter i s.offset) refl h

  pub get_is : (there : IsThere) → get_static letter s images ≡ Some there.old
  get_is x = ap (option_and_then (λ (i : Image). cell_in letter i s.offset)) x.at ∙ x.held

  module _ (v : Value) (new : IsValue (object_is l heap) type v) (x : IsThere) where
    abbrev changed : Image
    changed = cell_put letter v x.image s.offset

    abbrev pub after : List Image
    after = slice_set images s.part changed

    pub put_is : put_static letter s v images ≡ Some after
    put_is = ap (option_and_then (image_put letter s v images)) x.at
        ∙ ap (option_map (λ (old : Value). slice_set images s.part (cell_put letter v x.image s.offset))) x.held

    -- a reference cell of the image that is changed
    reference_kept : (u : StaticCell) (name : List ℕ) → u.part ≡ s.part → t.cell u ≡ Some (types.Reference name)
        → Holds (object_is l heap) (types.Reference name) (cell_in Reference x.image u.offset)
        → Holds (object_is l heap) (types.Reference name) (cell_in Reference changed u.offset)
    reference_kept u name parts is h = by letter mv x.held typed new
      where
        put : (held : cell_in Reference x.image s.offset ≡ Some x.old) (mine : List ℕ) → t.cell s
            ≡ Some (types.Reference mine) → IsValue (object_is l heap) (types.Reference mine) v
            → Holds (object_is l heap) (types.Reference name) (cell_in Reference (cell_put Reference v x.image s.offset)
            u.offset)
        put held mine my_type w = go (u.offset % 2 == 0) refl h
          where
            r : IsThereAt x.image s.offset x.old
            r = reference_there x.image s.offset x.old held

            go : (b : Bool) → (u.offset % 2 == 0) ≡ b
                → Holds (object_is l heap) (types.Reference name) (option_and_then (slice_get
                (let i = x.image in i.references)) (if b then Some (u.offset / 2) else None))
                → Holds (object_is l heap) (types.Reference name) (option_and_then (slice_get
                (slice_set (let i = x.image in i.references) (s.offset / 2) v)) (if b then Some (u.offset / 2)
                else None))
            go false odd f = absurd f
            go true even f = elim (same_place (u.offset / 2) (s.offset / 2)) [
              | inl same ↦ (let a = number_same (u.offset % 2) 0 even in
                  let b = number_same (s.offset % 2) 0 r.even in
                  let offsets : u.offset ≡ s.offset = omega (arith, a, b, same) in
                  let is_cell = same_cell u s parts offsets in
                  let both : Some (types.Reference mine) ≡ Some (types.Reference name) = sym my_type
                  ∙ sym (ap t.cell is_cell) ∙ is in
                  let type_same : types.Reference mine ≡ types.Reference name = cc in
                  let got : slice_get (slice_set (let i = x.image in i.references) (s.offset / 2) v) (u.offset / 2)
                  ≡ Some v = ap (slice_get (slice_set (let i = x.image in i.references) (s.offset / 2) v)) same
                  ∙ set_same (let i = x.image in i.references) (s.offset / 2) v x.old r.held in
                  subst (Holds (object_is l heap) (types.Reference name)) (sym got) (subst (λ ty. IsValue
                  (object_is l heap)
                  ty v) type_same w))
              | inr differs ↦ subst (Holds (object_is l heap) (types.Reference name)) (sym (get_set_other
                  (let i = x.image in i.references) (s.offset / 2) (u.offset / 2) v differs)) f
            ]

        by : (letter : Letter) {type : ValueType} → Moves letter type → cell_in letter x.image s.offset ≡ Some x.old
            → t.cell s ≡ Some type → IsValue (object_is l heap) type v
            → Holds (object_is l heap) (types.Reference name) (cell_in Reference (cell_put letter v x.image s.offset)
            u.offset)
        by Byte of_booleans held my_type w = h
        by Byte of_bytes held my_type w = h
        by Short of_shorts held my_type w = h
        by Int of_ints held my_type w = h
        by Reference (of_references mine) held my_type w = put held mine my_type w

    number_stays : (u : StaticCell) {other : Letter} {its : ValueType} → Moves other its → IsOfNumbers other
        → Holds (object_is l heap) its (cell_in other x.image u.offset)
        → Holds (object_is l heap) its (cell_in other changed u.offset)
    number_stays u mv n h = number_kept (object_is l heap) mv n x.image changed u.offset
        (put_references letter v x.image s.offset) (put_bytes letter v x.image s.offset) h

    image_kept : (u : StaticCell) (its : ValueType) (other : Letter) → u.part ≡ s.part → t.cell u ≡ Some its
        → Moves other its → Holds (object_is l heap) its (cell_in other x.image u.offset)
        → Holds (object_is l heap) its (cell_in other changed u.offset)
    image_kept u _ _ parts is of_booleans h = number_stays u of_booleans tt h
    image_kept u _ _ parts is of_bytes h = number_stays u of_bytes tt h
    image_kept u _ _ parts is of_shorts h = number_stays u of_shorts tt h
    image_kept u _ _ parts is of_ints h = number_stays u of_ints tt h
    image_kept u _ _ parts is (of_references name) h = reference_kept u name parts is h

    -- all cells hold values of their types behind a put
    pub put_cells : AreCells l t heap after
    put_cells u its other is moved = elim (same_place u.part s.part) [
      | inl same ↦ (let was : slice_get images u.part ≡ Some x.image = ap (slice_get images) same ∙ x.at in
          let now : slice_get after u.part ≡ Some changed = ap (slice_get after) same ∙ set_same images s.part changed
          x.image x.at in
          let before : Holds (object_is l heap) its (cell_in other x.image u.offset) = subst
          (λ (o : Option Image). Holds (object_is l heap) its (option_and_then (λ (i : Image). cell_in other i
          u.offset) o)) was (cells u its other is moved) in
          subst (λ (o : Option Image). Holds (object_is l heap) its (option_and_then (λ (i : Image). cell_in other i
          u.offset) o)) (sym now) (image_kept u its other same is (moves other its moved) before))
      | inr differs ↦ subst (λ (o : Option Image). Holds (object_is l heap) its (option_and_then (λ (i : Image). cell_in
          other i u.offset) o)) (sym (get_set_other images s.part u.part changed differs)) (cells u its other is moved)
    ]

-- a put into a cell that has a type
pub puts_cell : (l : Loaded) (t : FieldTypes) (heap : List (HeapObject Class Field)) (images : List Image)
    → AreCells l t heap images → (s : StaticCell) (type : ValueType) (letter : Letter) → t.cell s ≡ Some type
    → is_moved_by letter type ≡ true → (v : Value) → IsValue (object_is l heap) type v
    → (after : List Image) × (put_static letter s v images ≡ Some after) × AreCells l t heap after
puts_cell l t heap images cells s type letter typed moved v new =
    let mv = moves letter type moved in
    let x = there l t heap images cells s type typed letter mv in (
      after l t heap images cells s type typed letter mv v new x,
      put_is l t heap images cells s type typed letter mv v new x,
      put_cells l t heap images cells s type typed letter mv v new x,
    )

-- what is got from a cell that has a type
pub gets_cell : (l : Loaded) (t : FieldTypes) (heap : List (HeapObject Class Field)) (images : List Image)
    → AreCells l t heap images → (s : StaticCell) (type : ValueType) (letter : Letter) → t.cell s ≡ Some type
    → is_moved_by letter type ≡ true
    → (v : Value) × (get_static letter s images ≡ Some v) × IsValue (object_is l heap) type v
gets_cell l t heap images cells s type letter typed moved =
    let mv = moves letter type moved in
    let x = there l t heap images cells s type typed letter mv in
    (x.old, get_is l t heap images cells s type typed letter mv x, x.value)
