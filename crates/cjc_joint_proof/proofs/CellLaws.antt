-- Static cells of several packages: what is said of one package's image, at its place among all.
use Rattle.std.proofs.Common.{◌≡◌, ℕ, zero, suc, ◌+◌, arith, refl, sym, ap, subst, ◌∙◌, Bool, true, false, List, []}
use Rattle.std.proofs.Common.{◌∷◌, ◌++◌, map}
use Rattle.std.specs.Prelude.{Option, Some, None, slice_get, slice_set, option_map, option_and_then, ◌&&◌, ◌||◌}
use Rattle.std.specs.Prelude.{if◌then◌else◌}
use Rattle.std.proofs.lemmas.Bool.{and_parts, and_from}
use Rattle.cjc_card_semantics.specs.Bytes.declared.fault.MemberId.{MemberId}
use Rattle.cjc_card_semantics.specs.Script.Sorts.{field_sort, zero_of}
use Rattle.cjc_card_semantics.specs.Script.declared.report.FieldValue.{FieldValue}
use Rattle.cjc_card_semantics.specs.Script.declared.value.Value.{Value}
use Rattle.cjc_card_semantics.specs.Bytecode.Effects.{IsOperand, Letter, same_kind, slot_of, slots_with}
use Rattle.cjc_card_semantics.specs.Bytecode.Renaming.{option_as}
use Rattle.cjc_card_semantics.specs.Machine.ByToken.{letter_of, shown_cell, shown_cells, value_or}
use Rattle.cjc_card_semantics.specs.Machine.Loaded.{CellName, Part}
use Rattle.cjc_card_semantics.specs.Machine.Statics as card
use Rattle.cjc_card_semantics.specs.Machine.Statics.{Image, cell_put, get_static, number_bytes, put_static}
use Rattle.cjc_token_proof.specs.NCode.ByLabel.{put_cell, shown_slot}
use Rattle.cjc_token_proof.specs.NCode.ByLabel.{put_static as put_by_name}
use Rattle.cjc_token_proof.specs.NCode.Lowering.Agreement.{Cells}
use Rattle.cjc_token_proof.specs.NCode.PoolOrder.{same_member}
use Rattle.cjc_token_proof.specs.ByToken.Cells.{HasCells, Order, are_cells, bytes_of}
use Rattle.cjc_token_proof.specs.ByToken.Cells.{cell_offset, fields, fits, image_of, is_one_of, letter, may_access}
use Rattle.cjc_token_proof.specs.ByToken.Cells.{same_letter, value_in, value_of}
use Rattle.cjc_token_proof.proofs.ByToken.Cells.{cells_agree}
use Rattle.cjc_token_proof.proofs.ByToken.Members.{behind_all, behind_one, front_all, front_one, member_tells}
use Rattle.cjc_joint_proof.specs.Cells.{HaveCells, JointCellsAgree, Statics, all_fields, cell_in, images_of, names_in}
use Rattle.cjc_joint_proof.specs.Cells.{names_of}

-- ---- cells one behind the other

-- the cells of the first fields, and those of the others
record Halves (a b : List MemberId) (cells : Cells) : Type 0 where
  front : Cells
  back : Cells
  whole : cells ≡ front ++ back
  first : are_cells a front ≡ true
  second : are_cells b back ≡ true

halves : (a b : List MemberId) (cells : Cells) → are_cells (a ++ b) cells ≡ true → Halves a b cells
halves [] b cells e = record { front = []; back = cells; whole = refl; first = refl; second = e }
halves (f ∷ a) b [] e = cc
halves (f ∷ a) b (s ∷ cells) e =
    let one = and_parts (same_member s.key f) (fits (letter f) s.value && are_cells (a ++ b) cells) e in
    let two = and_parts (fits (letter f) s.value) (are_cells (a ++ b) cells) one.1 in
    let r = halves a b cells two.1 in
    record {
      front = s ∷ r.front;
      back = r.back;
      whole = ap (λ xs. s ∷ xs) r.whole;
      first = and_from _ _ one.0 (and_from _ _ two.0 r.first);
      second = r.second;
    }

pub joined : (a b : List MemberId) (front back : Cells) → are_cells a front ≡ true → are_cells b back ≡ true
    → are_cells (a ++ b) (front ++ back) ≡ true
joined [] b [] back e h = h
joined [] b (s ∷ front) back e h = cc
joined (f ∷ a) b [] back e h = cc
joined (f ∷ a) b (s ∷ front) back e h =
    let one = and_parts (same_member s.key f) (fits (letter f) s.value && are_cells a front) e in
    let two = and_parts (fits (letter f) s.value) (are_cells a front) one.1 in
    and_from _ _ one.0 (and_from _ _ two.0 (joined a b front back two.1 h))

either : (t u : Bool) → (t || u) ≡ true → (t ≡ true → u ≡ true) → u ≡ true
either true u e h = h refl
either false u e h = e

-- a field of the first ones is among the first cells
in_front : (a : List MemberId) (front back : Cells) (f : MemberId) → are_cells a front ≡ true → is_one_of f a ≡ true
    → slot_of same_member (front ++ back) f ≡ slot_of same_member front f
in_front [] front back f e is = cc
in_front (g ∷ a) [] back f e is = cc
in_front (g ∷ a) (s ∷ front) back f e is =
    let one = and_parts (same_member s.key g) (fits (letter g) s.value && are_cells a front) e in
    let two = and_parts (fits (letter g) s.value) (are_cells a front) one.1 in
    by (same_member s.key f) refl (sym (member_tells s.key g one.0)) (in_front a front back f two.1)
  where
    by : (t : Bool) → same_member s.key f ≡ t → g ≡ s.key
        → (is_one_of f a ≡ true → slot_of same_member (front ++ back) f
        ≡ slot_of same_member front f) → (if t then Some s.value else slot_of same_member (front ++ back) f)
        ≡ (if t then Some s.value else slot_of same_member front f)
    by true h same rest = refl
    by false h same rest =
        let other : same_member g f ≡ false = ap (λ m. same_member m f) same ∙ h in
        rest (sym (ap (λ t. t || is_one_of f a) other) ∙ is)

-- any other field is among the other cells
in_back : (a : List MemberId) (front back : Cells) (f : MemberId) → are_cells a front ≡ true → is_one_of f a ≡ false
    → slot_of same_member (front ++ back) f ≡ slot_of same_member back f
in_back [] [] back f e is = refl
in_back [] (s ∷ front) back f e is = cc
in_back (g ∷ a) [] back f e is = cc
in_back (g ∷ a) (s ∷ front) back f e is =
    let one = and_parts (same_member s.key g) (fits (letter g) s.value && are_cells a front) e in
    let two = and_parts (fits (letter g) s.value) (are_cells a front) one.1 in
    by (same_member s.key f) (is_one_of f a) (ap (λ m. same_member m f || is_one_of f a) (member_tells s.key g
    one.0) ∙ is) (in_back a front back f two.1)
  where
    by : (t u : Bool) → (t || u) ≡ false → (u ≡ false → slot_of same_member (front ++ back) f
        ≡ slot_of same_member back f) → (if t then Some s.value else slot_of same_member (front ++ back) f)
        ≡ slot_of same_member back f
    by true u h rest = cc
    by false u h rest = rest h

-- ---- puts by name

with_front : (a : List MemberId) (front back : Cells) (f : MemberId) (v : Value) → are_cells a front ≡ true
    → is_one_of f a ≡ true → slots_with same_member (front ++ back) f v ≡ slots_with same_member front f v ++ back
with_front [] front back f v e is = cc
with_front (g ∷ a) [] back f v e is = cc
with_front (g ∷ a) (s ∷ front) back f v e is =
    let one = and_parts (same_member s.key g) (fits (letter g) s.value && are_cells a front) e in
    let two = and_parts (fits (letter g) s.value) (are_cells a front) one.1 in
    by (same_member s.key f) refl (sym (member_tells s.key g one.0)) (with_front a front back f v two.1)
  where
    by : (t : Bool) → same_member s.key f ≡ t → g ≡ s.key → (is_one_of f a ≡ true → slots_with same_member (front
        ++ back) f v ≡ slots_with same_member front f v ++ back) → (if t then record s { value = v } ∷ (front ++ back)
        else s ∷ slots_with same_member (front ++ back) f v) ≡ (if t then record s { value = v } ∷ front
        else s ∷ slots_with same_member front f v) ++ back
    by true h same rest = refl
    by false h same rest =
        let other : same_member g f ≡ false = ap (λ m. same_member m f) same ∙ h in
        ap (λ xs. s ∷ xs) (rest (sym (ap (λ t. t || is_one_of f a) other) ∙ is))

with_back : (a : List MemberId) (front back : Cells) (f : MemberId) (v : Value) → are_cells a front ≡ true
    → is_one_of f a ≡ false → slots_with same_member (front ++ back) f v ≡ front ++ slots_with same_member back f v
with_back [] [] back f v e is = refl
with_back [] (s ∷ front) back f v e is = cc
with_back (g ∷ a) [] back f v e is = cc
with_back (g ∷ a) (s ∷ front) back f v e is =
    let one = and_parts (same_member s.key g) (fits (letter g) s.value && are_cells a front) e in
    let two = and_parts (fits (letter g) s.value) (are_cells a front) one.1 in
    by (same_member s.key f) (is_one_of f a) (ap (λ m. same_member m f || is_one_of f a) (member_tells s.key g
    one.0) ∙ is) (with_back a front back f v two.1)
  where
    by : (t u : Bool) → (t || u) ≡ false → (u ≡ false → slots_with same_member (front ++ back) f v
        ≡ front ++ slots_with same_member back f v) → (if t then record s { value = v } ∷ (front ++ back)
        else s ∷ slots_with same_member (front ++ back) f v) ≡ s ∷ (front ++ slots_with same_member back f v)
    by true u h rest = cc
    by false u h rest = ap (λ xs. s ∷ xs) (rest h)

put_front : (a : List MemberId) (front back : Cells) (f : MemberId) (v : Value) → are_cells a front ≡ true
    → is_one_of f a ≡ true → put_by_name (front ++ back) f v ≡ option_map (λ xs. xs ++ back) (put_by_name front f v)
put_front a front back f v e is =
    ap (option_and_then (put_cell (front ++ back) f v)) (in_front a front back f e is)
    ∙ by (slot_of same_member front f) (with_front a front back f v e is)
  where
    by : (o : Option Value) → slots_with same_member (front ++ back) f v ≡ slots_with same_member front f v ++ back
        → option_and_then (put_cell (front ++ back) f v) o ≡ option_map (λ xs. xs ++ back) (option_and_then (put_cell
        front f v) o)
    by None h = refl
    by (Some old) h = ap (λ xs. if same_kind old v then Some xs else None) h ∙ go (same_kind old v)
      where
        go : (t : Bool) → (if t then Some (slots_with same_member front f v ++ back) else None)
            ≡ option_map (λ xs. xs ++ back) (if t then Some (slots_with same_member front f v) else None)
        go true = refl
        go false = refl

put_back : (a : List MemberId) (front back : Cells) (f : MemberId) (v : Value) → are_cells a front ≡ true
    → is_one_of f a ≡ false → put_by_name (front ++ back) f v ≡ option_map (λ xs. front ++ xs) (put_by_name back f v)
put_back a front back f v e is =
    ap (option_and_then (put_cell (front ++ back) f v)) (in_back a front back f e is)
    ∙ by (slot_of same_member back f) (with_back a front back f v e is)
  where
    by : (o : Option Value) → slots_with same_member (front ++ back) f v ≡ front ++ slots_with same_member back f v
        → option_and_then (put_cell (front ++ back) f v) o ≡ option_map (λ xs. front ++ xs) (option_and_then (put_cell
        back f v) o)
    by None h = refl
    by (Some old) h = ap (λ xs. if same_kind old v then Some xs else None) h ∙ go (same_kind old v)
      where
        go : (t : Bool) → (if t then Some (front ++ slots_with same_member back f v) else None)
            ≡ option_map (λ xs. front ++ xs) (if t then Some (slots_with same_member back f v) else None)
        go true = refl
        go false = refl

-- ---- images

values_like : (x y : Cells) (fs : List MemberId) → ((f : MemberId) → is_one_of f fs ≡ true → value_of x f
    ≡ value_of y f) → map (value_of x) fs ≡ map (value_of y) fs
values_like x y [] h = refl
values_like x y (f ∷ fs) h =
    ap (λ v. v ∷ map (value_of x) fs) (h f (front_one f fs))
    ∙ ap (λ vs. value_of y f ∷ vs) (values_like x y fs (λ g is. h g (behind_one g f fs is)))

bytes_like : (x y : Cells) (fs : List MemberId) → ((f : MemberId) → is_one_of f fs ≡ true → value_of x f
    ≡ value_of y f) → bytes_of x fs ≡ bytes_of y fs
bytes_like x y [] h = refl
bytes_like x y (f ∷ fs) h =
    ap (λ v. number_bytes (letter f) v ++ bytes_of x fs) (h f (front_one f fs))
    ∙ ap (λ bs. number_bytes (letter f) (value_of y f) ++ bs) (bytes_like x y fs (λ g is. h g (behind_one g f fs is)))

abbrev image_with : List Value → List ℕ → Image
image_with references bytes = record { references = references; bytes = bytes }

image_like : (o : Order) (x y : Cells) → ((f : MemberId) → is_one_of f (fields o) ≡ true → slot_of same_member x f
    ≡ slot_of same_member y f) → image_of o x ≡ image_of o y
image_like o x y h =
    ap (λ r. image_with r (bytes_of x o.numbers)) (values_like x y o.references (λ f is. ap value_in (h f (front_all
    o.references o.numbers f is))))
    ∙ ap (image_with (map (value_of y) o.references)) (bytes_like x y o.numbers (λ f is. ap value_in (h f (behind_all
    o.references o.numbers f is))))

-- ---- a group, its first package apart

pub next_have : (s : Statics) (group : List Statics) → HaveCells (s ∷ group) → HaveCells group
next_have s group h = record {
  each = λ q t is. h.each (suc q) t is;
  apart = λ q r t u f is at e g. let more : suc q ≡ suc r = h.apart (suc q) (suc r) t u f is at e g in omega
      (arith, more);
}

-- a field of a later package is none of the first
not_first : (s : Statics) (group : List Statics) → HaveCells (s ∷ group) → (q : ℕ) (t : Statics)
    → slice_get group q ≡ Some t → (f : MemberId) → is_one_of f (fields t.order) ≡ true → is_one_of f s.all ≡ false
not_first s group h q t is f e = by (is_one_of f s.all) refl
  where
    by : (b : Bool) → is_one_of f s.all ≡ b → b ≡ false
    by true g =
        let own : HasCells t.order t.all = h.each (suc q) t is in
        let no : 0 ≡ suc q = h.apart 0 (suc q) s t f refl is g (own.no_other f e) in
        absurd (omega (arith, no))
    by false g = refl

first_image : (s : Statics) (group : List Statics) → HaveCells (s ∷ group) → (front back : Cells)
    → are_cells s.all front ≡ true → image_of s.order (front ++ back) ≡ image_of s.order front
first_image s group h front back e =
    let own : HasCells s.order s.all = h.each 0 s refl in
    image_like s.order (front ++ back) front (λ f is. in_front s.all front back f e (own.no_other f is))

other_images : (all : List MemberId) (group : List Statics) (front back : Cells) → are_cells all front ≡ true
    → ((q : ℕ) (t : Statics) → slice_get group q ≡ Some t → (f : MemberId) → is_one_of f (fields t.order) ≡ true
    → is_one_of f all ≡ false) → images_of group (front ++ back) ≡ images_of group back
other_images all [] front back e h = refl
other_images all (t ∷ group) front back e h =
    ap (λ i. i ∷ images_of group (front ++ back)) (image_like t.order (front ++ back) back (λ f is. in_back all front
    back f e (h 0 t refl f is)))
    ∙ ap (λ is. image_of t.order back ∷ is) (other_images all group front back e (λ q u is. h (suc q) u is))

pub all_images : (s : Statics) (group : List Statics) → HaveCells (s ∷ group) → (front back : Cells)
    → are_cells s.all front ≡ true
    → images_of (s ∷ group) (front ++ back) ≡ image_of s.order front ∷ images_of group back
all_images s group h front back e =
    ap (λ i. i ∷ images_of group (front ++ back)) (first_image s group h front back e)
    ∙ ap (λ is. image_of s.order front ∷ is) (other_images s.all group front back e (not_first s group h))

accessed : (o : Order) (k : Letter) (f : MemberId) → may_access o k f ≡ true → is_one_of f (fields o) ≡ true
accessed o k f e = (and_parts (is_one_of f (fields o)) (same_letter (letter f) k) e).0

-- ---- reading

pub get_same : (group : List Statics) → HaveCells group → (q : ℕ) (s : Statics) (k : Letter) (f : MemberId)
    (cells : Cells) → slice_get group q ≡ Some s → may_access s.order k f ≡ true
    → are_cells (all_fields group) cells ≡ true
    → get_static k (cell_in q s.order f) (images_of group cells) ≡ slot_of same_member cells f
get_same [] h q s k f cells is may e = cc
get_same (t ∷ group) h zero s k f cells is may e =
    let same : t ≡ s = cc in
    let r = halves t.all (all_fields group) cells e in
    let own : HasCells t.order t.all = h.each 0 t refl in
    let may_t : may_access t.order k f ≡ true = ap (λ (u : Statics). may_access u.order k f) same ∙ may in
    let one = (cells_agree t.order t.all own).get k f r.front may_t r.first in
    ap (λ (u : Statics). get_static k (cell_in 0 u.order f) (images_of (t ∷ group) cells)) (sym same)
    ∙ (ap (λ x. get_static k (cell_in 0 t.order f) (images_of (t ∷ group) x)) r.whole
    ∙ (ap (get_static k (cell_in 0 t.order f)) (all_images t group h r.front r.back r.first)
    ∙ (one
    ∙ (sym (in_front t.all r.front r.back f r.first (own.no_other f (accessed t.order k f may_t)))
    ∙ ap (λ x. slot_of same_member x f) (sym r.whole)))))
get_same (t ∷ group) h (suc q) s k f cells is may e =
    let r = halves t.all (all_fields group) cells e in
    let next = get_same group (next_have t group h) q s k f r.back is may r.second in
    ap (λ x. get_static k (cell_in (suc q) s.order f) (images_of (t ∷ group) x)) r.whole
    ∙ (ap (get_static k (cell_in (suc q) s.order f)) (all_images t group h r.front r.back r.first)
    ∙ (next
    ∙ (sym (in_back t.all r.front r.back f r.first (not_first t group h q s is f (accessed s.order k f may)))
    ∙ ap (λ x. slot_of same_member x f) (sym r.whole))))

-- ---- putting

-- with other images behind the first
put_first : (image : Image) (images : List Image) (o : Order) (c : Option Value) (new : Image) (after : Option Cells)
    → option_map (λ (old : Value). new ∷ []) c ≡ option_as (λ y. image_of o y ∷ []) after
    → option_map (λ (old : Value). new ∷ images) c ≡ option_as (λ y. image_of o y ∷ images) after
put_first image images o None new None e = refl
put_first image images o None new (Some y) e = cc
put_first image images o (Some old) new None e = cc
put_first image images o (Some old) new (Some y) e =
    let same : new ≡ image_of o y = head_same new (image_of o y) (let both : Some (new ∷ []) ≡ Some (image_of o y ∷ [])
    = e in cc) in
    ap (λ i. Some (i ∷ images)) same
  where
    head_same : (a b : Image) → (a ∷ []) ≡ (b ∷ []) → a ≡ b
    head_same a b e = cc

put_next : (image : Image) (images : List Image) (k : Letter) (q : ℕ) (o : Order) (f : MemberId) (v : Value)
    → put_static k (cell_in (suc q) o f) v (image ∷ images)
    ≡ option_map (λ is. image ∷ is) (put_static k (cell_in q o f) v images)
put_next image images k q o f v = by (slice_get images q)
  where
    by : (i : Option Image) → option_and_then (card.image_put k (cell_in (suc q) o f) v (image ∷ images)) i
        ≡ option_map (λ is. image ∷ is) (option_and_then (card.image_put k (cell_in q o f) v images) i)
    by None = refl
    by (Some i) = go (card.cell_in k i (cell_offset o f))
      where
        go : (c : Option Value) → option_map (λ (old : Value). slice_set (image ∷ images) (suc q) (cell_put k v i
            (cell_offset o f))) c ≡ option_map (λ is. image ∷ is) (option_map (λ (old : Value). slice_set images q
            (cell_put k v i (cell_offset o f))) c)
        go None = refl
        go (Some old) = refl

-- what a put leaves, with the cells of other packages
put_images : (t : Statics) (group : List Statics) → HaveCells (t ∷ group) → (front back : Cells) (k : Letter)
    (f : MemberId) (v : Value) → IsOperand k v → may_access t.order k f ≡ true → are_cells t.all front ≡ true
    → (after : Option Cells) → put_by_name front f v ≡ after
    → option_as (λ y. image_of t.order y ∷ images_of group back) after
    ≡ option_as (images_of (t ∷ group)) (option_map (λ xs. xs ++ back) after)
put_images t group h front back k f v operand may e None is = refl
put_images t group h front back k f v operand may e (Some y) is =
    let own : HasCells t.order t.all = h.each 0 t refl in
    let known = (cells_agree t.order t.all own).put_known k f v front y operand may e is in
    ap Some (sym (all_images t group h y back known))

behind_images : (t : Statics) (group : List Statics) → HaveCells (t ∷ group) → (front : Cells)
    → are_cells t.all front ≡ true → (after : Option Cells)
    → option_map (λ is. image_of t.order front ∷ is) (option_as (images_of group) after)
    ≡ option_as (images_of (t ∷ group)) (option_map (λ xs. front ++ xs) after)
behind_images t group h front e None = refl
behind_images t group h front e (Some y) = ap Some (sym (all_images t group h front y e))

pub put_same : (group : List Statics) → HaveCells group → (q : ℕ) (s : Statics) (k : Letter) (f : MemberId) (v : Value)
    (cells : Cells) → slice_get group q ≡ Some s → IsOperand k v → may_access s.order k f ≡ true
    → are_cells (all_fields group) cells ≡ true
    → put_static k (cell_in q s.order f) v (images_of group cells)
    ≡ option_as (images_of group) (put_by_name cells f v)
put_same [] h q s k f v cells is operand may e = cc
put_same (t ∷ group) h zero s k f v cells is operand may e =
    let same : t ≡ s = cc in
    let r = halves t.all (all_fields group) cells e in
    let own : HasCells t.order t.all = h.each 0 t refl in
    let may_t : may_access t.order k f ≡ true = ap (λ (u : Statics). may_access u.order k f) same ∙ may in
    let among = own.no_other f (accessed t.order k f may_t) in
    let i = image_of t.order r.front in
    let one = (cells_agree t.order t.all own).put k f v r.front operand may_t r.first in
    ap (λ (u : Statics). put_static k (cell_in 0 u.order f) v (images_of (t ∷ group) cells)) (sym same)
    ∙ (ap (λ x. put_static k (cell_in 0 t.order f) v (images_of (t ∷ group) x)) r.whole
    ∙ (ap (put_static k (cell_in 0 t.order f) v) (all_images t group h r.front r.back r.first)
    ∙ (put_first i (images_of group r.back) t.order (card.cell_in k i (cell_offset t.order f)) (cell_put k v i
    (cell_offset t.order f)) (put_by_name r.front f v) one
    ∙ (put_images t group h r.front r.back k f v operand may_t r.first (put_by_name r.front f v) refl
    ∙ (ap (option_as (images_of (t ∷ group))) (sym (put_front t.all r.front r.back f v r.first among))
    ∙ ap (λ x. option_as (images_of (t ∷ group)) (put_by_name x f v)) (sym r.whole))))))
put_same (t ∷ group) h (suc q) s k f v cells is operand may e =
    let r = halves t.all (all_fields group) cells e in
    let next = put_same group (next_have t group h) q s k f v r.back is operand may r.second in
    let apart = not_first t group h q s is f (accessed s.order k f may) in
    ap (λ x. put_static k (cell_in (suc q) s.order f) v (images_of (t ∷ group) x)) r.whole
    ∙ (ap (put_static k (cell_in (suc q) s.order f) v) (all_images t group h r.front r.back r.first)
    ∙ (put_next (image_of t.order r.front) (images_of group r.back) k q s.order f v
    ∙ (ap (option_map (λ is. image_of t.order r.front ∷ is)) next
    ∙ (behind_images t group h r.front r.first (put_by_name r.back f v)
    ∙ (ap (option_as (images_of (t ∷ group))) (sym (put_back t.all r.front r.back f v r.first apart))
    ∙ ap (λ x. option_as (images_of (t ∷ group)) (put_by_name x f v)) (sym r.whole))))))

mapped_some : (g : Cells → Cells) (o : Option Cells) (after : Cells) → option_map g o ≡ Some after → (y : Cells)
    × (o ≡ Some y) × (g y ≡ after)
mapped_some g None after e = cc
mapped_some g (Some y) after e = (y, refl, cc)

pub put_keeps : (group : List Statics) → HaveCells group → (q : ℕ) (s : Statics) (k : Letter) (f : MemberId) (v : Value)
    (cells after : Cells) → slice_get group q ≡ Some s → IsOperand k v → may_access s.order k f ≡ true
    → are_cells (all_fields group) cells ≡ true → put_by_name cells f v ≡ Some after
    → are_cells (all_fields group) after ≡ true
put_keeps [] h q s k f v cells after is operand may e put = cc
put_keeps (t ∷ group) h zero s k f v cells after is operand may e put =
    let same : t ≡ s = cc in
    let r = halves t.all (all_fields group) cells e in
    let own : HasCells t.order t.all = h.each 0 t refl in
    let may_t : may_access t.order k f ≡ true = ap (λ (u : Statics). may_access u.order k f) same ∙ may in
    let among = own.no_other f (accessed t.order k f may_t) in
    let y = mapped_some (λ xs. xs ++ r.back) (put_by_name r.front f v) after (sym (put_front t.all r.front r.back f v
    r.first among) ∙ (ap (λ x. put_by_name x f v) (sym r.whole) ∙ put)) in
    let known = (cells_agree t.order t.all own).put_known k f v r.front y.0 operand may_t r.first y.1 in
    subst (λ x. are_cells (all_fields (t ∷ group)) x ≡ true) y.2 (joined t.all (all_fields group) y.0 r.back known
    r.second)
put_keeps (t ∷ group) h (suc q) s k f v cells after is operand may e put =
    let r = halves t.all (all_fields group) cells e in
    let apart = not_first t group h q s is f (accessed s.order k f may) in
    let y = mapped_some (λ xs. r.front ++ xs) (put_by_name r.back f v) after (sym (put_back t.all r.front r.back f v
    r.first apart) ∙ (ap (λ x. put_by_name x f v) (sym r.whole) ∙ put)) in
    let known = put_keeps group (next_have t group h) q s k f v r.back y.0 is operand may r.second y.1 in
    subst (λ x. are_cells (all_fields (t ∷ group)) x ≡ true) y.2 (joined t.all (all_fields group) r.front y.0 r.first
    known)

-- ---- reports

one_shown : (p : ℕ) (images : List Image) (i : Image) (c : CellName) → slice_get images p ≡ Some i
    → shown_cell p images c ≡ shown_cell 0 (i ∷ []) c
one_shown p images i c is = by (letter_of (field_sort (let id = c.id in id.desc)))
  where
    value : Option Value → FieldValue
    value o = record { field = c.id; value = value_or (zero_of (field_sort (let id = c.id in id.desc))) o }

    by : (letter : Option Letter) → value (option_and_then (λ letter. get_static letter (record {
      part = p;
      offset = c.offset;
    }) images) letter) ≡ value (option_and_then (λ letter. get_static letter (record { part = 0; offset = c.offset }) (i
        ∷ [])) letter)
    by None = refl
    by (Some letter) = ap (λ o. value (option_and_then (λ i. card.cell_in letter i c.offset) o)) is

all_shown : (p : ℕ) (images : List Image) (i : Image) (cs : List CellName) → slice_get images p ≡ Some i
    → map (shown_cell p images) cs ≡ map (shown_cell 0 (i ∷ [])) cs
all_shown p images i [] is = refl
all_shown p images i (c ∷ cs) is =
    ap (λ v. v ∷ map (shown_cell p images) cs) (one_shown p images i c is)
    ∙ ap (λ vs. shown_cell 0 (i ∷ []) c ∷ vs) (all_shown p images i cs is)

map_both : (xs ys : Cells) → map shown_slot (xs ++ ys) ≡ map shown_slot xs ++ map shown_slot ys
map_both [] ys = refl
map_both (x ∷ xs) ys = ap (λ zs. shown_slot x ∷ zs) (map_both xs ys)

-- each package's names show its cells
abbrev pub Shows : List Part → List Statics → Type 0
Shows [] [] = Unit {0}
Shows [] (s ∷ group) = ⊥
Shows (part ∷ parts) [] = ⊥
Shows (part ∷ parts) (s ∷ group) = ((x : Cells) → are_cells s.all x ≡ true
    → map (shown_cell 0 (image_of s.order x ∷ [])) part.cells ≡ map shown_slot x) × Shows parts group

shows_named : (group : List Statics) → HaveCells group → (parts : List Part) → map names_of parts ≡ map names_in group
    → Shows parts group
shows_named [] h [] names = tt
shows_named [] h (part ∷ parts) names = absurd cc
shows_named (t ∷ group) h [] names = absurd cc
shows_named (t ∷ group) h (part ∷ parts) names =
    let own : HasCells t.order t.all = h.each 0 t refl in
    let here : part.cells ≡ names_in t = cc in
    let rest : map names_of parts ≡ map names_in group = cc in (
      λ x e. ap (map (shown_cell 0 (image_of t.order x ∷ []))) here ∙ (cells_agree t.order t.all own).shown x e,
      shows_named group (next_have t group h) parts rest,
    )

shown_from : (group : List Statics) → HaveCells group → (p : ℕ) (parts : List Part) (images : List Image)
    (cells : Cells) → Shows parts group → are_cells (all_fields group) cells ≡ true
    → ((j : ℕ) → slice_get images (p + j) ≡ slice_get (images_of group cells) j)
    → shown_cells p parts images ≡ map shown_slot cells
shown_from [] h p [] images [] shows e at = refl
shown_from [] h p [] images (s ∷ cells) shows e at = cc
shown_from [] h p (part ∷ parts) images cells shows e at = absurd shows
shown_from (t ∷ group) h p [] images cells shows e at = absurd shows
shown_from (t ∷ group) h p (part ∷ parts) images cells shows e at =
    let r = halves t.all (all_fields group) cells e in
    let split = ap (images_of (t ∷ group)) r.whole ∙ all_images t group h r.front r.back r.first in
    let z : p ≡ p + 0 = omega arith in
    let first : slice_get images p ≡ Some (image_of t.order r.front) = ap (slice_get images) z
    ∙ (at 0 ∙ ap (λ is. slice_get is 0) split) in
    let more : (j : ℕ) → slice_get images (p + 1 + j) ≡ slice_get (images_of group r.back) j = λ j. (let s : p + 1 + j
    ≡ p + suc j = omega arith in ap (slice_get images) s ∙ (at (suc j) ∙ ap (λ is. slice_get is (suc j)) split)) in
    let next = shown_from group (next_have t group h) (p + 1) parts images r.back shows.1 r.second more in
    ap (λ xs. xs ++ shown_cells (p + 1) parts images) (all_shown p images (image_of t.order r.front) part.cells first
    ∙ shows.0 r.front r.first)
    ∙ (ap (λ xs. map shown_slot r.front ++ xs) next
    ∙ (sym (map_both r.front r.back) ∙ ap (map shown_slot) (sym r.whole)))

pub shown_all : (group : List Statics) → HaveCells group → (parts : List Part) (cells : Cells) → Shows parts group
    → are_cells (all_fields group) cells ≡ true → shown_cells 0 parts (images_of group cells) ≡ map shown_slot cells
shown_all group h parts cells shows e = shown_from group h 0 parts (images_of group cells) cells shows e
    (λ j. (let z : 0
    + j ≡ j = omega arith in ap (slice_get (images_of group cells)) z))

pub joint_cells_agree : (group : List Statics) → HaveCells group → JointCellsAgree group
joint_cells_agree group h = record {
  get = get_same group h;
  put = put_same group h;
  put_known = put_keeps group h;
  shown = λ parts cells names e. shown_all group h parts cells (shows_named group h parts names) e;
}
