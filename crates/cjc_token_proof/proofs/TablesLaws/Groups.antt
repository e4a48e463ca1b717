-- The groups of the static image: each static field stands in one, by what it holds, and once.
use Rattle.std.proofs.Common.{◌≡◌, ℕ, zero, suc, ◌+◌, refl, sym, ap, ◌∙◌, arith, Bool, true, false, List, [], ◌∷◌, ◌++◌}
use Rattle.std.proofs.Common.{⊎_elim, append-nil}
use Rattle.std.specs.Prelude.{not, ◌||◌, cond, filter, map, Option, Some, None, slice_get, if◌then◌else◌, pos}
use Rattle.std.specs.Ordering.{int_eq}
use Rattle.std.proofs.lemmas.List.{map-append}
use Rattle.std.proofs.lemmas.List.Concat.{flat_map-cons}
use Rattle.cjc_bytes.specs.declared.fault.MemberId.{MemberId}
use Rattle.cjc_world.specs.ClassFile.declared.tree.ClassTree.{ClassTree}
use Rattle.cjc_world.specs.ClassFile.declared.tree.FieldTree.{FieldTree}
use Rattle.cjc_world.specs.declared.image.ArrayCell.{ArrayCell}
use Rattle.cjc_world.specs.declared.image.StaticImage.{StaticImage}
use Rattle.cjc_world.specs.declared.image.ValueCell.{ValueCell}
use Rattle.cjc_world_proof.specs.LowerClinit.declared.stage.Held.{Held}
use Rattle.cjc_world_proof.specs.LowerClinit.declared.stage.Start.{Start}
use Rattle.cjc_world_proof.specs.LowerClinit.declared.stage.Start.TheVariants as starts
use Rattle.cjc_world_proof.specs.LowerClinit.Fields.{is_cell}
use Rattle.cjc_world_proof.specs.LowerClinit.Image.{field_id, fields_in, held_in, image_of, joined, of_classes}
use Rattle.cjc_world_proof.specs.LowerClinit.Image.{of_fields}
use Rattle.cjc_world_proof.specs.LowerClinit.Image.{of_start}
use Rattle.cjc_world_proof.specs.LowerClinit.Image.{start_of}
use Rattle.cjc_ncode.specs.PoolOrder.{same_member}
use Rattle.cjc_token_proof.specs.ByToken.Cells.{are_apart, is_one_of}
use Rattle.cjc_token_proof.proofs.ByToken.Members.{member_same, member_tells}
use Rattle.cjc_components.specs.Package.{Package}
use Rattle.cjc_token_proof.specs.Tables.Known.{statics_in, statics_of}
use Rattle.cjc_token_proof.specs.Tables.Sound.{IsSound}
use Rattle.cjc_token_proof.proofs.TablesLaws.Initials.{IsAt, one_place}
use Rattle.cjc_token_proof.proofs.TablesLaws.Puts.{apart_append, one_back, one_either, one_front}

-- ---- fields that are selected, class by class and place by place

abbrev one_if : Bool → MemberId → List MemberId
one_if b m = if b then m ∷ [] else []

chosen_in : ((class place : ℕ) → FieldTree → Bool) → (n : ℕ) → (name : List ℕ) → (k : ℕ) → List FieldTree
    → List MemberId
chosen_in test n name k [] = []
chosen_in test n name k (f ∷ fs) = one_if (test n k f) (field_id name f) ++ chosen_in test n name (k + 1) fs

pub chosen_of : ((class place : ℕ) → FieldTree → Bool) → (n : ℕ) → List ClassTree → List MemberId
chosen_of test n [] = []
chosen_of test n (c ∷ cs) = chosen_in test n c.name 0 c.fields ++ chosen_of test (n + 1) cs

in_one : (b : Bool) (m g : MemberId) → is_one_of m (one_if b g) ≡ true → (b ≡ true) × (g ≡ m)
in_one true m g e = (refl, member_tells g m (by (same_member g m) e))
  where
    by : (b : Bool) → (b || false) ≡ true → b ≡ true
    by true f = refl
    by false f = cc
in_one false m g e = cc

chosen_in_is : (test : (class place : ℕ) → FieldTree → Bool) (n : ℕ) (name : List ℕ) (k : ℕ) (fs : List FieldTree)
    (m : MemberId) → is_one_of m (chosen_in test n name k fs) ≡ true → (i : ℕ) × (f : FieldTree)
    × (slice_get fs i ≡ Some f) × (test n (k + i) f ≡ true) × (field_id name f ≡ m)
unfolding chosen_in
chosen_in_is test n name k [] m e = cc
chosen_in_is test n name k (f ∷ fs) m e =
    ⊎_elim (λ h. (let r = in_one (test n k f) m (field_id name f) h in let z : k + 0 ≡ k = omega arith
    in (0, f, refl, ap (λ j. test n j f) z ∙ r.0, r.1)))
    (λ h. (let r = chosen_in_is test n name (k + 1) fs m h in let s : k + suc r.0 ≡ k + 1 + r.0 = omega arith
    in (suc r.0, r.1, r.2, ap (λ j. test n j r.1) s ∙ r.3, r.4)))
    (one_either m (one_if (test n k f) (field_id name f)) (chosen_in test n name (k + 1) fs) e)

chosen_in_has : (test : (class place : ℕ) → FieldTree → Bool) (n : ℕ) (name : List ℕ) (k : ℕ) (fs : List FieldTree)
    (i : ℕ) (f : FieldTree) → slice_get fs i ≡ Some f → test n (k + i) f ≡ true
    → is_one_of (field_id name f) (chosen_in test n name k fs) ≡ true
unfolding chosen_in
chosen_in_has test n name k [] i f e h = cc
chosen_in_has test n name k (g ∷ fs) zero f e h =
    let is : g ≡ f = cc in
    let z : k + 0 ≡ k = omega arith in
    let t : test n k f ≡ true = sym (ap (λ j. test n j f) z) ∙ h in
    one_front (field_id name f) (one_if (test n k g) (field_id name g)) (chosen_in test n name (k + 1) fs)
    (ap (λ (v : FieldTree). is_one_of (field_id name f) (one_if (test n k v) (field_id name v))) is
    ∙ ap (λ b. is_one_of (field_id name f) (one_if b (field_id name f))) t
    ∙ ap (λ q. q || false) (member_same (field_id name f)))
chosen_in_has test n name k (g ∷ fs) (suc i) f e h =
    let s : k + suc i ≡ k + 1 + i = omega arith in
    one_back (field_id name f) (one_if (test n k g) (field_id name g)) (chosen_in test n name (k + 1) fs)
    (chosen_in_has test n name (k + 1) fs i f e (sym (ap (λ j. test n j f) s) ∙ h))

-- a field that is selected, with its place
pub chosen_is : (test : (class place : ℕ) → FieldTree → Bool) (n : ℕ) (cs : List ClassTree) (m : MemberId)
    → is_one_of m (chosen_of test n cs) ≡ true
    → (j : ℕ) × (t : ClassTree) × (k : ℕ) × (f : FieldTree) × (slice_get cs j ≡ Some t)
    × (slice_get t.fields k ≡ Some f) × (test (n + j) k f ≡ true) × (field_id t.name f ≡ m)
unfolding chosen_of
chosen_is test n [] m e = cc
chosen_is test n (c ∷ cs) m e =
    ⊎_elim (λ h. (let r = chosen_in_is test n c.name 0 c.fields m h in let z : 0 + r.0 ≡ r.0 = omega arith
    in let y : n + 0 ≡ n = omega arith in (
      0,
      c,
      r.0,
      r.1,
      refl,
      r.2,
      ap (λ j. test j r.0 r.1) y
          ∙ sym (ap (λ j. test n j r.1) z) ∙ r.3,
      r.4,
    )))
    (λ h. (let r = chosen_is test (n + 1) cs m h in let s : n + suc r.0 ≡ n + 1 + r.0 = omega arith
    in (suc r.0, r.1, r.2, r.3, r.4, r.5, ap (λ j. test j r.2 r.3) s ∙ r.6, r.7)))
    (one_either m (chosen_in test n c.name 0 c.fields) (chosen_of test (n + 1) cs) e)

pub chosen_has : (test : (class place : ℕ) → FieldTree → Bool) (n : ℕ) (cs : List ClassTree) (j : ℕ) (t : ClassTree)
    (k : ℕ) (f : FieldTree) → slice_get cs j ≡ Some t → slice_get t.fields k ≡ Some f → test (n + j) k f ≡ true
    → is_one_of (field_id t.name f) (chosen_of test n cs) ≡ true
unfolding chosen_of
chosen_has test n [] j t k f e g h = cc
chosen_has test n (c ∷ cs) zero t k f e g h =
    let is : c ≡ t = cc in
    let z : 0 + k ≡ k = omega arith in
    let y : n + 0 ≡ n = omega arith in
    one_front (field_id t.name f) (chosen_in test n c.name 0 c.fields) (chosen_of test (n + 1) cs)
    (ap (λ (v : ClassTree). is_one_of (field_id t.name f) (chosen_in test n v.name 0 v.fields)) is
    ∙ chosen_in_has test n t.name 0 t.fields k f g (ap (λ j. test n j f) z ∙ sym (ap (λ j. test j k f) y) ∙ h))
chosen_has test n (c ∷ cs) (suc j) t k f e g h =
    let s : n + suc j ≡ n + 1 + j = omega arith in
    one_back (field_id t.name f) (chosen_in test n c.name 0 c.fields) (chosen_of test (n + 1) cs)
    (chosen_has test (n + 1) cs j t k f e g (sym (ap (λ i. test i k f) s) ∙ h))

-- ---- each once

module _ (list : List ℕ) (p : Package) (sound : IsSound list p.files) where
  abbrev classes : List ClassTree
  classes = let files = p.files in files.classes

  module _ (test : (class place : ℕ) → FieldTree → Bool) where
    apart_in : (n : ℕ) (t : ClassTree) → slice_get classes n ≡ Some t → (k : ℕ) (fs : List FieldTree)
        → ((i : ℕ) (f : FieldTree) → slice_get fs i ≡ Some f → slice_get t.fields (k + i) ≡ Some f)
        → are_apart (chosen_in test n t.name k fs) ≡ true
    unfolding chosen_in
    apart_in n t is_class k [] h = refl
    apart_in n t is_class k (f ∷ fs) h =
        apart_append (one_if (test n k f) (field_id t.name f)) (chosen_in test n t.name (k + 1) fs)
        (one_apart (test n k f))
        (apart_in n t is_class (k + 1) fs (λ i g e. let s : k + 1 + i ≡ k + suc i = omega arith
        in ap (slice_get t.fields) s ∙ h (suc i) g e))
        (λ m a b. (let r = in_one (test n k f) m (field_id t.name f) a in
        let s = chosen_in_is test n t.name (k + 1) fs m b in
        let z : k + 0 ≡ k = omega arith in
        let first : IsAt list p sound n t k f m = record {
          class = is_class;
          field = ap (slice_get t.fields) (sym z)
              ∙ h 0 f refl;
          named = r.1;
        } in
        let second : IsAt list p sound n t (k + suc s.0) s.1 m = record {
          class = is_class;
          field = h (suc s.0) s.1 s.2;
          named = s.4;
        } in
        let same = (one_place list p sound n t k f n t (k + suc s.0) s.1 m first second).1 in
        omega (arith, same)))
      where
        one_apart : (b : Bool) → are_apart (one_if b (field_id t.name f)) ≡ true
        one_apart true = refl
        one_apart false = refl

    apart_of : (n : ℕ) (cs : List ClassTree) → ((j : ℕ) (t : ClassTree) → slice_get cs j ≡ Some t
        → slice_get classes (n + j) ≡ Some t) → are_apart (chosen_of test n cs) ≡ true
    unfolding chosen_of
    apart_of n [] h = refl
    apart_of n (c ∷ cs) h =
        let y : n + 0 ≡ n = omega arith in
        let is_class : slice_get classes n ≡ Some c = ap (slice_get classes) (sym y) ∙ h 0 c refl in
        apart_append (chosen_in test n c.name 0 c.fields) (chosen_of test (n + 1) cs)
        (apart_in n c is_class 0 c.fields (λ i f e. let z : 0 + i ≡ i = omega arith in ap (slice_get c.fields) z ∙ e))
        (apart_of (n + 1) cs (λ j t e. let s : n + 1 + j ≡ n + suc j = omega arith in ap (slice_get classes) s
        ∙ h (suc j) t e))
        (λ m a b. (let r = chosen_in_is test n c.name 0 c.fields m a in
        let s = chosen_is test (n + 1) cs m b in
        let first : IsAt list p sound n c r.0 r.1 m = record { class = is_class; field = r.2; named = r.4 } in
        let second : IsAt list p sound (n + suc s.0) s.1 s.2 s.3 m = record {
          class = h (suc s.0) s.1 s.4;
          field = s.5;
          named = s.7;
        } in
        let same = (one_place list p sound n c r.0 r.1 (n + suc s.0) s.1 s.2 s.3 m first second).0 in
        omega (arith, same)))

    pub chosen_apart : are_apart (chosen_of test 0 classes) ≡ true
    chosen_apart = apart_of 0 classes (λ j t e. let z : 0 + j ≡ j = omega arith in ap (slice_get classes) z ∙ e)

-- ---- the groups

abbrev pub is_null_start : Option Start → Bool
is_null_start (Some starts.Null) = true
is_null_start other = false

abbrev pub is_zero_start : Option Start → Bool
is_zero_start (Some (starts.Number z)) = int_eq z (pos 0)
is_zero_start other = false

abbrev pub is_other_start : Option Start → Bool
is_other_start (Some (starts.Number z)) = not (int_eq z (pos 0))
is_other_start other = false

-- how a field starts, by what is held
abbrev pub start_at : List (List Held) → (class place : ℕ) → FieldTree → Option Start
start_at fields n k f = start_of f (held_in (slice_get (fields_in (slice_get fields n)) k))

abbrev value_fields : List ValueCell → List MemberId
value_fields values = map (λ v. v.field) values

record Split (i : StaticImage) (nulls zeros others : List MemberId) : Type 0 where
  arrays : i.arrays ≡ []
  null : i.nulls ≡ nulls
  zero_ones : i.zeros ≡ zeros
  other : value_fields i.others ≡ others

one_split : (m : MemberId) (o : Option Start) → Split (of_start m o) (one_if (is_null_start o) m)
    (one_if (is_zero_start o) m) (one_if (is_other_start o) m)
one_split m None = record { arrays = refl; null = refl; zero_ones = refl; other = refl }
one_split m (Some starts.Null) = record { arrays = refl; null = refl; zero_ones = refl; other = refl }
one_split m (Some (starts.Number z)) = by (int_eq z (pos 0))
  where
    by : (b : Bool) → Split (if b then record { arrays = []; nulls = []; zeros = m ∷ []; others = [] }
        else record { arrays = []; nulls = []; zeros = []; others = record { field = m; value = z } ∷ [] }) []
        (one_if b m) (one_if (not b) m)
    by true = record { arrays = refl; null = refl; zero_ones = refl; other = refl }
    by false = record { arrays = refl; null = refl; zero_ones = refl; other = refl }

join_split : {i j : StaticImage} {a b c d e f : List MemberId} → Split i a b c → Split j d e f
    → Split (joined i j) (a ++ d) (b ++ e) (c ++ f)
join_split {i} {j} {a} {b} {c} {d} {e} {f} s t = record {
  arrays = ap (λ xs. xs ++ j.arrays) s.arrays ∙ t.arrays;
  null = ap (λ xs. xs ++ j.nulls) s.null ∙ ap (λ xs. a ++ xs) t.null;
  zero_ones = ap (λ xs. xs ++ j.zeros) s.zero_ones ∙ ap (λ xs. b ++ xs) t.zero_ones;
  other = map-append (λ (v : ValueCell). v.field) i.others j.others ∙ ap (λ xs. xs ++ value_fields j.others) s.other
      ∙ ap (λ xs. c ++ xs) t.other;
}

module _ (fields : List (List Held)) where
  abbrev pub null_at : (class place : ℕ) → FieldTree → Bool
  null_at n k f = is_null_start (start_at fields n k f)

  abbrev pub zero_at : (class place : ℕ) → FieldTree → Bool
  zero_at n k f = is_zero_start (start_at fields n k f)

  abbrev pub other_at : (class place : ℕ) → FieldTree → Bool
  other_at n k f = is_other_start (start_at fields n k f)

  fields_split : (n : ℕ) (name : List ℕ) (k : ℕ) (fs : List FieldTree)
      → Split (of_fields name (fields_in (slice_get fields n)) k fs) (chosen_in null_at n name k fs)
      (chosen_in zero_at n name k fs) (chosen_in other_at n name k fs)
  unfolding chosen_in
  fields_split n name k [] = record { arrays = refl; null = refl; zero_ones = refl; other = refl }
  fields_split n name k (f ∷ fs) = join_split (one_split (field_id name f) (start_at fields n k f))
      (fields_split n name (k + 1) fs)

  classes_split : (n : ℕ) (cs : List ClassTree) → Split (of_classes fields n cs) (chosen_of null_at n cs)
      (chosen_of zero_at n cs) (chosen_of other_at n cs)
  unfolding chosen_of
  classes_split n [] = record { arrays = refl; null = refl; zero_ones = refl; other = refl }
  classes_split n (c ∷ cs) = join_split (fields_split n c.name 0 c.fields) (classes_split (n + 1) cs)

  -- the image, group by group
  pub record GroupsAre (i : StaticImage) (cs : List ClassTree) (arrays : List ArrayCell) : Type 0 where
    pub array : i.arrays ≡ arrays
    pub null : i.nulls ≡ chosen_of null_at 0 cs
    pub zero_ones : i.zeros ≡ chosen_of zero_at 0 cs
    pub other : map (λ v. v.field) i.others ≡ chosen_of other_at 0 cs

  pub groups_are : (cs : List ClassTree) (arrays : List ArrayCell) → GroupsAre (image_of cs arrays fields) cs arrays
  groups_are cs arrays =
      let s = classes_split 0 cs in
      record {
        array = ap (λ xs. arrays ++ xs) s.arrays ∙ append-nil arrays;
        null = s.null;
        zero_ones = s.zero_ones;
        other = s.other;
      }

-- ---- all static fields

cells_in : (n : ℕ) (name : List ℕ) (k : ℕ) (fs : List FieldTree) → map (field_id name) (filter is_cell fs)
    ≡ chosen_in (λ n k f. is_cell f) n name k fs
unfolding chosen_in
cells_in n name k [] = refl
cells_in n name k (f ∷ fs) = by (is_cell f) (cells_in n name (k + 1) fs)
  where
    by : (b : Bool) → map (field_id name) (filter is_cell fs) ≡ chosen_in (λ n k f. is_cell f) n name (k + 1) fs
        → map (field_id name) (cond b (f ∷ filter is_cell fs) (filter is_cell fs)) ≡ one_if b (field_id name f)
        ++ chosen_in (λ n k f. is_cell f) n name (k + 1) fs
    by true e = ap (λ xs. field_id name f ∷ xs) e
    by false e = e

pub statics_are : (n : ℕ) (cs : List ClassTree) → statics_of cs ≡ chosen_of (λ n k f. is_cell f) n cs
unfolding chosen_of
statics_are n [] = refl
statics_are n (c ∷ cs) = flat_map-cons statics_in c cs ∙ ap (λ xs. xs ++ statics_of cs) (cells_in n c.name 0 c.fields)
    ∙ ap (λ xs. chosen_in (λ n k f. is_cell f) n c.name 0 c.fields ++ xs) (statics_are (n + 1) cs)
