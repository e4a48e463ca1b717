-- The static fields of a package have their cells in the static image.
use Rattle.std.proofs.Common.{◌≡◌, ℕ, ◌+◌, refl, sym, ap, subst, ◌∙◌, arith, Bool, true, false, List, [], ◌∷◌, ◌++◌}
use Rattle.std.proofs.Common.{inl, inr, ⊎_elim, append-nil, append_assoc}
use Rattle.std.specs.Prelude.{not, ◌||◌, ◌⊎◌, filter, map, Option, Some, None, is_some, slice_get, option_and_then}
use Rattle.std.specs.Prelude.{if◌then◌else◌, ℤ, pos}
use Rattle.std.specs.List.{flat_map}
use Rattle.std.specs.Ordering.{int_eq}
use Rattle.std.proofs.lemmas.List.{map-append}
use Rattle.std.proofs.lemmas.List.Concat.{flat_map-cons}
use Rattle.cjc_bytes.specs.declared.fault.MemberId.{MemberId}
use Rattle.cjc_world.specs.ClassFile.declared.tree.ClassTree.{ClassTree}
use Rattle.cjc_world.specs.ClassFile.declared.tree.FieldTree.{FieldTree}
use Rattle.cjc_world_proof.specs.Bytecode.declared.method_code.MethodCode.{MethodCode}
use Rattle.cjc_card_semantics.specs.Machine.ByToken.{letter_of, shown_cell, shown_cells}
use Rattle.cjc_card_semantics.specs.Machine.Loaded.{CellName}
use Rattle.cjc_script.specs.Sorts.{Sort, Boolean, Byte, Short, Int, Reference, NoValue, field_sort}
use Rattle.cjc_world.specs.declared.image.ArrayCell.{ArrayCell}
use Rattle.cjc_world_proof.specs.LowerClinit.declared.stage.Held.{Held}
use Rattle.cjc_world_proof.specs.LowerClinit.declared.stage.Held.TheVariants as held
use Rattle.cjc_world_proof.specs.LowerClinit.declared.stage.Start.{Start}
use Rattle.cjc_world_proof.specs.LowerClinit.declared.stage.Start.TheVariants as starts
use Rattle.cjc_world_proof.specs.LowerClinit.Fields.{is_cell, is_reference, number_kind}
use Rattle.cjc_world_proof.specs.LowerClinit.Image.{IsImage, field_id, fields_in, held_in, start_by, start_of}
use Rattle.cjc_world_proof.specs.LowerClinit.Image.{value_or_zero}
use Rattle.cjc_world_proof.specs.LowerClinit.Initialiser.{nothing_in}
use Rattle.cjc_ncode.specs.ByLabel.{shown_slot}
use Rattle.cjc_ncode.specs.PoolOrder.{same_member}
use Rattle.cjc_ncode.specs.Lowering.Agreement.{Cells}
use Rattle.cjc_world_proof.specs.Initialisers.Values.{StandOnce}
use Rattle.cjc_token_proof.specs.ByToken.Cells.{HasCells, Order, are_cells, cell_names}
use Rattle.cjc_token_proof.specs.ByToken.Cells.{fields, is_number, is_one_of, letter, letter_by, width}
use Rattle.cjc_token_proof.specs.ByToken.Cells as tokens
use Rattle.cjc_token_proof.specs.ByToken.Objects.{is_reference as is_reference_sort}
use Rattle.cjc_token_proof.proofs.ByToken.Cells.{cells_agree}
use Rattle.cjc_token_proof.proofs.ByToken.Members.{member_same}
use Rattle.cjc_components.specs.Package.{Package}
use Rattle.cjc_components.specs.Statics.{cell_order, cell_size, offset_from, size_of_field}
use Rattle.cjc_components.specs.Statics as components
use Rattle.cjc_components.specs.Paired.Naming.{cell_name, cells_in}
use Rattle.cjc_token_proof.specs.Tables.Known.{order_of, statics_in, statics_of}
use Rattle.cjc_token_proof.specs.Tables.Loading.{loaded, part}
use Rattle.cjc_token_proof.specs.Tables.Sound.{AreTyped, IsSound}
use Rattle.cjc_token_proof.proofs.TablesLaws.Groups.{GroupsAre, chosen_apart, chosen_has, chosen_is, chosen_of}
use Rattle.cjc_token_proof.proofs.TablesLaws.Groups.{groups_are, is_null_start, is_other_start, is_zero_start, null_at}
use Rattle.cjc_token_proof.proofs.TablesLaws.Groups.{other_at, start_at, statics_are, zero_at}
use Rattle.cjc_token_proof.proofs.TablesLaws.Initials.{IsAt, Made, all_right, array_held, held_at, made_in_all}
use Rattle.cjc_token_proof.proofs.TablesLaws.Initials.{one_place}
use Rattle.cjc_token_proof.proofs.TablesLaws.Puts.{Right, apart_append, one_back, one_either, one_front}

-- ---- how a field starts

null_means : (f : FieldTree) (h : Held) → is_null_start (start_of f h) ≡ true → (is_cell f ≡ true)
    × (((h ≡ held.Nothing) × (is_reference f.desc ≡ true)) ⊎ (h ≡ held.Null))
null_means f h e = by (is_cell f) h e
  where
    by : (b : Bool) (h : Held) → is_null_start (if b then start_by f h else None) ≡ true → (b ≡ true)
        × (((h ≡ held.Nothing) × (is_reference f.desc ≡ true)) ⊎ (h ≡ held.Null))
    by false h g = cc
    by true held.Null g = (refl, inr refl)
    by true (held.Number z) g = cc
    by true held.Array g = cc
    by true held.Nothing g = (refl, inl (refl, at (is_reference f.desc) g))
      where
        at : (r : Bool)
            → is_null_start (Some (if r then starts.Null
            else starts.Number (value_or_zero (is_some (number_kind f.desc)) f.constant))) ≡ true → r ≡ true
        at true q = refl
        at false q = cc

number_means : (f : FieldTree) (h : Held) → (is_zero_start (start_of f h) || is_other_start (start_of f h)) ≡ true
    → (is_cell f ≡ true) × (((h ≡ held.Nothing) × (is_reference f.desc ≡ false)) ⊎ ((z : ℤ) × (h ≡ held.Number z)))
number_means f h e = by (is_cell f) h e
  where
    by : (b : Bool) (h : Held) → (is_zero_start (if b then start_by f h else None) || is_other_start (if b
        then start_by f h else None)) ≡ true → (b ≡ true) × (((h ≡ held.Nothing) × (is_reference f.desc ≡ false))
        ⊎ ((z : ℤ) × (h ≡ held.Number z)))
    by false h g = cc
    by true held.Null g = cc
    by true (held.Number z) g = (refl, inr (z, refl))
    by true held.Array g = cc
    by true held.Nothing g = (refl, inl (refl, at (is_reference f.desc) g))
      where
        at : (r : Bool)
            → (is_zero_start (Some (if r then starts.Null
            else starts.Number (value_or_zero (is_some (number_kind f.desc)) f.constant)))
            || is_other_start (Some (if r then starts.Null
            else starts.Number (value_or_zero (is_some (number_kind f.desc)) f.constant)))) ≡ true → r ≡ false
        at true q = cc
        at false q = refl

array_starts : (f : FieldTree) (h : Held) → h ≡ held.Array → start_of f h ≡ None
array_starts f h e = ap (start_of f) e ∙ by (is_cell f)
  where
    by : (b : Bool) → (if b then start_by f held.Array else None) ≡ None
    by true = refl
    by false = refl

not_both : (o : Option Start) → is_zero_start o ≡ true → is_other_start o ≡ true → ⊥
not_both None e f = cc
not_both (Some starts.Null) e f = cc
not_both (Some (starts.Number z)) e f = let clash : not true ≡ true = ap not (sym e) ∙ f in cc

some_start : (o : Option Start) → is_some o ≡ true → (is_null_start o ≡ true) ⊎ ((is_zero_start o ≡ true)
    ⊎ (is_other_start o ≡ true))
some_start None e = cc
some_start (Some starts.Null) e = inl refl
some_start (Some (starts.Number z)) e = inr (by (int_eq z (pos 0)))
  where
    by : (b : Bool) → (b ≡ true) ⊎ (not b ≡ true)
    by true = inl refl
    by false = inr refl

starts_or_array : (f : FieldTree) (h : Held) → is_cell f ≡ true → (h ≡ held.Array) ⊎ (is_some (start_of f h) ≡ true)
starts_or_array f h e = by h
  where
    at : (h : Held) → is_some (start_by f h) ≡ true → is_some (start_of f h) ≡ true
    at h g = ap (λ b. is_some (if b then start_by f h else None)) e ∙ g

    by : (h : Held) → (h ≡ held.Array) ⊎ (is_some (start_of f h) ≡ true)
    by held.Nothing = inr (at held.Nothing refl)
    by (held.Number z) = inr (at (held.Number z) refl)
    by held.Null = inr (at held.Null refl)
    by held.Array = inl refl

-- ---- what is held at a place

was_held : (fields : List (List Held)) (n k : ℕ) (h : Held) → held_at fields n k ≡ Some h
    → held_in (slice_get (fields_in (slice_get fields n)) k) ≡ h
unfolding held_at
was_held fields n k h e = by (slice_get fields n) e
  where
    by : (o : Option (List Held)) → option_and_then (λ fs. slice_get fs k) o ≡ Some h
        → held_in (slice_get (fields_in o) k) ≡ h
    by None f = cc
    by (Some fs) f = ap held_in f

is_held : (fields : List (List Held)) (n k : ℕ) (h : Held) → (h ≡ held.Nothing → ⊥)
    → held_in (slice_get (fields_in (slice_get fields n)) k) ≡ h → held_at fields n k ≡ Some h
unfolding held_at
is_held fields n k h some e = by (slice_get fields n) e
  where
    one : (o : Option Held) → held_in o ≡ h → o ≡ Some h
    one None f = absurd (some (sym f))
    one (Some x) f = ap (λ q. Some q) f

    by : (o : Option (List Held)) → held_in (slice_get (fields_in o) k) ≡ h → option_and_then (λ fs. slice_get fs k) o
        ≡ Some h
    by None f = absurd (some (sym f))
    by (Some fs) f = one (slice_get fs k) f

-- ---- types

number_letter : (s : Sort) → is_number (letter_by s) ≡ not (is_reference_sort s)
number_letter Boolean = refl
number_letter Byte = refl
number_letter Short = refl
number_letter Int = refl
number_letter (Reference shape) = refl
number_letter NoValue = refl

own_letter : (s : Sort) → is_some (letter_of s) ≡ true → letter_of s ≡ Some (letter_by s)
own_letter Boolean e = refl
own_letter Byte e = refl
own_letter Short e = refl
own_letter Int e = refl
own_letter (Reference shape) e = refl
own_letter NoValue e = cc

own_size : (s : Sort) → is_some (letter_of s) ≡ true → cell_size s ≡ width (letter_by s)
own_size Boolean e = refl
own_size Byte e = refl
own_size Short e = refl
own_size Int e = refl
own_size (Reference shape) e = refl
own_size NoValue e = cc

offsets_same : (at : ℕ) (fs : List MemberId) (f : MemberId) → ((m : MemberId) → is_one_of m fs ≡ true
    → is_some (letter_of (field_sort m.desc)) ≡ true) → offset_from at fs f ≡ tokens.offset_from at fs f
offsets_same at [] f h = refl
offsets_same at (g ∷ fs) f h =
    let size : size_of_field g ≡ width (letter g) =
    own_size (field_sort g.desc) (h g (ap (λ q. q || is_one_of g fs) (member_same g))) in
    by (same_member g f) (ap (λ n. offset_from (at + n) fs f) size ∙ offsets_same (at + width (letter g)) fs f
    (λ m e. h m (one_back m (g ∷ []) fs e)))
  where
    by : (b : Bool) → offset_from (at + size_of_field g) fs f ≡ tokens.offset_from (at + width (letter g)) fs f
        → (if b then at else offset_from (at + size_of_field g) fs f) ≡ (if b then at
        else tokens.offset_from (at + width (letter g)) fs f)
    by true e = refl
    by false e = e

module _ (list : List ℕ) (p : Package) (sound : IsSound list p.files) (typed : AreTyped p.files)
    (codes : List MethodCode) (image : IsImage p.files codes p.image) (once : StandOnce p.files codes) where
  abbrev classes : List ClassTree
  classes = let files = p.files in files.classes

  abbrev puts : List (List Held)
  puts = image.fields

  abbrev arrays : List MemberId
  arrays = map (λ (a : ArrayCell). a.field) image.arrays

  abbrev nulls : List MemberId
  nulls = chosen_of (null_at puts) 0 classes

  abbrev zeros : List MemberId
  zeros = chosen_of (zero_at puts) 0 classes

  abbrev others : List MemberId
  others = chosen_of (other_at puts) 0 classes

  abbrev groups : Order
  groups = record { references = arrays ++ nulls; numbers = zeros ++ others }

  abbrev all : List MemberId
  all = chosen_of (λ n k f. is_cell f) 0 classes

  groups_of_image : GroupsAre puts p.image classes image.arrays
  groups_of_image = subst (λ i. GroupsAre puts i classes image.arrays) (sym image.is) (groups_are puts classes
      image.arrays)

  order_is : order_of p.image ≡ groups
  order_is =
      let g = groups_of_image in
      ap (λ (r : List MemberId). record { references = r; numbers = (let o = order_of p.image in o.numbers) })
      (ap (λ (made : List ArrayCell). map (λ (a : ArrayCell). a.field) made ++ (let i = p.image in i.nulls)) g.array
      ∙ ap (λ ns. arrays ++ ns) g.null)
      ∙ ap (λ (r : List MemberId). record { references = arrays ++ nulls; numbers = r }) (ap (λ zs. zs
      ++ map (λ v. v.field) (let i = p.image in i.others)) g.zero_ones ∙ ap (λ os. zeros ++ os) g.other)

  made : Made list p sound (map nothing_in classes) puts arrays
  made = made_in_all list p sound codes image.arrays puts image.initialises once

  -- a static field with a cell, and whether it is a reference
  record IsCell (r : Bool) (m : MemberId) : Type 0 where
    number : ℕ
    class : ClassTree
    place : ℕ
    field : FieldTree
    at : IsAt list p sound number class place field m
    has_cell : is_cell field ≡ true
    kind : is_reference field.desc ≡ r

  array_cell : (m : MemberId) → is_one_of m arrays ≡ true → IsCell true m
  unfolding Right
  array_cell m e =
      let k = made in
      let r = k.of m e in
      let at = r.4 in
      record {
        number = r.0;
        class = r.1;
        place = r.2;
        field = r.3;
        at = at;
        has_cell = r.5;
        kind = all_right list p sound codes image.arrays puts image.initialises once r.0 r.1 r.2 r.3 held.Array
            at.class at.field r.7;
      }

  null_cell : (m : MemberId) → is_one_of m nulls ≡ true → IsCell true m
  unfolding Right
  null_cell m e =
      let r = chosen_is (null_at puts) 0 classes m e in
      let z : 0 + r.0 ≡ r.0 = omega arith in
      let h = held_in (slice_get (fields_in (slice_get puts r.0)) r.2) in
      let q = null_means r.3 h (ap (λ n. null_at puts n r.2 r.3) (sym z) ∙ r.6) in
      record {
        number = r.0;
        class = r.1;
        place = r.2;
        field = r.3;
        at = record { class = r.4; field = r.5; named = r.7 };
        has_cell = q.0;
        kind = ⊎_elim (λ s. s.1) (λ s. all_right list p sound codes image.arrays puts image.initialises once r.0 r.1 r.2
            r.3 held.Null r.4 r.5 (is_held puts r.0 r.2 held.Null (λ c. cc) s)) q.1;
      }

  number_cell : (m : MemberId) (test : (class place : ℕ) → FieldTree → Bool) → ((n k : ℕ) (f : FieldTree)
      → test n k f ≡ true → (is_zero_start (start_at puts n k f) || is_other_start (start_at puts n k f)) ≡ true)
      → is_one_of m (chosen_of test 0 classes) ≡ true → IsCell false m
  unfolding Right
  number_cell m test is e =
      let r = chosen_is test 0 classes m e in
      let z : 0 + r.0 ≡ r.0 = omega arith in
      let h = held_in (slice_get (fields_in (slice_get puts r.0)) r.2) in
      let q = number_means r.3 h (is r.0 r.2 r.3 (ap (λ n. test n r.2 r.3) (sym z) ∙ r.6)) in
      record {
        number = r.0;
        class = r.1;
        place = r.2;
        field = r.3;
        at = record { class = r.4; field = r.5; named = r.7 };
        has_cell = q.0;
        kind = ⊎_elim (λ s. s.1) (λ s. all_right list p sound codes image.arrays puts image.initialises once r.0 r.1 r.2
            r.3 (held.Number s.0) r.4 r.5 (is_held puts r.0 r.2 (held.Number s.0) (λ c. cc) s.1)) q.1;
      }

  zero_says : (n k : ℕ) (f : FieldTree) → zero_at puts n k f ≡ true → (is_zero_start (start_at puts n k f)
      || is_other_start (start_at puts n k f)) ≡ true
  zero_says n k f e = ap (λ b. b || is_other_start (start_at puts n k f)) e

  other_says : (n k : ℕ) (f : FieldTree) → other_at puts n k f ≡ true → (is_zero_start (start_at puts n k f)
      || is_other_start (start_at puts n k f)) ≡ true
  other_says n k f e = ap (λ b. is_zero_start (start_at puts n k f) || b) e ∙ by (is_zero_start (start_at puts n k f))
    where
      by : (b : Bool) → (b || true) ≡ true
      by true = refl
      by false = refl

  reference_cell : (m : MemberId) → is_one_of m (arrays ++ nulls) ≡ true → IsCell true m
  reference_cell m e = ⊎_elim (λ a. array_cell m a) (λ b. null_cell m b) (one_either m arrays nulls e)

  numbers_cell : (m : MemberId) → is_one_of m (zeros ++ others) ≡ true → IsCell false m
  numbers_cell m e = ⊎_elim (λ a. number_cell m (zero_at puts) zero_says a) (λ b. number_cell m (other_at puts)
      other_says b) (one_either m zeros others e)

  type_of : (r : Bool) (m : MemberId) → IsCell r m → (is_some (letter_of (field_sort m.desc)) ≡ true)
      × (is_number (letter m) ≡ not r)
  type_of r m c =
      let at = c.at in
      let t = typed c.number c.place c.class c.field at.class at.field in
      let desc = ap (λ (q : MemberId). q.desc) at.named in (
        ap (λ d. is_some (letter_of (field_sort d))) (sym desc) ∙ t.some,
        ap (λ d. is_number (letter_by (field_sort d)))
            (sym desc) ∙ number_letter (field_sort (let f = c.field in f.desc)) ∙ ap not (t.reference ∙ c.kind),
      )

  in_all : (r : Bool) (m : MemberId) → IsCell r m → is_one_of m all ≡ true
  in_all r m c = let at = c.at in subst (λ q. is_one_of q all ≡ true) at.named (chosen_has (λ n k f. is_cell f) 0
      classes c.number c.class c.place c.field at.class at.field c.has_cell)

  in_groups : (m : MemberId) → is_one_of m all ≡ true → is_one_of m ((arrays ++ nulls) ++ (zeros ++ others)) ≡ true
  in_groups m e =
      let r = chosen_is (λ n k f. is_cell f) 0 classes m e in
      let z : 0 + r.0 ≡ r.0 = omega arith in
      let h = held_in (slice_get (fields_in (slice_get puts r.0)) r.2) in
      let name = r.7 in
      subst (λ q. is_one_of q ((arrays ++ nulls) ++ (zeros ++ others)) ≡ true) name (let id = field_id (let t = r.1
      in t.name) r.3 in
      ⊎_elim
      (λ a. one_front id (arrays ++ nulls) (zeros ++ others) (one_front id arrays nulls (array_held list p sound codes
      image.arrays puts image.initialises once r.0 r.1 r.2 r.3 r.4 r.5 (is_held puts r.0 r.2 held.Array (λ c. cc)
      a))))
      (λ s. ⊎_elim
      (λ a. one_front id (arrays ++ nulls) (zeros ++ others) (one_back id arrays nulls (chosen_has (null_at puts) 0
      classes r.0 r.1 r.2 r.3 r.4 r.5 (ap (λ n. null_at puts n r.2 r.3) z ∙ a))))
      (λ b. one_back id (arrays ++ nulls) (zeros ++ others) (⊎_elim
      (λ a. one_front id zeros others (chosen_has (zero_at puts) 0 classes r.0 r.1 r.2 r.3 r.4 r.5
      (ap (λ n. zero_at puts n r.2 r.3) z ∙ a)))
      (λ a. one_back id zeros others (chosen_has (other_at puts) 0 classes r.0 r.1 r.2 r.3 r.4 r.5
      (ap (λ n. other_at puts n r.2 r.3) z ∙ a))) b))
      (some_start (start_at puts r.0 r.2 r.3) s))
      (starts_or_array r.3 h r.6))

  same_place : (test : (class place : ℕ) → FieldTree → Bool) (n : ℕ) (t : ClassTree) (k : ℕ) (g : FieldTree)
      (m : MemberId) → IsAt list p sound n t k g m → is_one_of m (chosen_of test 0 classes) ≡ true → test n k g ≡ true
  same_place test n t k g m at e =
      let r = chosen_is test 0 classes m e in
      let z : 0 + r.0 ≡ r.0 = omega arith in
      let there : IsAt list p sound r.0 r.1 r.2 r.3 m = record { class = r.4; field = r.5; named = r.7 } in
      let one = one_place list p sound n t k g r.0 r.1 r.2 r.3 m at there in
      let trees : Some t ≡ Some r.1 = sym at.class ∙ ap (slice_get classes) one.0 ∙ r.4 in
      let tree : t ≡ r.1 = cc in
      let gs : Some g ≡ Some r.3 = sym at.field ∙ ap (λ (v : ClassTree). slice_get v.fields k) tree
      ∙ ap (slice_get (let u = r.1 in u.fields)) one.1 ∙ r.5 in
      let is : g ≡ r.3 = cc in
      ap (λ j. test j k g) one.0 ∙ ap (λ j. test r.0 j g) one.1 ∙ ap (test r.0 r.2) is
      ∙ ap (λ n. test n r.2 r.3) (sym z) ∙ r.6

  groups_have : HasCells groups all
  groups_have = record {
    order = record {
      references = λ f e. (type_of true f (reference_cell f e)).1;
      numbers = λ f e. (type_of false f (numbers_cell f e)).1;
      references_once = apart_append arrays nulls (let k = made in k.apart) (chosen_apart list p sound (null_at puts))
          (λ m a b. (let k = made in let r = k.of m a in
          let null_there = same_place (null_at puts) r.0 r.1 r.2 r.3 m r.4 b in
          let none = array_starts r.3 (held_in (slice_get (fields_in (slice_get puts r.0)) r.2)) (was_held puts r.0 r.2
          held.Array r.7) in
          let clash : is_null_start None ≡ true = ap is_null_start (sym none) ∙ null_there in
          cc));
      numbers_once = apart_append zeros others (chosen_apart list p sound (zero_at puts)) (chosen_apart list p sound
          (other_at puts)) (λ m a b. (let r = chosen_is (zero_at puts) 0 classes m a in
          let z : 0 + r.0 ≡ r.0 = omega arith in
          let other_there = same_place (other_at puts) r.0 r.1 r.2 r.3 m (record {
            class = r.4;
            field = r.5;
            named = r.7;
          }) b in
          not_both (start_at puts r.0 r.2 r.3) (ap (λ n. zero_at puts n r.2 r.3) (sym z) ∙ r.6) other_there));
    };
    each = in_groups;
    no_other = λ f e. ⊎_elim (λ a. in_all true f (reference_cell f a)) (λ b. in_all false f (numbers_cell f b))
        (one_either f (arrays ++ nulls) (zeros ++ others) e);
    typed = λ f e. own_letter (field_sort f.desc) (⊎_elim (λ a. (type_of true f (reference_cell f a)).0)
        (λ b. (type_of false f (numbers_cell f b)).0) (one_either f (arrays ++ nulls) (zeros
        ++ others) (in_groups f e)));
    once = chosen_apart list p sound (λ n k f. is_cell f);
  }

  pub has_cells : HasCells (order_of p.image) (statics_of classes)
  has_cells = subst (λ o. HasCells o (statics_of classes)) (sym order_is) (subst (HasCells groups)
      (sym (statics_are 0 classes)) groups_have)

  -- ---- offsets and names

  cells_ordered : cell_order p.image ≡ fields (order_of p.image)
  cells_ordered =
      let i = p.image in
      sym (append_assoc (map (λ (a : ArrayCell). a.field) i.arrays) i.nulls (i.zeros ++ map (λ v. v.field) i.others))

  all_typed : (m : MemberId) → is_one_of m (cell_order p.image) ≡ true → is_some (letter_of (field_sort m.desc)) ≡ true
  all_typed m e =
      let there : is_one_of m ((arrays ++ nulls) ++ (zeros ++ others)) ≡ true =
      ap (is_one_of m) (sym (cells_ordered ∙ ap fields order_is)) ∙ e in
      ⊎_elim (λ a. (type_of true m (reference_cell m a)).0) (λ b. (type_of false m (numbers_cell m b)).0)
      (one_either m (arrays ++ nulls) (zeros ++ others) there)

  pub offset_is : (f : MemberId) → components.cell_offset p.image f ≡ tokens.cell_offset (order_of p.image) f
  offset_is f = offsets_same 0 (cell_order p.image) f all_typed ∙ ap (λ fs. tokens.offset_from 0 fs f) cells_ordered

  named_cells : (cs : List ClassTree) → flat_map (cells_in p.image) cs ≡ cell_names (order_of p.image) (statics_of cs)
  named_cells [] = refl
  named_cells (c ∷ cs) =
      flat_map-cons (cells_in p.image) c cs ∙ ap (λ ns. ns ++ flat_map (cells_in p.image) cs)
      (one_class (filter is_cell c.fields))
      ∙ ap (λ ns. map name (statics_in c) ++ ns) (named_cells cs)
      ∙ sym (map-append name (statics_in c) (statics_of cs))
      ∙ ap (map name) (sym (flat_map-cons statics_in c cs))
    where
      name : MemberId → CellName
      name f = record { offset = tokens.cell_offset (order_of p.image) f; id = f }

      one_class : (fs : List FieldTree) → map (cell_name p.image c) fs ≡ map name (map (field_id c.name) fs)
      one_class [] = refl
      one_class (f ∷ fs) = ap (λ (n : ℕ). record { offset = n; id = field_id c.name f } ∷ map (cell_name p.image c) fs)
          (offset_is (field_id c.name f)) ∙ ap (λ ns. name (field_id c.name f) ∷ ns) (one_class fs)

  pub cells_shown : (x : Cells) → are_cells (statics_of classes) x ≡ true
      → (let l = loaded p in shown_cells 0 l.parts (tokens.image_of (order_of p.image) x ∷ [])) ≡ map shown_slot x
  cells_shown x e =
      let shown = shown_cell 0 (tokens.image_of (order_of p.image) x ∷ []) in
      append-nil (map shown (let q = part p in q.cells)) ∙ ap (map shown) (named_cells classes)
      ∙ (let agree = cells_agree (order_of p.image) (statics_of classes) has_cells in agree.shown x e)
