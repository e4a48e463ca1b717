-- A static image has no more cells than the class files have static fields that are no constants, each of which
-- Descriptor has.
use Rattle.std.proofs.Common.{◌≡◌, ℕ, zero, suc, ◌+◌, ◌≤◌, ◌<◌, refl, sym, ap, subst, ◌∙◌, arith, Bool, true, false}
use Rattle.std.proofs.Common.{not, List, [], ◌∷◌, ◌++◌, length, length-append, map, Option, Some, None, pos}
use Rattle.std.specs.Prelude.{◌&&◌, cond, count_by, option_map, slice_get, slice_set, sum_by, if◌then◌else◌}
use Rattle.std.specs.Ordering.{int_eq}
use Rattle.std.proofs.lemmas.List.{length-map}
use Rattle.std.proofs.lemmas.List.Sums.{sum_by-cons}
use Rattle.std.proofs.lemmas.Option.{slice_get-map}
use Rattle.cjc_bytes.specs.AccessFlags.{is_interface, is_static}
use Rattle.cjc_bytes.specs.declared.fault.MemberId.{MemberId}
use Rattle.cjc_bytes.proofs.Options.{option_taken}
use Rattle.cjc_bytes.proofs.Gets.{set_same, set_other}
use Rattle.cjc_world.specs.ClassFile.declared.tree.ClassTree.{ClassTree}
use Rattle.cjc_world.specs.ClassFile.declared.tree.FieldTree.{FieldTree}
use Rattle.cjc_classes.specs.Clinit.Fields.{ANull, ANumber, AnArray, Contents, held_by, is_cell, takes}
use Rattle.cjc_classes.specs.Clinit.Image as Image
use Rattle.cjc_classes.specs.Clinit.Image.{AreInitialised, IsImage, array_in, arrays_of, empty, field_id, fields_in}
use Rattle.cjc_classes.specs.Clinit.Image.{held_in}
use Rattle.cjc_classes.specs.Clinit.Image.{image_of, initialised, of_classes, of_fields, of_start, own_field}
use Rattle.cjc_classes.specs.Clinit.Image.{start_by}
use Rattle.cjc_classes.specs.Clinit.Image.{start_of}
use Rattle.cjc_classes.specs.Clinit.Initialiser as Initialiser
use Rattle.cjc_classes.specs.Clinit.Initialiser.{Initialises, Put, nothing_in, open_place}
use Rattle.cjc_classes.specs.Clinit.declared.stage.Held.{Held}
use Rattle.cjc_classes.specs.Clinit.declared.stage.Held.TheVariants as held
use Rattle.cjc_classes.specs.Clinit.declared.stage.Start.{Start}
use Rattle.cjc_classes.specs.Clinit.declared.stage.Start.TheVariants as begun
use Rattle.cjc_check_proof.proofs.WorldProofPackages.{class-there}
use Rattle.cjc_check_proof.proofs.WorldProofPlaces.{place-field}
use Rattle.cjc_check_proof.specs.WorldProof.Initialisers.Values.{StandOnce}
use Rattle.cjc_check_proof.proofs.WorldProofValues.{nothing-only}
use Rattle.cjc_components.specs.Bytecode.declared.insn.JOp.{JOp}
use Rattle.cjc_components.specs.Bytecode.declared.method_code.MethodCode.{MethodCode}
use Rattle.cjc_components.specs.Descriptor.{field_descriptor, fields_from}
use Rattle.cjc_components.specs.Class.{fields_in as class_fields, fields_of}
use Rattle.cjc_components.specs.Package.{Package, world}
use Rattle.cjc_components.specs.Statics.{cell_order}
use Rattle.cjc_tokens.specs.Fields.{is_constant}
use Rattle.cjc_classes.specs.ClassOrder.Classes.Numbers.{class_count, numbered_from}
use Rattle.cjc_check_proof.specs.Limits.Premises.{CellsAreDescribed}
use Rattle.cjc_check_proof.proofs.ClassesLaws.Lists.{has-back}
use Rattle.cjc_narrow_proof.proofs.LawsLaws.Own.{class_by_name}
use Rattle.cjc_check_proof.proofs.TokenProofFiled.{one_class, own_in, has-front}
use Rattle.cjc_check_proof.proofs.TokenProofOrder.{all-lined}
use Rattle.cjc_check_proof.specs.TokenProof.Tables.Sound.{export_count}
use Rattle.cjc_vtable.proofs.Filed.{Has}
use Rattle.cjc_world.proofs.Settled.{clear_settles}
use Rattle.cjc_world.specs.Classes.{Class, declared}
use Rattle.cjc_world.specs.Supertypes.{IsAcyclic}
use Rattle.cjc_world.specs.Order.{class_order, in_order, is_of_kind, lined_up}
use Rattle.cjc_world.specs.Rules.{breaks}
use Rattle.cjc_world.specs.Files.{Files}
use Rattle.cjc_world.specs.declared.image.ArrayCell.{ArrayCell}
use Rattle.cjc_world.specs.declared.image.StaticImage.{StaticImage}
use Rattle.cjc_shape_proof.proofs.WrittenLaws.FittingLaws.Arrays.{none_made}
use Rattle.cjc_shape_proof.proofs.WrittenLaws.FittingLaws.Order.{files_within, numbered_is, numbered_least}

-- ---- what fields hold

is_array : Held → Bool
is_array held.Array = true
is_array held.Nothing = false
is_array held.Null = false
is_array (held.Number z) = false

one_if : Bool → ℕ
one_if true = 1
one_if false = 0

-- the fields with cells, from one on, that hold arrays by these, and those that do not
arrays_at : List Held → ℕ → List FieldTree → ℕ
arrays_at fields i [] = 0
arrays_at fields i (f ∷ fs) = one_if (is_cell f && is_array (held_in (slice_get fields i))) + arrays_at fields (i + 1)
    fs

others_at : List Held → ℕ → List FieldTree → ℕ
others_at fields i [] = 0
others_at fields i (f ∷ fs) = one_if (is_cell f && not (is_array (held_in (slice_get fields i)))) + others_at fields
    (i + 1) fs

both_at : (fields : List Held) (i : ℕ) (fs : List FieldTree) → arrays_at fields i fs + others_at fields i fs
    ≡ count_by is_cell fs
unfolding arrays_at others_at one_if
both_at fields i [] = refl
both_at fields i (f ∷ fs) = by (is_cell f) (is_array (held_in (slice_get fields i))) (both_at fields (i + 1) fs)
    (sum_by-cons (λ g. cond (is_cell g) 1 0) f fs)
  where
    by : (a b : Bool) → arrays_at fields (i + 1) fs + others_at fields (i + 1) fs ≡ count_by is_cell fs
        → count_by is_cell (f ∷ fs) ≡ cond a 1 0 + count_by is_cell fs
        → (one_if (a && b) + arrays_at fields (i + 1) fs) + (one_if (a && not b) + others_at fields (i + 1) fs)
        ≡ count_by is_cell (f ∷ fs)
    by true true rest head = omega (arith, rest, head)
    by true false rest head = omega (arith, rest, head)
    by false b rest head = omega (arith, rest, head)

-- ---- null and numbers

rest_of : StaticImage → ℕ
rest_of i = length i.nulls + (length i.zeros + length i.others)

rest_joined : (a b : StaticImage) → rest_of (Image.joined a b) ≡ rest_of a + rest_of b
unfolding rest_of
rest_joined a b =
    let n = length-append a.nulls b.nulls in
    let z = length-append a.zeros b.zeros in
    let o = length-append a.others b.others in
    omega (arith, n, z, o)

one_start : (id : MemberId) (s : Start) → rest_of (of_start id (Some s)) ≡ 1
unfolding rest_of
one_start id begun.Null = refl
one_start id (begun.Number z) = by (int_eq z (pos 0))
  where
    by : (b : Bool) → rest_of (if b then record empty { zeros = id ∷ [] }
        else record empty { others = record { field = id; value = z } ∷ [] }) ≡ 1
    by true = refl
    by false = refl

start_few : (id : MemberId) (f : FieldTree) (h : Held) → rest_of (of_start id (start_of f h)) ≤ one_if (is_cell f
    && not (is_array h))
unfolding rest_of one_if is_array
start_few id f h = by (is_cell f) h
  where
    by : (b : Bool) (h : Held) → rest_of (of_start id (if b then start_by f h else None)) ≤ one_if (b
        && not (is_array h))
    by false h = let z : 0 ≤ 0 = omega arith in z
    by true held.Nothing = let one = one_start id (Image.unput_start f) in omega (arith, one)
    by true (held.Number z) = let one = one_start id (begun.Number z) in omega (arith, one)
    by true held.Null = let one = one_start id begun.Null in omega (arith, one)
    by true held.Array = let z : 0 ≤ 0 = omega arith in z

fields_few : (class : List ℕ) (fields : List Held) (i : ℕ) (fs : List FieldTree)
    → rest_of (of_fields class fields i fs) ≤ others_at fields i fs
unfolding others_at rest_of
fields_few class fields i [] = let z : 0 ≤ 0 = omega arith in z
fields_few class fields i (f ∷ fs) =
    let here = start_few (field_id class f) f (held_in (slice_get fields i)) in
    let rest = fields_few class fields (i + 1) fs in
    let both = rest_joined (of_start (field_id class f) (start_of f (held_in (slice_get fields i))))
    (of_fields class fields (i + 1) fs) in
    omega (arith, here, rest, both)

-- of all classes, the first of which has this number
all_arrays : List (List Held) → ℕ → List ClassTree → ℕ
all_arrays puts n [] = 0
all_arrays puts n (c ∷ cs) = arrays_at (fields_in (slice_get puts n)) 0 c.fields + all_arrays puts (n + 1) cs

classes_few : (puts : List (List Held)) (n : ℕ) (cs : List ClassTree) → rest_of (of_classes puts n cs) + all_arrays puts
    n cs ≤ sum_by (λ (c : ClassTree). count_by is_cell c.fields) cs
unfolding all_arrays rest_of
classes_few puts n [] = let z : 0 ≤ 0 = omega arith in z
classes_few puts n (c ∷ cs) =
    let fields = fields_in (slice_get puts n) in
    let here = fields_few c.name fields 0 c.fields in
    let counted = both_at fields 0 c.fields in
    let rest = classes_few puts (n + 1) cs in
    let both = rest_joined (of_fields c.name fields 0 c.fields) (of_classes puts (n + 1) cs) in
    let head = sum_by-cons (λ (d : ClassTree). count_by is_cell d.fields) c cs in
    omega (arith, here, counted, rest, both, head)

-- ---- an array that is put

same_behind : (fields : List Held) (k : ℕ) (h : Held) (i : ℕ) (fs : List FieldTree) → k < i
    → arrays_at (slice_set fields k h) i fs ≡ arrays_at fields i fs
unfolding arrays_at
same_behind fields k h i [] lt = refl
same_behind fields k h i (f ∷ fs) lt =
    let differs : k ≡ i → ⊥ = (λ (e : k ≡ i). omega (arith, e, lt)) in
    let here : one_if (is_cell f && is_array (held_in (slice_get (slice_set fields k h) i))) ≡ one_if (is_cell f
    && is_array (held_in (slice_get fields i))) = ap (λ o. one_if (is_cell f && is_array (held_in o)))
    (set_other fields k i h differs) in
    let rest = same_behind fields k h (i + 1) fs (omega (arith, lt)) in
    omega (arith, here, rest)

array_put : (fields : List Held) (h : Held) (i : ℕ) (fs : List FieldTree) (j : ℕ) (f : FieldTree)
    → slice_get fs j ≡ Some f → is_cell f ≡ true → slice_get fields (i + j) ≡ Some held.Nothing
    → arrays_at (slice_set fields (i + j) h) i fs ≡ one_if (is_array h) + arrays_at fields i fs
unfolding arrays_at one_if is_array
array_put fields h i [] j f e cell there = cc
array_put fields h i (g ∷ fs) zero f e cell there =
    let is : g ≡ f = cc in
    let z : i + 0 ≡ i = omega arith in
    let was : one_if (is_cell g && is_array (held_in (slice_get fields i))) ≡ 0 =
    ap (λ o. one_if (is_cell g && is_array (held_in o))) (sym (ap (slice_get fields) z) ∙ there)
    ∙ nothing (is_cell g) in
    let now : one_if (is_cell g && is_array (held_in (slice_get (slice_set fields (i + 0) h) i)))
    ≡ one_if (is_array h) =
    ap (λ o. one_if (is_cell g && is_array (held_in o))) (sym (ap (slice_get (slice_set fields (i + 0) h)) z)
    ∙ set_same fields (i + 0) h held.Nothing there)
    ∙ ap (λ b. one_if (b && is_array h)) (ap is_cell is ∙ cell) in
    let rest = same_behind fields (i + 0) h (i + 1) fs (omega arith) in
    omega (arith, was, now, rest)
  where
    nothing : (b : Bool) → one_if (b && is_array held.Nothing) ≡ 0
    nothing true = refl
    nothing false = refl
array_put fields h i (g ∷ fs) (suc j) f e cell there =
    let z : i + suc j ≡ i + 1 + j = omega arith in
    let differs : i + suc j ≡ i → ⊥ = (λ (e : i + suc j ≡ i). omega (arith, e)) in
    let here : one_if (is_cell g && is_array (held_in (slice_get (slice_set fields (i + suc j) h) i)))
    ≡ one_if (is_cell g && is_array (held_in (slice_get fields i))) =
    ap (λ o. one_if (is_cell g && is_array (held_in o))) (set_other fields (i + suc j) i h differs) in
    let rest = array_put fields h (i + 1) fs j f e cell (sym (ap (slice_get fields) z) ∙ there) in
    let moved : arrays_at (slice_set fields (i + suc j) h) (i + 1) fs ≡ arrays_at (slice_set fields (i + 1 + j) h)
    (i + 1) fs = ap (λ k. arrays_at (slice_set fields k h) (i + 1) fs) z in
    omega (arith, here, rest, moved)

array_made : (field : MemberId) (contents : Contents) → length (array_in field contents)
    ≡ one_if (is_array (held_by contents))
unfolding one_if is_array
array_made field (ANumber z) = refl
array_made field ANull = refl
array_made field (AnArray kind items) = refl

module _ (files : Files) (n : ℕ) (c : ClassTree) (is_class : slice_get files.classes n ≡ Some c) where
  puts_few : (before : List Held) (ops : List JOp) (ps : List Put) (after : List Held)
      → Initialises files n c before ops ps after → length (arrays_of c ps) + arrays_at before 0 c.fields ≤ arrays_at
      after 0 c.fields
  puts_few before ops ps after Initialiser.ends = let z : 0 + arrays_at before 0 c.fields ≤ arrays_at before 0
      c.fields = omega arith in z
  puts_few before ops ps after (Initialiser.puts {ops = more} {contents = contents} {id = id} {k = k} {rest = rest} m e
      s) =
      let t = option_taken (takes contents id.desc) (open_place files n c before id) k e in
      let there = place-field files empty n c before id k is_class t.1 in
      let z : 0 + k ≡ k = omega arith in
      let put = array_put before (held_by contents) 0 c.fields k there.field there.there there.is_cell
      (ap (slice_get before) z ∙ there.unput) in
      let moved : arrays_at (slice_set before (0 + k) (held_by contents)) 0 c.fields
      ≡ arrays_at (slice_set before k (held_by contents)) 0 c.fields =
      ap (λ j. arrays_at (slice_set before j (held_by contents)) 0 c.fields) z in
      let later = puts_few (slice_set before k (held_by contents)) more rest after s in
      let one = array_made (own_field c id) contents in
      let both = length-append (array_in (own_field c id) contents) (arrays_of c rest) in
      omega (arith, put, moved, later, one, both)

-- ---- all initialisers

none_at : (fields : List Held) (i : ℕ) (fs : List FieldTree) → ((k : ℕ) (h : Held) → slice_get fields k ≡ Some h
    → held.Nothing ≡ h) → arrays_at fields i fs ≡ 0
unfolding arrays_at one_if is_array
none_at fields i [] nothing = refl
none_at fields i (f ∷ fs) nothing =
    let here = by (slice_get fields i) refl in
    let rest = none_at fields (i + 1) fs nothing in
    omega (arith, here, rest)
  where
    zero_if : (b : Bool) → one_if (b && false) ≡ 0
    zero_if true = refl
    zero_if false = refl

    by : (o : Option Held) → slice_get fields i ≡ o → one_if (is_cell f && is_array (held_in o)) ≡ 0
    by None e = zero_if (is_cell f)
    by (Some h) e = ap (λ x. one_if (is_cell f && is_array x)) (sym (nothing i h e)) ∙ zero_if (is_cell f)

nothing_at : (c : ClassTree) → arrays_at (nothing_in c) 0 c.fields ≡ 0
nothing_at c = none_at (nothing_in c) 0 c.fields (nothing-only (length c.fields))

classes_behind : (puts : List (List Held)) (k : ℕ) (fields : List Held) (n : ℕ) (cs : List ClassTree) → k < n
    → all_arrays (slice_set puts k fields) n cs ≡ all_arrays puts n cs
unfolding all_arrays
classes_behind puts k fields n [] lt = refl
classes_behind puts k fields n (c ∷ cs) lt =
    let differs : k ≡ n → ⊥ = (λ (e : k ≡ n). omega (arith, e, lt)) in
    let here : arrays_at (fields_in (slice_get (slice_set puts k fields) n)) 0 c.fields
    ≡ arrays_at (fields_in (slice_get puts n)) 0 c.fields = ap (λ o. arrays_at (fields_in o) 0 c.fields)
    (set_other puts k n fields differs) in
    let rest = classes_behind puts k fields (n + 1) cs (omega (arith, lt)) in
    omega (arith, here, rest)

-- one class's fields are told anew
class_put : (puts : List (List Held)) (was fields : List Held) (n : ℕ) (cs : List ClassTree) (j : ℕ) (c : ClassTree)
    → slice_get cs j ≡ Some c → slice_get puts (n + j) ≡ Some was
    → all_arrays (slice_set puts (n + j) fields) n cs + arrays_at was 0 c.fields ≡ all_arrays puts n cs + arrays_at
    fields 0 c.fields
unfolding all_arrays
class_put puts was fields n [] j c e there = cc
class_put puts was fields n (d ∷ cs) zero c e there =
    let is : d ≡ c = cc in
    let z : n + 0 ≡ n = omega arith in
    let same : arrays_at was 0 c.fields ≡ arrays_at (fields_in (slice_get puts n)) 0 d.fields =
    ap (λ o. arrays_at (fields_in o) 0 c.fields) (sym there ∙ ap (slice_get puts) z)
    ∙ ap (λ (x : ClassTree). arrays_at (fields_in (slice_get puts n)) 0 x.fields) (sym is) in
    let now : arrays_at (fields_in (slice_get (slice_set puts (n + 0) fields) n)) 0 d.fields
    ≡ arrays_at fields 0 c.fields =
    ap (λ o. arrays_at (fields_in o) 0 d.fields) (sym (ap (slice_get (slice_set puts (n + 0) fields)) z)
    ∙ set_same puts (n + 0) fields was there) ∙ ap (λ (x : ClassTree). arrays_at fields 0 x.fields) is in
    let rest = classes_behind puts (n + 0) fields (n + 1) cs (omega arith) in
    omega (arith, same, now, rest)
class_put puts was fields n (d ∷ cs) (suc j) c e there =
    let z : n + suc j ≡ n + 1 + j = omega arith in
    let differs : n + suc j ≡ n → ⊥ = (λ (e : n + suc j ≡ n). omega (arith, e)) in
    let here : arrays_at (fields_in (slice_get (slice_set puts (n + suc j) fields) n)) 0 d.fields
    ≡ arrays_at (fields_in (slice_get puts n)) 0 d.fields = ap (λ o. arrays_at (fields_in o) 0 d.fields)
    (set_other puts (n + suc j) n fields differs) in
    let rest = class_put puts was fields (n + 1) cs j c e (sym (ap (slice_get puts) z) ∙ there) in
    let moved : all_arrays (slice_set puts (n + suc j) fields) (n + 1) cs
    ≡ all_arrays (slice_set puts (n + 1 + j) fields) (n + 1) cs =
    ap (λ k. all_arrays (slice_set puts k fields) (n + 1) cs) z in
    omega (arith, here, rest, moved)

module _ (files : Files) where
  Untouched : List (List Held) → List MethodCode → Type 0
  Untouched before codes = (i : ℕ) (a : MethodCode) (c : ClassTree) → slice_get codes i ≡ Some a
      → initialised files a ≡ Some c → slice_get before a.class ≡ Some (nothing_in c)

  arrays_few : (before : List (List Held)) (codes : List MethodCode) (arrays : List ArrayCell)
      (after : List (List Held)) → AreInitialised files before codes arrays after → StandOnce files codes
      → Untouched before codes
      → length arrays + all_arrays before 0 files.classes ≤ all_arrays after 0 files.classes
  unfolding Untouched
  arrays_few before codes arrays after Image.none once untouched = let z : 0 + all_arrays before 0 files.classes ≤
      all_arrays before 0 files.classes = omega arith in z
  arrays_few before codes arrays after (Image.other {codes = more} e rest) once untouched =
      arrays_few before more arrays after rest (λ i j a b c d f g h k same. let r = once (suc i) (suc j) a b c d f g h k
      same in omega (arith, r)) (λ i a c f g. untouched (suc i) a c f g)
  arrays_few before codes arrays after (Image.one {code = code} {codes = more} {arrays = others} c ps fields e i rest)
      once untouched =
      let there = (class-there code.method (slice_get files.classes code.class) c e).0 in
      let z : 0 + code.class ≡ code.class = omega arith in
      let here = puts_few files code.class c there (nothing_in c) (Initialiser.ops_of code.insns) ps fields i in
      let nothing = nothing_at c in
      let was = untouched 0 code c refl e in
      let put = class_put before (nothing_in c) fields 0 files.classes code.class c there (ap (slice_get before) z
      ∙ was) in
      let moved : all_arrays (slice_set before (0 + code.class) fields) 0 files.classes
      ≡ all_arrays (slice_set before code.class fields) 0 files.classes =
      ap (λ k. all_arrays (slice_set before k fields) 0 files.classes) z in
      let later = arrays_few (slice_set before code.class fields) more others after rest
      (λ k j a b d g f h l m same. let r = once (suc k) (suc j) a b d g f h l m same in omega (arith, r))
      (λ k a d f g.
      let differs : code.class ≡ a.class → ⊥ = (λ (same : code.class ≡ a.class). let r = once 0 (suc k) code a c d refl
      f e g same in omega (arith, r)) in
      set_other before code.class a.class fields differs ∙ untouched (suc k) a d f g) in
      let both = length-append (arrays_of c ps) others in
      omega (arith, here, nothing, put, moved, later, both)

  at_first : (codes : List MethodCode) → Untouched (map nothing_in files.classes) codes
  unfolding Untouched
  at_first codes i a c e f =
      let there = (class-there a.method (slice_get files.classes a.class) c f).0 in
      slice_get-map nothing_in files.classes a.class ∙ ap (option_map nothing_in) there

  -- ---- the image

  pub cells_few : (codes : List MethodCode) (image : StaticImage) → StandOnce files codes → IsImage files codes image
      → length (cell_order image) ≤ sum_by (λ (c : ClassTree). count_by is_cell c.fields) files.classes
  unfolding rest_of
  cells_few codes image once is =
      let arrays = is.arrays in
      let puts = is.fields in
      let made = arrays_few (map nothing_in files.classes) codes arrays puts is.initialises once (at_first codes) in
      let counted = classes_few puts 0 files.classes in
      subst (λ (i : StaticImage). length (cell_order i) ≤ sum_by (λ (c : ClassTree). count_by is_cell c.fields)
      files.classes) (sym is.is) (by arrays puts made counted)
    where
      by : (arrays : List ArrayCell) (puts : List (List Held))
          → length arrays + all_arrays (map nothing_in files.classes) 0 files.classes ≤ all_arrays puts 0 files.classes
          → rest_of (of_classes puts 0 files.classes) + all_arrays puts 0 files.classes ≤ sum_by
          (λ (c : ClassTree). count_by is_cell c.fields) files.classes
          → length (cell_order (image_of files.classes arrays puts)) ≤ sum_by (λ (c : ClassTree). count_by is_cell
          c.fields) files.classes
      by arrays puts made counted =
          let b = of_classes puts 0 files.classes in
          let i = image_of files.classes arrays puts in
          let none : length b.arrays ≡ 0 = ap length (none_made puts 0 files.classes) in
          let front = length-append arrays b.arrays in
          let a = length-map i.arrays (λ (x : ArrayCell). x.field) in
          let o = length-map i.others (λ v. v.field) in
          let first = length-append (map (λ (x : ArrayCell). x.field) i.arrays) (i.nulls
          ++ (i.zeros ++ map (λ v. v.field) i.others)) in
          let second = length-append i.nulls (i.zeros ++ map (λ v. v.field) i.others) in
          let third = length-append i.zeros (map (λ v. v.field) i.others) in
          omega (arith, made, counted, none, front, a, o, first, second, third)

-- ---- Descriptor

described_few : (p : Package) (c : Class) (i : ℕ) (fs : List FieldTree)
    → count_by is_cell fs ≤ length (fields_from p c i fs)
described_few p c i [] = let z : 0 ≤ 0 = omega arith in z
described_few p c i (f ∷ fs) = by (is_static f.flags) (is_constant f) (described_few p c (i + 1) fs)
    (sum_by-cons (λ g. cond (is_cell g) 1 0) f fs)
  where
    by : (s k : Bool) → count_by is_cell fs ≤ length (fields_from p c (i + 1) fs) → count_by is_cell (f ∷ fs) ≡ cond (s
        && not k) 1 0 + count_by is_cell fs
        → count_by is_cell (f ∷ fs) ≤ length ((if k then [] else field_descriptor p c i f ∷ [])
        ++ fields_from p c (i + 1) fs)
    by true true le head = omega (arith, le, head)
    by true false le head = omega (arith, le, head)
    by false true le head = omega (arith, le, head)
    by false false le head = omega (arith, le, head)

module _ (list : List ℕ) (p : Package) (own_listed : (let v = p.files in length v.classes ≤ class_count v.lines))
    (imports_listed : (let v = p.files in length v.exports ≤ export_count v.lines)) (unbroken : breaks list p.files
    ≡ []) (acyclic : IsAcyclic (world p)) where
  -- each class file stands in the order of Class
  all_ordered : (c : Class) → Has c (numbered_from 0 (let v = p.files in v.classes)) → Has c (class_order (world p))
  unfolding class_order in_order
  all_ordered c h =
      let r = numbered_is p.files c h in
      subst (λ (d : Class). Has d (in_order (world p) true ++ in_order (world p) false)) (sym r.3)
      (by r.0 r.1 r.2 (is_interface (let t = r.1 in t.flags)) refl)
    where
      one : (n : ℕ) (t : ClassTree) → (let v = p.files in slice_get v.classes n ≡ Some t) → (i : Bool)
          → is_of_kind i (declared n t) ≡ true → Has (declared n t) (lined_up (world p) i (length (world p)) [])
      one n t at i kind =
          all-lined (world p) i (declared n t) (λ x. clear_settles (world p) x (λ z way far. acyclic z far))
          (λ a b f g k l m. one_class p.files own_listed imports_listed a b f g (k ∙ sym l) m)
          (class_by_name p.files list own_listed unbroken n t at) (own_in p.files own_listed imports_listed n t at) refl
          kind

      by : (n : ℕ) (t : ClassTree) → (let v = p.files in slice_get v.classes n ≡ Some t) → (b : Bool)
          → is_interface t.flags ≡ b → Has (declared n t) (in_order (world p) true ++ in_order (world p) false)
      by n t at true e = has-front (declared n t) (in_order (world p) true) (in_order (world p) false)
          (one n t at true e)
      by n t at false e = has-back (declared n t) (in_order (world p) true) (in_order (world p) false)
          (one n t at false (ap not e))

  pub are_described : (codes : List MethodCode) → StandOnce p.files codes → IsImage p.files codes p.image
      → CellsAreDescribed p
  are_described codes once is = let v = p.files in
      let few = cells_few p.files codes p.image once is in
      let by_number = numbered_least (λ (c : Class). length (fields_from p c 0 (fields_of p.files c)))
      (λ (c : ClassTree). count_by is_cell c.fields) 0 v.classes
      (λ n t e.
      let z : 0 + n ≡ n = omega arith in
      let same : fields_of p.files (declared (0 + n) t) ≡ t.fields = ap (λ k. class_fields (slice_get v.classes k)) z
      ∙ ap class_fields e in
      subst (λ fs. count_by is_cell t.fields ≤ length (fields_from p (declared (0 + n) t) 0 fs)) (sym same)
      (described_few p (declared (0 + n) t) 0 t.fields)) in
      let ordered = files_within p.files all_ordered (λ (c : Class). length (fields_from p c 0 (fields_of p.files c)))
      in
      omega (arith, few, by_number, ordered)
