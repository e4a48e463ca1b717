-- The numbers that a static image has fit the types of their fields.
use Rattle.std.proofs.Common.{◌≡◌, ℕ, zero, suc, ◌+◌, refl, sym, ap, subst, ◌∙◌, arith, Bool, true, false, List, []}
use Rattle.std.proofs.Common.{◌∷◌, ◌++◌, length, inl, inr, ⊎_elim}
use Rattle.std.specs.Prelude.{not, ◌&&◌, ◌⊎◌, Option, Some, None, is_some, map, replicate, slice_get, slice_set}
use Rattle.std.specs.Prelude.{if◌then◌else◌, ℤ, pos}
use Rattle.std.specs.List.{AllByRecursion}
use Rattle.std.specs.Ordering.{int_eq}
use Rattle.cjc_bytes.specs.declared.fault.MemberId.{MemberId}
use Rattle.cjc_bytes.specs.declared.descriptor.Kind.{Kind}
use Rattle.cjc_bytes.proofs.Numbers.{same_place}
use Rattle.cjc_bytes.proofs.Options.{option_taken}
use Rattle.cjc_bytes.proofs.Gets.{set_other}
use Rattle.cjc_bytes.proofs.Quantified.{all_both}
use Rattle.cjc_world.specs.ClassFile.declared.tree.ClassTree.{ClassTree}
use Rattle.cjc_world.specs.ClassFile.declared.tree.FieldTree.{FieldTree}
use Rattle.cjc_world.specs.ClassFile.declared.tree.MethodTree.{MethodTree}
use Rattle.cjc_token_proof.specs.Clinit.declared.stage.Held.{Held}
use Rattle.cjc_token_proof.specs.Clinit.declared.stage.Held.TheVariants as held
use Rattle.cjc_token_proof.specs.Clinit.declared.stage.Start.{Start}
use Rattle.cjc_token_proof.specs.Clinit.declared.stage.Start.TheVariants as starts
use Rattle.cjc_components.proofs.ClinitCells.{cell_fits}
use Rattle.cjc_token_proof.specs.Clinit.Fields.{ANull, ANumber, AnArray, Contents, fits_kind, has_unfit_value, held_by}
use Rattle.cjc_token_proof.specs.Clinit.Fields.{is_cell}
use Rattle.cjc_token_proof.specs.Clinit.Fields.{is_reference, number_kind, takes, value_fits}
use Rattle.cjc_token_proof.specs.Clinit.Image.{AreInitialised, class_where, fields_in, field_id, held_in}
use Rattle.cjc_token_proof.specs.Clinit.Image.{if_initialiser}
use Rattle.cjc_token_proof.specs.Clinit.Image.{initialised, of_classes, of_fields, of_start, start_by, start_of}
use Rattle.cjc_token_proof.specs.Clinit.Image.{unput_start}
use Rattle.cjc_token_proof.specs.Clinit.Image.{value_or_zero}
use Rattle.cjc_token_proof.specs.Clinit.Image as images
use Rattle.cjc_token_proof.specs.Clinit.Initialiser.{Initialises, Put, is_initialiser, nothing_in, open_place}
use Rattle.cjc_token_proof.specs.Clinit.Initialiser as init
use Rattle.cjc_token_proof.proofs.WorldProofPlaces.{place-field}
use Rattle.cjc_components.specs.Bytecode.declared.insn.JOp.{JOp}
use Rattle.cjc_components.specs.Bytecode.declared.method_code.MethodCode.{MethodCode}
use Rattle.cjc_world.specs.declared.image.ArrayCell.{ArrayCell}
use Rattle.cjc_world.specs.declared.image.StaticImage.{StaticImage}
use Rattle.cjc_world.specs.declared.image.ValueCell.{ValueCell}
use Rattle.cjc_world.specs.Files.{Files}

-- ---- places

set_is : {A : Type 0} (xs : List A) (k : ℕ) (x y : A) → slice_get (slice_set xs k x) k ≡ Some y → x ≡ y
set_is [] k x y e = absurd cc
set_is (a ∷ xs) zero x y e = cc
set_is (a ∷ xs) (suc k) x y e = set_is xs k x y e

replicated_is : {A : Type 0} (n k : ℕ) (x y : A) → slice_get (replicate n x) k ≡ Some y → x ≡ y
replicated_is zero k x y e = absurd cc
replicated_is (suc n) zero x y e = cc
replicated_is (suc n) (suc k) x y e = replicated_is n k x y e

mapped_is : (cs : List ClassTree) (n : ℕ) (told : List Held) → slice_get (map nothing_in cs) n ≡ Some told
    → (d : ClassTree) × (nothing_in d ≡ told)
mapped_is [] n told e = absurd cc
mapped_is (c ∷ cs) zero told e = let same : nothing_in c ≡ told = cc in (c, same)
mapped_is (c ∷ cs) (suc n) told e = mapped_is cs n told e

-- ---- what is put

-- each number that a field of the class holds fits its type
abbrev HeldFits : ClassTree → List Held → Type 0
HeldFits c told = (k : ℕ) (f : FieldTree) (z : ℤ) → slice_get c.fields k ≡ Some f
    → slice_get told k ≡ Some (held.Number z) → fits_kind (number_kind f.desc) z ≡ true

nothing_fits : (c d : ClassTree) → HeldFits c (nothing_in d)
nothing_fits c d k f z e h = let no : held.Nothing ≡ held.Number z = replicated_is (length d.fields) k held.Nothing
    (held.Number z) h in absurd cc

put_fits : (contents : Contents) (desc : List ℕ) (z : ℤ) → takes contents desc ≡ true → held_by contents ≡ held.Number z
    → fits_kind (number_kind desc) z ≡ true
put_fits (ANumber v) desc z e h = let same : v ≡ z = cc in subst (λ x. fits_kind (number_kind desc) x ≡ true) same e
put_fits ANull desc z e h = absurd cc
put_fits (AnArray kind items) desc z e h = absurd cc

module _ (files : Files) (image : StaticImage) where
  initialiser_fits : (number : ℕ) (c : ClassTree) → slice_get files.classes number ≡ Some c
      → {before after : List Held} {ops : List JOp} {ps : List Put} → Initialises files number c before ops ps after
      → HeldFits c before → HeldFits c after
  initialiser_fits number c is init.ends before = before
  initialiser_fits number c is (init.puts {fields = fields} {contents = contents} {id = id} {k = k} made place more)
      before =
      initialiser_fits number c is more (λ j f z e h. ⊎_elim (λ same. here j f z e h same)
      (λ no. before j f z e (sym (set_other fields k j (held_by contents) (λ s. no (sym s))) ∙ h))
      (same_place j k))
    where
      here : (j : ℕ) (f : FieldTree) (z : ℤ) → slice_get c.fields j ≡ Some f
          → slice_get (slice_set fields k (held_by contents)) j ≡ Some (held.Number z) → j ≡ k
          → fits_kind (number_kind f.desc) z ≡ true
      here j f z e h same =
          let p = option_taken (takes contents id.desc) (open_place files number c fields id) k place in
          let field = place-field files image number c fields id k is p.1 in
          let one : Some f ≡ Some field.field = sym e ∙ ap (slice_get c.fields) same ∙ field.there in
          let f_is : f ≡ field.field = cc in
          let desc : f.desc ≡ id.desc = ap (λ (x : FieldTree). x.desc) f_is ∙ field.desc in
          let put = set_is fields k (held_by contents) (held.Number z)
          (ap (slice_get (slice_set fields k (held_by contents))) (sym same) ∙ h) in
          ap (λ d. fits_kind (number_kind d) z) desc ∙ put_fits contents id.desc z p.0 put

  abbrev AllFit : List (List Held) → Type 0
  AllFit fields = (n : ℕ) (c : ClassTree) (told : List Held) → slice_get files.classes n ≡ Some c
      → slice_get fields n ≡ Some told → HeldFits c told

  class_is : (code : MethodCode) (c : ClassTree) → initialised files code ≡ Some c → slice_get files.classes code.class
      ≡ Some c
  class_is code c e = by (slice_get files.classes code.class) e
    where
      at : (d : ClassTree) (o : Option MethodTree) → if_initialiser d o ≡ Some c → d ≡ c
      at d None e = absurd cc
      at d (Some m) e = go (is_initialiser m) e
        where
          go : (b : Bool) → (if b then Some d else None) ≡ Some c → d ≡ c
          go true e = cc
          go false e = absurd cc

      by : (o : Option ClassTree) → class_where code.method o ≡ Some c → o ≡ Some c
      by None e = absurd cc
      by (Some d) e = ap Some (at d (slice_get d.methods code.method) e)

  all_initialised : {before after : List (List Held)} {codes : List MethodCode} {arrays : List ArrayCell}
      → AreInitialised files before codes arrays after → AllFit before → AllFit after
  all_initialised images.none fit = fit
  all_initialised (images.other none rest) fit = all_initialised rest fit
  all_initialised (images.one {before = before} {code = code} c puts fields is made rest) fit =
      all_initialised rest (λ n d told e h. ⊎_elim (λ same. here n d told e h same)
      (λ no. fit n d told e (sym (set_other before code.class n fields (λ s. no (sym s))) ∙ h))
      (same_place n code.class))
    where
      here : (n : ℕ) (d : ClassTree) (told : List Held) → slice_get files.classes n ≡ Some d
          → slice_get (slice_set before code.class fields) n ≡ Some told → n ≡ code.class → HeldFits d told
      here n d told e h same =
          let there = class_is code c is in
          let one : Some c ≡ Some d = sym there ∙ ap (slice_get files.classes) (sym same) ∙ e in
          let class : c ≡ d = cc in
          let told_is = set_is before code.class fields told (ap (slice_get (slice_set before code.class fields))
          (sym same) ∙ h) in
          subst (λ v. HeldFits v told) class (subst (HeldFits c) told_is (initialiser_fits code.class c there made
          (nothing_fits c c)))

  pub puts_fit : (codes : List MethodCode) (arrays : List ArrayCell) (fields : List (List Held))
      → AreInitialised files (map nothing_in files.classes) codes arrays fields → AllFit fields
  puts_fit codes arrays fields made = all_initialised made (λ n c told e h. (let d = mapped_is files.classes n told h
      in subst (HeldFits c) d.1 (nothing_fits c d.0)))

-- ---- the numbers of the image

abbrev pub NumberFits : ValueCell → Type 0
NumberFits v = fits_kind (number_kind (let f = v.field in f.desc)) v.value ≡ true

-- 0, or of the type
abbrev StartFits : FieldTree → Option Start → Type 0
StartFits f o = (z : ℤ) → o ≡ Some (starts.Number z) → (z ≡ pos 0) ⊎ (fits_kind (number_kind f.desc) z ≡ true)

of_start_fits : (class : List ℕ) (f : FieldTree) (o : Option Start) → StartFits f o
    → AllByRecursion NumberFits (of_start (field_id class f) o).others
of_start_fits class f None h = tt
of_start_fits class f (Some starts.Null) h = tt
of_start_fits class f (Some (starts.Number z)) h = by (int_eq z (pos 0)) refl
  where
    by : (b : Bool) → int_eq z (pos 0) ≡ b → AllByRecursion NumberFits (if b
        then record images.empty { zeros = field_id class f ∷ [] }
        else record images.empty { others = record { field = field_id class f; value = z } ∷ [] }).others
    by true e = tt
    by false e = (
      ⊎_elim (λ same. (let no : int_eq (pos 0) (pos 0) ≡ false = ap (λ x. int_eq x (pos 0)) (sym same) ∙ e
          in absurd cc)) (λ fit. fit) (h z refl),
      tt,
    )

no_arrays : (id : MemberId) (o : Option Start) → (of_start id o).arrays ≡ []
no_arrays id None = refl
no_arrays id (Some starts.Null) = refl
no_arrays id (Some (starts.Number z)) = by (int_eq z (pos 0))
  where
    by : (b : Bool) → (if b then record images.empty { zeros = id ∷ [] }
        else record images.empty { others = record { field = id; value = z } ∷ [] }).arrays ≡ []
    by true = refl
    by false = refl

unput_fits : (f : FieldTree) → is_cell f ≡ true → has_unfit_value f ≡ false → StartFits f (Some (unput_start f))
unput_fits f cell fit z e = by (is_reference f.desc) (number_kind f.desc) f.constant refl
    (fine (value_fits (number_kind f.desc) f.constant) (ap (λ b. b && not (value_fits (number_kind f.desc) f.constant))
    (sym cell) ∙ cell_fits f fit)) e
  where
    fine : (b : Bool) → (true && not b) ≡ false → b ≡ true
    fine true e = refl
    fine false e = absurd cc

    same : (x : ℤ) → Some (starts.Number x) ≡ Some (starts.Number z) → x ≡ z
    same x e = cc

    by : (b : Bool) (o : Option Kind) (c : Option ℤ) → number_kind f.desc ≡ o → value_fits o c ≡ true
        → Some (if b then starts.Null else starts.Number (value_or_zero (is_some o) c)) ≡ Some (starts.Number z)
        → (z ≡ pos 0) ⊎ (fits_kind (number_kind f.desc) z ≡ true)
    by true o c k v e = absurd cc
    by false o None k v e = inl (sym (same (pos 0) e))
    by false None (Some x) k v e = inl (sym (same (pos 0) e))
    by false (Some kind) (Some x) k v e = inr (ap (λ o. fits_kind o z) k
        ∙ ap (λ y. fits_kind (Some kind) y) (sym (same x e)) ∙ v)

start_fits : (f : FieldTree) (h : Held) → has_unfit_value f ≡ false → ((z : ℤ) → h ≡ held.Number z
    → fits_kind (number_kind f.desc) z ≡ true) → StartFits f (start_of f h)
start_fits f h fit put z e = by (is_cell f) refl h put e
  where
    by : (b : Bool) → is_cell f ≡ b → (h : Held) → ((z : ℤ) → h ≡ held.Number z → fits_kind (number_kind f.desc) z
        ≡ true) → (if b then start_by f h else None) ≡ Some (starts.Number z) → (z ≡ pos 0)
        ⊎ (fits_kind (number_kind f.desc) z ≡ true)
    by false c h put e = absurd cc
    by true c held.Nothing put e = unput_fits f c fit z e
    by true c (held.Number x) put e = let same : x ≡ z = cc in inr (put z (ap held.Number same))
    by true c held.Null put e = absurd cc
    by true c held.Array put e = absurd cc

told_fits : (f : FieldTree) (o : Option Held) → ((z : ℤ) → o ≡ Some (held.Number z) → fits_kind (number_kind f.desc) z
    ≡ true) → (z : ℤ) → held_in o ≡ held.Number z → fits_kind (number_kind f.desc) z ≡ true
told_fits f None put z e = absurd cc
told_fits f (Some h) put z e = put z (ap Some e)

fields_fit : (class : List ℕ) (told : List Held) (k : ℕ) (fs : List FieldTree) → ((j : ℕ) (f : FieldTree)
    → slice_get fs j ≡ Some f → has_unfit_value f ≡ false) → ((j : ℕ) (f : FieldTree) (z : ℤ) → slice_get fs j ≡ Some f
    → slice_get told (k + j) ≡ Some (held.Number z) → fits_kind (number_kind f.desc) z ≡ true)
    → AllByRecursion NumberFits (of_fields class told k fs).others × ((of_fields class told k fs).arrays ≡ [])
fields_fit class told k [] fit put = (tt, refl)
fields_fit class told k (f ∷ fs) fit put =
    let rest = fields_fit class told (k + 1) fs (λ j g e. fit (suc j) g e) (λ j g z e h. put (suc j) g z e
    (let at : k + suc j ≡ k + 1 + j = omega arith in ap (slice_get told) at ∙ h)) in
    let o = start_of f (held_in (slice_get told k)) in
    let here = of_start_fits class f o (start_fits f (held_in (slice_get told k)) (fit 0 f refl)
    (told_fits f (slice_get told k) (λ z h. put 0 f z refl (let at : k + 0 ≡ k = omega arith
    in ap (slice_get told) at ∙ h)))) in (
      all_both NumberFits (of_start (field_id class f) o).others (of_fields class told (k + 1) fs).others here rest.0,
      ap (λ xs. xs ++ (of_fields class told (k + 1) fs).arrays) (no_arrays (field_id class f) o) ∙ rest.1,
    )

abbrev FieldsFit : List (List Held) → ℕ → List ClassTree → Type 0
FieldsFit puts n cs = (j : ℕ) (c : ClassTree) → slice_get cs j ≡ Some c → ((i : ℕ) (f : FieldTree)
    → slice_get c.fields i ≡ Some f → has_unfit_value f ≡ false) × ((told : List Held) → slice_get puts (n + j)
    ≡ Some told → HeldFits c told)

in_fields : (c : ClassTree) (o : Option (List Held)) → ((told : List Held) → o ≡ Some told → HeldFits c told)
    → HeldFits c (fields_in o)
in_fields c None h = λ k f z e is. absurd cc
in_fields c (Some told) h = h told refl

pub classes_fit : (puts : List (List Held)) (n : ℕ) (cs : List ClassTree) → FieldsFit puts n cs
    → AllByRecursion NumberFits (of_classes puts n cs).others × ((of_classes puts n cs).arrays ≡ [])
classes_fit puts n [] h = (tt, refl)
classes_fit puts n (c ∷ cs) h =
    let rest = classes_fit puts (n + 1) cs (λ j d e. (let r = h (suc j) d e
    in (r.0, λ told is. r.1 told (let at : n + suc j ≡ n + 1 + j = omega arith in ap (slice_get puts) at ∙ is)))) in
    let mine = h 0 c refl in
    let fit = in_fields c (slice_get puts n) (λ told is. mine.1 told (let at : n + 0 ≡ n = omega arith
    in ap (slice_get puts) at ∙ is)) in
    let here = fields_fit c.name (fields_in (slice_get puts n)) 0 c.fields mine.0 (λ j f z e is. fit j f z e (let at : j
    ≡ 0 + j = omega arith in ap (slice_get (fields_in (slice_get puts n))) at ∙ is)) in
    let front = of_fields c.name (fields_in (slice_get puts n)) 0 c.fields in (
      all_both NumberFits front.others (of_classes puts (n + 1) cs).others here.0 rest.0,
      ap (λ xs. xs ++ (of_classes puts (n + 1) cs).arrays) here.1 ∙ rest.1,
    )
