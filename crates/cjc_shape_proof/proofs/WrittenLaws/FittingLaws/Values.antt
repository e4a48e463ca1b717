-- The numbers of a static image are of the types of their fields.
use Rattle.std.proofs.Common.{◌≡◌, ℕ, zero, suc, ◌+◌, refl, sym, ap, subst, ◌∙◌, Bool, true, false, List, [], ◌∷◌, map}
use Rattle.std.proofs.Common.{arith, ⊎_elim, Option, Some, None, ℤ, pos}
use Rattle.std.specs.Prelude.{All, ◌&&◌, ◌||◌, not, codes, is_some, length, option_map, slice_get, slice_set}
use Rattle.std.specs.Prelude.{if◌then◌else◌}
use Rattle.std.specs.List.{AllByRecursion, list_any}
use Rattle.std.specs.Ordering.{int_eq}
use Rattle.std.specs.Str.{bytes_eq}
use Rattle.std.proofs.lemmas.Option.{slice_get-map}
use Rattle.cjc_bytes.specs.AccessFlags.{is_interface}
use Rattle.cjc_bytes.specs.Breaks.{Break, broken_at}
use Rattle.cjc_bytes.specs.Order.{file_of}
use Rattle.cjc_bytes.specs.Spots as Spots
use Rattle.cjc_bytes.specs.declared.fault.MemberId.{MemberId}
use Rattle.cjc_bytes.specs.declared.descriptor.Kind.{Kind}
use Rattle.cjc_bytes.proofs.Lists.{bytes_true}
use Rattle.cjc_bytes.proofs.Options.{option_taken}
use Rattle.cjc_bytes.proofs.Quantified.{all_both}
use Rattle.cjc_bytes.specs.declared.descriptor.Kind.TheVariants as kinds
use Rattle.cjc_world.specs.ClassFile.declared.tree.ClassTree.{ClassTree}
use Rattle.cjc_world.specs.ClassFile.declared.tree.FieldTree.{FieldTree}
use Rattle.cjc_components.specs.Bytecode.declared.insn.JOp.{JOp}
use Rattle.cjc_components.specs.Bytecode.declared.method_code.MethodCode.{MethodCode}
use Rattle.cjc_components.proofs.ClinitCells.{cell_fits}
use Rattle.cjc_classes.specs.Clinit.Fields.{Contents, ANull, ANumber, AnArray, fits, fits_kind, has_unfit_value}
use Rattle.cjc_classes.specs.Clinit.Fields.{held_by}
use Rattle.cjc_classes.specs.Clinit.Fields.{is_cell, is_reference, number_kind, takes, value_fits}
use Rattle.cjc_classes.specs.Clinit.Image as Image
use Rattle.cjc_classes.specs.Clinit.Image.{AreInitialised, IsImage, empty, field_id, fields_in, held_in, initialised}
use Rattle.cjc_classes.specs.Clinit.Image.{of_classes, of_fields, of_start, start_by, start_of, unput_start}
use Rattle.cjc_classes.specs.Clinit.Image.{value_or_zero}
use Rattle.cjc_classes.specs.Clinit.Initialiser as Initialiser
use Rattle.cjc_classes.specs.Clinit.Initialiser.{Initialises, Put, is_initialiser, nothing_in, open_place}
use Rattle.cjc_classes.specs.Clinit.Rules.{BreaksImage, is_wrong_class, of_class}
use Rattle.cjc_classes.specs.Clinit.declared.stage.Held.{Held}
use Rattle.cjc_classes.specs.Clinit.declared.stage.Held.TheVariants as held
use Rattle.cjc_classes.specs.Clinit.declared.stage.Start.TheVariants as begun
use Rattle.cjc_check_proof.proofs.WorldProofPackages.{class-there}
use Rattle.cjc_check_proof.proofs.WorldProofPlaces.{place-field}
use Rattle.cjc_check_proof.proofs.WorldProofValues.{nothing-only}
use Rattle.cjc_classes.specs.Descriptor.Fits.{FitsValue, is_number_of}
use Rattle.cjc_narrow_proof.specs.Script.Sorts.{field_sort}
use Rattle.cjc_classes.specs.Subset.Places.{at_class}
use Rattle.cjc_tokens.proofs.Walks.{slice_get-set}
use Rattle.cjc_world.specs.Files.{Files}
use Rattle.cjc_world.specs.declared.image.ArrayCell.{ArrayCell}
use Rattle.cjc_world.specs.declared.image.StaticImage.{StaticImage}
use Rattle.cjc_world.specs.declared.image.ValueCell.{ValueCell}
use Rattle.cjc_shape_proof.proofs.WrittenLaws.FittingLaws.Arrays.{at_each}

-- ---- numbers of a type

by_desc : (desc other : List ℕ) (z : ℤ) (b : Bool) → bytes_eq desc other ≡ true → is_number_of (field_sort other) z ≡ b
    → is_number_of (field_sort desc) z ≡ b
by_desc desc other z b e f = subst (λ d. is_number_of (field_sort d) z ≡ b) (sym (bytes_true desc other e)) f

boolean_fits : (z : ℤ) → fits kinds.Bool z ≡ true → is_number_of (field_sort (codes "Z")) z ≡ true
unfolding Spots.desc_of Spots.bad_at Spots.after Spots.parts_of Spots.types_from
boolean_fits z e = e

byte_fits : (z : ℤ) → fits kinds.Byte z ≡ true → is_number_of (field_sort (codes "B")) z ≡ true
unfolding Spots.desc_of Spots.bad_at Spots.after Spots.parts_of Spots.types_from
byte_fits z e = e

short_fits : (z : ℤ) → fits kinds.Short z ≡ true → is_number_of (field_sort (codes "S")) z ≡ true
unfolding Spots.desc_of Spots.bad_at Spots.after Spots.parts_of Spots.types_from
short_fits z e = e

int_fits : (z : ℤ) → fits kinds.Int z ≡ true → is_number_of (field_sort (codes "I")) z ≡ true
unfolding Spots.desc_of Spots.bad_at Spots.after Spots.parts_of Spots.types_from
int_fits z e = e

number_fits : (desc : List ℕ) (z : ℤ) → fits_kind (number_kind desc) z ≡ true → is_number_of (field_sort desc) z ≡ true
number_fits desc z e = by (bytes_eq desc (codes "Z")) (bytes_eq desc (codes "B")) (bytes_eq desc (codes "S"))
    (bytes_eq desc (codes "I")) refl refl refl refl e
  where
    by : (a b c d : Bool) → bytes_eq desc (codes "Z") ≡ a → bytes_eq desc (codes "B") ≡ b → bytes_eq desc (codes "S")
        ≡ c → bytes_eq desc (codes "I") ≡ d
        → fits_kind (if a then Some kinds.Bool else if b then Some kinds.Byte else if c then Some kinds.Short else if d
        then Some kinds.Int else None) z ≡ true → is_number_of (field_sort desc) z ≡ true
    by true b c d f g h i e = by_desc desc (codes "Z") z true f (boolean_fits z e)
    by false true c d f g h i e = by_desc desc (codes "B") z true g (byte_fits z e)
    by false false true d f g h i e = by_desc desc (codes "S") z true h (short_fits z e)
    by false false false true f g h i e = by_desc desc (codes "I") z true i (int_fits z e)
    by false false false false f g h i e = cc

-- ---- what is put

-- a number that a field holds is of its type
HoldsFit : FieldTree → Held → Type 0
HoldsFit f (held.Number z) = fits_kind (number_kind f.desc) z ≡ true
HoldsFit f held.Nothing = Unit {0}
HoldsFit f held.Null = Unit {0}
HoldsFit f held.Array = Unit {0}

AllFit : ClassTree → List Held → Type 0
AllFit c fields = (k : ℕ) (f : FieldTree) (h : Held) → slice_get c.fields k ≡ Some f → slice_get fields k ≡ Some h
    → HoldsFit f h

put_fits : (f : FieldTree) (contents : Contents) → takes contents f.desc ≡ true → HoldsFit f (held_by contents)
unfolding HoldsFit
put_fits f (ANumber z) e = e
put_fits f ANull e = tt
put_fits f (AnArray kind items) e = tt

nothing_fits : (c : ClassTree) → AllFit c (nothing_in c)
unfolding AllFit HoldsFit
nothing_fits c k f h e g = subst (HoldsFit f) (nothing-only (length c.fields) k h g) tt

module _ (files : Files) (number : ℕ) (c : ClassTree) (is_class : slice_get files.classes number ≡ Some c) where
  set_fits : (fields : List Held) (contents : Contents) (id : MemberId) (k : ℕ)
      → Initialiser.place_for files number c fields contents id ≡ Some k → AllFit c fields
      → AllFit c (slice_set fields k (held_by contents))
  unfolding AllFit
  set_fits fields contents id k place all j f h e g =
      let t = option_taken (takes contents id.desc) (open_place files number c fields id) k place in
      let there = place-field files empty number c fields id k is_class t.1 in
      ⊎_elim
      (λ same. here f h e same.0 same.1 t.0 there.field there.there there.desc)
      (λ old. all j f h e old)
      (slice_get-set fields k j (held_by contents) h g)
    where
      here : (f : FieldTree) (h : Held) → slice_get c.fields j ≡ Some f → k ≡ j → held_by contents ≡ h
          → takes contents id.desc ≡ true → (field : FieldTree) → slice_get c.fields k ≡ Some field
          → field.desc ≡ id.desc → HoldsFit f h
      here f h e at is takes_it field there desc =
          let both : Some field ≡ Some f = sym there ∙ ap (slice_get c.fields) at ∙ e in
          let own : field ≡ f = cc in
          let fit : HoldsFit field (held_by contents) = put_fits field contents (ap (takes contents) desc ∙ takes_it) in
          subst (HoldsFit f) is (subst (λ (x : FieldTree). HoldsFit x (held_by contents)) own fit)

  puts_fit : (before : List Held) (ops : List JOp) (ps : List Put) (after : List Held)
      → Initialises files number c before ops ps after → AllFit c before → AllFit c after
  puts_fit before ops ps after Initialiser.ends all = all
  puts_fit before ops ps after (Initialiser.puts {ops = more} {contents = contents} {id = id} {k = k} {rest = rest} m e
      s) all = puts_fit (slice_set before k (held_by contents)) more rest after s (set_fits before contents id k e all)

-- ---- all initialisers

AllHeldFit : Files → List (List Held) → Type 0
AllHeldFit files puts = (n : ℕ) (c : ClassTree) (fields : List Held) → slice_get files.classes n ≡ Some c
    → slice_get puts n ≡ Some fields → AllFit c fields

at_first : (files : Files) → AllHeldFit files (map nothing_in files.classes)
unfolding AllHeldFit
at_first files n c fields e f =
    let there : slice_get (map nothing_in files.classes) n ≡ Some (nothing_in c) =
    slice_get-map nothing_in files.classes n ∙ ap (λ o. option_map nothing_in o) e in
    let both : Some (nothing_in c) ≡ Some fields = sym there ∙ f in
    let is : nothing_in c ≡ fields = cc in
    subst (AllFit c) is (nothing_fits c)

module _ (files : Files) where
  initialised_fit : (before : List (List Held)) (codes : List MethodCode) (after : List (List Held))
      (arrays : List ArrayCell) → AreInitialised files before codes arrays after → AllHeldFit files before
      → AllHeldFit files after
  unfolding AllHeldFit
  initialised_fit before codes after arrays Image.none all = all
  initialised_fit before codes after arrays (Image.other {codes = more} e rest) all =
      initialised_fit before more after arrays rest all
  initialised_fit before codes after arrays (Image.one {code = code} {codes = more} {arrays = others} c ps fields e i
      rest) all =
      initialised_fit (slice_set before code.class fields) more after others rest (set_all before code c ps fields e i
      all)
    where
      set_all : (before : List (List Held)) (code : MethodCode) (c : ClassTree) (ps : List Put) (fields : List Held)
          → initialised files code ≡ Some c → Initialises files code.class c (nothing_in c)
          (Initialiser.ops_of code.insns) ps fields
          → AllHeldFit files before → AllHeldFit files (slice_set before code.class fields)
      set_all before code c ps fields e i all n d held g h =
          let there = (class-there code.method (slice_get files.classes code.class) c e).0 in
          let fit = puts_fit files code.class c there (nothing_in c) (Initialiser.ops_of code.insns) ps fields i
          (nothing_fits c) in
          ⊎_elim
          (λ same.
          let both : Some c ≡ Some d = sym there ∙ ap (slice_get files.classes) same.0 ∙ g in
          let is : c ≡ d = cc in
          subst (AllFit d) same.1 (subst (λ (x : ClassTree). AllFit x fields) is fit))
          (λ old. all n d held g old)
          (slice_get-set before code.class n fields held h)

-- ---- the image

others_in : StaticImage → List ValueCell
others_in i = i.others

zero_is : int_eq (pos 0) (pos 0) ≡ true
zero_is = refl

number_start : (id : MemberId) (z : ℤ) → (int_eq z (pos 0) ≡ false → is_number_of (field_sort id.desc) z ≡ true)
    → AllByRecursion FitsValue (others_in (of_start id (Some (begun.Number z))))
unfolding others_in
number_start id z fit = by (int_eq z (pos 0)) refl
  where
    by : (b : Bool) → int_eq z (pos 0) ≡ b
        → AllByRecursion FitsValue (others_in (if b then record empty { zeros = id ∷ [] }
        else record empty { others = record { field = id; value = z } ∷ [] }))
    by true e = tt
    by false e = (fit e, tt)

-- the ConstantValue of a field with a cell
constant_fits : (desc : List ℕ) (kind : Option Kind) → number_kind desc ≡ kind → (constant : Option ℤ)
    → value_fits kind constant ≡ true → (let z = value_or_zero (is_some kind) constant in int_eq z (pos 0) ≡ false
    → fits_kind kind z ≡ true)
constant_fits desc kind e None fit differs = absurd (clash differs)
  where
    clash : int_eq (pos 0) (pos 0) ≡ false → ⊥
    clash f = let t : true ≡ false = f in cc
constant_fits desc (Some kind) e (Some z) fit differs = fit
constant_fits desc None e (Some z) fit differs = absurd (clash differs)
  where
    clash : int_eq (pos 0) (pos 0) ≡ false → ⊥
    clash f = let t : true ≡ false = f in cc

unput_fits : (id : MemberId) (f : FieldTree) → id.desc ≡ f.desc → value_fits (number_kind f.desc) f.constant ≡ true
    → AllByRecursion FitsValue (others_in (of_start id (Some (unput_start f))))
unfolding others_in
unput_fits id f e fit = by (is_reference f.desc)
  where
    by : (b : Bool)
        → AllByRecursion FitsValue (others_in (of_start id (Some (if b then begun.Null
        else begun.Number (value_or_zero (is_some (number_kind f.desc)) f.constant)))))
    by true = tt
    by false =
        let z = value_or_zero (is_some (number_kind f.desc)) f.constant in
        number_start id z (λ differs. subst (λ d. is_number_of (field_sort d) z ≡ true) (sym e)
        (number_fits f.desc z (constant_fits f.desc (number_kind f.desc) refl f.constant fit differs)))

fit_value : (f : FieldTree) → has_unfit_value f ≡ false → is_cell f ≡ true → value_fits (number_kind f.desc) f.constant
    ≡ true
fit_value f e g = by (is_cell f) (value_fits (number_kind f.desc) f.constant) (cell_fits f e) g
  where
    by : (a b : Bool) → (a && not b) ≡ false → a ≡ true → b ≡ true
    by true true e g = refl
    by true false e g = cc
    by false b e g = cc

start_fits : (id : MemberId) (f : FieldTree) (h : Held) → id.desc ≡ f.desc → has_unfit_value f ≡ false → HoldsFit f h
    → AllByRecursion FitsValue (others_in (of_start id (start_of f h)))
unfolding others_in HoldsFit
start_fits id f h e fit holds = by (is_cell f) refl
  where
    held_fits : (h : Held) → HoldsFit f h → value_fits (number_kind f.desc) f.constant ≡ true
        → AllByRecursion FitsValue (others_in (of_start id (start_by f h)))
    held_fits held.Nothing holds fit = unput_fits id f e fit
    held_fits (held.Number z) holds fit = number_start id z (λ differs. subst (λ d. is_number_of (field_sort d) z
        ≡ true) (sym e) (number_fits f.desc z holds))
    held_fits held.Null holds fit = tt
    held_fits held.Array holds fit = tt

    by : (b : Bool) → is_cell f ≡ b → AllByRecursion FitsValue (others_in (of_start id (if b then start_by f h
        else None)))
    by true g = held_fits h holds (fit_value f fit g)
    by false g = tt

none_unfit : (fs : List FieldTree) (k : ℕ) (f : FieldTree) → list_any has_unfit_value fs ≡ false
    → slice_get fs k ≡ Some f → has_unfit_value f ≡ false
none_unfit [] k f e g = cc
none_unfit (x ∷ fs) zero f e g = let is : x ≡ f = cc in ap has_unfit_value (sym is)
    ∙ first (has_unfit_value x) (list_any has_unfit_value fs) e
  where
    first : (a b : Bool) → (a || b) ≡ false → a ≡ false
    first true b e = cc
    first false b e = refl
none_unfit (x ∷ fs) (suc k) f e g = none_unfit fs k f (second (has_unfit_value x) (list_any has_unfit_value fs) e) g
  where
    second : (a b : Bool) → (a || b) ≡ false → b ≡ false
    second true b e = cc
    second false b e = e

fields_fit : (class : List ℕ) (fields : List Held) (k : ℕ) (fs : List FieldTree) → ((j : ℕ) (f : FieldTree)
    → slice_get fs j ≡ Some f → (has_unfit_value f ≡ false) × HoldsFit f (held_in (slice_get fields (k + j))))
    → AllByRecursion FitsValue (others_in (of_fields class fields k fs))
unfolding others_in
fields_fit class fields k [] all = tt
fields_fit class fields k (f ∷ fs) all =
    let here = all 0 f refl in
    let stay : k + 0 ≡ k = omega arith in
    all_both FitsValue _ _
    (start_fits (field_id class f) f (held_in (slice_get fields k)) refl here.0
    (subst (λ n. HoldsFit f (held_in (slice_get fields n))) stay here.1))
    (fields_fit class fields (k + 1) fs (λ j g e. let next : k + suc j ≡ k + 1 + j = omega arith
    in let r = all (suc j) g e in (r.0, subst (λ n. HoldsFit g (held_in (slice_get fields n))) next r.1)))

module _ (files : Files) (codes : List MethodCode) (none : (b : Break) → BreaksImage files codes b → ⊥) where
  class_fits : (n : ℕ) (c : ClassTree) → slice_get files.classes n ≡ Some c → list_any has_unfit_value c.fields ≡ false
  class_fits n c e = by (is_interface c.flags && list_any is_initialiser c.methods) (list_any has_unfit_value c.fields)
      (off (is_wrong_class c) refl)
    where
      off : (b : Bool) → is_wrong_class c ≡ b → is_wrong_class c ≡ false
      off true wrong = absurd (none (broken_at (at_class (file_of files.lines n) c) 308)
          (of_class n c e (record { is_wrong = wrong; is = refl })))
      off false right = right

      by : (a b : Bool) → (a || b) ≡ false → b ≡ false
      by true b f = cc
      by false b f = f

  held_fits : (c : ClassTree) (fields : List Held) (j : ℕ) (f : FieldTree) → AllFit c fields → slice_get c.fields j
      ≡ Some f → HoldsFit f (held_in (slice_get fields j))
  unfolding AllFit HoldsFit
  held_fits c fields j f all e = by (slice_get fields j) refl
    where
      by : (o : Option Held) → slice_get fields j ≡ o → HoldsFit f (held_in o)
      by None g = tt
      by (Some h) g = all j f h e g

  module _ (puts : List (List Held)) (fit : AllHeldFit files puts) where
    -- of the class of this number
    own_fit : (n : ℕ) (c : ClassTree) → slice_get files.classes n ≡ Some c
        → AllByRecursion FitsValue (others_in (of_fields c.name (fields_in (slice_get puts n)) 0 c.fields))
    unfolding AllHeldFit HoldsFit
    own_fit n c e = fields_fit c.name (fields_in (slice_get puts n)) 0 c.fields (λ j f g.
        let z : j ≡ 0 + j = omega arith in (
          none_unfit c.fields j f (class_fits n c e) g,
          subst (λ k. HoldsFit f (held_in (slice_get (fields_in (slice_get puts n)) k))) z (by (slice_get puts n) refl
              j f g),
        ))
      where
        by : (o : Option (List Held)) → slice_get puts n ≡ o → (j : ℕ) (f : FieldTree) → slice_get c.fields j ≡ Some f
            → HoldsFit f (held_in (slice_get (fields_in o) j))
        by None h j f g = tt
        by (Some fields) h j f g = held_fits c fields j f (fit n c fields e h) g

    classes_fit : (n : ℕ) (cs : List ClassTree) → ((j : ℕ) (c : ClassTree) → slice_get cs j ≡ Some c
        → slice_get files.classes (n + j) ≡ Some c) → AllByRecursion FitsValue (others_in (of_classes puts n cs))
    unfolding others_in
    classes_fit n [] at = tt
    classes_fit n (c ∷ cs) at =
        let stay : n + 0 ≡ n = omega arith in
        all_both FitsValue _ _
        (own_fit n c (subst (λ m. slice_get files.classes m ≡ Some c) stay (at 0 c refl)))
        (classes_fit (n + 1) cs (λ j d e. let next : n + suc j ≡ n + 1 + j = omega arith
        in subst (λ m. slice_get files.classes m ≡ Some d) next (at (suc j) d e)))

  pub values_fit : (image : StaticImage) → IsImage files codes image → All FitsValue image.others
  unfolding others_in
  values_fit image is =
      let fit = initialised_fit files (map nothing_in files.classes) codes is.fields is.arrays is.initialises
      (at_first files) in
      let all = classes_fit is.fields fit 0 files.classes (λ j c e. let z : 0 + j ≡ j = omega arith
      in subst (λ m. slice_get files.classes m ≡ Some c) (sym z) e) in
      subst (λ (i : StaticImage). All FitsValue i.others) (sym is.is)
      (at_each FitsValue (others_in (of_classes is.fields 0 files.classes)) all)
