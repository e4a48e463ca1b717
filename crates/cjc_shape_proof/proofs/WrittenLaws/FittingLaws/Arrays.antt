-- The arrays of a static image hold numbers of their kinds.
use Rattle.std.proofs.Common.{◌≡◌, ℕ, zero, suc, ◌+◌, refl, sym, ap, subst, ◌∙◌, Bool, true, false, List, [], ◌∷◌, ◌++◌}
use Rattle.std.proofs.Common.{arith, Option, Some, None, ℤ, pos}
use Rattle.std.specs.Prelude.{All, ◌==◌, replicate, slice_get, slice_set, if◌then◌else◌}
use Rattle.std.specs.List.{AllByRecursion}
use Rattle.cjc_bytes.specs.declared.fault.MemberId.{MemberId}
use Rattle.cjc_bytes.specs.declared.descriptor.Kind.{Kind}
use Rattle.cjc_bytes.proofs.Quantified.{all_both, all_same}
use Rattle.cjc_bytes.specs.declared.descriptor.Kind.TheVariants as kinds
use Rattle.cjc_world.specs.ClassFile.declared.tree.ClassTree.{ClassTree}
use Rattle.cjc_world.specs.ClassFile.declared.tree.FieldTree.{FieldTree}
use Rattle.cjc_components.specs.Bytecode.declared.insn.JOp.{JOp}
use Rattle.cjc_components.specs.Bytecode.declared.method_code.MethodCode.{MethodCode}
use Rattle.cjc_classes.specs.Clinit.declared.stage.Held.{Held}
use Rattle.cjc_classes.specs.Clinit.declared.stage.Start.{Start}
use Rattle.cjc_classes.specs.Clinit.declared.stage.Start.TheVariants as begun
use Rattle.cjc_classes.specs.Clinit.Fields.{Contents, ANumber, ANull, AnArray, fits}
use Rattle.cjc_classes.specs.Clinit.Image as Image
use Rattle.cjc_classes.specs.Clinit.Image.{AreInitialised, IsImage, array_in, arrays_of, of_classes}
use Rattle.cjc_classes.specs.Clinit.Image.{of_fields, of_start, own_field}
use Rattle.cjc_classes.specs.Clinit.Initialiser as Initialiser
use Rattle.cjc_classes.specs.Clinit.Initialiser.{Initialises, Makes, Put, Stores, element_kind}
use Rattle.cjc_classes.specs.Descriptor.Fits.{FitsArray, is_number_of}
use Rattle.cjc_narrow_proof.specs.Script.Sorts.{sort_by}
use Rattle.std.specs.Ordering.{int_eq}
use Rattle.cjc_world.specs.declared.image.ArrayCell.{ArrayCell}
use Rattle.cjc_world.specs.declared.image.StaticImage.{StaticImage}
use Rattle.cjc_world.specs.Files.{Files}

-- ---- lists

pub at_each : {A : Type 0} (P : A → Type 0) (xs : List A) → AllByRecursion P xs → All P xs
at_each P [] all k d lt = absurd (omega (arith, lt))
at_each P (x ∷ xs) all zero d lt = all.0
at_each P (x ∷ xs) all (suc k) d lt = at_each P xs all.1 k d (omega (arith, lt))

set_one : {A : Type 0} (P : A → Type 0) (xs : List A) (i : ℕ) (a : A) → P a → AllByRecursion P xs
    → AllByRecursion P (slice_set xs i a)
set_one P [] i a h all = tt
set_one P (x ∷ xs) zero a h all = (h, all.1)
set_one P (x ∷ xs) (suc i) a h all = (all.0, set_one P xs i a h all.1)

-- ---- numbers

number_fits : (kind : Kind) (z : ℤ) → fits kind z ≡ true → is_number_of (sort_by kind []) z ≡ true
number_fits kinds.Bool z e = e
number_fits kinds.Byte z e = e
number_fits kinds.Short z e = e
number_fits kinds.Int z e = e
number_fits kinds.Other z e = cc
number_fits kinds.Ref z e = cc
number_fits kinds.Void z e = cc

zero_fits : (number : ℕ) (kind : Kind) → element_kind number ≡ Some kind → fits kind (pos 0) ≡ true
zero_fits number kind e = by (number == 4) (number == 8) (number == 9) (number == 10) e
  where
    by : (a b c d : Bool) → (if a then Some kinds.Bool else if b then Some kinds.Byte else if c then Some kinds.Short
        else if d then Some kinds.Int else None) ≡ Some kind → fits kind (pos 0) ≡ true
    by true b c d e = let same : kinds.Bool ≡ kind = cc in subst (λ k. fits k (pos 0) ≡ true) same refl
    by false true c d e = let same : kinds.Byte ≡ kind = cc in subst (λ k. fits k (pos 0) ≡ true) same refl
    by false false true d e = let same : kinds.Short ≡ kind = cc in subst (λ k. fits k (pos 0) ≡ true) same refl
    by false false false true e = let same : kinds.Int ≡ kind = cc in subst (λ k. fits k (pos 0) ≡ true) same refl
    by false false false false e = cc

stored : (kind : Kind) (before : List ℤ) (ops : List JOp) (after : List ℤ) → Stores kind before ops after
    → AllByRecursion (λ z. fits kind z ≡ true) before → AllByRecursion (λ z. fits kind z ≡ true) after
stored kind before ops after Initialiser.none all = all
stored kind before ops after (Initialiser.one {i = i} {z = z} {ops = more} lt f rest) all =
    stored kind (slice_set before i z) more after rest (set_one (λ z. fits kind z ≡ true) before i z f all)

as_numbers : (kind : Kind) (items : List ℤ) → AllByRecursion (λ z. fits kind z ≡ true) items
    → AllByRecursion (λ z. is_number_of (sort_by kind []) z ≡ true) items
as_numbers kind [] all = tt
as_numbers kind (z ∷ items) all = (number_fits kind z all.0, as_numbers kind items all.1)

-- ---- initialisers

made : (field : MemberId) (ops : List JOp) (contents : Contents) → Makes ops contents
    → AllByRecursion FitsArray (array_in field contents)
made field ops (ANumber z) m = tt
made field ops ANull m = tt
made field ops (AnArray kind items) (Initialiser.of_array {count = count} {number = number} {ops = more} le e s) = (
  at_each (λ z. is_number_of (sort_by kind []) z ≡ true) items (as_numbers kind items
      (stored kind (replicate count (pos 0)) more items s (all_same (λ z. fits kind z ≡ true) count (pos 0)
      (zero_fits number kind e)))),
  tt,
)

put_arrays : (files : Files) (number : ℕ) (c : ClassTree) (before : List Held) (ops : List JOp) (ps : List Put)
    (after : List Held) → Initialises files number c before ops ps after → AllByRecursion FitsArray (arrays_of c ps)
put_arrays files number c before ops ps after Initialiser.ends = tt
put_arrays files number c before ops ps after (Initialiser.puts {made = made_ops} {ops = more} {contents = contents}
    {id = id} {k = k} {rest = rest} m e s) =
    all_both FitsArray (array_in (own_field c id) contents) (arrays_of c rest) (made (own_field c id) made_ops contents
    m) (put_arrays files number c _ more rest after s)

all_arrays : (files : Files) (before : List (List Held)) (codes : List MethodCode) (arrays : List ArrayCell)
    (after : List (List Held)) → AreInitialised files before codes arrays after → AllByRecursion FitsArray arrays
all_arrays files before codes arrays after Image.none = tt
all_arrays files before codes arrays after (Image.other {codes = more} e rest) = all_arrays files before more arrays
    after rest
all_arrays files before codes arrays after (Image.one {code = code} {codes = more} {arrays = others} c ps fields e i
    rest) =
    all_both FitsArray (arrays_of c ps) others (put_arrays files _ c _ _ ps fields i) (all_arrays files _ more others
    after rest)

-- ---- the image has no others

arrays_in : StaticImage → List ArrayCell
arrays_in i = i.arrays

no_start : (id : MemberId) (o : Option Start) → arrays_in (of_start id o) ≡ []
unfolding arrays_in
no_start id None = refl
no_start id (Some begun.Null) = refl
no_start id (Some (begun.Number z)) = by (int_eq z (pos 0))
  where
    by : (b : Bool) → arrays_in (if b then record Image.empty { zeros = id ∷ [] }
        else record Image.empty { others = record { field = id; value = z } ∷ [] }) ≡ []
    by true = refl
    by false = refl

both_none : (xs ys : List ArrayCell) → xs ≡ [] → ys ≡ [] → xs ++ ys ≡ []
both_none xs ys e f = ap (λ zs. zs ++ ys) e ∙ f

no_fields : (class : List ℕ) (fields : List Held) (k : ℕ) (fs : List FieldTree)
    → arrays_in (of_fields class fields k fs) ≡ []
unfolding arrays_in
no_fields class fields k [] = refl
no_fields class fields k (f ∷ fs) =
    both_none _ _ (no_start (Image.field_id class f) (Image.start_of f (Image.held_in (slice_get fields k))))
    (no_fields class fields (k + 1) fs)

no_classes : (puts : List (List Held)) (n : ℕ) (cs : List ClassTree) → arrays_in (of_classes puts n cs) ≡ []
unfolding arrays_in
no_classes puts n [] = refl
no_classes puts n (c ∷ cs) = both_none _ _ (no_fields c.name _ 0 c.fields) (no_classes puts (n + 1) cs)

pub none_made : (puts : List (List Held)) (n : ℕ) (cs : List ClassTree) → (let i = of_classes puts n cs in i.arrays)
    ≡ []
unfolding arrays_in
none_made puts n cs = no_classes puts n cs

pub arrays_fit : (files : Files) (codes : List MethodCode) (image : StaticImage) → IsImage files codes image
    → All FitsArray image.arrays
unfolding arrays_in
arrays_fit files codes image is =
    let arrays = is.arrays in
    let behind = arrays_in (of_classes is.fields 0 files.classes) in
    let all = all_both FitsArray arrays behind (all_arrays files _ codes arrays is.fields is.initialises)
    (subst (AllByRecursion FitsArray) (sym (no_classes is.fields 0 files.classes)) tt) in
    subst (λ (i : StaticImage). All FitsArray i.arrays) (sym is.is) (at_each FitsArray (arrays ++ behind) all)
