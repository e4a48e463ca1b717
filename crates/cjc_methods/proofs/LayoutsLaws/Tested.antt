-- The rules that methods break, one after the other.
use Rattle.std.proofs.Common.{◌≡◌, ℕ, zero, suc, ◌+◌, ◌≤◌, ◌<◌, refl, sym, ap, subst, ◌∙◌, arith, false}
use Rattle.std.proofs.Common.{nat_lt, List, [], ◌∷◌, ◌++◌, length, get_or, take, add-zero}
use Rattle.std.specs.Prelude.{map, slice_get, All, Option, Some, None, Result, Ok, Err, OnOk, ◌||◌}
use Rattle.std.specs.List.{flat_map}
use Rattle.std.proofs.lemmas.Bool.{ltb-false}
use Rattle.std.proofs.lemmas.List.{take_all}
use Rattle.std.proofs.lemmas.List.Concat.{flat_map-cons}
use Rattle.std.proofs.lemmas.Option.{slice_get_read}
use Rattle.std.proofs.lemmas.List.Elements.{All-head, All-tail}
use Rattle.cjc_bytes.specs.Breaks.{Break, RulePlace, at, each_from, list_spot}
use Rattle.cjc_bytes.proofs.Lists.{empty_both, none_left}
use Rattle.cjc_bytes.proofs.BrokenRules.{not_broken}
use Rattle.cjc_world.specs.declared.found.Found.{Found}
use Rattle.cjc_world.specs.Classes.{Class, all_classes, class_at}
use Rattle.cjc_world.specs.Files.{Files}
use Rattle.cjc_pool.specs.NCode.declared.narrow.NMethod.{NMethod}
use Rattle.cjc_components.specs.Descriptor.{method_in}
use Rattle.cjc_components.specs.Limits.{form_breaks, has_many_entries, in_class, layout_breaks, method_spot, of_methods}
use Rattle.cjc_components.specs.Limits.{order_breaks}
use Rattle.cjc_components.specs.Package.{LaidMethod, Package, pool, world}
use Rattle.cjc_pool.specs.NCode.PoolOrder.{pool_order}
use Rattle.cjc_methods.specs.Ready.{IsOwn}
use Rattle.cjc_methods.specs.Layouts.Limits.{IsTold}
use Rattle.cjc_methods.specs.declared.layouts.laid.Laid.{Laid}
use Rattle.cjc_methods.proofs.LayoutsLaws.Kept.{all_last}
use Rattle.cjc_methods.specs.Layouts.Working.Tries.{AreAll, AreFine, IsFine, IsPut, breaks_at, breaks_by, breaks_in}
use Rattle.cjc_methods.specs.Layouts.Working.Tries.{breaks_where, code_breaks, overtaken}
use Rattle.cjc_methods.specs.Layouts.Working.Tries as tries

-- ---- those of a package

same_by : (p : Package) (m : LaidMethod) (o : Option Class) → breaks_by p m.member m.code o ≡ in_class (layout_breaks p)
    m o
same_by p m None = refl
same_by p m (Some c) = refl

shifted : {A : Type 0} (all : List A) (xs : List A) (n : ℕ) (x : A)
    → ((j : ℕ) → slice_get all (n + j) ≡ slice_get (x ∷ xs) j) → (j : ℕ) → slice_get all (n + 1 + j) ≡ slice_get xs j
shifted all xs n x h j = let e : n + 1 + j ≡ n + suc j = omega arith in ap (slice_get all) e ∙ h (suc j)

all_same : (p : Package) (all : List Found) (n : ℕ) (ms : List LaidMethod)
    → ((j : ℕ) → slice_get all (n + j) ≡ slice_get (map (λ (m : LaidMethod). m.member) ms) j)
    → each_from (code_breaks p all) n (map (λ (m : LaidMethod). m.code) ms)
    ≡ flat_map (λ (m : LaidMethod). let f = m.member in in_class (layout_breaks p) m (class_at (world p) f.imported
    f.class)) ms
unfolding each_from
all_same p all n [] h = refl
all_same p all n (m ∷ ms) h =
    let f = m.member in
    let here : slice_get all n ≡ Some f = ap (slice_get all) (sym (add-zero n)) ∙ h 0 in
    let rest = each_from (code_breaks p all) (n + 1) (map (λ (x : LaidMethod). x.code) ms) in
    ap (λ o. breaks_where p o m.code ++ rest) here
    ∙ ap (λ bs. bs ++ rest) (same_by p m (class_at (world p) f.imported f.class))
    ∙ ap (λ bs. in_class (layout_breaks p) m (class_at (world p) f.imported f.class)
    ++ bs) (all_same p all (n + 1) ms (shifted all (map (λ (x : LaidMethod). x.member) ms) n f h))
    ∙ sym (flat_map-cons (λ (x : LaidMethod). let g = x.member
    in in_class (layout_breaks p) x (class_at (world p) g.imported g.class)) m ms)

pub those_of_package : (p : Package) (members : List Found) (narrow : List NMethod) → map (λ m. m.member) p.methods
    ≡ members → map (λ m. m.code) p.methods ≡ narrow
    → each_from (code_breaks p members) 0 narrow ≡ of_methods p (layout_breaks p)
those_of_package p members narrow e f =
    ap (λ cs. each_from (code_breaks p members) 0 cs) (sym f)
    ∙ all_same p members 0 p.methods (λ j. ap (slice_get members) (let z : 0 + j ≡ j = omega arith in z)
    ∙ ap (λ xs. slice_get xs j) (sym e))

-- ---- where none is broken

not_overtaken : (place : ℕ → RulePlace) (o : Option ℕ) → order_breaks place o ≡ [] → o ≡ None
not_overtaken place None e = refl
not_overtaken place (Some x) e = cc

fine_in : (p : Package) (c : Class) (f : Found) (code : NMethod) → breaks_in p c f code ≡ [] → IsFine code
fine_in p c f code e =
    let place = method_spot p c f (method_in (world p) c f.member) in
    let both = empty_both (order_breaks place (overtaken code)) (at (nat_lt 32767 code.widest) (place 0) 415) e in
    let short = not_broken (nat_lt 32767 code.widest) (place 0) 415 both.1 in
    record { ordered = not_overtaken place (overtaken code) both.0; short = ltb-false 32767 code.widest short }

pub fine_all : (files : Files) (p : Package) → p.files ≡ files → (all : List Found) (n : ℕ) (fs : List Found)
    (codes : List NMethod) → ((j : ℕ) → slice_get all (n + j) ≡ slice_get fs j)
    → All (IsOwn files) fs → length codes ≡ length fs → each_from (code_breaks p all) n codes ≡ [] → AreFine codes
unfolding each_from
fine_all files p same all n fs [] h own count e = tries.none
fine_all files p same all n [] (c ∷ codes) h own count e = absurd (omega (arith, count))
fine_all files p same all n (f ∷ fs) (c ∷ codes) h own count e =
    let here : slice_get all n ≡ Some f = ap (slice_get all) (sym (add-zero n)) ∙ h 0 in
    let both = empty_both (code_breaks p all n c) (each_from (code_breaks p all) (n + 1) codes) e in
    let o = All-head (IsOwn files) f fs own in
    let is : class_at (world p) f.imported f.class ≡ Some o.class =
    subst (λ (w : Files). class_at (all_classes w) f.imported f.class ≡ Some o.class) (sym same) o.is_class in
    let none : breaks_in p o.class f c ≡ [] = ap (breaks_by p f c) (sym is) ∙ ap (λ x. breaks_where p x c) (sym here)
    ∙ both.0 in
    tries.more (fine_in p o.class f c none)
    (fine_all files p same all (n + 1) fs codes (shifted all fs n f h) (All-tail (IsOwn files) f fs own) (omega (
      arith,
      count,
    )) both.1)

-- ---- the first of these

pub fine_last : (ms : List NMethod) (m : NMethod) → AreFine (ms ++ m ∷ []) → AreFine ms × IsFine m
fine_last [] m (tries.more one rest) = (tries.none, one)
fine_last (x ∷ ms) m (tries.more one rest) = let r = fine_last ms m rest in (tries.more one r.0, r.1)

-- ---- the first so many and one more

pub take_more : {A : Type 0} (k : ℕ) (xs : List A) (x : A) → k < length xs → x ≡ get_or xs k x
    → take (k + 1) xs ≡ take k xs ++ x ∷ []
take_more k [] x lt e = absurd (omega (arith, lt))
take_more zero (y ∷ xs) x lt e = ap (λ z. z ∷ []) (sym e)
take_more {A} (suc k) (y ∷ xs) x lt e =
    let s : suc k + 1 ≡ suc (k + 1) = omega arith in
    ap (λ n. take n (y ∷ xs)) s ∙ ap (λ (ys : List A). y ∷ ys) (take_more k xs x (omega (arith, lt)) e)

module _ (files : Files) (fs : List Found) (ms : List NMethod) (k : ℕ) (f : Found) (m : NMethod) (before after :
    List Laid) (lt : k < length ms) (lt2 : k < length fs) (is : m ≡ get_or ms k m) (is2 : f ≡ get_or fs k f) where
  pub all_next : (AreFine (take k ms) → AreAll files (take k fs) (take k ms) before)
      → (IsFine m → IsPut files f m before after) → AreFine (take (k + 1) ms)
      → AreAll files (take (k + 1) fs) (take (k + 1) ms) after
  all_next so_far put fine =
      let both = fine_last (take k ms) m (subst AreFine (take_more k ms m lt is) fine) in
      let one = put both.1 in
      subst (λ xs. AreAll files xs (take (k + 1) ms) after) (sym (take_more k fs f lt2 is2))
      (subst (λ ys. AreAll files (take k fs ++ f ∷ []) ys after) (sym (take_more k ms m lt is))
      (subst (AreAll files (take k fs ++ f ∷ []) (take k ms ++ m ∷ [])) (sym one.is_last) (all_last files f m one.last
      (so_far both.0) one.is_laid)))

pub all_taken : (files : Files) (fs : List Found) (ms : List NMethod) (k : ℕ) (ls : List Laid) → length ms ≡ length fs
    → length ms ≤ k → (AreFine (take k ms) → AreAll files (take k fs) (take k ms) ls) → AreFine ms
    → AreAll files fs ms ls
all_taken files fs ms k ls count le so_far fine =
    let a : take k ms ≡ ms = take_all k ms le in
    let b : take k fs ≡ fs = take_all k fs (omega (arith, count, le)) in
    subst (λ xs. AreAll files xs ms ls) b (subst (λ ys. AreAll files (take k fs) ys ls) a
    (so_far (subst AreFine (sym a) fine)))

-- the break of a member is at the class that it has
pub at_class : (p : Package) (files : Files) (f : Found) (code : NMethod) (own : IsOwn files f) → p.files ≡ files
    → breaks_at p f code ≡ breaks_in p own.class f code
at_class p files f code own same = ap (breaks_by p f code) (subst (λ (w : Files). class_at (all_classes w) f.imported
    f.class ≡ Some own.class) (sym same) own.is_class)

pub where_member : (p : Package) (fs : List Found) (k : ℕ) (f : Found) (code : NMethod) → k < length fs
    → f ≡ get_or fs k f → code_breaks p fs k code ≡ breaks_at p f code
where_member p fs k f code lt is = ap (λ o. breaks_where p o code) (slice_get_read fs (length fs) k f refl lt is)

-- ---- all three rules

-- a package of files
pub some_package : Files → Package
some_package files = record {
  list = record { name = []; «package» = []; aid = []; major = 0; minor = 0; ints = false; applets = []; lines = [] };
  files = files;
  image = record { arrays = []; nulls = []; zeros = []; others = [] };
  methods = [];
}

pub own_files : (files : Files) → (let p = some_package files in p.files) ≡ files
unfolding some_package
own_files files = refl

pub fine_where : (files : Files) (members : List Found) (codes : List NMethod) (more : List Break)
    → All (IsOwn files) members → length codes ≡ length members
    → each_from (code_breaks (some_package files) members) 0 codes ++ more ≡ [] → AreFine codes
fine_where files members codes more own count e =
    fine_all files (some_package files) (own_files files) members 0 members codes (λ j. ap (slice_get members)
    (let z : 0 + j ≡ j = omega arith in z)) own count
    (none_left (each_from (code_breaks (some_package files) members) 0 codes) more e)

pub forms_are : (list : List ℕ) (files : Files) (members : List Found) (narrow : List NMethod) (exported : ℕ)
    (p : Package) → IsTold list files members narrow exported p
    → each_from (code_breaks p members) 0 narrow ++ at (nat_lt 16383 (length (pool_order narrow))
    || nat_lt 16383 exported) (list_spot list) 414 ≡ form_breaks p
forms_are list files members narrow exported p told =
    ap (λ bs. bs ++ at (nat_lt 16383 (length (pool_order narrow)) || nat_lt 16383 exported) (list_spot list) 414)
    (those_of_package p members narrow told.by_members told.by_codes)
    ∙ ap (λ (cs : List NMethod). of_methods p (layout_breaks p) ++ at (nat_lt 16383 (length (pool_order cs))
    || nat_lt 16383 exported) (list_spot list) 414) (sym told.by_codes)
    ∙ ap (λ n. of_methods p (layout_breaks p) ++ at (nat_lt 16383 (length (pool p)) || nat_lt 16383 n) (list_spot list)
    414) told.by_export
    ∙ ap (λ name. of_methods p (layout_breaks p) ++ at (has_many_entries p) (list_spot name) 414) (sym told.by_list)

pub on_ok : {A E : Type 0} {P Q : Type 0} → (P → Q) → (r : Result A E) → OnOk r P → OnOk r Q
on_ok f (Ok x) p = f p
on_ok f (Err e) p = tt
