-- Methods that are kept with their layouts.
use Rattle.std.proofs.Common.{◌≡◌, ℕ, zero, suc, ◌≤◌, refl, sym, ap, subst, ◌∙◌, arith, List, [], ◌∷◌, ◌++◌, length}
use Rattle.std.specs.Prelude.{map, slice_get, option_map, Some}
use Rattle.std.proofs.lemmas.Option.{slice_get-map}
use Rattle.cjc_components.specs.Bytecode.declared.method_code.MethodCode.{MethodCode}
use Rattle.cjc_pool.specs.List.Listed.{ListTree}
use Rattle.cjc_world.specs.declared.found.Found.{Found}
use Rattle.cjc_world.specs.declared.image.StaticImage.{StaticImage}
use Rattle.cjc_world.specs.Classes.{all_classes}
use Rattle.cjc_world.specs.Files.{Files}
use Rattle.cjc_world.specs.Order.{method_order}
use Rattle.cjc_pool.specs.Clinit.Image.{IsImage}
use Rattle.cjc_pool.specs.NCode.declared.narrow.NMethod.{NMethod}
use Rattle.cjc_pool.specs.NCode.PoolOrder.{pool_order}
use Rattle.cjc_narrow.specs.Rows.Selected.{near_fields}
use Rattle.cjc_pool.specs.Layout.Layouts.{IsLayout}
use Rattle.cjc_components.specs.Package.{LaidMethod, Package}
use Rattle.cjc_components.specs.Written.{is_abstract_at}
use Rattle.cjc_int_package.specs.Modes.{Tables}
use Rattle.cjc_int_package.specs.Written.{IsPackageByModes, IsWrittenByMode, code_by_mode_at}
use Rattle.cjc_methods.specs.declared.layouts.laid.Laid.{Laid}
use Rattle.cjc_methods.specs.declared.layouts.laid.Methods.{Methods}
use Rattle.cjc_methods.specs.Layouts.Laid.{AreOf, laid_method, laid_methods, with_layouts}
use Rattle.cjc_methods.specs.Layouts.Working.Tries.{AreAll, IsLaid}
use Rattle.cjc_methods.specs.Layouts.Working.Tries as tries

-- ---- codes with layouts

pub codes_of : (cs : List NMethod) (ls : List Laid) → length ls ≡ length cs → map (λ m. m.code) (with_layouts cs ls)
    ≡ cs
codes_of [] ls e = refl
codes_of (c ∷ cs) [] e = absurd (omega (arith, e))
codes_of (c ∷ cs) (l ∷ ls) e = ap (λ xs. c ∷ xs) (codes_of cs ls (omega (arith, e)))

pub members_of : (cs : List NMethod) (ls : List Laid) → length ls ≡ length cs → map (λ m. m.member) (with_layouts cs ls)
    ≡ map (λ (l : Laid). l.member) ls
members_of [] [] e = refl
members_of [] (l ∷ ls) e = absurd (omega (arith, e))
members_of (c ∷ cs) [] e = refl
members_of (c ∷ cs) (l ∷ ls) e = ap (λ xs. l.member ∷ xs) (members_of cs ls (omega (arith, e)))

-- the one at a place
pub record IsAt (cs : List NMethod) (ls : List Laid) (k : ℕ) (m : LaidMethod) : Type 0 where
  pub code : NMethod
  pub laid : Laid
  pub is_code : slice_get cs k ≡ Some code
  pub is_laid : slice_get ls k ≡ Some laid
  pub is : m ≡ laid_method code laid

pub at_place : (cs : List NMethod) (ls : List Laid) (k : ℕ) (m : LaidMethod) → slice_get (with_layouts cs ls) k ≡ Some m
    → IsAt cs ls k m
at_place [] ls k m e = cc
at_place (c ∷ cs) [] k m e = cc
at_place (c ∷ cs) (l ∷ ls) zero m e = record {
  code = c;
  laid = l;
  is_code = refl;
  is_laid = refl;
  is = (let f : Some m ≡ Some (laid_method c l) = sym e in cc);
}
at_place (c ∷ cs) (l ∷ ls) (suc k) m e = let h = at_place cs ls k m e in record {
  code = h.code;
  laid = h.laid;
  is_code = h.is_code;
  is_laid = h.is_laid;
  is = h.is;
}

pub there : (cs : List NMethod) (ls : List Laid) (k : ℕ) (c : NMethod) (l : Laid) → slice_get cs k ≡ Some c
    → slice_get ls k ≡ Some l → slice_get (with_layouts cs ls) k ≡ Some (laid_method c l)
there [] ls k c l e f = cc
there (x ∷ cs) [] k c l e f = cc
there (x ∷ cs) (y ∷ ls) zero c l e f = let g : x ≡ c = cc in let h : y ≡ l = cc in ap (λ z. Some (laid_method z y)) g
    ∙ ap (λ z. Some (laid_method c z)) h
there (x ∷ cs) (y ∷ ls) (suc k) c l e f = there cs ls k c l e f

-- what two lists of the same items say at a place
same_at : {A B C : Type 0} (f : A → C) (g : B → C) (xs : List A) (ys : List B) (k : ℕ) (x : A) (y : B)
    → map f xs ≡ map g ys → slice_get xs k ≡ Some x → slice_get ys k ≡ Some y → f x ≡ g y
same_at f g xs ys k x y e p q =
    let h = sym (ap (option_map f) p) ∙ sym (slice_get-map f xs k) ∙ ap (λ zs. slice_get zs k) e ∙ slice_get-map g ys k
    ∙ ap (option_map g) q in
    let i : Some (f x) ≡ Some (g y) = h in cc

map_twice : {B : Type 0} (f : Found → B) (ls : List Laid) → map f (map (λ (y : Laid). y.member) ls)
    ≡ map (λ (y : Laid). f y.member) ls
map_twice f [] = refl
map_twice f (y ∷ ls) = ap (λ xs. f y.member ∷ xs) (map_twice f ls)

map_same : (cs : List NMethod) → map (λ (c : NMethod). c) cs ≡ cs
map_same [] = refl
map_same (c ∷ cs) = ap (λ xs. c ∷ xs) (map_same cs)

-- ---- a package by modes

module _ (list : ListTree) (files : Files) (insns : List MethodCode) (image : StaticImage) (is_image : IsImage files
    insns image) (t : Tables) (members : List Found) (is_members : members ≡ method_order (all_classes files))
    (narrow : List NMethod) (is_narrow : narrow ≡ map (code_by_mode_at files (near_fields (pool_order narrow)) t)
    members) (m : Methods) (of : AreOf files members narrow m) where
  abbrev p : Package
  p = record { list = list; files = files; image = image; methods = laid_methods m }

  own_codes : map (λ x. x.code) (laid_methods m) ≡ narrow
  own_codes = codes_of m.codes m.laid of.laid.count ∙ of.by_codes

  written : (k : ℕ) (x : LaidMethod) → slice_get (laid_methods m) k ≡ Some x
      → IsWrittenByMode files (near_fields (pool_order narrow)) t x
  written k x e =
      let h = at_place m.codes m.laid k x e in
      let l = h.laid in
      let kind : l.is_abstract ≡ is_abstract_at files l.member =
      same_at (λ (y : Laid). y.is_abstract) (λ (y : Laid). is_abstract_at files y.member) m.laid m.laid k l l
      (of.by_kinds ∙ ap (map (is_abstract_at files)) (sym of.by_members) ∙ map_twice (is_abstract_at files) m.laid)
      h.is_laid h.is_laid in
      let near = near_fields (pool_order narrow) in
      let codes_are : map (λ (c : NMethod). c) m.codes ≡ map (λ (y : Laid). code_by_mode_at files near t y.member)
      m.laid =
      map_same m.codes ∙ of.by_codes ∙ is_narrow ∙ ap (map (code_by_mode_at files near t)) (sym of.by_members)
      ∙ map_twice (code_by_mode_at files near t) m.laid in
      let code : h.code ≡ code_by_mode_at files near t l.member = same_at (λ (c : NMethod). c)
      (λ (y : Laid). code_by_mode_at files near t y.member) m.codes m.laid k h.code l codes_are h.is_code h.is_laid in
      subst (IsWrittenByMode files near t) (sym h.is) (record {
        is_abstract = kind;
        code = code;
        wide = (of.laid.each k h.code l h.is_code h.is_laid).wide;
      })

  pub is_package : IsPackageByModes list files insns t p
  is_package = record {
    by_list = refl;
    by_files = refl;
    image = is_image;
    members = members_of m.codes m.laid of.laid.count ∙ of.by_members ∙ is_members;
    methods = λ k x e. subst (λ cs. IsWrittenByMode files (near_fields (pool_order cs)) t x) (sym own_codes)
        (written k x e);
  }

-- ---- all that are laid out

module _ (files : Files) where
  all_count : {fs : List Found} {ms : List NMethod} {ls : List Laid} → AreAll files fs ms ls → length ls ≡ length ms
  all_count tries.none = refl
  all_count (tries.more one rest) = ap suc (all_count rest)

  all_members : {fs : List Found} {ms : List NMethod} {ls : List Laid} → AreAll files fs ms ls
      → map (λ (l : Laid). l.member) ls ≡ fs
  all_members tries.none = refl
  all_members (tries.more {f = f} {ls = ls} one rest) = ap (λ g. g ∷ map (λ (l : Laid). l.member) ls) one.member
      ∙ ap (λ xs. f ∷ xs) (all_members rest)

  all_kinds : {fs : List Found} {ms : List NMethod} {ls : List Laid} → AreAll files fs ms ls
      → map (λ (l : Laid). l.is_abstract) ls ≡ map (is_abstract_at files) fs
  all_kinds tries.none = refl
  all_kinds (tries.more {f = f} {ls = ls} one rest) = ap (λ b. b ∷ map (λ (l : Laid). l.is_abstract) ls) one.kind
      ∙ ap (λ xs. is_abstract_at files f ∷ xs) (all_kinds rest)

  all_each : {fs : List Found} {ms : List NMethod} {ls : List Laid} → AreAll files fs ms ls
      → (k : ℕ) (m : NMethod) (l : Laid) → slice_get ms k ≡ Some m → slice_get ls k ≡ Some l → IsLayout m l.layout
  all_each tries.none k m l e f = cc
  all_each (tries.more {m = x} {l = y} one rest) zero m l e f =
      let g : x ≡ m = cc in let h : y ≡ l = cc in
      subst (λ (z : NMethod). IsLayout z l.layout) g (subst (λ (z : Laid). IsLayout x z.layout) h one.layout)
  all_each (tries.more one rest) (suc k) m l e f = all_each rest k m l e f

  all_short : {fs : List Found} {ms : List NMethod} {ls : List Laid} → AreAll files fs ms ls → (k : ℕ) (m : NMethod)
      → slice_get ms k ≡ Some m → m.widest ≤ 32767
  all_short tries.none k m e = cc
  all_short (tries.more {m = x} one rest) zero m e = let g : x ≡ m = cc in subst (λ (z : NMethod). z.widest ≤ 32767) g
      one.short
  all_short (tries.more one rest) (suc k) m e = all_short rest k m e

  pub are_of : (fs : List Found) (ms : List NMethod) (ls : List Laid) → AreAll files fs ms ls
      → AreOf files fs ms (record { codes = ms; laid = ls })
  are_of fs ms ls a = record {
    by_codes = refl;
    by_members = all_members a;
    by_kinds = all_kinds a;
    laid = record { count = all_count a; each = all_each a; short = all_short a };
  }

  pub all_last : {fs : List Found} {ms : List NMethod} {ls : List Laid} (f : Found) (m : NMethod) (l : Laid)
      → AreAll files fs ms ls → IsLaid files f m l → AreAll files (fs ++ f ∷ []) (ms ++ m ∷ []) (ls ++ l ∷ [])
  all_last f m l tries.none one = tries.more one tries.none
  all_last f m l (tries.more other rest) one = tries.more other (all_last f m l rest one)
