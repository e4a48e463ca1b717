use Rattle.std.proofs.Common.{◌≡◌, ℕ, zero, suc, ◌+◌, ◌≤◌, refl, sym, ap, ◌∙◌, arith, Bool, true, false, List, [], ◌∷◌}
use Rattle.std.proofs.Common.{length}
use Rattle.std.specs.Prelude.{not, ◌&&◌, ◌||◌, Option, Some, None, nat_lt, position, option_map, slice_get}
use Rattle.std.specs.Prelude.{if◌then◌else◌, codes}
use Rattle.std.specs.List.{list_any}
use Rattle.std.specs.Str.{bytes_eq}
use Rattle.std.proofs.lemmas.Bool.Decides.{nat_tests}
use Rattle.cjc_bytes.specs.AccessFlags.{is_abstract, is_interface, is_public, is_static}
use Rattle.cjc_bytes.specs.declared.settings.AppletLine.{AppletLine}
use Rattle.cjc_bytes.proofs.Bools.{and_true}
use Rattle.cjc_bytes.proofs.Lists.{bytes_true}
use Rattle.cjc_bytes.proofs.Gets.{any_at}
use Rattle.cjc_check_rules.specs.Spots.{in_info, along}
use Rattle.cjc_check_rules.specs.Complete.{applet_size}
use Rattle.cjc_check_rules.specs.Members.{is_static_start}
use Rattle.cjc_check_rules.specs.Statics.{applets_of, install_spot}
use Rattle.cjc_pool.specs.Subset.Applets.{is_applet, is_install, is_unfit_applet, is_unfit_class}
use Rattle.cjc_world.specs.declared.found.Found.{Found}
use Rattle.cjc_world.specs.Classes.{Member, Class, class_named}
use Rattle.cjc_world.specs.Supertypes.{supertypes, line}
use Rattle.cjc_world.specs.Interfaces.{gathered, known}
use Rattle.cjc_world.specs.Laws.{LineGoesUp}
use Rattle.cjc_world.specs.Lookup.{find_method, first, is_called, member_at, or_else, own_method}
use Rattle.cjc_world.specs.Rules.{is_earlier, is_twice}
use Rattle.cjc_world.proofs.Unbroken.{unbroken_is_acyclic}
use Rattle.cjc_tokens.proofs.Facts.{position-cons}
use Rattle.cjc_vtable.proofs.Filed.{Has, has-get}
use Rattle.cjc_components.specs.Package.{Package, world}
use Rattle.cjc_components.specs.Names.{offset_where}
use Rattle.cjc_components.specs.Components.{applet_entry, applet_with}
use Rattle.cjc_token_proof.specs.Components.Methods.{HasMethods}
use Rattle.cjc_token_proof.specs.Components.Whole.{whole}
use Rattle.cjc_token_proof.proofs.ComponentsLaws.Tests.{passes}
use Rattle.cjc_token_proof.specs.Tables.Sound.{IsSound}
use Rattle.cjc_token_proof.proofs.TablesLaws.Clean.{has_named, kept}
use Rattle.cjc_token_proof.proofs.TablesLaws.Filed.{own_filed}
use Rattle.cjc_token_proof.proofs.TablesLaws.Order.{own_names}
use Rattle.cjc_check_proof.proofs.ClassesLaws.Installs.{static_start}
use Rattle.cjc_check_proof.proofs.ClassesLaws.Supers.{in_place}
use Rattle.cjc_check_proof.proofs.ClassesLaws.Lists.{none_along}
use Rattle.cjc_check_proof.proofs.classes.install_methods_are_static.Goals as goal

abbrev install : List ℕ
install = codes "install"

abbrev its_desc : List ℕ
its_desc = codes "([BSB)V"

-- ---- the method of the rule

three : (a b c : Bool) → (a && b && c) ≡ true → (a ≡ true) × (c ≡ true)
three true true true e = (refl, refl)
three true true false e = absurd (cc)
three true false c e = absurd (cc)
three false b c e = absurd (cc)

fit : (a b c d : Bool) → (a || b || not c || not d) ≡ false → (a ≡ false) × (d ≡ true)
fit false false true true e = (refl, refl)
fit false false true false e = absurd (cc)
fit false false false d e = absurd (cc)
fit false true c d e = absurd (cc)
fit true b c d e = absurd (cc)

position_upto : {A : Type 0} (test : A → Bool) (xs : List A) (i : ℕ) (x : A) → slice_get xs i ≡ Some x → test x ≡ true
    → (k : ℕ) × (position test xs ≡ Some k) × (k ≤ i)
position_upto test [] i x e f = absurd (cc)
position_upto test (y ∷ xs) zero x e f =
    let is : y ≡ x = cc in (
      0,
      position-cons test y xs ∙ ap (λ z. if test z then Some 0 else option_map suc (position test xs)) is
          ∙ ap (λ b. if b then Some 0 else option_map suc (position test xs)) f,
      omega arith,
    )
position_upto test (y ∷ xs) (suc i) x e f = by (test y) refl (position_upto test xs i x e f)
  where
    by : (b : Bool) → test y ≡ b → (k : ℕ) × (position test xs ≡ Some k) × (k ≤ i) → (k : ℕ)
        × (position test (y ∷ xs) ≡ Some k) × (k ≤ suc i)
    by true g r = (
      0,
      position-cons test y xs ∙ ap (λ b. if b then Some 0 else option_map suc (position test xs)) g,
      omega arith,
    )
    by false g r = let le = r.2 in (
      suc r.0,
      position-cons test y xs ∙ ap (λ b. if b then Some 0
          else option_map suc (position test xs)) g ∙ ap (option_map suc) r.1,
      omega (arith, le),
    )

-- the only one of its name and descriptor is found there
only : (ms : List Member) (i : ℕ) (m : Member) → slice_get ms i ≡ Some m → is_called install its_desc m ≡ true
    → is_twice ms i m.name m.desc ≡ false → position (λ k. is_called install its_desc k) ms ≡ Some i
unfolding is_twice
only ms i m e called once =
    let s = and_true (bytes_eq m.name install) (bytes_eq m.desc its_desc) called in
    let name = bytes_true m.name install s.0 in
    let desc = bytes_true m.desc its_desc s.1 in
    let r = position_upto (λ k. is_called install its_desc k) ms i m e called in
    let le = r.2 in
    let not_before : is_earlier (position (λ k. is_called install its_desc k) ms) i ≡ false =
    ap (λ n. is_earlier (position (λ k. is_called n its_desc k) ms) i) (sym name)
    ∙ ap (λ d. is_earlier (position (λ k. is_called m.name d k) ms) i) (sym desc) ∙ once in
    let here : nat_lt r.0 i ≡ false = ap (λ o. is_earlier o i) (sym r.1) ∙ not_before in
    let is : r.0 ≡ i = grind (arith, nat_tests, le, here) in
    r.1 ∙ ap (λ (k : ℕ). Some k) is

abbrev more : List Class → List ℕ → Option Found
more w x = first (own_method false install its_desc) (known (gathered false (supertypes w (x ∷ []))))

found_at : (w : List Class) (x s : List ℕ) (c : Class) (i : ℕ) → line w x ≡ c ∷ line w s
    → position (λ k. is_called install its_desc k) c.methods ≡ Some i → find_method w x install its_desc
    ≡ Some (member_at c (length c.fields + i))
unfolding find_method first own_method
found_at w x s c i up at =
    ap (λ cs. or_else (first (own_method false install its_desc) cs) (more w x)) up
    ∙ ap (λ o. or_else (or_else (option_map (λ j. member_at c (length c.fields + j)) o)
    (first (own_method false install its_desc) (line w s))) (more w x)) at

module _ (list : List ℕ) (p : Package) (sound : IsSound list p.files) (methods : HasMethods p)
    (up : LineGoesUp (world p)) where
  abbrev w : List Class
  w = world p

  starts : (x : List ℕ) (c : Class) → class_named w x ≡ Some c → is_unfit_class w (Some c) ≡ false
      → is_interface c.flags ≡ false → is_static_start (whole p) (offset_where p (find_method w x install its_desc))
      ≡ true
  starts x c e unfit kind =
      let h = has_named w x c e in
      let parts = fit c.is_imported (is_abstract c.flags) (is_applet w c) (list_any is_install c.methods) unfit in
      let r = any_at is_install c.methods parts.1 in
      let m = r.1 in
      let q = three (is_called install its_desc m) (is_public m.flags) (is_static m.flags) r.3 in
      let k = kept list p.files sound c h in
      let at = only c.methods r.0 m r.2 q.0 (k.methods r.0 m r.2) in
      let t = own_filed p.files sound.classes sound.exports c h parts.0 in
      let supers = ap (λ (v : Class). v.supers) t.3 in
      let found = found_at w x (let u = t.1 in u.superclass) c r.0 (up x (let u = t.1 in u.superclass) c e supers) at in
      let name = bytes_true m.name install (and_true (bytes_eq m.name install) (bytes_eq m.desc its_desc) q.0).0 in
      let plain : bytes_eq m.name (codes "<clinit>") ≡ false = ap (λ n. bytes_eq n (codes "<clinit>")) name in
      ap (λ o. is_static_start (whole p) (offset_where p o)) found
      ∙ static_start p (own_names list p.files sound) methods c r.0 m (in_place list p sound c false h parts.0 kind) r.2
      plain q.1

  one : (x : List ℕ) → is_unfit_applet w x ≡ false → ((c : Class) → class_named w x ≡ Some c → is_interface c.flags
      ≡ false) → is_static_start (whole p) (offset_where p (find_method w x install its_desc)) ≡ true
  unfolding is_unfit_applet
  one x unfit kind = by (class_named w x) refl unfit
    where
      by : (o : Option Class) → class_named w x ≡ o → is_unfit_class w o ≡ false
          → is_static_start (whole p) (offset_where p (find_method w x install its_desc)) ≡ true
      by None f g = absurd (cc)
      by (Some c) f g = starts x c f g (kind c f)

  all : (applets : List AppletLine) → ((a : AppletLine) → Has a applets
      → is_static_start (whole p) (offset_where p (find_method w a.class install its_desc)) ≡ true)
      → along applet_size (install_spot (whole p)) 1 (applets_of (applet_with p applets)) ≡ []
  unfolding along
  all [] each = refl
  all (a ∷ applets) each = none_along applet_size (install_spot (whole p)) (applet_entry p) 1 (a ∷ applets)
      (λ at b h. passes _ (in_info 3 (at + 1 + length b.aid)) (each b h))

pub returns : goal.returns
returns c list p sound methods installs =
    let l = p.list in
    all list p sound methods (c.lookup_laws.ensures.line (world p) (unbroken_is_acyclic list p.files sound.unbroken))
    l.applets
    (λ a h. let k = has-get a l.applets h in let r = installs k.0 a k.1
    in one list p sound methods (c.lookup_laws.ensures.line (world p) (unbroken_is_acyclic list p.files
    sound.unbroken)) a.class r.0 r.1)
