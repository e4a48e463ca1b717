-- Where the kinds of methods of two classes of the package don't meet, one breaks nothing against the other.
use Rattle.std.proofs.Common.{◌≡◌, ℕ, ◌+◌, refl, sym, ap, ◌∙◌, arith, Bool, true, false, List, [], ◌∷◌, ◌++◌}
use Rattle.std.specs.Prelude.{◌&&◌, ◌||◌, not, map, if◌then◌else◌}
use Rattle.std.specs.List.{list_any}
use Rattle.std.specs.Str.{bytes_eq}
use Rattle.std.proofs.lemmas.Slice.Eq.{bytes_eq-Decides}
use Rattle.std.proofs.lemmas.Bool.{and_right, or_from}
use Rattle.cjc_bytes.specs.AccessFlags.{is_abstract, is_interface, is_private, is_static}
use Rattle.cjc_bytes.specs.Breaks.{Break, at, each_from}
use Rattle.cjc_bytes.specs.Order.{FilePlace}
use Rattle.cjc_bytes.proofs.Bools.{or_left, or_right}
use Rattle.cjc_code.specs.ClassFile.declared.tree.ClassTree.{ClassTree}
use Rattle.cjc_code.specs.ClassFile.declared.tree.MethodTree.{MethodTree}
use Rattle.cjc_world.specs.Classes.{Class, Member, declared, method_of_class}
use Rattle.cjc_world.specs.Lookup.{is_called, selected}
use Rattle.cjc_subset.specs.Members.{hit, is_initialiser}
use Rattle.cjc_subset.specs.Overriding.{changes_kind, class_against, has_no_code, hides_one, is_inherited}
use Rattle.cjc_subset.specs.Overriding.{is_of_other_kind, is_open, is_out_of_sight, is_package_visible, is_special}
use Rattle.cjc_subset.specs.Overriding.{is_unfit_selection, supertype_breaks, method_against}
use Rattle.cjc_subset.specs.Places.{at_class, at_method}
use Rattle.cjc_subset.specs.Working.Kinds.{asks, has_kind, is_closed, is_instance, is_shared, kinds_of, may_break}

-- ---- tests

-- the first of two that are met, and the second
met_front : (x a b : Bool) → (x && (a || b)) ≡ false → (x && a) ≡ false
met_front false a b e = refl
met_front true a b e = or_left a b e

met_back : (x a b : Bool) → (x && (a || b)) ≡ false → (x && b) ≡ false
met_back false a b e = refl
met_back true a b e = or_right a b e

meet_front : (a b y : Bool) → ((a || b) && y) ≡ false → (a && y) ≡ false
meet_front false b y e = refl
meet_front true b y e = e

meet_back : (a b y : Bool) → ((a || b) && y) ≡ false → (b && y) ≡ false
meet_back false b y e = e
meet_back true false y e = refl
meet_back true true y e = e

-- what is not special
plain : (sp a : Bool) → sp ≡ false → (not sp && a) ≡ a
plain sp a e = ap (λ (s : Bool). not s && a) e

-- ---- against one method

-- a method that is called so is special where the name is
same_special : (x y : List ℕ) → is_special y ≡ false → bytes_eq x y ≡ true → is_special x ≡ false
same_special x y plain e = let same : x ≡ y = grind (arith, bytes_eq-Decides) in ap is_special same ∙ plain

unmet : (e e' t : Bool) → (e ≡ true → t ≡ false) → ((e && e') && t) ≡ false
unmet false e' t h = refl
unmet true false t h = refl
unmet true true t h = h refl

out_of_sight : (fp fo kp ko : Bool) → (fp && ko) ≡ false → (fo && kp) ≡ false
    → ((fp && ko) || (fo && kp) || (fp && kp && false)) ≡ false
out_of_sight fp fo kp ko e f = or_from ((fp && ko) || (fo && kp)) (fp && kp && false) (or_from (fp && ko) (fo
    && kp) e f) (none fp kp)
  where
    none : (x y : Bool) → (x && y && false) ≡ false
    none false y = refl
    none true false = refl
    none true true = refl

other_kind : (p s q t : Bool) → ((p || s) && not (q || t)) ≡ false → (not (p || s) && (not q && t)) ≡ false
    → (not q && (if p || s then not t else t)) ≡ false
other_kind p s true t e f = refl
other_kind true s false true e f = refl
other_kind true s false false e f = absurd (cc)
other_kind false true false true e f = refl
other_kind false true false false e f = absurd (cc)
other_kind false false false true e f = absurd (cc)
other_kind false false false false e f = refl

module _ (name desc : List ℕ) (flags : ℕ) (ordinary : is_special name ≡ false) where
  hidden : Member → Bool
  hidden k = is_called name desc k && is_out_of_sight false flags k.flags

  changed : Member → Bool
  changed k = is_called name desc k && is_of_other_kind flags k.flags

  none_hidden : (ds : List MethodTree) → (is_package_visible flags && has_kind is_open ds) ≡ false
      → (is_open flags && has_kind is_package_visible ds) ≡ false → list_any (λ k. is_called name desc k
      && is_out_of_sight false flags k.flags) (map method_of_class ds) ≡ false
  none_hidden [] e f = refl
  none_hidden (k ∷ ds) e f =
      let here = unmet (bytes_eq k.name name) (bytes_eq k.desc desc) (is_out_of_sight false flags k.flags) (λ same.
      let ordinary_too = same_special k.name name ordinary same in
      out_of_sight (is_package_visible flags) (is_open flags) (is_package_visible k.flags) (is_open k.flags)
      (ap (λ (b : Bool). is_package_visible flags && b) (sym (plain (is_special k.name) (is_open k.flags) ordinary_too))
      ∙ met_front (is_package_visible flags) (not (is_special k.name) && is_open k.flags) (has_kind is_open ds) e)
      (ap (λ (b : Bool). is_open flags && b) (sym (plain (is_special k.name) (is_package_visible k.flags) ordinary_too))
      ∙ met_front (is_open flags) (not (is_special k.name) && is_package_visible k.flags)
      (has_kind is_package_visible ds) f)) in
      or_from (is_called name desc (method_of_class k) && is_out_of_sight false flags k.flags)
      (list_any (λ k. is_called name desc k && is_out_of_sight false flags k.flags) (map method_of_class ds)) here
      (none_hidden ds (met_back (is_package_visible flags) (not (is_special k.name) && is_open k.flags)
      (has_kind is_open ds) e) (met_back (is_open flags) (not (is_special k.name) && is_package_visible k.flags)
      (has_kind is_package_visible ds) f))

  none_changed : (ds : List MethodTree) → (is_closed flags && has_kind is_instance ds) ≡ false
      → (is_instance flags && has_kind is_shared ds) ≡ false → list_any (λ k. is_called name desc k
      && is_of_other_kind flags k.flags) (map method_of_class ds) ≡ false
  none_changed [] e f = refl
  none_changed (k ∷ ds) e f =
      let here = unmet (bytes_eq k.name name) (bytes_eq k.desc desc) (is_of_other_kind flags k.flags) (λ same.
      let ordinary_too = same_special k.name name ordinary same in
      other_kind (is_private flags) (is_static flags) (is_private k.flags) (is_static k.flags)
      (ap (λ (b : Bool). is_closed flags && b) (sym (plain (is_special k.name) (is_instance k.flags) ordinary_too))
      ∙ met_front (is_closed flags) (not (is_special k.name) && is_instance k.flags) (has_kind is_instance ds) e)
      (ap (λ (b : Bool). is_instance flags && b) (sym (plain (is_special k.name) (is_shared k.flags) ordinary_too))
      ∙ met_front (is_instance flags) (not (is_special k.name) && is_shared k.flags) (has_kind is_shared ds) f)) in
      or_from (is_called name desc (method_of_class k) && is_of_other_kind flags k.flags)
      (list_any (λ k. is_called name desc k && is_of_other_kind flags k.flags) (map method_of_class ds)) here
      (none_changed ds (met_back (is_closed flags) (not (is_special k.name) && is_instance k.flags)
      (has_kind is_instance ds) e) (met_back (is_instance flags) (not (is_special k.name) && is_shared k.flags)
      (has_kind is_shared ds) f))

-- ---- one class against another

module _ (f : FilePlace) (c d : ClassTree) where
  -- of one method: nothing where it is special, else nothing by the kinds
  module _ (m : MethodTree) (i : ℕ)
      (hides : (is_special m.name ≡ false) → hides_one (declared 0 d) m.flags m.name m.desc ≡ false)
      (changes : (is_special m.name ≡ false) → changes_kind (declared 0 d) m.flags m.name m.desc ≡ false) where
    tested : (sp h : Bool) → (sp ≡ false → h ≡ false) → (not sp && h) ≡ false
    tested true h p = refl
    tested false h p = p refl

    one_against : method_against f c (declared 0 d) i m ≡ []
    unfolding method_against
    one_against =
        ap (λ (b : Bool). at b (at_method f c i m 0) 305 ++ at (not (is_special m.name)
        && changes_kind (declared 0 d) m.flags m.name m.desc) (at_method f c i m 0) 306) (tested (is_special m.name)
        (hides_one (declared 0 d) m.flags m.name m.desc) hides)
        ∙ ap (λ (b : Bool). at b (at_method f c i m 0) 306) (tested (is_special m.name) (changes_kind (declared 0 d)
        m.flags m.name m.desc) changes)

  all_against : (ms : List MethodTree) (i : ℕ)
      → (has_kind is_package_visible ms && has_kind is_open d.methods) ≡ false
      → (has_kind is_open ms && has_kind is_package_visible d.methods) ≡ false
      → (has_kind is_closed ms && has_kind is_instance d.methods) ≡ false
      → (has_kind is_instance ms && has_kind is_shared d.methods) ≡ false
      → each_from (λ i m. method_against f c (declared 0 d) i m) i ms ≡ []
  unfolding each_from
  all_against [] i p o s t = refl
  all_against (m ∷ ms) i p o s t =
      let of_m : (test : ℕ → Bool) (y : Bool) → (has_kind test (m ∷ ms) && y) ≡ false → is_special m.name ≡ false
      → (test m.flags && y) ≡ false = λ test y e ordinary.
      ap (λ (b : Bool). b && y) (sym (plain (is_special m.name) (test m.flags) ordinary))
      ∙ meet_front (not (is_special m.name) && test m.flags) (has_kind test ms) y e in
      let of_ms : (test : ℕ → Bool) (y : Bool) → (has_kind test (m ∷ ms) && y) ≡ false → (has_kind test ms && y)
      ≡ false = λ test y e.
      meet_back (not (is_special m.name) && test m.flags) (has_kind test ms) y e in
      let here = one_against m i
      (λ ordinary. none_hidden m.name m.desc m.flags ordinary d.methods (of_m is_package_visible
      (has_kind is_open d.methods) p ordinary) (of_m is_open (has_kind is_package_visible d.methods) o ordinary))
      (λ ordinary. none_changed m.name m.desc m.flags ordinary d.methods
      (of_m is_closed (has_kind is_instance d.methods) s ordinary) (of_m is_instance (has_kind is_shared d.methods)
      t ordinary)) in
      ap (λ (bs : List Break). bs ++ each_from (λ i m. method_against f c (declared 0 d) i m) (i + 1) ms) here
      ∙ all_against ms (i + 1) (of_ms is_package_visible (has_kind is_open d.methods) p)
      (of_ms is_open (has_kind is_package_visible d.methods) o) (of_ms is_closed (has_kind is_instance d.methods) s)
      (of_ms is_instance (has_kind is_shared d.methods) t)

-- ---- 307

neither : (a b c : Bool) → a ≡ false → ((a && b) && c) ≡ false
neither a b c e = ap (λ (x : Bool). (x && b) && c) e

none_asks : (w : List Class) (c d : ClassTree) (ms : List MethodTree) → list_any (λ m. is_abstract m.flags
    || is_interface d.flags) ms ≡ false → list_any (λ k. has_no_code w c (declared 0 d) k) (map method_of_class ms)
    ≡ false
none_asks w c d [] e = refl
none_asks w c d (m ∷ ms) e =
    let here = or_left (is_abstract m.flags || is_interface d.flags) (list_any (λ m. is_abstract m.flags
    || is_interface d.flags) ms) e in
    or_from (has_no_code w c (declared 0 d) (method_of_class m)) (list_any (λ k. has_no_code w c (declared 0 d) k)
    (map method_of_class ms))
    (neither (is_abstract m.flags || is_interface d.flags) (not (not false && is_initialiser m.name))
    (is_unfit_selection (is_interface d.flags) (hit w false (selected w c.name m.name m.desc))) here)
    (none_asks w c d ms (or_right (is_abstract m.flags || is_interface d.flags) (list_any (λ m. is_abstract m.flags
    || is_interface d.flags) ms) e))

-- ---- all of it

pub nothing_broken : (w : List Class) (f : FilePlace) (c d : ClassTree) → may_break (kinds_of c) (kinds_of d) ≡ false
    → supertype_breaks w f c (declared 0 d) ≡ []
unfolding class_against supertype_breaks
nothing_broken w f c d e =
    let p = has_kind is_package_visible c.methods && has_kind is_open d.methods in
    let o = has_kind is_open c.methods && has_kind is_package_visible d.methods in
    let s = has_kind is_closed c.methods && has_kind is_instance d.methods in
    let t = has_kind is_instance c.methods && has_kind is_shared d.methods in
    let but_t = or_left (asks d || p || o || s) t e in
    let but_s = or_left (asks d || p || o) s but_t in
    let but_o = or_left (asks d || p) o but_s in
    let methods = all_against f c d c.methods 0 (or_right (asks d) p but_o) (or_right (asks d || p) o but_s)
    (or_right (asks d || p || o) s but_t) (or_right (asks d || p || o || s) t e) in
    let lacking = and_right (not (is_abstract c.flags)) (list_any (λ k. has_no_code w c (declared 0 d) k)
    (declared 0 d).methods) (none_asks w c d d.methods (or_left (asks d) p but_o)) in
    let against : class_against w f c (declared 0 d) ≡ [] = ap (λ (b : Bool). at b (at_class f c) 307
    ++ each_from (λ i m. method_against f c (declared 0 d) i m) 0 c.methods) lacking ∙ methods in
    either (is_inherited w c (declared 0 d)) against
  where
    either : (b : Bool) → {bs : List Break} → bs ≡ [] → (if b then bs else []) ≡ []
    either true e = e
    either false e = refl
