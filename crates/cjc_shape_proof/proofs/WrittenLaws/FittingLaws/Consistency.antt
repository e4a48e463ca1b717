-- A package that breaks no rule keeps what consistent components rest on.
use Rattle.std.proofs.Common.{◌≡◌, ℕ, ◌≤◌, refl, sym, ap, ◌∙◌, Bool, true, false, not, List, [], ◌++◌}
use Rattle.std.proofs.Common.{Some}
use Rattle.std.specs.Prelude.{◌&&◌, ◌||◌, codes, nat_lt, slice_get}
use Rattle.std.specs.List.{list_any}
use Rattle.std.specs.Str.{bytes_eq}
use Rattle.std.proofs.lemmas.Bool.{ltb-false}
use Rattle.cjc_bytes.specs.AccessFlags.{is_abstract, is_interface, is_protected, is_public, is_static}
use Rattle.cjc_bytes.specs.Breaks.{at}
use Rattle.cjc_bytes.specs.declared.settings.AppletLine.{AppletLine}
use Rattle.cjc_bytes.proofs.Lists.{bytes_true}
use Rattle.cjc_bytes.proofs.Gets.{any_at, any_off, mapped_at}
use Rattle.cjc_bytes.proofs.Bools.{or_left, or_right, clash}
use Rattle.cjc_check_proof.specs.Classes.Premises.{HasNearTypes, HasShortMethods, HasShortRefs, HaveInstalls}
use Rattle.cjc_check_proof.specs.Classes.Premises.{InterfacesAreUnbound}
use Rattle.cjc_components.specs.Class.{class_info}
use Rattle.cjc_components.specs.Limits.{has_far_types, has_large_component, size_breaks, spot_of_list, widest_method}
use Rattle.cjc_components.specs.Names.{class_ref}
use Rattle.cjc_components.specs.Package.{Package, world}
use Rattle.cjc_check_proof.proofs.LimitsLaws.Offsets.{widest_short}
use Rattle.cjc_shape.specs.LowerJudge.Rules.{settings_of}
use Rattle.cjc_shape.specs.LowerJudge.declared.judged.Judged.{Judged}
use Rattle.cjc_classes.specs.List.Listed.{ListTree}
use Rattle.cjc_check_proof.specs.CheckRules.Complete.{class_info_size}
use Rattle.cjc_classes.specs.Subset.Applets.{has_unfit_applets, is_applet, is_install, is_unfit_applet, is_unfit_class}
use Rattle.cjc_classes.specs.Subset.Applets.{repeats_aid}
use Rattle.cjc_tokens.proofs.Supers.{class_at-number}
use Rattle.cjc_tokens.specs.Members.{is_constructor, is_initialiser}
use Rattle.cjc_tokens.specs.Methods.{is_open_bound}
use Rattle.cjc_world.specs.Classes.{Class, Member, class_named, method_of_class}
use Rattle.cjc_shape_proof.proofs.WrittenLaws.FittingLaws.Limited.{by_list, few_files, methods_short, no_open, unbroken}
use Rattle.cjc_shape_proof.proofs.WrittenLaws.FittingLaws.Rules as Rules
use Rattle.cjc_shape_proof.specs.Written.LaidOut.{IsLaidOut}

-- ---- lists

-- install is public and static, and has no special name
install_is_open : (m : Member) → is_install m ≡ true → is_open_bound m ≡ true
install_is_open m e = by (bytes_eq m.name (codes "install")) (bytes_eq m.desc (codes "([BSB)V")) (is_public m.flags)
    (is_static m.flags) refl refl refl e
  where
    plain : m.name ≡ codes "install" → is_initialiser m.name ≡ false
    plain f = ap is_initialiser f

    shown : (p q s c i : Bool) → p ≡ true → s ≡ true → i ≡ false → ((p || q) && (s || c) && not i) ≡ true
    shown true q true c false e f g = refl
    shown false q s c i e f g = cc
    shown true q false c i e f g = cc
    shown true q true c true e f g = cc

    by : (a b p s : Bool) → bytes_eq m.name (codes "install") ≡ a → is_public m.flags ≡ p → is_static m.flags ≡ s
        → ((a && b) && p && s) ≡ true → is_open_bound m ≡ true
    by true true true true f g h k = shown (is_public m.flags) (is_protected m.flags) (is_static m.flags)
        (is_constructor m.name) (is_initialiser m.name) g h (plain (bytes_true m.name (codes "install") f))
    by true true true false f g h k = cc
    by true true false s f g h k = cc
    by true false p s f g h k = cc
    by false b p s f g h k = cc

module _ (list : ListTree) (files : List (List ℕ)) (judged : Judged) (p : Package) (is : IsLaidOut list files judged p)
  where
    -- ---- limits

    none_large : size_breaks p ≡ [] → (has_far_types p ≡ false) × (has_large_component p ≡ false)
    none_large kept = by (has_far_types p) (has_large_component p) kept
      where
        by : (a b : Bool) → at a (spot_of_list p) 411 ++ at b (spot_of_list p) 416 ≡ [] → (a ≡ false) × (b ≡ false)
        by true b e = cc
        by false true e = cc
        by false false e = (refl, refl)

    pub near_types : ((q : Package) → has_far_types q ≡ false → HasNearTypes q) → size_breaks p ≡ [] → HasNearTypes p
    near_types law kept = law p (none_large kept).0

    pub short_refs : ((q : Package) → has_large_component q ≡ false → class_info_size (class_info (class_ref q) q) ≤
        32767) → size_breaks p ≡ [] → HasShortRefs p
    short_refs law kept = record {
      few_bytes = law p (none_large kept).1;
      few_imports = few_files list files judged p is;
    }

    pub short_methods : size_breaks p ≡ [] → HasShortMethods p
    short_methods kept = widest_short p (methods_short list files judged p is) (ltb-false 65535 (widest_method p)
        (or_left (nat_lt 65535 (widest_method p)) _ (none_large kept).1))

    -- ---- methods of interfaces

    pub unbound : InterfacesAreUnbound p
    unbound x c e own interface k m at =
        let r = class_at-number p.files x c e own in
        let t = r.0 in
        let there = mapped_at method_of_class t.methods k m (ap (λ (d : Class). slice_get d.methods k) (sym r.2) ∙ at)
        in
        ap is_open_bound (sym there.2) ∙ no_open list files judged p is c.number t r.1
        (ap (λ (d : Class). is_interface d.flags) (sym r.2) ∙ interface) k there.0 there.1

    -- ---- applets

    fit : (k : ℕ) (a : AppletLine) → slice_get list.applets k ≡ Some a → is_unfit_applet (world p) a.class ≡ false
    unfolding has_unfit_applets
    fit k a at = let u = unbroken list files judged p is in
        any_off (λ (x : AppletLine). is_unfit_applet (world p) x.class) list.applets k a
        (or_left (list_any (λ (x : AppletLine). is_unfit_applet (world p) x.class) list.applets)
        (repeats_aid list.applets) (Rules.fit_applets list.name p.files judged.codes (settings_of list) u.checks)) at

    plain : (x : List ℕ) (c : Class) → is_unfit_applet (world p) x ≡ false → class_named (world p) x ≡ Some c
        → is_interface c.flags ≡ false
    unfolding is_unfit_applet
    plain x c fits e = by (is_interface c.flags) refl
      where
        parts : is_unfit_class (world p) (Some c) ≡ false
        parts = ap (is_unfit_class (world p)) (sym e) ∙ fits

        own : c.is_imported ≡ false
        own = or_left c.is_imported (is_abstract c.flags) (or_left (c.is_imported || is_abstract c.flags)
            (not (is_applet (world p) c)) (or_left (c.is_imported || is_abstract c.flags
            || not (is_applet (world p) c))
            (not (list_any is_install c.methods)) parts))

        has : list_any is_install c.methods ≡ true
        has = on (list_any is_install c.methods) (or_right (c.is_imported || is_abstract c.flags
            || not (is_applet (world p) c)) (not (list_any is_install c.methods)) parts)
          where
            on : (b : Bool) → not b ≡ false → b ≡ true
            on true f = refl
            on false f = cc

        by : (b : Bool) → is_interface c.flags ≡ b → is_interface c.flags ≡ false
        by false f = f
        by true f =
            let r = any_at is_install c.methods has in
            clash (is_open_bound r.1) (install_is_open r.1 r.3) (unbound x c e own f r.0 r.1 r.2)

    pub installs : HaveInstalls p
    installs k a at =
        let fits = fit k a (ap (λ (l : ListTree). slice_get l.applets k) (sym (by_list list files judged p is)) ∙ at) in
        (fits, λ c e. plain a.class c fits e)
