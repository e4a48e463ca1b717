-- A class of a class file stands in the joint world on lines of classes of its package and of packages behind it; and
-- on the line of a class of its own package it stands in that package's world too.
use Rattle.std.proofs.Common.{◌≡◌, ◌≤◌, ◌<◌, ◌+◌, ℕ, zero, suc, refl, sym, ap, subst, ◌∙◌, arith, true, List, []}
use Rattle.std.proofs.Common.{◌∷◌, Some}
use Rattle.std.specs.Prelude.{slice_get}
use Rattle.cjc_bytes.proofs.Bools.{clash}
use Rattle.cjc_jvm_semantics.specs.Group.{package_of}
use Rattle.cjc_joint_proof.specs.Worlds.{IsOwn, before}
use Rattle.cjc_joint_proof.proofs.PackageNames.{package_is}
use Rattle.cjc_joint_theorem.specs.Ordered.{AreOrdered}
use Rattle.cjc_joint_theorem.specs.Together.Homes.{joint_world}
use Rattle.cjc_joint_theorem.proofs.OrderedLaws.Ordered.{ordered, super_there}
use Rattle.cjc_joint_theorem.proofs.OrderedLaws.Standing.{Stands, are_apart, class_stands, from_outside}
use Rattle.cjc_joint_theorem.proofs.OrderedLaws.Standing.{of_member, own_class, own_in}
use Rattle.cjc_world.specs.ClassFile.declared.tree.ClassTree.{ClassTree}
use Rattle.cjc_world.specs.Classes.{Class, all_classes, class_named, declared, imported}
use Rattle.cjc_world.specs.Files.{Files}
use Rattle.cjc_world.specs.Supertypes.{Lists, after, foremost}
use Rattle.cjc_world.specs.Upwards.{OnLine, here, up}
use Rattle.cjc_world.proofs.Cycles.{class_named-name}
use Rattle.cjc_world.proofs.UpwardLaws.Lines.{below_abroad, line_below, line_named, no_list, same_class}

pub one_listed : (s y : List ℕ) → Lists s (y ∷ []) → s ≡ y
one_listed _ y foremost = refl
one_listed s y (after l) = no_list l

module _ (group : List Files) (is : AreOrdered group) (q n : ℕ) (p : Files) (t : ClassTree) (own : IsOwn group q n p t)
    (k : Class) (is_k : k ≡ declared (before group q + n) t) where
  abbrev w : List Class
  w = joint_world group

  -- only its own package has a class file of its name
  pub one_home : (r i : ℕ) (e : Files) (u : ClassTree) → IsOwn group r i e u → u.name ≡ t.name → q ≡ r
  one_home r i e u other same =
      let apart = are_apart group is in
      let left : package_of t.name ≡ p.package_name = package_is p.package_name t.name (apart.own q n p t own) in
      let right : package_of u.name ≡ e.package_name = package_is e.package_name u.name (apart.own r i e u other) in
      apart.names q r p e own.member other.member (sym left ∙ ap package_of (sym same) ∙ right)

  -- it stands above no class from outside
  pub not_outside : (x : List ℕ) (c : Class) → class_named w x ≡ Some c → c.is_imported ≡ true → OnLine w x k → ⊥
  not_outside x c named import on = clash k.is_imported (below_abroad w (ordered group is) x k.name c k (line_below w x k
      on) named import (line_named w x k on)) (ap (λ (v : Class). v.is_imported) is_k)

  module _ (r : ℕ) (e : Files) (at : slice_get group r ≡ Some e) (behind : (j : ℕ) → j < r → (m : Files)
      → slice_get group j ≡ Some m → (x : List ℕ) (c : Class) → class_named (all_classes m) x ≡ Some c
      → OnLine w x k → q ≤ j) where
    step : (x : List ℕ) (c d : Class) → Stands group r e c d → class_named w x ≡ Some d → OnLine w x k
        → ((i : ℕ) (u : ClassTree) → IsOwn group r i e u → d ≡ declared (before group r + i) u → q ≤ r) → q ≤ r
    step x _ _ (own_class i u other) named on here_too = here_too i u other refl
    step x _ _ (of_member i y j a m u less other name kind) named on here_too =
        let called : u.name ≡ x = class_named-name w x (declared (before group j + a) u) named in
        let low : q ≤ j = behind j less m other.member x (declared a u) (ap (class_named (all_classes m)) (sym called)
        ∙ own_in group is j a m u other) on in
        omega (arith, low, less)
    step x _ _ (from_outside i a y kept) named on here_too = absurd (not_outside x (imported a y) named refl on)

    along : (x : List ℕ) → OnLine w x k → (c : Class) → class_named (all_classes e) x ≡ Some c → q ≤ r
    along x (here f) c known =
        let h = class_stands group is r e at x c known in
        step x c h.class h.stands h.named (here f) (λ i u other same.
        (let top : k ≡ declared (before group r + i) u = same_class (sym f ∙ h.named) ∙ same in
        let one = one_home r i e u other (ap (λ (v : Class). v.name) (sym top) ∙ ap (λ (v : Class). v.name) is_k) in
        omega (arith, one)))
    along x (up {s = s} b f l rest) c known =
        let h = class_stands group is r e at x c known in
        step x c h.class h.stands h.named (up b f l rest) (λ i u other same.
        (let top : b ≡ declared (before group r + i) u = same_class (sym f ∙ h.named) ∙ same in
        let super = super_there group is r i e u other u.superclass foremost in
        let one = one_listed s u.superclass (subst (λ (v : Class). Lists s v.supers) top l) in
        along s rest super.0 (ap (class_named (all_classes e)) one ∙ super.1)))

  go_on : (m r : ℕ) → r < m → (e : Files) → slice_get group r ≡ Some e → (x : List ℕ) (c : Class)
      → class_named (all_classes e) x ≡ Some c → OnLine w x k → q ≤ r
  go_on zero r lt e at x c known on = absurd (omega (arith, lt))
  go_on (suc m) r lt e at x c known on = along r e at (λ j less f there y d g far. go_on m j (omega (
    arith,
    lt,
    less,
  )) f there y d g far) x on c known

  -- no package before its own has a class below it
  pub descends : (r : ℕ) (e : Files) → slice_get group r ≡ Some e → (x : List ℕ) (c : Class)
      → class_named (all_classes e) x ≡ Some c → OnLine w x k → q ≤ r
  descends r e at x c known on = go_on (suc r) r (omega arith) e at x c known on

  -- the line of a class of its own package is the same there
  pub line_back : (x : List ℕ) → OnLine w x k → (c : Class) → class_named (all_classes p) x ≡ Some c
      → OnLine (all_classes p) x (declared n t)
  line_back x (here f) c known =
      let called : k.name ≡ x = class_named-name w x k f in
      here (ap (class_named (all_classes p)) (sym called ∙ ap (λ (v : Class). v.name) is_k) ∙ own_in group is q n p t
      own)
  line_back x (up {s = s} b f l rest) c known =
      let h = class_stands group is q p own.member x c known in
      by c h.class h.stands known h.named (λ d g. line_back s rest d g)
    where
      by : (c d : Class) → Stands group q p c d → class_named (all_classes p) x ≡ Some c → class_named w x ≡ Some d
          → ((v : Class) → class_named (all_classes p) s ≡ Some v → OnLine (all_classes p) s (declared n t))
          → OnLine (all_classes p) x (declared n t)
      by _ _ (own_class i u other) known named more =
          let top : b ≡ declared (before group q + i) u = same_class (sym f ∙ named) in
          let super = super_there group is q i p u other u.superclass foremost in
          let one = one_listed s u.superclass (subst (λ (v : Class). Lists s v.supers) top l) in
          up (declared i u) known (subst (λ z. Lists z (u.superclass ∷ [])) (sym one) foremost) (more super.0 (ap
          (class_named (all_classes p)) one ∙ super.1))
      by _ _ (of_member i y j a m u less other name kind) known named more =
          let called : u.name ≡ x = class_named-name w x (declared (before group j + a) u) named in
          let low : q ≤ j = descends j m other.member x (declared a u) (ap (class_named (all_classes m)) (sym called)
          ∙ own_in group is j a m u other) (up b f l rest) in
          absurd (omega (arith, low, less))
      by _ _ (from_outside i a y kept) known named more = absurd (not_outside x (imported a y) named refl (up b f l
          rest))
