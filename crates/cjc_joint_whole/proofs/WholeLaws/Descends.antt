-- A class of a class file stands on the line of no class of a package before its own.
use Rattle.std.proofs.Common.{◌≡◌, ◌≤◌, ◌+◌, ℕ, refl, sym, ap, subst, ◌∙◌, arith, true, false, List, Some}
use Rattle.std.specs.Prelude.{slice_get}
use Rattle.cjc_bytes.specs.AccessFlags.{is_interface}
use Rattle.cjc_world.specs.ClassFile.declared.tree.ClassTree.{ClassTree}
use Rattle.cjc_world.specs.Classes.{Class, all_classes, class_named, declared, imported}
use Rattle.cjc_world.specs.Files.{Files}
use Rattle.cjc_world.specs.Supertypes.{Lists}
use Rattle.cjc_world.specs.Upwards.{OnLine, here, up}
use Rattle.cjc_world.proofs.Cycles.{class_named-name}
use Rattle.cjc_world.proofs.UpwardLaws.Lines.{below_abroad, line_below, line_named}
use Rattle.cjc_joint_proof.specs.JointNames.{place_of}
use Rattle.cjc_joint_proof.specs.Worlds.{AreApart, IsOwn, before}
use Rattle.cjc_joint_proof.proofs.SoundLaws.{apart}
use Rattle.cjc_joint_proof.proofs.WorldLaws.{outside_is_found, own_is_found}
use Rattle.cjc_joint_theorem.specs.Members.{Member, files_of}
use Rattle.cjc_joint_theorem.specs.Together.Homes.{joint_world}
use Rattle.cjc_joint_theorem.proofs.MembersLaws.Worlds.{member_at}
use Rattle.cjc_joint_theorem.proofs.OrderedLaws.Ordered.{ordered}
use Rattle.cjc_joint_whole.specs.Whole.{AreWholeWith}
use Rattle.cjc_joint_whole.proofs.WholeLaws.Begun.{place_here}
use Rattle.cjc_joint_whole.proofs.WholeLaws.Climbing.{climbing}
use Rattle.cjc_joint_whole.proofs.WholeLaws.Exposed.{named_here, own_here}
use Rattle.cjc_joint_whole.proofs.WholeLaws.Imports.{exported}
use Rattle.cjc_joint_whole.proofs.WholeLaws.Members.{ordered_together}
use Rattle.cjc_joint_whole.proofs.WholeLaws.Nearest.{only}

module _ {K : _} (members : List Member) (is : AreWholeWith K members) where
  abbrev group : List Files
  group = files_of members

  abbrev w : List Class
  w = joint_world group

  are_apart : AreApart group
  are_apart = apart group is.sound

  -- the package of a class file
  home : (j k : ℕ) (g : Files) (u : ClassTree) → IsOwn group j k g u → place_of group u.name ≡ j
  home j k g u own =
      let m = member_at members j g own.member in
      place_here members is j m.0 m.1 k u (ap (λ (f : Files). slice_get f.classes k) m.2 ∙ own.file)

  -- each class file on the line of the class is of this package or one before it
  abbrev Low : ℕ → List ℕ → Type 0
  Low q x = (j k : ℕ) (g : Files) (u : ClassTree) → IsOwn group j k g u → (e : Class)
      → e ≡ declared (before group j + k) u → OnLine w x e → j ≤ q

  same_class : {c d : Class} → Some c ≡ Some d → c ≡ d
  same_class e = cc

  clash : false ≡ true → ⊥
  clash e = cc

  of_own : (q : ℕ) (p : Member) → slice_get members q ≡ Some p → (x : List ℕ) (i : ℕ) (t : ClassTree)
      → (let f = p.files in slice_get f.classes i ≡ Some t) → class_named (all_classes p.files) x ≡ Some (declared i t)
      → Low q t.superclass → Low q x
  of_own q p at x i t file named above j k g u own e same on = by x e on refl same
    where
      mine : IsOwn group q i p.files t
      mine = own_here members is q p at i t file

      there : class_named w x ≡ Some (declared (before group q + i) t)
      there = ap (class_named w) (sym (class_named-name (all_classes p.files) x (declared i t) named))
          ∙ own_is_found group are_apart q i p.files t mine

      by : (y : List ℕ) (d : Class) → OnLine w y d → y ≡ x → d ≡ declared (before group j + k) u → j ≤ q
      by y d (here f) is_x is_u =
          let one : d ≡ declared (before group q + i) t = same_class (sym f ∙ ap (class_named w) is_x ∙ there) in
          let names : u.name ≡ t.name = ap (λ (v : Class). v.name) (sym is_u ∙ one) in
          let numbers : j ≡ q = sym (home j k g u own) ∙ ap (place_of group) names ∙ home q i p.files t mine in
          omega (arith, numbers)
      by y d (up {s = s} c f l rest) is_x is_u =
          let is_t : c ≡ declared (before group q + i) t = same_class (sym f ∙ ap (class_named w) is_x ∙ there) in
          let super : s ≡ t.superclass = only s t.superclass (subst (λ (v : Class). Lists s v.supers) is_t l) in
          above j k g u own d is_u (subst (λ z. OnLine w z d) super rest)

  -- so it is of each that is no interface
  pub descends : (q : ℕ) (p : Member) → slice_get members q ≡ Some p → (x : List ℕ) (c : Class)
      → class_named (all_classes p.files) x ≡ Some c → is_interface c.flags ≡ false → (j k : ℕ) (g : Files)
      (u : ClassTree) → IsOwn group j k g u → OnLine w x (declared (before group j + k) u) → j ≤ q
  descends q p at x c named ground j k g u own on = climbing members is (λ q p x. Low q x)
      of_own
      (λ q p at x n e named ground j m less there t written k listed rest.
      (let y = exported m.files t written k e listed in
      let tree = y.class in
      let kind = y.kind in
      let low = rest tree.name (declared y.number tree) (named_here members is j m there y.number tree y.file)
      (kind.interface ∙ ground) in
      let name : tree.name ≡ x = y.same_name ∙ class_named-name (all_classes p.files) x (imported n e) named in
      λ i k g u own d same on. (let le = low i k g u own d same (subst (λ z. OnLine w z d) (sym name) on) in
      omega (arith, le, less))))
      (λ q p at x n k e named kept j i g u own d same on.
      (let order = ordered group (ordered_together members is) in
      let there : class_named w x ≡ Some (imported k e) = ap (class_named w) (sym (class_named-name
      (all_classes p.files) x (imported n e) named)) ∙ outside_is_found group are_apart is.outside k e kept in
      absurd (clash (sym (ap (λ (v : Class). v.is_imported) same) ∙ below_abroad w order x d.name (imported k e) d
      (line_below w x d on) there refl (line_named w x d on)))))
      q p at x c named ground j k g u own (declared (before group j + k) u) refl on
