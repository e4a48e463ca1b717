-- What holds of classes of the worlds of packages, going up: of a class file where it holds of its superclass, of a
-- class of an export file where it holds in the package before that declares it, or where the file is from outside.
use Rattle.std.proofs.Common.{◌≡◌, ◌<◌, ℕ, zero, suc, sym, ap, ◌∙◌, arith, false, List, [], ◌∷◌, Some, None}
use Rattle.std.specs.Prelude.{slice_get}
use Rattle.cjc_bytes.specs.AccessFlags.{is_interface}
use Rattle.cjc_jvm_semantics.specs.Group.{joint_exports}
use Rattle.cjc_vtable.proofs.Filed.{IsFiled, filed, get-has, has-get, in_class_file, in_export_file, of-imports}
use Rattle.cjc_world.specs.ClassFile.declared.tree.ClassTree.{ClassTree}
use Rattle.cjc_world.specs.Classes.{Class, all_classes, class_named, declared, imported}
use Rattle.cjc_world.specs.ExportFile.declared.tree.ExportClass.{ExportClass}
use Rattle.cjc_world.specs.ExportFile.declared.tree.ExportTree.{ExportTree}
use Rattle.cjc_world.specs.Supertypes.{AreSupertypes, Lists, Supertypes, ends, known_here, supertypes, unknown_here}
use Rattle.cjc_world.specs.Supertypes as supertypes
use Rattle.cjc_world.specs.Upwards.{IsOrdered}
use Rattle.cjc_world.proofs.Settled.{supertypes-AreSupertypes}
use Rattle.cjc_world.proofs.UpwardLaws.Lines.{no_list}
use Rattle.cjc_token_proof.specs.Subset.Members.{imports}
use Rattle.cjc_joint_proof.specs.Worlds.{outside_classes}
use Rattle.cjc_joint_proof.proofs.AboveLaws.{flat_at}
use Rattle.cjc_joint_theorem.specs.Members.{Member, files_of}
use Rattle.cjc_joint_theorem.proofs.OrderedLaws.Ordered.{super_there}
use Rattle.cjc_joint_whole.specs.Whole.{AreWholeWith, IsExport, IsWrittenFor, from_outside, of_member}
use Rattle.cjc_joint_whole.proofs.WholeLaws.Exposed.{own_here}
use Rattle.cjc_joint_whole.proofs.WholeLaws.Members.{ordered_together}
use Rattle.cjc_joint_whole.proofs.WholeLaws.Solid.{solid_at}

module _ {K : _} (members : List Member) (is : AreWholeWith K members) (P : ℕ → Member → List ℕ → Type 0) where
  -- a class file, and its superclass
  abbrev pub OfOwn : Type 0
  OfOwn = (q : ℕ) (p : Member) → slice_get members q ≡ Some p → (x : List ℕ) (k : ℕ) (t : ClassTree)
      → (let f = p.files in slice_get f.classes k ≡ Some t) → class_named (all_classes p.files) x ≡ Some (declared k t)
      → P q p t.superclass → P q p x

  -- a class that a package before declares, and there
  abbrev pub OfShared : Type 0
  OfShared = (q : ℕ) (p : Member) → slice_get members q ≡ Some p → (x : List ℕ) (n : ℕ) (e : ExportClass)
      → class_named (all_classes p.files) x ≡ Some (imported n e) → is_interface e.flags ≡ false → (j : ℕ) (m : Member)
      → j < q → slice_get members j ≡ Some m → (t : ExportTree) → IsWrittenFor m.files t → (k : ℕ)
      → slice_get t.classes k ≡ Some e → ((y : List ℕ) (c : Class) → class_named (all_classes m.files) y ≡ Some c
      → is_interface c.flags ≡ false → P j m y) → P q p x

  -- a class from outside
  abbrev pub OfOutside : Type 0
  OfOutside = (q : ℕ) (p : Member) → slice_get members q ≡ Some p → (x : List ℕ) (n k : ℕ) (e : ExportClass)
      → class_named (all_classes p.files) x ≡ Some (imported n e) → slice_get (outside_classes (files_of members)) k
      ≡ Some e → P q p x

  module _ (of_own : OfOwn) (of_shared : OfShared) (of_outside : OfOutside) where
    module _ (q : ℕ) (p : Member) (at : slice_get members q ≡ Some p) (before_it : (j : ℕ) → j < q → (m : Member)
        → slice_get members j ≡ Some m → (y : List ℕ) (b : Class) → class_named (all_classes m.files) y ≡ Some b
        → is_interface b.flags ≡ false → P j m y) where
      order : IsOrdered (all_classes p.files)
      order = let s = solid_at members is q p at in s.ordered

      of_export : (i : ℕ) (e : ExportClass) (x : List ℕ) → class_named (all_classes p.files) x ≡ Some (imported i e)
          → is_interface e.flags ≡ false → (t : ExportTree) (k : ℕ) → slice_get t.classes k ≡ Some e
          → IsExport members q t → P q p x
      of_export i e x named ground t k listed (of_member j m less there written) =
          of_shared q p at x i e named ground j m less there t written k listed (before_it j less m there)
      of_export i e x named ground t k listed (from_outside r kept) =
          let all = flat_at (λ (u : ExportTree). u.classes) (joint_exports (files_of members)) r k t e kept listed in
          of_outside q p at x i all.0 e named all.1

      clash : {c : Class} → None ≡ Some c → ⊥
      clash e = cc

      same_class : {c d : Class} → Some c ≡ Some d → c ≡ d
      same_class e = cc

      go : (xs : List (List ℕ)) (k : Supertypes) (x : List ℕ) (c : Class) → AreSupertypes (all_classes p.files) xs k
          → Lists x xs → class_named (all_classes p.files) x ≡ Some c → is_interface c.flags ≡ false → P q p x
      go xs k x c ends l e ground = no_list l
      go xs k x c (unknown_here g a) supertypes.foremost e ground = absurd (clash (sym g ∙ e))
      go xs k x c (unknown_here {xs = rest} {next = next} g a) (supertypes.after l) e ground =
          go rest next x c a l e ground
      go xs k x c (known_here {c = d} {supers = u} g sk ik a) supertypes.foremost e ground =
          by (filed p.files x d g) g (ap (λ (y : Class). is_interface y.flags) (same_class (sym g ∙ e)) ∙ ground)
          (λ y b l e ground. go d.supers u y b sk l e ground)
        where
          by : {d : Class} → IsFiled p.files d → class_named (all_classes p.files) x ≡ Some d → is_interface d.flags
              ≡ false → ((y : List ℕ) (b : Class) → Lists y d.supers → class_named (all_classes p.files) y ≡ Some b
              → is_interface b.flags ≡ false → P q p y) → P q p x
          by (in_class_file i t file) named ground rest =
              let own = own_here members is q p at i t file in
              let up = super_there (files_of members) (ordered_together members is) q i p.files t own t.superclass
              supertypes.foremost in
              of_own q p at x i t file named (rest t.superclass up.0 supertypes.foremost up.1
              (order.supers x t.superclass (declared i t) up.0 named supertypes.foremost up.1))
          by (in_export_file i e file) named ground rest =
              let g = p.files in
              let of = of-imports e g.exports (get-has e (imports g.exports) i file) in
              let k = has-get of.0 g.exports of.1 in
              let place = has-get e (let t = of.0 in t.classes) of.2 in
              of_export i e x named ground of.0 place.0 place.1 (is.written q k.0 p of.0 at k.1)
      go xs k x c (known_here {xs = rest} {next = next} g sk ik a) (supertypes.after l) e ground =
          go rest next x c a l e ground

      step : (x : List ℕ) (c : Class) → class_named (all_classes p.files) x ≡ Some c → is_interface c.flags ≡ false
          → P q p x
      step x c named ground = go (x ∷ []) (supertypes (all_classes p.files) (x ∷ [])) x c
          (supertypes-AreSupertypes (all_classes p.files) order.acyclic (x ∷ [])) supertypes.foremost named ground

    go_on : (n q : ℕ) → q < n → (p : Member) → slice_get members q ≡ Some p → (x : List ℕ) (c : Class)
        → class_named (all_classes p.files) x ≡ Some c → is_interface c.flags ≡ false → P q p x
    go_on zero q lt p at x c named ground = absurd (omega (arith, lt))
    go_on (suc n) q lt p at x c named ground = step q p at (λ j less m there y b e g. go_on n j (omega (
      arith,
      lt,
      less,
    )) m there y b e g) x c named ground

    -- so it holds of each class that is no interface
    pub climbing : (q : ℕ) (p : Member) → slice_get members q ≡ Some p → (x : List ℕ) (c : Class)
        → class_named (all_classes p.files) x ≡ Some c → is_interface c.flags ≡ false → P q p x
    climbing q p at x c named ground = go_on (suc q) q (omega arith) p at x c named ground
