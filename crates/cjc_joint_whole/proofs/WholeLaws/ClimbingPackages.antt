-- What holds of classes that packages of a group know, going up: of a class of the package where it holds of its
-- superclass, of an imported one where it holds in the package before that declares it, or where it is from outside.
use Rattle.std.proofs.Common.{◌≡◌, ◌<◌, ℕ, zero, suc, refl, sym, ap, subst, ◌∙◌, arith, Bool, true, false, List, []}
use Rattle.std.proofs.Common.{◌∷◌, Some, None}
use Rattle.std.specs.Prelude.{slice_get}
use Rattle.cjc_bytes.specs.AccessFlags.{is_interface}
use Rattle.cjc_components.specs.ExportFile.{export_of}
use Rattle.cjc_components.specs.Package.{Package, world}
use Rattle.cjc_joint_proof.specs.JointPackages.{AreLinked, IsLinked, files_together, to_outside, to_package}
use Rattle.cjc_joint_proof.proofs.ClassLaws.{exported}
use Rattle.cjc_jvm_semantics.specs.Group.{is_of_group}
use Rattle.cjc_token_proof.proofs.WrittenCalls.Facts.{Facts}
use Rattle.cjc_token_proof.specs.Tables.Infos.{HasEntry}
use Rattle.cjc_world.proofs.UpwardLaws.Lines.{no_list, same_class}
use Rattle.cjc_world.specs.Classes.{Class, class_named}
use Rattle.cjc_world.specs.Supertypes.{AreSupertypes, Lists, Supertypes, ends, known_here, supertypes, unknown_here}
use Rattle.cjc_world.specs.Supertypes as supertypes

module _ (packages : List Package) (linked : AreLinked packages) (facts : (q : ℕ) (p : Package)
    → slice_get packages q ≡ Some p → Facts p) (P : ℕ → Package → List ℕ → Type 0) where
  -- a class of the package, and its superclass
  abbrev pub OfOwn : Type 0
  OfOwn = (q : ℕ) (p : Package) → slice_get packages q ≡ Some p → (x : List ℕ) (c : Class)
      → class_named (world p) x ≡ Some c → c.is_imported ≡ false → is_interface c.flags ≡ false → (super : List ℕ)
      → c.supers ≡ super ∷ [] → (d : Class) → class_named (world p) super ≡ Some d → is_interface d.flags ≡ false
      → P q p super → P q p x

  -- one that a package before declares, and there
  abbrev pub OfShared : Type 0
  OfShared = (q : ℕ) (p : Package) → slice_get packages q ≡ Some p → (x : List ℕ) (c : Class)
      → class_named (world p) x ≡ Some c → c.is_imported ≡ true → is_interface c.flags ≡ false → (h : HasEntry p c)
      → (r : ℕ) (e : Package) → slice_get packages r ≡ Some e → h.tree ≡ export_of e → (k : Class)
      → class_named (world e) x ≡ Some k → k.is_imported ≡ false → is_interface k.flags ≡ false → P r e x → P q p x

  -- one from outside
  abbrev pub OfOutside : Type 0
  OfOutside = (q : ℕ) (p : Package) → slice_get packages q ≡ Some p → (x : List ℕ) (c : Class)
      → class_named (world p) x ≡ Some c → c.is_imported ≡ true → is_interface c.flags ≡ false → (h : HasEntry p c)
      → is_of_group (files_together packages) (let t = h.tree in t.name) ≡ false → P q p x

  module _ (of_own : OfOwn) (of_shared : OfShared) (of_outside : OfOutside) where
    module _ (q : ℕ) (p : Package) (here : slice_get packages q ≡ Some p) (before_it : (r : ℕ) → r < q → (e : Package)
        → slice_get packages r ≡ Some e → (y : List ℕ) (b : Class) → class_named (world e) y ≡ Some b
        → is_interface b.flags ≡ false → P r e y) where
      its : Facts p
      its = facts q p here

      clash : {c : Class} → None ≡ Some c → ⊥
      clash e = cc

      of_import : (x : List ℕ) (c : Class) (known : class_named (world p) x ≡ Some c) → c.is_imported ≡ true
          → is_interface c.flags ≡ false → (h : HasEntry p c) → IsLinked packages q h.tree → P q p x
      of_import x c known import plain h (to_package r e less there same) =
          let o = exported packages linked q p here x c known h r e there same in
          let kind = sym o.kind ∙ plain in
          of_shared q p here x c known import plain h r e there same o.class o.there o.own kind
          (before_it r less e there x o.class o.there kind)
      of_import x c known import plain h (to_outside out) = of_outside q p here x c known import plain h out

      one : (x : List ℕ) (c : Class) → class_named (world p) x ≡ Some c → is_interface c.flags ≡ false
          → ((y : List ℕ) (b : Class) → Lists y c.supers → class_named (world p) y ≡ Some b
          → is_interface b.flags ≡ false → P q p y) → P q p x
      one x c known plain rest = by c.is_imported refl
        where
          by : (b : Bool) → c.is_imported ≡ b → P q p x
          by false mine =
              let rules = (let f = its in f.rules) in
              let s = rules.single x c known mine in
              let up = (let f = its in f.super_there x s.0 c known mine s.1) in
              of_own q p here x c known mine plain s.0 s.1 up.0 up.1 up.2 (rest s.0 up.0 (subst (Lists s.0) (sym s.1)
              supertypes.foremost) up.1 up.2)
          by true import =
              let h = (let f = its in f.file x c known import) in
              of_import x c known import plain h (linked.imports q h.file p h.tree (record {
                member = here;
                file = h.in_list;
              }))

      go : (xs : List (List ℕ)) (k : Supertypes) (x : List ℕ) (c : Class) → AreSupertypes (world p) xs k → Lists x xs
          → class_named (world p) x ≡ Some c → is_interface c.flags ≡ false → P q p x
      go xs k x c ends l e plain = no_list l
      go xs k x c (unknown_here g a) supertypes.foremost e plain = absurd (clash (sym g ∙ e))
      go xs k x c (unknown_here {xs = rest} {next = next} g a) (supertypes.after l) e plain =
          go rest next x c a l e plain
      go xs k x c (known_here {c = d} {supers = u} g sk ik a) supertypes.foremost e plain =
          one x d g (ap (λ (y : Class). is_interface y.flags) (same_class (sym g ∙ e)) ∙ plain)
          (λ y b l f kind. go d.supers u y b sk l f kind)
      go xs k x c (known_here {xs = rest} {next = next} g sk ik a) (supertypes.after l) e plain =
          go rest next x c a l e plain

      step : (x : List ℕ) (c : Class) → class_named (world p) x ≡ Some c → is_interface c.flags ≡ false → P q p x
      step x c known plain = go (x ∷ []) (supertypes (world p) (x ∷ [])) x c
          (let f = its in f.are_supertypes (x ∷ [])) supertypes.foremost known plain

    go_on : (n q : ℕ) → q < n → (p : Package) → slice_get packages q ≡ Some p → (x : List ℕ) (c : Class)
        → class_named (world p) x ≡ Some c → is_interface c.flags ≡ false → P q p x
    go_on zero q lt p here x c known plain = absurd (omega (arith, lt))
    go_on (suc n) q lt p here x c known plain = step q p here (λ r less e there y b f kind. go_on n r (omega (
      arith,
      lt,
      less,
    )) e there y b f kind) x c known plain

    -- so it holds of each class that is no interface
    pub climbing_packages : (q : ℕ) (p : Package) → slice_get packages q ≡ Some p → (x : List ℕ) (c : Class)
        → class_named (world p) x ≡ Some c → is_interface c.flags ≡ false → P q p x
    climbing_packages q p here x c known plain = go_on (suc q) q (omega arith) p here x c known plain
