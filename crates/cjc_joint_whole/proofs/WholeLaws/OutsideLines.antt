-- Classes of export files from outside: a package that knows one knows what stands above it as the group does, so that
-- the methods of its line are the same to all.
use Rattle.std.proofs.Common.{◌≡◌, ℕ, refl, sym, ap, subst, ◌∙◌, true, List, [], ◌∷◌, ◌++◌, append_assoc, Some, None}
use Rattle.std.specs.Prelude.{slice_get}
use Rattle.cjc_bytes.proofs.Bools.{clash}
use Rattle.cjc_components.specs.Package.{Package, world}
use Rattle.cjc_joint_proof.specs.JointPackages.{files_together}
use Rattle.cjc_joint_proof.specs.JointTables.{world_together}
use Rattle.cjc_joint_proof.specs.Worlds.{outside_classes}
use Rattle.cjc_joint_proof.proofs.ClassLaws.{together_at}
use Rattle.cjc_joint_theorem.proofs.OrderedLaws.Ordered.{ordered}
use Rattle.cjc_joint_theorem.proofs.OrderedLaws.Standing.{Stands, class_stands, from_outside, of_member, own_class}
use Rattle.cjc_tokens.specs.Members.{all_methods}
use Rattle.cjc_world.specs.Classes.{Class, class_named, imported}
use Rattle.cjc_world.specs.ExportFile.declared.tree.ExportClass.{ExportClass}
use Rattle.cjc_world.specs.Files.{Files}
use Rattle.cjc_world.specs.Supertypes.{AreSupertypes, Lists, Supertypes, after, ends, foremost, known_here, line}
use Rattle.cjc_world.specs.Supertypes.{supertypes, unknown_here, upwards}
use Rattle.cjc_world.specs.Upwards.{IsOrdered}
use Rattle.cjc_world.proofs.Cycles.{class_named-name}
use Rattle.cjc_world.proofs.Settled.{lists-front, supertypes-AreSupertypes}
use Rattle.cjc_world.proofs.UpwardLaws.Lines.{same_class}
use Rattle.cjc_joint_whole.specs.Selected.{SelectTogether}
use Rattle.cjc_joint_whole.proofs.WholeLaws.LinesBack.{one_listed}

all_append : (cs ds : List Class) → all_methods (cs ++ ds) ≡ all_methods cs ++ all_methods ds
all_append [] ds = refl
all_append (c ∷ cs) ds = ap (λ ms. c.methods ++ ms) (all_append cs ds) ∙ sym (append_assoc c.methods (all_methods cs)
    (all_methods ds))

-- A class of an export file from outside, as a package has it and as the group has it.
pub record IsSame (packages : List Package) (c d : Class) : Type 0 where
  pub entry : ExportClass
  pub place : ℕ
  pub number : ℕ
  pub is : c ≡ imported place entry
  pub there : d ≡ imported number entry
  pub at : slice_get (outside_classes (files_together packages)) number ≡ Some entry

-- both list the same superclasses
pub same_supers : (packages : List Package) (c d : Class) → IsSame packages c d → c.supers ≡ d.supers
same_supers packages c d i = ap (λ (k : Class). k.supers) i.is ∙ sym (ap (λ (k : Class). k.supers) i.there)

pub same_methods : (packages : List Package) (c d : Class) → IsSame packages c d → c.methods ≡ d.methods
same_methods packages c d i = ap (λ (k : Class). k.methods) i.is ∙ sym (ap (λ (k : Class). k.methods) i.there)

module _ (packages : List Package) (is : SelectTogether packages) where
  abbrev group : List Files
  group = files_together packages

  abbrev w : List Class
  w = world_together packages

  order : IsOrdered w
  order = ordered group is.ordered

  module _ (q : ℕ) (p : Package) (here : slice_get packages q ≡ Some p) where
    abbrev v : List Class
    v = world p

    files_p : slice_get group q ≡ Some p.files
    files_p = together_at packages is.linked q p here

    order_p : IsOrdered v
    order_p = let o = is.ordered in o.each q p.files files_p

    pub outside_class : (x : List ℕ) (c d : Class) → class_named v x ≡ Some c → class_named w x ≡ Some d
        → d.is_imported ≡ true → IsSame packages c d
    outside_class x c d known named import =
        let h = class_stands group is.ordered q p.files files_p x c known in
        by c h.class h.stands (same_class (sym h.named ∙ named))
      where
        by : (c b : Class) → Stands group q p.files c b → b ≡ d → IsSame packages c d
        by _ _ (own_class k t own) same = absurd (clash d.is_imported import (sym (ap (λ (k : Class). k.is_imported)
            same)))
        by _ _ (of_member n e j k m t less own name kind) same = absurd (clash d.is_imported import (sym (ap
            (λ (k : Class). k.is_imported) same)))
        by _ _ (from_outside n k e at) same = record {
          entry = e;
          place = n;
          number = k;
          is = refl;
          there = sym same;
          at = at;
        }

    -- Each of these names that the group knows is of a class from outside which the package knows.
    abbrev pub Fit : List (List ℕ) → Type 0
    Fit xs = (y : List ℕ) → Lists y xs → (d : Class) → class_named w y ≡ Some d → (d.is_imported ≡ true) × (c : Class)
        × (class_named v y ≡ Some c)

    pub fit_above : (x : List ℕ) (c d : Class) → class_named v x ≡ Some c → (i : IsSame packages c d) → Fit c.supers
    fit_above x c d known i y l b named =
        let e = i.entry in
        let name : e.name ≡ x = sym (ap (λ (k : Class). k.name) i.is) ∙ class_named-name v x c known in
        let listed : Lists y (e.supers ++ e.interfaces) = lists-front y e.supers e.interfaces (subst (λ (k : Class). Lists
        y k.supers) i.is l) in
        let there : class_named v e.name ≡ Some c = ap (class_named v) name ∙ known in
        let o = is.ordered in
        let outside = o.order in
        let told = is.told q i.number p e c b y here i.at there listed named in
        (outside.alone i.number e y b i.at listed named, told.0, told.1)

    tree_methods : (xs : List (List ℕ)) (k j : Supertypes) → AreSupertypes v xs k → AreSupertypes w xs j → Fit xs
        → all_methods (upwards k) ≡ all_methods (upwards j)
    tree_methods xs k j ends ends fit = refl
    tree_methods xs k j (unknown_here {xs = rest} {next = n} f a) (unknown_here {next = o} g b) fit =
        tree_methods rest n o a b (λ y l. fit y (after l))
    tree_methods xs k j (unknown_here {x = x} f a) (known_here {c = d} g sp ip b) fit =
        let r = fit x foremost d g in
        let no : None ≡ Some r.1 = sym f ∙ r.2 in
        cc
    tree_methods xs k j (known_here {x = x} {c = c} f sp ip a) (unknown_here g b) fit =
        let h = class_stands group is.ordered q p.files files_p x c f in
        let no : None ≡ Some h.class = sym g ∙ h.named in
        cc
    tree_methods xs k j (known_here {x = x} {xs = rest} {c = c} {supers = s} {next = n} f sp ip a) (known_here {c = d}
        {supers = t} {next = o} g sq iq b) fit =
        let i = outside_class x c d f g (fit x foremost d g).0 in
        let below = tree_methods c.supers s t sp (subst (λ ys. AreSupertypes w ys t) (sym (same_supers packages c d i)) sq)
        (fit_above x c d f i) in
        let beside = tree_methods rest n o a b (λ y l. fit y (after l)) in
        ap (λ ms. ms ++ all_methods (upwards s ++ upwards n)) (same_methods packages c d i)
        ∙ ap (λ ms. d.methods ++ ms) (all_append (upwards s) (upwards n)
        ∙ ap (λ ms. ms ++ all_methods (upwards n)) below ∙ ap (λ ms. all_methods (upwards t) ++ ms) beside
        ∙ sym (all_append (upwards t) (upwards o)))

    -- the methods of the line of such a class
    pub line_methods : (x : List ℕ) (c d : Class) → class_named v x ≡ Some c → class_named w x ≡ Some d
        → d.is_imported ≡ true → all_methods (line v x) ≡ all_methods (line w x)
    unfolding line
    line_methods x c d known named import = tree_methods (x ∷ []) (supertypes v (x ∷ [])) (supertypes w (x ∷ []))
        (supertypes-AreSupertypes v (let o = order_p in o.acyclic) (x ∷ [])) (supertypes-AreSupertypes w (let o = order in
        o.acyclic) (x ∷ [])) fit_one
      where
        fit_one : Fit (x ∷ [])
        fit_one y l b e =
            let one : y ≡ x = one_listed y x l in
            let same : d ≡ b = same_class (sym named ∙ ap (class_named w) (sym one) ∙ e) in (
              ap (λ (k : Class). k.is_imported) (sym same) ∙ import,
              c,
              ap (class_named v) one ∙ known,
            )
