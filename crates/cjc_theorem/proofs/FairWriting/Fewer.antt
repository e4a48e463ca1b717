-- Fewer export files, or the same ones in another order: what stands above a class among them stands above it among
-- all.
use Rattle.std.proofs.Common.{◌≡◌, ℕ, sym, ap, subst, ◌∙◌, List, [], ◌∷◌, ◌++◌, map, ⊎_elim}
use Rattle.std.specs.Prelude.{Some}
use Rattle.cjc_world.specs.ExportFile.declared.tree.ExportClass.{ExportClass}
use Rattle.cjc_world.specs.ExportFile.declared.tree.ExportTree.{ExportTree}
use Rattle.cjc_token_proof.specs.Subset.Members.{imports}
use Rattle.cjc_theorem.proofs.AlikeLaws.VirtualCalls.Chosen.{has_methods}
use Rattle.cjc_theorem.proofs.FairWriting.Worlds.{finds, found}
use Rattle.cjc_theorem.specs.Built.{AreDistinct}
use Rattle.cjc_theorem.specs.FairExports.Fair.{ExportsAreFair, world_of}
use Rattle.cjc_tokens.specs.Members.{In, all_methods}
use Rattle.cjc_vtable.proofs.Calls.{In-behind, In-front}
use Rattle.cjc_vtable.proofs.Filed.{Has, at_front, behind, get-has, has-get}
use Rattle.cjc_vtable.proofs.Given.{In-split}
use Rattle.cjc_world.proofs.Settled.{supertypes-AreSupertypes}
use Rattle.cjc_world.proofs.UpwardLaws.Lines.{line_listed, listed_line}
use Rattle.cjc_world.specs.Classes.{Class, Member, class_named, imported, method_of_export}
use Rattle.cjc_world.specs.Supertypes.{Above, IsAcyclic, Lists, directly, onwards, supertypes, upwards}
use Rattle.cjc_world.specs.Upwards.{OnLine, here, up}
use Rattle.cjc_world.specs.Upwards.{Has as Among, foremost, after}

-- ---- lists

pub among : {A : Type 0} (x : A) (xs : List A) → Has x xs → Among x xs
among x [] h = elim h [ ]
among x (y ∷ xs) at_front = foremost
among x (y ∷ xs) (behind h) = after (among x xs h)

pub there : {A : Type 0} (x : A) (xs : List A) → Among x xs → Has x xs
there x [] h = elim h [ ]
there x (y ∷ xs) foremost = at_front
there x (y ∷ xs) (after h) = behind (there x xs h)

-- a method among those of some classes is of one of them
pub of_one : (ds : List Class) (m : Member) → In m (all_methods ds) → (d : Class) × Among d ds × In m d.methods
of_one [] m i = elim i [ ]
of_one (d ∷ ds) m i = ⊎_elim (λ j. (d, foremost, j)) (λ j. let r = of_one ds m j in (r.0, after r.1, r.2))
    (In-split m d.methods (all_methods ds) i)

-- no two classes have one name
abbrev pub IsOnce : List ExportTree → Type 0
IsOnce all = (a b : ExportClass) → Has a (imports all) → Has b (imports all) → a.name ≡ b.name → a ≡ b

pub once_among : (all : List ExportTree) → AreDistinct all → IsOnce all
once_among all distinct a b h g same = distinct.once a b (among a (imports all) h) (among b (imports all) g) same

-- ---- two worlds

module _ (few all : List ExportTree) (once : IsOnce all) where
  abbrev u : List Class
  u = world_of few

  abbrev v : List Class
  v = world_of all

  named_there : (e : ExportClass) (x : List ℕ) → Has e (imports all) → e.name ≡ x → (n : ℕ) × (class_named v x
      ≡ Some (imported n e))
  named_there e x h name = let f = finds (imports all) once e h in (f.0, ap (class_named v) (sym name) ∙ f.1)

  -- ---- cycles

  module _ (sub : (e : ExportClass) → Has e (imports few) → Has e (imports all)) where
    one_there : (x y : List ℕ) (d : Class) → class_named u x ≡ Some d → Lists y (d.supers ++ d.interfaces)
        → (c : Class) × (class_named v x ≡ Some c) × Lists y (c.supers ++ c.interfaces)
    one_there x y d e l =
        let f = found (imports few) x d e in
        let n = named_there f.class x (sub f.class f.there) f.name in (
          imported n.0 f.class,
          n.1,
          subst (λ (c : Class). Lists y (c.supers ++ c.interfaces)) f.is l,
        )

    above_there : (x y : List ℕ) → Above u x y → Above v x y
    above_there x y (directly d e l) = let r = one_there x y d e l in directly r.0 r.1 r.2
    above_there x y (onwards {y = m} d e l rest) = let r = one_there x m d e l in onwards r.0 r.1 r.2
        (above_there m y rest)

    pub fewer_acyclic : IsAcyclic v → IsAcyclic u
    fewer_acyclic acyclic x above = acyclic x (above_there x x above)

  -- ---- ways upwards, over classes that lead to such ones alone

  module _ (P : ExportClass → Type 0) (sub : (e : ExportClass) → P e → Has e (imports all))
      (onward : (e f : ExportClass) → P e → Has f (imports few) → Lists f.name e.supers → P f)
      (acyclic_few : IsAcyclic u) (acyclic_all : IsAcyclic v) where
    record IsOver (x : List ℕ) (d : Class) : Type 0 where
      place : ℕ
      class : ExportClass
      number : ℕ
      is : d ≡ imported place class
      on : OnLine v x (imported number class)

    rising : (e : ExportClass) → P e → (x : List ℕ) (d : Class) → Lists x e.supers → OnLine u x d → IsOver x d
    rising e k x d l (here g) =
        let f = found (imports few) x d g in
        let fine = onward e f.class k f.there (subst (λ z. Lists z e.supers) (sym f.name) l) in
        let n = named_there f.class x (sub f.class fine) f.name in
        record { place = f.number; class = f.class; number = n.0; is = f.is; on = here n.1 }
    rising e k x d l (up {s = s} c g m rest) =
        let f = found (imports few) x c g in
        let fine = onward e f.class k f.there (subst (λ z. Lists z e.supers) (sym f.name) l) in
        let n = named_there f.class x (sub f.class fine) f.name in
        let listed : Lists s (let q = f.class in q.supers) = subst (λ (b : Class). Lists s b.supers) f.is m in
        let r = rising f.class fine s d listed rest in
        record {
          place = r.place;
          class = r.class;
          number = r.number;
          is = r.is;
          on = up (imported n.0 f.class) n.1 listed r.on;
        }

    above_kept : (e : ExportClass) → P e → (m : Member) → In m (all_methods (upwards (supertypes u e.supers)))
        → In m (all_methods (upwards (supertypes v e.supers)))
    above_kept e k m i =
        let o = of_one (upwards (supertypes u e.supers)) m i in
        let l = listed_line u e.supers (supertypes u e.supers) o.0 (supertypes-AreSupertypes u acyclic_few e.supers) o.1
        in
        let r = rising e k l.0 o.0 l.1 l.2 in
        has_methods (imported r.number r.class) (upwards (supertypes v e.supers)) m
        (line_listed v l.0 e.supers (supertypes v e.supers) (imported r.number r.class)
        (supertypes-AreSupertypes v acyclic_all e.supers) l.1 r.on)
        (subst (λ (d : Class). In m d.methods) r.is o.2)

    -- the methods of such a class and of those above it
    pub methods_kept : (e : ExportClass) → P e → (m : Member) → In m (map method_of_export e.methods
        ++ all_methods (upwards (supertypes u e.supers)))
        → In m (map method_of_export e.methods ++ all_methods (upwards (supertypes v e.supers)))
    methods_kept e k m i =
        let own = map method_of_export e.methods in
        let far = all_methods (upwards (supertypes v e.supers)) in
        ⊎_elim (λ a. In-front m own far a) (λ b. In-behind m own far (above_kept e k m b))
        (In-split m own (all_methods (upwards (supertypes u e.supers))) i)

-- ---- fewer files

module _ (few all : List ExportTree) (sub : (e : ExportClass) → Has e (imports few) → Has e (imports all))
    (distinct : AreDistinct all) where
  pub fewer_distinct : AreDistinct few
  fewer_distinct = record {
    once = λ c d h g same. once_among all distinct c d (sub c (there c (imports few) h)) (sub d
        (there d (imports few) g)) same;
    acyclic = fewer_acyclic few all (once_among all distinct) sub distinct.acyclic;
  }

  pub fewer_fair : ExportsAreFair all → ExportsAreFair few
  fewer_fair fair = record {
    tokens = λ n e at plain m k i j virtual other.
        let h = get-has e (imports few) n at in
        let place = has-get e (imports all) (sub e h) in
        let kept = methods_kept few all (once_among all distinct) (λ c. Has c (imports few)) sub
        (λ c f g there_one l. there_one) fewer_distinct.acyclic distinct.acyclic e h in
        fair.tokens place.0 e place.1 plain m k (kept m i) (kept k j) virtual other;
  }
