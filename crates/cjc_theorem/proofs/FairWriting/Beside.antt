-- The classes of the export file that a package writes and of those of its list: what each is in the world of the
-- package, and that what stands above one of them among more export files is one of them, too.
use Rattle.std.proofs.Common.{◌≡◌, ℕ, refl, sym, ap, subst, ◌∙◌, Bool, true, false, List, [], ◌∷◌, ◌++◌, map, inl, inr}
use Rattle.std.proofs.Common.{⊎_elim}
use Rattle.std.specs.Prelude.{◌⊎◌, Some, slice_get}
use Rattle.cjc_bytes.specs.AccessFlags.{is_interface}
use Rattle.cjc_bytes.proofs.Plain.{no_both}
use Rattle.cjc_world.specs.ClassFile.declared.tree.ClassTree.{ClassTree}
use Rattle.cjc_components.specs.ExportFile.{export_class, export_of}
use Rattle.cjc_components.specs.Exports.{exported_classes}
use Rattle.cjc_components.specs.Package.{Package, world}
use Rattle.cjc_world.specs.ExportFile.declared.tree.ExportClass.{ExportClass}
use Rattle.cjc_world.specs.ExportFile.declared.tree.ExportTree.{ExportTree}
use Rattle.cjc_shape_proof.proofs.ExportedOwn.{own_class}
use Rattle.cjc_token_proof.specs.Subset.Members.{imports}
use Rattle.cjc_token_proof.proofs.TablesLaws.Clean.{own_name}
use Rattle.cjc_token_proof.proofs.TablesLaws.Filed.{has-back, has-front, import_in, own_in}
use Rattle.cjc_token_proof.specs.Tables.Sound.{IsSound}
use Rattle.cjc_tokens.specs.Members.{In, all_methods}
use Rattle.cjc_world.specs.Upwards.{Below, IsOrdered, OnLine, here, up}
use Rattle.cjc_world.proofs.Cycles.{class_named-name}
use Rattle.cjc_world.proofs.UpwardLaws.Lines.{above_on, line_begins, listed_line, same_class}
use Rattle.cjc_shape_proof.specs.WorldProof.Files.{IsImportedClass}
use Rattle.cjc_vtable.proofs.Filed.{Has, IsFiled, at_front, behind, filed, get-has, has-get, in_class_file}
use Rattle.cjc_vtable.proofs.Filed.{in_export_file, of-imports, has-either}
use Rattle.cjc_vtable.proofs.Given.{In-split}
use Rattle.cjc_vtable.specs.Laws.{KeepsRules, Under, below, itself}
use Rattle.cjc_world.specs.Classes.{Class, Member, class_named, declared, imported, method_of_export}
use Rattle.cjc_world.specs.Lookup.{object}
use Rattle.cjc_world.specs.Supertypes.{Above, IsAcyclic, Lists, directly, supertypes, onwards, upwards}
use Rattle.cjc_world.proofs.Settled.{supertypes-AreSupertypes, lists-behind, lists-front}
use Rattle.cjc_world.proofs.Trees.{lists-split}
use Rattle.cjc_world.proofs.Unbroken.{unbroken_is_acyclic}
use Rattle.cjc_theorem.proofs.FairWriting.Fewer.{among, of_one, once_among, there}
use Rattle.cjc_theorem.proofs.FairWriting.Upwards.{interface_below, step_above, super_under, under_below, under_on}
use Rattle.cjc_theorem.proofs.FairWriting.Upwards.{no_item, item_cons}
use Rattle.cjc_theorem.proofs.FairWriting.Worlds.{found}
use Rattle.cjc_theorem.specs.Built.{AreDistinct, StandsOver}
use Rattle.cjc_theorem.specs.FairExports.Fair.{world_of}
use Rattle.cjc_theorem.proofs.FairExports.Roots.{in_imports}
use Rattle.cjc_theorem.proofs.FairWriting.Hidden.{only_name}

-- ---- lists

pub mapped : {A B : Type 0} (f : A → B) (xs : List A) (y : B) → Has y (map f xs) → (x : A) × Has x xs × (f x ≡ y)
mapped f [] y h = no_item h
mapped f (x ∷ xs) y h = ⊎_elim (λ same. (x, at_front, sym same)) (λ g. let r = mapped f xs y g
    in (r.0, behind r.1, r.2)) (item_cons (f x) y (map f xs) h)

-- a class of the file in the midst, or of the others
pub either_file : (t : ExportTree) (before following : List ExportTree) (e : ExportClass)
    → Has e (imports (before ++ t ∷ following)) → Has e t.classes ⊎ Has e (imports (before ++ following))
either_file t [] following e h = has-either e t.classes (imports following) h
either_file t (u ∷ before) following e h = ⊎_elim
    (λ a. inr (has-front e u.classes (imports (before ++ following)) a))
    (λ b. ⊎_elim (λ c. inl c) (λ c. inr (has-back e u.classes (imports (before ++ following)) c))
    (either_file t before following e b))
    (has-either e u.classes (imports (before ++ t ∷ following)) h)

-- ---- a package and the export files of its list

module _ (list : List ℕ) (p : Package) (sound : IsSound list p.files) where
  abbrev w : List Class
  w = world p

  abbrev exports : List ExportTree
  exports = let files = p.files in files.exports

  pub acyclic : IsAcyclic w
  acyclic = unbroken_is_acyclic list p.files sound.unbroken

  -- a class of an export file of the list
  pub record IsImport (e : ExportClass) (c : Class) : Type 0 where
    pub number : ℕ
    pub listed : (let files = p.files in slice_get (imports files.exports) number ≡ Some e)
    pub is : c ≡ imported number e

  -- a class of the package that others may name
  pub record IsWritten (e : ExportClass) (c : Class) : Type 0 where
    pub place : ℕ
    pub listed : slice_get (exported_classes p) place ≡ Some c
    pub is : export_class p c ≡ e

  -- a class of these files, and what it is in the world of the package
  pub record IsKnown (e : ExportClass) : Type 0 where
    pub class : Class
    pub named : class_named w e.name ≡ Some class
    pub kind : IsImport e class ⊎ IsWritten e class

  pub import_named : (n : ℕ) (e : ExportClass) → (let files = p.files in slice_get (imports files.exports) n ≡ Some e)
      → class_named w e.name ≡ Some (imported n e)
  import_named n e at = own_name list p.files sound (imported n e) (import_in p.files sound.classes sound.exports n e
      at)

  import_known : (n : ℕ) (e : ExportClass) → (let files = p.files in slice_get (imports files.exports) n ≡ Some e)
      → IsKnown e
  import_known n e at = record {
    class = imported n e;
    named = import_named n e at;
    kind = inl (record { number = n; listed = at; is = refl });
  }

  pub own_named : (k : ℕ) (c : Class) → slice_get (exported_classes p) k ≡ Some c → class_named w c.name ≡ Some c
  own_named k c at =
      let own = own_class p k c at in
      ap (λ (d : Class). class_named w d.name) own.is ∙ own_name list p.files sound (declared own.number own.tree)
      (own_in p.files sound.classes sound.exports own.number own.tree own.is_tree)
      ∙ ap (λ (d : Class). Some d) (sym own.is)

  pub own_here : (k : ℕ) (c : Class) → slice_get (exported_classes p) k ≡ Some c → c.is_imported ≡ false
  own_here k c at = let own = own_class p k c at in ap (λ (d : Class). d.is_imported) own.is

  written_known : (e : ExportClass) → Has e (let t = export_of p in t.classes) → IsKnown e
  written_known e h =
      let m = mapped (export_class p) (exported_classes p) e h in
      let at = has-get m.0 (exported_classes p) m.1 in
      record {
        class = m.0;
        named = ap (λ (x : ExportClass). class_named w x.name) (sym m.2) ∙ own_named at.0 m.0 at.1;
        kind = inr (record { place = at.0; listed = at.1; is = m.2 });
      }

  -- one of them
  abbrev pub IsHere : ExportClass → Type 0
  IsHere e = Has e (let t = export_of p in t.classes) ⊎ Has e (imports exports)

  pub known : (e : ExportClass) → IsHere e → IsKnown e
  known e h = ⊎_elim (λ a. written_known e a) (λ b. let at = has-get e
      (imports exports) b in import_known at.0 e at.1) h

  -- no two have one name
  one_kind : (a b : ExportClass) (c d : Class) → c ≡ d → IsImport a c ⊎ IsWritten a c → IsImport b d ⊎ IsWritten b d
      → a ≡ b
  one_kind a b c d same (inl i) (inl j) =
      let number : i.number ≡ j.number = ap (λ (x : Class). x.number) (sym i.is ∙ same ∙ j.is) in
      let both : Some a ≡ Some b = sym i.listed ∙ ap (slice_get (imports (let files = p.files in files.exports))) number
      ∙ j.listed in
      cc
  one_kind a b c d same (inr i) (inr j) = sym i.is ∙ ap (export_class p) same ∙ j.is
  one_kind a b c d same (inl i) (inr j) = no_both (ap (λ (x : Class). x.is_imported) (sym i.is ∙ same)
      ∙ own_here j.place d j.listed)
  one_kind a b c d same (inr i) (inl j) = no_both (ap (λ (x : Class). x.is_imported) (sym j.is ∙ sym same)
      ∙ own_here i.place c i.listed)

  pub one_named : (a b : ExportClass) → IsHere a → IsHere b → a.name ≡ b.name → a ≡ b
  one_named a b h g same =
      let k = known a h in
      let l = known b g in
      one_kind a b k.class l.class (same_class (sym k.named ∙ ap (class_named w) same ∙ l.named)) k.kind l.kind

  -- ---- one step upwards

  pub super_step : (e : ExportClass) (k : IsKnown e) (y : List ℕ) → Lists y e.supers → (s : List ℕ)
      × Lists s (let c = k.class in c.supers) × Under w s y
  super_step e k y l = ⊎_elim
      (λ i. (y, subst (λ (c : Class). Lists y c.supers) (sym i.is) l, itself))
      (λ j. super_under w acyclic k.class y (subst (λ (x : ExportClass). Lists y x.supers) (sym j.is) l))
      k.kind

  interface_step : (e : ExportClass) (k : IsKnown e) (y : List ℕ) → Lists y e.interfaces → (s : List ℕ)
      × Lists s (let c = k.class in c.supers ++ c.interfaces) × Below w s y
  interface_step e k y l = ⊎_elim
      (λ i. (
        y,
        lists-behind y (let c = k.class in c.supers) (let c = k.class in c.interfaces)
            (subst (λ (c : Class). Lists y c.interfaces) (sym i.is) l),
        inl refl,
      ))
      (λ j. interface_below w acyclic k.class y (subst (λ (x : ExportClass). Lists y x.interfaces) (sym j.is) l))
      k.kind

  listed_above : (e : ExportClass) → IsKnown e → (y : List ℕ) → Lists y (e.supers ++ e.interfaces) → Above w e.name y
  listed_above e k y l = ⊎_elim
      (λ a. let r = super_step e k y a in step_above w e.name r.0 y k.class k.named (lists-front r.0 (let c = k.class
      in c.supers) (let c = k.class in c.interfaces) r.1) (under_below w r.0 y r.2))
      (λ b. let r = interface_step e k y b in step_above w e.name r.0 y k.class k.named r.1 r.2)
      (lists-split y e.supers e.interfaces l)

  pub over_supers : (e : ExportClass) → IsKnown e → (y z : List ℕ) → Lists y e.supers → Under w y z → Under w e.name z
  over_supers e k y z l under = let r = super_step e k y l in below k.class k.named r.1 (under_on w r.0 y z r.2 under)

  -- ---- these files alone

  abbrev own_files : List ExportTree
  own_files = export_of p ∷ exports

  own_here_is : (e : ExportClass) → Has e (imports own_files) → IsHere e
  own_here_is e h = has-either e (let t = export_of p in t.classes) (imports exports) h

  one_above : (x y : List ℕ) (d : Class) → class_named (world_of own_files) x ≡ Some d
      → Lists y (d.supers ++ d.interfaces) → Above w x y
  one_above x y d e l =
      let f = found (imports own_files) x d e in
      subst (λ z. Above w z y) f.name (listed_above f.class (known f.class (own_here_is f.class f.there)) y
      (subst (λ (c : Class). Lists y (c.supers ++ c.interfaces)) f.is l))

  all_above : (x y : List ℕ) → Above (world_of own_files) x y → Above w x y
  all_above x y (directly d e l) = one_above x y d e l
  all_above x y (onwards {y = m} d e l rest) = above_on w x m y (one_above x m d e l) (all_above m y rest)

  pub own_distinct : AreDistinct own_files
  own_distinct = record {
    once = λ a b h g same. one_named a b (own_here_is a (there a (imports own_files) h))
        (own_here_is b (there b (imports own_files) g)) same;
    acyclic = λ x above. acyclic x (all_above x x above);
  }

  pub own_stands : KeepsRules w → StandsOver p exports
  own_stands rules = record {
    listed = λ t h. h;
    complete = λ c d h g l. g;
    apart = λ n c at d h. (
      λ same. no_both (ap (λ (b : Class). b.is_imported) (same_class (sym (named d (there d (imports exports) h)).1
          ∙ ap (class_named w) same ∙ declared_named n c at))),
      λ l. no_both (sym (rules.apart d.name c.name (imported (named d (there d (imports exports) h)).0 d)
          (declared n c) (named d (there d (imports exports) h)).1 refl l (declared_named n c at))),
    );
  }
    where
      named : (d : ExportClass) → Has d (imports exports) → (n : ℕ) × (class_named w d.name ≡ Some (imported n d))
      named d h = let at = has-get d (imports exports) h in (at.0, import_named at.0 d at.1)

      declared_named : (n : ℕ) (c : ClassTree) → (let files = p.files in slice_get files.classes n ≡ Some c)
          → class_named w c.name ≡ Some (declared n c)
      declared_named n c at = own_name list p.files sound (declared n c) (own_in p.files sound.classes sound.exports n c
          at)

  -- ---- more files

  module _ (ordered : IsOrdered w) (rules : KeepsRules w) (root : IsImportedClass p.files object)
      (all : List ExportTree) (over : StandsOver p all) (distinct : AreDistinct (export_of p ∷ all)) where
    abbrev pub cs : List ExportClass
    cs = imports (export_of p ∷ all)

    abbrev pub v : List Class
    v = world_of (export_of p ∷ all)

    one : (a b : ExportClass) → Has a cs → Has b cs → a.name ≡ b.name → a ≡ b
    one = once_among (export_of p ∷ all) distinct

    -- a superclass over steps is listed by the class of the last one
    last_step : (x s y : List ℕ) (c : Class) → class_named w x ≡ Some c → Lists s c.supers → Under w s y
        → (z : List ℕ) × (b : Class) × (class_named w z ≡ Some b) × Lists y b.supers
    last_step x s y c e l itself = (x, c, e, l)
    last_step x s y c e l (below {y = m} d f k rest) = last_step s m y d f k rest

    -- a superclass of a class of the package is known
    super_known : (z y : List ℕ) (b : Class) → class_named w z ≡ Some b → b.is_imported ≡ false → Lists y b.supers
        → (d : Class) × (class_named w y ≡ Some d)
    super_known z y b e own l = by (is_interface b.flags) refl
      where
        rises : (o : Class) → class_named w object ≡ Some o → OnLine w z o → (d : Class) × (class_named w y ≡ Some d)
        rises o g (here h) = no_both (ap (λ (d : Class). d.is_imported) (same_class (sym root.found ∙ g)
            ∙ same_class (sym h ∙ e)) ∙ own)
        rises o g (up {s = s} c h k rest) =
            let is : c ≡ b = same_class (sym h ∙ e) in
            let q = rules.single z b e own in
            let at : y ≡ q.0 = only_name q.0 y (subst (Lists y) q.1 l) in
            let next : s ≡ q.0 = only_name q.0 s (subst (Lists s) q.1 (subst (λ (d : Class). Lists s d.supers) is k)) in
            let begins = line_begins w s o rest in
            (begins.0, ap (class_named w) (at ∙ sym next) ∙ begins.1)

        by : (i : Bool) → is_interface b.flags ≡ i → (d : Class) × (class_named w y ≡ Some d)
        by true f = (imported root.number root.class, ap (class_named w) (ordered.only_object z y b e f l) ∙ root.found)
        by false f = let r = ordered.rooted z b e f in rises r.0 r.1 r.2

    -- what a class here lists as a superclass is here, where one of the files has it
    step_here : (e f : ExportClass) → IsHere e → Has f cs → Lists f.name e.supers → IsHere f
    step_here e f k h l = ⊎_elim (λ a. inl a) (λ b. far b) (has-either f (let t = export_of p
        in t.classes) (imports all) h)
      where
        named : (d : Class) → IsFiled p.files d → class_named w f.name ≡ Some d → Has f (imports all) → IsHere f
        named d (in_export_file n u at) g b =
            let its = get-has u (imports exports) n at in
            let t = of-imports u exports its in
            let far_too : Has u (imports all) = in_imports u t.0 all (there t.0 all (over.listed t.0
            (among t.0 exports t.1))) t.2 in
            let same = one u f (has-back u (let q = export_of p in q.classes) (imports all) far_too) h
            (class_named-name w f.name (imported n u) g) in
            inr (subst (λ x. Has x (imports exports)) same its)
        named d (in_class_file n c at) g b = absurd ((over.apart n c at f (among f (imports all) b)).0
            (sym (class_named-name w f.name (declared n c) g)))

        by : (c : Class) → IsFiled p.files c → (z : List ℕ) → class_named w z ≡ Some c → Lists f.name c.supers
            → Has f (imports all) → IsHere f
        by c (in_export_file n u at) z g m b = inr (there f (imports exports) (over.complete u f
            (among u (imports exports) (get-has u (imports exports) n at)) (among f (imports all) b) m))
        by c (in_class_file n u at) z g m b =
            let d = super_known z f.name (declared n u) g refl m in
            named d.0 (filed p.files f.name d.0 d.1) d.1 b

        far : Has f (imports all) → IsHere f
        far b =
            let i = known e k in
            let s = super_step e i f.name l in
            let z = last_step e.name s.0 f.name i.class i.named s.1 s.2 in
            by z.1 (filed p.files z.0 z.1 z.2) z.0 z.2 z.3 b

    -- ---- lines

    -- a class on a line there is here, and stands over superclasses above the first
    pub record IsOn (x : List ℕ) (d : Class) : Type 0 where
      pub number : ℕ
      pub class : ExportClass
      pub here_too : IsHere class
      pub is : d ≡ imported number class
      pub under : Under w x class.name

    pub on_line : (e : ExportClass) → IsHere e → (x : List ℕ) (d : Class) → Lists x e.supers → OnLine v x d
        → IsOn e.name d
    on_line e k x d l (here g) =
        let f = found cs x d g in
        let listed : Lists (let q = f.class in q.name) e.supers = subst (λ z. Lists z e.supers) (sym f.name) l in
        record {
          number = f.number;
          class = f.class;
          here_too = step_here e f.class k f.there listed;
          is = f.is;
          under = over_supers e (known e k) (let q = f.class in q.name) (let q = f.class in q.name) listed itself;
        }
    on_line e k x d l (up {s = s} c g m rest) =
        let f = found cs x c g in
        let listed : Lists (let q = f.class in q.name) e.supers = subst (λ z. Lists z e.supers) (sym f.name) l in
        let r = on_line f.class (step_here e f.class k f.there listed) s d
        (subst (λ (b : Class). Lists s b.supers) f.is m) rest in
        record {
          number = r.number;
          class = r.class;
          here_too = r.here_too;
          is = r.is;
          under = over_supers e (known e k) (let q = f.class in q.name) (let q = r.class in q.name) listed r.under;
        }

    -- a method of a class here, or of one above it, is of a class here, over superclasses above that class
    pub record IsFrom (x : List ℕ) (m : Member) : Type 0 where
      pub class : ExportClass
      pub here_too : IsHere class
      pub under : Under w x class.name
      pub has : In m (map method_of_export class.methods)

    above_from : (e : ExportClass) → IsHere e → (m : Member) → In m (all_methods (upwards (supertypes v e.supers)))
        → IsFrom e.name m
    above_from e k m i =
        let o = of_one (upwards (supertypes v e.supers)) m i in
        let l = listed_line v e.supers (supertypes v e.supers) o.0 (supertypes-AreSupertypes v distinct.acyclic
        e.supers) o.1 in
        let on = on_line e k l.0 o.0 l.1 l.2 in
        record {
          class = on.class;
          here_too = on.here_too;
          under = on.under;
          has = subst (λ (d : Class). In m d.methods) on.is o.2;
        }

    pub all_from : (e : ExportClass) → IsHere e → (m : Member) → In m (map method_of_export e.methods
        ++ all_methods (upwards (supertypes v e.supers))) → IsFrom e.name m
    all_from e k m i = ⊎_elim
        (λ j. record { class = e; here_too = k; under = itself; has = j })
        (λ j. above_from e k m j)
        (In-split m (map method_of_export e.methods) (all_methods (upwards (supertypes v e.supers))) i)
