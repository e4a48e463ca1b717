-- The export file that a package writes is fair with files beside it that are fair: field by field.
use Rattle.std.proofs.Common.{◌≡◌, ℕ, refl, sym, ap, subst, ◌∙◌, Bool, true, false}
use Rattle.std.proofs.Common.{List, [], ◌∷◌, ◌++◌, map, inl, inr, ⊎_elim, Some}
use Rattle.std.specs.Prelude.{◌⊎◌, not, ◌&&◌, slice_get}
use Rattle.std.proofs.lemmas.Bool.{and_from}
use Rattle.cjc_bytes.specs.AccessFlags.{is_interface}
use Rattle.cjc_bytes.specs.declared.settings.Settings.{Settings}
use Rattle.cjc_bytes.proofs.Gets.{mapped_at}
use Rattle.cjc_bytes.proofs.Plain.{no_both}
use Rattle.cjc_components.specs.Bytecode.declared.method_code.MethodCode.{MethodCode}
use Rattle.cjc_components.specs.Class.{is_shareable}
use Rattle.cjc_components.specs.ExportFile.{export_class, export_of}
use Rattle.cjc_components.specs.Exports.{exported_classes}
use Rattle.cjc_components.specs.Package.{Package, world}
use Rattle.cjc_world.specs.ExportFile.declared.tree.ExportClass.{ExportClass}
use Rattle.cjc_world.specs.ExportFile.declared.tree.ExportMethod.{ExportMethod}
use Rattle.cjc_world.specs.ExportFile.declared.tree.ExportTree.{ExportTree}
use Rattle.cjc_shape_proof.proofs.ExportedOwn.{IsOwn, own_class}
use Rattle.cjc_shape_proof.specs.WorldProof.Files.{IsImportedClass}
use Rattle.cjc_token_proof.specs.Subset.Checks.{check_breaks}
use Rattle.cjc_token_proof.specs.Subset.Members.{imports}
use Rattle.cjc_token_proof.proofs.TablesLaws.Filed.{has-back}
use Rattle.cjc_token_proof.specs.Tables.Sound.{IsSound}
use Rattle.cjc_tokens.proofs.Held.{token-slot}
use Rattle.cjc_tokens.specs.Lines.{line_of}
use Rattle.cjc_tokens.specs.Members.{In, all_methods, is_exposed, is_hidden, is_virtual, signature_of}
use Rattle.cjc_tokens.specs.Slots.{slots, token}
use Rattle.cjc_vtable.proofs.Calls.{In-front}
use Rattle.cjc_vtable.proofs.Filed.{Has, get-has, has-get}
use Rattle.cjc_vtable.proofs.Once.{one_method}
use Rattle.cjc_vtable.proofs.Worlds.{tokens_are_once}
use Rattle.cjc_vtable.specs.Calls.{IsOneToOne}
use Rattle.cjc_vtable.specs.Laws.{KeepsRules, Under, below, itself}
use Rattle.cjc_world.proofs.Settled.{AreSupertypes-one, supertypes-AreSupertypes}
use Rattle.cjc_world.specs.Classes.{Class, Member, class_named, method_of_export}
use Rattle.cjc_world.specs.Lookup.{object}
use Rattle.cjc_world.specs.Supertypes.{Lists, supertypes, upwards}
use Rattle.cjc_world.specs.Upwards.{IsOrdered, OnLine, here}
use Rattle.cjc_world.proofs.UpwardLaws.Lines.{same_class}
use Rattle.cjc_theorem.proofs.AlikeLaws.VirtualCalls.Lines.{under_on}
use Rattle.cjc_theorem.proofs.FairWriting.Beside.{IsFrom, IsHere, IsImport, IsKnown, IsWritten, all_from, either_file}
use Rattle.cjc_theorem.proofs.FairWriting.Beside.{known, mapped}
use Rattle.cjc_theorem.proofs.FairWriting.Entries.{IsEntry, class_entry}
use Rattle.cjc_theorem.proofs.FairWriting.Fewer.{among, fewer_distinct, methods_kept, once_among}
use Rattle.cjc_theorem.proofs.FairWriting.Hidden.{both_told, hidden_alone}
use Rattle.cjc_theorem.specs.Built.{AreDistinct, StandsOver}
use Rattle.cjc_theorem.specs.FairExports.Fair.{ExportsAreFair, world_of}
use Rattle.cjc_theorem.proofs.AlikeLaws.VirtualCalls.MethodKinds.{in_get}
use Rattle.cjc_shape_proof.proofs.WritingLaws.Flags.{interface_kept}

-- ---- lists

some_number : {a b : ℕ} → Some a ≡ Some b → a ≡ b
some_number e = cc

closed_virtual : (a b : Bool) → a ≡ false → b ≡ true → (not a && b) ≡ true
closed_virtual false b e f = f
closed_virtual true b e f = cc

module _ (list : List ℕ) (p : Package) (codes : List MethodCode) (settings : Settings) (sound : IsSound list p.files)
    (checks : check_breaks list p.files codes settings ≡ [])
    (ordered : IsOrdered (world p)) (rules : KeepsRules (world p)) (root : IsImportedClass p.files object)
    (all : List ExportTree) (over : StandsOver p all) (distinct : AreDistinct (export_of p ∷ all)) where
  abbrev w : List Class
  w = world p

  abbrev Here : ExportClass → Type 0
  Here = IsHere list p sound

  abbrev Knows : ExportClass → Type 0
  Knows = IsKnown list p sound

  abbrev From : List ℕ → Member → Type 0
  From = IsFrom list p sound ordered rules root all over distinct

  knows : (e : ExportClass) → Here e → Knows e
  knows = known list p sound

  -- ---- a class that the package writes

  module _ (k : ℕ) (c : Class) (at : slice_get (exported_classes p) k ≡ Some c) where
    abbrev own : IsOwn p c
    own = own_class p k c at

    kept : is_interface (let x = export_class p c in x.flags) ≡ is_interface c.flags
    kept = interface_kept c.flags (is_shareable w c)

    tree_kept : is_interface (let t = own.tree in t.flags) ≡ is_interface (let x = export_class p c in x.flags)
    tree_kept = ap (λ (d : Class). is_interface d.flags) (sym own.is) ∙ sym kept

    abbrev Entry : ExportMethod → Type 0
    Entry = IsEntry list p codes settings sound checks ordered own.number own.tree own.is_tree

    written_entry : is_interface (let x = export_class p c in x.flags) ≡ false → (e : ExportMethod)
        → Has e (let x = export_class p c in x.methods) → Entry e
    written_entry plain e h = class_entry list p codes settings sound checks ordered own.number own.tree own.is_tree
        (tree_kept ∙ plain) rules e
        (subst (λ (d : Class). Has e (let x = export_class p d in x.methods)) own.is h)

  -- ---- what stands above

  -- what stands over superclasses above a class that is no interface is none
  class_above : (x y : List ℕ) → Under w x y → ((c : Class) → class_named w x ≡ Some c → is_interface c.flags ≡ false)
      → (d : Class) → class_named w y ≡ Some d → is_interface d.flags ≡ false
  class_above x y itself plain d f = plain d f
  class_above x z (below {y = y} c e l under) plain d f = class_above y z under (λ k g. ordered.supers x y c k e l g) d
      f

  known_flags : (e : ExportClass) (k : Knows e) → is_interface (let c = k.class in c.flags) ≡ is_interface e.flags
  known_flags e k = ⊎_elim
      (λ i. ap (λ (d : Class). is_interface d.flags) i.is)
      (λ j. sym (kept j.place k.class j.listed) ∙ ap (λ (x : ExportClass). is_interface x.flags) j.is)
      k.kind

  plain_class : (e : ExportClass) (k : Knows e) → is_interface e.flags ≡ false → (c : Class)
      → class_named w e.name ≡ Some c → is_interface c.flags ≡ false
  plain_class e k plain c n = ap (λ (d : Class). is_interface d.flags) (same_class (sym n ∙ k.named)) ∙ known_flags e k
      ∙ plain

  still_plain : (e : ExportClass) → Here e → is_interface e.flags ≡ false → (f : ExportClass) → Here f
      → Under w e.name f.name → is_interface f.flags ≡ false
  still_plain e h plain f g under =
      let l = knows f g in
      sym (known_flags f l) ∙ class_above e.name f.name under (plain_class e (knows e h) plain) l.class l.named

  -- ---- a method that is listed

  -- of a class that the package writes: it is public or protected, and has its token there
  record IsEntered (e : ExportClass) (m : Member) : Type 0 where
    exposed : is_exposed m.flags ≡ true
    its_token : is_virtual m ≡ true → token (slots (line_of w e.name)) (signature_of m) ≡ Some m.token

  entered : (e : ExportClass) (k : Knows e) → IsWritten list p sound e k.class → is_interface e.flags ≡ false
      → (m : Member) → In m (map method_of_export e.methods) → IsEntered e m
  entered e k j plain m i =
      let c = k.class in
      let at = in_get m (map method_of_export e.methods) i in
      let r = mapped_at method_of_export e.methods at.0 m at.1 in
      let has : Has r.0 (let x = export_class p c in x.methods) = subst (λ (x : ExportClass). Has r.0 x.methods)
      (sym j.is) (get-has r.0 e.methods at.0 r.1) in
      let entry = written_entry j.place c j.listed (ap (λ (x : ExportClass). is_interface x.flags) j.is ∙ plain) r.0 has
      in
      let own_one = own_class p j.place c j.listed in
      let name : (let t = own_one.tree in t.name) ≡ e.name = ap (λ (d : Class). d.name) (sym own_one.is)
      ∙ ap (λ (x : ExportClass). x.name) j.is in
      record {
        exposed = ap (λ (y : Member). is_exposed y.flags) (sym r.2) ∙ entry.exposed;
        its_token = λ virtual. subst (λ (y : Member). token (slots (line_of w e.name)) (signature_of y)
            ≡ Some y.token) r.2
            (subst (λ x. token (slots (line_of w x)) (signature_of (method_of_export r.0)) ≡ Some (let z = r.0
            in z.token)) name (entry.its_token (ap is_virtual r.2 ∙ virtual)));
      }

  -- a public or protected virtual method of a class here has its token there
  own_token : (e : ExportClass) → Here e → is_interface e.flags ≡ false → (m : Member)
      → In m (map method_of_export e.methods) → is_virtual m ≡ true → is_exposed m.flags ≡ true
      → token (slots (line_of w e.name)) (signature_of m) ≡ Some m.token
  own_token e h plain m i virtual open_one = ⊎_elim of_import (λ j. (let r = entered e k j plain m i
      in r.its_token virtual)) k.kind
    where
      k : Knows e
      k = knows e h

      of_import : IsImport list p sound e k.class → token (slots (line_of w e.name)) (signature_of m) ≡ Some m.token
      of_import j =
          let c = k.class in
          let t = tokens_are_once w (λ xs. supertypes-AreSupertypes w ordered.acyclic xs) (AreSupertypes-one w) rules
          e.name e.name c c k.named (known_flags e k ∙ plain) k.named itself in
          t.listed c m k.named (ap (λ (d : Class). d.is_imported) j.is)
          (In-front m c.methods (all_methods (upwards (supertypes w c.supers)))
          (subst (λ (d : Class). In m d.methods) (sym j.is) i)) (and_from (is_exposed m.flags) (is_virtual m) open_one
          virtual)

  -- and in each class below it
  token_below : (e : ExportClass) → Here e → is_interface e.flags ≡ false → (m : Member) → From e.name m
      → is_virtual m ≡ true → is_exposed m.flags ≡ true → token (slots (line_of w e.name)) (signature_of m)
      ≡ Some m.token
  token_below e h plain m f virtual open_one =
      let k = knows e h in
      let l = knows f.class f.here_too in
      let t = tokens_are_once w (λ xs. supertypes-AreSupertypes w ordered.acyclic xs) (AreSupertypes-one w) rules e.name
      (let q = f.class in q.name) k.class l.class k.named (known_flags e k ∙ plain) l.named f.under in
      t.inherited (signature_of m) m.token (own_token f.class f.here_too (still_plain e h plain f.class f.here_too
      f.under) m f.has virtual open_one)

  -- a package-visible one is of an imported class above
  record IsFar (e : ExportClass) (m : Member) : Type 0 where
    class : Class
    on : OnLine w e.name class
    far : class.is_imported ≡ true
    has : In m class.methods
    hidden : is_hidden m ≡ true

  abbrev IsTold : ExportClass → Member → Type 0
  IsTold e m = (token (slots (line_of w e.name)) (signature_of m) ≡ Some m.token) ⊎ IsFar e m

  told_one : (e : ExportClass) → Here e → is_interface e.flags ≡ false → (m : Member) → From e.name m
      → is_virtual m ≡ true → IsTold e m
  told_one e h plain m f virtual = by (is_exposed m.flags) refl
    where
      k : Knows (let q = f in q.class)
      k = knows f.class f.here_too

      by : (b : Bool) → is_exposed m.flags ≡ b → IsTold e m
      by true g = inl (token_below e h plain m f virtual g)
      by false g = ⊎_elim
          (λ i. inr (record {
            class = k.class;
            on = under_on w e.name (let q = f.class in q.name) k.class f.under (here k.named);
            far = ap (λ (d : Class). d.is_imported) i.is;
            has = subst (λ (d : Class). In m d.methods) (sym i.is) f.has;
            hidden = closed_virtual (is_exposed m.flags) (is_virtual m) g virtual;
          }))
          (λ j. (let r = entered f.class k j (still_plain e h plain f.class f.here_too f.under) m f.has
          in no_both (sym r.exposed ∙ g)))
          k.kind

  -- ---- two methods

  abbrev Agree : Member → Member → Type 0
  Agree m n = (m.token ≡ n.token → signature_of m ≡ signature_of n) × (signature_of m ≡ signature_of n
      → m.token ≡ n.token)

  turned : (m n : Member) → Agree n m → Agree m n
  turned m n a = (λ same. sym (a.0 (sym same)), λ same. sym (a.1 (sym same)))

  one_far : (e : ExportClass) → Here e → is_interface e.flags ≡ false → (m n : Member)
      → token (slots (line_of w e.name)) (signature_of m) ≡ Some m.token → IsFar e n → Agree m n
  one_far e h plain m n a g =
      let S = slots (line_of w e.name) in
      let r = hidden_alone list p.files codes settings checks rules e.name g.class n g.on (plain_class e (knows e h)
      plain) g.far g.has g.hidden in
      r.alone m.token (signature_of m) (token-slot S (signature_of m) m.token a)

  pair : (e : ExportClass) → Here e → is_interface e.flags ≡ false → (m n : Member) → is_virtual m ≡ true
      → is_virtual n ≡ true → IsTold e m → IsTold e n → Agree m n
  pair e h plain m n virtual other (inl a) (inl b) =
      let S = slots (line_of w e.name) in (
        λ same. one_method S (signature_of m) (signature_of n) m.token a (b ∙ ap (λ (t : ℕ). Some t) (sym same)),
        λ same. some_number (sym a ∙ ap (token S) same ∙ b),
      )
  pair e h plain m n virtual other (inl a) (inr g) = one_far e h plain m n a g
  pair e h plain m n virtual other (inr f) (inl b) = turned m n (one_far e h plain n m b f)
  pair e h plain m n virtual other (inr f) (inr g) = both_told list p.files codes settings checks rules e.name f.class
      g.class m n f.on g.on (plain_class e (knows e h) plain) f.far g.far f.has g.has virtual other

  -- ---- all

  abbrev cs : List ExportClass
  cs = imports (export_of p ∷ all)

  -- a class beside the written file leads to none of it
  stays : (e f : ExportClass) → Has e (imports all) → Has f cs → Lists f.name e.supers → Has f (imports all)
  stays e f h g l = ⊎_elim written (λ b. b) (either_file (export_of p) [] all f g)
    where
      written : Has f (let t = export_of p in t.classes) → Has f (imports all)
      written a =
          let m = mapped (export_class p) (exported_classes p) f a in
          let at = has-get m.0 (exported_classes p) m.1 in
          let own_one = own_class p at.0 m.0 at.1 in
          let name : f.name ≡ (let t = own_one.tree in t.name) = ap (λ (x : ExportClass). x.name) (sym m.2)
          ∙ ap (λ (d : Class). d.name) own_one.is in
          absurd ((over.apart own_one.number own_one.tree own_one.is_tree e (among e (imports all) h)).1
          (subst (λ x. Lists x e.supers) name l))

  from_all : (e : ExportClass) → Has e (imports all) → Has e cs
  from_all e h = has-back e (let t = export_of p in t.classes) (imports all) h

  others : AreDistinct all
  others = fewer_distinct all (export_of p ∷ all) from_all distinct

  of_package : (e : ExportClass) → Here e → is_interface e.flags ≡ false → IsOneToOne (map method_of_export e.methods
      ++ all_methods (upwards (supertypes (world_of (export_of p ∷ all)) e.supers)))
  of_package e h plain m n i j virtual other =
      let a = told_one e h plain m (all_from list p sound ordered rules root all over distinct e h m i) virtual in
      let b = told_one e h plain n (all_from list p sound ordered rules root all over distinct e h n j) other in
      pair e h plain m n virtual other a b

  of_others : ExportsAreFair all → (e : ExportClass) → Has e (imports all) → is_interface e.flags ≡ false
      → IsOneToOne (map method_of_export e.methods
      ++ all_methods (upwards (supertypes (world_of (export_of p ∷ all)) e.supers)))
  of_others fair e h plain m n i j virtual other =
      let at = has-get e (imports all) h in
      let stay = methods_kept (export_of p ∷ all) all (once_among all others) (λ c. Has c (imports all)) (λ c k. k)
      stays distinct.acyclic others.acyclic e h in
      fair.tokens at.0 e at.1 plain m n (stay m i) (stay n j) virtual other

  pub still_fair : ExportsAreFair all → ExportsAreFair (export_of p ∷ all)
  still_fair fair = record {
    tokens = λ place e at plain. ⊎_elim (λ a. of_package e (inl a) plain) (λ b. of_others fair e b plain)
        (either_file (export_of p) [] all e (get-has e cs place at));
  }
