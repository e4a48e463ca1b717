-- The classes of export files by themselves, and where they stand among the files of a package: names find the same
-- classes,
-- and the same classes stand above them.
use Rattle.std.proofs.Common.{◌≡◌, ℕ, ◌+◌, refl, sym, ap, ◌∙◌, arith, true, List, [], ◌∷◌}
use Rattle.std.specs.Prelude.{Option, Some, None, slice_get}
use Rattle.cjc_world.specs.ExportFile.declared.tree.ExportClass.{ExportClass}
use Rattle.cjc_theorem.specs.FairExports.Fair.{world_of}
use Rattle.cjc_theorem.proofs.FairWriting.Worlds.{numbered_at, numbered_some}
use Rattle.cjc_token_proof.proofs.WorldProofRules.{listed_abroad}
use Rattle.cjc_token_proof.specs.Subset.Members.{imports}
use Rattle.cjc_token_proof.proofs.TablesLaws.Clean.{has_named, own_name}
use Rattle.cjc_token_proof.proofs.TablesLaws.Filed.{import_filed, import_in}
use Rattle.cjc_token_proof.specs.Tables.Sound.{IsSound}
use Rattle.cjc_world.specs.Classes.{Class, all_classes, class_named, imported}
use Rattle.cjc_world.specs.Files.{Files}
use Rattle.cjc_world.specs.Supertypes.{Above, IsAcyclic, AreSupertypes, Supertypes, Lists, after, directly, ends}
use Rattle.cjc_world.specs.Supertypes.{foremost, supertypes, known_here, onwards, unknown_here}
use Rattle.cjc_world.proofs.Cycles.{class_named-name}
use Rattle.cjc_world.proofs.Settled.{AreSupertypes-one, supertypes-AreSupertypes, lists-behind, lists-front}
use Rattle.cjc_world.proofs.Unbroken.{unbroken_is_acyclic}

-- ---- among the files of a package

module _ (list : List ℕ) (files : Files) (sound : IsSound list files) where
  abbrev w : List Class
  w = all_classes files

  -- the classes of export files alone
  abbrev v : List Class
  v = world_of files.exports

  pub acyclic : IsAcyclic w
  acyclic = unbroken_is_acyclic list files sound.unbroken

  -- each class of an export file is found by its name
  pub found : (n : ℕ) (c : ExportClass) → slice_get (imports files.exports) n ≡ Some c → class_named w c.name
      ≡ Some (imported n c)
  found n c e = own_name list files sound (imported n c) (import_in files sound.classes sound.exports n c e)

  -- and one that is found is of an export file
  pub filed : (x : List ℕ) (d : Class) → class_named w x ≡ Some d → d.is_imported ≡ true → (n : ℕ) × (c : ExportClass)
      × (slice_get (imports files.exports) n ≡ Some c) × (d ≡ imported n c)
  filed x d e is = import_filed files sound.classes sound.exports d (has_named w x d e) is

  -- what a name finds among them alone it finds among all
  alone_filed : (x : List ℕ) (d : Class) → class_named v x ≡ Some d → (n : ℕ) × (c : ExportClass)
      × (slice_get (imports files.exports) n ≡ Some c) × (d ≡ imported n c)
  alone_filed x d e =
      let r = numbered_at 0 (imports files.exports) x d e in
      let i = r.0 in
      let none : 0 + i ≡ i = omega arith in
      (i, r.1, r.2, r.3 ∙ ap (λ m. imported m r.1) none)

  pub out : (x : List ℕ) (d : Class) → class_named v x ≡ Some d → class_named w x ≡ Some d
  out x d e =
      let r = alone_filed x d e in
      let name : r.1.name ≡ x = ap (λ (q : Class). q.name) (sym r.3) ∙ class_named-name v x d e in
      ap (class_named w) (sym name) ∙ found r.0 r.1 r.2 ∙ ap Some (sym r.3)

  pub is_import : (x : List ℕ) (d : Class) → class_named v x ≡ Some d → d.is_imported ≡ true
  is_import x d e = ap (λ (q : Class). q.is_imported) (alone_filed x d e).3

  -- what it finds among all, if it is of an export file, it finds among them alone
  pub back : (x : List ℕ) (d : Class) → class_named w x ≡ Some d → d.is_imported ≡ true → class_named v x ≡ Some d
  back x d e is =
      let r = filed x d e is in
      let name : r.1.name ≡ x = ap (λ (q : Class). q.name) (sym r.3) ∙ class_named-name w x d e in
      let some = numbered_some 0 (imports files.exports) r.0 r.1 r.2 in
      let there : class_named v x ≡ Some some.0 = ap (class_named v) (sym name) ∙ some.1 in
      there ∙ sym (out x some.0 there) ∙ e

  -- ---- what stands above them

  -- none of these names is of a class of the package
  abbrev pub AreAbroad : List (List ℕ) → Type 0
  AreAbroad xs = (y : List ℕ) (d : Class) → Lists y xs → class_named w y ≡ Some d → d.is_imported ≡ true

  above_out : (x y : List ℕ) → Above v x y → Above w x y
  above_out x y (directly c e l) = directly c (out x c e) l
  above_out x y (onwards {y = z} c e l up) = onwards c (out x c e) l (above_out z y up)

  nowhere : (x : List ℕ) → class_named v x ≡ None → ((d : Class) → class_named w x ≡ Some d → d.is_imported ≡ true)
      → class_named w x ≡ None
  nowhere x e abroad = by (class_named w x) refl
    where
      by : (o : Option Class) → class_named w x ≡ o → o ≡ None
      by None f = refl
      by (Some d) f = (let no : None ≡ Some d = sym e ∙ back x d f (abroad d f) in absurd cc)

  -- what a class of an export file lists is of no class of the package
  pub supers_abroad : (x : List ℕ) (c : Class) → class_named w x ≡ Some c → c.is_imported ≡ true → AreAbroad c.supers
  supers_abroad x c e is y d l f = listed_abroad list files sound.unbroken x y c d e is (lists-front y c.supers
      c.interfaces l) f

  interfaces_abroad : (x : List ℕ) (c : Class) → class_named w x ≡ Some c → c.is_imported ≡ true
      → AreAbroad c.interfaces
  interfaces_abroad x c e is y d l f = listed_abroad list files sound.unbroken x y c d e is (lists-behind y c.supers
      c.interfaces l) f

  supertypes_out : (xs : List (List ℕ)) (k : Supertypes) → AreSupertypes v xs k → AreAbroad xs → AreSupertypes w xs k
  supertypes_out xs k ends abroad = ends
  supertypes_out (x ∷ xs) k (unknown_here {next = next} e rest) abroad =
      unknown_here (nowhere x e (λ d f. abroad x d foremost f)) (supertypes_out xs next rest (λ y d l f. abroad y d
      (after l) f))
  supertypes_out (x ∷ xs) k (known_here {c = c} {supers = supers} {interfaces = interfaces} {next = next} e s i rest)
      abroad =
      let f = out x c e in
      let is = is_import x c e in
      known_here f (supertypes_out c.supers supers s (supers_abroad x c f is)) (supertypes_out c.interfaces interfaces i
      (interfaces_abroad x c f is)) (supertypes_out xs next rest (λ y d l g. abroad y d (after l) g))

  pub same_supertypes : (xs : List (List ℕ)) → AreAbroad xs → supertypes w xs ≡ supertypes v xs
  same_supertypes xs abroad = AreSupertypes-one w xs (supertypes w xs) (supertypes v xs) (supertypes-AreSupertypes w
      acyclic xs) (supertypes_out xs (supertypes v xs) (supertypes-AreSupertypes v
      (λ x far. acyclic x (above_out x x far)) xs) abroad)

  pub one_abroad : (n : ℕ) (c : ExportClass) → slice_get (imports files.exports) n ≡ Some c → AreAbroad (c.name ∷ [])
  one_abroad n c e y d foremost f =
      let both : Some (imported n c) ≡ Some d = sym (found n c e) ∙ f in
      let same : imported n c ≡ d = cc in
      ap (λ (q : Class). q.is_imported) (sym same)
  one_abroad n c e y d (after l) f = elim l [ ]
