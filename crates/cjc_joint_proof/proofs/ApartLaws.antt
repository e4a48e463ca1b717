-- Classes of export files from outside stand apart from one another and from those of the packages, where packages
-- link with one another.
use Rattle.std.proofs.Common.{◌≡◌, ℕ, zero, suc, ◌+◌, ◌-◌, arith, refl, sym, ap, ◌∙◌, Bool, true, false}
use Rattle.std.proofs.Common.{List, [], ◌∷◌, ◌++◌, length, Some, None, flat_map}
use Rattle.std.specs.Prelude.{Option, ◌||◌, if◌then◌else◌, slice_get}
use Rattle.std.specs.Str.{bytes_eq}
use Rattle.std.proofs.lemmas.Option.{slice_get_within}
use Rattle.cjc_token_proof.proofs.BytesGets.{get_behind, get_front, mapped_at}
use Rattle.cjc_token_proof.proofs.BytesLists.{name_is}
use Rattle.cjc_token_proof.proofs.WrittenSends.Operations.{flat_from}
use Rattle.cjc_token_proof.proofs.TablesLaws.Clean.{own_name}
use Rattle.cjc_token_proof.proofs.TablesLaws.Filed.{import_in}
use Rattle.cjc_token_proof.specs.Subset.Members.{imports}
use Rattle.cjc_card_semantics.specs.ExportFile.declared.tree.ExportClass.{ExportClass}
use Rattle.cjc_card_semantics.specs.ExportFile.declared.tree.ExportTree.{ExportTree}
use Rattle.cjc_card_semantics.specs.Machine.Classes.{token_named}
use Rattle.cjc_exported.specs.ClassFile.declared.tree.ClassTree.{ClassTree}
use Rattle.cjc_exported.specs.World.Classes.{Class, all_classes, class_named, declared, imported}
use Rattle.cjc_exported.specs.World.Files.{Files}
use Rattle.cjc_link_semantics.specs.Components.Package.{Package, world}
use Rattle.cjc_link_semantics.specs.JvmSemantics.Group.{is_among, is_of_group, joint_exports, outside_once}
use Rattle.cjc_link_semantics.specs.Loaded.{Member}
use Rattle.cjc_joint_proof.specs.JointPackages.{AreLinked, files_together}
use Rattle.cjc_joint_proof.specs.Loading.{group_of, member_of}
use Rattle.cjc_joint_proof.specs.Worlds.{AreApart, AreApartFromOutside, IsOwn, outside_classes}
use Rattle.cjc_joint_proof.proofs.ClassLaws.{Listing, listing, sound_at}
use Rattle.cjc_joint_proof.proofs.SoundLaws as sound
use Rattle.cjc_joint_proof.proofs.WorldLaws.{none_past}

-- ---- lists that are joined

-- where the items of one list stand
pub record Begins {A B : Type 0} (f : A → List B) (xs : List A) (x : A) : Type 0 where
  pub before : ℕ
  pub each : (k : ℕ) (y : B) → slice_get (f x) k ≡ Some y → slice_get (flat_map f xs) (before + k) ≡ Some y

pub begins : {A B : Type 0} (f : A → List B) (xs : List A) (n : ℕ) (x : A) → slice_get xs n ≡ Some x → Begins f xs x
begins f [] n x is = cc
begins f (z ∷ xs) zero x is =
    let same : z ≡ x = cc in
    record {
      before = 0;
      each = λ k y at. (let lt = slice_get_within (f x) k y at in
          let s : 0 + k ≡ k = omega arith in
          ap (slice_get (f z ++ flat_map f xs)) s ∙ ap (λ v. slice_get (f v ++ flat_map f xs) k) same
          ∙ get_front (f x) (flat_map f xs) k lt ∙ at);
    }
begins f (z ∷ xs) (suc n) x is =
    let r = begins f xs n x is in
    record {
      before = length (f z) + r.before;
      each = λ k y at. (let s : length (f z) + r.before + k ≡ length (f z) + (r.before + k) = omega arith in
          ap (slice_get (f z ++ flat_map f xs)) s ∙ get_behind (f z) (flat_map f xs) (r.before + k) ∙ r.each k y at);
    }

pub imports_flat : (ts : List ExportTree) → imports ts ≡ flat_map (λ (t : ExportTree). t.classes) ts
imports_flat [] = refl
imports_flat (t ∷ ts) = ap (λ cs. t.classes ++ cs) (imports_flat ts)

-- the class of a name has a token
pub token_there : (cs : List ExportClass) (k : ℕ) (e : ExportClass) → slice_get cs k ≡ Some e
    → (token : ℕ) × (token_named cs e.name ≡ Some token)
token_there [] k e is = cc
token_there (c ∷ cs) zero e is =
    let same : c ≡ e = cc in (
      c.token,
      ap (λ b. if b then Some c.token else token_named cs e.name)
          (ap (λ (v : ExportClass). bytes_eq v.name e.name) same ∙ name_is e.name),
    )
token_there (c ∷ cs) (suc k) e is = by (bytes_eq c.name e.name) (token_there cs k e is)
  where
    by : (b : Bool) → (token : ℕ) × (token_named cs e.name ≡ Some token) → (token : ℕ)
        × ((if b then Some c.token else token_named cs e.name) ≡ Some token)
    by true r = (c.token, refl)
    by false r = r

-- each export file from outside is one that a package imports
pub from_imports : (group : List Files) (seen trees : List ExportTree) (j : ℕ) (t : ExportTree)
    → slice_get (outside_once group seen trees) j ≡ Some t → (k : ℕ) × (slice_get trees k ≡ Some t)
from_imports group seen [] j t is = cc
from_imports group seen (u ∷ trees) j t is =
    by (is_of_group group u.name || is_among seen u.name) j is (λ more i at. from_imports group more trees i t at)
  where
    by : (b : Bool) (j : ℕ) → slice_get (if b then outside_once group seen trees
        else u ∷ outside_once group (seen ++ u ∷ []) trees) j ≡ Some t
        → ((more : List ExportTree) (i : ℕ) → slice_get (outside_once group more trees) i ≡ Some t → (k : ℕ)
        × (slice_get trees k ≡ Some t)) → (k : ℕ) × (slice_get (u ∷ trees) k ≡ Some t)
    by true j e rest = let r = rest seen j e in (suc r.0, r.1)
    by false zero e rest = (0, e)
    by false (suc j) e rest = let r = rest (seen ++ u ∷ []) j e in (suc r.0, r.1)

-- ---- one class of a name

abbrev NamesOnce : ExportTree → Type 0
NamesOnce t = (a b : ℕ) (c d : ExportClass) → slice_get t.classes a ≡ Some c → slice_get t.classes b ≡ Some d
    → c.name ≡ d.name → a ≡ b

flat_once : (ts : List ExportTree) → ((j : ℕ) (t : ExportTree) → slice_get ts j ≡ Some t → NamesOnce t)
    → ((j r a b : ℕ) (t u : ExportTree) (c d : ExportClass) → slice_get ts j ≡ Some t → slice_get ts r ≡ Some u
    → slice_get t.classes a ≡ Some c → slice_get u.classes b ≡ Some d → c.name ≡ d.name → j ≡ r)
    → (k n : ℕ) (c d : ExportClass) → slice_get (flat_map (λ (t : ExportTree). t.classes) ts) k ≡ Some c
    → slice_get (flat_map (λ (t : ExportTree). t.classes) ts) n ≡ Some d → c.name ≡ d.name → k ≡ n
flat_once [] own apart k n c d at there same = cc
flat_once (t ∷ ts) own apart k n c d at there same =
    by (slice_get t.classes k) refl (slice_get t.classes n) refl (flat_once ts (λ j u is. own (suc j) u is)
    (λ j r a b u v x y p q g h m. let s : suc j ≡ suc r = apart (suc j) (suc r) a b u v x y p q g h m in omega (
      arith,
      s,
    )) (k - length t.classes) (n - length t.classes) c d)
  where
    all : List ExportClass
    all = flat_map (λ (t : ExportTree). t.classes) ts

    front : (k : ℕ) (c x : ExportClass) → slice_get t.classes k ≡ Some x → slice_get (t.classes ++ all) k ≡ Some c
        → slice_get t.classes k ≡ Some c
    front k c x e at = let lt = slice_get_within t.classes k x e in sym (get_front t.classes all k lt) ∙ at

    later : (k : ℕ) (c : ExportClass) → slice_get t.classes k ≡ None → slice_get (t.classes ++ all) k ≡ Some c
        → slice_get all (k - length t.classes) ≡ Some c
    later k c e at =
        let le = none_past t.classes k e in
        let s : k ≡ length t.classes + (k - length t.classes) = omega (arith, le) in
        sym (get_behind t.classes all (k - length t.classes)) ∙ ap (slice_get (t.classes ++ all)) (sym s) ∙ at

    apart_so : (k n : ℕ) (c d : ExportClass) → slice_get t.classes k ≡ Some c → slice_get all n ≡ Some d
        → c.name ≡ d.name → ⊥
    apart_so k n c d at there same =
        let r = flat_from (λ (t : ExportTree). t.classes) ts n d there in
        let no : 0 ≡ suc r.0 = apart 0 (suc r.0) k r.3.0 t r.1 c d refl r.2 at r.3.1 same in
        omega (arith, no)

    by : (o : Option ExportClass) → slice_get t.classes k ≡ o → (i : Option ExportClass) → slice_get t.classes n ≡ i
        → (slice_get all (k - length t.classes) ≡ Some c → slice_get all (n - length t.classes) ≡ Some d
        → c.name ≡ d.name → k - length t.classes ≡ n - length t.classes) → k ≡ n
    by (Some x) e (Some y) f rest = own 0 t refl k n c d (front k c x e at) (front n d y f there) same
    by (Some x) e None f rest = absurd (apart_so k (n - length t.classes) c d (front k c x e at) (later n d f there) same)
    by None e (Some y) f rest = absurd (apart_so n (k - length t.classes) d c (front n d y f there) (later k c e at) (sym
        same))
    by None e None f rest =
        let more = rest (later k c e at) (later n d f there) same in
        let low = none_past t.classes k e in
        let least = none_past t.classes n f in
        omega (arith, more, low, least)

module _ (packages : List Package) (linked : AreLinked packages) where
  abbrev group : List Files
  group = files_together packages

  -- a package of the group by its files
  pub record OfFiles (q : ℕ) (f : Files) : Type 0 where
    pub «package» : Package
    pub there : slice_get packages q ≡ Some «package»
    pub files : (let p = «package» in p.files) ≡ f

  pub of_files : (q : ℕ) (f : Files) → slice_get group q ≡ Some f → OfFiles q f
  of_files q f at =
      let m = mapped_at (λ (m : Member). m.files) (group_of packages) q f at in
      let k = mapped_at member_of packages q m.0 m.1 in
      record { «package» = k.0; there = k.1; files = ap (λ (m : Member). m.files) k.2 ∙ m.2 }

  -- a package that imports an export file from outside
  pub outside_listing : (j : ℕ) (t : ExportTree) → slice_get (joint_exports group) j ≡ Some t
      → Listing packages linked t
  outside_listing j t at =
      let r = from_imports group [] (flat_map (λ (f : Files). f.exports) group) j t at in
      listing packages linked r.0 t r.1

  -- a class of an export file that a package imports is the one of its name there
  pub import_named : (q v : ℕ) (p : Package) (t : ExportTree) → slice_get packages q ≡ Some p
      → (at : let f = p.files in slice_get f.exports v ≡ Some t)
      → (before : ℕ) × ((k : ℕ) (e : ExportClass) → slice_get t.classes k ≡ Some e
      → class_named (world p) e.name ≡ Some (imported (before + k) e))
  import_named q v p t here at =
      let s = sound_at packages linked q p here in
      let sound = s.sound in
      let f = p.files in
      let b = begins (λ (t : ExportTree). t.classes) f.exports v t at in (
        b.before,
        λ k e is. own_name s.list p.files s.sound (imported (b.before + k) e) (import_in p.files sound.classes
            sound.exports (b.before + k) e (ap (λ cs. slice_get cs (b.before + k)) (imports_flat f.exports)
            ∙ b.each k e is)),
      )

  names_once : (j : ℕ) (t : ExportTree) → slice_get (joint_exports group) j ≡ Some t → NamesOnce t
  names_once j t there a b c d at is same =
      let y = outside_listing j t there in
      let h = y.listed in
      let r = import_named y.part y.place y.«package» t h.member h.file in
      let both : Some (imported (r.0 + a) c) ≡ Some (imported (r.0 + b) d) = sym (r.1 a c at)
      ∙ ap (class_named (world y.«package»)) same ∙ r.1 b d is in
      let one : imported (r.0 + a) c ≡ imported (r.0 + b) d = cc in
      let number : r.0 + a ≡ r.0 + b = ap (λ (v : Class). v.number) one in
      omega (arith, number)

  one_tree : (j r a b : ℕ) (t u : ExportTree) (c d : ExportClass) → slice_get (joint_exports group) j ≡ Some t
      → slice_get (joint_exports group) r ≡ Some u → slice_get t.classes a ≡ Some c → slice_get u.classes b ≡ Some d
      → c.name ≡ d.name → j ≡ r
  one_tree j r a b t u c d at there is so same =
      let x = token_there t.classes a c is in
      let y = token_there u.classes b d so in
      linked.one_file r j u t d.name y.0 x.0 there at y.1 (ap (token_named t.classes) (sym same) ∙ x.1)

  pub packages_apart : AreApart group
  packages_apart = sound.apart group linked.sound

  pub apart_outside : AreApartFromOutside group
  apart_outside = record {
    once = λ k n c d at there same. flat_once (joint_exports group) names_once one_tree k n c d at there same;
    no_own = λ i k n p c d own at same. no_own_one i k n p c d own at same;
  }
    where
      no_own_one : (i k n : ℕ) (p : Files) (c : ClassTree) (d : ExportClass) → IsOwn group i k p c
          → slice_get (outside_classes group) n ≡ Some d → d.name ≡ c.name → ⊥
      no_own_one i k n p c d own at same =
          let r = flat_from (λ (t : ExportTree). t.classes) (joint_exports group) n d at in
          let x = token_there r.1.classes r.3.0 d r.3.1 in
          let o = of_files i p own.member in
          let files : (let v = o.«package» in v.files) ≡ p = o.files in
          let l = sound.listed group linked.sound i k p c own in
          let t : token_named r.1.classes c.name ≡ Some x.0 = ap (token_named r.1.classes) (sym same) ∙ x.1 in
          let f : class_named (world o.«package») c.name ≡ Some (declared k c) =
          ap (λ v. class_named (all_classes v) c.name) files ∙ l.name in
          let no : false ≡ true = linked.no_own r.0 i r.1 o.«package» (declared k c) c.name x.0 r.2 t o.there f in
          cc
