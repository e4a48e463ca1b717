-- What export files say of initialisers and of the methods of interfaces is what calls ask.
use Rattle.std.proofs.Common.{◌≡◌, ℕ, zero, suc, refl, sym, ap, ◌∙◌, Bool, true, false, not, List, [], ◌∷◌, ◌++◌}
use Rattle.std.specs.Prelude.{◌&&◌, ◌||◌, ◌==◌, Some, option_map, slice_get, if◌then◌else◌, codes}
use Rattle.std.specs.List.{find}
use Rattle.std.specs.Str.{bytes_eq}
use Rattle.std.proofs.lemmas.Bool.{eqb-true}
use Rattle.std.proofs.lemmas.Option.{slice_get-map}
use Rattle.cjc_bytes.specs.AccessFlags.{is_interface, is_private, is_static}
use Rattle.cjc_bytes.proofs.Bools.{both_back}
use Rattle.cjc_bytes.proofs.Numbers.{like_number}
use Rattle.cjc_token_proof.proofs.WorldProofOwn.{mapped_at}
use Rattle.cjc_components.specs.Package.{Package, has_applets, world}
use Rattle.cjc_world.specs.ExportFile.Supers.{classes_of, is_virtual, virtual_method}
use Rattle.cjc_world.specs.ExportFile.Supers as exports
use Rattle.cjc_world.specs.ExportFile.declared.tree.ExportClass.{ExportClass}
use Rattle.cjc_world.specs.ExportFile.declared.tree.ExportMethod.{ExportMethod}
use Rattle.cjc_world.specs.ExportFile.declared.tree.ExportTree.{ExportTree}
use Rattle.cjc_shape_proof.specs.WorldProof.Files.{ExportsAreSound}
use Rattle.cjc_token_proof.specs.Subset.Members.{imports}
use Rattle.cjc_token_proof.specs.Tables.Sound.{IsSound}
use Rattle.cjc_tokens.specs.Members.{Signature, signature_of}
use Rattle.cjc_tokens.specs.Methods.{interface_methods}
use Rattle.cjc_vtable.proofs.Filed.{IsFiled, filed, in_class_file, in_export_file}
use Rattle.cjc_shape_proof.proofs.WrittenLaws.WholeLaws.Declared.{method_there}
use Rattle.cjc_world.specs.Classes.{Class, Member, class_named, imported, method_of_export}
use Rattle.cjc_world.proofs.Cycles.{class_named-name}
use Rattle.cjc_token_proof.specs.WrittenCalls.Calls.{ExportsKeep}
use Rattle.cjc_shape_proof.specs.Written.Converted.{ExportsArePlain}

flat_is : (ts : List ExportTree) → classes_of ts ≡ imports ts
flat_is [] = refl
flat_is (t ∷ ts) = ap (λ cs. t.classes ++ cs) (flat_is ts)

-- the first class of a name stands among them
named_at : (es : List ExportClass) (y : List ℕ) (e : ExportClass) → exports.class_named es y ≡ Some e → (k : ℕ)
    × (slice_get es k ≡ Some e)
named_at [] y e h = cc
named_at (x ∷ es) y e h = by (bytes_eq x.name y) h (named_at es y e)
  where
    by : (b : Bool) → (if b then Some x else exports.class_named es y) ≡ Some e → (exports.class_named es y ≡ Some e
        → (k : ℕ) × (slice_get es k ≡ Some e)) → (k : ℕ) × (slice_get (x ∷ es) k ≡ Some e)
    by true g rest = (0, g)
    by false g rest = let r = rest g in (suc r.0, r.1)

-- what passes is found, or one before it
find_some : {A : Type 0} (test : A → Bool) (xs : List A) (i : ℕ) (z : A) → slice_get xs i ≡ Some z → test z ≡ true
    → (x : A) × (find test xs ≡ Some x) × (test x ≡ true) × ((j : ℕ) × (slice_get xs j ≡ Some x))
find_some test [] i z e h = cc
find_some test (y ∷ xs) zero z e h = let same : y ≡ z = cc
    in (y, ap (λ b. if b then Some y else find test xs) (ap test same ∙ h), ap test same ∙ h, (0, refl))
find_some test (y ∷ xs) (suc i) z e h = by (test y) refl (find_some test xs i z e h)
  where
    by : (b : Bool) → test y ≡ b → (x : _) × (find test xs ≡ Some x) × (test x ≡ true)
        × ((j : ℕ) × (slice_get xs j ≡ Some x)) → (x : _) × (find test (y ∷ xs) ≡ Some x) × (test x ≡ true)
        × ((j : ℕ) × (slice_get (y ∷ xs) j ≡ Some x))
    by true is r = (y, ap (λ b. if b then Some y else find test xs) is, is, (0, refl))
    by false is r = (r.0, ap (λ b. if b then Some y else find test xs) is ∙ r.1, r.2, (suc (r.3).0, (r.3).1))

module _ (list : List ℕ) (p : Package) (sound : IsSound list p.files) (told : ExportsAreSound p.files)
    (plain : ExportsArePlain p.files) where
  abbrev w : List Class
  w = world p

  open_virtual : (m : ExportMethod) (t : ℕ) → is_static m.flags ≡ false → is_private m.flags ≡ false
      → bytes_eq m.name (codes "<init>") ≡ false → m.token ≡ t → (is_virtual m && (m.token == t)) ≡ true
  open_virtual m t static private constructor token =
      by (is_static m.flags) (is_private m.flags) (bytes_eq m.name (codes "<init>")) (m.token == t) static private
      constructor (ap (λ n. n == t) token ∙ like_number t)
    where
      by : (a b c d : Bool) → a ≡ false → b ≡ false → c ≡ false → d ≡ true → (not (a || b || c) && d) ≡ true
      by false false false true e f g h = refl
      by true b c d e f g h = cc
      by false true c d e f g h = cc
      by false false true d e f g h = cc
      by false false false false e f g h = cc

  interface_has : (y : List ℕ) (k : ℕ) (e : ExportClass) → class_named w y ≡ Some (imported k e) → is_interface e.flags
      ≡ true → (t : ℕ) (s : Signature) → slice_get (interface_methods w (imported k e)) t ≡ Some s
      → (m : ExportMethod) × (virtual_method t e ≡ Some m) × (signature_of (method_of_export m) ≡ s)
  interface_has y k e known interface t s at = by (imported k e) (filed p.files y (imported k e) known) refl
    where
      by : (d : Class) → IsFiled p.files d → d ≡ imported k e → (m : ExportMethod) × (virtual_method t e ≡ Some m)
          × (signature_of (method_of_export m) ≡ s)
      by d (in_class_file n u there) same = (let clash : false ≡ true = ap (λ (q : Class). q.is_imported) same
          in absurd (cc))
      by d (in_export_file n u there) same =
          let name : u.name ≡ y = ap (λ (q : Class). q.name) same ∙ class_named-name w y (imported k e) known in
          let known_there : class_named w u.name ≡ Some (imported n u) = ap (class_named w) name ∙ known
          ∙ ap Some (sym same) in
          let interface_there : is_interface u.flags ≡ true = ap (λ (q : Class). is_interface q.flags) same ∙ interface
          in
          let r = method_there list p.files sound.unbroken (let q = sound.read in q.exports) (has_applets p) n u there
          known_there interface_there t s (ap (λ (q : Class). slice_get (interface_methods w q) t) same ∙ at) in
          let o = r.method in
          let z = mapped_at method_of_export e.methods r.place (method_of_export o)
          (ap (λ (q : Class). slice_get q.methods r.place) (sym same) ∙ slice_get-map method_of_export u.methods
          r.place ∙ ap (option_map method_of_export) r.there) in
          let bare = plain.interfaces n u there interface_there r.place o r.there in
          let passes = open_virtual z.0 t
          (ap (λ (q : Member). is_static q.flags) (sym z.2) ∙ bare.1)
          (ap (λ (q : Member). is_private q.flags) (sym z.2) ∙ bare.0)
          (ap (λ (q : Member). bytes_eq q.name (codes "<init>")) (sym z.2) ∙ r.no_constructor)
          (ap (λ (q : Member). q.token) (sym z.2) ∙ r.token) in
          let f = find_some (λ (m : ExportMethod). is_virtual m && (m.token == t)) e.methods r.place z.0 z.1 passes in
          let token : (let x = f.0 in x.token) ≡ t = eqb-true (let x = f.0 in x.token) t (both_back (is_virtual f.0)
          ((let x = f.0 in x.token) == t) f.2) in
          let v = mapped_at method_of_export u.methods f.3.0 (method_of_export f.0)
          (ap (λ (q : Class). slice_get q.methods f.3.0) same ∙ slice_get-map method_of_export e.methods f.3.0
          ∙ ap (option_map method_of_export) f.3.1) in
          let only = r.only_one f.3.0 v.0 v.1 (ap (λ (q : Member). q.token) (sym v.2) ∙ token) in
          (f.0, f.1, ap signature_of (v.2 ∙ only) ∙ r.signature)

  pub exports_keep : ExportsKeep p
  exports_keep = record {
    plain = λ y e known k m there named. (let r = named_at (classes_of p.files.exports) y e known
        in plain.initialisers r.0 e (ap (λ cs. slice_get cs r.0) (sym (flat_is p.files.exports)) ∙ r.1) k m there
        named);
    object_class = λ c e. (let root = told.root in
        let both : Some c ≡ Some (imported root.number root.class) = sym e ∙ root.found in
        let same : c ≡ imported root.number root.class = cc in
        ap (λ (q : Class). is_interface q.flags) same ∙ root.no_interface);
    methods = interface_has;
  }
