-- Static methods and constructors of imported classes that code names, as entries of the pool name them.
use Rattle.std.proofs.Common.{◌≡◌, ℕ, zero, suc, ◌+◌, refl, sym, ap, ◌∙◌, arith, Bool, true, false, List, [], ◌∷◌, ◌++◌}
use Rattle.std.proofs.Common.{length, map}
use Rattle.std.specs.Prelude.{◌==◌, Some, cond, option_and_then, slice_get, if◌then◌else◌}
use Rattle.std.specs.List.{find}
use Rattle.std.proofs.lemmas.List.{length-map}
use Rattle.cjc_bytes.specs.declared.fault.MemberId.{MemberId}
use Rattle.cjc_bytes.proofs.Gets.{in_front, get_behind}
use Rattle.cjc_jvm_semantics.specs.OnePackage.{is_initialiser, of_class}
use Rattle.cjc_token_proof.proofs.WorldProofOwn.{mapped_at}
use Rattle.cjc_token_proof.specs.CardSemantics.Machine.Classes.{with_token}
use Rattle.cjc_world.specs.ClassFile.declared.tree.ClassTree.{ClassTree}
use Rattle.cjc_components.specs.Bytecode.declared.method_code.MethodCode.{MethodCode}
use Rattle.cjc_shape_proof.specs.LowerCheckProof.Code.Members.{IsImportedClass, IsImportedMethod, classes_before}
use Rattle.cjc_token_proof.specs.Components.Whole.{exports_of}
use Rattle.cjc_components.specs.Package.{Package, world}
use Rattle.cjc_world.specs.ExportFile.Members.{is_unbound}
use Rattle.cjc_world.specs.ExportFile.declared.tree.ExportClass.{ExportClass}
use Rattle.cjc_world.specs.ExportFile.declared.tree.ExportTree.{ExportTree}
use Rattle.cjc_token_proof.specs.List.Listed.{ListTree}
use Rattle.cjc_token_proof.specs.Subset.Members.{imports}
use Rattle.cjc_token_proof.proofs.TablesLaws.Above.{entry_of_name}
use Rattle.cjc_token_proof.proofs.TablesLaws.Clean.{own_name}
use Rattle.cjc_token_proof.proofs.TablesLaws.Filed.{import_in}
use Rattle.cjc_world.specs.Classes.{Class, Member, class_named, field_of_export, imported, method_of_export}
use Rattle.cjc_world.specs.Lookup.{member_at}
use Rattle.cjc_shape_proof.specs.Written.Checked.{IsOfFiles}
use Rattle.cjc_shape_proof.proofs.WrittenLaws.Checked.{files_sound}
use Rattle.cjc_theorem.proofs.AlikeLaws.MetLaws.Own.{Names_method}

-- ---- lists

-- the class of a token is the first that has it
token_finds : (cs : List ExportClass) (t : ℕ) → find (λ (d : ExportClass). d.token == t) cs ≡ with_token cs t
token_finds [] t = refl
token_finds (c ∷ cs) t = by (c.token == t) (token_finds cs t)
  where
    by : (b : Bool) → find (λ (d : ExportClass). d.token == t) cs ≡ with_token cs t
        → cond b (Some c) (find (λ (d : ExportClass). d.token == t) cs) ≡ (if b then Some c else with_token cs t)
    by true e = refl
    by false e = e

token_there : (cs : List ExportClass) (t : ℕ) (e : ExportClass) → with_token cs t ≡ Some e → (k : ℕ)
    × (slice_get cs k ≡ Some e)
token_there [] t e f = cc
token_there (c ∷ cs) t e f = by (c.token == t) f (token_there cs t e)
  where
    by : (b : Bool) → (if b then Some c else with_token cs t) ≡ Some e → (with_token cs t ≡ Some e → (k : ℕ)
        × (slice_get cs k ≡ Some e)) → (k : ℕ) × (slice_get (c ∷ cs) k ≡ Some e)
    by true g rest = (0, g)
    by false g rest = let r = rest g in (suc r.0, r.1)

-- a class of an export file stands behind those of the files before it
imports_at : (trees : List ExportTree) (file : ℕ) (t : ExportTree) (place : ℕ) (c : ExportClass) → slice_get trees file
    ≡ Some t → slice_get t.classes place ≡ Some c → slice_get (imports trees) (classes_before file trees + place)
    ≡ Some c
imports_at [] file t place c e f = cc
imports_at (u ∷ trees) zero t place c e f =
    let same : u ≡ t = cc in
    let z : 0 + place ≡ place = omega arith in
    ap (slice_get (u.classes ++ imports trees)) z ∙ in_front u.classes (imports trees) place c
    (ap (λ (x : ExportTree). slice_get x.classes place) same ∙ f)
imports_at (u ∷ trees) (suc file) t place c e f =
    let at : length u.classes + classes_before file trees + place ≡ length u.classes + (classes_before file trees +
    place) = omega arith in
    ap (slice_get (u.classes ++ imports trees)) at ∙ get_behind u.classes (imports trees) (classes_before file trees +
    place) ∙ imports_at trees file t place c e f

module _ (list : ListTree) (codes : List MethodCode) (p : Package) (is : IsOfFiles list codes p) where
  abbrev w : List Class
  w = world p

  -- An imported class, with its place among all of them.
  record IsAbroad (d : Class) : Type 0 where
    class : ExportClass
    of : IsImportedClass p d.name class
    numbered : d ≡ imported (classes_before of.file (exports_of p) + of.place) class

  abroad : (d : Class) → class_named w d.name ≡ Some d → d.is_imported ≡ true → IsAbroad d
  abroad d named import =
      let sound = files_sound list codes p is.checked in
      let h = entry_of_name list.name p sound d.name d named import in
      let e = h.entry in
      let tree = h.tree in
      let by_token : with_token tree.classes e.token ≡ Some e =
      sym (ap (option_and_then (λ (t : ExportTree). with_token t.classes e.token)) h.in_list) ∙ h.there in
      let place = token_there tree.classes e.token e by_token in
      let number = classes_before h.file (exports_of p) + place.0 in
      let listed = imports_at (exports_of p) h.file tree place.0 e h.in_list place.1 in
      let again = own_name list.name p.files sound (imported number e) (import_in p.files sound.classes sound.exports
      number e listed) in
      let name_is : e.name ≡ d.name = sym (ap (λ (c : Class). c.name) h.class) in
      let both : Some d ≡ Some (imported number e) = sym named ∙ ap (class_named w) (sym name_is) ∙ again in
      record {
        class = e;
        of = record {
          file = h.file;
          tree = tree;
          place = place.0;
          is_tree = h.in_list;
          is_class = place.1;
          named = h.on_card;
          first = token_finds tree.classes e.token ∙ by_token;
        };
        numbered = cc;
      }

  pub abroad_named : (class : ClassTree) (op : ℕ) (id : MemberId)
      → (n : Names_method list codes p is class op id) → (let d = n.owner in d.is_imported) ≡ true
      → is_unbound (let a = n.at in let m = a.member in m.flags) (let a = n.at in let m = a.member in m.name) ≡ true
      → IsImportedMethod p (of_class (let d = n.owner in d.name) id)
  abroad_named class op id n import bound =
      let d = n.owner in
      let at = n.at in
      let a = abroad d n.named import in
      let e = a.class in
      let of = a.of in
      let x = mapped_at method_of_export e.methods at.place at.member (ap (λ (c : Class). slice_get c.methods at.place)
      (sym a.numbered) ∙ at.is_member) in
      let long : length (map field_of_export e.fields) ≡ length e.fields = length-map e.fields field_of_export in
      record {
        class = e;
        of = of;
        place = at.place;
        method = x.0;
        there = x.1;
        is_unbound = ap (λ (v : Member). is_unbound v.flags v.name) (sym x.2) ∙ bound;
        is_no_initialiser = ap (λ (v : Member). is_initialiser v.name) (sym x.2) ∙ ap is_initialiser at.has_name
            ∙ (let g = n.fits in g.no_initialiser);
        found = n.again ∙ ap Some (at.is ∙ ap (λ (c : Class). member_at c (length c.fields + at.place)) a.numbered
            ∙ ap (λ k. member_at (imported (classes_before of.file (exports_of p) + of.place) e) (k + at.place)) long);
      }
