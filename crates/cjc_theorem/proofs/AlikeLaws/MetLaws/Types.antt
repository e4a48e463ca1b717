-- The descriptors of a package, those of its pool and of its classes, name classes that some file has.
use Rattle.std.proofs.Common.{◌≡◌, ⊎_elim, ℕ, sym, ap, subst, ◌∙◌, arith, Bool, true, false, List, [], ◌∷◌, ◌++◌, map}
use Rattle.std.specs.Prelude.{Some, flat_map, slice_get, if◌then◌else◌}
use Rattle.std.specs.Str.{bytes_eq}
use Rattle.std.specs.Prelude.{codes as bytes_of}
use Rattle.std.proofs.lemmas.Option.{slice_get_within}
use Rattle.cjc_bytes.specs.declared.fault.MemberId.{MemberId}
use Rattle.cjc_bytes.proofs.Gets.{mapped_at}
use Rattle.cjc_shape_proof.proofs.CheckProofLists.{has-mapped}
use Rattle.cjc_shape_proof.specs.LowerCheckProof.Classes.Premises.{is_known, types_known}
use Rattle.cjc_world.specs.ClassFile.declared.tree.ClassTree.{ClassTree}
use Rattle.cjc_world.specs.ClassFile.declared.tree.FieldTree.{FieldTree}
use Rattle.cjc_components.specs.Bytecode.declared.method_code.MethodCode.{MethodCode}
use Rattle.cjc_components.specs.Class.{fields_in, fields_of}
use Rattle.cjc_components.specs.Package.{Package, pool, world}
use Rattle.cjc_components.specs.Types.{all_descs, desc_of_field, desc_of_key, descs_of_class}
use Rattle.cjc_shape_proof.proofs.WrittenLaws.FittingLaws.Meant.{added_method}
use Rattle.cjc_shape_proof.proofs.WrittenLaws.FittingLaws.Order.{has_cons, has_none, order_filed}
use Rattle.cjc_shape_proof.specs.Written.LaidOut.{IsLaidOut}
use Rattle.cjc_shape_proof.specs.LowerJudge.declared.judged.Judged.{Judged}
use Rattle.cjc_token_proof.specs.List.Listed.{ListTree}
use Rattle.cjc_shape_proof.proofs.FindsLaws.Descs.{member_desc}
use Rattle.cjc_narrow_proof.proofs.LawsLaws.Own.{class_by_name}
use Rattle.cjc_ncode.specs.declared.narrow.PoolKey.{PoolKey}
use Rattle.cjc_token_proof.specs.Script.Sorts.{signature_of}
use Rattle.cjc_vtable.proofs.Filed.{Has, at_front, behind, get-has, has-get, has-either}
use Rattle.cjc_world.specs.Added.{added, without_initialiser}
use Rattle.cjc_world.specs.Classes.{Class, Member, class_named, declared, method_of_class}
use Rattle.cjc_world.specs.Order.{class_order}
use Rattle.cjc_world.specs.Rules.{is_desc_missing}
use Rattle.cjc_shape_proof.specs.Written.Checked.{IsOfFiles}
use Rattle.cjc_shape_proof.proofs.WrittenLaws.Checked.{field_descs, own_names, read_files}
use Rattle.cjc_theorem.proofs.AlikeLaws.MetLaws.Clean.{HasKnownTypes, own_types_known}
use Rattle.cjc_theorem.proofs.AlikeLaws.MetLaws.Descs.{desc_known}
use Rattle.cjc_theorem.proofs.AlikeLaws.MetLaws.Own.{Names_field, declared_by}
use Rattle.cjc_theorem.proofs.AlikeLaws.MetLaws.PoolKeys.{flat_has}

-- the methods without an initialiser are methods
without_has : (ms : List Member) (m : Member) → Has m (without_initialiser ms) → Has m ms
without_has [] m h = h
without_has (x ∷ ms) m h = by (bytes_eq x.name (bytes_of "<clinit>")) h (without_has ms m)
  where
    by : (b : Bool) → Has m (if b then without_initialiser ms else x ∷ without_initialiser ms)
        → (Has m (without_initialiser ms) → Has m ms) → Has m (x ∷ ms)
    by true h rest = behind (rest h)
    by false h rest = ⊎_elim (λ same. subst (λ (y : Member). Has m (y ∷ ms)) same at_front) (λ more. behind (rest more))
        (has_cons m x (without_initialiser ms) h)

-- the descriptor of a field
of_field : (f : FieldTree) (desc : List ℕ) → Has desc (desc_of_field f) → desc ≡ f.desc
of_field f desc h = by _ h
  where
    by : (b : Bool) → Has desc (if b then f.desc ∷ [] else []) → desc ≡ f.desc
    by true h = ⊎_elim (λ same. same) (λ none. has_none desc none) (has_cons desc f.desc [] h)
    by false h = has_none desc h

module _ (list : ListTree) (codes : List MethodCode) (p : Package) (is : IsOfFiles list codes p) where
  abbrev w : List Class
  w = world p

  -- its types name classes that some file has
  abbrev pub IsKnownDesc : List ℕ → Type 0
  IsKnownDesc desc = types_known (is_known w) desc (signature_of desc) ≡ true

  -- a class of the package
  module _ (n : ℕ) (t : ClassTree) (e : (let v = p.files in slice_get v.classes n ≡ Some t)) where
    kept : HasKnownTypes w n t
    kept = let u = own_names list codes p is.checked in own_types_known list.name p.files u.listed u.world n t e
        (slice_get_within (let v = p.files in v.classes) n t e)

    named : class_named w t.name ≡ Some (declared n t)
    named = let u = own_names list codes p is.checked in class_by_name p.files list.name u.listed u.world n t e

    pub field_known : (k : ℕ) (f : FieldTree) → slice_get t.fields k ≡ Some f → IsKnownDesc f.desc
    field_known k f g = let d = field_descs list codes p is.checked n k t f e g
        in desc_known w f.desc d.short (kept.fields k f g)

    method_known : (m : Member) → Has m (let c = declared n t in c.methods) → IsKnownDesc m.desc
    method_known m h =
        let at = has-get m (let c = declared n t in c.methods) h in
        let r = mapped_at method_of_class t.methods at.0 m at.1 in
        let short = (member_desc p.files (read_files list codes p is.checked) (declared n t) named at.0 m at.1).1 in
        desc_known w m.desc short (subst (λ (x : Member). is_desc_missing w x.desc ≡ false) r.2 (kept.methods at.0 r.0
        r.1))

  -- the descriptor of a field of the package that code names
  pub field_desc : (id : MemberId) (static : Bool) (n : Names_field list codes p is id static)
      → (let d = n.owner in d.is_imported) ≡ false → IsKnownDesc id.desc
  field_desc id static n own =
      let d = n.owner in
      let at = n.at in
      let t = declared_by list codes p is d n.named own at.place at.member at.is_member in
      subst IsKnownDesc (sym (ap (λ (q : Member). q.desc) t.same) ∙ at.has_desc) (field_known d.number t.file t.is_file
      at.place t.tree t.in_file)

  -- ---- the methods that abstract classes got, in a package that is laid out

  module _ (files : List (List ℕ)) (judged : Judged) (laid : IsLaidOut list files judged p) where
    module _ (n : ℕ) (t : ClassTree) (e : (let v = p.files in slice_get v.classes n ≡ Some t)) where
      got_known : (m : Member) → Has m (added w (declared n t)) → IsKnownDesc m.desc
      got_known m h =
          let at = has-get m (added w (declared n t)) h in
          let read = (added_method list files judged p laid t.name (declared n t) (named n t e) at.0 m at.1).0 in
          let short = read.desc in
          desc_known w m.desc (omega (arith, short)) ((kept n t e).got m h)

      class_known : (desc : List ℕ) → Has desc (descs_of_class p (declared n t)) → IsKnownDesc desc
      class_known desc h =
          let c = declared n t in
          let fields = flat_map desc_of_field (fields_of p.files c) in
          let methods = map (λ (m : Member). m.desc) (without_initialiser c.methods) in
          let got = map (λ (m : Member). m.desc) (added w c) in
          ⊎_elim
          (λ of_fields.
          let f = flat_has desc_of_field (fields_of p.files c) desc of_fields in
          let there = has-get f.0 (fields_of p.files c) f.1 in
          subst IsKnownDesc (sym (of_field f.0 desc f.2)) (field_known n t e there.0 f.0
          (sym (ap (λ o. slice_get (fields_in o) there.0) e) ∙ there.1)))
          (λ rest. ⊎_elim
          (λ of_methods. let m = has-mapped (λ (x : Member). x.desc) desc (without_initialiser c.methods) of_methods
          in subst IsKnownDesc m.2 (method_known n t e m.0 (without_has c.methods m.0 m.1)))
          (λ of_got. let m = has-mapped (λ (x : Member). x.desc) desc (added w c) of_got
          in subst IsKnownDesc m.2 (got_known m.0 m.1))
          (has-either desc methods got rest))
          (has-either desc fields (methods ++ got) h)

    order_known : (c : Class) → Has c (class_order w) → (desc : List ℕ) → Has desc (descs_of_class p c)
        → IsKnownDesc desc
    order_known c there desc h =
        let t = order_filed p.files c there in
        class_known c.number t.0 t.1 desc (subst (λ (d : Class). Has desc (descs_of_class p d)) t.2 h)

    -- all of them, where those of the pool do
    pub all_known : ((k : ℕ) (key : PoolKey) → slice_get (pool p) k ≡ Some key → (desc : List ℕ)
        → Has desc (desc_of_key key) → IsKnownDesc desc) → (k : ℕ) (desc : List ℕ) → slice_get (all_descs p) k
        ≡ Some desc → IsKnownDesc desc
    all_known of_keys k desc e =
        ⊎_elim
        (λ of_pool. let r = flat_has desc_of_key (pool p) desc of_pool in let at = has-get r.0 (pool p) r.1
        in of_keys at.0 r.0 at.1 desc r.2)
        (λ of_classes. let r = flat_has (descs_of_class p) (class_order w) desc of_classes
        in order_known r.0 r.1 desc r.2)
        (has-either desc (flat_map desc_of_key (pool p)) (flat_map (descs_of_class p) (class_order w))
        (get-has desc (all_descs p) k e))
