-- What a package's components say of what is its own, by itself and in a group.
use Rattle.std.proofs.Common.{◌≡◌, ℕ, refl, sym, ap, ◌∙◌, Some, None}
use Rattle.std.specs.Prelude.{Option, option_and_then, option_map, slice_get, is_some, if◌then◌else◌}
use Rattle.cjc_card_semantics.specs.Bytes.declared.fault.MemberId.{MemberId}
use Rattle.cjc_card_semantics.specs.CapRead.declared.tree.ClassRef.{ClassRef}
use Rattle.cjc_card_semantics.specs.CapRead.declared.tree.ClassRef.TheVariants.{Inside, Outside}
use Rattle.cjc_card_semantics.specs.CapRead.MethodHeader.{MethodHeader, method_header}
use Rattle.cjc_card_semantics.specs.CapRead.declared.tree.MethodDescriptor.{MethodDescriptor}
use Rattle.cjc_card_semantics.specs.CapRead.declared.tree.ClassDescriptor.{ClassDescriptor}
use Rattle.cjc_card_semantics.specs.Machine.Calls.{class_among, declared, named_among, named_in_part}
use Rattle.cjc_card_semantics.specs.Machine.Classes.{Own, External, Info, IsInterface, IsClass, class_of}
use Rattle.cjc_card_semantics.specs.Machine.Classes.{external, import_of, imported_class, info_at, info_of, names_of}
use Rattle.cjc_card_semantics.specs.Machine.Classes.{number_of, superclass, superclass_by}
use Rattle.cjc_card_semantics.specs.Machine.Loaded.{ClassNames, OfFile, Part, Loaded}
use Rattle.cjc_card_semantics.specs.Machine.Methods.{Code, bytes_from, described, start_at, start_of}
use Rattle.cjc_card_semantics.specs.Machine.Methods as methods
use Rattle.cjc_joint_proof.specs.Parts.{HasNoOther, IsPart, class_in, described_in, start_in}

module _ (alone group : Loaded) (q : ℕ) (h : IsPart alone group q) where
  -- what is asked of the package by its place
  of_part : {A : Type 0} (ask : Part → Option A) → option_and_then ask (slice_get group.parts q)
      ≡ ask (record h.part { imports = h.imports })
  of_part ask = ap (option_and_then ask) h.there

  of_alone : {A : Type 0} (ask : Part → Option A) → option_and_then ask (slice_get alone.parts 0) ≡ ask h.part
  of_alone ask = ap (λ parts. option_and_then ask (slice_get parts 0)) h.by_itself

  -- ---- infos

  pub infos_same : (offset : ℕ) → info_of group q offset ≡ info_of alone 0 offset
  infos_same offset = of_part (λ part. info_at part offset) ∙ sym (of_alone (λ part. info_at part offset))

  pub names_same : (offset : ℕ) → names_of group q offset ≡ names_of alone 0 offset
  names_same offset =
      of_part (λ part. option_and_then (slice_get part.classes) (number_of part offset))
      ∙ sym (of_alone (λ part. option_and_then (slice_get part.classes) (number_of part offset)))

  -- ---- class_refs

  inside : (offset : ℕ) (o p : Option Info) → o ≡ p → (if is_some o then Some (Own q offset) else None)
      ≡ option_and_then (class_in group q) (if is_some p then Some (Own 0 offset) else None)
  inside offset o None e = ap (λ o. if is_some o then Some (Own q offset) else None) e
  inside offset o (Some i) e = ap (λ o. if is_some o then Some (Own q offset) else None) e

  pub refs_agree : HasNoOther alone group q → (r : ClassRef)
      → class_of group q r ≡ option_and_then (class_in group q) (class_of alone 0 r)
  refs_agree none (Inside offset) = inside offset (info_of group q offset) (info_of alone 0 offset)
      (infos_same offset)
  refs_agree none (Outside k token) = by (external alone k token) refl
      ∙ sym (ap (option_and_then (class_in group q)) (h.files k token))
    where
      by : (o : _) → external alone k token ≡ o → option_and_then (imported_class group token) (import_of group q k)
          ≡ option_and_then (class_in group q) (imported_class alone token (OfFile k))
      by None e = none k token e ∙ sym (ap (λ o. option_and_then (class_in group q) (if is_some o
          then Some (External k token) else None)) e)
      by (Some c) e = sym (ap (λ o. option_and_then (class_in group q) (if is_some o
          then Some (External k token) else None)) e)

  pub superclasses_agree : HasNoOther alone group q → (offset : ℕ)
      → superclass group q offset ≡ option_and_then (class_in group q) (superclass alone 0 offset)
  superclasses_agree none offset = ap (superclass_by group q) (infos_same offset) ∙ by (info_of alone 0 offset)
    where
      by : (i : Option Info) → superclass_by group q i ≡ option_and_then (class_in group q) (superclass_by alone 0 i)
      by None = refl
      by (Some (IsInterface i)) = refl
      by (Some (IsClass c)) = refs_agree none c.superclass

  -- ---- methods

  begins : (offset : ℕ) (header : Option MethodHeader) (d : Option MethodDescriptor)
      → option_and_then (λ h. option_map (start_at q offset h) d) header
      ≡ option_map (start_in q) (option_and_then (λ h. option_map (start_at 0 offset h) d) header)
  begins offset None d = refl
  begins offset (Some h) None = refl
  begins offset (Some h) (Some m) = refl

  pub starts_same : (offset : ℕ) → start_of group q offset ≡ option_map (start_in q) (start_of alone 0 offset)
  starts_same offset =
      let p = h.part in
      of_part (methods.start_in q offset)
      ∙ (begins offset (method_header (bytes_from p offset)) (described p p.descriptor offset)
      ∙ sym (ap (option_map (start_in q)) (of_alone (methods.start_in 0 offset))))

  named : (offset : ℕ) (id : MemberId) (o : Option ClassNames) (d : Option ClassDescriptor)
      → option_and_then (λ names. option_and_then (λ c. option_map (λ m. record { part = q; method = m }) (named_among
      names.methods c.methods id)) d) o
      ≡ option_map (described_in q) (option_and_then (λ names. option_and_then (λ c. option_map (λ m. record {
        part = 0;
        method = m;
      }) (named_among names.methods c.methods id)) d) o)
  named offset id None d = refl
  named offset id (Some names) None = refl
  named offset id (Some names) (Some c) = by (named_among names.methods c.methods id)
    where
      by : (m : Option MethodDescriptor) → option_map (λ m. record { part = q; method = m }) m
          ≡ option_map (described_in q) (option_map (λ m. record { part = 0; method = m }) m)
      by None = refl
      by (Some m) = refl

  pub declared_same : (offset : ℕ) (id : MemberId)
      → declared group (Own q offset) id ≡ option_map (described_in q) (declared alone (Own 0 offset) id)
  declared_same offset id =
      let p = h.part in
      ap (option_and_then (λ names. option_and_then (named_in_part q offset id names) (slice_get group.parts q)))
      (names_same offset)
      ∙ (ap (λ part. option_and_then (λ names. option_and_then (named_in_part q offset id names) part) (names_of alone 0
      offset)) h.there
      ∙ (named offset id (names_of alone 0 offset) (class_among p.descriptor offset)
      ∙ sym (ap (λ parts. option_map (described_in q) (option_and_then (λ names. option_and_then (named_in_part 0 offset
      id names) (slice_get parts 0)) (names_of alone 0 offset))) h.by_itself)))
