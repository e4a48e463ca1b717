-- Each key of a package's pool names a class that some file has, has a descriptor whose types are there, and
-- names what is there.
use Rattle.std.proofs.Common.{◌≡◌, ⊎_elim, ℕ, ◌<◌, ◌^◌, refl, sym, ap, subst, ◌∙◌, Bool, true, false, List, [], ◌∷◌}
use Rattle.std.proofs.Common.{length}
use Rattle.std.specs.Prelude.{◌||◌, is_some, option_and_then, if◌then◌else◌, Some}
use Rattle.cjc_bytes.specs.AccessFlags.{is_interface, is_private, is_static}
use Rattle.cjc_bytes.specs.declared.fault.MemberId.{MemberId}
use Rattle.cjc_bytes.proofs.Bools.{or_right, clash}
use Rattle.cjc_jvm_semantics.specs.OnePackage.{ResolvedMember, is_constructor, method_hit, of_class}
use Rattle.cjc_token_proof.specs.ByToken.Cells.{HasCells}
use Rattle.cjc_narrow_proof.proofs.LawsLaws.Instructions.{op_there}
use Rattle.cjc_shape_proof.specs.LowerCheckProof.Classes.Premises.{names_known}
use Rattle.cjc_world.specs.ClassFile.declared.tree.ClassTree.{ClassTree}
use Rattle.cjc_components.specs.Bytecode.declared.insn.JOp.TheVariants as jop
use Rattle.cjc_components.specs.Bytecode.declared.method_code.MethodCode.{MethodCode}
use Rattle.cjc_shape_proof.specs.LowerCheckProof.Code.Members as members
use Rattle.cjc_shape_proof.specs.LowerCheckProof.Code.Members.{CellsFit}
use Rattle.cjc_components.specs.Package.{Package, world}
use Rattle.cjc_components.specs.Types.{desc_of_key}
use Rattle.cjc_world.specs.ExportFile.Members.{is_unbound}
use Rattle.cjc_shape_proof.proofs.WrittenLaws.FittingLaws.Order.{has_cons, has_none}
use Rattle.cjc_shape_proof.specs.LowerJudge.Rules.{settings_of}
use Rattle.cjc_token_proof.specs.List.Listed.{ListTree}
use Rattle.cjc_theorem.proofs.AlikeLaws.NamedLaws.Members.{field_named, static_named, static_own}
use Rattle.cjc_theorem.proofs.AlikeLaws.NamedLaws.Names.{called, fixed_in_class, private_own}
use Rattle.cjc_shape_proof.proofs.FindsLaws.Descs.{member_desc}
use Rattle.cjc_narrow_proof.specs.Laws.Unbroken.{IsInsnOf}
use Rattle.cjc_token_proof.specs.Subset.Names.{is_name_missing, names_missing}
use Rattle.cjc_token_proof.specs.Narrow.Rows.Resolved.{method_found, resolved_method, special_by, virtual_by}
use Rattle.cjc_ncode.specs.ByLabel.{OnObject, OnSuper}
use Rattle.cjc_ncode.specs.declared.narrow.PoolKey.{PoolKey}
use Rattle.cjc_ncode.specs.declared.narrow.PoolKey.TheVariants as keys
use Rattle.cjc_token_proof.specs.Tables.Known.{order_of, statics_of}
use Rattle.cjc_shape_proof.specs.LowerCheckProof.Keys.{IsThere, called as called_object, called_above, member}
use Rattle.cjc_vtable.proofs.Filed.{Has}
use Rattle.cjc_world.specs.Classes.{Class, class_named}
use Rattle.cjc_world.specs.Rules.{is_desc_missing}
use Rattle.cjc_token_proof.specs.WrittenCalls.Calls.{IsNamed}
use Rattle.cjc_shape_proof.specs.Written.Checked.{IsOfFiles}
use Rattle.cjc_shape_proof.proofs.WrittenLaws.Checked.{own_names, read_files}
use Rattle.cjc_shape_proof.proofs.WrittenLaws.Checked.{own_solid}
use Rattle.cjc_theorem.proofs.AlikeLaws.MetLaws.Abroad.{abroad_named}
use Rattle.cjc_theorem.proofs.AlikeLaws.MetLaws.Descs.{desc_known}
use Rattle.cjc_theorem.proofs.AlikeLaws.MetLaws.KeySources as sources
use Rattle.cjc_theorem.proofs.AlikeLaws.MetLaws.KeySources.{IsMet}
use Rattle.cjc_theorem.proofs.AlikeLaws.MetLaws.Own.{Names_method, field_own, own_cell_named, own_field_named}
use Rattle.cjc_theorem.proofs.AlikeLaws.MetLaws.Own.{own_method_named}
use Rattle.cjc_theorem.proofs.AlikeLaws.MetLaws.Types.{IsKnownDesc, field_desc}

module _ (list : ListTree) (codes : List MethodCode) (p : Package) (is : IsOfFiles list codes p) where
  abbrev w : List Class
  w = world p

  -- what an invokevirtual names, by the class that declares it or the class of the package that is named
  pub virtual_key : (P : MemberId → Type 0) (class : ClassTree) (id : MemberId) (n : Names_method list codes p is
      class 0xB6 id) → P (of_class (let d = n.owner in d.name) id) → ((let c = n.named_class in c.is_imported) ≡ false
      → P id) → P (virtual_by w id (class_named w id.class))
  virtual_key P class id n by_owner by_name = subst (λ o. P (virtual_by w id o)) (sym n.names_class)
      (by (let c = n.named_class in c.is_imported) refl)
    where
      by : (b : Bool) → (let c = n.named_class in c.is_imported) ≡ b → P (if b then resolved_method w id else id)
      by true e = subst P (sym n.resolved) by_owner
      by false e = by_name e

  -- what an invokespecial names: a constructor or a private method by the class that declares it, another by the class
  -- of the code
  pub special_key : (P : PoolKey → Type 0) (holder : List ℕ) (class : ClassTree) (id : MemberId) (n : Names_method list codes p is class 0xB7 id)
      → (is_constructor id.name ≡ true → P (keys.StaticMethod (of_class (let d = n.owner in d.name) id)))
      → (is_private (let a = n.at in let m = a.member in m.flags) ≡ true
      → P (keys.StaticMethod (of_class (let d = n.owner in d.name) id)))
      → (is_constructor id.name ≡ false → is_private (let a = n.at in let m = a.member in m.flags) ≡ false
      → P (keys.Super (of_class holder id)))
      → P (special_by holder id (method_found w id))
  special_key P holder class id n constructor private above = by (is_constructor id.name) (is_private flags) refl refl
    where
      flags : ℕ
      flags = let a = n.at in let m = a.member in m.flags

      told : special_by holder id (method_found w id) ≡ (if is_constructor id.name || is_private flags
          then keys.StaticMethod (of_class (let d = n.owner in d.name) id) else keys.Super (of_class holder id))
      told = ap (special_by holder id) (ap (option_and_then (method_hit w)) n.found ∙ n.hit)

      by : (a b : Bool) → is_constructor id.name ≡ a → is_private flags ≡ b
          → P (special_by holder id (method_found w id))
      by true b e f =
          subst P (sym (told ∙ ap (λ a. if a || is_private flags then keys.StaticMethod (of_class (let d = n.owner
          in d.name) id) else keys.Super (of_class holder id)) e)) (constructor e)
      by false true e f =
          subst P (sym (told ∙ ap (λ a. if a || is_private flags then keys.StaticMethod (of_class (let d = n.owner
          in d.name) id) else keys.Super (of_class holder id)) e
          ∙ ap (λ b. if b then keys.StaticMethod (of_class (let d = n.owner in d.name) id)
          else keys.Super (of_class holder id)) f)) (private f)
      by false false e f =
          subst P (sym (told ∙ ap (λ a. if a || is_private flags then keys.StaticMethod (of_class (let d = n.owner
          in d.name) id) else keys.Super (of_class holder id)) e
          ∙ ap (λ b. if b then keys.StaticMethod (of_class (let d = n.owner in d.name) id)
          else keys.Super (of_class holder id)) f)) (above e f)

  -- ---- classes

  pub key_known : (key : PoolKey) → IsMet p.files codes key → names_known w key ≡ true
  key_known _ (sources.of_class c e) = ap is_some e
  key_known _ (sources.of_field class put id of) =
      let n = field_named list.name p.files codes (settings_of list) (own_names list codes p is.checked)
      (own_solid list codes p is.checked) class put id of in
      ap (λ (q : MemberId). is_some (class_named w q.class)) n.resolved ∙ ap is_some n.named
  key_known _ (sources.of_static class put id of none) = refl
  key_known _ (sources.of_virtual class id of) =
      let n = called list codes p is class 0xB6 id of in
      virtual_key (λ m. names_known w (keys.Virtual m) ≡ true) class id n (ap is_some n.named)
      (λ own. ap is_some n.names_class)
  key_known _ (sources.of_special k class id named plain of) =
      special_key (λ key. names_known w key ≡ true) class.name class id (called list codes p is class 0xB7 id of)
      (λ e. refl) (λ e. refl) (λ e f. ap is_some named)
  key_known _ (sources.of_call class id of) = refl

  -- ---- descriptors

  call_desc : (class : ClassTree) (op : ℕ) (id : MemberId) → IsInsnOf p.files codes class (jop.Call op id)
      → IsKnownDesc list codes p is id.desc
  unfolding names_missing
  call_desc class op id of =
      let n = called list codes p is class op id of in
      let at = n.at in
      let ok = op_there list.name p.files codes (settings_of list) (own_names list codes p is.checked) class
      (jop.Call op id) of in
      let short = (member_desc p.files (read_files list codes p is.checked) n.owner n.named at.place at.member
      at.is_member).1 in
      desc_known w id.desc (subst (λ v. length v < 2 ^ 32) at.has_desc short) (or_right (is_name_missing w id.class)
      (is_desc_missing w id.desc) ok.0)

  only_desc : (desc known : List ℕ) → IsKnownDesc list codes p is known → Has desc (known ∷ [])
      → IsKnownDesc list codes p is desc
  only_desc desc known is_known h = ⊎_elim (λ same. subst (IsKnownDesc list codes p is) (sym same) is_known)
      (λ none. has_none desc none) (has_cons desc known [] h)

  pub key_desc : (key : PoolKey) → IsMet p.files codes key → (desc : List ℕ) → Has desc (desc_of_key key)
      → IsKnownDesc list codes p is desc
  key_desc _ (sources.of_class c e) desc h = has_none desc h
  key_desc _ (sources.of_field class put id of) desc h =
      let n = field_named list.name p.files codes (settings_of list) (own_names list codes p is.checked)
      (own_solid list codes p is.checked) class put id of in
      only_desc desc id.desc (field_desc list codes p is id false n (field_own list codes p is id n))
      (subst (λ (q : MemberId). Has desc (q.desc ∷ [])) n.resolved h)
  key_desc _ (sources.of_static class put id of none) desc h =
      let n = static_named list.name p.files codes (settings_of list) (own_names list codes p is.checked)
      (own_solid list codes p is.checked) class put id of in
      let own = static_own list.name p.files codes (settings_of list) (own_names list codes p is.checked)
      (own_solid list codes p is.checked) id n none in
      only_desc desc id.desc (field_desc list codes p is id true n own)
      (subst (λ (q : MemberId). Has desc (q.desc ∷ [])) n.resolved h)
  key_desc _ (sources.of_virtual class id of) desc h =
      virtual_key (λ m. Has desc (m.desc ∷ []) → IsKnownDesc list codes p is desc) class id
      (called list codes p is class 0xB6 id of)
      (only_desc desc id.desc (call_desc class 0xB6 id of)) (λ own. only_desc desc id.desc (call_desc class 0xB6 id of))
      h
  key_desc _ (sources.of_special k class id named plain of) desc h =
      special_key (λ key. Has desc (desc_of_key key) → IsKnownDesc list codes p is desc) class.name class id
      (called list codes p is class 0xB7 id of)
      (λ e. only_desc desc id.desc (call_desc class 0xB7 id of)) (λ e. only_desc desc id.desc (call_desc class 0xB7 id
      of)) (λ e f. only_desc desc id.desc (call_desc class 0xB7 id of)) h
  key_desc _ (sources.of_call class id of) desc h =
      let n = called list codes p is class 0xB8 id of in
      only_desc desc id.desc (call_desc class 0xB8 id of) (subst (λ (q : MemberId). Has desc (q.desc ∷ [])) n.resolved
      h)

  -- ---- members

  -- a static method, a constructor or a private method by the class that declares it
  fixed_there : (class : ClassTree) (op : ℕ) (id : MemberId) (n : Names_method list codes p is class op id)
      → (let d = n.owner in is_interface d.flags) ≡ false
      → ((let d = n.owner in d.is_imported) ≡ true → is_unbound (let a = n.at in let m = a.member
      in m.flags) (let a = n.at in let m = a.member in m.name) ≡ true)
      → IsThere p (keys.StaticMethod (of_class (let d = n.owner in d.name) id))
  fixed_there class op id n plain bound = by (let d = n.owner in d.is_imported) refl
    where
      by : (b : Bool) → (let d = n.owner in d.is_imported) ≡ b
          → IsThere p (keys.StaticMethod (of_class (let d = n.owner in d.name) id))
      by false e = member (members.of_method (own_method_named list codes p is class op id n e plain))
      by true e = member (members.imported_method (abroad_named list codes p is class op id n e (bound e)))

  module _ (told : HasCells (order_of p.image) (statics_of (let v = p.files in v.classes))) (fit : CellsFit p.image)
      (virtuals : (class : ClassTree) (id : MemberId) → IsInsnOf p.files codes class (jop.Call 0xB6 id)
      → IsNamed w (OnObject (virtual_by w id (class_named w id.class))))
      (supers : (class : ClassTree) (id : MemberId) → IsInsnOf p.files codes class (jop.Call 0xB7 id)
      → is_interface class.flags ≡ false → is_constructor id.name ≡ false
      → (hit : ResolvedMember) → method_found w id ≡ Some hit → is_private hit.flags ≡ false
      → IsNamed w (OnSuper (of_class class.name id))) where
    pub key_there : (key : PoolKey) → IsMet p.files codes key → IsThere p key
    key_there _ (sources.of_class c e) = member members.of_class
    key_there _ (sources.of_field class put id of) =
        let n = field_named list.name p.files codes (settings_of list) (own_names list codes p is.checked)
        (own_solid list codes p is.checked) class put id of in
        subst (λ q. IsThere p (keys.Field q)) (sym n.resolved)
        (member (members.of_field (own_field_named list codes p is id n)))
    key_there _ (sources.of_static class put id of none) =
        let n = static_named list.name p.files codes (settings_of list) (own_names list codes p is.checked)
        (own_solid list codes p is.checked) class put id of in
        subst (λ q. IsThere p (keys.StaticField q)) (sym n.resolved)
        (member (members.of_cell (own_cell_named list codes p is told fit id n none)))
    key_there _ (sources.of_virtual class id of) = called_object (virtuals class id of)
    key_there _ (sources.of_special k class id named plain of) = special_key (IsThere p) class.name class id n
        (λ e. fixed_there class 0xB7 id n (fixed_in_class list codes p is
        class 0xB7 id n
        (third (is_static flags) (is_private flags) (is_constructor id.name) e)) (λ import. bound e))
        (λ e. fixed_there class 0xB7 id n (fixed_in_class list codes p is
        class 0xB7 id n
        (second (is_static flags) (is_private flags) (is_constructor id.name) e)) (λ import. not_abroad import e))
        (λ e f. called_above (supers class id of plain e (record { owner = n.owner; flags = flags })
        (ap (option_and_then (method_hit w)) n.found ∙ n.hit) f))
      where
        n : Names_method list codes p is class 0xB7 id
        n = called list codes p is class 0xB7 id of

        flags : ℕ
        flags = let a = n.at in let m = a.member in m.flags

        third : (a b c : Bool) → c ≡ true → (a || b || c) ≡ true
        third true b c e = refl
        third false true c e = refl
        third false false c e = e

        second : (a b c : Bool) → b ≡ true → (a || b || c) ≡ true
        second true b c e = refl
        second false true c e = refl
        second false false c e = cc

        bound : is_constructor id.name ≡ true → is_unbound flags (let a = n.at in let m = a.member in m.name) ≡ true
        bound e = last (is_static flags) (is_constructor (let a = n.at in let m = a.member in m.name))
            (ap is_constructor (let a = n.at in a.has_name) ∙ e)
          where
            last : (a b : Bool) → b ≡ true → (a || b) ≡ true
            last true b e = refl
            last false b e = e

        not_abroad : {A : Type 0} → (let d = n.owner in d.is_imported) ≡ true → is_private flags ≡ true → A
        not_abroad import e = clash (let d = n.owner in d.is_imported) import (private_own list codes p is class 0xB7 id n e)
    key_there _ (sources.of_call class id of) =
        let n = called list codes p is class 0xB8 id of in
        let flags = (let a = n.at in let m = a.member in m.flags) in
        let static : is_static flags ≡ true = (let g = n.fits in g.of_class) refl in
        subst (λ q. IsThere p (keys.StaticMethod q)) (sym n.resolved)
        (fixed_there class 0xB8 id n (fixed_in_class list codes p is class
        0xB8 id n (ap (λ a. a
        || is_private flags || is_constructor id.name) static))
        (λ import. ap (λ a. a || is_constructor (let a = n.at in let m = a.member in m.name)) static))
