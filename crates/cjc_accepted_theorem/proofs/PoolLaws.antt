-- All entries of a converted package's pool name members of their keys' descriptors.
use Rattle.cjc_verified_proof.specs.Bytecode.declared.method_code.MethodCode.{MethodCode}
use Rattle.cjc_narrow_proof.specs.Laws.Unbroken.{KeepsNames}
use Rattle.std.proofs.Common.{◌≡◌, ℕ, refl, sym, ap, subst, ◌∙◌, Bool, true, false, not, List}
use Rattle.std.specs.Prelude.{◌||◌, Some, option_and_then}
use Rattle.cjc_verified_proof.specs.Bytes.AccessFlags.{is_interface, is_private, is_static}
use Rattle.cjc_verified_proof.specs.Bytes.declared.fault.MemberId.{MemberId}
use Rattle.cjc_verified_proof.proofs.BytesBools.{clash}
use Rattle.cjc_theorem.specs.CheckProof.Code.Members.{CellsFit}
use Rattle.cjc_verified_proof.specs.Bytecode.declared.insn.JOp.TheVariants as jop
use Rattle.cjc_verified_proof.specs.ClassFile.declared.tree.ClassTree.{ClassTree}
use Rattle.cjc_verified_proof.specs.Clinit.Image.{field_id}
use Rattle.cjc_verified_proof.specs.Components.Names.{names}
use Rattle.cjc_verified_proof.specs.Components.Package.{Package, world}
use Rattle.cjc_verified_proof.specs.ExportFile.Members.{is_unbound}
use Rattle.cjc_verified_proof.specs.JvmSemantics.OnePackage.{ResolvedMember, is_constructor, method_hit, of_class}
use Rattle.cjc_accepted_proof.specs.NarrowProof.Laws.Unbroken.{IsInsnOf}
use Rattle.cjc_verified_proof.specs.NCode.Lowering.Naming.{entry_of}
use Rattle.cjc_verified_proof.specs.NCode.declared.narrow.PoolKey.{PoolKey}
use Rattle.cjc_verified_proof.specs.NCode.declared.narrow.PoolKey.TheVariants as keys
use Rattle.cjc_verified_proof.specs.Narrow.Rows.Resolved.{method_found, resolved_field, special_by, virtual_by}
use Rattle.cjc_verified_proof.specs.Verify.Named.{named_desc}
use Rattle.cjc_verified_proof.specs.World.Classes.{Class, Member, class_named}
use Rattle.cjc_verified_proof.specs.NCode.ByLabel.{OnObject, OnSuper}
use Rattle.cjc_theorem.specs.LowerJudge.Rules.{settings_of}
use Rattle.cjc_shape_proof.proofs.WrittenLaws.Checked.{files_sound, own_names as kept_names, own_solid}
use Rattle.cjc_theorem.specs.ShapeProof.Written.Checked.{IsOfFiles}
use Rattle.cjc_theorem.proofs.AlikeLaws.MetLaws.KeySources as sources
use Rattle.cjc_theorem.proofs.AlikeLaws.MetLaws.KeySources.{IsMet, called, key_met}
use Rattle.cjc_theorem.proofs.AlikeLaws.MetLaws.Own.{Names_method, declared_by, field_own, own_cell_named}
use Rattle.cjc_theorem.proofs.AlikeLaws.MetLaws.There.{special_key}
use Rattle.cjc_theorem.proofs.AlikeLaws.NamedLaws.Members.{field_named, static_named}
use Rattle.cjc_theorem.proofs.AlikeLaws.NamedLaws.Names.{fixed_in_class, private_own}
use Rattle.cjc_theorem.specs.Alike.Opcodes.{CallsHaveOpcodes}
use Rattle.cjc_theorem.specs.VTable.Meant.{PackageTokensMean, TokensMean}
use Rattle.cjc_verified_proof.proofs.TokenProofOrder.{own_names}
use Rattle.cjc_verified_proof.specs.TokenProof.ByToken.Cells.{HasCells}
use Rattle.cjc_verified_proof.specs.TokenProof.Components.Methods.{HasMethods}
use Rattle.cjc_verified_proof.specs.List.Listed.{ListTree}
use Rattle.cjc_verified_proof.specs.TokenProof.Tables.Known.{order_of, statics_of}
use Rattle.cjc_verified_proof.specs.TokenProof.Tables.Sound.{IsSound}
use Rattle.cjc_verified_proof.specs.TokenProof.WrittenCalls.Calls.{IsNamed, KeepsTokens}
use Rattle.cjc_verified_proof.proofs.TokenProofWrittenCallsFacts.{Facts}
use Rattle.cjc_accepted_proof.specs.Carded.{EntriesAreNamed}
use Rattle.cjc_accepted_proof.specs.Written.{written_pair}
use Rattle.cjc_accepted_theorem.specs.NamesDesc.{NamesItsDesc}
use Rattle.cjc_accepted_theorem.proofs.EntriesLaws.{cell_named}
use Rattle.cjc_accepted_theorem.proofs.FieldsLaws.{instance_named as named_instance}
use Rattle.cjc_accepted_theorem.proofs.NamedLaws.{abroad_named, super_named, virtual_named}
use Rattle.cjc_accepted_theorem.proofs.OwnMethodsLaws.{method_entry}

module _ (list : ListTree) (codes : List MethodCode) (p : Package) (is : IsOfFiles list codes p) (has : HasMethods p)
    (told : HasCells (order_of p.image) (statics_of (let v = p.files in v.classes)))
    (fit : CellsFit p.image) (facts : Facts p) (tokens : KeepsTokens (world p)) (mean : TokensMean (world p))
    (mean_here : PackageTokensMean (world p)) (virtuals : (class : ClassTree) (id : MemberId)
    → IsInsnOf p.files codes class (jop.Call 0xB6 id) → IsNamed (world p) (OnObject (virtual_by (world p) id
    (class_named (world p) id.class)))) (supers : (class : ClassTree) (id : MemberId)
    → IsInsnOf p.files codes class (jop.Call 0xB7 id) → is_interface class.flags ≡ false
    → is_constructor id.name ≡ false → (hit : ResolvedMember) → method_found (world p) id ≡ Some hit
    → is_private hit.flags ≡ false → IsNamed (world p) (OnSuper (of_class class.name id))) where
  abbrev w : List Class
  w = world p

  abbrev u : KeepsNames list.name p.files codes (settings_of list)
  u = kept_names list codes p is.checked

  abbrev sound : IsSound list.name p.files
  sound = files_sound list codes p is.checked

  -- an instance field by the class that declares it
  instance_named : (class : ClassTree) (put : Bool) (id : MemberId)
      → IsInsnOf p.files codes class (jop.Field put id) → NamesItsDesc p (keys.Field (resolved_field w id))
  instance_named class put id of =
      let n = field_named list.name p.files codes (settings_of list) u (own_solid list codes p is.checked) class
      put id of in
      let d = n.owner in
      let at = n.at in
      let own = field_own list codes p is id n in
      let t = declared_by list codes p is d n.named own at.place at.member at.is_member in
      let f = t.tree in
      let name : f.name ≡ id.name = sym (ap (λ (v : Member). v.name) t.same) ∙ at.has_name in
      let desc : f.desc ≡ id.desc = sym (ap (λ (v : Member). v.desc) t.same) ∙ at.has_desc in
      let flat : is_static f.flags ≡ false = sym (ap (λ (v : Member). is_static v.flags) t.same) ∙ n.is_static in
      let same : field_id d.name f ≡ of_class d.name id =
      ap (λ v. record { class = d.name; name = v; desc = f.desc }) name
      ∙ ap (λ v. record { class = d.name; name = id.name; desc = v }) desc in
      subst (λ (m : MemberId). NamesItsDesc p (keys.Field m)) (sym n.resolved) (
        ap (λ (m : MemberId). named_desc (written_pair p) (entry_of (names p) (keys.Field m))) (sym same)
            ∙ named_instance list.name p sound d n.named own t.file t.is_file t.is_class at.place f t.in_file
            (ap not flat) ∙ ap (λ v. Some v) desc,
        tt,
      )

  -- a static method, a constructor or a private method by the class that declares it
  fixed_named : (class : ClassTree) (op : ℕ) (id : MemberId) (n : Names_method list codes p is class op id)
      → (let d = n.owner in is_interface d.flags) ≡ false
      → ((let d = n.owner in d.is_imported) ≡ true → is_unbound (let a = n.at in let m = a.member
      in m.flags) (let a = n.at in let m = a.member in m.name) ≡ true)
      → NamesItsDesc p (keys.StaticMethod (of_class (let d = n.owner in d.name) id))
  fixed_named class op id n plain bound = by (let d = n.owner in d.is_imported) refl
    where
      by : (b : Bool) → (let d = n.owner in d.is_imported) ≡ b
          → NamesItsDesc p (keys.StaticMethod (of_class (let d = n.owner in d.name) id))
      by false own = (method_entry list codes p is has class op id n own plain, tt)
      by true import = (abroad_named list codes p is facts class op id n import plain (bound import), tt)

  third : (a b c : Bool) → c ≡ true → (a || b || c) ≡ true
  third true b c e = refl
  third false true c e = refl
  third false false c e = e

  second : (a b c : Bool) → b ≡ true → (a || b || c) ≡ true
  second true b c e = refl
  second false true c e = refl
  second false false c e = cc

  last : (a b : Bool) → b ≡ true → (a || b) ≡ true
  last true b e = refl
  last false b e = e

  -- what an invokespecial names
  special_named : (class : ClassTree) (id : MemberId) → is_interface class.flags ≡ false
      → IsInsnOf p.files codes class (jop.Call 0xB7 id)
      → NamesItsDesc p (special_by class.name id (method_found w id))
  special_named class id plain of = special_key list codes p is (NamesItsDesc p) class.name class id n
      (λ e. fixed_named class 0xB7 id n (fixed_in_class list codes p is class
      0xB7 id n
      (third (is_static flags) (is_private flags) (is_constructor id.name) e)) (λ import. bound e))
      (λ e. fixed_named class 0xB7 id n (fixed_in_class list codes p is class
      0xB7 id n
      (second (is_static flags) (is_private flags) (is_constructor id.name) e)) (λ import. not_abroad import e))
      (λ e f. (
        super_named list.name p sound facts tokens mean mean_here (of_class class.name id) (supers class id of plain e
            (record { owner = n.owner; flags = flags }) (ap (option_and_then (method_hit w)) n.found ∙ n.hit) f),
        tt,
      ))
    where
      n : Names_method list codes p is class 0xB7 id
      n = called list codes p is class 0xB7 id of

      flags : ℕ
      flags = let a = n.at in let m = a.member in m.flags

      bound : is_constructor id.name ≡ true → is_unbound flags (let a = n.at in let m = a.member in m.name) ≡ true
      bound e = last (is_static flags) (is_constructor (let a = n.at in let m = a.member in m.name))
          (ap is_constructor (let a = n.at in a.has_name) ∙ e)

      not_abroad : {A : Type 0} → (let d = n.owner in d.is_imported) ≡ true → is_private flags ≡ true → A
      not_abroad import e = clash (let d = n.owner in d.is_imported) import (private_own list codes p
          is class 0xB7 id n e)

  pub one_named : (key : PoolKey) → IsMet p.files codes key → NamesItsDesc p key
  one_named _ (sources.of_class c e) = tt
  one_named _ (sources.of_field class put id of) = instance_named class put id of
  one_named _ (sources.of_static class put id of none) =
      let n = static_named list.name p.files codes (settings_of list) u (own_solid list codes p is.checked) class
      put id of in
      let cell = own_cell_named list codes p is told fit id n none in
      let apart = own_names list.name p.files sound in
      subst (λ (f : MemberId). NamesItsDesc p (keys.StaticField f)) (sym n.resolved) (
        cell_named p apart
            (of_class (let d = n.owner in d.name) id) cell,
        tt,
      )
  one_named _ (sources.of_virtual class id of) = (
    virtual_named list.name p sound facts tokens mean mean_here (virtual_by w id (class_named w id.class)) (virtuals
        class id of),
    tt,
  )
  one_named _ (sources.of_special j class id known plain of) = special_named class id plain of
  one_named _ (sources.of_call class id of) =
      let n = called list codes p is class 0xB8 id of in
      let flags = (let a = n.at in let m = a.member in m.flags) in
      let static : is_static flags ≡ true = (let g = n.fits in g.of_class) refl in
      subst (λ (m : MemberId). NamesItsDesc p (keys.StaticMethod m)) (sym n.resolved) (fixed_named class 0xB8 id n
      (fixed_in_class list codes p is class 0xB8 id n (ap (λ a. a ||
      is_private flags || is_constructor id.name)
      static)) (λ import. ap (λ a. a || is_constructor (let a = n.at in let m = a.member in m.name)) static))

  pub all_named : CallsHaveOpcodes codes → EntriesAreNamed p
  all_named opcodes k key e = one_named key (key_met list codes p is opcodes k key e)
