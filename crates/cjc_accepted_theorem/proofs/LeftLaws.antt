-- All entries of a converted package's pool name members of their keys' descriptors, where those that are left do.
use Rattle.std.proofs.Common.{◌≡◌, ℕ, refl, sym, ap, subst, ◌∙◌, Bool, true, false, List}
use Rattle.std.specs.Prelude.{◌||◌, Some, slice_get}
use Rattle.cjc_verified_proof.specs.Bytes.AccessFlags.{is_interface, is_private, is_static}
use Rattle.cjc_verified_proof.specs.Bytes.declared.fault.MemberId.{MemberId}
use Rattle.cjc_theorem.specs.CheckProof.Code.Members.{CellsFit}
use Rattle.cjc_verified_proof.specs.ClassFile.declared.tree.ClassTree.{ClassTree}
use Rattle.cjc_verified_proof.specs.Components.Package.{Package, pool}
use Rattle.cjc_verified_proof.specs.JvmSemantics.OnePackage.{is_constructor, of_class}
use Rattle.cjc_accepted_proof.specs.NarrowProof.Laws.Unbroken.{IsUnbroken}
use Rattle.cjc_verified_proof.specs.NCode.declared.narrow.PoolKey.{PoolKey}
use Rattle.cjc_verified_proof.specs.NCode.declared.narrow.PoolKey.TheVariants as keys
use Rattle.cjc_theorem.proofs.ShapeProofFiles.{files_sound, own_unbroken}
use Rattle.cjc_theorem.proofs.ShapeProofWorlds.{own_solid}
use Rattle.cjc_theorem.specs.LowerJudge.Rules.{settings_of}
use Rattle.cjc_theorem.specs.LowerJudge.declared.judged.Judged.{Judged}
use Rattle.cjc_theorem.specs.ShapeProof.Written.Converted.{IsConverted}
use Rattle.cjc_theorem.proofs.AlikeLaws.MetLaws.KeySources as sources
use Rattle.cjc_theorem.proofs.AlikeLaws.MetLaws.KeySources.{IsMet, called, key_met}
use Rattle.cjc_theorem.proofs.AlikeLaws.MetLaws.Own.{Names_method, own_cell_named}
use Rattle.cjc_theorem.proofs.AlikeLaws.MetLaws.There.{special_key}
use Rattle.cjc_theorem.proofs.AlikeLaws.NamedLaws.Members.{static_named}
use Rattle.cjc_theorem.proofs.AlikeLaws.NamedLaws.Names.{fixed_in_class}
use Rattle.cjc_theorem.specs.Alike.Opcodes.{CallsHaveOpcodes}
use Rattle.cjc_verified_proof.proofs.TokenProofOrder.{own_names}
use Rattle.cjc_verified_proof.specs.TokenProof.ByToken.Cells.{HasCells}
use Rattle.cjc_verified_proof.specs.TokenProof.Components.Methods.{HasMethods}
use Rattle.cjc_verified_proof.specs.List.Listed.{ListTree}
use Rattle.cjc_verified_proof.specs.TokenProof.Tables.Known.{order_of, statics_of}
use Rattle.cjc_accepted_proof.specs.Carded.{EntriesAreNamed}
use Rattle.cjc_accepted_theorem.specs.Left.{NamesItsDesc, OthersAreNamed}
use Rattle.cjc_accepted_theorem.proofs.EntriesLaws.{cell_named}
use Rattle.cjc_accepted_theorem.proofs.OwnMethodsLaws.{method_entry}

module _ (list : ListTree) (files : List (List ℕ)) (judged : Judged) (p : Package) (is : IsConverted list files judged
    p) (has : HasMethods p) (told : HasCells (order_of p.image) (statics_of (let v = p.files in v.classes)))
    (fit : CellsFit p.image) (others : OthersAreNamed p) where
  abbrev u : IsUnbroken list.name p.files judged.codes (settings_of list)
  u = own_unbroken list files judged p is

  -- at a place of the pool
  abbrev IsNamedAt : ℕ → PoolKey → Type 0
  IsNamedAt k key = slice_get (pool p) k ≡ Some key → NamesItsDesc p key

  -- a static method, a constructor or a private method by the class that declares it
  fixed_named : (k : ℕ) (class : ClassTree) (op : ℕ) (id : MemberId) (n : Names_method list files judged p is class op
      id) → (let d = n.owner in is_interface d.flags) ≡ false
      → IsNamedAt k (keys.StaticMethod (of_class (let d = n.owner in d.name) id))
  fixed_named k class op id n plain e = by (let d = n.owner in d.is_imported) refl
    where
      by : (b : Bool) → (let d = n.owner in d.is_imported) ≡ b
          → NamesItsDesc p (keys.StaticMethod (of_class (let d = n.owner in d.name) id))
      by false own = (method_entry list files judged p is has class op id n own plain, tt)
      by true import = others k (keys.StaticMethod (of_class (let d = n.owner in d.name) id)) e (
        n.owner,
        n.named,
        import,
      )

  third : (a b c : Bool) → c ≡ true → (a || b || c) ≡ true
  third true b c e = refl
  third false true c e = refl
  third false false c e = e

  second : (a b c : Bool) → b ≡ true → (a || b || c) ≡ true
  second true b c e = refl
  second false true c e = refl
  second false false c e = cc

  one_named : (k : ℕ) (key : PoolKey) → IsMet p.files judged.codes key → IsNamedAt k key
  one_named k _ (sources.of_class c e) here = tt
  one_named k _ (sources.of_field class put id of) here = others k _ here tt
  one_named k _ (sources.of_static class put id of none) here =
      let n = static_named list.name p.files judged.codes (settings_of list) u (own_solid list files judged p is) class
      put id of in
      let cell = own_cell_named list files judged p is told fit id n none in
      let apart = own_names list.name p.files (files_sound list files judged p is) in
      subst (λ (f : MemberId). NamesItsDesc p (keys.StaticField f)) (sym n.resolved) (
        cell_named p apart
            (of_class (let d = n.owner in d.name) id) cell,
        tt,
      )
  one_named k _ (sources.of_virtual class id of) here = others k _ here tt
  one_named k _ (sources.of_special j class id known plain of) here =
      let n = called list files judged p is class 0xB7 id of in
      let flags = (let a = n.at in let m = a.member in m.flags) in
      special_key list files judged p is (IsNamedAt k) class.name class id n
      (λ e. fixed_named k class 0xB7 id n (fixed_in_class list files judged p is class 0xB7 id n
      (third (is_static flags) (is_private flags) (is_constructor id.name) e)))
      (λ e. fixed_named k class 0xB7 id n (fixed_in_class list files judged p is class 0xB7 id n
      (second (is_static flags) (is_private flags) (is_constructor id.name) e)))
      (λ e f there. others k (keys.Super (of_class class.name id)) there tt) here
  one_named k _ (sources.of_call class id of) here =
      let n = called list files judged p is class 0xB8 id of in
      let flags = (let a = n.at in let m = a.member in m.flags) in
      let static : is_static flags ≡ true = (let g = n.fits in g.of_class) refl in
      subst (λ (m : MemberId). IsNamedAt k (keys.StaticMethod m)) (sym n.resolved) (fixed_named k class 0xB8 id n
      (fixed_in_class list files judged p is class 0xB8 id n (ap (λ a. a || is_private flags || is_constructor id.name)
      static))) here

  pub all_named : CallsHaveOpcodes judged.codes → EntriesAreNamed p
  all_named opcodes k key e = one_named k key (key_met list files judged p is opcodes k key e) e
