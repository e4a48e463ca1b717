-- What a package's pool and code name by themselves they name in a group.
use Rattle.std.proofs.Common.{◌≡◌, ℕ, refl, sym, ap, subst, ◌∙◌, Bool, true, false, List, Some, None}
use Rattle.std.specs.Prelude.{Option, is_some, nat_lt, slice_get, unwrap_or, if◌then◌else◌}
use Rattle.cjc_card_semantics.specs.Bytes.declared.fault.MemberId.{MemberId}
use Rattle.cjc_card_semantics.specs.Bytecode.Meanings.{Use}
use Rattle.cjc_card_semantics.specs.CapRead.declared.tree.ClassRef.{ClassRef}
use Rattle.cjc_card_semantics.specs.CapRead.declared.tree.ClassRef.TheVariants.{Inside, Outside}
use Rattle.cjc_card_semantics.specs.CapRead.declared.tree.StaticRef.{StaticRef}
use Rattle.cjc_card_semantics.specs.CapRead.declared.tree.StaticRef.TheVariants as refs
use Rattle.cjc_card_semantics.specs.ExportFile.declared.tree.ExportClass.{ExportClass}
use Rattle.cjc_card_semantics.specs.Machine.Classes.{Class, External, Info, Own, class_of, external, info_of}
use Rattle.cjc_card_semantics.specs.Machine.Dispatch.{Open, Token}
use Rattle.cjc_card_semantics.specs.Machine.Loaded.{Loaded, Part}
use Rattle.cjc_card_semantics.specs.Machine.Operations.{Callee, Outer, static_cell, static_method, token_of}
use Rattle.cjc_card_semantics.specs.Machine.Statics.{StaticCell}
use Rattle.cjc_card_semantics.specs.Bytecode.Machine.{Fetched}
use Rattle.cjc_card_semantics.specs.Machine.Methods.{fetch}
use Rattle.cjc_token_proof.specs.NCode.ByLabel as ByLabel
use Rattle.cjc_token_proof.proofs.NCodeFetching.{method_fetched}
use Rattle.cjc_token_proof.proofs.NCodePacked.{bytes_stand}
use Rattle.cjc_token_proof.specs.NCode.Lowering.Handlers.{AllLie, Catches, any, every, more, none, one}
use Rattle.cjc_token_proof.specs.NCode.Lowering.Laid.{IsFormed, Tests, a_class, asks, bare, by_interface, casts}
use Rattle.cjc_token_proof.specs.NCode.Lowering.Laid.{increase, jump}
use Rattle.cjc_token_proof.specs.NCode.Lowering.Laid.{local}
use Rattle.cjc_token_proof.specs.NCode.Lowering.Laid.{lookup, named, new_array, numbers, push, range, references}
use Rattle.cjc_token_proof.specs.NCode.Lowering.Laid.{words}
use Rattle.cjc_token_proof.specs.NCode.Lowering.Naming.{Fit, Holds, IsCell, IsClass, IsFixed, IsToken, Naming}
use Rattle.cjc_token_proof.specs.NCode.Lowering.Naming.{calls_special}
use Rattle.cjc_token_proof.specs.NCode.Lowering.Naming.{calls_static, calls_super, calls_virtual, gets, gets_static}
use Rattle.cjc_token_proof.specs.NCode.Lowering.Naming.{makes}
use Rattle.cjc_token_proof.specs.NCode.Lowering.Naming.{makes_references, puts, puts_static}
use Rattle.cjc_token_proof.specs.NCode.Lowering.Package.{AreConsecutive, HoldsMethods, IsWhole, next}
use Rattle.cjc_token_proof.specs.NCode.Lowering.Package as consecutive
use Rattle.cjc_token_proof.specs.NCode.Lowering.Placed.{IsLaidOut, Placed, code_of, fetched_on_card, offset_of}
use Rattle.cjc_token_proof.specs.NCode.declared.narrow.NCatch.{NCatch}
use Rattle.cjc_token_proof.specs.NCode.declared.narrow.NInsn.{NInsn}
use Rattle.cjc_token_proof.specs.NCode.declared.narrow.NInsn.TheVariants as insns
use Rattle.cjc_token_proof.specs.NCode.declared.narrow.PoolKey.{PoolKey}
use Rattle.cjc_joint_proof.specs.Naming.{HasEach, IsKept, meant_in, naming_in}
use Rattle.cjc_joint_proof.proofs.RenamedLaws.{code_holds}
use Rattle.cjc_joint_proof.proofs.RenamedLaws.{fits as names_fit}
use Rattle.cjc_joint_proof.proofs.RenamedLaws.{formed as insns_formed}
use Rattle.cjc_joint_proof.specs.Parts.{IsPart}
use Rattle.cjc_joint_proof.proofs.PartLaws.{infos_same}

-- a token without the high bit is one of whatever class
low_token : (d : Class) (t : ℕ) → nat_lt t 0x80 ≡ true → (k : Token) × (token_of d t ≡ Some k)
low_token (Own p offset) t low = (_, refl)
low_token (External tree number) t low = (Open t, ap (λ b. if b then Some (Open t) else None) low)

module _ (group : Loaded) (q : ℕ) (n : Naming) (first : n.part ≡ 0) (h : IsPart n.loaded group q)
    (each : HasEach n.loaded group q) where
  -- ---- references

  own_class : (offset : ℕ) (c : Class) → class_of n.loaded 0 (Inside offset) ≡ Some c
      → class_of group q (Inside offset) ≡ Some (Own q offset)
  own_class offset c e =
      ap (λ o. if is_some o then Some (Own q offset) else None) (infos_same n.loaded group q h offset)
      ∙ by (info_of n.loaded 0 offset) e
    where
      by : (o : Option Info) → (if is_some o then Some (Own 0 offset) else None) ≡ Some c
          → (if is_some o then Some (Own q offset) else None) ≡ Some (Own q offset)
      by None f = cc
      by (Some i) f = refl

  class_there : (r : ClassRef) (c : Class) → class_of n.loaded 0 r ≡ Some c → (d : Class)
      × (class_of group q r ≡ Some d)
  class_there (Inside offset) c e = (Own q offset, own_class offset c e)
  class_there (Outside k token) c e = each.classes k token c e

  cell_there : (r : StaticRef) (s : StaticCell) → static_cell n.loaded 0 r ≡ Some s → (t : StaticCell)
      × (static_cell group q r ≡ Some t)
  cell_there (refs.Inside offset) s e = (_, refl)
  cell_there (refs.Outside k class token) s e = each.cells k class token s e

  method_there : (on : Bool) (r : StaticRef) (m : Callee) → static_method n.loaded 0 on r ≡ Some m → (c : Callee)
      × (static_method group q on r ≡ Some c)
  method_there on (refs.Inside offset) m e = (_, refl)
  method_there on (refs.Outside k class token) m e = each.methods on k class token m e

  -- a class of an export file has tokens without the high bit alone
  token_there : (r : ClassRef) (c : Class) (t : ℕ) (k : Token) → class_of n.loaded 0 r ≡ Some c
      → token_of c t ≡ Some k → (d : Class) → class_of group q r ≡ Some d → (j : Token) × (token_of d t ≡ Some j)
  token_there (Inside offset) c t k e f d g =
      let same : Own q offset ≡ d = some_same (sym (own_class offset c e) ∙ g) in
      subst (λ x. (j : Token) × (token_of x t ≡ Some j)) same (_, refl)
    where
      some_same : Some (Own q offset) ≡ Some d → Own q offset ≡ d
      some_same e = cc
  token_there (Outside i token) c t k e f d g =
      low_token d t (low (nat_lt t 0x80) (sym (ap (λ x. token_of x t) (is (external n.loaded i token) (sym (h.files i
      token) ∙ e))) ∙ f))
    where
      is : (o : Option ExportClass) → (if is_some o then Some (External i token) else None) ≡ Some c
          → c ≡ External i token
      is None e = cc
      is (Some x) e = let same : External i token ≡ c = cc in sym same

      low : (b : Bool) → (if b then Some (Open t) else None) ≡ Some k → b ≡ true
      low true e = refl
      low false e = cc

  -- ---- names

  by_itself : (c : List ℕ) → IsClass n c → class_of n.loaded 0 (n.class_ref c) ≡ Some (n.class c)
  by_itself c e = ap (λ p. class_of n.loaded p (n.class_ref c)) (sym first) ∙ e

  pub is_class : (c : List ℕ) → IsClass n c → IsClass (naming_in group q n) c
  is_class c e =
      let d = class_there (n.class_ref c) (n.class c) (by_itself c e) in
      d.1 ∙ sym (ap (λ o. Some (unwrap_or o (Own q 0))) d.1)

  pub is_cell : (f : MemberId) → IsCell n f → IsCell (naming_in group q n) f
  is_cell f e =
      let d = cell_there (n.field_ref f) (n.cell f) (ap (λ p. static_cell n.loaded p (n.field_ref f)) (sym first) ∙ e)
      in
      d.1 ∙ sym (ap (λ o. Some (unwrap_or o (record { part = q; offset = 0 }))) d.1)

  pub is_fixed : (on : Bool) (m : MemberId) → IsFixed n on m → IsFixed (naming_in group q n) on m
  is_fixed on m e =
      let d = method_there on (n.method_ref m) (n.fixed on m) (ap (λ p. static_method n.loaded p on (n.method_ref m))
      (sym first) ∙ e) in
      d.1 ∙ sym (ap (λ o. Some (unwrap_or o (Outer on m))) d.1)

  pub is_token : (m : MemberId) → IsClass n m.class → IsToken n m → IsToken (naming_in group q n) m
  is_token m e f =
      let own = by_itself m.class e in
      let d = class_there (n.class_ref m.class) (n.class m.class) own in
      let k = token_there (n.class_ref m.class) (n.class m.class) (n.virtual_token m) (n.dispatch_token m) own f d.0 d.1
      in
      let there = ap (λ o. token_of (unwrap_or o (Own q 0)) (n.virtual_token m)) d.1 ∙ k.1 in
      there ∙ sym (ap (λ o. Some (unwrap_or o (Open 0))) there)

  -- whatever an instruction names
  kept : (insn : NInsn) → IsKept n (meant_in group q n) insn
  kept insn = record { field = λ op f e. refl; cell = λ op f e. is_cell f }

  pub fits : {how : Use} {key : PoolKey} → Fit n how key → Fit (naming_in group q n) how key
  fits e = names_fit n (meant_in group q n) is_class is_fixed is_token 0 (kept (insns.Named 0 _)) e

  pub formed : {insn : NInsn} → IsFormed n insn → IsFormed (naming_in group q n) insn
  formed e = insns_formed n (meant_in group q n) is_class is_fixed is_token (kept _) e

  pub code_stands : (part : Part) (placed : List Placed) → HoldsMethods n part placed
      → HoldsMethods (naming_in group q n) (record part { imports = h.imports }) placed
  code_stands part placed e =
      let l = n.loaded in
      let both : Some h.part ≡ Some part = sym (ap (λ parts. slice_get parts 0) h.by_itself) ∙ (ap (slice_get l.parts)
      (sym first) ∙ e.there) in
      let same : h.part ≡ part = cc in
      code_holds n (meant_in group q n) is_class is_fixed is_token h.imports part placed e (λ j p at k insn is. kept
      insn) (h.there ∙ ap (λ (p : Part). Some (record p { imports = h.imports })) same)

  -- a method among those that the package holds runs there
  module _ (part : Part) (placed : List Placed) (e : HoldsMethods n part placed) (j : ℕ) (p : Placed)
      (at : slice_get placed j ≡ Some p) where
    pub fetched_there : (k : ℕ) (i : Fetched (List ℕ) MemberId MemberId ByLabel.Callee)
        → ByLabel.fetch p.method k ≡ Some i → fetch group (code_of (naming_in group q n) p) (offset_of (naming_in group
        q n) p k) ≡ Some (fetched_on_card (naming_in group q n) p i)
    fetched_there k i found =
        let there = code_stands part placed e in
        let w = there.whole j p at in
        method_fetched (naming_in group q n) p w.code (record part { imports = h.imports }) (bytes_stand (naming_in
        group q n) (record part { imports = h.imports }) placed there j p at) k i found
