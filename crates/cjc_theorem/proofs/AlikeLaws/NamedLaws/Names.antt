-- What the instructions of a converted package name stands in its pool, and means what they use.
use Rattle.std.proofs.Common.{◌≡◌, ◌⊎◌, inl, inr, ℕ, refl, sym, ap, subst, ◌∙◌, Bool, true, false, List}
use Rattle.std.specs.Prelude.{not, ◌&&◌, ◌||◌, Option, Some, None, option_and_then, slice_get, if◌then◌else◌}
use Rattle.cjc_token_proof.specs.CardSemantics.Bytecode.Meanings.{Calls, Special, Static, Use, Virtual}
use Rattle.cjc_bytes.specs.AccessFlags.{is_interface, is_private, is_protected, is_public, is_static}
use Rattle.cjc_bytes.specs.declared.fault.MemberId.{MemberId}
use Rattle.cjc_bytes.proofs.Bools.{clash as true_not_false}
use Rattle.cjc_jvm_semantics.specs.OnePackage.{is_constructor, is_initialiser, is_made, method_hit, object_fields}
use Rattle.cjc_jvm_semantics.specs.OnePackage.{of_class}
use Rattle.cjc_token_proof.proofs.WorldProofOwn.{IsAt, mapped_at}
use Rattle.cjc_narrow_proof.proofs.LawsLaws.Casts.{cast_there, test_there}
use Rattle.cjc_shape_proof.specs.WorldProof.Calls.Solid.{IsSolid}
use Rattle.cjc_token_proof.specs.CardSemantics.Machine.Operations.{static_cell}
use Rattle.cjc_world.specs.ClassFile.declared.tree.ClassTree.{ClassTree}
use Rattle.cjc_components.specs.Bytecode.declared.insn.JOp.{JOp}
use Rattle.cjc_components.specs.Bytecode.declared.insn.JOp.TheVariants as jop
use Rattle.cjc_components.specs.Bytecode.declared.method_code.MethodCode.{MethodCode}
use Rattle.cjc_shape_proof.specs.LowerCheckProof.Code.Kinds.{HasKind, is_for}
use Rattle.cjc_narrow_proof.specs.Sources as sources
use Rattle.cjc_narrow_proof.specs.Sources.{IsWrittenFor, NamesClass, names_nothing}
use Rattle.cjc_components.specs.Names.{class_at, field_token, member_ref}
use Rattle.cjc_components.specs.Package.{LaidMethod, Package, pool, world}
use Rattle.cjc_components.specs.Statics.{cell_offset}
use Rattle.cjc_world.specs.ExportFile.Members.{is_unbound}
use Rattle.cjc_shape_proof.specs.LowerJudge.Rules.{settings_of}
use Rattle.cjc_token_proof.specs.List.Listed.{ListTree}
use Rattle.cjc_ncode.specs.Lowering.Naming.{Fit, IsCell, IsClass, calls_special, calls_static}
use Rattle.cjc_token_proof.specs.Narrow.Rows.Resolved.{method_found, resolution, resolved_field, resolved_method}
use Rattle.cjc_token_proof.specs.Narrow.Rows.Resolved.{special_by}
use Rattle.cjc_token_proof.specs.Narrow.Rows.Resolved.{virtual_by}
use Rattle.cjc_token_proof.specs.Narrow.Rows.Selected.{near_fields}
use Rattle.cjc_narrow_proof.specs.Laws.Unbroken.{IsInsnOf, KeepsNames}
use Rattle.cjc_narrow_proof.proofs.LawsLaws.Instructions.{array_of_class, new_fields, op_fit, op_there, virtual_there}
use Rattle.cjc_narrow_proof.specs.Runs.Types as types
use Rattle.cjc_narrow_proof.specs.Runs.Types.{IsThere}
use Rattle.cjc_ncode.specs.declared.narrow.NInsn.{NInsn}
use Rattle.cjc_ncode.specs.declared.narrow.NInsn.TheVariants as insns
use Rattle.cjc_ncode.specs.declared.narrow.PoolKey.{PoolKey}
use Rattle.cjc_ncode.specs.declared.narrow.PoolKey.TheVariants as keys
use Rattle.cjc_token_proof.specs.Script.Sorts.{OfClass, OfReferences, Shape, shape_named}
use Rattle.cjc_narrow_proof.specs.Selected.Names.{NamesFit}
use Rattle.cjc_token_proof.specs.Subset.Names.{is_unfit_virtual}
use Rattle.cjc_token_proof.specs.Subset.Members as subset
use Rattle.cjc_token_proof.specs.Tables.Loading.{loaded, naming}
use Rattle.cjc_token_proof.proofs.TablesLaws.Above.{info_of_name}
use Rattle.cjc_vtable.proofs.Filed.{IsFiled, filed, in_class_file, in_export_file}
use Rattle.cjc_world.specs.Access.{is_accessible}
use Rattle.cjc_world.specs.Classes.{Class, Member, class_named, declared, method_of_export}
use Rattle.cjc_world.specs.Rules.{is_interface_of}
use Rattle.cjc_world.proofs.Cycles.{class_named-name}
use Rattle.cjc_shape_proof.specs.Written.Checked.{IsOfFiles}
use Rattle.cjc_shape_proof.proofs.WrittenLaws.Checked.{are_spelt, files_sound, own_names, read_files}
use Rattle.cjc_shape_proof.proofs.WrittenLaws.Checked.{own_solid}
use Rattle.cjc_theorem.specs.Alike.Opcodes.{CallsHaveOpcodes}
use Rattle.cjc_theorem.proofs.AlikeLaws.NamedLaws.Abroad.{fixed_abroad}
use Rattle.cjc_theorem.proofs.AlikeLaws.NamedLaws.Interfaces.{interface_open}
use Rattle.cjc_theorem.proofs.AlikeLaws.NamedLaws.Means.{class_fits, field_fits, insn_held, method_fits}
use Rattle.cjc_theorem.proofs.AlikeLaws.NamedLaws.Means.{static_field_fits, super_fits, virtual_fits}
use Rattle.cjc_theorem.proofs.AlikeLaws.NamedLaws.Members.{NamesMethod, field_named, method_named, static_named}
use Rattle.cjc_theorem.proofs.AlikeLaws.NamedLaws.Members.{static_own}
use Rattle.cjc_theorem.proofs.AlikeLaws.NamedLaws.Sources.{HasSource, has_source, holder, no_source, of_insn}

module _ (list : ListTree) (codes : List MethodCode) (p : Package) (is : IsOfFiles list codes p) where
  abbrev w : List Class
  w = world p

  abbrev u : KeepsNames list.name p.files codes (settings_of list)
  u = own_names list codes p is.checked

  abbrev solid : IsSolid p.files
  solid = own_solid list codes p is.checked

  -- what is called, as rules know it
  abbrev pub Calls_method : (class : ClassTree) (op : ℕ) (id : MemberId) → Type 0
  Calls_method class op id = NamesMethod list.name p.files codes (settings_of list) u solid class op id

  pub called : (class : ClassTree) (op : ℕ) (id : MemberId) → IsInsnOf p.files codes class (jop.Call op id)
      → Calls_method class op id
  called = method_named list.name p.files codes (settings_of list) u solid

  -- a static method, a private one or a constructor is of a class that is no interface
  pub fixed_in_class : (class : ClassTree) (op : ℕ) (id : MemberId) (n : Calls_method class op id)
      → (is_static (let a = n.at in let m = a.member in m.flags) || is_private (let a = n.at in let m = a.member
      in m.flags) || is_constructor id.name) ≡ true → (let d = n.owner in is_interface d.flags) ≡ false
  fixed_in_class class op id n fixed = by (let d = n.owner in is_interface d.flags) refl
    where
      at_named : is_initialiser (let a = n.at in let m = a.member in m.name) ≡ false
      at_named = ap is_initialiser (let a = n.at in a.has_name) ∙ (let f = n.fits in f.no_initialiser)

      none : (a b c : Bool) → a ≡ false → b ≡ false → c ≡ false → (a || b || c) ≡ true → ⊥
      none true b c e f g h = cc
      none false true c e f g h = cc
      none false false true e f g h = cc
      none false false false e f g h = cc

      by : (b : Bool) → (let d = n.owner in is_interface d.flags) ≡ b → (let d = n.owner in is_interface d.flags)
          ≡ false
      by false e = e
      by true e =
          let open_one = interface_open list.name p.files codes (settings_of list) u.checks solid
          is.checked.plain (let r = read_files list codes p is.checked in r.exports) n.owner n.named e (let a = n.at
          in a.place) (let a = n.at in a.member) (let a = n.at in a.is_member) at_named in
          absurd (none (is_static (let a = n.at in let m = a.member in m.flags)) (is_private (let a = n.at
          in let m = a.member in m.flags)) (is_constructor id.name)
          open_one.on_object open_one.visible (ap is_constructor (sym (let a = n.at in a.has_name))
          ∙ open_one.no_constructor) fixed)

  -- a private method that code may use is no imported class's
  pub private_own : (class : ClassTree) (op : ℕ) (id : MemberId) (n : Calls_method class op id)
      → is_private (let a = n.at in let m = a.member in m.flags) ≡ true → (let d = n.owner in d.is_imported) ≡ false
  unfolding is_accessible
  private_own class op id n private = own (is_public flags) (is_private flags) (let d = n.owner in d.is_imported) _ _
      private shut (may _ n.seen)
    where
      flags : ℕ
      flags = let a = n.at in let m = a.member in m.flags

      may : (a : Bool) → not a ≡ false → a ≡ true
      may true e = refl
      may false e = cc

      own : (a p i q r : Bool) → p ≡ true → (i ≡ true → a ≡ false) → (a || (if p then not i && q else r)) ≡ true
          → i ≡ false
      own a p false q r e f g = refl
      own true p true q r e f g = let clash : true ≡ false = f refl in cc
      own false true true q r e f g = cc
      own false false true q r e f g = cc

      not_public : (p a b : Bool) → (p && (a || b)) ≡ false → p ≡ true → a ≡ false
      not_public p false b e f = refl
      not_public true true b e f = cc
      not_public false true b e f = cc

      by : (d : Class) → IsFiled p.files d → (i : ℕ) (x : Member) → slice_get d.methods i ≡ Some x
          → is_private x.flags ≡ true → d.is_imported ≡ true → is_public x.flags ≡ false
      by d (in_class_file q t at) i x there private import = cc
      by d (in_export_file q t at) i x there private import =
          let y = mapped_at method_of_export t.methods i x there in
          let z = y.0 in
          ap (λ (v : Member). is_public v.flags) y.2
          ∙ not_public (is_private z.flags) (is_public z.flags) (is_protected z.flags)
          ((let r = is.checked.plain in r.visible) q t at i z y.1)
          (ap (λ (v : Member). is_private v.flags) (sym y.2) ∙ private)

      shut : (let d = n.owner in d.is_imported) ≡ true → is_public flags ≡ false
      shut import = by n.owner (filed p.files (let d = n.owner in d.name) n.owner n.named) (let a = n.at in a.place)
          (let a = n.at in a.member) (let a = n.at in a.is_member) private import

  -- what an invokevirtual finds through an imported class, and what it names itself, are of classes
  pub virtual_class : (class : ClassTree) (id : MemberId) (n : Calls_method class 0xB6 id)
      → (let c = n.named_class in is_interface c.flags) ≡ false
  virtual_class class id n = ap is_interface_of (sym n.names_class) ∙ virtual_there list.name p.files codes
      (settings_of list) u class id n.insn

  pub virtual_owner : (class : ClassTree) (id : MemberId) (n : Calls_method class 0xB6 id)
      → (let c = n.named_class in c.is_imported) ≡ true → (let d = n.owner in is_interface d.flags) ≡ false
  virtual_owner class id n import =
      let h : subset.ResolvedMember = record { owner = n.owner; flags = (let a = n.at in let m = a.member in m.flags) }
      in
      first_off (let c = n.named_class in c.is_imported) (is_interface (let d = n.owner in d.flags)) import
      (ap (λ o. is_unfit_virtual o h) (sym n.names_class) ∙ n.fits_class)
    where
      first_off : (a b : Bool) → a ≡ true → (a && b) ≡ false → b ≡ false
      first_off true b e f = f
      first_off false b e f = cc

  module _ (classes : (x : List ℕ) (c : Class) → class_named w x ≡ Some c → IsClass (naming p) x)
      (virtuals : (m : MemberId) (c : Class) → class_named w m.class ≡ Some c → is_interface c.flags ≡ false
      → Fit (naming p) (Calls Virtual) (keys.Virtual m))
      (supers : (m : MemberId) (c : Class) → class_named w m.class ≡ Some c → is_interface c.flags ≡ false
      → Fit (naming p) (Calls Special) (keys.Super m))
      (specials : (m : MemberId) (c : Class) → class_named w m.class ≡ Some c → c.is_imported ≡ false
      → Fit (naming p) (Calls Special) (keys.StaticMethod m))
      (statics : (m : MemberId) (c : Class) → class_named w m.class ≡ Some c → c.is_imported ≡ false
      → Fit (naming p) (Calls Static) (keys.StaticMethod m)) where
    cell_means : (f : MemberId) (c : Class) → class_named w f.class ≡ Some c → c.is_imported ≡ false
        → IsCell (naming p) f
    cell_means f c known own =
        let h = info_of_name list.name p (files_sound list codes p is.checked) f.class c known own in
        let at = sym (ap (class_at p) (class_named-name w f.class c known)) ∙ h.on_card in
        ap (λ k. static_cell (loaded p) 0 (member_ref k (cell_offset p.image f) (field_token p f))) at

    -- a static method, a constructor or a private method, by the class that declares it
    fixed_means : (class : ClassTree) (op : ℕ) (id : MemberId) (n : Calls_method class op id)
        → (let d = n.owner in is_interface d.flags) ≡ false → ((let d = n.owner in d.is_imported) ≡ false)
        ⊎ (is_unbound (let a = n.at in let m = a.member in m.flags) (let a = n.at in let m = a.member in m.name) ≡ true)
        → (how : Use) → is_for how (keys.StaticMethod (of_class (let d = n.owner in d.name) id)) ≡ true
        → Fit (naming p) how (keys.StaticMethod (of_class (let d = n.owner in d.name) id))
    fixed_means class op id n no_interface known = by (let d = n.owner in d.is_imported) refl known
      where
        m : MemberId
        m = of_class (let d = n.owner in d.name) id

        plain_name : is_initialiser m.name ≡ false
        plain_name = let f = n.fits in f.no_initialiser

        by : (b : Bool) → (let d = n.owner in d.is_imported) ≡ b → ((let d = n.owner in d.is_imported) ≡ false)
            ⊎ (is_unbound (let a = n.at in let m = a.member in m.flags) (let a = n.at in let m = a.member in m.name)
            ≡ true)
            → (how : Use) → is_for how (keys.StaticMethod m) ≡ true → Fit (naming p) how (keys.StaticMethod m)
        by false own k = method_fits (naming p) m (specials m n.owner n.named own) (statics m n.owner n.named own)
        by true import (inl own) = true_not_false (let d = n.owner in d.is_imported) import own
        by true import (inr bound) =
            let a = n.at in
            let at : IsAt false m.name m.desc n.owner n.place = record {
              place = a.place;
              member = a.member;
              is_member = a.is_member;
              is = a.is;
              wanted = a.wanted;
              has_name = a.has_name;
              has_desc = a.has_desc;
            } in
            method_fits (naming p) m
            (calls_special (fixed_abroad list.name p (files_sound list codes p is.checked) true m n.owner n.place
            n.named
            import no_interface n.again at plain_name bound))
            (calls_static (fixed_abroad list.name p (files_sound list codes p is.checked) false m n.owner n.place
            n.named
            import no_interface n.again at plain_name bound))

    -- ---- an instruction

    module _ (k : ℕ) (m : LaidMethod) (e_method : slice_get p.methods k ≡ Some m) (j : ℕ) (insn : NInsn)
        (f : (let code = m.code in slice_get code.insns j ≡ Some insn)) (kind : HasKind insn) where
      abbrev near : List MemberId
      near = near_fields (pool p)

      abbrev class : ClassTree
      class = let h = holder list codes p is k m e_method in h.class

      -- names nothing
      nothing_fits : (i : NInsn) → names_nothing i ≡ true → NamesFit (naming p) i
      nothing_fits (insns.Op op) h = tt
      nothing_fits (insns.Push op value) h = tt
      nothing_fits (insns.Local op index) h = tt
      nothing_fits (insns.Inc op index by) h = tt
      nothing_fits (insns.Words op a b) h = tt
      nothing_fits (insns.Jump op target) h = tt
      nothing_fits (insns.Switch op other low cases) h = tt
      nothing_fits (insns.Named op key) h = cc
      nothing_fits (insns.Interface nargs id) h = cc
      nothing_fits (insns.NewArray number) h = tt
      nothing_fits (insns.TypeTest op number None) h = tt
      nothing_fits (insns.TypeTest op number (Some c)) h = cc

      named : (op : ℕ) (key : PoolKey) → insn ≡ insns.Named op key → ((how : Use) → is_for how key ≡ true
          → Fit (naming p) how key) → NamesFit (naming p) insn
      named op key same fits =
          subst (NamesFit (naming p)) (sym same) (
            insn_held p k m e_method j (insns.Named op key) (f ∙ ap Some same) key refl,
            λ how uses. fits how (subst HasKind same kind how uses),
          )

      -- a class that is named is there
      class_of_new : (name : List ℕ) → IsInsnOf p.files codes class (jop.New name) → (c : Class)
          × (class_named w name ≡ Some c)
      class_of_new name of =
          let ok = op_there list.name p.files codes (settings_of list) u class (jop.New name) of in
          by (class_named w name) refl (new_fields p.files class name ok.0 ok.2)
        where
          by : (o : Option Class) → class_named w name ≡ o → option_and_then (λ c. if is_made c
              then Some (object_fields w name) else None) o ≡ Some (object_fields w name) → (c : Class)
              × (class_named w name ≡ Some c)
          by None g h = cc
          by (Some c) g h = (c, g)

      class_of_array : (name : List ℕ) → IsInsnOf p.files codes class (jop.ANewArray name) → (c : Class)
          × (class_named w name ≡ Some c)
      class_of_array name of =
          let ok = op_there list.name p.files codes (settings_of list) u class (jop.ANewArray name) of in
          let fit = op_fit list.name p.files codes (settings_of list) u class (jop.ANewArray name) of in
          array_of_class w name ok.0 fit.0

      of_class_there : (c : List ℕ) → IsThere w (OfClass c) → (d : Class) × (class_named w c ≡ Some d)
      of_class_there c (types.of_class d known) = (d, known)

      of_array_there : (c : List ℕ) → IsThere w (OfReferences c) → (d : Class) × (class_named w c ≡ Some d)
      of_array_there c (types.of_references d known) = (d, known)

      class_of_type : (c : List ℕ) (o : Option (Shape (List ℕ))) (t : Shape (List ℕ)) → o ≡ Some t → IsThere w t
          → NamesClass c o → (d : Class) × (class_named w c ≡ Some d)
      class_of_type c _ t g there sources.itself = (let same : t ≡ OfClass c = cc
          in of_class_there c (subst (IsThere w) same there))
      class_of_type c _ t g there sources.array = (let same : t ≡ OfReferences c = cc
          in of_array_there c (subst (IsThere w) same there))

      tested : (op number : ℕ) (c : List ℕ) → insn ≡ insns.TypeTest op number (Some c) → (d : Class)
          × (class_named w c ≡ Some d) → NamesFit (naming p) insn
      tested op number c same there =
          subst (NamesFit (naming p)) (sym same) (
            insn_held p k m e_method j (insns.TypeTest op number (Some c)) (f
                ∙ ap Some same) (keys.Class c) refl,
            classes c there.0 there.1,
          )

      -- the key of an invokevirtual
      virtual_key : (id : MemberId) (n : Calls_method class 0xB6 id) → (how : Use)
          → is_for how (keys.Virtual (virtual_by w id (class_named w id.class))) ≡ true
          → Fit (naming p) how (keys.Virtual (virtual_by w id (class_named w id.class)))
      virtual_key id n = subst (λ o. (how : Use) → is_for how (keys.Virtual (virtual_by w id o)) ≡ true
          → Fit (naming p) how (keys.Virtual (virtual_by w id o))) (sym n.names_class) (by (let c = n.named_class
          in c.is_imported) refl)
        where
          KeyFits : MemberId → Type 0
          KeyFits m = (how : Use) → is_for how (keys.Virtual m) ≡ true → Fit (naming p) how (keys.Virtual m)

          by : (b : Bool) → (let c = n.named_class in c.is_imported) ≡ b → (how : Use)
              → is_for how (keys.Virtual (if b then resolved_method w id else id)) ≡ true
              → Fit (naming p) how (keys.Virtual (if b then resolved_method w id else id))
          by true import = subst (λ m. (how : Use) → is_for how (keys.Virtual m) ≡ true
              → Fit (naming p) how (keys.Virtual m)) (sym n.resolved)
              (virtual_fits (naming p) (of_class (let d = n.owner in d.name) id) (virtuals (of_class (let d = n.owner
              in d.name) id) n.owner n.named (virtual_owner class id n import)))
          by false own = virtual_fits (naming p) id (virtuals id n.named_class n.names_class (virtual_class class id n))

      KeyFits : PoolKey → Type 0
      KeyFits key = (how : Use) → is_for how key ≡ true → Fit (naming p) how key

      -- the key of an invokespecial
      special_key : (id : MemberId) (n : Calls_method class 0xB7 id)
          → KeyFits (special_by class.name id (method_found w id))
      unfolding KeyFits
      special_key id n = subst (λ o. KeyFits (special_by class.name id o)) (sym told) (by (is_constructor id.name)
          (is_private flags) refl refl)
        where
          flags : ℕ
          flags = let a = n.at in let m = a.member in m.flags

          told : method_found w id ≡ Some (record { owner = n.owner; flags = flags })
          told = ap (option_and_then (method_hit w)) n.found ∙ n.hit

          first : (a b c : Bool) → c ≡ true → (a || b || c) ≡ true
          first true b c e = refl
          first false true c e = refl
          first false false c e = e

          second : (a b c : Bool) → b ≡ true → (a || b || c) ≡ true
          second true b c e = refl
          second false true c e = refl
          second false false c e = cc

          bound : is_constructor id.name ≡ true → is_unbound flags (let a = n.at in let m = a.member in m.name) ≡ true
          bound e = last (is_static flags) (is_constructor (let a = n.at in let m = a.member in m.name))
              (ap is_constructor (let a = n.at in a.has_name) ∙ e)
            where
              last : (a b : Bool) → b ≡ true → (a || b) ≡ true
              last true b e = refl
              last false b e = e

          by : (a b : Bool) → is_constructor id.name ≡ a → is_private flags ≡ b
              → KeyFits (if a || b then keys.StaticMethod (of_class (let d = n.owner in d.name) id)
              else keys.Super (of_class class.name id))
          by true b e f = fixed_means class 0xB7 id n (fixed_in_class class 0xB7 id n (first (is_static flags)
              (is_private flags) (is_constructor id.name) e)) (inr (bound e))
          by false true e f = fixed_means class 0xB7 id n (fixed_in_class class 0xB7 id n (second (is_static flags)
              (is_private flags) (is_constructor id.name) f)) (inl (private_own class 0xB7 id n f))
          by false false e f =
              let h = holder list codes p is k m e_method in
              super_fits (naming p) (of_class class.name id) (supers (of_class class.name id)
              (declared (let g = m.member in g.class) class) h.named h.no_interface)

      -- the key of an invokestatic
      static_key : (id : MemberId) (n : Calls_method class 0xB8 id) → KeyFits (keys.StaticMethod (resolved_method w id))
      unfolding KeyFits
      static_key id n = subst (λ q. KeyFits (keys.StaticMethod q)) (sym n.resolved) (fixed_means class 0xB8 id n
          (fixed_in_class class 0xB8 id n (third static)) (inr (bound static)))
        where
          flags : ℕ
          flags = let a = n.at in let m = a.member in m.flags

          static : is_static flags ≡ true
          static = (let g = n.fits in g.of_class) refl

          third : is_static flags ≡ true → (is_static flags || is_private flags || is_constructor id.name) ≡ true
          third e = ap (λ a. a || is_private flags || is_constructor id.name) e

          bound : is_static flags ≡ true → is_unbound flags (let a = n.at in let m = a.member in m.name) ≡ true
          bound e = ap (λ a. a || is_constructor (let q = n.at in let m = q.member in m.name)) e

      -- ---- all

      by_source : (near : List MemberId) (opcodes : CallsHaveOpcodes codes) (op : JOp) (i : NInsn)
          → IsInsnOf p.files codes class op → IsWrittenFor (resolution p.files near class.name) op i → insn ≡ i
          → NamesFit (naming p) insn
      unfolding resolution KeyFits
      by_source near opcodes op i of (sources.plain none) same = subst (NamesFit (naming p)) (sym same)
          (nothing_fits i none)
      by_source near opcodes op i of (sources.of_static {put = put} {f = id} none) same =
          let n = static_named list.name p.files codes (settings_of list) u solid class put id of in
          let own = static_own list.name p.files codes (settings_of list) u solid id n none in
          let f = of_class (let d = n.owner in d.name) id in
          named _ (keys.StaticField (resolved_field w id)) same
          (subst (λ q. (how : Use) → is_for how (keys.StaticField q) ≡ true → Fit (naming p) how (keys.StaticField q))
          (sym n.resolved) (static_field_fits (naming p) f (cell_means f n.owner n.named own)))
      by_source near opcodes op i of (sources.of_field {put = put} {f = id}) same =
          let n = field_named list.name p.files codes (settings_of list) u solid class put id of in
          let f = of_class (let d = n.owner in d.name) id in
          named _ (keys.Field (resolved_field w id)) same
          (subst (λ q. (how : Use) → is_for how (keys.Field q) ≡ true → Fit (naming p) how (keys.Field q))
          (sym n.resolved) (field_fits (naming p) f (classes (let d = n.owner in d.name) n.owner n.named)))
      by_source near opcodes op i of (sources.of_own_field {put = put} {f = id}) same =
          let n = field_named list.name p.files codes (settings_of list) u solid class put id of in
          let f = of_class (let d = n.owner in d.name) id in
          named _ (keys.Field (resolved_field w id)) same
          (subst (λ q. (how : Use) → is_for how (keys.Field q) ≡ true → Fit (naming p) how (keys.Field q))
          (sym n.resolved) (field_fits (naming p) f (classes (let d = n.owner in d.name) n.owner n.named)))
      by_source near opcodes op i of (sources.virtual_call {op = opcode} {m = id} is_virtual) same =
          let of_virtual = subst (λ o. IsInsnOf p.files codes class (jop.Call o id)) is_virtual of in
          named 0x8B _ same (virtual_key id (called class 0xB6 id of_virtual))
      by_source near opcodes op i of (sources.special_call {op = opcode} {m = id} is_special) same =
          let of_special = subst (λ o. IsInsnOf p.files codes class (jop.Call o id)) is_special of in
          named 0x8C _ same (special_key id (called class 0xB7 id of_special))
      by_source near opcodes op i of (sources.static_call {op = opcode} {m = id} no_virtual no_special no_interface)
          same =
          let is_static_call = opcodes of.code of.place of.insn opcode id of.listed of.is_insn of.is_op no_virtual
          no_special no_interface in
          let of_static = subst (λ o. IsInsnOf p.files codes class (jop.Call o id)) is_static_call of in
          named 0x8D _ same (static_key id (called class 0xB8 id of_static))
      by_source near opcodes op i of (sources.interface_call {op = opcode} {m = id} is_interface_call) same =
          let n = called class opcode id of in
          subst (NamesFit (naming p)) (sym same) (
            insn_held p k m e_method j _ (f ∙ ap Some same) (keys.Class _) refl,
            subst (λ (q : MemberId). IsClass (naming p) q.class) (sym n.resolved) (classes (let d = n.owner
                in d.name) n.owner n.named),
          )
      by_source near opcodes op i of (sources.of_class {class = name}) same =
          let c = class_of_new name of in
          named 0x8F (keys.Class name) same (class_fits (naming p) name (classes name c.0 c.1))
      by_source near opcodes op i of (sources.of_array {class = name}) same =
          let c = class_of_array name of in
          named 0x91 (keys.Class name) same (class_fits (naming p) name (classes name c.0 c.1))
      by_source near opcodes op i of (sources.of_cast {name = name} {class = c} {op = o} {kind = number} names) same =
          let there = cast_there list.name p.files codes (settings_of list) u (are_spelt list codes p is.checked) class
          name of in
          tested o number c same (class_of_type c (shape_named name) there.0 there.1 there.2 names)
      by_source near opcodes op i of (sources.of_test {name = name} {class = c} {op = o} {kind = number} names) same =
          let there = test_there list.name p.files codes (settings_of list) u (are_spelt list codes p is.checked) class
          name of in
          tested o number c same (class_of_type c (shape_named name) there.0 there.1 there.2 names)

      pub names_fit : CallsHaveOpcodes codes → NamesFit (naming p) insn
      names_fit opcodes =
          by (has_source list codes p is k m e_method j insn f)
        where
          by : HasSource p.files codes near class insn → NamesFit (naming p) insn
          by (no_source none) = nothing_fits insn none
          by (of_insn op of written) = by_source near opcodes op insn of written refl
