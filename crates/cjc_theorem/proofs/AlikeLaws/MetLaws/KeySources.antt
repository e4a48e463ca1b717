-- What each key of a package's pool names, by the instruction of a class file that names it.
use Rattle.std.proofs.Common.{◌≡◌, ⊎_elim, ℕ, refl, sym, ap, subst, ◌∙◌, Bool, true, false, List, [], ◌∷◌}
use Rattle.std.specs.Prelude.{Option, Some, None, option_and_then, slice_get, if◌then◌else◌}
use Rattle.cjc_narrow_proof.proofs.LawsLaws.Casts.{cast_there, test_there}
use Rattle.cjc_bytes.specs.AccessFlags.{is_interface}
use Rattle.cjc_bytes.specs.declared.fault.MemberId.{MemberId}
use Rattle.cjc_jvm_semantics.specs.OnePackage.{is_made, object_fields}
use Rattle.cjc_world.specs.ClassFile.declared.tree.ClassTree.{ClassTree}
use Rattle.cjc_components.specs.Bytecode.declared.insn.JOp.{JOp}
use Rattle.cjc_components.specs.Bytecode.declared.insn.JOp.TheVariants as jop
use Rattle.cjc_components.specs.Bytecode.declared.method_code.MethodCode.{MethodCode}
use Rattle.cjc_narrow_proof.specs.Sources as sources
use Rattle.cjc_narrow_proof.specs.Sources.{IsWrittenFor, NamesClass, names_nothing}
use Rattle.cjc_components.specs.Package.{LaidMethod, Package, pool, world}
use Rattle.cjc_shape_proof.proofs.WrittenLaws.FittingLaws.Order.{has_cons, has_none}
use Rattle.cjc_shape_proof.specs.LowerJudge.Rules.{settings_of}
use Rattle.cjc_token_proof.specs.List.Listed.{ListTree}
use Rattle.cjc_theorem.specs.Alike.Opcodes.{CallsHaveOpcodes}
use Rattle.cjc_theorem.proofs.AlikeLaws.NamedLaws.Members.{NamesMethod, method_named}
use Rattle.cjc_theorem.proofs.AlikeLaws.NamedLaws.Sources.{HasSource, has_catch, has_source, holder}
use Rattle.cjc_theorem.proofs.AlikeLaws.NamedLaws.Sources.{no_source, of_insn}
use Rattle.cjc_token_proof.specs.Narrow.Rows.Resolved.{constant_named, method_found, resolution, resolved_field}
use Rattle.cjc_token_proof.specs.Narrow.Rows.Resolved.{resolved_method}
use Rattle.cjc_token_proof.specs.Narrow.Rows.Resolved.{special_by, virtual_by}
use Rattle.cjc_token_proof.specs.Narrow.Rows.Selected.{near_fields}
use Rattle.cjc_narrow_proof.specs.Laws.Unbroken.{IsInsnOf, KeepsNames}
use Rattle.cjc_narrow_proof.proofs.LawsLaws.Handlers.{caught_there, class_there}
use Rattle.cjc_narrow_proof.proofs.LawsLaws.Instructions.{array_of_class, new_fields, op_fit, op_there}
use Rattle.cjc_narrow_proof.specs.Runs.Types as types
use Rattle.cjc_narrow_proof.specs.Runs.Types.{IsThere}
use Rattle.cjc_ncode.specs.PoolOrder.{class_key, insn_keys}
use Rattle.cjc_ncode.specs.declared.narrow.NCatch.{NCatch}
use Rattle.cjc_ncode.specs.declared.narrow.NInsn.{NInsn}
use Rattle.cjc_ncode.specs.declared.narrow.NInsn.TheVariants as insns
use Rattle.cjc_ncode.specs.declared.narrow.PoolKey.{PoolKey}
use Rattle.cjc_ncode.specs.declared.narrow.PoolKey.TheVariants as keys
use Rattle.cjc_token_proof.specs.Script.Sorts.{OfClass, OfReferences, Shape, shape_named}
use Rattle.cjc_vtable.proofs.Filed.{Has}
use Rattle.cjc_world.specs.Classes.{Class, all_classes, class_named, declared}
use Rattle.cjc_world.specs.Files.{Files}
use Rattle.cjc_shape_proof.specs.Written.Checked.{IsOfFiles}
use Rattle.cjc_shape_proof.proofs.WrittenLaws.Checked.{are_spelt, own_names}
use Rattle.cjc_shape_proof.proofs.WrittenLaws.Checked.{own_solid}
use Rattle.cjc_theorem.proofs.AlikeLaws.MetLaws.PoolKeys.{IsNamedIn, by_handler, by_insn, key_named, of_any}

-- A class that is there, or what an instruction of a class file names; of an invokespecial the class that holds it is
-- known.
pub data IsMet (files : Files) (codes : List MethodCode) : PoolKey → Type 0 where
  of_class : {x : List ℕ} (c : Class) → class_named (all_classes files) x ≡ Some c → IsMet files codes (keys.Class x)
  of_field : (class : ClassTree) (put : Bool) (id : MemberId) → IsInsnOf files codes class (jop.Field put id)
      → IsMet files codes (keys.Field (resolved_field (all_classes files) id))
  of_static : (class : ClassTree) (put : Bool) (id : MemberId) → IsInsnOf files codes class (jop.Static put id)
      → constant_named files (all_classes files) id ≡ None
      → IsMet files codes (keys.StaticField (resolved_field (all_classes files) id))
  of_virtual : (class : ClassTree) (id : MemberId) → IsInsnOf files codes class (jop.Call 0xB6 id)
      → IsMet files codes (keys.Virtual (virtual_by (all_classes files) id (class_named (all_classes files) id.class)))
  of_special : (n : ℕ) (class : ClassTree) (id : MemberId) → class_named (all_classes files) class.name
      ≡ Some (declared n class) → is_interface class.flags ≡ false → IsInsnOf files codes class (jop.Call 0xB7 id)
      → IsMet files codes (special_by class.name id (method_found (all_classes files) id))
  of_call : (class : ClassTree) (id : MemberId) → IsInsnOf files codes class (jop.Call 0xB8 id)
      → IsMet files codes (keys.StaticMethod (resolved_method (all_classes files) id))

-- the only key of an instruction
only : (P : PoolKey → Type 0) (k key : PoolKey) → P k → Has key (k ∷ []) → P key
only P k key is h = ⊎_elim (λ same. subst P (sym same) is) (λ none. has_none key none) (has_cons key k [] h)

-- what names nothing has no key
no_key : (i : NInsn) → names_nothing i ≡ true → insn_keys i ≡ []
no_key (insns.Op op) h = refl
no_key (insns.Push op value) h = refl
no_key (insns.Local op index) h = refl
no_key (insns.Inc op index by) h = refl
no_key (insns.Words op a b) h = refl
no_key (insns.Jump op target) h = refl
no_key (insns.Switch op other low cases) h = refl
no_key (insns.Named op key) h = cc
no_key (insns.Interface nargs id) h = cc
no_key (insns.NewArray number) h = refl
no_key (insns.TypeTest op number None) h = refl
no_key (insns.TypeTest op number (Some c)) h = cc

module _ (list : ListTree) (codes : List MethodCode) (p : Package) (is : IsOfFiles list codes p) where
  abbrev w : List Class
  w = world p

  abbrev u : KeepsNames list.name p.files codes (settings_of list)
  u = own_names list codes p is.checked

  abbrev pub Calls_method : (class : ClassTree) (op : ℕ) (id : MemberId) → Type 0
  Calls_method class op id = NamesMethod list.name p.files codes (settings_of list) u
      (own_solid list codes p is.checked) class op id

  pub called : (class : ClassTree) (op : ℕ) (id : MemberId) → IsInsnOf p.files codes class (jop.Call op id)
      → Calls_method class op id
  called = method_named list.name p.files codes (settings_of list) u (own_solid list codes p is.checked)

  -- ---- classes that instructions name

  class_of_new : (class : ClassTree) (name : List ℕ) → IsInsnOf p.files codes class (jop.New name) → (c : Class)
      × (class_named w name ≡ Some c)
  class_of_new class name of =
      let ok = op_there list.name p.files codes (settings_of list) u class (jop.New name) of in
      by (class_named w name) refl (new_fields p.files class name ok.0 ok.2)
    where
      by : (o : Option Class) → class_named w name ≡ o → option_and_then (λ c. if is_made c
          then Some (object_fields w name) else None) o ≡ Some (object_fields w name) → (c : Class)
          × (class_named w name ≡ Some c)
      by None g h = cc
      by (Some c) g h = (c, g)

  class_of_array : (class : ClassTree) (name : List ℕ) → IsInsnOf p.files codes class (jop.ANewArray name) → (c : Class)
      × (class_named w name ≡ Some c)
  class_of_array class name of =
      let ok = op_there list.name p.files codes (settings_of list) u class (jop.ANewArray name) of in
      let fit = op_fit list.name p.files codes (settings_of list) u class (jop.ANewArray name) of in
      array_of_class w name ok.0 fit.0

  of_class_there : (c : List ℕ) → IsThere w (OfClass c) → (d : Class) × (class_named w c ≡ Some d)
  of_class_there c (types.of_class d known) = (d, known)

  of_array_there : (c : List ℕ) → IsThere w (OfReferences c) → (d : Class) × (class_named w c ≡ Some d)
  of_array_there c (types.of_references d known) = (d, known)

  class_of_type : (c : List ℕ) (o : Option (Shape (List ℕ))) (t : Shape (List ℕ)) → o ≡ Some t → IsThere w t
      → NamesClass c o → (d : Class) × (class_named w c ≡ Some d)
  class_of_type c _ t g there sources.itself = (let same : t ≡ OfClass c = cc
      in of_class_there c (subst (IsThere w) same there))
  class_of_type c _ t g there sources.array = (let same : t ≡ OfReferences c = cc
      in of_array_there c (subst (IsThere w) same there))

  -- ---- keys that instructions name

  module _ (opcodes : CallsHaveOpcodes codes) where
    source_met : (near : List MemberId) (n : ℕ) (class : ClassTree) → class_named w class.name ≡ Some (declared n class)
        → is_interface class.flags ≡ false → (op : JOp) (i : NInsn) → IsInsnOf p.files codes class op
        → IsWrittenFor (resolution p.files near class.name) op i → (key : PoolKey) → Has key (insn_keys i)
        → IsMet p.files codes key
    unfolding resolution
    source_met near n class named plain op i of (sources.plain none) key h =
        has_none key (subst (λ ks. Has key ks) (no_key i none) h)
    source_met near n class named plain op i of (sources.of_static {put = put} {f = id} none) key h =
        only (IsMet p.files codes) (keys.StaticField (resolved_field w id)) key (of_static class put id of none) h
    source_met near n class named plain op i of (sources.of_field {put = put} {f = id}) key h =
        only (IsMet p.files codes) (keys.Field (resolved_field w id)) key (of_field class put id of) h
    source_met near n class named plain op i of (sources.of_own_field {put = put} {f = id}) key h =
        only (IsMet p.files codes) (keys.Field (resolved_field w id)) key (of_field class put id of) h
    source_met near n class named plain op i of (sources.virtual_call {op = opcode} {m = id} same) key h =
        only (IsMet p.files codes) (keys.Virtual (virtual_by w id (class_named w id.class))) key
        (of_virtual class id (subst (λ o. IsInsnOf p.files codes class (jop.Call o id)) same of)) h
    source_met near n class named plain op i of (sources.special_call {op = opcode} {m = id} same) key h =
        only (IsMet p.files codes) (special_by class.name id (method_found w id)) key (of_special n class id named plain
        (subst (λ o. IsInsnOf p.files codes class (jop.Call o id)) same of)) h
    source_met near n class named plain op i of (sources.static_call {op = opcode} {m = id} no_virtual no_special
        no_interface) key h =
        let same = opcodes of.code of.place of.insn opcode id of.listed of.is_insn of.is_op no_virtual no_special
        no_interface in
        only (IsMet p.files codes) (keys.StaticMethod (resolved_method w id)) key
        (of_call class id (subst (λ o. IsInsnOf p.files codes class (jop.Call o id)) same of)) h
    source_met near n class named plain op i of (sources.interface_call {op = opcode} {m = id} same) key h =
        let c = called class opcode id of in
        let owner = c.owner in
        let known : class_named w (let q = resolved_method w id in q.class) ≡ Some owner =
        ap (λ (q : MemberId). class_named w q.class) c.resolved ∙ c.named in
        only (IsMet p.files codes) (keys.Class (let q = resolved_method w id in q.class)) key (of_class owner known) h
    source_met near n class named plain op i of (sources.of_class {class = name}) key h =
        (let c = class_of_new class name of in only (IsMet p.files codes) (keys.Class name) key (of_class c.0 c.1) h)
    source_met near n class named plain op i of (sources.of_array {class = name}) key h =
        (let c = class_of_array class name of in only (IsMet p.files codes) (keys.Class name) key (of_class c.0 c.1) h)
    source_met near n class named plain op i of (sources.of_cast {name = name} {class = x} names) key h =
        let there = cast_there list.name p.files codes (settings_of list) u (are_spelt list codes p is.checked) class
        name of in
        let c = class_of_type x (shape_named name) there.0 there.1 there.2 names in
        only (IsMet p.files codes) (keys.Class x) key (of_class c.0 c.1) h
    source_met near n class named plain op i of (sources.of_test {name = name} {class = x} names) key h =
        let there = test_there list.name p.files codes (settings_of list) u (are_spelt list codes p is.checked) class
        name of in
        let c = class_of_type x (shape_named name) there.0 there.1 there.2 names in
        only (IsMet p.files codes) (keys.Class x) key (of_class c.0 c.1) h

    pub insn_met : (k : ℕ) (m : LaidMethod) (e : slice_get p.methods k ≡ Some m) (j : ℕ) (insn : NInsn)
        → (let code = m.code in slice_get code.insns j ≡ Some insn) → (key : PoolKey) → Has key (insn_keys insn)
        → IsMet p.files codes key
    insn_met k m e j insn f key h =
        by (has_source list codes p is k m e j insn f)
      where
        by : HasSource p.files codes (near_fields (pool p))
            (let q = holder list codes p is k m e in q.class) insn
            → IsMet p.files codes key
        by (no_source none) = has_none key (subst (λ ks. Has key ks) (no_key insn none) h)
        by (of_insn op of written) =
            let q = holder list codes p is k m e in
            source_met (near_fields (pool p)) (let g = m.member in g.class) q.class q.named q.no_interface op insn of
            written key h

    -- ---- classes that handlers name

    catch_met : (k : ℕ) (m : LaidMethod) → slice_get p.methods k ≡ Some m → (j : ℕ) (c : NCatch)
        → (let code = m.code in slice_get code.catches j ≡ Some c) → (key : PoolKey) → Has key (class_key c.class)
        → IsMet p.files codes key
    catch_met k m e j c f key h = by c.class refl h
      where
        by : (o : Option (List ℕ)) → c.class ≡ o → Has key (class_key o) → IsMet p.files codes key
        by None g h = has_none key h
        by (Some name) g h =
            let s = has_catch list codes p is k m e j c f in
            let x = s.handler in
            let at = class_there w name (caught_there p.files codes u.names s.code _ s.method s.tree s.of s.listed x
            name s.there (s.same ∙ g)) in
            only (IsMet p.files codes) (keys.Class name) key (of_class at.0 at.1) h

    -- ---- all keys

    pub key_met : (k : ℕ) (key : PoolKey) → slice_get (pool p) k ≡ Some key → IsMet p.files codes key
    key_met k key e = by (key_named p key k e)
      where
        by : IsNamedIn p key → IsMet p.files codes key
        by (of_any same) = subst (IsMet p.files codes) same (let r = is.checked.exports.root in of_class _ r.found)
        by (by_insn n m there j insn at h) = insn_met n m there j insn at key h
        by (by_handler n m there j c at h) = catch_met n m there j c at key h
