-- Where the instructions and the handlers of a package's methods come from.
use Rattle.std.proofs.Common.{◌≡◌, ℕ, ◌<◌, refl, sym, subst, ◌∙◌, arith, true, List, []}
use Rattle.std.specs.Prelude.{Some, None, slice_get}
use Rattle.std.specs.List.{Contains}
use Rattle.cjc_bytes.specs.declared.fault.MemberId.{MemberId}
use Rattle.cjc_jvm_semantics.specs.Linked.{Method}
use Rattle.cjc_jvm_semantics.specs.OnePackage.{method_at, method_by}
use Rattle.cjc_world.specs.ClassFile.Code.{CodeTree}
use Rattle.cjc_world.specs.ClassFile.declared.tree.Catch.{Catch}
use Rattle.cjc_world.specs.ClassFile.declared.tree.ClassTree.{ClassTree}
use Rattle.cjc_world.specs.ClassFile.declared.tree.MethodTree.{MethodTree}
use Rattle.cjc_components.specs.Bytecode.declared.insn.JOp.{JOp}
use Rattle.cjc_components.specs.Bytecode.declared.method_code.MethodCode.{MethodCode}
use Rattle.cjc_components.specs.Package.{LaidMethod, Package, pool}
use Rattle.cjc_narrow_proof.specs.Sources.{IsWrittenFor, names_nothing}
use Rattle.cjc_narrow_proof.specs.Laws.Unbroken.{IsInsnOf}
use Rattle.cjc_ncode.specs.PoolOrder.{insn_keys}
use Rattle.cjc_ncode.specs.declared.narrow.NCatch.{NCatch}
use Rattle.cjc_ncode.specs.declared.narrow.NInsn.{NInsn}
use Rattle.cjc_ncode.specs.declared.narrow.NInsn.TheVariants as insns
use Rattle.cjc_token_proof.specs.List.Listed.{ListTree}
use Rattle.cjc_token_proof.specs.Narrow.Rows.Resolved.{resolution}
use Rattle.cjc_token_proof.specs.Narrow.Rows.Selected.{near_fields}
use Rattle.cjc_token_proof.specs.Types.Tables.{IsMethodOf}
use Rattle.cjc_token_proof.specs.WrittenSends.Named.{NamesAsWritten, as_written, no_key}
use Rattle.cjc_world.specs.Files.{Files}
use Rattle.cjc_shape_proof.specs.Written.Checked.{IsOfFiles}
use Rattle.cjc_shape_proof.proofs.WrittenLaws.Coded.{ComesFrom, HasHolder, comes_from, from_abstract, from_code}
use Rattle.cjc_shape_proof.proofs.WrittenLaws.Coded.{from_none, insn_of}
use Rattle.cjc_shape_proof.proofs.WrittenLaws.Coded as coded
use Rattle.cjc_shape_proof.proofs.WrittenLaws.Sources.{one_source}

-- It names nothing, or there is an instruction of the class file, in code of this class, for which it is written.
pub data HasSource (files : Files) (codes : List MethodCode) (near : List MemberId) (class : ClassTree)
    (insn : NInsn) : Type 0 where
  no_source : names_nothing insn ≡ true → HasSource files codes near class insn
  of_insn : (op : JOp) → IsInsnOf files codes class op → IsWrittenFor (resolution files near class.name) op insn
      → HasSource files codes near class insn

-- The handler of the class file for which one is written.
pub record HasCatch (files : Files) (codes : List MethodCode) (c : NCatch) : Type 0 where
  pub code : MethodCode
  pub class : ClassTree
  pub method : MethodTree
  pub tree : CodeTree
  pub of : IsMethodOf files code class method tree
  pub listed : Contains codes code
  pub handler : Catch
  pub there : Contains tree.catches handler
  pub same : handler.class ≡ c.class

-- what has no key names nothing
keyless : (i : NInsn) → insn_keys i ≡ [] → names_nothing i ≡ true
keyless (insns.Op op) h = refl
keyless (insns.Push op value) h = refl
keyless (insns.Local op index) h = refl
keyless (insns.Inc op index by) h = refl
keyless (insns.Words op a b) h = refl
keyless (insns.Jump op target) h = refl
keyless (insns.Switch op other low cases) h = refl
keyless (insns.Named op key) h = absurd cc
keyless (insns.Interface nargs id) h = absurd cc
keyless (insns.NewArray number) h = refl
keyless (insns.TypeTest op number None) h = refl
keyless (insns.TypeTest op number (Some c)) h = absurd cc

module _ (list : ListTree) (codes : List MethodCode) (p : Package) (is : IsOfFiles list codes p) where
  abbrev near : List MemberId
  near = near_fields (pool p)

  abbrev pub holder : (k : ℕ) (m : LaidMethod) → slice_get p.methods k ≡ Some m → HasHolder list codes p is.checked
      is.methods
      m
  holder = coded.holder list codes p is.checked is.methods

  pub has_source : (k : ℕ) (m : LaidMethod) (e : slice_get p.methods k ≡ Some m) (j : ℕ) (insn : NInsn)
      → (let code = m.code in slice_get code.insns j ≡ Some insn) → HasSource p.files codes near
      (let h = coded.holder list codes p is.checked is.methods k m e in h.class) insn
  has_source k m e j insn f = by n.0 n.1 n.2
    where
      n : (from : Method) × (method_at p.files m.member ≡ Some from)
          × NamesAsWritten (resolution p.files near (let id = from.id in id.class)) from.insns insn
      n = is.names k m e j insn f

      by : (from : Method) → method_at p.files m.member ≡ Some from
          → NamesAsWritten (resolution p.files near (let id = from.id in id.class)) from.insns insn
          → HasSource p.files codes near (let h = coded.holder list codes p is.checked is.methods k m e in h.class) insn
      by from there (no_key none) = no_source (keyless insn none)
      by from there (as_written q l x role place is_x is_i) =
          let s = insn_of list codes p is.checked is.methods k m e from there q x is_x in
          of_insn x.op s.1
          (subst (λ name. IsWrittenFor (resolution p.files near name) x.op insn) s.0
          (one_source (resolution p.files near (let id = from.id in id.class)) role place x l insn is_i))

  pub has_catch : (k : ℕ) (m : LaidMethod) (e : slice_get p.methods k ≡ Some m) (j : ℕ) (c : NCatch)
      → (let code = m.code in slice_get code.catches j ≡ Some c) → HasCatch p.files codes c
  has_catch k m e j c f = by (comes_from list codes p is.checked is.methods k m e)
    where
      h : (from : Method) × (method_at p.files m.member ≡ Some from)
          × ((h : Catch) × Contains from.catches h × (h.class ≡ c.class))
      h = is.catches k m e j c f

      by : ComesFrom p.files codes m → HasCatch p.files codes c
      by (from_none none) = (let clash : None ≡ Some h.0 = sym none ∙ h.1 in absurd cc)
      by (from_abstract class method known) =
          let both : Some (method_by class method None) ≡ Some h.0 = sym known ∙ h.1 in
          let same : h.0 ≡ method_by class method None = cc in
          let caught : Contains [] h.2.0 = subst (λ (q : Method). Contains q.catches h.2.0) same h.2.1 in
          let below : caught.0 < 0 = caught.1 in
          absurd (omega (arith, below))
      by (from_code d) =
          let both : Some (method_by d.class d.method (Some d.tree)) ≡ Some h.0 = sym d.known ∙ h.1 in
          let same : h.0 ≡ method_by d.class d.method (Some d.tree) = cc in
          record {
            code = d.code;
            class = d.class;
            method = d.method;
            tree = d.tree;
            of = d.of;
            listed = d.listed;
            handler = h.2.0;
            there = subst (λ (q : Method). Contains q.catches h.2.0) same h.2.1;
            same = h.2.2;
          }
