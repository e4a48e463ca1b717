-- What is written for a method in int mode of a package by modes can be written.
use Rattle.std.proofs.Common.{◌≡◌, ℕ, ◌≤◌, sym, ap, subst, ◌∙◌, true, List}
use Rattle.std.specs.Prelude.{Option, Some, slice_get, ℤ}
use Rattle.cjc_bytes.specs.declared.fault.MemberId.{MemberId}
use Rattle.cjc_check_proof.specs.Intervals.Frames.{RangeState}
use Rattle.cjc_classes.specs.Emit.Emitted.{CanBeWritten, placed_at}
use Rattle.cjc_classes.specs.Layout.Legal.{IsLeast}
use Rattle.cjc_classes.specs.Narrow.Rows.Resolved.{resolution}
use Rattle.cjc_classes.specs.Narrow.Rows.Selected.{near_fields}
use Rattle.cjc_classes.specs.Types.Flow.{Body, body_of}
use Rattle.cjc_classes.specs.Types.Tables.{Breach, IsLeastTable, IsMethodOf}
use Rattle.cjc_classes.specs.Types.declared.state.State.{State}
use Rattle.cjc_components.specs.Bytecode.declared.method_code.MethodCode.{MethodCode}
use Rattle.cjc_components.specs.Package.{LaidMethod}
use Rattle.cjc_int_narrow.specs.LowerIntMode.Room.{IsRoom}
use Rattle.cjc_int_narrow.specs.LowerIntMode.Written.{written_in_int_mode}
use Rattle.cjc_int_narrow.specs.LowerIntMode.declared.modes.Mode.TheVariants as modes
use Rattle.cjc_int_narrow.specs.LowerIntProof.Operands.{IsInt}
use Rattle.cjc_narrow_proof.specs.NCode.Lowering.Naming.{Naming}
use Rattle.cjc_narrow_proof.specs.NCode.Written.{Resolution}
use Rattle.cjc_narrow_proof.specs.NCode.declared.narrow.NInsn.{NInsn}
use Rattle.cjc_narrow_proof.specs.NCode.declared.narrow.NMethod.{NMethod}
use Rattle.cjc_narrow_proof.specs.NCode.declared.narrow.PoolKey.{PoolKey}
use Rattle.cjc_narrow_proof.specs.Selected.Keeps.{IsSpelt}
use Rattle.cjc_narrow_proof.specs.Selected.Operands.{IsSmall, NumbersFit}
use Rattle.cjc_world.specs.ClassFile.Code.{CodeTree}
use Rattle.cjc_world.specs.ClassFile.declared.tree.ClassTree.{ClassTree}
use Rattle.cjc_world.specs.ClassFile.declared.tree.MethodTree.{MethodTree}
use Rattle.cjc_world.specs.Classes.{all_classes}
use Rattle.cjc_world.specs.Files.{Files}
use Rattle.cjc_int_components.proofs.ByTables.{int_written}
use Rattle.cjc_int_selection.proofs.Emitted.{int_said}

module _ (files : Files) (code : MethodCode) (class : ClassTree) (method : MethodTree) (tree : CodeTree)
    (is : IsMethodOf files code class method tree) (bytes : List ℕ) (spelt : IsSpelt class bytes)
    (rows : List (Option State)) (least : IsLeastTable (body_of class method tree code.insns) rows)
    (typed : (place rule : ℕ) → Breach (all_classes files) (body_of class method tree code.insns) rows place rule → ⊥)
    (room : IsRoom (body_of class method tree code.insns) rows modes.Int true) (ks : List PoolKey)
    (constants : (g : MemberId) (z : ℤ) → (resolution files (near_fields ks) class.name).constant g ≡ Some z → IsInt z)
    (ranges : List (Option RangeState)) where
  abbrev b : Body
  b = body_of class method tree code.insns

  abbrev r : Resolution
  r = resolution files (near_fields ks) class.name

  abbrev narrow : NMethod
  narrow = written_in_int_mode r tree b rows ranges

  pub int_can_be_written : (low n : Naming) → IsSmall low ks → (m : LaidMethod) → m.code ≡ narrow
      → (let c = m.code in IsLeast c.insns m.wide) → (let c = m.code in c.widest ≤ 32767)
      → ((k : ℕ) (i : NInsn) → (let c = m.code in slice_get c.insns k ≡ Some i) → NumbersFit low i → NumbersFit n i)
      → CanBeWritten n (placed_at 0 m.code m.wide)
  int_can_be_written low n small m made wide few stay =
      let there : (k : ℕ) (i : NInsn) → (let c = m.code in slice_get c.insns k ≡ Some i)
      → slice_get narrow.insns k ≡ Some i = λ k i e. ap (λ (c : NMethod). slice_get c.insns k) (sym made) ∙ e in
      let back : (k : ℕ) (i : NInsn) → slice_get narrow.insns k ≡ Some i
      → (let c = m.code in slice_get c.insns k ≡ Some i) =
      λ k i e. ap (λ (c : NMethod). slice_get c.insns k) made ∙ e in
      let short : narrow.widest ≤ 32767 = subst (λ (c : NMethod). c.widest ≤ 32767) made few in
      int_written files code class method tree is n m rows least ranges r made wide few
      (λ k i e. int_said files code class method tree is bytes spelt rows least typed room ks constants ranges low n
      small short (λ q x f fit. stay q x (back q x f) fit) k i (there k i e))
