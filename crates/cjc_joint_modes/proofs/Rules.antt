-- Each reached instruction of a method that is not in int mode keeps its rule among methods of both modes of several
-- packages.
use Rattle.std.proofs.Common.{◌≡◌, ◌+◌, ℕ, suc, true, false, List, slice_get, Option, Some, refl, sym}
use Rattle.std.proofs.Common.{Bool, ap, subst, ◌∙◌, arith}
use Rattle.cjc_bytes.specs.Descriptor.{IsClassName}
use Rattle.cjc_bytes.specs.declared.fault.MemberId.{MemberId}
use Rattle.cjc_bytes.proofs.Gets.{get_below, get_inside}
use Rattle.cjc_code.specs.declared.insn.JInsn.{JInsn}
use Rattle.cjc_code.specs.declared.insn.JOp.{JOp}
use Rattle.cjc_code.specs.declared.insn.JOp.TheVariants as jop
use Rattle.cjc_script.specs.Sorts.{Sort}
use Rattle.cjc_world.specs.Classes.{Class, class_named}
use Rattle.cjc_world.specs.Files.{Files}
use Rattle.cjc_world.specs.declared.image.StaticImage.{StaticImage}
use Rattle.cjc_types.specs.Fixpoint.Tables.{HasRow}
use Rattle.cjc_types.specs.Search.{cells_of}
use Rattle.cjc_types.specs.declared.state.State.{State}
use Rattle.cjc_ncode.specs.ByLabel.{Named}
use Rattle.cjc_jvm_semantics.specs.Group.{group_linked}
use Rattle.cjc_jvm_semantics.specs.Linked.{Method, Linked}
use Rattle.cjc_narrow_proof.specs.Runs.Tables.{Tables}
use Rattle.cjc_narrow_proof.specs.Selection.Tables.{Point}
use Rattle.cjc_narrow_proof.specs.Tables.Analysis.{Analysis, TypesAreTold, ThrowablesMay, table_of}
use Rattle.cjc_narrow_proof.specs.Tables.Arrays.{ClassesAreNamed}
use Rattle.cjc_narrow_proof.specs.Tables.Calls.{IsWhole, IsWordDesc}
use Rattle.cjc_narrow_proof.specs.Tables.Package.{leaves_frame}
use Rattle.cjc_narrow_proof.specs.Tables.Pairs.{StandsAlone}
use Rattle.cjc_narrow_proof.proofs.TablesLaws.Points.{within_at}
use Rattle.cjc_int_runs.specs.ByModes.{ShortRule, within_frame}
use Rattle.cjc_int_runs.specs.IntFrames.{IntBody}
use Rattle.cjc_int_alike.specs.Callees.{IsShortBegun}
use Rattle.cjc_int_alike.specs.Named.{IsOneWord}
use Rattle.cjc_int_alike.proofs.Callees.{called_by_mode}
use Rattle.cjc_int_alike.proofs.ShortCalls.{call_goes_out}
use Rattle.cjc_int_alike.proofs.ShortRules.{Leaves, it_calls, it_returns, outside, stays, which}
use Rattle.cjc_int_alike.proofs.ShortReturns.{return_at}
use Rattle.cjc_joint_theorem.specs.Together.Homes.{Homes, joint_world, HasTablesIn}
use Rattle.cjc_joint_modes.specs.Codes.{group_analysis_by_mode, group_bodies_by_mode, group_look_ups_by_mode}
use Rattle.cjc_joint_modes.specs.Codes.{result_for}
use Rattle.cjc_joint_modes.specs.Names.{AreIntNamedIn}
use Rattle.cjc_joint_modes.proofs.Begun.{short_begun}
use Rattle.cjc_joint_modes.proofs.Named.{called_here, return_here, supported_short}

-- ---- a method

module _ (group : List Files) (image : StaticImage) (homes : Homes) (tables : Tables) (is_int : Method → Bool)
    (class_names : (name : List ℕ) (c : Class) → class_named (joint_world group) name ≡ Some c → IsClassName name)
    (m : Method) (has : HasTablesIn group homes tables m) (off : is_int m ≡ false)
    (named : AreIntNamedIn group image homes tables is_int m)
    (words : (at : ℕ) (i : JInsn) (t : State) → slice_get m.insns at ≡ Some i → HasRow (tables.types m) at t
    → IsOneWord i.op) where
  abbrev w : List Class
  w = joint_world group

  abbrev by : Linked
  by = group_linked group image

  abbrev l : Named
  l = group_look_ups_by_mode group image homes tables is_int

  abbrev a : Analysis
  a = group_analysis_by_mode group image homes tables is_int

  abbrev bodies : Method → Option IntBody
  bodies = group_bodies_by_mode group image homes tables is_int

  abbrev results : Method → Option Sort
  results = result_for

  begun : IsShortBegun by l w a bodies results m
  begun = short_begun group image homes tables is_int m has off

  whole : IsWhole by l w a m
  whole = let b = begun in b.whole

  alone_here : (at : ℕ) (i : JInsn) (t : State) → slice_get m.insns at ≡ Some i → HasRow (tables.types m) at t
      → leaves_frame i.op ≡ true → StandsAlone (a.resolution m) m.insns (a.opened m) at
  alone_here at i t there row leaves =
      let pairs = (let n = whole in n.read).pairs in
      let h = outside (pairs.each at i t there row) leaves in
      let next : at + 1 ≡ suc at = omega arith in
      record {
        before = h.before_it;
        alone = λ j e. (let same : i ≡ j = (let f : Some i ≡ Some j = sym there ∙ e in cc)
            in ap (λ (j : JInsn). (let r = a.resolution m in r.role j.at)) (sym same) ∙ h.alone);
        behind = ap (a.opened m) next ∙ h.behind_it;
      }

  abbrev Keeps : (at : ℕ) → Point → JInsn → Type 0
  Keeps at p i = ShortRule by l (table_of l a) bodies results m at p i

  module _ (types : TypesAreTold w l) (arrays : ClassesAreNamed w l) (may : ThrowablesMay l a) (at : ℕ) (p : Point)
      (known : (let tb = table_of l a in tb.point m at ≡ Some p)) (t : State) (row : HasRow (tables.types m) at t) where
    by_op : (offset : ℕ) (op : JOp) → slice_get m.insns at ≡ Some (record { at = offset; op = op }) → Leaves op
        → Keeps at p (record { at = offset; op = op })
    by_op offset op there (stays e) =
        let i : JInsn = record { at = offset; op = op } in
        let n = whole in
        let rule = within_at by l w a m n.read n.decoded n.sound n.told types arrays may at i p there known e
        (λ u reached. supported_short group image homes tables is_int class_names m has.home off (cells_of u.stack) op
        (named at i u there reached) (words at i u there reached) e) in
        within_frame rule.rule rule.is_within
    by_op offset _ there (it_calls {op = op} {id = id}) =
        let i : JInsn = record { at = offset; op = jop.Call op id } in
        call_goes_out by l w a bodies results m whole types at i p (alone_here at i t there row refl) there known
        (λ u reached. called_by_mode by l w a bodies results (a.resolution m) m (cells_of u.stack) (jop.Call op id)
        (called_here group image homes tables is_int class_names m has.home off (cells_of u.stack) op id
        (named at i u there reached)))
        (λ opcode other e. (let same : id ≡ other = cc in subst (λ (n : MemberId). IsWordDesc n.desc) same
        (words at i t there row)))
    by_op offset _ there (it_returns {opcode = opcode}) =
        let i : JInsn = record { at = offset; op = jop.Return opcode } in
        return_at by l w a bodies results m begun types at offset opcode p (alone_here at i t there row refl) there
        known (return_here group image homes tables is_int class_names m has.home off (cells_of t.stack) opcode
        (named at i t there row))

    -- The instruction at a point of the table keeps its rule.
    pub short_rule : (i : JInsn) × ((slice_get m.insns at ≡ Some i) × Keeps at p i)
    short_rule =
        let lt = get_below (tables.types m) at (Some t) row in
        let sized = (let n = whole in n.sound).types.sized in
        let i = get_inside m.insns at (omega (arith, lt, sized)) in
        let j = i.0 in
        (i.0, (i.1, by_op j.at j.op i.1 (which j.op)))
