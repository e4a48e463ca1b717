-- Each reached instruction of a method that is not in int mode keeps its rule among methods of both modes.
use Rattle.std.proofs.Common.{◌≡◌, ◌+◌, ℕ, suc, true, false, List, slice_get, Option, Some, refl, sym}
use Rattle.std.proofs.Common.{Bool, ap, subst, ◌∙◌, arith}
use Rattle.cjc_bytes.specs.Descriptor.{IsClassName}
use Rattle.cjc_bytes.specs.declared.fault.MemberId.{MemberId}
use Rattle.cjc_bytes.proofs.Gets.{get_below, get_inside}
use Rattle.cjc_code.specs.declared.insn.JInsn.{JInsn}
use Rattle.cjc_code.specs.declared.insn.JOp.{JOp}
use Rattle.cjc_code.specs.declared.insn.JOp.TheVariants as jop
use Rattle.cjc_script.specs.Sorts.{Sort}
use Rattle.cjc_world.specs.Classes.{Class, all_classes, class_named}
use Rattle.cjc_world.specs.Files.{Files}
use Rattle.cjc_world.specs.declared.image.StaticImage.{StaticImage}
use Rattle.cjc_types.specs.Fixpoint.Tables.{HasRow}
use Rattle.cjc_types.specs.Search.{cells_of}
use Rattle.cjc_types.specs.declared.state.State.{State}
use Rattle.cjc_ncode.specs.ByLabel.{Named}
use Rattle.cjc_ncode.specs.Written.{Resolution}
use Rattle.cjc_ncode.specs.declared.narrow.PairRole.{PairRole}
use Rattle.cjc_ncode.specs.declared.narrow.PairRole.TheVariants.{Alone}
use Rattle.cjc_jvm_semantics.specs.ByName.{linked}
use Rattle.cjc_jvm_semantics.specs.Linked.{Method, Linked}
use Rattle.cjc_narrow.specs.Pairs.Open.{Open, closed}
use Rattle.cjc_narrow_proof.specs.Runs.Tables.{HasTables, Tables}
use Rattle.cjc_narrow_proof.specs.Selection.Tables.{Point}
use Rattle.cjc_narrow_proof.specs.Tables.Analysis.{Analysis, TypesAreTold, ThrowablesMay, table_of}
use Rattle.cjc_narrow_proof.specs.Tables.Arrays.{ClassesAreNamed}
use Rattle.cjc_narrow_proof.specs.Tables.Calls.{IsWhole, IsWordDesc}
use Rattle.cjc_narrow_proof.specs.Tables.Package.{leaves_frame}
use Rattle.cjc_narrow_proof.specs.Tables.Pairs.{IsInPair, StandsAlone, stands_alone, opens, goes_on, pushes, gets, puts}
use Rattle.cjc_narrow_proof.specs.Tables.Pairs.{a_nop, a_narrow, a_null, a_number, a_local, a_constant}
use Rattle.cjc_narrow_proof.proofs.TablesLaws.Points.{within_at}
use Rattle.cjc_int_runs.specs.ByModes.{ShortRule, within_frame}
use Rattle.cjc_int_runs.specs.IntFrames.{IntBody}
use Rattle.cjc_int_alike.specs.ByModes.{analysis_by_mode, bodies_by_mode, look_ups_by_mode, result_in}
use Rattle.cjc_int_alike.specs.Callees.{IsShortBegun}
use Rattle.cjc_int_alike.specs.Named.{IsIntNamed, IsOneWord}
use Rattle.cjc_int_alike.proofs.Callees.{called_by_mode}
use Rattle.cjc_int_alike.proofs.Short.{short_begun}
use Rattle.cjc_int_alike.proofs.ShortCalls.{call_goes_out}
use Rattle.cjc_int_alike.proofs.ShortNamed.{called_here, return_here, supported_short}
use Rattle.cjc_int_alike.proofs.ShortReturns.{return_at}

-- ---- calls and returns

-- what an instruction does to the frame
pub data Leaves : JOp → Type 0 where
  stays : {op : JOp} → leaves_frame op ≡ false → Leaves op
  it_calls : {op : ℕ} {id : MemberId} → Leaves (jop.Call op id)
  it_returns : {opcode : ℕ} → Leaves (jop.Return opcode)

pub which : (op : JOp) → Leaves op
which jop.Nop = stays refl
which jop.Null = stays refl
which (jop.Number z) = stays refl
which (jop.Load refs k) = stays refl
which (jop.Store refs k) = stays refl
which (jop.ArrayLoad n) = stays refl
which (jop.ArrayStore n) = stays refl
which (jop.Stack n) = stays refl
which (jop.Arith n) = stays refl
which (jop.Inc k z) = stays refl
which (jop.Narrow n) = stays refl
which (jop.If n target) = stays refl
which (jop.Goto target) = stays refl
which (jop.TableSwitch other low targets) = stays refl
which (jop.LookupSwitch other cases) = stays refl
which (jop.Return n) = it_returns
which (jop.Static put id) = stays refl
which (jop.Field put id) = stays refl
which (jop.Call op id) = it_calls
which (jop.New name) = stays refl
which (jop.NewArray n) = stays refl
which (jop.ANewArray name) = stays refl
which jop.ArrayLength = stays refl
which jop.Throw = stays refl
which (jop.CheckCast name) = stays refl
which (jop.InstanceOf name) = stays refl

-- a call or a return is in no pair
pub record IsOutside (before : Open) (role : PairRole) (after : Open) : Type 0 where
  pub before_it : before ≡ closed
  pub alone : role ≡ Alone
  pub behind_it : after ≡ closed

pub outside : {r : Resolution} {o p : Open} {op : JOp} {role : PairRole} → IsInPair r o op role p → leaves_frame op ≡ true
    → IsOutside o role p
outside stands_alone e = record { before_it = refl; alone = refl; behind_it = refl }
outside opens e = absurd cc
outside (goes_on opened a_nop) e = absurd cc
outside (goes_on opened (a_narrow other)) e = absurd cc
outside (pushes a_null) e = absurd cc
outside (pushes a_number) e = absurd cc
outside (pushes a_local) e = absurd cc
outside (pushes (a_constant some)) e = absurd cc
outside gets e = absurd cc
outside puts e = absurd cc

-- ---- a method

module _ (files : Files) (image : StaticImage) (near : List MemberId) (tables : Tables) (is_int : Method → Bool)
    (class_names : (name : List ℕ) (c : Class) → class_named (all_classes files) name ≡ Some c → IsClassName name)
    (m : Method) (has : HasTables files tables m) (off : is_int m ≡ false)
    (named : (at : ℕ) (i : JInsn) (t : State) → slice_get m.insns at ≡ Some i → HasRow (tables.types m) at t
    → IsIntNamed files image near tables is_int m (cells_of t.stack) i.op)
    (words : (at : ℕ) (i : JInsn) (t : State) → slice_get m.insns at ≡ Some i → HasRow (tables.types m) at t
    → IsOneWord i.op) where
  abbrev w : List Class
  w = all_classes files

  abbrev by : Linked
  by = linked files image

  abbrev l : Named
  l = look_ups_by_mode files image near tables is_int

  abbrev a : Analysis
  a = analysis_by_mode files image near tables is_int

  abbrev bodies : Method → Option IntBody
  bodies = bodies_by_mode files image near tables is_int

  abbrev results : Method → Option Sort
  results = result_in files image near tables is_int

  begun : IsShortBegun by l w a bodies results m
  begun = short_begun files image near tables is_int m has off

  whole : IsWhole by l w a m
  whole = let b = begun in b.whole

  alone_here : (at : ℕ) (i : JInsn) (t : State) → slice_get m.insns at ≡ Some i → HasRow (tables.types m) at t
      → leaves_frame i.op ≡ true → StandsAlone (a.resolution m) m.insns (a.opened m) at
  alone_here at i t there row leaves =
      let pairs = (let n = whole in n.read).pairs in
      let h = outside (pairs.each at i t there row) leaves in
      let next : at + 1 ≡ suc at = omega arith in
      record {
        before = h.before_it;
        alone = λ j e. (let same : i ≡ j = (let f : Some i ≡ Some j = sym there ∙ e in cc)
            in ap (λ (j : JInsn). (let r = a.resolution m in r.role j.at)) (sym same) ∙ h.alone);
        behind = ap (a.opened m) next ∙ h.behind_it;
      }

  abbrev Keeps : (at : ℕ) → Point → JInsn → Type 0
  Keeps at p i = ShortRule by l (table_of l a) bodies results m at p i

  module _ (types : TypesAreTold w l) (arrays : ClassesAreNamed w l) (may : ThrowablesMay l a) (at : ℕ) (p : Point)
      (known : (let tb = table_of l a in tb.point m at ≡ Some p)) (t : State) (row : HasRow (tables.types m) at t) where
    by_op : (offset : ℕ) (op : JOp) → slice_get m.insns at ≡ Some (record { at = offset; op = op }) → Leaves op
        → Keeps at p (record { at = offset; op = op })
    by_op offset op there (stays e) =
        let i : JInsn = record { at = offset; op = op } in
        let n = whole in
        let rule = within_at by l w a m n.read n.decoded n.sound n.told types arrays may at i p there known e
        (λ u reached. supported_short files image near tables is_int class_names m off (cells_of u.stack) op
        (named at i u there reached) (words at i u there reached) e) in
        within_frame rule.rule rule.is_within
    by_op offset _ there (it_calls {op = op} {id = id}) =
        let i : JInsn = record { at = offset; op = jop.Call op id } in
        call_goes_out by l w a bodies results m whole types at i p (alone_here at i t there row refl) there known
        (λ u reached. called_by_mode by l w a bodies results (a.resolution m) m (cells_of u.stack) (jop.Call op id)
        (called_here files image near tables is_int class_names m off (cells_of u.stack) op id
        (named at i u there reached)))
        (λ opcode other e. (let same : id ≡ other = cc in subst (λ (n : MemberId). IsWordDesc n.desc) same
        (words at i t there row)))
    by_op offset _ there (it_returns {opcode = opcode}) =
        let i : JInsn = record { at = offset; op = jop.Return opcode } in
        return_at by l w a bodies results m begun types at offset opcode p (alone_here at i t there row refl) there
        known (return_here files image near tables is_int class_names m off (cells_of t.stack) opcode
        (named at i t there row))

    -- The instruction at a point of the table keeps its rule.
    pub short_rule : (i : JInsn) × ((slice_get m.insns at ≡ Some i) × Keeps at p i)
    short_rule =
        let lt = get_below (tables.types m) at (Some t) row in
        let sized = (let n = whole in n.sound).types.sized in
        let i = get_inside m.insns at (omega (arith, lt, sized)) in
        let j = i.0 in
        (i.0, (i.1, by_op j.at j.op i.1 (which j.op)))
