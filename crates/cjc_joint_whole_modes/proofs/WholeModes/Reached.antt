-- A reached instruction of a method of either mode is one of its package's code, and its operands are of the types that
-- it takes.
use Rattle.std.proofs.Common.{◌≡◌, ℕ, refl, sym, ap, subst, ◌∙◌, Bool, false, List, Some}
use Rattle.std.specs.List.{Contains}
use Rattle.std.specs.Prelude.{slice_get}
use Rattle.cjc_code.specs.declared.insn.JInsn.{JInsn}
use Rattle.cjc_code.specs.declared.method_code.MethodCode.{MethodCode}
use Rattle.cjc_jvm_semantics.specs.Linked.{Method}
use Rattle.cjc_jvm_semantics.specs.OnePackage.{is_initialiser, method_by}
use Rattle.cjc_types.specs.Fixpoint.Tables.{HasRow}
use Rattle.cjc_types.specs.Flow.{body_of}
use Rattle.cjc_types.specs.Rules.{Breaks, clash}
use Rattle.cjc_types.specs.Search.{cells_of}
use Rattle.cjc_types.specs.declared.state.Stack.{Stack}
use Rattle.cjc_types.specs.declared.state.Stack.TheVariants as stacks
use Rattle.cjc_types.specs.declared.state.State.{State}
use Rattle.cjc_world.specs.Classes.{all_classes}
use Rattle.cjc_narrow_proof.specs.Runs.Tables.{HasTables}
use Rattle.cjc_narrow_proof.proofs.TablesLaws.Typed.{IsTypedRow, typed_row}
use Rattle.cjc_int_alike.specs.ByModes.{HasIntTables}
use Rattle.cjc_int_theorem.specs.Tabled.{AreTabledByModes, IsTabledByMode, tabled_int, tabled_short}
use Rattle.cjc_joint_theorem.specs.Members.{Member}
use Rattle.cjc_joint_whole.proofs.WholeLaws.Reached.{IsReached, insn_here, reached_by, reached_so}
use Rattle.cjc_joint_whole_modes.specs.Whole.{AreWholeByModes}

module _ (members : List Member) (modes : ℕ → Method → Bool) (is : AreWholeByModes members modes) (q : ℕ) (p : Member)
    (at : slice_get members q ≡ Some p) where
  abbrev codes : List MethodCode
  codes = let one = is.each q p at in one.codes

  pub tabled_at : AreTabledByModes p.files codes p.tables (modes q)
  tabled_at = let one = is.each q p at in let coded = one.coded in coded.tabled

  module _ (m : Method) (plain : (let id = m.id in is_initialiser id.name) ≡ false) (place : ℕ) (i : JInsn) (x : State)
      (there : slice_get m.insns place ≡ Some i) (row : HasRow (let t = p.tables in t.types m) place x) where
    -- in int mode
    of_int : (has : HasIntTables p.files p.tables m) → Contains codes has.code → IsReached p.files codes m i.op x
    of_int has listed = reached_so p.files codes has.code has.class has.method has.tree has.of_package written listed m
        has.is place i x there typed.operands
      where
        written : (let k = has.method in is_initialiser k.name) ≡ false
        written = ap (λ (n : Method). is_initialiser (let id = n.id in id.name)) (sym has.is) ∙ plain

        row_here : HasRow (let t = p.tables in t.types (method_by has.class has.method (Some has.tree))) place x
        row_here = subst (λ (n : Method). HasRow (let t = p.tables in t.types n) place x) has.is row

        broken : (rule : ℕ) → Breaks (all_classes p.files) (body_of has.class has.method has.tree (let code = has.code
            in code.insns)) i.op x rule → ⊥
        broken rule breaks = has.unbroken place rule (record {
          insn = i;
          is_insn = insn_here p.files codes has.code has.class has.method has.tree has.of_package written listed m has.is
              place i there;
          state = x;
          reached = row_here;
          breaks = breaks;
        })

        whole : (s : Stack) → x.stack ≡ s → s ≡ stacks.Cells (cells_of s)
        whole (stacks.Cells cells) e = refl
        whole stacks.Clash e = absurd (broken 501 (subst (λ s. Breaks (all_classes p.files) (body_of has.class has.method
            has.tree (let code = has.code in code.insns)) i.op (record { stack = s; locals = x.locals }) 501) (sym e)
            (clash x.locals)))

        typed : IsTypedRow (all_classes p.files) (body_of has.class has.method has.tree (let code = has.code
            in code.insns)) i.op x
        typed = typed_row (all_classes p.files) (body_of has.class has.method has.tree (let code = has.code
            in code.insns)) i.op x (whole x.stack refl) broken

    -- outside
    of_short : (has : HasTables p.files p.tables m) → Contains codes has.code → IsReached p.files codes m i.op x
    of_short has listed = reached_by p.files codes has.code has.class has.method has.tree has.of_package
        (ap (λ (n : Method). is_initialiser (let id = n.id in id.name)) (sym has.is) ∙ plain) listed m has.is has.table
        has.is_table (let t = p.tables in t.types m) has.types place i x there row

    by_mode : IsTabledByMode p.files codes p.tables (modes q) m → IsReached p.files codes m i.op x
    by_mode (tabled_int e has listed) = of_int has listed
    by_mode (tabled_short e has listed free) = of_short has listed

  pub reached_by_mode : (m : Method) (place : ℕ) (i : JInsn) (x : State) → slice_get m.insns place ≡ Some i
      → HasRow (let t = p.tables in t.types m) place x → IsReached p.files codes m i.op x
  reached_by_mode m place i x there row =
      let t = tabled_at in
      let own = t.only m place x row in
      let plain : (let id = m.id in is_initialiser id.name) ≡ false = ap (λ (n : Method). is_initialiser (let id = n.id
      in id.name)) own.is ∙ own.plain in
      by_mode m plain place i x there row (t.own m own)
