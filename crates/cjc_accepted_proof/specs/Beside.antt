-- Methods of Method beside the methods of class files that they are written for.
use Rattle.std.specs.Prelude.{◌≡◌, ◌<◌, ℕ, suc, false, List, [], ◌∷◌, length, map, is_some, slice_get, Option, Some, ℤ}
use Rattle.std.specs.List.{Contains}
use Rattle.cjc_types.specs.Bytecode.declared.insn.JInsn.{JInsn}
use Rattle.cjc_types.specs.Bytecode.declared.insn.JOp.TheVariants.{Static}
use Rattle.cjc_types.specs.Bytecode.declared.method_code.MethodCode.{MethodCode}
use Rattle.cjc_types.specs.Bytes.declared.fault.MemberId.{MemberId}
use Rattle.cjc_types.specs.ClassFile.Code.{CodeTree}
use Rattle.cjc_types.specs.ClassFile.declared.tree.ClassTree.{ClassTree}
use Rattle.cjc_types.specs.ClassFile.declared.tree.MethodTree.{MethodTree}
use Rattle.cjc_types.specs.Fixpoint.Tables.{HasRow}
use Rattle.cjc_types.specs.Flow.{Body as BodyByName, body_of}
use Rattle.cjc_types.specs.Tables.{Breach, IsLeastTable, IsMethodOf}
use Rattle.cjc_types.specs.Types.{parts, result_of}
use Rattle.cjc_types.specs.declared.cell.Cell.TheVariants.{Number}
use Rattle.cjc_types.specs.declared.state.State.{State}
use Rattle.cjc_check_proof.specs.JvmSemantics.OnePackage.{method_at, method_by}
use Rattle.cjc_check_proof.specs.NCode.Written.{Resolution, catches_at, narrow_code, place_in, reached}
use Rattle.cjc_check_proof.specs.NCode.declared.narrow.NInsn.{NInsn}
use Rattle.cjc_verify.specs.CardActs.CardTypes.{ValueType}
use Rattle.cjc_verify.specs.Components.Package.{LaidMethod, Package, world}
use Rattle.cjc_verify.specs.Narrow.Pairs.Open.{Open, closed, open_at}
use Rattle.cjc_verify.specs.Narrow.Pairs.Roles.{steps_of, with_pairs}
use Rattle.cjc_verify.specs.Narrow.Rows.Resolved.{resolution}
use Rattle.cjc_frames.specs.declared.acts.Step.{Step}
use Rattle.cjc_accepted_proof.specs.Coded.{card_type, is_of, label_at, step_of}
use Rattle.cjc_accepted_proof.specs.Frames.{IsTypeFor}
use Rattle.cjc_accepted_proof.specs.Methods.{RowStands}

-- The fields of which a constant is pushed hold numbers.
abbrev pub ConstantsAreNumbers : Resolution → BodyByName → List (Option State) → Type 0
ConstantsAreNumbers r b rows = (at : ℕ) (i : JInsn) (x : State) (f : MemberId) (z : ℤ) → slice_get b.insns at ≡ Some i
    → HasRow rows at x → i.op ≡ Static false f → r.constant f ≡ Some z
    → (let d = parts f.desc in result_of d.result) ≡ Number ∷ []

-- A method of Method, and the method of a class file that it is written for.
pub record Beside : Type 0 where
  -- where its header stands in Method's info, what is laid there, and the type of its result on the card
  pub offset : ℕ
  pub laid : LaidMethod
  pub result : ValueType
  -- the method with its decoded code, and its least type table
  pub code : MethodCode
  pub class : ClassTree
  pub method : MethodTree
  pub tree : CodeTree
  pub rows : List (Option State)
  -- the instance fields that have an index of one byte
  pub near : List MemberId

-- what inference reads of the method of the class file
abbrev pub body_by_name : Beside → BodyByName
body_by_name m = let code = m.code in body_of m.class m.method m.tree code.insns

-- the instructions that its least table reaches
abbrev pub reached_in : Beside → List JInsn
reached_in m = let code = m.code in reached code.insns m.rows

module _ (p : Package) (m : Beside) where
  -- what its names stand for, before roles are known
  abbrev pub plain_names : Resolution
  plain_names = let class = m.class in resolution p.files m.near class.name

  -- with the roles of its instructions
  abbrev pub names_in : Resolution
  names_in = with_pairs plain_names (body_by_name m) (map is_some m.rows)

  -- what is open before each of its instructions
  abbrev pub opened_in : (at : ℕ) → Open
  opened_in = open_at closed (steps_of plain_names (body_by_name m) (map is_some m.rows))

  -- the label of what is written for an offset
  abbrev pub label_in : (offset : ℕ) → ℕ
  label_in = place_in names_in (reached_in m)

  -- the offset of a label in Method's info
  abbrev pub offset_in : (label : ℕ) → ℕ
  offset_in = label_at p m.offset m.laid

  -- a written instruction where it is laid
  abbrev pub step_in : (label : ℕ) → NInsn → Step
  step_in = step_of p m.result m.offset m.laid

  -- The one is written for the other, whose code is among these.
  pub record IsBeside (codes : List MethodCode) : Type 0 where
    pub number : ℕ
    pub is_laid : slice_get p.methods number ≡ Some m.laid
    pub named : (let laid = m.laid in method_at p.files laid.member) ≡ Some (method_by m.class m.method (Some m.tree))
    pub is_method : IsMethodOf p.files m.code m.class m.method m.tree
    pub listed : Contains codes m.code
    pub some : (let tree = m.tree in 0 < length tree.bytes)
    pub least : IsLeastTable (body_by_name m) m.rows
    pub unbroken : (place rule : ℕ) → Breach (world p) (body_by_name m) m.rows place rule → ⊥
    pub insns : (let laid = m.laid in let code = laid.code in code.insns) ≡ narrow_code names_in (reached_in m)
    pub catches : (let laid = m.laid in let code = laid.code in code.catches) ≡ (let tree = m.tree
        in catches_at label_in tree.catches)
    pub result : (let method = m.method in let d = parts method.desc in let r = d.result
        in IsTypeFor (card_type p) r.kind r.class m.result)

  -- The rows of its reached instructions outside of pairs stand.
  abbrev pub RowsStandAlone : Type 0
  RowsStandAlone = (at : ℕ) (i : JInsn) (x : State) → (let code = m.code in slice_get code.insns at ≡ Some i)
      → HasRow m.rows at x → opened_in at ≡ closed → opened_in (suc at) ≡ closed
      → (let tree = m.tree in RowStands (card_type p) (is_of p) names_in (body_by_name m) m.rows opened_in step_in
      tree.max_locals tree.max_stack offset_in at (label_in i.at) i x)
