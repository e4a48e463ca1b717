-- The narrow code of a package's methods in short mode is the same by any rows that their types stand for.
use Rattle.std.proofs.Common.{◌≡◌, ℕ, ◌-◌, ◌<◌, refl, sym, ap, subst, ◌∙◌, ⊎_elim, arith, List, [], ◌∷◌, length}
use Rattle.std.specs.Prelude.{map, slice_get, All, Option, Some, None}
use Rattle.std.proofs.lemmas.List.Elements.{All-head, All-tail}
use Rattle.std.proofs.lemmas.Option.{slice_get_cases, slice_get_within}
use Rattle.cjc_bytes.specs.declared.fault.MemberId.{MemberId}
use Rattle.cjc_world.specs.ClassFile.Code.{CodeTree}
use Rattle.cjc_world.specs.ClassFile.declared.tree.ClassTree.{ClassTree}
use Rattle.cjc_world.specs.ClassFile.declared.tree.MethodTree.{MethodTree}
use Rattle.cjc_components.specs.Bytecode.declared.method_code.MethodCode.{MethodCode}
use Rattle.cjc_narrow.specs.Rows.Selected.{selected_code}
use Rattle.cjc_pool.specs.NCode.declared.narrow.NInsn.{NInsn}
use Rattle.cjc_pool.specs.NCode.declared.narrow.NMethod.{NMethod}
use Rattle.cjc_narrow.specs.Types.declared.state.State.{State}
use Rattle.cjc_narrow.specs.Types.declared.table.TypeTable.{TypeTable}
use Rattle.cjc_narrow.specs.Types.Tables.{IsMethodOf}
use Rattle.cjc_world.specs.declared.found.Found.{Found}
use Rattle.cjc_world.specs.Classes.{declared}
use Rattle.cjc_world.specs.Files.{Files}
use Rattle.cjc_pool.specs.JvmSemantics.Linked.{Method}
use Rattle.cjc_components.specs.Written.{code_at}
use Rattle.cjc_methods.specs.Ready.{AreReady, AreRows, IsOwn, states}
use Rattle.cjc_methods.specs.Working.Places.{HasPlace, IsPlaced, class_places, place_in}
use Rattle.cjc_methods.proofs.Coded.{with_code, without_code}
use Rattle.cjc_methods.proofs.Own.{tree_at}
use Rattle.cjc_methods.proofs.Placing.{placed}
use Rattle.cjc_narrow.specs.Written.Rows.{has_rows, rows_by}

module _ (files : Files) (codes : List MethodCode) (types : List TypeTable) (ready : AreReady files codes types)
    (rows others : Method → List (Option State)) (are : AreRows files codes types rows) (these : AreRows files codes
    types others) (near : List MemberId) where
  one_alike : (f : Found) → IsOwn files f → code_at files near rows f ≡ code_at files near others f
  one_alike f own =
      let (t, is, same) = tree_at files f own in
      let i = f.member - length t.fields in
      by t is (same own.class own.is_class) (place_in (class_places 0 files.classes) f.class i)
      (placed files codes types f.class i t ready is)
    where
      table : (k : ℕ) (t : ClassTree) → slice_get files.classes f.class ≡ Some t
          → (h : HasPlace files codes f.class (f.member - length t.fields) k) → k < length types
          → code_at files near rows f ≡ code_at files near others f
      table k t is h lt =
          ⊎_elim
          (λ there.
          let (x, within, e, read) = there in
          with_code files near rows codes types ready are f t k own.own is h x e
          ∙ sym (with_code files near others codes types ready these f t k own.own is h x e))
          (λ past. absurd (let le = past.0 in omega (arith, lt, le)))
          (slice_get_cases types k).1

      by : (t : ClassTree) → slice_get files.classes f.class ≡ Some t → own.class ≡ declared f.class t → (o : Option ℕ)
          → IsPlaced files codes f.class (f.member - length t.fields) o → code_at files near rows f
          ≡ code_at files near others f
      by t is same None none =
          without_code files near rows codes types ready f t own.class own.own is own.is_class same none
          ∙ sym (without_code files near others codes types ready f t own.class own.own is own.is_class same none)
      by t is same (Some k) h =
          let within = slice_get_within codes k h.code h.is_code in
          table k t is h (subst (λ n. k < n) (sym ready.count) within)

  -- a method with an instruction is selected
  pub record IsFromCode (m : NMethod) : Type 0 where
    pub place : ℕ
    pub code : MethodCode
    pub class : ClassTree
    pub method : MethodTree
    pub tree : CodeTree
    pub table : TypeTable
    pub is_code : slice_get codes place ≡ Some code
    pub is_table : slice_get types place ≡ Some table
    pub is_own : IsMethodOf files code class method tree
    pub is : m ≡ selected_code files near class method tree code.insns
        (rows_by (has_rows (states code class method tree table)))

  pub one_selected : (f : Found) → IsOwn files f → (at : ℕ) (insn : NInsn)
      → slice_get (code_at files near rows f).insns at ≡ Some insn → IsFromCode (code_at files near rows f)
  one_selected f own at insn there =
      let (t, is, same) = tree_at files f own in
      let i = f.member - length t.fields in
      by t is (same own.class own.is_class) (place_in (class_places 0 files.classes) f.class i)
      (placed files codes types f.class i t ready is)
    where
      table : (k : ℕ) (t : ClassTree) → slice_get files.classes f.class ≡ Some t
          → (h : HasPlace files codes f.class (f.member - length t.fields) k) → k < length types
          → IsFromCode (code_at files near rows f)
      table k t is h lt =
          ⊎_elim
          (λ in_types.
          let (x, within, e, read) = in_types in
          record {
            place = k;
            code = h.code;
            class = h.class;
            method = h.method;
            tree = h.tree;
            table = x;
            is_code = h.is_code;
            is_table = e;
            is_own = h.is_own;
            is = with_code files near rows codes types ready are
                f t k own.own is h x e;
          })
          (λ past. absurd (let le = past.0 in omega (arith, lt, le)))
          (slice_get_cases types k).1

      by : (t : ClassTree) → slice_get files.classes f.class ≡ Some t → own.class ≡ declared f.class t → (o : Option ℕ)
          → IsPlaced files codes f.class (f.member - length t.fields) o → IsFromCode (code_at files near rows f)
      by t is same None none =
          let empty = without_code files near rows codes types ready f t own.class own.own is own.is_class same none in
          absurd (nothing at insn (sym (ap (λ (m : NMethod). slice_get m.insns at) empty) ∙ there))
        where
          nothing : (k : ℕ) (i : NInsn) → slice_get [] k ≡ Some i → ⊥
          nothing k i e = cc
      by t is same (Some k) h =
          let within = slice_get_within codes k h.code h.is_code in
          table k t is h (subst (λ n. k < n) (sym ready.count) within)

  pub all_alike : (members : List Found) → All (IsOwn files) members → map (code_at files near rows) members
      ≡ map (code_at files near others) members
  all_alike [] own = refl
  all_alike (f ∷ fs) own =
      ap (λ c. c ∷ map (code_at files near rows) fs) (one_alike f (All-head (IsOwn files) f fs own))
      ∙ ap (λ cs. code_at files near others f ∷ cs) (all_alike fs (All-tail (IsOwn files) f fs own))
