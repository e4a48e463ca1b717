-- The method that is read is the one that its code names.
use Rattle.std.proofs.Common.{◌≡◌, ℕ, sym, ap, subst, ◌∙◌, Bool, List}
use Rattle.std.specs.Prelude.{Option, Some}
use Rattle.cjc_bytes.specs.declared.fault.MemberId.{MemberId}
use Rattle.cjc_world.specs.ClassFile.Code.{CodeTree}
use Rattle.cjc_world.specs.ClassFile.declared.tree.ClassTree.{ClassTree}
use Rattle.cjc_world.specs.ClassFile.declared.tree.MethodTree.{MethodTree}
use Rattle.cjc_components.specs.Bytecode.declared.insn.JInsn.{JInsn}
use Rattle.cjc_narrow.specs.Types.Flow.{body_of}
use Rattle.cjc_narrow.specs.Types.Marks.{marks_of}
use Rattle.cjc_world.specs.Files.{Files}
use Rattle.cjc_narrow.specs.Rows.Selected.{selected_code}
use Rattle.cjc_narrow.specs.Written.Rows.{rows_by}
use Rattle.cjc_narrow.specs.Select.Select.{IsSelectable}
use Rattle.cjc_narrow.specs.Rows.Resolved.{resolution}
use Rattle.cjc_narrow.specs.Types.declared.state.State.{State}
use Rattle.cjc_intervals.specs.Frames.{RangeState}
use Rattle.cjc_int_mode.specs.Written.{written_in_int_mode}

pub tree_same : (method m : MethodTree) (tree t : CodeTree) → method.code ≡ Some tree → method ≡ m → m.code ≡ Some t
    → tree ≡ t
tree_same method m tree t e same f = let both : Some tree ≡ Some t = sym e ∙ ap (λ (x : MethodTree). x.code) same ∙ f
    in cc

pub selectable_here : (method m : MethodTree) (tree t : CodeTree) (insns is : List JInsn) (flags fs : List Bool)
    → method ≡ m → tree ≡ t → insns ≡ is → flags ≡ fs → IsSelectable m t is fs → IsSelectable method tree insns flags
selectable_here method m tree t insns is flags fs a b c d s =
    subst (λ (x : MethodTree). IsSelectable x tree insns flags) (sym a) (subst (λ (x : CodeTree). IsSelectable m x insns
    flags) (sym b)
    (subst (λ (xs : List JInsn). IsSelectable m t xs flags) (sym c) (subst (λ (xs : List Bool). IsSelectable m t is xs)
    (sym d) s)))

pub selected_here : (files : Files) (near : List MemberId) (class k : ClassTree) (method m : MethodTree)
    (tree t : CodeTree) (insns is : List JInsn) (flags fs : List Bool) → class ≡ k → method ≡ m → tree ≡ t → insns ≡ is
    → flags ≡ fs
    → selected_code files near class method tree insns (rows_by flags) ≡ selected_code files near k m t is (rows_by fs)
selected_here files near class k method m tree t insns is flags fs o a b c d =
    ap (λ (x : ClassTree). selected_code files near x method tree insns (rows_by flags)) o
    ∙ ap (λ (x : MethodTree). selected_code files near k x tree insns (rows_by flags)) a
    ∙ ap (λ (x : CodeTree). selected_code files near k m x insns (rows_by flags)) b
    ∙ ap (λ (xs : List JInsn). selected_code files near k m t xs (rows_by flags)) c
    ∙ ap (λ (xs : List Bool). selected_code files near k m t is (rows_by xs)) d

-- the marks of the code, by what it was decoded from
pub marks_here : (class k : ClassTree) (method m : MethodTree) (tree t : CodeTree) (insns is : List JInsn)
    (marks : List ℕ) → class ≡ k → method ≡ m → tree ≡ t → insns ≡ is → marks ≡ marks_of (body_of k m t is)
    → marks ≡ marks_of (body_of class method tree insns)
marks_here class k method m tree t insns is marks same_class same_method same_tree same_insns e =
    e
    ∙ ap (λ c. marks_of (body_of c m t is)) (sym same_class)
    ∙ ap (λ x. marks_of (body_of class x t is)) (sym same_method)
    ∙ ap (λ x. marks_of (body_of class method x is)) (sym same_tree)
    ∙ ap (λ x. marks_of (body_of class method tree x)) (sym same_insns)

-- what inference reads of the code
pub body_here : (class k : ClassTree) (method m : MethodTree) (tree t : CodeTree) (insns is : List JInsn) → class ≡ k
    → method ≡ m → tree ≡ t → insns ≡ is → body_of class method tree insns ≡ body_of k m t is
body_here class k method m tree t insns is o a b c =
    ap (λ (x : ClassTree). body_of x method tree insns) o
    ∙ ap (λ (x : MethodTree). body_of k x tree insns) a
    ∙ ap (λ (x : CodeTree). body_of k m x insns) b
    ∙ ap (λ (xs : List JInsn). body_of k m t xs) c

-- what is written in int mode
pub written_here : (files : Files) (near : List MemberId) (class k : ClassTree) (method m : MethodTree)
    (tree t : CodeTree) (insns is : List JInsn) (types : List (Option State)) (ranges : List (Option RangeState))
    → class ≡ k → method ≡ m → tree ≡ t → insns ≡ is
    → written_in_int_mode (resolution files near class.name) tree (body_of class method tree insns) types ranges
    ≡ written_in_int_mode (resolution files near k.name) t (body_of k m t is) types ranges
written_here files near class k method m tree t insns is types ranges o a b c =
    ap (λ (x : ClassTree). written_in_int_mode (resolution files near x.name) tree (body_of x method tree insns) types
    ranges) o
    ∙ ap (λ (x : MethodTree). written_in_int_mode (resolution files near k.name) tree (body_of k x tree insns) types
    ranges) a
    ∙ ap (λ (x : CodeTree). written_in_int_mode (resolution files near k.name) x (body_of k m x insns) types ranges) b
    ∙ ap (λ (xs : List JInsn). written_in_int_mode (resolution files near k.name) t (body_of k m t xs) types ranges) c
