-- A method of its parts.
use Rattle.std.proofs.Common.{◌≡◌, ℕ, sym, ap, ◌∙◌, Bool, List, length}
use Rattle.cjc_types.specs.Bytes.declared.fault.MemberId.{MemberId}
use Rattle.cjc_types.specs.ClassFile.Code.{CodeTree}
use Rattle.cjc_types.specs.ClassFile.declared.tree.ClassTree.{ClassTree}
use Rattle.cjc_types.specs.ClassFile.declared.tree.MethodTree.{MethodTree}
use Rattle.cjc_types.specs.Bytecode.declared.insn.JInsn.{JInsn}
use Rattle.cjc_types.specs.World.Files.{Files}
use Rattle.cjc_types.specs.Flow.{body_of}
use Rattle.cjc_ncode.specs.declared.narrow.NMethod.{NMethod}
use Rattle.cjc_ncode.specs.declared.narrow.PairRole.{PairRole}
use Rattle.cjc_narrow.specs.Rows.Resolved.{argument_words, resolution}
use Rattle.cjc_narrow.specs.Rows.Selected.{selected_code}
use Rattle.cjc_ncode.specs.Written.{Resolution, catches_at, narrow_method, place_in, reached}
use Rattle.cjc_narrow.specs.Written.Rows.{has_rows, has_rows_by, rows_by}
use Rattle.cjc_narrow.specs.Written.Operands.{IsAscending}
use Rattle.cjc_narrow.specs.Pairs.Roles.{role_in, roles_of, with_pairs, with_roles}
use Rattle.cjc_narrow.proofs.PairsLaws.Roles.{are_roles, code_same, sources_same}
use Rattle.cjc_narrow.specs.Select.Working.Code.{code_by}
use Rattle.cjc_narrow.specs.Select.Working.Whole.{AreParts}

pub assembled : (r : Resolution) (code : CodeTree) (nargs : ℕ) (insns : List JInsn) (flags : List Bool)
    (roles : List PairRole) (place : ℕ → ℕ) (m : NMethod) → IsAscending insns → length flags ≡ length insns
    → length roles ≡ length insns → place ≡ place_in (with_roles r insns roles) (reached insns (rows_by flags))
    → AreParts r code nargs insns flags roles place m
    → m ≡ narrow_method (with_roles r insns roles) code nargs insns (rows_by flags)
assembled r code nargs insns flags roles place m ascending same alike places parts =
    let are = are_roles r insns roles ascending alike in
    let written = parts.has_insns ∙ ap (λ p. code_by r p insns flags roles) places
    ∙ code_same r (role_in insns roles) (place_in (with_roles r insns roles) (reached insns
    (rows_by flags))) insns flags
    roles same alike are in
    let from = parts.has_from ∙ sources_same r (role_in insns roles) 0 insns flags roles same alike are in
    let handlers = parts.has_catches ∙ ap (λ p. catches_at p code.catches) places in
    (λ i. record {
      insns = written i;
      from = from i;
      catches = handlers i;
      max_stack = parts.has_stack i;
      nargs = parts.has_nargs i;
      max_locals = parts.has_locals i;
      widest = parts.has_widest i;
    })

-- The narrow code of a method of a class, by the roles of its instructions.
pub selected_whole : (files : Files) (near : List MemberId) (class : ClassTree) (method : MethodTree) (code : CodeTree)
    (insns : List JInsn) (flags : List Bool) (roles : List PairRole) (holder : List ℕ) (nargs : ℕ) (m : NMethod)
    → holder ≡ class.name → nargs ≡ argument_words method.flags method.desc
    → roles ≡ roles_of (resolution files near holder) (body_of class method code insns) flags
    → m ≡ narrow_method (with_roles (resolution files near holder) insns roles) code nargs insns (rows_by flags)
    → m ≡ selected_code files near class method code insns (rows_by flags)
unfolding with_pairs
selected_whole files near class method code insns flags roles holder nargs m same_holder same_words same_roles is =
    let r = resolution files near holder in
    let b = body_of class method code insns in
    let rows = rows_by flags in
    is
    ∙ ap (λ rs. narrow_method (with_roles r insns rs) code nargs insns rows) same_roles
    ∙ ap (λ fs. narrow_method (with_roles r insns (roles_of r b fs)) code nargs insns rows) (sym (has_rows_by flags))
    ∙ ap (λ h. narrow_method (with_roles (resolution files near h) insns (roles_of (resolution files near h) b
    (has_rows rows))) code nargs insns rows) same_holder
    ∙ ap (λ n. narrow_method (with_roles (resolution files near class.name) insns (roles_of
    (resolution files near class.name) b (has_rows rows))) code n insns rows) same_words
