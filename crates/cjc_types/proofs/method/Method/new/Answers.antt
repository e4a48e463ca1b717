use Rattle.std.proofs.Common.{◌<◌, ◌^◌, List, length, get_or, sym, ap, ◌∙◌, subst}
use Rattle.cjc_classfile.specs.declared.tree.ClassTree.{ClassTree}
use Rattle.cjc_classfile.specs.declared.tree.MethodTree.{MethodTree}
use Rattle.cjc_code.specs.declared.insn.JInsn.{JInsn}
use Rattle.cjc_types.specs.Index.{AreInOrder}
use Rattle.cjc_types.proofs.Ascending.{insns_ascend}
use Rattle.cjc_types.proofs.Few.{insns_few}
use Rattle.cjc_types.proofs.Least.{body_same, method_same}
use Rattle.cjc_types.proofs.method.Method.new.Goals as goal

pub of-requires-clause-few : goal.of-requires-clause-few
of-requires-clause-few c =
    let of = c.requires in
    subst (λ (is : List JInsn). length is < 2 ^ 32) (sym c.items-in-Some.ensures) (insns_few c.args.world.now
    c.args.code.now of.0 of.1 of.2 of.3)

pub of-requires-clause-order : goal.of-requires-clause-order
of-requires-clause-order c =
    let of = c.requires in
    subst AreInOrder (sym c.items-in-Some.ensures) (insns_ascend c.args.world.now c.args.code.now of.0 of.1 of.2 of.3)

pub returns : goal.returns
returns c = λ k m t of.
    c.of.ensures ∙ body_same c.args.world.now c.args.code.now c.index-items-code.result c.index-items-code-2.result
    c.in-Some.tree c.items-in-Some.result.now
    (c.index-items-code.is ∙ ap (λ (ks : List ClassTree). get_or ks c.args.code.now.class c.index-items-code.result)
    (c.items.ensures ∙ c.classes.ensures))
    (c.index-items-code-2.is ∙ ap (λ (ms : List MethodTree). get_or ms c.args.code.now.method
    c.index-items-code-2.result) c.items-2.ensures)
    c.in-Some.is c.items-in-Some.ensures k m t of

pub unreachable-requires : goal.unreachable-requires
unreachable-requires c =
    let of = c.requires in
    let same = method_same c.args.world.now c.args.code.now c.index-items-code.result c.index-items-code-2.result
    (c.index-items-code.is ∙ ap (λ (ks : List ClassTree). get_or ks c.args.code.now.class c.index-items-code.result)
    (c.items.ensures ∙ c.classes.ensures))
    (c.index-items-code-2.is ∙ ap (λ (ms : List MethodTree). get_or ms c.args.code.now.method
    c.index-items-code-2.result) c.items-2.ensures)
    of.0 of.1 of.2 of.3 in
    let some = ap (λ (k : MethodTree). k.code) same.1 ∙ of.3.is_code in
    let none = c.in-None.is in
    absurd cc
