use Rattle.std.proofs.Common.{sym, ap, subst, ◌∙◌, List, get_or, Option}
use Rattle.cjc_world.specs.ClassFile.declared.tree.ClassTree.{ClassTree}
use Rattle.cjc_world.specs.ClassFile.declared.tree.MethodTree.{MethodTree}
use Rattle.cjc_narrow.specs.Rows.Selected.{near_fields}
use Rattle.cjc_narrow.specs.Types.Flow.{Body, body_of}
use Rattle.cjc_narrow.proofs.TypesLeast.{method_same}
use Rattle.cjc_int_narrow.specs.Select.{AreBefore, IsSelectable}
use Rattle.cjc_int_narrow.specs.declared.known.Before.{Before}
use Rattle.cjc_methods.specs.Ready.{states}
use Rattle.cjc_methods.proofs.Same.{body_here, tree_same, written_here}
use Rattle.cjc_bytes.proofs.Options.{if_more}
use Rattle.cjc_methods.proofs.selecting.selected_in_int_mode.Goals as goal

pub known_before-requires-clause-types : goal.known_before-requires-clause-types
known_before-requires-clause-types c = λ k m t of. (c.requires.ready k m t of).types

pub select-requires : goal.select-requires
select-requires c =
    let code = c.args.code.now in
    let of = c.requires.code in
    let class = c.index-items-code.result in
    let method = c.index-items-code-2.result in
    let same = method_same c.args.world.now code class method
    (c.index-items-code.is ∙ ap (λ (ks : List ClassTree). get_or ks code.class class) (c.items.ensures
    ∙ c.classes.ensures))
    (c.index-items-code-2.is ∙ ap (λ (ms : List MethodTree). get_or ms code.method method) c.items-2.ensures)
    of.0 of.1 of.2 of.3 in
    let tree = tree_same method of.1 c.in-Some.tree of.2 c.in-Some.is same.1 of.3.is_code in
    let is = body_here class of.0 method of.1 c.in-Some.tree of.2 c.items-insns.result.now code.insns same.0 same.1 tree
    c.items-insns.ensures in
    let types = states code of.0 of.1 of.2 c.args.types.now in
    let some = c.in_ok-known-in-Some.ensures.some of.0 of.1 of.2 of.3 in
    let known = subst (λ (ks : List (Option Before)). AreBefore (body_of of.0 of.1 of.2 code.insns) types some.0 ks)
    (sym c.items-in-Some.ensures) some.2 in (
      types,
      some.0,
      subst (λ (b : Body). AreBefore b types some.0 c.items-in-Some.result.now) (sym is) known,
      subst (λ (b : Body). IsSelectable b types) (sym is) ((c.requires.ready of.0 of.1 of.2 of.3).int_selectable
          (c.requires.room of.0 of.1 of.2 of.3)),
    )

pub returns : goal.returns
returns c = λ k m t of ranges least.
    let code = c.args.code.now in
    let class = c.index-items-code.result in
    let method = c.index-items-code-2.result in
    let same = method_same c.args.world.now code class method
    (c.index-items-code.is ∙ ap (λ (ks : List ClassTree). get_or ks code.class class) (c.items.ensures
    ∙ c.classes.ensures))
    (c.index-items-code-2.is ∙ ap (λ (ms : List MethodTree). get_or ms code.method method) c.items-2.ensures)
    k m t of in
    let tree = tree_same method m c.in-Some.tree t c.in-Some.is same.1 of.is_code in
    let is = body_here class k method m c.in-Some.tree t c.items-insns.result.now code.insns same.0 same.1 tree
    c.items-insns.ensures in
    let types = states code k m t c.args.types.now in
    let known = subst (λ (ks : List (Option Before)). AreBefore (body_of k m t code.insns) types ranges ks)
    (sym c.items-in-Some.ensures) (c.in_ok-known-in-Some.ensures.least k m t of ranges least) in
    let here = subst (λ (b : Body). AreBefore b types ranges c.items-in-Some.result.now) (sym is) known in
    if_more (λ n e. e ∙ written_here c.args.world.now (near_fields c.args.pool.now) class k method m c.in-Some.tree t
    c.items-insns.result.now code.insns types ranges same.0 same.1 tree c.items-insns.ensures)
    c.select.result (c.select.ensures types ranges here)
