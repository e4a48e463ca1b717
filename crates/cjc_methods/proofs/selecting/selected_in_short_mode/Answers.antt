use Rattle.std.proofs.Common.{ap, ◌∙◌, List, get_or}
use Rattle.cjc_world.specs.ClassFile.declared.tree.ClassTree.{ClassTree}
use Rattle.cjc_world.specs.ClassFile.declared.tree.MethodTree.{MethodTree}
use Rattle.cjc_narrow.specs.Rows.Selected.{near_fields}
use Rattle.cjc_narrow.proofs.TypesLeast.{method_same}
use Rattle.cjc_narrow.specs.Written.Rows.{has_rows}
use Rattle.cjc_methods.specs.Ready.{states}
use Rattle.cjc_methods.proofs.Same.{marks_here, selectable_here, selected_here, tree_same}
use Rattle.cjc_bytes.proofs.Options.{if_more}
use Rattle.cjc_methods.proofs.selecting.selected_in_short_mode.Goals as goal

pub reached-requires-clause-types : goal.reached-requires-clause-types
reached-requires-clause-types c = λ k m t of. (c.requires.ready k m t of).types

pub select-requires-clause-marks : goal.select-requires-clause-marks
select-requires-clause-marks c =
    let code = c.args.code.now in
    let of = c.requires.code in
    let class = c.index-items-code.result in
    let method = c.index-items-code-2.result in
    let same = method_same c.args.world.now code class method
    (c.index-items-code.is ∙ ap (λ (ks : List ClassTree). get_or ks code.class class) (c.items.ensures
    ∙ c.classes.ensures))
    (c.index-items-code-2.is ∙ ap (λ (ms : List MethodTree). get_or ms code.method method) c.items-2.ensures)
    of.0 of.1 of.2 of.3 in
    c.items-marks.ensures ∙ marks_here class of.0 method of.1 c.in-Some.tree of.2 c.items-insns.result.now code.insns
    _ same.0 same.1 (tree_same method of.1 c.in-Some.tree of.2 c.in-Some.is same.1 of.3.is_code)
    c.items-insns.ensures ((c.requires.ready of.0 of.1 of.2 of.3).types.marks)

pub select-requires-clause-fits : goal.select-requires-clause-fits
select-requires-clause-fits c =
    let code = c.args.code.now in
    let of = c.requires.code in
    let class = c.index-items-code.result in
    let method = c.index-items-code-2.result in
    let same = method_same c.args.world.now code class method
    (c.index-items-code.is ∙ ap (λ (ks : List ClassTree). get_or ks code.class class) (c.items.ensures
    ∙ c.classes.ensures))
    (c.index-items-code-2.is ∙ ap (λ (ms : List MethodTree). get_or ms code.method method) c.items-2.ensures)
    of.0 of.1 of.2 of.3 in
    let tree = tree_same method of.1 c.in-Some.tree of.2 c.in-Some.is same.1 of.3.is_code in
    selectable_here method of.1 c.in-Some.tree of.2 c.items-insns.result.now code.insns c.items-in-Some.result.now
    (has_rows (states code of.0 of.1 of.2 c.args.types.now))
    same.1 tree c.items-insns.ensures (c.items-in-Some.ensures ∙ c.in_ok-reaches-in-Some.ensures of.0 of.1 of.2 of.3)
    ((c.requires.ready of.0 of.1 of.2 of.3).selectable c.requires.free)

pub unreachable-requires : goal.unreachable-requires
unreachable-requires c =
    let code = c.args.code.now in
    let of = c.requires.code in
    let class = c.index-items-code.result in
    let method = c.index-items-code-2.result in
    let same = method_same c.args.world.now code class method
    (c.index-items-code.is ∙ ap (λ (ks : List ClassTree). get_or ks code.class class) (c.items.ensures
    ∙ c.classes.ensures))
    (c.index-items-code-2.is ∙ ap (λ (ms : List MethodTree). get_or ms code.method method) c.items-2.ensures)
    of.0 of.1 of.2 of.3 in
    let some = ap (λ (k : MethodTree). k.code) same.1 ∙ of.3.is_code in
    let none = c.in-None.is in
    absurd cc

pub returns : goal.returns
returns c = λ k m t of.
    let code = c.args.code.now in
    let class = c.index-items-code.result in
    let method = c.index-items-code-2.result in
    let same = method_same c.args.world.now code class method
    (c.index-items-code.is ∙ ap (λ (ks : List ClassTree). get_or ks code.class class) (c.items.ensures
    ∙ c.classes.ensures))
    (c.index-items-code-2.is ∙ ap (λ (ms : List MethodTree). get_or ms code.method method) c.items-2.ensures)
    k m t of in
    let tree = tree_same method m c.in-Some.tree t c.in-Some.is same.1 of.is_code in
    if_more
    (λ n e. e ∙ selected_here c.args.world.now (near_fields c.args.pool.now) class k method m c.in-Some.tree t
    c.items-insns.result.now code.insns c.items-in-Some.result.now (has_rows (states code k m t c.args.types.now))
    same.0 same.1 tree c.items-insns.ensures (c.items-in-Some.ensures ∙ c.in_ok-reaches-in-Some.ensures k m t of))
    c.select.result c.select.ensures.code
