use Rattle.std.proofs.Common.{◌≡◌, ◌≤◌, ◌++◌, List, length, slice_get, sym, ap, ◌∙◌, append-nil, arith, None}
use Rattle.std.proofs.lemmas.Bool.Decides.{nat_tests}
use Rattle.std.proofs.lemmas.Option.{slice_get_past}
use Rattle.cjc_world.specs.ClassFile.declared.tree.ClassTree.{ClassTree}
use Rattle.cjc_verify.specs.Made.{inputs_of}
use Rattle.cjc_verify.specs.WantedMembers.{class_where}
use Rattle.cjc_verify.proofs.described.made.put_class.Goals as goal

pub returns-in-None : goal.returns-in-None
returns-in-None c =
    let classes = c.items.result.now in
    let q = inputs_of c.args.made.now in
    let look = c.in-None.ensures.lookup.0 in
    let past : length classes ≤ c.args.number = grind (arith, nat_tests, look) in
    let none : slice_get c.args.made.now.world.now.classes c.args.number ≡ None =
    ap (λ (ts : List ClassTree). slice_get ts c.args.number) (sym (c.items.ensures ∙ c.classes.ensures))
    ∙ slice_get_past classes c.args.number past in
    sym (append-nil c.args.row.now) ∙ ap (λ o. c.args.row.now ++ class_where q c.args.number o) (sym none)
