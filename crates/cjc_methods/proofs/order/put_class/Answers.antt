use Rattle.std.proofs.Common.{◌≡◌, ◌<◌, sym, subst, ◌∙◌, length, List}
use Rattle.std.proofs.lemmas.Option.{slice_get_within}
use Rattle.cjc_world.specs.ClassFile.declared.tree.ClassTree.{ClassTree}
use Rattle.cjc_methods.proofs.Members.{put_all}
use Rattle.cjc_components.proofs.VTableNumbers.{at-tree}
use Rattle.cjc_bytes.proofs.Gets.{at_is}
use Rattle.cjc_methods.proofs.order.put_class.Goals as goal

pub bounds-items-number : goal.bounds-items-number
bounds-items-number c =
    let (t, is, same) = at-tree c.args.world.now c.args.number c.requires.0 c.requires.1 in
    subst (λ (ts : List ClassTree). c.args.number < length ts) (sym (c.items.ensures ∙ c.classes.ensures))
    (slice_get_within c.args.world.now.classes c.args.number t is)

pub added-requires : goal.added-requires
added-requires c =
    let (t, is, same) = at-tree c.args.world.now c.args.number c.requires.0 c.requires.1 in
    slice_get_within c.args.world.now.classes c.args.number t is

pub returns : goal.returns
returns c = λ x is.
    let files = c.args.world.now in
    let (t, tree, same) = at-tree files c.args.number x is in
    let class : c.index-items-number.result ≡ t = at_is c.items.result.now files.classes c.args.number
    c.index-items-number.result t (c.items.ensures ∙ c.classes.ensures) tree c.index-items-number.is in
    put_all files c.args.number x t c.index-items-number.result c.args.out.now c.put_methods.new.out
    c.items-2.result.now c.put_methods.result is tree class (c.items-2.ensures ∙ c.added.ensures)
    c.put_methods.ensures
