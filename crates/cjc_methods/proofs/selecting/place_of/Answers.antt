use Rattle.std.proofs.Common.{◌<◌, sym, ap, subst, ◌∙◌, List, length}
use Rattle.std.proofs.lemmas.Option.{slice_get_within}
use Rattle.cjc_world.specs.ClassFile.declared.tree.ClassTree.{ClassTree}
use Rattle.cjc_methods.specs.Working.Places.{place_in}
use Rattle.cjc_methods.proofs.Own.{place_is, tree_at}
use Rattle.cjc_bytes.proofs.Gets.{at_is}
use Rattle.cjc_methods.proofs.selecting.place_of.Goals as goal

pub bounds-items-member : goal.bounds-items-member
bounds-items-member c =
    let (t, is, same) = tree_at c.args.world.now c.args.member c.requires in
    subst (λ (ts : List ClassTree). c.args.member.class < length ts) (sym (c.items.ensures ∙ c.classes.ensures))
    (slice_get_within c.args.world.now.classes c.args.member.class t is)

pub returns : goal.returns
returns c = λ t is.
    let files = c.args.world.now in
    let f = c.args.member in
    let tree = at_is c.items.result.now files.classes f.class c.index-items-member.result t (c.items.ensures
    ∙ c.classes.ensures) is c.index-items-member.is in
    let place = place_is f.member c.saturating_sub-method.result c.items-2.result.now c.index-items-member.result t
    c.saturating_sub-method.ensures c.items-2.ensures tree in
    c.place_in.ensures ∙ ap (place_in c.args.sources.places.now f.class) place
