use Rattle.cjc_captree.proofs.TreesLaws.Trees.{all_put}
use Rattle.cjc_captree.proofs.trees.tree.components.Goals as goal

pub returns : goal.returns
returns c = λ p g is_method is_locations.
    let names = c.in_ok-names.ensures.names p g in
    c.in_ok-put_directory.ensures p (all_put p c.with_methods-tree.result c.put_package.new.tree c.put_members.new.tree
    c.args.bodies c.args.locations c.with_methods-tree.ensures.method c.with_methods-tree.ensures.locations
    is_method is_locations (c.in_ok-put_package.ensures p g names) (c.in_ok-put_members.ensures p g names))
