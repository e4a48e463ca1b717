use Rattle.std.proofs.Common.{List, ap, ◌∙◌, Bool}
use Rattle.cjc_capread.specs.declared.tree.ClassDescriptor.{ClassDescriptor}
use Rattle.cjc_check_rules.specs.Complete.{described_size}
use Rattle.cjc_check_rules.specs.Described.{all_starts, class_spots}
use Rattle.cjc_check_rules.specs.Spots.{first, in_info, numbered, unless}
use Rattle.cjc_check_rules.proofs.Firsts.{joined}
use Rattle.cjc_check_tables.proofs.links.described.classes_in_order.Goals as goal

pub returns : goal.returns
returns c =
    let refs = c.first_numbered-refs.ensures
    ∙ ap (λ (ds : List ClassDescriptor). first (numbered described_size
    (class_spots (all_starts c.args.names.now.parts.now.class.now)) 0 1 ds)) c.items-classes.ensures in
    let count = c.unless.ensures ∙ ap (λ (b : Bool). first (unless b (in_info 11 0))) c.has_all_classes.ensures in
    c.earlier.ensures ∙ joined _ _ _ _ refs count
