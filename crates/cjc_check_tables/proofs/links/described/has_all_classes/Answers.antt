use Rattle.std.proofs.Common.{◌≡◌, ℕ, List, ◌+◌, ap, sym, ◌∙◌, length, length-append}
use Rattle.std.specs.Prelude.{nat_le}
use Rattle.cjc_capread.specs.declared.tree.ClassDescriptor.{ClassDescriptor}
use Rattle.cjc_check_rules.specs.Classes.{first_interface, first_class}
use Rattle.cjc_check_rules.specs.Complete.{interface_size, class_size}
use Rattle.cjc_check_rules.specs.Described.{all_starts}
use Rattle.cjc_check_rules.specs.Spots.{starts}
use Rattle.cjc_check_tables.proofs.links.described.has_all_classes.Goals as goal

pub returns : goal.returns
returns c =
    let info = c.args.names.now.parts.now.class.now in
    let left = starts interface_size first_interface info.interfaces in
    let right = starts class_size (first_class info) info.classes in
    let n : length c.args.names.now.interfaces.now + length c.args.names.now.classes.now ≡ length (all_starts info) =
    ap (λ (xs : List ℕ). length xs + length c.args.names.now.classes.now) c.requires.interfaces
    ∙ ap (λ (ys : List ℕ). length left + length ys) c.requires.classes
    ∙ sym (length-append left right) in
    let m : length c.items.result.now ≡ length c.args.names.now.parts.now.descriptor.now.classes =
    ap (λ (ds : List ClassDescriptor). length ds) c.items.ensures in
    ap (λ (k : ℕ). nat_le k (length c.items.result.now)) n ∙ ap (λ (k : ℕ). nat_le (length (all_starts info)) k) m
