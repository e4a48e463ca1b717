use Rattle.std.proofs.Common.{ℕ, refl, map, get_or}
use Rattle.std.specs.Prelude.{option_to_list}
use Rattle.std.proofs.lemmas.List.{get_or_default}
use Rattle.cjc_world.specs.Classes.{all_classes}
use Rattle.cjc_components.specs.Class.{interface_entry}
use Rattle.cjc_components.specs.LowerClassOrder.Classes.Numbers.{declared_at}
use Rattle.cjc_classes.specs.ClassInfo.Refs.{ref_of}
use Rattle.cjc_classes.specs.ClassInfo.Entries.{interface_entries}
use Rattle.cjc_classes.proofs.ClassInfo.Places.{pieces-end, pieces-next}
use Rattle.cjc_classes.proofs.ClassInfo.Trees.{numbers-more}
use Rattle.cjc_classes.proofs.class_info.tree.interface_entries.Goals as goal

pub loop-number-preserved : goal.loop-number-preserved
loop-number-preserved c =
    let files = c.args.world.now in
    let ref = ref_of c.args.refs.now in
    let f = interface_entry ref (all_classes files) in
    let k = c.loop-number.number-index in
    let order = c.args.order.now in
    let x = get_or order k 0 in
    pieces-next (interface_entries ref files) (λ (n : ℕ). map f (option_to_list (declared_at files.classes n))) refl
    (numbers-more f files.classes) order k x c.loop-number.entries c.put_interface.new.entries
    (interface_entries ref files order) c.loop-number-test.true (get_or_default order k 0 x c.loop-number-test.true)
    c.in_ok-put_interface.ensures c.loop-number.invariant

pub returns : goal.returns
returns c =
    let files = c.args.world.now in
    let ref = ref_of c.args.refs.now in
    let f = interface_entry ref (all_classes files) in
    pieces-end (interface_entries ref files) (λ (n : ℕ). map f (option_to_list (declared_at files.classes n))) refl
    (numbers-more f files.classes) c.args.order.now c.loop-number.number-index c.loop-number.entries
    (interface_entries ref files c.args.order.now) c.loop-number-test.false c.loop-number.invariant
