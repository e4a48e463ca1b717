use Rattle.std.proofs.Common.{◌∙◌, ◌<◌, ℕ, sym, ap, subst, List, length, get_or, false, map}
use Rattle.std.specs.Prelude.{Some, option_map}
use Rattle.cjc_world.specs.Bytes.AccessFlags.{is_interface}
use Rattle.cjc_world.proofs.BytesBools.{not_true}
use Rattle.cjc_world.specs.Files.{Files}
use Rattle.cjc_world.specs.Classes.{all_classes, declared}
use Rattle.cjc_world.specs.Order.{in_order}
use Rattle.cjc_order.specs.Classes.Numbers.{declared_at}
use Rattle.cjc_order.specs.Classes.Numbers.{IsOfKind}
use Rattle.cjc_vtable.specs.Working.Standing.{IsClass}
use Rattle.cjc_vtable.specs.Tables.{class_tables, table_of}
use Rattle.cjc_vtable.proofs.Rows.{rows-next, rows-end}
use Rattle.cjc_vtable.proofs.building.tables.Goals as goal

-- a class of the order is no interface
of_order : (files : Files) (n : ℕ) → IsOfKind files false n → IsClass files n
of_order files n k = (k.0, k.1, k.2, not_true (is_interface k.1.flags) k.3)

pub class_table-requires-clause-class : goal.class_table-requires-clause-class
class_table-requires-clause-class c =
    let i = c.loop-number.number-index in
    let is = c.items-number-items.ensures in
    subst (λ (q : List ℕ). IsClass c.args.world.now (get_or q i 0)) (sym is) (of_order c.args.world.now _
    (c.in_ok-order.ensures.classes i 0 (subst (λ (q : List ℕ). i < length q) is c.loop-number-test.true)))

pub loop-number-preserved : goal.loop-number-preserved
loop-number-preserved c =
    let w = all_classes c.args.world.now in
    let trees = c.args.world.now.classes in
    let ns = c.items-number-items.result.now in
    let i = c.loop-number.number-index in
    let is = c.items-number-items.ensures in
    let k = subst (λ (q : List ℕ). IsClass c.args.world.now (get_or q i 0)) (sym is) (of_order c.args.world.now _
    (c.in_ok-order.ensures.classes i 0 (subst (λ (q : List ℕ). i < length q) is c.loop-number-test.true))) in
    rows-next (λ n. option_map (table_of w) (declared_at trees n)) ns i 0 c.loop-number.rows c.push.new.self
    c.in_ok-class_table.field-0 c.loop-number-test.true
    (ap (λ o. option_map (table_of w) (option_map (declared (get_or ns i 0)) o)) k.2
    ∙ ap (λ t. Some t) (sym (c.in_ok-class_table.ensures k.1 k.2)))
    c.in_ok-push.ensures.ok
    c.loop-number.invariant

pub returns : goal.returns
unfolding class_tables
returns c =
    let w = all_classes c.args.world.now in
    let trees = c.args.world.now.classes in
    rows-end (table_of w) (declared_at trees) c.items-number-items.result.now c.loop-number.number-index
    (in_order w false) c.loop-number.rows c.loop-number-test.false
    (c.in_ok-order.ensures.order ∙ ap (map (declared_at trees)) (sym c.items-number-items.ensures))
    c.loop-number.invariant
