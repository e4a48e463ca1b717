use Rattle.std.proofs.Common.{◌∙◌, ◌+◌, ℕ, List, sym, ap, drop, get_or, cond}
use Rattle.std.specs.Prelude.{option_map, Some, None}
use Rattle.std.proofs.lemmas.List.{get_or_default}
use Rattle.cjc_world.specs.ClassFile.declared.tree.ClassTree.{ClassTree}
use Rattle.cjc_components.specs.LowerCapRead.declared.tree.ClassRef.TheVariants.{Inside}
use Rattle.cjc_components.specs.LowerCardSemantics.Machine.Classes.{or_else}
use Rattle.cjc_world.specs.Classes.{all_classes}
use Rattle.cjc_classes.specs.ClassInfo.Refs.{ref_in}
use Rattle.cjc_classes.specs.ClassInfo.Infos.{bytes_at, end_of, number_named, spot_in}
use Rattle.cjc_classes.proofs.ClassInfo.Noting.{end_here, end_past, spot_done, spot_more}
use Rattle.cjc_classes.proofs.class_info.starts.note_interfaces.Goals as goal

pub loop-number-preserved : goal.loop-number-preserved
loop-number-preserved c =
    let trees = c.args.world.now.classes in
    let size = bytes_at (all_classes c.args.world.now) trees in
    let order = c.args.order.now in
    let k = c.loop-number.number-index in
    let n = get_or order k 0 in
    let is = get_or_default order k 0 n c.loop-number-test.true in
    let next = c.in_ok-at.ensures ∙ ap (λ (b : ℕ). c.loop-number.at + b) c.in_ok-bytes_at.ensures in
    let same = c.items.ensures ∙ c.classes.ensures in
    record {
      end = ap (λ (a : ℕ). end_of size a (drop (k + 1) order)) next
          ∙ sym (end_here (number_named trees) size c.loop-number.at order k n c.loop-number-test.true is)
          ∙ c.loop-number.invariant.end;
      noted = λ x.
          ap (λ (a : ℕ). or_else (ref_in c.note_class.new.refs x) (option_map Inside (spot_in (number_named trees) size
          a (drop (k + 1) order) x))) next
          ∙ spot_more (number_named trees) size (ref_in c.loop-number.refs) (ref_in c.note_class.new.refs)
          c.loop-number.at order k n c.loop-number-test.true is
          (λ y. c.in_ok-note_class.ensures y ∙ ap (λ (ts : List ClassTree). or_else (ref_in c.loop-number.refs y)
          (cond (number_named ts n y) (Some (Inside c.loop-number.at)) None)) same) x
          ∙ c.loop-number.invariant.noted x;
    }

pub returns-clause-end : goal.returns-clause-end
returns-clause-end c =
    let trees = c.args.world.now.classes in
    sym (end_past (number_named trees) (bytes_at (all_classes c.args.world.now) trees) c.loop-number.at c.args.order.now
    c.loop-number.number-index c.loop-number-test.false) ∙ c.loop-number.invariant.end

pub returns-clause-noted : goal.returns-clause-noted
returns-clause-noted c = λ x.
    let trees = c.args.world.now.classes in
    sym (spot_done (number_named trees) (bytes_at (all_classes c.args.world.now) trees) (ref_in c.loop-number.refs)
    c.loop-number.at c.args.order.now c.loop-number.number-index c.loop-number-test.false x)
    ∙ c.loop-number.invariant.noted x
