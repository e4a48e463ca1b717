use Rattle.std.proofs.Common.{ℕ, ◌+◌, ◌<◌, ◌≤◌, List, length, get_or, ap, subst, ◌∙◌}
use Rattle.std.specs.Prelude.{option_map}
use Rattle.cjc_bytes.specs.Breaks.{at, class_spot}
use Rattle.cjc_bytes.specs.Order.{FilePlace}
use Rattle.cjc_bytes.specs.Told.{break_of}
use Rattle.cjc_bytes.proofs.Firsts.{at_same, each_all, each_more, each_none}
use Rattle.cjc_world.specs.ClassFile.declared.tree.ClassTree.{ClassTree}
use Rattle.cjc_world.specs.Classes.{all_classes}
use Rattle.cjc_world.specs.Files.{Files}
use Rattle.cjc_group.specs.Missing.{implements_one}
use Rattle.cjc_group.specs.Rules.{class_at, list_file}
use Rattle.cjc_group.proofs.missing.class_missing.Goals as goal

pub loop-number-init : goal.loop-number-init
loop-number-init c = each_none (λ k (x : ClassTree). at (implements_one (all_classes c.args.member.now.files)
    c.args.names.now x) (class_at c.args.place c.args.member.now k x) 203) c.args.member.now.files.classes

pub loop-number-preserved : goal.loop-number-preserved
loop-number-preserved c =
    let i = c.loop-number.number in
    let all = c.items-classes.ensures ∙ c.classes.ensures ∙ ap (λ (f : Files). f.classes) c.world-world.ensures in
    let within = subst (λ (xs : List ClassTree). i < length xs) all c.loop-number-test.true in
    let is = c.index-classes-number.is ∙ ap (λ (xs : List ClassTree). get_or xs i c.index-classes-number.result) all in
    let spot = c.of_class-spot.ensures ∙ ap (λ (f : FilePlace). class_spot f (i + 1) c.items.result.now)
    c.list_file-file.ensures ∙ ap (λ (x : List ℕ). class_spot (list_file c.args.place c.args.member.now) (i + 1) x)
    c.items.ensures in
    let so = c.implements_one-so.ensures ∙ ap (λ (f : Files). implements_one (all_classes f) c.args.names.now
    c.index-classes-number.result) c.world-world.ensures in
    each_more (λ k (x : ClassTree). at (implements_one (all_classes c.args.member.now.files) c.args.names.now x)
    (class_at c.args.place c.args.member.now k x) 203) i c.args.member.now.files.classes c.index-classes-number.result
    (option_map break_of c.first-least.result) within is
    (c.first-least.ensures _ _ c.loop-number.invariant (at_same 203 _ so spot c.broken.ensures))

pub returns : goal.returns
returns c =
    let all = c.items-classes.ensures ∙ c.classes.ensures ∙ ap (λ (f : Files). f.classes) c.world-world.ensures in
    let past = subst (λ (xs : List ClassTree). length xs ≤ c.loop-number.number) all c.loop-number-test.false in
    each_all (λ k (x : ClassTree). at (implements_one (all_classes c.args.member.now.files) c.args.names.now x)
    (class_at c.args.place c.args.member.now k x) 203) c.loop-number.number c.args.member.now.files.classes
    (option_map break_of c.loop-number.least) past c.loop-number.invariant
