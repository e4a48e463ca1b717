use Rattle.std.proofs.Common.{◌≡◌, refl, subst, Some, None}
use Rattle.std.specs.Prelude.{option_and_then}
use Rattle.cjc_classes.specs.ClassOrder.Classes.Numbers.{declared_at}
use Rattle.cjc_verify.specs.Pairs.{Pair, class_at}
use Rattle.cjc_verify.specs.Working.Ready.{pair_by}
use Rattle.cjc_verify.proofs.DescribedLaws.Entries.{number_is}
use Rattle.cjc_verify.proofs.described.named.number_of.Goals as goal

pub returns-in-Some : goal.returns-in-Some
returns-in-Some c =
    let i = c.pair.inside in
    let p = pair_by i.world.now i.tokens.now i.image.now i.parts.now i.tables.now in
    subst (λ (q : Pair). class_at q c.args.offset ≡ option_and_then (declared_at q.files.classes) c.number_at.result)
    c.pair.view_is (number_is p i.starts.now i.order.now c.args.offset (Some c.in-Some.place) c.number_at.result
    c.pair.invariant.begin c.pair.invariant.in_order c.in-Some.ensures c.number_at.ensures)

pub returns-in-None : goal.returns-in-None
returns-in-None c =
    let i = c.pair.inside in
    let p = pair_by i.world.now i.tokens.now i.image.now i.parts.now i.tables.now in
    subst (λ (q : Pair). class_at q c.args.offset ≡ option_and_then (declared_at q.files.classes) None)
    c.pair.view_is (number_is p i.starts.now i.order.now c.args.offset None None c.pair.invariant.begin
    c.pair.invariant.in_order c.in-None.ensures refl)
