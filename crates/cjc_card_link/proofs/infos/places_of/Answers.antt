use Rattle.std.proofs.Common.{◌∙◌, ap, refl, get_or}
use Rattle.std.specs.Prelude.{◌==◌, if◌then◌else◌, Some, None}
use Rattle.cjc_card_semantics.specs.Machine.Classes.{or_else}
use Rattle.cjc_card_link.proofs.OrElse.{note_more, note_all}
use Rattle.cjc_card_link.proofs.Places.{place_from, place_step, place_first}
use Rattle.cjc_card_link.proofs.infos.places_of.Goals as goal

pub loop-i-preserved : goal.loop-i-preserved
loop-i-preserved c = λ x. note_more (place_from (λ n. n == x)) (λ i n. if n == x then Some i
    else None) (place_step (λ n. n == x))
    c.loop-i.i (get_or c.args.keys.now c.loop-i.i 0) 0 c.args.keys.now _ _ _ c.loop-i-test.true refl
    (c.in_ok-note.ensures x) (c.loop-i.invariant x)

pub returns : goal.returns
returns c = λ x. note_all (place_from (λ n. n == x)) (λ n. refl) c.loop-i.i c.args.keys.now _ _ c.loop-i-test.false
    (c.loop-i.invariant x)

pub loop-i-init : goal.loop-i-init
loop-i-init c = λ x. ap (λ o. or_else o (place_from (λ n. n == x) 0 c.args.keys.now)) (c.new-numbers.ensures x)
    ∙ place_first (λ n. n == x) c.args.keys.now
