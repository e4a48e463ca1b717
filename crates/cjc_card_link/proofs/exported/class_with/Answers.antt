use Rattle.std.proofs.Common.{arith, ◌∙◌}
use Rattle.cjc_check_index.proofs.LookupLaws.Indexed.{found_class, past_class, no_class}
use Rattle.cjc_card_link.proofs.ByName.{with_token_find}
use Rattle.cjc_card_link.proofs.exported.class_with.Goals as goal

pub returns-then-at-classes : goal.returns-then-at-classes
returns-then-at-classes c = let fits = c.ranges.token.fits in found_class c.args.classes.now c.args.places.now
    c.args.token _ c.in-Some.at _ _ (omega (arith, fits)) c.requires c.from.ensures c.in-Some.is c.if-at-classes.true
    c.index-classes-at.is ∙ with_token_find c.args.classes.now c.args.token

pub returns-else-at-classes : goal.returns-else-at-classes
returns-else-at-classes c = let fits = c.ranges.token.fits in past_class c.args.classes.now c.args.places.now
    c.args.token _ c.in-Some.at _ (omega (arith, fits)) c.requires c.from.ensures c.in-Some.is c.if-at-classes.false
    ∙ with_token_find c.args.classes.now c.args.token

pub returns-in-None : goal.returns-in-None
returns-in-None c = let fits = c.ranges.token.fits in no_class c.args.classes.now c.args.places.now c.args.token _ _
    (omega (arith, fits)) c.requires c.from.ensures c.in-None.is ∙ with_token_find c.args.classes.now c.args.token
