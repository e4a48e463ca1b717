use Rattle.std.proofs.Common.{◌∙◌, length-set}
use Rattle.cjc_check_index.proofs.LookupLaws.TokenPlaces.{places_more, places_all}
use Rattle.cjc_check_index.proofs.lookup.tokens.places_of.Goals as goal

pub loop-i-preserved : goal.loop-i-preserved
loop-i-preserved c = (
  rw (c.with_place-places.ensures, length-set) c.loop-i.invariant.0,
  λ t small. places_more c.loop-i.i t c.index-classes-i.result c.args.classes.now c.loop-i.places.items _ _
      c.loop-i-test.true c.index-classes-i.is c.loop-i.invariant.0 small c.with_place-places.ensures
      (c.loop-i.invariant.1 t small),
)

pub returns : goal.returns
returns c = c.of.ensures ∙ places_all c.loop-i.i c.args.classes.now c.loop-i.places.items c.loop-i-test.false
    c.loop-i.invariant.0 c.loop-i.invariant.1
