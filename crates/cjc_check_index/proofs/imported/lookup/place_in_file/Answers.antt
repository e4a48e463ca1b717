use Rattle.std.proofs.Common.{arith}
use Rattle.cjc_check_index.proofs.LookupLaws.Indexed.{past_class, no_class}
use Rattle.cjc_check_index.proofs.ImportedLaws.Answers.{found_in_file}
use Rattle.cjc_check_index.proofs.imported.lookup.place_in_file.Goals as goal

pub returns-then-at-classes-clause-found : goal.returns-then-at-classes-clause-found
returns-then-at-classes-clause-found c = let fits = c.ranges.token.fits
    in found_in_file c.args.classes.now c.args.places.now c.args.token _ c.in-Some.at _ (omega (arith, fits)) c.requires
    c.from.ensures c.in-Some.is

pub returns-else-at-classes-clause-found : goal.returns-else-at-classes-clause-found
returns-else-at-classes-clause-found c = let fits = c.ranges.token.fits
    in past_class c.args.classes.now c.args.places.now c.args.token _ c.in-Some.at _ (omega (arith, fits)) c.requires
    c.from.ensures c.in-Some.is c.if-at-classes.false

pub returns-in-None-clause-found : goal.returns-in-None-clause-found
returns-in-None-clause-found c = let fits = c.ranges.token.fits in no_class c.args.classes.now c.args.places.now
    c.args.token _ _ (omega (arith, fits)) c.requires c.from.ensures c.in-None.is
