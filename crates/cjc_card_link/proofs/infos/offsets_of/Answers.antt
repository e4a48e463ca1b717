use Rattle.cjc_card_link.proofs.InfoPlaces.{all_starts}
use Rattle.cjc_card_link.proofs.infos.offsets_of.Goals as goal

pub returns : goal.returns
returns c = rw (
  c.in_ok-put_all.ensures,
  c.items-3.ensures,
  c.in_ok-behind.ensures,
  c.in_ok-offsets.ensures,
  c.items.ensures,
  c.items-2.ensures,
  c.first_class.ensures,
) (all_starts c.args.class.now)
