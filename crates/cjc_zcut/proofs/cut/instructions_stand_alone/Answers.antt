use Rattle.cjc_zcut.proofs.DecodeLaws.{decode_more}
use Rattle.cjc_zcut.proofs.TypeLaws.{have_sorts}
use Rattle.cjc_zcut.proofs.NameLaws.{names_meant}
use Rattle.cjc_zcut.proofs.cut.instructions_stand_alone.Goals as goal

pub returns : goal.returns
returns c = decode_more
