use Rattle.cjc_shape.proofs.PreparedLaws.Parts.{listed_own}
use Rattle.cjc_shape.proofs.PreparedLaws.Sound.{are_ready}
use Rattle.cjc_shape.proofs.WholeLaws.Modes.{modes_count}
use Rattle.cjc_shape.proofs.whole.shaping.is_any_in_int_mode.Goals as goal

pub any_in_int_mode-requires-clause-ready : goal.any_in_int_mode-requires-clause-ready
any_in_int_mode-requires-clause-ready c = let j = c.args.judged.now in rw (c.items.ensures, c.items-2.ensures)
    (are_ready j.list.now j.files.now j c.requires.sound)

pub any_in_int_mode-requires-clause-count : goal.any_in_int_mode-requires-clause-count
any_in_int_mode-requires-clause-count c = let j = c.args.judged.now in rw (c.items-3.ensures, c.items.ensures)
    (modes_count j.list.now j.files.now j c.requires.sound)

pub any_in_int_mode-requires-clause-own : goal.any_in_int_mode-requires-clause-own
any_in_int_mode-requires-clause-own c = let j = c.args.judged.now in listed_own j.world c.args.members.now
    c.requires.listed

pub returns : goal.returns
returns c = λ t told. c.any_in_int_mode.ensures t (rw (c.items.ensures, c.items-2.ensures, c.items-3.ensures) told)
