use Rattle.cjc_int_accepted.proofs.InsnsStandLaws.{insns_stand}
use Rattle.cjc_int_accepted.proofs.insns.methods_in_int_mode_stand.Goals as goal

pub returns-clause-insns : goal.returns-clause-insns
returns-clause-insns c = insns_stand

pub returns-clause-tables : goal.returns-clause-tables
returns-clause-tables c = λ p number offset laid is_laid can stand r code b rows ranges written result v instructions
    returned read few some is same. c.methods_in_int_mode_have_tables.ensures p number offset laid is_laid can stand r
    code b rows ranges written result v instructions returned read few some is.decoded (insns_stand p offset laid r code
    b rows ranges result v read is) same is.closed
