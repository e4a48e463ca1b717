use Rattle.cjc_int_runs.proofs.Jumps.{goto, ifeq, ifne, iflt, ifge, ifgt, ifle, if_icmpeq, if_icmpne, if_icmplt}
use Rattle.cjc_int_runs.proofs.Jumps.{if_icmpge, if_icmpgt, if_icmple}
use Rattle.cjc_int_runs.proofs.rows.jumps_agree.Goals as goal

pub returns-clause-goto : goal.returns-clause-goto
returns-clause-goto c = goto

pub returns-clause-ifeq : goal.returns-clause-ifeq
returns-clause-ifeq c = ifeq

pub returns-clause-ifne : goal.returns-clause-ifne
returns-clause-ifne c = ifne

pub returns-clause-iflt : goal.returns-clause-iflt
returns-clause-iflt c = iflt

pub returns-clause-ifge : goal.returns-clause-ifge
returns-clause-ifge c = ifge

pub returns-clause-ifgt : goal.returns-clause-ifgt
returns-clause-ifgt c = ifgt

pub returns-clause-ifle : goal.returns-clause-ifle
returns-clause-ifle c = ifle

pub returns-clause-if_icmpeq : goal.returns-clause-if_icmpeq
returns-clause-if_icmpeq c = if_icmpeq

pub returns-clause-if_icmpne : goal.returns-clause-if_icmpne
returns-clause-if_icmpne c = if_icmpne

pub returns-clause-if_icmplt : goal.returns-clause-if_icmplt
returns-clause-if_icmplt c = if_icmplt

pub returns-clause-if_icmpge : goal.returns-clause-if_icmpge
returns-clause-if_icmpge c = if_icmpge

pub returns-clause-if_icmpgt : goal.returns-clause-if_icmpgt
returns-clause-if_icmpgt c = if_icmpgt

pub returns-clause-if_icmple : goal.returns-clause-if_icmple
returns-clause-if_icmple c = if_icmple
