use Rattle.std.proofs.Common.{refl}
use Rattle.std.specs.Int.{int_wrap}
use Rattle.cjc_card_semantics.specs.Bytecode.Meanings.{meaning}
use Rattle.cjc_card_semantics.proofs.bytecode.words_wrap_at_their_ends.Goals as goal

pub returns-clause-sadd : goal.returns-clause-sadd
unfolding int_wrap meaning
returns-clause-sadd c = refl

pub returns-clause-ssub : goal.returns-clause-ssub
unfolding int_wrap meaning
returns-clause-ssub c = refl

pub returns-clause-smul : goal.returns-clause-smul
unfolding int_wrap meaning
returns-clause-smul c = refl

pub returns-clause-sdiv : goal.returns-clause-sdiv
unfolding int_wrap meaning
returns-clause-sdiv c = refl

pub returns-clause-srem : goal.returns-clause-srem
unfolding int_wrap meaning
returns-clause-srem c = refl

pub returns-clause-sneg : goal.returns-clause-sneg
unfolding int_wrap meaning
returns-clause-sneg c = refl

pub returns-clause-sshl : goal.returns-clause-sshl
unfolding int_wrap meaning
returns-clause-sshl c = refl

pub returns-clause-sshl_far : goal.returns-clause-sshl_far
unfolding int_wrap meaning
returns-clause-sshl_far c = refl

pub returns-clause-sshr : goal.returns-clause-sshr
unfolding int_wrap meaning
returns-clause-sshr c = refl

pub returns-clause-sushr_one : goal.returns-clause-sushr_one
unfolding int_wrap meaning
returns-clause-sushr_one c = refl

pub returns-clause-sushr : goal.returns-clause-sushr
unfolding int_wrap meaning
returns-clause-sushr c = refl

pub returns-clause-sand : goal.returns-clause-sand
unfolding int_wrap meaning
returns-clause-sand c = refl

pub returns-clause-sor : goal.returns-clause-sor
unfolding int_wrap meaning
returns-clause-sor c = refl

pub returns-clause-sxor : goal.returns-clause-sxor
unfolding int_wrap meaning
returns-clause-sxor c = refl

pub returns-clause-sinc : goal.returns-clause-sinc
unfolding int_wrap meaning
returns-clause-sinc c = refl

pub returns-clause-s2b : goal.returns-clause-s2b
unfolding int_wrap meaning
returns-clause-s2b c = refl

pub returns-clause-other_kind : goal.returns-clause-other_kind
unfolding int_wrap meaning
returns-clause-other_kind c = refl

pub returns-clause-missing : goal.returns-clause-missing
unfolding int_wrap meaning
returns-clause-missing c = refl

pub returns-clause-no_room : goal.returns-clause-no_room
unfolding int_wrap meaning
returns-clause-no_room c = refl

pub returns-clause-unset : goal.returns-clause-unset
unfolding int_wrap meaning
returns-clause-unset c = refl

pub returns-clause-other_local : goal.returns-clause-other_local
unfolding int_wrap meaning
returns-clause-other_local c = refl
