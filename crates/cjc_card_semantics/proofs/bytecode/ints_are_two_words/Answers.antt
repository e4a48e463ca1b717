use Rattle.std.proofs.Common.{refl}
use Rattle.std.specs.Int.{int_wrap}
use Rattle.cjc_card_semantics.specs.Bytecode.Meanings.{meaning}
use Rattle.cjc_card_semantics.proofs.bytecode.ints_are_two_words.Goals as goal

pub returns-clause-iconst_m1 : goal.returns-clause-iconst_m1
unfolding int_wrap meaning
returns-clause-iconst_m1 c = refl

pub returns-clause-iconst_0 : goal.returns-clause-iconst_0
unfolding int_wrap meaning
returns-clause-iconst_0 c = refl

pub returns-clause-iconst_1 : goal.returns-clause-iconst_1
unfolding int_wrap meaning
returns-clause-iconst_1 c = refl

pub returns-clause-iconst_2 : goal.returns-clause-iconst_2
unfolding int_wrap meaning
returns-clause-iconst_2 c = refl

pub returns-clause-iconst_3 : goal.returns-clause-iconst_3
unfolding int_wrap meaning
returns-clause-iconst_3 c = refl

pub returns-clause-iconst_4 : goal.returns-clause-iconst_4
unfolding int_wrap meaning
returns-clause-iconst_4 c = refl

pub returns-clause-iconst_5 : goal.returns-clause-iconst_5
unfolding int_wrap meaning
returns-clause-iconst_5 c = refl

pub returns-clause-bipush : goal.returns-clause-bipush
unfolding int_wrap meaning
returns-clause-bipush c = refl

pub returns-clause-sipush : goal.returns-clause-sipush
unfolding int_wrap meaning
returns-clause-sipush c = refl

pub returns-clause-iipush : goal.returns-clause-iipush
unfolding int_wrap meaning
returns-clause-iipush c = refl

pub returns-clause-iload : goal.returns-clause-iload
unfolding int_wrap meaning
returns-clause-iload c = refl

pub returns-clause-iload_0 : goal.returns-clause-iload_0
unfolding int_wrap meaning
returns-clause-iload_0 c = refl

pub returns-clause-iload_1 : goal.returns-clause-iload_1
unfolding int_wrap meaning
returns-clause-iload_1 c = refl

pub returns-clause-iload_2 : goal.returns-clause-iload_2
unfolding int_wrap meaning
returns-clause-iload_2 c = refl

pub returns-clause-iload_3 : goal.returns-clause-iload_3
unfolding int_wrap meaning
returns-clause-iload_3 c = refl

pub returns-clause-half_a_local : goal.returns-clause-half_a_local
unfolding int_wrap meaning
returns-clause-half_a_local c = refl

pub returns-clause-istore : goal.returns-clause-istore
unfolding int_wrap meaning
returns-clause-istore c = refl

pub returns-clause-istore_0 : goal.returns-clause-istore_0
unfolding int_wrap meaning
returns-clause-istore_0 c = refl

pub returns-clause-istore_1 : goal.returns-clause-istore_1
unfolding int_wrap meaning
returns-clause-istore_1 c = refl

pub returns-clause-istore_2 : goal.returns-clause-istore_2
unfolding int_wrap meaning
returns-clause-istore_2 c = refl

pub returns-clause-istore_3 : goal.returns-clause-istore_3
unfolding int_wrap meaning
returns-clause-istore_3 c = refl

pub returns-clause-iadd : goal.returns-clause-iadd
unfolding int_wrap meaning
returns-clause-iadd c = refl

pub returns-clause-iadd_wraps : goal.returns-clause-iadd_wraps
unfolding int_wrap meaning
returns-clause-iadd_wraps c = refl

pub returns-clause-isub : goal.returns-clause-isub
unfolding int_wrap meaning
returns-clause-isub c = refl

pub returns-clause-imul : goal.returns-clause-imul
unfolding int_wrap meaning
returns-clause-imul c = refl

pub returns-clause-idiv : goal.returns-clause-idiv
unfolding int_wrap meaning
returns-clause-idiv c = refl

pub returns-clause-idiv_least : goal.returns-clause-idiv_least
unfolding int_wrap meaning
returns-clause-idiv_least c = refl

pub returns-clause-irem : goal.returns-clause-irem
unfolding int_wrap meaning
returns-clause-irem c = refl

pub returns-clause-ishl : goal.returns-clause-ishl
unfolding int_wrap meaning
returns-clause-ishl c = refl

pub returns-clause-ishr : goal.returns-clause-ishr
unfolding int_wrap meaning
returns-clause-ishr c = refl

pub returns-clause-iushr : goal.returns-clause-iushr
unfolding int_wrap meaning
returns-clause-iushr c = refl

pub returns-clause-iand : goal.returns-clause-iand
unfolding int_wrap meaning
returns-clause-iand c = refl

pub returns-clause-ior : goal.returns-clause-ior
unfolding int_wrap meaning
returns-clause-ior c = refl

pub returns-clause-ixor : goal.returns-clause-ixor
unfolding int_wrap meaning
returns-clause-ixor c = refl

pub returns-clause-ineg : goal.returns-clause-ineg
unfolding int_wrap meaning
returns-clause-ineg c = refl

pub returns-clause-iinc : goal.returns-clause-iinc
unfolding int_wrap meaning
returns-clause-iinc c = refl

pub returns-clause-iinc_w : goal.returns-clause-iinc_w
unfolding int_wrap meaning
returns-clause-iinc_w c = refl

pub returns-clause-s2i : goal.returns-clause-s2i
unfolding int_wrap meaning
returns-clause-s2i c = refl

pub returns-clause-i2b : goal.returns-clause-i2b
unfolding int_wrap meaning
returns-clause-i2b c = refl

pub returns-clause-i2s : goal.returns-clause-i2s
unfolding int_wrap meaning
returns-clause-i2s c = refl

pub returns-clause-icmp_less : goal.returns-clause-icmp_less
unfolding int_wrap meaning
returns-clause-icmp_less c = refl

pub returns-clause-icmp_same : goal.returns-clause-icmp_same
unfolding int_wrap meaning
returns-clause-icmp_same c = refl

pub returns-clause-icmp_greater : goal.returns-clause-icmp_greater
unfolding int_wrap meaning
returns-clause-icmp_greater c = refl

pub returns-clause-half_an_int : goal.returns-clause-half_an_int
unfolding int_wrap meaning
returns-clause-half_an_int c = refl
