use Rattle.std.proofs.Common.{refl, ap}
use Rattle.std.specs.Prelude.{◌∷◌}
use Rattle.std.specs.Int.{int_wrap}
use Rattle.cjc_code.specs.Bytes.Spots.{desc_of, parts_of, bad_at, after, types_from}
use Rattle.cjc_script.specs.declared.value.Value.TheVariants.{Null}
use Rattle.cjc_jvm_semantics.specs.Effects.{effect, field_get}
use Rattle.cjc_jvm_semantics.proofs.rows_give_their_results.Goals as goal

pub returns-clause-pop : goal.returns-clause-pop
unfolding int_wrap desc_of parts_of bad_at after types_from effect
returns-clause-pop c = λ l store. refl

pub returns-clause-pop2 : goal.returns-clause-pop2
unfolding int_wrap desc_of parts_of bad_at after types_from effect
returns-clause-pop2 c = λ l store. refl

pub returns-clause-dup : goal.returns-clause-dup
unfolding int_wrap desc_of parts_of bad_at after types_from effect
returns-clause-dup c = λ l store. refl

pub returns-clause-dup_x1 : goal.returns-clause-dup_x1
unfolding int_wrap desc_of parts_of bad_at after types_from effect
returns-clause-dup_x1 c = λ l store. refl

pub returns-clause-dup_x2 : goal.returns-clause-dup_x2
unfolding int_wrap desc_of parts_of bad_at after types_from effect
returns-clause-dup_x2 c = λ l store. refl

pub returns-clause-dup2 : goal.returns-clause-dup2
unfolding int_wrap desc_of parts_of bad_at after types_from effect
returns-clause-dup2 c = λ l store. refl

pub returns-clause-dup2_x1 : goal.returns-clause-dup2_x1
unfolding int_wrap desc_of parts_of bad_at after types_from effect
returns-clause-dup2_x1 c = λ l store. refl

pub returns-clause-dup2_x2 : goal.returns-clause-dup2_x2
unfolding int_wrap desc_of parts_of bad_at after types_from effect
returns-clause-dup2_x2 c = λ l store. refl

pub returns-clause-swap : goal.returns-clause-swap
unfolding int_wrap desc_of parts_of bad_at after types_from effect
returns-clause-swap c = λ l store. refl

pub returns-clause-no_room : goal.returns-clause-no_room
unfolding int_wrap desc_of parts_of bad_at after types_from effect
returns-clause-no_room c = λ l store. refl

pub returns-clause-missing : goal.returns-clause-missing
unfolding int_wrap desc_of parts_of bad_at after types_from effect
returns-clause-missing c = λ l store. refl

pub returns-clause-iadd : goal.returns-clause-iadd
unfolding int_wrap desc_of parts_of bad_at after types_from effect
returns-clause-iadd c = λ l store. refl

pub returns-clause-isub : goal.returns-clause-isub
unfolding int_wrap desc_of parts_of bad_at after types_from effect
returns-clause-isub c = λ l store. refl

pub returns-clause-imul : goal.returns-clause-imul
unfolding int_wrap desc_of parts_of bad_at after types_from effect
returns-clause-imul c = λ l store. refl

pub returns-clause-idiv : goal.returns-clause-idiv
unfolding int_wrap desc_of parts_of bad_at after types_from effect
returns-clause-idiv c = λ l store. refl

pub returns-clause-idiv_least : goal.returns-clause-idiv_least
unfolding int_wrap desc_of parts_of bad_at after types_from effect
returns-clause-idiv_least c = λ l store. refl

pub returns-clause-irem : goal.returns-clause-irem
unfolding int_wrap desc_of parts_of bad_at after types_from effect
returns-clause-irem c = λ l store. refl

pub returns-clause-ineg : goal.returns-clause-ineg
unfolding int_wrap desc_of parts_of bad_at after types_from effect
returns-clause-ineg c = λ l store. refl

pub returns-clause-ishl : goal.returns-clause-ishl
unfolding int_wrap desc_of parts_of bad_at after types_from effect
returns-clause-ishl c = λ l store. refl

pub returns-clause-ishr : goal.returns-clause-ishr
unfolding int_wrap desc_of parts_of bad_at after types_from effect
returns-clause-ishr c = λ l store. refl

pub returns-clause-iushr : goal.returns-clause-iushr
unfolding int_wrap desc_of parts_of bad_at after types_from effect
returns-clause-iushr c = λ l store. refl

pub returns-clause-iand : goal.returns-clause-iand
unfolding int_wrap desc_of parts_of bad_at after types_from effect
returns-clause-iand c = λ l store. refl

pub returns-clause-ior : goal.returns-clause-ior
unfolding int_wrap desc_of parts_of bad_at after types_from effect
returns-clause-ior c = λ l store. refl

pub returns-clause-ixor : goal.returns-clause-ixor
unfolding int_wrap desc_of parts_of bad_at after types_from effect
returns-clause-ixor c = λ l store. refl

pub returns-clause-i2b : goal.returns-clause-i2b
unfolding int_wrap desc_of parts_of bad_at after types_from effect
returns-clause-i2b c = λ l store. refl

pub returns-clause-i2s : goal.returns-clause-i2s
unfolding int_wrap desc_of parts_of bad_at after types_from effect
returns-clause-i2s c = λ l store. refl

pub returns-clause-iinc : goal.returns-clause-iinc
unfolding int_wrap desc_of parts_of bad_at after types_from effect
returns-clause-iinc c = λ l store. refl

pub returns-clause-istore : goal.returns-clause-istore
unfolding int_wrap desc_of parts_of bad_at after types_from effect
returns-clause-istore c = λ l store. refl

pub returns-clause-astore : goal.returns-clause-astore
unfolding int_wrap desc_of parts_of bad_at after types_from effect
returns-clause-astore c = λ l store. refl

pub returns-clause-aload : goal.returns-clause-aload
unfolding int_wrap desc_of parts_of bad_at after types_from effect
returns-clause-aload c = λ l store. refl

pub returns-clause-iload_of_reference : goal.returns-clause-iload_of_reference
unfolding int_wrap desc_of parts_of bad_at after types_from effect
returns-clause-iload_of_reference c = λ l store. refl

pub returns-clause-astore_of_number : goal.returns-clause-astore_of_number
unfolding int_wrap desc_of parts_of bad_at after types_from effect
returns-clause-astore_of_number c = λ l store. refl

pub returns-clause-ifeq : goal.returns-clause-ifeq
unfolding int_wrap desc_of parts_of bad_at after types_from effect
returns-clause-ifeq c = λ l store. refl

pub returns-clause-ifne_not : goal.returns-clause-ifne_not
unfolding int_wrap desc_of parts_of bad_at after types_from effect
returns-clause-ifne_not c = λ l store. refl

pub returns-clause-iflt : goal.returns-clause-iflt
unfolding int_wrap desc_of parts_of bad_at after types_from effect
returns-clause-iflt c = λ l store. refl

pub returns-clause-ifge_not : goal.returns-clause-ifge_not
unfolding int_wrap desc_of parts_of bad_at after types_from effect
returns-clause-ifge_not c = λ l store. refl

pub returns-clause-ifgt_not : goal.returns-clause-ifgt_not
unfolding int_wrap desc_of parts_of bad_at after types_from effect
returns-clause-ifgt_not c = λ l store. refl

pub returns-clause-ifle : goal.returns-clause-ifle
unfolding int_wrap desc_of parts_of bad_at after types_from effect
returns-clause-ifle c = λ l store. refl

pub returns-clause-if_icmpeq_not : goal.returns-clause-if_icmpeq_not
unfolding int_wrap desc_of parts_of bad_at after types_from effect
returns-clause-if_icmpeq_not c = λ l store. refl

pub returns-clause-if_icmpne : goal.returns-clause-if_icmpne
unfolding int_wrap desc_of parts_of bad_at after types_from effect
returns-clause-if_icmpne c = λ l store. refl

pub returns-clause-if_icmplt : goal.returns-clause-if_icmplt
unfolding int_wrap desc_of parts_of bad_at after types_from effect
returns-clause-if_icmplt c = λ l store. refl

pub returns-clause-if_icmpge_not : goal.returns-clause-if_icmpge_not
unfolding int_wrap desc_of parts_of bad_at after types_from effect
returns-clause-if_icmpge_not c = λ l store. refl

pub returns-clause-if_icmpgt_not : goal.returns-clause-if_icmpgt_not
unfolding int_wrap desc_of parts_of bad_at after types_from effect
returns-clause-if_icmpgt_not c = λ l store. refl

pub returns-clause-if_icmple : goal.returns-clause-if_icmple
unfolding int_wrap desc_of parts_of bad_at after types_from effect
returns-clause-if_icmple c = λ l store. refl

pub returns-clause-if_acmpeq : goal.returns-clause-if_acmpeq
unfolding int_wrap desc_of parts_of bad_at after types_from effect
returns-clause-if_acmpeq c = λ l store. refl

pub returns-clause-if_acmpne : goal.returns-clause-if_acmpne
unfolding int_wrap desc_of parts_of bad_at after types_from effect
returns-clause-if_acmpne c = λ l store. refl

pub returns-clause-ifnull_not : goal.returns-clause-ifnull_not
unfolding int_wrap desc_of parts_of bad_at after types_from effect
returns-clause-ifnull_not c = λ l store. refl

pub returns-clause-ifnonnull : goal.returns-clause-ifnonnull
unfolding int_wrap desc_of parts_of bad_at after types_from effect
returns-clause-ifnonnull c = λ l store. refl

pub returns-clause-if_acmpeq_of_number : goal.returns-clause-if_acmpeq_of_number
unfolding int_wrap desc_of parts_of bad_at after types_from effect
returns-clause-if_acmpeq_of_number c = λ l store. refl

pub returns-clause-ifeq_of_reference : goal.returns-clause-ifeq_of_reference
unfolding int_wrap desc_of parts_of bad_at after types_from effect
returns-clause-ifeq_of_reference c = λ l store. refl

pub returns-clause-goto : goal.returns-clause-goto
unfolding int_wrap desc_of parts_of bad_at after types_from effect
returns-clause-goto c = λ l store. refl

pub returns-clause-table_first : goal.returns-clause-table_first
unfolding int_wrap desc_of parts_of bad_at after types_from effect
returns-clause-table_first c = λ l store. refl

pub returns-clause-table_last : goal.returns-clause-table_last
unfolding int_wrap desc_of parts_of bad_at after types_from effect
returns-clause-table_last c = λ l store. refl

pub returns-clause-table_below : goal.returns-clause-table_below
unfolding int_wrap desc_of parts_of bad_at after types_from effect
returns-clause-table_below c = λ l store. refl

pub returns-clause-table_above : goal.returns-clause-table_above
unfolding int_wrap desc_of parts_of bad_at after types_from effect
returns-clause-table_above c = λ l store. refl

pub returns-clause-lookup : goal.returns-clause-lookup
unfolding int_wrap desc_of parts_of bad_at after types_from effect
returns-clause-lookup c = λ l store. refl

pub returns-clause-lookup_other : goal.returns-clause-lookup_other
unfolding int_wrap desc_of parts_of bad_at after types_from effect
returns-clause-lookup_other c = λ l store. refl

pub returns-clause-bastore : goal.returns-clause-bastore
unfolding int_wrap desc_of parts_of bad_at after types_from effect
returns-clause-bastore c = λ l. refl

pub returns-clause-sastore : goal.returns-clause-sastore
unfolding int_wrap desc_of parts_of bad_at after types_from effect
returns-clause-sastore c = λ l. refl

pub returns-clause-other_array : goal.returns-clause-other_array
unfolding int_wrap desc_of parts_of bad_at after types_from effect
returns-clause-other_array c = λ l. refl

pub returns-clause-idiv_by_zero : goal.returns-clause-idiv_by_zero
unfolding int_wrap desc_of parts_of bad_at after types_from effect
returns-clause-idiv_by_zero c = λ l m at locals store x rest. refl

pub returns-clause-irem_by_zero : goal.returns-clause-irem_by_zero
unfolding int_wrap desc_of parts_of bad_at after types_from effect
returns-clause-irem_by_zero c = λ l m at locals store x rest. refl

pub returns-clause-negative_size : goal.returns-clause-negative_size
unfolding int_wrap desc_of parts_of bad_at after types_from effect
returns-clause-negative_size c = λ l m at locals store n rest. refl

pub returns-clause-length_of_null : goal.returns-clause-length_of_null
unfolding int_wrap desc_of parts_of bad_at after types_from effect
returns-clause-length_of_null c = λ l m at locals store rest. refl

pub returns-clause-null_thrown : goal.returns-clause-null_thrown
unfolding int_wrap desc_of parts_of bad_at after types_from effect
returns-clause-null_thrown c = λ l m at locals store rest. refl

pub returns-clause-field_of_null : goal.returns-clause-field_of_null
unfolding int_wrap desc_of parts_of bad_at after types_from effect
returns-clause-field_of_null c = λ l m at locals store id f rest e. ap (λ o. field_get l m at locals store o (Null
    ∷ rest)) e

pub returns-clause-field_nowhere : goal.returns-clause-field_nowhere
unfolding int_wrap desc_of parts_of bad_at after types_from effect
returns-clause-field_nowhere c = λ l m at locals store id stack e. ap (λ o. field_get l m at locals store o stack) e
