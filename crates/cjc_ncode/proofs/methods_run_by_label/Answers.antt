use Rattle.std.proofs.Common.{refl}
use Rattle.std.specs.Int.{int_wrap}
use Rattle.cjc_code.specs.Bytes.Spots.{after, bad_at, types_from, parts_of, desc_of}
use Rattle.cjc_card_semantics.specs.Bytecode.Meanings.{meaning}
use Rattle.cjc_ncode.specs.ByLabel.{by_label}
use Rattle.cjc_ncode.proofs.methods_run_by_label.Goals as goal

pub returns-clause-static_call : goal.returns-clause-static_call
unfolding meaning int_wrap by_label after bad_at types_from parts_of desc_of
returns-clause-static_call c = refl

pub returns-clause-virtual_call : goal.returns-clause-virtual_call
unfolding meaning int_wrap by_label after bad_at types_from parts_of desc_of
returns-clause-virtual_call c = refl

pub returns-clause-caught : goal.returns-clause-caught
unfolding meaning int_wrap by_label after bad_at types_from parts_of desc_of
returns-clause-caught c = refl

pub returns-clause-put : goal.returns-clause-put
unfolding meaning int_wrap by_label after bad_at types_from parts_of desc_of
returns-clause-put c = refl

pub returns-clause-behind : goal.returns-clause-behind
unfolding meaning int_wrap by_label after bad_at types_from parts_of desc_of
returns-clause-behind c = refl
