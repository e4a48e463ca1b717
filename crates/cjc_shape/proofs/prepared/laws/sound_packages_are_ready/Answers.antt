use Rattle.cjc_shape.proofs.PreparedLaws.Sound.{are_ready, few_cells, few_exported, has_tokens, is_tested, is_unbroken}
use Rattle.cjc_shape.proofs.WholeLaws.Ints.{short_free}
use Rattle.cjc_shape.proofs.prepared.laws.sound_packages_are_ready.Goals as goal

pub returns-clause-tested : goal.returns-clause-tested
returns-clause-tested c = λ list files judged is. is_tested list files judged is

pub returns-clause-unbroken : goal.returns-clause-unbroken
returns-clause-unbroken c = λ list files judged is free. is_unbroken list files judged is free

pub returns-clause-free : goal.returns-clause-free
returns-clause-free c = λ list files judged is short. short_free list files judged is short

pub returns-clause-ready : goal.returns-clause-ready
returns-clause-ready c = λ list files judged is. are_ready list files judged is

pub returns-clause-exported : goal.returns-clause-exported
returns-clause-exported c = λ list files judged is. few_exported list files judged is

pub returns-clause-cells : goal.returns-clause-cells
returns-clause-cells c = λ list files judged is. few_cells list files judged is

pub returns-clause-tokens : goal.returns-clause-tokens
returns-clause-tokens c = λ list files judged is. has_tokens list files judged is
