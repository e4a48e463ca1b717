use Rattle.std.proofs.Common.{sym, ap, ◌∙◌}
use Rattle.std.specs.Prelude.{Option}
use Rattle.cjc_narrow.specs.Written.Working.Tests.{test_by}
use Rattle.cjc_narrow.specs.declared.written.type_tests.Test.{Test}
use Rattle.cjc_int_narrow.proofs.Moves.{named_shape}
use Rattle.cjc_int_narrow.proofs.kinds.is_shape.Goals as goal

pub returns-in-Some : goal.returns-in-Some
returns-in-Some c = named_shape c.in-Some.field-0 _ (λ op. ap (λ (test : Option Test). test_by op test)
    (sym c.in-Some.is) ∙ c.in_ok-tested.ensures op)
