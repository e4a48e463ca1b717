use Rattle.cjc_shrink.proofs.Begins.{static_call, object_call}
use Rattle.cjc_shrink.proofs.calls_begin_alike.Goals as goal

pub returns-clause-static_call : goal.returns-clause-static_call
returns-clause-static_call c = static_call

pub returns-clause-object_call : goal.returns-clause-object_call
returns-clause-object_call c = object_call
