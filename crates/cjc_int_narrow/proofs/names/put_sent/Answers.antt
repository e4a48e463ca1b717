use Rattle.std.proofs.Common.{ap, ◌∙◌}
use Rattle.std.proofs.lemmas.Result.{on_ok_weaker}
use Rattle.cjc_int_mode.specs.Bytes.declared.descriptor.Kind.{Kind}
use Rattle.cjc_int_mode.specs.Script.Sorts.{sort_by}
use Rattle.cjc_ncode.specs.IntCode.IntCode.{is_short}
use Rattle.cjc_narrow.specs.Select.Working.Names.{resolution_of}
use Rattle.cjc_int_narrow.proofs.Puts.{sent}
use Rattle.cjc_int_narrow.proofs.names.put_sent.Goals as goal

pub returns : goal.returns
returns c =
    let d = c.args.parts.now in
    let result = d.result in
    on_ok_weaker c.put_widened.result (
    λ more. sent c.args.frame.now (resolution_of c.args.names.now) c.args.op c.args.method.now d c.args.out.now
    c.put_handed.new.out c.put_call.new.out c.put_widened.new.out c.scratch.result c.is_short.result
    c.requires.is_method c.scratch.ensures c.in_ok-put_handed.ensures c.in_ok-put_call.ensures
    (c.is_short.ensures result.class ∙ ap (λ (k : Kind). is_short (sort_by k result.class))
    c.result_type.ensures.kind) more
    ) c.put_widened.ensures
