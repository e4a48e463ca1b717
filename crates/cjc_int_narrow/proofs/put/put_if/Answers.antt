use Rattle.std.proofs.Common.{◌++◌, ◌<◌, arith, sym, ap, ◌∙◌}
use Rattle.std.proofs.lemmas.Result.{on_ok_weaker}
use Rattle.cjc_int_mode.specs.Bytecode.Jvm as jvm
use Rattle.cjc_int_mode.specs.Bytecode.declared.insn.JOp.{JOp}
use Rattle.cjc_ncode.specs.Written.{written as written_short}
use Rattle.cjc_ncode.specs.IntCode.IntCode.{written}
use Rattle.cjc_narrow.specs.Written.Labels.{place_of}
use Rattle.cjc_narrow.specs.Written.Operands.{names_member}
use Rattle.cjc_int_narrow.proofs.Puts.{jumped_far}
use Rattle.cjc_int_narrow.proofs.put.put_if.Goals as goal

pub returns-then-op-le-IF_ICMPLE : goal.returns-then-op-le-IF_ICMPLE
returns-then-op-le-IF_ICMPLE c = λ f r b here.
    on_ok_weaker c.put_comparison.result (
    λ more. more ∙ ap (λ (i : JOp). c.args.out.now ++ written f r (place_of c.args.places.now) b here i)
    (sym c.requires)
    ) c.put_comparison.ensures

pub returns-else-op-le-IF_ICMPLE : goal.returns-else-op-le-IF_ICMPLE
returns-else-op-le-IF_ICMPLE c = λ f r b here.
    let p = place_of c.args.places.now in
    let far : jvm.if_icmple < c.args.op = omega arith in
    on_ok_weaker c.put_plain.result (
    λ more. more ∙ ap (λ (i : JOp). c.args.out.now ++ written_short r p i) c.requires
    ∙ ap (λ code. c.args.out.now ++ code) (sym (jumped_far c.args.op (p c.args.target) far))
    ∙ ap (λ (i : JOp). c.args.out.now ++ written f r p b here i) (sym c.requires)
    ) (c.put_plain.ensures r (ap names_member c.requires))
