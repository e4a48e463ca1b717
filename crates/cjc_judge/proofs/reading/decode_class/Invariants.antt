use Rattle.cjc_judge.proofs.Decoding.{MethodsRead}
use Rattle.cjc_judge.proofs.reading.decode_class.Given as goal

abbrev pub invariant-loop-method : goal.invariant-loop-method
invariant-loop-method l = MethodsRead l.number l.class l.fn.codes l.codes l.fn.unsupported_insns l.unsupported_insns
    l.method
