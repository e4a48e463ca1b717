use Rattle.std.proofs.Common.{sym, arith}
use Rattle.std.proofs.lemmas.List.{length-map}
use Rattle.std.specs.Prelude.{map}
use Rattle.cjc_jvm.specs.Acts.Meant.{sort_meant}
use Rattle.cjc_jvm.proofs.ActsLaws.Lengths.{are_of_sorts-unlike}
use Rattle.cjc_jvm.proofs.acts.fitting.are_of_sorts.Goals as goal

pub returns-then-sorts-values : goal.returns-then-sorts-values
returns-then-sorts-values c =
    sym (are_of_sorts-unlike (map sort_meant c.args.sorts.now) c.args.values.now
    (λ e. absurd (omega (arith, e, length-map c.args.sorts.now sort_meant))))
