use Rattle.std.proofs.Common.{sym, arith}
use Rattle.std.proofs.lemmas.List.{length-map}
use Rattle.std.specs.Prelude.{map}
use Rattle.cjc_jvm.specs.Acts.Meant.{sort_meant}
use Rattle.cjc_jvm.proofs.ActsLaws.Lengths.{all_fit-unlike}
use Rattle.cjc_card_semantics.specs.Bytecode.Machine.{object_fits}
use Rattle.cjc_card_semantics.specs.Machine.ByToken.{by_token}
use Rattle.cjc_card.proofs.acts.fitting.all_fit.Goals as goal

pub returns-then-sorts-values : goal.returns-then-sorts-values
returns-then-sorts-values g c =
    let is_of = object_fits (by_token (g.L.LookUps.loaded c.args.links.now)) c.args.heap.now in
    sym (all_fit-unlike is_of (map sort_meant c.args.sorts.now) c.args.values.now
    (λ e. absurd (omega (arith, e, length-map c.args.sorts.now sort_meant))))
