use Rattle.std.proofs.Common.{◌≡◌, ◌∙◌, sym, true, map}
use Rattle.std.proofs.lemmas.List.{length-map}
use Rattle.cjc_script.specs.Sorts.{all_fit}
use Rattle.cjc_jvm.specs.Acts.Meant.{sort_meant}
use Rattle.cjc_card_semantics.specs.Bytecode.Machine.{object_fits}
use Rattle.cjc_card_semantics.specs.Machine.ByToken.{by_token}
use Rattle.cjc_card.proofs.ActsLaws.Joined.{all_any, as_many}
use Rattle.cjc_card.proofs.acts.words.put_fitting.Goals as goal

pub put_words-requires-clause-same : goal.put_words-requires-clause-same
put_words-requires-clause-same g c =
    let is_of = object_fits (by_token (g.L.LookUps.loaded c.args.links.now)) c.args.heap.now in
    let sorts = map sort_meant c.args.sorts.now in
    let fit : all_fit is_of sorts c.args.values.now ≡ true = sym c.all_fit.ensures ∙ c.if-not-all_fit.false in
    sym (length-map c.args.sorts.now sort_meant) ∙ as_many is_of sorts c.args.values.now fit

pub put_words-requires-clause-fit : goal.put_words-requires-clause-fit
put_words-requires-clause-fit g c =
    let is_of = object_fits (by_token (g.L.LookUps.loaded c.args.links.now)) c.args.heap.now in
    let sorts = map sort_meant c.args.sorts.now in
    let fit : all_fit is_of sorts c.args.values.now ≡ true = sym c.all_fit.ensures ∙ c.if-not-all_fit.false in
    all_any is_of sorts c.args.values.now fit
