use Rattle.std.proofs.Common.{◌≡◌, ◌∙◌, subst}
use Rattle.std.specs.Prelude.{IfOk}
use Rattle.cjc_link_semantics.specs.CardSemantics.Machine.ByToken.{run}
use Rattle.cjc_cmd_link.proofs.Loading.{token_report}
use Rattle.cjc_cmd_link.proofs.Named.{are_small, images_count}
use Rattle.cjc_cmd_link.specs.ByToken.{AreParts}
use Rattle.cjc_cmd_link.proofs.tokens.tokens_report.Goals as goal

pub all_names-requires-clause-count : goal.all_names-requires-clause-count
all_names-requires-clause-count c = let r = c.requires.made in images_count r.0 c.args.members.now c.args.images.now r.1

pub group_parts-requires-clause-named : goal.group_parts-requires-clause-named
group_parts-requires-clause-named c = rw c.items-2.ensures c.in_ok-names.ensures.named

pub group_parts-requires-clause-count : goal.group_parts-requires-clause-count
group_parts-requires-clause-count c = rw c.items-2.ensures c.in_ok-names.ensures.count

pub of_packages-requires : goal.of_packages-requires
of_packages-requires c = are_small _ _ _ _ _ c.in_ok-parts.ensures

pub returns : goal.returns
returns c =
    token_report c.args.members.now c.args.images.now c.in_ok-parts.parts c.args.outside.now c.args.script.now c.args.n
    c.run.result c.requires.outside
    (subst (λ ws. AreParts ws c.args.outside.now c.args.members.now c.args.images.now c.in_ok-parts.parts)
    (c.items.ensures ∙ c.in_ok-packages.ensures) c.in_ok-parts.ensures)
    (subst (λ l. IfOk c.run.result (λ report. report ≡ run l c.args.script.now c.args.n)) c.in_ok-loaded.ensures
    c.run.ensures)
