use Rattle.std.proofs.Common.{◌∙◌, ◌+◌, ◌*◌, ap, ℕ, List}
use Rattle.std.specs.Prelude.{sum_by}
use Rattle.cjc_methods.specs.declared.layouts.laid.Laid.{Laid}
use Rattle.cjc_methods.specs.Layouts.Working.Offsets.{handlers_of}
use Rattle.cjc_methods.proofs.LayoutsLaws.Standing.{first_is}
use Rattle.cjc_bytes.proofs.Options.{if_more}
use Rattle.cjc_methods.proofs.layouts.starts.first_method.Goals as goal

pub returns : goal.returns
returns c =
    let m = c.args.methods.now in
    let count = c.in_ok-handler_count.ensures ∙ ap (λ (ls : List Laid). sum_by handlers_of ls) c.items.ensures in
    if_more (λ n e. e ∙ ap (λ (k : ℕ). 1 + 8 * k) count ∙ first_is m c.requires) c.behind_handlers.result
    c.behind_handlers.ensures
