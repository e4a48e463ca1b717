use Rattle.std.proofs.Common.{◌∙◌, ap, ℕ, List, length}
use Rattle.cjc_pool.specs.NCode.declared.narrow.NMethod.{NMethod}
use Rattle.cjc_methods.specs.declared.layouts.laid.Laid.{Laid}
use Rattle.cjc_methods.specs.Layouts.Working.Offsets.{offsets_from}
use Rattle.cjc_methods.proofs.LayoutsLaws.Standing.{all_offsets, offsets_long}
use Rattle.cjc_bytes.proofs.Options.{if_more}
use Rattle.cjc_methods.proofs.layouts.starts.offsets.Goals as goal

pub returns-clause-count : goal.returns-clause-count
returns-clause-count c =
    let m = c.args.methods.now in
    if_more (λ row e.
    ap (λ (xs : List ℕ). length xs) (e ∙ ap (λ (cs : List NMethod). offsets_from c.in_ok-first.first cs
    c.items-2.result.now) c.items.ensures ∙ ap (λ (ls : List Laid). offsets_from c.in_ok-first.first m.codes ls)
    c.items-2.ensures)
    ∙ offsets_long c.in_ok-first.first m.codes m.laid c.requires.count)
    c.offsets_from.result c.offsets_from.ensures

pub returns-clause-each : goal.returns-clause-each
returns-clause-each c =
    let m = c.args.methods.now in
    if_more (λ row e.
    e ∙ ap (λ (cs : List NMethod). offsets_from c.in_ok-first.first cs c.items-2.result.now) c.items.ensures
    ∙ ap (λ (ls : List Laid). offsets_from c.in_ok-first.first m.codes ls) c.items-2.ensures
    ∙ ap (λ (at : ℕ). offsets_from at m.codes m.laid) c.in_ok-first.ensures
    ∙ all_offsets m c.requires)
    c.offsets_from.result c.offsets_from.ensures
