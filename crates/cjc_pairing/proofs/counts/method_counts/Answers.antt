use Rattle.std.proofs.Common.{ap, ◌∙◌, ◌++◌}
use Rattle.std.specs.List.{flat_map}
use Rattle.cjc_pairing.specs.Working.Counts.{count_at}
use Rattle.cjc_pairing.proofs.ByNumber.{both_are}
use Rattle.cjc_pairing.proofs.counts.method_counts.Goals as goal

pub returns : goal.returns
returns c =
    let files = c.args.world.now in
    both_are files c.in_ok-interfaces.interfaces c.in_ok-classes.classes _ _ c.in_ok-interfaces.ensures.order
    c.in_ok-classes.ensures.order
    (c.in_ok-put_counts.ensures ∙ ap (λ ns. ns ++ flat_map (count_at files) c.items.result.now) c.new-counts.ensures
    ∙ ap (flat_map (count_at files)) c.items.ensures)
    (c.in_ok-put_counts-2.ensures ∙ ap (λ ns. c.put_counts.new.counts ++ flat_map (count_at files) ns)
    c.items-2.ensures)
