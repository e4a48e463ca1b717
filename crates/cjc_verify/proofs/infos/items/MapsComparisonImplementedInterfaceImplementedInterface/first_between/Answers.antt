use Rattle.std.proofs.Common.{ℕ, ◌+◌, ◌==◌, Bool, List, length, ap, ◌∙◌}
use Rattle.cjc_check_rules.specs.Spots.{bytes_differ, first, in_info, unless}
use Rattle.cjc_check_rules.proofs.Firsts.{joined}
use Rattle.cjc_verify.proofs.infos.items.MapsComparisonImplementedInterfaceImplementedInterface.first_between.Goals as goal

pub returns : goal.returns
returns c =
    let at = c.args.at in
    let own = c.args.item.now in
    let wanted = c.items-wanted.result.now in
    let interface = c.unless-interface.ensures ∙ ap (λ (b : Bool). first (unless b (in_info 6 at)))
    c.same_class.ensures in
    let count = c.unless-count.ensures
    ∙ ap (λ (xs : List ℕ). first (unless (length xs == length wanted) (in_info 6 (at + 2)))) c.items-index.ensures
    ∙ ap (λ (xs : List ℕ). first (unless (length own.index == length xs) (in_info 6 (at + 2)))) c.items-wanted.ensures
    in
    let bytes = c.first_beside.ensures
    ∙ ap (λ (xs : List ℕ). first (bytes_differ 6 (at + 3) xs wanted)) c.items-index.ensures
    ∙ ap (λ (xs : List ℕ). first (bytes_differ 6 (at + 3) own.index xs)) c.items-wanted.ensures in
    c.earlier-2.ensures ∙ joined c.earlier.result c.first_beside.result _ _
    (c.earlier.ensures ∙ joined c.unless-interface.result c.unless-count.result _ _ interface count) bytes
