use Rattle.std.proofs.Common.{◌≡◌, ◌∙◌, List, Option, sym, ap, subst}
use Rattle.std.specs.Prelude.{IfOk}
use Rattle.cjc_check_rules.specs.Spots.{first}
use Rattle.cjc_check_rules.specs.declared.spot.ComponentPlace.{ComponentPlace}
use Rattle.cjc_verify.specs.Described.{described_spots}
use Rattle.cjc_verify.specs.Pairs.{Pair}
use Rattle.cjc_verify.specs.WantedDescribed.{wanted_classes, wanted_entries}
use Rattle.cjc_verify.specs.WantedDescriptor.{all_differ}
use Rattle.cjc_verify.specs.Working.Ready.{pair_by}
use Rattle.cjc_verify.specs.declared.described.wanted.WantedClass.{WantedClass}
use Rattle.cjc_verify.specs.declared.described.wanted.WantedEntry.{WantedEntry}
use Rattle.cjc_verify.proofs.described.described_spot.Goals as goal

pub all_differ-requires : goal.all_differ-requires
all_differ-requires c = c.pair.invariant.small.descriptor

pub returns : goal.returns
returns c =
    let i = c.pair.inside in
    let p = pair_by i.world.now i.tokens.now i.image.now i.parts.now i.tables.now in
    let d = i.parts.now.descriptor.now in
    let is : first (all_differ d c.items.result.now c.items-2.result.now) ≡ first (described_spots p) =
    ap (λ (ws : List WantedClass). first (all_differ d ws c.items-2.result.now)) (c.items.ensures
    ∙ c.in_ok-classes.ensures ∙ ap wanted_classes (sym c.pair.view_is))
    ∙ ap (λ (ws : List WantedEntry). first (all_differ d (wanted_classes p) ws)) (c.items-2.ensures
    ∙ c.in_ok-entries.ensures ∙ ap wanted_entries (sym c.pair.view_is))
    ∙ ap first (sym (c.described_beside_wanted.ensures.described p)) in
    subst (λ (q : Pair). IfOk c.all_differ.result (λ s. s ≡ first (described_spots q))) c.pair.view_is
    (subst (λ (o : Option ComponentPlace). IfOk c.all_differ.result (λ s. s ≡ o)) is c.all_differ.ensures)
