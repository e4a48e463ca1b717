use Rattle.std.proofs.Common.{◌∙◌, ◌-◌, ◌≤◌, ap, subst, map}
use Rattle.std.specs.Prelude.{option_map, slice_get, unwrap_or}
use Rattle.cjc_world.specs.Added.{added, named_by}
use Rattle.cjc_world.specs.Working.Known.{class_of}
use Rattle.cjc_components.specs.Descriptor.{methods_with_added, no_member}
use Rattle.cjc_exported.specs.ExportFile.Working.Sources.{bare, given, world_in}
use Rattle.cjc_exported.proofs.ExportFile.Methods.{given-place}
use Rattle.cjc_exported.proofs.export_file.source.Source.method_in.Goals as goal

pub returns-else-place-count : goal.returns-else-place-count
returns-else-place-count c =
    let k = class_of c.args.class in
    let w = world_in c.args.self.now in
    let place = c.saturating_sub-place.result in
    c.given_at.ensures
    ∙ ap (λ ids. unwrap_or (option_map given (slice_get ids (place - c.member_count-count.result))) no_member)
    c.given.ensures
    ∙ ap (λ n. unwrap_or (option_map given (slice_get (map (named_by k.name) (added w k)) (place - n))) no_member)
    c.member_count-count.ensures
    ∙ given-place w k place (subst (λ n. n ≤ place) c.member_count-count.ensures c.if-place-count.false)
    ∙ ap (λ i. bare (unwrap_or (slice_get (methods_with_added w k) i) no_member)) (c.saturating_sub-place.ensures
    ∙ ap (λ n. c.args.member - n) c.field_count.ensures)
