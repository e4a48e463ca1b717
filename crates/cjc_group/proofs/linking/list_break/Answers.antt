use Rattle.std.proofs.Common.{List, [], ap, ◌∙◌}
use Rattle.std.specs.Prelude.{◌||◌}
use Rattle.std.specs.List.{list_any}
use Rattle.cjc_bytes.specs.Breaks.{class_spot}
use Rattle.cjc_bytes.specs.Order.{FilePlace}
use Rattle.cjc_bytes.proofs.Firsts.{at_same}
use Rattle.cjc_group.specs.Members.{Member}
use Rattle.cjc_group.specs.Rules.{imports, imports_differing, imports_other, imports_resting, is_named_alike}
use Rattle.cjc_group.proofs.linking.list_break.Goals as goal

pub returns : goal.returns
returns c =
    let group = c.args.group.now in
    let p = c.args.member.now in
    let before = c.split_at.ensures.front in
    let later = c.split_at.ensures.back in
    let spot = c.of_class-spot.ensures ∙ ap (λ (f : FilePlace). class_spot f 0 []) c.list_file.ensures in
    let other = c.imports_other_of.ensures ∙ ap (λ (ms : List Member). list_any (λ m. imports_other p m) ms) before in
    let late = c.imports_later.ensures ∙ ap (λ (ms : List Member). list_any (λ m. imports p m) ms
    || imports_resting group p) later in
    let alike = c.is_named_before.ensures ∙ ap (λ (ms : List Member). list_any (λ m. is_named_alike p m) ms) before in
    let differing = c.imports_differing_from.ensures ∙ ap (λ (ms : List Member).
    list_any (λ m. imports_differing group p m) ms) before in
    c.first-3.ensures _ _
    (c.first-2.ensures _ _
    (c.first.ensures _ _
    (at_same 731 _ other spot c.broken-other.ensures)
    (at_same 732 _ late spot c.broken-late.ensures))
    (at_same 733 _ alike spot c.broken-alike.ensures))
    (at_same 734 _ differing spot c.broken-differing.ensures)
