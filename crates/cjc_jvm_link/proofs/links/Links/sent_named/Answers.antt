use Rattle.std.proofs.Common.{◌∙◌, sym, refl}
use Rattle.cjc_world.specs.Classes.{all_classes}
use Rattle.cjc_jvm_link.specs.Found.{hit_of}
use Rattle.cjc_jvm_link.proofs.Found.{not_sent, sent}
use Rattle.cjc_jvm_link.proofs.links.Links.sent_named.Goals as goal

pub returns-then-not-is_sent : goal.returns-then-not-is_sent
returns-then-not-is_sent c =
    let files = c.args.self.now.files in
    let hit = hit_of c.in-Some.method.owner in
    not_sent files (all_classes files) c.args.type_name.now c.args.id.now c.in-Some.method.found hit c.in-Some.ensures.0
    c.in-Some.ensures.1
    (sym (c.is_sent.ensures hit refl) ∙ c.if-not-is_sent.true)

pub returns : goal.returns
returns c =
    let files = c.args.self.now.files in
    let hit = hit_of c.in-Some.method.owner in
    c.selected_method.ensures
    ∙ sent files (all_classes files) c.args.type_name.now c.args.id.now c.in-Some.method.found hit c.in-Some.ensures.0
    c.in-Some.ensures.1
    (sym (c.is_sent.ensures hit refl) ∙ c.if-not-is_sent.false)
