use Rattle.std.proofs.Common.{◌≡◌, ◌<◌, ◌≤◌, ◌+◌, [], length, get_or, sym, ap, subst, ◌∙◌}
use Rattle.std.specs.Prelude.{Some}
use Rattle.cjc_bytes.specs.Told.{text_of}
use Rattle.cjc_world.specs.Classes.{Member, all_classes}
use Rattle.cjc_world.specs.Working.Known.{class_of}
use Rattle.cjc_world.specs.Rules.{at_member, head, member_rules, members, members_before, told}
use Rattle.cjc_world.proofs.Heads.{member_breaks, member_keeps, members_end}
use Rattle.cjc_world.proofs.class_index.ClassIndex.member_break.Goals as goal

nobody : Member
nobody = record { flags = 0; name = []; desc = []; token = 0 }

pub returns-in-Some : goal.returns-in-Some
returns-in-Some c =
    let w = all_classes c.args.self.now in
    let k = class_of c.args.known in
    let ms = members c.args.field k in
    let i = c.loop-place.place in
    let m = get_or ms i nobody in
    let within : i < length ms = subst (λ n. i < n) c.member_count-place-end.ensures c.loop-place-test.true in
    let file = c.args.file in
    let file_name = c.args.file_name.now in
    let rule = c.in-Some.rule in
    let name = c.member_at.ensures.name nobody in
    let desc = c.member_at.ensures.desc nobody in
    let part = c.part.result in
    let broken : Some rule ≡ head (member_rules w k ms i m.name m.desc) =
    c.in-Some.ensures ∙ ap (λ n. head (member_rules w k ms i n c.member_at.result.1.now)) name
    ∙ ap (λ n. head (member_rules w k ms i m.name n)) desc in
    ap (λ n. Some (at_member file file_name c.args.class n c.member_number.result (text_of part) rule)) c.name.ensures
    ∙ ap (λ n. Some (at_member file file_name c.args.class k.name n (text_of part) rule)) c.member_number.ensures
    ∙ ap (λ t. Some (at_member file file_name c.args.class k.name (members_before c.args.field k + i + 1) t rule))
    (c.part.ensures ∙ ap (λ n. told c.args.field n c.member_at.result.1.now) name
    ∙ ap (λ n. told c.args.field m.name n) desc)
    ∙ sym (member_breaks file file_name c.args.class w k c.args.field i ms nobody rule within broken)
    ∙ c.loop-place.invariant

pub loop-place-preserved : goal.loop-place-preserved
loop-place-preserved c =
    let w = all_classes c.args.self.now in
    let k = class_of c.args.known in
    let ms = members c.args.field k in
    let i = c.loop-place.place in
    let m = get_or ms i nobody in
    let within : i < length ms = subst (λ n. i < n) c.member_count-place-end.ensures c.loop-place-test.true in
    let whole = c.in_default.ensures ∙ ap (λ n. head (member_rules w k ms i n c.member_at.result.1.now))
    (c.member_at.ensures.name nobody) ∙ ap (λ n. head (member_rules w k ms i m.name n)) (c.member_at.ensures.desc
    nobody) in
    sym (member_keeps c.args.file c.args.file_name.now c.args.class w k c.args.field i ms nobody within whole)
    ∙ c.loop-place.invariant

pub returns : goal.returns
returns c =
    let k = class_of c.args.known in
    let ms = members c.args.field k in
    let i = c.loop-place.place in
    let past : length ms ≤ i = subst (λ n. n ≤ i) c.member_count-place-end.ensures c.loop-place-test.false in
    sym (members_end c.args.file c.args.file_name.now c.args.class (all_classes c.args.self.now) k c.args.field i ms
    past)
    ∙ c.loop-place.invariant
