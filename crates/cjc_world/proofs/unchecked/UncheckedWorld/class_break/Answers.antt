use Rattle.std.proofs.Common.{ℕ, true, false, ◌++◌, sym, ap, ◌∙◌}
use Rattle.std.specs.Prelude.{Some, map, option_map}
use Rattle.cjc_bytes.specs.Told.{break_of}
use Rattle.cjc_world.specs.Classes.{all_classes}
use Rattle.cjc_world.specs.Working.Known.{class_of}
use Rattle.cjc_world.specs.Rules.{at_class, class_breaks, class_rules, members_from}
use Rattle.cjc_world.proofs.Heads.{head_some, head_none, head_of_map}
use Rattle.cjc_world.proofs.unchecked.UncheckedWorld.class_break.Goals as goal

pub returns-in-Some : goal.returns-in-Some
unfolding class_breaks
returns-in-Some c =
    let w = all_classes c.args.self.now in
    let k = class_of c.args.known in
    let f = λ (rule : ℕ). at_class c.args.file c.args.file_name.now c.args.class k.name rule in
    let rules = class_rules c.args.self.now.package_name w k in
    let fields = members_from c.args.file c.args.file_name.now c.args.class w k true 0 k.fields in
    let methods = members_from c.args.file c.args.file_name.now c.args.class w k false 0 k.methods in
    let broken = head_of_map f rules ∙ ap (option_map f) (sym c.in-Some.ensures) in
    ap (λ n. Some (at_class c.args.file c.args.file_name.now c.args.class n c.in-Some.rule)) c.name.ensures
    ∙ sym (head_some (map f rules ++ fields) methods (f c.in-Some.rule) (head_some (map f rules) fields
    (f c.in-Some.rule) broken))

pub returns-in-Some-member_break : goal.returns-in-Some-member_break
unfolding class_breaks
returns-in-Some-member_break c =
    let w = all_classes c.args.self.now in
    let k = class_of c.args.known in
    let f = λ (rule : ℕ). at_class c.args.file c.args.file_name.now c.args.class k.name rule in
    let rules = class_rules c.args.self.now.package_name w k in
    let fields = members_from c.args.file c.args.file_name.now c.args.class w k true 0 k.fields in
    let methods = members_from c.args.file c.args.file_name.now c.args.class w k false 0 k.methods in
    let whole = head_of_map f rules ∙ ap (option_map f) (sym c.in_default.ensures) in
    let b = break_of c.in-Some-member_break.broken in
    sym (head_some (map f rules ++ fields) methods b (head_none (map f rules) fields whole
    ∙ sym c.in-Some-member_break.ensures))

pub returns : goal.returns
unfolding class_breaks
returns c =
    let w = all_classes c.args.self.now in
    let k = class_of c.args.known in
    let f = λ (rule : ℕ). at_class c.args.file c.args.file_name.now c.args.class k.name rule in
    let rules = class_rules c.args.self.now.package_name w k in
    let fields = members_from c.args.file c.args.file_name.now c.args.class w k true 0 k.fields in
    let methods = members_from c.args.file c.args.file_name.now c.args.class w k false 0 k.methods in
    let whole = head_of_map f rules ∙ ap (option_map f) (sym c.in_default.ensures) in
    c.member_break-2.ensures
    ∙ sym (head_none (map f rules ++ fields) methods (head_none (map f rules) fields whole
    ∙ sym c.in_default-member_break.ensures))
