use Rattle.std.proofs.Common.{◌≡◌, ℕ, List, Bool, ◌-◌, ◌+◌, arith, length, ap, ◌∙◌}
use Rattle.cjc_world.specs.Working.Asked.{asked_from, got, is_had}
use Rattle.cjc_world.specs.Classes.{all_classes}
use Rattle.cjc_world.specs.Working.Known.{class_of}
use Rattle.cjc_world.proofs.Asking.{asked-own, got-none, got-some, got-end}
use Rattle.cjc_world.proofs.class_index.ClassIndex.get_methods.Goals as goal
use Rattle.cjc_world.proofs.class_index.ClassIndex.get_methods.Goals.{in-Some+in_ok-get_one, in_default}

pub loop-position-init : goal.loop-position-init
loop-position-init c =
    let k = class_of c.args.interface in
    let there : List ℕ → List ℕ → Bool = λ n d. is_had (all_classes c.args.self.now) c.args.rows.now
    (class_of c.args.class) c.args.line.now n d in
    let n : c.member_count-position-end.result - 0 ≡ length k.methods =
    omega (arith, c.member_count-position-end.ensures) in
    ap (λ n. got there (class_of c.args.class).name c.args.ids.now.items (asked_from k 0 n)) n
    ∙ ap (got there (class_of c.args.class).name c.args.ids.now.items) (asked-own k)

pub loop-position-preserved : goal.loop-position-preserved
loop-position-preserved c =
    let k = class_of c.args.interface in
    let name = (class_of c.args.class).name in
    let there : List ℕ → List ℕ → Bool = λ n d. is_had (all_classes c.args.self.now) c.args.rows.now
    (class_of c.args.class) c.args.line.now n d in
    let i = c.loop-position.position in
    let end = c.member_count-position-end.result in
    elim c.match-asked.branch [
      | in-Some+in_ok-get_one w ↦
          ap (λ v. got there name v.items (asked_from k (i + 1) (end - (i + 1)))) w.ids-is
          ∙ got-some k there name i end c.loop-position.ids.items w.get_one.new.ids.items w.in-Some.name.now
          w.in-Some.desc.now c.loop-position-test.true w.in-Some.ensures w.in_ok-get_one.ensures
          ∙ c.loop-position.invariant
      | in_default w ↦
          ap (λ v. got there name v.items (asked_from k (i + 1) (end - (i + 1)))) w.ids-is
          ∙ got-none k there name i end c.loop-position.ids.items c.loop-position-test.true w.in_default.ensures
          ∙ c.loop-position.invariant
    ]

pub returns : goal.returns
returns c =
    got-end (class_of c.args.interface) (λ n d. is_had (all_classes c.args.self.now) c.args.rows.now
    (class_of c.args.class) c.args.line.now n d) (class_of c.args.class).name c.loop-position.position
    c.member_count-position-end.result c.loop-position.ids.items c.loop-position-test.false
    ∙ c.loop-position.invariant
