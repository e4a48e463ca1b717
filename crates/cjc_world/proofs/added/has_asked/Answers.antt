use Rattle.std.proofs.Common.{◌≡◌, ◌-◌, arith, length, sym, ap, ◌∙◌}
use Rattle.cjc_world.specs.Added.{is_one_of}
use Rattle.cjc_world.specs.Working.Asked.{asked_from}
use Rattle.cjc_world.specs.Working.Known.{class_of}
use Rattle.cjc_world.proofs.Asking.{asked-own, asked-none, asked-other, asked-same, asked-end}
use Rattle.cjc_world.proofs.added.has_asked.Goals as goal
use Rattle.cjc_world.proofs.added.has_asked.Goals.{in-Some+else-is_called, in_default}

pub loop-position-init : goal.loop-position-init
loop-position-init c =
    let k = class_of c.args.class in
    let n : c.member_count-position-end.result - 0 ≡ length k.methods =
    omega (arith, c.member_count-position-end.ensures) in
    ap (λ n. is_one_of (asked_from k 0 n) c.args.name.now c.args.desc.now) n
    ∙ ap (λ ms. is_one_of ms c.args.name.now c.args.desc.now) (asked-own k)

pub returns-then-is_called : goal.returns-then-is_called
returns-then-is_called c =
    sym (asked-same (class_of c.args.class) c.args.name.now c.args.desc.now c.loop-position.position
    c.member_count-position-end.result c.in-Some.own_name.now c.in-Some.own_desc.now c.loop-position-test.true
    c.in-Some.ensures (sym c.is_called.ensures ∙ c.if-is_called.true))
    ∙ c.loop-position.invariant

pub loop-position-preserved : goal.loop-position-preserved
loop-position-preserved c = elim c.match-asked.branch [
  | in-Some+else-is_called w ↦
      sym (asked-other (class_of c.args.class) c.args.name.now c.args.desc.now c.loop-position.position
      c.member_count-position-end.result w.in-Some.own_name.now w.in-Some.own_desc.now c.loop-position-test.true
      w.in-Some.ensures (sym w.is_called.ensures ∙ w.if-is_called.false))
      ∙ c.loop-position.invariant
  | in_default w ↦
      sym (asked-none (class_of c.args.class) c.args.name.now c.args.desc.now c.loop-position.position
      c.member_count-position-end.result c.loop-position-test.true w.in_default.ensures)
      ∙ c.loop-position.invariant
]

pub returns : goal.returns
returns c = sym (asked-end (class_of c.args.class) c.args.name.now c.args.desc.now c.loop-position.position
    c.member_count-position-end.result c.loop-position-test.false) ∙ c.loop-position.invariant
