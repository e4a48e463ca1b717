use Rattle.std.proofs.Common.{◌≡◌, ◌∙◌, ap, sym, None, Some, arith, drop, ◌+◌, true, false}
use Rattle.cjc_world.specs.Classes.{all_classes, class_named}
use Rattle.cjc_world.specs.Kin.{kin}
use Rattle.cjc_world.specs.Known.{class_of}
use Rattle.cjc_tokens.specs.Slots.{with_new}
use Rattle.cjc_tokens.specs.Working.{asked, signs}
use Rattle.cjc_tokens.proofs.Asked.{asked-next, asked-skip, asked-end}
use Rattle.cjc_tokens.proofs.interfaces.+put_asked.Goals as goal
use Rattle.cjc_tokens.proofs.interfaces.+put_asked.Goals.{in-Some+in_ok-put_asked+in_ok-put_asked-2+in_ok-put_own_where, in_default}

pub loop-name-preserved : goal.loop-name-preserved
loop-name-preserved n c =
    let w = all_classes c.args.world.now in
    let whole = with_new (signs c.args.row.now.items) (asked c.args.listed (kin w c.args.names.now)) in
    elim c.match-class_named.branch [
      | in-Some+in_ok-put_asked+in_ok-put_asked-2+in_ok-put_own_where v ↦
          (let named : class_named w c.name-item.result ≡ Some (class_of v.in-Some.class) = ap (class_named w) (sym c.items.ensures) ∙ sym v.in-Some.ensures.named in
          ap (λ q. with_new (signs q.items) (asked c.args.listed (kin w (drop (c.loop-name.name-index + 1) c.args.names.now)))) v.row-is
          ∙ asked-next w (c.lookup_laws.ensures.is_kin w c.requires) (c.lookup_laws.ensures.one_kin w) c.args.listed (signs c.loop-name.row.items) (signs v.put_asked.new.row.items) (signs v.put_asked-in-Some.new.row.items) (signs v.put_own_where.new.row.items) whole c.args.names.now c.loop-name.name-index c.name-item.result (class_of v.in-Some.class) c.loop-name-test.true c.name-item.is named
          (v.in_ok-put_asked.ensures ∙ ap (λ q. with_new (signs c.loop-name.row.items) (asked false (kin w q))) v.supers.ensures)
          (v.in_ok-put_asked-2.ensures ∙ ap (λ q. with_new (signs v.put_asked.new.row.items) (asked true (kin w q))) v.interfaces.ensures)
          v.in_ok-put_own_where.ensures c.loop-name.invariant)
      | in_default v ↦
          (let none : class_named w c.name-item.result ≡ None = ap (class_named w) (sym c.items.ensures) ∙ sym v.in_default.ensures.named in
          ap (λ q. with_new (signs q.items) (asked c.args.listed (kin w (drop (c.loop-name.name-index + 1) c.args.names.now)))) v.row-is
          ∙ asked-skip w (c.lookup_laws.ensures.is_kin w c.requires) (c.lookup_laws.ensures.one_kin w) c.args.listed (signs c.loop-name.row.items) whole c.args.names.now c.loop-name.name-index c.name-item.result c.loop-name-test.true c.name-item.is none c.loop-name.invariant)
    ]

pub returns : goal.returns
returns n c =
    let w = all_classes c.args.world.now in
    asked-end w (c.lookup_laws.ensures.is_kin w c.requires) (c.lookup_laws.ensures.one_kin w) c.args.listed (signs c.loop-name.row.items) (with_new (signs c.args.row.now.items) (asked c.args.listed (kin w c.args.names.now))) c.args.names.now c.loop-name.name-index c.loop-name-test.false c.loop-name.invariant
