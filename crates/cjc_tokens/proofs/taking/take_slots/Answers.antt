use Rattle.std.proofs.Common.{◌≡◌, ◌∙◌, sym, ap, refl, false, true, map, take}
use Rattle.cjc_world.specs.Classes.{method_of_class}
use Rattle.cjc_tokens.specs.Members.{Signature, has, signatures}
use Rattle.cjc_tokens.specs.Slots.{with_taken}
use Rattle.cjc_tokens.specs.Working.{is_kind, is_of_kind, methods_in, signs, token_under}
use Rattle.cjc_tokens.proofs.Offers.{methods-more, methods-same}
use Rattle.cjc_tokens.proofs.Takings.{has-there, signature, takes-more}
use Rattle.cjc_tokens.proofs.taking.take_slots.Goals as goal
use Rattle.cjc_tokens.proofs.taking.take_slots.Goals.{then-is_of_kind, else-is_of_kind}
use Rattle.cjc_bytes.proofs.Gets.{take_past}

pub loop-method-init : goal.loop-method-init
loop-method-init c = λ implements own_is. record { slots = refl; methods = λ a. a }

pub loop-method-preserved : goal.loop-method-preserved
loop-method-preserved c = λ implements own_is. elim c.if-is_of_kind.branch [
  | then-is_of_kind w ↦
      let kind = ap (is_kind false c.method-item.result.flags) (sym c.items-name.ensures) ∙ sym c.is_of_kind.ensures
      ∙ w.if-is_of_kind.true in
      let s : Signature = record { name = c.items-name.result.now; desc = c.items-desc.result.now } in
      let there : has (signatures (is_of_kind false) (map method_of_class c.args.class.now.methods)) s ≡ true =
      ap (λ q. has (signatures (is_of_kind false) (map method_of_class q)) s) (sym c.items-method-items.ensures)
      ∙ ap (λ n. has (signatures (is_of_kind false) (map method_of_class c.items-method-items.result.now))
      (signature n c.items-desc.result.now)) c.items-name.ensures
      ∙ ap (λ d. has (signatures (is_of_kind false) (map method_of_class c.items-method-items.result.now))
      (signature c.method-item.result.name d)) c.items-desc.ensures
      ∙ has-there (is_of_kind false) c.items-method-items.result.now c.loop-method.method-index c.method-item.result
      c.loop-method-test.true c.method-item.is kind in
      rw (
        w.row-is,
        methods-more (is_of_kind false)
            c.items-method-items.result.now c.loop-method.method-index c.method-item.result c.items-name.result.now
            c.items-desc.result.now c.loop-method-test.true c.method-item.is c.items-name.ensures c.items-desc.ensures
            kind,
      )
      (takes-more (token_under c.args.told.now) (methods_in c.args.above.now)
      (signatures (is_of_kind false) (map method_of_class (take c.loop-method.method-index
      c.items-method-items.result.now))) s implements c.args.row.now.items c.loop-method.row.items w.take.new.row.items
      (c.loop-method.invariant implements own_is)
      (w.take.ensures.slots ∙ ap (λ o. with_taken o (methods_in c.args.above.now) s (signs c.loop-method.row.items))
      w.token-listed.ensures)
      (w.take.ensures.methods implements (w.own-found.ensures ∙ own_is s there)))
  | else-is_of_kind w ↦ rw (
    w.row-is,
    methods-same (is_of_kind false) c.items-method-items.result.now
        c.loop-method.method-index c.method-item.result c.loop-method-test.true c.method-item.is
        (ap (is_kind false c.method-item.result.flags) (sym c.items-name.ensures) ∙ sym c.is_of_kind.ensures
        ∙ w.if-is_of_kind.false),
  ) (c.loop-method.invariant implements own_is)
]

pub returns : goal.returns
returns c = λ implements own_is. rw (
  take_past c.items-method-items.result.now c.loop-method.method-index c.loop-method-test.false,
  c.items-method-items.ensures,
) at c.loop-method.invariant implements own_is
