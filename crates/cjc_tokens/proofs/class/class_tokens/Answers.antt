use Rattle.std.proofs.Common.{◌≡◌, ◌∙◌, sym, ap, map, ◌++◌, Some, None, ℕ}
use Rattle.std.specs.Prelude.{◌&&◌, count_by, if◌then◌else◌, nat_lt, Option}
use Rattle.std.specs.List.{list_any}
use Rattle.cjc_world.specs.Classes.{all_classes, declared, method_of_class}
use Rattle.cjc_tokens.specs.Members.{Signature, signature_of}
use Rattle.cjc_tokens.specs.Lines.{line_at}
use Rattle.cjc_tokens.specs.Slots.{token_among}
use Rattle.cjc_tokens.specs.Fields.{field_tokens, instance_tokens, is_open_static}
use Rattle.cjc_tokens.specs.Methods.{class_method_tokens, is_open_bound, virtual_token}
use Rattle.cjc_tokens.specs.Rules.{is_above}
use Rattle.cjc_world.specs.Exported.{is_exported}
use Rattle.cjc_tokens.specs.Working.{is_high_class, member_of, methods_in, signs, token_under}
use Rattle.cjc_tokens.proofs.Listings.{slot_token-is}
use Rattle.cjc_tokens.proofs.Sums.{few-instances}
use Rattle.cjc_tokens.proofs.Classes.{high-class, high-first, tokens-class}
use Rattle.cjc_tokens.proofs.class.class_tokens.Goals as goal

pub put_method_tokens-requires-clause-low : goal.put_method_tokens-requires-clause-low
put_method_tokens-requires-clause-low c =
    let T : Signature → Option ℕ = λ s. token_among (token_under c.in_ok-told.told s) (signs c.in_ok-slots.slots)
    c.items.result.now s in
    let ex = c.is_exported-exported.result in
    let K = c.args.class.now in
    let H = signs c.in_ok-hidden.hidden in
    ap (list_any (λ m. is_above 127 (virtual_token T H (method_of_class m)))) c.items-3.ensures
    ∙ high-first (list_any (λ m. is_above 127 (virtual_token T H (method_of_class m))) K.methods)
    (list_any (λ m. is_above 127 (T (signature_of (member_of m)))) c.args.ids.now)
    (ex && nat_lt 255 (count_by is_open_bound (map method_of_class K.methods)))
    (ex && nat_lt 255 (count_by is_open_static K.fields)) (sym c.is_high_class.ensures ∙ c.if-is_high_class.false)

pub returns-then-is_high_class : goal.returns-then-is_high_class
returns-then-is_high_class c =
    let w = all_classes c.args.world.now in
    let n = c.args.number in
    let K = c.args.class.now in
    let T : Signature → Option ℕ = λ s. token_among (token_under c.in_ok-told.told s) (signs c.in_ok-slots.slots)
    c.items.result.now s in
    let tokens_are = slot_token-is (line_at w (declared n K)) c.in_ok-told.told c.in_ok-slots.slots c.items.result.now
    c.in_ok-told.ensures (ap signs (c.in_ok-slots.ensures ∙ c.deref-3.ensures.value)
    ∙ c.requires.rows.shown_slots) (c.items.ensures
    ∙ c.in_ok-public_methods.ensures ∙ ap methods_in c.deref.ensures.value ∙ c.requires.rows.shown_methods) in
    let E = is_exported w c.args.applets (declared n K) in
    sym (high-class w n K T tokens_are c.args.rows.now c.requires.rows c.args.ids.now c.requires.added E
    c.requires.plain)
    ∙ ap (λ b. is_high_class b T (signs c.args.rows.now.hidden.items) K c.args.ids.now)
    (sym c.is_exported-exported.ensures)
    ∙ ap (λ q. is_high_class c.is_exported-exported.result T (signs q) K c.args.ids.now) (sym (c.in_ok-hidden.ensures
    ∙ c.deref-2.ensures.value))
    ∙ sym c.is_high_class.ensures ∙ c.if-is_high_class.true

pub invariant_of-result : goal.invariant_of-result
invariant_of-result c = few-instances c.items-4.result.now c.args.class.now.fields c.in_ok-instances.instances
    c.in_ok-instances.ensures c.items-4.ensures c.requires.few

pub returns : goal.returns
returns c =
    let w = all_classes c.args.world.now in
    let n = c.args.number in
    let K = c.args.class.now in
    let E = is_exported w c.args.applets (declared n K) in
    let ex = c.is_exported-exported.result in
    let fs = K.fields in
    let ms = map method_of_class K.methods in
    let T : Signature → Option ℕ = λ s. token_among (token_under c.in_ok-told.told s) (signs c.in_ok-slots.slots)
    c.items.result.now s in
    let H = signs c.args.rows.now.hidden.items in
    let A = map (λ m. T (signature_of (member_of m))) c.args.ids.now in
    let tokens_are = slot_token-is (line_at w (declared n K)) c.in_ok-told.told c.in_ok-slots.slots c.items.result.now
    c.in_ok-told.ensures (ap signs (c.in_ok-slots.ensures ∙ c.deref-3.ensures.value)
    ∙ c.requires.rows.shown_slots) (c.items.ensures
    ∙ c.in_ok-public_methods.ensures ∙ ap methods_in c.deref.ensures.value ∙ c.requires.rows.shown_methods) in
    let one : c.in_ok-members.members ≡ field_tokens ex fs 0 fs = c.in_ok-members.ensures
    ∙ ap (λ q. field_tokens ex q 0 q) c.items-2.ensures in
    let two : c.put_method_tokens.new.tokens ≡ field_tokens ex fs 0 fs ++ class_method_tokens ex T H ms 0 ms =
    c.in_ok-put_method_tokens.ensures
    ∙ ap (λ q. q ++ class_method_tokens ex T (signs c.in_ok-hidden.hidden) (map method_of_class c.items-3.result.now) 0
    (map method_of_class c.items-3.result.now)) one
    ∙ ap (λ q. field_tokens ex fs 0 fs ++ class_method_tokens ex T (signs q) (map method_of_class c.items-3.result.now)
    0 (map method_of_class c.items-3.result.now)) (c.in_ok-hidden.ensures
    ∙ c.deref-2.ensures.value)
    ∙ ap (λ q. field_tokens ex fs 0 fs ++ class_method_tokens ex T H (map method_of_class q) 0 (map method_of_class q))
    c.items-3.ensures in
    let three = c.in_ok-put_added_tokens.ensures ∙ ap (λ q. q ++ A) two ∙ ap (λ b. field_tokens b fs 0 fs
    ++ class_method_tokens b T H ms 0 ms ++ A) c.is_exported-exported.ensures in (
      sym (high-class w n K T tokens_are c.args.rows.now c.requires.rows c.args.ids.now c.requires.added E
          c.requires.plain)
          ∙ ap (λ b. is_high_class b T H K c.args.ids.now) (sym c.is_exported-exported.ensures)
          ∙ ap (λ q. is_high_class ex T (signs q) K c.args.ids.now) (sym (c.in_ok-hidden.ensures
          ∙ c.deref-2.ensures.value))
          ∙ sym c.is_high_class.ensures ∙ c.if-is_high_class.false,
      tokens-class w n K T tokens_are c.args.rows.now c.requires.rows c.args.ids.now c.requires.added c.args.applets
          c.args.before c.own_token.result c.put_added_tokens.new.tokens c.in_ok-instances.instances
          c.in_ok-public_methods.public_methods c.in_ok-package_methods.package_methods c.requires.plain
          (c.own_token.ensures ∙ ap (λ b. if b then Some c.args.before else None) c.is_exported-exported.ensures)
          three
          (c.in_ok-instances.ensures ∙ ap (λ q. instance_tokens q 0 q) c.items-4.ensures)
          (c.in_ok-public_methods.ensures ∙ ap methods_in c.deref.ensures.value)
          (c.in_ok-package_methods.ensures ∙ ap methods_in c.deref-4.ensures.value),
    )
