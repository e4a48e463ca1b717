use Rattle.std.proofs.Common.{◌≡◌, ◌∙◌, sym, ap, map, length, ◌++◌, Some, None}
use Rattle.std.specs.Prelude.{if◌then◌else◌, option_map}
use Rattle.std.proofs.lemmas.List.{length-map}
use Rattle.cjc_world.specs.Classes.{all_classes, declared, method_of_class}
use Rattle.cjc_tokens.specs.Fields.{field_tokens, instance_tokens}
use Rattle.cjc_tokens.specs.Methods.{interface_methods, interface_token}
use Rattle.cjc_world.specs.Exported.{is_exported}
use Rattle.cjc_world.specs.Lookup.{method_of_interface}
use Rattle.cjc_tokens.specs.Working.{is_high_interface, signature_in, signs}
use Rattle.cjc_tokens.proofs.Sums.{few-instances}
use Rattle.cjc_tokens.proofs.Classes.{high-interface, tokens-interface}
use Rattle.cjc_tokens.proofs.class.interface_tokens.Goals as goal

pub returns-then-is_high_interface : goal.returns-then-is_high_interface
returns-then-is_high_interface c =
    let w = all_classes c.args.world.now in
    let d = declared c.args.number c.args.class.now in
    let E = is_exported w c.args.applets d in
    let count : length c.as_slice-methods.result.now ≡ length (interface_methods w d) =
    ap length c.as_slice-methods.ensures.value
    ∙ sym (length-map c.in_ok-methods.methods.items (option_map signature_in)) ∙ ap length c.in_ok-methods.ensures
    ∙ length-map (interface_methods w d) Some in
    sym (high-interface w c.args.number c.args.class.now E (length c.as_slice-methods.result.now) c.requires.plain
    count)
    ∙ ap (λ b. is_high_interface b (length c.as_slice-methods.result.now) c.args.class.now)
    (sym c.is_exported-exported.ensures)
    ∙ sym c.is_high_interface.ensures ∙ c.if-is_high_interface.true

pub invariant_of-result : goal.invariant_of-result
invariant_of-result c = few-instances c.items-3.result.now c.args.class.now.fields c.in_ok-instances.instances
    c.in_ok-instances.ensures c.items-3.ensures c.requires.few

pub returns : goal.returns
returns c =
    let w = all_classes c.args.world.now in
    let n = c.args.number in
    let d = declared n c.args.class.now in
    let E = is_exported w c.args.applets d in
    let ex = c.is_exported-exported.result in
    let fs = c.args.class.now.fields in
    let ss = interface_methods w d in
    let count : length c.as_slice-methods.result.now ≡ length ss =
    ap length c.as_slice-methods.ensures.value
    ∙ sym (length-map c.in_ok-methods.methods.items (option_map signature_in)) ∙ ap length c.in_ok-methods.ensures
    ∙ length-map ss Some in
    let one : c.in_ok-members.members ≡ field_tokens ex fs 0 fs = c.in_ok-members.ensures
    ∙ ap (λ q. field_tokens ex q 0 q) c.items.ensures in
    let signed = ap signs c.as_slice-methods.ensures.value ∙ c.in_ok-methods.ensures in
    let two : c.put_interface_tokens.new.tokens ≡ field_tokens E fs 0 fs
    ++ map (interface_token ss) (map method_of_class c.args.class.now.methods) =
    c.in_ok-put_interface_tokens.ensures ss signed
    ∙ ap (λ q. q ++ map (interface_token ss) (map method_of_class c.items-2.result.now)) one
    ∙ ap (λ q. field_tokens ex fs 0 fs ++ map (interface_token ss) (map method_of_class q)) c.items-2.ensures
    ∙ ap (λ b. field_tokens b fs 0 fs ++ map (interface_token ss) (map method_of_class c.args.class.now.methods))
    c.is_exported-exported.ensures in (
      sym (high-interface w n c.args.class.now E (length c.as_slice-methods.result.now) c.requires.plain count)
          ∙ ap (λ b. is_high_interface b (length c.as_slice-methods.result.now) c.args.class.now)
          (sym c.is_exported-exported.ensures)
          ∙ sym c.is_high_interface.ensures ∙ c.if-is_high_interface.false,
      tokens-interface w n c.args.class.now c.args.applets c.args.before
          c.own_token.result c.put_interface_tokens.new.tokens c.in_ok-instances.instances
          c.in_ok-public_methods.public_methods c.new.result
          c.requires.plain
          (c.own_token.ensures ∙ ap (λ b. if b then Some c.args.before else None) c.is_exported-exported.ensures)
          two
          (c.in_ok-instances.ensures ∙ ap (λ q. instance_tokens q 0 q) c.items-3.ensures)
          (c.in_ok-public_methods.ensures ss signed ∙ ap (λ q. map (λ s. method_of_interface w q s.name s.desc) ss)
          c.items-4.ensures)
          c.new.ensures,
    )
