use Rattle.std.proofs.Common.{◌∙◌, ap, sym, subst, ◌≤◌}
use Rattle.std.proofs.lemmas.List.{length-map}
use Rattle.std.specs.Prelude.{option_map, ◌+◌}
use Rattle.cjc_world.specs.Classes.{method_of_class}
use Rattle.cjc_tokens.specs.Members.{is_initialiser}
use Rattle.cjc_tokens.specs.Slots.{token}
use Rattle.cjc_tokens.specs.Rules.{is_above}
use Rattle.cjc_tokens.specs.Working.{signature_in, signs}
use Rattle.cjc_tokens.proofs.Signs.{interface_byte, low-token}
use Rattle.cjc_tokens.proofs.class.interface_byte.Goals as goal

pub as_byte-requires-clause-few : goal.as_byte-requires-clause-few
as_byte-requires-clause-few c =
    ap (is_above 127) c.token.ensures
    ∙ low-token (signs c.args.methods.now) (record { name = c.items-name.result.now; desc = c.items-desc.result.now })
    (subst (λ n. n ≤ 128) (sym (length-map c.args.methods.now (option_map signature_in))) c.requires)

pub returns-else-is_initialiser : goal.returns-else-is_initialiser
returns-else-is_initialiser c = λ ss e.
    c.as_byte.ensures
    ∙ ap (option_map (λ t. t + 0)) c.token.ensures
    ∙ ap (λ q. option_map (λ t. t + 0) (token (signs c.args.methods.now) (record {
      name = q;
      desc = c.items-desc.result.now;
    }))) c.items-name.ensures
    ∙ ap (λ q. option_map (λ t. t + 0) (token (signs c.args.methods.now) (record {
      name = c.args.method.now.name;
      desc = q;
    }))) c.items-desc.ensures
    ∙ interface_byte (signs c.args.methods.now) ss (method_of_class c.args.method.now) e
    (ap is_initialiser (sym c.items-name.ensures) ∙ sym c.is_initialiser.ensures ∙ c.if-is_initialiser.false)
