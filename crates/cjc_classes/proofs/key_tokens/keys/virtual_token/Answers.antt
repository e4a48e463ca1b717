use Rattle.std.proofs.Common.{◌≡◌, ◌∙◌, ap, sym}
use Rattle.std.specs.Prelude.{Some}
use Rattle.std.proofs.lemmas.Result.{IfOk-weaker}
use Rattle.cjc_world.specs.Classes.{all_classes, class_named, declared}
use Rattle.cjc_world.specs.Working.Known.{class_of}
use Rattle.cjc_tokens.specs.Lines.{Line, line_at, line_of}
use Rattle.cjc_components.specs.LowerVTable.Tables.{or_zero}
use Rattle.cjc_components.specs.Names.{token_in}
use Rattle.cjc_classes.specs.Walks.{called}
use Rattle.cjc_classes.proofs.KeyTokens.Lines.{shown_nowhere}
use Rattle.cjc_classes.proofs.KeyTokens.Walked.{named_there, number_within, unknown_line}
use Rattle.cjc_classes.proofs.key_tokens.keys.virtual_token.Goals as goal

pub declared_token-requires-clause-number : goal.declared_token-requires-clause-number
declared_token-requires-clause-number c =
    let files = c.args.world.now in
    let w = all_classes files in
    let m = c.args.method.now in
    let named : class_named w m.class ≡ Some (declared c.in-Some-Declared.number c.in-Some-Declared.field-0-1.now) =
    ap (class_named w) (sym c.items.ensures) ∙ sym c.in-Some-Declared.ensures.named
    ∙ ap (λ q. Some (class_of q)) c.in-Some-Declared.field-0-is in
    number_within files (c.lookup_laws.ensures.are_supertypes w c.acyclic.ensures) (c.lookup_laws.ensures.one_supertypes
    w) (called m.name m.desc) m.class c.in-Some-Declared.number c.in-Some-Declared.field-0-1.now named

pub returns-in-None : goal.returns-in-None
returns-in-None c =
    let files = c.args.world.now in
    let w = all_classes files in
    let m = c.args.method.now in
    let s = called m.name m.desc in
    let none = ap (class_named w) (sym c.items.ensures) ∙ sym c.in-None.ensures.named in
    sym (ap (λ (l : Line). token_in l s) (unknown_line files (c.lookup_laws.ensures.are_supertypes w c.acyclic.ensures)
    (c.lookup_laws.ensures.one_supertypes w) s m.class none) ∙ ap or_zero (shown_nowhere s))

pub returns-in-Some-Declared : goal.returns-in-Some-Declared
returns-in-Some-Declared c =
    let files = c.args.world.now in
    let w = all_classes files in
    let m = c.args.method.now in
    let s = called m.name m.desc in
    let named : class_named w m.class ≡ Some (declared c.in-Some-Declared.number c.in-Some-Declared.field-0-1.now) =
    ap (class_named w) (sym c.items.ensures) ∙ sym c.in-Some-Declared.ensures.named
    ∙ ap (λ q. Some (class_of q)) c.in-Some-Declared.field-0-is in
    let (u, at, line) = named_there files (c.lookup_laws.ensures.are_supertypes w c.acyclic.ensures)
    (c.lookup_laws.ensures.one_supertypes w) s m.class c.in-Some-Declared.number c.in-Some-Declared.field-0-1.now
    named in
    IfOk-weaker c.declared_token.result (λ t. t ≡ token_in (line_at w (declared c.in-Some-Declared.number u)) s) (λ t. t
    ≡ token_in (line_of w m.class) s) (λ t h. h ∙ ap (λ (l : Line). token_in l s) (sym line))
    (c.declared_token.ensures u at)
