use Rattle.std.proofs.Common.{◌≡◌, ◌+◌, ℕ, suc, ap, ◌∙◌, arith}
use Rattle.std.specs.Prelude.{option_map}
use Rattle.cjc_card_semantics.specs.Machine.Calls.{found_token}
use Rattle.cjc_card_semantics.specs.Machine.Classes.{depth}
use Rattle.cjc_card_frame.specs.Objects.{class_of}
use Rattle.cjc_card_link.specs.Tables.{loaded_of}
use Rattle.cjc_card_calls.proofs.names.tokens.token_from.Goals as goal

pub returns : goal.returns
returns c =
    let l = loaded_of c.args.tables.now in
    let d = c.depth.ensures.depth in
    let deep : c.depth.result + 1 ≡ suc (depth l) = omega (arith, d) in
    c.found_token.ensures ∙ ap (λ (n : ℕ). found_token l n (option_map class_of c.args.class) c.args.id.now) deep
