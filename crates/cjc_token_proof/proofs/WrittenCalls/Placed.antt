-- Methods of interfaces have the tokens of their places under their names.
use Rattle.std.proofs.Common.{◌≡◌, suc, refl, sym, ap, ◌∙◌, true, List, [], ◌∷◌}
use Rattle.std.specs.Prelude.{Some, map, option_and_then, option_map, position, if◌then◌else◌}
use Rattle.cjc_bytes.specs.AccessFlags.{is_interface}
use Rattle.cjc_bytes.specs.declared.fault.MemberId.{MemberId}
use Rattle.cjc_token_proof.specs.Calls.Selecting.{signature}
use Rattle.cjc_card_semantics.specs.Machine.Calls.{interface_token, is_named, place_named}
use Rattle.cjc_card_semantics.specs.Machine.Loaded.{ClassNames}
use Rattle.cjc_components.specs.Names.{class_at}
use Rattle.cjc_components.specs.Package.{Package, world}
use Rattle.cjc_components.specs.Paired.Naming.{signature_name}
use Rattle.cjc_token_proof.specs.Tables.Infos.{HasInfo}
use Rattle.cjc_token_proof.specs.Tables.Loading.{loaded}
use Rattle.cjc_tokens.proofs.Facts.{position-cons}
use Rattle.cjc_tokens.specs.Members.{Signature, same}
use Rattle.cjc_tokens.specs.Methods.{interface_methods}
use Rattle.cjc_world.specs.Classes.{Class}

place_same : (id : MemberId) (ss : List Signature) → place_named (map signature_name ss) id
    ≡ position (λ s. same s (signature id)) ss
place_same id [] = refl
place_same id (s ∷ ss) = ap (λ o. if is_named (signature_name s) id then Some 0 else option_map suc o)
    (place_same id ss) ∙ sym (position-cons (λ t. same t (signature id)) s ss)

pub placed_by_name : (p : Package) (id : MemberId) (i : Class) → HasInfo p i → i.name ≡ id.class → is_interface i.flags
    ≡ true → interface_token (loaded p) (class_at p id.class) id ≡ position (λ s. same s (signature id))
    (interface_methods (world p) i)
placed_by_name p id i h name interface_here =
    ap (λ k. interface_token (loaded p) k id) (sym (ap (class_at p) name) ∙ h.on_card)
    ∙ ap (option_and_then (λ (names : ClassNames). place_named names.interface_methods id)) h.names
    ∙ ap (λ t. place_named (if t then map signature_name (interface_methods (world p) i) else []) id) interface_here
    ∙ place_same id (interface_methods (world p) i)
