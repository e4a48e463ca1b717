-- The token of a method of an interface.
use Rattle.std.proofs.Common.{◌≡◌, ℕ, ◌<◌, ◌≤◌, ◌+◌, refl, sym, ap, ◌∙◌, arith, false, List, length, map}
use Rattle.std.specs.Prelude.{Option, Some, None, option_map, position, if◌then◌else◌}
use Rattle.cjc_world.specs.Classes.{Member}
use Rattle.cjc_tokens.specs.Members.{Signature, signature_of, same, is_initialiser}
use Rattle.cjc_tokens.specs.Slots.{Slots, holds, token}
use Rattle.cjc_tokens.specs.Methods.{interface_token}
use Rattle.cjc_tokens.specs.Rules.{is_above}
use Rattle.cjc_world.proofs.Places.{position_of_map, position_within}

low-at : (n : ℕ) (o : Option ℕ) → n ≤ 128 → ((t : ℕ) → o ≡ Some t → t < n) → is_above 127 o ≡ false
low-at n None few within = refl
low-at n (Some t) few within =
    let w : t < n = within t refl in
    grind arith

pub low-token : (S : Slots) (s : Signature) → length S ≤ 128 → is_above 127 (token S s) ≡ false
unfolding token
low-token S s few = low-at (length S) (position (λ slot. holds slot s) S) few (position_within (λ slot. holds slot s) S)

plus-zero : (o : Option ℕ) → option_map (λ t. t + 0) o ≡ o
plus-zero None = refl
plus-zero (Some t) = ap Some (omega arith)

token-signs : (ss : List Signature) (s : Signature) → token (map Some ss) s ≡ position (λ t. same t s) ss
unfolding token
token-signs ss s = position_of_map (λ slot. holds slot s) Some ss

pub interface_byte : (S : Slots) (ss : List Signature) (m : Member) → S ≡ map Some ss → is_initialiser m.name ≡ false
    → option_map (λ t. t + 0) (token S (signature_of m)) ≡ interface_token ss m
interface_byte S ss m e own =
    plus-zero (token S (signature_of m)) ∙ ap (λ q. token q (signature_of m)) e ∙ token-signs ss (signature_of m)
    ∙ ap (λ b. if b then None else position (λ t. same t (signature_of m)) ss) (sym own)
