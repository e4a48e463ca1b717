-- A signature has one slot at most, so the place of its slot is its token.
use Rattle.std.proofs.Common.{◌≡◌, ℕ, ap, ◌∙◌}
use Rattle.std.specs.Prelude.{Some, slice_get}
use Rattle.cjc_tokens.specs.Members.{Signature}
use Rattle.cjc_tokens.specs.Lines.{Line}
use Rattle.cjc_tokens.specs.Slots.{slots, token}
use Rattle.cjc_vtable.specs.Calls.{IsTold}
use Rattle.cjc_tokens.proofs.Held.{here-has_slot, token-slot}
use Rattle.cjc_vtable.proofs.Calls.{token-some}
use Rattle.cjc_vtable.proofs.Once.{slots-once}

-- the token of a slot's signature is its place
pub place_token : (line : Line) → IsTold line → (t : ℕ) (s : Signature) → slice_get (slots line) t ≡ Some (Some s)
    → token (slots line) s ≡ Some t
place_token line told t s e =
    let k = token-some (slots line) s (here-has_slot (slots line) t s e) in
    k.1 ∙ ap Some (slots-once line told k.0 t s (token-slot (slots line) s k.0 k.1) e)
