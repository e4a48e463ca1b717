-- Tokens that components give virtual methods are those by which they are called.
use Rattle.std.proofs.Common.{◌≡◌, ℕ, ◌+◌, ◌-◌, ◌<◌, ap, ◌∙◌, arith, Bool, true, false, List}
use Rattle.std.specs.Prelude.{◌⊎◌, Some, None, unwrap_or, nat_lt, if◌then◌else◌}
use Rattle.std.proofs.lemmas.Bool.Decides.{nat_tests}
use Rattle.cjc_bytes.specs.AccessFlags.{is_abstract, is_interface}
use Rattle.cjc_bytes.specs.declared.fault.MemberId.{MemberId}
use Rattle.cjc_token_proof.specs.Calls.Selecting.{SaysToken, got, open_method, package_method, signature}
use Rattle.cjc_card_semantics.specs.Machine.Classes.{Class as CardClass, Own, External}
use Rattle.cjc_card_semantics.specs.Machine.Dispatch.{Hidden, Open}
use Rattle.cjc_card_semantics.specs.Machine.Operations.{token_of}
use Rattle.cjc_components.specs.Names.{class_at}
use Rattle.cjc_components.specs.Package.{Package, world}
use Rattle.cjc_token_proof.specs.Tables.Loading.{naming}
use Rattle.cjc_tokens.specs.Lines.{line_of}
use Rattle.cjc_tokens.specs.Slots.{hidden_slots, shown_token, slots, token}
use Rattle.cjc_tokens.specs.Methods.{with_high_bit}
use Rattle.cjc_vtable.proofs.Worlds.{shown-place}
use Rattle.cjc_vtable.specs.Calls.{finds_hidden}
use Rattle.cjc_vtable.specs.Tables.{or_zero}
use Rattle.cjc_world.specs.Classes.{Class, class_named}
use Rattle.cjc_token_proof.specs.WrittenCalls.Calls.{IsSought, KeepsTokens, hidden, shown}
use Rattle.cjc_token_proof.specs.WrittenCalls.Calls as calls
use Rattle.cjc_token_proof.proofs.WrittenCalls.Facts.{Facts}

-- a token of seven bits is a public one
open_token : (k : CardClass) (t : ℕ) → t < 128 → unwrap_or (token_of k t) (Open 0) ≡ Open t
open_token (Own q offset) t low = let small : nat_lt t 128 ≡ true = grind (arith, nat_tests, low)
    in ap (λ b. if b then Open t else Hidden q (t - 128)) small
open_token (External tree number) t low = let small : nat_lt t 128 ≡ true = grind (arith, nat_tests, low)
    in ap (λ (b : Bool). unwrap_or (if b then Some (Open t) else None) (Open 0)) small

-- with the high bit it is a package-visible one of the class's package
hidden_token : (q offset t : ℕ) → unwrap_or (token_of (Own q offset) (t + 128)) (Open 0) ≡ Hidden q t
hidden_token q offset t =
    let large : nat_lt (t + 128) 128 ≡ false = grind (arith, nat_tests) in
    let less : t + 128 - 128 ≡ t = omega arith in
    ap (λ b. if b then Open (t + 128) else Hidden q (t + 128 - 128)) large ∙ ap (Hidden q) less

module _ (p : Package) (facts : Facts p) (tokens : KeepsTokens (world p)) where
  abbrev w : List Class
  w = world p

  place : (m : MemberId) (d : Class) → class_named w m.class ≡ Some d → is_interface d.flags ≡ false
      → shown_token (line_of w m.class) (signature m) ≡ token (slots (line_of w m.class)) (signature m)
  place m d known class_here = shown-place w facts.are_supertypes facts.one_supertypes facts.rules m.class d
      (signature m) known (λ import. class_here)

  pub dispatched_shown : (m : MemberId) (d : Class) → class_named w m.class ≡ Some d → is_interface d.flags ≡ false
      → finds_hidden (line_of w m.class) (signature m) ≡ false → (t : ℕ)
      → token (slots (line_of w m.class)) (signature m) ≡ Some t → (naming p).dispatch_token m ≡ Open t
  dispatched_shown m d known class_here no_hidden t is =
      ap (λ b. unwrap_or (token_of (class_at p m.class) (if b
      then with_high_bit (or_zero (token (hidden_slots (line_of w m.class)) (signature m)))
      else or_zero (shown_token (line_of w m.class) (signature m)))) (Open 0)) no_hidden
      ∙ ap (λ o. unwrap_or (token_of (class_at p m.class) (or_zero o)) (Open 0)) (place m d known class_here ∙ is)
      ∙ open_token (class_at p m.class) t (tokens m.class d (signature m) t known class_here is)

  pub dispatched_hidden : (m : MemberId) (offset : ℕ) → class_at p m.class ≡ Own 0 offset
      → finds_hidden (line_of w m.class) (signature m) ≡ true → (t : ℕ)
      → token (hidden_slots (line_of w m.class)) (signature m) ≡ Some t → (naming p).dispatch_token m ≡ Hidden 0 t
  dispatched_hidden m offset on_card is_hidden t is =
      ap (λ b. unwrap_or (token_of (class_at p m.class) (if b
      then with_high_bit (or_zero (token (hidden_slots (line_of w m.class)) (signature m)))
      else or_zero (shown_token (line_of w m.class) (signature m)))) (Open 0)) is_hidden
      ∙ ap (λ o. unwrap_or (token_of (class_at p m.class) (or_zero o + 128)) (Open 0)) is
      ∙ ap (λ (k : CardClass). unwrap_or (token_of k (t + 128)) (Open 0)) on_card
      ∙ hidden_token 0 offset t

  -- a virtual method that is sought has its token, where the class is of the package if the method is package-visible
  pub token_says : (m : MemberId) (d : Class) → class_named w m.class ≡ Some d → is_interface d.flags ≡ false
      → (finds_hidden (line_of w m.class) (signature m) ≡ true → (offset : ℕ) × (class_at p m.class ≡ Own 0 offset))
      → (x : List ℕ) (c : Class) → class_named w x ≡ Some c → is_interface c.flags ≡ false → (x ≡ m.class)
      ⊎ (c.is_imported ≡ false → is_abstract c.flags ≡ false) → IsSought w m → SaysToken w (naming p) x m
  token_says m d known class_here own x c e plain may (shown finds no_hidden) =
      open_method finds (λ t is. dispatched_shown m d known class_here no_hidden t is)
  token_says m d known class_here own x c e plain may (hidden finds) = let at = own finds
      in package_method finds (λ t is. dispatched_hidden m at.0 at.1 finds t is)
  token_says m d known class_here own x c e plain may (calls.got t is no_hidden selects) =
      got t is (dispatched_shown m d known class_here no_hidden t is) (λ f under sel. selects x c f e plain may under
      sel)
