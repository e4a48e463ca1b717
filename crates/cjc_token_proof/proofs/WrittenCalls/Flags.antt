-- The flags that Descriptor gives a method say whether it is static as those of its class file do, and whether it has a
-- token.
use Rattle.std.proofs.Common.{◌≡◌, ℕ, ◌+◌, refl, Bool, true, false}
use Rattle.std.specs.Prelude.{not, ◌&&◌, ◌||◌, if◌then◌else◌}
use Rattle.cjc_bytes.specs.AccessFlags.{has, is_private, is_static, acc_abstract, acc_final, acc_private}
use Rattle.cjc_bytes.specs.AccessFlags.{acc_protected, acc_public}
use Rattle.cjc_card_semantics.specs.Machine.Calls.{acc_constructor}
use Rattle.cjc_components.specs.Descriptor.{method_flags}
use Rattle.cjc_tokens.specs.Members.{is_constructor}
use Rattle.cjc_world.specs.Classes.{Member}

all_of : (Bool → Bool) → Bool
all_of f = f true && f false

all_tell : (f : Bool → Bool) → all_of f ≡ true → (b : Bool) → f b ≡ true
unfolding all_of
all_tell f e true = by (f true) (f false) e
  where
    by : (a b : Bool) → (a && b) ≡ true → a ≡ true
    by true b h = refl
    by false b h = absurd (cc)
all_tell f e false = by (f true) (f false) e
  where
    by : (a b : Bool) → (a && b) ≡ true → b ≡ true
    by true b h = h
    by false b h = absurd (cc)

alike : Bool → Bool → Bool
alike true b = b
alike false b = not b

are_alike : (a b : Bool) → alike a b ≡ true → b ≡ a
unfolding alike
are_alike true b e = e
are_alike false true e = absurd (cc)
are_alike false false e = refl

flags_by : (a b c d e g h : Bool) → ℕ
flags_by a b c d e g h = (((if a then 0x01 else 0) + (if b then 0x02 else 0) + (if c then 0x04 else 0) + (if d then 0x08
    else 0) + (if e then 0x10 else 0)) + (if g then 0x40 else 0)) + (if h then 0x80 else 0)

static_by : (a b c d e g h : Bool) → is_static (flags_by a b c d e g h) ≡ d
unfolding flags_by alike all_of
static_by a b c d e g h =
    are_alike d (is_static (flags_by a b c d e g h))
    (all_tell (λ h. alike d (is_static (flags_by a b c d e g h)))
    (all_tell (λ g. all_of (λ h. alike d (is_static (flags_by a b c d e g h))))
    (all_tell (λ e. all_of (λ g. all_of (λ h. alike d (is_static (flags_by a b c d e g h)))))
    (all_tell (λ d. all_of (λ e. all_of (λ g. all_of (λ h. alike d (is_static (flags_by a b c d e g h))))))
    (all_tell (λ c. all_of
    (λ d. all_of (λ e. all_of (λ g. all_of (λ h. alike d (is_static (flags_by a b c d e g h)))))))
    (all_tell (λ b. all_of
    (λ c. all_of (λ d. all_of (λ e. all_of (λ g. all_of (λ h. alike d (is_static (flags_by a b c d e g h))))))))
    (all_tell (λ a. all_of
    (λ b. all_of (λ c. all_of
    (λ d. all_of (λ e. all_of (λ g. all_of (λ h. alike d (is_static (flags_by a b c d e g h)))))))))
    refl a) b) c) d) e) g) h)

pub static_same : (m : Member) → is_static (method_flags m) ≡ is_static m.flags
unfolding flags_by
static_same m = static_by (has m.flags acc_public) (has m.flags acc_private) (has m.flags acc_protected)
    (is_static m.flags) (has m.flags acc_final) (has m.flags acc_abstract) (is_constructor m.name)

-- a descriptor of these flags has no token
unfoldable pub no_token : ℕ → Bool
no_token n = is_static n || (is_private n || has n acc_constructor)

token_by : (a b c d e g h : Bool) → no_token (flags_by a b c d e g h) ≡ (d || (b || h))
unfolding flags_by alike all_of no_token
token_by a b c d e g h =
    are_alike (d || (b || h)) (no_token (flags_by a b c d e g h))
    (all_tell (λ h. alike (d || (b || h)) (no_token (flags_by a b c d e g h)))
    (all_tell (λ g. all_of (λ h. alike (d || (b || h)) (no_token (flags_by a b c d e g h))))
    (all_tell (λ e. all_of (λ g. all_of (λ h. alike (d || (b || h)) (no_token (flags_by a b c d e g h)))))
    (all_tell (λ d. all_of (λ e. all_of (λ g. all_of (λ h. alike (d || (b || h)) (no_token (flags_by a b c d e g h))))))
    (all_tell (λ c. all_of
    (λ d. all_of (λ e. all_of (λ g. all_of (λ h. alike (d || (b || h)) (no_token (flags_by a b c d e g h)))))))
    (all_tell (λ b. all_of
    (λ c. all_of (λ d. all_of
    (λ e. all_of (λ g. all_of (λ h. alike (d || (b || h)) (no_token (flags_by a b c d e g h))))))))
    (all_tell (λ a. all_of
    (λ b. all_of (λ c. all_of
    (λ d. all_of (λ e. all_of (λ g. all_of (λ h. alike (d || (b || h)) (no_token (flags_by a b c d e g h)))))))))
    refl a) b) c) d) e) g) h)

pub token_same : (m : Member) → no_token (method_flags m) ≡ (is_static m.flags || (is_private m.flags
    || is_constructor m.name))
unfolding flags_by no_token
token_same m = token_by (has m.flags acc_public) (has m.flags acc_private) (has m.flags acc_protected)
    (is_static m.flags) (has m.flags acc_final) (has m.flags acc_abstract) (is_constructor m.name)
