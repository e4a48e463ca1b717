-- Fields as the keys of a map: the test of equality decides it, and equal fields hash alike.
use Rattle.std.specs.Prelude.{◌≡◌, Bool, true, false, ◌&&◌, refl}
use Rattle.std.specs.Bool.{IsTrue}
use Rattle.std.specs.Str.{bytes_eq}
use Rattle.std.specs.Cmp.{IsEquivalence, decided}
use Rattle.std.specs.Hash as writes
use Rattle.std.proofs.lemmas.Slice.Eq.{bytes_eq-Decides}
use Rattle.std.proofs.lemmas.Bool.{false≢true}
use Rattle.std.proofs.Common.{ap, ◌∙◌, Decides}
use Rattle.cjc_world.specs.Bytes.declared.fault.MemberId.{MemberId}
use Rattle.cjc_jvm_semantics.specs.Effects.{is_same_field}

all_three : (p q r : Bool) → ((p && q) && r) ≡ true → (p ≡ true) × (q ≡ true) × (r ≡ true)
all_three true true true h = (refl, refl, refl)
all_three true true false h = absurd (false≢true h)
all_three true false r h = absurd (false≢true h)
all_three false q r h = absurd (false≢true h)

three : (p q r : Bool) → p ≡ true → q ≡ true → r ≡ true → ((p && q) && r) ≡ true
three true true true e f g = refl
three true true false e f g = absurd (false≢true g)
three true false r e f g = absurd (false≢true f)
three false q r e f g = absurd (false≢true e)

alike : (a b : MemberId) → a.class ≡ b.class → a.name ≡ b.name → a.desc ≡ b.desc → a ≡ b
alike a b e f g =
    ap (λ x. record { class = x; name = a.name; desc = a.desc }) e
    ∙ ap (λ x. record { class = b.class; name = x; desc = a.desc }) f
    ∙ ap (λ x. record { class = b.class; name = b.name; desc = x }) g

-- two fields are the same exactly where the test says so
pub same_field-Decides : (a b : MemberId) → Decides (is_same_field a b) (a ≡ b)
same_field-Decides a b = (
  λ h. let p = all_three (bytes_eq a.class b.class) (bytes_eq a.name b.name) (bytes_eq a.desc b.desc) h in
      alike a b ((bytes_eq-Decides a.class b.class).0 p.0) ((bytes_eq-Decides a.name b.name).0 p.1)
      ((bytes_eq-Decides a.desc b.desc).0 p.2),
  λ e. three (bytes_eq a.class b.class) (bytes_eq a.name b.name) (bytes_eq a.desc b.desc)
      ((bytes_eq-Decides a.class b.class).1 (ap (λ x. x.class) e)) ((bytes_eq-Decides a.name b.name).1
      (ap (λ x. x.name) e)) ((bytes_eq-Decides a.desc b.desc).1 (ap (λ x. x.desc) e)),
)

-- being the same field is an equivalence
pub fields-equivalence : IsEquivalence is_same_field
fields-equivalence = decided is_same_field same_field-Decides

-- what is fed to a hasher: the name
abbrev pub fed : MemberId → writes.HashWrites
fed id = writes.slice writes.u8 id.name

-- the same fields are fed to a hasher alike
pub same-fed : (a b : MemberId) → IsTrue (is_same_field a b) → fed a ≡ fed b
same-fed a b h = ap fed ((same_field-Decides a b).0 h)
