-- Names and descriptors of methods as keys of a map.
use Rattle.std.proofs.Common.{◌≡◌, false, refl, sym, ap, true≢false, ◌&&◌, Bool, true}
use Rattle.std.specs.Prelude.{◌++◌}
use Rattle.std.specs.Bool.{Decides, IsTrue}
use Rattle.std.specs.Cmp.{IsEquivalence, decided}
use Rattle.std.specs.Hash as writes
use Rattle.std.specs.Str.{bytes_eq}
use Rattle.std.proofs.lemmas.Slice.Eq.{bytes_eq-Decides}
use Rattle.cjc_tokens.specs.Members.{Signature, same}

both : (a b : Bool) → IsTrue (a && b) → IsTrue a × IsTrue b
both true true e = (refl, refl)
both true false e = absurd (true≢false (sym e))
both false b e = absurd (true≢false (sym e))

joined : (a b : Bool) → IsTrue a → IsTrue b → IsTrue (a && b)
joined true b e f = f
joined false b e f = absurd (true≢false (sym e))

-- the test of signatures is true exactly where name and descriptor are equal
pub same-Decides : (s t : Signature) → Decides (same s t) (s ≡ t)
same-Decides s t = (
  λ e.
      let p = both (bytes_eq s.name t.name) (bytes_eq s.desc t.desc) e in
      let name = (bytes_eq-Decides s.name t.name).0 p.0 in
      let desc = (bytes_eq-Decides s.desc t.desc).0 p.1 in
      (λ i. record { name = name i; desc = desc i }),
  λ e.
      joined (bytes_eq s.name t.name) (bytes_eq s.desc t.desc)
      ((bytes_eq-Decides s.name t.name).1 (ap (λ (x : Signature). x.name) e))
      ((bytes_eq-Decides s.desc t.desc).1 (ap (λ (x : Signature). x.desc) e)),
)

-- having the same name and descriptor is an equivalence
pub same-equivalence : IsEquivalence same
same-equivalence = decided same same-Decides

-- what is fed to a hasher
abbrev pub fed : Signature → writes.HashWrites
fed s = writes.slice writes.u8 s.name ++ writes.slice writes.u8 s.desc

-- equal signatures are fed to a hasher alike
pub same-fed : (s t : Signature) → IsTrue (same s t) → fed s ≡ fed t
same-fed s t h = ap fed ((same-Decides s t).0 h)
