-- The test of keys decides their equality.
use Rattle.std.proofs.Common.{◌≡◌, false, refl, sym, ap, subst, true≢false, ◌&&◌, Bool, true, ◌∙◌}
use Rattle.std.specs.Bool.{Decides, IsTrue}
use Rattle.std.specs.Cmp.{IsEquivalence, decided}
use Rattle.std.specs.Str.{bytes_eq}
use Rattle.std.proofs.lemmas.Slice.Eq.{bytes_eq-Decides}
use Rattle.cjc_types.specs.Bytes.declared.fault.MemberId.{MemberId}
use Rattle.cjc_ncode.specs.declared.narrow.PoolKey.{PoolKey}
use Rattle.cjc_ncode.specs.declared.narrow.PoolKey.TheVariants as keys
use Rattle.cjc_ncode.specs.PoolOrder.{same_key, same_member}
use Rattle.cjc_narrow.specs.Keys.Working.Key.{fed}

both : (a b : Bool) → IsTrue (a && b) → IsTrue a × IsTrue b
both true true e = (refl, refl)
both true false e = absurd (true≢false (sym e))
both false b e = absurd (true≢false (sym e))

joined : (a b : Bool) → IsTrue a → IsTrue b → IsTrue (a && b)
joined true b e f = f
joined false b e f = absurd (true≢false (sym e))

-- the test of members is true exactly where their class, name and descriptor are equal
pub same_member-Decides : (m n : MemberId) → Decides (same_member m n) (m ≡ n)
same_member-Decides m n = (
  λ e.
      let p = both (bytes_eq m.class n.class) (bytes_eq m.name n.name && bytes_eq m.desc n.desc) e in
      let q = both (bytes_eq m.name n.name) (bytes_eq m.desc n.desc) p.1 in
      let class = (bytes_eq-Decides m.class n.class).0 p.0 in
      let name = (bytes_eq-Decides m.name n.name).0 q.0 in
      let desc = (bytes_eq-Decides m.desc n.desc).0 q.1 in
      (λ i. record { class = class i; name = name i; desc = desc i }),
  λ e.
      joined (bytes_eq m.class n.class) (bytes_eq m.name n.name && bytes_eq m.desc n.desc)
      ((bytes_eq-Decides m.class n.class).1 (ap (λ (x : MemberId). x.class) e))
      (joined (bytes_eq m.name n.name) (bytes_eq m.desc n.desc) ((bytes_eq-Decides m.name n.name).1
      (ap (λ (x : MemberId). x.name) e)) ((bytes_eq-Decides m.desc n.desc).1 (ap (λ (x : MemberId). x.desc) e))),
)

differ : (k l : PoolKey) → (k ≡ l → ⊥) → Decides false (k ≡ l)
differ k l h = (λ e. absurd (true≢false (sym e)), λ e. absurd (h e))

-- the test of keys is true exactly where the keys are equal
pub same_key-Decides : (k l : PoolKey) → Decides (same_key k l) (k ≡ l)
same_key-Decides (keys.Class a) (keys.Class b) = (
  λ e. ap keys.Class ((bytes_eq-Decides a b).0 e),
  λ e. (bytes_eq-Decides a b).1 cc,
)
same_key-Decides (keys.Field a) (keys.Field b) = (
  λ e. ap keys.Field ((same_member-Decides a b).0 e),
  λ e. (same_member-Decides a b).1 cc,
)
same_key-Decides (keys.Virtual a) (keys.Virtual b) = (
  λ e. ap keys.Virtual ((same_member-Decides a b).0 e),
  λ e. (same_member-Decides a b).1 cc,
)
same_key-Decides (keys.Super a) (keys.Super b) = (
  λ e. ap keys.Super ((same_member-Decides a b).0 e),
  λ e. (same_member-Decides a b).1 cc,
)
same_key-Decides (keys.StaticField a) (keys.StaticField b) = (
  λ e. ap keys.StaticField ((same_member-Decides a b).0 e),
  λ e. (same_member-Decides a b).1 cc,
)
same_key-Decides (keys.StaticMethod a) (keys.StaticMethod b) =
    (λ e. ap keys.StaticMethod ((same_member-Decides a b).0 e), λ e. (same_member-Decides a b).1 cc)
same_key-Decides (keys.Class a) (keys.Field b) = differ (keys.Class a) (keys.Field b) (λ e. cc)
same_key-Decides (keys.Class a) (keys.Virtual b) = differ (keys.Class a) (keys.Virtual b) (λ e. cc)
same_key-Decides (keys.Class a) (keys.Super b) = differ (keys.Class a) (keys.Super b) (λ e. cc)
same_key-Decides (keys.Class a) (keys.StaticField b) = differ (keys.Class a) (keys.StaticField b) (λ e. cc)
same_key-Decides (keys.Class a) (keys.StaticMethod b) = differ (keys.Class a) (keys.StaticMethod b) (λ e. cc)
same_key-Decides (keys.Field a) (keys.Class b) = differ (keys.Field a) (keys.Class b) (λ e. cc)
same_key-Decides (keys.Field a) (keys.Virtual b) = differ (keys.Field a) (keys.Virtual b) (λ e. cc)
same_key-Decides (keys.Field a) (keys.Super b) = differ (keys.Field a) (keys.Super b) (λ e. cc)
same_key-Decides (keys.Field a) (keys.StaticField b) = differ (keys.Field a) (keys.StaticField b) (λ e. cc)
same_key-Decides (keys.Field a) (keys.StaticMethod b) = differ (keys.Field a) (keys.StaticMethod b) (λ e. cc)
same_key-Decides (keys.Virtual a) (keys.Class b) = differ (keys.Virtual a) (keys.Class b) (λ e. cc)
same_key-Decides (keys.Virtual a) (keys.Field b) = differ (keys.Virtual a) (keys.Field b) (λ e. cc)
same_key-Decides (keys.Virtual a) (keys.Super b) = differ (keys.Virtual a) (keys.Super b) (λ e. cc)
same_key-Decides (keys.Virtual a) (keys.StaticField b) = differ (keys.Virtual a) (keys.StaticField b) (λ e. cc)
same_key-Decides (keys.Virtual a) (keys.StaticMethod b) = differ (keys.Virtual a) (keys.StaticMethod b) (λ e. cc)
same_key-Decides (keys.Super a) (keys.Class b) = differ (keys.Super a) (keys.Class b) (λ e. cc)
same_key-Decides (keys.Super a) (keys.Field b) = differ (keys.Super a) (keys.Field b) (λ e. cc)
same_key-Decides (keys.Super a) (keys.Virtual b) = differ (keys.Super a) (keys.Virtual b) (λ e. cc)
same_key-Decides (keys.Super a) (keys.StaticField b) = differ (keys.Super a) (keys.StaticField b) (λ e. cc)
same_key-Decides (keys.Super a) (keys.StaticMethod b) = differ (keys.Super a) (keys.StaticMethod b) (λ e. cc)
same_key-Decides (keys.StaticField a) (keys.Class b) = differ (keys.StaticField a) (keys.Class b) (λ e. cc)
same_key-Decides (keys.StaticField a) (keys.Field b) = differ (keys.StaticField a) (keys.Field b) (λ e. cc)
same_key-Decides (keys.StaticField a) (keys.Virtual b) = differ (keys.StaticField a) (keys.Virtual b) (λ e. cc)
same_key-Decides (keys.StaticField a) (keys.Super b) = differ (keys.StaticField a) (keys.Super b) (λ e. cc)
same_key-Decides (keys.StaticField a) (keys.StaticMethod b) = differ (keys.StaticField a) (keys.StaticMethod b)
    (λ e. cc)
same_key-Decides (keys.StaticMethod a) (keys.Class b) = differ (keys.StaticMethod a) (keys.Class b) (λ e. cc)
same_key-Decides (keys.StaticMethod a) (keys.Field b) = differ (keys.StaticMethod a) (keys.Field b) (λ e. cc)
same_key-Decides (keys.StaticMethod a) (keys.Virtual b) = differ (keys.StaticMethod a) (keys.Virtual b) (λ e. cc)
same_key-Decides (keys.StaticMethod a) (keys.Super b) = differ (keys.StaticMethod a) (keys.Super b) (λ e. cc)
same_key-Decides (keys.StaticMethod a) (keys.StaticField b) = differ (keys.StaticMethod a) (keys.StaticField b)
    (λ e. cc)

-- so it is an equivalence
pub same_key-equivalence : IsEquivalence same_key
same_key-equivalence = decided same_key same_key-Decides

-- equal keys are fed to a hasher alike
pub same_key-fed : (k l : PoolKey) → IsTrue (same_key k l) → fed k ≡ fed l
same_key-fed k l h = ap fed ((same_key-Decides k l).0 h)
