-- The set of classes that a walk upwards has met, and that its map serves: classes compare and hash alike.
use Rattle.std.specs.Prelude.{◌==◌, ◌&&◌, Option, is_some}
use Rattle.std.specs.Bool.{Decides, IsTrue}
use Rattle.std.specs.Cmp.{IsEquivalence, decided}
use Rattle.std.specs.Hash as writes
use Rattle.std.specs.HashMap.{get_by}
use Rattle.std.proofs.Common.{◌≡◌, ℕ, Bool, true, false, refl, sym, ap, ◌∙◌, true≢false}
use Rattle.std.proofs.lemmas.Bool.Decides.{Decides-eqb}
use Rattle.cjc_card_semantics.specs.Machine.Classes.{Class, Own, External, same_class}
use Rattle.cjc_card_link.specs.declared.met.Met.{Met}

-- ---- classes as keys

two : (b c : Bool) → (b && c) ≡ true → (b ≡ true) × (c ≡ true)
two true c e = (refl, e)
two false c e = absurd (true≢false (sym e))

both : (b c : Bool) → b ≡ true → c ≡ true → (b && c) ≡ true
both b c hb hc = ap (λ x. x && c) hb ∙ hc

differ : (a b : Class) → (a ≡ b → ⊥) → Decides false (a ≡ b)
differ a b h = (λ e. absurd (true≢false (sym e)), λ e. absurd (h e))

-- the test tells which are the same
pub same_class-Decides : (a b : Class) → Decides (same_class a b) (a ≡ b)
same_class-Decides (Own p x) (Own q y) = (
  λ e. ap (λ n. Own n x) ((Decides-eqb p q).0 (two (p == q) (x == y) e).0)
      ∙ ap (Own q) ((Decides-eqb x y).0 (two (p == q) (x == y) e).1),
  λ e. both (p == q) (x == y) ((Decides-eqb p q).1 cc) ((Decides-eqb x y).1 cc),
)
same_class-Decides (External p x) (External q y) = (
  λ e. ap (λ n. External n x) ((Decides-eqb p q).0 (two (p == q) (x == y) e).0)
      ∙ ap (External q) ((Decides-eqb x y).0 (two (p == q) (x == y) e).1),
  λ e. both (p == q) (x == y) ((Decides-eqb p q).1 cc) ((Decides-eqb x y).1 cc),
)
same_class-Decides (Own p x) (External q y) = differ (Own p x) (External q y) (λ e. cc)
same_class-Decides (External p x) (Own q y) = differ (External p x) (Own q y) (λ e. cc)

-- being the same class by offset or by token is an equivalence
pub classes-equivalence : IsEquivalence same_class
classes-equivalence = decided same_class same_class-Decides

-- the offset of a class, or its token
abbrev pub number_in : Class → ℕ
number_in (Own part offset) = offset
number_in (External tree token) = token

-- what is fed to a hasher
abbrev pub fed : Class → writes.HashWrites
fed class = writes.u32 (number_in class)

-- the same classes are fed to a hasher alike
pub same-fed : (a b : Class) → IsTrue (same_class a b) → fed a ≡ fed b
same-fed a b h = ap fed ((same_class-Decides a b).0 h)

-- ---- what is kept

-- what is kept under a class
abbrev pub kept_under : Met → Class → Option Bool
kept_under met class = get_by (λ k. same_class class k) met.kept

-- a class was met
abbrev pub is_met : Met → Class → Bool
is_met met class = is_some (kept_under met class)
