-- The classes of export files, where no two have one name: each is found by its name.
use Rattle.std.proofs.Common.{◌≡◌, ℕ, zero, suc, ◌+◌, refl, sym, ap, ◌∙◌, arith, Bool, true, false, List, [], ◌∷◌}
use Rattle.std.specs.Prelude.{Some, slice_get, if◌then◌else◌}
use Rattle.std.specs.Str.{bytes_eq}
use Rattle.cjc_world.specs.ExportFile.declared.tree.ExportClass.{ExportClass}
use Rattle.cjc_vtable.proofs.Filed.{Has, get-has, has-get}
use Rattle.cjc_world.specs.Classes.{Class, class_named, imported, numbered}
use Rattle.cjc_world.proofs.Cycles.{class_named-name}
use Rattle.cjc_bytes.proofs.Lists.{name_is}

-- one that a name finds
pub numbered_at : (k : ℕ) (cs : List ExportClass) (x : List ℕ) (d : Class) → class_named (numbered k cs) x ≡ Some d
    → (n : ℕ) × (c : ExportClass) × (slice_get cs n ≡ Some c) × (d ≡ imported (k + n) c)
unfolding class_named
numbered_at k [] x d e = absurd cc
numbered_at k (c ∷ cs) x d e = by (bytes_eq c.name x) e (numbered_at (k + 1) cs x d)
  where
    by : (b : Bool) → (if b then Some (imported k c) else class_named (numbered (k + 1) cs) x) ≡ Some d
        → (class_named (numbered (k + 1) cs) x ≡ Some d → (n : ℕ) × (a : ExportClass) × (slice_get cs n ≡ Some a)
        × (d ≡ imported (k + 1 + n) a))
        → (n : ℕ) × (a : ExportClass) × (slice_get (c ∷ cs) n ≡ Some a) × (d ≡ imported (k + n) a)
    by true e rest =
        let same : imported k c ≡ d = cc in
        let none : k ≡ k + 0 = omega arith in
        (0, c, refl, sym same ∙ ap (λ m. imported m c) none)
    by false e rest =
        let r = rest e in
        let i = r.0 in
        let next : k + 1 + i ≡ k + suc i = omega arith in
        (suc i, r.1, r.2, r.3 ∙ ap (λ m. imported m r.1) next)

-- the name of each finds one
pub numbered_some : (k : ℕ) (cs : List ExportClass) (n : ℕ) (c : ExportClass) → slice_get cs n ≡ Some c → (d : Class)
    × (class_named (numbered k cs) c.name ≡ Some d)
unfolding class_named
numbered_some k [] n c e = absurd cc
numbered_some k (b ∷ cs) zero c e =
    let same : b ≡ c = cc in (
      imported k b,
      ap (λ t. if t then Some (imported k b) else class_named (numbered (k + 1) cs) c.name)
          (ap (λ (q : ExportClass). bytes_eq q.name c.name) same ∙ name_is c.name),
    )
numbered_some k (b ∷ cs) (suc n) c e = by (bytes_eq b.name c.name) (numbered_some (k + 1) cs n c e)
  where
    by : (t : Bool) → (d : Class) × (class_named (numbered (k + 1) cs) c.name ≡ Some d) → (d : Class)
        × ((if t then Some (imported k b) else class_named (numbered (k + 1) cs) c.name) ≡ Some d)
    by true r = (imported k b, refl)
    by false r = r

-- a class that a name finds, as its file has it
pub record IsFound (cs : List ExportClass) (x : List ℕ) (d : Class) : Type 0 where
  pub number : ℕ
  pub class : ExportClass
  pub there : Has class cs
  pub is : d ≡ imported number class
  pub name : class.name ≡ x

module _ (cs : List ExportClass) where
  pub found : (x : List ℕ) (d : Class) → class_named (numbered 0 cs) x ≡ Some d → IsFound cs x d
  found x d e =
      let r = numbered_at 0 cs x d e in
      record {
        number = 0 + r.0;
        class = r.1;
        there = get-has r.1 cs r.0 r.2;
        is = r.3;
        name = ap (λ (q : Class). q.name) (sym r.3) ∙ class_named-name (numbered 0 cs) x d e;
      }

  -- where no two have one name, each is found by its own
  pub finds : ((a b : ExportClass) → Has a cs → Has b cs → a.name ≡ b.name → a ≡ b) → (c : ExportClass) → Has c cs
      → (n : ℕ) × (class_named (numbered 0 cs) c.name ≡ Some (imported n c))
  finds alone c h =
      let at = has-get c cs h in
      let some = numbered_some 0 cs at.0 c at.1 in
      let f = found c.name some.0 some.1 in
      let same : f.class ≡ c = alone f.class c f.there h f.name in
      (f.number, some.1 ∙ ap (λ (v : Class). Some v) (f.is ∙ ap (λ (v : ExportClass). imported f.number v) same))
