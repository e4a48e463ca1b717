-- What is written for a class of a package: the methods of its file but its initialiser, and those that it gets.
use Rattle.std.proofs.Common.{◌≡◌, ⊎_elim, ℕ, zero, suc, ◌+◌, ◌-◌, ◌<◌, refl, sym, ap, ◌∙◌, arith, false, List, []}
use Rattle.std.proofs.Common.{◌∷◌, length, map}
use Rattle.std.specs.Prelude.{Some, slice_get, unwrap_or}
use Rattle.std.specs.List.{AllByRecursion}
use Rattle.cjc_verified_proof.proofs.BytesGets.{get_behind, in_front, item_there}
use Rattle.cjc_verified_proof.proofs.BytesPlain.{same_some}
use Rattle.cjc_verified_proof.proofs.BytesQuantified.{all_both}
use Rattle.cjc_verified_proof.specs.CapRead.declared.tree.ClassRef.{ClassRef}
use Rattle.cjc_verified_proof.specs.Components.Descriptor.{as_added, class_descriptor, method_descriptor, method_in}
use Rattle.cjc_verified_proof.specs.Components.Descriptor.{methods_with_added, no_member}
use Rattle.cjc_verified_proof.specs.Components.Methods.{method_offset}
use Rattle.cjc_verified_proof.specs.Components.Names.{class_ref}
use Rattle.cjc_verified_proof.specs.Components.Package.{Package, world}
use Rattle.cjc_verified_proof.proofs.DescribedLaws.{either_part}
use Rattle.cjc_verified_proof.proofs.FoundLaws.{written_got}
use Rattle.cjc_verified_proof.specs.Verify.Pairs.{Described, described_among, described_in}
use Rattle.cjc_verified_proof.specs.Tokens.Members.{is_initialiser}
use Rattle.cjc_verified_proof.specs.World.Added.{added}
use Rattle.cjc_verified_proof.specs.World.Classes.{Class, Member}
use Rattle.cjc_verified_proof.specs.World.Lookup.{member_at}
use Rattle.cjc_verified_proof.specs.World.Order.{methods_of_class, places, written}
use Rattle.cjc_verified_proof.specs.World.declared.found.Found.{Found}

places_got : (c : Class) (from n j : ℕ) (f : Found) → slice_get (places c from n) j ≡ Some f
    → (f ≡ member_at c (from + j)) × (j < n)
places_got c from zero j f e = absurd cc
places_got c from (suc n) zero f e = let z : from ≡ from + 0 = omega arith in
    (sym (same_some e) ∙ ap (member_at c) z, omega arith)
places_got c from (suc n) (suc j) f e =
    let r = places_got c (from + 1) n j f e in
    let z : from + 1 + j ≡ from + suc j = omega arith in
    let less = r.1 in
    (r.0 ∙ ap (member_at c) z, omega (arith, less))

get_there : {A : Type 0} (xs : List A) (k : ℕ) → k < length xs → (x : A) × (slice_get xs k ≡ Some x)
get_there [] k lt = absurd (omega (arith, lt))
get_there (x ∷ xs) zero lt = (x, refl)
get_there (x ∷ xs) (suc k) lt = get_there xs k (omega (arith, lt))

-- a method that is written for a class is one of its file or one that it gets
pub data IsMethodOf (w : List Class) (k : Class) (f : Found) : Type 0 where
  of_file : (i : ℕ) (m : Member) → slice_get k.methods i ≡ Some m → f ≡ member_at k (length k.fields + i)
      → method_in w k f.member ≡ m → is_initialiser m.name ≡ false → IsMethodOf w k f
  of_interfaces : (i : ℕ) (m : Member) → slice_get (added w k) i ≡ Some m
      → f ≡ member_at k (length k.fields + (length k.methods + i)) → method_in w k f.member ≡ as_added m
      → IsMethodOf w k f

pub member_is : (w : List Class) (k : Class) (i : ℕ) (m : Member) → slice_get (methods_with_added w k) i ≡ Some m
    → method_in w k (length k.fields + i) ≡ m
member_is w k i m e =
    let left : length k.fields + i - length k.fields ≡ i = omega arith in
    ap (λ j. unwrap_or (slice_get (methods_with_added w k) j) no_member) left ∙ ap (λ o. unwrap_or o no_member) e

pub method_from : (w : List Class) (k : Class) (i : ℕ) (f : Found) → slice_get (methods_of_class w k) i ≡ Some f
    → IsMethodOf w k f
method_from w k i f e = ⊎_elim
    (λ a. (
    let r = written_got k (length k.fields) k.methods i f a in
    of_file r.0 r.1 r.2 r.3 (ap (λ (y : Found). method_in w k y.member) r.3 ∙ member_is w k r.0 r.1
    (in_front k.methods (map as_added (added w k)) r.0 r.1 r.2)) r.4
    ))
    (λ b. (
    let r = places_got k (length k.fields + length k.methods) (length (added w k)) b.0 f b.1 in
    let m = get_there (added w k) b.0 r.1 in
    let same : length k.fields + length k.methods + b.0 ≡ length k.fields + (length k.methods + b.0) = omega arith in
    of_interfaces b.0 m.0 m.1 (r.0 ∙ ap (member_at k) same) (ap (λ (y : Found). method_in w k y.member) (r.0
    ∙ ap (member_at k) same) ∙ member_is w k
    (length k.methods + b.0) (as_added m.0) (get_behind k.methods (map as_added (added w k)) b.0 ∙ item_there as_added
    (added w k) b.0 m.0 m.1))
    ))
    (either_part (written k (length k.fields) k.methods) (places k (length k.fields + length k.methods)
    (length (added w k))) i f e)

-- ---- methods in Descriptor

module _ (p : Package) where
  abbrev w : List Class
  w = world p

  -- what Descriptor says beside the package's methods
  abbrev pub IsSaid : List Class → Described → Type 0
  IsSaid cs d = (k : ℕ) × (slice_get cs k ≡ Some d.class) × (j : ℕ) × (slice_get (methods_of_class w d.class) j
      ≡ Some d.member) × (let m = d.method in m.offset ≡ method_offset p d.member)
      × (d.method ≡ method_descriptor p d.class d.member) × (d.holder ≡ (let c = d.class in class_ref p c.name))

  said_in : (c : Class) (cs : List Class) (holder : ClassRef) → holder ≡ class_ref p c.name → (fs : List Found)
      → ((j : ℕ) (f : Found) → slice_get fs j ≡ Some f → (i : ℕ) × (slice_get (methods_of_class w c) i ≡ Some f))
      → AllByRecursion (IsSaid (c ∷ cs)) (described_in c holder fs (map (method_descriptor p c) fs))
  said_in c cs holder same [] all = tt
  said_in c cs holder same (f ∷ fs) all = let r = all 0 f refl in (
    (0, refl, r.0, r.1, refl, refl, same),
    said_in c cs holder same fs
        (λ j g e. all (suc j) g e),
  )

  said_later : (c : Class) (cs : List Class) (ds : List Described) → AllByRecursion (IsSaid cs) ds
      → AllByRecursion (IsSaid (c ∷ cs)) ds
  said_later c cs [] all = tt
  said_later c cs (d ∷ ds) all = let r = all.0 in (
    (suc r.0, r.1, r.2, r.3, r.4, r.5, r.6),
    said_later c cs
        ds all.1,
  )

  pub all_said : (cs : List Class) → AllByRecursion (IsSaid cs) (described_among w cs (map (class_descriptor p) cs))
  all_said [] = tt
  all_said (c ∷ cs) = all_both (IsSaid (c ∷ cs)) (described_in c (class_ref p c.name) (methods_of_class w c)
      (map (method_descriptor p c) (methods_of_class w c))) (described_among w cs (map (class_descriptor p) cs))
      (said_in c cs (class_ref p c.name) refl (methods_of_class w c) (λ j f e. (j, e)))
      (said_later c cs (described_among w cs (map (class_descriptor p) cs)) (all_said cs))
