-- Offsets of labels, and how they grow where more jumps are wide.
use Rattle.std.proofs.Common.{◌≡◌, ℕ, zero, suc, ◌+◌, ◌<◌, ◌≤◌, refl, sym, ap, ◌∙◌, ⊎_elim, inl, inr, arith, Bool, true}
use Rattle.std.proofs.Common.{false, List, [], ◌∷◌, length}
use Rattle.std.specs.Prelude.{Some, slice_get, slice_set, ◌⊎◌, replicate}
use Rattle.std.proofs.lemmas.Bool.{cases_lt}
use Rattle.std.proofs.lemmas.Bool.Decides.{nat_tests}
use Rattle.cjc_ncode.specs.declared.narrow.NInsn.{NInsn}
use Rattle.cjc_ncode.specs.declared.narrow.NInsn.TheVariants as narrow
use Rattle.cjc_layout.specs.Sizes.{insn_size, bytes_before, widest_size}
use Rattle.cjc_layout.specs.Legal.{is_near, IsLegal, IsWithin}
use Rattle.cjc_ncode.proofs.BytesGets.{get_below, get_inside}

pub before_grows : (insns : List NInsn) (wide : List Bool) (a b : ℕ) → a ≤ b
    → bytes_before insns wide a ≤ bytes_before insns wide b
before_grows insns wide zero b h = omega arith
before_grows insns wide (suc a) zero h = absurd (omega arith)
before_grows [] wide (suc a) (suc b) h = omega arith
before_grows (i ∷ insns) [] (suc a) (suc b) h = omega arith
before_grows (i ∷ insns) (w ∷ wide) (suc a) (suc b) h = let r = before_grows insns wide a b (omega arith) in omega arith

pub size_grows : (i : NInsn) (w v : Bool) → (w ≡ true → v ≡ true) → insn_size w i ≤ insn_size v i
size_grows (narrow.Jump op target) true true h = omega arith
size_grows (narrow.Jump op target) true false h = let e = h refl in cc
size_grows (narrow.Jump op target) false true h = omega arith
size_grows (narrow.Jump op target) false false h = omega arith
size_grows (narrow.Op op) w v h = omega arith
size_grows (narrow.Push op value) w v h = omega arith
size_grows (narrow.Local op index) w v h = omega arith
size_grows (narrow.Inc op index by) w v h = omega arith
size_grows (narrow.Words op m n) w v h = omega arith
size_grows (narrow.Switch op other low cases) w v h = omega arith
size_grows (narrow.Named op key) w v h = omega arith
size_grows (narrow.Interface nargs m) w v h = omega arith
size_grows (narrow.NewArray kind) w v h = omega arith
size_grows (narrow.TypeTest op kind class) w v h = omega arith

first_within : (w v : Bool) (ws vs : List Bool) → IsWithin (w ∷ ws) (v ∷ vs) → w ≡ true → v ≡ true
first_within w v ws vs within e = let f = within 0 (ap (λ x. Some x) e) in cc

-- with more wide jumps every distance grows
pub distance_grows : (insns : List NInsn) (w v : List Bool) → length w ≡ length insns → length v ≡ length insns
    → IsWithin w v → (a b : ℕ) → a ≤ b → bytes_before insns w b + bytes_before insns v a ≤ bytes_before insns v b +
    bytes_before insns w a
distance_grows insns w v lw lv within zero zero h = omega arith
distance_grows insns w v lw lv within (suc a) zero h = absurd (omega arith)
distance_grows [] w v lw lv within zero (suc b) h = omega arith
distance_grows [] w v lw lv within (suc a) (suc b) h = omega arith
distance_grows (i ∷ insns) [] v lw lv within a (suc b) h = cc
distance_grows (i ∷ insns) (x ∷ w) [] lw lv within a (suc b) h = cc
distance_grows (i ∷ insns) (x ∷ w) (y ∷ v) lw lv within zero (suc b) h =
    let r = distance_grows insns w v (omega arith) (omega arith) (λ k e. within (suc k) e) zero b (omega arith) in
    let s = size_grows i x y (first_within x y w v within) in omega arith
distance_grows (i ∷ insns) (x ∷ w) (y ∷ v) lw lv within (suc a) (suc b) h =
    let r = distance_grows insns w v (omega arith) (omega arith) (λ k e. within (suc k) e) a b (omega arith)
    in omega arith

near_false : (a b : ℕ) → is_near a b ≡ false → (a + 127 < b) ⊎ (b + 128 < a)
near_false a b e = grind (arith, nat_tests)

far_false : (a b : ℕ) → (a + 127 < b) ⊎ (b + 128 < a) → is_near a b ≡ false
far_false a b h = grind (arith, nat_tests)

-- a jump that is too far stays too far
far_stays : (insns : List NInsn) (w v : List Bool) → length w ≡ length insns → length v ≡ length insns → IsWithin w v
    → (k t : ℕ) → is_near (bytes_before insns w k) (bytes_before insns w t) ≡ false
    → is_near (bytes_before insns v k) (bytes_before insns v t) ≡ false
far_stays insns w v lw lv within k t far = by (near_false (bytes_before insns w k) (bytes_before insns w t) far)
  where
    ahead : bytes_before insns w k + 127 < bytes_before insns w t → k ≤ t
        → (bytes_before insns v k + 127 < bytes_before insns v t)
        ⊎ (bytes_before insns v t + 128 < bytes_before insns v k)
    ahead h le = let d = distance_grows insns w v lw lv within k t le in inl (omega arith)

    behind : bytes_before insns w t + 128 < bytes_before insns w k → t ≤ k
        → (bytes_before insns v k + 127 < bytes_before insns v t)
        ⊎ (bytes_before insns v t + 128 < bytes_before insns v k)
    behind h le = let d = distance_grows insns w v lw lv within t k le in inr (omega arith)

    by : (bytes_before insns w k + 127 < bytes_before insns w t)
        ⊎ (bytes_before insns w t + 128 < bytes_before insns w k)
        → is_near (bytes_before insns v k) (bytes_before insns v t) ≡ false
    by (inl h) = far_false (bytes_before insns v k) (bytes_before insns v t) (⊎_elim
        (λ lt. let m = before_grows insns w t k (omega (arith, lt)) in absurd (omega (arith, m, h)))
        (λ le. ahead h le)
        (cases_lt t k))
    by (inr h) = far_false (bytes_before insns v k) (bytes_before insns v t) (⊎_elim
        (λ lt. let m = before_grows insns w k t (omega (arith, lt)) in absurd (omega (arith, m, h)))
        (λ le. behind h le)
        (cases_lt k t))

-- such a jump is wide in every legal choice above this one
pub far_wide : (insns : List NInsn) (w v : List Bool) → length w ≡ length insns → IsLegal insns v → IsWithin w v
    → (k op t : ℕ) → slice_get insns k ≡ Some (narrow.Jump op t)
    → is_near (bytes_before insns w k) (bytes_before insns w t) ≡ false → slice_get v k ≡ Some true
far_wide insns w v lw legal within k op t e far =
    let inside = get_below insns k (narrow.Jump op t) e in
    let found = get_inside v k (let l = legal.count in omega arith) in
    by found.0 found.1
  where
    by : (b : Bool) → slice_get v k ≡ Some b → slice_get v k ≡ Some true
    by true f = f
    by false f =
        let near = legal.near k op t e f in
        let not_near = far_stays insns w v lw legal.count within k t far in
        let clash : true ≡ false = sym near ∙ not_near in cc

pub within_set : (w v : List Bool) (k : ℕ) → IsWithin w v → slice_get v k ≡ Some true → IsWithin (slice_set w k true) v
within_set [] v k within e j f = cc
within_set (x ∷ w) v zero within e zero f = e
within_set (x ∷ w) v zero within e (suc j) f = within (suc j) f
within_set (x ∷ w) v (suc k) within e zero f = within zero f
within_set (x ∷ w) [] (suc k) within e (suc j) f = cc
within_set (x ∷ w) (y ∷ v) (suc k) within e (suc j) f = within_set w v k (λ i g. within (suc i) g) e j f

-- no choice is longer than that of all wide jumps
pub all_wide : (insns : List NInsn) (wide : List Bool) (k : ℕ) → bytes_before insns wide k ≤ widest_size insns
all_wide insns wide zero = omega arith
all_wide [] wide (suc k) = omega arith
all_wide (i ∷ insns) [] (suc k) = omega arith
all_wide (i ∷ insns) (w ∷ wide) (suc k) = let r = all_wide insns wide k in let s = size_grows i w true (λ e. refl)
    in omega arith

pub all_narrow : (n : ℕ) (other : List Bool) → IsWithin (replicate n false) other
all_narrow zero other k e = cc
all_narrow (suc n) other zero e = cc
all_narrow (suc n) [] (suc k) e = all_narrow n [] k e
all_narrow (suc n) (o ∷ other) (suc k) e = all_narrow n other k e
