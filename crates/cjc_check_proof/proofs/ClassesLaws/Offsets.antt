-- Methods of the package stand one behind the other, each with bytes of its own.
use Rattle.std.proofs.Common.{◌≡◌, ℕ, ◌+◌, ◌<◌, ◌≤◌, ◌==◌, Bool, true, false, List, [], ◌∷◌, ◌++◌, length, refl, ap}
use Rattle.std.proofs.Common.{◌∙◌, arith}
use Rattle.std.specs.Prelude.{◌&&◌, not, Option, Some, map, nat_lt, if◌then◌else◌, sum_by}
use Rattle.std.proofs.lemmas.List.Sums.{sum_by-cons}
use Rattle.std.specs.List.{AllByRecursion}
use Rattle.std.proofs.lemmas.Bool.Decides.{nat_tests}
use Rattle.cjc_check_rules.specs.Spots.{in_info}
use Rattle.cjc_check_rules.specs.Described.{is_after, methods_ascend, last_offset}
use Rattle.cjc_world.specs.declared.found.Found.{Found}
use Rattle.cjc_world.specs.Classes.{Class}
use Rattle.cjc_world.specs.Order.{method_order}
use Rattle.cjc_ncode.specs.declared.narrow.NMethod.{NMethod}
use Rattle.cjc_ncode.specs.Lowering.Placed.{short_header, extended_header}
use Rattle.cjc_pool.specs.Emit.Emitted.{is_short}
use Rattle.cjc_components.specs.Package.{LaidMethod, Package, world}
use Rattle.cjc_components.specs.Methods.{Extent, extent_at, extent_from, extent_of, first_method, handler_count}
use Rattle.cjc_components.specs.Methods.{is_member, method_offset, method_size, with_abstract}
use Rattle.cjc_components.specs.Descriptor.{method_descriptor}
use Rattle.cjc_vtable.proofs.Filed.{Has, at_front, behind}
use Rattle.cjc_token_proof.proofs.ComponentsLaws.Apart.{AreApart, is_same, order_own, order_apart}
use Rattle.cjc_token_proof.proofs.ComponentsLaws.Tests.{passes, none_in_both}
use Rattle.cjc_token_proof.specs.Components.Methods.{HasMethods}
use Rattle.cjc_bytes.proofs.Numbers.{like_number}

-- ---- bytes

header_some : (a s : Bool) (m : NMethod) → 0 < length (if a then with_abstract (if s then short_header m
    else extended_header m) else (if s then short_header m else extended_header m))
header_some true true m = omega arith
header_some true false m = omega arith
header_some false true m = omega arith
header_some false false m = omega arith

pub some_bytes : (m : LaidMethod) → 0 < method_size m
some_bytes m = let h = header_some m.is_abstract (is_short m.code) m.code in omega (arith, h)

-- ---- where a method stands

offset_in : Extent → ℕ
offset_in e = e.offset

all_has : {A : Type 0} (P : A → Type 0) (xs : List A) (x : A) → AllByRecursion P xs → Has x xs → P x
all_has P [] x all h = elim h [ ]
all_has P (y ∷ xs) x all at_front = all.0
all_has P (y ∷ xs) x all (behind h) = all_has P xs x all.1 h

-- the methods that are left, the first of which stands at this offset, and where Descriptor puts their members
pub record Left (p : Package) (at : ℕ) (ms : List LaidMethod) (fs : List Found) : Type 0 where
  handlers : ℕ
  members : map (λ m. m.member) ms ≡ fs
  own : AllByRecursion (λ f. f.imported ≡ false) fs
  apart : AreApart fs
  offsets : (f : Found) → Has f fs → extent_of p f ≡ extent_from at handlers ms f

module _ (p : Package) where
  itself : (f : Found) (m : LaidMethod) → m.member ≡ f → f.imported ≡ false → is_member f m ≡ true
  itself f m e own =
      ap (λ g. not f.imported && f.class == g.class && f.member == g.member) e
      ∙ ap (λ b. not b && f.class == f.class && f.member == f.member) own
      ∙ ap (λ b. b && f.member == f.member) (like_number f.class) ∙ like_number f.member

  -- the first of them
  pub step : (at : ℕ) (ms : List LaidMethod) (f : Found) (fs : List Found) → Left p at ms (f ∷ fs) → (m : LaidMethod)
      × (more : List LaidMethod) × (method_offset p f ≡ at) × (ms ≡ m ∷ more) × Left p (at + method_size m) more fs
  unfolding offset_in
  step at [] f fs l = absurd (let e = l.members in cc)
  step at (m ∷ ms) f fs l =
      let e : m.member ∷ map (λ m. m.member) ms ≡ f ∷ fs = l.members in
      let is : m.member ≡ f = cc in
      let tail : map (λ m. m.member) ms ≡ fs = cc in
      let here = l.offsets f at_front in
      let this = itself f m is l.own.0 in
      let first : extent_of p f ≡ extent_at at l.handlers m = here ∙ ap (λ b. if b then extent_at at l.handlers m
      else extent_from (at + method_size m) (l.handlers + handler_count m) ms f) this in (
        m,
        ms,
        ap offset_in first,
        refl,
        record {
          handlers = l.handlers + handler_count m;
          members = tail;
          own = l.own.1;
          apart = l.apart.1;
          offsets = λ g h.
              let other : is_same g f ≡ false = all_has (λ g. is_same g f ≡ false) fs g l.apart.0 h in
              let not_it : is_member g m ≡ false = ap (λ f. not g.imported && g.class == f.class
              && g.member == f.member) is ∙ other in
              l.offsets g (behind h) ∙ ap (λ b. if b then extent_at at l.handlers m
              else extent_from (at + method_size m) (l.handlers + handler_count m) ms g) not_it;
        },
      )

  -- all of them
  pub all_left : HasMethods p → Left p (first_method p.methods) p.methods (method_order (world p))
  all_left e = record {
    handlers = 0;
    members = e;
    own = order_own (world p);
    apart = order_apart (world p);
    offsets = λ f h. refl;
  }

  -- those of one class, and the rest
  pub ascend : (c : Class) (fs rest : List Found) (at pos : ℕ) (ms : List LaidMethod) (before : Option ℕ)
      → Left p at ms (fs ++ rest) → is_after before at ≡ true
      → (methods_ascend before pos (map (method_descriptor p c) fs) ≡ []) × (next : ℕ) × (more : List LaidMethod)
      × Left p next more rest × (is_after (last_offset before (map (method_descriptor p c) fs)) next ≡ true)
  unfolding methods_ascend
  ascend c [] rest at pos ms before l after = (refl, at, ms, l, after)
  ascend c (f ∷ fs) rest at pos ms before l after =
      let s = step at ms f (fs ++ rest) l in
      let here : method_offset p f ≡ at = s.2 in
      let some = some_bytes s.0 in
      let later : nat_lt (method_offset p f) (at + method_size s.0) ≡ true = grind (arith, nat_tests, here, some) in
      let r = ascend c fs rest (at + method_size s.0) (pos + 12) s.1 (Some (method_offset p f)) s.4 later in
      (none_in_both (passes _ (in_info 11 (pos + 2)) (ap (is_after before) here ∙ after)) r.0, r.1, r.2, r.3, r.4)

  -- the offset of each
  pub offset_there : (at : ℕ) (ms : List LaidMethod) (fs : List Found) (f : Found) → Left p at ms fs → Has f fs
      → at ≤ method_offset p f
  offset_there at ms [] f l h = elim h [ ]
  offset_there at ms (f ∷ fs) g l at_front = let s = step at ms f fs l in let e = s.2 in omega (arith, e)
  offset_there at ms (f ∷ fs) g l (behind h) = let s = step at ms f fs l in let r = offset_there (at + method_size s.0)
      s.1 fs g s.4 h in omega (arith, r)

  pub offset_below : (at : ℕ) (ms : List LaidMethod) (fs : List Found) (f : Found) → Left p at ms fs → Has f fs
      → method_offset p f < at + sum_by method_size ms
  offset_below at ms [] f l h = elim h [ ]
  offset_below at ms (f ∷ fs) g l at_front =
      let s = step at ms f fs l in
      let e = s.2 in
      let sum = ap (sum_by method_size) s.3 ∙ sum_by-cons method_size s.0 s.1 in
      let some = some_bytes s.0 in
      omega (arith, e, sum, some)
  offset_below at ms (f ∷ fs) g l (behind h) =
      let s = step at ms f fs l in
      let r = offset_below (at + method_size s.0) s.1 fs g s.4 h in
      let sum = ap (sum_by method_size) s.3 ∙ sum_by-cons method_size s.0 s.1 in
      omega (arith, r, sum)

  -- a method of the order has an offset that is not 0
  pub offset_some : HasMethods p → (f : Found) → Has f (method_order (world p)) → 0 < method_offset p f
  offset_some e f h = let le = offset_there (first_method p.methods) p.methods (method_order (world p)) f (all_left e) h
      in omega (arith, le)
