-- The class_refs of a package's own classes and interfaces, by their places in the order.
use Rattle.std.proofs.Common.{◌≡◌, ℕ, ◌+◌, ◌<◌, true, false, List, ◌++◌, length, sym, ap, ◌∙◌, arith, ⊎_elim}
use Rattle.std.specs.Prelude.{Some, map, slice_get}
use Rattle.std.proofs.lemmas.List.{length-map}
use Rattle.cjc_capread.specs.declared.tree.ClassRef.TheVariants.{Inside}
use Rattle.cjc_capread.specs.declared.tree.ClassInfo.{ClassInfo}
use Rattle.cjc_capread.specs.declared.tree.InterfaceEntry.{InterfaceEntry}
use Rattle.cjc_capread.specs.declared.tree.ClassEntry.{ClassEntry}
use Rattle.cjc_check_rules.specs.Spots.{starts, begins}
use Rattle.cjc_check_rules.specs.Complete.{interface_size, class_size, class_info_size}
use Rattle.cjc_check_rules.specs.Classes.{first_interface, first_class, classes_at, interfaces_at, is_own_class}
use Rattle.cjc_world.specs.Classes.{Class}
use Rattle.cjc_world.specs.Order.{in_order, class_order}
use Rattle.cjc_components.specs.Package.{Package, world}
use Rattle.cjc_components.specs.Class.{class_info, class_entry, interface_entry}
use Rattle.cjc_components.specs.Names.{class_ref}
use Rattle.cjc_token_proof.specs.Components.OwnNames.{HaveOwnNames}
use Rattle.cjc_token_proof.proofs.ComponentsLaws.Starts.{infos_stand_alike, ref_is_start, starts_long}
use Rattle.cjc_check_proof.proofs.ClassesLaws.Lists.{get-either}
use Rattle.cjc_check_proof.proofs.ClassesLaws.Lists.{begins_at, begins_above, start_within}
use Rattle.cjc_bytes.proofs.Gets.{get_front, in_front, get_behind, get_below}

pub interface_some : (i : InterfaceEntry) → 0 < interface_size i
interface_some i = omega arith

pub class_some : (c : ClassEntry) → 0 < class_size c
class_some c = omega arith

module _ (p : Package) where
  abbrev pub info : ClassInfo
  info = class_info (class_ref p) p

  abbrev pub interface_starts : List ℕ
  interface_starts = starts interface_size first_interface (map (interface_entry (class_ref p) (world p))
      (in_order (world p) true))

  abbrev pub class_starts : List ℕ
  class_starts = starts class_size (first_class info) (map (class_entry (class_ref p) p) (in_order (world p) false))

  interfaces_long : length interface_starts ≡ length (in_order (world p) true)
  interfaces_long = starts_long interface_size first_interface (map (interface_entry (class_ref p) (world p))
      (in_order (world p) true)) ∙ length-map (in_order (world p) true) (interface_entry (class_ref p) (world p))

  module _ (own : HaveOwnNames (class_order (world p))) where
    -- an interface
    pub interface_ref : (k : ℕ) (c : Class) → slice_get (in_order (world p) true) k ≡ Some c → (s : ℕ)
        × (slice_get interface_starts k ≡ Some s) × (class_ref p c.name ≡ Inside s)
    unfolding class_order
    interface_ref k c e =
        let r = ref_is_start p own k c (in_front (in_order (world p) true) (in_order (world p) false) k c e) in
        let all = ap (λ ss. slice_get ss k) (infos_stand_alike (class_ref p) (λ name. Inside 0) p) ∙ r.1 in
        let lt = get_below (in_order (world p) true) k c e in
        let long = interfaces_long in
        (r.0, sym (get_front interface_starts class_starts k (omega (arith, lt, long))) ∙ all, r.2)

    -- a class that is no interface
    pub own_ref : (k : ℕ) (c : Class) → slice_get (in_order (world p) false) k ≡ Some c → (s : ℕ)
        × (slice_get class_starts k ≡ Some s) × (class_ref p c.name ≡ Inside s)
    unfolding class_order
    own_ref k c e =
        let is = in_order (world p) true in
        let r = ref_is_start p own (length is + k) c (get_behind is (in_order (world p) false) k ∙ e) in
        let all = ap (λ ss. slice_get ss (length is + k)) (infos_stand_alike (class_ref p) (λ name. Inside 0) p) ∙ r.1
        in
        let at : length interface_starts + k ≡ length is + k = ap (λ n. n + k) interfaces_long in (
          r.0,
          sym (get_behind interface_starts class_starts k)
              ∙ ap (λ n. slice_get (interface_starts ++ class_starts) n) at ∙ all,
          r.2,
        )

    pub interface_begins : (k : ℕ) (c : Class) → slice_get (in_order (world p) true) k ≡ Some c → (s : ℕ)
        × (class_ref p c.name ≡ Inside s) × (begins (interfaces_at info) s ≡ true)
    interface_begins k c e =
        let r = interface_ref k c e in (
          r.0,
          r.2,
          begins_at interface_size first_interface (map (interface_entry (class_ref p) (world p))
              (in_order (world p) true)) k r.0 r.1,
        )

    pub class_begins : (k : ℕ) (c : Class) → slice_get (in_order (world p) false) k ≡ Some c
        → is_own_class info (class_ref p c.name) ≡ true
    class_begins k c e =
        let r = own_ref k c e in
        ap (is_own_class info) r.2 ∙ begins_at class_size (first_class info) (map (class_entry (class_ref p) p)
        (in_order (world p) false)) k r.0 r.1

    pub class_begins_at : (k : ℕ) (c : Class) → slice_get (in_order (world p) false) k ≡ Some c → (s : ℕ)
        × (class_ref p c.name ≡ Inside s) × (begins (classes_at info) s ≡ true)
    class_begins_at k c e =
        let r = own_ref k c e in (
          r.0,
          r.2,
          begins_at class_size (first_class info) (map (class_entry (class_ref p) p)
              (in_order (world p) false)) k r.0 r.1,
        )

    pub interface_apart : (k : ℕ) (c : Class) → slice_get (in_order (world p) true) k ≡ Some c
        → is_own_class info (class_ref p c.name) ≡ false
    interface_apart k c e =
        let r = interface_ref k c e in
        let lt = start_within interface_size first_interface (map (interface_entry (class_ref p) (world p))
        (in_order (world p) true)) k r.0 interface_some r.1 in
        ap (is_own_class info) r.2 ∙ begins_above class_size (first_class info) (map (class_entry (class_ref p) p)
        (in_order (world p) false)) r.0 lt.1

    -- within Class
    pub ref_within : (k : ℕ) (c : Class) → slice_get (class_order (world p)) k ≡ Some c → (s : ℕ)
        × (class_ref p c.name ≡ Inside s) × (s < class_info_size info)
    ref_within k c e =
        let r = ref_is_start p own k c e in
        let all = ap (λ ss. slice_get ss k) (infos_stand_alike (class_ref p) (λ name. Inside 0) p) ∙ r.1 in
        let low = λ (g : slice_get interface_starts k ≡ Some r.0).
        (start_within interface_size first_interface (map (interface_entry (class_ref p) (world p))
        (in_order (world p) true)) k r.0 interface_some g).1 in
        let high = λ (g : (j : ℕ) × (slice_get class_starts j ≡ Some r.0)).
        (start_within class_size (first_class info) (map (class_entry (class_ref p) p) (in_order (world p) false)) g.0
        r.0 class_some g.1).1 in (
          r.0,
          r.2,
          ⊎_elim (λ g. let lt = low g in omega (arith, lt)) (λ g. let lt = high g in omega (arith, lt))
              (get-either interface_starts class_starts k r.0 all),
        )
