-- Where the infos of Class stand, whatever class_refs they hold, and what a class_ref to one of them is.
use Rattle.std.proofs.Common.{◌≡◌, ℕ, zero, suc, ◌+◌, ◌*◌, true, false, List, [], ◌∷◌, ◌++◌, length, refl, sym, ap, ◌∙◌}
use Rattle.std.proofs.Common.{arith, length-append}
use Rattle.std.specs.Prelude.{Some, map, slice_get, position, option_and_then, option_map, unwrap_or}
use Rattle.std.specs.Str.{bytes_eq}
use Rattle.std.proofs.lemmas.List.{length-map}
use Rattle.cjc_card_semantics.specs.CapRead.declared.tree.ClassRef.{ClassRef}
use Rattle.cjc_card_semantics.specs.CapRead.declared.tree.ClassRef.TheVariants.{Inside}
use Rattle.cjc_card_semantics.specs.Machine.Classes.{Own, external_from, or_else}
use Rattle.cjc_components.specs.LowerCheckRules.Spots.{placed, starts}
use Rattle.cjc_components.specs.LowerCheckRules.Complete.{interface_size, class_size, map_size}
use Rattle.cjc_components.specs.LowerCheckRules.Classes.{first_interface, first_class}
use Rattle.cjc_components.specs.LowerCheckRules.Described.{all_starts}
use Rattle.cjc_world.specs.Classes.{Class}
use Rattle.cjc_world.specs.Order.{in_order, class_order}
use Rattle.cjc_vtable.specs.Tables.{table_of}
use Rattle.cjc_components.specs.Package.{Package, world}
use Rattle.cjc_components.specs.Class.{class_info, class_entry, interface_entry, interfaces_of, implemented}
use Rattle.cjc_components.specs.Names.{class_ref, info_starts, ref_to}
use Rattle.cjc_token_proof.specs.Components.OwnNames.{HaveOwnNames}
use Rattle.cjc_bytes.proofs.Lists.{sums_same}

-- ---- sizes alone say where items stand

starts_same : {X A : Type 0} (size : A → ℕ) (f g : X → A) → ((x : X) → size (f x) ≡ size (g x)) → (at : ℕ) (xs : List X)
    → starts size at (map f xs) ≡ starts size at (map g xs)
unfolding placed
starts_same size f g h at [] = refl
starts_same size f g h at (x ∷ xs) =
    ap (λ n. at ∷ starts size (at + n) (map f xs)) (h x) ∙ ap (λ ys. at ∷ ys) (starts_same size f g h (at + size (g x))
    xs)

pub starts_long : {A : Type 0} (size : A → ℕ) (at : ℕ) (xs : List A) → length (starts size at xs) ≡ length xs
unfolding placed
starts_long size at [] = refl
starts_long size at (x ∷ xs) = ap suc (starts_long size (at + size x) xs)

-- ---- infos

module _ (ref other : List ℕ → ClassRef) (p : Package) where
  -- an info is as long with other class_refs
  pub interface_same : (i : Class) → interface_size (interface_entry ref (world p) i)
      ≡ interface_size (interface_entry other (world p) i)
  interface_same i =
      let is = interfaces_of (world p) i in
      ap (λ n. 1 + 2 * n) (length-map is (λ s. ref s.name) ∙ sym (length-map is (λ s. other s.name)))

  pub class_same : (c : Class) → class_size (class_entry ref p c) ≡ class_size (class_entry other p c)
  class_same c =
      let table = table_of (world p) c in
      ap (λ n. 10 + 2 * length (let e = class_entry ref p c in e.public_methods) + 2 * length (let e = class_entry ref p
      c in e.package_methods) + n) (sums_same map_size (implemented ref) (implemented other) (λ m. refl) table.maps)

  pub infos_stand_alike : all_starts (class_info ref p) ≡ all_starts (class_info other p)
  infos_stand_alike =
      let is = in_order (world p) true in
      let cs = in_order (world p) false in
      ap (λ ss. ss ++ starts class_size (first_class (class_info ref p)) (map (class_entry ref p) cs))
      (starts_same interface_size (interface_entry ref (world p)) (interface_entry other (world p)) interface_same
      first_interface is)
      ∙ ap (λ n. starts interface_size first_interface (map (interface_entry other (world p)) is)
      ++ starts class_size (first_interface + n) (map (class_entry ref p) cs)) (sums_same interface_size
      (interface_entry ref (world p)) (interface_entry other (world p)) interface_same is)
      ∙ ap (λ ss. starts interface_size first_interface (map (interface_entry other (world p)) is)
      ++ ss) (starts_same class_size (class_entry ref p) (class_entry other p) class_same
      (first_class (class_info other p)) cs)

-- one for each class
pub infos_long : (p : Package) → length (info_starts p) ≡ length (class_order (world p))
unfolding class_order
infos_long p =
    let info = class_info (λ name. Inside 0) p in
    let is = in_order (world p) true in
    let cs = in_order (world p) false in
    let i : length (starts interface_size first_interface info.interfaces) ≡ length is =
    starts_long interface_size first_interface info.interfaces
    ∙ length-map is (interface_entry (λ name. Inside 0) (world p)) in
    let c : length (starts class_size (first_class info) info.classes) ≡ length cs =
    starts_long class_size (first_class info) info.classes ∙ length-map cs (class_entry (λ name. Inside 0) p) in
    length-append (starts interface_size first_interface info.interfaces) (starts class_size (first_class info)
    info.classes) ∙ ap (λ n. n + length (starts class_size (first_class info) info.classes)) i
    ∙ ap (λ n. length is + n) c ∙ sym (length-append is cs)

-- ---- class_refs

get_where : {A B : Type 0} (xs : List A) (ys : List B) (k : ℕ) (y : B) → length xs ≡ length ys → slice_get ys k ≡ Some y
    → (x : A) × (slice_get xs k ≡ Some x)
get_where [] [] zero y l e = absurd (cc)
get_where [] [] (suc k) y l e = absurd (cc)
get_where [] (z ∷ ys) k y l e = absurd (omega (arith, l))
get_where (x ∷ xs) [] k y l e = absurd (omega (arith, l))
get_where (x ∷ xs) (z ∷ ys) zero y l e = (x, refl)
get_where (x ∷ xs) (z ∷ ys) (suc k) y l e = get_where xs ys k y (omega (arith, l)) e

-- A class with its own name is named by the start of its info.
pub ref_is_start : (p : Package) → HaveOwnNames (class_order (world p)) → (k : ℕ) (c : Class)
    → slice_get (class_order (world p)) k ≡ Some c
    → (start : ℕ) × (slice_get (info_starts p) k ≡ Some start) × (class_ref p c.name ≡ Inside start)
ref_is_start p apart k c e =
    let found = get_where (info_starts p) (class_order (world p)) k c (infos_long p) e in
    let exports = (let files = p.files in files.exports) in
    let offset : option_and_then (slice_get (info_starts p)) (position (λ d. bytes_eq d.name c.name)
    (class_order (world p))) ≡ Some found.0 =
    ap (option_and_then (slice_get (info_starts p))) (apart k c e) ∙ found.1 in (
      found.0,
      found.1,
      ap (λ o. ref_to (unwrap_or (or_else (option_map (Own 0) o) (external_from 0 exports c.name))
          (Own 0 0))) offset,
    )
