-- The infos of Class by number and by offset, and the infos of the loaded package.
use Rattle.std.proofs.Common.{◌≡◌, ℕ, zero, suc, ◌+◌, ◌*◌, ◌<◌, ◌≤◌, refl, sym, ap, ◌∙◌, arith, Bool, true, false, List}
use Rattle.std.proofs.Common.{[], ◌∷◌, ◌++◌, length, inl, inr}
use Rattle.std.specs.Prelude.{map, ◌==◌, ◌⊎◌, sum_by, position, Some, None, slice_get, option_map, option_and_then}
use Rattle.std.specs.Prelude.{if◌then◌else◌}
use Rattle.std.specs.Str.{bytes_eq}
use Rattle.std.proofs.lemmas.Bool.{eqb-true}
use Rattle.std.proofs.lemmas.Bool.Decides.{nat_tests}
use Rattle.std.proofs.lemmas.List.Sums.{sum_by-cons}
use Rattle.std.proofs.lemmas.Option.{slice_get-map}
use Rattle.cjc_card_semantics.specs.CapRead.declared.tree.ClassEntry.{ClassEntry}
use Rattle.cjc_card_semantics.specs.CapRead.declared.tree.ImplementedInterface.{ImplementedInterface}
use Rattle.cjc_card_semantics.specs.CapRead.declared.tree.InterfaceEntry.{InterfaceEntry}
use Rattle.cjc_card_semantics.specs.Machine.Classes.{Info, IsInterface, IsClass, info_of, info_size, infos, map_sizes}
use Rattle.cjc_card_semantics.specs.Machine.Classes.{number_from, number_named, offset_from}
use Rattle.cjc_card_semantics.specs.Machine.Loaded.{ClassNames}
use Rattle.cjc_components.specs.LowerCheckRules.Complete.{class_size, interface_size, map_size}
use Rattle.cjc_components.specs.LowerCheckRules.Spots.{placed, starts}
use Rattle.cjc_tokens.proofs.Facts.{position-cons}
use Rattle.cjc_vtable.proofs.Filed.{Has, behind, get-has}
use Rattle.cjc_world.specs.Files.{Files}
use Rattle.cjc_world.specs.Classes.{Class}
use Rattle.cjc_world.specs.Order.{class_order}
use Rattle.cjc_components.specs.Package.{Package, tokens, world}
use Rattle.cjc_components.specs.Paired.Naming.{class_names}
use Rattle.cjc_token_proof.specs.Tables.Loading.{loaded, part}

-- ---- offsets of infos

maps_size : (ms : List ImplementedInterface) → map_sizes ms ≡ sum_by map_size ms
maps_size [] = refl
maps_size (m ∷ ms) = ap (λ n. 3 + length m.index + n) (maps_size ms) ∙ sym (sum_by-cons map_size m ms)

class_sized : (c : ClassEntry) → info_size (IsClass c) ≡ class_size c
class_sized c = ap (λ n. 10 + 2 * length c.public_methods + 2 * length c.package_methods + n) (maps_size c.interfaces)

class_offsets : (at : ℕ) (cs : List ClassEntry) (k : ℕ) → offset_from at (map IsClass cs) k
    ≡ slice_get (starts class_size at cs) k
unfolding placed
class_offsets at [] zero = refl
class_offsets at [] (suc k) = refl
class_offsets at (c ∷ cs) zero = refl
class_offsets at (c ∷ cs) (suc k) = ap (λ n. offset_from (at + n) (map IsClass cs) k) (class_sized c)
    ∙ class_offsets (at + class_size c) cs k

-- the infos' offsets are where the items of Class start
pub offsets_are : (at : ℕ) (is : List InterfaceEntry) (cs : List ClassEntry) (k : ℕ)
    → offset_from at (map IsInterface is ++ map IsClass cs) k ≡ slice_get (starts interface_size at is
    ++ starts class_size (at + sum_by interface_size is) cs) k
unfolding placed
offsets_are at [] cs k = let z : at ≡ at + 0 = omega arith in class_offsets at cs k
    ∙ ap (λ n. slice_get (starts class_size n cs) k) z
offsets_are at (i ∷ is) cs zero = refl
offsets_are at (i ∷ is) cs (suc k) =
    let s : at + interface_size i + sum_by interface_size is ≡ at + (interface_size i + sum_by interface_size is) =
    omega arith in
    offsets_are (at + interface_size i) is cs k
    ∙ ap (λ n. slice_get (starts interface_size (at + interface_size i) is ++ starts class_size n cs) k) s
    ∙ ap (λ n. slice_get (starts interface_size (at + interface_size i) is ++ starts class_size (at + n) cs) k)
    (sym (sum_by-cons interface_size i is))

pub some_bytes : (i : Info) → 0 < info_size i
some_bytes (IsInterface i) = omega arith
some_bytes (IsClass c) = omega arith

pub not_before : (at : ℕ) (is : List Info) (k offset : ℕ) → offset_from at is k ≡ Some offset → at ≤ offset
not_before at [] k offset e = cc
not_before at (i ∷ is) zero offset e = let same : at ≡ offset = cc in omega (arith, same)
not_before at (i ∷ is) (suc k) offset e = let r = not_before (at + info_size i) is k offset e in omega (arith, r)

-- the number of an offset is the one whose offset it is
pub numbers_are : (at : ℕ) (is : List Info) (k offset : ℕ) → offset_from at is k ≡ Some offset
    → number_from at is offset ≡ Some k
numbers_are at [] k offset e = cc
numbers_are at (i ∷ is) zero offset e =
    let same : at ≡ offset = cc in
    let is_at : (at == offset) ≡ true = ap (λ n. at == n) (sym same)
    ∙ (let s : (at == at) ≡ true = grind (arith, nat_tests) in s) in
    ap (λ b. if b then Some 0 else option_map suc (number_from (at + info_size i) is offset)) is_at
numbers_are at (i ∷ is) (suc k) offset e =
    let r = not_before (at + info_size i) is k offset e in
    let size = some_bytes i in
    by (at == offset) refl (omega (arith, r, size)) (numbers_are (at + info_size i) is k offset e)
  where
    by : (b : Bool) → (at == offset) ≡ b → at < offset → number_from (at + info_size i) is offset ≡ Some k
        → (if b then Some 0 else option_map suc (number_from (at + info_size i) is offset)) ≡ Some (suc k)
    by true f lt g = let same = eqb-true at offset f in absurd (omega (arith, same, lt))
    by false f lt g = ap (option_map suc) g

no_number : (at : ℕ) (is : List Info) (offset : ℕ) → offset < at → number_from at is offset ≡ None
no_number at [] offset lt = refl
no_number at (i ∷ is) offset lt = by (at == offset) refl (no_number (at + info_size i) is offset (omega (arith, lt)))
  where
    by : (b : Bool) → (at == offset) ≡ b → number_from (at + info_size i) is offset ≡ None
        → (if b then Some 0 else option_map suc (number_from (at + info_size i) is offset)) ≡ None
    by true f g = let same = eqb-true at offset f in absurd (omega (arith, same, lt))
    by false f g = ap (option_map suc) g

-- nothing is named by offset 0, where no class is
pub none_at_zero : (p : Package) → info_of (loaded p) 0 0 ≡ None
none_at_zero p = ap (option_and_then (slice_get (infos (part p)))) (no_number 2 (infos (part p)) 0 (omega arith))

-- ---- one of two mapped lists

pub either_of : {A B : Type 0} (f g : A → B) (xs ys : List A) (k : ℕ) (x : A) → slice_get (xs ++ ys) k ≡ Some x
    → (Has x xs × (slice_get (map f xs ++ map g ys) k ≡ Some (f x)))
    ⊎ (Has x ys × (slice_get (map f xs ++ map g ys) k ≡ Some (g x)))
either_of f g [] ys k x e = inr (get-has x ys k e, slice_get-map g ys k ∙ ap (option_map g) e)
either_of f g (y ∷ xs) ys zero x e = let is : y ≡ x = cc in inl (get-has x (y ∷ xs) 0 e, ap (λ z. Some (f z)) is)
either_of {A} {B} f g (y ∷ xs) ys (suc k) x e = by (either_of f g xs ys k x e)
  where
    by : (Has x xs × (slice_get (map f xs ++ map g ys) k ≡ Some (f x)))
        ⊎ (Has x ys × (slice_get (map f xs ++ map g ys) k ≡ Some (g x)))
        → (Has x (y ∷ xs) × (slice_get (map f xs ++ map g ys) k ≡ Some (f x)))
        ⊎ (Has x ys × (slice_get (map f xs ++ map g ys) k ≡ Some (g x)))
    by (inl r) = inl (behind r.0, r.1)
    by (inr r) = inr r

-- ---- names of infos

names_position : (files : Files) (f : Class → ClassNames) → ((c : Class) → (let n = f c in n.name) ≡ c.name)
    → (cs : List Class) (x : List ℕ) → number_named (map f cs) x ≡ position (λ d. bytes_eq d.name x) cs
names_position files f h [] x = refl
names_position files f h (c ∷ cs) x =
    ap (λ n. if bytes_eq n x then Some 0 else option_map suc (number_named (map f cs) x)) (h c)
    ∙ ap (λ o. if bytes_eq c.name x then Some 0 else option_map suc o) (names_position files f h cs x)
    ∙ sym (position-cons (λ (d : Class). bytes_eq d.name x) c cs)

pub numbers_named : (p : Package) (x : List ℕ) → (let q = part p in number_named q.classes x)
    ≡ position (λ d. bytes_eq d.name x) (class_order (world p))
numbers_named p x = names_position p.files (class_names p.files (tokens p)) (λ c. refl) (class_order (world p)) x
