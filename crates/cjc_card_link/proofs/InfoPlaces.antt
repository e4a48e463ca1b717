-- Where infos begin, one behind the other.
use Rattle.std.proofs.Common.{◌≡◌, ℕ, zero, suc, ◌+◌, ◌*◌, ◌<◌, ◌≤◌, ◌^◌, List, [], ◌∷◌, ◌++◌, length, refl, sym, ap}
use Rattle.std.proofs.Common.{◌∙◌, Bool, true, false, arith, Option, Some, None}
use Rattle.std.specs.Prelude.{◌==◌, map, sum_by, option_map, slice_get, if◌then◌else◌, IfSome}
use Rattle.std.proofs.lemmas.Bool.Decides.{nat_tests}
use Rattle.std.proofs.lemmas.List.Sums.{sum_by-cons, sum_by-append}
use Rattle.cjc_card_semantics.specs.CapRead.declared.tree.ClassInfo.{ClassInfo}
use Rattle.cjc_card_semantics.specs.CapRead.declared.tree.ClassEntry.{ClassEntry}
use Rattle.cjc_card_semantics.specs.CapRead.declared.tree.InterfaceEntry.{InterfaceEntry}
use Rattle.cjc_card_semantics.specs.CapRead.declared.tree.ImplementedInterface.{ImplementedInterface}
use Rattle.cjc_check_index.specs.CheckRules.Spots.{placed, starts}
use Rattle.cjc_check_index.specs.CheckRules.Complete.{interface_size, class_size, map_size, class_info_size}
use Rattle.cjc_check_index.specs.CheckRules.Classes.{first_class}
use Rattle.cjc_card_semantics.specs.Machine.Classes.{Info, IsInterface, IsClass, info_size, map_sizes, number_from}
use Rattle.cjc_card_semantics.specs.Machine.Classes.{offset_from}
use Rattle.cjc_card_link.specs.Indices.{first_place}
use Rattle.cjc_card_link.specs.Infos.{infos_in}
use Rattle.cjc_check_index.proofs.BytesPlain.{none_is_some}

map_bytes : (maps : List ImplementedInterface) → sum_by map_size maps ≡ map_sizes maps
map_bytes [] = refl
map_bytes (m ∷ maps) = sum_by-cons map_size m maps ∙ ap (λ n. 3 + length m.index + n) (map_bytes maps)

class_bytes : (c : ClassEntry) → class_size c ≡ info_size (IsClass c)
class_bytes c = ap (λ n. 10 + 2 * length c.public_methods + 2 * length c.package_methods + n) (map_bytes c.interfaces)

behind : (at : ℕ) (i : InterfaceEntry) (entries : List InterfaceEntry) → at + interface_size i + sum_by interface_size
    entries ≡ at + sum_by interface_size (i ∷ entries)
behind at i entries = let s = sum_by-cons interface_size i entries in omega (arith, s)

of_interfaces : (at : ℕ) (entries : List InterfaceEntry) (more : List Info) (next : List ℕ)
    → starts info_size (at + sum_by interface_size entries) more ≡ next
    → starts info_size at (map IsInterface entries ++ more) ≡ starts interface_size at entries ++ next
unfolding placed
of_interfaces at [] more next e = ap (λ n. starts info_size n more) (omega arith) ∙ e
of_interfaces at (i ∷ entries) more next e =
    ap (λ (ns : List ℕ). at ∷ ns) (of_interfaces (at + interface_size i) entries more next
    (ap (λ n. starts info_size n more) (behind at i entries) ∙ e))

of_classes : (at : ℕ) (entries : List ClassEntry) → starts info_size at (map IsClass entries)
    ≡ starts class_size at entries
unfolding placed
of_classes at [] = refl
of_classes at (c ∷ entries) =
    ap (λ (ns : List ℕ). at ∷ ns) (ap (λ n. starts info_size (at + n) (map IsClass entries)) (sym (class_bytes c))
    ∙ of_classes (at + class_size c) entries)

pub all_starts : (class : ClassInfo) → starts interface_size 2 class.interfaces ++ starts class_size (first_class class)
    class.classes ≡ starts info_size 2 (infos_in class)
all_starts class = sym (of_interfaces 2 class.interfaces (map IsClass class.classes) _ (of_classes (first_class class)
    class.classes))

pub number_place : (at : ℕ) (infos : List Info) (offset : ℕ)
    → first_place (λ n. n == offset) (starts info_size at infos) ≡ number_from at infos offset
unfolding placed
number_place at [] offset = refl
number_place at (i ∷ infos) offset = ap (λ (o : Option ℕ). if at == offset then Some 0 else option_map suc o)
    (number_place (at + info_size i) infos offset)

pub offset_place : (at : ℕ) (infos : List Info) (n : ℕ) → slice_get (starts info_size at infos) n
    ≡ offset_from at infos n
unfolding placed
offset_place at [] n = refl
offset_place at (i ∷ infos) zero = refl
offset_place at (i ∷ infos) (suc n) = offset_place (at + info_size i) infos n

pub starts_count : (at : ℕ) (infos : List Info) → length (starts info_size at infos) ≡ length infos
unfolding placed
starts_count at [] = refl
starts_count at (i ∷ infos) = ap suc (starts_count (at + info_size i) infos)

-- ---- offsets are below the component's size

below_by : (b : Bool) (at x k size rest : ℕ) (later : Option ℕ) → ((at == x) ≡ b) → ((m : ℕ) → later ≡ Some m
    → x ≤ at + size + rest)
    → (if b then Some 0 else option_map suc later) ≡ Some k → x ≤ at + (size + rest)
below_by true at x k size rest later is go e = let same : at ≡ x = grind (arith, nat_tests) in omega (arith, same)
below_by false at x k size rest None is go e = absurd (none_is_some k e)
below_by false at x k size rest (Some m) is go e = let h = go m refl in omega (arith, h)

below : (at : ℕ) (infos : List Info) (x k : ℕ) → number_from at infos x ≡ Some k → x ≤ at + sum_by info_size infos
below at [] x k e = absurd (none_is_some k e)
below at (i ∷ infos) x k e =
    let s = sum_by-cons info_size i infos in
    let h = below_by (at == x) at x k (info_size i) (sum_by info_size infos) (number_from (at + info_size i) infos x)
    refl (λ m f. below (at + info_size i) infos x m f) e in
    omega (arith, s, h)

interface_sums : (entries : List InterfaceEntry) → sum_by info_size (map IsInterface entries)
    ≡ sum_by interface_size entries
interface_sums [] = refl
interface_sums (i ∷ entries) = sum_by-cons info_size (IsInterface i) (map IsInterface entries)
    ∙ ap (λ n. interface_size i + n) (interface_sums entries) ∙ sym (sum_by-cons interface_size i entries)

class_sums : (entries : List ClassEntry) → sum_by info_size (map IsClass entries) ≡ sum_by class_size entries
class_sums [] = refl
class_sums (c ∷ entries) =
    sum_by-cons info_size (IsClass c) (map IsClass entries)
    ∙ ap (λ n. info_size (IsClass c) + n) (class_sums entries)
    ∙ ap (λ n. n + sum_by class_size entries) (sym (class_bytes c))
    ∙ sym (sum_by-cons class_size c entries)

all_bytes : (c : ClassInfo) → class_info_size c ≡ 2 + sum_by info_size (infos_in c)
all_bytes c =
    let a = sum_by-append info_size (map IsInterface c.interfaces) (map IsClass c.classes) in
    let i = interface_sums c.interfaces in
    let s = class_sums c.classes in
    omega (arith, a, i, s)

pub offset_below : (c : ClassInfo) (x k : ℕ) → class_info_size c < 2 ^ 32 → number_from 2 (infos_in c) x ≡ Some k
    → x < 2 ^ 32
offset_below c x k small e = let b = all_bytes c in let h = below 2 (infos_in c) x k e in omega (arith, b, h, small)

pub offset_is_small : (c : ClassInfo) (x : ℕ) (r : Option ℕ) → class_info_size c < 2 ^ 32
    → r ≡ number_from 2 (infos_in c) x → IfSome r (λ n. x < 2 ^ 32)
offset_is_small c x None small e = tt
offset_is_small c x (Some k) small e = offset_below c x k small (sym e)

pub where_some : {A P : Type 0} (r : Option A) → P → IfSome r (λ a. P)
where_some None h = tt
where_some (Some a) h = h

found_below : (at : ℕ) (infos : List Info) (n x : ℕ) → offset_from at infos n ≡ Some x → x ≤ at + sum_by info_size infos
found_below at [] n x e = absurd (none_is_some x e)
found_below at (i ∷ infos) zero x e = let same : at ≡ x = cc in omega (arith, same)
found_below at (i ∷ infos) (suc n) x e = let s = sum_by-cons info_size i infos in let h =
    found_below (at + info_size i) infos n x e in omega (arith, s, h)

pub found_is_small : (c : ClassInfo) (n : ℕ) (r : Option ℕ) → class_info_size c < 2 ^ 32
    → r ≡ offset_from 2 (infos_in c) n → IfSome r (λ x. x < 2 ^ 32)
found_is_small c n None small e = tt
found_is_small c n (Some x) small e = let b = all_bytes c in let h = found_below 2 (infos_in c) n x (sym e)
    in omega (arith, b, h, small)

count_at_most : (infos : List Info) → length infos ≤ sum_by info_size infos
count_at_most [] = omega arith
count_at_most (IsInterface i ∷ infos) = let s = sum_by-cons info_size (IsInterface i) infos in let h =
    count_at_most infos in omega (arith, s, h)
count_at_most (IsClass c ∷ infos) = let s = sum_by-cons info_size (IsClass c) infos in let h = count_at_most infos
    in omega (arith, s, h)

pub count_is_small : (c : ClassInfo) (n : ℕ) → class_info_size c < 2 ^ 32 → n ≡ length (infos_in c) → n + 2 < 2 ^ 32
count_is_small c n small is = let b = all_bytes c in let h = count_at_most (infos_in c)
    in omega (arith, b, h, is, small)
