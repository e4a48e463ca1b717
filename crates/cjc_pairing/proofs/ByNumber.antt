-- Methods that are counted by the numbers of classes are those of the classes in their order.
use Rattle.std.proofs.Common.{◌≡◌, ℕ, zero, suc, ◌+◌, Bool, true, false, List, [], ◌∷◌, ◌++◌, map, length, slice_get}
use Rattle.std.proofs.Common.{refl, sym, ap, ◌∙◌, arith, length-append, Some}
use Rattle.std.specs.Prelude.{if◌then◌else◌, not, count_by, codes}
use Rattle.std.specs.List.{flat_map}
use Rattle.std.specs.Str.{bytes_eq}
use Rattle.std.proofs.lemmas.List.{map-append, length-map}
use Rattle.std.proofs.lemmas.List.Concat.{flat_map_single}
use Rattle.std.proofs.lemmas.List.Sums.{sum_by-cons}
use Rattle.cjc_classes.specs.ClassOrder.Classes.Numbers.{declared_at}
use Rattle.cjc_classes.specs.ClassFile.declared.tree.ClassTree.{ClassTree}
use Rattle.cjc_classes.specs.ClassFile.declared.tree.MethodTree.{MethodTree}
use Rattle.cjc_classes.proofs.TypeInfo.Order.{added_is, along_order}
use Rattle.cjc_card_link.specs.World.Added.{added, added_at, named_by}
use Rattle.cjc_card_link.specs.World.Classes.{Class, all_classes, declared, field_of_class, method_of_class}
use Rattle.cjc_card_link.specs.World.Files.{Files}
use Rattle.cjc_card_link.specs.World.Order.{class_order, in_order, methods_of_class, places, written}
use Rattle.cjc_pairing.specs.Working.Counts.{count_at, count_in, count_where, is_written}

written_count : (c : Class) (k : ℕ) (ms : List MethodTree) → length (written c k (map method_of_class ms))
    ≡ count_by is_written ms
written_count c k [] = refl
written_count c k (m ∷ ms) = by (bytes_eq m.name (codes "<clinit>")) (written_count c (k + 1) ms)
    ∙ sym (sum_by-cons (λ (x : MethodTree). if is_written x then 1 else 0) m ms)
  where
    by : (b : Bool) → length (written c (k + 1) (map method_of_class ms)) ≡ count_by is_written ms
        → length (if b then written c (k + 1) (map method_of_class ms) else record {
          imported = c.is_imported;
          class = c.number;
          member = k;
        } ∷ written c (k + 1) (map method_of_class ms))
        ≡ (if not b then 1 else 0) + count_by is_written ms
    by true rest = omega (arith, rest)
    by false rest = omega (arith, rest)

places_count : (c : Class) (k n : ℕ) → length (places c k n) ≡ n
places_count c k zero = refl
places_count c k (suc n) = let rest = places_count c (k + 1) n in omega (arith, rest)

module _ (files : Files) where
  abbrev count_of : Class → ℕ
  count_of c = length (methods_of_class (all_classes files) c)

  count_is : (n : ℕ) (t : ClassTree) → slice_get files.classes n ≡ Some t → count_in files n t ≡ count_of (declared n t)
  count_is n t there =
      let c = declared n t in
      let more = added (all_classes files) c in
      let own = written c (length c.fields) c.methods in
      let got = places c (length c.fields + length c.methods) (length more) in
      let all : length (own ++ got) ≡ length own + length got = length-append own got in
      let front : length own ≡ count_by is_written t.methods = written_count c (length c.fields) t.methods in
      let back : length got ≡ length more = places_count c (length c.fields + length c.methods) (length more) in
      let here : length (added_at files n) ≡ length more = ap length (added_is files n t there)
      ∙ length-map more (named_by t.name) in
      omega (arith, all, front, back, here)

  number_is : (n : ℕ) (t : ClassTree) → slice_get files.classes n ≡ Some t → count_at files n ≡ count_of (declared n t)
      ∷ []
  number_is n t there = ap (count_where files n) there ∙ ap (λ k. k ∷ []) (count_is n t there)

  numbers_are : (cs : List Class) (ns : List ℕ) → map Some cs ≡ map (declared_at files.classes) ns
      → flat_map (count_at files) ns ≡ map count_of cs
  numbers_are cs ns e = along_order files.classes (count_at files) (λ c. count_of c ∷ []) number_is cs ns e
      ∙ flat_map_single count_of cs

  pub both_are : (is cs counts first : List ℕ) → map Some (in_order (all_classes files) true)
      ≡ map (declared_at files.classes) is
      → map Some (in_order (all_classes files) false) ≡ map (declared_at files.classes) cs
      → first ≡ flat_map (count_at files) is → counts ≡ first ++ flat_map (count_at files) cs
      → counts ≡ map (λ c. length (methods_of_class (all_classes files) c)) (class_order (all_classes files))
  unfolding class_order
  both_are is cs counts first of_is of_cs one two =
      let w = all_classes files in
      two
      ∙ ap (λ xs. xs ++ flat_map (count_at files) cs) (one ∙ numbers_are (in_order w true) is of_is)
      ∙ ap (λ xs. map count_of (in_order w true) ++ xs) (numbers_are (in_order w false) cs of_cs)
      ∙ sym (map-append count_of (in_order w true) (in_order w false))
