-- The methods of a class one behind the other.
use Rattle.std.proofs.Common.{◌≡◌, ℕ, zero, suc, ◌+◌, ◌-◌, ◌<◌, refl, sym, ap, ◌∙◌, arith, Bool, true, false, List, []}
use Rattle.std.proofs.Common.{◌∷◌, ◌++◌, length, append_assoc}
use Rattle.std.specs.Prelude.{map, slice_get, Option, Some, None, if◌then◌else◌, codes, Result, OnOk}
use Rattle.std.specs.Str.{bytes_eq}
use Rattle.std.proofs.lemmas.List.{length-map}
use Rattle.cjc_bytes.specs.declared.fault.MemberId.{MemberId}
use Rattle.cjc_bytes.proofs.Options.{on_ok}
use Rattle.cjc_world.specs.ClassFile.declared.tree.ClassTree.{ClassTree}
use Rattle.cjc_world.specs.ClassFile.declared.tree.MethodTree.{MethodTree}
use Rattle.cjc_world.specs.declared.found.Found.{Found}
use Rattle.cjc_world.specs.Added.{added, added_at, added_to, named_by}
use Rattle.cjc_world.specs.Classes.{Class, declared, field_of_class, method_of_class, all_classes, class_at}
use Rattle.cjc_world.specs.Files.{Files}
use Rattle.cjc_world.specs.Order.{methods_of_class}
use Rattle.cjc_world.specs.Order as order
use Rattle.cjc_components.proofs.VTableNumbers.{at-tree}
use Rattle.cjc_methods.specs.Working.Members.{own, places, written}

pub places_next : (out : List Found) (class first k count : ℕ) (total : List Found) → k < count
    → out ++ places class (first + k) (count - k) ≡ total → (out ++ own class (first + k) ∷ [])
    ++ places class (first + (k + 1)) (count - (k + 1)) ≡ total
places_next out class first k count total lt e =
    let left : count - k ≡ suc (count - (k + 1)) = omega arith in
    let next : first + (k + 1) ≡ first + k + 1 = omega arith in
    append_assoc out (own class (first + k) ∷ []) (places class (first + (k + 1)) (count - (k + 1)))
    ∙ ap (λ i. out ++ own class (first + k) ∷ places class i (count - (k + 1))) next
    ∙ ap (λ n. out ++ places class (first + k) n) (sym left)
    ∙ e

-- ---- of a class of the package

module _ (n : ℕ) (t : ClassTree) where
  all_written : (i : ℕ) (ms : List MethodTree) → order.written (declared n t) i (map method_of_class ms)
      ≡ written n i ms
  all_written i [] = refl
  all_written i (m ∷ ms) = by (bytes_eq m.name (codes "<clinit>")) (all_written (i + 1) ms)
    where
      by : (b : Bool) → order.written (declared n t) (i + 1) (map method_of_class ms) ≡ written n (i + 1) ms
          → (if b then order.written (declared n t) (i + 1) (map method_of_class ms) else own n i
          ∷ order.written (declared n t) (i + 1) (map method_of_class ms))
          ≡ (if b then written n (i + 1) ms else own n i ∷ written n (i + 1) ms)
      by true e = e
      by false e = ap (λ rest. own n i ∷ rest) e

  all_places : (i count : ℕ) → order.places (declared n t) i count ≡ places n i count
  all_places i zero = refl
  all_places i (suc count) = ap (λ rest. own n i ∷ rest) (all_places (i + 1) count)

  pub class_methods : (w : List Class) → methods_of_class w (declared n t) ≡ written n (length t.fields) t.methods
      ++ places n (length t.fields + length t.methods) (length (added w (declared n t)))
  class_methods w =
      let fields : length (map field_of_class t.fields) ≡ length t.fields = length-map t.fields field_of_class in
      let methods : length (map method_of_class t.methods) ≡ length t.methods = length-map t.methods method_of_class in
      ap (λ i. order.written (declared n t) i (map method_of_class t.methods)
      ++ order.places (declared n t) (i + length (map method_of_class t.methods)) (length (added w (declared n t))))
      fields
      ∙ ap (λ k. order.written (declared n t) (length t.fields) (map method_of_class t.methods)
      ++ order.places (declared n t) (length t.fields + k) (length (added w (declared n t)))) methods
      ∙ ap (λ front. front ++ order.places (declared n t) (length t.fields + length t.methods)
      (length (added w (declared n t)))) (all_written (length t.fields) t.methods)
      ∙ ap (λ back. written n (length t.fields) t.methods ++ back) (all_places (length t.fields + length t.methods)
      (length (added w (declared n t))))

pub added_long : (files : Files) (n : ℕ) (t : ClassTree) → slice_get files.classes n ≡ Some t
    → length (added_at files n) ≡ length (added (all_classes files) (declared n t))
unfolding added_at
added_long files n t e = by (slice_get files.classes n) e
  where
    by : (o : Option ClassTree) → o ≡ Some t → length (added_to (all_classes files) n o)
        ≡ length (added (all_classes files) (declared n t))
    by (Some u) same = let is : u ≡ t = cc in length-map (added (all_classes files) (declared n u)) (named_by u.name)
        ∙ ap (λ (v : ClassTree). length (added (all_classes files) (declared n v))) is
    by None same = cc

-- the methods of the class of a number, as they are walked
pub methods_at : (files : Files) (n : ℕ) (c : Class) (t : ClassTree) → class_at (all_classes files) false n ≡ Some c
    → slice_get files.classes n ≡ Some t
    → methods_of_class (all_classes files) c ≡ written n (length t.fields) t.methods
    ++ places n (length t.fields + length t.methods) (length (added_at files n))
methods_at files n c t e f =
    let (u, is_tree, is_class) = at-tree files n c e in
    let same : u ≡ t = (let g = sym is_tree ∙ f in cc) in
    ap (methods_of_class (all_classes files)) (is_class ∙ ap (declared n) same)
    ∙ class_methods n t (all_classes files)
    ∙ ap (λ k. written n (length t.fields) t.methods ++ places n (length t.fields + length t.methods) k)
    (sym (added_long files n t f))

pub put_all : {E : Type 0} (files : Files) (n : ℕ) (c : Class) (t class : ClassTree) (out new : List Found)
    (ids : List MemberId) (result : Result (Unit {0}) E) → class_at (all_classes files) false n ≡ Some c
    → slice_get files.classes n ≡ Some t → class ≡ t → ids ≡ added_at files n
    → OnOk result (new ≡ (out ++ written n (length class.fields) class.methods)
    ++ places n (length class.fields + length class.methods) (length ids))
    → OnOk result (new ≡ out ++ methods_of_class (all_classes files) c)
put_all files n c t class out new ids result is tree same got = on_ok result (λ e.
    e
    ∙ ap (λ (xs : List MemberId). (out ++ written n (length class.fields) class.methods)
    ++ places n (length class.fields + length class.methods) (length xs)) got
    ∙ ap (λ (x : ClassTree). (out ++ written n (length x.fields) x.methods)
    ++ places n (length x.fields + length x.methods) (length (added_at files n))) same
    ∙ append_assoc out (written n (length t.fields) t.methods) (places n (length t.fields + length t.methods)
    (length (added_at files n)))
    ∙ ap (λ more. out ++ more) (sym (methods_at files n c t is tree)))
