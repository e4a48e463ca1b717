-- The methods of a package are members of its classes.
use Rattle.std.proofs.Common.{◌≡◌, ℕ, zero, suc, ◌+◌, ◌-◌, ◌≤◌, refl, sym, ap, subst, ◌∙◌, arith, Bool, true, false}
use Rattle.std.proofs.Common.{List, [], ◌∷◌, length}
use Rattle.std.specs.Prelude.{map, All, Some, if◌then◌else◌, codes, option_map, slice_get}
use Rattle.std.specs.Str.{bytes_eq}
use Rattle.std.proofs.lemmas.List.{length-map}
use Rattle.std.proofs.lemmas.List.Elements.{All-append, All-push}
use Rattle.std.proofs.lemmas.Option.{slice_get-map, slice_get_within}
use Rattle.cjc_world.specs.Added.{added}
use Rattle.cjc_world.specs.ClassFile.declared.tree.ClassTree.{ClassTree}
use Rattle.cjc_world.specs.Classes.{Member, Class, all_classes, class_at, declared, field_of_class, method_of_class}
use Rattle.cjc_world.specs.declared.found.Found.{Found}
use Rattle.cjc_pool.specs.Tokens.Members.{is_initialiser}
use Rattle.cjc_world.specs.Files.{Files}
use Rattle.cjc_world.specs.Lookup.{member_at}
use Rattle.cjc_world.specs.Order.{in_order, method_order, methods_in_turn, methods_of_class, places, written}
use Rattle.cjc_components.proofs.VTableNumbers.{at-kind, at-tree}
use Rattle.cjc_methods.specs.Ready.{AreOrdered, IsListed, IsOwn}

pub all_none : {X : Type 0} (P : X → Type 0) → All P []
all_none P = λ i d lt. absurd (omega arith)

pub all_cons : {X : Type 0} (P : X → Type 0) (x : X) (xs : List X) → P x → All P xs → All P (x ∷ xs)
all_cons P x xs p ps = All-append P (x ∷ []) xs (All-push P [] x (all_none P) p) ps

module _ (files : Files) (c : Class) (own : c.is_imported ≡ false) (is : class_at (all_classes files) c.is_imported
    c.number ≡ Some c) where
  own_at : (i : ℕ) → IsOwn files (member_at c i)
  own_at i = record { own = own; class = c; is_class = is }

  written_own : (i : ℕ) (ms : List Member) → All (IsOwn files) (written c i ms)
  written_own i [] = all_none (IsOwn files)
  written_own i (m ∷ ms) = by (bytes_eq m.name (codes "<clinit>")) (written_own (i + 1) ms)
    where
      by : (b : Bool) → All (IsOwn files) (written c (i + 1) ms) → All (IsOwn files) (if b then written c (i + 1) ms
          else member_at c i ∷ written c (i + 1) ms)
      by true all = all
      by false all = all_cons (IsOwn files) (member_at c i) (written c (i + 1) ms) (own_at i) all

  places_own : (i count : ℕ) → All (IsOwn files) (places c i count)
  places_own i zero = all_none (IsOwn files)
  places_own i (suc count) = all_cons (IsOwn files) (member_at c i) (places c (i + 1) count) (own_at i)
      (places_own (i + 1) count)

  class_own : All (IsOwn files) (methods_of_class (all_classes files) c)
  class_own =
      All-append (IsOwn files) (written c (length c.fields) c.methods) (places c (length c.fields + length c.methods)
      (length (added (all_classes files) c)))
      (written_own (length c.fields) c.methods) (places_own (length c.fields + length c.methods)
      (length (added (all_classes files) c)))

-- ---- none is an initialiser

module _ (c : Class) where
  abbrev IsNone : Found → Type 0
  IsNone f = (m : Member) → slice_get c.methods (f.member - length c.fields) ≡ Some m → is_initialiser m.name ≡ false

  -- from a place among its methods on
  written_none : (j : ℕ) (ms : List Member) → ((k : ℕ) → slice_get ms k ≡ slice_get c.methods (j + k))
      → All IsNone (written c (length c.fields + j) ms)
  written_none j [] same = all_none IsNone
  written_none j (m ∷ ms) same = by (bytes_eq m.name (codes "<clinit>")) refl
      (subst (λ n. All IsNone (written c n ms)) next (written_none (j + 1) ms behind))
    where
      next : length c.fields + (j + 1) ≡ length c.fields + j + 1
      next = omega arith

      behind : (k : ℕ) → slice_get ms k ≡ slice_get c.methods (j + 1 + k)
      behind k = let e : j + suc k ≡ j + 1 + k = omega arith in same (suc k) ∙ ap (slice_get c.methods) e

      here : bytes_eq m.name (codes "<clinit>") ≡ false → IsNone (member_at c (length c.fields + j))
      here off x there =
          let place : j + 0 ≡ length c.fields + j - length c.fields = omega arith in
          let found : Some m ≡ Some x = same 0 ∙ ap (slice_get c.methods) place ∙ there in
          let is : m ≡ x = cc in
          ap (λ (y : Member). bytes_eq y.name (codes "<clinit>")) (sym is) ∙ off

      by : (b : Bool) → bytes_eq m.name (codes "<clinit>") ≡ b → All IsNone (written c (length c.fields + j + 1) ms)
          → All IsNone (if b then written c (length c.fields + j + 1) ms
          else member_at c (length c.fields + j) ∷ written c (length c.fields + j + 1) ms)
      by true e all = all
      by false e all = all_cons IsNone (member_at c (length c.fields + j)) (written c (length c.fields + j + 1) ms)
          (here e) all

  -- those behind its methods
  places_none : (i count : ℕ) → length c.fields + length c.methods ≤ i → All IsNone (places c i count)
  places_none i zero le = all_none IsNone
  places_none i (suc count) le = all_cons IsNone (member_at c i) (places c (i + 1) count)
      (λ m there. absurd (let lt = slice_get_within c.methods (i - length c.fields) m there in omega (arith, lt, le)))
      (places_none (i + 1) count (omega (arith, le)))

  class_none : (w : List Class) → All IsNone (methods_of_class w c)
  class_none w =
      let first : length c.fields + 0 ≡ length c.fields = omega arith in
      All-append IsNone (written c (length c.fields) c.methods) (places c (length c.fields + length c.methods)
      (length (added w c)))
      (subst (λ n. All IsNone (written c n c.methods)) first (written_none 0 c.methods (λ k.
      let e : k ≡ 0 + k = omega arith in ap (slice_get c.methods) e)))
      (places_none (length c.fields + length c.methods) (length (added w c)) (omega arith))

-- a member of a class file's class
listed_of : (files : Files) (n : ℕ) (t : ClassTree) → slice_get files.classes n ≡ Some t → (f : Found)
    → IsOwn files f → f.class ≡ n → IsNone (declared n t) f → IsListed files f
listed_of files n t is f own at none = record {
  own = own;
  written = λ class method is_class is_method.
      let same : class ≡ t = (let p = sym is_class ∙ ap (slice_get files.classes) at ∙ is in cc) in
      let here : slice_get t.methods (f.member - length t.fields) ≡ Some method =
      ap (λ (x : ClassTree). slice_get x.methods (f.member - length x.fields)) (sym same) ∙ is_method in
      none (method_of_class method)
      (ap (λ k. slice_get (map method_of_class t.methods) (f.member - k)) (length-map t.fields field_of_class)
      ∙ slice_get-map method_of_class t.methods (f.member - length t.fields) ∙ ap (option_map method_of_class) here);
}

in_turn_own : (files : Files) (cs : List Class) (order : List ℕ)
    → map Some cs ≡ map (class_at (all_classes files) false) order
    → All (IsOwn files) (methods_in_turn (all_classes files) cs)
in_turn_own files [] order e = all_none (IsOwn files)
in_turn_own files (c ∷ cs) [] e = cc
in_turn_own files (c ∷ cs) (n ∷ order) e =
    let w = all_classes files in
    let is : class_at w false n ≡ Some c = (let h : Some c ≡ class_at w false n = cc in sym h) in
    let rest : map Some cs ≡ map (class_at w false) order = cc in
    let kind = at-kind w false n c is in
    let here : class_at w c.is_imported c.number ≡ Some c = ap (λ b. class_at w b c.number) kind.0
    ∙ ap (class_at w false) kind.1 ∙ is in
    All-append (IsOwn files) (methods_of_class w c) (methods_in_turn w cs) (class_own files c kind.0 here)
    (in_turn_own files cs order rest)

pub ordered_own : (files : Files) (order : List ℕ) → AreOrdered files order
    → All (IsOwn files) (method_order (all_classes files))
unfolding method_order
ordered_own files order e = in_turn_own files (in_order (all_classes files) false) order e

class_listed : (files : Files) (n : ℕ) (t : ClassTree) → slice_get files.classes n ≡ Some t → (fs : List Found)
    → All (IsOwn files) fs → All (λ (f : Found). f.class ≡ n) fs → All (IsNone (declared n t)) fs
    → All (IsListed files) fs
class_listed files n t is fs own at none = λ i d lt. listed_of files n t is _ (own i d lt) (at i d lt) (none i d lt)

-- members of a class are of its number
written_at : (c : Class) (i : ℕ) (ms : List Member) → All (λ (f : Found). f.class ≡ c.number) (written c i ms)
written_at c i [] = all_none (λ (f : Found). f.class ≡ c.number)
written_at c i (m ∷ ms) = by (bytes_eq m.name (codes "<clinit>")) (written_at c (i + 1) ms)
  where
    by : (b : Bool) → All (λ (f : Found). f.class ≡ c.number) (written c (i + 1) ms)
        → All (λ (f : Found). f.class ≡ c.number) (if b then written c (i + 1) ms
        else member_at c i ∷ written c (i + 1) ms)
    by true all = all
    by false all = all_cons (λ (f : Found). f.class ≡ c.number) (member_at c i) (written c (i + 1) ms) refl all

places_at : (c : Class) (i count : ℕ) → All (λ (f : Found). f.class ≡ c.number) (places c i count)
places_at c i zero = all_none (λ (f : Found). f.class ≡ c.number)
places_at c i (suc count) = all_cons (λ (f : Found). f.class ≡ c.number) (member_at c i) (places c (i + 1) count) refl
    (places_at c (i + 1) count)

in_turn_listed : (files : Files) (cs : List Class) (order : List ℕ)
    → map Some cs ≡ map (class_at (all_classes files) false) order
    → All (IsListed files) (methods_in_turn (all_classes files) cs)
in_turn_listed files [] order e = all_none (IsListed files)
in_turn_listed files (c ∷ cs) [] e = cc
in_turn_listed files (c ∷ cs) (n ∷ order) e =
    let w = all_classes files in
    let is : class_at w false n ≡ Some c = (let h : Some c ≡ class_at w false n = cc in sym h) in
    let rest : map Some cs ≡ map (class_at w false) order = cc in
    let kind = at-kind w false n c is in
    let here : class_at w c.is_imported c.number ≡ Some c = ap (λ b. class_at w b c.number) kind.0
    ∙ ap (class_at w false) kind.1 ∙ is in
    let tree = at-tree files n c is in
    let at : All (λ (f : Found). f.class ≡ n) (methods_of_class w c) =
    subst (λ k. All (λ (f : Found). f.class ≡ k) (methods_of_class w c)) kind.1
    (All-append (λ (f : Found). f.class ≡ c.number) (written c (length c.fields) c.methods)
    (places c (length c.fields + length c.methods) (length (added w c)))
    (written_at c (length c.fields) c.methods)
    (places_at c (length c.fields + length c.methods) (length (added w c)))) in
    let none = subst (λ (d : Class). All (IsNone d) (methods_of_class w c)) tree.2 (class_none c w) in
    All-append (IsListed files) (methods_of_class w c) (methods_in_turn w cs)
    (class_listed files n tree.0 tree.1 (methods_of_class w c) (class_own files c kind.0 here) at none)
    (in_turn_listed files cs order rest)

pub ordered_listed : (files : Files) (order : List ℕ) → AreOrdered files order
    → All (IsListed files) (method_order (all_classes files))
unfolding method_order
ordered_listed files order e = in_turn_listed files (in_order (all_classes files) false) order e
