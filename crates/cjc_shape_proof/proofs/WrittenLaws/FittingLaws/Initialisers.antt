-- An initialiser has its code once among those of all methods.
use Rattle.std.proofs.Common.{◌≡◌, ◌⊎◌, inl, inr, ⊎_elim, ℕ, zero, suc, ◌+◌, ◌≤◌, refl, sym, ap, subst, ◌∙◌, arith}
use Rattle.std.proofs.Common.{Bool, true, false, List, [], ◌∷◌, ◌++◌, length}
use Rattle.std.specs.Prelude.{Option, Some, None, Result, Ok, Err, map, slice_get, position, codes, if◌then◌else◌}
use Rattle.std.specs.Prelude.{option_map}
use Rattle.std.specs.Str.{bytes_eq}
use Rattle.std.proofs.lemmas.Option.{slice_get-map}
use Rattle.cjc_bytes.specs.declared.breaks.BrokenAt.{BrokenAt}
use Rattle.cjc_bytes.proofs.Lists.{bytes_true}
use Rattle.cjc_bytes.proofs.Bools.{both_front, both_back}
use Rattle.cjc_classes.specs.ClassOrder.Classes.Numbers.{class_count}
use Rattle.cjc_world.specs.ClassFile.Code.{CodeTree}
use Rattle.cjc_world.specs.ClassFile.declared.tree.ClassTree.{ClassTree}
use Rattle.cjc_world.specs.ClassFile.declared.tree.MethodTree.{MethodTree}
use Rattle.cjc_classes.specs.Clinit.Image.{class_where, if_initialiser, initialised}
use Rattle.cjc_classes.specs.Clinit.Initialiser.{is_initialiser}
use Rattle.cjc_check_proof.specs.WorldProof.Initialisers.Values.{StandOnce}
use Rattle.cjc_components.specs.Bytecode.Decoded.{decoding}
use Rattle.cjc_components.specs.Bytecode.PackageCodes.{all_codes, code_with, of_classes, of_methods, where_code}
use Rattle.cjc_components.specs.Bytecode.declared.insn.JInsn.{JInsn}
use Rattle.cjc_components.specs.Bytecode.declared.method_code.MethodCode.{MethodCode}
use Rattle.cjc_narrow_proof.proofs.LawsLaws.Own.{first_here, own_kept}
use Rattle.cjc_world.specs.Classes.{Member, method_of_class}
use Rattle.cjc_world.specs.Files.{Files}
use Rattle.cjc_world.specs.Lookup.{is_called}
use Rattle.cjc_world.specs.Rules.{breaks, is_twice}

-- ---- lists

-- an item of two lists in a row is one of the first, or of the second behind it
pub record IsBehind {A : Type 0} (xs ys : List A) (k : ℕ) (x : A) : Type 0 where
  pub place : ℕ
  pub is : k ≡ length xs + place
  pub there : slice_get ys place ≡ Some x

pub split : {A : Type 0} (xs ys : List A) (k : ℕ) (x : A) → slice_get (xs ++ ys) k ≡ Some x → (slice_get xs k ≡ Some x)
    ⊎ IsBehind xs ys k x
split [] ys k x e = inr (record { place = k; is = omega arith; there = e })
split (y ∷ xs) ys zero x e = inl e
split (y ∷ xs) ys (suc k) x e =
    ⊎_elim (λ f. inl f) (λ (r : IsBehind xs ys k x). let i = r.is
    in inr (record { place = r.place; is = omega (arith, i); there = r.there })) (split xs ys k x e)

-- ---- the codes of one class

-- each is of the class, and of a method from this one on
abbrev AreFrom : (class k : ℕ) → List MethodCode → Type 0
AreFrom class k cs = (i : ℕ) (a : MethodCode) → slice_get cs i ≡ Some a → (a.class ≡ class) × (k ≤ a.method)

at_methods : (class k : ℕ) (t : ClassTree) (ms : List MethodTree) (i : ℕ) (a : MethodCode)
    → slice_get (of_methods code_with class k t ms) i ≡ Some a → (a.class ≡ class) × (k ≤ a.method)
at_methods class k t [] i a e = cc
at_methods class k t (m ∷ ms) i a e =
    by (where_code (code_with class k) t m m.code) (front m.code) (split (where_code (code_with class k) t m m.code)
    (of_methods code_with class (k + 1) t ms) i a e) (λ j f. at_methods class (k + 1) t ms j a f)
  where
    one : (r : Result (List JInsn) BrokenAt) → AreFrom class k (code_with class k r)
    one (Ok insns) zero a e = let is : record { class = class; method = k; insns = insns } ≡ a = cc
        in (
          ap (λ (c : MethodCode). c.class) (sym is),
          (let n = ap (λ (c : MethodCode). c.method) is
              in omega (arith, n)),
        )
    one (Ok insns) (suc i) a e = cc
    one (Err broken) i a e = cc

    front : (o : Option CodeTree) → AreFrom class k (where_code (code_with class k) t m o)
    front None i a e = cc
    front (Some code) i a e = one (decoding t m code) i a e

    by : (cs : List MethodCode) → AreFrom class k cs → (slice_get cs i ≡ Some a)
        ⊎ IsBehind cs (of_methods code_with class (k + 1) t ms) i a
        → ((j : ℕ) → slice_get (of_methods code_with class (k + 1) t ms) j ≡ Some a → (a.class ≡ class)
        × (k + 1 ≤ a.method)) → (a.class ≡ class) × (k ≤ a.method)
    by cs here (inl f) rest = here i a f
    by cs here (inr r) rest = let next = rest r.place r.there in let l = next.1 in (next.0, omega (arith, l))

-- a method has its code once
once_methods : (class k : ℕ) (t : ClassTree) (ms : List MethodTree) (i j : ℕ) (a b : MethodCode)
    → slice_get (of_methods code_with class k t ms) i ≡ Some a → slice_get (of_methods code_with class k t ms) j
    ≡ Some b
    → a.method ≡ b.method → i ≡ j
once_methods class k t [] i j a b e f same = cc
once_methods class k t (m ∷ ms) i j a b e f same = go m.code (λ x y g h. once_methods class (k + 1) t ms x y a b g h
    same) e f
  where
    later : (x : ℕ) (c : MethodCode) → slice_get (of_methods code_with class (k + 1) t ms) x ≡ Some c → c.method ≡ k → ⊥
    later x c g h = let l = (at_methods class (k + 1) t ms x c g).1 in omega (arith, l, h)

    by : (r : Result (List JInsn) BrokenAt) (i j : ℕ)
        → ((x y : ℕ) → slice_get (of_methods code_with class (k + 1) t ms) x ≡ Some a
        → slice_get (of_methods code_with class (k + 1) t ms) y ≡ Some b → x ≡ y) → slice_get (code_with class k r
        ++ of_methods code_with class (k + 1) t ms) i ≡ Some a → slice_get (code_with class k r
        ++ of_methods code_with class (k + 1) t ms) j ≡ Some b → i ≡ j
    by (Err broken) i j both e f = both i j e f
    by (Ok insns) zero zero both e f = refl
    by (Ok insns) zero (suc j) both e f = let is : record { class = class; method = k; insns = insns } ≡ a = cc
        in absurd (later j b f (sym same ∙ ap (λ (c : MethodCode). c.method) (sym is)))
    by (Ok insns) (suc i) zero both e f = let is : record { class = class; method = k; insns = insns } ≡ b = cc
        in absurd (later i a e (same ∙ ap (λ (c : MethodCode). c.method) (sym is)))
    by (Ok insns) (suc i) (suc j) both e f = ap suc (both i j e f)

    go : (o : Option CodeTree) → ((x y : ℕ) → slice_get (of_methods code_with class (k + 1) t ms) x ≡ Some a
        → slice_get (of_methods code_with class (k + 1) t ms) y ≡ Some b → x ≡ y)
        → slice_get (where_code (code_with class k) t m o ++ of_methods code_with class (k + 1) t ms) i ≡ Some a
        → slice_get (where_code (code_with class k) t m o ++ of_methods code_with class (k + 1) t ms) j ≡ Some b
        → i ≡ j
    go None both e f = both i j e f
    go (Some code) both e f = by (decoding t m code) i j both e f

-- ---- those of all classes

at_classes : (n : ℕ) (ts : List ClassTree) (i : ℕ) (a : MethodCode) → slice_get (of_classes code_with n ts) i ≡ Some a
    → n ≤ a.class
at_classes n [] i a e = cc
at_classes n (t ∷ ts) i a e =
    ⊎_elim
    (λ f. let c = (at_methods n 0 t t.methods i a f).0 in omega (arith, c))
    (λ (r : IsBehind (of_methods code_with n 0 t t.methods) (of_classes code_with (n + 1) ts) i a). let l = at_classes
    (n + 1) ts r.place a r.there in omega (arith, l))
    (split (of_methods code_with n 0 t t.methods) (of_classes code_with (n + 1) ts) i a e)

once_classes : (n : ℕ) (ts : List ClassTree) (i j : ℕ) (a b : MethodCode) → slice_get (of_classes code_with n ts) i
    ≡ Some a → slice_get (of_classes code_with n ts) j ≡ Some b → a.class ≡ b.class → a.method ≡ b.method → i ≡ j
once_classes n [] i j a b e f c m = cc
once_classes n (t ∷ ts) i j a b e f c m =
    by (split (of_methods code_with n 0 t t.methods) (of_classes code_with (n + 1) ts) i a e)
    (split (of_methods code_with n 0 t t.methods) (of_classes code_with (n + 1) ts) j b f)
    (λ x y g h. once_classes (n + 1) ts x y a b g h c m)
  where
    apart : (x y : MethodCode) (k l : ℕ) → slice_get (of_methods code_with n 0 t t.methods) k ≡ Some x
        → slice_get (of_classes code_with (n + 1) ts) l ≡ Some y → x.class ≡ y.class → ⊥
    apart x y k l g h same = let here = (at_methods n 0 t t.methods k x g).0 in let there = at_classes (n + 1) ts l y h
        in omega (arith, here, there, same)

    by : (slice_get (of_methods code_with n 0 t t.methods) i ≡ Some a) ⊎ IsBehind (of_methods code_with n 0 t t.methods)
        (of_classes code_with (n + 1) ts) i a
        → (slice_get (of_methods code_with n 0 t t.methods) j ≡ Some b)
        ⊎ IsBehind (of_methods code_with n 0 t t.methods) (of_classes code_with (n + 1) ts) j b
        → ((x y : ℕ) → slice_get (of_classes code_with (n + 1) ts) x ≡ Some a
        → slice_get (of_classes code_with (n + 1) ts) y ≡ Some b → x ≡ y) → i ≡ j
    by (inl g) (inl h) rest = once_methods n 0 t t.methods i j a b g h m
    by (inl g) (inr r) rest = absurd (apart a b i r.place g r.there c)
    by (inr r) (inl h) rest = absurd (apart b a j r.place h r.there (sym c))
    by (inr r) (inr s) rest = let same = rest r.place s.place r.there s.there in r.is
        ∙ ap (λ k. length (of_methods code_with n 0 t t.methods) + k) same ∙ sym s.is

-- ---- initialisers

module _ (files : Files) (list : List ℕ) (listed : length files.classes ≤ class_count files.lines)
    (unbroken : breaks list files ≡ []) where
  -- an initialiser of a class at a place of its methods
  pub record IsInitialiserAt (code : MethodCode) (c : ClassTree) : Type 0 where
    pub method : MethodTree
    pub is_class : slice_get files.classes code.class ≡ Some c
    pub is_method : slice_get c.methods code.method ≡ Some method
    pub is : is_initialiser method ≡ true

  initialiser_at : (code : MethodCode) (c : ClassTree) → initialised files code ≡ Some c → IsInitialiserAt code c
  initialiser_at code c e = by (slice_get files.classes code.class) refl e
    where
      named : (d : ClassTree) (m : MethodTree) → slice_get files.classes code.class ≡ Some d
          → slice_get d.methods code.method ≡ Some m → (b : Bool) → is_initialiser m ≡ b → (if b then Some d else None)
          ≡ Some c → IsInitialiserAt code c
      named d m f g true is e = let same : d ≡ c = cc in subst (IsInitialiserAt code) same (record {
        method = m;
        is_class = f;
        is_method = g;
        is = is;
      })
      named d m f g false is e = cc

      within : (d : ClassTree) → slice_get files.classes code.class ≡ Some d → (o : Option MethodTree)
          → slice_get d.methods code.method ≡ o → if_initialiser d o ≡ Some c → IsInitialiserAt code c
      within d f None g e = cc
      within d f (Some m) g e = named d m f g (is_initialiser m) refl e

      by : (o : Option ClassTree) → slice_get files.classes code.class ≡ o → class_where code.method o ≡ Some c
          → IsInitialiserAt code c
      by None f e = cc
      by (Some d) f e = within d f (slice_get d.methods code.method) refl e

  -- it is the first method of its name and descriptor
  first_initialiser : (n k : ℕ) (c : ClassTree) (m : MethodTree) → slice_get files.classes n ≡ Some c
      → slice_get c.methods k ≡ Some m → is_initialiser m ≡ true
      → position (λ (x : Member). is_called (codes "<clinit>") (codes "()V") x) (map method_of_class c.methods) ≡ Some k
  unfolding is_twice
  first_initialiser n k c m e f is =
      let kept = own_kept files list listed unbroken n c e in
      let once = (kept.methods k m f).0 in
      let name = bytes_true m.name (codes "<clinit>") (both_front (bytes_eq m.name (codes "<clinit>"))
      (bytes_eq m.desc (codes "()V")) is) in
      let desc = bytes_true m.desc (codes "()V") (both_back (bytes_eq m.name (codes "<clinit>"))
      (bytes_eq m.desc (codes "()V")) is) in
      let there : slice_get (map method_of_class c.methods) k ≡ Some (method_of_class m) =
      slice_get-map method_of_class c.methods k ∙ ap (option_map method_of_class) f in
      first_here (λ (x : Member). is_called (codes "<clinit>") (codes "()V") x) (map method_of_class c.methods) k
      (method_of_class m) there is
      (subst (λ d. is_twice (map method_of_class c.methods) k (codes "<clinit>") d ≡ false) desc
      (subst (λ v. is_twice (map method_of_class c.methods) k v m.desc ≡ false) name once))

  pub stand_once : StandOnce files (all_codes files.classes)
  stand_once i j a b c d e f g h same =
      let one = initialiser_at a c g in
      let other = initialiser_at b d h in
      let classes : c ≡ d = (let both : Some c ≡ Some d = sym one.is_class ∙ ap (slice_get files.classes) same
      ∙ other.is_class in cc) in
      let here = first_initialiser a.class a.method c one.method one.is_class one.is_method one.is in
      let there = first_initialiser b.class b.method d other.method other.is_class other.is_method other.is in
      let methods : Some a.method ≡ Some b.method =
      sym here ∙ ap (λ (t : ClassTree). position (λ (x : Member). is_called (codes "<clinit>") (codes "()V") x)
      (map method_of_class t.methods)) classes ∙ there in
      once_classes 0 files.classes i j a b e f same (let m : a.method ≡ b.method = cc in m)
