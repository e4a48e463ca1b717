-- Each method of an interface, its initialiser aside, is one of the methods that the interface has by their tokens.
use Rattle.std.proofs.Common.{◌≡◌, ℕ, zero, suc, ◌+◌, ◌<◌, ◌≤◌, refl, sym, ap, subst, ◌∙◌, arith, Bool, true, false}
use Rattle.std.proofs.Common.{List, [], ◌∷◌, ◌++◌, length, map}
use Rattle.std.specs.Prelude.{◌&&◌, ◌||◌, ◌==◌, not, nat_lt, Some, None, slice_get, if◌then◌else◌}
use Rattle.std.specs.List.{Contains}
use Rattle.std.proofs.lemmas.Bool.{eqb-true}
use Rattle.std.proofs.lemmas.Bool.Decides.{nat_tests}
use Rattle.std.proofs.lemmas.List.{length-map}
use Rattle.std.proofs.lemmas.Option.{get_or_from_slice_get, slice_get_within}
use Rattle.cjc_bytes.specs.AccessFlags.{is_interface}
use Rattle.cjc_bytes.proofs.Numbers.{like_number}
use Rattle.cjc_bytes.proofs.Gets.{in_front, at_end}
use Rattle.cjc_token_proof.proofs.WorldProofOwn.{mapped_at}
use Rattle.cjc_world.specs.ExportFile.Members.{interface_token, interface_token_taken}
use Rattle.cjc_world.specs.ExportFile.Writable.{ClassFits, EachAfter, IsWritable, MethodStands}
use Rattle.cjc_world.specs.ExportFile.declared.tree.ExportMethod.{ExportMethod}
use Rattle.cjc_world.specs.ExportFile.declared.tree.ExportTree.{ExportTree}
use Rattle.cjc_token_proof.specs.Subset.Members.{imports}
use Rattle.cjc_tokens.specs.Members.{In, first_of, is_initialiser, later, signature_of}
use Rattle.cjc_tokens.specs.Methods.{interface_methods}
use Rattle.cjc_vtable.proofs.Calls.{In-behind, In-front}
use Rattle.cjc_vtable.proofs.Filed.{IsFiled, filed, get-has, has-get, in_class_file, in_export_file, of-imports}
use Rattle.cjc_vtable.proofs.Read.{each-after}
use Rattle.cjc_world.specs.Added.{asked_by, by_token, own_methods, with_token, without_initialiser}
use Rattle.cjc_world.specs.Classes.{Class, Member, all_classes, class_named, method_of_export}
use Rattle.cjc_world.specs.Files.{Files}
use Rattle.cjc_world.specs.Supertypes.{supertypes}
use Rattle.cjc_theorem.proofs.AlikeLaws.VirtualCalls.MethodKinds.{in_get}

-- ---- lists

pub member_in : (ms : List Member) (k : ℕ) (m : Member) → slice_get ms k ≡ Some m → In m ms
member_in [] k m e = absurd cc
member_in (x ∷ ms) zero m e = let same : x ≡ m = cc in subst (λ (v : Member). In m (v ∷ ms)) (sym same) first_of
member_in (x ∷ ms) (suc k) m e = later (member_in ms k m e)

contained : (ms : List Member) (m : Member) → In m ms → Contains ms m
contained ms m i = let r = in_get m ms i in (r.0, slice_get_within ms r.0 m r.1, get_or_from_slice_get ms r.0 m m r.1)

kept_in : (ms : List Member) (m : Member) → In m ms → is_initialiser m.name ≡ false → In m (without_initialiser ms)
kept_in [] m i e = elim i [ ]
kept_in (n ∷ ms) m first_of e = subst (λ b. In m (if b then without_initialiser ms else m ∷ without_initialiser ms))
    (sym e) first_of
kept_in (n ∷ ms) m (later i) e = by (is_initialiser n.name) (kept_in ms m i e)
  where
    by : (b : Bool) → In m (without_initialiser ms) → In m (if b then without_initialiser ms
        else n ∷ without_initialiser ms)
    by true h = h
    by false h = later h

-- ---- by tokens

in_range : (m : Member) (ms : List Member) (n t : ℕ) → t ≤ m.token → m.token < t + n → In m (with_token m.token ms)
    → In m (by_token n t ms)
in_range m ms zero t low high i = absurd (omega (arith, low, high))
in_range m ms (suc n) t low high i = by (m.token == t) refl (λ more. in_range m ms n (t + 1) more (omega (arith, high))
    i)
  where
    by : (b : Bool) → (m.token == t) ≡ b → (t + 1 ≤ m.token → In m (by_token n (t + 1) ms))
        → In m (with_token t ms ++ by_token n (t + 1) ms)
    by true e rest = In-front m (with_token t ms) (by_token n (t + 1) ms) (subst (λ k. In m (with_token k ms))
        (eqb-true m.token t e) i)
    by false e rest = In-behind m (with_token t ms) (by_token n (t + 1) ms) (rest (grind (arith, nat_tests, low, e)))

module _ (count : ℕ) where
  new_token : (before : List ExportMethod) (t : ℕ) → interface_token count before t ≡ Some t → (t < count)
      × (interface_token_taken before t ≡ false)
  new_token before t e = by (nat_lt t count) (interface_token_taken before t) refl refl e
    where
      by : (a b : Bool) → nat_lt t count ≡ a → interface_token_taken before t ≡ b
          → (if a && not b then Some t else None) ≡ Some t → (t < count) × (interface_token_taken before t ≡ false)
      by true false f g e = (grind (arith, nat_tests, f), g)
      by true true f g e = absurd cc
      by false b f g e = absurd cc

  not_taken : (before : List ExportMethod) (t k : ℕ) (b : ExportMethod) → interface_token_taken before t ≡ false
      → slice_get before k ≡ Some b → (b.token == t) ≡ false
  not_taken [] t k b e f = absurd cc
  not_taken (x ∷ before) t zero b e f = let is : x ≡ b = cc in ap (λ (y : ExportMethod). y.token == t) (sym is)
      ∙ by (x.token == t) e
    where
      by : (a : Bool) → (a || interface_token_taken before t) ≡ false → a ≡ false
      by true e = absurd cc
      by false e = refl
  not_taken (x ∷ before) t (suc k) b e f = not_taken before t k b (by (x.token == t) e) f
    where
      by : (a : Bool) → (a || interface_token_taken before t) ≡ false → interface_token_taken before t ≡ false
      by true e = absurd cc
      by false e = e

  -- those before have other tokens
  apart : (before ms : List ExportMethod) → EachAfter (MethodStands true count) before ms → (k : ℕ) (x : ExportMethod)
      → slice_get ms k ≡ Some x → (j : ℕ) (b : ExportMethod) → slice_get before j ≡ Some b → (b.token == x.token)
      ≡ false
  apart before [] h k x e j b f = absurd cc
  apart before (y ∷ ms) h zero x e j b f =
      let same : y ≡ x = cc in
      not_taken before x.token j b (new_token before x.token (subst (λ (z : ExportMethod). interface_token count before
      z.token ≡ Some z.token) same h.0.1)).1 f
  apart before (y ∷ ms) h (suc k) x e j b f = apart (before ++ y ∷ []) ms h.1 k x e j b (in_front before (y ∷ []) j b
      f)

  -- so each is the first of its token
  first_token : (before ms : List ExportMethod) → EachAfter (MethodStands true count) before ms
      → (k : ℕ) (x : ExportMethod) → slice_get ms k ≡ Some x → (x.token < count)
      × In (method_of_export x) (with_token x.token (map method_of_export ms))
  first_token before [] h k x e = absurd cc
  first_token before (y ∷ ms) h zero x e =
      let same : y ≡ x = cc in
      subst (λ (z : ExportMethod). (z.token < count) × In (method_of_export z) (with_token z.token (method_of_export y
      ∷ map method_of_export ms))) same (
        (new_token before y.token h.0.1).0,
        subst (λ b. In (method_of_export y) (if b then method_of_export y ∷ []
            else with_token y.token (map method_of_export ms))) (sym (like_number y.token)) first_of,
      )
  first_token before (y ∷ ms) h (suc k) x e =
      let r = first_token (before ++ y ∷ []) ms h.1 k x e in
      let other : (y.token == x.token) ≡ false = apart (before ++ y ∷ []) ms h.1 k x e (length before) y
      (at_end before y) in (
        r.0,
        subst (λ b. In (method_of_export x) (if b then method_of_export y ∷ []
            else with_token x.token (map method_of_export ms))) (sym other) r.1,
      )

-- ---- interfaces

module _ (files : Files) (writable : (e : ℕ) (t : ExportTree) → slice_get files.exports e ≡ Some t → IsWritable t) where
  pub own_in : (d : Class) → IsFiled files d → is_interface d.flags ≡ true → (k : ℕ) (m : Member)
      → slice_get d.methods k ≡ Some m → is_initialiser m.name ≡ false → In m (own_methods d)
  unfolding own_methods
  own_in d (in_class_file n t at) interface k m e plain = kept_in d.methods m (member_in d.methods k m e) plain
  own_in d (in_export_file n t at) interface k m e plain =
      let x = mapped_at method_of_export t.methods k m e in
      let tree = of-imports t files.exports (get-has t (imports files.exports) n at) in
      let place = has-get tree.0 files.exports tree.1 in
      let class = each-after ClassFits [] (let u = tree.0 in u.classes) t (let w = writable place.0 tree.0 place.1
      in w.classes) tree.2 in
      let stands : EachAfter (MethodStands true (length t.methods)) [] t.methods =
      subst (λ b. EachAfter (MethodStands b (length t.methods)) [] t.methods) interface (let c = class.1
      in c.methods) in
      let r = first_token (length t.methods) [] t.methods stands k x.0 x.1 in
      let long = length-map t.methods method_of_export in
      let low = r.0 in
      let all = in_range (method_of_export x.0) (map method_of_export t.methods)
      (length (map method_of_export t.methods)) 0 (omega arith) (omega (arith, low, long)) r.1 in
      subst (λ (v : Member). In v (without_initialiser (by_token (length (map method_of_export t.methods)) 0
      (map method_of_export t.methods)))) (sym x.2)
      (kept_in (by_token (length (map method_of_export t.methods)) 0 (map method_of_export t.methods))
      (method_of_export x.0) all (ap (λ (v : Member). is_initialiser v.name) (sym x.2) ∙ plain))

  -- one that it inherits or lists has a place
  pub has_place : ((c : Class) (m : Member) → Contains (if c.is_imported then own_methods c
      else asked_by (supertypes (all_classes files) c.supers) (supertypes (all_classes files) c.interfaces)
      ++ own_methods c) m → (t : ℕ) × (slice_get (interface_methods (all_classes files) c) t ≡ Some (signature_of m)))
      → (x : List ℕ) (d : Class) → class_named (all_classes files) x ≡ Some d → is_interface d.flags ≡ true
      → (k : ℕ) (m : Member) → slice_get d.methods k ≡ Some m → is_initialiser m.name ≡ false → (t : ℕ)
      × (slice_get (interface_methods (all_classes files) d) t ≡ Some (signature_of m))
  has_place listed x d known interface k m e plain =
      let own = own_in d (filed files x d known) interface k m e plain in
      listed d m (contained _ m (by d.is_imported own))
    where
      by : (b : Bool) → In m (own_methods d) → In m (if b then own_methods d
          else asked_by (supertypes (all_classes files) d.supers) (supertypes (all_classes files) d.interfaces)
          ++ own_methods d)
      by true i = i
      by false i = In-behind m (asked_by (supertypes (all_classes files) d.supers) (supertypes (all_classes files)
          d.interfaces)) (own_methods d) i
