-- Imported classes of two worlds, in one of which a new version of an export file stands in the place of the old one.
use Rattle.std.proofs.Common.{◌≡◌, ℕ, zero, suc, ◌+◌, ◌≤◌, refl, sym, ap, subst, ◌∙◌, arith, Bool, true, false, List}
use Rattle.std.proofs.Common.{[], ◌∷◌, ◌++◌, inl, inr, ⊎_elim, length}
use Rattle.std.specs.Prelude.{◌⊎◌, ◌||◌, ◌&&◌, ◌==◌, not, max, Option, Some, None, if◌then◌else◌, map, slice_get}
use Rattle.std.specs.List.{list_any}
use Rattle.std.proofs.lemmas.Bool.Decides.{nat_tests}
use Rattle.cjc_world.specs.Bytes.AccessFlags.{is_final, is_interface, is_private, is_static}
use Rattle.cjc_compat.specs.ExportFile.Supers as supers
use Rattle.cjc_compat.specs.ExportFile.Writable.{ClassFits, EachAfter, IsWritable, MethodStands}
use Rattle.cjc_compat.specs.ExportFile.declared.tree.ExportClass.{ExportClass}
use Rattle.cjc_compat.specs.ExportFile.declared.tree.ExportMethod.{ExportMethod}
use Rattle.cjc_compat.specs.ExportFile.declared.tree.ExportTree.{ExportTree}
use Rattle.cjc_world.specs.Files.{Files}
use Rattle.cjc_world.specs.Classes.{Class, Member, all_classes, class_named, imported, method_of_export}
use Rattle.cjc_world.specs.Added.{own_methods, without_initialiser}
use Rattle.cjc_world.specs.Rules as world
use Rattle.cjc_world.specs.Rules.{is_missing, is_none_of, lists_missing}
use Rattle.cjc_world.specs.Supertypes.{Lists}
use Rattle.cjc_world.specs.Upwards.{Has, after, foremost}
use Rattle.cjc_world.proofs.Cycles.{class_named-name}
use Rattle.cjc_world.proofs.Settled.{lists-behind, lists-front}
use Rattle.cjc_tokens.specs.Members.{Signature, is_constructor, is_exposed, is_initialiser, is_virtual}
use Rattle.cjc_tokens.specs.Members.{signature_of}
use Rattle.cjc_tokens.specs.Slots.{Slots, listed_slots, put, reserve}
use Rattle.cjc_compat.specs.Rules.{breaks, virtual_end}
use Rattle.cjc_cmd_compat.specs.Subclasses.{AddsUnknown, Declares, ExtendsNoFinal, HasOneToken, ListsNoInitialiser}
use Rattle.cjc_cmd_compat.specs.Subclasses.{with_export}
use Rattle.cjc_compat.proofs.Keeping.{IsKept, classes_kept, method_there}
use Rattle.cjc_cmd_compat.proofs.SubclassesLaws.Interfaces.{by_token-kept}
use Rattle.cjc_cmd_compat.proofs.SubclassesLaws.Worlds.{Counterpart, at-has, backward, forward, has-at, has-map}
use Rattle.cjc_cmd_compat.proofs.SubclassesLaws.Worlds.{has-mapped, has-named, methods-once, named-has, none-listed}
use Rattle.cjc_cmd_compat.proofs.SubclassesLaws.Worlds.{of_class}
use Rattle.cjc_cmd_compat.proofs.SubclassesLaws.Worlds.{of_other, of_version, own-name, ruled-class}

-- ---- how many slots some methods have

-- the least number above the tokens of virtual methods
abbrev pub token_end : List Member → ℕ
token_end [] = 0
token_end (m ∷ ms) = if is_virtual m then max (m.token + 1) (token_end ms) else token_end ms

put-length : (t : ℕ) (s : Signature) (all : Slots) → length (put t s all) ≡ max (t + 1) (length all)
put-length zero s [] = omega arith
put-length zero s (slot ∷ all) = omega arith
put-length (suc t) s [] = let rest = put-length t s [] in omega (arith, rest)
put-length (suc t) s (slot ∷ all) = let rest = put-length t s all in omega (arith, rest)

reserve-length : (t : ℕ) (all : Slots) → length (reserve t all) ≡ max (t + 1) (length all)
reserve-length zero [] = omega arith
reserve-length zero (slot ∷ all) = omega arith
reserve-length (suc t) [] = let rest = reserve-length t [] in omega (arith, rest)
reserve-length (suc t) (slot ∷ all) = let rest = reserve-length t all in omega (arith, rest)

pub listed-length : (ms : List Member) → length (listed_slots ms) ≡ token_end ms
listed-length [] = refl
listed-length (m ∷ ms) = by (is_exposed m.flags) (is_virtual m) (listed-length ms)
  where
    by : (e v : Bool) → length (listed_slots ms) ≡ token_end ms
        → length (if e && v then put m.token (signature_of m) (listed_slots ms) else if v
        then reserve m.token (listed_slots ms) else listed_slots ms) ≡ (if v then max (m.token + 1) (token_end ms)
        else token_end ms)
    by true true h = put-length m.token (signature_of m) (listed_slots ms) ∙ ap (max (m.token + 1)) h
    by false true h = reserve-length m.token (listed_slots ms) ∙ ap (max (m.token + 1)) h
    by true false h = h
    by false false h = h

pub end-append : (ms ns : List Member) → token_end (ms ++ ns) ≡ max (token_end ms) (token_end ns)
end-append [] ns = omega arith
end-append (m ∷ ms) ns = by (is_virtual m) (end-append ms ns)
  where
    by : (v : Bool) → token_end (ms ++ ns) ≡ max (token_end ms) (token_end ns) → (if v then max (m.token + 1)
        (token_end (ms ++ ns)) else token_end (ms ++ ns)) ≡ max (if v then max (m.token + 1) (token_end ms)
        else token_end ms) (token_end ns)
    by true h = omega (arith, h)
    by false h = h

end-above : (ms : List Member) (m : Member) → Has m ms → is_virtual m ≡ true → m.token + 1 ≤ token_end ms
end-above [] m h e = elim h [ ]
end-above (x ∷ ms) _ foremost e = by (is_virtual x) e
  where
    by : (v : Bool) → v ≡ true → x.token + 1 ≤ (if v then max (x.token + 1) (token_end ms) else token_end ms)
    by true f = omega arith
    by false f = absurd cc
end-above (x ∷ ms) m (after h) e = by (is_virtual x) (end-above ms m h e)
  where
    by : (v : Bool) → m.token + 1 ≤ token_end ms → m.token + 1 ≤ (if v then max (x.token + 1) (token_end ms)
        else token_end ms)
    by true f = omega (arith, f)
    by false f = f

end-least : (ms : List Member) (n : ℕ) → ((m : Member) → Has m ms → is_virtual m ≡ true → m.token + 1 ≤ n)
    → token_end ms ≤ n
end-least [] n each = omega arith
end-least (x ∷ ms) n each = by (is_virtual x) refl (end-least ms n (λ m h. each m (after h)))
  where
    by : (v : Bool) → is_virtual x ≡ v → token_end ms ≤ n → (if v then max (x.token + 1) (token_end ms)
        else token_end ms) ≤ n
    by true e h = let here = each x foremost e in omega (arith, h, here)
    by false e h = h

end-kept : (ms ns : List Member) → ((m : Member) → Has m ms → Has m ns) → token_end ms ≤ token_end ns
end-kept ms ns kept = end-least ms (token_end ns) (λ m h e. end-above ns m (kept m h) e)

-- a method that is virtual here is so for the greatest token of an export file
counts : (m : ExportMethod) → is_virtual (method_of_export m) ≡ true → supers.is_virtual m ≡ true
counts m e = by (is_private m.flags) (is_static m.flags) (is_constructor m.name) (is_initialiser m.name) e
  where
    by : (p s c i : Bool) → ((not p && not s) && not (c || i)) ≡ true → not (s || p || c) ≡ true
    by false false false i e = refl
    by true s c i e = absurd cc
    by false true c i e = absurd cc
    by false false true i e = absurd cc

counted : (m : ExportMethod) → supers.is_virtual m ≡ true → is_initialiser m.name ≡ false
    → is_virtual (method_of_export m) ≡ true
counted m e f = by (is_private m.flags) (is_static m.flags) (is_constructor m.name) (is_initialiser m.name) e f
  where
    by : (p s c i : Bool) → not (s || p || c) ≡ true → i ≡ false → ((not p && not s) && not (c || i)) ≡ true
    by false false false false e f = refl
    by p s c true e f = absurd cc
    by true true c false e f = absurd cc
    by true false c false e f = absurd cc
    by false true c false e f = absurd cc
    by false false true false e f = absurd cc

end-most : (ms : List ExportMethod) → token_end (map method_of_export ms) ≤ virtual_end ms
end-most [] = omega arith
end-most (m ∷ ms) = by (is_virtual (method_of_export m)) (supers.is_virtual m) refl (counts m) (end-most ms)
  where
    by : (v w : Bool) → (v ≡ v) → (v ≡ true → w ≡ true) → token_end (map method_of_export ms) ≤ virtual_end ms
        → (if v then max (m.token + 1) (token_end (map method_of_export ms)) else token_end (map method_of_export ms))
        ≤ (if w then max (m.token + 1) (virtual_end ms) else virtual_end ms)
    by true true e f h = omega (arith, h)
    by true false e f h = absurd (let clash = f refl in cc)
    by false true e f h = omega (arith, h)
    by false false e f h = h

most-end : (ms : List ExportMethod) → ((m : ExportMethod) → Has m ms → supers.is_virtual m ≡ true
    → is_initialiser m.name ≡ false) → virtual_end ms ≤ token_end (map method_of_export ms)
most-end [] plain = omega arith
most-end (m ∷ ms) plain = by (is_virtual (method_of_export m)) (supers.is_virtual m) refl (λ e. counted m e (plain m
    foremost e)) (most-end ms (λ n h. plain n (after h)))
  where
    by : (v w : Bool) → (v ≡ v) → (w ≡ true → v ≡ true) → virtual_end ms ≤ token_end (map method_of_export ms)
        → (if w then max (m.token + 1) (virtual_end ms) else virtual_end ms)
        ≤ (if v then max (m.token + 1) (token_end (map method_of_export ms)) else token_end (map method_of_export ms))
    by true true e f h = omega (arith, h)
    by false true e f h = absurd (let clash = f refl in cc)
    by true false e f h = omega (arith, h)
    by false false e f h = h

-- ---- what is given

-- Two versions of an export file that break no rule, and a package that breaks none of its world with either.
pub record AreGiven (files : Files) (place : ℕ) (old new : ExportTree) : Type 0 where
  pub name : List ℕ
  pub list : List ℕ
  pub old_tree : IsWritable old
  pub new_tree : IsWritable new
  pub versions : breaks name old new ≡ []
  pub there : slice_get files.exports place ≡ Some old
  pub unbroken : world.breaks list files ≡ []
  pub unbroken_too : world.breaks list (with_export files place new) ≡ []
  pub adds : AddsUnknown files old new
  pub no_final : ExtendsNoFinal files old
  pub no_initialiser : ListsNoInitialiser old
  pub one_token : HasOneToken files

-- Classes of export files that are alike in all that counts for the package.
pub record AreAlikeClasses (files : Files) (old : ExportTree) (c d : Class) : Type 0 where
  pub abroad : c.is_imported ≡ true
  pub abroad_too : d.is_imported ≡ true
  pub name : d.name ≡ c.name
  pub supers : d.supers ≡ c.supers
  pub interfaces : d.interfaces ≡ c.interfaces
  pub kept : (m : Member) → Has m c.methods → Has m d.methods
  pub back : (m : Member) → Has m d.methods → Declares files (signature_of m) → Has m c.methods
  pub once : (a b : Member) → Has a d.methods → Has b d.methods → signature_of a ≡ signature_of b → a ≡ b
  pub own : is_interface c.flags ≡ true → own_methods d ≡ own_methods c
  pub ends : ((number : ℕ) (b : ExportClass) → Has b old.classes → c ≡ imported number b → is_final b.flags ≡ false)
      → is_interface c.flags ≡ false → token_end d.methods ≡ token_end c.methods

-- One class of the package, or two alike ones of export files.
pub data ArePair (files : Files) (old : ExportTree) : Class → Class → Type 0 where
  one_class : (c : Class) → c.is_imported ≡ false → ArePair files old c c
  two_classes : (c d : Class) → AreAlikeClasses files old c d → ArePair files old c d

each-fits : {A : Type 0} (P : List A → A → Type 0) (before xs : List A) (x : A) → EachAfter P before xs → Has x xs
    → (front : List A) × P front x
each-fits P before [] x e h = elim h [ ]
each-fits P before (y ∷ xs) _ e foremost = (before, e.0)
each-fits P before (y ∷ xs) x e (after h) = each-fits P (before ++ y ∷ []) xs x e.1 h

-- the methods of an interface of an export file
interface-methods : (t : ExportTree) (x : ExportClass) → IsWritable t → Has x t.classes → is_interface x.flags ≡ true
    → EachAfter (MethodStands true (length x.methods)) [] x.methods
interface-methods t x w h e =
    let fits = each-fits ClassFits [] t.classes x w.classes h in
    let all = fits.1.methods in
    subst (λ b. EachAfter (MethodStands b (length x.methods)) [] x.methods) e all

-- a member of its parts
abbrev made : ℕ → List ℕ → List ℕ → ℕ → Member
made f n d t = record { flags = f; name = n; desc = d; token = t }

made-same : (m n : ExportMethod) → n.flags ≡ m.flags → n.name ≡ m.name → n.desc ≡ m.desc → n.token ≡ m.token
    → method_of_export n ≡ method_of_export m
made-same m n a b c d =
    ap (λ v. made v n.name n.desc n.token) a ∙ ap (λ v. made m.flags v n.desc n.token) b
    ∙ ap (λ v. made m.flags m.name v n.token) c ∙ ap (λ v. made m.flags m.name m.desc v) d

-- a signature of its parts
abbrev signed : List ℕ → List ℕ → Signature
signed a b = record { name = a; desc = b }

signed-same : (a b c d : List ℕ) → a ≡ b → c ≡ d → signed a c ≡ signed b d
signed-same a b c d e f = ap (λ v. signed v c) e ∙ ap (λ v. signed b v) f

own-methods-same : (j k : ℕ) (x : ExportClass) → own_methods (imported k x) ≡ own_methods (imported j x)
unfolding own_methods
own-methods-same j k x = refl

module _ (files : Files) (place : ℕ) (old new : ExportTree) (g : AreGiven files place old new) where
  abbrev pub before : List Class
  before = all_classes files

  abbrev pub after_that : List Class
  after_that = all_classes (with_export files place new)

  still : (x : ExportClass) → Has x old.classes → (y : ExportClass) × Has y new.classes × IsKept x y
  still x h =
      let at = has-at old.classes x h in
      let r = classes_kept g.name old new g.versions at.0 x at.1 in
      (r.1, at-has new.classes r.0 r.1 r.2, r.3)

  -- a method of the old version stands in the new one as it was
  method-kept : (x y : ExportClass) → Has x old.classes → Has y new.classes → IsKept x y → (m : ExportMethod)
      → Has m x.methods → (n : ExportMethod) × Has n y.methods × (method_of_export n ≡ method_of_export m)
  method-kept x y hx hy k m hm =
      let at = has-at x.methods m hm in
      let r = method_there x y k at.0 m at.1 in
      let n = r.1 in
      let hn = at-has y.methods r.0 n r.2 in
      let is = r.3 in
      let flags = g.adds.flags x y (hx, hy, k.name) m n hm hn is.name is.desc in
      (n, hn, made-same m n flags is.name is.desc is.token)

  version-kept : (x y : ExportClass) → Has x old.classes → Has y new.classes → IsKept x y → (m : Member)
      → Has m (map method_of_export x.methods) → Has m (map method_of_export y.methods)
  version-kept x y hx hy k m h =
      let l = has-mapped method_of_export x.methods m h in
      let n = method-kept x y hx hy k l.0 l.1 in
      subst (λ v. Has v (map method_of_export y.methods)) (n.2 ∙ sym l.2) (has-map method_of_export y.methods n.0 n.1)

  version-back : (k : ℕ) (x y : ExportClass) → Has x old.classes → Has y new.classes → IsKept x y
      → Has (imported k y) after_that → (m : Member) → Has m (map method_of_export y.methods)
      → Declares files (signature_of m) → Has m (map method_of_export x.methods)
  version-back k x y hx hy is stands m h q =
      let n = has-mapped method_of_export y.methods m h in
      let l = g.adds.methods x y (hx, hy, is.name) n.0 n.1 (subst (λ v. Declares files (signature_of v)) n.2 q) in
      let o = method-kept x y hx hy is l.0 l.1 in
      let names : signature_of (method_of_export l.0) ≡ signature_of (method_of_export n.0) = signed-same l.0.name
      n.0.name
      l.0.desc n.0.desc l.2 l.3 in
      let one = methods-once after_that (imported k y) (ruled-class g.list (with_export files place new) g.unbroken_too
      (imported k y) stands) (method_of_export o.0) (method_of_export n.0) (has-map method_of_export y.methods o.0 o.1)
      (has-map method_of_export y.methods n.0 n.1) (ap signature_of o.2 ∙ names) in
      subst (λ v. Has v (map method_of_export x.methods)) (sym o.2 ∙ one ∙ sym n.2) (has-map method_of_export x.methods
      l.0 l.1)

  version-own : (j k : ℕ) (x y : ExportClass) → Has x old.classes → Has y new.classes → IsKept x y
      → is_interface x.flags ≡ true → own_methods (imported k y) ≡ own_methods (imported j x)
  unfolding own_methods
  version-own j k x y hx hy is e =
      ap without_initialiser (by_token-kept x.methods y.methods count (interface-methods old x g.old_tree hx e)
      (interface-methods new y g.new_tree hy (is.interface ∙ e)) (version-kept x y hx hy is))
    where
      by : (i : Bool) (n : Bool) (r : Bool) → i ≡ true → (if i then not n else r) ≡ false → n ≡ true
      by true true r e f = refl
      by true false r e f = absurd cc
      by false n r e f = absurd cc

      count : length y.methods ≡ length x.methods
      count =
          let same = by (is_interface x.flags) (length y.methods == length x.methods) (not (is_final x.flags)
          && not (virtual_end y.methods == virtual_end x.methods)) e is.table in
          grind (arith, nat_tests)

  version-ends : (x y : ExportClass) → Has x old.classes → Has y new.classes → IsKept x y → is_final x.flags ≡ false
      → is_interface x.flags ≡ false → token_end (map method_of_export y.methods)
      ≡ token_end (map method_of_export x.methods)
  version-ends x y hx hy is unsealed plain =
      let up = end-kept (map method_of_export x.methods) (map method_of_export y.methods) (version-kept x y hx hy is) in
      let most = end-most y.methods in
      let least = most-end x.methods (g.no_initialiser x hx) in
      let same = ends in
      omega (arith, up, most, least, same)
    where
      by : (i f n r : Bool) → i ≡ false → f ≡ false → (if i then r else not f && not n) ≡ false → n ≡ true
      by false false true r e f h = refl
      by false false false r e f h = absurd cc
      by true f n r e g h = absurd cc
      by false true n r e g h = absurd cc

      ends : virtual_end y.methods ≡ virtual_end x.methods
      ends =
          let same = by (is_interface x.flags) (is_final x.flags) (virtual_end y.methods == virtual_end x.methods)
          (not (length y.methods == length x.methods)) plain unsealed is.table in
          grind (arith, nat_tests)

  -- ---- classes of both worlds

  pub pair : (c d : Class) → Counterpart files.exports old new c d → Has d after_that → ArePair files old c d
  pair _ _ (of_class c e) h = one_class c e
  pair _ _ (of_other j k t x ht hx) h = two_classes (imported j x) (imported k x) (record {
    abroad = refl;
    abroad_too = refl;
    name = refl;
    supers = refl;
    interfaces = refl;
    kept = λ m i. i;
    back = λ m i q. i;
    once = methods-once after_that (imported k x) (ruled-class g.list (with_export files place new) g.unbroken_too
        (imported k x) h);
    own = λ e. own-methods-same j k x;
    ends = λ unsealed plain. refl;
  })
  pair _ _ (of_version j k x y hx hy is) h = two_classes (imported j x) (imported k y) (record {
    abroad = refl;
    abroad_too = refl;
    name = is.name;
    supers = g.adds.supers x y (hx, hy, is.name);
    interfaces = g.adds.interfaces x y (hx, hy, is.name);
    kept = version-kept x y hx hy is;
    back = version-back k x y hx hy is h;
    once = methods-once after_that (imported k y) (ruled-class g.list (with_export files place new) g.unbroken_too
        (imported k y) h);
    own = version-own j k x y hx hy is;
    ends = λ unsealed plain. version-ends x y hx hy is (unsealed j x hx refl) plain;
  })

  stands : (c : Class) → Has c before → (d : Class) × Has d after_that × Counterpart files.exports old new c d
  unfolding all_classes
  stands c h = forward files.classes files.exports place old new g.there still 0 0 0 0 files.lines c h

  pair-name : (c d : Class) → ArePair files old c d → d.name ≡ c.name
  pair-name _ _ (one_class c e) = refl
  pair-name _ _ (two_classes c d a) = a.name

  pub named-kept : (x : List ℕ) (c : Class) → class_named before x ≡ Some c → (d : Class)
      × (class_named after_that x ≡ Some d) × ArePair files old c d
  named-kept x c e =
      let r = stands c (named-has before x c e) in
      let p = pair c r.0 r.2 r.1 in
      let name = pair-name c r.0 p ∙ class_named-name before x c e in (
        r.0,
        ap (class_named after_that) (sym name) ∙ own-name g.list (with_export files place new) g.unbroken_too r.0
            r.1,
        p,
      )

  -- ---- names of no class

  no-class : (x : List ℕ) (c : Class) → class_named before x ≡ None → Has c before → c.name ≡ x → ⊥
  no-class x c e h name = let r = has-named before c h in let clash = sym e ∙ ap (class_named before) (sym name)
      ∙ r.1 in absurd cc

  -- what an export file lists above a class
  export-none : (x : List ℕ) (t : ExportTree) (z : ExportClass) → Has t files.exports → Has z t.classes
      → Lists x (z.supers ++ z.interfaces) → class_named before x ≡ None → class_named after_that x ≡ None
  unfolding all_classes
  export-none x t z ht hz l e = by (class_named after_that x) refl
    where
      by : (o : Option Class) → class_named after_that x ≡ o → class_named after_that x ≡ None
      by None f = f
      by (Some d) f =
          let name = class_named-name after_that x d f in
          absurd (on name (backward files.classes files.exports place old new g.there still 0 0 0 0 files.lines d
          (named-has after_that x d f)))
        where
          on : d.name ≡ x → ((c : Class) × Has c before × (c.name ≡ d.name)) ⊎ ((y : ExportClass) × Has y new.classes
              × (d.name ≡ y.name) × ((b : ExportClass) → Has b old.classes → (k : ℕ) × Has (imported k b) before)) → ⊥
          on name (inl r) = no-class x r.0 e r.1 (r.2 ∙ name)
          on name (inr r) =
              let here : r.0.name ≡ x = sym r.2 ∙ name in
              let b = g.adds.classes r.0 r.1 t ht z hz (subst (λ v. Lists v (z.supers ++ z.interfaces)) (sym here) l) in
              let s = r.3 b.0 b.1 in
              no-class x (imported s.0 b.0) e s.1 (b.2 ∙ here)

  origin-none : (x : List ℕ) (c d : Class) → Counterpart files.exports old new c d → c.is_imported ≡ true
      → Lists x (c.supers ++ c.interfaces) → class_named before x ≡ None → class_named after_that x ≡ None
  origin-none x _ _ (of_class c e) f l n = absurd (let clash = sym e ∙ f in cc)
  origin-none x _ _ (of_other j k t z ht hz) f l n = export-none x t z ht hz l n
  origin-none x _ _ (of_version j k z y hz hy is) f l n = export-none x old z (at-has files.exports place old g.there)
      hz l
      n

  -- what a class of the package lists is there
  listed-none : (x : List ℕ) (c : Class) → class_named before x ≡ None → lists_missing before c ≡ false
      → Lists x c.supers ⊎ Lists x c.interfaces → ⊥
  unfolding lists_missing
  listed-none x c e f l =
      let s = none (list_any (λ v. is_missing before v) c.supers) (list_any (λ v. is_missing before v) c.interfaces) f
      in
      let found = ⊎_elim (λ h. none-listed (λ v. is_missing before v) c.supers x s.0 h)
      (λ h. none-listed (λ v. is_missing before v) c.interfaces x s.1 h) l in
      absurd (let clash = sym (ap is_none_of e) ∙ found in cc)
    where
      none : (a b : Bool) → (a || b) ≡ false → (a ≡ false) × (b ≡ false)
      none true b e = absurd cc
      none false b e = (refl, e)

  -- what stands in no file before stands in none afterwards
  pub none-kept : (x y : List ℕ) (c : Class) → class_named before x ≡ Some c → Lists y c.supers ⊎ Lists y c.interfaces
      → class_named before y ≡ None → class_named after_that y ≡ None
  none-kept x y c e l n = on (either c.is_imported)
    where
      stood : Has c before
      stood = named-has before x c e

      either : (b : Bool) → (b ≡ true) ⊎ (b ≡ false)
      either true = inl refl
      either false = inr refl

      joined : Lists y c.supers ⊎ Lists y c.interfaces → Lists y (c.supers ++ c.interfaces)
      joined (inl h) = lists-front y c.supers c.interfaces h
      joined (inr h) = lists-behind y c.supers c.interfaces h

      on : (c.is_imported ≡ true) ⊎ (c.is_imported ≡ false) → class_named after_that y ≡ None
      on (inl h) = let r = stands c stood in origin-none y c r.0 r.2 h (joined l) n
      on (inr h) = absurd (listed-none y c n ((ruled-class g.list files g.unbroken c stood).missing h) l)
