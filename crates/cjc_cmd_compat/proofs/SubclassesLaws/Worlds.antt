-- Classes of two worlds, in one of which a new version of an export file stands in the place of the old one.
use Rattle.std.proofs.Common.{◌≡◌, ℕ, zero, suc, ◌+◌, ◌≤◌, refl, sym, ap, subst, ◌∙◌, arith, Bool, true, false, List}
use Rattle.std.proofs.Common.{[], ◌∷◌, ◌++◌, inl, inr, ⊎_elim}
use Rattle.std.specs.Prelude.{◌⊎◌, ◌||◌, ◌&&◌, ◌==◌, not, Option, Some, None, if◌then◌else◌, map, option_map, position}
use Rattle.std.specs.Prelude.{nat_lt, set, slice_get}
use Rattle.std.specs.List.{list_any}
use Rattle.std.specs.Str.{bytes_eq}
use Rattle.std.proofs.lemmas.Bool.Decides.{nat_tests}
use Rattle.cjc_world.specs.Bytes.Breaks.{broken_at, list_spot}
use Rattle.cjc_world.specs.Bytes.declared.order.FileKey.{FileKey}
use Rattle.cjc_world.specs.Bytes.declared.order.FileKey.TheVariants as keys
use Rattle.cjc_world.specs.Bytes.declared.settings.FileLine.{FileLine}
use Rattle.cjc_world.specs.ClassFile.declared.tree.ClassTree.{ClassTree}
use Rattle.cjc_compat.specs.ExportFile.declared.tree.ExportClass.{ExportClass}
use Rattle.cjc_compat.specs.ExportFile.declared.tree.ExportTree.{ExportTree}
use Rattle.cjc_world.specs.Files.{Files}
use Rattle.cjc_world.specs.Classes.{Class, Member, all_classes, class_at, class_named, classes_from, declared, imported}
use Rattle.cjc_world.specs.Classes.{numbered, of_class_file, of_export_file, size}
use Rattle.cjc_world.specs.Supertypes.{Lists}
use Rattle.cjc_world.specs.Supertypes as supertypes
use Rattle.cjc_world.specs.Upwards.{Has, after, foremost}
use Rattle.cjc_world.specs.Lookup.{is_called}
use Rattle.cjc_world.specs.Rules.{at_class, at_member, breaks, breaks_from, class_breaks, class_file_breaks}
use Rattle.cjc_world.specs.Rules.{class_rules}
use Rattle.cjc_world.specs.Rules.{classes_breaks, export_file_breaks, gets_missing, has_language}
use Rattle.cjc_world.specs.Rules.{is_desc_missing}
use Rattle.cjc_world.specs.Rules.{is_earlier, is_of_package, is_other, is_own_super, is_second, is_second_package}
use Rattle.cjc_world.specs.Rules.{is_twice, lists_missing, lists_wrong, member_rules, members_before, members_from}
use Rattle.cjc_world.specs.Rules.{told, when}
use Rattle.cjc_world.specs.Working.Numbers.{AreListed, IsListed}
use Rattle.cjc_world.proofs.Counted.{all-listed}
use Rattle.cjc_world.proofs.Unbroken.{nil_of_map, not_when}
use Rattle.cjc_world.proofs.UpwardLaws.Lines.{has-back, has-cons, has-either, has-front}
use Rattle.cjc_tokens.specs.Members.{signature_of}
use Rattle.cjc_compat.proofs.Keeping.{IsKept}
use Rattle.cjc_tokens.proofs.Facts.{position-cons}
use Rattle.cjc_world.proofs.BytesLists.{name_is, none_left, none_right}

-- ---- what stands in a list

pub has-at : {A : Type 0} (xs : List A) (x : A) → Has x xs → (k : ℕ) × (slice_get xs k ≡ Some x)
has-at [] x h = elim h [ ]
has-at (y ∷ xs) _ foremost = (0, refl)
has-at (y ∷ xs) x (after h) = let r = has-at xs x h in (suc r.0, r.1)

pub at-has : {A : Type 0} (xs : List A) (k : ℕ) (x : A) → slice_get xs k ≡ Some x → Has x xs
at-has [] k x e = absurd cc
at-has (y ∷ xs) zero x e = let is : y ≡ x = cc in subst (λ z. Has z (y ∷ xs)) is foremost
at-has (y ∷ xs) (suc k) x e = after (at-has xs k x e)

pub has-map : {A B : Type 0} (f : A → B) (xs : List A) (x : A) → Has x xs → Has (f x) (map f xs)
has-map f [] x h = elim h [ ]
has-map f (y ∷ xs) _ foremost = foremost
has-map f (y ∷ xs) x (after h) = after (has-map f xs x h)

pub has-mapped : {A B : Type 0} (f : A → B) (xs : List A) (y : B) → Has y (map f xs) → (x : A) × Has x xs × (y ≡ f x)
has-mapped f [] y h = elim h [ ]
has-mapped f (x ∷ xs) _ foremost = (x, foremost, refl)
has-mapped f (x ∷ xs) y (after h) = let r = has-mapped f xs y h in (r.0, after r.1, r.2)

pub any-of : {A : Type 0} (p : A → Bool) (xs : List A) (x : A) → Has x xs → p x ≡ true → list_any p xs ≡ true
any-of p [] x h e = elim h [ ]
any-of p (y ∷ xs) _ foremost e = ap (λ b. b || list_any p xs) e
any-of p (y ∷ xs) x (after h) e = by (p y) (any-of p xs x h e)
  where
    by : (b : Bool) → list_any p xs ≡ true → (b || list_any p xs) ≡ true
    by true f = refl
    by false f = f

pub any-got : {A : Type 0} (p : A → Bool) (xs : List A) → list_any p xs ≡ true → (x : A) × Has x xs × (p x ≡ true)
any-got p [] e = absurd cc
any-got {A} p (y ∷ xs) e = by (p y) refl e (any-got p xs)
  where
    by : (b : Bool) → p y ≡ b → (b || list_any p xs) ≡ true → (list_any p xs ≡ true → (x : A) × Has x xs
        × (p x ≡ true)) → (x : A) × Has x (y ∷ xs) × (p x ≡ true)
    by true h f rest = (y, foremost, h)
    by false h f rest = let r = rest f in (r.0, after r.1, r.2)

pub none-of : {A : Type 0} (p : A → Bool) (xs : List A) (x : A) → list_any p xs ≡ false → Has x xs → p x ≡ false
none-of p xs x e h = by (p x) refl
  where
    by : (b : Bool) → p x ≡ b → p x ≡ false
    by false f = f
    by true f = absurd (let no = any-of p xs x h f in cc)

pub none-listed : (p : List ℕ → Bool) (xs : List (List ℕ)) (x : List ℕ) → list_any p xs ≡ false → Lists x xs
    → p x ≡ false
none-listed p [] x e l = elim l [ ]
none-listed p (y ∷ xs) _ e supertypes.foremost = by (p y) e
  where
    by : (b : Bool) → (b || list_any p xs) ≡ false → b ≡ false
    by true e = absurd cc
    by false e = refl
none-listed p (y ∷ xs) x e (supertypes.after l) = none-listed p xs x (by (p y) e) l
  where
    by : (b : Bool) → (b || list_any p xs) ≡ false → list_any p xs ≡ false
    by true e = absurd cc
    by false e = e

-- ---- each class breaks no rule

-- The class breaks none of 202, 203 and 208, and has no two methods of one name and descriptor.
pub record IsRuled (w : List Class) (c : Class) : Type 0 where
  pub second : is_second w c ≡ false
  pub missing : c.is_imported ≡ false → lists_missing w c ≡ false
  pub wrong : lists_wrong w c ≡ false
  pub methods : (i : ℕ) (m : Member) → slice_get c.methods i ≡ Some m → is_twice c.methods i m.name m.desc ≡ false

module _ (file : FileKey) (name : List ℕ) (place : ℕ) (w : List Class) (c : Class) where
  members-once : (i : ℕ) (ms : List Member) (k : ℕ) (m : Member) → members_from file name place w c false i ms ≡ []
      → slice_get ms k ≡ Some m → is_twice c.methods (i + k) m.name m.desc ≡ false
  unfolding members_from member_rules
  members-once i [] k m e is = absurd cc
  members-once i (x ∷ ms) zero m e is =
      let same : x ≡ m = cc in
      let at = λ (rule : ℕ). at_member file name place c.name (members_before false c + i + 1)
      (told false x.name x.desc)
      rule in
      let here = nil_of_map at (member_rules w c c.methods i x.name x.desc) (none_left (map at
      (member_rules w c c.methods
      i x.name x.desc)) (members_from file name place w c false (i + 1) ms) e) in
      let twice = not_when (is_twice c.methods i x.name x.desc) 202 (none_left (when
      (is_twice c.methods i x.name x.desc)
      202) (when (not c.is_imported && is_desc_missing w x.desc) 203) here) in
      let stay : i + 0 ≡ i = omega arith in
      ap (λ j. is_twice c.methods j m.name m.desc) stay
      ∙ ap (λ (y : Member). is_twice c.methods i y.name y.desc) (sym same) ∙ twice
  members-once i (x ∷ ms) (suc k) m e is =
      let at = λ (rule : ℕ). at_member file name place c.name (members_before false c + i + 1)
      (told false x.name x.desc)
      rule in
      let rest = members-once (i + 1) ms k m (none_right (map at (member_rules w c c.methods i x.name x.desc))
      (members_from file name place w c false (i + 1) ms) e) is in
      let next : i + suc k ≡ i + 1 + k = omega arith in
      ap (λ j. is_twice c.methods j m.name m.desc) next ∙ rest

ruled : (p : List ℕ) (file : FileKey) (name : List ℕ) (k : ℕ) (w : List Class) (c : Class)
    → class_breaks p file name k w c ≡ [] → IsRuled w c
unfolding class_breaks class_rules
ruled p file name k w c e =
    let A = when (not c.is_imported && not (is_of_package p c.name)) 201 in
    let B = when (is_second w c) 202 in
    let D = when (not c.is_imported && (lists_missing w c || gets_missing w c)) 203 in
    let E = when (is_own_super w c) 204 in
    let G = when (lists_wrong w c) 208 in
    let F = members_from file name k w c true 0 c.fields in
    let M = members_from file name k w c false 0 c.methods in
    let at = λ (rule : ℕ). at_class file name k c.name rule in
    let R = map at (A ++ B ++ D ++ E ++ G) in
    let all = nil_of_map at (A ++ B ++ D ++ E ++ G) (none_left R F (none_left (R ++ F) M e)) in
    let three = none_left (A ++ B ++ D) E (none_left (A ++ B ++ D ++ E) G all) in
    record {
      second = not_when (is_second w c) 202 (none_right A B (none_left (A ++ B) D three));
      missing = λ here. by c.is_imported (lists_missing w c) (gets_missing w c) here
          (not_when (not c.is_imported && (lists_missing w c || gets_missing w c)) 203 (none_right (A ++ B) D three));
      wrong = not_when (lists_wrong w c) 208 (none_right (A ++ B ++ D ++ E) G all);
      methods = λ i m is. let start : 0 + i ≡ i = omega arith in sym (ap (λ j. is_twice c.methods j m.name m.desc)
          start)
          ∙ members-once file name k w c 0 c.methods i m (none_right (R ++ F) M e) is;
    }
  where
    by : (i a b : Bool) → i ≡ false → (not i && (a || b)) ≡ false → a ≡ false
    by true a b h e = absurd cc
    by false true b h e = absurd cc
    by false false b h e = refl

ruled-classes : (p : List ℕ) (file : FileKey) (name : List ℕ) (k : ℕ) (w cs : List Class)
    → classes_breaks p file name k w cs ≡ [] → (c : Class) → Has c cs → IsRuled w c
unfolding classes_breaks
ruled-classes p file name k w [] e c h = elim h [ ]
ruled-classes p file name k w (d ∷ cs) e _ foremost = ruled p file name k w d (none_left
    (class_breaks p file name k w d)
    (classes_breaks p file name (k + 1) w cs) e)
ruled-classes p file name k w (d ∷ cs) e c (after h) = ruled-classes p file name (k + 1) w cs
    (none_right (class_breaks p file name k w d) (classes_breaks p file name (k + 1) w cs) e) c h

module _ (files : Files) (w : List Class) where
  ruled-class_file : (file : FileKey) (name : List ℕ) (number : ℕ) (o : Option ClassTree)
      → class_file_breaks files file name w number o ≡ [] → (c : Class) → Has c (of_class_file number o) → IsRuled w c
  ruled-class_file file name number None e c h = elim h [ ]
  ruled-class_file file name number (Some t) e c h = on (has-cons c (declared number t) [] h)
    where
      on : (c ≡ declared number t) ⊎ Has c [] → IsRuled w c
      on (inl is) = subst (IsRuled w) (sym is) (ruled files.package_name file name 1 w (declared number t) e)
      on (inr l) = elim l [ ]

  ruled-export_file : (file : FileKey) (name : List ℕ) (export_file number : ℕ) (o : Option ExportTree)
      → export_file_breaks files file name w export_file number o ≡ [] → (c : Class)
      → Has c (of_export_file number o) → IsRuled w c
  ruled-export_file file name n number None e c h = elim h [ ]
  ruled-export_file file name n number (Some t) e c h =
      ruled-classes files.package_name file name 1 w (numbered number t.classes)
      (none_right (map (λ rule. at_class file name 0 [] rule) (when (is_second_package files n t) 202))
      (classes_breaks files.package_name file name 1 w (numbered number t.classes)) e) c h

  ruled-lines : (k c e i : ℕ) (lines : List FileLine) → breaks_from files w k c e i lines ≡ [] → (d : Class)
      → Has d (classes_from files.classes files.exports c e i lines) → IsRuled w d
  unfolding breaks_from classes_from
  ruled-lines k c e i [] p d h = elim h [ ]
  ruled-lines k c e i (line ∷ lines) p d h =
      by line.class_file p h
      (ruled-lines (k + 1) (c + 1) e i lines)
      (ruled-lines (k + 1) c (e + 1) (i + size (slice_get files.exports e)) lines)
    where
      by : (b : Bool)
          → (if b
          then class_file_breaks files (keys.Line k) line.name w c (slice_get files.classes c)
          ++ breaks_from files w (k + 1) (c + 1) e i lines
          else export_file_breaks files (keys.Line k) line.name w e i (slice_get files.exports e)
          ++ breaks_from files w (k + 1) c (e + 1) (i + size (slice_get files.exports e)) lines) ≡ []
          → Has d (if b
          then of_class_file c (slice_get files.classes c) ++ classes_from files.classes files.exports (c + 1) e i lines
          else of_export_file i (slice_get files.exports e) ++ classes_from files.classes files.exports c (e + 1)
          (i + size (slice_get files.exports e)) lines)
          → (breaks_from files w (k + 1) (c + 1) e i lines ≡ [] → (d : Class)
          → Has d (classes_from files.classes files.exports (c + 1) e i lines) → IsRuled w d)
          → (breaks_from files w (k + 1) c (e + 1) (i + size (slice_get files.exports e)) lines ≡ [] → (d : Class)
          → Has d (classes_from files.classes files.exports c (e + 1) (i + size (slice_get files.exports e)) lines)
          → IsRuled w d)
          → IsRuled w d
      by true q h r s =
          let here = class_file_breaks files (keys.Line k) line.name w c (slice_get files.classes c) in
          let rest = breaks_from files w (k + 1) (c + 1) e i lines in
          ⊎_elim
          (λ g. ruled-class_file (keys.Line k) line.name c (slice_get files.classes c) (none_left here rest q) d g)
          (λ g. r (none_right here rest q) d g)
          (has-either d (of_class_file c (slice_get files.classes c)) (classes_from files.classes files.exports (c + 1)
          e i lines) h)
      by false q h r s =
          let here = export_file_breaks files (keys.Line k) line.name w e i (slice_get files.exports e) in
          let rest = breaks_from files w (k + 1) c (e + 1) (i + size (slice_get files.exports e)) lines in
          ⊎_elim
          (λ g. ruled-export_file (keys.Line k) line.name e i (slice_get files.exports e) (none_left here rest q) d g)
          (λ g. s (none_right here rest q) d g)
          (has-either d (of_export_file i (slice_get files.exports e)) (classes_from files.classes files.exports c
          (e + 1) (i + size (slice_get files.exports e)) lines) h)

-- ---- a world that breaks no rule

module _ (list : List ℕ) (files : Files) (unbroken : breaks list files ≡ []) where
  abbrev w : List Class
  w = all_classes files

  pub ruled-class : (c : Class) → Has c w → IsRuled w c
  unfolding breaks all_classes
  ruled-class c h = ruled-lines files w 0 0 0 0 files.lines (none_right (map (λ rule. broken_at (list_spot list) rule)
      (when (not (has_language w files.exports)) 207)) (breaks_from files w 0 0 0 0 files.lines) unbroken) c h

pub named-has : (w : List Class) (x : List ℕ) (c : Class) → class_named w x ≡ Some c → Has c w
unfolding class_named
named-has [] x c e = absurd cc
named-has (d ∷ w) x c e = by (bytes_eq d.name x) e (named-has w x c)
  where
    by : (b : Bool) → (if b then Some d else class_named w x) ≡ Some c → (class_named w x ≡ Some c → Has c w)
        → Has c (d ∷ w)
    by true e rest = let is : d ≡ c = cc in subst (λ v. Has v (d ∷ w)) is foremost
    by false e rest = after (rest e)

pub has-named : (w : List Class) (c : Class) → Has c w → (d : Class) × (class_named w c.name ≡ Some d)
unfolding class_named
has-named [] c h = elim h [ ]
has-named (d ∷ w) _ foremost = (d, ap (λ b. if b then Some d else class_named w d.name) (name_is d.name))
has-named (d ∷ w) c (after h) = by (bytes_eq d.name c.name) (has-named w c h)
  where
    by : (b : Bool) → (e : Class) × (class_named w c.name ≡ Some e) → (e : Class) × ((if b then Some d
        else class_named w c.name) ≡ Some e)
    by true r = (d, refl)
    by false r = r

listed-has : (w cs : List Class) (c : Class) → AreListed w cs → Has c cs → IsListed w c
unfolding AreListed
listed-has w [] c a h = elim h [ ]
listed-has w (d ∷ cs) _ a foremost = a.0
listed-has w (d ∷ cs) c a (after h) = listed-has w cs c a.1 h

module _ (list : List ℕ) (files : Files) (unbroken : breaks list files ≡ []) where
  listed : (c : Class) → Has c (all_classes files) → IsListed (all_classes files) c
  unfolding all_classes
  listed c h = listed-has (all_classes files) (all_classes files) c (all-listed files.classes files.exports files.lines)
      h

  -- a class is the one of its name
  pub own-name : (c : Class) → Has c (all_classes files) → class_named (all_classes files) c.name ≡ Some c
  unfolding is_second
  own-name c h =
      let r = has-named (all_classes files) c h in
      let d = r.0 in
      let there = named-has (all_classes files) c.name d r.1 in
      let second = (ruled-class list files unbroken c h).second in
      let one = on c.is_imported d.is_imported (c.number == d.number) refl
      (ap (is_other c) (sym r.1) ∙ second) in
      let number : c.number ≡ d.number = grind (arith, nat_tests) in
      let alike : class_at (all_classes files) c.is_imported c.number
      ≡ class_at (all_classes files) d.is_imported d.number = ap (λ b. class_at (all_classes files) b c.number) one.0
      ∙ ap (class_at (all_classes files) d.is_imported) number in
      let is : c ≡ d = same_one (sym (listed c h) ∙ alike ∙ listed d there) in
      r.1 ∙ ap Some (sym is)
    where
      same_one : {x y : Class} → Some x ≡ Some y → x ≡ y
      same_one e = cc

      on : (i j n : Bool) → (n ≡ n) → not ((if i then j else not j) && n) ≡ false → (i ≡ j) × (n ≡ true)
      on true true true e f = (refl, refl)
      on false false true e f = (refl, refl)
      on true false n e f = absurd cc
      on false true n e f = absurd cc
      on true true false e f = absurd cc
      on false false false e f = absurd cc

-- ---- no two methods of one name and descriptor

position-first : (p : Member → Bool) (ms : List Member) (i : ℕ) (m : Member) → slice_get ms i ≡ Some m → p m ≡ true
    → (k : ℕ) × (position p ms ≡ Some k) × (k ≤ i)
position-first p [] i m e h = absurd cc
position-first p (x ∷ ms) zero m e h =
    let is : x ≡ m = cc in (
      0,
      position-cons p x ms ∙ ap (λ b. if b then Some 0 else option_map suc (position p ms)) (ap p is
          ∙ h),
      omega arith,
    )
position-first p (x ∷ ms) (suc i) m e h =
    let r = by (p x) (position-first p ms i m e h) in
    (r.0, position-cons p x ms ∙ r.1, r.2)
  where
    by : (b : Bool) → (k : ℕ) × (position p ms ≡ Some k) × (k ≤ i) → (k : ℕ) × ((if b then Some 0
        else option_map suc (position p ms)) ≡ Some k) × (k ≤ suc i)
    by true r = (0, refl, omega arith)
    by false r = let le = r.2 in (suc r.0, ap (option_map suc) r.1, omega (arith, le))

-- the place of a method is the first of its name and descriptor
first-place : (w : List Class) (c : Class) → IsRuled w c → (i : ℕ) (m : Member) → slice_get c.methods i ≡ Some m
    → position (λ k. is_called m.name m.desc k) c.methods ≡ Some i
unfolding is_twice
first-place w c r i m e =
    let at = position-first (λ k. is_called m.name m.desc k) c.methods i m e (called m) in
    let twice : nat_lt at.0 i ≡ false = ap (λ o. is_earlier o i) (sym at.1) ∙ r.methods i m e in
    let le = at.2 in
    let ge : i ≤ at.0 = grind (arith, nat_tests) in
    let is : at.0 ≡ i = omega (arith, le, ge) in
    at.1 ∙ ap Some is
  where
    called : (m : Member) → is_called m.name m.desc m ≡ true
    called m = ap (λ b. b && bytes_eq m.desc m.desc) (name_is m.name) ∙ name_is m.desc

pub methods-once : (w : List Class) (c : Class) → IsRuled w c → (a b : Member) → Has a c.methods → Has b c.methods
    → signature_of a ≡ signature_of b → a ≡ b
methods-once w c r a b h g e =
    let i = has-at c.methods a h in
    let j = has-at c.methods b g in
    let p = first-place w c r i.0 a i.1 in
    let q = first-place w c r j.0 b j.1 in
    let alike : position (λ k. is_called a.name a.desc k) c.methods ≡ position (λ k. is_called b.name b.desc k)
    c.methods
    = ap (λ s. position (λ k. is_called s.name s.desc k) c.methods) e in
    let places : i.0 ≡ j.0 = same_number (sym p ∙ alike ∙ q) in
    same_member (sym i.1 ∙ ap (slice_get c.methods) places ∙ j.1)
  where
    same_number : {x y : ℕ} → Some x ≡ Some y → x ≡ y
    same_number e = cc

    same_member : {x y : Member} → Some x ≡ Some y → x ≡ y
    same_member e = cc

-- ---- where a class of one world stands in the other

numbered-got : (k : ℕ) (cs : List ExportClass) (d : Class) → Has d (numbered k cs) → (j : ℕ) × (x : ExportClass)
    × Has x cs × (d ≡ imported j x)
numbered-got k [] d h = elim h [ ]
numbered-got k (c ∷ cs) _ foremost = (k, c, foremost, refl)
numbered-got k (c ∷ cs) d (after h) = let r = numbered-got (k + 1) cs d h in (r.0, r.1, after r.2, r.3)

numbered-has : (k : ℕ) (cs : List ExportClass) (x : ExportClass) → Has x cs → (j : ℕ) × Has (imported j x) (numbered k
    cs)
numbered-has k [] x h = elim h [ ]
numbered-has k (c ∷ cs) _ foremost = (k, foremost)
numbered-has k (c ∷ cs) x (after h) = let r = numbered-has (k + 1) cs x h in (r.0, after r.1)

set-got : {A : Type 0} (xs : List A) (k e : ℕ) (x y : A) → slice_get xs k ≡ Some x
    → (slice_get (set xs k y) e ≡ slice_get xs e) ⊎ ((slice_get xs e ≡ Some x) × (slice_get (set xs k y) e ≡ Some y))
set-got [] k e x y h = inl refl
set-got (z ∷ xs) zero zero x y h = inr (h, refl)
set-got (z ∷ xs) zero (suc e) x y h = inl refl
set-got (z ∷ xs) (suc k) zero x y h = inl refl
set-got (z ∷ xs) (suc k) (suc e) x y h = set-got xs k e x y h

-- A class of the first world and the one that stands for it in the second: of a class file, of another export file, or
-- of the two versions.
pub data Counterpart (exports : List ExportTree) (old new : ExportTree) : Class → Class → Type 0 where
  of_class : (c : Class) → c.is_imported ≡ false → Counterpart exports old new c c
  of_other : (j k : ℕ) (t : ExportTree) (x : ExportClass) → Has t exports → Has x t.classes
      → Counterpart exports old new (imported j x) (imported k x)
  of_version : (j k : ℕ) (x y : ExportClass) → Has x old.classes → Has y new.classes → IsKept x y
      → Counterpart exports old new (imported j x) (imported k y)

module _ (classes : List ClassTree) (exports : List ExportTree) (place : ℕ) (old new : ExportTree)
    (there : slice_get exports place ≡ Some old) (still : (x : ExportClass) → Has x old.classes → (y : ExportClass)
    × Has y new.classes × IsKept x y) where
  abbrev pub Stands : List Class → Class → Type 0
  Stands w d = (e : Class) × Has e w × Counterpart exports old new d e

  in-class_file : (number : ℕ) (o : Option ClassTree) (d : Class) → Has d (of_class_file number o)
      → d.is_imported ≡ false
  in-class_file number None d h = elim h [ ]
  in-class_file number (Some t) d h = on (has-cons d (declared number t) [] h)
    where
      on : (d ≡ declared number t) ⊎ Has d [] → d.is_imported ≡ false
      on (inl is) = ap (λ (v : Class). v.is_imported) is
      on (inr l) = elim l [ ]

  in-other : (i i' e : ℕ) (o : Option ExportTree) (d : Class) → slice_get exports e ≡ o → Has d (of_export_file i o)
      → Stands (of_export_file i' o) d
  in-other i i' e None d f h = elim h [ ]
  in-other i i' e (Some t) d f h =
      let r = numbered-got i t.classes d h in
      let s = numbered-has i' t.classes r.1 r.2 in (
        imported s.0 r.1,
        s.1,
        subst (λ v. Counterpart exports old new v (imported s.0 r.1)) (sym r.3)
            (of_other r.0 s.0 t r.1 (at-has exports e t f) r.2),
      )

  in-version : (i i' : ℕ) (d : Class) → Has d (of_export_file i (Some old)) → Stands (of_export_file i' (Some new)) d
  in-version i i' d h =
      let r = numbered-got i old.classes d h in
      let y = still r.1 r.2 in
      let s = numbered-has i' new.classes y.0 y.1 in (
        imported s.0 y.0,
        s.1,
        subst (λ v. Counterpart exports old new v (imported s.0 y.0)) (sym r.3)
            (of_version r.0 s.0 r.1 y.0 r.2 y.1 y.2),
      )

  in-export_file : (i i' e : ℕ) (d : Class) → Has d (of_export_file i (slice_get exports e))
      → Stands (of_export_file i' (slice_get (set exports place new) e)) d
  in-export_file i i' e d h = on (set-got exports place e old new there)
    where
      on : (slice_get (set exports place new) e ≡ slice_get exports e) ⊎ ((slice_get exports e ≡ Some old)
          × (slice_get (set exports place new) e ≡ Some new)) → Stands (of_export_file i' (slice_get (set exports place
          new) e)) d
      on (inl f) = subst (λ o. Stands (of_export_file i' o) d) (sym f) (in-other i i' e (slice_get exports e) d refl h)
      on (inr f) = subst (λ o. Stands (of_export_file i' o) d) (sym f.1) (in-version i i' d (subst (λ o. Has d
          (of_export_file i o)) f.0 h))

  pub forward : (c e i i' : ℕ) (lines : List FileLine) (d : Class) → Has d (classes_from classes exports c e i lines)
      → Stands (classes_from classes (set exports place new) c e i' lines) d
  unfolding classes_from
  forward c e i i' [] d h = elim h [ ]
  forward c e i i' (line ∷ lines) d h =
      by line.class_file h (forward (c + 1) e i i' lines d) (forward c (e + 1) (i + size (slice_get exports e))
      (i' + size (slice_get (set exports place new) e)) lines d)
    where
      by : (b : Bool) → Has d (if b then of_class_file c (slice_get classes c) ++ classes_from classes exports
          (c + 1) e i
          lines else of_export_file i (slice_get exports e) ++ classes_from classes exports c (e + 1)
          (i + size (slice_get exports e)) lines)
          → (Has d (classes_from classes exports (c + 1) e i lines)
          → Stands (classes_from classes (set exports place new) (c + 1) e i' lines) d)
          → (Has d (classes_from classes exports c (e + 1) (i + size (slice_get exports e)) lines)
          → Stands (classes_from classes (set exports place new) c (e + 1) (i' + size (slice_get (set exports place new)
          e)) lines) d)
          → Stands (if b then of_class_file c (slice_get classes c) ++ classes_from classes (set exports place new)
          (c + 1) e i' lines else of_export_file i' (slice_get (set exports place new) e) ++ classes_from classes
          (set exports place new) c (e + 1) (i' + size (slice_get (set exports place new) e)) lines) d
      by true h r s =
          let a = of_class_file c (slice_get classes c) in
          let b = classes_from classes (set exports place new) (c + 1) e i' lines in
          ⊎_elim (λ g. (d, has-front d a b g, of_class d (in-class_file c (slice_get classes c) d g)))
          (λ g. let q = r g in (q.0, has-back q.0 a b q.1, q.2))
          (has-either d a (classes_from classes exports (c + 1) e i lines) h)
      by false h r s =
          let a = of_export_file i' (slice_get (set exports place new) e) in
          let b = classes_from classes (set exports place new) c (e + 1) (i' + size (slice_get (set exports place new)
          e)) lines in
          ⊎_elim (λ g. let q = in-export_file i i' e d g in (q.0, has-front q.0 a b q.1, q.2))
          (λ g. let q = s g in (q.0, has-back q.0 a b q.1, q.2))
          (has-either d (of_export_file i (slice_get exports e)) (classes_from classes exports c (e + 1)
          (i + size (slice_get exports e)) lines) h)

  -- what stands in the first world for a class of the second: a class of its name, or all of the old version
  abbrev pub Stood : List Class → Class → Type 0
  Stood w d = ((e : Class) × Has e w × (e.name ≡ d.name)) ⊎ ((y : ExportClass) × Has y new.classes × (d.name ≡ y.name)
      × ((x : ExportClass) → Has x old.classes → (k : ℕ) × Has (imported k x) w))

  stood-front : (a b : List Class) (d : Class) → Stood a d → Stood (a ++ b) d
  stood-front a b d (inl r) = inl (r.0, has-front r.0 a b r.1, r.2)
  stood-front a b d (inr r) = inr (r.0, r.1, r.2, λ x h. let s = r.3 x h in (s.0, has-front (imported s.0 x) a b s.1))

  stood-back : (a b : List Class) (d : Class) → Stood b d → Stood (a ++ b) d
  stood-back a b d (inl r) = inl (r.0, has-back r.0 a b r.1, r.2)
  stood-back a b d (inr r) = inr (r.0, r.1, r.2, λ x h. let s = r.3 x h in (s.0, has-back (imported s.0 x) a b s.1))

  of-other : (i i' : ℕ) (o : Option ExportTree) (d : Class) → Has d (of_export_file i' o)
      → Stood (of_export_file i o) d
  of-other i i' None d h = elim h [ ]
  of-other i i' (Some t) d h =
      let r = numbered-got i' t.classes d h in
      let s = numbered-has i t.classes r.1 r.2 in
      inl (imported s.0 r.1, s.1, ap (λ (v : Class). v.name) (sym r.3))

  of-version : (i i' : ℕ) (d : Class) → Has d (of_export_file i' (Some new)) → Stood (of_export_file i (Some old)) d
  of-version i i' d h =
      let r = numbered-got i' new.classes d h in
      inr (r.1, r.2, ap (λ (v : Class). v.name) r.3, λ x g. numbered-has i old.classes x g)

  of-export_file : (i i' e : ℕ) (d : Class) → Has d (of_export_file i' (slice_get (set exports place new) e))
      → Stood (of_export_file i (slice_get exports e)) d
  of-export_file i i' e d h = on (set-got exports place e old new there)
    where
      on : (slice_get (set exports place new) e ≡ slice_get exports e) ⊎ ((slice_get exports e ≡ Some old)
          × (slice_get (set exports place new) e ≡ Some new)) → Stood (of_export_file i (slice_get exports e)) d
      on (inl f) = of-other i i' (slice_get exports e) d (subst (λ o. Has d (of_export_file i' o)) f h)
      on (inr f) = subst (λ o. Stood (of_export_file i o) d) (sym f.0) (of-version i i' d (subst (λ o. Has d
          (of_export_file i' o)) f.1 h))

  pub backward : (c e i i' : ℕ) (lines : List FileLine) (d : Class) → Has d (classes_from classes
      (set exports place new) c e
      i' lines) → Stood (classes_from classes exports c e i lines) d
  unfolding classes_from
  backward c e i i' [] d h = elim h [ ]
  backward c e i i' (line ∷ lines) d h =
      by line.class_file h (backward (c + 1) e i i' lines d) (backward c (e + 1) (i + size (slice_get exports e))
      (i' + size (slice_get (set exports place new) e)) lines d)
    where
      by : (b : Bool) → Has d (if b then of_class_file c (slice_get classes c) ++ classes_from classes
          (set exports place
          new) (c + 1) e i' lines else of_export_file i' (slice_get (set exports place new) e) ++ classes_from classes
          (set exports place new) c (e + 1) (i' + size (slice_get (set exports place new) e)) lines)
          → (Has d (classes_from classes (set exports place new) (c + 1) e i' lines)
          → Stood (classes_from classes exports (c + 1) e i lines) d)
          → (Has d (classes_from classes (set exports place new) c (e + 1) (i' + size (slice_get (set exports place new)
          e)) lines) → Stood (classes_from classes exports c (e + 1) (i + size (slice_get exports e)) lines) d)
          → Stood (if b then of_class_file c (slice_get classes c) ++ classes_from classes exports (c + 1) e i lines
          else of_export_file i (slice_get exports e) ++ classes_from classes exports c (e + 1)
          (i + size (slice_get exports e)) lines) d
      by true h r s =
          let a = of_class_file c (slice_get classes c) in
          let b = classes_from classes exports (c + 1) e i lines in
          ⊎_elim (λ g. inl (d, has-front d a b g, refl)) (λ g. stood-back a b d (r g))
          (has-either d a (classes_from classes (set exports place new) (c + 1) e i' lines) h)
      by false h r s =
          let a = of_export_file i (slice_get exports e) in
          let b = classes_from classes exports c (e + 1) (i + size (slice_get exports e)) lines in
          ⊎_elim (λ g. stood-front a b d (of-export_file i i' e d g)) (λ g. stood-back a b d (s g))
          (has-either d (of_export_file i' (slice_get (set exports place new) e)) (classes_from classes
          (set exports place new) c (e + 1) (i' + size (slice_get (set exports place new) e)) lines) h)
