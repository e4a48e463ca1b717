-- A class of a package that breaks no rule of names is found by its name, and a method of it by its own.
use Rattle.std.proofs.Common.{◌≡◌, ℕ, zero, suc, ◌+◌, ◌<◌, ◌≤◌, refl, sym, ap, subst, ◌∙◌, arith, Bool, true, false}
use Rattle.std.proofs.Common.{List, [], ◌∷◌, ◌++◌, length}
use Rattle.std.specs.Prelude.{map, not, ◌&&◌, ◌||◌, ◌==◌, ◌-◌, Option, Some, None, cond, option_map, option_and_then}
use Rattle.std.specs.Prelude.{position, slice_get, nat_lt, if◌then◌else◌}
use Rattle.std.specs.Str.{bytes_eq}
use Rattle.std.proofs.lemmas.Bool.{eqb-true, eqb-false}
use Rattle.std.proofs.lemmas.Option.{slice_get-map, slice_get_within}
use Rattle.cjc_bytes.specs.Breaks.{broken_at, list_spot}
use Rattle.cjc_bytes.specs.declared.fault.MemberId.{MemberId}
use Rattle.cjc_bytes.specs.declared.order.FileKey.{FileKey}
use Rattle.cjc_bytes.specs.declared.order.FileKey.TheVariants as keys
use Rattle.cjc_bytes.specs.declared.settings.FileLine.{FileLine}
use Rattle.cjc_bytes.proofs.Lists.{name_is, none_left, none_right}
use Rattle.cjc_code.specs.ClassFile.declared.tree.ClassTree.{ClassTree}
use Rattle.cjc_code.specs.ClassFile.declared.tree.MethodTree.{MethodTree}
use Rattle.cjc_vtable.specs.LowerClassOrder.Classes.Numbers.{class_count}
use Rattle.cjc_jvm_semantics.specs.OnePackage.{method_hit}
use Rattle.cjc_narrow.specs.Rows.Package.{flags_of}
use Rattle.cjc_narrow.specs.Rows.Resolved.{method_found}
use Rattle.cjc_vtable.proofs.TokensFacts.{position-cons}
use Rattle.cjc_vtable.proofs.Filed.{at-number}
use Rattle.cjc_vtable.proofs.Numbers.{own_listed}
use Rattle.cjc_world.specs.declared.found.Found.{Found}
use Rattle.cjc_world.specs.Classes.{Class, Member, all_classes, class_at, class_named, declared, is_at, method_of_class}
use Rattle.cjc_world.specs.Classes.{size}
use Rattle.cjc_world.specs.Files.{Files}
use Rattle.cjc_world.specs.Supertypes.{supertypes, line}
use Rattle.cjc_world.specs.Interfaces.{gathered, known}
use Rattle.cjc_world.specs.Lookup.{find_method, first, is_called, member_at, or_else, own_method}
use Rattle.cjc_world.specs.Rules.{at_class, at_member, breaks, breaks_from, class_breaks, class_file_breaks}
use Rattle.cjc_world.specs.Rules.{class_rules, export_file_breaks, gets_missing, has_language, is_desc_missing}
use Rattle.cjc_world.specs.Rules.{is_earlier, is_of_package, is_other, is_own_super, is_second, is_twice, lists_missing}
use Rattle.cjc_world.specs.Rules.{lists_wrong, member_rules, members, members_before, members_from, same_place, told}
use Rattle.cjc_world.specs.Rules.{when}
use Rattle.cjc_world.proofs.Unbroken.{nil_of_map, not_when, unbroken_is_acyclic}
use Rattle.cjc_world.proofs.Upwards.{line_goes_up}
use Rattle.cjc_vtable.proofs.ClassOrderStanding.{class_count-cons}

-- ---- what is broken at a class file

-- nothing at the class of this number and at its members
unfoldable pub IsClean : Files → List Class → ℕ → ClassTree → Type 0
IsClean files w n c = (file : FileKey) × (name : List ℕ) × (class_breaks files.package_name file name 1 w (declared n c)
    ≡ [])

clean_file : (files : Files) (w : List Class) (file : FileKey) (name : List ℕ) (n : ℕ) (t : ClassTree)
    → slice_get files.classes n ≡ Some t → class_file_breaks files file name w n (slice_get files.classes n) ≡ []
    → IsClean files w n t
unfolding IsClean
clean_file files w file name n t is e = (file, name, sym (ap (class_file_breaks files file name w n) is) ∙ e)

pub clean_from : (files : Files) (w : List Class) (k c e i : ℕ) (lines : List FileLine) (n : ℕ) (t : ClassTree)
    → slice_get files.classes n ≡ Some t → breaks_from files w k c e i lines ≡ [] → c ≤ n → n < c + class_count lines
    → IsClean files w n t
unfolding breaks_from
clean_from files w k c e i [] n t is p le lt = absurd (omega arith)
clean_from files w k c e i (line ∷ lines) n t is p le lt =
    by line.class_file p (subst (λ q. n < c + q) (class_count-cons line lines) lt)
    (clean_from files w (k + 1) (c + 1) e i lines n t is)
    (λ q lt. clean_from files w (k + 1) c (e + 1) (i + size (slice_get files.exports e)) lines n t is q le lt)
  where
    by : (b : Bool)
        → (if b
        then class_file_breaks files (keys.Line k) line.name w c (slice_get files.classes c)
        ++ breaks_from files w (k + 1) (c + 1) e i lines
        else export_file_breaks files (keys.Line k) line.name w e i (slice_get files.exports e)
        ++ breaks_from files w (k + 1) c (e + 1) (i + size (slice_get files.exports e)) lines) ≡ []
        → n < c + (cond b 1 0 + class_count lines)
        → (breaks_from files w (k + 1) (c + 1) e i lines ≡ [] → c + 1 ≤ n → n < c + 1 + class_count lines
        → IsClean files w n t)
        → (breaks_from files w (k + 1) c (e + 1) (i + size (slice_get files.exports e)) lines ≡ []
        → n < c + class_count lines → IsClean files w n t)
        → IsClean files w n t
    by true q h r s = go (c == n) refl
      where
        go : (b : Bool) → (c == n) ≡ b → IsClean files w n t
        go true f =
            let here = class_file_breaks files (keys.Line k) line.name w c (slice_get files.classes c) in
            let rest = breaks_from files w (k + 1) (c + 1) e i lines in
            clean_file files w (keys.Line k) line.name n t is (subst (λ m. class_file_breaks files (keys.Line k)
            line.name w m (slice_get files.classes m) ≡ []) (eqb-true c n f) (none_left here rest q))
        go false f =
            let here = class_file_breaks files (keys.Line k) line.name w c (slice_get files.classes c) in
            let rest = breaks_from files w (k + 1) (c + 1) e i lines in
            r (none_right here rest q) (let ne = eqb-false c n f in omega (arith, ne)) (omega arith)
    by false q h r s =
        let here = export_file_breaks files (keys.Line k) line.name w e i (slice_get files.exports e) in
        let rest = breaks_from files w (k + 1) c (e + 1) (i + size (slice_get files.exports e)) lines in
        s (none_right here rest q) (omega arith)

-- ---- what is broken at a class, and at its methods

-- What a class of the package keeps itself.
pub record KeepsOwn (package_name : List ℕ) (w : List Class) (n : ℕ) (c : ClassTree) : Type 0 where
  pub named : is_of_package package_name c.name ≡ true
  pub once : is_second w (declared n c) ≡ false
  pub there : lists_missing w (declared n c) ≡ false
  pub methods : (k : ℕ) (m : MethodTree) → slice_get c.methods k ≡ Some m
      → (is_twice (map method_of_class c.methods) k m.name m.desc ≡ false) × (is_desc_missing w m.desc ≡ false)

module _ (file : FileKey) (file_name : List ℕ) (w : List Class) (c : Class) (field : Bool) where
  abbrev pub of_member : ℕ → Member → List ℕ
  of_member i m = member_rules w c (members field c) i m.name m.desc

  -- nothing is broken at one of the members
  pub clean_members : (i : ℕ) (ms : List Member) (k : ℕ) (m : Member)
      → members_from file file_name 1 w c field i ms ≡ [] → slice_get ms k ≡ Some m → of_member (i + k) m ≡ []
  unfolding members_from
  clean_members i [] k m e is = cc
  clean_members i (x ∷ ms) zero m e is =
      let same : x ≡ m = cc in
      let at = λ (rule : ℕ). at_member file file_name 1 c.name (members_before field c + i + 1)
      (told field x.name x.desc) rule in
      let here : of_member i x ≡ [] = nil_of_map at (of_member i x) (none_left (map at (of_member i x))
      (members_from file file_name 1 w c field (i + 1) ms) e) in
      let place : i + 0 ≡ i = omega arith in
      ap (λ j. of_member j m) place ∙ ap (of_member i) (sym same) ∙ here
  clean_members i (x ∷ ms) (suc k) m e is =
      let at = λ (rule : ℕ). at_member file file_name 1 c.name (members_before field c + i + 1)
      (told field x.name x.desc) rule in
      let rest = clean_members (i + 1) ms k m (none_right (map at (of_member i x)) (members_from file file_name 1 w c
      field (i + 1) ms) e) is in
      let place : i + suc k ≡ i + 1 + k = omega arith in
      ap (λ j. of_member j m) place ∙ rest

keeps_own : (files : Files) (w : List Class) (n : ℕ) (c : ClassTree) → IsClean files w n c
    → KeepsOwn files.package_name w n c
unfolding IsClean class_breaks class_rules member_rules
keeps_own files w n c (file, file_name, e) =
    let p = files.package_name in
    let d = declared n c in
    let A = when (not false && not (is_of_package p c.name)) 201 in
    let B = when (is_second w d) 202 in
    let D = when (not false && (lists_missing w d || gets_missing w d)) 203 in
    let E = when (is_own_super w d) 204 in
    let G = when (lists_wrong w d) 208 in
    let at = λ (rule : ℕ). at_class file file_name 1 c.name rule in
    let R = map at (A ++ B ++ D ++ E ++ G) in
    let F = members_from file file_name 1 w d true 0 d.fields in
    let M = members_from file file_name 1 w d false 0 d.methods in
    let own = nil_of_map at (A ++ B ++ D ++ E ++ G) (none_left R F (none_left (R ++ F) M e)) in
    let three = none_left (A ++ B ++ D) E (none_left (A ++ B ++ D ++ E) G own) in
    record {
      named = is_of (is_of_package p c.name) (not_when (not (is_of_package p c.name)) 201 (none_left A B (none_left (A
          ++ B) D three)));
      once = not_when (is_second w d) 202 (none_right A B (none_left (A ++ B) D three));
      there = or_left (lists_missing w d) (gets_missing w d) (not_when (lists_missing w d || gets_missing w d) 203
          (none_right (A ++ B) D three));
      methods = λ k m is. (let z : 0 + k ≡ k = omega arith in
          let both = clean_members file file_name w d false 0 d.methods k (method_of_class m) (none_right (R ++ F) M e)
          (slice_get-map method_of_class c.methods k ∙ ap (option_map method_of_class) is) in
          let here = subst (λ j. of_member file file_name w d false j (method_of_class m) ≡ []) z both in (
            not_when (is_twice d.methods k m.name m.desc) 202 (none_left (when (is_twice d.methods k m.name m.desc) 202)
                (when (not false && is_desc_missing w m.desc) 203) here),
            not_when (is_desc_missing w m.desc) 203 (none_right (when (is_twice d.methods k m.name m.desc) 202)
                (when (not false && is_desc_missing w m.desc) 203) here),
          ));
    }
  where
    is_of : (b : Bool) → not b ≡ false → b ≡ true
    is_of true e = refl
    is_of false e = cc

    or_left : (a b : Bool) → (a || b) ≡ false → a ≡ false
    or_left true b e = cc
    or_left false b e = refl

-- ---- the first of its name

pub first_here : {A : Type 0} (p : A → Bool) (xs : List A) (k : ℕ) (x : A) → slice_get xs k ≡ Some x → p x ≡ true
    → is_earlier (position p xs) k ≡ false → position p xs ≡ Some k
first_here p [] k x e h once = cc
first_here p (y ∷ xs) zero x e h once = let same : y ≡ x = cc in position-cons p y xs ∙ ap (λ b. if b then Some 0
    else option_map suc (position p xs)) (ap p same ∙ h)
first_here p (y ∷ xs) (suc k) x e h once = position-cons p y xs
    ∙ by (p y) (position p xs) (ap (λ o. is_earlier o (suc k)) (sym (position-cons p y xs))
    ∙ once) (first_here p xs k x e h)
  where
    by : (b : Bool) (o : Option ℕ) → is_earlier (if b then Some 0 else option_map suc o) (suc k) ≡ false
        → (is_earlier o k ≡ false → o ≡ Some k) → (if b then Some 0 else option_map suc o) ≡ Some (suc k)
    by true o f rest = let lt : nat_lt 0 (suc k) ≡ true = grind arith in cc
    by false None f rest = let none = rest refl in cc
    by false (Some j) f rest = let e : nat_lt j k ≡ nat_lt (suc j) (suc k) = grind arith
        in ap (option_map suc) (rest (e ∙ f))

-- ---- a class by its name

-- some class has the name of one that is there
named_where_at : (w : List Class) (imp : Bool) (n : ℕ) (c : Class) → class_at w imp n ≡ Some c → (d : Class)
    × (class_named w c.name ≡ Some d)
unfolding class_at class_named
named_where_at [] imp n c e = cc
named_where_at (b ∷ w) imp n c e = by (bytes_eq b.name c.name) refl (is_at imp n b) e (named_where_at w imp n c)
  where
    by : (named : Bool) → bytes_eq b.name c.name ≡ named → (here : Bool) → (if here then Some b else class_at w imp n)
        ≡ Some c → (class_at w imp n ≡ Some c → (d : Class) × (class_named w c.name ≡ Some d))
        → (d : Class) × ((if named then Some b else class_named w c.name) ≡ Some d)
    by true g here f rest = (b, refl)
    by false g true f rest = let is : b ≡ c = cc in let one = ap (λ (v : Class). bytes_eq v.name c.name) is
        ∙ name_is c.name in cc
    by false g false f rest = rest f

module _ (files : Files) (list : List ℕ) (listed : length files.classes ≤ class_count files.lines)
    (unbroken : breaks list files ≡ []) (n : ℕ) (c : ClassTree) (is_class : slice_get files.classes n ≡ Some c) where
  abbrev w : List Class
  w = all_classes files

  within : n < class_count files.lines
  within = let lt = slice_get_within files.classes n c is_class in omega (arith, lt, listed)

  -- 201 to 203 of one class
  pub own_kept : KeepsOwn files.package_name w n c
  unfolding breaks
  own_kept =
      keeps_own files w n c
      (clean_from files w 0 0 0 0 files.lines n c is_class (none_right (map (λ rule. broken_at (list_spot list) rule)
      (when (not (has_language w files.exports)) 207)) (breaks_from files w 0 0 0 0 files.lines) unbroken)
      (omega arith) (let lt = within in omega (arith, lt)))

  pub class_there : class_at w false n ≡ Some (declared n c)
  class_there = own_listed files n within ∙ ap (option_map (declared n)) is_class

  -- 202
  pub class_by_name : class_named w c.name ≡ Some (declared n c)
  unfolding is_second
  class_by_name =
      let r = named_where_at w false n (declared n c) class_there in
      let same = by r.0 (class_named w c.name) r.1 own_kept.once in
      let there : class_at w false n ≡ Some r.0 = ap (λ b. class_at w b n) (sym same.0)
      ∙ ap (class_at w r.0.is_imported) same.1 ∙ at-number files c.name r.0 r.1 in
      r.1 ∙ sym there ∙ class_there
    where
      by : (d : Class) (o : Option Class) → o ≡ Some d → is_other (declared n c) o ≡ false → (d.is_imported ≡ false)
          × (n ≡ d.number)
      by d None e f = cc
      by d (Some b) e f =
          let is : b ≡ d = cc in
          go d.is_imported (n == d.number) (λ g. eqb-true n d.number g)
          (ap (λ (v : Class). not (same_place (declared n c) v)) (sym is) ∙ f)
        where
          go : (i q : Bool) → (q ≡ true → n ≡ d.number) → not (not i && q) ≡ false → (i ≡ false) × (n ≡ d.number)
          go false true h g = (refl, h refl)
          go false false h g = cc
          go true q h g = cc

  -- ---- a method by its name and descriptor

  module _ (k : ℕ) (m : MethodTree) (is_method : slice_get c.methods k ≡ Some m) where
    abbrev own_name : MemberId
    own_name = record { class = c.name; name = m.name; desc = m.desc }

    abbrev d : Class
    d = declared n c

    abbrev place : Found
    place = member_at d (length d.fields + k)

    abbrev own : Class → Option Found
    own = own_method false m.name m.desc

    -- 202
    own_here : own d ≡ Some place
    unfolding own_method is_twice
    own_here =
        let there = slice_get-map method_of_class c.methods k ∙ ap (option_map method_of_class) is_method in
        let once = (own_kept.methods k m is_method).0 in
        ap (option_map (λ i. member_at d (length d.fields + i))) (first_here (λ q. is_called m.name m.desc q) d.methods
        k (method_of_class m) there (called m.name m.desc) once)
      where
        called : (name desc : List ℕ) → (bytes_eq name name && bytes_eq desc desc) ≡ true
        called name desc = ap (λ b. b && bytes_eq desc desc) (name_is name) ∙ name_is desc

    pub found_by_name : find_method w c.name m.name m.desc ≡ Some place
    unfolding find_method first
    found_by_name =
        let back = first own (known (gathered false (supertypes w (c.name ∷ [])))) in
        let rest = first own (line w c.superclass) in
        ap (λ cs. or_else (first own cs) back) (line_goes_up w (unbroken_is_acyclic list files unbroken) c.name
        c.superclass d class_by_name refl) ∙ ap (λ o. or_else (or_else o rest) back) own_here

    pub hit_by_name : method_hit w place ≡ Some (record { owner = d; flags = m.flags })
    hit_by_name =
        let there = slice_get-map method_of_class c.methods k ∙ ap (option_map method_of_class) is_method in
        let at : length d.fields + k - length d.fields ≡ k = omega arith in
        ap (option_and_then (λ c. option_map (λ m. record { owner = c; flags = m.flags })
        (slice_get c.methods (place.member - length c.fields)))) class_there
        ∙ ap (λ i. option_map (λ m. record { owner = d; flags = m.flags }) (slice_get d.methods i)) at
        ∙ ap (option_map (λ m. record { owner = d; flags = m.flags })) there

    pub flags_by_name : flags_of (method_found w own_name) ≡ m.flags
    flags_by_name = ap (λ o. flags_of (option_and_then (method_hit w) o)) found_by_name ∙ ap flags_of hit_by_name
