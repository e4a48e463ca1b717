-- Classes of several packages by number and by name.
use Rattle.std.proofs.Common.{◌≡◌, ℕ, zero, suc, ◌+◌, ◌≤◌, ◌-◌, arith, refl, sym, ap, subst, ◌∙◌, Bool, true, false}
use Rattle.std.proofs.Common.{List, []}
use Rattle.std.proofs.Common.{◌∷◌, ◌++◌, length, map, flat_map, find}
use Rattle.std.specs.Prelude.{Option, Some, None, slice_get, if◌then◌else◌, cond, ◌==◌}
use Rattle.std.specs.Str.{bytes_eq}
use Rattle.std.proofs.lemmas.Option.{slice_get_within}
use Rattle.cjc_token_proof.proofs.BytesGets.{get_behind, get_front, in_front}
use Rattle.cjc_token_proof.proofs.BytesLists.{bytes_true, name_is}
use Rattle.cjc_token_proof.proofs.BytesNumbers.{like_number, number_same}
use Rattle.cjc_card_semantics.specs.Bytes.declared.settings.FileLine.{FileLine}
use Rattle.cjc_exported.specs.ClassFile.declared.tree.ClassTree.{ClassTree}
use Rattle.cjc_card_semantics.specs.ExportFile.declared.tree.ExportClass.{ExportClass}
use Rattle.cjc_card_semantics.specs.ExportFile.declared.tree.ExportTree.{ExportTree}
use Rattle.cjc_exported.specs.World.Classes.{Class, all_classes, class_at, class_named, classes_from, declared}
use Rattle.cjc_exported.specs.World.Classes.{imported}
use Rattle.cjc_exported.specs.World.Classes.{numbered}
use Rattle.cjc_exported.specs.World.Classes.{of_class_file, of_export_file, size}
use Rattle.cjc_exported.specs.World.Files.{Files}
use Rattle.cjc_token_proof.specs.ClassOrder.Classes.Numbers.{numbered_from}
use Rattle.cjc_link_semantics.specs.JvmSemantics.Group.{files_of_class, joint, joint_classes, joint_exports, line_of}
use Rattle.cjc_link_semantics.specs.JvmSemantics.Group.{package_of}
use Rattle.cjc_joint_proof.specs.Worlds.{AreApart, AreApartFromOutside, IsOwn, before, outside_classes}
use Rattle.cjc_joint_proof.proofs.PackageNames.{package_is}

-- ---- the list of all classes

own_lines : (cs : List ClassTree) (es : List ExportTree) (c : ℕ) (rest : List ClassTree) (lines : List FileLine)
    → ((k : ℕ) → slice_get cs (c + k) ≡ slice_get rest k)
    → classes_from cs es c 0 0 (map (λ (x : ClassTree). line_of true) rest ++ lines)
    ≡ numbered_from c rest ++ classes_from cs es (c + length rest) 0 0 lines
unfolding classes_from
own_lines cs es c [] lines h = let z : c ≡ c + 0 = omega arith in ap (λ n. classes_from cs es n 0 0 lines) z
own_lines cs es c (r ∷ rest) lines h =
    let z : c ≡ c + 0 = omega arith in
    let first : slice_get cs c ≡ Some r = ap (slice_get cs) z ∙ h 0 in
    let len : c + 1 + length rest ≡ c + length (r ∷ rest) = omega arith in
    let next = own_lines cs es (c + 1) rest lines (λ k. let s : c + 1 + k ≡ c + suc k = omega arith in ap (slice_get cs)
    s ∙ h (suc k)) in
    ap (λ o. of_class_file c o ++ classes_from cs es (c + 1) 0 0 (map (λ (x : ClassTree). line_of true) rest ++ lines))
    first
    ∙ ap (λ ds. declared c r ∷ ds) (next ∙ ap (λ n. numbered_from (c + 1) rest ++ classes_from cs es n 0 0 lines) len)

numbered_append : (i : ℕ) (a b : List ExportClass) → numbered i (a ++ b) ≡ numbered i a ++ numbered (i + length a) b
numbered_append i [] b = let z : i ≡ i + 0 = omega arith in ap (λ n. numbered n b) z
numbered_append i (x ∷ a) b =
    let len : i + 1 + length a ≡ i + length (x ∷ a) = omega arith in
    ap (λ ds. imported i x ∷ ds) (numbered_append (i + 1) a b ∙ ap (λ n. numbered (i + 1) a ++ numbered n b) len)

file_lines : (cs : List ClassTree) (es : List ExportTree) (c e i : ℕ) (rest : List ExportTree)
    → ((k : ℕ) → slice_get es (e + k) ≡ slice_get rest k)
    → classes_from cs es c e i (map (λ (x : ExportTree). line_of false) rest)
    ≡ numbered i (flat_map (λ (t : ExportTree). t.classes) rest)
unfolding classes_from
file_lines cs es c e i [] h = refl
file_lines cs es c e i (t ∷ rest) h =
    let z : e ≡ e + 0 = omega arith in
    let first : slice_get es e ≡ Some t = ap (slice_get es) z ∙ h 0 in
    let next = file_lines cs es c (e + 1) (i + length t.classes) rest (λ k. let s : e + 1 + k ≡ e + suc k = omega arith
    in ap (slice_get es) s ∙ h (suc k)) in
    ap (λ o. of_export_file i o ++ classes_from cs es c (e + 1) (i + size o) (map (λ (x : ExportTree). line_of false)
    rest)) first
    ∙ (ap (λ ds. numbered i t.classes ++ ds) next ∙ sym (numbered_append i t.classes (flat_map (λ (t : ExportTree).
    t.classes) rest)))

pub joint_world_is : (group : List Files)
    → all_classes (joint group) ≡ numbered_from 0 (joint_classes group) ++ numbered 0 (outside_classes group)
unfolding all_classes
joint_world_is group =
    let cs = joint_classes group in
    let es = joint_exports group in
    own_lines cs es 0 cs (map (λ (x : ExportTree). line_of false) es) (λ k. let z : 0 + k ≡ k = omega arith in ap
    (slice_get cs) z)
    ∙ ap (λ ds. numbered_from 0 cs ++ ds) (file_lines cs es (0 + length cs) 0 0 es (λ k. let z : 0 + k ≡ k = omega arith
    in ap (slice_get es) z))

-- ---- by number

behind_is_other : (n k : ℕ) → (n == n + suc k) ≡ false
behind_is_other n k = by (n == n + suc k) refl
  where
    by : (b : Bool) → (n == n + suc k) ≡ b → b ≡ false
    by true e = let same = number_same n (n + suc k) e in absurd (omega (arith, same))
    by false e = refl

own_at : (cs : List ClassTree) (n k : ℕ) (c : ClassTree) (tail : List Class) → slice_get cs k ≡ Some c
    → class_at (numbered_from n cs ++ tail) false (n + k) ≡ Some (declared (n + k) c)
unfolding class_at
own_at [] n k c tail e = cc
own_at (d ∷ cs) n zero c tail e =
    let is : d ≡ c = cc in
    let z : n ≡ n + 0 = omega arith in
    ap (λ m. if n == m then Some (declared n d) else class_at (numbered_from (n + 1) cs ++ tail) false m) (sym z)
    ∙ (ap (λ b. if b then Some (declared n d) else class_at (numbered_from (n + 1) cs ++ tail) false n) (like_number n)
    ∙ (ap (λ m. Some (declared m d)) z ∙ ap (λ t. Some (declared (n + 0) t)) is))
own_at (d ∷ cs) n (suc k) c tail e =
    let s : n + 1 + k ≡ n + suc k = omega arith in
    ap (λ b. if b then Some (declared n d) else class_at (numbered_from (n + 1) cs ++ tail) false (n + suc k))
    (behind_is_other n k)
    ∙ subst (λ m. class_at (numbered_from (n + 1) cs ++ tail) false m ≡ Some (declared m c)) s (own_at cs (n + 1) k c
    tail e)

past_own_at : (cs : List ClassTree) (n m : ℕ) (tail : List Class) → class_at (numbered_from n cs ++ tail) true m
    ≡ class_at tail true m
unfolding class_at
past_own_at [] n m tail = refl
past_own_at (d ∷ cs) n m tail = past_own_at cs (n + 1) m tail

outside_at : (es : List ExportClass) (n k : ℕ) (e : ExportClass) → slice_get es k ≡ Some e
    → class_at (numbered n es) true (n + k) ≡ Some (imported (n + k) e)
unfolding class_at
outside_at [] n k e is = cc
outside_at (d ∷ es) n zero e is =
    let same : d ≡ e = cc in
    let z : n ≡ n + 0 = omega arith in
    ap (λ m. if n == m then Some (imported n d) else class_at (numbered (n + 1) es) true m) (sym z)
    ∙ (ap (λ b. if b then Some (imported n d) else class_at (numbered (n + 1) es) true n) (like_number n)
    ∙ (ap (λ m. Some (imported m d)) z ∙ ap (λ t. Some (imported (n + 0) t)) same))
outside_at (d ∷ es) n (suc k) e is =
    let s : n + 1 + k ≡ n + suc k = omega arith in
    ap (λ b. if b then Some (imported n d) else class_at (numbered (n + 1) es) true (n + suc k)) (behind_is_other n k)
    ∙ subst (λ m. class_at (numbered (n + 1) es) true m ≡ Some (imported m e)) s (outside_at es (n + 1) k e is)

-- ---- by name

own_named : (cs : List ClassTree) (n k : ℕ) (c : ClassTree) (tail : List Class) → slice_get cs k ≡ Some c
    → ((j : ℕ) (d : ClassTree) → slice_get cs j ≡ Some d → d.name ≡ c.name → j ≡ k)
    → class_named (numbered_from n cs ++ tail) c.name ≡ Some (declared (n + k) c)
unfolding class_named
own_named [] n k c tail e once = cc
own_named (d ∷ cs) n zero c tail e once =
    let is : d ≡ c = cc in
    let z : n ≡ n + 0 = omega arith in
    ap (λ b. if b then Some (declared n d) else class_named (numbered_from (n + 1) cs ++ tail) c.name) (ap (λ (t :
    ClassTree). bytes_eq t.name c.name) is ∙ name_is c.name)
    ∙ (ap (λ m. Some (declared m d)) z ∙ ap (λ t. Some (declared (n + 0) t)) is)
own_named (d ∷ cs) n (suc k) c tail e once =
    by (bytes_eq d.name c.name) refl (own_named cs (n + 1) k c tail e (λ j t is same. let more : suc j ≡ suc k = once
    (suc j) t is same in omega (arith, more)))
  where
    by : (b : Bool) → bytes_eq d.name c.name ≡ b → class_named (numbered_from (n + 1) cs ++ tail) c.name
        ≡ Some (declared (n + 1 + k) c) → (if b then Some (declared n d) else class_named (numbered_from (n + 1)
        cs ++ tail) c.name) ≡ Some (declared (n + suc k) c)
    by true f rest = let no : 0 ≡ suc k = once 0 d refl (bytes_true d.name c.name f) in absurd (omega (arith, no))
    by false f rest = let s : n + 1 + k ≡ n + suc k = omega arith in rest ∙ ap (λ m. Some (declared m c)) s

past_own_named : (cs : List ClassTree) (n : ℕ) (x : List ℕ) (tail : List Class)
    → ((j : ℕ) (d : ClassTree) → slice_get cs j ≡ Some d → d.name ≡ x → ⊥)
    → class_named (numbered_from n cs ++ tail) x ≡ class_named tail x
unfolding class_named
past_own_named [] n x tail none = refl
past_own_named (d ∷ cs) n x tail none =
    by (bytes_eq d.name x) refl (past_own_named cs (n + 1) x tail (λ j t is same. none (suc j) t is same))
  where
    by : (b : Bool) → bytes_eq d.name x ≡ b → class_named (numbered_from (n + 1) cs ++ tail) x ≡ class_named tail x
        → (if b then Some (declared n d) else class_named (numbered_from (n + 1) cs
        ++ tail) x) ≡ class_named tail x
    by true f rest = absurd (none 0 d refl (bytes_true d.name x f))
    by false f rest = rest

outside_named : (es : List ExportClass) (n k : ℕ) (e : ExportClass) → slice_get es k ≡ Some e
    → ((j : ℕ) (d : ExportClass) → slice_get es j ≡ Some d → d.name ≡ e.name → j ≡ k)
    → class_named (numbered n es) e.name ≡ Some (imported (n + k) e)
unfolding class_named
outside_named [] n k e is once = cc
outside_named (d ∷ es) n zero e is once =
    let same : d ≡ e = cc in
    let z : n ≡ n + 0 = omega arith in
    ap (λ b. if b then Some (imported n d) else class_named (numbered (n + 1) es) e.name) (ap (λ (t : ExportClass).
    bytes_eq t.name e.name) same ∙ name_is e.name)
    ∙ (ap (λ m. Some (imported m d)) z ∙ ap (λ t. Some (imported (n + 0) t)) same)
outside_named (d ∷ es) n (suc k) e is once =
    by (bytes_eq d.name e.name) refl (outside_named es (n + 1) k e is (λ j t g same. let more : suc j ≡ suc k = once
    (suc j) t g same in omega (arith, more)))
  where
    by : (b : Bool) → bytes_eq d.name e.name ≡ b → class_named (numbered (n + 1) es) e.name ≡ Some (imported (n + 1 + k)
        e) → (if b then Some (imported n d) else class_named (numbered (n + 1) es)
        e.name) ≡ Some (imported (n + suc k) e)
    by true f rest = let no : 0 ≡ suc k = once 0 d refl (bytes_true d.name e.name f) in absurd (omega (arith, no))
    by false f rest = let s : n + 1 + k ≡ n + suc k = omega arith in rest ∙ ap (λ m. Some (imported m e)) s

none_named : (es : List ExportClass) (n : ℕ) (x : List ℕ)
    → ((j : ℕ) (d : ExportClass) → slice_get es j ≡ Some d → d.name ≡ x → ⊥) → class_named (numbered n es) x ≡ None
unfolding class_named
none_named [] n x none = refl
none_named (d ∷ es) n x none =
    by (bytes_eq d.name x) refl (none_named es (n + 1) x (λ j t is same. none (suc j) t is same))
  where
    by : (b : Bool) → bytes_eq d.name x ≡ b → class_named (numbered (n + 1) es) x ≡ None
        → (if b then Some (imported n d) else class_named (numbered (n + 1) es) x)
        ≡ None
    by true f rest = absurd (none 0 d refl (bytes_true d.name x f))
    by false f rest = rest

-- ---- places of class files

pub joint_place : (group : List Files) (i k : ℕ) (p : Files) (c : ClassTree) → IsOwn group i k p c
    → slice_get (joint_classes group) (before group i + k) ≡ Some c
joint_place [] i k p c h = let none = h.member in cc
joint_place (m ∷ group) zero k p c h =
    let first = h.member in
    let is : m ≡ p = cc in
    let z : 0 + k ≡ k = omega arith in
    ap (slice_get (joint_classes (m ∷ group))) z
    ∙ in_front m.classes (joint_classes group) k c (ap (λ (f : Files). slice_get f.classes k) is ∙ h.file)
joint_place (m ∷ group) (suc i) k p c h =
    let s : length m.classes + before group i + k ≡ length m.classes + (before group i + k) = omega arith in
    ap (slice_get (joint_classes (m ∷ group))) s
    ∙ (get_behind m.classes (joint_classes group) (before group i + k)
    ∙ joint_place group i k p c (record { member = h.member; file = h.file }))

pub none_past : {A : Type 0} (xs : List A) (n : ℕ) → slice_get xs n ≡ None → length xs ≤ n
none_past [] n e = omega arith
none_past (x ∷ xs) zero e = absurd cc
none_past (x ∷ xs) (suc n) e = let le = none_past xs n e in omega (arith, le)

-- where a class file of the group stands
pub record Place (group : List Files) (n : ℕ) (c : ClassTree) : Type 0 where
  pub part : ℕ
  pub place : ℕ
  pub files : Files
  pub own : IsOwn group part place files c
  pub is : n ≡ before group part + place

pub joint_from : (group : List Files) (n : ℕ) (c : ClassTree) → slice_get (joint_classes group) n ≡ Some c
    → Place group n c
joint_from [] n c e = cc
joint_from (m ∷ group) n c e = by (slice_get m.classes n) refl (λ j f. joint_from group j c f)
  where
    behind : (j : ℕ) → n ≡ length m.classes + j → ((j : ℕ) → slice_get (joint_classes group) j ≡ Some c → Place group j
        c) → Place (m ∷ group) n c
    behind j is more =
        let r = more j (sym (get_behind m.classes (joint_classes group) j)
        ∙ (ap (slice_get (joint_classes (m ∷ group))) (sym is) ∙ e)) in
        let at = r.is in
        record {
          part = suc r.part;
          place = r.place;
          files = r.files;
          own = (let o = r.own in record { member = o.member; file = o.file });
          is = omega (arith, is, at);
        }

    by : (o : Option ClassTree) → slice_get m.classes n ≡ o → ((j : ℕ) → slice_get (joint_classes group) j ≡ Some c
        → Place group j c) → Place (m ∷ group) n c
    by (Some d) is more =
        let lt = slice_get_within m.classes n d is in
        let same : d ≡ c = (let both : Some d ≡ Some c = sym is ∙ (sym (get_front m.classes (joint_classes group) n lt)
        ∙ e) in cc) in
        record {
          part = 0;
          place = n;
          files = m;
          own = record { member = refl; file = is ∙ ap Some same };
          is = omega arith;
        }
    by None is more = let le = none_past m.classes n is in behind (n - length m.classes) (omega (arith, le)) more

-- ---- classes of the group

first_one : (p : Files) (files : List Files) (n : ℕ) → slice_get files n ≡ Some p
    → ((j : ℕ) (m : Files) → slice_get files j ≡ Some m → m.package_name ≡ p.package_name → j ≡ n)
    → find (λ (f : Files). bytes_eq f.package_name p.package_name) files ≡ Some p
first_one p [] n e once = cc
first_one p (m ∷ files) zero e once =
    let is : m ≡ p = cc in
    ap (λ b. cond b (Some m) (find (λ (f : Files). bytes_eq f.package_name p.package_name) files))
    (ap (λ (f : Files). bytes_eq f.package_name p.package_name) is ∙ name_is p.package_name)
    ∙ ap Some is
first_one p (m ∷ files) (suc n) e once =
    by (bytes_eq m.package_name p.package_name) refl (first_one p files n e (λ j t is same. let more : suc j ≡ suc n
    = once (suc j) t is same in omega (arith, more)))
  where
    by : (b : Bool) → bytes_eq m.package_name p.package_name ≡ b
        → find (λ (f : Files). bytes_eq f.package_name p.package_name) files ≡ Some p
        → cond b (Some m) (find (λ (f : Files). bytes_eq f.package_name p.package_name) files) ≡ Some p
    by true f rest = let no : 0 ≡ suc n = once 0 m refl (bytes_true m.package_name p.package_name f)
        in absurd (omega (arith, no))
    by false f rest = rest

module _ (group : List Files) (apart : AreApart group) where
  own_package : (i k : ℕ) (p : Files) (c : ClassTree) → IsOwn group i k p c → package_of c.name ≡ p.package_name
  own_package i k p c h = package_is p.package_name c.name (apart.own i k p c h)

  -- no other class file of the group has its name
  only_one : (i k : ℕ) (p : Files) (c : ClassTree) → IsOwn group i k p c → (n : ℕ) (d : ClassTree)
      → slice_get (joint_classes group) n ≡ Some d → d.name ≡ c.name → n ≡ before group i + k
  only_one i k p c h n d e same =
      let at = joint_from group n d e in
      let names : at.files.package_name ≡ p.package_name =
      sym (own_package at.part at.place at.files d at.own) ∙ (ap package_of same ∙ own_package i k p c h) in
      let parts = apart.names at.part i at.files p at.own.member h.member names in
      let there : slice_get group i ≡ Some at.files = ap (slice_get group) (sym parts) ∙ at.own.member in
      let files : at.files ≡ p = (let both : Some at.files ≡ Some p = sym there ∙ h.member in cc) in
      let own : IsOwn group i at.place p d = record {
        member = h.member;
        file = ap (λ (f : Files). slice_get f.classes at.place) (sym files) ∙ at.own.file;
      } in
      let places = apart.once i at.place k p d c own h same in
      at.is ∙ (ap (λ j. before group j + at.place) parts ∙ ap (λ j. before group i + j) places)

  pub own_is_found : (i k : ℕ) (p : Files) (c : ClassTree) → IsOwn group i k p c
      → class_named (all_classes (joint group)) c.name ≡ Some (declared (before group i + k) c)
  own_is_found i k p c h =
      let z : 0 + (before group i + k) ≡ before group i + k = omega arith in
      ap (λ w. class_named w c.name) (joint_world_is group)
      ∙ (own_named (joint_classes group) 0 (before group i + k) c (numbered 0 (outside_classes group)) (joint_place
      group i k p c h) (only_one i k p c h)
      ∙ ap (λ n. Some (declared n c)) z)

  pub own_files : (i k : ℕ) (p : Files) (c : ClassTree) → IsOwn group i k p c
      → files_of_class group c.name ≡ Some p
  own_files i k p c h =
      ap (λ name. find (λ (f : Files). bytes_eq f.package_name name) group) (own_package i k p c h)
      ∙ first_one p group i h.member (λ j m is same. apart.names j i m p is h.member same)

  -- ---- classes from outside

  module _ (out : AreApartFromOutside group) where
    no_own_one : (n : ℕ) (d : ExportClass) → slice_get (outside_classes group) n ≡ Some d → (j : ℕ) (c : ClassTree)
        → slice_get (joint_classes group) j ≡ Some c → c.name ≡ d.name → ⊥
    no_own_one n d is j c e same =
        let at = joint_from group j c e in out.no_own at.part at.place n at.files c d at.own is (sym same)

    pub outside_is_found : (n : ℕ) (d : ExportClass) → slice_get (outside_classes group) n ≡ Some d
        → class_named (all_classes (joint group)) d.name ≡ Some (imported n d)
    outside_is_found n d is =
        let z : 0 + n ≡ n = omega arith in
        ap (λ w. class_named w d.name) (joint_world_is group)
        ∙ (past_own_named (joint_classes group) 0 d.name (numbered 0 (outside_classes group)) (no_own_one n d is)
        ∙ (outside_named (outside_classes group) 0 n d is (λ j e g same. out.once j n e d g is same)
        ∙ ap (λ m. Some (imported m d)) z))

pub nothing_else : (group : List Files) (x : List ℕ)
    → ((i k : ℕ) (p : Files) (c : ClassTree) → IsOwn group i k p c → c.name ≡ x → ⊥)
    → ((n : ℕ) (d : ExportClass) → slice_get (outside_classes group) n ≡ Some d → d.name ≡ x → ⊥)
    → class_named (all_classes (joint group)) x ≡ None
nothing_else group x no_own no_outside =
    ap (λ w. class_named w x) (joint_world_is group)
    ∙ (past_own_named (joint_classes group) 0 x (numbered 0 (outside_classes group)) (λ j d e same. let at = joint_from
    group j d e in no_own at.part at.place at.files d at.own same)
    ∙ none_named (outside_classes group) 0 x no_outside)

-- ---- by their numbers

pub own_at_number : (group : List Files) (i k : ℕ) (p : Files) (c : ClassTree) → IsOwn group i k p c
    → class_at (all_classes (joint group)) false (before group i + k) ≡ Some (declared (before group i + k) c)
own_at_number group i k p c h =
    let n = before group i + k in
    let z : 0 + n ≡ n = omega arith in
    ap (λ w. class_at w false n) (joint_world_is group)
    ∙ subst (λ m. class_at (numbered_from 0 (joint_classes group) ++ numbered 0 (outside_classes group)) false m
    ≡ Some (declared m c)) z (own_at (joint_classes group) 0 n c (numbered 0 (outside_classes group)) (joint_place
    group i k p c h))

pub outside_at_number : (group : List Files) (n : ℕ) (d : ExportClass) → slice_get (outside_classes group) n ≡ Some d
    → class_at (all_classes (joint group)) true n ≡ Some (imported n d)
outside_at_number group n d is =
    let z : 0 + n ≡ n = omega arith in
    ap (λ w. class_at w true n) (joint_world_is group)
    ∙ (past_own_at (joint_classes group) 0 n (numbered 0 (outside_classes group))
    ∙ subst (λ m. class_at (numbered 0 (outside_classes group)) true m ≡ Some (imported m d)) z (outside_at
    (outside_classes group) 0 n d is))
