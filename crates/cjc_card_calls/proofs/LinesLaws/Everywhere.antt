-- The classes that are listed are those that are there.
use Rattle.std.proofs.Common.{◌≡◌, ℕ, zero, suc, ◌+◌, ◌<◌, List, [], ◌∷◌, ◌++◌, map, refl, sym, ap, ◌∙◌, arith, Bool}
use Rattle.std.proofs.Common.{true, false, Option, Some, None}
use Rattle.std.specs.Prelude.{option_map, option_and_then, slice_get, is_some, if◌then◌else◌, ◌==◌, ◌&&◌, ◌||◌}
use Rattle.std.proofs.lemmas.Bool.Decides.{nat_tests}
use Rattle.std.proofs.lemmas.List.Folds.{list_any-append}
use Rattle.cjc_card_semantics.specs.ExportFile.declared.tree.ExportClass.{ExportClass}
use Rattle.cjc_card_semantics.specs.ExportFile.declared.tree.ExportTree.{ExportTree}
use Rattle.cjc_card_link.specs.LowerCheckRules.Spots.{placed, starts}
use Rattle.cjc_card_semantics.specs.Machine.Loaded.{Part}
use Rattle.cjc_card_semantics.specs.Machine.Classes.{Class, Own, External, Info, info_at, info_size, infos, is_in}
use Rattle.cjc_card_semantics.specs.Machine.Classes.{is_there}
use Rattle.cjc_card_semantics.specs.Machine.Classes.{number_from, same_class, with_token}
use Rattle.cjc_card_link.specs.MetClasses.{classes-equivalence}
use Rattle.cjc_card_calls.specs.Lines.Every.{classes_in, files_classes, part_classes}

or_false : (b c : Bool) → b ≡ false → (b || c) ≡ c
or_false b c e = ap (λ (x : Bool). x || c) e

false_or : (b c : Bool) → c ≡ false → (b || c) ≡ b
false_or true c e = refl
false_or false c e = e

-- ---- classes of packages

own_by : (b : Bool) (i : Info) (rest : List Info) (r : Option ℕ)
    → is_some (option_and_then (slice_get (i ∷ rest)) (if b then Some 0 else option_map suc r))
    ≡ (b || is_some (option_and_then (slice_get rest) r))
own_by true i rest r = refl
own_by false i rest None = refl
own_by false i rest (Some n) = refl

same_part : (p o u : ℕ) → same_class (Own p o) (Own p u) ≡ (u == o)
same_part p o u =
    let same : (p == p) ≡ true = grind (arith, nat_tests) in
    classes-equivalence.symm (Own p o) (Own p u) ∙ ap (λ (b : Bool). b && (u == o)) same

own_listed : (p at : ℕ) (is : List Info) (o : ℕ) → is_in (Own p o) (map (Own p) (starts info_size at is))
    ≡ is_some (option_and_then (slice_get is) (number_from at is o))
unfolding placed
own_listed p at [] o = refl
own_listed p at (i ∷ is) o =
    ap (λ (b : Bool). b || is_in (Own p o) (map (Own p) (starts info_size (at + info_size i) is))) (same_part p o at)
    ∙ ap (λ (b : Bool). (at == o) || b) (own_listed p (at + info_size i) is o)
    ∙ sym (own_by (at == o) i is (number_from (at + info_size i) is o))

other_part : (p m : ℕ) (os : List ℕ) (o : ℕ) → (p == m) ≡ false → is_in (Own p o) (map (Own m) os) ≡ false
other_part p m [] o differs = refl
other_part p m (x ∷ os) o differs =
    or_false (same_class (Own p o) (Own m x)) (is_in (Own p o) (map (Own m) os)) (ap (λ (b : Bool). b
    && (o == x)) differs) ∙ other_part p m os o differs

-- no class of an earlier package
parts_later : (p m o : ℕ) (parts : List Part) → p < m → is_in (Own p o) (part_classes m parts) ≡ false
parts_later p m o [] lt = refl
parts_later p m o (part ∷ parts) lt =
    let differs : (p == m) ≡ false = grind (arith, nat_tests) in
    let more : p < m + 1 = omega (arith, lt) in
    list_any-append (same_class (Own p o)) (classes_in m part) (part_classes (m + 1) parts)
    ∙ or_false (is_in (Own p o) (classes_in m part)) (is_in (Own p o) (part_classes (m + 1) parts))
    (other_part p m (starts info_size 2 (infos part)) o differs)
    ∙ parts_later p (m + 1) o parts more

parts_listed : (i p m o : ℕ) (parts : List Part) → p ≡ m + i → is_in (Own p o) (part_classes m parts)
    ≡ is_some (option_and_then (λ part. info_at part o) (slice_get parts i))
parts_listed i p m o [] e = refl
parts_listed zero p m o (part ∷ parts) e =
    let same : p ≡ m = omega (arith, e) in
    let later : p < m + 1 = omega (arith, e) in
    list_any-append (same_class (Own p o)) (classes_in m part) (part_classes (m + 1) parts)
    ∙ false_or (is_in (Own p o) (classes_in m part)) (is_in (Own p o) (part_classes (m + 1) parts))
    (parts_later p (m + 1) o parts later)
    ∙ ap (λ (n : ℕ). is_in (Own p o) (classes_in n part)) (sym same)
    ∙ own_listed p 2 (infos part) o
parts_listed (suc i) p m o (part ∷ parts) e =
    let differs : (p == m) ≡ false = grind (arith, nat_tests) in
    let next : p ≡ m + 1 + i = omega (arith, e) in
    list_any-append (same_class (Own p o)) (classes_in m part) (part_classes (m + 1) parts)
    ∙ or_false (is_in (Own p o) (classes_in m part)) (is_in (Own p o) (part_classes (m + 1) parts))
    (other_part p m (starts info_size 2 (infos part)) o differs)
    ∙ parts_listed i p (m + 1) o parts next

file_own : (p o tree : ℕ) (cs : List ExportClass) → is_in (Own p o) (map (λ c. External tree c.token) cs) ≡ false
file_own p o tree [] = refl
file_own p o tree (c ∷ cs) = file_own p o tree cs

files_own : (p o tree : ℕ) (trees : List ExportTree) → is_in (Own p o) (files_classes tree trees) ≡ false
files_own p o tree [] = refl
files_own p o tree (t ∷ trees) =
    list_any-append (same_class (Own p o)) (map (λ c. External tree c.token) t.classes) (files_classes (tree + 1) trees)
    ∙ or_false (is_in (Own p o) (map (λ c. External tree c.token) t.classes))
    (is_in (Own p o) (files_classes (tree + 1) trees)) (file_own p o tree t.classes)
    ∙ files_own p o (tree + 1) trees

-- ---- classes of export files

own_external : (tree token m : ℕ) (os : List ℕ) → is_in (External tree token) (map (Own m) os) ≡ false
own_external tree token m [] = refl
own_external tree token m (o ∷ os) = own_external tree token m os

parts_external : (tree token m : ℕ) (parts : List Part) → is_in (External tree token) (part_classes m parts) ≡ false
parts_external tree token m [] = refl
parts_external tree token m (part ∷ parts) =
    list_any-append (same_class (External tree token)) (classes_in m part) (part_classes (m + 1) parts)
    ∙ or_false (is_in (External tree token) (classes_in m part))
    (is_in (External tree token) (part_classes (m + 1) parts))
    (own_external tree token m (starts info_size 2 (infos part)))
    ∙ parts_external tree token (m + 1) parts

token_by : (b : Bool) (c : ExportClass) (rest : Option ExportClass) → is_some (if b then Some c else rest)
    ≡ (b || is_some rest)
token_by true c rest = refl
token_by false c rest = refl

same_tree : (k t u : ℕ) → same_class (External k t) (External k u) ≡ (u == t)
same_tree k t u =
    let same : (k == k) ≡ true = grind (arith, nat_tests) in
    classes-equivalence.symm (External k t) (External k u) ∙ ap (λ (b : Bool). b && (u == t)) same

file_listed : (k t : ℕ) (cs : List ExportClass) → is_in (External k t) (map (λ c. External k c.token) cs)
    ≡ is_some (with_token cs t)
file_listed k t [] = refl
file_listed k t (c ∷ cs) =
    ap (λ (b : Bool). b || is_in (External k t) (map (λ d. External k d.token) cs)) (same_tree k t c.token)
    ∙ ap (λ (b : Bool). (c.token == t) || b) (file_listed k t cs)
    ∙ sym (token_by (c.token == t) c (with_token cs t))

file_other : (k m t : ℕ) (cs : List ExportClass) → (k == m) ≡ false
    → is_in (External k t) (map (λ c. External m c.token) cs) ≡ false
file_other k m t [] differs = refl
file_other k m t (c ∷ cs) differs =
    or_false (same_class (External k t) (External m c.token)) (is_in (External k t) (map (λ d. External m d.token) cs))
    (ap (λ (b : Bool). b && (t == c.token)) differs)
    ∙ file_other k m t cs differs

files_later : (k m t : ℕ) (trees : List ExportTree) → k < m → is_in (External k t) (files_classes m trees) ≡ false
files_later k m t [] lt = refl
files_later k m t (tree ∷ trees) lt =
    let differs : (k == m) ≡ false = grind (arith, nat_tests) in
    let more : k < m + 1 = omega (arith, lt) in
    list_any-append (same_class (External k t)) (map (λ c. External m c.token) tree.classes) (files_classes (m + 1)
    trees)
    ∙ or_false (is_in (External k t) (map (λ c. External m c.token) tree.classes))
    (is_in (External k t) (files_classes (m + 1) trees)) (file_other k m t tree.classes differs)
    ∙ files_later k (m + 1) t trees more

files_listed : (i k m t : ℕ) (trees : List ExportTree) → k ≡ m + i → is_in (External k t) (files_classes m trees)
    ≡ is_some (option_and_then (λ tree. with_token tree.classes t) (slice_get trees i))
files_listed i k m t [] e = refl
files_listed zero k m t (tree ∷ trees) e =
    let same : k ≡ m = omega (arith, e) in
    let later : k < m + 1 = omega (arith, e) in
    list_any-append (same_class (External k t)) (map (λ c. External m c.token) tree.classes) (files_classes (m + 1)
    trees)
    ∙ false_or (is_in (External k t) (map (λ c. External m c.token) tree.classes))
    (is_in (External k t) (files_classes (m + 1) trees)) (files_later k (m + 1) t trees later)
    ∙ ap (λ (n : ℕ). is_in (External k t) (map (λ c. External n c.token) tree.classes)) (sym same)
    ∙ file_listed k t tree.classes
files_listed (suc i) k m t (tree ∷ trees) e =
    let differs : (k == m) ≡ false = grind (arith, nat_tests) in
    let next : k ≡ m + 1 + i = omega (arith, e) in
    list_any-append (same_class (External k t)) (map (λ c. External m c.token) tree.classes) (files_classes (m + 1)
    trees)
    ∙ or_false (is_in (External k t) (map (λ c. External m c.token) tree.classes))
    (is_in (External k t) (files_classes (m + 1) trees)) (file_other k m t tree.classes differs)
    ∙ files_listed i k (m + 1) t trees next

-- ---- both

-- all that are listed, of packages and of export files
pub all_there : (parts : List Part) (trees : List ExportTree) (x : Class)
    → is_in x (part_classes 0 parts ++ files_classes 0 trees) ≡ is_there (record { parts = parts; trees = trees }) x
all_there parts trees (Own p o) =
    let start : p ≡ 0 + p = omega arith in
    list_any-append (same_class (Own p o)) (part_classes 0 parts) (files_classes 0 trees)
    ∙ false_or (is_in (Own p o) (part_classes 0 parts)) (is_in (Own p o) (files_classes 0 trees)) (files_own p o 0
    trees)
    ∙ parts_listed p p 0 o parts start
all_there parts trees (External k t) =
    let start : k ≡ 0 + k = omega arith in
    list_any-append (same_class (External k t)) (part_classes 0 parts) (files_classes 0 trees)
    ∙ or_false (is_in (External k t) (part_classes 0 parts)) (is_in (External k t) (files_classes 0 trees))
    (parts_external k t 0 parts)
    ∙ files_listed k k 0 t trees start
