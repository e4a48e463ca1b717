-- Names are put on a pile, and a line grows by the classes of those that were not passed.
use Rattle.std.proofs.Common.{◌≡◌, ℕ, zero, suc, ◌+◌, ◌-◌, ◌<◌, List, [], ◌∷◌, ◌++◌, length, get_or, drop, refl, sym}
use Rattle.std.proofs.Common.{ap, ◌∙◌, Bool, true, false, arith, Option, Some, None}
use Rattle.std.specs.Prelude.{if◌then◌else◌, is_some, ◌||◌}
use Rattle.std.specs.Borrow.{Bor}
use Rattle.std.specs.Str.{bytes_eq}
use Rattle.std.proofs.lemmas.List.{append-nil, append_assoc, drop_more, map-append, nil_from_length}
use Rattle.cjc_card_semantics.specs.ExportFile.declared.tree.ExportClass.{ExportClass}
use Rattle.cjc_card_semantics.specs.ExportFile.Supers.{class_named, is_one_of, super_count, upwards_from, with_class}
use Rattle.cjc_card_semantics.specs.Machine.Classes.{or_else}
use Rattle.cjc_card_calls.specs.Files.Climbs.{climb_from}
use Rattle.cjc_card_calls.specs.Files.Files.{classes_at, line_of}

-- ---- names are put

pub put_more : {A : Type 0} (xs : List A) (done at : ℕ) (x d : A) (before after old : List A) → done < length xs
    → at ≡ length xs - 1 - done → x ≡ get_or xs at d → after ≡ x ∷ before
    → before ≡ drop (length xs - done) xs ++ old → after ≡ drop (length xs - (done + 1)) xs ++ old
put_more {A} xs done at x d before after old lt place is put so_far =
    let here : at < length xs = omega (arith, lt, place) in
    let k : length xs - (done + 1) ≡ at = omega (arith, lt, place) in
    let next : length xs - done ≡ at + 1 = omega (arith, lt, place) in
    let e : drop at xs ≡ x ∷ drop (at + 1) xs = drop_more xs at d here ∙ ap (λ (y : A). y ∷ drop (at + 1) xs) (sym is)
    in
    put
    ∙ ap (λ (ys : List A). x ∷ ys) so_far
    ∙ ap (λ (n : ℕ). x ∷ (drop n xs ++ old)) next
    ∙ ap (λ (ys : List A). ys ++ old) (sym e)
    ∙ ap (λ (n : ℕ). drop n xs ++ old) (sym k)

-- ---- names are passed

by_test : (o : Option Bool) (b : Bool) → is_some (or_else o (if b then Some true else None)) ≡ b || is_some o
by_test None true = refl
by_test None false = refl
by_test (Some v) true = refl
by_test (Some v) false = refl

pub passed_after : (name x : List ℕ) (old new : Option Bool) → new ≡ or_else old (if bytes_eq name x then Some true
    else None) → is_some new ≡ bytes_eq name x || is_some old
passed_after name x old new e = ap is_some e ∙ by_test old (bytes_eq name x)

-- ---- what is climbed

with_same : (o : Option ExportClass) (names : List (List ℕ)) (F G : List (List ℕ) → List ExportClass)
    → ((more : List (List ℕ)) → F more ≡ G more) → with_class o names F ≡ with_class o names G
with_same None names F G h = h names
with_same (Some c) names F G h = ap (λ (cs : List ExportClass). c ∷ cs) (h (c.supers ++ names))

branch_same : (b : Bool) (past past' : List ExportClass) (o : Option ExportClass) (names : List (List ℕ))
    (F G : List (List ℕ) → List ExportClass) → past ≡ past' → ((more : List (List ℕ)) → F more ≡ G more)
    → (if b then past else with_class o names F) ≡ (if b then past' else with_class o names G)
branch_same true past past' o names F G e h = e
branch_same false past past' o names F G e h = with_same o names F G h

-- by the same tests
climb_same : (classes : List ExportClass) (n : ℕ) (p q : List ℕ → Bool) (names : List (List ℕ))
    → ((x : List ℕ) → p x ≡ q x) → climb_from classes n p names ≡ climb_from classes n q names
climb_same classes zero p q names h = refl
climb_same classes (suc n) p q [] h = refl
climb_same classes (suc n) p q (x ∷ names) h =
    ap (λ (b : Bool). if b then climb_from classes n p names else with_class (class_named classes x) names
    (λ more. climb_from classes n (λ y. bytes_eq x y || p y) more)) (h x)
    ∙ branch_same (q x) (climb_from classes n p names) (climb_from classes n q names) (class_named classes x) names
    (λ more. climb_from classes n (λ y. bytes_eq x y || p y) more) (λ more. climb_from classes n (λ y. bytes_eq x y
    || q y) more)
    (climb_same classes n p q names h)
    (λ more. climb_same classes n (λ y. bytes_eq x y || p y) (λ y. bytes_eq x y
    || q y) more (λ y. ap (λ (b : Bool). bytes_eq x y || b) (h y)))

-- what is climbed stands above
climb_upwards : (classes : List ExportClass) (n : ℕ) (p : List ℕ → Bool) (passed names : List (List ℕ))
    → ((x : List ℕ) → p x ≡ is_one_of passed x) → climb_from classes n p names ≡ upwards_from classes n passed names
unfolding upwards_from
climb_upwards classes zero p passed names h = refl
climb_upwards classes (suc n) p passed [] h = refl
climb_upwards classes (suc n) p passed (x ∷ names) h =
    ap (λ (b : Bool). if b then climb_from classes n p names else with_class (class_named classes x) names
    (λ more. climb_from classes n (λ y. bytes_eq x y || p y) more)) (h x)
    ∙ branch_same (is_one_of passed x) (climb_from classes n p names) (upwards_from classes n passed names)
    (class_named classes x) names
    (λ more. climb_from classes n (λ y. bytes_eq x y || p y) more) (λ more. upwards_from classes n (x ∷ passed) more)
    (climb_upwards classes n p passed names h)
    (λ more. climb_upwards classes n (λ y. bytes_eq x y || p y) (x ∷ passed) more (λ y. ap (λ (b : Bool). bytes_eq x y
    || b) (h y)))

-- ---- a step

-- none is left
pub no_more : (classes : List ExportClass) (n : ℕ) (p : List ℕ → Bool) → climb_from classes n p [] ≡ []
no_more classes zero p = refl
no_more classes (suc n) p = refl

pub climb_end : (classes : List ExportClass) (n : ℕ) (p : List ℕ → Bool) (line : List ExportClass)
    (left names : List (List ℕ)) → left ≡ [] → names ≡ []
    → line ++ climb_from classes n p left ≡ line ++ climb_from classes (suc n) p names
climb_end classes n p line left names none empty =
    ap (λ (ns : List (List ℕ)). line ++ climb_from classes n p ns) none
    ∙ ap (λ (cs : List ExportClass). line ++ cs) (no_more classes n p)
    ∙ ap (λ (ns : List (List ℕ)). line ++ climb_from classes (suc n) p ns) (sym empty)

pub climb_past : (classes : List ExportClass) (n : ℕ) (p : List ℕ → Bool) (line : List ExportClass) (x : List ℕ)
    (left names : List (List ℕ)) → names ≡ x ∷ left → p x ≡ true
    → line ++ climb_from classes n p left ≡ line ++ climb_from classes (suc n) p names
climb_past classes n p line x left names is passed =
    ap (λ (b : Bool). line ++ (if b then climb_from classes n p left else with_class (class_named classes x) left
    (λ more. climb_from classes n (λ y. bytes_eq x y || p y) more))) (sym passed)
    ∙ ap (λ (ns : List (List ℕ)). line ++ climb_from classes (suc n) p ns) (sym is)

-- a name that was not passed
looked_at : (classes : List ExportClass) (n : ℕ) (p : List ℕ → Bool) (x : List ℕ) (left names : List (List ℕ))
    (o : Option ExportClass) → names ≡ x ∷ left → p x ≡ false → o ≡ class_named classes x
    → with_class o left (λ more. climb_from classes n (λ y. bytes_eq x y || p y) more) ≡ climb_from classes (suc n) p
    names
looked_at classes n p x left names o is fresh found =
    ap (λ (d : Option ExportClass). with_class d left (λ more. climb_from classes n (λ y. bytes_eq x y || p y) more))
    found
    ∙ ap (λ (b : Bool). if b then climb_from classes n p left else with_class (class_named classes x) left
    (λ more. climb_from classes n (λ y. bytes_eq x y || p y) more)) (sym fresh)
    ∙ ap (λ (ns : List (List ℕ)). climb_from classes (suc n) p ns) (sym is)

pub climb_none : (classes : List ExportClass) (n : ℕ) (p q : List ℕ → Bool) (line : List ExportClass) (x : List ℕ)
    (left names : List (List ℕ)) → names ≡ x ∷ left → p x ≡ false
    → None ≡ class_named classes x → ((y : List ℕ) → q y ≡ bytes_eq x y || p y) → line ++ climb_from classes n q left
    ≡ line ++ climb_from classes (suc n) p names
climb_none classes n p q line x left names is fresh found h =
    ap (λ (cs : List ExportClass). line ++ cs) (climb_same classes n q (λ y. bytes_eq x y || p y) left h
    ∙ looked_at classes n p x left names None is fresh found)

pub climb_some : (classes : List ExportClass) (n : ℕ) (p q : List ℕ → Bool) (line after : List (Bor ExportClass))
    (c : Bor ExportClass) (x : List ℕ) (left above names : List (List ℕ)) → names ≡ x ∷ left → p x ≡ false
    → Some c.now ≡ class_named classes x → ((y : List ℕ) → q y ≡ bytes_eq x y || p y) → after ≡ line ++ c ∷ []
    → (let d = c.now in above ≡ d.supers ++ left)
    → classes_at after ++ climb_from classes n q above ≡ classes_at line ++ climb_from classes (suc n) p names
climb_some classes n p q line after c x left above names is fresh found h put up =
    let d = c.now in
    ap (λ (cs : List (Bor ExportClass)). classes_at cs ++ climb_from classes n q above) put
    ∙ ap (λ (cs : List ExportClass). cs ++ climb_from classes n q above) (map-append (λ (b : Bor ExportClass). b.now)
    line (c ∷ []))
    ∙ append_assoc (classes_at line) (d ∷ []) (climb_from classes n q above)
    ∙ ap (λ (ns : List (List ℕ)). classes_at line ++ d ∷ climb_from classes n q ns) up
    ∙ ap (λ (cs : List ExportClass). classes_at line ++ d ∷ cs) (climb_same classes n q (λ y. bytes_eq x y
    || p y) (d.supers ++ left) h)
    ∙ ap (λ (cs : List ExportClass). classes_at line ++ cs) (looked_at classes n p x left names (Some d) is fresh found)

-- ---- the whole line

-- before the first step
pub climb_begun : (classes : List ExportClass) (steps : ℕ) (p : List ℕ → Bool) (line : List (Bor ExportClass))
    (c : Bor ExportClass) (left : List (List ℕ)) → line ≡ c ∷ [] → ((x : List ℕ) → p x ≡ false)
    → (let d = c.now in (left ≡ d.supers) × (steps ≡ length d.supers + super_count classes)) → classes_at line
    ++ climb_from classes steps p left ≡ line_of classes c.now
climb_begun classes steps p line c left is none begun =
    let d = c.now in
    ap (λ (cs : List (Bor ExportClass)). classes_at cs ++ climb_from classes steps p left) is
    ∙ ap (λ (cs : List ExportClass). d ∷ cs) (climb_upwards classes steps p [] left none)
    ∙ ap (λ (ns : List (List ℕ)). d ∷ upwards_from classes steps [] ns) begun.0
    ∙ ap (λ (n : ℕ). d ∷ upwards_from classes n [] d.supers) begun.1

-- the line, where none is left
pub line_done : (classes : List ExportClass) (n : ℕ) (p : List ℕ → Bool) (line items : List (Bor ExportClass))
    (left : List (List ℕ)) (total : List ExportClass) → line ≡ items → length left ≡ 0
    → classes_at items ++ climb_from classes n p left ≡ total → classes_at line ≡ total
line_done classes n p line items left total is none so_far =
    ap classes_at is
    ∙ sym (append-nil (classes_at items))
    ∙ ap (λ (cs : List ExportClass). classes_at items ++ cs) (sym (no_more classes n p))
    ∙ ap (λ (ns : List (List ℕ)). classes_at items ++ climb_from classes n p ns) (sym (nil_from_length left none))
    ∙ so_far

-- the line, where no step is left
pub line_full : (classes : List ExportClass) (n : ℕ) (p : List ℕ → Bool) (line items : List (Bor ExportClass))
    (left : List (List ℕ)) (total : List ExportClass) → line ≡ items → n ≡ 0
    → classes_at items ++ climb_from classes n p left ≡ total → classes_at line ≡ total
line_full classes n p line items left total is none so_far =
    ap classes_at is
    ∙ sym (append-nil (classes_at items))
    ∙ ap (λ (k : ℕ). classes_at items ++ climb_from classes k p left) (sym none)
    ∙ so_far
