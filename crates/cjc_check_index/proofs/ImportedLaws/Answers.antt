-- Answers put down by token, one by one; and how they are looked up.
use Rattle.std.proofs.Common.{◌≡◌, ℕ, zero, suc, ◌+◌, ◌<◌, ◌≤◌, ◌==◌, Bool, true, false, List, [], ◌∷◌, ◌++◌, length}
use Rattle.std.proofs.Common.{get_or, drop, map, refl, sym, ap, ◌∙◌, arith, Option, Some, None, slice_get}
use Rattle.std.specs.Prelude.{◌||◌, ◌&&◌, not, is_none, option_and_then}
use Rattle.std.specs.List.{find, list_any, range_with_len}
use Rattle.std.proofs.lemmas.List.{drop_more, drop_all, get_or-set_other, get_or-map, length-set}
use Rattle.std.proofs.lemmas.List.FromFn.{fill_by_all, get_or-map-range_with_len, map-range_with_len_more}
use Rattle.std.proofs.lemmas.Grind.{get_or-set_at}
use Rattle.std.proofs.lemmas.Bool.Decides.{nat_tests}
use Rattle.std.proofs.lemmas.Option.{slice_get_past, slice_get_within, slice_get-get_or}
use Rattle.cjc_check_rules.specs.LowerBytes.AccessFlags.{is_static}
use Rattle.cjc_check_rules.specs.ExportFile.declared.tree.ExportClass.{ExportClass}
use Rattle.cjc_check_rules.specs.ExportFile.declared.tree.ExportTree.{ExportTree}
use Rattle.cjc_check_rules.specs.ExportFile.Supers.{classes_of, has_virtual, inherits_virtual}
use Rattle.cjc_check_index.specs.Lookup.Indexed.{place_from, places_of}
use Rattle.cjc_check_index.proofs.LookupLaws.Indexed.{file_at, found_at, place_is}
use Rattle.cjc_check_rules.specs.Classes.{class_with, imported, is_exported_class}
use Rattle.cjc_check_rules.specs.Members as members
use Rattle.cjc_check_rules.specs.Members.{is_unbound}
use Rattle.cjc_check_index.specs.Imported.Tokens.{all_tokens, by_token, each_class, has_field, static_field}
use Rattle.cjc_check_index.specs.Imported.Tokens.{static_method}
use Rattle.cjc_check_index.specs.Imported.Working.Rows.{lists_field, lists_method, with_answer}
use Rattle.cjc_check_index.specs.Imported.Working.Lookup.{holds_of, answer_by_token, answer_of_class}
use Rattle.cjc_check_index.proofs.ImportedLaws.Loops.{or_false}
use Rattle.cjc_check_rules.proofs.BytesBools.{or_true, bool_either, or_assoc}
use Rattle.cjc_check_rules.proofs.BytesNumbers.{number_apart}
use Rattle.cjc_check_rules.proofs.BytesLists.{map_same}

-- ---- the loop

pub length-with_answer : (asked : Bool) (answers : List Bool) (token : ℕ) → length (with_answer asked answers token)
    ≡ length answers
length-with_answer true answers token = length-set answers token true
length-with_answer false answers token = refl

one_answer : (asked : Bool) (answers : List Bool) (token t : ℕ) → t < length answers
    → get_or (with_answer asked answers token) t false ≡ (get_or answers t false || (asked && (token == t)))
one_answer false answers token t lt = sym (or_false (get_or answers t false))
one_answer true answers token t lt = bool_either (token == t)
    (λ yes.
    let same : t ≡ token = grind (arith, nat_tests, yes) in
    get_or-set_at answers token t true false same (omega (arith, same, lt)) ∙ sym (or_true (get_or answers t false))
    ∙ ap (λ b. get_or answers t false || b) (sym yes))
    (λ off. get_or-set_other answers token t true false (number_apart token t off) ∙ sym (or_false
    (get_or answers t false))
    ∙ ap (λ b. get_or answers t false || b) (sym off))

pub answers_more : {A : Type 0} (asked : A → Bool) (token : A → ℕ) (i t : ℕ) (x : A) (xs : List A) (answers next :
    List Bool) (total : Bool) → i < length xs → x ≡ get_or xs i x → t < length answers
    → next ≡ with_answer (asked x) answers (token x)
    → (get_or answers t false || list_any (λ y. asked y && (token y == t)) (drop i xs)) ≡ total
    → (get_or next t false || list_any (λ y. asked y && (token y == t)) (drop (i + 1) xs)) ≡ total
answers_more {A} asked token i t x xs answers next total lt is small n so_far =
    let test : A → Bool = λ y. asked y && (token y == t) in
    let d : drop i xs ≡ x ∷ drop (i + 1) xs = drop_more xs i x lt ∙ ap (λ (y : A). y ∷ drop (i + 1) xs) (sym is) in
    ap (λ (bs : List Bool). get_or bs t false || list_any test (drop (i + 1) xs)) n
    ∙ ap (λ b. b || list_any test (drop (i + 1) xs)) (one_answer (asked x) answers (token x) t small)
    ∙ or_assoc (get_or answers t false) (test x) (list_any test (drop (i + 1) xs))
    ∙ ap (λ (ys : List A). get_or answers t false || list_any test ys) (sym d) ∙ so_far

pub answers_all : {A : Type 0} (asked : A → Bool) (token : A → ℕ) (i : ℕ) (xs : List A) (answers : List Bool)
    → length xs ≤ i → length answers ≡ 256
    → ((t : ℕ) → t < 256 → (get_or answers t false || list_any (λ y. asked y && (token y == t)) (drop i xs))
    ≡ list_any (λ y. asked y && (token y == t)) xs)
    → answers ≡ map (λ t. list_any (λ y. asked y && (token y == t)) xs) all_tokens
unfolding all_tokens
answers_all {A} asked token i xs answers le size h = fill_by_all (λ t. list_any (λ y. asked y && (token y == t)) xs)
    answers 256 false size
    (λ t lt. sym (or_false (get_or answers t false)) ∙ sym (ap (λ (ys : List A). get_or answers t false
    || list_any (λ y. asked y && (token y == t)) ys) (drop_all i xs le)) ∙ h t lt)

-- ---- the same tests in other words

any_same : {A : Type 0} (p q : A → Bool) → ((x : A) → p x ≡ q x) → (xs : List A) → list_any p xs ≡ list_any q xs
any_same p q h [] = refl
any_same p q h (x ∷ xs) = ap (λ b. b || list_any p xs) (h x) ∙ ap (λ b. q x || b) (any_same p q h xs)

turn : (a b : Bool) → (a && b) ≡ (b && a)
turn true true = refl
turn true false = refl
turn false true = refl
turn false false = refl

turn_three : (a b c : Bool) → ((a && b) && c) ≡ (c && b && a)
turn_three true true true = refl
turn_three true true false = refl
turn_three true false true = refl
turn_three true false false = refl
turn_three false true true = refl
turn_three false true false = refl
turn_three false false true = refl
turn_three false false false = refl

pub static_methods_are : (token : ℕ) (c : ExportClass) → lists_method true token c ≡ static_method token c
static_methods_are token c = any_same (λ m. is_unbound m && m.token == token) (λ m. m.token == token && is_unbound m)
    (λ m. turn (is_unbound m) (m.token == token)) c.methods

pub static_fields_are : (token : ℕ) (c : ExportClass) → lists_field true token c ≡ static_field token c
static_fields_are token c = any_same (λ f. (is_none f.constant && is_static f.flags) && f.token == token)
    (λ f. f.token == token && is_static f.flags && is_none f.constant)
    (λ f. turn_three (is_none f.constant) (is_static f.flags) (f.token == token)) c.fields

pub fields_are : (token : ℕ) (c : ExportClass) → lists_field false token c ≡ members.lists_field token c
fields_are token c = any_same (λ f. (is_none f.constant && not (is_static f.flags)) && f.token == token)
    (λ f. f.token == token && not (is_static f.flags) && is_none f.constant)
    (λ f. turn_three (is_none f.constant) (not (is_static f.flags)) (f.token == token)) c.fields

pub each_class_same : (p q : ℕ → ExportClass → Bool) → ((token : ℕ) (c : ExportClass) → p token c ≡ q token c)
    → (classes : List ExportClass) → each_class p classes ≡ each_class q classes
each_class_same p q h classes = map_same (λ c. map (λ t. p t c) all_tokens) (λ c. map (λ t. q t c) all_tokens)
    (λ c. map_same (λ t. p t c) (λ t. q t c) (λ t. h t c) all_tokens) classes

-- ---- looked up

pub token_at : {X : Type 0} (f : ℕ → X) (token : ℕ) (d : X) → token < 256 → get_or (map f all_tokens) token d ≡ f token
unfolding all_tokens
token_at f token d lt = get_or-map-range_with_len f 0 256 token token d lt (omega arith)

place_class : (classes : List ExportClass) (k : ℕ) (o : Option ExportClass) (c : ExportClass) → slice_get classes k ≡ o
    → o ≡ Some c → (d : ExportClass) → get_or classes k d ≡ c
place_class classes k o c e f d =
    let lt = slice_get_within classes k c (e ∙ f) in
    let s : Some (get_or classes k d) ≡ Some c = sym (slice_get-get_or classes k d lt) ∙ e ∙ f in
    cc

pub answer_by_token_is : (test : ℕ → ExportClass → Bool) (classes : List ExportClass) (rows : List (List Bool))
    (token : ℕ) (place : Option ℕ) (o : Option ExportClass) → token < 256 → rows ≡ by_token test classes
    → option_and_then (slice_get classes) place ≡ o → answer_by_token rows token place ≡ holds_of (test token) o
answer_by_token_is test classes rows token None o lt e p = ap (holds_of (test token)) p
answer_by_token_is test classes rows token (Some k) None lt e p =
    let row : get_or rows token [] ≡ map (test token) classes = ap (λ (rs : List (List Bool)). get_or rs token []) e
    ∙ token_at (λ t. map (test t) classes) token [] lt in
    ap (λ (bs : List Bool). get_or bs k false) row ∙ past classes k p
  where
    past : (cs : List ExportClass) (n : ℕ) → slice_get cs n ≡ None → get_or (map (test token) cs) n false ≡ false
    past [] n f = refl
    past (c ∷ cs) zero f = absurd cc
    past (c ∷ cs) (suc n) f = past cs n f
answer_by_token_is test classes rows token (Some k) (Some c) lt e p =
    let row : get_or rows token [] ≡ map (test token) classes = ap (λ (rs : List (List Bool)). get_or rs token []) e
    ∙ token_at (λ t. map (test t) classes) token [] lt in
    let less = slice_get_within classes k c p in
    ap (λ (bs : List Bool). get_or bs k false) row ∙ get_or-map (test token) classes k c false less
    ∙ ap (test token) (place_class classes k (Some c) c p refl c)

pub answer_of_class_is : (test : ℕ → ExportClass → Bool) (classes : List ExportClass) (tables : List (List Bool))
    (token : ℕ) (place : Option ℕ) (o : Option ExportClass) → token < 256 → tables ≡ each_class test classes
    → option_and_then (slice_get classes) place ≡ o → answer_of_class tables token place ≡ holds_of (test token) o
answer_of_class_is test classes tables token None o lt e p = ap (holds_of (test token)) p
answer_of_class_is test classes tables token (Some k) None lt e p =
    ap (λ (ts : List (List Bool)). get_or (get_or ts k []) token false) e ∙ past classes k p
  where
    past : (cs : List ExportClass) (n : ℕ) → slice_get cs n ≡ None → get_or (get_or (each_class test cs) n []) token
        false ≡ false
    past [] n f = refl
    past (c ∷ cs) zero f = absurd cc
    past (c ∷ cs) (suc n) f = past cs n f
answer_of_class_is test classes tables token (Some k) (Some c) lt e p =
    let less = slice_get_within classes k c p in
    let row : get_or (each_class test classes) k [] ≡ map (λ t. test t (get_or classes k c)) all_tokens =
    get_or-map (λ (x : ExportClass). map (λ t. test t x) all_tokens) classes k c [] less in
    ap (λ (ts : List (List Bool)). get_or (get_or ts k []) token false) e
    ∙ ap (λ (bs : List Bool). get_or bs token false) row
    ∙ token_at (λ t. test t (get_or classes k c)) token false lt
    ∙ ap (test token) (place_class classes k (Some c) c p refl c)

-- ---- the place of a class

pub found_in_file : (classes : List ExportClass) (places : List (Option ℕ)) (token n k : ℕ) (d : Option ℕ) → token < 256
    → places ≡ places_of classes → n ≡ token → get_or places n d ≡ Some k
    → slice_get classes k ≡ find (λ c. c.token == token) classes
found_in_file classes places token n k d lt e m is =
    let at : place_from 0 classes token ≡ Some k = sym (place_is classes places token d lt e)
    ∙ ap (λ (t : ℕ). get_or places t d) (sym m) ∙ is in
    found_at token k classes at

pub no_file : (exports : List ExportTree) (n import class : ℕ) → n ≡ import → length exports ≤ n
    → None ≡ imported exports import class
no_file exports n import class e le =
    let far : length exports ≤ import = omega (arith, e, le) in
    sym (ap (option_and_then (class_with class)) (slice_get_past exports import far))

pub in_file : (exports : List ExportTree) (n import class : ℕ) (t : ExportTree) → n ≡ import → n < length exports
    → t ≡ get_or exports n t → find (λ c. c.token == class) t.classes ≡ imported exports import class
in_file exports n import class t e lt is = sym (file_at exports t n class lt is)
    ∙ ap (λ (k : ℕ). imported exports k class) e

-- ---- what is asked

pub fields_told : (exports : List ExportTree) (o : Option ExportClass) (token : ℕ)
    → holds_of (has_field (classes_of exports) token) o ≡ members.class_has_field exports o token
fields_told exports None token = refl
fields_told exports (Some c) token = refl

pub static_fields_told : (o : Option ExportClass) (token : ℕ) → holds_of (static_field token) o
    ≡ members.has_static_field o token
static_fields_told None token = refl
static_fields_told (Some c) token = refl

pub static_methods_told : (o : Option ExportClass) (token : ℕ) → holds_of (static_method token) o
    ≡ members.has_static_method o token
static_methods_told None token = refl
static_methods_told (Some c) token = refl

pub virtuals_told : (exports : List ExportTree) (o : Option ExportClass) (token : ℕ) → is_exported_class o ≡ true
    → holds_of (has_virtual (classes_of exports) token) o ≡ members.class_has exports o token
virtuals_told exports None token e = refl
virtuals_told exports (Some c) token e = sym (ap (λ b. b && has_virtual (classes_of exports) token c) e)

pub inherited_told : (exports : List ExportTree) (o : Option ExportClass) (token : ℕ) → is_exported_class o ≡ true
    → holds_of (inherits_virtual (classes_of exports) token) o ≡ members.supers_have exports o token
inherited_told exports None token e = refl
inherited_told exports (Some c) token e = sym (ap (λ b. b && inherits_virtual (classes_of exports) token c) e)

-- ---- rows by token

pub rows_more : (f : ℕ → List Bool) (n : ℕ) (done next : List (List Bool)) (row : List Bool) → next ≡ done ++ row ∷ []
    → row ≡ f n → done ≡ map f (range_with_len 0 n) → next ≡ map f (range_with_len 0 (n + 1))
rows_more f n done next row e is so_far =
    e ∙ ap (λ (rs : List (List Bool)). rs ++ row ∷ []) so_far ∙ ap (λ (r : List Bool). map f (range_with_len 0 n)
    ++ r ∷ []) is ∙ sym (map-range_with_len_more f 0 n n (omega arith))

pub rows_all : (f : ℕ → List Bool) (n : ℕ) (done : List (List Bool)) → n ≡ 256 → done ≡ map f (range_with_len 0 n)
    → done ≡ map f all_tokens
unfolding all_tokens
rows_all f n done e so_far = so_far ∙ ap (λ (k : ℕ). map f (range_with_len 0 k)) e
