-- Classes of the group by name, what stands above them, and selection in it, one step at a time.
use Rattle.std.proofs.Common.{◌≡◌, ℕ, suc, ◌+◌, ◌-◌, ◌<◌, ◌≤◌, refl, sym, ap, ◌∙◌, arith, List, [], ◌∷◌, ◌++◌}
use Rattle.std.proofs.Common.{length, drop, get_or, add-one, drop-cons, append_assoc, Option, Some, None}
use Rattle.std.proofs.lemmas.List.{append-nil, drop_all}
use Rattle.cjc_world.specs.ClassFile.declared.tree.ClassTree.{ClassTree}
use Rattle.cjc_world.specs.ClassFile.declared.tree.MethodTree.{MethodTree}
use Rattle.cjc_group.specs.Implementing.{Declared, class_file, class_limit, declared_from, declared_in, method_in}
use Rattle.cjc_group.specs.Implementing.{selected_in, upwards}
use Rattle.cjc_group.specs.Members.{Member}

-- ---- the first package that has a class

pub declared_next : (group : List Member) (i : ℕ) (name : List ℕ) (d : Member) (all : Option Declared)
    → i < length group → class_file name (get_or group i d) ≡ None → declared_from i (drop i group) name ≡ all
    → declared_from (i + 1) (drop (i + 1) group) name ≡ all
declared_next group i name d all lt none so_far =
    let step : declared_from i (drop i group) name ≡ declared_from (i + 1) (drop (i + 1) group) name =
    rw (drop-cons group i d lt, none, add-one) refl in
    sym step ∙ so_far

pub declared_found : (group : List Member) (i : ℕ) (name : List ℕ) (d : Member) (c : ClassTree)
    (all : Option Declared) → i < length group → class_file name (get_or group i d) ≡ Some c
    → declared_from i (drop i group) name ≡ all → Some (record { part = i; class = c }) ≡ all
declared_found group i name d c all lt found so_far =
    let step : declared_from i (drop i group) name ≡ Some (record { part = i; class = c }) =
    rw (drop-cons group i d lt, found) refl in
    sym step ∙ so_far

pub declared_ends : (group : List Member) (i : ℕ) (name : List ℕ) (all : Option Declared) → length group ≤ i
    → declared_from i (drop i group) name ≡ all → None ≡ all
declared_ends group i name all le so_far =
    let step : declared_from i (drop i group) name ≡ None = rw (drop_all i group le) refl in
    sym step ∙ so_far

-- ---- superclasses

one_step_less : (n : ℕ) → n < class_limit → class_limit - n ≡ suc (class_limit - (n + 1))
one_step_less n lt = omega (arith, lt)

pub upwards_next : (group : List Member) (line : List Declared) (n : ℕ) (next : List ℕ) (d : Declared)
    (all : List Declared) → n < class_limit → declared_in group next ≡ Some d
    → line ++ upwards group (class_limit - n) next ≡ all
    → (line ++ d ∷ []) ++ upwards group (class_limit - (n + 1)) d.class.superclass ≡ all
unfolding upwards
upwards_next group line n next d all lt found so_far =
    let step : upwards group (class_limit - n) next ≡ d ∷ upwards group (class_limit - (n + 1)) d.class.superclass =
    ap (λ (k : ℕ). upwards group k next) (one_step_less n lt) ∙ rw found refl in
    append_assoc line (d ∷ []) (upwards group (class_limit - (n + 1)) d.class.superclass)
    ∙ sym (ap (λ (xs : List Declared). line ++ xs) step) ∙ so_far

pub upwards_stops : (group : List Member) (line : List Declared) (n : ℕ) (next : List ℕ) (all : List Declared)
    → n < class_limit → declared_in group next ≡ None → line ++ upwards group (class_limit - n) next ≡ all
    → line ≡ all
unfolding upwards
upwards_stops group line n next all lt none so_far =
    let step : upwards group (class_limit - n) next ≡ [] =
    ap (λ (k : ℕ). upwards group k next) (one_step_less n lt) ∙ rw none refl in
    sym (append-nil line) ∙ sym (ap (λ (xs : List Declared). line ++ xs) step) ∙ so_far

pub upwards_ends : (group : List Member) (line : List Declared) (n : ℕ) (next : List ℕ) (all : List Declared)
    → class_limit ≤ n → line ++ upwards group (class_limit - n) next ≡ all → line ≡ all
unfolding upwards
upwards_ends group line n next all le so_far =
    let none : class_limit - n ≡ 0 = omega (arith, le) in
    let step : upwards group (class_limit - n) next ≡ [] = ap (λ (k : ℕ). upwards group k next) none in
    sym (append-nil line) ∙ sym (ap (λ (xs : List Declared). line ++ xs) step) ∙ so_far

-- ---- selection for a package-visible method

pub selected_next : (part : ℕ) (name desc : List ℕ) (line : List Declared) (i : ℕ) (d : Declared)
    (all : Option MethodTree) → i < length line → method_in part name desc (get_or line i d) ≡ None
    → selected_in part name desc (drop i line) ≡ all → selected_in part name desc (drop (i + 1) line) ≡ all
selected_next part name desc line i d all lt none so_far =
    let step : selected_in part name desc (drop i line) ≡ selected_in part name desc (drop (i + 1) line) =
    rw (add-one, drop-cons line i d lt, none) refl in
    sym step ∙ so_far

pub selected_found : (part : ℕ) (name desc : List ℕ) (line : List Declared) (i : ℕ) (d : Declared) (m : MethodTree)
    (all : Option MethodTree) → i < length line → method_in part name desc (get_or line i d) ≡ Some m
    → selected_in part name desc (drop i line) ≡ all → Some m ≡ all
selected_found part name desc line i d m all lt found so_far =
    let step : selected_in part name desc (drop i line) ≡ Some m = rw (drop-cons line i d lt, found) refl in
    sym step ∙ so_far

pub selected_ends : (part : ℕ) (name desc : List ℕ) (line : List Declared) (i : ℕ) (all : Option MethodTree)
    → length line ≤ i → selected_in part name desc (drop i line) ≡ all → None ≡ all
selected_ends part name desc line i all le so_far =
    let step : selected_in part name desc (drop i line) ≡ None = rw (drop_all i line le) refl in
    sym step ∙ so_far
