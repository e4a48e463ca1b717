-- What is taken from the front of the instructions of all methods.
use Rattle.std.proofs.Common.{◌≡◌, ℕ, ◌+◌, ◌<◌, ◌≤◌, refl, sym, ap, ◌∙◌, arith, true, false, List, [], ◌∷◌}
use Rattle.std.proofs.Common.{◌++◌, length, drop, get_or, take, map}
use Rattle.std.specs.Prelude.{Option, Some, None, if◌then◌else◌, ◌==◌, ◌&&◌, Result, Ok, Err}
use Rattle.std.proofs.lemmas.List.{drop_all, map-append, take_more}
use Rattle.cjc_world.specs.Bytes.declared.breaks.BrokenAt.{BrokenAt}
use Rattle.cjc_world.specs.ClassFile.declared.tree.ClassTree.{ClassTree}
use Rattle.cjc_world.specs.ClassFile.declared.tree.MethodTree.{MethodTree}
use Rattle.cjc_world.specs.ClassFile.Code.{CodeTree}
use Rattle.cjc_jvm_step.specs.Bytecode.declared.insn.JInsn.{JInsn}
use Rattle.cjc_jvm_step.specs.Bytecode.declared.method_code.MethodCode.{MethodCode}
use Rattle.cjc_jvm_step.specs.Bytecode.Decoded.{decoding, decoded, insns_of}
use Rattle.cjc_jvm_step.specs.Bytecode.PackageCodes.{first_insns, code_with, where_code, of_methods, of_classes}
use Rattle.cjc_jvm_link.specs.Methods.{is_first, insns_at, behind, insns_in}
use Rattle.cjc_world.proofs.BytesGets.{drop_next}
use Rattle.cjc_world.proofs.BytesNumbers.{like_number, other_number}

first_of_two : (k j : ℕ) → ((k == k) && (j == j)) ≡ true
first_of_two k j = ap (λ t. t && (j == j)) (like_number k) ∙ like_number j

-- none of a class's methods from a place on is this one
skips : (n k j i : ℕ) → ((l : ℕ) → i ≤ l → ((n == k) && (l == j)) ≡ false)
    → (tree : ClassTree) (ms : List MethodTree) (tail : List MethodCode) → is_first k j tail ≡ false
    → is_first k j (of_methods code_with n i tree ms ++ tail) ≡ false
skips n k j i apart tree [] tail end = end
skips n k j i apart tree (m ∷ ms) tail end = by (skips n k j (i + 1) (λ l h. apart l (omega arith)) tree ms tail end)
    m.code
  where
    result : is_first k j (of_methods code_with n (i + 1) tree ms ++ tail) ≡ false → (r : Result (List JInsn) BrokenAt)
        → is_first k j ((code_with n i r ++ of_methods code_with n (i + 1) tree ms) ++ tail) ≡ false
    result more (Ok insns) = apart i (omega arith)
    result more (Err broken) = more

    by : is_first k j (of_methods code_with n (i + 1) tree ms ++ tail) ≡ false → (code : Option CodeTree)
        → is_first k j ((where_code (code_with n i) tree m code ++ of_methods code_with n (i + 1) tree ms) ++ tail)
        ≡ false
    by more (Some code) = result more (decoding tree m code)
    by more None = more

later_classes : (n k j : ℕ) → k < n → (trees : List ClassTree) → is_first k j (of_classes code_with n trees) ≡ false
later_classes n k j h [] = refl
later_classes n k j h (tree ∷ trees) =
    skips n k j 0 (λ l _. ap (λ t. t && (l == j)) (other_number n k (λ e. omega arith))) tree tree.methods
    (of_classes code_with (n + 1) trees) (later_classes (n + 1) k j (omega arith) trees)

later_methods : (k j : ℕ) (tree : ClassTree) (ms : List MethodTree) (later : List ClassTree)
    → is_first k j (of_methods code_with k (j + 1) tree ms ++ of_classes code_with (k + 1) later) ≡ false
later_methods k j tree ms later =
    skips k k j (j + 1) (λ l h. ap (λ t. t && (l == j)) (like_number k) ∙ other_number l j (λ e. omega arith)) tree ms
    (of_classes code_with (k + 1) later) (later_classes (k + 1) k j (omega arith) later)

-- what is taken at a method, and what is left
pub taken : (k j : ℕ) (tree : ClassTree) (m : MethodTree) (ms : List MethodTree) (later : List ClassTree)
    → (insns_at k j (of_methods code_with k j tree (m ∷ ms) ++ of_classes code_with (k + 1) later)
    ≡ insns_in tree m m.code)
    × (behind k j (of_methods code_with k j tree (m ∷ ms) ++ of_classes code_with (k + 1) later)
    ≡ of_methods code_with k (j + 1) tree ms ++ of_classes code_with (k + 1) later)
unfolding decoded
taken k j tree m ms later = by m.code
  where
    tail : List MethodCode
    tail = of_methods code_with k (j + 1) tree ms ++ of_classes code_with (k + 1) later

    none : is_first k j tail ≡ false
    none = later_methods k j tree ms later

    passed : (insns_at k j tail ≡ []) × (behind k j tail ≡ tail)
    passed = (ap (λ t. if t then first_insns tail else []) none, ap (λ t. if t then drop 1 tail else tail) none)

    result : (r : Result (List JInsn) BrokenAt)
        → (insns_at k j ((code_with k j r ++ of_methods code_with k (j + 1) tree ms)
        ++ of_classes code_with (k + 1) later) ≡ insns_of r)
        × (behind k j ((code_with k j r ++ of_methods code_with k (j + 1) tree ms)
        ++ of_classes code_with (k + 1) later) ≡ tail)
    result (Ok insns) = (
      ap (λ t. if t then insns else []) (first_of_two k j),
      ap (λ t. if t then tail
          else record { class = k; method = j; insns = insns } ∷ tail) (first_of_two k j),
    )
    result (Err broken) = passed

    by : (code : Option CodeTree)
        → (insns_at k j ((where_code (code_with k j) tree m code ++ of_methods code_with k (j + 1) tree ms)
        ++ of_classes code_with (k + 1) later) ≡ insns_in tree m code)
        × (behind k j ((where_code (code_with k j) tree m code ++ of_methods code_with k (j + 1) tree ms)
        ++ of_classes code_with (k + 1) later) ≡ tail)
    by (Some code) = result (decoding tree m code)
    by None = passed

-- ---- a walk over methods, and over classes

pub method_step : (k j : ℕ) (tree : ClassTree) (ms : List MethodTree) (later : List ClassTree) (codes : List MethodCode)
    (m : MethodTree) → j < length ms → m ≡ get_or ms j m
    → codes ≡ of_methods code_with k j tree (drop j ms) ++ of_classes code_with (k + 1) later
    → (insns_at k j codes ≡ insns_in tree m m.code)
    × (behind k j codes ≡ of_methods code_with k (j + 1) tree (drop (j + 1) ms)
    ++ of_classes code_with (k + 1) later)
method_step k j tree ms later codes m h is e =
    let here : codes ≡ of_methods code_with k j tree (m ∷ drop (j + 1) ms) ++ of_classes code_with (k + 1) later = e
    ∙ ap (λ ys. of_methods code_with k j tree ys ++ of_classes code_with (k + 1) later) (drop_next ms j m h is) in
    let t = taken k j tree m (drop (j + 1) ms) later in
    (ap (insns_at k j) here ∙ t.0, ap (behind k j) here ∙ t.1)

pub methods_end : (k j : ℕ) (tree : ClassTree) (ms : List MethodTree) (later : List ClassTree) (codes : List MethodCode)
    → length ms ≤ j
    → codes ≡ of_methods code_with k j tree (drop j ms) ++ of_classes code_with (k + 1) later
    → codes ≡ of_classes code_with (k + 1) later
methods_end k j tree ms later codes h e = e ∙ ap (λ ys. of_methods code_with k j tree ys
    ++ of_classes code_with (k + 1) later) (drop_all j ms h)

pub class_step : (n : ℕ) (trees : List ClassTree) (codes : List MethodCode) (tree : ClassTree) → n < length trees
    → tree ≡ get_or trees n tree
    → codes ≡ of_classes code_with n (drop n trees) → codes ≡ of_methods code_with n 0 tree tree.methods
    ++ of_classes code_with (n + 1) (drop (n + 1) trees)
class_step n trees codes tree h is e = e ∙ ap (of_classes code_with n) (drop_next trees n tree h is)

pub map_step : {A B : Type 0} (f : A → B) (xs : List A) (i : ℕ) (x : A) (ys : List B) (y : B) → i < length xs
    → x ≡ get_or xs i x → ys ≡ map f (take i xs) → y ≡ f x → ys ++ y ∷ [] ≡ map f (take (i + 1) xs)
map_step f xs i x ys y h is e same =
    ap (λ z. z ++ y ∷ []) e ∙ ap (λ z. map f (take i xs) ++ z ∷ []) (same ∙ ap f is)
    ∙ sym (map-append f (take i xs) (get_or xs i x ∷ [])) ∙ ap (map f) (sym (take_more xs i x h))
