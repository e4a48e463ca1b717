-- Classes of export files, one after the other.
use Rattle.std.proofs.Common.{◌≡◌, ℕ, zero, suc, ◌<◌, ◌≤◌, ◌+◌, ◌-◌, refl, sym, ap, ◌∙◌, arith, Bool, true, false, List}
use Rattle.std.proofs.Common.{[], ◌∷◌, ◌++◌, length, get_or, drop, add-one}
use Rattle.std.specs.Prelude.{slice_get, if◌then◌else◌}
use Rattle.std.proofs.Math.Seq.{drop-cons}
use Rattle.std.proofs.lemmas.Grind.{common_steps}
use Rattle.cjc_bytes.specs.declared.settings.FileLine.{FileLine}
use Rattle.cjc_world.specs.ExportFile.declared.tree.ExportTree.{ExportTree}
use Rattle.cjc_subset.specs.Members.{imports}

split : {A : Type 0} (xs : List A) (i : ℕ) (x : A) → i < length xs → x ≡ get_or xs i x → drop i xs ≡ x ∷ drop (i + 1) xs
split xs i x l is = drop-cons xs i x l ∙ ap (λ y. y ∷ drop (suc i) xs) (sym is)
    ∙ ap (λ m. x ∷ drop m xs) (sym (add-one i))

-- ---- classes of export files

get_front : {A : Type 0} (xs ys : List A) (n : ℕ) → n < length xs → slice_get (xs ++ ys) n ≡ slice_get xs n
get_front [] ys n l = absurd (omega arith)
get_front (x ∷ xs) ys zero l = refl
get_front (x ∷ xs) ys (suc n) l = get_front xs ys n (omega arith)

get_back : {A : Type 0} (xs ys : List A) (n : ℕ) → length xs ≤ n → slice_get (xs ++ ys) n ≡ slice_get ys (n - length xs)
get_back [] ys n l = ap (slice_get ys) (let s : n ≡ n - 0 = omega arith in s)
get_back (x ∷ xs) ys zero l = absurd (omega arith)
get_back (x ∷ xs) ys (suc n) l = get_back xs ys n (omega arith) ∙ ap (slice_get ys) (let s : n - length xs
    ≡ suc n - suc (length xs) = omega arith in s)

module _ (ts : List ExportTree) (i : ℕ) (t : ExportTree) (l : i < length ts) (is : t ≡ get_or ts i t) where
  next : imports (drop i ts) ≡ t.classes ++ imports (drop (i + 1) ts)
  next = ap imports (split ts i t l is)

  pub import_here : (n : ℕ) → n < length t.classes → slice_get (imports (drop i ts)) n ≡ slice_get t.classes n
  import_here n h = ap (λ cs. slice_get cs n) next ∙ get_front t.classes (imports (drop (i + 1) ts)) n h

  pub import_on : (n : ℕ) → length t.classes ≤ n → slice_get (imports (drop i ts)) n
      ≡ slice_get (imports (drop (i + 1) ts)) (n - length t.classes)
  import_on n h = ap (λ cs. slice_get cs n) next ∙ get_back t.classes (imports (drop (i + 1) ts)) n h
