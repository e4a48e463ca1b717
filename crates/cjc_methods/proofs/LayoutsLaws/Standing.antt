-- Where methods stand, by their codes and layouts.
use Rattle.std.proofs.Common.{◌≡◌, ℕ, suc, ◌+◌, ◌*◌, ◌≤◌, ◌<◌, refl, sym, ap, ◌∙◌, arith, Bool, true, false, List, []}
use Rattle.std.proofs.Common.{◌∷◌, ◌++◌, length, get_or, drop, append_assoc, append-nil}
use Rattle.std.proofs.lemmas.List.{drop_all}
use Rattle.std.specs.Prelude.{map, sum_by, slice_get, Some, if◌then◌else◌}
use Rattle.std.proofs.lemmas.List.Sums.{sum_by-cons}
use Rattle.cjc_pool.specs.NCode.declared.narrow.NCatch.{NCatch}
use Rattle.cjc_pool.specs.NCode.declared.narrow.NMethod.{NMethod}
use Rattle.cjc_pool.specs.Layout.Handlers.{handlers_of, table_order}
use Rattle.cjc_pool.specs.Layout.Layouts.{IsLayout}
use Rattle.cjc_pool.specs.Layout.Sizes.{bytes_before}
use Rattle.cjc_pool.specs.Emit.Emitted.{header_bytes}
use Rattle.cjc_components.specs.Methods.{bytecode_count, first_method, handler_count, header_of, method_size}
use Rattle.cjc_components.specs.Methods.{placed_from, with_abstract}
use Rattle.cjc_components.specs.Package.{LaidMethod}
use Rattle.cjc_methods.specs.declared.layouts.laid.Laid.{Laid}
use Rattle.cjc_methods.specs.declared.layouts.laid.Methods.{Methods}
use Rattle.cjc_methods.specs.Layouts.Laid.{AreLaid, laid_method, laid_methods, with_layouts}
use Rattle.cjc_methods.specs.Layouts.Working.Offsets.{offsets_from, size_of}
use Rattle.cjc_bytes.proofs.Gets.{at_item}
use Rattle.cjc_methods.specs.Layouts.Working.Offsets as kept

-- each has its layout
abbrev AreLaidHere : List NMethod → List Laid → Type 0
AreLaidHere cs ls = (k : ℕ) (code : NMethod) (l : Laid) → slice_get cs k ≡ Some code → slice_get ls k ≡ Some l
    → IsLayout code l.layout

-- ---- handlers

as_many : (to : ℕ → ℕ) (catches : List NCatch) → length (handlers_of to catches) ≡ length catches
as_many to [] = refl
as_many to (c ∷ catches) = ap suc (as_many to catches)

pub same_handlers : (code : NMethod) (l : Laid) → IsLayout code l.layout → handler_count (laid_method code l)
    ≡ kept.handlers_of l
same_handlers code l is = sym (ap length is.handlers ∙ as_many (bytes_before code.insns (let x = l.layout in x.wide))
    (table_order code.catches))

pub all_handlers : (cs : List NMethod) (ls : List Laid) → length ls ≡ length cs → AreLaidHere cs ls
    → sum_by handler_count (with_layouts cs ls) ≡ sum_by kept.handlers_of ls
all_handlers [] [] e each = refl
all_handlers [] (l ∷ ls) e each = absurd (omega (arith, e))
all_handlers (c ∷ cs) [] e each = refl
all_handlers (c ∷ cs) (l ∷ ls) e each =
    sum_by-cons handler_count (laid_method c l) (with_layouts cs ls)
    ∙ ap (λ n. n + sum_by handler_count (with_layouts cs ls)) (same_handlers c l (each 0 c l refl refl))
    ∙ ap (λ n. kept.handlers_of l + n) (all_handlers cs ls (omega (arith, e)) (λ k x y p q. each (suc k) x y p q))
    ∙ sym (sum_by-cons kept.handlers_of l ls)

pub first_is : (m : Methods) → AreLaid m → 1 + 8 * sum_by kept.handlers_of m.laid ≡ first_method (laid_methods m)
first_is m laid = ap (λ n. 1 + 8 * n) (sym (all_handlers m.codes m.laid laid.count laid.each))

-- ---- offsets

pub as_long : (bytes : List ℕ) → length (with_abstract bytes) ≡ length bytes
as_long [] = refl
as_long (b ∷ bytes) = refl

pub header_long : (m : LaidMethod) → length (header_of m) ≡ length (header_bytes m.code)
header_long m = by m.is_abstract
  where
    by : (b : Bool) → length (if b then with_abstract (header_bytes m.code) else header_bytes m.code)
        ≡ length (header_bytes m.code)
    by true = as_long (header_bytes m.code)
    by false = refl

same_size : (code : NMethod) (l : Laid) → IsLayout code l.layout → method_size (laid_method code l) ≡ size_of code l
same_size code l is =
    ap (λ n. n + bytecode_count (laid_method code l)) (header_long (laid_method code l))
    ∙ ap (λ n. length (header_bytes code) + n) (sym is.length)

pub offsets_are : (at : ℕ) (cs : List NMethod) (ls : List Laid) → AreLaidHere cs ls
    → map (λ q. q.offset) (placed_from at (with_layouts cs ls)) ≡ offsets_from at cs ls
offsets_are at [] ls each = refl
offsets_are at (c ∷ cs) [] each = refl
offsets_are at (c ∷ cs) (l ∷ ls) each =
    ap (λ n. at ∷ map (λ q. q.offset) (placed_from (at + n) (with_layouts cs ls)))
    (same_size c l (each 0 c l refl refl))
    ∙ ap (λ xs. at ∷ xs) (offsets_are (at + size_of c l) cs ls (λ k x y p q. each (suc k) x y p q))

pub all_offsets : (m : Methods) → AreLaid m → offsets_from (first_method (laid_methods m)) m.codes m.laid
    ≡ (let ms = laid_methods m in map (λ q. q.offset) (placed_from (first_method ms) ms))
all_offsets m laid = sym (offsets_are (first_method (laid_methods m)) m.codes m.laid laid.each)

-- ---- one after the other

pub offsets_more : (k at next : ℕ) (cs : List NMethod) (ls : List Laid) (c : NMethod) (l : Laid) (row total : List ℕ)
    → k < length cs → k < length ls → c ≡ get_or cs k c → l ≡ get_or ls k l → next ≡ at + size_of c l
    → row ++ offsets_from at (drop k cs) (drop k ls) ≡ total → (row ++ at ∷ []) ++ offsets_from next (drop (k + 1) cs)
    (drop (k + 1) ls) ≡ total
offsets_more k at next cs ls c l row total lt lt2 is is2 n so_far =
    ap (λ a. (row ++ at ∷ []) ++ offsets_from a (drop (k + 1) cs) (drop (k + 1) ls)) n
    ∙ append_assoc row (at ∷ []) (offsets_from (at + size_of c l) (drop (k + 1) cs) (drop (k + 1) ls))
    ∙ ap (λ (ys : List Laid). row ++ offsets_from at (c ∷ drop (k + 1) cs) ys) (sym (at_item k l ls lt2 is2))
    ∙ ap (λ (ys : List NMethod). row ++ offsets_from at ys (drop k ls)) (sym (at_item k c cs lt is))
    ∙ so_far

pub offsets_end : (k at : ℕ) (cs : List NMethod) (ls : List Laid) (row total : List ℕ) → length cs ≤ k
    → row ++ offsets_from at (drop k cs) (drop k ls) ≡ total → row ≡ total
offsets_end k at cs ls row total le so_far =
    sym (append-nil row) ∙ ap (λ (ys : List NMethod). row ++ offsets_from at ys (drop k ls)) (sym (drop_all k cs le))
    ∙ so_far

pub offsets_long : (at : ℕ) (cs : List NMethod) (ls : List Laid) → length ls ≡ length cs
    → length (offsets_from at cs ls) ≡ length cs
offsets_long at [] ls e = refl
offsets_long at (c ∷ cs) [] e = absurd (omega (arith, e))
offsets_long at (c ∷ cs) (l ∷ ls) e = ap suc (offsets_long (at + size_of c l) cs ls (omega (arith, e)))
