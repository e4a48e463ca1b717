-- The words of parameters, and whether a call goes by scratch pairs.
use Rattle.std.proofs.Common.{◌≡◌, ℕ, ◌+◌, ◌-◌, Bool, true, false, List, [], ◌∷◌, length, map, take, refl, sym, ap, ◌∙◌}
use Rattle.std.proofs.Common.{arith, suc, ◌++◌, cond, Some, None}
use Rattle.std.specs.Prelude.{◌||◌, ◌&&◌, if◌then◌else◌}
use Rattle.std.specs.List.{list_any}
use Rattle.cjc_subset.proofs.BytesLists.{length_mapped}
use Rattle.cjc_subset.specs.Bytes.AccessFlags.{is_static}
use Rattle.cjc_subset.specs.Bytes.Descriptor.{Part, Parts}
use Rattle.cjc_ncode.specs.LowerScript.Sorts.{Sort, Reference, OfClass, sort_of, result_by, signature_by, signature_of}
use Rattle.cjc_ncode.specs.LowerCardSemantics.Bytecode.Arguments.{width, widths}
use Rattle.cjc_ncode.specs.IntCode.IntCode.{is_short, is_by_scratch, scratch_pairs_by}
use Rattle.cjc_flow.specs.LowerTypes.Flow.{Body}
use Rattle.cjc_int_mode.specs.Written.{argument_words, params_by}
use Rattle.cjc_int_mode.specs.Working.Scratch.{has_short_before}

-- ---- words

pub widths_next : (words more : ℕ) (all rest : List Part) (p : Part) (total : ℕ) → all ≡ p ∷ rest
    → more ≡ width (sort_of p) → words + widths (map sort_of all) ≡ total
    → (words + more) + widths (map sort_of rest) ≡ total
widths_next words more all rest p total is one so_far =
    let first : widths (map sort_of all) ≡ width (sort_of p) + widths (map sort_of rest) =
    ap (λ ps. widths (map sort_of ps)) is in
    omega (arith, first, one, so_far)

pub widths_end : (words : ℕ) (all : List Part) (total : ℕ) → all ≡ [] → words + widths (map sort_of all) ≡ total
    → words ≡ total
widths_end words all total is so_far =
    let none : widths (map sort_of all) ≡ 0 = ap (λ ps. widths (map sort_of ps)) is in
    omega (arith, none, so_far)

-- ---- scratch pairs

front_is : (front : Bool) (sorts : List Sort) (s : Sort) → has_short_before front (s ∷ sorts)
    ≡ (front || has_short_before (is_short s) sorts)
front_is true sorts s = refl
front_is false sorts s = refl

none_before : (front : Bool) → has_short_before front [] ≡ false
none_before true = refl
none_before false = refl

any_before : (s : Sort) (sorts : List Sort) → list_any is_short (take (length sorts) (s ∷ sorts))
    ≡ has_short_before (is_short s) sorts
any_before s [] = sym (none_before (is_short s))
any_before s (t ∷ sorts) = ap (λ b. is_short s || b) (any_before t sorts) ∙ sym (front_is (is_short s) sorts t)

pub by_scratch : (sorts : List Sort) → is_by_scratch sorts ≡ has_short_before false sorts
by_scratch [] = refl
by_scratch (s ∷ sorts) = ap (λ n. list_any is_short (take n (s ∷ sorts))) less ∙ any_before s sorts
  where
    less : length (s ∷ sorts) - 1 ≡ length sorts
    less = let e : length (s ∷ sorts) ≡ suc (length sorts) = refl in omega (arith, e)

-- ---- the loop over parameters

pub scratch_found : (front : Bool) (all rest : List Part) (p : Part) (total : Bool) → all ≡ p ∷ rest → front ≡ true
    → has_short_before front (map sort_of all) ≡ total → true ≡ total
scratch_found front all rest p total is found so_far =
    sym (ap (λ b. has_short_before b (map sort_of all)) found ∙ ap (λ ps. has_short_before true (map sort_of ps)) is)
    ∙ so_far

pub scratch_end : (front : Bool) (all : List Part) (total : Bool) → all ≡ []
    → has_short_before front (map sort_of all) ≡ total → false ≡ total
scratch_end front all total is so_far =
    sym (ap (λ ps. has_short_before front (map sort_of ps)) is ∙ none_before front) ∙ so_far

-- ---- pairs and words

pub pairs_are : (d : Parts) → (if d.is_method && has_short_before false (map sort_of d.params) then length d.params
    else 0) ≡ scratch_pairs_by (signature_by d)
pairs_are d = ap (λ b. cond (d.is_method && b) (length d.params) 0) (sym (by_scratch (map sort_of d.params)))
    ∙ go d.is_method (is_by_scratch (map sort_of d.params)) refl
  where
    go : (method by : Bool) → is_by_scratch (map sort_of d.params) ≡ by
        → cond (method && by) (length d.params) 0 ≡ scratch_pairs_by (cond method (Some (record {
          params = map sort_of d.params;
          result = result_by (let r = d.result in r.kind) d.result;
        })) None)
    go false by is_by = refl
    go true true is_by = sym (length_mapped sort_of d.params)
        ∙ sym (ap (λ b. cond b (length (map sort_of d.params)) 0) is_by)
    go true false is_by = sym (ap (λ b. cond b (length (map sort_of d.params)) 0) is_by)

module _ (b : Body) (flags : ℕ) (desc : List ℕ) (words : ℕ) (is_flags : b.flags ≡ flags) (is_desc : b.desc ≡ desc)
    (is : words ≡ widths (params_by (signature_of desc))) where
  -- the words with those of a receiver, where there is one
  abbrev counted : Bool → ℕ
  counted static = widths ((if static then [] else Reference (OfClass b.class) ∷ []) ++ params_by (signature_of b.desc))

  params_are : words ≡ widths (params_by (signature_of b.desc))
  params_are = is ∙ ap (λ d. widths (params_by (signature_of d))) (sym is_desc)

  with_receiver : (static : Bool) → (if static then words else 1 + words) ≡ counted static
  with_receiver true = params_are
  with_receiver false = ap (λ n. 1 + n) params_are

  pub words_are : (if is_static flags then words else 1 + words) ≡ argument_words b
  words_are = with_receiver (is_static flags) ∙ ap counted (ap is_static (sym is_flags))
