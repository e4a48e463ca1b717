-- The size of Method by the greatest sizes of its instructions, and the first of two limits.
use Rattle.std.proofs.Common.{◌≡◌, ℕ, ◌+◌, ◌*◌, Bool, true, false, List, [], ◌∷◌, ◌++◌, map, length, refl, sym, ap}
use Rattle.std.proofs.Common.{subst, ◌∙◌, arith, inl, inr, Option, Some, None}
use Rattle.std.specs.Prelude.{◌||◌, nat_lt, sum_by, if◌then◌else◌}
use Rattle.std.proofs.lemmas.List.{length-map}
use Rattle.std.proofs.lemmas.List.Sums.{sum_by-cons}
use Rattle.cjc_exported.specs.Bytes.Breaks.{Among, Break, IsFirst, at, broken_at, foremost, after, list_spot}
use Rattle.cjc_exported.specs.Bytes.Order.{NotAfter}
use Rattle.cjc_classes.specs.CapWrite.Files.{infos_of, is_too_large, limit_of}
use Rattle.cjc_classes.specs.NCode.declared.narrow.NMethod.{NMethod}
use Rattle.cjc_exported.specs.Components.Components.{components_of}
use Rattle.cjc_exported.specs.Components.Limits.{has_far_types, size_breaks, widest_method}
use Rattle.cjc_exported.specs.Components.Methods.{handler_count}
use Rattle.cjc_exported.specs.Components.Package.{LaidMethod, Package, codes}

widest_sum : (ms : List LaidMethod) → sum_by (λ (c : NMethod). c.widest) (map (λ m. m.code) ms)
    ≡ sum_by (λ m. let code = m.code in code.widest) ms
widest_sum [] = refl
widest_sum (m ∷ ms) =
    let code = m.code in
    sum_by-cons (λ (c : NMethod). c.widest) m.code (map (λ m. m.code) ms)
    ∙ ap (λ n. code.widest + n) (widest_sum ms)
    ∙ sym (sum_by-cons (λ m. let code = m.code in code.widest) m ms)

pub widest_is : (p : Package) (cs : List NMethod) (handlers n : ℕ) → cs ≡ codes p
    → handlers ≡ sum_by handler_count p.methods → n ≡ 1 + 8 * handlers + 4 * length cs + sum_by
    (λ (c : NMethod). c.widest) cs → n ≡ widest_method p
widest_is p cs handlers n is_codes is_handlers e =
    let counts : length (codes p) ≡ length p.methods = length-map p.methods (λ m. m.code) in
    e
    ∙ ap (λ h. 1 + 8 * h + 4 * length cs + sum_by (λ (c : NMethod). c.widest) cs) is_handlers
    ∙ ap (λ (xs : List NMethod). 1 + 8 * sum_by handler_count p.methods + 4 * length xs + sum_by
    (λ (c : NMethod). c.widest) xs) is_codes
    ∙ ap (λ k. 1 + 8 * sum_by handler_count p.methods + 4 * k + sum_by (λ (c : NMethod). c.widest) (codes p)) counts
    ∙ ap (λ k. 1 + 8 * sum_by handler_count p.methods + 4 * length p.methods + k) (widest_sum p.methods)

-- ---- the first of both

module _ (list : List ℕ) where
  abbrev pub far : Break
  far = broken_at (list_spot list) 411

  abbrev pub large : Break
  large = broken_at (list_spot list) 416

  far_before : NotAfter far.rank large.rank
  far_before = inr (refl, inr (refl, inr (refl, inr (refl, inr (refl, inl (omega arith))))))

  not_after : (b : Break) → NotAfter b.rank b.rank
  not_after b = inr (refl, inr (refl, inr (refl, inr (refl, inr (refl, inr (refl, tt))))))

  one : (b : Break) → IsFirst b (b ∷ [])
  one b = record { among = foremost; least = λ a h. least a h }
    where
      least : (a : Break) → Among a (b ∷ []) → NotAfter b.rank a.rank
      least a foremost = not_after a
      least a (after h) = elim h [ ]

  pub first_far : (l : Bool) → IsFirst far (far ∷ at l (list_spot list) 416)
  first_far l = record { among = foremost; least = λ a h. least l a h }
    where
      least : (l : Bool) (a : Break) → Among a (far ∷ at l (list_spot list) 416) → NotAfter far.rank a.rank
      least l a foremost = not_after far
      least true a (after foremost) = far_before
      least true a (after (after h)) = elim h [ ]
      least false a (after h) = elim h [ ]

abbrev pub both : (list : List ℕ) → (far wide large : Bool) → List Break
both list f w l = at f (list_spot list) 411 ++ at (w || l) (list_spot list) 416

abbrev pub limit : (far large : Bool) → Option ℕ
limit f l = if f then Some 411 else if l then Some 416 else None

abbrev number : Option ℕ → ℕ
number None = 0
number (Some n) = n

is_limit : (list : List ℕ) (f w l : Bool) (r : ℕ) → limit f l ≡ Some r
    → IsFirst (broken_at (list_spot list) r) (both list f w l)
is_limit list true w l r e = subst (λ n. IsFirst (broken_at (list_spot list) n) (both list true w l)) (ap number e)
    (first_far list (w || l))
is_limit list false true true r e = subst (λ n. IsFirst (broken_at (list_spot list) n) (both list false true true))
    (ap number e) (one list (large list))
is_limit list false false true r e = subst (λ n. IsFirst (broken_at (list_spot list) n) (both list false false true))
    (ap number e) (one list (large list))
is_limit list false w false r e = cc

is_wide : (list : List ℕ) (f w l : Bool) → limit f l ≡ None → w ≡ true
    → IsFirst (broken_at (list_spot list) 416) (both list f w l)
is_wide list true w l e g = cc
is_wide list false w true e g = cc
is_wide list false true false e g = one list (large list)
is_wide list false false false e g = cc

is_none : (list : List ℕ) (f w l : Bool) → limit f l ≡ None → w ≡ false → both list f w l ≡ []
is_none list true w l e g = cc
is_none list false w true e g = cc
is_none list false true false e g = cc
is_none list false false false e g = refl

module _ (p : Package) (list : List ℕ) (named : (let settings = p.list in list ≡ settings.name)) where
  first_in : (b : Break) → IsFirst b (both list (has_far_types p) (nat_lt 65535 (widest_method p))
      (is_too_large (infos_of (components_of p)))) → IsFirst b (size_breaks p)
  first_in b h = subst (λ n. IsFirst b (both n (has_far_types p) (nat_lt 65535 (widest_method p))
      (is_too_large (infos_of (components_of p))))) named h

  pub breaks_limit : (r : ℕ) → limit_of (components_of p) ≡ Some r
      → IsFirst (broken_at (list_spot list) r) (size_breaks p)
  breaks_limit r e = first_in (broken_at (list_spot list) r) (is_limit list (has_far_types p)
      (nat_lt 65535 (widest_method p)) (is_too_large (infos_of (components_of p))) r e)

  pub breaks_wide : limit_of (components_of p) ≡ None → nat_lt 65535 (widest_method p) ≡ true
      → IsFirst (broken_at (list_spot list) 416) (size_breaks p)
  breaks_wide e g = first_in (broken_at (list_spot list) 416) (is_wide list (has_far_types p)
      (nat_lt 65535 (widest_method p)) (is_too_large (infos_of (components_of p))) e g)

  pub breaks_none : limit_of (components_of p) ≡ None → nat_lt 65535 (widest_method p) ≡ false → size_breaks p ≡ []
  breaks_none e g =
      ap (λ n. both n (has_far_types p) (nat_lt 65535 (widest_method p)) (is_too_large (infos_of (components_of p))))
      (sym named)
      ∙ is_none list (has_far_types p) (nat_lt 65535 (widest_method p)) (is_too_large (infos_of (components_of p))) e g
