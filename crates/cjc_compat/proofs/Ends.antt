-- The least number above the tokens of some virtual methods, one method more at a time.
use Rattle.std.proofs.Common.{◌≡◌, ℕ, ◌+◌, refl, sym, ap, ◌∙◌, arith, Bool, true, false, List, [], ◌∷◌, ◌++◌, length}
use Rattle.std.proofs.Common.{get_or, take, ◌<◌, ◌≤◌}
use Rattle.std.specs.Prelude.{max, if◌then◌else◌}
use Rattle.cjc_compat.specs.Rules.{virtual_end}
use Rattle.cjc_export.specs.Supers.{is_virtual}
use Rattle.cjc_export.specs.declared.tree.ExportMethod.{ExportMethod}

-- with a method behind them
pub end_more : (ms : List ExportMethod) (m : ExportMethod) → virtual_end (ms ++ m ∷ [])
    ≡ (if is_virtual m then max (virtual_end ms) (m.token + 1) else virtual_end ms)
end_more [] m = by (is_virtual m)
  where
    by : (b : Bool) → (if b then max (m.token + 1) 0 else 0) ≡ (if b then max 0 (m.token + 1) else 0)
    by true = omega arith
    by false = refl
end_more (x ∷ ms) m = by (is_virtual x) (is_virtual m) (virtual_end (ms ++ m ∷ [])) (virtual_end ms) (end_more ms m)
  where
    by : (b c : Bool) (e f : ℕ) → e ≡ (if c then max f (m.token + 1) else f)
        → (if b then max (x.token + 1) e else e)
        ≡ (if c then max (if b then max (x.token + 1) f else f) (m.token + 1) else (if b then max (x.token + 1) f
        else f))
    by true true e f h = omega (arith, h)
    by true false e f h = ap (λ z. max (x.token + 1) z) h
    by false true e f h = h
    by false false e f h = h
