-- The first rule that a method's least table breaks is the first of all that its code breaks.
use Rattle.std.proofs.Common.{◌≡◌, ◌⊎◌, ℕ, zero, suc, ◌+◌, ◌/◌, ◌<◌, ◌≤◌, List, [], ◌∷◌, map, refl, sym, ap, subst, ◌∙◌}
use Rattle.std.proofs.Common.{arith, inl, inr, ⊎_elim, Option, Some, None, option_map, slice_get, MatchOption}
use Rattle.std.proofs.lemmas.Bool.{cases_lt}
use Rattle.cjc_bytes.proofs.Gets.{get_mapped, mapped_at}
use Rattle.cjc_bytes.specs.Breaks.{Break}
use Rattle.cjc_bytes.specs.Order.{AreUpTo, NotAfter}
use Rattle.cjc_bytes.specs.declared.breaks.BrokenAt.{BrokenAt}
use Rattle.cjc_capread.specs.Decode.{Instruction}
use Rattle.cjc_card_acts.specs.CardTypes.{ValueType, is_type_of}
use Rattle.cjc_check_rules.specs.Consistent.{break_at}
use Rattle.cjc_check_rules.specs.Spots.{Placed, in_info}
use Rattle.cjc_card_acts.proofs.FramesLeast.{one_least}
use Rattle.cjc_card_acts.specs.LowerFrames.Acts.{Subtype, Breaks, clash, wrong, off, unknown, misnamed}
use Rattle.cjc_card_acts.specs.LowerFrames.Flow.{Body as Frames}
use Rattle.cjc_card_acts.specs.LowerFrames.Tables.{Breach, FirstBreach, IsBrokenAt, IsLeastTable, IsUnbroken}
use Rattle.cjc_card_acts.specs.LowerFrames.declared.acts.Act.{Act}
use Rattle.cjc_card_acts.specs.LowerFrames.declared.acts.Step.{Step}
use Rattle.cjc_classes.specs.Types.declared.state.State.{State}
use Rattle.cjc_verify.specs.Bodies.{Body, frames_of, step}
use Rattle.cjc_verify.specs.Pairs.{Pair}
use Rattle.cjc_verify.specs.Working.Bodies.{InCode, in_code, in_method}
use Rattle.cjc_verify.specs.Working.Codes.{Ascend, ats}
use Rattle.cjc_verify.specs.Working.Firsts.{IsFirstWhere}

-- ---- offsets

step_at : (p : Pair) (r : ValueType) (is : List (Placed Instruction)) (k : ℕ) (s : Step)
    → slice_get (map (step p r) is) k ≡ Some s → slice_get (ats is) k ≡ Some s.at
step_at p r is k s e =
    let (i, there, made) = mapped_at (step p r) is k s e in
    get_mapped (λ (i : Placed Instruction). i.at) is k
    ∙ ap (option_map (λ (i : Placed Instruction). i.at)) there
    ∙ ap (λ (t : Step). Some t.at) made

-- ---- ranks

family : {is_of : Subtype} {n : ℕ} {a : Act} (x : State) (rule : ℕ) → Breaks is_of n a x rule → rule / 100 ≡ 7
family x rule (clash locals) = refl
family x rule (wrong s locals is) = refl
family x rule (off s locals is) = refl
family x rule (unknown y is) = refl
family x rule (misnamed y is) = refl

by_rule : (r s : ℕ) → r ≤ s → AreUpTo (r ∷ []) (s ∷ [])
by_rule r s le = ⊎_elim (λ lt. inl lt) (λ ge. inr (omega (arith, le, ge), tt)) (cases_lt r s)

in_order : (r s a b : ℕ) → r / 100 ≡ 7 → s / 100 ≡ 7 → (a < b) ⊎ ((a ≡ b) × (r ≤ s))
    → NotAfter (break_at r (in_info 7 a)).rank (break_at s (in_info 7 b)).rank
in_order r s a b f g h =
    let offsets : AreUpTo ((3 + a) ∷ r ∷ []) ((3 + b) ∷ s ∷ []) = ⊎_elim
    (λ lt. inl (omega (arith, lt)))
    (λ e. let same = e.0 in inr (omega (arith, same), by_rule r s e.1)) h in
    inr (f ∙ sym g, inr (refl, inr (refl, inr (refl, offsets))))

-- ---- methods

no_breach : (is_of : Subtype) (b : Frames) (rows others : List (Option State)) (place rule : ℕ)
    → IsLeastTable b rows → IsLeastTable b others
    → ((place rule : ℕ) → Breach is_of b rows place rule → ⊥) → Breach is_of b others place rule → ⊥
no_breach is_of b rows others place rule least other none breach =
    none place rule (subst (λ (xs : List (Option State)). Breach is_of b xs place rule)
    (one_least b others rows other least) breach)

not_after : (p : Pair) (b : Body) (rows others : List (Option State)) (place rule other_place other_rule : ℕ)
    → Ascend (ats b.instructions) → IsLeastTable (frames_of p b) rows → IsLeastTable (frames_of p b) others
    → (first : FirstBreach (is_type_of p.loaded) (frames_of p b) rows place rule)
    → (breach : Breach (is_type_of p.loaded) (frames_of p b) others other_place other_rule)
    → NotAfter (break_at rule (in_info 7 first.breach.step.at)).rank
    (break_at other_rule (in_info 7 breach.step.at)).rank
not_after p b rows others place rule other_place other_rule rise least other first breach =
    let is_of = is_type_of p.loaded in
    let one = first.breach in
    let moved = subst (λ (xs : List (Option State)). Breach is_of (frames_of p b) xs other_place other_rule)
    (one_least (frames_of p b) others rows other least) breach in
    let at = step_at p _ b.instructions place one.step one.is_step in
    let at_other = step_at p _ b.instructions other_place breach.step breach.is_step in
    in_order rule other_rule one.step.at breach.step.at (family one.state rule one.breaks)
    (family breach.state other_rule breach.breaks)
    (⊎_elim
    (λ lt. inl (rise place other_place one.step.at breach.step.at at at_other lt))
    (λ e. let same : Some one.step.at ≡ Some breach.step.at = sym at ∙ ap (slice_get (ats b.instructions)) e.0
    ∙ at_other in inr (cc, e.1))
    (first.first other_place other_rule moved))

pub code_first : (p : Pair) (b : Body) (o : Option BrokenAt) → Ascend (ats b.instructions)
    → MatchOption o (IsUnbroken (is_type_of p.loaded) (frames_of p b)) (λ (x : BrokenAt). IsBrokenAt
    (is_type_of p.loaded) (frames_of p b) x.offset x.rule)
    → IsFirstWhere (InCode p b) (option_map in_method o)
code_first p b None rise is = go
  where
    go : (x : Break) → InCode p b x → ⊥
    go x (in_code rows place rule least breach) = no_breach (is_type_of p.loaded) (frames_of p b) is.rows rows place
        rule is.least least is.unbroken breach
code_first p b (Some x) rise is =
    let own : Break = break_at x.rule (in_info 7 is.first.breach.step.at) in
    let same : own ≡ in_method x = ap (λ (at : ℕ). break_at x.rule (in_info 7 at)) (sym is.is) in
    subst (λ (y : Break). IsFirstWhere (InCode p b) (Some y)) same (record {
      broken = in_code is.rows is.place x.rule is.least is.first.breach;
      first = go;
    })
  where
    go : (y : Break) → InCode p b y → NotAfter (break_at x.rule (in_info 7 is.first.breach.step.at)).rank y.rank
    go y (in_code rows place rule least breach) = not_after p b is.rows rows is.place x.rule place rule rise is.least
        least is.first breach
