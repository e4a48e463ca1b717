-- What the first rule that is found says of the rows of a table, and that a method has one least table.
use Rattle.std.proofs.Common.{◌≡◌, ◌⊎◌, ◌≤◌, ◌<◌, ◌+◌, ℕ, zero, suc, Bool, true, false, cond, List, [], ◌∷◌, length}
use Rattle.std.proofs.Common.{drop, slice_get, get_or, Option, Some, None, refl, sym, ◌∙◌, ap, subst, add-zero}
use Rattle.std.proofs.Common.{zero-add, arith}
use Rattle.std.proofs.lemmas.Option.{slice_get_within, slice_get-get_or, slice_get_read}
use Rattle.cjc_code.specs.declared.insn.JInsn.{JInsn}
use Rattle.cjc_code.specs.declared.insn.JOp.{JOp}
use Rattle.cjc_code.specs.declared.insn.JOp.TheVariants as jop
use Rattle.cjc_fixpoint.specs.Tables.{HasRow}
use Rattle.cjc_world.specs.Classes.{Class}
use Rattle.cjc_types.specs.declared.cell.Cell.{Cell}
use Rattle.cjc_types.specs.declared.inference.FirstBroken.{FirstBroken}
use Rattle.cjc_types.specs.declared.state.Stack.{Stack}
use Rattle.cjc_types.specs.declared.state.Stack.TheVariants.{Cells, Clash}
use Rattle.cjc_types.specs.declared.state.State.{State}
use Rattle.cjc_types.specs.Flow.{Body}
use Rattle.cjc_types.specs.Rules.{is_wrong, is_off, Breaks, clash, wrong, off, rule_of_stack, first_rule}
use Rattle.cjc_types.specs.Search.{row_rule, or_later, first_from, cells_of, frame_of, frames_of}
use Rattle.cjc_types.specs.Tables.{state_of, states_of, Breach, FirstBreach}
use Rattle.cjc_bytes.proofs.Gets.{drop_at}
use Rattle.cjc_bytes.proofs.Numbers.{is_first}

-- ---- the first rule of a state

pub rule_breaks : (w : List Class) (b : Body) (op : JOp) (x : State) (r : ℕ) → first_rule w b op x ≡ Some r
    → Breaks w b op x r
unfolding first_rule
rule_breaks w b op x r e = go x.stack e
  where
    is_off_rule : (s : List Cell) (is : Bool) → is_off b op x.locals s ≡ is → cond is (Some 503) None ≡ Some r
        → Breaks w b op (record { stack = Cells s; locals = x.locals }) r
    is_off_rule s true h e = let same : 503 ≡ r = cc
        in subst (λ (q : ℕ). Breaks w b op (record { stack = Cells s; locals = x.locals }) q) same (off s x.locals h)
    is_off_rule s false h e = absurd cc

    is_wrong_rule : (s : List Cell) (is : Bool) → is_wrong w b op x.locals s ≡ is
        → cond is (Some 502) (cond (is_off b op x.locals s) (Some 503) None) ≡ Some r
        → Breaks w b op (record { stack = Cells s; locals = x.locals }) r
    is_wrong_rule s true h e = let same : 502 ≡ r = cc
        in subst (λ (q : ℕ). Breaks w b op (record { stack = Cells s; locals = x.locals }) q) same (wrong s x.locals h)
    is_wrong_rule s false h e = is_off_rule s (is_off b op x.locals s) refl e

    go : (s : Stack) → rule_of_stack w b op x.locals s ≡ Some r
        → Breaks w b op (record { stack = s; locals = x.locals }) r
    go Clash e = let same : 501 ≡ r = cc
        in subst (λ (q : ℕ). Breaks w b op (record { stack = Clash; locals = x.locals }) q) same (clash x.locals)
    go (Cells s) e = is_wrong_rule s (is_wrong w b op x.locals s) refl e

pub breaks_first : (w : List Class) (b : Body) (op : JOp) (x : State) (r : ℕ) → Breaks w b op x r → (q : ℕ)
    × (first_rule w b op x ≡ Some q) × (q ≤ r)
unfolding first_rule
breaks_first w b op _ _ (clash locals) = (501, refl, omega arith)
breaks_first w b op _ _ (wrong s locals e) =
    (502, ap (λ is. cond is (Some 502) (cond (is_off b op locals s) (Some 503) None)) e, omega arith)
breaks_first w b op _ _ (off s locals e) = go (is_wrong w b op locals s)
  where
    go : (is : Bool) → (q : ℕ) × (cond is (Some 502) (cond (is_off b op locals s) (Some 503) None) ≡ Some q) × (q ≤ 503)
    go true = (502, refl, omega arith)
    go false = (503, ap (λ is. cond is (Some 503) None) e, omega arith)

-- ---- the first place

-- the instruction at this place is reached, and this is the first rule that it breaks
pub record At (w : List Class) (b : Body) (insns : List JInsn) (rows : List (Option State)) (k rule : ℕ) : Type 0 where
  pub insn : JInsn
  pub is_insn : slice_get insns k ≡ Some insn
  pub state : State
  pub reached : slice_get rows k ≡ Some (Some state)
  pub fails : first_rule w b insn.op state ≡ Some rule

here_rule : (w : List Class) (b : Body) (insn : JInsn) (row : Option State) (insns : List JInsn)
    (rows : List (Option State)) (r : ℕ) → At w b (insn ∷ insns) (row ∷ rows) 0 r → row_rule w b insn row ≡ Some r
here_rule w b insn row insns rows r at =
    let same : insn ≡ at.insn = let e = at.is_insn in cc in
    let is : row ≡ Some at.state = let e = at.reached in cc in
    ap (row_rule w b insn) is ∙ ap (λ (i : JInsn). first_rule w b i.op at.state) same ∙ at.fails

later_at : (w : List Class) (b : Body) (insn : JInsn) (row : Option State) (insns : List JInsn)
    (rows : List (Option State)) (i r : ℕ) → At w b (insn ∷ insns) (row ∷ rows) (suc i) r → At w b insns rows i r
later_at w b insn row insns rows i r at = record {
  insn = at.insn;
  is_insn = at.is_insn;
  state = at.state;
  reached = at.reached;
  fails = at.fails;
}

at_later : (w : List Class) (b : Body) (insn : JInsn) (row : Option State) (insns : List JInsn)
    (rows : List (Option State)) (i r : ℕ) → At w b insns rows i r → At w b (insn ∷ insns) (row ∷ rows) (suc i) r
at_later w b insn row insns rows i r at = record {
  insn = at.insn;
  is_insn = at.is_insn;
  state = at.state;
  reached = at.reached;
  fails = at.fails;
}

pub none_at : (w : List Class) (b : Body) (place : ℕ) (insns : List JInsn) (rows : List (Option State))
    → first_from w b place insns rows ≡ None → (i r : ℕ) → At w b insns rows i r → ⊥
none_at w b place [] rows e i r at = let is = at.is_insn in cc
none_at w b place (insn ∷ insns) [] e i r at = let is = at.reached in cc
none_at w b place (insn ∷ insns) (row ∷ rows) e zero r at =
    let is = here_rule w b insn row insns rows r at in
    let found : or_later (Some r) place (first_from w b (place + 1) insns rows) ≡ None =
    ap (λ o. or_later o place (first_from w b (place + 1) insns rows)) (sym is) ∙ e in
    absurd cc
none_at w b place (insn ∷ insns) (row ∷ rows) e (suc i) r at = none_at w b (place + 1) insns rows
    (go (row_rule w b insn row) e) i r (later_at w b insn row insns rows i r at)
  where
    go : (o : Option ℕ) → or_later o place (first_from w b (place + 1) insns rows) ≡ None
        → first_from w b (place + 1) insns rows ≡ None
    go None e = e
    go (Some q) e = absurd cc

-- the first place of what is found, and nothing before it
pub record IsFirstAt (w : List Class) (b : Body) (place : ℕ) (insns : List JInsn) (rows : List (Option State))
    (f : FirstBroken) : Type 0 where
  pub index : ℕ
  pub is_place : f.place ≡ place + index
  pub at : At w b insns rows index f.rule
  pub before : (j r : ℕ) → j < index → At w b insns rows j r → ⊥

row_state : (w : List Class) (b : Body) (insn : JInsn) (row : Option State) (r : ℕ) → row_rule w b insn row ≡ Some r
    → (x : State) × (row ≡ Some x) × (first_rule w b insn.op x ≡ Some r)
row_state w b insn None r e = absurd cc
row_state w b insn (Some x) r e = (x, refl, e)

before_first : (w : List Class) (b : Body) (place : ℕ) (insn : JInsn) (row : Option State) (insns : List JInsn)
    (rows : List (Option State)) (f : FirstBroken) (found : IsFirstAt w b place insns rows f) → row_rule w b insn row
    ≡ None → (j r : ℕ) → j < suc found.index → At w b (insn ∷ insns) (row ∷ rows) j r → ⊥
before_first w b place insn row insns rows f found none zero r lt at = let is = here_rule w b insn row insns rows r at
    in cc
before_first w b place insn row insns rows f found none (suc j) r lt at =
    found.before j r (omega arith) (later_at w b insn row insns rows j r at)

pub some_at : (w : List Class) (b : Body) (place : ℕ) (insns : List JInsn) (rows : List (Option State))
    (f : FirstBroken) → first_from w b place insns rows ≡ Some f → IsFirstAt w b place insns rows f
some_at w b place [] rows f e = absurd cc
some_at w b place (insn ∷ insns) [] f e = absurd cc
some_at w b place (insn ∷ insns) (row ∷ rows) f e = go (row_rule w b insn row) refl e (some_at w b (place + 1) insns
    rows f)
  where
    here : (r : ℕ) → row_rule w b insn row ≡ Some r → IsFirstAt w b place (insn ∷ insns) (row ∷ rows)
        (record { place = place; rule = r })
    here r h =
        let x = row_state w b insn row r h in
        record {
          index = 0;
          is_place = sym (add-zero place);
          at = record { insn = insn; is_insn = refl; state = x.0; reached = ap Some x.1; fails = x.2 };
          before = λ j q lt at. absurd (omega arith);
        }

    go : (o : Option ℕ) → row_rule w b insn row ≡ o → or_later o place (first_from w b (place + 1) insns rows) ≡ Some f
        → (first_from w b (place + 1) insns rows ≡ Some f → IsFirstAt w b (place + 1) insns rows f)
        → IsFirstAt w b place (insn ∷ insns) (row ∷ rows) f
    go None h e rest =
        let found = rest e in
        let is = found.is_place in
        record {
          index = suc found.index;
          is_place = omega (arith, is);
          at = at_later w b insn row insns rows found.index f.rule found.at;
          before = before_first w b (place + 1) insn row insns rows f found h;
        }
    go (Some r) h e rest =
        let answer : FirstBroken = record { place = place; rule = r } in
        let same : answer ≡ f = let is : Some answer ≡ Some f = e in cc in
        subst (IsFirstAt w b place (insn ∷ insns) (row ∷ rows)) same (here r h)

-- ---- breaches

abbrev insns_at : (w : List Class) (b : Body) (rows : List (Option State)) → (k rule : ℕ) → Type 0
insns_at w b rows k rule = At w b b.insns rows k rule

breach_at : (w : List Class) (b : Body) (rows : List (Option State)) (place rule : ℕ) → Breach w b rows place rule
    → (q : ℕ) × At w b b.insns rows place q × (q ≤ rule)
breach_at w b rows place rule h =
    let first = breaks_first w b h.insn.op h.state rule h.breaks in (
      first.0,
      record { insn = h.insn; is_insn = h.is_insn; state = h.state; reached = h.reached; fails = first.1 },
      first.2,
    )

pub unbroken_rows : (w : List Class) (b : Body) (rows : List (Option State)) → first_from w b 0 b.insns rows ≡ None
    → (place rule : ℕ) → Breach w b rows place rule → ⊥
unbroken_rows w b rows e place rule h = let at = breach_at w b rows place rule h
    in none_at w b 0 b.insns rows e place at.0 at.1

-- two first rules at one place are the same
same_rule : (w : List Class) (b : Body) (insns : List JInsn) (rows : List (Option State)) (k r q : ℕ)
    → At w b insns rows k r → At w b insns rows k q → r ≡ q
same_rule w b insns rows k r q one two =
    let insn : one.insn ≡ two.insn = let e = one.is_insn in let f = two.is_insn in cc in
    let state : one.state ≡ two.state = let e = one.reached in let f = two.reached in cc in
    let fails : Some r ≡ Some q = sym one.fails ∙ ap (λ (i : JInsn). first_rule w b i.op one.state) insn
    ∙ ap (first_rule w b two.insn.op) state ∙ two.fails in
    cc

pub first_breach : (w : List Class) (b : Body) (rows : List (Option State)) (f : FirstBroken)
    → first_from w b 0 b.insns rows ≡ Some f → FirstBreach w b rows f.place f.rule
first_breach w b rows f e = subst (λ (k : ℕ). FirstBreach w b rows k f.rule) (sym (found.is_place
    ∙ zero-add found.index)) (record {
      breach = record {
        insn = found.at.insn;
        is_insn = found.at.is_insn;
        state = found.at.state;
        reached = found.at.reached;
        breaks = rule_breaks w b found.at.insn.op found.at.state f.rule found.at.fails;
      };
      first = first;
    })
  where
    found : IsFirstAt w b 0 b.insns rows f
    found = some_at w b 0 b.insns rows f e

    level : (k r : ℕ) → found.index ≡ k → Breach w b rows k r → f.rule ≤ r
    level k r same h =
        let other = breach_at w b rows k r h in
        let is = same_rule w b b.insns rows found.index f.rule other.0 found.at
        (subst (λ (n : ℕ). At w b b.insns rows n other.0) (sym same) other.1) in
        let le = other.2 in
        omega (arith, is, le)

    earlier : (k r : ℕ) → Breach w b rows k r → k < found.index → ⊥
    earlier k r h lt = let other = breach_at w b rows k r h in found.before k other.0 lt other.1

    first : (k r : ℕ) → Breach w b rows k r → (found.index < k) ⊎ ((found.index ≡ k) × (f.rule ≤ r))
    first = is_first (λ (k r : ℕ). Breach w b rows k r) found.index f.rule earlier level

-- ---- frames

clash_rule : (w : List Class) (b : Body) (op : JOp) (x : State) → x.stack ≡ Clash → first_rule w b op x ≡ Some 501
unfolding first_rule
clash_rule w b op x e = ap (rule_of_stack w b op x.locals) e

-- a state without a clash is that of its frame
same_frame : (x : State) → (x.stack ≡ Clash → ⊥) → state_of (frame_of x) ≡ x
same_frame x whole = go x.stack refl
  where
    go : (s : Stack) → x.stack ≡ s → state_of (frame_of x) ≡ x
    go Clash e = absurd (whole e)
    go (Cells s) e =
        let make : Stack → State = λ stack. record { stack = stack; locals = x.locals } in
        ap make (ap (λ stack. Cells (cells_of stack)) e ∙ sym e)

-- where no rule is broken no state is a clash
no_clash : (w : List Class) (b : Body) (rows : List (Option State)) → length rows ≡ length b.insns
    → ((place rule : ℕ) → Breach w b rows place rule → ⊥) → (place : ℕ) (x : State) → HasRow rows place x
    → x.stack ≡ Clash → ⊥
no_clash w b rows sized unbroken place x row e =
    let lt = slice_get_within rows place (Some x) row in
    go (slice_get b.insns place) refl (omega (arith, lt, sized))
  where
    go : (o : Option JInsn) → slice_get b.insns place ≡ o → place < length b.insns → ⊥
    go None none lt = let some = slice_get-get_or b.insns place (record { at = 0; op = jop.Nop }) lt in absurd cc
    go (Some insn) is lt =
        let first = clash_rule w b insn.op x e in
        unbroken place 501 (record {
          insn = insn;
          is_insn = is;
          state = x;
          reached = row;
          breaks = rule_breaks w b insn.op x 501 first;
        })

pub framed_rows : (w : List Class) (b : Body) (rows : List (Option State)) → length rows ≡ length b.insns
    → ((place rule : ℕ) → Breach w b rows place rule → ⊥) → (place : ℕ) (x : State) → HasRow rows place x
    → state_of (frame_of x) ≡ x
framed_rows w b rows sized unbroken place x row = same_frame x (no_clash w b rows sized unbroken place x row)

pub states-frames : (rows : List (Option State)) → ((k : ℕ) (x : State) → HasRow rows k x → state_of (frame_of x) ≡ x)
    → states_of (frames_of rows) ≡ rows
states-frames [] h = refl
states-frames (None ∷ rows) h = let rest : states_of (frames_of rows) ≡ rows =
    states-frames rows (λ k x row. h (suc k) x row) in ap (λ (xs : List (Option State)). None ∷ xs) rest
states-frames (Some x ∷ rows) h =
    let rest : states_of (frames_of rows) ≡ rows = states-frames rows (λ k y row. h (suc k) y row) in
    let first : state_of (frame_of x) ≡ x = h 0 x refl in
    cc

-- ---- one place further

-- what the rest of a search finds, where this row is next
first_on : (w : List Class) (b : Body) (rows : List (Option State)) (k : ℕ) (insn : JInsn) (row : Option State)
    → slice_get b.insns k ≡ Some insn → slice_get rows k ≡ Some row
    → first_from w b k (drop k b.insns) (drop k rows) ≡ or_later (row_rule w b insn row) k (first_from w b (k + 1)
    (drop (k + 1) b.insns) (drop (k + 1) rows))
first_on w b rows k insn row is_insn is_row =
    ap (λ (is : List JInsn). first_from w b k is (drop k rows)) (drop_at b.insns k insn is_insn)
    ∙ ap (λ (xs : List (Option State)). first_from w b k (insn ∷ drop (k + 1) b.insns) xs) (drop_at rows k row is_row)

module _ (w : List Class) (b : Body) (rows : List (Option State)) (k : ℕ) (insns : List JInsn) (insn : JInsn)
    (row : Option State) (result : Option ℕ)
    (is_insns : insns ≡ b.insns) (lt : k < length insns) (is_insn : insn ≡ get_or insns k insn) (is_row : slice_get rows
    k ≡ Some row) (is_result : result ≡ row_rule w b insn row)
    (before : first_from w b k (drop k b.insns) (drop k rows) ≡ first_from w b 0 b.insns rows) where
  there : slice_get b.insns k ≡ Some insn
  there = slice_get_read b.insns (length b.insns) k insn refl (subst (λ (is : List JInsn). k < length is) is_insns lt)
      (is_insn ∙ ap (λ (is : List JInsn). get_or is k insn) is_insns)

  pub found_here : (rule : ℕ) → result ≡ Some rule → Some (record { place = k; rule = rule }) ≡ first_from w b 0 b.insns
      rows
  found_here rule is =
      sym (ap (λ (o : Option ℕ). or_later o k (first_from w b (k + 1) (drop (k + 1) b.insns) (drop (k + 1) rows)))
      (sym is_result ∙ is))
      ∙ sym (first_on w b rows k insn row there is_row) ∙ before

  pub found_later : result ≡ None → first_from w b (k + 1) (drop (k + 1) b.insns) (drop (k + 1) rows)
      ≡ first_from w b 0 b.insns rows
  found_later is =
      sym (ap (λ (o : Option ℕ). or_later o k (first_from w b (k + 1) (drop (k + 1) b.insns) (drop (k + 1) rows)))
      (sym is_result ∙ is))
      ∙ sym (first_on w b rows k insn row there is_row) ∙ before
