-- Instructions, steps and roles one after the other.
use Rattle.std.proofs.Common.{◌≡◌, ℕ, ◌+◌, ◌<◌, ◌≤◌, arith, refl, sym, ap, ◌∙◌, Bool, true, false, ◌||◌, ◌&&◌, List, []}
use Rattle.std.proofs.Common.{◌∷◌, ◌++◌, length, get_or, drop, append_assoc, append-nil}
use Rattle.std.proofs.lemmas.List.{drop_all}
use Rattle.cjc_types.specs.ClassFile.declared.tree.Catch.{Catch}
use Rattle.cjc_types.specs.Bytecode.declared.insn.JInsn.{JInsn}
use Rattle.cjc_ncode.specs.declared.narrow.PairRole.{PairRole}
use Rattle.cjc_ncode.specs.Written.{Resolution}
use Rattle.cjc_narrow.specs.declared.select.pairs.PairStep.{PairStep}
use Rattle.cjc_narrow.specs.declared.select.pairs.Wait.{Wait}
use Rattle.cjc_narrow.specs.declared.select.pairs.Wait.TheVariants.{Begins, Pushed, Taken, Lost}
use Rattle.cjc_narrow.specs.Pairs.Roles.{any_stores, first_role, is_joined, is_open, kind_if, last_wait, next_wait}
use Rattle.cjc_narrow.specs.Pairs.Roles.{roles_from, steps_from, stores_this, waits}
use Rattle.cjc_types.proofs.BytesGets.{from_index}

-- ---- stores into local 0

or_assoc : (a b c : Bool) → ((a || b) || c) ≡ (a || (b || c))
or_assoc true b c = refl
or_assoc false b c = refl

or_false : (a : Bool) → (a || false) ≡ a
or_false true = refl
or_false false = refl

pub stores_next : (any : Bool) (insns : List JInsn) (flags : List Bool) (k : ℕ) (d : JInsn) (e : Bool) (total : Bool)
    → k < length insns → length flags ≡ length insns
    → (any || any_stores (drop k insns) (drop k flags)) ≡ total
    → (let i = get_or insns k d in ((any || (get_or flags k e && stores_this i.op))
    || any_stores (drop (k + 1) insns) (drop (k + 1) flags)) ≡ total)
stores_next any insns flags k d e total lt same so_far =
    let i = get_or insns k d in
    let less : k < length flags = omega arith in
    or_assoc any (get_or flags k e && stores_this i.op) (any_stores (drop (k + 1) insns) (drop (k + 1) flags))
    ∙ ap (λ fs. any || any_stores (i ∷ drop (k + 1) insns) fs) (sym (from_index flags k e less))
    ∙ ap (λ is. any || any_stores is (drop k flags)) (sym (from_index insns k d lt))
    ∙ so_far

pub stores_end : (any : Bool) (insns : List JInsn) (flags : List Bool) (k : ℕ) (total : Bool) → length insns ≤ k
    → (any || any_stores (drop k insns) (drop k flags)) ≡ total → any ≡ total
stores_end any insns flags k total le so_far =
    sym (or_false any) ∙ ap (λ is. any || any_stores is (drop k flags)) (sym (drop_all k insns le)) ∙ so_far

-- ---- steps

module _ (keeps : Bool) (r : Resolution) (marks : List ℕ) (catches : List Catch) where
  pub steps_next : (row : List PairStep) (before : ℕ) (insns : List JInsn) (flags : List Bool) (k : ℕ) (d : JInsn)
      (e : Bool) (total : List PairStep) → k < length insns → length flags ≡ length insns
      → row ++ steps_from keeps r marks catches k before (drop k insns) (drop k flags) ≡ total
      → (let i = get_or insns k d in (row ++ record {
        joined = is_joined marks catches k before i.at;
        kind = kind_if (get_or flags k e) keeps r i.op;
      } ∷ []) ++ steps_from keeps r marks catches (k + 1) i.at (drop (k + 1) insns) (drop (k + 1) flags) ≡ total)
  steps_next row before insns flags k d e total lt same so_far =
      let i = get_or insns k d in
      let less : k < length flags = omega arith in
      append_assoc row (record {
        joined = is_joined marks catches k before i.at;
        kind = kind_if (get_or flags k e) keeps r i.op;
      } ∷ []) (steps_from keeps r marks catches (k + 1) i.at (drop (k + 1) insns) (drop (k + 1) flags))
      ∙ ap (λ fs. row ++ steps_from keeps r marks catches k before (i ∷ drop (k + 1) insns) fs)
      (sym (from_index flags k e less))
      ∙ ap (λ is. row ++ steps_from keeps r marks catches k before is (drop k flags)) (sym (from_index insns k d lt))
      ∙ so_far

  pub steps_end : (row : List PairStep) (before : ℕ) (insns : List JInsn) (flags : List Bool) (k : ℕ)
      (total : List PairStep) → length insns ≤ k
      → row ++ steps_from keeps r marks catches k before (drop k insns) (drop k flags) ≡ total → row ≡ total
  steps_end row before insns flags k total le so_far =
      sym (append-nil row)
      ∙ ap (λ is. row ++ steps_from keeps r marks catches k before is (drop k flags)) (sym (drop_all k insns le))
      ∙ so_far

-- ---- waiting

pub wait_next : (w : Wait) (steps : List PairStep) (k : ℕ) (d : PairStep) (total : Wait) → k < length steps
    → last_wait w (drop k steps) ≡ total → last_wait (next_wait w (get_or steps k d)) (drop (k + 1) steps) ≡ total
wait_next w steps k d total lt so_far = ap (last_wait w) (sym (from_index steps k d lt)) ∙ so_far

pub wait_end : (w : Wait) (steps : List PairStep) (k : ℕ) (total : Wait) → length steps ≤ k
    → last_wait w (drop k steps) ≡ total → w ≡ total
wait_end w steps k total le so_far = ap (last_wait w) (sym (drop_all k steps le)) ∙ so_far

settled : (w : Wait) (steps : List PairStep) → waits w ≡ false → last_wait w steps ≡ w
settled w [] e = refl
settled Taken (s ∷ steps) e = settled Taken steps e
settled Lost (s ∷ steps) e = settled Lost steps e
settled Begins (s ∷ steps) e = cc
settled Pushed (s ∷ steps) e = cc

pub wait_over : (w : Wait) (steps : List PairStep) (k : ℕ) (total : Wait) → waits w ≡ false
    → last_wait w (drop k steps) ≡ total → w ≡ total
wait_over w steps k total e so_far = sym (settled w (drop k steps) e) ∙ so_far

-- ---- roles

pub roles_next : (row : List PairRole) (opened : Bool) (steps : List PairStep) (k : ℕ) (d : PairStep)
    (total : List PairRole) → k < length steps → row ++ roles_from opened (drop k steps) ≡ total
    → (let role = first_role opened (get_or steps k d) (drop (k + 1) steps) in (row ++ role ∷ [])
    ++ roles_from (is_open opened role) (drop (k + 1) steps) ≡ total)
roles_next row opened steps k d total lt so_far =
    let role = first_role opened (get_or steps k d) (drop (k + 1) steps) in
    append_assoc row (role ∷ []) (roles_from (is_open opened role) (drop (k + 1) steps))
    ∙ ap (λ ss. row ++ roles_from opened ss) (sym (from_index steps k d lt))
    ∙ so_far

pub roles_end : (row : List PairRole) (opened : Bool) (steps : List PairStep) (k : ℕ) (total : List PairRole)
    → length steps ≤ k → row ++ roles_from opened (drop k steps) ≡ total → row ≡ total
roles_end row opened steps k total le so_far = sym (append-nil row) ∙ ap (λ ss. row ++ roles_from opened ss)
    (sym (drop_all k steps le)) ∙ so_far
