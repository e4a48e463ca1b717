-- Something is written in the range of a handler whichever pairs are written as one: a handler that covers an aload_0
-- that is left out covers the field instruction behind it.
use Rattle.std.proofs.Common.{◌≡◌, ℕ, suc, ◌+◌, ◌≤◌, arith, refl, sym, ap, ◌∙◌, Bool, true, false, ◌||◌}
use Rattle.std.proofs.Common.{◌&&◌}
use Rattle.std.proofs.Common.{◌⊎◌, inl, inr, List, [], ◌∷◌, ◌++◌, length}
use Rattle.std.specs.Prelude.{if◌then◌else◌, is_some, map, nat_le, nat_lt, not, slice_get, Option, Some, None, ◌==◌}
use Rattle.std.specs.List.{flat_map, list_any}
use Rattle.std.proofs.lemmas.Bool.Decides.{nat_tests}
use Rattle.std.proofs.lemmas.List.Folds.{flat_map-map}
use Rattle.cjc_types.specs.Bytes.declared.fault.MemberId.{MemberId}
use Rattle.cjc_types.proofs.BytesBools.{or_true, or_right, not_true}
use Rattle.cjc_types.proofs.BytesGets.{any_off}
use Rattle.cjc_types.proofs.BytesQuantified.{any_of_map}
use Rattle.cjc_types.specs.ClassFile.declared.tree.Catch.{Catch}
use Rattle.cjc_types.specs.Bytecode.declared.insn.JInsn.{JInsn}
use Rattle.cjc_types.specs.Bytecode.declared.insn.JOp.{JOp}
use Rattle.cjc_types.specs.Bytecode.declared.insn.JOp.TheVariants as jop
use Rattle.cjc_types.specs.Bytecode.Jvm as jvm
use Rattle.cjc_ncode.specs.declared.narrow.PairRole.{PairRole}
use Rattle.cjc_ncode.specs.declared.narrow.PairRole.TheVariants.{Alone, Opens, Closes}
use Rattle.cjc_ncode.specs.declared.narrow.NMethod.{NMethod}
use Rattle.cjc_ncode.specs.PoolOrder.{class_key, has_catch_type, insn_keys, method_keys}
use Rattle.cjc_ncode.specs.PoolOrder.{is_some as has_class}
use Rattle.cjc_ncode.specs.Written.{Resolution, accessed, catch_at, catches_at, on_this, place_in}
use Rattle.cjc_ncode.specs.Written.{reached}
use Rattle.cjc_ncode.specs.Written.{written, written_as, written_for}
use Rattle.cjc_types.specs.Fixpoint.Kept.{mark_of}
use Rattle.cjc_types.specs.Flow.{Body, covers}
use Rattle.cjc_types.specs.Marks.{marks_of}
use Rattle.cjc_narrow.specs.declared.select.pairs.PairKind.{PairKind}
use Rattle.cjc_narrow.specs.declared.select.pairs.PairKind.TheVariants.{Silent, This, Pushes, Gets, Puts, Other}
use Rattle.cjc_narrow.specs.declared.select.pairs.PairStep.{PairStep}
use Rattle.cjc_narrow.specs.declared.select.pairs.Wait.{Wait}
use Rattle.cjc_narrow.specs.declared.select.pairs.Wait.TheVariants.{Begins, Pushed, Taken, Lost}
use Rattle.cjc_narrow.specs.Pairs.Fusible.{accesses}
use Rattle.cjc_narrow.specs.Pairs.Roles.{differs, first_role, is_joined, is_open, keeps_this}
use Rattle.cjc_narrow.specs.Pairs.Roles.{kind_if}
use Rattle.cjc_narrow.specs.Pairs.Roles.{last_wait, next_wait, role_in, roles_from, roles_of}
use Rattle.cjc_narrow.specs.Pairs.Roles.{steps_from, wait_behind, waits, with_pairs}
use Rattle.cjc_narrow.specs.Written.Rows.{has_rows}
use Rattle.cjc_narrow.specs.Written.Working.Places.{as_named}
use Rattle.cjc_narrow.specs.Rows.Forms.{FormsOnly, with_near}
use Rattle.cjc_narrow.proofs.PairsLaws.Fusible.{never, taken_opens}
use Rattle.cjc_narrow.proofs.RowsLaws.Keys.{keys_of}
use Rattle.cjc_narrow.proofs.WrittenLaws.Order.{same_length}

-- ---- one instruction further

-- a field instruction that takes the reference is reached
accessed_if : (is keeps : Bool) (r : Resolution) (op : JOp) → accesses (kind_if is keeps r op) ≡ true
    → (is ≡ true) × (is_some (accessed op) ≡ true)
accessed_if false keeps r op e = absurd cc
accessed_if true keeps r (jop.Field put f) e = (refl, refl)
accessed_if true keeps r (jop.Narrow op) e = by (op == jvm.i2b) e
  where
    by : (b : Bool) → accesses (if b then Other else Silent) ≡ true → (true ≡ true) × (false ≡ true)
    by true e = absurd cc
    by false e = absurd cc
accessed_if true keeps r (jop.Load refs l) e = by (keeps && (refs && l == 0)) e
  where
    by : (b : Bool) → accesses (if b then This else Pushes) ≡ true → (true ≡ true) × (false ≡ true)
    by true e = absurd cc
    by false e = absurd cc
accessed_if true keeps r (jop.Static put f) e = by (not put && is_some (r.constant f)) e
  where
    by : (b : Bool) → accesses (if b then Pushes else Other) ≡ true → (true ≡ true) × (false ≡ true)
    by true e = absurd cc
    by false e = absurd cc
accessed_if true keeps r op e = absurd cc

-- what a walk comes to behind an instruction
abbrev Goes : Wait → (joined : Bool) → PairKind → Type 0
Goes after joined kind = ((waits after ≡ true) × (joined ≡ true)) ⊎ (((accesses kind ≡ true) × (joined ≡ true))
    ⊎ (after ≡ Lost))

goes : (w : Wait) → waits w ≡ true → (joined : Bool) (kind : PairKind)
    → Goes (if waits w then (if joined then wait_behind w kind else Lost) else w) joined kind
goes Taken e joined kind = absurd cc
goes Lost e joined kind = absurd cc
goes Begins e false kind = inr (inr refl)
goes Pushed e false kind = inr (inr refl)
goes Begins e true Silent = inl (refl, refl)
goes Begins e true This = inl (refl, refl)
goes Begins e true Pushes = inl (refl, refl)
goes Begins e true Gets = inr (inl (refl, refl))
goes Begins e true Puts = inr (inr refl)
goes Begins e true Other = inr (inr refl)
goes Pushed e true Silent = inl (refl, refl)
goes Pushed e true This = inr (inr refl)
goes Pushed e true Pushes = inr (inr refl)
goes Pushed e true Gets = inr (inr refl)
goes Pushed e true Puts = inr (inl (refl, refl))
goes Pushed e true Other = inr (inr refl)

both_told : (a b : Bool) → (if a then not b else b) ≡ false → a ≡ true → b ≡ true
both_told true true e h = refl
both_told true false e h = absurd cc
both_told false b e h = absurd cc

module _ (keeps : Bool) (r : Resolution) (marks : List ℕ) (catches : List Catch) (c : Catch) (m : ℕ)
    (is_one : slice_get catches m ≡ Some c) where
  joined_covers : (at before offset : ℕ) → is_joined marks catches at before offset ≡ true → covers c before ≡ true
      → covers c offset ≡ true
  joined_covers at before offset e h =
      let none : list_any (λ d. differs d before offset) catches ≡ false =
      or_right (is_some (mark_of marks at)) (list_any (λ d. differs d before offset) catches) (not_true _ e) in
      both_told (covers c before) (covers c offset) (any_off (λ d. differs d before offset) catches m c none is_one) h

  -- a reached field instruction in its range
  abbrev is_access : JInsn → Bool
  is_access i = covers c i.at && is_some (accessed i.op)

  abbrev steps : {A : Type 0} → (at before : ℕ) → List JInsn → List (Option A) → List PairStep
  steps at before insns rows = steps_from keeps r marks catches at before insns (has_rows rows)

  abbrev step_of : (at before : ℕ) → JInsn → (is : Bool) → PairStep
  step_of at before i is = record { joined = is_joined marks catches at before i.at; kind = kind_if is keeps r i.op }

  abbrev next_of : Wait → (at before : ℕ) → JInsn → (is : Bool) → Wait
  next_of w at before i is = next_wait w (step_of at before i is)

  behind : {A : Type 0} (i : JInsn) (row : Option A) (insns : List JInsn) (rows : List (Option A))
      → list_any is_access (reached insns rows) ≡ true → list_any is_access (reached (i ∷ insns) (row ∷ rows)) ≡ true
  behind i None insns rows e = e
  behind i (Some row) insns rows e = ap (λ b. is_access i || b) e ∙ or_true (is_access i)

  here : {A : Type 0} (i : JInsn) (row : Option A) (insns : List JInsn) (rows : List (Option A)) → is_some row ≡ true
      → covers c i.at ≡ true → is_some (accessed i.op) ≡ true
      → list_any is_access (reached (i ∷ insns) (row ∷ rows)) ≡ true
  here i None insns rows e h f = absurd cc
  here i (Some row) insns rows e h f =
      ap (λ b. (b && is_some (accessed i.op)) || list_any is_access (reached insns rows)) h
      ∙ ap (λ b. b || list_any is_access (reached insns rows)) f

  -- the reference is taken in its range
  closes : {A : Type 0} (w : Wait) → waits w ≡ true → (at before : ℕ) (insns : List JInsn) (rows : List (Option A))
      → last_wait w (steps at before insns rows) ≡ Taken → covers c before ≡ true
      → list_any is_access (reached insns rows) ≡ true
  closes Begins e at before [] rows t h = absurd cc
  closes Pushed e at before [] rows t h = absurd cc
  closes Taken e at before insns rows t h = absurd cc
  closes Lost e at before insns rows t h = absurd cc
  closes Begins e at before (i ∷ insns) [] t h = absurd cc
  closes Pushed e at before (i ∷ insns) [] t h = absurd cc
  closes w e at before (i ∷ insns) (row ∷ rows) t h =
      by (λ w f g k. closes w f (at + 1) i.at insns rows g k)
      (goes w e (is_joined marks catches at before i.at) (kind_if (is_some row) keeps r i.op)) t
    where
      by : ((w : Wait) → waits w ≡ true → last_wait w (steps (at + 1) i.at insns rows) ≡ Taken → covers c i.at ≡ true
          → list_any is_access (reached insns rows) ≡ true)
          → Goes (next_of w at before i (is_some row)) (is_joined marks catches at before i.at)
          (kind_if (is_some row) keeps r i.op)
          → last_wait (next_of w at before i (is_some row)) (steps (at + 1) i.at insns rows) ≡ Taken
          → list_any is_access (reached (i ∷ insns) (row ∷ rows)) ≡ true
      by more (inl on) t = behind i row insns rows (more (next_of w at before i (is_some row)) on.0 t
          (joined_covers at before i.at on.1 h))
      by more (inr (inl takes)) t =
          let found = accessed_if (is_some row) keeps r i.op takes.0 in
          here i row insns rows found.0 (joined_covers at before i.at takes.1 h) found.1
      by more (inr (inr lost)) t = never (steps (at + 1) i.at insns rows) (ap (λ x. last_wait x (steps
          (at + 1) i.at insns
          rows)) (sym lost) ∙ t)

  -- an aload_0 in its range that is left out stands before such a field instruction
  opened : {A : Type 0} (o : Bool) (at before : ℕ) (insns : List JInsn) (rows : List (Option A)) (offset : ℕ)
      → role_in insns (roles_from o (steps at before insns rows)) offset ≡ Opens → covers c offset ≡ true
      → list_any is_access (reached insns rows) ≡ true
  opened o at before [] rows offset e h = absurd cc
  opened o at before (i ∷ insns) [] offset e h = absurd cc
  opened o at before (i ∷ insns) (row ∷ rows) offset e h =
      behind i row insns rows (by (λ o f. opened o (at + 1) i.at insns rows offset f h) (i.at == offset) refl e)
    where
      by : ((o : Bool) → role_in insns (roles_from o (steps (at + 1) i.at insns rows)) offset ≡ Opens
          → list_any is_access (reached insns rows) ≡ true) → (b : Bool) → (i.at == offset) ≡ b
          → (if b then first_role o (step_of at before i (is_some row)) (steps (at + 1) i.at insns rows)
          else role_in insns (roles_from (is_open o (first_role o (step_of at before i (is_some row))
          (steps (at + 1) i.at insns rows))) (steps (at + 1) i.at insns rows)) offset) ≡ Opens
          → list_any is_access (reached insns rows) ≡ true
      by more true same is =
          let equal : offset ≡ i.at = grind (arith, nat_tests, same) in
          closes Begins refl (at + 1) i.at insns rows (taken_opens o (kind_if (is_some row) keeps r i.op)
          (last_wait Begins (steps (at + 1) i.at insns rows)) is) (ap (covers c) (sym equal) ∙ h)
      by more false same is = more (is_open o (first_role o (step_of at before i (is_some row)) (steps
          (at + 1) i.at insns
          rows))) is

-- ---- what is written in a range

abbrev some_written : Resolution → JInsn → Bool
some_written r i = nat_lt 0 (length (written_for r (λ o. 0) i))

module _ (r : Resolution) (low high : ℕ) where
  abbrev in_range : JInsn → Bool
  in_range i = (nat_le low i.at && nat_lt i.at high) && some_written r i

  -- how many are written before each end
  part : JInsn → ℕ → ℕ
  part i o = if nat_lt i.at o then length (written_for r (λ o. 0) i) else 0

  more_below : (x y o n : ℕ) → x ≤ y → (if nat_lt o x then n else 0) ≤ (if nat_lt o y then n else 0)
  more_below x y o n le = by (nat_lt o x) (nat_lt o y) refl refl
    where
      by : (a b : Bool) → nat_lt o x ≡ a → nat_lt o y ≡ b → (if a then n else 0) ≤ (if b then n else 0)
      by true true e f = omega arith
      by true false e f = absurd (grind (arith, nat_tests, e, f, le))
      by false b e f = omega arith

  rises : (x y : ℕ) → x ≤ y → (kept : List JInsn) → place_in r kept x ≤ place_in r kept y
  rises x y le [] = omega arith
  rises x y le (i ∷ kept) =
      let rest = rises x y le kept in
      let first = more_below x y i.at (length (written_for r (λ o. 0) i)) le in
      omega arith

  abbrev Rises : (x y : ℕ) → Type 0
  Rises x y = (low ≤ high → x ≤ y) × (high ≤ low → y ≤ x)

  shift : (n x y : ℕ) → nat_lt (n + x) (n + y) ≡ nat_lt x y
  shift n x y = go (nat_lt x y) refl
    where
      go : (b : Bool) → nat_lt x y ≡ b → nat_lt (n + x) (n + y) ≡ b
      go true e = grind (arith, nat_tests, e)
      go false e = grind (arith, nat_tests, e)

  one_more : (o n x y : ℕ) (any : Bool) → Rises x y → nat_lt x y ≡ any
      → nat_lt ((if nat_lt o low then n else 0) + x) ((if nat_lt o high then n else 0) + y)
      ≡ (((nat_le low o && nat_lt o high) && nat_lt 0 n) || any)
  one_more o n x y any rises is = by (nat_lt o low) (nat_lt o high) (nat_le low o) (nat_lt 0 n) refl refl refl refl
    where
      alone : (d p : Bool) → false ≡ ((d && false) && p)
      alone true p = refl
      alone false p = refl

      by : (a b d p : Bool) → nat_lt o low ≡ a → nat_lt o high ≡ b → nat_le low o ≡ d → nat_lt 0 n ≡ p
          → nat_lt ((if a then n else 0) + x) ((if b then n else 0) + y) ≡ (((d && b) && p) || any)
      by true b true p e f g h = absurd (grind (arith, nat_tests, e, g))
      by true true false p e f g h = shift n x y ∙ is
      by true false false p e f g h =
          let up : y ≤ x = rises.1 (let le : high ≤ low = grind (arith, nat_tests, e, f) in le) in
          let none : nat_lt x y ≡ false = grind (arith, nat_tests, up) in
          let none' : nat_lt (n + x) (0 + y) ≡ false = grind (arith, nat_tests, up) in
          none' ∙ sym none ∙ is ∙ (λ i. (alone false p i) || any)
      by false b false p e f g h = absurd (grind (arith, nat_tests, e, g))
      by false true true true e f g h =
          let up : x ≤ y = rises.0 (let le : low ≤ high = grind (arith, nat_tests, f, g) in le) in
          let some : nat_lt (0 + x) (n + y) ≡ true = grind (arith, nat_tests, up, h) in some
      by false true true false e f g h =
          let none : 0 ≡ n = grind (arith, nat_tests, h) in
          ap (λ k. nat_lt (0 + x) (k + y)) (sym none) ∙ shift 0 x y ∙ is
      by false false true p e f g h = shift 0 x y ∙ is

  -- something is written from one end to the other
  pub range_written : (kept : List JInsn) → nat_lt (place_in r kept low) (place_in r kept high) ≡ list_any in_range kept
  range_written [] = refl
  range_written (i ∷ kept) = one_more i.at (length (written_for r (λ o. 0) i)) (place_in r kept low)
      (place_in r kept high) (list_any in_range kept) ((λ le. rises low high le kept), (λ le. rises high low le kept))
      (range_written kept)

-- ---- in any roles

pub plain_written : JInsn → Bool
plain_written i = nat_lt 0 (length (written as_named (λ o. 0) i.op))

-- as much as of an instruction alone, where it opens no pair
alone_written : (r : Resolution) (role : PairRole) (i : JInsn) → (role ≡ Opens → ⊥)
    → nat_lt 0 (length (written_as role r (λ o. 0) i.op)) ≡ plain_written i
unfolding plain_written
alone_written r Alone i never_opens = ap (nat_lt 0) (same_length r as_named (λ o. 0) (λ o. 0) i.op)
alone_written r Opens i never_opens = absurd (never_opens refl)
alone_written r Closes i never_opens = by i.op
  where
    by : (op : JOp) → nat_lt 0 (length (on_this r (λ o. 0) op (accessed op)))
        ≡ nat_lt 0 (length (written as_named (λ o. 0) op))
    by (jop.Field put f) = refl
    by op = ap (nat_lt 0) (same_length r as_named (λ o. 0) (λ o. 0) op)

-- an access is written in any role
access_written : (r : Resolution) (role : PairRole) (op : JOp) → is_some (accessed op) ≡ true
    → nat_lt 0 (length (written_as role r (λ o. 0) op)) ≡ true
access_written r Alone (jop.Field put f) e = refl
access_written r Opens (jop.Field put f) e = refl
access_written r Closes (jop.Field put f) e = refl
access_written r role op e = absurd cc

module _ (r : Resolution) (c : Catch) where
  abbrev written_there : JInsn → Bool
  written_there i = covers c i.at && some_written r i

  abbrev plain_there : JInsn → Bool
  plain_there i = covers c i.at && plain_written i

  abbrev access_there : JInsn → Bool
  access_there i = covers c i.at && is_some (accessed i.op)

  by_role : (X : Type 0) → ((offset : ℕ) → r.role offset ≡ Opens → covers c offset ≡ true → X) → (i : JInsn)
      → (written_there i ≡ plain_there i) ⊎ X
  by_role X opens i = by (covers c i.at) (r.role i.at) refl refl
    where
      by : (b : Bool) (role : PairRole) → covers c i.at ≡ b → r.role i.at ≡ role
          → ((b && some_written r i) ≡ (b && plain_written i)) ⊎ X
      by false role e f = inl refl
      by true Opens e f = inr (opens i.at f e)
      by true Alone e f = inl (alone_written r (r.role i.at) i (λ g. let h : Alone ≡ Opens = sym f ∙ g in absurd cc))
      by true Closes e f = inl (alone_written r (r.role i.at) i (λ g. let h : Closes ≡ Opens = sym f ∙ g in absurd cc))

  same_or : (X : Type 0) → ((offset : ℕ) → r.role offset ≡ Opens → covers c offset ≡ true → X)
      → (kept : List JInsn) → (list_any written_there kept ≡ list_any plain_there kept) ⊎ X
  same_or X opens [] = inl refl
  same_or X opens (i ∷ kept) = by (by_role X opens i) (same_or X opens kept)
    where
      by : (written_there i ≡ plain_there i) ⊎ X → (list_any written_there kept ≡ list_any plain_there kept) ⊎ X
          → (list_any written_there (i ∷ kept) ≡ list_any plain_there (i ∷ kept)) ⊎ X
      by (inr x) rest = inr x
      by (inl e) (inr x) = inr x
      by (inl e) (inl f) = inl (λ j. (e j) || (f j))

  access_any : (p : JInsn → Bool) → ((i : JInsn) → access_there i ≡ true → p i ≡ true) → (kept : List JInsn)
      → list_any access_there kept ≡ true → list_any p kept ≡ true
  access_any p each [] e = absurd cc
  access_any p each (i ∷ kept) e = by (access_there i) refl e (access_any p each kept)
    where
      by : (b : Bool) → access_there i ≡ b → (b || list_any access_there kept) ≡ true
          → (list_any access_there kept ≡ true → list_any p kept ≡ true) → (p i || list_any p kept) ≡ true
      by true is e rest = ap (λ b. b || list_any p kept) (each i is)
      by false is e rest = ap (λ b. p i || b) (rest e) ∙ or_true (p i)

  access_is : (i : JInsn) → access_there i ≡ true → written_there i ≡ true
  access_is i e = by (covers c i.at) (is_some (accessed i.op)) refl e
    where
      by : (b d : Bool) → is_some (accessed i.op) ≡ d → (b && d) ≡ true → (b && some_written r i) ≡ true
      by true true f e = access_written r (r.role i.at) i.op f
      by true false f e = absurd cc
      by false d f e = absurd cc

  access_plain : (i : JInsn) → access_there i ≡ true → plain_there i ≡ true
  unfolding plain_written
  access_plain i e = by (covers c i.at) (is_some (accessed i.op)) refl e
    where
      by : (b d : Bool) → is_some (accessed i.op) ≡ d → (b && d) ≡ true
          → (b && nat_lt 0 (length (written as_named (λ o. 0) i.op))) ≡ true
      by true true f e = access_written as_named Alone i.op f
      by true false f e = absurd cc
      by false d f e = absurd cc

  pub range_plain : (kept : List JInsn) → ((offset : ℕ) → r.role offset ≡ Opens → covers c offset ≡ true
      → list_any access_there kept ≡ true)
      → list_any written_there kept ≡ list_any plain_there kept
  range_plain kept opens = by (same_or (list_any access_there kept ≡ true) opens kept)
    where
      by : (list_any written_there kept ≡ list_any plain_there kept) ⊎ (list_any access_there kept ≡ true)
          → list_any written_there kept ≡ list_any plain_there kept
      by (inl e) = e
      by (inr e) = access_any written_there access_is kept e ∙ sym (access_any plain_there access_plain kept e)

-- ---- handlers

-- those that are left have the same classes
same_classes : (f g : ℕ → ℕ) (catches : List Catch) → ((m : ℕ) (c : Catch) → slice_get catches m ≡ Some c
    → nat_lt (f c.start) (f c.end) ≡ nat_lt (g c.start) (g c.end))
    → map (λ c. c.class) (catches_at f catches) ≡ map (λ c. c.class) (catches_at g catches)
same_classes f g [] each = refl
same_classes f g (c ∷ catches) each = by (nat_lt (f c.start) (f c.end)) (nat_lt (g c.start) (g c.end))
    (each 0 c refl) (same_classes f g catches (λ m d e. each (suc m) d e))
  where
    by : (a b : Bool) → a ≡ b
        → map (λ c. c.class) (catches_at f catches) ≡ map (λ c. c.class) (catches_at g catches)
        → map (λ c. c.class) (if a then catch_at f c ∷ catches_at f catches else catches_at f catches)
        ≡ map (λ c. c.class) (if b then catch_at g c ∷ catches_at g catches else catches_at g catches)
    by true true e rest = ap (λ cs. c.class ∷ cs) rest
    by false false e rest = rest
    by true false e rest = absurd cc
    by false true e rest = absurd cc

module _ {A : Type 0} (b : Body) (rows : List (Option A)) where
  abbrev kept : List JInsn
  kept = reached b.insns rows

  -- whichever fields have an index of one byte
  pub range_same : (r : Resolution) (m : ℕ) (c : Catch) → slice_get b.catches m ≡ Some c
      → nat_lt (place_in (with_pairs r b (has_rows rows)) kept c.start)
      (place_in (with_pairs r b (has_rows rows)) kept c.end) ≡ list_any (plain_there r c) kept
  unfolding with_pairs
  range_same r m c is = range_written (with_pairs r b (has_rows rows)) c.start c.end kept
      ∙ range_plain (with_pairs r b (has_rows rows)) c kept (opened (keeps_this b (has_rows rows)) r (marks_of b)
      b.catches c m is false 0 0 b.insns rows)

  pub forms_only : (r : Resolution) (near : MemberId → Bool) → FormsOnly r near b rows
  unfolding with_pairs
  forms_only r near = record {
    keys = keys_of r near (role_in b.insns (roles_of (with_near r near) b (has_rows rows)))
        (place_in (with_pairs (with_near r near) b (has_rows rows)) kept) kept
        ∙ sym (keys_of r r.is_near (role_in b.insns (roles_of r b (has_rows rows)))
        (place_in (with_pairs r b (has_rows rows)) kept) kept);
    classes = same_classes (place_in (with_pairs (with_near r near) b (has_rows rows)) kept)
        (place_in (with_pairs r b (has_rows rows)) kept) b.catches
        (λ m c is. range_same (with_near r near) m c is ∙ sym (range_same r m c is));
  }

-- ---- keys of a method

pub same_keys : (m n : NMethod) → flat_map insn_keys m.insns ≡ flat_map insn_keys n.insns
    → map (λ c. c.class) m.catches ≡ map (λ c. c.class) n.catches → method_keys m ≡ method_keys n
same_keys m n keys classes =
    ap (λ ks. ks ++ flat_map (λ c. class_key c.class) m.catches) keys
    ∙ ap (λ ks. flat_map insn_keys n.insns ++ ks) (sym (flat_map-map class_key (λ c. c.class) m.catches)
    ∙ ap (flat_map class_key) classes ∙ flat_map-map class_key (λ c. c.class) n.catches)

pub same_types : (m n : NMethod) → map (λ c. c.class) m.catches ≡ map (λ c. c.class) n.catches
    → has_catch_type m ≡ has_catch_type n
same_types m n classes = sym (any_of_map has_class (λ c. c.class) m.catches) ∙ ap (list_any has_class) classes
    ∙ any_of_map has_class (λ c. c.class) n.catches
