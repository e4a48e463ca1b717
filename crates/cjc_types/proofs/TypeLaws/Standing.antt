-- The instructions that a method's code was decoded to: where they stand, and what they name.
use Rattle.std.proofs.Common.{◌≡◌, ◌⊎◌, ◌≤◌, ◌<◌, ◌+◌, ◌-◌, ◌&&◌, ℕ, zero, suc, Bool, true, false, not, nat_lt, List}
use Rattle.std.proofs.Common.{[], ◌∷◌, map, length, slice_get, Some, None, option_map, ℤ, pos, negsuc, refl, sym, ap}
use Rattle.std.proofs.Common.{subst, ◌∙◌, inl, inr, arith}
use Rattle.std.specs.List.{Contains, list_all}
use Rattle.std.proofs.lemmas.Bool.{ltb-true, ltb-false, leb-false}
use Rattle.std.proofs.lemmas.Option.{same_Some, slice_get-map, slice_get_within}
use Rattle.std.proofs.lemmas.List.{length-map}
use Rattle.std.proofs.lemmas.List.Elements.{All-contains}
use Rattle.cjc_classfile.specs.Code.{CodeTree}
use Rattle.cjc_classfile.specs.declared.tree.Catch.{Catch}
use Rattle.cjc_classfile.specs.declared.tree.ClassTree.{ClassTree}
use Rattle.cjc_classfile.specs.declared.tree.MethodTree.{MethodTree}
use Rattle.cjc_code.specs.declared.insn.JInsn.{JInsn}
use Rattle.cjc_code.specs.declared.method_code.MethodCode.{MethodCode}
use Rattle.cjc_code.specs.Cut.{cut}
use Rattle.cjc_code.specs.Table.{count}
use Rattle.cjc_code.specs.Decoded.{of_code, of_method}
use Rattle.cjc_code.specs.Named.{is_unsupported, place}
use Rattle.cjc_code.specs.Numbers.{target, offsets, local}
use Rattle.cjc_code.specs.Rules.{IsDecoded, starts_at, with_names, stopped, wrong_jump, wrong_local, falls}
use Rattle.cjc_code.specs.Rules.{wrong_target}
use Rattle.cjc_code.specs.Unfit.{starts, is_start, has_wrong_jump, has_wrong_local, is_from, may_go_on}
use Rattle.cjc_code.proofs.Decided.{decoded_is}
use Rattle.cjc_code.proofs.OneCut.{is_cut}
use Rattle.cjc_code.proofs.StartLaws.{start_is}
use Rattle.cjc_world.specs.Files.{Files}
use Rattle.cjc_types.specs.Flow.{place_at}
use Rattle.cjc_types.specs.Steps.{goes_on, targets}
use Rattle.cjc_types.specs.Tables.{IsMethodOf}
use Rattle.cjc_types.proofs.Ascending.{insns_ascend}
use Rattle.cjc_types.proofs.Indexing.{own_place}
use Rattle.cjc_types.specs.TypeLaws.Places.{HasPlace, local_of}
use Rattle.cjc_types.proofs.TypeLaws.Shapes.{Agrees, cut_agrees, stops_within}
use Rattle.cjc_bytes.proofs.Quantified.{contains_later}
use Rattle.cjc_bytes.proofs.Bools.{not_true, not_false, true_or_false}
use Rattle.cjc_bytes.proofs.Gets.{contains_at, contained}

-- ---- lists

of_mapped : {X : Type 0} (f : X → ℕ) (xs : List X) (k : ℕ) → Contains (map f xs) k → (x : X) × Contains xs x × (f x ≡ k)
of_mapped f [] k (n, lt, e) = absurd (omega (arith, lt))
of_mapped f (x ∷ xs) k (zero, lt, e) = (x, (0, omega arith, refl), e)
of_mapped f (x ∷ xs) k (suc n, lt, e) = let h = of_mapped f xs k (n, omega (arith, lt), e)
    in (h.0, contains_later x h.0 xs h.1, h.2)

passes : {X : Type 0} (p : X → Bool) (xs : List X) (x : X) → list_all p xs ≡ true → Contains xs x → p x ≡ true
passes p [] x e (n, lt, is) = absurd (omega (arith, lt))
passes p (y ∷ ys) x e (zero, lt, is) = subst (λ z. p z ≡ true) is (first (p y) e)
  where
    first : (b : Bool) → (b && list_all p ys) ≡ true → b ≡ true
    first true e = refl
    first false e = absurd cc
passes p (y ∷ ys) x e (suc n, lt, is) = passes p ys x (rest (p y) e) (n, omega (arith, lt), is)
  where
    rest : (b : Bool) → (b && list_all p ys) ≡ true → list_all p ys ≡ true
    rest true e = e
    rest false e = absurd cc

-- ---- a method

module _ (files : Files) (code : MethodCode) (class : ClassTree) (method : MethodTree) (tree : CodeTree)
    (is : IsMethodOf files code class method tree) where
  decoded : IsDecoded class method tree code.insns
  decoded = decoded_is class method tree code.insns (sym (ap (of_code class method) is.is_code)
      ∙ sym (ap (of_method class) is.is_method) ∙ is.insns)

  pub own_places : (k : ℕ) (i : JInsn) → slice_get code.insns k ≡ Some i → place_at code.insns i.at ≡ Some k
  own_places k i e = own_place code.insns (insns_ascend files code class method tree is) k i e

  -- what was cut of an instruction
  raw_of : (k : ℕ) (x : JInsn) → slice_get code.insns k ≡ Some x → (i : _) × (slice_get (cut tree.bytes).insns k
      ≡ Some i) × (with_names class.pool i ≡ x)
  raw_of k x e = elim (slice_get (cut tree.bytes).insns k) as (λ o. slice_get (cut tree.bytes).insns k ≡ o
      → option_map (with_names class.pool) o ≡ Some x → (i : _) × (slice_get (cut tree.bytes).insns k ≡ Some i)
      × (with_names class.pool i ≡ x)) [
        | None ↦ λ f named. absurd cc
        | Some i ↦ λ f named. (i, f, same_Some (with_names class.pool i) x named)
      ] refl (sym (slice_get-map (with_names class.pool) (cut tree.bytes).insns k)
      ∙ sym (ap (λ (xs : List JInsn). slice_get xs k) decoded.insns_are) ∙ e)

  agrees : (k : ℕ) (i : _) → slice_get (cut tree.bytes).insns k ≡ Some i
      → Agrees (with_names class.pool i).op (map (place i.at) (offsets i.family i.numbers)) (may_go_on i.family)
      (local i.family i.numbers)
  agrees k i e = cut_agrees k 0 tree.bytes (cut tree.bytes).insns (cut tree.bytes).stop (is_cut tree.bytes) i e
      class.pool
      (not_true (is_unsupported class.pool i.family i.numbers)
      (All-contains (λ r. not (is_unsupported class.pool r.family r.numbers) ≡ true) (cut tree.bytes).insns i
      decoded.fine (contained (cut tree.bytes).insns k i e)))

  -- where an instruction was cut, one stands
  placed : (k : ℕ) (i : _) (offset : ℕ) → slice_get (cut tree.bytes).insns k ≡ Some i → i.at ≡ offset
      → HasPlace code.insns offset
  placed k i offset e at =
      let insn = with_names class.pool i in
      let there : slice_get code.insns k ≡ Some insn = ap (λ (xs : List JInsn). slice_get xs k) decoded.insns_are
      ∙ slice_get-map (with_names class.pool) (cut tree.bytes).insns k ∙ ap (option_map (with_names class.pool)) e
      in (
        k,
        record {
          insn = insn;
          is_insn = there;
          stands = at;
          found = ap (place_at code.insns) (sym at)
              ∙ own_places k insn there;
        },
      )

  start_placed : (offset : ℕ) → starts_at tree offset ≡ true → HasPlace code.insns offset
  start_placed offset e = let start = start_is tree offset e in go start.inside start.starts
    where
      go : offset < length tree.bytes → ((i : _) × Contains (cut tree.bytes).insns i × (i.at ≡ offset))
          ⊎ (offset ≡ (cut tree.bytes).stop) → HasPlace code.insns offset
      go inside (inl (i, there, at)) = let found = contains_at (cut tree.bytes).insns i there
          in placed found.0 i offset found.1 at
      go inside (inr stop) = absurd (decoded.fit (cut tree.bytes).stop (stopped (omega (arith, inside, stop))))

  -- ---- jumps and handlers

  lands : (at : ℕ) (z : ℤ) → is_start (starts (cut tree.bytes) (length tree.bytes)) (target at z) ≡ true
      → HasPlace code.insns (place at z)
  lands at z e = go (target at z) refl e
    where
      go : (to : ℤ) → target at z ≡ to → is_start (starts (cut tree.bytes) (length tree.bytes)) to ≡ true
          → HasPlace code.insns (place at z)
      go (pos n) same e = subst (HasPlace code.insns) (sym (ap count same)) (start_placed n e)
      go (negsuc n) same e = absurd cc

  -- no instruction may jump off the start of one
  jumps_right : (i : _) → Contains (cut tree.bytes).insns i
      → list_all (λ z. is_start (starts (cut tree.bytes) (length tree.bytes)) (target i.at z))
      (offsets i.family i.numbers) ≡ true
  jumps_right i inside = elim (true_or_false (has_wrong_jump (starts (cut tree.bytes) (length tree.bytes)) i)) [
    | inl wrong ↦ absurd (decoded.fit i.at (wrong_jump i inside wrong))
    | inr fine ↦ not_false _ fine
  ]

  pub target_placed : (at : ℕ) (x : JInsn) (offset : ℕ) → slice_get code.insns at ≡ Some x
      → Contains (targets x.op) offset → HasPlace code.insns offset
  target_placed at x offset e there =
      let (i, is_raw, named) = raw_of at x e in
      let led : targets x.op ≡ map (place i.at) (offsets i.family i.numbers) =
      sym (ap (λ (y : JInsn). targets y.op) named) ∙ (agrees at i is_raw).leads in
      let from = of_mapped (place i.at) (offsets i.family i.numbers) offset (subst (λ (ks : List ℕ). Contains ks offset)
      led there) in
      subst (HasPlace code.insns) from.2
      (lands i.at from.0 (passes (λ z. is_start (starts (cut tree.bytes) (length tree.bytes)) (target i.at z))
      (offsets i.family i.numbers) from.0 (jumps_right i (contained (cut tree.bytes).insns at i is_raw)) from.1))

  pub handler_placed : (c : Catch) → Contains tree.catches c → HasPlace code.insns c.target
  handler_placed c there = go (true_or_false (starts_at tree c.target))
    where
      go : (starts_at tree c.target ≡ true) ⊎ (starts_at tree c.target ≡ false) → HasPlace code.insns c.target
      go (inl e) = start_placed c.target e
      go (inr e) = absurd (decoded.fit c.target (wrong_target c there e))

  -- ---- going on

  as_many : length code.insns ≡ length (cut tree.bytes).insns
  as_many = ap length decoded.insns_are ∙ length-map (cut tree.bytes).insns (with_names class.pool)

  stops_at_end : (cut tree.bytes).stop ≡ length tree.bytes
  stops_at_end = go (nat_lt (cut tree.bytes).stop (length tree.bytes)) refl
    where
      within : (cut tree.bytes).stop ≤ 0 + length tree.bytes
      within = stops_within 0 tree.bytes (cut tree.bytes).insns (cut tree.bytes).stop (is_cut tree.bytes)

      go : (b : Bool) → nat_lt (cut tree.bytes).stop (length tree.bytes) ≡ b → (cut tree.bytes).stop ≡ length tree.bytes
      go true e = absurd (decoded.fit (cut tree.bytes).stop (stopped (ltb-true _ _ e)))
      go false e = let le = ltb-false _ _ e in omega (arith, le, within)

  pub next_there : (at : ℕ) (x : JInsn) → slice_get code.insns at ≡ Some x → goes_on x.op ≡ true
      → at + 1 < length code.insns
  next_there at x e goes = go (nat_lt (at + 1) (length code.insns)) refl
    where
      inside : at < length code.insns
      inside = slice_get_within code.insns at x e

      last : at ≡ length (cut tree.bytes).insns - 1 → ⊥
      last same =
          let (i, is_raw, named) = raw_of at x e in
          let on : goes_on (with_names class.pool i).op ≡ true = ap (λ (y : JInsn). goes_on y.op) named ∙ goes in
          decoded.fit i.at (falls i stops_at_end (ap (slice_get (cut tree.bytes).insns) (sym same)
          ∙ is_raw) ((agrees at i is_raw).goes on))

      go : (b : Bool) → nat_lt (at + 1) (length code.insns) ≡ b → at + 1 < length code.insns
      go true f = ltb-true _ _ f
      go false f = let le = ltb-false (at + 1) (length code.insns) f in let many = as_many
          in absurd (last (omega (arith, le, many, inside)))

  -- ---- locals

  locals_right : (i : _) → Contains (cut tree.bytes).insns i → has_wrong_local tree.max_locals i ≡ false
  locals_right i inside = elim (true_or_false (has_wrong_local tree.max_locals i)) [
    | inl wrong ↦ absurd (decoded.fit i.at (wrong_local i inside wrong))
    | inr fine ↦ fine
  ]

  pub local_there : (at : ℕ) (x : JInsn) (k : ℕ) → slice_get code.insns at ≡ Some x → local_of x.op ≡ Some k
      → k < tree.max_locals
  local_there at x k e names =
      let (i, is_raw, named) = raw_of at x e in
      let here : local i.family i.numbers ≡ Some k = (agrees at i is_raw).local k (ap (λ (y : JInsn). local_of y.op)
      named ∙ names) in
      let few = leb-false tree.max_locals k (sym (ap (is_from tree.max_locals) here)
      ∙ locals_right i (contained (cut tree.bytes).insns at i is_raw)) in
      omega (arith, few)
