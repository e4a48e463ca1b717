-- A method made by hand is written and typed.
use Rattle.std.proofs.Common.{◌≡◌, ℕ, zero, suc, ◌<◌, ◌≤◌, refl, sym, ap, subst, arith, [], ◌∷◌, length, slice_get}
use Rattle.std.specs.Prelude.{Option, Some, None, false}
use Rattle.cjc_script.specs.Bytes.declared.fault.MemberId.{MemberId}
use Rattle.cjc_int_proof.specs.Bytecode.declared.insn.JInsn.{JInsn}
use Rattle.cjc_int_proof.specs.Bytecode.declared.insn.JOp.TheVariants as jop
use Rattle.cjc_script.specs.Sorts.{Sort, Int, Signature, signature_of}
use Rattle.cjc_range.specs.Span.{full}
use Rattle.cjc_range.proofs.Order.{within_refl}
use Rattle.cjc_ncode.specs.ByLabel.{Named}
use Rattle.cjc_ncode.specs.IntCode.IntCode.{Before, Reached}
use Rattle.cjc_ncode.specs.IntCode.Worked.{reached}
use Rattle.cjc_jvm_semantics.specs.Linked.{Linked, Method}
use Rattle.cjc_narrow_proof.specs.Selection.Relation.{Range, more_numbers, none_wider, one_wider}
use Rattle.cjc_narrow_proof.specs.Selection.Tables.{Table}
use Rattle.cjc_int_runs.specs.IntFrames.{IntBody, IntPoint, StandsByMode, ResultFits, a_number, wider_number, no_wider}
use Rattle.cjc_int_runs.specs.Placed.{ascends_none, ascends_more, offset_in}
use Rattle.cjc_int_runs.specs.Rows.{iload_row, int_return}
use Rattle.cjc_int_runs.specs.Typed.{IsWritten, IntMethodIsTyped, IntTyped, row_typed, return_typed}
use Rattle.cjc_int_runs.specs.Worked.{echo, echo_body, echo_point, echo_reached}

-- ---- written

-- the second of them
abbrev last : Reached
last = reached 1 (jop.Return 0xAC) (false ∷ [])

-- offsets and what is known, where there is something
offset_or : Option Reached → ℕ
offset_or None = 0
offset_or (Some x) = offset_in x

at_or : Option JInsn → ℕ
at_or None = 0
at_or (Some x) = x.at

before_or : Before → Option IntPoint → Before
before_or b None = b
before_or b (Some p) = p.before

behind_first : (k : ℕ) (x : Reached) → slice_get (last ∷ []) k ≡ Some x → 0 < offset_in x
unfolding offset_or
behind_first zero x e = let same : 1 ≡ offset_in x = ap offset_or e in omega (arith, same)
behind_first (suc k) x e = absurd cc

behind_last : (k : ℕ) (x : Reached) → slice_get [] k ≡ Some x → 1 < offset_in x
behind_last k x e = absurd cc

in_order : (j k : ℕ) (x y : JInsn) → slice_get echo.insns j ≡ Some x → slice_get echo.insns k ≡ Some y → j < k
    → x.at < y.at
unfolding at_or
in_order zero zero x y e e' lt = absurd (omega (arith, lt))
in_order zero (suc zero) x y e e' lt =
    let a : 0 ≡ x.at = ap at_or e in let b : 1 ≡ y.at = ap at_or e' in omega (arith, a, b)
in_order zero (suc (suc k)) x y e e' lt = absurd cc
in_order (suc zero) zero x y e e' lt = absurd (omega (arith, lt))
in_order (suc zero) (suc zero) x y e e' lt = absurd (omega (arith, lt))
in_order (suc zero) (suc (suc k)) x y e e' lt = absurd cc
in_order (suc (suc j)) k x y e e' lt = absurd cc

is_reached : (at : ℕ) (p : IntPoint) → echo_point at ≡ Some p → (k : ℕ) × (i : Reached)
    × (slice_get echo_reached k ≡ Some i) × (slice_get echo.insns at ≡ Some i.insn) × (i.before ≡ p.before)
unfolding before_or
is_reached zero p e = (
  0,
  reached 0 (jop.Load false 0) [],
  refl,
  refl,
  ap (before_or (record {
    references = [];
    is_index_inside = false;
  })) e,
)
is_reached (suc zero) p e = (
  1,
  last,
  refl,
  refl,
  ap (before_or (record {
    references = [];
    is_index_inside = false;
  })) e,
)
is_reached (suc (suc k)) p e = absurd cc

is_there : (k : ℕ) (i : Reached) → slice_get echo_reached k ≡ Some i → (at : ℕ) × (slice_get echo.insns at
    ≡ Some i.insn)
is_there zero i e = (0, insn_of e)
  where
    insn_of : Some (reached 0 (jop.Load false 0) []) ≡ Some i → slice_get echo.insns 0 ≡ Some i.insn
    insn_of e = ap (λ o. option_insn o) e
      where
        option_insn : Option Reached → Option JInsn
        option_insn None = None
        option_insn (Some x) = Some x.insn
is_there (suc zero) i e = (1, cc)
is_there (suc (suc k)) i e = absurd cc

pub echo_is_written : IsWritten echo_body echo echo_reached
echo_is_written = record {
  place_of = refl;
  insns = refl;
  catches = refl;
  has_room = omega arith;
  ascends = ascends_more behind_first (ascends_more behind_last ascends_none);
  in_order = in_order;
  is_reached = is_reached;
  is_there = is_there;
}

-- ---- typed

module _ (by : Linked) (l : Named) (tb : Table) (bodies : Method → Option IntBody) (results : Method → Option Sort)
    (gives : results echo ≡ Some Int) where
  abbrev Is : (at : ℕ) → IntPoint → JInsn → Type 0
  Is = IntTyped by l (StandsByMode l tb bodies) results tb.narrowed tb.may_throw echo_body echo

  first_typed : Is 0 (record {
    stack = [];
    locals = Range full ∷ [];
    before = record { references = []; is_index_inside = false };
  }) (record { at = 0; op = jop.Load false 0 })
  first_typed = row_typed [] [] (Range full ∷ []) (Range full ∷ []) refl (iload_row _ _ 0 full refl) (λ e. cc)
      (omega arith) (omega arith) (record {
        point = _;
        is_reached = refl;
        stack = wider_number (within_refl full) no_wider;
        locals = one_wider (more_numbers (within_refl full)) none_wider;
      }) (λ kind may target e. absurd cc)

  last_typed : Is 1 (record {
    stack = Range full ∷ [];
    locals = Range full ∷ [];
    before = record { references = false ∷ []; is_index_inside = false };
  }) (record { at = 1; op = jop.Return 0xAC })
  last_typed = return_typed (Range full ∷ []) [] refl (int_return _ full refl) (sym gives)
      (subst (λ o. ResultFits l o (Range full ∷ [])) (sym gives) a_number)

  some_same : {A : Type 0} {x y : A} → Some x ≡ Some y → x ≡ y
  some_same e = cc

  -- of what stands there
  told : (at : ℕ) (q p : IntPoint) (j i : JInsn) → q ≡ p → j ≡ i → Is at q j → Is at p i
  told at q p j i e e' h = subst (Is at p) e' (subst (λ p. Is at p j) e h)

  typed : (at : ℕ) (p : IntPoint) (i : JInsn) → echo_point at ≡ Some p → slice_get echo.insns at ≡ Some i → Is at p i
  typed zero p i e e' = told 0 _ p _ i (some_same e) (some_same e') first_typed
  typed (suc zero) p i e e' = told 1 _ p _ i (some_same e) (some_same e') last_typed
  typed (suc (suc at)) p i e e' = absurd cc

  no_calls : (opcode : ℕ) (id : MemberId) (types : Signature) (at : ℕ) (p : IntPoint) (i : JInsn)
      → echo_point at ≡ Some p → slice_get echo.insns at ≡ Some i → i.op ≡ jop.Call opcode id
      → signature_of id.desc ≡ Some types → length types.params ≤ 255
  no_calls opcode id types zero p i known e is has_types = absurd cc
  no_calls opcode id types (suc zero) p i known e is has_types = absurd cc
  no_calls opcode id types (suc (suc at)) p i known e is has_types = absurd cc

  pub echo_is_typed : IntMethodIsTyped by l (StandsByMode l tb bodies) results tb.narrowed tb.may_throw echo_body echo
  echo_is_typed = record { typed = typed; few_params = no_calls }
