-- What an instruction makes of intervals of 32 bits has 32 bits, and grows with them.
use Rattle.std.proofs.Common.{ℕ, Bool, true, false, ◌==◌, cond, List, [], ◌∷◌, drop, slice_set, All, sym, subst, ◌∙◌, ℤ}
use Rattle.std.proofs.Common.{inl, inr, arith}
use Rattle.std.proofs.lemmas.Int.{ints}
use Rattle.std.specs.Prelude.{Option, Some, None}
use Rattle.std.specs.List.{AllZip, list_all}
use Rattle.std.proofs.lemmas.List.{length-set}
use Rattle.std.proofs.lemmas.List.Elements.{All-nil, All-append, All-drop, All-set}
use Rattle.cjc_bytes.specs.Descriptor.{Part}
use Rattle.cjc_bytes.specs.declared.fault.MemberId.{MemberId}
use Rattle.cjc_bytes.specs.declared.descriptor.Kind.{Kind}
use Rattle.cjc_bytes.specs.declared.descriptor.Kind.TheVariants as kinds
use Rattle.cjc_range.specs.Span.{Span, span, IsWord, Within, full, byte_range, short_range}
use Rattle.cjc_range.proofs.Spans.{clip_cases}
use Rattle.cjc_range.proofs.Order.{within_refl, word_full, add_monotone, sub_monotone, mul_monotone, div_monotone}
use Rattle.cjc_range.proofs.Order.{rem_monotone, neg_monotone, shl_monotone, shr_monotone, to_byte_monotone}
use Rattle.cjc_range.proofs.Order.{to_short_monotone, add_word, sub_word, mul_word, div_word, rem_word, neg_word}
use Rattle.cjc_range.proofs.Order.{shl_word, shr_word, to_byte_word, to_short_word}
use Rattle.cjc_range.proofs.OrderBits.{ushr_monotone, and_monotone, or_monotone, ushr_word, and_word, or_word}
use Rattle.cjc_types.specs.Bytecode.declared.insn.JOp.{JOp}
use Rattle.cjc_types.specs.Bytecode.declared.insn.JOp.TheVariants as jop
use Rattle.cjc_fixpoint.specs.Lattice.{IsListOf}
use Rattle.cjc_fixpoint.proofs.Lattices.{zip-slice_set}
use Rattle.cjc_types.specs.declared.cell.Cell.{Cell}
use Rattle.cjc_types.specs.declared.cell.Cell.TheVariants.{Number, Refs, Unusable}
use Rattle.cjc_types.specs.Types.{parts, is_void}
use Rattle.cjc_types.specs.Steps.{takes, shuffled}
use Rattle.cjc_types.specs.Steps as typed
use Rattle.cjc_intervals.specs.Frames.{StackOf, Cells, Clash, IsStack, IsStackBelow, spans, RangeState, states}
use Rattle.cjc_intervals.specs.Values.{exactly, boolean_range, length_range, range_of, range_of_kind, result_ranges}
use Rattle.cjc_intervals.specs.Values.{is_boolean_array, byte_element_range, element_range}
use Rattle.cjc_intervals.specs.Steps.{operand, two_operands, arithmetic, narrowed, loaded, field_range, gives}
use Rattle.cjc_intervals.specs.Steps.{stack_behind, stack_after, stored, locals_after, after}
use Rattle.cjc_types.specs.Working.OperandLaws.{one_own, read_own, all_read_own, below_same, below_append, below_drop}
use Rattle.cjc_types.specs.Working.OperandLaws.{read_up, all_read_up}
use Rattle.cjc_types.specs.Working.StackLaws.{own_stack_of, stack_of_up}
use Rattle.cjc_intervals.proofs.Stacks.{span_lattice}

-- ---- lists of intervals

abbrev pub AreBelow : List Span → List Span → Type 0
AreBelow xs ys = AllZip Within xs ys

below_itself : (xs : List Span) → AreBelow xs xs
below_itself xs = below_same Within within_refl xs

pub own_operand : (xs : List Span) (k : ℕ) → All IsWord xs → IsWord (operand xs k)
own_operand xs k h = read_own IsWord full word_full xs k h

pub operand_up : (xs ys : List Span) (k : ℕ) → AreBelow xs ys → Within (operand xs k) (operand ys k)
operand_up xs ys k h = read_up Within full (within_refl full) xs ys k h

-- ---- either of two

either : (b : Bool) (x y : Span) → IsWord x → IsWord y → IsWord (cond b x y)
either true x y h k = h
either false x y h k = k

either_up : (b : Bool) (x y u v : Span) → Within x u → Within y v → Within (cond b x y) (cond b u v)
either_up true x y u v h k = h
either_up false x y u v h k = k

-- ---- values

pub exactly_word : (z : ℤ) → IsWord (exactly z)
exactly_word z = elim (clip_cases full (span z z)) [
  | inl fits ↦ subst IsWord (sym fits.0) (record { within = fits.1; ordered = omega (arith, ints) })
  | inr is ↦ subst IsWord (sym is) word_full
]

boolean_word : IsWord boolean_range
boolean_word = record {
  within = record { low = omega (arith, ints); high = omega (arith, ints) };
  ordered = omega (arith, ints);
}

length_word : IsWord length_range
length_word = record {
  within = record { low = omega (arith, ints); high = omega (arith, ints) };
  ordered = omega (arith, ints);
}

byte_word : IsWord byte_range
byte_word = record {
  within = record { low = omega (arith, ints); high = omega (arith, ints) };
  ordered = omega (arith, ints);
}

short_word : IsWord short_range
short_word = record {
  within = record { low = omega (arith, ints); high = omega (arith, ints) };
  ordered = omega (arith, ints);
}

kind_word : (k : Kind) → IsWord (range_of_kind k)
kind_word kinds.Bool = boolean_word
kind_word kinds.Byte = byte_word
kind_word kinds.Short = short_word
kind_word kinds.Int = word_full
kind_word kinds.Other = word_full
kind_word kinds.Ref = word_full
kind_word kinds.Void = word_full

pub range_word : (p : Part) → IsWord (range_of p)
range_word p = kind_word p.kind

own_result : (p : Part) → All IsWord (result_ranges p)
own_result p = go (is_void p.kind)
  where
    go : (b : Bool) → All IsWord (cond b [] (range_of p ∷ []))
    go true = All-nil IsWord
    go false = one_own IsWord (range_of p) (range_word p)

own_field : (constant : Option ℤ) (p : Part) → All IsWord (field_range constant p)
own_field (Some z) p = one_own IsWord (exactly z) (exactly_word z)
own_field None p = own_result p

own_got : (put : Bool) (xs : List Span) → All IsWord xs → All IsWord (cond put [] xs)
own_got true xs own = All-nil IsWord
own_got false xs own = own

own_byte_element : (cell : Cell) → IsWord (byte_element_range cell)
own_byte_element Number = word_full
own_byte_element (Refs names) = either (list_all is_boolean_array names) boolean_range byte_range boolean_word byte_word
own_byte_element Unusable = word_full

own_element : (opcode : ℕ) (cell : Cell) → IsWord (element_range opcode cell)
own_element opcode cell = either (opcode == 0x33) _ _ (own_byte_element cell) (either (opcode == 0x35) _ _ short_word
    word_full)

-- ---- arithmetic

own_two : (opcode : ℕ) (s t : Span) → IsWord s → IsWord t → IsWord (two_operands opcode s t)
own_two opcode s t h k =
    either (opcode == 0x60) _ _ (add_word s t h k)
    (either (opcode == 0x64) _ _ (sub_word s t h k)
    (either (opcode == 0x68) _ _ (mul_word s t h k)
    (either (opcode == 0x6C) _ _ (div_word s t h k)
    (either (opcode == 0x70) _ _ (rem_word s t h k)
    (either (opcode == 0x78) _ _ (shl_word s t h k)
    (either (opcode == 0x7A) _ _ (shr_word s t h k)
    (either (opcode == 0x7C) _ _ (ushr_word s t h k)
    (either (opcode == 0x7E) _ _ (and_word s t h k)
    (either (opcode == 0x80) _ _ (or_word s t h k)
    (either (opcode == 0x82) _ _ (or_word s t h k) word_full))))))))))

two_up : (opcode : ℕ) (s t u v : Span) → IsWord s → IsWord t → IsWord u → IsWord v → Within s u → Within t v
    → Within (two_operands opcode s t) (two_operands opcode u v)
two_up opcode s t u v ws wt wu wv h k =
    either_up (opcode == 0x60) _ _ _ _ (add_monotone s t u v ws wt wu wv h k)
    (either_up (opcode == 0x64) _ _ _ _ (sub_monotone s t u v ws wt wu wv h k)
    (either_up (opcode == 0x68) _ _ _ _ (mul_monotone s t u v ws wt wu wv h k)
    (either_up (opcode == 0x6C) _ _ _ _ (div_monotone s t u v ws wt wu wv h k)
    (either_up (opcode == 0x70) _ _ _ _ (rem_monotone s t u v ws wt wu wv h k)
    (either_up (opcode == 0x78) _ _ _ _ (shl_monotone s t u v ws wt wu wv h k)
    (either_up (opcode == 0x7A) _ _ _ _ (shr_monotone s t u v ws wt wu wv h k)
    (either_up (opcode == 0x7C) _ _ _ _ (ushr_monotone s t u v ws wt wu wv h k)
    (either_up (opcode == 0x7E) _ _ _ _ (and_monotone s t u v ws wt wu wv h k)
    (either_up (opcode == 0x80) _ _ _ _ (or_monotone s t u v ws wt wu wv h k)
    (either_up (opcode == 0x82) _ _ _ _ (or_monotone s t u v ws wt wu wv h k) (within_refl full)))))))))))

own_arithmetic : (opcode : ℕ) (s : List Span) → All IsWord s → IsWord (arithmetic opcode s)
own_arithmetic opcode s own = either (opcode == 0x74) _ _ (neg_word (operand s 0) (own_operand s 0 own))
    (own_two opcode (operand s 1) (operand s 0) (own_operand s 1 own) (own_operand s 0 own))

arithmetic_up : (opcode : ℕ) (s t : List Span) → All IsWord s → All IsWord t → AreBelow s t
    → Within (arithmetic opcode s) (arithmetic opcode t)
arithmetic_up opcode s t own_s own_t h =
    either_up (opcode == 0x74) _ _ _ _ (neg_monotone (operand s 0) (operand t 0) (own_operand s 0 own_s)
    (own_operand t 0 own_t) (operand_up s t 0 h))
    (two_up opcode (operand s 1) (operand s 0) (operand t 1) (operand t 0) (own_operand s 1 own_s)
    (own_operand s 0 own_s) (own_operand t 1 own_t) (own_operand t 0 own_t) (operand_up s t 1 h)
    (operand_up s t 0 h))

own_narrowed : (opcode : ℕ) (s : Span) → IsWord s → IsWord (narrowed opcode s)
own_narrowed opcode s own = either (opcode == 0x91) _ _ (to_byte_word s own) (to_short_word s own)

narrowed_up : (opcode : ℕ) (s t : Span) → IsWord s → IsWord t → Within s t
    → Within (narrowed opcode s) (narrowed opcode t)
narrowed_up opcode s t ws wt h = either_up (opcode == 0x91) _ _ _ _ (to_byte_monotone s t ws wt h)
    (to_short_monotone s t ws wt h)

own_loaded : (refs : Bool) (s : Span) → IsWord s → IsWord (loaded refs s)
own_loaded true s own = word_full
own_loaded false s own = own

loaded_up : (refs : Bool) (s t : Span) → Within s t → Within (loaded refs s) (loaded refs t)
loaded_up true s t h = within_refl full
loaded_up false s t h = h

-- ---- what is given

module _ (constant : MemberId → Option ℤ) where
  own_gives : (op : JOp) (cells : List Cell) (locals s : List Span) → All IsWord locals → All IsWord s
      → All IsWord (gives constant op cells locals s)
  own_gives jop.Nop cells locals s own_l own_s = All-nil IsWord
  own_gives jop.Null cells locals s own_l own_s = one_own IsWord full word_full
  own_gives (jop.Number z) cells locals s own_l own_s = one_own IsWord (exactly z) (exactly_word z)
  own_gives (jop.Load refs k) cells locals s own_l own_s =
      one_own IsWord _ (own_loaded refs (operand locals k) (own_operand locals k own_l))
  own_gives (jop.Store refs k) cells locals s own_l own_s = All-nil IsWord
  own_gives (jop.ArrayLoad opcode) cells locals s own_l own_s =
      one_own IsWord _ (own_element opcode (typed.operand cells 1))
  own_gives (jop.ArrayStore opcode) cells locals s own_l own_s = All-nil IsWord
  own_gives (jop.Stack opcode) cells locals s own_l own_s = all_read_own IsWord full word_full (shuffled opcode) s own_s
  own_gives (jop.Arith opcode) cells locals s own_l own_s = one_own IsWord _ (own_arithmetic opcode s own_s)
  own_gives (jop.Inc k by) cells locals s own_l own_s = All-nil IsWord
  own_gives (jop.Narrow opcode) cells locals s own_l own_s =
      one_own IsWord _ (own_narrowed opcode (operand s 0) (own_operand s 0 own_s))
  own_gives (jop.If opcode target) cells locals s own_l own_s = All-nil IsWord
  own_gives (jop.Goto target) cells locals s own_l own_s = All-nil IsWord
  own_gives (jop.TableSwitch other low targets) cells locals s own_l own_s = All-nil IsWord
  own_gives (jop.LookupSwitch other cases) cells locals s own_l own_s = All-nil IsWord
  own_gives (jop.Return opcode) cells locals s own_l own_s = All-nil IsWord
  own_gives (jop.Static put field) cells locals s own_l own_s =
      own_got put _ (own_field (constant field) (parts field.desc).result)
  own_gives (jop.Field put field) cells locals s own_l own_s = own_got put _ (own_result (parts field.desc).result)
  own_gives (jop.Call opcode method) cells locals s own_l own_s = own_result (parts method.desc).result
  own_gives (jop.New class) cells locals s own_l own_s = one_own IsWord full word_full
  own_gives (jop.NewArray number) cells locals s own_l own_s = one_own IsWord full word_full
  own_gives (jop.ANewArray class) cells locals s own_l own_s = one_own IsWord full word_full
  own_gives jop.ArrayLength cells locals s own_l own_s = one_own IsWord length_range length_word
  own_gives jop.Throw cells locals s own_l own_s = All-nil IsWord
  own_gives (jop.CheckCast class) cells locals s own_l own_s = one_own IsWord full word_full
  own_gives (jop.InstanceOf class) cells locals s own_l own_s = one_own IsWord boolean_range boolean_word

  gives_up : (op : JOp) (cells : List Cell) (locals more s t : List Span) → All IsWord s → All IsWord t
      → AreBelow locals more → AreBelow s t → AreBelow (gives constant op cells locals s) (gives constant op cells more
      t)
  gives_up (jop.Load refs k) cells locals more s t own_s own_t h k' =
      (loaded_up refs (operand locals k) (operand more k) (operand_up locals more k h), tt)
  gives_up (jop.Stack opcode) cells locals more s t own_s own_t h k = all_read_up Within full (within_refl full)
      (shuffled opcode) s t k
  gives_up (jop.Arith opcode) cells locals more s t own_s own_t h k = (arithmetic_up opcode s t own_s own_t k, tt)
  gives_up (jop.Narrow opcode) cells locals more s t own_s own_t h k = (
    narrowed_up opcode (operand s 0) (operand t 0) (own_operand s 0 own_s) (own_operand t 0 own_t)
        (operand_up s t 0 k),
    tt,
  )
  gives_up jop.Nop cells locals more s t own_s own_t h k = tt
  gives_up jop.Null cells locals more s t own_s own_t h k = below_itself (full ∷ [])
  gives_up (jop.Number z) cells locals more s t own_s own_t h k = below_itself (exactly z ∷ [])
  gives_up (jop.Store refs i) cells locals more s t own_s own_t h k = tt
  gives_up (jop.ArrayLoad opcode) cells locals more s t own_s own_t h k =
      below_itself (element_range opcode (typed.operand cells 1) ∷ [])
  gives_up (jop.ArrayStore opcode) cells locals more s t own_s own_t h k = tt
  gives_up (jop.Inc i by) cells locals more s t own_s own_t h k = tt
  gives_up (jop.If opcode target) cells locals more s t own_s own_t h k = tt
  gives_up (jop.Goto target) cells locals more s t own_s own_t h k = tt
  gives_up (jop.TableSwitch other low targets) cells locals more s t own_s own_t h k = tt
  gives_up (jop.LookupSwitch other cases) cells locals more s t own_s own_t h k = tt
  gives_up (jop.Return opcode) cells locals more s t own_s own_t h k = tt
  gives_up (jop.Static put field) cells locals more s t own_s own_t h k =
      below_itself (cond put [] (field_range (constant field) (parts field.desc).result))
  gives_up (jop.Field put field) cells locals more s t own_s own_t h k =
      below_itself (cond put [] (result_ranges (parts field.desc).result))
  gives_up (jop.Call opcode method) cells locals more s t own_s own_t h k =
      below_itself (result_ranges (parts method.desc).result)
  gives_up (jop.New class) cells locals more s t own_s own_t h k = below_itself (full ∷ [])
  gives_up (jop.NewArray number) cells locals more s t own_s own_t h k = below_itself (full ∷ [])
  gives_up (jop.ANewArray class) cells locals more s t own_s own_t h k = below_itself (full ∷ [])
  gives_up jop.ArrayLength cells locals more s t own_s own_t h k = below_itself (length_range ∷ [])
  gives_up jop.Throw cells locals more s t own_s own_t h k = tt
  gives_up (jop.CheckCast class) cells locals more s t own_s own_t h k = below_itself (full ∷ [])
  gives_up (jop.InstanceOf class) cells locals more s t own_s own_t h k = below_itself (boolean_range ∷ [])

  -- ---- the stack

  pub own_behind : (op : JOp) (cells : List Cell) (locals s : List Span) → All IsWord locals → All IsWord s
      → All IsWord (stack_behind constant op cells locals s)
  own_behind op cells locals s own_l own_s = All-append IsWord (gives constant op cells locals s) (drop (takes op) s)
      (own_gives op cells locals s own_l own_s) (All-drop IsWord (takes op) s own_s)

  behind_up : (op : JOp) (cells : List Cell) (locals more s t : List Span) → All IsWord s → All IsWord t
      → AreBelow locals more → AreBelow s t → AreBelow (stack_behind constant op cells locals s) (stack_behind constant
      op cells more t)
  behind_up op cells locals more s t own_s own_t h k = below_append Within (gives constant op cells locals s)
      (gives constant op cells more t) (drop (takes op) s) (drop (takes op) t) (gives_up op cells locals more s t own_s
      own_t h k) (below_drop Within (takes op) s t k)

  own_stack : (op : JOp) (cells : List Cell) (locals : List Span) (s : StackOf Span) → All IsWord locals
      → IsStack spans s → IsStack spans (stack_after constant op cells locals s)
  own_stack op cells locals Clash own_l own_s = tt
  own_stack op cells locals (Cells s) own_l own_s = own_stack_of spans span_lattice (stack_behind constant op cells
      locals s) (own_behind op cells locals s own_l own_s.own)

  stack_up : (op : JOp) (cells : List Cell) (locals more : List Span) (s t : StackOf Span) → IsStack spans s
      → IsStack spans t → AreBelow locals more → IsStackBelow spans s t
      → IsStackBelow spans (stack_after constant op cells locals s) (stack_after constant op cells more t)
  stack_up op cells locals more s Clash own_s own_t h k = tt
  stack_up op cells locals more Clash (Cells t) own_s own_t h k = absurd k
  stack_up op cells locals more (Cells s) (Cells t) own_s own_t h k =
      stack_of_up spans span_lattice (stack_behind constant op cells locals s) (stack_behind constant op cells more t)
      (behind_up op cells locals more s t own_s.own own_t.own h k)

-- ---- locals

own_stored : (refs : Bool) (s : StackOf Span) → IsStack spans s → IsWord (stored refs s)
own_stored true s own = word_full
own_stored false Clash own = word_full
own_stored false (Cells s) own = own_operand s 0 own.own

stored_word : (s : Span) → IsWord s → Within s full
stored_word s own = own.within

stored_up : (refs : Bool) (s t : StackOf Span) → IsStack spans s → IsStackBelow spans s t
    → Within (stored refs s) (stored refs t)
stored_up true s t own h = within_refl full
stored_up false s Clash own h = stored_word (stored false s) (own_stored false s own)
stored_up false Clash (Cells t) own h = absurd h
stored_up false (Cells s) (Cells t) own h = operand_up s t 0 h

own_set : (n : ℕ) (locals : List Span) (k : ℕ) (x : Span) → IsListOf spans n locals → IsWord x
    → IsListOf spans n (slice_set locals k x)
own_set n locals k x own own_x = record {
  sized = length-set locals k x ∙ own.sized;
  own = All-set IsWord locals k x own_x own.own;
}

pub own_locals : (op : JOp) (n : ℕ) (locals : List Span) (s : StackOf Span) → IsListOf spans n locals → IsStack spans s
    → IsListOf spans n (locals_after op locals s)
own_locals (jop.Store refs k) n locals s own_l own_s = own_set n locals k (stored refs s) own_l
    (own_stored refs s own_s)
own_locals (jop.Inc k by) n locals s own_l own_s = own_set n locals k _ own_l (add_word (operand locals k) (exactly by)
    (own_operand locals k own_l.own) (exactly_word by))
own_locals _ n locals s own_l own_s = own_l

locals_up : (op : JOp) (locals more : List Span) (s t : StackOf Span) → All IsWord locals → All IsWord more
    → IsStack spans s → AreBelow locals more → IsStackBelow spans s t
    → AreBelow (locals_after op locals s) (locals_after op more t)
locals_up (jop.Store refs i) locals more s t own_l own_m own_s h k = zip-slice_set Within locals more i (stored refs s)
    (stored refs t) h (stored_up refs s t own_s k)
locals_up (jop.Inc i by) locals more s t own_l own_m own_s h k = zip-slice_set Within locals more i _ _ h
    (add_monotone (operand locals i) (exactly by) (operand more i) (exactly by) (own_operand locals i own_l)
    (exactly_word by) (own_operand more i own_m) (exactly_word by) (operand_up locals more i h)
    (within_refl (exactly by)))
locals_up _ locals more s t own_l own_m own_s h k = h

-- ---- states

pub own_after : (constant : MemberId → Option ℤ) (op : JOp) (cells : List Cell) (n : ℕ) (x : RangeState)
    → (states n).Own x → (states n).Own (after constant op cells x)
own_after constant op cells n x own = (
  own_stack constant op cells x.locals x.stack own.1.own own.0,
  own_locals op n x.locals x.stack own.1 own.0,
)

pub after_up : (constant : MemberId → Option ℤ) (op : JOp) (cells : List Cell) (n : ℕ) (x y : RangeState)
    → (states n).Own x → (states n).Own y → (states n).Below x y → (states n).Below (after constant op cells x)
    (after constant op cells y)
after_up constant op cells n x y own_x own_y h = (
  stack_up constant op cells x.locals y.locals x.stack y.stack own_x.0
      own_y.0 h.1 h.0,
  locals_up op x.locals y.locals x.stack y.stack own_x.1.own own_y.1.own own_x.0 h.1 h.0,
)
