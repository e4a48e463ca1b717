-- Method.
use Rattle.std.proofs.Common.{◌≡◌, ℕ, zero, suc, ◌+◌, ◌-◌, ◌^◌, ◌<◌, ◌≤◌, refl, ap, Bool, true, false, List, [], ◌∷◌}
use Rattle.std.proofs.Common.{◌++◌, length, length-append, cond, arith, Option, Some, None, ℤ}
use Rattle.std.specs.Prelude.{sum_by, unwrap_or, nat_lt, slice_get}
use Rattle.std.specs.List.{AllByRecursion, position_or_len}
use Rattle.std.proofs.lemmas.Bool.Decides.{nat_tests}
use Rattle.std.proofs.lemmas.List.Sums.{sum_by-cons}
use Rattle.cjc_capread.specs.Decode.{Instruction, before_table, in_table, operand_bytes, operands_bytes}
use Rattle.cjc_capread.specs.Decode as Decode
use Rattle.cjc_capread.specs.Opcodes.{Operand, Byte, Signed1, Signed2, Signed4, Index1, Index2, Form, form, width}
use Rattle.cjc_capread.specs.Opcodes.{widths}
use Rattle.cjc_pool.specs.CapWrite.Fits.{HandlerFits, MethodFits}
use Rattle.cjc_pool.specs.CapWrite.Method.{method_bytes}
use Rattle.cjc_components.proofs.CapWriteLengths.{method_length}
use Rattle.cjc_pool.specs.Narrow.Keys.Index.{index_of}
use Rattle.cjc_pool.specs.Layout.Handlers.{table_order}
use Rattle.cjc_pool.specs.Layout.Sizes as Sizes
use Rattle.cjc_components.proofs.LayoutLowered.{before_same}
use Rattle.cjc_ncode.specs.Lowering.Handlers.{handlers_of}
use Rattle.cjc_ncode.specs.Lowering.Laid.{class_index, laid}
use Rattle.cjc_ncode.proofs.LoweringLaws.Places.{size_same}
use Rattle.cjc_ncode.specs.Lowering.Package.{all_bytes, all_handlers}
use Rattle.cjc_ncode.specs.Lowering.Placed.{bytes_before, bytes_by, bytes_of, code_bytes, first, insn_size, offset_of}
use Rattle.cjc_ncode.specs.declared.narrow.NCatch.{NCatch}
use Rattle.cjc_ncode.specs.declared.narrow.NInsn.{NInsn}
use Rattle.cjc_ncode.specs.declared.narrow.PoolKey.{PoolKey}
use Rattle.cjc_ncode.specs.declared.narrow.PoolKey.TheVariants as keys
use Rattle.cjc_ncode.specs.PoolOrder.{same_key}
use Rattle.cjc_components.specs.Components.{method}
use Rattle.cjc_components.specs.Methods.{bytecode_count, first_method, handler_count, header_of, method_size, placed_at}
use Rattle.cjc_components.specs.Methods.{placed_from, placed_methods}
use Rattle.cjc_components.specs.Names.{names}
use Rattle.cjc_components.specs.Limits.{widest_method}
use Rattle.cjc_components.specs.Package.{LaidMethod, Package, pool}
use Rattle.cjc_check_proof.specs.Limits.Premises.{IsLimited, MethodIsShort}
use Rattle.cjc_check_proof.proofs.LimitsLaws.Limits.{entries_few, method_counted, sizes_kept}
use Rattle.cjc_check_proof.proofs.LimitsLaws.Lists.{all_of}
use Rattle.cjc_check_proof.proofs.LimitsLaws.Offsets.{code_few, methods_short, widest_short}
use Rattle.cjc_bytes.proofs.Quantified.{all_both}

-- ---- no instruction has more bytes than its size

operand_few : (k : Operand) (z : ℤ) → length (operand_bytes k z) ≤ width k
operand_few Byte z = omega arith
operand_few Signed1 z = omega arith
operand_few Signed2 z = omega arith
operand_few Signed4 z = omega arith
operand_few Index1 z = omega arith
operand_few Index2 z = omega arith

operands_few : (ks : List Operand) (zs : List ℤ) → length (operands_bytes ks zs) ≤ widths ks
operands_few [] zs = omega arith
operands_few (k ∷ ks) [] = omega arith
operands_few (k ∷ ks) (z ∷ zs) =
    let one = operand_few k z in
    let rest = operands_few ks zs in
    let l = length-append (operand_bytes k z) (operands_bytes ks zs) in
    omega (arith, one, rest, l)

bytes_few_by : (o : Option Form) (i : Instruction) → length (bytes_by o i) ≤ Decode.size_by o i
bytes_few_by None i = omega arith
bytes_few_by (Some f) i =
    let a = operands_few (before_table f) i.operands in
    let b = operands_few (in_table f i.operands) i.table in
    let l = length-append (operands_bytes (before_table f) i.operands) (operands_bytes (in_table f i.operands) i.table)
    in
    omega (arith, a, b, l)

-- ---- offsets in code

before_all : (insns : List NInsn) (wide : List Bool) (k : ℕ) → Sizes.bytes_before insns wide k ≤ Sizes.code_size insns
    wide
before_all insns wide zero = omega arith
before_all [] wide (suc k) = omega arith
before_all (i ∷ insns) [] (suc k) = omega arith
before_all (i ∷ insns) (w ∷ wide) (suc k) = let r = before_all insns wide k in omega (arith, r)

index_low : (ks : List PoolKey) (key : PoolKey) → unwrap_or (index_of ks key) 0 ≤ length ks
index_low ks key = by (nat_lt (position_or_len (same_key key) ks) (length ks)) refl
  where
    by : (b : Bool) → nat_lt (position_or_len (same_key key) ks) (length ks) ≡ b
        → unwrap_or (cond b (Some (position_or_len (same_key key) ks)) None) 0 ≤ length ks
    by true e = grind (arith, nat_tests, e)
    by false e = omega arith

catch_low : (p : Package) → length (pool p) ≤ 16383 → (c : Option (List ℕ)) → class_index (names p) c < 2 ^ 16
catch_low p few None = omega arith
catch_low p few (Some c) = let le = index_low (pool p) (keys.Class c) in omega (arith, few, le)

module _ (p : Package) where
  code_short : (to : ℕ → ℕ) (at : ℕ) (insns : List NInsn) (wide : List Bool)
      → length (code_bytes (names p) to at insns wide) ≤ bytes_before (names p) insns wide (length insns)
  code_short to at [] wide = omega arith
  code_short to at (i ∷ insns) [] = omega arith
  code_short to at (i ∷ insns) (w ∷ wide) =
      let one = bytes_few_by (form (let x = laid (names p) to at w i in x.opcode)) (laid (names p) to at w i) in
      let same = size_same (names p) to at w i in
      let rest = code_short to (at + insn_size (names p) w i) insns wide in
      let l = length-append (bytes_of (laid (names p) to at w i)) (code_bytes (names p) to (at + insn_size (names p) w
      i) insns wide) in
      omega (arith, one, same, rest, l)

  module _ (few : length (pool p) ≤ 16383) where
    handlers_by : (start low : ℕ) (before : ℕ → ℕ) → ((k : ℕ) → before k ≤ low) → low ≤ 32767 → start + low ≤ 65535
        → (cs : List NCatch) → AllByRecursion HandlerFits (handlers_of (names p) (λ k. start + before k) cs)
    handlers_by start low before each short room [] = tt
    handlers_by start low before each short room (c ∷ cs) = (
      record {
        start = (let a = each c.start in let lt : start + before c.start < 2 ^ 16 = omega (arith, a, room) in lt);
        length = (let a = each c.end in let lt : (start + before c.end) - (start + before c.start) < 0x8000 = omega
            (arith, a, short) in lt);
        handler = (let a = each c.target in let lt : start + before c.target < 2 ^ 16 = omega (arith, a, room) in lt);
        catch_index = catch_low p few c.class;
      },
      handlers_by start low before each short room cs,
    )

    before_low : (m : LaidMethod) → MethodIsShort m → (k : ℕ) → bytes_before (names p) (let code = m.code
        in code.insns) m.wide k ≤ bytecode_count m
    before_low m s k = let code = m.code in
        let same = before_same (names p) code.insns m.wide s.forms k in
        let le = before_all code.insns m.wide k in
        omega (arith, same, le)

    handlers_fit : (at : ℕ) (ms : List LaidMethod) → AllByRecursion MethodIsShort ms
        → at + sum_by method_size ms ≤ 65535 → AllByRecursion HandlerFits (all_handlers (names p) (placed_from at ms))
    handlers_fit at [] all room = tt
    handlers_fit at (m ∷ ms) all room = let code = m.code in
        let l = sum_by-cons method_size m ms in
        let count = code_few m all.0 in
        let s = all.0 in
        let limit = s.short in
        all_both HandlerFits (handlers_of (names p) (offset_of (names p) (placed_at at m)) (table_order code.catches))
        (all_handlers (names p) (placed_from (at + method_size m) ms))
        (handlers_by (at + length (header_of m)) (bytecode_count m) (bytes_before (names p) code.insns m.wide)
        (before_low m all.0) (omega (arith, count, limit)) (omega (arith, room, l)) (table_order code.catches))
        (handlers_fit (at + method_size m) ms all.1 (omega (arith, room, l)))

    bytes_short : (at : ℕ) (ms : List LaidMethod) → AllByRecursion MethodIsShort ms
        → length (all_bytes (names p) (placed_from at ms)) ≤ sum_by method_size ms
    bytes_short at [] all = omega arith
    bytes_short at (m ∷ ms) all = let code = m.code in
        let l = sum_by-cons method_size m ms in
        let bytes = code_bytes (names p) (offset_of (names p) (placed_at at m)) (first (placed_at at m)) code.insns
        m.wide in
        let one = code_short (offset_of (names p) (placed_at at m)) (first (placed_at at m)) code.insns m.wide in
        let low = before_low m all.0 (length code.insns) in
        let rest = bytes_short (at + method_size m) ms all.1 in
        let a = length-append (header_of m) bytes in
        let b = length-append (header_of m ++ bytes) (all_bytes (names p) (placed_from (at + method_size m) ms)) in
        omega (arith, l, one, low, rest, a, b)

  each_handler : (to : ℕ → ℕ) (cs : List NCatch) → length (handlers_of (names p) to cs) ≡ length cs
  each_handler to [] = refl
  each_handler to (c ∷ cs) = ap suc (each_handler to cs)

  handlers_many : (at : ℕ) (ms : List LaidMethod) → length (all_handlers (names p) (placed_from at ms))
      ≡ sum_by handler_count ms
  handlers_many at [] = refl
  handlers_many at (m ∷ ms) = let code = m.code in
      let here = handlers_of (names p) (offset_of (names p) (placed_at at m)) (table_order code.catches) in
      let l = sum_by-cons handler_count m ms in
      let one = each_handler (offset_of (names p) (placed_at at m)) (table_order code.catches) in
      let rest = handlers_many (at + method_size m) ms in
      let a = length-append here (all_handlers (names p) (placed_from (at + method_size m) ms)) in
      omega (arith, l, one, rest, a)

-- all of Method, where it is short at the widest, whether or not another component is too large
pub widest_low : (p : Package) → length (pool p) ≤ 16383 → ((k : ℕ) (m : LaidMethod) → slice_get p.methods k ≡ Some m
    → MethodIsShort m) → widest_method p ≤ 65535 → length (method_bytes (method p)) ≤ 65535
widest_low p few each all =
    let long = method_length (method p) in
    let same = handlers_many p (first_method p.methods) p.methods in
    let bytes = bytes_short p few (first_method p.methods) p.methods (all_of MethodIsShort p.methods each) in
    let room = widest_short p each all in
    omega (arith, long, same, bytes, room)

module _ (p : Package) (h : IsLimited p) where
  all_short : AllByRecursion MethodIsShort p.methods
  all_short = all_of MethodIsShort p.methods h.methods

  pub method_fits : MethodFits (method p)
  method_fits = record {
    count = (let few = h.few_handlers in let same = handlers_many p (first_method p.methods) p.methods
        in let lt : length (all_handlers (names p) (placed_methods p)) < 2 ^ 8 = omega (arith, few, same) in lt);
    handlers = handlers_fit p (entries_few p h.limits) (first_method p.methods) p.methods all_short (methods_short p h);
  }

  pub method_low : length (method_bytes (method p)) ≤ 65535
  method_low = widest_low p (entries_few p h.limits) h.methods (method_counted p (sizes_kept p h.limits))
