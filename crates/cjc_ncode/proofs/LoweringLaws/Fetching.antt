-- The instruction of a label is fetched at its offset.
use Rattle.std.proofs.Common.{◌≡◌, ℕ, suc, ◌+◌, refl, ap, sym, ◌∙◌, arith, Bool, List, ◌++◌, length, drop, append_assoc}
use Rattle.std.specs.Prelude.{Option, Some, None, option_map, slice_get}
use Rattle.cjc_code.specs.Bytes.declared.fault.MemberId.{MemberId}
use Rattle.cjc_card_semantics.specs.CapRead.Decode.{size}
use Rattle.cjc_card_semantics.specs.Bytecode.Machine.{Fetched}
use Rattle.cjc_card_semantics.specs.Machine.Loaded.{Part}
use Rattle.cjc_card_semantics.specs.Machine.Methods.{bytes_from, fetched_as, fetch}
use Rattle.cjc_card_semantics.proofs.MachineLaws.Fetching.{fetch_written}
use Rattle.cjc_ncode.specs.declared.narrow.NInsn.{NInsn}
use Rattle.cjc_ncode.specs.ByLabel
use Rattle.cjc_ncode.specs.Lowering.Naming.{Naming, on_card}
use Rattle.cjc_ncode.specs.Lowering.Laid.{laid}
use Rattle.cjc_ncode.specs.Lowering.Handlers.{IsAscending}
use Rattle.cjc_ncode.specs.Lowering.Placed.{Placed, bytes_of, insn_size, bytes_before, code_bytes, first, offset_of}
use Rattle.cjc_ncode.specs.Lowering.Placed.{code_of, fetched_on_card, IsLaidOut, Stands}
use Rattle.cjc_ncode.proofs.LoweringLaws.Places.{size_same, before_next, before_grows}
use Rattle.cjc_ncode.proofs.LoweringLaws.Places.{before_ascends}
use Rattle.cjc_ncode.proofs.LoweringLaws.Bytes.{bytes_further, spelt_as, length_spelt, code_at}
use Rattle.cjc_ncode.proofs.LoweringLaws.Operations.{operation_laid}
use Rattle.cjc_code.proofs.BytesGets.{get_below, get_inside, get_drop_past}

module _ (n : Naming) (p : Placed) (whole : IsLaidOut n p) where
  -- labels stand at greater and greater offsets
  pub labels_ascend : IsAscending (length p.method.insns) (offset_of n p)
  labels_ascend a b lt le = let up = before_ascends n p.method.insns p.wide whole.forms a b lt le in omega arith

  pub sized : (k : ℕ) (i : NInsn) (w : Bool) → slice_get p.method.insns k ≡ Some i → slice_get p.wide k ≡ Some w
      → length (bytes_of (laid n (offset_of n p) (offset_of n p k) w i)) ≡ insn_size n w i
  sized k i w e f = length_spelt (laid n (offset_of n p) (offset_of n p k) w i) (whole.spellable k i w e f)
      ∙ size_same n (offset_of n p) (offset_of n p k) w i

  module _ (part : Part) (stands : Stands n p part) where
    -- the bytes at the offset of a label
    bytes_at : (k : ℕ) (i : NInsn) (w : Bool) → slice_get p.method.insns k ≡ Some i → slice_get p.wide k ≡ Some w
        → (rest : List ℕ) × (bytes_from part (offset_of n p k) ≡ bytes_of (laid n (offset_of n p) (offset_of n p k) w i)
        ++ rest)
    bytes_at k i w e f =
        let m = bytes_before n p.method.insns p.wide k in
        let code = code_bytes n (offset_of n p) (first p) p.method.insns p.wide in
        let r = code_at n (offset_of n p) (first p) p.method.insns p.wide stands.behind sized k i w e f in
        let far : offset_of n p k ≡ p.offset + (length p.header + m) = omega arith in (
          r.0,
          ap (bytes_from part) far
              ∙ bytes_further part p.offset (length p.header + m) stands.after_handlers
              ∙ ap (drop (length p.header + m)) stands.bytes
              ∙ ap (drop (length p.header + m)) (append_assoc p.header code stands.behind)
              ∙ get_drop_past p.header (code ++ stands.behind) m
              ∙ r.1,
        )

    fetched_at : (k : ℕ) (i : NInsn) (w : Bool) → slice_get p.method.insns k ≡ Some i → slice_get p.wide k ≡ Some w
        → fetch n.loaded (code_of n p) (offset_of n p k)
        ≡ Some (record { operation = on_card n (offset_of n p) (ByLabel.operation i); next = offset_of n p (k + 1) })
    fetched_at k i w e f =
        let raw = laid n (offset_of n p) (offset_of n p k) w i in
        let s = whole.spellable k i w e f in
        let r = bytes_at k i w e f in
        let same_size = size_same n (offset_of n p) (offset_of n p k) w i in
        let next = before_next n p.method.insns p.wide k i w e f in
        let inside = get_below p.method.insns k i e in
        let over = before_grows n p.method.insns p.wide (suc k) (length p.method.insns) (omega arith) in
        let one : k + 1 ≡ suc k = omega arith in
        let then : offset_of n p k + size raw ≡ offset_of n p (k + 1) =
        next_offset k (size raw) (ap (λ x. bytes_before n p.method.insns p.wide x) one ∙ next
        ∙ ap (λ x. bytes_before n p.method.insns p.wide k + x) (sym same_size)) in
        fetch_written n.loaded (code_of n p) (offset_of n p k) part s.form raw r.0 stands.there (omega arith)
        (omega arith) (r.1 ∙ ap (λ x. x ++ r.0) (spelt_as raw s)) s.writable
        ∙ ap (λ pool. Some (fetched_as n.loaded n.part pool (offset_of n p k) raw)) stands.pool
        ∙ ap (λ x. Some (record { operation = x; next = offset_of n p k + size raw })) (operation_laid n (offset_of n p)
        (offset_of n p k) w i (whole.formed k i e))
        ∙ ap (λ x. Some (record { operation = on_card n (offset_of n p) (ByLabel.operation i); next = x })) then
      where
        next_offset : (k size : ℕ) → bytes_before n p.method.insns p.wide (k + 1) ≡ bytes_before n p.method.insns p.wide
            k + size → offset_of n p k + size ≡ offset_of n p (k + 1)
        next_offset k size e = omega arith

    -- what narrow code fetches, the card fetches
    pub method_fetched : (k : ℕ) (i : Fetched (List ℕ) MemberId MemberId ByLabel.Callee) → ByLabel.fetch p.method k
        ≡ Some i → fetch n.loaded (code_of n p) (offset_of n p k) ≡ Some (fetched_on_card n p i)
    method_fetched k i e = by (slice_get p.method.insns k) refl
      where
        by : (o : Option NInsn) → slice_get p.method.insns k ≡ o → fetch n.loaded (code_of n p) (offset_of n p k)
            ≡ Some (fetched_on_card n p i)
        by None h = let clash : None ≡ Some i =
            sym (ap (option_map (λ insn. record { operation = ByLabel.operation insn; next = k + 1 })) h) ∙ e in cc
        by (Some insn) h =
            let found : Some (record { operation = ByLabel.operation insn; next = k + 1 }) ≡ Some i =
            sym (ap (option_map (λ insn. record { operation = ByLabel.operation insn; next = k + 1 })) h) ∙ e in
            let w = get_inside p.wide k (let lt = get_below p.method.insns k insn h in let same = whole.forms
            in omega arith) in
            fetched_at k insn w.0 h w.1 ∙ ap (option_map (fetched_on_card n p)) found
