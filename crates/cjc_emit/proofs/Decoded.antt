-- Decoding what is emitted.
use Rattle.std.proofs.Common.{◌≡◌, ℕ, ◌+◌, ap, ◌∙◌, arith, Bool, List, ◌++◌, length, drop, append_assoc}
use Rattle.std.specs.Prelude.{Some, slice_get}
use Rattle.cjc_layout.specs.CapRead.Decode.{decode}
use Rattle.cjc_ncode.proofs.CapReadDecoding.{decode_emitted}
use Rattle.cjc_ncode.specs.declared.narrow.NInsn.{NInsn}
use Rattle.cjc_ncode.specs.declared.narrow.NMethod.{NMethod}
use Rattle.cjc_ncode.specs.Lowering.Naming.{Naming}
use Rattle.cjc_ncode.specs.Lowering.Laid.{laid}
use Rattle.cjc_ncode.specs.Lowering.Placed.{Placed, bytes_before, bytes_of, code_bytes, first, insn_size, offset_of}
use Rattle.cjc_ncode.proofs.LoweringLaws.Bytes.{code_at, length_spelt, spelt_as}
use Rattle.cjc_ncode.proofs.LoweringLaws.Places.{size_same}
use Rattle.cjc_emit.specs.Emitted.{CanBeWritten, emitted_bytes, header_bytes, placed_at}
use Rattle.cjc_ncode.proofs.BytesGets.{get_drop_past}

sized : (n : Naming) (p : Placed) → CanBeWritten n p → (k : ℕ) (i : NInsn) (w : Bool) → slice_get p.method.insns k
    ≡ Some i → slice_get p.wide k ≡ Some w → length (bytes_of (laid n (offset_of n p) (offset_of n p k) w i))
    ≡ insn_size n w i
sized n p whole k i w e f = length_spelt (laid n (offset_of n p) (offset_of n p k) w i) (whole.spellable k i w e f)
    ∙ size_same n (offset_of n p) (offset_of n p k) w i

pub code_decoded : (n : Naming) (m : NMethod) (wide : List Bool) (behind : List ℕ) → CanBeWritten n (placed_at 0 m wide)
    → (k : ℕ) (i : NInsn) (w : Bool) → slice_get m.insns k ≡ Some i → slice_get wide k ≡ Some w
    → decode (drop (offset_of n (placed_at 0 m wide) k) (emitted_bytes n m wide ++ behind))
    ≡ Some (laid n (offset_of n (placed_at 0 m wide)) (offset_of n (placed_at 0 m wide) k) w i)
code_decoded n m wide behind whole k i w e f =
    let p = placed_at 0 m wide in
    let header = header_bytes m in
    let code = code_bytes n (offset_of n p) (first p) m.insns wide in
    let before = bytes_before n m.insns wide k in
    let raw = laid n (offset_of n p) (offset_of n p k) w i in
    let s = whole.spellable k i w e f in
    let r = code_at n (offset_of n p) (first p) m.insns wide behind (sized n p whole) k i w e f in
    let far : offset_of n p k ≡ length header + before = omega arith in
    ap (λ x. decode (drop x ((header ++ code) ++ behind))) far
    ∙ (ap (λ xs. decode (drop (length header + before) xs)) (append_assoc header code behind)
    ∙ (ap decode (get_drop_past header (code ++ behind) before)
    ∙ (ap decode r.1
    ∙ (ap (λ xs. decode (xs ++ r.0)) (spelt_as raw s)
    ∙ decode_emitted s.form raw r.0 s.writable))))
