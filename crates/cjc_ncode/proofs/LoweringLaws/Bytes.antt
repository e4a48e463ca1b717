-- What bytes stand at the offset of a label.
use Rattle.std.proofs.Common.{◌≡◌, ℕ, zero, suc, ◌+◌, ◌-◌, ◌≤◌, refl, ap, sym, subst, ◌∙◌, arith, Bool, true, List, []}
use Rattle.std.proofs.Common.{◌∷◌, ◌++◌, length, drop, append_assoc, zero-add, add-zero}
use Rattle.std.specs.Prelude.{Some, slice_get, nat_le, if◌then◌else◌}
use Rattle.std.proofs.lemmas.Bool.Decides.{nat_tests}
use Rattle.cjc_card_semantics.specs.CapRead.Decode.{Instruction, emitted, size}
use Rattle.cjc_card_semantics.proofs.CapReadDecoding.{length_emitted}
use Rattle.cjc_card_semantics.specs.Machine.Loaded.{Part}
use Rattle.cjc_card_semantics.specs.Machine.Methods.{bytes_from, methods_begin}
use Rattle.cjc_ncode.specs.declared.narrow.NInsn.{NInsn}
use Rattle.cjc_ncode.specs.Lowering.Naming.{Naming}
use Rattle.cjc_ncode.specs.Lowering.Laid.{laid}
use Rattle.cjc_ncode.specs.Lowering.Placed.{bytes_by, bytes_of, insn_size, bytes_before, code_bytes, IsSpellable}
use Rattle.cjc_code.proofs.BytesGets.{get_drop_past}

pub drop_drop : (xs : List ℕ) (n m : ℕ) → drop (n + m) xs ≡ drop m (drop n xs)
drop_drop xs zero m = ap (λ k. drop k xs) (zero-add m)
drop_drop [] (suc n) zero = ap (λ k. drop k []) (add-zero (suc n))
drop_drop [] (suc n) (suc m) = let e : suc n + suc m ≡ suc (n + suc m) = omega arith in ap (λ k. drop k []) e
drop_drop (x ∷ xs) (suc n) m = let e : suc n + m ≡ suc (n + m) = omega arith in ap (λ k. drop k (x ∷ xs)) e
    ∙ drop_drop xs n m

-- further on in Method's info
pub bytes_further : (part : Part) (offset m : ℕ) → methods_begin part ≤ offset → bytes_from part (offset + m)
    ≡ drop m (bytes_from part offset)
bytes_further part offset m h =
    let e : nat_le (methods_begin part) offset ≡ true = grind (arith, nat_tests) in
    let f : nat_le (methods_begin part) (offset + m) ≡ true = grind (arith, nat_tests) in
    let methods = part.method.methods in
    let far : offset + m - methods_begin part ≡ offset - methods_begin part + m = omega arith in
    ap (λ t. if t then drop (offset + m - methods_begin part) methods else []) f
    ∙ ap (λ k. drop k methods) far
    ∙ drop_drop methods (offset - methods_begin part) m
    ∙ sym (ap (λ t. drop m (if t then drop (offset - methods_begin part) methods else [])) e)

-- ---- an instruction

pub spelt_as : (i : Instruction) (s : IsSpellable i) → bytes_of i ≡ emitted s.form i
spelt_as i s = ap (λ o. bytes_by o i) s.writable.form

pub length_spelt : (i : Instruction) → IsSpellable i → length (bytes_of i) ≡ size i
length_spelt i s = ap length (spelt_as i s) ∙ length_emitted s.form i s.writable

module _ (n : Naming) (to : ℕ → ℕ) where
  abbrev pub AllSized : (at : ℕ) → List NInsn → List Bool → Type 0
  AllSized at insns wide = (k : ℕ) (i : NInsn) (w : Bool) → slice_get insns k ≡ Some i → slice_get wide k ≡ Some w
      → length (bytes_of (laid n to (at + bytes_before n insns wide k) w i)) ≡ insn_size n w i

  pub next_sized : (at : ℕ) (i : NInsn) (insns : List NInsn) (w : Bool) (wide : List Bool)
      → AllSized at (i ∷ insns) (w ∷ wide) → AllSized (at + insn_size n w i) insns wide
  next_sized at i insns w wide sized k j v e f =
      let a : at + (insn_size n w i + bytes_before n insns wide k) ≡ at + insn_size n w i + bytes_before n insns wide
      k = omega arith in
      subst (λ x. length (bytes_of (laid n to x v j)) ≡ insn_size n v j) a (sized (suc k) j v e f)

  -- behind the instructions before it stand its bytes
  pub code_at : (at : ℕ) (insns : List NInsn) (wide : List Bool) (behind : List ℕ) → AllSized at insns wide
      → (k : ℕ) (i : NInsn) (w : Bool) → slice_get insns k ≡ Some i → slice_get wide k ≡ Some w → (rest : List ℕ)
      × (drop (bytes_before n insns wide k) (code_bytes n to at insns wide ++ behind)
      ≡ bytes_of (laid n to (at + bytes_before n insns wide k) w i) ++ rest)
  code_at at [] wide behind sized k i w e f = cc
  code_at at (j ∷ insns) [] behind sized k i w e f = cc
  code_at at (j ∷ insns) (v ∷ wide) behind sized zero i w e f =
      let tail = code_bytes n to (at + insn_size n v j) insns wide in
      let here = append_assoc (bytes_of (laid n to at v j)) tail behind in
      let a : j ≡ i = cc in let b : v ≡ w = cc in
      let there : bytes_of (laid n to at v j) ++ (tail ++ behind) ≡ bytes_of (laid n to (at + 0) w i)
      ++ (tail ++ behind) =
      ap (λ x. bytes_of (laid n to at v x) ++ (tail ++ behind)) a
      ∙ ap (λ x. bytes_of (laid n to at x i) ++ (tail ++ behind)) b
      ∙ ap (λ x. bytes_of (laid n to x w i) ++ (tail ++ behind)) (sym (add-zero at)) in
      (tail ++ behind, here ∙ there)
  code_at at (j ∷ insns) (v ∷ wide) behind sized (suc k) i w e f =
      let front = bytes_of (laid n to at v j) in
      let long : length front ≡ insn_size n v j = subst (λ x. length (bytes_of (laid n to x v j)) ≡ insn_size n v j)
      (add-zero at) (sized 0 j v refl refl) in
      let tail = code_bytes n to (at + insn_size n v j) insns wide in
      let m = bytes_before n insns wide k in
      let r = code_at (at + insn_size n v j) insns wide behind (next_sized at j insns v wide sized) k i w e f in
      let a : at + insn_size n v j + m ≡ at + (insn_size n v j + m) = omega arith in (
        r.0,
        ap (λ x. drop (x + m) ((front ++ tail) ++ behind)) (sym long)
            ∙ ap (drop (length front + m)) (append_assoc front tail behind)
            ∙ get_drop_past front (tail ++ behind) m
            ∙ r.1
            ∙ ap (λ x. bytes_of (laid n to x w i) ++ r.0) a,
      )
