-- What is written of a whole method is its bytes, and what is marked are the places of its indices.
use Rattle.std.proofs.Common.{◌≡◌, ℕ, suc, ◌+◌, ◌<◌, refl, sym, ap, subst, ◌∙◌, ⊎_elim, arith, Bool, true, false, List}
use Rattle.std.proofs.Common.{[], ◌∷◌, ◌++◌, length, add-zero, zero-add}
use Rattle.std.specs.Prelude.{Option, Some, slice_get, slice_index, nat_lt, if◌then◌else◌}
use Rattle.std.proofs.lemmas.Bool.{cases_lt}
use Rattle.std.proofs.lemmas.Bool.Decides.{nat_tests}
use Rattle.cjc_layout.specs.Bytes.declared.fault.MemberId.{MemberId}
use Rattle.cjc_ncode.specs.declared.narrow.NInsn.{NInsn}
use Rattle.cjc_ncode.specs.declared.narrow.NMethod.{NMethod}
use Rattle.cjc_ncode.specs.declared.narrow.PoolKey.{PoolKey}
use Rattle.cjc_ncode.specs.Lowering.Naming.{Naming}
use Rattle.cjc_ncode.specs.Lowering.Laid.{laid}
use Rattle.cjc_ncode.specs.Lowering.Placed.{bytes_before, bytes_of, code_bytes, first, insn_size, offset_of}
use Rattle.cjc_ncode.specs.Lowering.Placed.{IsSpellable}
use Rattle.cjc_ncode.proofs.LoweringLaws.Places.{before_over}
use Rattle.cjc_layout.specs.declared.layout.Layout.{Layout}
use Rattle.cjc_layout.specs.Forms.{HasForm}
use Rattle.cjc_layout.specs.Layouts.{IsLayout}
use Rattle.cjc_layout.specs.Sizes as Sizes
use Rattle.cjc_layout.proofs.Lowered.{before_same}
use Rattle.cjc_emit.specs.Emitted.{HasNames, IsEmittable, IsNamedBy, code_places, emitted_bytes, header_bytes}
use Rattle.cjc_emit.specs.Emitted.{index_places, insn_places, placed_at}
use Rattle.cjc_emit.specs.Working.{all_marked, all_written, label_at, written}
use Rattle.cjc_emit.proofs.Shifted.{code_shift, laid_shift}
use Rattle.cjc_emit.proofs.Spelled.{spelled}

-- one further place
next_place : (places : List ℕ) (k at size : ℕ) (before : ℕ → ℕ) (j : ℕ) → slice_index places (k + suc j)
    ≡ at + (size + before j) → slice_index places (k + 1 + j) ≡ at + size + before j
next_place places k at size before j e =
    let f : k + 1 + j ≡ k + suc j = omega arith in
    let g : at + (size + before j) ≡ at + size + before j = omega arith in
    ap (slice_index places) f ∙ e ∙ g

module _ (ks : List PoolKey) (token_of : MemberId → Option ℕ) (n : Naming) (names : IsNamedBy ks token_of n) (to : ℕ
    → ℕ) (places : List ℕ) where
  -- an instruction can be written at an offset
  pub record IsReady (at : ℕ) (w : Bool) (i : NInsn) : Type 0 where
    pub form : HasForm i
    pub spellable : IsSpellable (laid n to at w i)
    pub has : HasNames ks token_of i

  code_written : (k at : ℕ) (insns : List NInsn) (wide : List Bool) → ((j : ℕ) → j < length insns
      → slice_index places (k + j) ≡ at + bytes_before n insns wide j) → ((j : ℕ) (i : NInsn) (w : Bool)
      → slice_get insns j ≡ Some i → slice_get wide j ≡ Some w → IsReady (at + bytes_before n insns wide j) w i)
      → all_written ks token_of to places k insns wide ≡ code_bytes n to at insns wide
  code_written k at [] wide there ready = refl
  code_written k at (i ∷ insns) [] there ready = refl
  code_written k at (i ∷ insns) (w ∷ wide) there ready =
      let here : slice_index places k ≡ at = ap (slice_index places) (sym (add-zero k)) ∙ there 0 (omega arith)
      ∙ add-zero at in
      let r = subst (λ a. IsReady a w i) (add-zero at) (ready 0 i w refl refl) in
      let size = insn_size n w i in
      let rest = all_written ks token_of to places (k + 1) insns wide in
      ap (λ a. written ks token_of to a w i ++ rest) here
      ∙ (ap (λ xs. xs ++ rest) (spelled ks token_of n names to at w i r.form r.spellable r.has)
      ∙ ap (λ xs. bytes_of (laid n to at w i) ++ xs) (code_written (k + 1) (at + size) insns wide
      (λ j h. next_place places k at size (bytes_before n insns wide) j (there (suc j) (omega arith)))
      (λ j x v e f. let g : at + (size + bytes_before n insns wide j) ≡ at + size + bytes_before n insns wide j = omega
      arith in subst (λ a. IsReady a v x) g (ready (suc j) x v e f))))

-- where the indices stand
places_marked : (n : Naming) (bytes head : ℕ) (places : List ℕ) (k at : ℕ) (insns : List NInsn) (wide : List Bool)
    → length wide ≡ length insns → ((j : ℕ) → j < length insns → head + slice_index places (k + j)
    ≡ at + bytes_before n insns wide j) → all_marked bytes head places k insns ≡ code_places n bytes at insns wide
places_marked n bytes head places k at [] wide count there = refl
places_marked n bytes head places k at (i ∷ insns) [] count there = absurd (omega arith)
places_marked n bytes head places k at (i ∷ insns) (w ∷ wide) count there =
    let here : head + slice_index places k ≡ at = ap (λ x. head + slice_index places x) (sym (add-zero k))
    ∙ there 0 (omega arith) ∙ add-zero at in
    let size = insn_size n w i in
    ap (λ a. insn_places bytes a i ++ all_marked bytes head places (k + 1) insns) here
    ∙ ap (λ xs. insn_places bytes at i ++ xs) (places_marked n bytes head places (k + 1) (at + size) insns wide
    (omega arith) (λ j h. next j (there (suc j) (omega arith))))
  where
    next : (j : ℕ) → head + slice_index places (k + suc j) ≡ at + (insn_size n w i + bytes_before n insns wide j)
        → head + slice_index places (k + 1 + j) ≡ at + insn_size n w i + bytes_before n insns wide j
    next j e =
        let f : k + 1 + j ≡ k + suc j = omega arith in
        let g : at + (insn_size n w i + bytes_before n insns wide j) ≡ at + insn_size n w i + bytes_before n insns wide
        j = omega arith in
        ap (λ x. head + slice_index places x) f ∙ e ∙ g

module _ (ks : List PoolKey) (token_of : MemberId → Option ℕ) (n : Naming) (m : NMethod) (l : Layout)
    (is : IsLayout m l) (can : IsEmittable ks token_of n m l.wide) where
  abbrev to : ℕ → ℕ
  to k = bytes_before n m.insns l.wide k

  abbrev base : ℕ
  base = first (placed_at 0 m l.wide)

  same_before : (k : ℕ) → bytes_before n m.insns l.wide k ≡ Sizes.bytes_before m.insns l.wide k
  same_before k = before_same n m.insns l.wide can.written.forms k

  place_same : (k : ℕ) → k < length m.insns → slice_index l.places k ≡ to k
  place_same k h = is.places.each k h ∙ sym (same_before k)

  label_same : (k : ℕ) → label_at l.places l.length k ≡ to k
  label_same k = ⊎_elim
      (λ lt. let t : nat_lt k (length l.places) ≡ true = grind (arith, nat_tests) in
      ap (λ b. if b then slice_index l.places k else l.length) t ∙ place_same k (let c = is.places.count
      in omega arith))
      (λ ge. let t : nat_lt k (length l.places) ≡ false = grind (arith, nat_tests) in
      ap (λ b. if b then slice_index l.places k else l.length) t ∙ (is.length ∙ (sym (same_before (length m.insns))
      ∙ sym (before_over n m.insns l.wide k is.wide.legal.count (let c = is.places.count in omega arith)))))
      (cases_lt k (length l.places))

  ready : (k : ℕ) (i : NInsn) (w : Bool) → slice_get m.insns k ≡ Some i → slice_get l.wide k ≡ Some w
      → IsReady ks token_of n can.named to l.places (0 + to k) w i
  ready k i w e f =
      let z : to k ≡ 0 + to k = omega arith in
      let s = subst (λ x. IsSpellable x) (laid_shift n base to (to k) w i) (can.written.spellable k i w e f) in
      subst (λ a. IsReady ks token_of n can.named to l.places a w i) z (record {
        form = can.written.forms k i e;
        spellable = s;
        has = can.names k i e;
      })

  pub whole_written : header_bytes m ++ all_written ks token_of (label_at l.places l.length) l.places 0 m.insns l.wide
      ≡ emitted_bytes n m l.wide
  whole_written =
      let zero_place : (j : ℕ) → j < length m.insns → slice_index l.places (0 + j) ≡ 0 + to j =
      λ j h. ap (slice_index l.places) (zero-add j) ∙ place_same j h ∙ sym (zero-add (to j)) in
      ap (λ f. header_bytes m ++ all_written ks token_of f l.places 0 m.insns l.wide) (λ i k. label_same k i)
      ∙ ap (λ xs. header_bytes m ++ xs) (
      code_written ks token_of n can.named to l.places 0 0 m.insns l.wide zero_place ready
      ∙ (sym (code_shift n base to 0 m.insns l.wide)
      ∙ ap (λ a. code_bytes n (offset_of n (placed_at 0 m l.wide)) a m.insns l.wide) (add-zero base)))

  pub whole_marked : (bytes : ℕ) → all_marked bytes (length (header_bytes m)) l.places 0 m.insns
      ≡ index_places n bytes m l.wide
  whole_marked bytes = places_marked n bytes (length (header_bytes m)) l.places 0 (length (header_bytes m)) m.insns
      l.wide is.wide.legal.count (λ j h. ap (λ x. length (header_bytes m) + slice_index l.places x) (zero-add j)
      ∙ ap (λ x. length (header_bytes m) + x) (place_same j h))
