-- Code whose wide jumps are the least choice has a layout, and can be written where bytes can say it.
use Rattle.std.proofs.Common.{◌≡◌, ℕ, zero, suc, ◌+◌, ◌<◌, ◌≤◌, arith, refl, ap, ◌∙◌, Bool, List, [], ◌∷◌, length}
use Rattle.std.specs.Prelude.{Some, slice_get, slice_index}
use Rattle.cjc_ncode.specs.Lowering.Naming.{Naming}
use Rattle.cjc_ncode.specs.declared.narrow.NInsn.{NInsn}
use Rattle.cjc_ncode.specs.declared.narrow.NMethod.{NMethod}
use Rattle.cjc_int_narrow.proofs.LayoutPlaces.{all_wide}
use Rattle.cjc_check_proof.specs.Layout.Forms.{HasForm}
use Rattle.cjc_check_proof.specs.Layout.Handlers.{handlers_of, table_order}
use Rattle.cjc_check_proof.specs.Layout.Layouts.{IsLayout, IsWhole}
use Rattle.cjc_check_proof.specs.Layout.Legal.{IsLeast}
use Rattle.cjc_check_proof.specs.Layout.Sizes.{bytes_before, code_size}
use Rattle.cjc_check_proof.specs.Layout.declared.layout.Layout.{Layout}
use Rattle.cjc_check_proof.proofs.EmitSaid.{layout_written}
use Rattle.cjc_check_proof.specs.LowerEmit.Emitted.{CanBeWritten, placed_at}
use Rattle.cjc_check_proof.specs.LowerEmit.Said.{CanBeSaid}

-- what a function gives for so many numbers from one on
values_from : (to : ℕ → ℕ) (first count : ℕ) → List ℕ
values_from to first zero = []
values_from to first (suc n) = to first ∷ values_from to (suc first) n

as_many : (to : ℕ → ℕ) (first count : ℕ) → length (values_from to first count) ≡ count
unfolding values_from
as_many to first zero = refl
as_many to first (suc n) = ap suc (as_many to (suc first) n)

value_at : (to : ℕ → ℕ) (first count k : ℕ) → k < count → slice_index (values_from to first count) k ≡ to (first + k)
unfolding values_from
value_at to first zero k lt = absurd (omega (arith, lt))
value_at to first (suc n) zero lt = let e : first ≡ first + 0 = omega arith in ap to e
value_at to first (suc n) (suc k) lt =
    let e : suc first + k ≡ first + suc k = omega arith in
    value_at to (suc first) n k (omega (arith, lt)) ∙ ap to e

module _ (m : NMethod) (wide : List Bool) (least : IsLeast m.insns wide) where
  abbrev to : ℕ → ℕ
  to = bytes_before m.insns wide

  abbrev layout : Layout
  layout = record {
    places = values_from to 0 (length m.insns);
    wide = wide;
    length = code_size m.insns wide;
    handlers = handlers_of to (table_order m.catches);
  }

  is_layout : IsLayout m layout
  is_layout = record {
    wide = least;
    places = record {
      count = as_many to 0 (length m.insns);
      each = λ k lt. value_at to 0 (length m.insns) k lt ∙ (let e : 0 + k ≡ k = omega arith in ap to e);
    };
    length = refl;
    handlers = refl;
  }

  pub laid_written : (n : Naming) → IsWhole m → m.widest ≤ 32767
      → ((k : ℕ) (i : NInsn) → slice_get m.insns k ≡ Some i → HasForm i)
      → ((k : ℕ) (i : NInsn) → slice_get m.insns k ≡ Some i → CanBeSaid n i) → CanBeWritten n (placed_at 0 m wide)
  laid_written n whole few forms said =
      let size = all_wide m.insns wide (length m.insns) in
      let most = whole.size in
      layout_written n m layout 0 is_layout (omega (arith, size, most, few)) forms said
