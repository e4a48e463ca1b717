-- Method holds the methods of a package.
use Rattle.std.proofs.Common.{◌≡◌, ℕ, zero, suc, ◌+◌, ◌*◌, refl, sym, ap, subst, ◌∙◌, Bool, List, [], ◌∷◌, length}
use Rattle.std.proofs.Common.{length-append}
use Rattle.std.specs.Prelude.{Some, slice_get, sum_by}
use Rattle.std.proofs.lemmas.List.Sums.{sum_by-cons}
use Rattle.cjc_components.specs.Methods.{bytecode_count, first_method, handler_count, header_of, method_size, placed_at}
use Rattle.cjc_components.specs.Methods.{placed_from, placed_methods}
use Rattle.cjc_components.specs.Package.{LaidMethod, Package}
use Rattle.cjc_components.specs.LowerLayout.Forms.{HasForm}
use Rattle.cjc_components.specs.LowerLayout.Handlers.{table_order}
use Rattle.cjc_components.specs.LowerLayout.Sizes as sizes
use Rattle.cjc_ncode.specs.Lowering.Handlers.{handlers_of}
use Rattle.cjc_ncode.specs.Lowering.Laid.{IsFormed}
use Rattle.cjc_ncode.specs.Lowering.Naming.{Naming}
use Rattle.cjc_ncode.specs.Lowering.Package.{all_handlers, AreConsecutive, none, next, HoldsMethods, IsWhole}
use Rattle.cjc_ncode.specs.Lowering.Placed.{Placed, IsLaidOut, bytes_before, code_bytes, first, method_bytes, offset_of}
use Rattle.cjc_ncode.proofs.LoweringLaws.Fetching.{sized}
use Rattle.cjc_ncode.proofs.LoweringLaws.Packed.{code_length}
use Rattle.cjc_ncode.specs.declared.narrow.NCatch.{NCatch}
use Rattle.cjc_ncode.specs.declared.narrow.NInsn.{NInsn}
use Rattle.cjc_token_proof.specs.Tables.Loading.{naming, part}
use Rattle.cjc_token_proof.specs.WrittenCalls.Standing.{IsReady, AreReady}
use Rattle.cjc_token_proof.proofs.WrittenCalls.Extents.{header_there}

-- instructions that are formed have their forms
abbrev pub FormsLaw : Type 0
FormsLaw = (n : Naming) (insn : NInsn) → IsFormed n insn → HasForm insn

-- offsets of labels are those of a layout
abbrev pub OffsetsLaw : Type 0
OffsetsLaw = (n : Naming) (insns : List NInsn) (wide : List Bool) → ((k : ℕ) (insn : NInsn)
    → slice_get insns k ≡ Some insn → HasForm insn) → (label : ℕ) → bytes_before n insns wide label
    ≡ sizes.bytes_before insns wide label

module _ (forms : FormsLaw) (offsets : OffsetsLaw) (n : Naming) where
  -- the bytes of a method's code, as components count them
  pub count_same : (at : ℕ) (m : LaidMethod) → IsLaidOut n (placed_at at m)
      → bytes_before n m.code.insns m.wide (length m.code.insns) ≡ bytecode_count m
  count_same at m laid = offsets n m.code.insns m.wide (λ k insn e. forms n insn (laid.formed k insn e))
      (length m.code.insns)

  size_same : (at : ℕ) (m : LaidMethod) → IsLaidOut n (placed_at at m) → length (method_bytes n (placed_at at m))
      ≡ method_size m
  size_same at m laid =
      let p = placed_at at m in
      let code = code_bytes n (offset_of n p) (first p) m.code.insns m.wide in
      length-append (header_of m) code
      ∙ ap (λ x. length (header_of m) + x) (code_length n (offset_of n p) (first p) m.code.insns m.wide laid.forms
      (sized n p laid) ∙ count_same at m laid)

  consecutive : (at : ℕ) (ms : List LaidMethod) → ((k : ℕ) (m : LaidMethod) → slice_get ms k ≡ Some m → IsReady n m)
      → AreConsecutive n at (placed_from at ms)
  consecutive at [] ready = none
  consecutive at (m ∷ ms) ready =
      let here = ready 0 m refl in
      next refl (subst (λ x. AreConsecutive n (at + x) (placed_from (at + method_size m) ms))
      (sym (size_same at m (here.laid_out at))) (consecutive (at + method_size m) ms (λ k o e. ready (suc k) o e)))

-- ---- handlers

handlers_long : (n : Naming) (to : ℕ → ℕ) (catches : List NCatch) → length (handlers_of n to catches) ≡ length catches
handlers_long n to [] = refl
handlers_long n to (c ∷ catches) = ap suc (handlers_long n to catches)

table_long : (n : Naming) (at : ℕ) (ms : List LaidMethod) → length (all_handlers n (placed_from at ms))
    ≡ sum_by handler_count ms
table_long n at [] = refl
table_long n at (m ∷ ms) =
    let p = placed_at at m in
    let here : length (handlers_of n (offset_of n p) (table_order m.code.catches)) ≡ handler_count m =
    handlers_long n (offset_of n p) (table_order m.code.catches) in
    let rest : length (all_handlers n (placed_from (at + method_size m) ms)) ≡ sum_by handler_count ms =
    table_long n (at + method_size m) ms in
    length-append (handlers_of n (offset_of n p) (table_order m.code.catches))
    (all_handlers n (placed_from (at + method_size m) ms))
    ∙ ap (λ x. x + length (all_handlers n (placed_from (at + method_size m) ms))) here
    ∙ ap (λ x. handler_count m + x) rest
    ∙ sym (sum_by-cons handler_count m ms)

-- ---- each

whole_each : (n : Naming) (at : ℕ) (ms : List LaidMethod) → ((k : ℕ) (m : LaidMethod) → slice_get ms k ≡ Some m
    → IsReady n m) → (j : ℕ) (q : Placed) → slice_get (placed_from at ms) j ≡ Some q → IsWhole n q
whole_each n at [] ready j q e = cc
whole_each n at (m ∷ ms) ready zero q e =
    let here = ready 0 m refl in
    let is : placed_at at m ≡ q = cc in
    subst (IsWhole n) is (record { header = header_there m; code = here.laid_out at; handlers = here.handlers })
whole_each n at (m ∷ ms) ready (suc j) q e = whole_each n (at + method_size m) ms (λ k o h. ready (suc k) o h) j q e

pub methods_held : (forms : FormsLaw) (offsets : OffsetsLaw) (p : Package) → AreReady p
    → HoldsMethods (naming p) (part p) (placed_methods p)
methods_held forms offsets p ready =
    let n = naming p in
    let at = first_method p.methods in
    record {
      there = refl;
      pool = refl;
      bytes = refl;
      table = refl;
      consecutive = subst (λ x. AreConsecutive n (1 + 8 * x) (placed_methods p)) (sym (table_long n at p.methods))
          (consecutive forms offsets n at p.methods ready);
      whole = whole_each n at p.methods ready;
    }
