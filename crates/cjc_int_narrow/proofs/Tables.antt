-- What tables say before instructions, one after the other.
use Rattle.std.proofs.Common.{◌≡◌, ℕ, ◌+◌, ◌≤◌, sym, ap, ◌∙◌, List, [], ◌∷◌, ◌++◌, length, map, drop}
use Rattle.std.proofs.Common.{slice_get, Option, Some, None, append_assoc, append-nil}
use Rattle.std.specs.Prelude.{option_map}
use Rattle.std.proofs.lemmas.List.{drop_all}
use Rattle.std.proofs.lemmas.Option.{get_or_from_slice_get}
use Rattle.cjc_ncode.proofs.BytesGets.{drop_at}
use Rattle.cjc_ncode.proofs.BytesLists.{map_append}
use Rattle.cjc_int_mode.specs.Bytecode.declared.insn.JInsn.{JInsn}
use Rattle.cjc_ncode.specs.IntCode.IntCode.{Before as TableRow}
use Rattle.cjc_narrow.specs.Types.declared.state.State.{State}
use Rattle.cjc_int_mode.specs.Intervals.Frames.{RangeState}
use Rattle.cjc_int_mode.specs.Written.{before}
use Rattle.cjc_int_narrow.specs.declared.known.Before.{Before}
use Rattle.cjc_int_narrow.specs.Reached.{known}
use Rattle.cjc_int_narrow.specs.Select.{rows_before}

module _ (ranges : List (Option RangeState)) (insns : List JInsn) (types : List (Option State)) (k : ℕ) where
  module _ (i : JInsn) (t : Option State) (x : Option RangeState) (is_insn : slice_get insns k ≡ Some i)
      (is_type : slice_get types k ≡ Some t) (is_range : slice_get ranges k ≡ Some x) where
    pub rows_next : (rows after : List (Option Before)) (b : Option Before) (total : List (Option TableRow))
        → after ≡ rows ++ b ∷ [] → option_map known b ≡ option_map (λ s. before i.op s x) t
        → map (option_map known) rows ++ rows_before ranges k (drop k insns) (drop k types) ≡ total
        → map (option_map known) after ++ rows_before ranges (k + 1) (drop (k + 1) insns) (drop (k + 1) types) ≡ total
    rows_next rows after b total is is_known so_far =
        let rest = rows_before ranges (k + 1) (drop (k + 1) insns) (drop (k + 1) types) in
        let here : Option RangeState → Option TableRow = λ r. option_map (λ s. before i.op s r) t in
        ap (λ (bs : List (Option Before)). map (option_map known) bs ++ rest) is
        ∙ ap (λ front. front ++ rest) (map_append (option_map known) rows (b ∷ []))
        ∙ append_assoc (map (option_map known) rows) (option_map known b ∷ []) rest
        ∙ ap (λ (row : Option TableRow). map (option_map known) rows ++ row ∷ rest) is_known
        ∙ ap (λ (r : Option RangeState). map (option_map known) rows ++ here r ∷ rest)
        (sym (get_or_from_slice_get ranges k x None is_range))
        ∙ ap (λ (ts : List (Option State)). map (option_map known) rows ++ rows_before ranges k (i ∷ drop (k + 1) insns)
        ts) (sym (drop_at types k t is_type))
        ∙ ap (λ (xs : List JInsn). map (option_map known) rows ++ rows_before ranges k xs (drop k types))
        (sym (drop_at insns k i is_insn))
        ∙ so_far

  pub rows_end : (rows : List (Option TableRow)) (total : List (Option TableRow)) → length insns ≤ k
      → rows ++ rows_before ranges k (drop k insns) (drop k types) ≡ total → rows ≡ total
  rows_end rows total le so_far =
      sym (append-nil rows) ∙ ap (λ (xs : List JInsn). rows ++ rows_before ranges k xs (drop k types))
      (sym (drop_all k insns le)) ∙ so_far
