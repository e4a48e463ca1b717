-- What is laid for a package does not rest on what is loaded beside it.
use Rattle.std.proofs.Common.{◌≡◌, ℕ, zero, suc, ◌+◌, ◌-◌, refl, ap, subst, ◌∙◌, Bool, not, List, [], ◌∷◌, ◌++◌}
use Rattle.std.specs.Prelude.{Option, Some, None, length, ℤ, pos, ◌+ℤ◌, ◌-ℤ◌}
use Rattle.cjc_card_semantics.specs.Bytecode.Meanings.{Meaning, meaning}
use Rattle.cjc_card_semantics.specs.Bytecode.Meanings as means
use Rattle.cjc_card_semantics.specs.CapRead.Decode.{Instruction, size}
use Rattle.cjc_ncode.specs.Lowering.Laid.{class_index, distance, laid, matches, offsets, switch_as, untabled}
use Rattle.cjc_ncode.specs.Lowering.Placed.{HandlersStand, Placed, bytes_before, first, insn_size}
use Rattle.cjc_ncode.specs.Lowering.Placed.{offset_of}
use Rattle.cjc_ncode.specs.Lowering.Handlers.{AllElsewhere, handler_of, handlers_of, meets_any}
use Rattle.cjc_ncode.specs.declared.narrow.NCatch.{NCatch}
use Rattle.cjc_verify.specs.CapRead.declared.tree.Handler.{Handler}
use Rattle.cjc_ncode.specs.declared.narrow.NCase.{NCase}
use Rattle.cjc_ncode.specs.declared.narrow.NInsn.{NInsn}
use Rattle.cjc_ncode.specs.declared.narrow.NInsn.TheVariants as insns
use Rattle.cjc_verified_proof.specs.Components.Names.{names}
use Rattle.cjc_verified_proof.specs.Components.Package.{Package}
use Rattle.cjc_verified_proof.specs.TokenProof.Tables.Loading.{naming, part}

module _ (p : Package) where
  index_alike : (class : Option (List ℕ)) → class_index (naming p) class ≡ class_index (names p) class
  index_alike None = refl
  index_alike (Some c) = refl

  matches_alike : (to : ℕ → ℕ) (at : ℕ) (cases : List NCase) → matches (naming p) to at cases
      ≡ matches (names p) to at cases
  matches_alike to at [] = refl
  matches_alike to at (c ∷ cases) = ap (λ (zs : List ℤ). c.value ∷ distance at (to c.target) ∷ zs) (matches_alike to at
      cases)

  offsets_alike : (to : ℕ → ℕ) (at : ℕ) (cases : List NCase) → offsets (naming p) to at cases
      ≡ offsets (names p) to at cases
  offsets_alike to at [] = refl
  offsets_alike to at (c ∷ cases) = ap (λ (zs : List ℤ). distance at (to c.target) ∷ zs) (offsets_alike to at cases)

  abbrev matched : (to : ℕ → ℕ) (at op other : ℕ) (cases : List NCase) (table : List ℤ) → Instruction
  matched to at op other cases table = record {
    opcode = op;
    operands = distance at (to other) ∷ pos (length cases) ∷ [];
    table = table;
  }

  abbrev ranged : (to : ℕ → ℕ) (at op other : ℕ) (low : ℤ) (cases : List NCase) (table : List ℤ) → Instruction
  ranged to at op other low cases table = record {
    opcode = op;
    operands = distance at (to other) ∷ low ∷ ((low +ℤ pos (length cases)) -ℤ pos 1) ∷ [];
    table = table;
  }

  by_matches : (to : ℕ → ℕ) (at op other : ℕ) (cases : List NCase)
      → matched to at op other cases (matches (naming p) to at cases) ≡ matched to at op other cases (matches
      (names p) to at cases)
  by_matches to at op other cases = ap (matched to at op other cases) (matches_alike to at cases)

  switch_alike : (m : Meaning) (to : ℕ → ℕ) (at op other : ℕ) (low : ℤ) (cases : List NCase)
      → switch_as (naming p) to m at op other low cases ≡ switch_as (names p) to m at op other low cases
  switch_alike (means.Ranged is_int) to at op other low cases = ap (ranged to at op other low cases) (offsets_alike
      to at
      cases)
  switch_alike (means.Plain c) to at op other low cases = by_matches to at op other cases
  switch_alike (means.Branches c) to at op other low cases = by_matches to at op other cases
  switch_alike (means.Paired c) to at op other low cases = by_matches to at op other cases
  switch_alike (means.Touches c) to at op other low cases = by_matches to at op other cases
  switch_alike (means.Uses c) to at op other low cases = by_matches to at op other cases
  switch_alike means.CallsInterface to at op other low cases = by_matches to at op other cases
  switch_alike means.MakesNumbers to at op other low cases = by_matches to at op other cases
  switch_alike means.Casts to at op other low cases = by_matches to at op other cases
  switch_alike means.Asks to at op other low cases = by_matches to at op other cases
  switch_alike means.Nothing to at op other low cases = by_matches to at op other cases

  laid_alike : (to : ℕ → ℕ) (at : ℕ) (wide : Bool) (i : NInsn) → laid (naming p) to at wide i
      ≡ laid (names p) to at wide i
  laid_alike to at wide (insns.Op op) = refl
  laid_alike to at wide (insns.Push op value) = refl
  laid_alike to at wide (insns.Local op index) = refl
  laid_alike to at wide (insns.Inc op index by) = refl
  laid_alike to at wide (insns.Words op high low) = refl
  laid_alike to at wide (insns.Jump op target) = refl
  laid_alike to at wide (insns.Switch op other low cases) = switch_alike (meaning op) to at op other low cases
  laid_alike to at wide (insns.Named op key) = refl
  laid_alike to at wide (insns.Interface nargs m) = refl
  laid_alike to at wide (insns.NewArray kind) = refl
  laid_alike to at wide (insns.TypeTest op kind class) = ap (λ (k : ℕ). untabled op (pos kind ∷ pos k ∷ []))
      (index_alike class)

  before_alike : (is : List NInsn) (wide : List Bool) (k : ℕ) → bytes_before (naming p) is wide k
      ≡ bytes_before (names p) is wide k
  before_alike is wide zero = refl
  before_alike [] wide (suc k) = refl
  before_alike (i ∷ is) [] (suc k) = refl
  before_alike (i ∷ is) (w ∷ wide) (suc k) = ap (λ (z : ℕ). z + bytes_before (naming p) is wide k)
      (ap size (laid_alike (λ label. 0) 0 w i)) ∙ ap (λ (z : ℕ). insn_size (names p) w i + z) (before_alike is wide k)

  -- labels stand at the same offsets
  pub offset_alike : (q : Placed) (k : ℕ) → offset_of (naming p) q k ≡ offset_of (names p) q k
  offset_alike q k = ap (λ (z : ℕ). first q + z) (before_alike (let m = q.method in m.insns) q.wide k)

  -- ---- handlers

  abbrev as_handler : (stop : Bool) (start end target index : ℕ) → Handler
  as_handler stop start end target index = record {
    start = start;
    stop = stop;
    length = end - start;
    handler = target;
    catch_index = index;
  }

  module _ (to other : ℕ → ℕ) (same : (k : ℕ) → to k ≡ other k) where
    handler_alike : (c : NCatch) (later : List NCatch) → handler_of (naming p) to c later ≡ handler_of (names p) other c
        later
    handler_alike c later =
        let stop = not (meets_any c later) in
        ap (λ (z : ℕ). as_handler stop z (to c.end) (to c.target) (class_index (naming p) c.class)) (same c.start)
        ∙ ap (λ (z : ℕ). as_handler stop (other c.start) z (to c.target) (class_index (naming p) c.class)) (same c.end)
        ∙ ap (λ (z : ℕ). as_handler stop (other c.start) (other c.end) z (class_index (naming p) c.class)) (same
        c.target)
        ∙ ap (as_handler stop (other c.start) (other c.end) (other c.target)) (index_alike c.class)

    handlers_alike : (cs : List NCatch) → handlers_of (naming p) to cs ≡ handlers_of (names p) other cs
    handlers_alike [] = refl
    handlers_alike (c ∷ cs) = ap (λ (h : Handler). h ∷ handlers_of (naming p) to cs) (handler_alike c cs)
        ∙ ap (λ (hs : List Handler). handler_of (names p) other c cs ∷ hs) (handlers_alike cs)

  -- So handlers stand, whatever is loaded.
  pub stand_alike : (q : Placed) → HandlersStand (naming p) q (part p) → HandlersStand (names p) q (part p)
  stand_alike q s =
      let m = q.method in
      let end = offset_alike q (length m.insns) in
      record {
        earlier = s.earlier;
        later = s.later;
        table = s.table ∙ ap (λ (hs : List Handler). s.earlier ++ (hs ++ s.later)) (handlers_alike
            (offset_of (naming p) q) (offset_of (names p) q) (offset_alike q) m.catches);
        earlier_elsewhere = subst (λ (z : ℕ). AllElsewhere (first q) z s.earlier) end s.earlier_elsewhere;
        later_elsewhere = subst (λ (z : ℕ). AllElsewhere (first q) z s.later) end s.later_elsewhere;
      }
