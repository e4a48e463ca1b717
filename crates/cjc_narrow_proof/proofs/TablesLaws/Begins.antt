-- A method begins with what its descriptor says, and athrow keeps its rule.
use Rattle.std.proofs.Common.{◌≡◌, ◌≤◌, ◌<◌, ◌+◌, ◌-◌, ℕ, zero, suc, Bool, true, false, cond, List, [], ◌∷◌, ◌++◌, map}
use Rattle.std.proofs.Common.{length, take, drop, replicate, slice_get, Option, Some, All, inl, refl, sym, ap, subst}
use Rattle.std.proofs.Common.{◌∙◌, arith}
use Rattle.std.specs.Prelude.{if◌then◌else◌, codes}
use Rattle.std.specs.List.{list_all}
use Rattle.std.proofs.lemmas.List.Elements.{All-nil}
use Rattle.cjc_bytes.specs.AccessFlags.{is_static}
use Rattle.cjc_bytes.specs.Descriptor.{Part}
use Rattle.cjc_bytes.proofs.Gets.{get_inside}
use Rattle.cjc_range.specs.Span.{Span, IsWord, full}
use Rattle.cjc_code.specs.declared.insn.JInsn.{JInsn}
use Rattle.cjc_code.specs.declared.insn.JOp.TheVariants as jop
use Rattle.cjc_script.specs.Sorts.{OfClass}
use Rattle.cjc_world.specs.Classes.{Class}
use Rattle.cjc_types.specs.declared.cell.Cell.{Cell}
use Rattle.cjc_types.specs.declared.cell.Cell.TheVariants.{Refs, Unusable}
use Rattle.cjc_types.specs.declared.state.State.{State}
use Rattle.cjc_world.specs.Subtype.{is_subtype}
use Rattle.cjc_types.specs.Rules.{is_of}
use Rattle.cjc_types.specs.Types.{parts, value_of}
use Rattle.cjc_types.specs.Steps as typed
use Rattle.cjc_types.specs.Flow.{Body, arguments, entry}
use Rattle.cjc_intervals.specs.Frames.{RangeState, spans_of}
use Rattle.cjc_intervals.specs.Values.{range_of}
use Rattle.cjc_intervals.specs.Steps.{operand}
use Rattle.cjc_intervals.specs.Flow.{argument_ranges, first_state}
use Rattle.cjc_intervals.proofs.Flow.{own_first}
use Rattle.cjc_ncode.specs.declared.narrow.NInsn.TheVariants as insns
use Rattle.cjc_ncode.specs.ByLabel.{Named}
use Rattle.cjc_jvm_semantics.specs.Linked.{Method, Linked}
use Rattle.cjc_narrow_proof.specs.Selection.Relation.{Kind, Refers, Free}
use Rattle.cjc_narrow_proof.specs.Selection.Calls.{first_locals}
use Rattle.cjc_narrow_proof.specs.Selection.Tables.{spot, Arrives}
use Rattle.cjc_narrow_proof.specs.Selection.Runs.{Rule, throws}
use Rattle.cjc_narrow_proof.specs.Tables.Kinds.{is_one_of, kind_of_cell, kinds, kinds_from, point_of}
use Rattle.cjc_narrow_proof.specs.Tables.Analysis.{Analysis, IsAlone, IsDecoded, IsSound, IsRead, CatchesAreTold}
use Rattle.cjc_narrow_proof.specs.Tables.Analysis.{TypesAreTold}
use Rattle.cjc_narrow_proof.specs.Tables.Analysis.{ThrowablesMay, HasRoomToBegin, declared_kinds, table_of}
use Rattle.cjc_narrow_proof.proofs.TablesLaws.Placed.{first_place}
use Rattle.cjc_narrow_proof.proofs.TablesLaws.Told.{kinds_same, kinds_length}
use Rattle.cjc_narrow_proof.proofs.TablesLaws.Arrivals.{comes_to}
use Rattle.cjc_narrow_proof.proofs.TablesLaws.Methods.{tb, spot_is, arrives, catches}
use Rattle.cjc_narrow_proof.proofs.TablesLaws.Values.{passes}
use Rattle.cjc_narrow_proof.proofs.TablesLaws.Resolved.{of_reference}
use Rattle.cjc_narrow_proof.proofs.TablesLaws.Rows.{first_there, stack_before, some_written, rest}
use Rattle.cjc_narrow_proof.proofs.TablesLaws.Plain.{t, Stands, IsRow, Keeps, typed_here, one_reference}

-- ---- the first locals

frees : (l : Named) (k n more : ℕ) (s : List Span) → n ≤ more → kinds_from l k (take n (replicate more Unusable)) s
    ≡ replicate n Free
frees l k zero more s h = refl
frees l k (suc n) zero s h = absurd (omega (arith, h))
frees l k (suc n) (suc more) s h = ap (λ ks. Free ∷ ks) (frees l (suc k) n more s (omega (arith, h)))

first_kinds : (l : Named) (k n more : ℕ) (xs : List Cell) (s : List Span) → length xs ≤ n → n ≤ more
    → kinds_from l k (take n (xs ++ replicate more Unusable)) s ≡ kinds_from l k xs s ++ replicate (n - length xs) Free
first_kinds l k n more [] s h e = let same : n ≡ n - 0 = omega arith in frees l k n more s e
    ∙ ap (λ j. replicate j Free) same
first_kinds l k zero more (x ∷ xs) s h e = absurd (omega (arith, h))
first_kinds l k (suc n) more (x ∷ xs) s h e =
    let same : n - length xs ≡ suc n - suc (length xs) = omega arith in
    ap (λ ks. kind_of_cell l x (operand s k) ∷ ks) (first_kinds l (suc k) n more xs s (omega (arith, h)) (omega (
      arith,
      e,
    )) ∙ ap (λ j. kinds_from l (suc k) xs s ++ replicate j Free) same)

full_there : (n k : ℕ) → operand (replicate n full) k ≡ full
full_there zero k = refl
full_there (suc n) zero = refl
full_there (suc n) (suc k) = full_there n k

full_taken : (n more k : ℕ) → operand (take n (replicate more full)) k ≡ full
full_taken zero more k = refl
full_taken (suc n) zero k = refl
full_taken (suc n) (suc more) zero = refl
full_taken (suc n) (suc more) (suc k) = full_taken n more k

-- intervals that are filled up are the same: one that is missing is full
filled_up : (n more : ℕ) (s : List Span) → length s ≤ n → (k : ℕ) → operand (take n (s ++ replicate more full)) k
    ≡ operand s k
filled_up n more [] h k = full_taken n more k
filled_up zero more (x ∷ s) h k = absurd (omega (arith, h))
filled_up (suc n) more (x ∷ s) h zero = refl
filled_up (suc n) more (x ∷ s) h (suc k) = filled_up n more s (omega (arith, h)) k

as_many : (b : Body) → length (arguments b) ≡ length (argument_ranges b)
as_many b = go (is_static b.flags)
  where
    each : length (map value_of (parts b.desc).params) ≡ length (map range_of (parts b.desc).params)
    each = both (parts b.desc).params
      where
        both : (ps : List Part) → length (map value_of ps) ≡ length (map range_of ps)
        both [] = refl
        both (p ∷ ps) = ap suc (both ps)

    go : (is : Bool) → length ((cond is [] (Refs (b.class ∷ []) ∷ [])) ++ map value_of (parts b.desc).params)
        ≡ length ((cond is [] (full ∷ [])) ++ map range_of (parts b.desc).params)
    go true = each
    go false = ap suc each

module _ (by : Linked) (l : Named) (w : List Class) (a : Analysis) (m : Method) (read : IsRead a m)
    (decoded : IsDecoded (let f = a.found m in f.body)) (sound : IsSound w (let r = a.resolution m
    in r.constant) (a.found m)) where
  first_locals_are : HasRoomToBegin (let f = a.found m in f.body) → kinds l (let f = a.found m in let e = entry f.body
      in e.locals) (let f = a.found m in let e = first_state f.body in e.locals)
      ≡ first_locals m (declared_kinds l (let f = a.found m in f.body))
  first_locals_are roomy =
      let f = a.found m in
      let b = f.body in
      let args = arguments b in
      let ranges = argument_ranges b in
      let room = roomy.room in
      let many = as_many b in
      let max = read.max_locals in
      let long = kinds_length l 0 args ranges in
      let count : b.max_locals - length args ≡ m.max_locals - length (kinds l args ranges) = omega (arith, max, long) in
      first_kinds l 0 b.max_locals b.max_locals args (take b.max_locals (ranges ++ replicate b.max_locals full)) room
      (omega arith)
      ∙ ap (λ ks. ks ++ replicate (b.max_locals - length args) Free) (kinds_same l 0 0 args (take b.max_locals (ranges
      ++ replicate b.max_locals full)) ranges (λ k. filled_up b.max_locals b.max_locals ranges (omega (
        arith,
        room,
        many,
      )) (0 + k)))
      ∙ ap (λ n. kinds l args ranges ++ replicate n Free) count

  -- The method begins, where narrow code begins, with what its descriptor says.
  pub begins : HasRoomToBegin (let f = a.found m in f.body) → Arrives (table_of l a) m 0 (let s = a.narrowed m
      in s.at) [] (first_locals m (declared_kinds l (let f = a.found m in f.body)))
  begins roomy =
      let f = a.found m in
      let b = f.body in
      let i = get_inside b.insns 0 roomy.some in
      let here = spot_is by l w a m read decoded sound 0 i.0 i.1 in
      let first = first_place (a.resolution m) b.insns f.types decoded.ascend i.0 i.1 in
      subst (λ ls. Arrives (table_of l a) m 0 (let s = a.narrowed m in s.at) [] ls) (first_locals_are roomy)
      (arrives by l w a m read decoded sound 0 (let s = a.narrowed m
      in s.at) [] (kinds l (entry b).locals (first_state b).locals) read.pairs.first
      (comes_to l w (let r = a.resolution m in r.constant) f sound 0 (entry b) [] (first_state b) [] refl (inl refl)
      (All-nil IsWord) (own_first b).1.own (sound.types.first roomy.some) (sound.ranges.entry roomy.some))
      (read.begins ∙ sym first ∙ sym here))

  -- ---- athrow

  module _ (told : CatchesAreTold by l a m) (types : TypesAreTold w l) (may : ThrowablesMay l a) (at offset : ℕ)
      (cells local_cells : List Cell) (x : RangeState) (ranged : IsAlone a m at x)
      (row : IsRow by l w a m read decoded sound told at offset cells local_cells x ranged) where
    pub throws_on : Stands by l w a m read decoded sound told at offset cells local_cells x ranged jop.Throw
        → Keeps by l w a m read decoded sound told at offset cells local_cells x ranged jop.Throw
    throws_on there =
        let h = typed_here by l w a m read decoded sound told at offset cells local_cells x ranged row jop.Throw there
        in
        let accepted = h.operands 0 (omega arith) in
        let is = of_reference w (codes "java/lang/Throwable") (typed.operand cells 0) accepted in
        let state = t by l w a m read decoded sound told at offset cells local_cells x ranged in
        let top = one_reference by l w a m read decoded sound told at offset cells local_cells x ranged row jop.Throw
        there refl is.0 is.1 in
        record {
          rule = throws (is_one_of l is.0) (rest by l w a m read decoded sound told at offset jop.Throw state x there
              row ranged)
              refl
              (first_there by l w a m read decoded sound told at offset jop.Throw state x there row ranged (insns.Op
              0x93) []
              refl)
              (stack_before by l w a m read decoded sound told at offset jop.Throw state x there row ranged
              ∙ ap (λ ks. ks ++ rest by l w a m read decoded sound told at offset jop.Throw state x there row ranged)
              (sym top))
              (λ kind passing. may kind (passes w l types (codes "java/lang/Throwable")
              (OfClass (codes "java/lang/Throwable")) refl is.0 (all_of is.0 is.1 accepted) kind passing))
              (catches by l w a m read decoded sound told at
              (record { at = offset; op = jop.Throw }) state x there row ranged.row
              (some_written by l w a m read decoded sound told at offset jop.Throw state x there row ranged 0 refl));
          is_within = tt;
        }
      where
        all_of : (names : List (List ℕ)) → typed.operand cells 0 ≡ Refs names
            → is_of w (codes "java/lang/Throwable") (typed.operand cells 0) ≡ true
            → list_all (λ name. is_subtype w name (codes "java/lang/Throwable")) names ≡ true
        all_of names e h = ap (is_of w (codes "java/lang/Throwable")) (sym e) ∙ h
