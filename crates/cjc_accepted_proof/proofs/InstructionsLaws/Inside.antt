-- Instructions in pairs: those for which nothing is written, the aload_0 that opens a pair, what is pushed behind it,
-- and the putfield that closes it.
use Rattle.std.proofs.Common.{◌≡◌, ℕ, ◌+◌, ◌<◌, ◌≤◌, refl, sym, ap, subst, ◌∙◌, arith, Bool, true, false}
use Rattle.std.proofs.Common.{List, [], ◌∷◌, ◌++◌, length, length-append, map, drop, slice_get, Option, Some}
use Rattle.std.specs.Prelude.{◌||◌, ◌&&◌, ◌==◌, not, nat_le, if◌then◌else◌, option_map}
use Rattle.std.specs.List.{AllZip}
use Rattle.std.proofs.lemmas.Bool.Decides.{nat_tests}
use Rattle.cjc_types.proofs.BytesGets.{get_below, get_mapped}
use Rattle.cjc_types.specs.Bytes.declared.fault.MemberId.{MemberId}
use Rattle.cjc_types.specs.Bytecode.declared.insn.JOp.{JOp}
use Rattle.cjc_types.specs.Bytecode.declared.insn.JOp.TheVariants as jop
use Rattle.cjc_types.specs.Cells.{IsCellBelow}
use Rattle.cjc_types.specs.Flow.{Body}
use Rattle.cjc_types.specs.Rules.{all_types, has_wrong as has_wrong_by_name, is_off}
use Rattle.cjc_types.specs.States.{IsStackBelow, most_cells, stack_of, states}
use Rattle.cjc_types.specs.Steps.{after, gives, locals_after, stack_behind as behind_by_name, takes}
use Rattle.cjc_types.specs.Types.{is_void, parts}
use Rattle.cjc_types.specs.World.Classes.{Class}
use Rattle.cjc_types.specs.declared.cell.Cell.{Cell}
use Rattle.cjc_types.specs.declared.cell.Cell.TheVariants.{Number, Refs, Unusable}
use Rattle.cjc_types.specs.declared.state.Stack.TheVariants.{Cells, Clash}
use Rattle.cjc_types.specs.declared.state.State.{State}
use Rattle.cjc_verify.specs.Narrow.Pairs.Open.{Open, begun, closed, pushed}
use Rattle.cjc_check_proof.specs.NarrowProof.Tables.Pairs.{IsSilent, a_narrow, a_nop}
use Rattle.cjc_verify.specs.CapRead.declared.tree.ClassRef.{ClassRef}
use Rattle.cjc_verify.specs.CardActs.CardTypes.{ValueType, needs_of}
use Rattle.cjc_verify.specs.CardSemantics.Bytecode.Effects.{Letter}
use Rattle.cjc_verify.specs.ClassTypes.{class_type}
use Rattle.cjc_frames.specs.declared.acts.Act.{Act}
use Rattle.cjc_frames.specs.declared.acts.Given.{Given}
use Rattle.cjc_frames.specs.declared.acts.Need.{Need}
use Rattle.cjc_frames.specs.declared.acts.Need.TheVariants.{OfType}
use Rattle.cjc_frames.specs.declared.acts.Write.{Write}
use Rattle.cjc_frames.specs.Acts.{Subtype, given, has_wrong, is_wrong_local, with_writes}
use Rattle.cjc_verify.specs.Instructions.{putting}
use Rattle.cjc_accepted_proof.specs.Frames.{FieldFits, Mirrors, MirrorsInPair, SubtypesAgree, card_cell, card_cells}
use Rattle.cjc_accepted_proof.specs.Frames.{card_stack, card_state, left_out}
use Rattle.cjc_accepted_proof.proofs.KindsLaws.{first_operand}
use Rattle.cjc_accepted_proof.proofs.RowsLaws.{zip_itself}
use Rattle.cjc_accepted_proof.proofs.InstructionsLaws.Members.{one_need_of, top_passes}

module _ (card_type : List ℕ → Option (List ℕ)) where
  abbrev cells : List Cell → List Cell
  cells = card_cells card_type

  -- a stack is below itself, cut or not
  kept_below : (o : Open) (s t : List Cell) → t ≡ s → IsStackBelow (card_stack card_type o (Cells s)) (card_stack
      card_type o (stack_of t))
  kept_below o s t same = by (nat_le (length t) most_cells) refl
    where
      by : (c : Bool) → nat_le (length t) most_cells ≡ c → IsStackBelow (card_stack card_type o (Cells s)) (card_stack
          card_type o (stack_of t))
      by true e = subst (λ (c : Bool). IsStackBelow (card_stack card_type o (Cells s)) (card_stack card_type o (if c
          then Cells t else Clash))) (sym e) (subst (λ (u : List Cell). IsStackBelow (card_stack card_type o (Cells s))
          (card_stack card_type o (Cells u))) (sym same) (zip_itself (cells (left_out card_type o s))))
      by false e = subst (λ (c : Bool). IsStackBelow (card_stack card_type o (Cells s)) (card_stack card_type o (if c
          then Cells t else Clash))) (sym e) tt

  narrow_same : (w : List Class) (b : Body) (n : ℕ) (ls s : List Cell) → has_wrong_by_name w b (jop.Narrow n) 1 0 s
      ≡ false → is_off b (jop.Narrow n) ls s ≡ false → behind_by_name (jop.Narrow n) ls s ≡ s
  narrow_same w b n ls [] f g = absurd cc
  narrow_same w b n ls (Number ∷ s) f g = refl
  narrow_same w b n ls (Refs names ∷ s) f g = absurd cc
  narrow_same w b n ls (Unusable ∷ s) f g = absurd cc

  -- nothing is written: the frame stays
  pub silent_below : (w : List Class) (b : Body) (count : ℕ) (o : Open) {op : JOp} → IsSilent op → (ls s : List Cell)
      → has_wrong_by_name w b op (takes op) 0 s ≡ false → is_off b op ls s ≡ false
      → (let x : State = record { stack = Cells s; locals = ls } in let t = states count in t.Below (card_state
      card_type o x) (card_state card_type o (after op x)))
  silent_below w b count o a_nop ls s e off = (kept_below o s s refl, zip_itself (cells ls))
  silent_below w b count o (a_narrow {op = n} other) ls s e off = (
    kept_below o s (behind_by_name (jop.Narrow n) ls s) (narrow_same w b n ls s e off),
    zip_itself (cells ls),
  )

  -- the aload_0 that opens a pair: its reference is left out
  pub opening_below : (count : ℕ) (ls s : List Cell) → (let x : State = record { stack = Cells s; locals = ls } in
      let t = states count in t.Below (card_state card_type closed x) (card_state card_type begun (after (jop.Load true
      0) x)))
  opening_below count ls s = (
    by (nat_le (length (behind_by_name (jop.Load true 0) ls s)) most_cells),
    zip_itself (cells
        ls),
  )
    where
      by : (c : Bool) → IsStackBelow (Cells (cells s)) (card_stack card_type begun (if c then Cells (behind_by_name
          (jop.Load true 0) ls s) else Clash))
      by true = zip_itself (cells s)
      by false = tt

  module _ (is_of : Subtype) where
    -- one word is pushed behind the reference that is left out
    pub pushing_inside : (op : JOp) (a : Act) (g : Given) (ls : List Cell) (x : Cell) (s : List Cell) → Mirrors
        card_type is_of op a ls (x ∷ s) → takes op ≡ 0 → a.gives ≡ g ∷ [] → a.writes ≡ []
        → given (cells ls) (cells (x ∷ s)) g ≡ given (cells ls) (cells s) g → (c : Cell) → gives op ls (x ∷ s) ≡ c ∷ []
        → MirrorsInPair card_type is_of begun pushed op a ls (x ∷ s)
    pushing_inside op a g ls x s mirrors none put no_writes same c puts =
        let few = mirrors.as_many ∙ none in
        let nothing = no_needs a.takes few in
        record {
          enough = omega (arith, few);
          leaves = subst (λ (gs : List Given). AllZip IsCellBelow (map (given (cells ls) (cells s)) gs ++ drop (length
              a.takes) (cells s)) (cells (left_out card_type pushed (behind_by_name op ls (x ∷ s))))) (sym put) (subst
              (λ n. AllZip IsCellBelow (given (cells ls) (cells s) g ∷ drop n (cells s)) (cells (left_out card_type
              pushed (gives op ls (x ∷ s) ++ drop (takes op) (x ∷ s))))) (sym few) (subst (λ n. AllZip IsCellBelow
              (given (cells ls) (cells s) g ∷ cells s) (cells (left_out card_type pushed (gives op ls (x ∷ s) ++ drop n
              (x ∷ s))))) (sym none) (subst (λ (zs : List Cell). AllZip IsCellBelow (given (cells ls) (cells s) g
              ∷ cells s) (cells (left_out card_type pushed (zs ++ x ∷ s)))) (sym puts) (lower, zip_itself (cells s)))));
          writes = subst (λ (ws : List Write). AllZip IsCellBelow (with_writes a (cells ls) (Cells (cells s)) ws (cells
              ls)) (cells (locals_after op ls (Cells (x ∷ s))))) (sym no_writes) (subst
              (λ (ws : List Write). AllZip IsCellBelow (with_writes a (cells ls) (Cells (cells (x ∷ s))) ws (cells ls))
              (cells (locals_after op ls (Cells (x ∷ s))))) no_writes mirrors.writes);
          operands = ap (λ (ns : List Need). has_wrong is_of ns (cells s)) nothing;
          locals_right = mirrors.locals_right;
          fits = mirrors.fits;
          there = mirrors.there;
          known = mirrors.known;
          named = mirrors.named;
        }
      where
        no_needs : (ns : List Need) → length ns ≡ 0 → ns ≡ []
        no_needs [] e = refl
        no_needs (n ∷ ns) e = absurd (omega (arith, e))

        lower : IsCellBelow (given (cells ls) (cells s) g) (card_cell card_type c)
        lower =
            let both : AllZip IsCellBelow (given (cells ls) (cells (x ∷ s)) g ∷ []) (cells (c ∷ [])) = subst (λ (zs :
            List Cell). AllZip IsCellBelow (given (cells ls) (cells (x ∷ s)) g ∷ []) (cells zs)) puts (subst (λ (gs :
            List Given). AllZip IsCellBelow (map (given (cells ls) (cells (x ∷ s))) gs) (cells (gives op ls (x ∷ s))))
            put mirrors.puts) in
            subst (λ (y : Cell). IsCellBelow y (card_cell card_type c)) same both.0

    -- putfield that closes a pair
    pub closing_write_mirrors : (w : List Class) → SubtypesAgree card_type is_of w → (b : Body) (f : MemberId)
        (letter : Letter) (class : ClassRef) (t : ValueType) → FieldFits card_type is_of w f letter class t
        → (let d = parts f.desc in let r = d.result in is_void r.kind) ≡ false → (ls s : List Cell) (this v x : Cell)
        → slice_get ls 0 ≡ Some this → all_types (λ type. is_of type (class_type class)) (card_cell card_type this)
        ≡ true → has_wrong_by_name w b (jop.Field true f) 2 0 (v ∷ x ∷ s) ≡ false
        → MirrorsInPair card_type is_of pushed closed (jop.Field true f) (putting true letter class t) ls (v ∷ x ∷ s)
    closing_write_mirrors w agree b f letter class t fits some ls s this v x there passes e =
        let d = parts f.desc in
        let r = d.result in
        let one = one_need_of card_type r.kind r.class t fits.typed some in
        let many : length (needs_of t ++ []) ≡ 1 = length-append (needs_of t) [] ∙ omega (arith, one) in
        let held : slice_get (cells ls) 0 ≡ Some (card_cell card_type this) = get_mapped (card_cell card_type) ls 0
        ∙ ap (option_map (card_cell card_type)) there in
        let within = get_below (cells ls) 0 (card_cell card_type this) held in
        let local : nat_le (length (cells ls)) 0 ≡ false = grind (arith, nat_tests, within) in
        record {
          enough = omega (arith, many);
          leaves = subst (λ n. AllZip IsCellBelow (drop n (cells (v ∷ s))) (cells s)) (sym many) (zip_itself (cells s));
          writes = zip_itself (cells ls);
          operands = top_passes card_type is_of w agree r.kind r.class t fits.typed some [] (v ∷ s) (λ y more g. (
            first_operand w b (jop.Field true f) 2 (v ∷ x ∷ s) e 0 y (ap (λ u. slice_get u 0) g) (omega arith),
            refl,
          ));
          locals_right = ap (λ o. is_wrong_local is_of (OfType (class_type class)) o || false) held
              ∙ ap (λ u. not u || false) passes;
          fits = ap not fits.moved;
          there = ap (λ u. (u || false) || false) local;
          known = refl;
          named = fits.inside;
        }
