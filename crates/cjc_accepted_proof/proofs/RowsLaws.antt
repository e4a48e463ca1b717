-- A row of the table of written code stands where its act mirrors the instruction of the class file.
use Rattle.std.proofs.Common.{◌≡◌, ◌⊎◌, ℕ, zero, suc, ◌+◌, ◌-◌, ◌<◌, ◌≤◌, refl, sym, ap, subst, ◌∙◌}
use Rattle.std.proofs.Common.{Bool, true, false, List, [], ◌∷◌, ◌++◌, length, map, drop}
use Rattle.std.proofs.Common.{Option}
use Rattle.std.specs.Prelude.{◌&&◌, ◌||◌, ◌==◌, not, nat_le, nat_lt, if◌then◌else◌}
use Rattle.std.specs.List.{AllZip}
use Rattle.std.proofs.lemmas.List.{length-map}
use Rattle.cjc_types.specs.Bytecode.Jvm as jvm
use Rattle.cjc_types.specs.Bytecode.declared.insn.JOp.{JOp}
use Rattle.cjc_types.specs.Bytecode.declared.insn.JOp.TheVariants as jop
use Rattle.cjc_types.specs.Cells.{IsCellBelow}
use Rattle.cjc_types.specs.Flow.{Body}
use Rattle.cjc_types.specs.Rules.{accepts, has_wrong as has_wrong_by_name, is_number, is_off as is_off_by_name}
use Rattle.cjc_types.specs.States.{IsStackBelow, most_cells, stack_of}
use Rattle.cjc_types.specs.Steps.{gives, stack_behind as behind_by_name, takes}
use Rattle.cjc_types.specs.Steps as steps
use Rattle.cjc_types.specs.declared.cell.Cell.{Cell}
use Rattle.cjc_types.specs.declared.cell.Cell.TheVariants.{Number, Refs, Unusable}
use Rattle.cjc_types.specs.declared.state.Stack.TheVariants.{Cells, Clash}
use Rattle.cjc_types.specs.declared.state.State.{State}
use Rattle.cjc_types.specs.World.Classes.{Class}
use Rattle.cjc_frames.specs.declared.acts.Act.{Act}
use Rattle.cjc_frames.specs.Acts.{Breaks, Subtype, after, given, has_wrong, has_wrong_local, is_off, is_wrong}
use Rattle.cjc_frames.specs.Acts.{lacks_local, stack_behind}
use Rattle.cjc_frames.specs.Acts.Breaks.{clash, wrong, off, unknown, misnamed}
use Rattle.cjc_verify.specs.CardActs.Rows.{calculating, number_words}
use Rattle.cjc_verify.specs.Narrow.Pairs.Open.{closed}
use Rattle.cjc_accepted_proof.specs.Frames.{Mirrors, Stands, card_cell, card_cells, card_state, card_stack}

-- ---- lists

pub zip_both : (xs ys us vs : List Cell) → AllZip IsCellBelow xs us → AllZip IsCellBelow ys vs → AllZip IsCellBelow (xs
    ++ ys) (us ++ vs)
zip_both [] ys [] vs front back = back
zip_both [] ys (u ∷ us) vs front back = absurd front
zip_both (x ∷ xs) ys [] vs front back = absurd front
zip_both (x ∷ xs) ys (u ∷ us) vs front back = (front.0, zip_both xs ys us vs front.1 back)

pub zip_long : (xs ys : List Cell) → AllZip IsCellBelow xs ys → length xs ≡ length ys
zip_long [] [] below = refl
zip_long [] (y ∷ ys) below = absurd below
zip_long (x ∷ xs) [] below = absurd below
zip_long (x ∷ xs) (y ∷ ys) below = ap suc (zip_long xs ys below.1)

pub cell_itself : (x : Cell) → IsCellBelow x x
cell_itself Number = tt
cell_itself (Refs names) = λ n i. i
cell_itself Unusable = tt

pub zip_itself : (xs : List Cell) → AllZip IsCellBelow xs xs
zip_itself [] = tt
zip_itself (x ∷ xs) = (cell_itself x, zip_itself xs)

drop_mapped : (f : Cell → Cell) (n : ℕ) (xs : List Cell) → drop n (map f xs) ≡ map f (drop n xs)
drop_mapped f zero xs = refl
drop_mapped f (suc n) [] = refl
drop_mapped f (suc n) (x ∷ xs) = drop_mapped f n xs

pub mapped_both : (f : Cell → Cell) (xs ys : List Cell) → map f (xs ++ ys) ≡ map f xs ++ map f ys
mapped_both f [] ys = refl
mapped_both f (x ∷ xs) ys = ap (λ zs. f x ∷ zs) (mapped_both f xs ys)

-- ---- rules

-- a frame that has what an instruction takes breaks no rule before it
module _ (is_of : Subtype) (most : ℕ) (a : Act) (ls s : List Cell) (right : is_wrong is_of a ls s ≡ false)
    (inside : is_off most a ls s ≡ false) (known : a.is_unknown ≡ false) (named : a.misnames ≡ false) where
  pub none_breaks : (z : State) → z ≡ record { stack = Cells s; locals = ls } → (rule : ℕ) → Breaks is_of most a z rule
      → ⊥
  none_breaks z is rule (clash locals) = let e = ap (λ (v : State). v.stack) is in absurd cc
  none_breaks z is rule (wrong t locals e) =
      let stacks : Cells t ≡ Cells s = ap (λ (v : State). v.stack) is in
      let same : t ≡ s = cc in
      let no : is_wrong is_of a locals t ≡ false = ap (λ v. is_wrong is_of a v t) (ap (λ (v : State). v.locals) is)
      ∙ ap (λ v. is_wrong is_of a ls v) same ∙ right in
      absurd cc
  none_breaks z is rule (off t locals e) =
      let stacks : Cells t ≡ Cells s = ap (λ (v : State). v.stack) is in
      let same : t ≡ s = cc in
      let no : is_off most a locals t ≡ false = ap (λ v. is_off most a v t) (ap (λ (v : State). v.locals) is)
      ∙ ap (λ v. is_off most a ls v) same ∙ inside in
      absurd cc
  none_breaks z is rule (unknown v e) = let no = known in absurd cc
  none_breaks z is rule (misnamed v e) = let no = named in absurd cc

-- ---- a row

module _ (card_type : List ℕ → Option (List ℕ)) where
  abbrev cells : List Cell → List Cell
  cells = card_cells card_type

  -- a stack that is cut where it is too high is cut on both sides
  cut_below : (xs ys : List Cell) → AllZip IsCellBelow xs (cells ys) → IsStackBelow (stack_of xs) (card_stack
      card_type closed (stack_of ys))
  cut_below xs ys below = by (nat_le (length ys) most_cells) refl
    where
      long : length xs ≡ length ys
      long = zip_long xs (map (card_cell card_type) ys) below ∙ length-map ys (card_cell card_type)

      by : (b : Bool) → nat_le (length ys) most_cells ≡ b → IsStackBelow (stack_of xs) (card_stack card_type closed
          (stack_of ys))
      by true e =
          subst (λ (b : Bool). IsStackBelow (if b then Cells xs else Clash) (card_stack card_type closed (stack_of ys)))
          (sym (ap (λ n. nat_le n most_cells) long ∙ e)) (subst (λ (b : Bool). IsStackBelow (Cells xs) (card_stack
          card_type
          closed (if b then Cells ys else Clash))) (sym e) below)
      by false e = subst (λ (b : Bool). IsStackBelow (stack_of xs) (card_stack card_type closed (if b then Cells ys
          else Clash))) (sym e) tt

  module _ (is_of : Subtype) (w : List Class) (b : Body) (count : ℕ) (op : JOp) (a : Act) (ls s : List Cell)
      (mirrors : Mirrors card_type is_of op a ls s) (on : is_off_by_name b op ls s ≡ false) where
    abbrev x : State
    x = record { stack = Cells s; locals = ls }

    -- the stacks behind
    behind_below : AllZip IsCellBelow (stack_behind a (cells ls) (cells s)) (cells (behind_by_name op ls s))
    behind_below =
        let taken : drop (length a.takes) (cells s) ≡ cells (drop (takes op) s) = ap (λ n. drop n (cells s))
        mirrors.as_many ∙ drop_mapped (card_cell card_type) (takes op) s in
        subst (λ (zs : List Cell). AllZip IsCellBelow (stack_behind a (cells ls) (cells s)) zs) (sym (mapped_both
        (card_cell card_type) (gives op ls s) (drop (takes op) s))) (zip_both (map (given (cells ls) (cells s))
        a.gives) (drop
        (length a.takes) (cells s)) (cells (gives op ls s)) (cells (drop (takes op) s)) mirrors.puts (subst
        (λ (zs : List Cell). AllZip IsCellBelow zs (cells (drop (takes op) s))) (sym taken) (zip_itself (cells (drop
        (takes op) s)))))

    not_wrong : is_wrong is_of a (cells ls) (cells s) ≡ false
    not_wrong =
        ap (λ v. v || has_wrong_local is_of a.reads (cells ls) || a.misfits) mirrors.operands
        ∙ ap (λ v. false || v || a.misfits) mirrors.locals_right
        ∙ ap (λ v. false || false || v) mirrors.fits

    not_off : is_off b.max_stack a (cells ls) (cells s) ≡ false
    not_off =
        let many = length-map s (card_cell card_type) in
        let behind = zip_long (stack_behind a (cells ls) (cells s)) (cells (behind_by_name op ls s)) behind_below
        ∙ length-map (behind_by_name op ls s) (card_cell card_type) in
        ap (λ n. nat_lt n (length a.takes) || nat_lt b.max_stack n || nat_lt b.max_stack (length (stack_behind a (cells
        ls) (cells s))) || lacks_local a (cells ls)) many
        ∙ ap (λ n. nat_lt (length s) n || nat_lt b.max_stack (length s) || nat_lt b.max_stack (length (stack_behind a
        (cells ls) (cells s))) || lacks_local a (cells ls)) mirrors.as_many
        ∙ ap (λ n. nat_lt (length s) (takes op) || nat_lt b.max_stack (length s) || nat_lt b.max_stack n ||
        lacks_local a
        (cells ls)) behind
        ∙ ap (λ v. is_off_by_name b op ls s || v) mirrors.there
        ∙ ap (λ v. v || false) on

    pub row_stands : Stands is_of count b.max_stack a (card_state card_type closed x) (card_state card_type closed
        (steps.after op x))
    row_stands = record {
      unbroken = none_breaks is_of b.max_stack a (cells ls) (cells s) not_wrong not_off mirrors.known mirrors.named
          (card_state card_type closed x) refl;
      goes = (cut_below (stack_behind a (cells ls) (cells s)) (behind_by_name op ls s) behind_below, mirrors.writes);
    }

  -- ---- numbers of numbers

  -- a number is one on the card
  number_there : (x : Cell) → is_number x ≡ true → card_cell card_type x ≡ Number
  number_there Number e = refl
  number_there (Refs names) e = absurd cc
  number_there Unusable e = absurd cc

  module _ (is_of : Subtype) (w : List Class) (b : Body) where
    two_numbers : (op : JOp) → ((k : ℕ) (x : Cell) → accepts w b op k x ≡ is_number x)
        → (s : List Cell) → has_wrong_by_name w b op 2 0 s ≡ false → has_wrong is_of (number_words 2) (cells s) ≡ false
    two_numbers op numbers [] e = refl
    two_numbers op numbers (x ∷ []) e = one x (sym (ap (λ v. (true && not v) || false) (numbers 0 x)) ∙ e)
      where
        one : (x : Cell) → ((true && not (is_number x)) || false) ≡ false → (not (is_number (card_cell card_type x))
            || false) ≡ false
        one Number f = refl
        one (Refs names) f = absurd cc
        one Unusable f = absurd cc
    two_numbers op numbers (x ∷ y ∷ s) e = both x y (sym (ap (λ v. (true && not v) || ((true
        && not (accepts w b op 1 y)) || has_wrong_by_name w b op 2 2 s)) (numbers 0 x)
        ∙ ap (λ v. (true && not (is_number x)) || ((true && not v) || has_wrong_by_name w b op 2 2 s)) (numbers 1 y))
        ∙ e)
      where
        both : (x y : Cell) → ((true && not (is_number x)) || ((true && not (is_number y)) || has_wrong_by_name w b op
            2 2
            s)) ≡ false → (not (is_number (card_cell card_type x)) || (not (is_number (card_cell card_type y)) ||
            false)) ≡ false
        both Number Number f = refl
        both Number (Refs names) f = absurd cc
        both Number Unusable f = absurd cc
        both (Refs names) y f = absurd cc
        both Unusable y f = absurd cc

    -- an arithmetic instruction of two operands
    pub arithmetic_mirrors : (opcode : ℕ) → (opcode == jvm.ineg) ≡ false → (ls s : List Cell) → has_wrong_by_name w b
        (jop.Arith opcode) 2 0 s ≡ false → Mirrors card_type is_of (jop.Arith opcode) (calculating 2 1) ls s
    arithmetic_mirrors opcode two ls s e = record {
      as_many = sym (ap (λ (v : Bool). if v then 1 else 2) two);
      puts = (tt, tt);
      writes = zip_itself (cells ls);
      operands = two_numbers (jop.Arith opcode) (λ k x. refl) s e;
      locals_right = refl;
      fits = refl;
      there = refl;
      known = refl;
      named = refl;
    }
