-- Type tables, one method after the other.
use Rattle.std.proofs.Common.{◌≡◌, ℕ, zero, suc, ◌+◌, ◌<◌, ◌≤◌, List, [], ◌∷◌, ◌++◌, Option, Some, None, IfNone, length}
use Rattle.std.proofs.Common.{get_or, take, refl, sym, ap, subst, arith}
use Rattle.std.specs.Prelude.{option_map, slice_get}
use Rattle.std.proofs.lemmas.List.{take_all}
use Rattle.cjc_clinit.specs.Bytecode.declared.method_code.MethodCode.{MethodCode}
use Rattle.cjc_bytes.specs.Breaks.{IsFirstOf}
use Rattle.cjc_narrow.specs.Types.declared.table.TypeTable.{TypeTable}
use Rattle.cjc_world.specs.Files.{Files}
use Rattle.cjc_bytes.specs.Breaks.{Break, Among}
use Rattle.cjc_bytes.proofs.BrokenRules.{among_left, among_right, no_among}
use Rattle.cjc_bytes.proofs.Gets.{slice_get_at}
use Rattle.cjc_bytes.proofs.Options.{when_none, option_had}
use Rattle.cjc_judge.specs.Rules.{IsFirstIn}
use Rattle.cjc_judge.specs.Types.{IsTableOf, AreTables}
use Rattle.cjc_judge.specs.Working.Groups.{PutsTable}
use Rattle.cjc_judge.proofs.Items.{front_more}

-- ---- where nothing is broken

none_was : {A B : Type 0} (f : A → B) (o : Option A) → option_map f o ≡ None → o ≡ None
none_was f None e = refl
none_was f (Some x) e = absurd (let g = e in cc)

-- where the first of two is none, both are
both_none : (xs ys : List Break) (o p q : Option Break) → IsFirstOf xs o → IsFirstOf ys p → IsFirstOf (xs ++ ys) q
    → q ≡ None → (o ≡ None) × (p ≡ None)
both_none xs ys o p q f g joined is = by o p f g (subst (IsFirstOf (xs ++ ys)) is joined)
  where
    by : (o p : Option Break) → IsFirstOf xs o → IsFirstOf ys p → xs ++ ys ≡ [] → (o ≡ None) × (p ≡ None)
    by None None f g e = (refl, refl)
    by (Some b) p f g e = absurd (no_among b (subst (Among b) e (among_left b xs ys f.among)))
    by None (Some b) f g e = absurd (no_among b (subst (Among b) e (among_right b xs ys g.among)))

-- What holds of what is left where both were none holds where the first of both is.
pub joined : {X : Type 0} (f : X → Break) (G H : Break → Type 0) (o p q : Option X) (P Q R : Type 0)
    → ((xs ys : List Break) → IsFirstOf xs (option_map f o) → IsFirstOf ys (option_map f p)
    → IsFirstOf (xs ++ ys) (option_map f q))
    → IsFirstIn G (option_map f o) → IsFirstIn H (option_map f p) → (P → Q → R) → IfNone o P → IfNone p Q → IfNone q R
joined f G H o p q P Q R joins (xs, _, first) (ys, _, next) go had_o had_p = when_none q R (λ e.
    let both = both_none xs ys (option_map f o) (option_map f p) (option_map f q) first next (joins xs ys first next)
    (ap (option_map f) e) in
    go (option_had o P (none_was f o both.0) had_o) (option_had p Q (none_was f p both.1) had_p))

-- ---- one method after the other

put_table : (world : Files) (codes : List MethodCode) (tables : List TypeTable) (code : MethodCode) (table : TypeTable)
    → AreTables world codes tables → IsTableOf world code table → AreTables world (codes ++ code ∷ []) (tables
    ++ table ∷ [])
put_table world [] tables code table e is = subst (λ (ts : List TypeTable). AreTables world (code ∷ []) (ts
    ++ table ∷ [])) (sym e) (is, refl)
put_table world (c ∷ cs) [] code table h is = absurd h
put_table world (c ∷ cs) (t ∷ ts) code table h is = (h.0, put_table world cs ts code table h.1 is)

-- one method more
pub more_tables : (world : Files) (codes : List MethodCode) (i : ℕ) (code : MethodCode) (old new : List TypeTable)
    → i < length codes → code ≡ get_or codes i code → AreTables world (take i codes) old → PutsTable world code old new
    → AreTables world (take (i + 1) codes) new
more_tables world codes i code old new lt is h (table, e, here) =
    subst (λ (ts : List TypeTable). AreTables world (take (i + 1) codes) ts) (sym e)
    (subst (λ (cs : List MethodCode). AreTables world cs (old ++ table ∷ [])) (sym (front_more codes i code lt is))
    (put_table world (take i codes) old code table h here))

-- all of them
pub all_tables : (world : Files) (codes : List MethodCode) (i : ℕ) (tables : List TypeTable) → length codes ≤ i
    → AreTables world (take i codes) tables → AreTables world codes tables
all_tables world codes i tables low h = subst (λ (cs : List MethodCode). AreTables world cs tables)
    (take_all i codes low) h

-- as many as there are codes
pub tables_sized : (world : Files) (codes : List MethodCode) (tables : List TypeTable) → AreTables world codes tables
    → length tables ≡ length codes
tables_sized world [] tables h = ap (λ (ts : List TypeTable). length ts) h
tables_sized world (c ∷ cs) [] h = absurd h
tables_sized world (c ∷ cs) (t ∷ ts) h = ap suc (tables_sized world cs ts h.1)

-- the table of the method at a place
pub table_at : (world : Files) (codes : List MethodCode) (tables : List TypeTable) (i : ℕ) (code : MethodCode)
    (table : TypeTable) → AreTables world codes tables → slice_get codes i ≡ Some code → slice_get tables i ≡ Some table
    → IsTableOf world code table
table_at world [] tables i code table h e f = absurd cc
table_at world (c ∷ cs) [] i code table h e f = absurd h
table_at world (c ∷ cs) (t ∷ ts) zero code table h e f =
    let same_code : c ≡ code = cc in
    let same_table : t ≡ table = cc in
    subst (λ x. IsTableOf world x table) same_code (subst (IsTableOf world c) same_table h.0)
table_at world (c ∷ cs) (t ∷ ts) (suc i) code table h e f = table_at world cs ts i code table h.1 e f

-- that which is read there
pub table_of : (world : Files) (codes : List MethodCode) (tables : List TypeTable) (i : ℕ) (code : MethodCode)
    (table : TypeTable) → AreTables world codes tables → i < length codes → code ≡ get_or codes i code
    → table ≡ get_or tables i table → IsTableOf world code table
table_of world codes tables i code table h lt is_code is_table =
    let sized = tables_sized world codes tables h in
    table_at world codes tables i code table h (slice_get_at codes i code lt is_code) (slice_get_at tables i table
    (omega (
      arith,
      sized,
      lt,
    )) is_table)
