-- Each instruction does what its act says.
use Rattle.std.proofs.Common.{◌∙◌}
use Rattle.std.proofs.Common.{◌≡◌, ◌≤◌, ◌||◌, ◌==◌, ◌/◌, ◌%◌, ◌&&◌, inl, inr, ℕ, suc, Bool, true, false, not}
use Rattle.std.proofs.Common.{nat_lt, List, [], ◌∷◌, ◌++◌, length, map, drop, Option, Some}
use Rattle.std.proofs.Common.{None, refl, sym, subst, arith, ℤ, pos, negsuc}
use Rattle.std.specs.Prelude.{if◌then◌else◌, Contains}
use Rattle.std.proofs.lemmas.Bool.{or_parts}
use Rattle.std.proofs.lemmas.Bool.Decides.{nat_tests}
use Rattle.cjc_script.specs.declared.value.Value.{Value}
use Rattle.cjc_script.specs.declared.value.Value.TheVariants.{Num}
use Rattle.cjc_script.specs.Sorts.{Element, Shape, OfNumbers, OfReferences}
use Rattle.cjc_types.specs.declared.cell.Cell.{Cell}
use Rattle.cjc_types.specs.declared.cell.Cell.TheVariants.{Number, Refs, Unusable}
use Rattle.cjc_types.specs.declared.state.Stack.TheVariants.{Cells}
use Rattle.cjc_types.specs.Rules.{is_number, is_reference, all_types}
use Rattle.cjc_card_semantics.specs.Bytecode.Calculations.{Calculation, Result, Fine, Fails, Wrong}
use Rattle.cjc_card_semantics.specs.Bytecode.Calculations.{is_copy, is_swap}
use Rattle.cjc_card_semantics.specs.Bytecode.Effects.{Letter, Reference, Byte, Short, Int, Load, Store, Length, Throw}
use Rattle.cjc_card_semantics.specs.Bytecode.Effects.{Return, Memory, Effect, Go}
use Rattle.cjc_card_semantics.specs.Bytecode.Effects.{Raise, Toss, Invoke, Leave, Stick, Operation, effect}
use Rattle.cjc_card_semantics.specs.Bytecode.Effects.{effect_of_result, effect_of_access, store_number}
use Rattle.cjc_card_semantics.specs.Bytecode.Effects.{Arm}
use Rattle.cjc_card_semantics.specs.Bytecode.Effects.{load_number, load_reference_item, store_reference, NewNumbers}
use Rattle.cjc_card_semantics.specs.Bytecode.Effects.{NewReferences, Cast, Ask, Branch, Pick}
use Rattle.cjc_card_semantics.specs.Machine.Loaded.{Loaded}
use Rattle.cjc_card_semantics.specs.Machine.Classes.{Class, Field}
use Rattle.cjc_card_semantics.specs.Machine.Statics.{Image, StaticCell}
use Rattle.cjc_card_semantics.specs.Machine.Operations.{Callee}
use Rattle.cjc_card_semantics.specs.Machine.ByToken.{classes}
use Rattle.cjc_frames.specs.declared.acts.Act.{Act}
use Rattle.cjc_frames.specs.declared.acts.Need.{Need}
use Rattle.cjc_frames.specs.declared.acts.Need.TheVariants.{NumberWord, ReferenceWord, OfType, OfArrays}
use Rattle.cjc_frames.specs.declared.acts.Given.TheVariants.{ANumber, AnObject}
use Rattle.cjc_frames.specs.Acts.{Subtype, stack_behind, with_writes, meets, has_wrong}
use Rattle.cjc_frames.specs.Types.{begins_with, element_of}
use Rattle.cjc_card_acts.specs.Rows.{Row, Pushes, Loads, Stores, Increases, Pops, Copies, CopiesBelow, Swaps}
use Rattle.cjc_card_acts.specs.Rows.{Calculates, LoadsItem, StoresItem, CountsItems, Throws, Jumps, Switches, Returns}
use Rattle.cjc_card_acts.specs.Rows.{Uses, CallsInterface, MakesNumbers, Casts, Asks, Forbidden}
use Rattle.cjc_card_acts.specs.Rows.{idle, loading, storing, increasing, with_local, with_number, copying_below}
use Rattle.cjc_card_acts.specs.Rows.{swapping_by, copying, swapping, unknown, loading_item, storing_item, number_words}
use Rattle.cjc_card_acts.specs.CardTypes.{ValueType, needs_of, is_returned_by, arrays_of, all_arrays, shape_by}
use Rattle.cjc_card_acts.specs.CardTypes.{is_type_of}
use Rattle.cjc_verify_proof.specs.Words.{AreWords, AreLocals, Leaves}
use Rattle.cjc_verify_proof.specs.Acts.{plain_act}
use Rattle.cjc_verify_proof.specs.Heaps.{object_is, Onward, Stored, item_cells}
use Rattle.cjc_verify_proof.specs.Growth.{AreZeros, AreNulls, Adds}
use Rattle.cjc_verify_proof.specs.References.{Puts, PutsReference}
use Rattle.cjc_card_semantics.specs.Bytecode.Effects.{HeapObject, References, shape}
use Rattle.std.proofs.Common.{slice_set}
use Rattle.cjc_verify_proof.specs.Control.{next_if, switched_words, Leads, Throws as IsThrown, Returns as IsLeft}
use Rattle.cjc_verify_proof.specs.Frames.{Program}
use Rattle.cjc_verify_proof.specs.Turns.{Does}
use Rattle.cjc_verify_proof.specs.Instructions.{Suits, HoldsOn, plain, jump, switch, load, store, arraylength, athrow}
use Rattle.cjc_verify_proof.specs.Instructions.{return, newarray, anewarray, checkcast, instanceof, call}
use Rattle.cjc_verify_proof.proofs.WordLaws.{true_of, number_is, Tops, behind, number, tops}
use Rattle.cjc_verify_proof.proofs.PlainLaws.{Parts, plain_kept}
use Rattle.cjc_verify_proof.proofs.MemoryLaws.{onward_go}
use Rattle.cjc_verify_proof.proofs.StoreLaws.{stores_byte, stores_short, stores_int}
use Rattle.cjc_verify_proof.proofs.MadeLaws.{Makes, pushed_made, set_made, get_makes, put_makes, get_static_makes}
use Rattle.cjc_verify_proof.proofs.MadeLaws.{put_static_makes, new_makes}
use Rattle.cjc_verify_proof.specs.Turns.{IsMade, AreMade}
use Rattle.cjc_verify_proof.proofs.ArrayLaws as stored
use Rattle.cjc_verify_proof.proofs.FieldLaws.{get_field, get_field_this, put_field, put_field_this, get_cell, put_cell}
use Rattle.cjc_verify_proof.proofs.FieldLaws.{new_object}
use Rattle.cjc_verify_proof.specs.Acts.{Passes}
use Rattle.cjc_verify_proof.specs.Memories.{IsMemory, Goes, SupersStand, AreDeclared}
use Rattle.cjc_verify_proof.specs.Instructions.{getfield, getfield_this, putfield, putfield_this, getstatic, putstatic}
use Rattle.cjc_verify_proof.specs.Instructions.{new}
use Rattle.cjc_card_semantics.specs.Bytecode.Effects.{Get, Put, GetStatic, PutStatic, New}
use Rattle.cjc_card_acts.specs.Rows.{reading}
use Rattle.cjc_card_acts.specs.CardTypes.{words}
use Rattle.cjc_verify_proof.proofs.HeapLaws.{loads_number, lengths_go}
use Rattle.cjc_verify_proof.proofs.GrowthLaws.{extends_itself}
use Rattle.cjc_verify_proof.proofs.ControlLaws.{picks, jump_leads, throws, leaves}
use Rattle.cjc_verify_proof.proofs.ReferenceLaws.{makes_numbers, makes_references, casts, asks, loads_reference}
use Rattle.cjc_verify_proof.proofs.ReferenceLaws.{stores_reference}
use Rattle.cjc_verify_proof.proofs.FlowLaws.{in_left, in_right, in_first, first_or_rest}

-- ---- plain rows go on

abbrev falls_of : Act → Bool
falls_of a = a.falls

local_falls : (act : ℕ → Act) → ((k : ℕ) → falls_of (act k) ≡ true) → (o : Option ℕ) (operands : List ℤ)
    → falls_of (with_local act o operands) ≡ true
local_falls act h (Some k) operands = h k
local_falls act h None (pos k ∷ operands) = h k
local_falls act h None (negsuc k ∷ operands) = refl
local_falls act h None [] = refl

number_falls : (act : ℕ → Act) → ((k : ℕ) → falls_of (act k) ≡ true) → (operands : List ℤ)
    → falls_of (with_number act operands) ≡ true
number_falls act h (pos k ∷ operands) = h k
number_falls act h (negsuc k ∷ operands) = refl
number_falls act h [] = refl

loading_falls : (letter : Letter) (k : ℕ) → falls_of (loading letter k) ≡ true
loading_falls Reference k = refl
loading_falls Byte k = refl
loading_falls Short k = refl
loading_falls Int k = refl

storing_falls : (letter : Letter) (k : ℕ) → falls_of (storing letter k) ≡ true
storing_falls Reference k = refl
storing_falls Byte k = refl
storing_falls Short k = refl
storing_falls Int k = refl

increasing_falls : (letter : Letter) (k : ℕ) → falls_of (increasing letter k) ≡ true
increasing_falls Reference k = refl
increasing_falls Byte k = refl
increasing_falls Short k = refl
increasing_falls Int k = refl

copying_falls : (b : ℕ) → falls_of (copying_below b) ≡ true
copying_falls b = go (is_copy (b / 16) (b % 16))
  where
    go : (t : Bool) → falls_of (if t then copying (b / 16) (if b % 16 == 0 then b / 16 else b % 16) else unknown) ≡ true
    go true = refl
    go false = refl

swapping_falls : (b : ℕ) → falls_of (swapping_by b) ≡ true
swapping_falls b = go (is_swap (b / 16) && is_swap (b % 16))
  where
    go : (t : Bool) → falls_of (if t then swapping (b / 16) (b % 16) else unknown) ≡ true
    go true = refl
    go false = refl

plain_falls : (r : Row) (operands : List ℤ) → falls_of (plain_act r operands) ≡ true
plain_falls (Pushes words) operands = refl
plain_falls (Loads letter local) operands = local_falls (loading letter) (loading_falls letter) local operands
plain_falls (Stores letter local) operands = local_falls (storing letter) (storing_falls letter) local operands
plain_falls (Increases letter) operands = local_falls (increasing letter) (increasing_falls letter) None operands
plain_falls (Pops n) operands = refl
plain_falls (Copies n) operands = refl
plain_falls CopiesBelow operands = number_falls copying_below copying_falls operands
plain_falls Swaps operands = number_falls swapping_by swapping_falls operands
plain_falls (Calculates m n) operands = refl
plain_falls (LoadsItem letter) operands = refl
plain_falls (StoresItem letter) operands = refl
plain_falls CountsItems operands = refl
plain_falls Throws operands = refl
plain_falls (Jumps needs falls) operands = refl
plain_falls (Switches n) operands = refl
plain_falls (Returns letter) operands = refl
plain_falls (Uses how) operands = refl
plain_falls CallsInterface operands = refl
plain_falls MakesNumbers operands = refl
plain_falls Casts operands = refl
plain_falls Asks operands = refl
plain_falls Forbidden operands = refl

-- the next place is one where an instruction goes on that falls
next_follows : (a : Act) (next : ℕ) → falls_of a ≡ true → Contains (next_if (falls_of a) next ++
    (let b = a in b.targets))
    next
next_follows a next e = in_left (next_if (falls_of a) next) (let b = a in b.targets) next
    (subst (λ b. Contains (next_if b next) next) (sym e) (in_first next []))

-- ---- needs

both_false : (a b : Bool) → a ≡ false → b ≡ false → (a || b) ≡ false
both_false false b e f = f
both_false true b e f = cc

-- what is right of needs is right of those in front and of those behind
front_right : (is_of : Subtype) (needs more : List Need) (cs : List Cell) → has_wrong is_of (needs ++ more) cs ≡ false
    → length (needs ++ more) ≤ length cs
    → (has_wrong is_of needs cs ≡ false) × (has_wrong is_of more (drop (length needs) cs) ≡ false)
front_right is_of [] more cs h o = (refl, h)
front_right is_of (n ∷ needs) more [] h o = absurd (omega (arith, o))
front_right is_of (n ∷ needs) more (c ∷ cs) h o =
    let x = or_parts (not (meets is_of n c)) (has_wrong is_of (needs ++ more) cs) h in
    let r = front_right is_of needs more cs x.1 (omega (arith, o)) in
    (both_false (not (meets is_of n c)) (has_wrong is_of needs cs) x.0 r.0, r.1)

ltb_high : (m n : ℕ) → n ≤ m → nat_lt m n ≡ false
ltb_high m n le = grind (arith, nat_tests)

-- ---- acts

abbrev making : List ℕ → Act
making type = record idle { takes = NumberWord ∷ []; gives = AnObject type ∷ [] }

abbrev casting : List ℕ → Act
casting type = record idle { takes = ReferenceWord ∷ []; gives = AnObject type ∷ [] }

abbrev asking : Act
asking = record idle { takes = ReferenceWord ∷ []; gives = ANumber ∷ [] }

abbrev counting : Act
counting = record idle { takes = OfArrays all_arrays ∷ []; gives = ANumber ∷ [] }

abbrev throwing : List ℕ → Act
throwing type = record idle { takes = OfType type ∷ []; falls = false }

abbrev leaving : ValueType → Act
leaving result = record idle { takes = needs_of result; falls = false }

abbrev switching : (is_int : Bool) (other : ℕ) → List Arm → Act
switching is_int other arms = record idle {
  takes = number_words (switched_words is_int);
  falls = false;
  targets = other ∷ map (λ (a : Arm). a.to) arms;
}

-- ---- one instruction

module _ (l : Loaded) (program : Program) (result : ValueType) (room next : ℕ) (lc : List Cell)
    (lv : List (Option Value)) (m : Memory Class Field (List Image)) (k : AreLocals (object_is l m.heap) lc lv)
    (supers : SupersStand l) (declared : AreDeclared l program.fields) (fit : IsMemory l program.fields m) where
  -- what is to be shown of an act on a stack
  abbrev Done : Act → List Cell → Effect Class Field Callee (List Image) → Type 0
  Done a cs e = Does l program result a next lc cs m e × HoldsOn l program m e

  -- it goes on in the same memory
  same_done : (a : Act) (cs : List Cell) (at : ℕ) (stack : List Value) (locals : List (Option Value))
      (memory : Memory Class Field (List Image)) → Contains (next_if (falls_of a) next ++ (let b = a in b.targets)) at
      → AreWords (object_is l m.heap) (stack_behind a lc cs) stack
      → AreLocals (object_is l m.heap) (with_writes a lc (Cells cs) (let b = a in b.writes) lc) locals → memory ≡ m
      → Done a cs (Go at stack locals memory)
  same_done a cs at stack locals memory among w k e = subst (λ x. Done a cs (Go at stack locals x)) (sym e)
      ((among, (extends_itself m.heap, (w, k))), (fit, λ all. all))

  onward_makes : (e : Effect Class Field Callee (List Image)) (given_by : List Cell) → Onward l next given_by lc m e
      → Makes program m e
  onward_makes (Go at stack locals memory) given_by h = λ all. subst (λ (x : Memory Class Field (List Image)). AreMade
      program x.heap) (sym h.1.1.1) all
  onward_makes (Raise fault) given_by h = tt
  onward_makes (Toss object) given_by h = tt
  onward_makes (Invoke callee) given_by h = tt
  onward_makes (Leave words) given_by h = tt
  onward_makes Stick given_by h = tt

  -- a store of a number keeps shapes
  stored_makes : (e : Effect Class Field Callee (List Image)) (given_by : List Cell) → Stored l next given_by lc m e
      → Makes program m e
  stored_makes (Go at stack locals memory) given_by h = λ all k kind e. all k kind (h.1.1.1.1.0 k ∙ e)
  stored_makes (Raise fault) given_by h = tt
  stored_makes (Toss object) given_by h = tt
  stored_makes (Invoke callee) given_by h = tt
  stored_makes (Leave words) given_by h = tt
  stored_makes Stick given_by h = tt

  -- another reference in an array
  puts_makes : (e : Effect Class Field Callee (List Image)) (given_by : List Cell) → Puts l next given_by lc m e
      → Makes program m e
  puts_makes (Go at stack locals memory) given_by h = λ all. subst (λ (x : Memory Class Field (List Image)). AreMade
      program x.heap) (sym h.1.1.1.is) (put_made h.1.1.1 all)
    where
      put_made : (p : PutsReference l m memory) → AreMade program m.heap → AreMade program (slice_set m.heap p.array
          (References p.class (slice_set p.items p.index p.value)))
      put_made p all = set_made program m p.array (References p.class p.items) (References p.class (slice_set p.items
          p.index p.value)) p.there refl all
  puts_makes (Raise fault) given_by h = tt
  puts_makes (Toss object) given_by h = tt
  puts_makes (Invoke callee) given_by h = tt
  puts_makes (Leave words) given_by h = tt
  puts_makes Stick given_by h = tt

  -- one array more
  adds_makes : (P : HeapObject Class Field → Type 0) → ((thing : HeapObject Class Field) → P thing
      → IsMade program (shape thing)) → (e : Effect Class Field Callee (List Image)) (given_by : List Cell)
      → Adds l next given_by lc m P e → Makes program m e
  adds_makes P f (Go at stack locals memory) given_by h = λ all. subst (λ (x : Memory Class Field
      (List Image)). AreMade program x.heap) (sym h.1.1.1.1.1) (pushed_made program m h.1.1.1.0
      (f h.1.1.1.0 h.1.1.1.1.0)
      all)
  adds_makes P f (Raise fault) given_by h = tt
  adds_makes P f (Toss object) given_by h = tt
  adds_makes P f (Invoke callee) given_by h = tt
  adds_makes P f (Leave words) given_by h = tt
  adds_makes P f Stick given_by h = tt

  -- it goes on with memory that holds what it may
  goes_done : (a : Act) (cs : List Cell) → falls_of a ≡ true → (let b = a in b.writes) ≡ []
      → (e : Effect Class Field Callee (List Image)) → Goes l program.fields next (stack_behind a lc cs) lc m e
      → Makes program m e → Done a cs e
  goes_done a cs falls none (Go at stack locals memory) h makes = (
    (
      subst (λ x. Contains (next_if (falls_of a) next ++ (let b = a in b.targets)) x) (sym h.0) (next_follows a next
          falls),
      (
        h.1.1.1.1,
        (
          h.1.0,
          subst (λ ws. AreLocals (object_is l memory.heap) (with_writes a lc (Cells cs) ws lc) locals) (sym none)
              h.1.1.0,
        ),
      ),
    ),
    (h.1.1.1.0, makes),
  )
  goes_done a cs falls none (Raise fault) h makes = (tt, tt)
  goes_done a cs falls none (Toss object) h makes = absurd h
  goes_done a cs falls none (Invoke callee) h makes = absurd h
  goes_done a cs falls none (Leave words) h makes = absurd h
  goes_done a cs falls none Stick h makes = absurd h

  onward_done : (a : Act) (cs given_by : List Cell) → falls_of a ≡ true → stack_behind a lc cs ≡ given_by
      → (let b = a in b.writes) ≡ [] → (e : Effect Class Field Callee (List Image)) → Onward l next given_by lc m e
      → Done a cs e
  onward_done a cs given_by falls is none e h = goes_done a cs falls none e
      (subst (λ x. Goes l program.fields next x lc m e) (sym is)
      (onward_go l program.fields next m fit given_by lc e h))
      (onward_makes e given_by h)

  -- ---- plain rows

  plain_done : (r : Row) (f : List ℤ → Calculation) (operands : List ℤ) (cs : List Cell) (e : Result)
      → (let a = plain_act r operands in Leaves (object_is l m.heap) (stack_behind a lc cs) (with_writes a lc (Cells cs)
      a.writes lc) e) → Done (plain_act r operands) cs (effect_of_result e next m)
  plain_done r f operands cs (Fine stack locals) h = same_done (plain_act r operands) cs next stack locals m
      (next_follows (plain_act r operands) next (plain_falls r operands)) h.0 h.1 refl
  plain_done r f operands cs (Fails fault) h = (tt, tt)
  plain_done r f operands cs Wrong h = absurd h

  -- ---- jumps and switches

  leads_done : (a : Act) (places : List ℕ) (cs : List Cell) → ((at : ℕ) → Contains places at
      → Contains (next_if (falls_of a) next ++ (let b = a in b.targets)) at) → (let b = a in b.writes) ≡ []
      → (e : Effect Class Field Callee (List Image)) → Leads l places (stack_behind a lc cs) lc m e → Done a cs e
  leads_done a places cs among none (Go at stack locals memory) h = same_done a cs at stack locals memory (among at h.0)
      h.1.0 (subst (λ ws. AreLocals (object_is l m.heap) (with_writes a lc (Cells cs) ws lc) locals) (sym none) h.1.1.0)
      h.1.1.1
  leads_done a places cs among none (Raise fault) h = absurd h
  leads_done a places cs among none (Toss object) h = absurd h
  leads_done a places cs among none (Invoke callee) h = absurd h
  leads_done a places cs among none (Leave words) h = absurd h
  leads_done a places cs among none Stick h = absurd h

  jump_among : (to : ℕ) (falls : Bool) (at : ℕ) → Contains (to ∷ next_if falls next) at
      → Contains (next_if falls next ++ to ∷ []) at
  jump_among to falls at h = elim (first_or_rest to (next_if falls next) at h) [
    | inl same ↦ in_right (next_if falls next) (to ∷ []) at (subst (λ x. Contains (to ∷ []) x) same (in_first to []))
    | inr later ↦ in_left (next_if falls next) (to ∷ []) at later
  ]

  switch_behind : (is_int : Bool) (cs : List Cell) → drop (length (number_words (switched_words is_int))) cs
      ≡ drop (switched_words is_int) cs
  switch_behind true cs = refl
  switch_behind false cs = refl

  -- ---- arrays

  -- the cells that a load of numbers gives
  load_behind : (letter : Letter) → (letter ≡ Reference → ⊥) → (c d : Cell) (cs : List Cell)
      → all_types (begins_with (arrays_of letter)) d ≡ true
      → stack_behind (loading_item letter) lc (c ∷ d ∷ cs) ≡ item_cells letter ++ cs
  load_behind Reference other c d cs e = absurd (other refl)
  load_behind Byte other c (Refs names) cs e = refl
  load_behind Short other c (Refs names) cs e = refl
  load_behind Int other c (Refs names) cs e = refl
  load_behind Byte other c Number cs e = cc
  load_behind Byte other c Unusable cs e = cc
  load_behind Short other c Number cs e = cc
  load_behind Short other c Unusable cs e = cc
  load_behind Int other c Number cs e = cc
  load_behind Int other c Unusable cs e = cc

  -- what an index on top of an array meets
  over_array : (nibbles : List ℕ) (c d : Cell) (cs : List Cell)
      → has_wrong (is_type_of l) (NumberWord ∷ OfArrays nibbles ∷ []) (c ∷ d ∷ cs) ≡ false
      → (c ≡ Number) × (all_types (begins_with nibbles) d ≡ true)
  over_array nibbles c d cs h =
      let x = or_parts (not (is_number c)) (not (all_types (begins_with nibbles) d) || false) h in
      let y = or_parts (not (all_types (begins_with nibbles) d)) false x.1 in
      (number_is c (true_of (is_number c) x.0), true_of (all_types (begins_with nibbles) d) y.0)

  -- an array alone
  only_array : (nibbles : List ℕ) (d : Cell) (cs : List Cell)
      → has_wrong (is_type_of l) (OfArrays nibbles ∷ []) (d ∷ cs) ≡ false → all_types (begins_with nibbles) d ≡ true
  only_array nibbles d cs h = true_of (all_types (begins_with nibbles) d)
      (or_parts (not (all_types (begins_with nibbles) d)) false h).0

  numbers_done : (letter : Letter) → (letter ≡ Reference → ⊥) → (c d : Cell) (cs : List Cell) (u v : Value)
      (vs : List Value) → AreWords (object_is l m.heap) (c ∷ d ∷ cs) (u ∷ v ∷ vs)
      → Parts (is_type_of l) room (loading_item letter) lc (c ∷ d ∷ cs)
      → Done (loading_item letter) (c ∷ d ∷ cs) (load_number (classes l) letter room next lv m (u ∷ v ∷ vs))
  numbers_done letter other c d cs u v vs w p =
      let h = over_array (arrays_of letter) c d cs p.operands in
      let gives = load_behind letter other c d cs h.1 in
      onward_done (loading_item letter) (c ∷ d ∷ cs) (item_cells letter ++ cs) refl gives refl
      (load_number (classes l) letter room next lv m (u ∷ v ∷ vs))
      (loads_number l room next lc lv m k (classes l) fit.numbers letter other c d cs u v vs h.0 h.1 w
      (subst (λ x. nat_lt room (length x) ≡ false) gives p.after))

  load_done : (letter : Letter) (cs : List Cell) (vs : List Value) → AreWords (object_is l m.heap) cs vs
      → Parts (is_type_of l) room (loading_item letter) lc cs
      → Done (loading_item letter) cs (effect_of_access (classes l) (Load letter) room next lv m vs)
  load_done letter [] vs w p = (let e = p.enough in absurd (omega (arith, e)))
  load_done letter (c ∷ []) vs w p = (let e = p.enough in absurd (omega (arith, e)))
  load_done letter (c ∷ d ∷ cs) [] w p = absurd w
  load_done letter (c ∷ d ∷ cs) (v ∷ []) w p = absurd w.1
  load_done Reference (c ∷ d ∷ cs) (u ∷ v ∷ vs) w p =
      let h = over_array (arrays_of Reference) c d cs p.operands in
      onward_done (loading_item Reference) (c ∷ d ∷ cs) (element_of d ∷ cs) refl refl refl
      (load_reference_item (classes l) room next lv m (u ∷ v ∷ vs))
      (loads_reference l room next lc lv m k fit.references (classes l) c d cs u v vs h.0 h.1 w p.after)
  load_done Byte (c ∷ d ∷ cs) (u ∷ v ∷ vs) w p = numbers_done Byte (λ e. cc) c d cs u v vs w p
  load_done Short (c ∷ d ∷ cs) (u ∷ v ∷ vs) w p = numbers_done Short (λ e. cc) c d cs u v vs w p
  load_done Int (c ∷ d ∷ cs) (u ∷ v ∷ vs) w p = numbers_done Int (λ e. cc) c d cs u v vs w p

  -- a number on top of an index on top of an array of them
  byte_stored : {cs : List Cell} {vs : List Value} → Tops (object_is l m.heap) 2 cs vs → 3 ≤ length cs
      → has_wrong (is_type_of l) (OfArrays (arrays_of Byte) ∷ []) (drop 2 cs) ≡ false
      → Done (storing_item Byte) cs (store_number (classes l) Byte next lv m vs)
  byte_stored (number x (number i (behind {cs = cs} {vs = vs} w))) o h = go cs vs w o h
    where
      go : (cs : List Cell) (vs : List Value) → AreWords (object_is l m.heap) cs vs → 3 ≤ suc (suc (length cs))
          → has_wrong (is_type_of l) (OfArrays (arrays_of Byte) ∷ []) cs ≡ false
          → Done (storing_item Byte) (Number ∷ Number ∷ cs) (store_number (classes l) Byte next lv m (Num x ∷ Num i
          ∷ vs))
      go [] vs w o h = absurd (omega (arith, o))
      go (d ∷ cs) [] w o h = absurd w
      go (d ∷ cs) (v ∷ vs) w o h = goes_done (storing_item Byte) (Number ∷ Number ∷ d ∷ cs) refl refl
          (store_number (classes l) Byte next lv m (Num x ∷ Num i ∷ v ∷ vs))
          (stored.byte_stored l program.fields next cs lc m fit vs w.1 lv k (classes l) x i d v
          (only_array (arrays_of Byte) d cs h) w.0)
          (stored_makes (store_number (classes l) Byte next lv m (Num x ∷ Num i ∷ v ∷ vs)) cs
          (stores_byte l next lc lv m k (classes l) fit.numbers cs vs w.1 x i d v (only_array
          (arrays_of Byte) d cs h) w.0))

  short_stored : {cs : List Cell} {vs : List Value} → Tops (object_is l m.heap) 2 cs vs → 3 ≤ length cs
      → has_wrong (is_type_of l) (OfArrays (arrays_of Short) ∷ []) (drop 2 cs) ≡ false
      → Done (storing_item Short) cs (store_number (classes l) Short next lv m vs)
  short_stored (number x (number i (behind {cs = cs} {vs = vs} w))) o h = go cs vs w o h
    where
      go : (cs : List Cell) (vs : List Value) → AreWords (object_is l m.heap) cs vs → 3 ≤ suc (suc (length cs))
          → has_wrong (is_type_of l) (OfArrays (arrays_of Short) ∷ []) cs ≡ false
          → Done (storing_item Short) (Number ∷ Number ∷ cs) (store_number (classes l) Short next lv m (Num x ∷ Num i
          ∷ vs))
      go [] vs w o h = absurd (omega (arith, o))
      go (d ∷ cs) [] w o h = absurd w
      go (d ∷ cs) (v ∷ vs) w o h = goes_done (storing_item Short) (Number ∷ Number ∷ d ∷ cs) refl refl
          (store_number (classes l) Short next lv m (Num x ∷ Num i ∷ v ∷ vs))
          (stored.short_stored l program.fields next cs lc m fit vs w.1 lv k (classes l) x i d v
          (only_array (arrays_of Short) d cs h) w.0)
          (stored_makes (store_number (classes l) Short next lv m (Num x ∷ Num i ∷ v ∷ vs)) cs
          (stores_short l next lc lv m k (classes l) fit.numbers cs vs w.1 x i d v (only_array
          (arrays_of Short) d cs h) w.0))

  int_stored : {cs : List Cell} {vs : List Value} → Tops (object_is l m.heap) 3 cs vs → 4 ≤ length cs
      → has_wrong (is_type_of l) (OfArrays (arrays_of Int) ∷ []) (drop 3 cs) ≡ false
      → Done (storing_item Int) cs (store_number (classes l) Int next lv m vs)
  int_stored (number low (number high (number i (behind {cs = cs} {vs = vs} w)))) o h = go cs vs w o h
    where
      go : (cs : List Cell) (vs : List Value) → AreWords (object_is l m.heap) cs vs → 4 ≤ suc (suc (suc (length cs)))
          → has_wrong (is_type_of l) (OfArrays (arrays_of Int) ∷ []) cs ≡ false
          → Done (storing_item Int) (Number ∷ Number ∷ Number ∷ cs) (store_number (classes l) Int next lv m (Num low
          ∷ Num high ∷ Num i ∷ vs))
      go [] vs w o h = absurd (omega (arith, o))
      go (d ∷ cs) [] w o h = absurd w
      go (d ∷ cs) (v ∷ vs) w o h = goes_done (storing_item Int) (Number ∷ Number ∷ Number ∷ d ∷ cs) refl refl
          (store_number (classes l) Int next lv m (Num low ∷ Num high ∷ Num i ∷ v ∷ vs))
          (stored.int_stored l program.fields next cs lc m fit vs w.1 lv k (classes l) low high i d v
          (only_array (arrays_of Int) d cs h) w.0)
          (stored_makes (store_number (classes l) Int next lv m (Num low ∷ Num high ∷ Num i ∷ v ∷ vs)) cs
          (stores_int l next lc lv m k (classes l) fit.numbers cs vs w.1 low high i d v (only_array
          (arrays_of Int) d cs h)
          w.0))

  -- a reference on top of an index on top of an array of them
  puts_done : (a : Act) (cs : List Cell) → falls_of a ≡ true → (let b = a in b.writes) ≡ []
      → (e : Effect Class Field Callee (List Image)) → Puts l next (stack_behind a lc cs) lc m e → Done a cs e
  puts_done a cs falls none e h = goes_done a cs falls none e (stored.puts_go l program.fields next
      (stack_behind a lc cs)
      lc m fit e h) (puts_makes e (stack_behind a lc cs) h)

  reference_stored : (cs : List Cell) (vs : List Value) → AreWords (object_is l m.heap) cs vs
      → Parts (is_type_of l) room (storing_item Reference) lc cs
      → Done (storing_item Reference) cs (store_reference (classes l) next lv m vs)
  reference_stored [] vs w p = (let e = p.enough in absurd (omega (arith, e)))
  reference_stored (b ∷ []) vs w p = (let e = p.enough in absurd (omega (arith, e)))
  reference_stored (b ∷ c ∷ []) vs w p = (let e = p.enough in absurd (omega (arith, e)))
  reference_stored (b ∷ c ∷ d ∷ cs) [] w p = absurd w
  reference_stored (b ∷ c ∷ d ∷ cs) (t ∷ []) w p = absurd w.1
  reference_stored (b ∷ c ∷ d ∷ cs) (t ∷ u ∷ []) w p = absurd w.1.1
  reference_stored (b ∷ c ∷ d ∷ cs) (t ∷ u ∷ v ∷ vs) w p =
      let x = or_parts (not (is_reference b)) (has_wrong (is_type_of l) (NumberWord ∷ OfArrays (arrays_of Reference)
      ∷ []) (c ∷ d ∷ cs)) p.operands in
      let y = over_array (arrays_of Reference) c d cs x.1 in
      puts_done (storing_item Reference) (b ∷ c ∷ d ∷ cs) refl refl (store_reference (classes l) next lv m (t ∷ u ∷ v
      ∷ vs))
      (stores_reference l next lc lv m k b c d cs t u v vs (true_of (is_reference b) x.0) y.0 y.1 w)

  store_done : (letter : Letter) (cs : List Cell) (vs : List Value) → AreWords (object_is l m.heap) cs vs
      → Parts (is_type_of l) room (storing_item letter) lc cs
      → Done (storing_item letter) cs (effect_of_access (classes l) (Store letter) room next lv m vs)
  store_done Reference cs vs w p = reference_stored cs vs w p
  store_done Byte cs vs w p =
      let e = p.enough in
      let h = front_right (is_type_of l) (number_words 2) (OfArrays (arrays_of Byte) ∷ []) cs p.operands p.enough in
      byte_stored (tops (object_is l m.heap) (is_type_of l) 2 cs vs w h.0 (omega (arith, e))) e h.1
  store_done Short cs vs w p =
      let e = p.enough in
      let h = front_right (is_type_of l) (number_words 2) (OfArrays (arrays_of Short) ∷ []) cs p.operands p.enough in
      short_stored (tops (object_is l m.heap) (is_type_of l) 2 cs vs w h.0 (omega (arith, e))) e h.1
  store_done Int cs vs w p =
      let e = p.enough in
      let h = front_right (is_type_of l) (number_words 3) (OfArrays (arrays_of Int) ∷ []) cs p.operands p.enough in
      int_stored (tops (object_is l m.heap) (is_type_of l) 3 cs vs w h.0 (omega (arith, e))) e h.1

  -- ---- one word on top

  -- what lies on top where one word is taken
  data IsTop (need : Need) : List Cell → List Value → Type 0 where
    top : (c : Cell) (cs : List Cell) (v : Value) (vs : List Value) → meets (is_type_of l) need c ≡ true
        → AreWords (object_is l m.heap) (c ∷ cs) (v ∷ vs) → IsTop need (c ∷ cs) (v ∷ vs)

  top_of : (need : Need) (cs : List Cell) (vs : List Value) → AreWords (object_is l m.heap) cs vs → 1 ≤ length cs
      → has_wrong (is_type_of l) (need ∷ []) cs ≡ false → IsTop need cs vs
  top_of need [] vs w o h = absurd (omega (arith, o))
  top_of need (c ∷ cs) [] w o h = absurd w
  top_of need (c ∷ cs) (v ∷ vs) w o h = top c cs v vs (true_of (meets (is_type_of l) need c)
      (or_parts (not (meets (is_type_of l) need c)) false h).0) w

  newarray_done : (element : Element) (type : List ℕ) → shape_by l type ≡ Some (OfNumbers element) → {cs : List Cell}
      {vs : List Value} → IsTop NumberWord cs vs → nat_lt room (length cs) ≡ false
      → Done (making type) cs (effect (classes l) (NewNumbers element) room next lv m vs)
  newarray_done element type kind (top c cs v vs e w) high = goes_done (making type) (c ∷ cs) refl refl
      (effect (classes l) (NewNumbers element) room next lv m (v ∷ vs))
      (stored.zeros_go l program.fields next (Refs (type ∷ []) ∷ cs) lc m fit element
      (effect (classes l) (NewNumbers element) room next lv m (v ∷ vs))
      (makes_numbers l room next lc lv m k (classes l) type element kind c cs v vs (number_is c e) w high))
      (adds_makes (AreZeros element) (λ thing z. subst (λ x. IsMade program (shape x)) (sym z.1) tt)
      (effect (classes l) (NewNumbers element) room next lv m (v ∷ vs)) (Refs (type ∷ []) ∷ cs)
      (makes_numbers l room next lc lv m k (classes l) type element kind c cs v vs (number_is c e) w high))

  anewarray_done : (class : Class) (type : List ℕ) → shape_by l type ≡ Some (OfReferences class) → {cs : List Cell}
      {vs : List Value} → IsTop NumberWord cs vs → nat_lt room (length cs) ≡ false
      → Done (making type) cs (effect (classes l) (NewReferences class) room next lv m vs)
  anewarray_done class type kind (top c cs v vs e w) high = goes_done (making type) (c ∷ cs) refl refl
      (effect (classes l) (NewReferences class) room next lv m (v ∷ vs))
      (stored.nulls_go l program.fields next (Refs (type ∷ []) ∷ cs) lc m fit class
      (effect (classes l) (NewReferences class) room next lv m (v ∷ vs))
      (makes_references l room next lc lv m k (classes l) type class kind c cs v vs (number_is c e) w high))
      (adds_makes (AreNulls class) (λ thing z. subst (λ x. IsMade program (shape x)) (sym z.1) tt)
      (effect (classes l) (NewReferences class) room next lv m (v ∷ vs)) (Refs (type ∷ []) ∷ cs)
      (makes_references l room next lc lv m k (classes l) type class kind c cs v vs (number_is c e) w high))

  checkcast_done : (target : Shape Class) (type : List ℕ) → shape_by l type ≡ Some target → {cs : List Cell}
      {vs : List Value} → IsTop ReferenceWord cs vs
      → Done (casting type) cs (effect (classes l) (Cast target) room next lv m vs)
  checkcast_done target type kind (top c cs v vs e w) = onward_done (casting type) (c ∷ cs) (Refs (type ∷ []) ∷ cs) refl
      refl refl (effect (classes l) (Cast target) room next lv m (v ∷ vs))
      (casts l room next lc lv m k target type kind c cs v vs e w)

  instanceof_done : (target : Shape Class) {cs : List Cell} {vs : List Value} → IsTop ReferenceWord cs vs
      → Done asking cs (effect (classes l) (Ask target) room next lv m vs)
  instanceof_done target (top c cs v vs e w) = onward_done asking (c ∷ cs) (Number ∷ cs) refl refl refl
      (effect (classes l) (Ask target) room next lv m (v ∷ vs)) (asks l room next lc lv m k target c cs v vs e w)

  length_done : {cs : List Cell} {vs : List Value} → IsTop (OfArrays all_arrays) cs vs
      → Done counting cs (effect_of_access (classes l) Length room next lv m vs)
  length_done (top c cs v vs e w) = onward_done counting (c ∷ cs) (Number ∷ cs) refl refl refl
      (effect_of_access (classes l) Length room next lv m (v ∷ vs))
      (lengths_go l room next lc lv m k (classes l) c cs v vs e w)

  throw_done : {cs : List Cell} {vs : List Value} → IsTop (OfType program.exceptions) cs vs
      → Done (throwing program.exceptions) cs (effect_of_access (classes l) Throw room next lv m vs)
  throw_done (top c cs v vs e w) = go (effect_of_access (classes l) Throw room next lv m (v ∷ vs))
      (throws l room next lc lv m k (classes l) program.exceptions c cs v vs e w)
    where
      go : (e : Effect Class Field Callee (List Image)) → IsThrown l program.exceptions m e
          → Done (throwing program.exceptions) (c ∷ cs) e
      go (Go at stack locals memory) h = absurd h
      go (Raise fault) h = (tt, tt)
      go (Toss object) h = (h, tt)
      go (Invoke callee) h = absurd h
      go (Leave words) h = absurd h
      go Stick h = absurd h

  return_done : (letter : Option Letter) → is_returned_by letter result ≡ true → (cs : List Cell) (vs : List Value)
      → AreWords (object_is l m.heap) cs vs → has_wrong (is_type_of l) (needs_of result) cs ≡ false
      → length (needs_of result) ≤ length cs
      → Done (leaving result) cs (effect_of_access (classes l) (Return letter) room next lv m vs)
  return_done letter is cs vs w h o = go (effect_of_access (classes l) (Return letter) room next lv m vs)
      (leaves l room next lc lv m k letter result is cs vs w h o (classes l))
    where
      go : (e : Effect Class Field Callee (List Image)) → IsLeft l result m e → Done (leaving result) cs e
      go (Go at stack locals memory) h = absurd h
      go (Raise fault) h = absurd h
      go (Toss object) h = absurd h
      go (Invoke callee) h = absurd h
      go (Leave words) h = (h, tt)
      go Stick h = absurd h

  -- ---- all

  pub instruction_done : (a : Act) (operation : Operation Class Field StaticCell Callee)
      → Suits l program result a operation → (cs : List Cell) (vs : List Value)
      → AreWords (object_is l m.heap) cs vs → Passes (is_type_of l) room a lc cs → Parts (is_type_of l) room a lc cs
      → Done a cs (effect (classes l) operation room next lv m vs)
  instruction_done _ _ (plain {r = r} {f = f} {kinds = kinds} operands beside read) cs vs w passes p = plain_done r f
      operands
      cs (f operands room lv vs) (plain_kept (object_is l m.heap) (is_type_of l) room lc lv k r f kinds beside operands
      read cs vs w p)
  instruction_done _ _ (jump {needs = needs} {falls = falls} {test = test} to beside) cs vs w passes p = leads_done
      (record idle { takes = needs; falls = falls; targets = to ∷ [] }) (to ∷ next_if falls next) cs
      (jump_among to falls) refl (effect (classes l) (Branch test to) room next lv m vs)
      (jump_leads l room next lc lv m k (classes l) (is_type_of l) to needs falls test beside cs vs w p.operands
      p.enough)
  instruction_done _ _ (switch is_int other arms) cs vs w passes p = leads_done (switching is_int other arms)
      (other ∷ map (λ (a : Arm). a.to) arms) cs (λ at h. h) refl
      (effect (classes l) (Pick is_int other arms) room next lv m vs)
      (subst (λ x. Leads l (other ∷ map (λ (a : Arm). a.to) arms) x lc m (effect (classes l) (Pick is_int other arms)
      room next lv m vs)) (sym (switch_behind is_int cs))
      (picks l room next lc lv m k (classes l) (is_type_of l) is_int other arms cs vs w p.operands p.enough))
  instruction_done _ _ (load letter) cs vs w passes p = load_done letter cs vs w p
  instruction_done _ _ (store letter) cs vs w passes p = store_done letter cs vs w p
  instruction_done _ _ arraylength cs vs w passes p = length_done (top_of
      (OfArrays all_arrays) cs vs w p.enough p.operands)
  instruction_done _ _ athrow cs vs w passes p = throw_done (top_of
      (OfType program.exceptions) cs vs w p.enough p.operands)
  instruction_done _ _ (return letter is) cs vs w passes p = return_done letter is cs vs w p.operands p.enough
  instruction_done _ _ (newarray element type kind) cs vs w passes p = newarray_done element type kind
      (top_of NumberWord cs vs w p.enough p.operands) (ltb_high room (length cs) p.before)
  instruction_done _ _ (anewarray class type kind) cs vs w passes p = anewarray_done class type kind
      (top_of NumberWord cs vs w p.enough p.operands) (ltb_high room (length cs) p.before)
  instruction_done _ _ (checkcast target type kind) cs vs w passes p = checkcast_done target type kind
      (top_of ReferenceWord cs vs w p.enough p.operands)
  instruction_done _ _ (instanceof target) cs vs w passes p = instanceof_done target
      (top_of ReferenceWord cs vs w p.enough p.operands)
  instruction_done _ _ (call is) cs vs w passes p = (is, tt)
  instruction_done _ _ (getfield f letter type name typed moved named) cs vs w passes p = goes_done
      (record idle { takes = OfType name ∷ []; gives = words type }) cs refl refl
      (effect (classes l) (Get false letter f) room next lv m vs)
      (get_field l program.fields room next lc lv m k fit supers declared f type typed letter moved name named
      (record idle { takes = OfType name ∷ []; gives = words type }) refl refl cs vs w passes)
      (get_makes program m (classes l) false letter f room next lv vs)
  instruction_done _ _ (getfield_this f letter type name typed moved named) cs vs w passes p = goes_done
      (record idle { reads = reading 0 (OfType name) ∷ []; gives = words type }) cs refl refl
      (effect (classes l) (Get true letter f) room next lv m vs)
      (get_field_this l program.fields room next lc lv m k fit supers declared f type typed letter moved name named
      (record idle { reads = reading 0 (OfType name) ∷ []; gives = words type }) refl refl refl cs vs w passes)
      (get_makes program m (classes l) true letter f room next lv vs)
  instruction_done _ _ (putfield f letter type name typed moved named) cs vs w passes p = goes_done
      (record idle { takes = needs_of type ++ OfType name ∷ [] }) cs refl refl
      (effect (classes l) (Put false letter f) room next lv m vs)
      (put_field l program.fields room next lc lv m k fit supers declared f type typed letter moved name named
      (record idle { takes = needs_of type ++ OfType name ∷ [] }) refl refl cs vs w passes)
      (put_makes program m (classes l) false letter f room next lv vs)
  instruction_done _ _ (putfield_this f letter type name typed moved named) cs vs w passes p = goes_done
      (record idle { takes = needs_of type; reads = reading 0 (OfType name) ∷ [] }) cs refl refl
      (effect (classes l) (Put true letter f) room next lv m vs)
      (put_field_this l program.fields room next lc lv m k fit supers declared f type typed letter moved name named
      (record idle { takes = needs_of type; reads = reading 0 (OfType name) ∷ [] }) refl refl refl cs vs w passes)
      (put_makes program m (classes l) true letter f room next lv vs)
  instruction_done _ _ (getstatic c letter type typed moved) cs vs w passes p = goes_done
      (record idle { gives = words type }) cs refl refl (effect (classes l) (GetStatic letter c) room next lv m vs)
      (get_cell l program.fields room next lc lv m k fit c type typed letter moved (record idle { gives = words type })
      refl refl cs vs w passes)
      (get_static_makes program m (classes l) letter c room next lv vs)
  instruction_done _ _ (putstatic c letter type typed moved) cs vs w passes p = goes_done
      (record idle { takes = needs_of type }) cs refl refl (effect (classes l) (PutStatic letter c) room next lv m vs)
      (put_cell l program.fields room next lc lv m k fit c type typed letter moved
      (record idle { takes = needs_of type }) refl refl cs vs w passes)
      (put_static_makes program m (classes l) letter c room next lv vs)
  instruction_done _ _ (new class name is_made made_of named) cs vs w passes p = goes_done
      (record idle { gives = AnObject name ∷ [] }) cs refl refl (effect (classes l) (New class) room next lv m vs)
      (new_object l program.fields room next lc lv m k fit supers declared class made_of name named
      (record idle { gives = AnObject name ∷ [] }) refl refl cs vs w passes)
      (new_makes program m (classes l) class is_made room next lv vs)
