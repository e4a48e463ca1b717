-- The methods of components that the type checker passes are typed: their tables are closed and break no rule, their
-- handlers are those of the package, and their instructions lead to instructions.
use Rattle.std.proofs.Common.{◌≡◌, ◌⊎◌, ℕ, zero, suc, ◌+◌, ◌-◌, ◌<◌, ◌≤◌, ◌==◌, refl, sym, ap, subst, ◌∙◌, arith, Bool}
use Rattle.std.proofs.Common.{true, false, inl, inr, ⊎_elim, List, [], ◌∷◌, drop, length, map, slice_get, Option, Some}
use Rattle.std.proofs.Common.{None}
use Rattle.std.specs.Prelude.{Contains, ◌&&◌, ◌||◌, nat_le, nat_lt, not, option_and_then, option_map, if◌then◌else◌}
use Rattle.std.specs.Prelude.{position}
use Rattle.std.specs.List.{AllZip, list_all}
use Rattle.std.proofs.lemmas.Bool.{leb-true, ltb-true}
use Rattle.cjc_capread.specs.declared.tree.ClassRef.{ClassRef}
use Rattle.cjc_capread.specs.declared.tree.Handler.{Handler}
use Rattle.cjc_capread.specs.declared.tree.MethodDescriptor.{MethodDescriptor}
use Rattle.cjc_capread.specs.declared.tree.PoolEntry.{PoolEntry}
use Rattle.cjc_capread.specs.declared.tree.PoolEntry.TheVariants.{Classref, InstanceFieldref, VirtualMethodref}
use Rattle.cjc_capread.specs.declared.tree.PoolEntry.TheVariants.{SuperMethodref, StaticFieldref, StaticMethodref}
use Rattle.cjc_capread.specs.Decode.{Instruction, decode, size}
use Rattle.cjc_check_rules.specs.Codes.{Code as Cut, codes, methods_begin, whole_spots}
use Rattle.cjc_check_rules.specs.Complete.{Complete}
use Rattle.cjc_check_rules.specs.Handlers.{handler_spots}
use Rattle.cjc_check_rules.specs.Instructions.{ends_code, has_start, jump_spots, jumps, lands}
use Rattle.cjc_check_rules.specs.Spots.{Placed, begins, in_info}
use Rattle.cjc_verify.specs.Check.Jumps.Standing.{AreApart}
use Rattle.cjc_world.specs.declared.image.StaticImage.{StaticImage}
use Rattle.cjc_world.specs.Files.{Files}
use Rattle.cjc_card_semantics.specs.Bytecode.Machine.{Fetched, Start}
use Rattle.cjc_card_semantics.specs.Machine.Loaded.{Loaded, Part}
use Rattle.cjc_card_semantics.specs.Machine.Classes.{Class, Field, class_of}
use Rattle.cjc_card_semantics.specs.Machine.Statics.{StaticCell}
use Rattle.cjc_card_semantics.specs.Machine.Operations.{Callee, class_at, class_by, moved}
use Rattle.cjc_card_semantics.specs.Machine.Methods.{Code, fetch, fetched_as, start_at, start_of}
use Rattle.cjc_card_semantics.specs.Script.Sorts.{OfClass}
use Rattle.cjc_intervals.specs.Types.declared.state.State.{State}
use Rattle.cjc_verify.specs.Frames.declared.acts.Act.{Act}
use Rattle.cjc_verify.specs.Frames.declared.acts.Catch.{Catch}
use Rattle.cjc_verify.specs.Frames.declared.acts.Step.{Step}
use Rattle.cjc_verify.specs.Frames.Flow.{covers, place_at}
use Rattle.cjc_verify.specs.Frames.Tables.{Breach, IsLeastTable}
use Rattle.cjc_card_acts.specs.CardTypes.{ValueType, is_type_of, shape_by}
use Rattle.cjc_card_acts.specs.Rows.{row}
use Rattle.cjc_components.specs.Paired.Naming.{part_of}
use Rattle.cjc_verify.specs.Bodies.{Body, bodies, catch, caught_type, frames_of, step, type_of_body}
use Rattle.cjc_verify.specs.ClassTypes.{class_type}
use Rattle.cjc_verify.specs.Instructions.{act, class_in, throwable}
use Rattle.cjc_verify.specs.Named.{entry_of}
use Rattle.cjc_verify.specs.Pairs.{Pair, pair_of}
use Rattle.cjc_verify.specs.Verified.{IsVerified, in_code}
use Rattle.cjc_verify_proof.specs.Frames.{Begins, IsCatch, IsCaught, IsMethod, Typing}
use Rattle.cjc_verified_proof.specs.Entries.{AreRefs, IsRef}
use Rattle.cjc_verified_proof.specs.Programs.{IsTypingOf, code_of}
use Rattle.cjc_bytes.proofs.Gets.{contains_at, get_mapped, mapped_at}
use Rattle.cjc_bytes.proofs.Numbers.{number_same_number, other_number}
use Rattle.cjc_bytes.proofs.Plain.{same_some}
use Rattle.cjc_verify.proofs.CheckApart.{codes_apart}
use Rattle.cjc_verified_proof.proofs.ActLaws.{act_leads, may_fall}
use Rattle.cjc_verified_proof.proofs.BodyLaws.{StandsIn, body_stands, method_has_body}
use Rattle.cjc_cut_proof.specs.Cuts.{AreOf, EndBehind, IsMethodAt, StandApart}
use Rattle.cjc_cut_proof.proofs.CardLaws.{follows_next, instruction_fetched, method_starts, starts_there}
use Rattle.cjc_cut_proof.proofs.CutLaws.{first_begins, stands}
use Rattle.cjc_tokens.proofs.Facts.{position-cons}
use Rattle.cjc_verified_proof.proofs.EndLaws.{last_falls_not}
use Rattle.cjc_cut_proof.proofs.LandLaws.{all_jumps, code_begins, covered_lands, handler_leads, jump_lands}
use Rattle.cjc_verified_proof.proofs.PlaceLaws.{all_read}

-- ---- instructions by their offsets

-- where an instruction begins there is its place, whatever is made of instructions
pub place_there : {S : Type 0} (f : Placed Instruction → S) (at : S → ℕ) → ((i : Placed Instruction) → at (f i) ≡ i.at)
    → (is : List (Placed Instruction)) (offset : ℕ) → begins is offset ≡ true
    → (k : ℕ) × (position (λ s. at s == offset) (map f is) ≡ Some k)
place_there {S} f at same [] offset e = absurd cc
place_there {S} f at same (i ∷ is) offset e =
    let r = by (at (f i) == offset) (ap (λ n. n == offset) (same i)) e (place_there f at same is offset) in
    (r.0, position-cons (λ s. at s == offset) (f i) (map f is) ∙ r.1)
  where
    by : (b : Bool) → b ≡ (i.at == offset) → ((i.at == offset) || begins is offset) ≡ true → (begins is offset ≡ true
        → (k : ℕ) × (position (λ s. at s == offset) (map f is) ≡ Some k))
        → (k : ℕ) × ((if b then Some 0 else option_map suc (position (λ s. at s == offset) (map f is))) ≡ Some k)
    by true is_there e more = (0, refl)
    by false is_there e more = let r = more (ap (λ t. t || begins is offset) is_there ∙ e) in (
      suc r.0,
      ap
          (option_map suc) r.1,
    )

-- ---- codes stand apart

later_starts : (from : ℕ) (cs : List Cut) → AreApart from cs → (j : ℕ) (b : Cut) → slice_get cs j ≡ Some b → (y : ℕ)
    → has_start b y ≡ true → from ≤ y
later_starts from [] h j b e y s = absurd cc
later_starts from (c ∷ cs) h zero b e y s = (h.0 y (ap (λ x. has_start x y) (same_some e) ∙ s)).0
later_starts from (c ∷ cs) h (suc j) b e y s = let low = h.1 in let high = later_starts c.end cs h.2 j b e y s
    in omega (arith, low, high)

apart_from : (from : ℕ) (cs : List Cut) → AreApart from cs → StandApart cs
apart_from from [] h k j a b e f x y s t le lt = absurd cc
apart_from from (c ∷ cs) h zero zero a b e f x y s t le lt = sym (same_some e) ∙ same_some f
apart_from from (c ∷ cs) h zero (suc j) a b e f x y s t le lt =
    let same = ap (λ (q : Cut). q.end) (same_some e) in
    let high = later_starts c.end cs h.2 j b f y t in
    absurd (omega (arith, same, high, lt))
apart_from from (c ∷ cs) h (suc k) zero a b e f x y s t le lt =
    let low = (h.0 y (ap (λ q. has_start q y) (same_some f) ∙ t)).1 in
    let high = later_starts c.end cs h.2 k a e x s in
    absurd (omega (arith, low, high, le))
apart_from from (c ∷ cs) h (suc k) (suc j) a b e f x y s t le lt = apart_from c.end cs h.2 k j a b e f x y s t le lt

ends_from : (from : ℕ) (cs : List Cut) → AreApart from cs → EndBehind cs
ends_from from [] h k a e x s = absurd cc
ends_from from (c ∷ cs) h zero a e x s = subst (λ (q : Cut). x < q.end) (same_some e) (h.0 x
    (ap (λ q. has_start q x) (same_some e) ∙ s)).1
ends_from from (c ∷ cs) h (suc k) a e x s = ends_from c.end cs h.2 k a e x s

-- an instruction begins at its own offset
begins_there : (is : List (Placed Instruction)) (k : ℕ) (i : Placed Instruction) → slice_get is k ≡ Some i
    → begins is i.at ≡ true
begins_there [] k i e = absurd cc
begins_there (j ∷ is) zero i e = ap (λ b. b || begins is i.at) (number_same_number j.at i.at
    (ap (λ (q : Placed Instruction). q.at) (same_some e)))
begins_there (j ∷ is) (suc k) i e = by (j.at == i.at) (begins_there is k i e)
  where
    by : (b : Bool) → begins is i.at ≡ true → (b || begins is i.at) ≡ true
    by true f = refl
    by false f = f

both : (a b : Bool) → (a && b) ≡ true → (a ≡ true) × (b ≡ true)
both true b e = (refl, e)
both false b e = absurd cc

-- an instruction of a code is what some bytes say
item_decoded : (c : Complete) (m : MethodDescriptor) (code : Cut) → IsMethodAt c m code → (k : ℕ)
    (i : Placed Instruction) → slice_get code.instructions k ≡ Some i → (bytes : List ℕ) × (decode bytes ≡ Some i.item)
item_decoded c m code at k i e =
    let is = at.is_cut in
    let h = is.header in
    let x = c.method in
    let bytes = drop h.size (drop (m.offset - methods_begin c) x.methods) in
    let s = stands m.bytecode_count m.bytecode_count (m.offset + h.size) bytes code.instructions is.cut k i e in
    (drop s.skipped bytes, s.decoded)

-- a method with its table
abbrev pub typing : Pair → Body → List (Option State) → Typing
typing p b rows = record {
  code = code_of b;
  body = frames_of p b;
  rows = rows;
  result = (let t = type_of_body p.components b in t.result);
}

pub typing_is : (p : Pair) (b : Body) (t : Typing) → IsTypingOf p b t → typing p b t.rows ≡ t
typing_is p b t is =
    ap (λ (x : Code). record {
      code = x;
      body = frames_of p b;
      rows = t.rows;
      result = (let m = type_of_body p.components
          b in m.result);
    }) (sym is.code)
    ∙ ap (λ (x : _). record {
      code = t.code;
      body = x;
      rows = t.rows;
      result = (let m = type_of_body p.components
          b in m.result);
    }) (sym is.body)
    ∙ ap (λ (x : ValueType). record { code = t.code; body = t.body; rows = t.rows; result = x }) (sym is.result)

module _ (applets : Bool) (files : Files) (image : StaticImage) (c : Complete) (whole : whole_spots c ≡ [])
    (jump : jump_spots c ≡ []) where
  abbrev p : Pair
  p = pair_of applets files image c

  abbrev l : Loaded
  l = p.loaded

  abbrev part : Part
  part = part_of applets files image c

  of : AreOf part c
  of = record { method = refl; class = refl; descriptor = refl }

  apart : StandApart (codes c)
  apart = apart_from 0 (codes c) (codes_apart c)

  ends : EndBehind (codes c)
  ends = ends_from 0 (codes c) (codes_apart c)

  -- ---- what begins

  -- a method begins at its offset, abstract or not
  pub body_starts : (k : ℕ) (b : Body) → slice_get (bodies c) k ≡ Some b
      → start_of l 0 (let m = b.method in m.offset) ≡ Some (start_at 0 (let m = b.method in m.offset) b.header b.method)
  body_starts k b e =
      let s = body_stands c whole k b e in
      let m = b.method in
      method_starts c whole part of 0 k b.method s.method s.code s.at ∙ ap (λ h. Some (start_at 0 m.offset h b.method))
      s.header

  -- what begins at an offset is a method
  pub begins_body : (offset : ℕ) (m : Start Code) → start_of l 0 offset ≡ Some m → (k : ℕ) × (b : Body)
      × (slice_get (bodies c) k ≡ Some b) × ((let x = b.method in x.offset) ≡ offset)
      × (m ≡ start_at 0 offset b.header b.method)
  begins_body offset m e =
      let r = starts_there c whole part of 0 offset m e in
      let b = method_has_body c whole r.0 r.1 r.2 in
      let at : (let x = (b.0).method in x.offset) ≡ offset = ap (λ x. x.offset) b.2 ∙ r.3 in (
        r.0,
        b.0,
        b.1,
        at,
        same_some (sym e ∙ ap (start_of l 0) (sym at) ∙ body_starts r.0 b.0 b.1) ∙ ap (λ n. start_at 0 n (b.0).header
            (b.0).method) at,
      )

  -- ---- instructions

  -- an instruction of a method, which the card fetches
  pub record IsStep (b : Body) (place : ℕ) (s : Step) : Type 0 where
    pub item : Placed Instruction
    pub is_item : slice_get b.instructions place ≡ Some item
    pub is : step p (let t = type_of_body c b in t.result) item ≡ s
    pub fetched : fetch l (code_of b) item.at ≡ Some (fetched_as l 0 part.pool item.at item.item)
    pub bytes : List ℕ
    pub decoded : decode bytes ≡ Some item.item

  pub step_there : (k : ℕ) (b : Body) → slice_get (bodies c) k ≡ Some b → (place : ℕ) (s : Step)
      → slice_get (let f = frames_of p b in f.steps) place ≡ Some s → IsStep b place s
  step_there k b e place s f =
      let stands = body_stands c whole k b e in
      let r = mapped_at (step p (let t = type_of_body c b in t.result)) b.instructions place s f in
      let h = b.header in
      let m = b.method in
      record {
        item = r.0;
        is_item = r.1;
        is = r.2;
        fetched = ap (λ (x : _). fetch l (record {
          part = 0;
          room = h.max_stack;
          first = m.offset + x.size;
          end = m.offset + x.size + m.bytecode_count;
        }) (r.0).at) (sym stands.header) ∙ instruction_fetched c whole part of l 0 h.max_stack refl m stands.code
            stands.at
            place r.0 (ap (λ is. slice_get is place) (sym stands.instructions) ∙ r.1);
        bytes = (item_decoded c b.method stands.code stands.at place r.0 (ap (λ is. slice_get is place)
            (sym stands.instructions) ∙ r.1)).0;
        decoded = (item_decoded c b.method stands.code stands.at place r.0 (ap (λ is. slice_get is place)
            (sym stands.instructions) ∙ r.1)).1;
      }

  -- the place of an instruction that begins at an offset
  place_of : (k : ℕ) (b : Body) → (stands : StandsIn c k b) → (offset : ℕ) → has_start stands.code offset ≡ true
      → (to : ℕ) × (place_at (let f = frames_of p b in f.steps) offset ≡ Some to)
  place_of k b stands offset e = place_there (step p (let t = type_of_body c b in t.result)) (λ (s : Step). s.at)
      (λ i. refl) b.instructions offset (ap (λ is. begins is offset) stands.instructions ∙ e)

  -- a method that is not abstract begins where its first instruction stands
  pub begins_there_typed : (k : ℕ) (b : Body) → slice_get (bodies c) k ≡ Some b → (rows : List (Option State))
      → (let h = b.header in h.is_abstract ≡ false)
      → Begins (typing p b rows) (start_at 0 (let m = b.method in m.offset) b.header b.method)
  begins_there_typed k b e rows concrete =
      let standing = body_stands c whole k b e in
      let at = standing.at in
      let is = at.is_cut in
      let m = b.method in
      let result = (let t = type_of_body c b in t.result) in
      let first = code_begins c jump k standing.code standing.among (is.is_abstract ∙ ap (λ h. h.is_abstract)
      standing.header ∙ concrete) in
      record {
        is_code = refl;
        first = step p result first.0;
        is_first = get_mapped (step p result) b.instructions 0 ∙ ap (λ is. option_map (step p result)
            (slice_get is 0)) standing.instructions ∙ ap (option_map (step p result)) first.1;
        at_first = first_begins m.bytecode_count m.bytecode_count _ _ (let y = standing.code in y.instructions) is.cut
            first.0 first.1 ∙ ap (λ h. m.offset + h.size) standing.header;
        count = refl;
        concrete = concrete;
      }

  module _ (handled : handler_spots c ≡ []) (refs : AreRefs c) (verified : IsVerified p) (exceptions : List ℕ)
      (thrown : throwable p ≡ Some exceptions) where
    -- ---- handlers

    caught : (index : ℕ) → IsCaught l 0 part.pool exceptions index (caught_type p index)
    caught zero = thrown
    caught (suc k) = λ class e. by (entry_of p (suc k)) refl class e
      where
        apart_from_zero : (suc k == 0) ≡ false
        apart_from_zero = other_number (suc k) 0 (λ same. omega (arith, same))

        named : caught_type p (suc k) ≡ option_map class_type (class_in (entry_of p (suc k)))
        named = ap (λ b. if b then throwable p else option_map class_type (class_in (entry_of p (suc k))))
            apart_from_zero

        by : (o : Option PoolEntry) → entry_of p (suc k) ≡ o → (class : Class) → class_at l 0 o ≡ Some class
            → (type : List ℕ) × ((caught_type p (suc k) ≡ Some type) × (shape_by l type ≡ Some (OfClass class)))
        by None f class e = absurd cc
        by (Some (Classref r)) f class e = (
          class_type r,
          (
            named ∙ ap (λ o. option_map class_type (class_in o)) f,
            ap (option_map OfClass) (all_read l r (refs.entries (suc k) (Classref r) f) ∙ e),
          ),
        )
        by (Some (InstanceFieldref r t)) f class e = absurd cc
        by (Some (VirtualMethodref r t)) f class e = absurd cc
        by (Some (SuperMethodref r t)) f class e = absurd cc
        by (Some (StaticFieldref r)) f class e = absurd cc
        by (Some (StaticMethodref r)) f class e = absurd cc

    all_caught : (hs : List Handler) → AllZip (IsCatch l 0 part.pool exceptions) hs (map (catch p) hs)
    all_caught [] = tt
    all_caught (h ∷ hs) = (
      record { start = refl; length = refl; target = refl; caught = caught h.catch_index },
      all_caught hs,
    )

    -- ---- methods

    module _ (k : ℕ) (b : Body) (e : slice_get (bodies c) k ≡ Some b) (rows : List (Option State))
        (least : IsLeastTable (frames_of p b) rows) where
      standing : StandsIn c k b
      standing = body_stands c whole k b e

      abbrev result : ValueType
      result = let t = type_of_body c b in t.result

      lands_there : (place : ℕ) (s : Step) → slice_get (let f = frames_of p b in f.steps) place ≡ Some s → (x : Catch)
          → Contains (let f = frames_of p b in f.catches) x → covers x s.at ≡ true
          → (to : ℕ) × (place_at (let f = frames_of p b in f.steps) x.target ≡ Some to)
      lands_there place s f x among covered =
          let i = step_there k b e place s f in
          let hs = (let m = c.method in m.handlers) in
          let r = contains_at (map (catch p) hs) x among in
          let h = mapped_at (catch p) hs r.0 x r.1 in
          let at : covers (catch p h.0) (let q = i.item in q.at) ≡ true = ap (λ y. covers y
          (let q = i.item in q.at)) h.2
          ∙ ap (λ (y : Step). covers x y.at) i.is ∙ covered in
          let w = h.0 in
          let q = i.item in
          let t = both (nat_le w.start q.at) (nat_lt q.at (w.start + w.length)) at in
          let starts : has_start standing.code q.at ≡ true = begins_there
          (let y = standing.code in y.instructions) place q
          (ap (λ is. slice_get is place) (sym standing.instructions) ∙ i.is_item) in
          let leads = handler_leads c handled r.0 w h.1 in
          let to = covered_lands (codes c) apart ends w leads k standing.code standing.among q.at starts
          (leb-true w.start q.at t.0) (ltb-true q.at (w.start + w.length) t.1) in
          let place_to = place_of k b standing w.handler to in
          (place_to.0, ap (λ (y : Catch). place_at (let f = frames_of p b in f.steps) y.target) (sym h.2) ∙ place_to.1)

      jumps_there : (place : ℕ) (s : Step) → slice_get (let f = frames_of p b in f.steps) place ≡ Some s → (at : ℕ)
          → Contains (let a = s.act in a.targets) at
          → (to : ℕ) × (place_at (let f = frames_of p b in f.steps) at ≡ Some to)
      jumps_there place s f at among =
          let i = step_there k b e place s f in
          let q = i.item in
          let leads = act_leads p result q (row (let x = q.item in x.opcode)) in
          let here : Contains (let a = act p result q in a.targets) at = subst (λ (y : Step). Contains (let a = y.act
          in a.targets) at) (sym i.is) among in
          let j = all_jumps c jump k standing.code standing.among place q (ap (λ is. slice_get is place)
          (sym standing.instructions) ∙ i.is_item) in
          place_of k b standing at (⊎_elim
          (λ none. absurd (no_target (subst (λ ts. Contains ts at) none here)))
          (λ some. jump_lands standing.code q.at (jumps q.item) j.land at (subst (λ ts. Contains ts at) some here))
          leads.targets)
        where
          no_target : {n : ℕ} → Contains [] n → ⊥
          no_target {n} h = let r = contains_at [] n h in let f = r.1 in cc

      follows_there : (place : ℕ) (s : Step) → slice_get (let f = frames_of p b in f.steps) place ≡ Some s
          → (let a = s.act in a.falls) ≡ true → (f : Fetched Class Field StaticCell Callee)
          → fetch l (code_of b) s.at ≡ Some f → (n : Step)
          × ((slice_get (let f = frames_of p b in f.steps) (place + 1) ≡ Some n) × (n.at ≡ f.next))
      follows_there place s f falls g fetches =
          let i = step_there k b e place s f in
          let q = i.item in
          let op = (let x = q.item in x.opcode) in
          let leads = act_leads p result q (row op) in
          let may : may_fall (row op) ≡ true = sym leads.falls ∙ ap (λ (y : Step). let a = y.act in a.falls) i.is
          ∙ falls in
          let got = ap (λ is. slice_get is place) (sym standing.instructions) ∙ i.is_item in
          let j = all_jumps c jump k standing.code standing.among place q got in
          let next : f_next g ≡ q.at + size q.item = ap f_next (same_some (sym fetches ∙ ap (λ (y : Step).
          fetch l (code_of b) y.at) (sym i.is) ∙ i.fetched)) in
          by q got (slice_get b.instructions (suc place)) refl may
          (λ none. j.last (ap (λ is. slice_get is (suc place)) (sym standing.instructions) ∙ none)) next
        where
          f_next : Fetched Class Field StaticCell Callee → ℕ
          f_next x = x.next

          by : (q : Placed Instruction) → slice_get (let y = standing.code in y.instructions) place ≡ Some q
              → (o : Option (Placed Instruction)) → slice_get b.instructions (suc place) ≡ o
              → may_fall (row (let x = q.item in x.opcode)) ≡ true
              → (slice_get b.instructions (suc place) ≡ None → ends_code (let x = q.item in x.opcode) ≡ true)
              → f_next g ≡ q.at + size q.item → (n : Step)
              × ((slice_get (let f = frames_of p b in f.steps) (place + 1) ≡ Some n) × (n.at ≡ f_next g))
          by q got None none may last next = absurd (let x = q.item in let no = last_falls_not x.opcode (last none)
              in let clash : true ≡ false = sym may ∙ no in cc)
          by q got (Some z) some may last next =
              let at = standing.at in
              let is = at.is_cut in
              let m = b.method in
              let one : place + 1 ≡ suc place = omega arith in (
                step p result z,
                (
                  ap (slice_get (let f = frames_of p b in f.steps)) one ∙ get_mapped (step p result) b.instructions
                      (suc place) ∙ ap (option_map (step p result)) some,
                  follows_next c m standing.code at place q z got (ap (λ is. slice_get is (suc place))
                      (sym standing.instructions) ∙ some) ∙ sym next,
                ),
              )

      pub typed_method : IsMethod l exceptions (typing p b rows)
      typed_method = record {
        room = refl;
        closed = least.closed;
        unbroken = λ place rule breach. verified _ (in_code k b rows place rule e least breach);
        ends = λ place s f ended. (
            let i = step_there k b e place s f in
            let q = i.item in
            let leads = act_leads p result q (row (let x = q.item in x.opcode)) in
            subst (λ (y : Step). (let a = y.act in a.ends) ≡ true → (let a = y.act in a.misnames)
            ≡ true) i.is leads.ends
            ended
            );
        catches = λ q f. subst (λ (y : Part). AllZip (IsCatch l 0 y.pool exceptions) (let m = y.method in m.handlers)
            (let g = frames_of p b in g.catches)) (same_some f) (all_caught (let m = c.method in m.handlers));
        lands = lands_there;
        jumps = jumps_there;
        follows = follows_there;
      }
