-- Towers of tables in a group, package by package.
use Rattle.std.proofs.Common.{◌≡◌, ℕ, zero, suc, ◌+◌, ◌-◌, ◌<◌, ◌≤◌, arith, refl, sym, ap, subst, ◌∙◌, Bool, true}
use Rattle.std.proofs.Common.{false}
use Rattle.std.proofs.Common.{List, [], ◌∷◌, Some, None}
use Rattle.std.specs.Prelude.{Option, option_and_then, slice_get, nat_lt, ◌==◌, if◌then◌else◌}
use Rattle.cjc_token_proof.proofs.BytesNumbers.{like_number}
use Rattle.cjc_card_semantics.specs.Bytes.declared.fault.MemberId.{MemberId}
use Rattle.cjc_card_semantics.specs.CapRead.declared.tree.ClassEntry.{ClassEntry}
use Rattle.cjc_card_semantics.specs.ExportFile.Supers.{virtual_method}
use Rattle.cjc_card_semantics.specs.ExportFile.declared.tree.ExportClass.{ExportClass}
use Rattle.cjc_card_semantics.specs.ExportFile.declared.tree.ExportMethod.{ExportMethod}
use Rattle.cjc_card_semantics.specs.Machine.Classes.{Class, Own, IsClass, class_of, depth, info_of}
use Rattle.cjc_card_semantics.specs.Machine.Dispatch.{At, Outward, Selection, Table, Tower}
use Rattle.cjc_card_semantics.specs.Machine.Dispatch.{at_table, dispatched_hidden, dispatched_open, dispatched_outward}
use Rattle.cjc_card_semantics.specs.Machine.Dispatch.{held, in_files, outward}
use Rattle.cjc_card_semantics.specs.Machine.Dispatch.{table_or_missing, tower, tower_from}
use Rattle.cjc_card_semantics.specs.Machine.Loaded.{Loaded}
use Rattle.cjc_joint_proof.specs.Parts.{HasNoOther, IsPart, class_in}
use Rattle.cjc_joint_proof.specs.Towers.{IsOwnTower, Reaches, Stands, arrived, climbs, ends, onto, outside, own}
use Rattle.cjc_joint_proof.specs.Towers.{table}
use Rattle.cjc_joint_proof.proofs.PartLaws.{infos_same, refs_agree}

-- ---- enough steps

-- the tables of a class that has an info, so many steps upwards
one_table : (l : Loaded) (n p offset : ℕ) (c : ClassEntry) (s : Class) → info_of l p offset ≡ Some (IsClass c)
    → class_of l p c.superclass ≡ Some s
    → tower_from l (suc n) (Some (Own p offset)) ≡ Table p c (tower_from l n (Some s))
one_table l n p offset c s there super =
    ap (λ o. table_or_missing p o (λ d. tower_from l n (class_of l p d.superclass))) there
    ∙ ap (λ o. Table p c (tower_from l n o)) super

settles : (l : Loaded) (height n : ℕ) (x : Class) → Stands l height x → height < n
    → tower_from l n (Some x) ≡ tower_from l (suc height) (Some x)
settles l height zero x stands lt = absurd (omega (arith, lt))
settles l zero (suc n) _ outside lt = refl
settles l (suc height) (suc n) _ (own {part = p} {offset = offset} {s = s} c there super rest) lt =
    one_table l n p offset c s there super
    ∙ (ap (Table p c) (settles l height n s rest (omega (arith, lt)))
    ∙ sym (one_table l (suc height) p offset c s there super))

reach_settles : (l : Loaded) (height n : ℕ) (x first : Class) → Reaches l height x first → height < n
    → tower_from l n (Some x) ≡ tower_from l (suc height) (Some x)
reach_settles l height zero x first reach lt = absurd (omega (arith, lt))
reach_settles l zero (suc n) _ _ arrived lt = refl
reach_settles l (suc height) (suc n) _ first (climbs {offset = offset} {s = s} c there super rest) lt =
    one_table l n 0 offset c s there super
    ∙ (ap (Table 0 c) (reach_settles l height n s first rest (omega (arith, lt)))
    ∙ sym (one_table l (suc height) 0 offset c s there super))

module _ (alone group : Loaded) (q : ℕ) (h : IsPart alone group q) (none : HasNoOther alone group q) where
  -- ---- a class of the package stands in the group

  -- what the group has for a class on the way
  on_way : (height : ℕ) (x first d : Class) → Reaches alone height x first → class_in group q first ≡ Some d
      → (y : Class)
      × (class_in group q x ≡ Some y)
  on_way zero _ _ d arrived is = (d, is)
  on_way (suc height) _ first d (climbs {offset = offset} c there super rest) is = (Own q offset, refl)

  superclass_in : (offset : ℕ) (c : ClassEntry) (s y : Class) → class_of alone 0 c.superclass ≡ Some s
      → class_in group q s ≡ Some y → class_of group q c.superclass ≡ Some y
  superclass_in offset c s y super is =
      refs_agree alone group q h none c.superclass ∙ (ap (option_and_then (class_in group q)) super ∙ is)

  pub stands_on : (height more : ℕ) (x first d y : Class) → Reaches alone height x first
      → class_in group q first ≡ Some d → class_in group q x ≡ Some y → Stands group more d
      → Stands group (height + more) y
  stands_on zero more _ _ d y arrived is at stands =
      let z : more ≡ 0 + more = omega arith in
      let same : d ≡ y = some_same (sym is ∙ at) in
      subst (λ n. Stands group n y) z (subst (Stands group more) same stands)
    where
      some_same : Some d ≡ Some y → d ≡ y
      some_same e = cc
  stands_on (suc height) more _ first d y (climbs {offset = offset} {s = s} c there super rest) is at stands =
      let next = on_way height s first d rest is in
      let z : suc (height + more) ≡ suc height + more = omega arith in
      let same : Own q offset ≡ y = some_same at in
      let here = own c (infos_same alone group q h offset ∙ there) (superclass_in offset c s next.0 super next.1)
      (stands_on height more s first d next.0 rest is next.1 stands) in
      subst (λ n. Stands group n y) z (subst (Stands group (suc (height + more))) same here)
    where
      some_same : Some (Own q offset) ≡ Some y → Own q offset ≡ y
      some_same e = cc

  -- ---- its tower

  above_tables : (height n : ℕ) (x first d y : Class) → Reaches alone height x first → class_in group q first ≡ Some d
      → class_in group q x ≡ Some y → tower_from group (height + n) (Some y)
      ≡ onto q (tower_from alone (suc height) (Some x)) (tower_from group n (Some d))
  above_tables zero n _ _ d y arrived is at =
      let z : 0 + n ≡ n = omega arith in
      let same : y ≡ d = some_same (sym at ∙ is) in
      ap (λ m. tower_from group m (Some y)) z ∙ ap (λ v. tower_from group n (Some v)) same
    where
      some_same : Some y ≡ Some d → y ≡ d
      some_same e = cc
  above_tables (suc height) n _ first d y (climbs {offset = offset} {s = s} c there super rest) is at =
      let next = on_way height s first d rest is in
      let z : suc height + n ≡ suc (height + n) = omega arith in
      let same : y ≡ Own q offset = some_same (sym at) in
      ap (λ m. tower_from group m (Some y)) z
      ∙ (ap (λ v. tower_from group (suc (height + n)) (Some v)) same
      ∙ (one_table group (height + n) q offset c next.0 (infos_same alone group q h offset ∙ there)
      (superclass_in offset c s next.0 super next.1)
      ∙ (ap (Table q c) (above_tables height n s first d next.0 rest is next.1)
      ∙ sym (ap (λ t. onto q t (tower_from group n (Some d))) (one_table alone (suc height) 0 offset c s there
      super)))))
    where
      some_same : Some y ≡ Some (Own q offset) → y ≡ Own q offset
      some_same e = cc

  pub tower_goes_on : (height more offset : ℕ) (first d : Class) → Reaches alone height (Own 0 offset) first
      → class_in group q first ≡ Some d → Stands group more d → height ≤ depth alone → height + more ≤ depth group
      → tower group (Own q offset) ≡ onto q (tower alone (Own 0 offset)) (tower group d)
  tower_goes_on height more offset first d reach is stands low high =
      let in_group = stands_on height more (Own 0 offset) first d (Own q offset) reach is refl stands in
      let s : height + suc more ≡ suc (height + more) = omega arith in
      settles group (height + more) (suc (depth group)) (Own q offset) in_group (omega (arith, high))
      ∙ (ap (λ m. tower_from group m (Some (Own q offset))) (sym s)
      ∙ (above_tables height (suc more) (Own 0 offset) first d (Own q offset) reach is refl
      ∙ (ap (λ t. onto q (tower_from alone (suc height) (Some (Own 0 offset))) t) (sym (settles group more (suc (depth
      group)) d stands (omega (arith, high))))
      ∙ ap (λ t. onto q t (tower group d)) (sym (reach_settles alone height (suc (depth alone)) (Own 0 offset) first
      reach (omega (arith, low)))))))

own_from : (alone : Loaded) (height n : ℕ) (x first : Class) → Reaches alone height x first → height < n
    → IsOwnTower (tower_from alone n (Some x))
own_from alone height zero x first reach lt = absurd (omega (arith, lt))
own_from alone zero (suc n) _ _ arrived lt = ends
own_from alone (suc height) (suc n) _ first (climbs {offset = offset} {s = s} c there super rest) lt =
    subst IsOwnTower (sym (one_table alone n 0 offset c s there super)) (table (own_from alone height n s first rest
    (omega (arith, lt))))

pub own_tower : (alone : Loaded) (height offset : ℕ) (first : Class) → Reaches alone height (Own 0 offset) first
    → height ≤ depth alone → IsOwnTower (tower alone (Own 0 offset))
own_tower alone height offset first reach low = own_from alone height (suc (depth alone)) (Own 0 offset) first reach
    (omega (arith, low))

-- ---- dispatch over such a tower

-- no method of the group is in export files
never_at : (class : List ℕ) (cs : List ExportClass) (token p offset : ℕ)
    → dispatched_outward class cs token ≡ At p offset → ⊥
never_at class [] token p offset e = cc
never_at class (c ∷ cs) token p offset e = by (virtual_method token c) e (never_at class cs token p offset)
  where
    by : (o : Option ExportMethod) → outward class o (dispatched_outward class cs token) ≡ At p offset
        → (dispatched_outward class cs token ≡ At p offset → ⊥) → ⊥
    by None f rest = rest f
    by (Some m) f rest = cc

no_file_at : (cs : List ExportClass) (token p offset : ℕ) → in_files cs token ≡ At p offset → ⊥
no_file_at [] token p offset e = cc
no_file_at (c ∷ cs) token p offset e = never_at c.name (c ∷ cs) token p offset e

-- a method that a table holds, and one above it
table_at : (q base token offset : ℕ) (entries : List ℕ) (one other : Selection)
    → at_table 0 base entries token one ≡ At 0 offset → (one ≡ At 0 offset → other ≡ At q offset)
    → at_table q base entries token other ≡ At q offset
table_at q base token offset entries one other e go = by (nat_lt token base) e
  where
    pick : (k : ℕ) (b : Bool) → (if b then one else At 0 k) ≡ At 0 offset
        → (if b then other else At q k) ≡ At q offset
    pick k true g = go g
    pick k false g = let same : k ≡ offset = cc in ap (At q) same

    entry : (o : Option ℕ) → held 0 o one ≡ At 0 offset → held q o other ≡ At q offset
    entry None f = cc
    entry (Some k) f = pick k (k == 0xFFFF) f

    by : (b : Bool) → (if b then one else held 0 (slice_get entries (token - base)) one) ≡ At 0 offset
        → (if b then other else held q (slice_get entries (token - base)) other) ≡ At q offset
    by true f = go f
    by false f = entry (slice_get entries (token - base)) f

table_out : (q base token : ℕ) (id : MemberId) (entries : List ℕ) (one other end : Selection)
    → at_table 0 base entries token one ≡ Outward id → (one ≡ Outward id → other ≡ end)
    → at_table q base entries token other ≡ end
table_out q base token id entries one other end e go = by (nat_lt token base) e
  where
    pick : (k : ℕ) (b : Bool) → (if b then one else At 0 k) ≡ Outward id → (if b then other else At q k) ≡ end
    pick k true g = go g
    pick k false g = cc

    entry : (o : Option ℕ) → held 0 o one ≡ Outward id → held q o other ≡ end
    entry None f = cc
    entry (Some k) f = pick k (k == 0xFFFF) f

    by : (b : Bool) → (if b then one else held 0 (slice_get entries (token - base)) one) ≡ Outward id
        → (if b then other else held q (slice_get entries (token - base)) other) ≡ end
    by true f = go f
    by false f = entry (slice_get entries (token - base)) f

pub open_stays : (q : ℕ) (t end : Tower) (token offset : ℕ) → IsOwnTower t → dispatched_open t token ≡ At 0 offset
    → dispatched_open (onto q t end) token ≡ At q offset
open_stays q _ end token offset (ends {classes = cs}) e = absurd (no_file_at cs token 0 offset e)
open_stays q _ end token offset (table {entry = c} {above = above} rest) e =
    table_at q c.public_base token offset c.public_methods (dispatched_open above token) (dispatched_open (onto q above
    end) token) e (open_stays q above end token offset rest)

pub open_goes_on : (q : ℕ) (t end : Tower) (token : ℕ) (id : MemberId) → IsOwnTower t
    → dispatched_open t token ≡ Outward id → dispatched_open (onto q t end) token ≡ dispatched_open end token
open_goes_on q _ end token id (ends {classes = cs}) e = refl
open_goes_on q _ end token id (table {entry = c} {above = above} rest) e =
    table_out q c.public_base token id c.public_methods (dispatched_open above token) (dispatched_open (onto q above
    end) token) (dispatched_open end token) e (open_goes_on q above end token id rest)

pub hidden_stays : (q : ℕ) (t end : Tower) (token offset : ℕ) → IsOwnTower t
    → dispatched_hidden t 0 token ≡ At 0 offset → dispatched_hidden (onto q t end) q token ≡ At q offset
hidden_stays q _ end token offset (ends {classes = cs}) e = cc
hidden_stays q _ end token offset (table {entry = c} {above = above} rest) e =
    ap (λ b. if b then at_table q c.package_base c.package_methods token (dispatched_hidden (onto q above end) q token)
    else dispatched_hidden (onto q above end) q token) (like_number q)
    ∙ table_at q c.package_base token offset c.package_methods (dispatched_hidden above 0 token) (dispatched_hidden
    (onto q above end) q token) e (hidden_stays q above end token offset rest)

pub hidden_passes : (q r : ℕ) (t end : Tower) (token : ℕ) → IsOwnTower t → (q == r) ≡ false
    → dispatched_hidden (onto q t end) r token ≡ dispatched_hidden end r token
hidden_passes q r _ end token (ends {classes = cs}) other = refl
hidden_passes q r _ end token (table {entry = c} {above = above} rest) other =
    ap (λ b. if b then at_table q c.package_base c.package_methods token (dispatched_hidden (onto q above end) r token)
    else dispatched_hidden (onto q above end) r token) other
    ∙ hidden_passes q r above end token rest other
