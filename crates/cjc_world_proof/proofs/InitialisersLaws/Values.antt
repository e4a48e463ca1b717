-- What the static cells hold after initialisers.
use Rattle.std.proofs.Common.{◌≡◌, ◌∙◌, refl, sym, ap, subst, ℕ, suc, zero, ◌+◌, List, [], ◌∷◌, ◌++◌, append_assoc}
use Rattle.std.proofs.Common.{append-nil, length, map, Bool, true, false, ⊎_elim, arith}
use Rattle.std.proofs.lemmas.Option.{slice_get-map}
use Rattle.std.specs.Prelude.{if◌then◌else◌, Some, None, option_map, replicate, slice_get, slice_set}
use Rattle.cjc_bytes.specs.declared.fault.MemberId.{MemberId}
use Rattle.cjc_bytes.proofs.Gets.{set_length, set_same, set_other}
use Rattle.cjc_bytes.proofs.Numbers.{same_place, length_replicated}
use Rattle.cjc_bytes.proofs.Lists.{map_append, length_mapped}
use Rattle.cjc_bytes.proofs.Options.{option_taken}
use Rattle.cjc_world.specs.ClassFile.declared.tree.ClassTree.{ClassTree}
use Rattle.cjc_world.specs.ClassFile.declared.tree.FieldTree.{FieldTree}
use Rattle.cjc_clinit.specs.Bytecode.declared.insn.JOp.{JOp}
use Rattle.cjc_clinit.specs.Bytecode.declared.method_code.MethodCode.{MethodCode}
use Rattle.cjc_jvm_semantics.specs.LowerScript.declared.value.Value.{Value}
use Rattle.cjc_jvm_semantics.specs.LowerScript.declared.value.Value.TheVariants.{Obj}
use Rattle.cjc_jvm_semantics.specs.LowerScript.declared.report.FieldValue.{FieldValue}
use Rattle.cjc_jvm_semantics.specs.LowerScript.declared.report.Thing.{Thing}
use Rattle.cjc_world.specs.declared.image.ArrayCell.{ArrayCell}
use Rattle.cjc_world.specs.declared.image.StaticImage.{StaticImage}
use Rattle.cjc_world.specs.Files.{Files}
use Rattle.cjc_jvm_semantics.specs.ByName.{linked}
use Rattle.cjc_jvm_semantics.specs.Effects.{Store, is_same_field, value_in, values_with}
use Rattle.cjc_jvm_semantics.specs.OnePackage.{array_place, static_array}
use Rattle.cjc_clinit.specs.declared.stage.Held.{Held}
use Rattle.cjc_clinit.specs.declared.stage.Held.TheVariants as held
use Rattle.cjc_clinit.specs.Fields.{Contents, ANumber, ANull, AnArray, held_by, is_cell, takes}
use Rattle.cjc_clinit.specs.Image.{AreInitialised, array_in, arrays_of, field_id, initialised, own_field}
use Rattle.cjc_clinit.specs.Image.AreInitialised.{none as no_code, other as other_code, one as one_code}
use Rattle.cjc_clinit.specs.Initialiser.{nothing_in, open_place, ops_of, Initialises, Put}
use Rattle.cjc_clinit.specs.Initialiser.Initialises.{ends, puts}
use Rattle.cjc_world_proof.specs.Initialisers.Statements.{store_with, value_by}
use Rattle.cjc_world_proof.specs.Initialisers.Initialisers.{store_after}
use Rattle.cjc_world_proof.specs.Initialisers.Packages.{AllHaveCells, AllReturn, HaveRoom, HaveTypes, first_cells}
use Rattle.cjc_world_proof.specs.Initialisers.Packages.{first_in, first_store, first_value, method_with}
use Rattle.cjc_world_proof.specs.Initialisers.Packages.AllReturn.{none, other, one}
use Rattle.cjc_world_proof.specs.Initialisers.Values.{AllHold, AreApart, HoldWhatIsPut, IsValue, StandOnce}
use Rattle.cjc_world_proof.proofs.InitialisersLaws.Places.{place-field}
use Rattle.cjc_world_proof.proofs.InitialisersLaws.Initialisers.{after-put, initialiser, same-field}
use Rattle.cjc_world_proof.proofs.InitialisersLaws.Packages.{append-either, class-of, class-there, first-cells}
use Rattle.cjc_world_proof.proofs.InitialisersLaws.Packages.{has-classes, made-behind, same-refl}

-- ---- the place of an array

past-other : (k : ℕ) (arrays : List ArrayCell) (g id : MemberId) (contents : Contents) → (g ≡ id → ⊥)
    → array_place k (arrays ++ array_in g contents) id ≡ array_place k arrays id
past-other k [] g id (ANumber z) differs = refl
past-other k [] g id ANull differs = refl
past-other k [] g id (AnArray kind items) differs = by (is_same_field g id) refl
  where
    by : (b : Bool) → is_same_field g id ≡ b → (if b then Some (Obj k) else None) ≡ None
    by true s = absurd (differs (same-field g id s))
    by false s = refl
past-other k (a ∷ arrays) g id contents differs = ap (λ o. if is_same_field a.field id then Some (Obj k)
    else o) (past-other (k + 1) arrays g id contents differs)

past-array : (k : ℕ) (arrays : List ArrayCell) (g : MemberId) (contents : Contents) (new : ArrayCell) → new.field ≡ g
    → array_place k arrays g ≡ None → array_place k (arrays ++ new ∷ []) g ≡ Some (Obj (k + length arrays))
past-array k [] g contents new of free = ap (λ (q : MemberId). if is_same_field q g then Some (Obj k) else None) of ∙ ap
    (λ b. if b then Some (Obj k) else None) (same-refl g) ∙ ap (λ n. Some (Obj n)) (omega arith)
past-array k (a ∷ arrays) g contents new of free = by (is_same_field a.field g) free (past-array (k + 1) arrays g
    contents new of)
  where
    by : (b : Bool) → (if b then Some (Obj k) else array_place (k + 1) arrays g) ≡ None
        → (array_place (k + 1) arrays g ≡ None → array_place (k + 1) (arrays ++ new ∷ []) g
        ≡ Some (Obj (k + 1 + length arrays)))
        → (if b then Some (Obj k) else array_place (k + 1) (arrays ++ new ∷ []) g)
        ≡ Some (Obj (k + suc (length arrays)))
    by true e rec = absurd (cc)
    by false e rec = rec e ∙ ap (λ n. Some (Obj n)) (omega arith)

-- ---- one put

put-hit : (xs : List FieldValue) (g : MemberId) (v old : Value) → value_in xs g ≡ Some old
    → value_in (values_with xs g v) g ≡ Some v
put-hit [] g v old e = absurd (cc)
put-hit (x ∷ xs) g v old e = by (is_same_field x.field g) refl e (put-hit xs g v old)
  where
    by : (b : Bool) → is_same_field x.field g ≡ b → (if b then Some x.value else value_in xs g) ≡ Some old
        → (value_in xs g ≡ Some old → value_in (values_with xs g v) g ≡ Some v)
        → value_in (if b then record x { value = v } ∷ xs else x ∷ values_with xs g v) g ≡ Some v
    by true q e rec = ap (λ b. if b then Some v else value_in xs g) q
    by false q e rec = ap (λ b. if b then Some x.value else value_in (values_with xs g v) g) q ∙ rec e

value-kept : (arrays more : List ArrayCell) (id : MemberId) (f : FieldTree) (h : Held) (v : Value)
    → array_place 0 more id ≡ array_place 0 arrays id → IsValue arrays id f h v → IsValue more id f h v
value-kept arrays more id f held.Nothing v e t = (t.0, e ∙ t.1)
value-kept arrays more id f (held.Number z) v e t = (t.0, e ∙ t.1)
value-kept arrays more id f held.Null v e t = (t.0, e ∙ t.1)
value-kept arrays more id f held.Array v e t = e ∙ t

new-value : (arrays : List ArrayCell) (g : MemberId) (f : FieldTree) (contents : Contents) (size : ℕ)
    → size ≡ length arrays → array_place 0 arrays g ≡ None
    → IsValue (arrays ++ array_in g contents) g f (held_by contents) (value_by size contents)
new-value arrays g f (ANumber z) size is free = (refl, ap (λ q. array_place 0 q g) (append-nil arrays) ∙ free)
new-value arrays g f ANull size is free = (refl, ap (λ q. array_place 0 q g) (append-nil arrays) ∙ free)
new-value arrays g f (AnArray kind items) size is free = past-array 0 arrays g (AnArray kind items) (record {
  field = g;
  kind = kind;
  items = items;
}) refl free ∙ ap (λ n. Some (Obj n)) (omega arith)

-- a field that is another holds what it held
one-other : (d : ClassTree) (arrays : List ArrayCell) (statics : List FieldValue) (g : MemberId) (contents : Contents)
    (w : Value) (f : FieldTree) (h : Held) → (g ≡ field_id d.name f → ⊥)
    → (v : Value) × (value_in statics (field_id d.name f) ≡ Some v) × IsValue arrays (field_id d.name f) f h v
    → (v : Value) × (value_in (values_with statics g w) (field_id d.name f) ≡ Some v)
    × IsValue (arrays ++ array_in g contents) (field_id d.name f) f h v
one-other d arrays statics g contents w f h differs o =
    ⊎_elim (λ p. absurd (differs p.0)) (λ p. (
      o.0,
      p,
      value-kept arrays (arrays ++ array_in g contents)
          (field_id d.name f) f h o.0 (past-other 0 arrays g (field_id d.name f) contents differs) o.2,
    ))
    (after-put statics g (field_id d.name f) w o.0 o.1)

own-put : (c : ClassTree) (fields : List Held) (arrays : List ArrayCell) (statics : List FieldValue) (k : ℕ)
    (f : FieldTree) (contents : Contents) (size : ℕ) → size ≡ length arrays → slice_get c.fields k ≡ Some f
    → is_cell f ≡ true → slice_get fields k ≡ Some held.Nothing
    → ((j : ℕ) (e : FieldTree) → slice_get c.fields j ≡ Some e → field_id c.name f ≡ field_id c.name e → k ≡ j)
    → HoldWhatIsPut c fields arrays statics
    → HoldWhatIsPut c (slice_set fields k (held_by contents)) (arrays ++ array_in (field_id c.name f) contents)
    (values_with statics (field_id c.name f) (value_by size contents))
own-put c fields arrays statics k f contents size is there cell unput apart holds j e h at cell-e put =
    ⊎_elim same others (same_place k j)
  where
    same : k ≡ j → (v : Value) × (value_in (values_with statics (field_id c.name f) (value_by size contents))
        (field_id c.name e) ≡ Some v) × IsValue (arrays ++ array_in (field_id c.name f) contents) (field_id c.name e) e
        h v
    same p =
        let fields-same : Some f ≡ Some e = sym there ∙ ap (slice_get c.fields) p ∙ at in
        let field-same : f ≡ e = cc in
        let put-same : Some (held_by contents) ≡ Some h = sym (set_same fields k (held_by contents) held.Nothing unput)
        ∙ ap (slice_get (slice_set fields k (held_by contents))) p ∙ put in
        let held-same : held_by contents ≡ h = cc in
        let old = holds k f held.Nothing there cell unput in
        subst (λ (q : FieldTree). (v : Value)
        × (value_in (values_with statics (field_id c.name f) (value_by size contents)) (field_id c.name q) ≡ Some v)
        × IsValue (arrays ++ array_in (field_id c.name f) contents) (field_id c.name q) q h v) field-same (
          value_by size contents,
          put-hit statics (field_id c.name f) (value_by size contents) old.0 old.1,
          subst (λ (q : Held). IsValue (arrays ++ array_in (field_id c.name f) contents) (field_id c.name f) f q
              (value_by size contents)) held-same (new-value arrays (field_id c.name f) f contents size is
              (let t = old.2
              in t.1)),
        )

    others : (k ≡ j → ⊥) → (v : Value) × (value_in (values_with statics (field_id c.name f) (value_by size contents))
        (field_id c.name e) ≡ Some v) × IsValue (arrays ++ array_in (field_id c.name f) contents) (field_id c.name e) e
        h v
    others differs = one-other c arrays statics (field_id c.name f) contents (value_by size contents) e h
        (λ q. differs (apart j e at q)) (holds j e h at cell-e (sym (set_other fields k j (held_by contents) differs)
        ∙ put))

-- ---- the names of the cells

abbrev pub names : List FieldValue → List MemberId
names xs = map (λ (x : FieldValue). x.field) xs

names-with : (xs : List FieldValue) (g : MemberId) (v : Value) → names (values_with xs g v) ≡ names xs
names-with [] g v = refl
names-with (x ∷ xs) g v = by (is_same_field x.field g) (names-with xs g v)
  where
    by : (b : Bool) → names (values_with xs g v) ≡ names xs → names (if b then record x { value = v } ∷ xs
        else x ∷ values_with xs g v) ≡ x.field ∷ names xs
    by true rec = refl
    by false rec = ap (λ q. x.field ∷ q) rec

names-after : (c : ClassTree) (s : Store) (ps : List Put) → names (let t = store_after c s ps in t.statics)
    ≡ names s.statics
names-after c s [] = refl
names-after c s (p ∷ ps) = names-after c (store_with s (own_field c p.field) p.contents) ps
    ∙ names-with s.statics (own_field c p.field) (value_by (length s.heap) p.contents)

-- ---- one initialiser

module _ (files : Files) (image : StaticImage) (apart : AreApart files) (number : ℕ) (c : ClassTree)
    (at-c : slice_get files.classes number ≡ Some c) where
  abbrev pub Kept : List Held → List Held → List ArrayCell → Store → List Put → Type 0
  Kept before after arrays s ps =
      (HoldWhatIsPut c before arrays s.statics → HoldWhatIsPut c after (arrays ++ arrays_of c ps) (let t = store_after c
      s ps in t.statics))
      × ((d : ClassTree) (fields : List Held) → (c.name ≡ d.name → ⊥) → HoldWhatIsPut d fields arrays s.statics
      → HoldWhatIsPut d fields (arrays ++ arrays_of c ps) (let t = store_after c s ps in t.statics))

  pub held-after : (before after : List Held) (ops : List JOp) (ps : List Put)
      → Initialises files number c before ops ps after → (arrays : List ArrayCell) (s : Store)
      → s.heap ≡ map static_array arrays → Kept before after arrays s ps
  held-after before after ops ps ends arrays s heap = (
    (λ h. subst (λ q. HoldWhatIsPut c before q s.statics) (sym (append-nil arrays)) h),
    (λ d fields differs h. subst (λ q. HoldWhatIsPut d fields q s.statics) (sym (append-nil arrays)) h),
  )
  held-after before after ops ps (puts {ops = more} {contents = contents} {id = id} {k = k} {rest = rest} makes place
      next) arrays s heap =
      let p = option_taken (takes contents id.desc) (open_place files number c before id) k place in
      let f = place-field files image number c before id k at-c p.1 in
      let field = f.field in
      let size = length s.heap in
      let g = own_field c id in
      let t = store_with s g contents in
      let is : size ≡ length arrays = ap length heap ∙ length_mapped static_array arrays in
      let later : t.heap ≡ map static_array (arrays ++ array_in g contents) = ap (λ (q : List Thing). q
      ++ map static_array (array_in g contents)) heap ∙ sym (map_append static_array arrays (array_in g contents))
      in
      let r = held-after (slice_set before k (held_by contents)) after more rest next (arrays ++ array_in g contents) t
      later in
      let assoc : (arrays ++ array_in g contents) ++ arrays_of c rest ≡ arrays ++ (array_in g contents
      ++ arrays_of c rest) = append_assoc arrays (array_in g contents) (arrays_of c rest) in
      let end = store_after c t rest in (
        (λ h. subst (λ q. HoldWhatIsPut c after q end.statics) assoc
            (r.0 (subst (λ (q : MemberId). HoldWhatIsPut c (slice_set before k (held_by contents)) (arrays
            ++ array_in q contents) (values_with s.statics q (value_by size contents))) f.named
            (own-put c before arrays s.statics k field contents size is f.there f.is_cell f.unput
            (λ j e at same. apart.fields number k j c field e at-c f.there at same) h)))),
        (λ d fields differs h. subst (λ q. HoldWhatIsPut d fields q end.statics) assoc
            (r.1 d fields differs (λ j e held there cell put. one-other d arrays s.statics g contents
            (value_by size contents) e held (λ q. differs (ap (λ (i : MemberId). i.class) q)) (h j e held there cell
            put)))),
      )

-- ---- before any initialiser

-- what a cell is of
abbrev pub IsOf : List ClassTree → MemberId → Value → Type 0
IsOf cs id v = (n : ℕ) × (c : ClassTree) × (k : ℕ) × (f : FieldTree) × (slice_get cs n ≡ Some c)
    × (slice_get c.fields k ≡ Some f) × (is_cell f ≡ true) × (field_id c.name f ≡ id) × (first_value f ≡ v)

abbrev pub IsIn : (class : List ℕ) → List FieldTree → MemberId → Value → Type 0
IsIn class fields id v = (k : ℕ) × (f : FieldTree) × (slice_get fields k ≡ Some f) × (is_cell f ≡ true)
    × (field_id class f ≡ id) × (first_value f ≡ v)

pub of-class : (class : List ℕ) (fields : List FieldTree) (id : MemberId) (v : Value)
    → value_in (first_in class fields) id ≡ Some v → IsIn class fields id v
of-class class [] id v e = absurd (cc)
of-class class (f ∷ fs) id v e = by (is_cell f) refl e (of-class class fs id v)
  where
    further : IsIn class fs id v → IsIn class (f ∷ fs) id v
    further r = (suc r.0, r.1, r.2, r.3, r.4, r.5)

    at : (b : Bool) → is_same_field (field_id class f) id ≡ b → is_cell f ≡ true → (if b then Some (first_value f)
        else value_in (first_in class fs) id) ≡ Some v → (value_in (first_in class fs) id ≡ Some v → IsIn class fs id v)
        → IsIn class (f ∷ fs) id v
    at true s is h rec = (0, f, refl, is, same-field (field_id class f) id s, (let q : first_value f ≡ v = cc in q))
    at false s is h rec = further (rec h)

    by : (b : Bool) → is_cell f ≡ b → value_in (if b then record { field = field_id class f; value = first_value f }
        ∷ first_in class fs else first_in class fs) id ≡ Some v → (value_in (first_in class fs) id ≡ Some v
        → IsIn class fs id v) → IsIn class (f ∷ fs) id v
    by true is h rec = at (is_same_field (field_id class f) id) refl is h rec
    by false is h rec = further (rec h)

pub of-classes : (cs : List ClassTree) (id : MemberId) (v : Value) → value_in (first_cells cs) id ≡ Some v
    → IsOf cs id v
of-classes [] id v e = absurd (cc)
of-classes (c ∷ cs) id v e = ⊎_elim (λ p. let r = of-class c.name c.fields id v p in (
  0,
  c,
  r.0,
  r.1,
  refl,
  r.2,
  r.3,
  r.4,
  r.5,
)) (λ p. let r = of-classes cs id v p in (suc r.0, r.1, r.2, r.3, r.4, r.5, r.6, r.7, r.8))
    (append-either (first_in c.name c.fields) (first_cells cs) id v e)

pub nothing-only : (n k : ℕ) (h : Held) → slice_get (replicate n held.Nothing) k ≡ Some h → held.Nothing ≡ h
nothing-only zero k h e = absurd (cc)
nothing-only (suc n) zero h e = cc
nothing-only (suc n) (suc k) h e = nothing-only n k h e

pub first-held : (files : Files) → AreApart files → (n : ℕ) (c : ClassTree) → slice_get files.classes n ≡ Some c
    → HoldWhatIsPut c (nothing_in c) [] (first_cells files.classes)
first-held files apart n c at k f h there cell put =
    let old = has-classes files.classes n c k f at there cell in
    let r = of-classes files.classes (field_id c.name f) old.0 old.1 in
    let same-class : r.0 ≡ n = apart.classes r.0 n r.1 c r.4 at (ap (λ (i : MemberId). i.class) r.7) in
    let some-class : Some r.1 ≡ Some c = sym r.4 ∙ ap (slice_get files.classes) same-class ∙ at in
    let class-same : r.1 ≡ c = cc in
    let there-too : slice_get c.fields r.2 ≡ Some r.3 = ap (λ (q : ClassTree). slice_get q.fields r.2) (sym class-same)
    ∙ r.5 in
    let named-too : field_id c.name r.3 ≡ field_id c.name f = ap (λ (q : ClassTree). field_id q.name r.3)
    (sym class-same) ∙ r.7 in
    let same_place : r.2 ≡ k = apart.fields n r.2 k c r.3 f at there-too there named-too in
    let some-field : Some r.3 ≡ Some f = sym there-too ∙ ap (slice_get c.fields) same_place ∙ there in
    let field-same : r.3 ≡ f = cc in
    let value : old.0 ≡ first_value f = sym r.8 ∙ ap first_value field-same in
    subst (λ (q : Held). (v : Value) × (value_in (first_cells files.classes) (field_id c.name f) ≡ Some v)
    × IsValue [] (field_id c.name f) f q v) (nothing-only (length c.fields) k h put) (old.0, old.1, (value, refl))

-- ---- all initialisers

module _ (files : Files) (image : StaticImage) (apart : AreApart files) where
  -- the classes whose code is still to come have nothing in their fields
  abbrev Fresh : List (List Held) → List MethodCode → Type 0
  Fresh before codes = (i : ℕ) (code : MethodCode) (c : ClassTree) → slice_get codes i ≡ Some code
      → initialised files code ≡ Some c → slice_get before code.class ≡ Some (nothing_in c)

  -- besides what each field holds: the kinds of the cells and their names are as before
  abbrev pub Outcome : Store → List MethodCode → List (List Held) → List ArrayCell → Type 0
  Outcome s codes after arrays = (later : Store) × AllReturn files (linked files image) s codes later
      × (later.heap ≡ map static_array arrays) × AllHold files after arrays later.statics
      × AllHaveCells files later.statics × (names later.statics ≡ names s.statics)

  all-held : (before after : List (List Held)) (codes : List MethodCode) (arrays : List ArrayCell)
      → AreInitialised files before codes arrays after → (s : Store) (made : List ArrayCell)
      → s.heap ≡ map static_array made
      → StandOnce files codes → Fresh before codes → HaveRoom files codes → AllHaveCells files s.statics
      → AllHold files before made s.statics → Outcome s codes after (made ++ arrays)
  all-held before after codes arrays no_code s made heap once fresh roomy cells hold = (
    s,
    none,
    heap ∙ ap (map static_array) (sym (append-nil made)),
    (λ n d fields at put. subst (λ q. HoldWhatIsPut d fields q s.statics) (sym (append-nil made))
        (hold n d fields at put)),
    cells,
    refl,
  )
  all-held before after codes arrays (other_code {codes = rest} is more) s made heap once fresh roomy cells hold =
      let r = all-held _ after rest arrays more s made heap (λ i j a b c d p q x y same. (let z : suc i
      ≡ suc j = once (suc i) (suc j) a b c d p q x y same in cc)) (λ i code c there is. fresh (suc i) code c there
      is) (λ i code c m there. roomy (suc i) code c m there) cells hold in
      (r.0, other is r.1, r.2, r.3, r.4, r.5)
  all-held before after codes arrays (one_code {code = code} {codes = rest} {arrays = others} c ps fields is does more)
      s made heap once fresh roomy cells hold =
      let t = class-there code.method (slice_get files.classes code.class) c is in
      let m = method_with c t.1 code in
      let own : (let id = m.id in id.class) ≡ c.name = class-of c t.1 (let q = t.1 in q.code) in
      let locals = replicate m.max_locals None in
      let e = initialiser files image code.class c m locals t.0 own (nothing_in c) fields (ops_of code.insns) ps does 0
      s refl (cells code.class c t.0) (roomy 0 code c t.1 refl is t.2) in
      let mid = store_after c s ps in
      let new = made ++ arrays_of c ps in
      let kept = held-after files image apart code.class c t.0 (nothing_in c) fields (ops_of code.insns) ps does made s
      heap in
      let heap-mid : mid.heap ≡ map static_array new = made-behind c s ps ∙ ap (λ (q : List Thing). q
      ++ map static_array (arrays_of c ps)) heap ∙ sym (map_append static_array made (arrays_of c ps)) in
      let fresh-c = fresh 0 code c refl is in
      let here-same : (n : ℕ) (d : ClassTree) (held : List Held) → slice_get files.classes n ≡ Some d
      → slice_get (slice_set before code.class fields) n ≡ Some held → code.class ≡ n
      → HoldWhatIsPut d held new mid.statics = λ n d held at put p.
      (let some-c : Some c ≡ Some d = sym t.0 ∙ ap (slice_get files.classes) p ∙ at in
      let same-c : c ≡ d = cc in
      let some-f : Some fields ≡ Some held = sym (set_same before code.class fields (nothing_in c) fresh-c)
      ∙ ap (slice_get (slice_set before code.class fields)) p ∙ put in
      let same-f : fields ≡ held = cc in
      subst (λ (q : ClassTree). HoldWhatIsPut q held new mid.statics) same-c
      (subst (λ (q : List Held). HoldWhatIsPut c q new mid.statics) same-f
      (kept.0 (hold code.class c (nothing_in c) t.0 fresh-c)))) in
      let hold-mid : AllHold files (slice_set before code.class fields) new mid.statics = λ n d held at put.
      ⊎_elim (λ p. here-same n d held at put p) (λ differs. kept.1 d held (λ q. differs (apart.classes code.class n c d
      t.0 at q)) (hold n d held at (sym (set_other before code.class n fields differs) ∙ put)))
      (same_place code.class n) in
      let fresh-later : Fresh (slice_set before code.class fields) rest = λ i other-code d there is-d.
      set_other before code.class other-code.class fields (λ q. (let z : 0 ≡ suc i = once 0 (suc i) code other-code c d
      refl there is is-d q in omega arith)) ∙ fresh (suc i) other-code d there is-d in
      let r = all-held _ after rest others more mid new heap-mid (λ i j a b c d p q x y same. (let z : suc i
      ≡ suc j = once (suc i) (suc j) a b c d p q x y same in cc)) fresh-later (λ i code c m there. roomy (suc i)
      code c m there) (λ n d there. e.1 d (cells n d there)) hold-mid in
      let assoc : new ++ others ≡ made ++ (arrays_of c ps ++ others) = append_assoc made (arrays_of c ps) others in
      let end = r.0 in (
        end,
        one c t.1 is t.2 e.0 r.1,
        r.2 ∙ ap (map static_array) assoc,
        (λ n d held at put. subst (λ q. HoldWhatIsPut d held q end.statics) assoc (r.3 n d held at put)),
        r.4,
        r.5
            ∙ names-after c s ps,
      )

  pub values-held : (codes : List MethodCode) (arrays : List ArrayCell) (fields : List (List Held)) → HaveTypes files
      → HaveRoom files codes → StandOnce files codes → AreInitialised files (map nothing_in files.classes) codes arrays
      fields → Outcome (first_store files.classes) codes fields arrays
  values-held codes arrays fields typed roomy once is =
      all-held (map nothing_in files.classes) fields codes arrays is (first_store files.classes) [] refl once
      (λ i code c there is-c. slice_get-map nothing_in files.classes code.class
      ∙ ap (option_map nothing_in) (class-there code.method (slice_get files.classes code.class) c is-c).0)
      roomy (first-cells files typed)
      (λ n d held at put. (let some : Some (nothing_in d) ≡ Some held = sym (slice_get-map nothing_in files.classes n
      ∙ ap (option_map nothing_in) at) ∙ put in
      let same : nothing_in d ≡ held = cc in subst (λ (q : List Held). HoldWhatIsPut d q [] (first_cells files.classes))
      same (first-held files apart n d at)))

-- ---- each field stands in the record of what was put

put-length : (files : Files) (number : ℕ) (c : ClassTree) (before after : List Held) (ops : List JOp) (ps : List Put)
    → Initialises files number c before ops ps after → length after ≡ length before
put-length files number c before after ops ps ends = refl
put-length files number c before after ops ps (puts {ops = more} {contents = contents} {k = k} {rest = rest} makes place
    next) = put-length files number c (slice_set before k (held_by contents)) after more rest next
    ∙ set_length before k (held_by contents)

-- each class has a list as long as its fields
abbrev Full : Files → List (List Held) → Type 0
Full files told = (n : ℕ) (c : ClassTree) → slice_get files.classes n ≡ Some c → (held : List Held)
    × (slice_get told n ≡ Some held) × (length held ≡ length c.fields)

full-set : (files : Files) (before : List (List Held)) (k : ℕ) (c : ClassTree) (fields : List Held)
    → slice_get files.classes k ≡ Some c → length fields ≡ length c.fields → Full files before
    → Full files (slice_set before k fields)
full-set files before k c fields at-c long full n d at = ⊎_elim same others (same_place k n)
  where
    same : k ≡ n → (held : List Held) × (slice_get (slice_set before k fields) n ≡ Some held)
        × (length held ≡ length d.fields)
    same p =
        let some : Some c ≡ Some d = sym at-c ∙ ap (slice_get files.classes) p ∙ at in
        let is : c ≡ d = cc in
        let old = full k c at-c in (
          fields,
          ap (slice_get (slice_set before k fields)) (sym p) ∙ set_same before k fields old.0 old.1,
          long
              ∙ ap (λ (q : ClassTree). length q.fields) is,
        )

    others : (k ≡ n → ⊥) → (held : List Held) × (slice_get (slice_set before k fields) n ≡ Some held)
        × (length held ≡ length d.fields)
    others differs = let old = full n d at in (old.0, set_other before k n fields differs ∙ old.1, old.2)

full-after : (files : Files) (before after : List (List Held)) (codes : List MethodCode) (arrays : List ArrayCell)
    → AreInitialised files before codes arrays after → Full files before → Full files after
full-after files before after codes arrays no_code full = full
full-after files before after codes arrays (other_code {codes = rest} is more) full =
    full-after files _ after rest arrays more full
full-after files before after codes arrays (one_code {code = code} {codes = rest} {arrays = others} c ps fields is does
    more) full =
    full-after files _ after rest others more (full-set files before code.class c fields (class-there code.method
    (slice_get files.classes code.class) c is).0 (put-length files code.class c (nothing_in c) fields
    (ops_of code.insns) ps does ∙ length_replicated (length c.fields) held.Nothing) full)

pub fields-told : (files : Files) (codes : List MethodCode) (arrays : List ArrayCell) (fields : List (List Held))
    → AreInitialised files (map nothing_in files.classes) codes arrays fields → Full files fields
fields-told files codes arrays fields is =
    full-after files (map nothing_in files.classes) fields codes arrays is (λ n c at. (
      nothing_in c,
      slice_get-map nothing_in files.classes n ∙ ap (option_map nothing_in) at,
      length_replicated (length c.fields)
          held.Nothing,
    ))
