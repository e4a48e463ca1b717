-- The machine by name at the code of one initialiser.
use Rattle.std.proofs.Common.{◌≡◌, ◌∙◌, refl, sym, ap, subst, ℕ, List, [], ◌∷◌, ◌++◌, length, Bool, true, false, ◌⊎◌}
use Rattle.std.proofs.Common.{inl, inr, ⊎_elim}
use Rattle.std.specs.Prelude.{◌==◌, ◌&&◌, if◌then◌else◌, Option, Some, None, slice_get, slice_set, ℤ, codes}
use Rattle.std.specs.Str.{bytes_eq}
use Rattle.cjc_bytes.specs.declared.fault.MemberId.{MemberId}
use Rattle.cjc_bytes.specs.declared.descriptor.Kind.{Kind}
use Rattle.cjc_bytes.proofs.Bools.{and_true}
use Rattle.cjc_bytes.proofs.Lists.{bytes_true}
use Rattle.cjc_bytes.proofs.Options.{option_taken}
use Rattle.cjc_bytes.specs.declared.descriptor.Kind.TheVariants as kinds
use Rattle.cjc_world.specs.ClassFile.declared.tree.ClassTree.{ClassTree}
use Rattle.cjc_world.specs.ClassFile.declared.tree.FieldTree.{FieldTree}
use Rattle.cjc_clinit.specs.Bytecode.declared.insn.JOp.{JOp}
use Rattle.cjc_clinit.specs.Bytecode.declared.insn.JOp.TheVariants as jop
use Rattle.cjc_jvm_semantics.specs.LowerScript.declared.value.Value.{Value}
use Rattle.cjc_jvm_semantics.specs.LowerScript.declared.value.Value.TheVariants.{Num, Null, Obj}
use Rattle.cjc_jvm_semantics.specs.LowerScript.declared.report.FieldValue.{FieldValue}
use Rattle.cjc_world.specs.declared.image.StaticImage.{StaticImage}
use Rattle.cjc_world.specs.Files.{Files}
use Rattle.cjc_jvm_semantics.specs.ByName.{linked}
use Rattle.cjc_jvm_semantics.specs.Effects.{Store, effect, is_kind, is_same_field, is_same_kind, value_in, values_with}
use Rattle.cjc_jvm_semantics.specs.Linked.{Linked, Method}
use Rattle.cjc_clinit.specs.declared.stage.Held.{Held}
use Rattle.cjc_clinit.specs.Fields.{Contents, array_desc, fits_kind, held_by, is_reference, number_kind, takes}
use Rattle.cjc_clinit.specs.Image.{field_id, own_field}
use Rattle.cjc_clinit.specs.Bytecode.Jvm.{return}
use Rattle.cjc_clinit.specs.Initialiser.{open_place, Initialises, Makes, Put}
use Rattle.cjc_clinit.specs.Initialiser.Initialises.{ends, puts}
use Rattle.cjc_clinit.specs.Initialiser.Makes.{of_number, of_null, of_array}
use Rattle.cjc_world_proof.specs.Initialisers.Statements.{HaveRoomFor, Reaches, ops_from, store_with, value_by}
use Rattle.cjc_world_proof.specs.Initialisers.Statements.Reaches.{here, goes}
use Rattle.cjc_world_proof.specs.Initialisers.Initialisers.{HasCells, Returns, store_after}
use Rattle.cjc_world_proof.proofs.InitialisersLaws.Places.{place-field}
use Rattle.cjc_world_proof.proofs.InitialisersLaws.Statements.{fetched, statement}

-- ---- kinds

-- an array of numbers is a reference
array-by : (a b d e : Bool) (kind : Kind) → (if a then Some kinds.Bool else if b then Some kinds.Byte else if d
    then Some kinds.Short else if e then Some kinds.Int else None) ≡ Some kind → is_reference (array_desc kind) ≡ true
array-by true b d e kind h = let k : kinds.Bool ≡ kind = cc in subst (λ q. is_reference (array_desc q) ≡ true) k refl
array-by false true d e kind h = let k : kinds.Byte ≡ kind = cc in subst (λ q. is_reference (array_desc q) ≡ true) k
    refl
array-by false false true e kind h = let k : kinds.Short ≡ kind = cc in subst (λ q. is_reference (array_desc q) ≡ true)
    k refl
array-by false false false true kind h = let k : kinds.Int ≡ kind = cc in subst (λ q. is_reference (array_desc q)
    ≡ true) k refl
array-by false false false false kind h = absurd (cc)

-- a type of numbers is none of references
pub number-by : (desc : List ℕ) (kind : Kind) → number_kind desc ≡ Some kind → is_reference desc ≡ false
number-by desc kind e = by (bytes_eq desc (codes "Z")) (bytes_eq desc (codes "B")) (bytes_eq desc (codes "S"))
    (bytes_eq desc (codes "I")) refl refl refl refl e
  where
    by : (a b d f : Bool) → bytes_eq desc (codes "Z") ≡ a → bytes_eq desc (codes "B") ≡ b → bytes_eq desc (codes "S")
        ≡ d → bytes_eq desc (codes "I") ≡ f → (if a then Some kinds.Bool else if b then Some kinds.Byte else if d
        then Some kinds.Short else if f then Some kinds.Int else None) ≡ Some kind → is_reference desc ≡ false
    by true b d f p q r s h = ap (λ x. is_reference x) (bytes_true desc (codes "Z") p)
    by false true d f p q r s h = ap (λ x. is_reference x) (bytes_true desc (codes "B") q)
    by false false true f p q r s h = ap (λ x. is_reference x) (bytes_true desc (codes "S") r)
    by false false false true p q r s h = ap (λ x. is_reference x) (bytes_true desc (codes "I") s)
    by false false false false p q r s h = absurd (cc)

fitting : (o : Option Kind) (z : ℤ) → fits_kind o z ≡ true → (kind : Kind) × (o ≡ Some kind)
fitting None z e = absurd (cc)
fitting (Some kind) z e = (kind, refl)

-- what is put is of the kind of its field's type
pub kind-put : (made : List JOp) (contents : Contents) (desc : List ℕ) (n : ℕ) → Makes made contents
    → takes contents desc ≡ true → is_kind (is_reference desc) (value_by n contents) ≡ true
kind-put made contents desc n (of_number {z = z}) e = let k = fitting (number_kind desc) z e
    in ap (λ b. is_kind b (Num z)) (number-by desc k.0 k.1)
kind-put made contents desc n of_null e = ap (λ b. is_kind b Null) e
kind-put made contents desc n (of_array {number = number} {kind = kind} le is fill) e =
    ap (λ d. is_kind (is_reference d) (Obj n)) (bytes_true desc (array_desc kind) e)
    ∙ ap (λ b. is_kind b (Obj n)) (array-by (number == 4) (number == 8) (number == 9) (number == 10) kind is)

same-kind : (r : Bool) (a b : Value) → is_kind r a ≡ true → is_kind r b ≡ true → is_same_kind a b ≡ true
same-kind false (Num x) b p q = q
same-kind false Null b p q = absurd (cc)
same-kind false (Obj k) b p q = absurd (cc)
same-kind true (Num x) b p q = absurd (cc)
same-kind true Null b p q = q
same-kind true (Obj k) b p q = q

-- ---- cells

abbrev id_of : (class name desc : List ℕ) → MemberId
id_of class name desc = record { class = class; name = name; desc = desc }

pub same-field : (a b : MemberId) → is_same_field a b ≡ true → a ≡ b
same-field a b e =
    let h = and_true (bytes_eq a.class b.class && bytes_eq a.name b.name) (bytes_eq a.desc b.desc) e in
    let g = and_true (bytes_eq a.class b.class) (bytes_eq a.name b.name) h.0 in
    ap (λ q. id_of q a.name a.desc) (bytes_true a.class b.class g.0)
    ∙ ap (λ q. id_of b.class q a.desc) (bytes_true a.name b.name g.1)
    ∙ ap (id_of b.class b.name) (bytes_true a.desc b.desc h.1)

-- a cell holds what is put into it, or what it held
pub after-put : (xs : List FieldValue) (g h : MemberId) (v old : Value) → value_in xs h ≡ Some old
    → ((g ≡ h) × (value_in (values_with xs g v) h ≡ Some v)) ⊎ (value_in (values_with xs g v) h ≡ Some old)
after-put [] g h v old e = inr e
after-put (x ∷ xs) g h v old e = by (is_same_field x.field g) (is_same_field x.field h) refl refl e
    (after-put xs g h v old)
  where
    by : (a b : Bool) → is_same_field x.field g ≡ a → is_same_field x.field h ≡ b
        → (if b then Some x.value else value_in xs h) ≡ Some old
        → (value_in xs h ≡ Some old → ((g ≡ h) × (value_in (values_with xs g v) h ≡ Some v))
        ⊎ (value_in (values_with xs g v) h ≡ Some old))
        → ((g ≡ h) × (value_in (if a then record x { value = v } ∷ xs else x ∷ values_with xs g v) h ≡ Some v))
        ⊎ (value_in (if a then record x { value = v } ∷ xs else x ∷ values_with xs g v) h ≡ Some old)
    by true true p q e rec = inl (
      sym (same-field x.field g p) ∙ same-field x.field h q,
      ap (λ b. if b then Some v
          else value_in xs h) q,
    )
    by true false p q e rec = inr (ap (λ b. if b then Some v else value_in xs h) q ∙ e)
    by false true p q e rec = inr (ap (λ b. if b then Some x.value else value_in (values_with xs g v) h) q ∙ e)
    by false false p q e rec =
        ⊎_elim (λ r. inl (r.0, ap (λ b. if b then Some x.value else value_in (values_with xs g v) h) q ∙ r.1))
        (λ r. inr (ap (λ b. if b then Some x.value else value_in (values_with xs g v) h) q ∙ r)) (rec e)

cells-put : (c d : ClassTree) (statics : List FieldValue) (f : FieldTree) (v : Value) → is_kind (is_reference f.desc) v
    ≡ true → HasCells d statics → HasCells d (values_with statics (field_id c.name f) v)
cells-put c d statics f v kind cells k other there is =
    let old = cells k other there is in
    ⊎_elim (λ p. (v, p.1, ap (λ (q : MemberId). is_kind (is_reference q.desc) v) (sym p.0) ∙ kind)) (λ p. (
      old.0,
      p,
      old.2,
    )) (after-put statics (field_id c.name f) (field_id d.name other) v old.0 old.1)

-- ---- one initialiser

module _ (l : Linked) (m : Method) (locals : List (Option Value)) where
  onwards : (at : ℕ) (stack : List Value) (before : Store) (mid : ℕ) (left : List Value) (between after : Store)
      (later : ℕ) (end : List Value) → Reaches l m locals at stack before mid left between
      → Reaches l m locals mid left between later end after → Reaches l m locals at stack before later end after
  onwards at stack before mid left between after later end here g = g
  onwards at stack before mid left between after later end (goes i e f r) g =
      goes i e f (onwards _ _ _ mid left between after later end r g)

-- room for all is room for those in front and for those behind
room-parts : (n : ℕ) (front back : List JOp) → HaveRoomFor n (front ++ back) → HaveRoomFor n front × HaveRoomFor n back
room-parts n [] back h = (tt, h)
room-parts n (op ∷ front) back h = let r = room-parts n front back h.1 in ((h.0, r.0), r.1)

module _ (files : Files) (image : StaticImage) (number : ℕ) (c : ClassTree) (m : Method) (locals : List (Option Value))
    (at-c : slice_get files.classes number ≡ Some c) (own : (let id = m.id in id.class) ≡ c.name) where
  abbrev Ends : (at : ℕ) → Store → List Put → Type 0
  Ends at s ps = Returns (linked files image) m locals at s (store_after c s ps) × ((d : ClassTree)
      → HasCells d s.statics → HasCells d (let t = store_after c s ps in t.statics))

  pub initialiser : (before after : List Held) (ops : List JOp) (ps : List Put)
      → Initialises files number c before ops ps after → (at : ℕ) (s : Store) → ops_from m at ≡ ops
      → HasCells c s.statics → HaveRoomFor m.max_stack ops → Ends at s ps
  unfolding effect
  initialiser before after ops ps ends at s stands cells roomy =
      let f = fetched m.insns at (jop.Return return) [] stands in (
        record {
          later = at;
          left = [];
          runs = here;
          insn = f.0;
          is_there = f.1;
          leaves = ap (λ o. effect (linked files image) m at locals s o []) f.2;
        },
        (λ d kept. kept),
      )
  initialiser before after ops ps (puts {made = made} {ops = more} {contents = contents} {id = id} {k = k} {rest = rest}
      makes place next) at s stands cells roomy =
      let parts = room-parts m.max_stack made (jop.Static true id ∷ more) roomy in
      let p = option_taken (takes contents id.desc) (open_place files number c before id) k place in
      let f = place-field files image number c before id k at-c p.1 in
      let size = length s.heap in
      let v = value_by size contents in
      let field = f.field in
      let old = cells k field f.there f.is_cell in
      let kind : is_kind (is_reference field.desc) v ≡ true = ap (λ d. is_kind (is_reference d) v) f.desc
      ∙ kind-put made contents id.desc size makes p.0 in
      let found = (ap (λ q. (let l = linked files image in l.field q id)) own ∙ f.found) in
      let holds : value_in s.statics (own_field c id) ≡ Some old.0 = ap (value_in s.statics) (sym f.named) ∙ old.1 in
      let r = statement (linked files image) m locals at made more contents id (own_field c id) old.0 s parts.0 makes
      stands found holds (same-kind (is_reference field.desc) old.0 v old.2 kind) in
      let t = store_with s (own_field c id) contents in
      let kept : (d : ClassTree) → HasCells d s.statics → HasCells d t.statics =
      λ d has. subst (λ (q : MemberId). HasCells d (values_with s.statics q v)) f.named (cells-put c d s.statics
      field v kind has) in
      let g = initialiser (slice_set before k (held_by contents)) after more rest next r.0 t r.2 (kept c cells)
      parts.1.1 in
      let e = g.0 in (
        record {
          later = e.later;
          left = e.left;
          runs = onwards (linked files image) m locals at [] s r.0 [] t (store_after c t rest) e.later e.left r.1
              e.runs;
          insn = e.insn;
          is_there = e.is_there;
          leaves = e.leaves;
        },
        (λ d has. g.1 d (kept d has)),
      )
