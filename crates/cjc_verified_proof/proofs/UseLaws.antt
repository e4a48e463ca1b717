-- Instructions on fields of the package go on, where the state before them breaks no rule.
use Rattle.std.proofs.Common.{◌≡◌, ◌<◌, ◌+◌, ◌*◌, ◌-◌, ◌/◌, ◌%◌, ◌^◌, ℕ, true, false, not, List, [], ◌∷◌, length}
use Rattle.std.proofs.Common.{Option, Some, None, refl, sym, ap, subst, ◌∙◌, arith, nat_lt, append-nil}
use Rattle.std.specs.Prelude.{if◌then◌else◌, is_some, option_map}
use Rattle.std.proofs.lemmas.Bool.Decides.{nat_tests}
use Rattle.cjc_capread.specs.declared.tree.ClassRef.TheVariants.{Inside, Outside}
use Rattle.cjc_capread.specs.declared.tree.StaticRef.TheVariants as statics
use Rattle.cjc_capread.specs.declared.tree.PoolEntry.{PoolEntry}
use Rattle.cjc_capread.specs.declared.tree.PoolEntry.TheVariants.{InstanceFieldref, StaticFieldref}
use Rattle.cjc_capread.specs.Parts as parts
use Rattle.cjc_card_semantics.specs.Script.declared.value.Value.{Value}
use Rattle.cjc_card_semantics.specs.Script.Sorts.{OfClass}
use Rattle.cjc_intervals.specs.Types.declared.cell.Cell.{Cell}
use Rattle.cjc_card_semantics.specs.Bytecode.Effects.{Letter, Memory, Get, Put, effect}
use Rattle.cjc_card_semantics.specs.Bytecode.Meanings.{Use, Gets, Puts, GetsStatic, PutsStatic}
use Rattle.cjc_card_semantics.specs.Machine.Loaded.{Loaded}
use Rattle.cjc_card_semantics.specs.Machine.Classes.{Class, Own, Field, class_of, is_there}
use Rattle.cjc_card_semantics.specs.Machine.Operations.{Resolved, or_undone}
use Rattle.cjc_card_semantics.specs.Machine.Operations as machine
use Rattle.cjc_card_semantics.specs.Machine.Statics.{Image}
use Rattle.cjc_card_semantics.specs.Machine.ByToken.{classes}
use Rattle.cjc_components.specs.Types.{ref_nibbles}
use Rattle.cjc_verify.specs.Frames.declared.acts.Act.{Act}
use Rattle.cjc_verify.specs.Frames.Acts.{has_wrong, has_wrong_local, stack_behind}
use Rattle.cjc_card_acts.specs.CardTypes.{ValueType, class_by, is_moved_by, is_type_of, shape_by}
use Rattle.cjc_verify.specs.ClassTypes.{class_type}
use Rattle.cjc_verify.specs.Instructions.{using}
use Rattle.cjc_verify.specs.Named.{entry_of, entry_type}
use Rattle.cjc_verify.specs.Pairs.{Pair}
use Rattle.cjc_verify.specs.Verified.{IsVerified}
use Rattle.cjc_verify_proof.specs.Words.{AreWords, AreLocals}
use Rattle.cjc_verify_proof.specs.Acts.{Passes}
use Rattle.cjc_verify_proof.specs.Heaps.{object_is}
use Rattle.cjc_verify_proof.specs.Memories.{FieldTypes, IsMemory, Goes, SupersStand, AreDeclared}
use Rattle.cjc_verify_proof.proofs.WordLaws.{true_of}
use Rattle.cjc_verify_proof.proofs.PlainLaws.{three}
use Rattle.cjc_verify_proof.proofs.FieldLaws.{get_field, get_field_this, put_field, put_field_this, get_cell, put_cell}
use Rattle.cjc_verified_proof.specs.PackageTypes.{field_types}
use Rattle.cjc_verified_proof.specs.Entries.{UsesField, gets, puts, gets_static, puts_static}
use Rattle.cjc_verified_proof.proofs.EntryLaws.{instance_typed, cell_typed}
use Rattle.cjc_verified_proof.proofs.PlaceLaws.{ref_read}

-- a class that is there is meant by its class_ref
module _ (l : Loaded) (t : FieldTypes) (declared : AreDeclared l t) (offset token : ℕ) (type : ValueType)
    (typed : t.field (record { class = Own 0 offset; token = token }) ≡ Some type) where
  pub class_meant : class_of l 0 (Inside offset) ≡ Some (Own 0 offset)
  class_meant =
      let d = declared (record { class = Own 0 offset; token = token }) type typed in
      let there : is_there l (Own 0 offset) ≡ true = ap (is_there l) d.class ∙ ap is_some d.info in
      ap (λ b. if b then Some (Own 0 offset) else None) there

  pub class_named : offset < 2 ^ 15 → shape_by l (class_type (Inside offset)) ≡ Some (OfClass (Own 0 offset))
  class_named lt = ap (option_map OfClass) (ref_read l offset lt ∙ class_meant)

-- ---- instructions

module _ (p : Pair) (verified : IsVerified p)
    (counts : (let c = p.components in let d = c.descriptor in let q = c.pool in length d.pool_types
    ≡ length q.entries))
    (supers : SupersStand p.loaded) (declared : AreDeclared p.loaded (field_types p)) (room next : ℕ) (lc : List Cell)
    (lv : List (Option Value)) (m : Memory Class Field (List Image)) (k : AreLocals (object_is p.loaded m.heap) lc lv)
    (fit : IsMemory p.loaded (field_types p) m) where
  abbrev l : Loaded
  l = p.loaded

  abbrev t : FieldTypes
  t = field_types p

  -- the letter is that of the type
  moved_by : (letter : Letter) (type : ValueType) (a : Act) (cs : List Cell)
      → a.misfits ≡ not (is_moved_by letter type) → Passes (is_type_of l) room a lc cs → is_moved_by letter type ≡ true
  moved_by letter type a cs e passes =
      let w = three (has_wrong (is_type_of l) a.takes cs) (has_wrong_local (is_type_of l) a.reads lc) a.misfits
      passes.right in
      true_of (is_moved_by letter type) (sym e ∙ w.2)

  module _ (j : ℕ) (cs : List Cell) (vs : List Value) (w : AreWords (object_is l m.heap) cs vs) where
    abbrev type : ValueType
    type = let t = entry_type p j in t.result

    -- what an instruction does with the entry
    abbrev Goes_by : Use → PoolEntry → Resolved → Type 0
    Goes_by how item o = Goes l t next (stack_behind (using p how (entry_type p j) item) lc cs) lc m (effect
        (classes l) o
        room next lv m vs)

    instance_op : (how : Field → Resolved) (offset token : ℕ)
        → t.field (record { class = Own 0 offset; token = token }) ≡ Some type
        → or_undone (option_map (λ (c : Class). how (record { class = c; token = token })) (class_of l 0
        (Inside offset))) ≡ how (record { class = Own 0 offset; token = token })
    instance_op how offset token typed = ap (λ (o : Option Class). or_undone (option_map (λ (c : Class). how (record {
      class = c;
      token = token;
    })) o)) (class_meant l t declared offset token type typed)

    pub uses_of : (item : PoolEntry) → entry_of p j ≡ Some item → (how : Use) → UsesField how item
        → (let a = using p how (entry_type p j) item in a.misnames ≡ false)
        → Passes (is_type_of l) room (using p how (entry_type p j) item) lc cs
        → Goes_by how item (or_undone (machine.using l 0 how item))
    uses_of _ is _ (gets this letter (Outside import class) token ref) named passes = cc
    uses_of _ is _ (puts this letter (Outside import class) token ref) named passes = cc
    uses_of _ is _ (gets_static letter (statics.Outside import class token)) named passes = cc
    uses_of _ is _ (puts_static letter (statics.Outside import class token)) named passes = cc
    uses_of item is how (gets false letter (Inside offset) token ref) named passes =
        let typed = instance_typed p verified counts j offset token is in
        let f : Field = record { class = Own 0 offset; token = token } in
        let a = using p (Gets false letter) (entry_type p j) (InstanceFieldref (Inside offset) token) in
        subst (Goes_by (Gets false letter) (InstanceFieldref (Inside offset) token))
        (sym (instance_op (Get false letter) offset token typed))
        (get_field l t room next lc lv m k fit supers declared f type typed letter
        (moved_by letter type a cs refl passes)
        (class_type (Inside offset)) (class_named l t declared offset token type typed ref) a refl refl cs vs w passes)
    uses_of item is how (gets true letter (Inside offset) token ref) named passes =
        let typed = instance_typed p verified counts j offset token is in
        let f : Field = record { class = Own 0 offset; token = token } in
        let a = using p (Gets true letter) (entry_type p j) (InstanceFieldref (Inside offset) token) in
        subst (Goes_by (Gets true letter) (InstanceFieldref (Inside offset) token))
        (sym (instance_op (Get true letter) offset token typed))
        (get_field_this l t room next lc lv m k fit supers declared f type typed letter
        (moved_by letter type a cs refl passes) (class_type (Inside offset))
        (class_named l t declared offset token type typed ref) a refl refl refl cs vs w passes)
    uses_of item is how (puts false letter (Inside offset) token ref) named passes =
        let typed = instance_typed p verified counts j offset token is in
        let f : Field = record { class = Own 0 offset; token = token } in
        let a = using p (Puts false letter) (entry_type p j) (InstanceFieldref (Inside offset) token) in
        subst (Goes_by (Puts false letter) (InstanceFieldref (Inside offset) token))
        (sym (instance_op (Put false letter) offset token typed))
        (put_field l t room next lc lv m k fit supers declared f type typed letter
        (moved_by letter type a cs refl passes)
        (class_type (Inside offset)) (class_named l t declared offset token type typed ref) a refl refl cs vs w passes)
    uses_of item is how (puts true letter (Inside offset) token ref) named passes =
        let typed = instance_typed p verified counts j offset token is in
        let f : Field = record { class = Own 0 offset; token = token } in
        let a = using p (Puts true letter) (entry_type p j) (InstanceFieldref (Inside offset) token) in
        subst (Goes_by (Puts true letter) (InstanceFieldref (Inside offset) token))
        (sym (instance_op (Put true letter) offset token typed))
        (put_field_this l t room next lc lv m k fit supers declared f type typed letter
        (moved_by letter type a cs refl passes) (class_type (Inside offset))
        (class_named l t declared offset token type typed ref) a (append-nil _) refl refl cs vs w passes)
    uses_of item is how (gets_static letter (statics.Inside offset)) named passes =
        let typed = cell_typed p verified counts j offset is in
        let a = using p (GetsStatic letter) (entry_type p j) (StaticFieldref (statics.Inside offset)) in
        get_cell l t room next lc lv m k fit (record { part = 0; offset = offset }) type typed letter
        (moved_by letter type a cs refl passes) a refl refl cs vs w passes
    uses_of item is how (puts_static letter (statics.Inside offset)) named passes =
        let typed = cell_typed p verified counts j offset is in
        let a = using p (PutsStatic letter) (entry_type p j) (StaticFieldref (statics.Inside offset)) in
        put_cell l t room next lc lv m k fit (record { part = 0; offset = offset }) type typed letter
        (moved_by letter type a cs refl passes) a refl refl cs vs w passes

-- an instruction on a field of the package
pub uses_go : (p : Pair) → IsVerified p
    → (let c = p.components in let d = c.descriptor in let q = c.pool in length d.pool_types ≡ length q.entries)
    → SupersStand p.loaded → AreDeclared p.loaded (field_types p) → (room next : ℕ) (lc : List Cell)
    (lv : List (Option Value)) (m : Memory Class Field (List Image)) → AreLocals (object_is p.loaded m.heap) lc lv
    → IsMemory p.loaded (field_types p) m → (j : ℕ) (item : PoolEntry) → entry_of p j ≡ Some item → (how : Use)
    → UsesField how item → (let a = using p how (entry_type p j) item in a.misnames ≡ false) → (cs : List Cell)
    (vs : List Value) → AreWords (object_is p.loaded m.heap) cs vs
    → Passes (is_type_of p.loaded) room (using p how (entry_type p j) item) lc cs
    → Goes p.loaded (field_types p) next (stack_behind (using p how (entry_type p j) item) lc cs) lc m
    (effect (classes p.loaded) (or_undone (machine.using p.loaded 0 how item)) room next lv m vs)
uses_go p verified counts supers declared room next lc lv m k fit j item is how u named cs vs w passes =
    uses_of p verified counts supers declared room next lc lv m k fit j cs vs w item is how u named passes
