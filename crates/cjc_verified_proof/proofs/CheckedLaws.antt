-- What the rules say of the fields of a package that is checked.
use Rattle.std.proofs.Common.{◌≡◌, ◌≤◌, ℕ, Bool, false, List, [], ◌++◌, length, Option, Some, refl}
use Rattle.std.proofs.Common.{leb-true}
use Rattle.std.specs.Prelude.{◌+◌, ◌*◌, ◌==◌, nat_le, nat_lt, None}
use Rattle.cjc_capread.specs.declared.tree.ClassRef.{ClassRef}
use Rattle.cjc_capread.specs.declared.tree.PoolEntry.{PoolEntry}
use Rattle.cjc_capread.specs.declared.tree.PoolEntry.TheVariants.{Classref}
use Rattle.cjc_check_rules.specs.Spots.{along, in_info, unless}
use Rattle.cjc_check_rules.specs.ClassRefs.{pool_count_at}
use Rattle.cjc_check_rules.specs.Complete.{array_size, described_size}
use Rattle.cjc_check_rules.specs.Described.{all_ascend, all_starts, classes_in_order, types_in_class, types_in_pool}
use Rattle.cjc_check_rules.specs.Statics.{in_array}
use Rattle.cjc_card_semantics.specs.Script.declared.value.Value.{Value}
use Rattle.cjc_intervals.specs.Types.declared.cell.Cell.{Cell}
use Rattle.cjc_card_semantics.specs.Bytecode.Effects.{Memory, effect}
use Rattle.cjc_card_semantics.specs.Bytecode.Meanings.{Makes, Use}
use Rattle.cjc_card_semantics.specs.Machine.Classes.{Class, Field}
use Rattle.cjc_card_semantics.specs.Machine.Loaded.{Loaded}
use Rattle.cjc_card_semantics.specs.Machine.Operations.{or_undone}
use Rattle.cjc_card_semantics.specs.Machine.Operations as machine
use Rattle.cjc_card_semantics.specs.Machine.Statics.{Image, first_memory}
use Rattle.cjc_card_semantics.specs.Machine.ByToken.{classes}
use Rattle.cjc_card_acts.specs.CardTypes.{MemberType, is_type_of}
use Rattle.cjc_verify.specs.Frames.Acts.{stack_behind}
use Rattle.cjc_components.specs.Paired.Naming.{part_of}
use Rattle.cjc_verify.specs.Instructions.{using}
use Rattle.cjc_verify.specs.Named.{entry_of, entry_type, names_unmade}
use Rattle.cjc_verify.specs.Pairs.{Pair}
use Rattle.cjc_verify_proof.specs.Words.{AreWords, AreLocals}
use Rattle.cjc_verify_proof.specs.Acts.{Passes}
use Rattle.cjc_verify_proof.specs.Heaps.{object_is}
use Rattle.cjc_verify_proof.specs.Memories.{AreDeclared, Goes, IsMemory, SupersStand}
use Rattle.cjc_verified_proof.specs.Checked.{Checked, IsChecked, pair}
use Rattle.cjc_verified_proof.specs.Entries.{IsRef, UsesField}
use Rattle.cjc_verified_proof.specs.PackageTypes.{HasSorts, field_types}
use Rattle.cjc_bytes.proofs.Lists.{none_left, none_right}
use Rattle.cjc_bytes.proofs.Numbers.{number_same}
use Rattle.cjc_verify_proof.proofs.FirstLaws.{first_holds}
use Rattle.cjc_verified_proof.proofs.DeclaredLaws.{all_declared}
use Rattle.cjc_verified_proof.proofs.EntryLaws.{unless_holds}
use Rattle.cjc_verified_proof.proofs.ImageFitsLaws.{image_fits}
use Rattle.cjc_verified_proof.proofs.MakeLaws.{makes_go}
use Rattle.cjc_verified_proof.proofs.SortLaws.{has_sorts}
use Rattle.cjc_verified_proof.proofs.SupersLaws.{supers_stand}
use Rattle.cjc_verified_proof.proofs.UseLaws.{uses_go}

module _ (c : Checked) (ok : IsChecked c) where
  abbrev p : Pair
  p = pair c

  abbrev l : Loaded
  l = p.loaded

  abbrev applets : Bool
  applets = let t = c.list in nat_lt 0 (length t.applets)

  sorts : HasSorts c.image
  sorts = has_sorts c.name (record { list = c.list; files = c.files; image = c.image; methods = [] }) ok.sound ok.typed
      ok.descs c.codes ok.initialised ok.once

  room : (let p = c.components in let s = p.statics in length s.array_inits ≤ s.reference_count)
  room =
      let s = (let p = c.components in p.statics) in
      let size = unless (s.image_size == 2 * s.reference_count + s.default_value_count + length s.values) (in_info 8 0)
      in
      let few = unless (nat_le (length s.array_inits) s.reference_count) (in_info 8 4) in
      leb-true (length s.array_inits) s.reference_count (unless_holds (nat_le (length s.array_inits) s.reference_count)
      (in_info 8 4) (none_right size few (none_left (size ++ few) (along array_size in_array 6 s.array_inits)
      ok.cells)))

  pub counts : (let q = c.components in let d = q.descriptor in let e = q.pool in length d.pool_types
      ≡ length e.entries)
  counts =
      let q = c.components in
      let d = q.descriptor in
      let e = q.pool in
      let order = classes_in_order d.classes (all_starts q.class) in
      let methods = all_ascend q.class None 1 d.classes in
      let types = along described_size (types_in_class d) 1 d.classes in
      let many = unless (length d.pool_types == length e.entries) (in_info 11 (pool_count_at d)) in
      let entries = types_in_pool d (pool_count_at d + 2) d.pool_types e.entries in
      number_same (length d.pool_types) (length e.entries) (unless_holds (length d.pool_types == length e.entries)
      (in_info 11 (pool_count_at d)) (none_right (order ++ methods ++ types) many (none_left (order ++ methods ++ types
      ++ many) entries ok.described)))

  pub supers : SupersStand l
  supers = supers_stand applets c.files c.image c.components ok.supers ok.no_object

  pub declared : AreDeclared l (field_types p)
  declared = all_declared applets c.name c.files c.image c.components ok.sound ok.typed ok.descs ok.static_ones
      ok.verified

  -- before the first entry
  pub memory_first : IsMemory l (field_types p) (first_memory l)
  memory_first = first_holds l (field_types p) (part_of applets c.files c.image c.components) refl
      (image_fits applets c.files c.image c.components sorts ok.paired room ok.verified)

  -- instructions on fields
  pub fields_go : (room next : ℕ) (lc : List Cell) (lv : List (Option Value)) (m : Memory Class Field (List Image))
      → AreLocals (object_is l m.heap) lc lv → IsMemory l (field_types p) m → (k : ℕ) (item : PoolEntry)
      → entry_of p k ≡ Some item → (how : Use) → UsesField how item
      → (let a = using p how (entry_type p k) item in a.misnames ≡ false) → (cs : List Cell) (vs : List Value)
      → AreWords (object_is l m.heap) cs vs → Passes (is_type_of l) room (using p how (entry_type p k) item) lc cs
      → Goes l (field_types p) next (stack_behind (using p how (entry_type p k) item) lc cs) lc m
      (effect (classes l) (or_undone (machine.using l 0 how item)) room next lv m vs)
  fields_go = uses_go p ok.verified counts supers declared

  -- instructions that make objects
  pub objects_go : (room next : ℕ) (lc : List Cell) (lv : List (Option Value)) (m : Memory Class Field (List Image))
      → AreLocals (object_is l m.heap) lc lv → IsMemory l (field_types p) m → (r : ClassRef) (t : MemberType) → IsRef r
      → names_unmade p r ≡ false → (cs : List Cell) (vs : List Value) → AreWords (object_is l m.heap) cs vs
      → Passes (is_type_of l) room (using p Makes t (Classref r)) lc cs
      → Goes l (field_types p) next (stack_behind (using p Makes t (Classref r)) lc cs) lc m
      (effect (classes l) (or_undone (machine.using l 0 Makes (Classref r))) room next lv m vs)
  objects_go = makes_go applets c.name c.files c.image c.components ok.sound ok.typed ok.descs ok.static_ones
      ok.verified
      supers
