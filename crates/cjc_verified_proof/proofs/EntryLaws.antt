-- What the rule of Descriptor's types says of entries of the constant pool.
use Rattle.std.proofs.Common.{◌≡◌, ◌+◌, ℕ, zero, suc, Bool, true, false, List, [], ◌∷◌, ◌++◌, length, map, slice_get}
use Rattle.std.proofs.Common.{get_or, Option, Some, None, refl, sym, ap, ◌∙◌, arith}
use Rattle.std.specs.Prelude.{option_and_then, option_map}
use Rattle.cjc_bytes.specs.Breaks.{Break, Among, foremost}
use Rattle.cjc_capread.specs.declared.tree.ClassRef.TheVariants as refs
use Rattle.cjc_capread.specs.declared.tree.StaticRef.TheVariants as statics
use Rattle.cjc_capread.specs.declared.tree.PoolEntry.{PoolEntry}
use Rattle.cjc_capread.specs.declared.tree.PoolEntry.TheVariants.{InstanceFieldref, StaticFieldref}
use Rattle.cjc_capread.specs.declared.tree.TypeDescriptor.{TypeDescriptor}
use Rattle.cjc_check_rules.specs.declared.spot.ComponentPlace.{ComponentPlace}
use Rattle.cjc_check_rules.specs.Spots.{beside, in_info, item_at, unless}
use Rattle.cjc_check_rules.specs.ClassRefs.{pool_count_at}
use Rattle.cjc_check_rules.specs.Consistent.{break_at}
use Rattle.cjc_check_rules.specs.Complete.{described_size}
use Rattle.cjc_check_rules.specs.Described.{types_at}
use Rattle.cjc_card_semantics.specs.Machine.Classes.{Own}
use Rattle.cjc_card_acts.specs.CardTypes.{MemberType, type_at, type_by, type_of, types_in}
use Rattle.cjc_world.specs.Order.{class_order}
use Rattle.cjc_verify.specs.Described.{are_nibbles, class_spots, described_spots, entry_spots, is_entry_type}
use Rattle.cjc_verify.specs.Described.{says, all_array_spots}
use Rattle.cjc_verify.specs.Infos.{all_abstract_spots, all_info_spots, all_table_spots}
use Rattle.cjc_verify.specs.Named.{entry_of, entry_type, named_desc}
use Rattle.cjc_verify.specs.Pairs.{Pair, nibbles_of, world}
use Rattle.cjc_verify.specs.Verified.{IsVerified, class_breaks, header_breaks, listed}
use Rattle.cjc_verified_proof.specs.PackageTypes.{field_types, type_of_desc, type_said}
use Rattle.cjc_bytes.proofs.BrokenRules.{among_left, among_right}
use Rattle.cjc_bytes.proofs.Lists.{bytes_true, none_left, none_right}
use Rattle.cjc_bytes.proofs.Gets.{get_below, get_inside}

-- ---- nothing is broken

-- no place of a rule is broken
pub no_spots : (rule : ℕ) (spots : List ComponentPlace) → ((b : Break) → Among b (map (break_at rule) spots) → ⊥)
    → spots ≡ []
no_spots rule [] never = refl
no_spots rule (s ∷ spots) never = absurd (never (break_at rule s) foremost)

pub described_none : (p : Pair) → IsVerified p → described_spots p ≡ []
described_none p verified = no_spots 721 (described_spots p) (λ b among. verified b (listed b (among_right b
    (class_breaks p ++ header_breaks p ++ map (break_at 728) (all_array_spots p)) (map (break_at 721)
    (described_spots p)) among)))

-- no rule of infos is broken
pub infos_none : (p : Pair) → IsVerified p → all_info_spots p ≡ []
infos_none p verified = no_spots 729 (all_info_spots p) (λ b among. verified b (listed b (among_left b (class_breaks p
    ++ header_breaks p ++ map (break_at 728) (all_array_spots p)) (map (break_at 721) (described_spots p))
    (among_left b (class_breaks p ++ header_breaks p) (map (break_at 728) (all_array_spots p)) (among_left b
    (class_breaks p) (header_breaks p) (among_right b (map (break_at 725) (all_table_spots p)
    ++ map (break_at 727) (all_abstract_spots p)) (map (break_at 729) (all_info_spots p)) among))))))

-- items beside each other of which none is broken
pub beside_none : {A B : Type 0} (size : A → ℕ) (broken : ℕ → A → B → List ComponentPlace) (at : ℕ) (xs : List A)
    (ys : List B) (k : ℕ) (x : A) (y : B) → beside size broken at xs ys ≡ [] → slice_get xs k ≡ Some x
    → slice_get ys k ≡ Some y → (place : ℕ) × (broken place x y ≡ [])
unfolding beside
beside_none size broken at [] ys k x y e f g = cc
beside_none size broken at (u ∷ xs) [] k x y e f g = cc
beside_none size broken at (u ∷ xs) (v ∷ ys) zero x y e f g =
    let first : u ≡ x = cc in
    let second : v ≡ y = cc in (
      at,
      ap (λ w. broken at w y) (sym first) ∙ ap (broken at u) (sym second) ∙ none_left (broken at u v)
          (beside size broken (at + size u) xs ys) e,
    )
beside_none size broken at (u ∷ xs) (v ∷ ys) (suc k) x y e f g = beside_none size broken (at + size u) xs ys k x y
    (none_right (broken at u v) (beside size broken (at + size u) xs ys) e) f g

-- a test that is not broken holds
pub unless_holds : (b : Bool) (s : ComponentPlace) → unless b s ≡ [] → b ≡ true
unless_holds true s e = refl
unless_holds false s e = cc

-- ---- types

item_or : (xs : List ℕ) (k x d : ℕ) → slice_get xs k ≡ Some x → get_or xs k d ≡ x
item_or [] k x d e = cc
item_or (y ∷ xs) zero x d e = cc
item_or (y ∷ xs) (suc k) x d e = item_or xs k x d e

-- what the same nibbles say
pub record Says (p : Pair) (offset : ℕ) (desc : List ℕ) : Type 0 where
  pub nibbles : List ℕ
  pub wanted : nibbles_of p desc ≡ Some nibbles
  pub type_is : (let c = p.components in type_at c.descriptor offset) ≡ type_by (types_in nibbles)

pub said : (p : Pair) (offset : ℕ) (desc : List ℕ) → says p offset desc ≡ true → Says p offset desc
said p offset desc e = by (item_at (types_at (let c = p.components in c.descriptor)) offset) refl (nibbles_of p desc)
    refl e
  where
    by : (o : Option TypeDescriptor) → item_at (types_at (let c = p.components in c.descriptor)) offset ≡ o
        → (w : Option (List ℕ)) → nibbles_of p desc ≡ w
        → are_nibbles (option_map (λ (t : TypeDescriptor). t.nibbles) o) w ≡ true → Says p offset desc
    by None f w g h = cc
    by (Some t) f None g h = cc
    by (Some t) f (Some w) g h =
        let same = bytes_true t.nibbles w h in
        record { nibbles = w; wanted = g; type_is = ap type_of f ∙ ap (λ ns. type_by (types_in ns)) same }

-- the types of an entry are what the descriptor of its member says
pub record IsTyped (p : Pair) (k : ℕ) (item : PoolEntry) : Type 0 where
  pub desc : List ℕ
  pub named : named_desc p item ≡ Some desc
  pub nibbles : List ℕ
  pub wanted : nibbles_of p desc ≡ Some nibbles
  pub type_is : entry_type p k ≡ type_by (types_in nibbles)

pub entry_typed : (p : Pair) → IsVerified p
    → (let c = p.components in let d = c.descriptor in let q = c.pool in length d.pool_types ≡ length q.entries)
    → (k : ℕ) (item : PoolEntry) → entry_of p k ≡ Some item
    → ((at offset : ℕ) → entry_spots p at offset item ≡ [] → is_entry_type p offset (named_desc p item) ≡ true)
    → IsTyped p k item
entry_typed p verified counts k item is spots =
    let c = p.components in
    let d = c.descriptor in
    let q = c.pool in
    let below = get_below q.entries k item is in
    let got = get_inside d.pool_types k (omega (arith, counts, below)) in
    let none = none_right (beside described_size (class_spots p) 1 d.classes (class_order (world p)))
    (beside (λ (offset : ℕ). 2) (entry_spots p) (pool_count_at d + 2) d.pool_types q.entries)
    (described_none p verified) in
    let r = beside_none (λ (offset : ℕ). 2) (entry_spots p) (pool_count_at d + 2) d.pool_types q.entries k got.0 item
    none got.1 is in
    by got.0 got.1 (named_desc p item) refl (spots r.0 got.0 r.1)
  where
    by : (offset : ℕ) → slice_get (let c = p.components in let d = c.descriptor in d.pool_types) k ≡ Some offset
        → (o : Option (List ℕ)) → named_desc p item ≡ o → is_entry_type p offset o ≡ true → IsTyped p k item
    by offset got None e h = cc
    by offset got (Some desc) e h =
        let s = said p offset desc h in
        let at = item_or (let c = p.components in let d = c.descriptor in d.pool_types) k offset 0xFFFF got in
        record {
          desc = desc;
          named = e;
          nibbles = s.nibbles;
          wanted = s.wanted;
          type_is = ap (type_at (let c = p.components in c.descriptor)) at ∙ s.type_is;
        }

-- the type of the field of an entry is what its descriptor says
pub entry_says : (p : Pair) → IsVerified p
    → (let c = p.components in let d = c.descriptor in let q = c.pool in length d.pool_types ≡ length q.entries)
    → (k : ℕ) (item : PoolEntry) → entry_of p k ≡ Some item
    → ((at offset : ℕ) → entry_spots p at offset item ≡ [] → is_entry_type p offset (named_desc p item) ≡ true)
    → (desc : List ℕ) × (named_desc p item ≡ Some desc)
    × (type_of_desc p desc ≡ Some (let t = entry_type p k in t.result))
entry_says p verified counts k item is spots =
    let t = entry_typed p verified counts k item is spots in
    (t.desc, t.named, ap (option_map type_said) t.wanted ∙ ap (λ (x : MemberType). Some x.result) (sym t.type_is))

-- the type of an entry of an instance field of the package
pub instance_typed : (p : Pair) → IsVerified p
    → (let c = p.components in let d = c.descriptor in let q = c.pool in length d.pool_types ≡ length q.entries)
    → (k offset token : ℕ) → entry_of p k ≡ Some (InstanceFieldref (refs.Inside offset) token)
    → (let t = field_types p in t.field (record { class = Own 0 offset; token = token }))
    ≡ Some (let t = entry_type p k in t.result)
instance_typed p verified counts k offset token is =
    let item = InstanceFieldref (refs.Inside offset) token in
    let r = entry_says p verified counts k item is (λ at type_offset e. unless_holds (is_entry_type p type_offset
    (named_desc p item)) (in_info 11 at) e) in
    ap (option_and_then (type_of_desc p)) r.1 ∙ r.2

-- the type of an entry of a static field of the package
pub cell_typed : (p : Pair) → IsVerified p
    → (let c = p.components in let d = c.descriptor in let q = c.pool in length d.pool_types ≡ length q.entries)
    → (k offset : ℕ) → entry_of p k ≡ Some (StaticFieldref (statics.Inside offset))
    → (let t = field_types p in t.cell (record { part = 0; offset = offset }))
    ≡ Some (let t = entry_type p k in t.result)
cell_typed p verified counts k offset is =
    let item = StaticFieldref (statics.Inside offset) in
    let r = entry_says p verified counts k item is (λ at type_offset e. unless_holds (is_entry_type p type_offset
    (named_desc p item)) (in_info 11 at) e) in
    ap (option_and_then (type_of_desc p)) r.1 ∙ r.2
