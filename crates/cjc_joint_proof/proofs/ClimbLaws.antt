-- Classes of packages that are loaded together stand in the group over those of their packages and of the packages that
-- these import, and dispatch goes through all of them.
use Rattle.std.proofs.Common.{◌≡◌, ℕ, zero, suc, ◌+◌, ◌<◌, ◌≤◌, arith, refl, sym, ap, subst, ◌∙◌, Bool, true, false}
use Rattle.std.proofs.Common.{List, [], ◌∷◌, length}
use Rattle.std.specs.Prelude.{Option, Some, None, is_some, option_and_then, option_map, slice_get, ◌==◌}
use Rattle.std.specs.Prelude.{if◌then◌else◌, unwrap_or}
use Rattle.std.proofs.lemmas.Option.{slice_get_within}
use Rattle.cjc_card_semantics.specs.Bytes.AccessFlags.{is_interface}
use Rattle.cjc_card_semantics.specs.Machine.Classes.{Class as CardClass, External, Info, Own, class_of, depth}
use Rattle.cjc_card_semantics.specs.Machine.Classes.{info_count, info_size, infos, number_from}
use Rattle.cjc_card_semantics.specs.CapRead.declared.tree.ClassEntry.{ClassEntry}
use Rattle.cjc_card_semantics.specs.ExportFile.declared.tree.ExportClass.{ExportClass}
use Rattle.cjc_card_semantics.specs.Machine.Dispatch.{At, Exported, Outward, Table, Tower, above, dispatched_hidden}
use Rattle.cjc_card_semantics.specs.Machine.Dispatch.{dispatched_open, exported_line, tower}
use Rattle.cjc_card_semantics.specs.Machine.Loaded.{Loaded, Part}
use Rattle.cjc_exported.specs.Components.Methods.{method_offset}
use Rattle.cjc_exported.specs.World.Classes.{Class, class_named}
use Rattle.cjc_exported.specs.World.declared.found.Found.{Found}
use Rattle.cjc_link_semantics.specs.Components.ExportFile.{export_of}
use Rattle.cjc_link_semantics.specs.Components.Names.{class_at, class_ref}
use Rattle.cjc_link_semantics.specs.Components.Package.{Package, world}
use Rattle.cjc_link_semantics.specs.JvmSemantics.Group.{is_of_group}
use Rattle.cjc_link_semantics.specs.Loaded.{group_loaded, part_in}
use Rattle.cjc_token_proof.proofs.CallsLaws.Dispatch.{dispatch_agrees}
use Rattle.cjc_token_proof.proofs.CallsLaws.Towers.{card_file, card_package, superclass_above, tower_on_card}
use Rattle.cjc_token_proof.proofs.TablesLaws.Above.{says_kinds}
use Rattle.cjc_token_proof.proofs.TablesLaws.Clean.{has_named}
use Rattle.cjc_token_proof.proofs.TablesLaws.Named.{has_entry}
use Rattle.cjc_token_proof.proofs.WrittenCalls.Facts.{Facts}
use Rattle.cjc_token_proof.proofs.WrittenCalls.Towers as alone
use Rattle.cjc_token_proof.proofs.WrittenCalls.Towers.{class_stands}
use Rattle.cjc_token_proof.specs.ByToken.Supers.{SaysKinds}
use Rattle.cjc_token_proof.specs.Calls.Dispatching.{DispatchAgrees, SaysTables, SaysTower, event, of_file, of_package}
use Rattle.cjc_token_proof.specs.Tables.Infos.{HasEntry}
use Rattle.cjc_token_proof.specs.Tables.Loading.{loaded, naming, part}
use Rattle.cjc_token_proof.specs.VTable.Dispatch as tables
use Rattle.cjc_token_proof.specs.VTable.Dispatch.{tower_of}
use Rattle.cjc_token_proof.specs.VTable.Naming.{named}
use Rattle.cjc_tokens.specs.Members.{Signature}
use Rattle.cjc_joint_proof.specs.JointPackages.{AreLinked, IsLinked, class_together, files_together, to_outside}
use Rattle.cjc_joint_proof.specs.JointPackages.{to_package}
use Rattle.cjc_joint_proof.specs.JointTowers.{ClassStands, ClassesStandUp, DispatchGoesOn, GoesOn}
use Rattle.cjc_joint_proof.specs.Loading.{AllLead, group_of, member_of}
use Rattle.cjc_joint_proof.specs.Parts.{HasNoOther, IsPart, class_in}
use Rattle.cjc_joint_proof.specs.Towers.{IsOwnTower, Reaches, Stands, arrived, climbs, onto, outside}
use Rattle.cjc_joint_proof.proofs.ClassLaws.{class_means, exported, named_in, number_in, part_at, sound_at}
use Rattle.cjc_joint_proof.proofs.LoadLaws.{no_other}
use Rattle.cjc_joint_proof.proofs.MeantLaws.{part_of}
use Rattle.cjc_joint_proof.proofs.PartLaws.{refs_agree}
use Rattle.cjc_joint_proof.proofs.ReferLaws.{of_package as member_at}
use Rattle.cjc_joint_proof.proofs.TowerLaws.{hidden_passes, hidden_stays, open_goes_on, open_stays, own_tower, stands_on}
use Rattle.cjc_joint_proof.proofs.TowerLaws.{tower_goes_on}

-- ---- a package by itself

-- an info that has a number is one of them
number_low : (at : ℕ) (is : List Info) (offset n : ℕ) → number_from at is offset ≡ Some n → n < length is
number_low at [] offset n e = cc
number_low at (i ∷ is) offset n e = by (at == offset) (number_from (at + info_size i) is offset) e
    (λ k f. number_low (at + info_size i) is offset k f)
  where
    by : (b : Bool) (o : Option ℕ) → (if b then Some 0 else option_map suc o) ≡ Some n
        → ((k : ℕ) → o ≡ Some k → k < length is) → n < suc (length is)
    by true o f rest = let same : 0 ≡ n = cc in omega (arith, same)
    by false None f rest = cc
    by false (Some k) f rest = let same : suc k ≡ n = cc in let lt = rest k refl in omega (arith, same, lt)

module _ (p : Package) (facts : Facts p) where
  -- the imported class at the foot, no interface where the class is none
  record Foot (z : List ℕ) : Type 0 where
    class : Class
    known : class_named (world p) z ≡ Some class
    imported : class.is_imported ≡ true
    plain : is_interface class.flags ≡ false

  foot_of : {h : ℕ} {x z : List ℕ} → SaysTower (world p) (naming p) (method_offset p) h x z → (c : Class)
      → class_named (world p) x ≡ Some c → is_interface c.flags ≡ false → Foot z
  foot_of (of_file d known import file) c e plain = record {
    class = d;
    known = known;
    imported = import;
    plain = (let same : c ≡ d = (let both : Some c ≡ Some d = sym e ∙ known in cc)
        in ap (λ (q : Class). is_interface q.flags) (sym same) ∙ plain);
  }
  foot_of (of_package {x = x} d super known own supers class more) c e plain =
      let up = facts.super_there x super d known own supers in foot_of more up.0 up.1 up.2

  stands_low : (x : List ℕ) (c : Class) → class_named (world p) x ≡ Some c → (s : alone.Stands p facts x)
      → s.height ≤ (let q = part p in length (infos q))
  stands_low x c e s = by c.is_imported refl
    where
      by : (b : Bool) → c.is_imported ≡ b → s.height ≤ (let q = part p in length (infos q))
      by true im = let z = s.flat c e im in omega (arith, z)
      by false own =
          let h = facts.own x c e own in
          let low = s.low c h.number e h.ordered in
          let lt = number_low 2 (infos (part p)) h.offset h.number h.numbered in
          omega (arith, low, lt)

  pub stand_up : ClassesStandUp p
  stand_up x c e plain =
      let s = class_stands p facts x c e plain in
      let f = foot_of s.tower c e plain in
      record {
        height = s.height;
        foot = s.foot;
        tower = s.tower;
        low = stands_low x c e s;
        first = s.imported;
        class = f.class;
        known = f.known;
        imported = f.imported;
        plain = f.plain;
      }

-- the way up to the imported class
reaches : (p : Package) {h : ℕ} {x z : List ℕ} → SaysTower (world p) (naming p) (method_offset p) h x z
    → Reaches (loaded p) h (class_at p x) (class_at p z)
reaches p (of_file {x = x} c known import file) = subst (λ (d : CardClass). Reaches (loaded p) 0 d d) (sym file.on_card)
    arrived
reaches p (of_package {height = h} {z = z} c super known own supers class more) =
    subst (λ (d : CardClass). Reaches (loaded p) (suc h) d (class_at p z)) (sym class.on_card) (climbs class.entry
    class.there class.superclass (reaches p more))

-- a class of the package by its offset
record AtOffset (p : Package) (x : List ℕ) : Type 0 where
  offset : ℕ
  is : class_at p x ≡ Own 0 offset

at_its_offset : (p : Package) {h : ℕ} {x z : List ℕ} → SaysTower (world p) (naming p) (method_offset p) h x z
    → (c : Class) → class_named (world p) x ≡ Some c → c.is_imported ≡ false → AtOffset p x
at_its_offset p (of_file d e import file) c known mine =
    let both : Some c ≡ Some d = sym known ∙ e in
    let same : c ≡ d = cc in
    let clash : false ≡ true = sym mine ∙ ap (λ (v : Class). v.is_imported) same ∙ import in
    absurd (cc)
at_its_offset p (of_package d super e own supers class more) c known mine = record {
  offset = class.at;
  is = class.on_card;
}

-- ---- infos of the packages before

infos_before : List Part → (place : ℕ) → ℕ
infos_before [] q = 0
infos_before (part ∷ parts) zero = 0
infos_before (part ∷ parts) (suc q) = length (infos part) + infos_before parts q

none_before : (parts : List Part) → infos_before parts 0 ≡ 0
unfolding infos_before
none_before [] = refl
none_before (part ∷ parts) = refl

before_all : (parts : List Part) (q : ℕ) → infos_before parts q ≤ info_count parts
unfolding infos_before
before_all [] q = omega arith
before_all (part ∷ parts) zero = omega arith
before_all (part ∷ parts) (suc q) = let le = before_all parts q in omega (arith, le)

before_next : (parts : List Part) (q : ℕ) (part : Part) → slice_get parts q ≡ Some part
    → infos_before parts (suc q) ≡ infos_before parts q + length (infos part)
unfolding infos_before
before_next [] q part e = cc
before_next (x ∷ parts) zero part e =
    let same : x ≡ part = cc in
    let z = none_before parts in
    let l : length (infos x) ≡ length (infos part) = ap (λ (y : Part). length (infos y)) same in
    omega (arith, z, l)
before_next (x ∷ parts) (suc q) part e = let rest = before_next parts q part e in omega (arith, rest)

before_more : (parts : List Part) (r q : ℕ) → r < q → infos_before parts (suc r) ≤ infos_before parts q
unfolding infos_before
before_more [] r q lt = omega arith
before_more (x ∷ parts) r zero lt = absurd (omega (arith, lt))
before_more (x ∷ parts) zero (suc q) lt = let z = none_before parts in omega (arith, z)
before_more (x ∷ parts) (suc r) (suc q) lt = let le = before_more parts r q (omega (arith, lt)) in omega (arith, le)

-- ---- a group

module _ (packages : List Package) (linked : AreLinked packages) (leads : (q : ℕ) (p : Package)
    → slice_get packages q ≡ Some p → AllLead (group_of packages) (member_of p)) (up : (q : ℕ) (p : Package)
    → slice_get packages q ≡ Some p → ClassesStandUp p) where
  abbrev l : Loaded
  l = group_loaded (group_of packages)

  module _ (q : ℕ) (p : Package) (here : slice_get packages q ≡ Some p) where
    is_part : IsPart (loaded p) l q
    is_part = part_of packages linked q p here

    has_no_other : HasNoOther (loaded p) l q
    has_no_other = no_other (group_of packages) q (member_of p) (member_at packages q p here) (leads q p here)

    -- a class that the package names is in the group the class of that name
    pub class_is_in : (x : List ℕ) (c : Class) → class_named (world p) x ≡ Some c
        → class_in l q (class_at p x) ≡ Some (class_together packages x)
    class_is_in x c e =
        let s = sound_at packages linked q p here in
        let k = says_kinds s.list p s.sound in
        sym (ap (option_and_then (class_in l q)) (k.class_ref x (ap is_some e)))
        ∙ sym (refs_agree (loaded p) l q is_part has_no_other (class_ref p x))
        ∙ class_means packages linked q p here x c e

  -- ---- how high classes stand

  record Climbs (limit : ℕ) (x : List ℕ) : Type 0 where
    height : ℕ
    low : height ≤ limit
    stands : Stands l height (class_together packages x)

  -- one whose package is one before, or from outside
  abbrev Below : ℕ → Type 0
  Below q = (r : ℕ) (e : Package) → r < q → slice_get packages r ≡ Some e → (x : List ℕ) (c : Class)
      → class_named (world e) x ≡ Some c → is_interface c.flags ≡ false → Climbs (infos_before l.parts (suc r)) x

  import_climbs : (q : ℕ) → Below q → (p : Package) → slice_get packages q ≡ Some p → (x : List ℕ) (c : Class)
      → class_named (world p) x ≡ Some c → is_interface c.flags ≡ false → c.is_imported ≡ true
      → Climbs (infos_before l.parts q) x
  import_climbs q below p here x c known plain import = linked_so (linked.imports q h.file p h.tree (record {
    member = here;
    file = h.in_list;
  }))
    where
      h : HasEntry p c
      h = let s = sound_at packages linked q p here in has_entry s.list p s.sound c (has_named (world p) x c known)
          import

      linked_so : IsLinked packages q h.tree → Climbs (infos_before l.parts q) x
      linked_so (to_package r e before there same) =
          let o = exported packages linked q p here x c known h r e there same in
          let k = below r e before there x o.class o.there (sym o.kind ∙ plain) in
          let more = before_more l.parts r q before in
          record { height = k.height; low = (let low = k.low in omega (arith, low, more)); stands = k.stands }
      linked_so (to_outside out) =
          let entry = h.entry in
          let number = number_in packages linked q p here x c known h out in
          let is : class_together packages x ≡ External number entry.token =
          ap (λ o. unwrap_or o (Own 0 0)) (named_in packages linked q p here x c known h out) in
          record {
            height = 0;
            low = omega arith;
            stands = subst (Stands l 0) (sym is) outside;
          }

  own_climbs : (q : ℕ) → Below q → (p : Package) → slice_get packages q ≡ Some p → (x : List ℕ) (c : Class)
      → class_named (world p) x ≡ Some c → is_interface c.flags ≡ false → Climbs (infos_before l.parts (suc q)) x
  own_climbs q below p here x c known plain =
      let s = up q p here x c known plain in
      let k = import_climbs q below p here s.foot s.class s.known s.plain s.imported in
      let next : infos_before l.parts (suc q) ≡ infos_before l.parts q + length (infos (part p)) =
      before_next l.parts q (part_in (group_of packages) l.trees (member_of p)) (part_at packages linked q p here) in
      record {
        height = s.height + k.height;
        low = (let a = s.low in let b = k.low in omega (arith, a, b, next));
        stands = stands_on (loaded p) l q (is_part q p here) (has_no_other q p here) s.height k.height (class_at p x)
            (class_at p s.foot) (class_together packages s.foot) (class_together packages x) (reaches p s.tower)
            (class_is_in q p here s.foot s.class s.known) (class_is_in q p here x c known) k.stands;
      }

  all_climb : (n : ℕ) (q : ℕ) → q < n → (p : Package) → slice_get packages q ≡ Some p → (x : List ℕ) (c : Class)
      → class_named (world p) x ≡ Some c → is_interface c.flags ≡ false → Climbs (infos_before l.parts (suc q)) x
  all_climb zero q lt p here x c known plain = absurd (omega (arith, lt))
  all_climb (suc n) q lt p here x c known plain = own_climbs q (λ r e before there y d. all_climb n r (omega (
    arith,
    before,
    lt,
  )) e there y d) p here x c known plain

  below_all : (q : ℕ) → Below q
  below_all q r e before there y d = all_climb (suc r) r (omega arith) e there y d

  -- ---- towers

  module _ (q : ℕ) (p : Package) (here : slice_get packages q ≡ Some p) (x : List ℕ) (c : Class)
      (known : class_named (world p) x ≡ Some c) (plain : is_interface c.flags ≡ false)
      (mine : c.is_imported ≡ false) where
    abbrev s : ClassStands p x
    s = up q p here x c known plain

    at_offset : AtOffset p x
    at_offset = at_its_offset p s.tower c known mine

    reach_own : Reaches (loaded p) s.height (Own 0 (let a = at_offset in a.offset)) (class_at p s.foot)
    reach_own = let a = at_offset in
        subst (λ (d : CardClass). Reaches (loaded p) s.height d (class_at p s.foot)) a.is (reaches p s.tower)

    own_is : class_together packages x ≡ Own q (let a = at_offset in a.offset)
    own_is =
        let a = at_offset in
        let both : Some (Own q a.offset) ≡ Some (class_together packages x) = sym (ap (class_in l q) a.is)
        ∙ class_is_in q p here x c known in
        some_same both
      where
        some_same : {a b : CardClass} → Some a ≡ Some b → b ≡ a
        some_same e = cc

    low_alone : s.height ≤ depth (loaded p)
    low_alone =
        let low = s.low in
        let is : depth (loaded p) ≡ 1 + (length (infos (part p)) + 0) = refl in
        omega (arith, low, is)

    own_one : IsOwnTower (tower (loaded p) (class_at p x))
    own_one = let a = at_offset in
        subst (λ (d : CardClass). IsOwnTower (tower (loaded p) d)) (sym a.is) (own_tower (loaded p) s.height a.offset
        (class_at p s.foot) reach_own low_alone)

    -- the tables of the package by itself, and above them those of the imported class in the group
    pub tower_is : tower l (class_together packages x)
        ≡ onto q (tower (loaded p) (class_at p x)) (tower l (class_together packages s.foot))
    tower_is =
        let a = at_offset in
        let k = import_climbs q (below_all q) p here s.foot s.class s.known s.plain s.imported in
        let next : infos_before l.parts (suc q) ≡ infos_before l.parts q + length (infos (part p)) =
        before_next l.parts q (part_in (group_of packages) l.trees (member_of p)) (part_at packages linked q p here) in
        let all = before_all l.parts (suc q) in
        let is : depth l ≡ 1 + info_count l.parts = refl in
        let high : s.height + k.height ≤ depth l = (let low = s.low in let more = k.low in omega (
          arith,
          low,
          more,
          next,
          all,
          is,
        )) in
        ap (tower l) own_is
        ∙ tower_goes_on (loaded p) l q (is_part q p here) (has_no_other q p here) s.height k.height a.offset (class_at p
        s.foot) (class_together packages s.foot) reach_own (class_is_in q p here s.foot s.class s.known) k.stands
        low_alone high
        ∙ ap (λ (d : CardClass). onto q (tower (loaded p) d) (tower l (class_together packages s.foot))) (sym a.is)

    -- so dispatch goes on
    pub dispatch_on : DispatchAgrees (world p) (naming p) (method_offset p) x s.foot
        → DispatchGoesOn packages q p x s.foot
    dispatch_on agrees = record {
      own = λ t f sig at is mine. ap (λ u. dispatched_open u t) tower_is
          ∙ open_stays q (tower (loaded p) (class_at p x)) (tower l (class_together packages s.foot)) t
          (method_offset p f) own_one (agrees.open_method t f sig at is
          ∙ ap (λ b. if b then Outward (event s.foot sig) else At 0 (method_offset p f)) mine);
      onward = λ t f sig at is import. ap (λ u. dispatched_open u t) tower_is
          ∙ open_goes_on q (tower (loaded p) (class_at p x)) (tower l (class_together packages s.foot)) t
          (event s.foot sig) own_one (agrees.open_method t f sig at is
          ∙ ap (λ b. if b then Outward (event s.foot sig) else At 0 (method_offset p f)) import);
      hidden = λ t f at mine. ap (λ u. dispatched_hidden u q t) tower_is
          ∙ hidden_stays q (tower (loaded p) (class_at p x)) (tower l (class_together packages s.foot)) t
          (method_offset p f) own_one (agrees.package_method t f (record { name = []; desc = [] }) at
          ∙ ap (λ b. if b then Outward (event s.foot (record { name = []; desc = [] })) else At 0 (method_offset p f))
          mine);
      passed = λ r t other. ap (λ u. dispatched_hidden u r t) tower_is
          ∙ hidden_passes q r (tower (loaded p) (class_at p x)) (tower l (class_together packages s.foot)) t own_one
          other;
    }

-- ---- the superclass

-- a class of the package has a table, and what stands above it
record HasTable (t : Tower) : Type 0 where
  entry : ClassEntry
  up : Tower
  is : t ≡ Table 0 entry up

has_table : (p : Package) {h : ℕ} {x z : List ℕ} → SaysTower (world p) (naming p) (method_offset p) h x z → (c : Class)
    → class_named (world p) x ≡ Some c → c.is_imported ≡ false → (d : ℕ) → h ≤ d
    → HasTable (tower_on_card (naming p) d x)
has_table p (of_file b e import file) c known mine d le =
    let both : Some c ≡ Some b = sym known ∙ e in
    let same : c ≡ b = cc in
    let clash : false ≡ true = sym mine ∙ ap (λ (v : Class). v.is_imported) same ∙ import in
    absurd (cc)
has_table p (of_package b super e own supers class more) c known mine zero le = absurd (omega (arith, le))
has_table p (of_package {x = x} b super e own supers class more) c known mine (suc d) le = record {
  entry = class.entry;
  up = tower_on_card (naming p) d super;
  is = card_package (world p) (naming p) (method_offset p) d x super b class;
}

above_on : (q : ℕ) (t end : Tower) → HasTable t → above (onto q t end) ≡ onto q (above t) end
above_on q t end h =
    ap (λ u. above (onto q u end)) h.is ∙ sym (ap (λ u. onto q (above u) end) h.is)

-- the tower of a class of an export file ends the package's
imported_end : (p : Package) {h : ℕ} {x z : List ℕ} → SaysTower (world p) (naming p) (method_offset p) h x z
    → (c : Class) → class_named (world p) x ≡ Some c → c.is_imported ≡ true → (d : ℕ)
    → (cs : List ExportClass) × (tower_on_card (naming p) d x ≡ Exported cs)
imported_end p (of_file {x = x} b e import file) c known im d =
    (exported_line (loaded p) (Some file.entry), card_file (world p) (naming p) (method_offset p) d x b file)
imported_end p (of_package b super e own supers class more) c known im d =
    let both : Some c ≡ Some b = sym known ∙ e in
    let same : c ≡ b = cc in
    let clash : true ≡ false = sym im ∙ ap (λ (v : Class). v.is_imported) same ∙ own in
    absurd (cc)

-- what the tables of a class say of its superclass
record SaysSuperclass (p : Package) (h : ℕ) (x z : List ℕ) (c : Class) : Type 0 where
  height : ℕ
  super : List ℕ
  supers : c.supers ≡ super ∷ []
  tables : SaysTables (world p) (naming p) (method_offset p) x c super
  tower : SaysTower (world p) (naming p) (method_offset p) height super z
  less : suc height ≤ h

says_super : (p : Package) {h : ℕ} {x z : List ℕ} → SaysTower (world p) (naming p) (method_offset p) h x z
    → (c : Class) → class_named (world p) x ≡ Some c → c.is_imported ≡ false → SaysSuperclass p h x z c
says_super p (of_file b e import file) c known mine =
    let both : Some c ≡ Some b = sym known ∙ e in
    let same : c ≡ b = cc in
    let clash : false ≡ true = sym mine ∙ ap (λ (v : Class). v.is_imported) same ∙ import in
    absurd (cc)
says_super p (of_package {height = k} {x = x} {z = z} b super e own supers class more) c known mine =
    let both : Some b ≡ Some c = sym e ∙ known in
    let same : b ≡ c = cc in
    subst (λ (v : Class). SaysSuperclass p (suc k) x z v) same (record {
      height = k;
      super = super;
      supers = supers;
      tables = class;
      tower = more;
      less = omega arith;
    })

-- one foot has one imported class
one_foot : (p : Package) {h k : ℕ} {x y z : List ℕ} → SaysTower (world p) (naming p) (method_offset p) h x y
    → SaysTower (world p) (naming p) (method_offset p) k x z → y ≡ z
one_foot p (of_file b e import file) (of_file d g imported other) = refl
one_foot p (of_file b e import file) (of_package d super g own supers class more) =
    let both : Some b ≡ Some d = sym e ∙ g in
    let same : b ≡ d = cc in
    let clash : true ≡ false = sym import ∙ ap (λ (v : Class). v.is_imported) same ∙ own in
    absurd (cc)
one_foot p (of_package d super g own supers class more) (of_file b e import file) =
    let both : Some b ≡ Some d = sym e ∙ g in
    let same : b ≡ d = cc in
    let clash : true ≡ false = sym import ∙ ap (λ (v : Class). v.is_imported) same ∙ own in
    absurd (cc)
one_foot p (of_package {z = y} d super g own supers class more) (of_package {height = k} {z = z} b over e mine others table next) =
    let both : Some d ≡ Some b = sym g ∙ e in
    let same : d ≡ b = cc in
    let lists : super ∷ [] ≡ over ∷ [] = sym supers ∙ ap (λ (v : Class). v.supers) same ∙ others in
    let one : over ≡ super = cc in
    one_foot p more (subst (λ s. SaysTower (world p) (naming p) (method_offset p) k s z) one next)

-- an imported class is its own foot
foot_is : (p : Package) {h : ℕ} {x z : List ℕ} → SaysTower (world p) (naming p) (method_offset p) h x z → (c : Class)
    → class_named (world p) x ≡ Some c → c.is_imported ≡ true → z ≡ x
foot_is p (of_file b e import file) c known im = refl
foot_is p (of_package b super e own supers class more) c known im =
    let both : Some c ≡ Some b = sym known ∙ e in
    let same : c ≡ b = cc in
    let clash : true ≡ false = sym im ∙ ap (λ (v : Class). v.is_imported) same ∙ own in
    absurd (cc)

module _ (packages : List Package) (linked : AreLinked packages) (leads : (q : ℕ) (p : Package)
    → slice_get packages q ≡ Some p → AllLead (group_of packages) (member_of p)) (up : (q : ℕ) (p : Package)
    → slice_get packages q ≡ Some p → ClassesStandUp p) (q : ℕ) (p : Package) (here : slice_get packages q ≡ Some p)
    (x : List ℕ) (c : Class) (known : class_named (world p) x ≡ Some c) (plain : is_interface c.flags ≡ false)
    (mine : c.is_imported ≡ false) (super : List ℕ) (supers : c.supers ≡ super ∷ []) (d : Class)
    (super_is : class_named (world p) super ≡ Some d) (super_plain : is_interface d.flags ≡ false) where
  -- what stands above the tables of a class in the group is the tower of its superclass there
  pub super_above : above (tower (group_loaded (group_of packages)) (class_together packages x))
      ≡ tower (group_loaded (group_of packages)) (class_together packages super)
  super_above =
      let s = up q p here x c known plain in
      let u = says_super p s.tower c known mine in
      let lists : u.super ∷ [] ≡ super ∷ [] = sym u.supers ∙ supers in
      let one : u.super ≡ super = cc in
      let low : s.height ≤ depth (loaded p) = (let low = s.low in let is : depth (loaded p) ≡ 1 + (length (infos (part
      p)) + 0) = refl in omega (arith, low, is)) in
      let less : suc u.height ≤ depth (loaded p) = (let more = u.less in omega (arith, more, low)) in
      let l = group_loaded (group_of packages) in
      let end = tower l (class_together packages s.foot) in
      ap above (tower_is packages linked leads up q p here x c known plain mine)
      ∙ above_on q (tower (loaded p) (class_at p x)) end (has_table p s.tower c known mine (depth (loaded p)) low)
      ∙ ap (λ t. onto q t end) (superclass_above (world p) (naming p) (method_offset p) x u.super s.foot c u.tables
      u.tower less)
      ∙ ap (λ y. onto q (tower (loaded p) (class_at p y)) end) one
      ∙ by d.is_imported refl s.foot (subst (λ y. SaysTower (world p) (naming p) (method_offset p) u.height y s.foot) one
      u.tower)
    where
      by : (b : Bool) → d.is_imported ≡ b → {h : ℕ} → (foot : List ℕ) → SaysTower (world p) (naming p)
          (method_offset p) h super foot
          → onto q (tower (loaded p) (class_at p super)) (tower (group_loaded (group_of packages)) (class_together
          packages foot)) ≡ tower (group_loaded (group_of packages)) (class_together packages super)
      by false own foot its =
          let v = up q p here super d super_is super_plain in
          ap (λ z. onto q (tower (loaded p) (class_at p super)) (tower (group_loaded (group_of packages)) (class_together
          packages z))) (one_foot p its v.tower)
          ∙ sym (tower_is packages linked leads up q p here super d super_is super_plain own)
      by true import foot its =
          let e = imported_end p its d super_is import (depth (loaded p)) in
          ap (λ t. onto q t (tower (group_loaded (group_of packages)) (class_together packages foot))) e.1
          ∙ ap (λ z. tower (group_loaded (group_of packages)) (class_together packages z)) (own_foot its)
        where
          own_foot : {h : ℕ} {z : List ℕ} → SaysTower (world p) (naming p) (method_offset p) h super z → z ≡ super
          own_foot t = foot_is p t d super_is import

-- ---- from what packages keep by themselves

pub goes_on : (packages : List Package) → AreLinked packages → ((q : ℕ) (p : Package) → slice_get packages q ≡ Some p
    → AllLead (group_of packages) (member_of p)) → (facts : (q : ℕ) (p : Package) → slice_get packages q ≡ Some p
    → Facts p) → (q : ℕ) (p : Package) → slice_get packages q ≡ Some p → (x : List ℕ) (c : Class)
    → class_named (world p) x ≡ Some c → is_interface c.flags ≡ false → c.is_imported ≡ false
    → GoesOn packages q p x
goes_on packages linked leads facts q p here x c known plain mine =
    let up : (r : ℕ) (e : Package) → slice_get packages r ≡ Some e → ClassesStandUp e = λ r e there. stand_up e
    (facts r e there) in
    let s = up q p here x c known plain in
    let v = sound_at packages linked q p here in
    let f = facts q p here in
    let low : s.height ≤ depth (loaded p) = (let low = s.low in let is : depth (loaded p) ≡ 1 + (length (infos (part p))
    + 0) = refl in omega (arith, low, is)) in
    record {
      foot = s.foot;
      first = s.first;
      class = s.class;
      known = s.known;
      imported = s.imported;
      plain = s.plain;
      on = dispatch_on packages linked leads up q p here x c known plain mine (dispatch_agrees (world p)
          f.are_supertypes f.one_supertypes (naming p) (method_offset p) f.low (says_kinds v.list p v.sound) s.height x
          s.foot s.tower low);
    }

-- how high a class stands in the group, and that a look-up over superclasses goes on so far
pub record StandsLow (packages : List Package) (x : List ℕ) : Type 0 where
  pub height : ℕ
  pub low : height ≤ depth (group_loaded (group_of packages))
  pub stands : Stands (group_loaded (group_of packages)) height (class_together packages x)

pub climbs_low : (packages : List Package) → AreLinked packages → ((q : ℕ) (p : Package) → slice_get packages q ≡ Some p
    → AllLead (group_of packages) (member_of p)) → (facts : (q : ℕ) (p : Package) → slice_get packages q ≡ Some p
    → Facts p) → (q : ℕ) (p : Package) → slice_get packages q ≡ Some p → (x : List ℕ) (c : Class)
    → class_named (world p) x ≡ Some c → is_interface c.flags ≡ false → StandsLow packages x
climbs_low packages linked leads facts q p here x c known plain =
    let k = all_climb packages linked leads (λ r e there. stand_up e (facts r e there)) (suc q) q (omega arith) p here x
    c known plain in
    let l = group_loaded (group_of packages) in
    let all = before_all l.parts (suc q) in
    let is : depth l ≡ 1 + info_count l.parts = refl in
    let low = k.low in
    record { height = k.height; low = omega (arith, low, all, is); stands = k.stands }

pub superclass_stands : (packages : List Package) → AreLinked packages → ((q : ℕ) (p : Package)
    → slice_get packages q ≡ Some p → AllLead (group_of packages) (member_of p)) → (facts : (q : ℕ) (p : Package)
    → slice_get packages q ≡ Some p → Facts p) → (q : ℕ) (p : Package) → slice_get packages q ≡ Some p → (x : List ℕ)
    (c : Class) → class_named (world p) x ≡ Some c → is_interface c.flags ≡ false → c.is_imported ≡ false
    → (super : List ℕ) → c.supers ≡ super ∷ []
    → above (tower (group_loaded (group_of packages)) (class_together packages x))
    ≡ tower (group_loaded (group_of packages)) (class_together packages super)
superclass_stands packages linked leads facts q p here x c known plain mine super supers =
    let f = facts q p here in
    let d = f.super_there x super c known mine supers in
    super_above packages linked leads (λ r e there. stand_up e (facts r e there)) q p here x c known plain mine super
    supers d.0 d.1 d.2
