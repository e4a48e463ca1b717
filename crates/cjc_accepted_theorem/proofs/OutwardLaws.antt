-- What dispatch gives of imported classes is no abstract method, where selection by name gives nothing of the package.
use Rattle.std.proofs.Common.{◌≡◌, ◌⊎◌, ⊎_elim, inl, inr, ℕ, suc, ◌+◌, refl, sym, ap, subst, ◌∙◌, arith, Bool, true}
use Rattle.std.proofs.Common.{false, List, [], ◌∷◌, length, map}
use Rattle.std.specs.Prelude.{◌&&◌, ◌||◌, not, cond, Option, Some, None, if◌then◌else◌, option_map, slice_get}
use Rattle.std.specs.List.{find}
use Rattle.std.specs.Str.{bytes_eq}
use Rattle.cjc_verified_proof.specs.Bytes.AccessFlags.{is_abstract, is_static}
use Rattle.cjc_verified_proof.specs.Bytes.declared.fault.MemberId.{MemberId}
use Rattle.cjc_verified_proof.proofs.BytesBools.{clash}
use Rattle.cjc_verified_proof.proofs.BytesPlain.{same_some}
use Rattle.cjc_verified_proof.specs.CardSemantics.Machine.Classes.{or_else}
use Rattle.cjc_verified_proof.specs.CardSemantics.Machine.Dispatch.{Outward, exported_line}
use Rattle.cjc_verified_proof.specs.Components.Methods.{method_offset}
use Rattle.cjc_verified_proof.specs.Components.Package.{Package, world}
use Rattle.cjc_verified_proof.specs.ExportFile.declared.tree.ExportClass.{ExportClass}
use Rattle.cjc_verified_proof.specs.ExportFile.declared.tree.ExportMethod.{ExportMethod}
use Rattle.cjc_verified_proof.specs.JvmSemantics.OnePackage.{ResolvedMember, method_hit}
use Rattle.cjc_verified_proof.specs.TokenProof.Calls.Dispatching.{SaysTower, event, of_file, of_package}
use Rattle.cjc_verified_proof.specs.TokenProof.Calls.Selecting.{signature}
use Rattle.cjc_verified_proof.specs.TokenProof.Tables.Loading.{loaded, naming}
use Rattle.cjc_verified_proof.specs.Verify.Named.{first_of, is_abstract_listed, is_abstract_selection, line_found}
use Rattle.cjc_verified_proof.specs.Verify.Named.{listed_as}
use Rattle.cjc_verified_proof.specs.Verify.Pairs.{Pair}
use Rattle.cjc_verified_proof.specs.World.Classes.{Class, Member, class_named, imported, method_of_export}
use Rattle.cjc_verified_proof.specs.World.Lookup.{first, member_at, own_method}
use Rattle.cjc_verified_proof.specs.World.Lookup as lookup
use Rattle.cjc_verified_proof.specs.World.Supertypes.{line, supertypes}
use Rattle.cjc_verified_proof.specs.World.Supertypes as supertype_trees
use Rattle.cjc_verified_proof.specs.World.declared.found.Found.{Found}
use Rattle.cjc_verified_proof.specs.WorldProof.Calls.Solid.{IsSolid}
use Rattle.cjc_theorem.proofs.AlikeLaws.VirtualCalls.Chosen.{own_first}
use Rattle.cjc_verified_proof.proofs.WorldCycles.{class_named-name}
use Rattle.cjc_verified_proof.proofs.WorldLines.{line_named, of_line}
use Rattle.cjc_verified_proof.specs.ExportFile.Supers as exports
use Rattle.cjc_verified_proof.specs.World.Upwards.{Has}
use Rattle.cjc_verified_proof.specs.World.Upwards as upward
use Rattle.cjc_verified_proof.specs.Tokens.Members.{Signature, chosen, is_constructor, is_initialiser, is_virtual, same}
use Rattle.cjc_verified_proof.specs.Tokens.Members.{signature_of}
use Rattle.cjc_verified_proof.proofs.TokensFacts.{place-none, place-some, same-true}
use Rattle.cjc_theorem.specs.VTable.Calls.{is_special, selects}
use Rattle.cjc_theorem.specs.VTable.Laws.{selection}
use Rattle.cjc_verified_proof.proofs.WorldProofOwn.{hit_is}
use Rattle.cjc_verified_proof.proofs.TokenProofWrittenCallsFacts.{Facts, exported}
use Rattle.cjc_verified_proof.proofs.TokenProofWrittenCallsFiles.{entry_plain, export_virtual}
use Rattle.cjc_verified_proof.proofs.TokenProofWrittenCallsFiles as files
use Rattle.cjc_verified_proof.proofs.TokenProofWrittenCallsReceivers.{first_step}
use Rattle.cjc_verified_proof.proofs.TokenProofWrittenCallsTowers.{line_is, line_of_names}
use Rattle.cjc_verified_proof.proofs.TokenProofWrittenSendsOrder.{first_class, first_file, upwards_first}
use Rattle.cjc_accepted_proof.specs.Written.{written_pair}

-- ---- methods by name, in export files and in classes

-- an export file lists what its class has
listed_alike : (id : MemberId) (ms : List ExportMethod) → ((j : ℕ) (m : ExportMethod) → slice_get ms j ≡ Some m
    → is_initialiser m.name ≡ true → is_static m.flags ≡ true) → option_map method_of_export
    (find (λ (m : ExportMethod). exports.is_virtual m && bytes_eq m.name id.name && bytes_eq m.desc id.desc) ms)
    ≡ chosen is_virtual (signature id) (map method_of_export ms)
listed_alike id [] all = refl
listed_alike id (m ∷ ms) all = by (exports.is_virtual m) (is_virtual (method_of_export m)) (bytes_eq m.name id.name)
    (bytes_eq m.desc id.desc) (export_virtual m (all 0 m refl)) (listed_alike id ms (λ j o h. all (suc j) o h))
  where
    found : Option ExportMethod
    found = find (λ (m : ExportMethod). exports.is_virtual m && bytes_eq m.name id.name && bytes_eq m.desc id.desc) ms

    wanted : Option Member
    wanted = chosen is_virtual (signature id) (map method_of_export ms)

    by : (a b n d : Bool) → a ≡ b → option_map method_of_export found ≡ wanted → option_map method_of_export (cond (a &&
        n
        && d) (Some m) found) ≡ (if b && (n && d) then Some (method_of_export m) else wanted)
    by true true true true g rest = refl
    by true true true false g rest = rest
    by true true false d g rest = rest
    by false false n d g rest = rest
    by true false n d g rest = absurd cc
    by false true n d g rest = absurd cc

map_first : {A B C : Type 0} (g : B → C) (answer : A → Option B) (xs : List A) → option_map g (first_of answer xs)
    ≡ first_of (λ (x : A). option_map g (answer x)) xs
map_first g answer [] = refl
map_first {A = A} {B = B} g answer (x ∷ xs) = by (answer x) (map_first g answer xs)
  where
    by : (o : Option B) → option_map g (first_of answer xs) ≡ first_of (λ (x : A). option_map g (answer x)) xs
        → option_map g (or_else o (first_of answer xs)) ≡ or_else (option_map g o) (first_of (λ (x : A). option_map g
        (answer x)) xs)
    by None rest = rest
    by (Some b) rest = refl

first_is : {C : Type 0} (answer : ExportClass → Option C) (us : List ExportClass) → first_of answer us ≡ first_file
    answer us
first_is answer [] = refl
first_is answer (u ∷ us) = ap (or_else (answer u)) (first_is answer us)

-- what may be abstract
abbrev is_abstract_member : Option Member → Bool
is_abstract_member None = false
is_abstract_member (Some m) = is_abstract m.flags

listed_abstract : (o : Option ExportMethod) → is_abstract_listed o ≡ is_abstract_member (option_map method_of_export o)
listed_abstract None = refl
listed_abstract (Some m) = refl

-- a virtual method of a plain name is the first that selection takes
plain_chosen : (s : Signature) → is_special s ≡ false → (ms : List Member) → chosen is_virtual s ms ≡ chosen selects s
    ms
plain_chosen s plain [] = refl
plain_chosen s plain (m ∷ ms) = by (selects m) (is_constructor m.name || is_initialiser m.name) (same (signature_of m)
    s)
    (λ e. ap is_special (same-true (signature_of m) s e) ∙ plain) (plain_chosen s plain ms)
  where
    by : (a b c : Bool) → (c ≡ true → b ≡ false) → chosen is_virtual s ms ≡ chosen selects s ms → (if (a && not b) && c
        then Some m else chosen is_virtual s ms) ≡ (if a && c then Some m else chosen selects s ms)
    by true true true off rest = let no = off refl in absurd cc
    by true false true off rest = refl
    by true true false off rest = rest
    by true false false off rest = rest
    by false b c off rest = rest

-- ---- classes

own_kind : (s : Signature) (d : Class) (f : Found) → own_method true s.name s.desc d ≡ Some f → f.imported
    ≡ d.is_imported
own_kind s d f e = let r = own_first true s d f e in ap (λ (g : Found). g.imported) r.is

-- the first class that has a method that selection takes
record IsFirst (s : Signature) (ds : List Class) (m : Member) : Type 0 where
  class : Class
  among : Has class ds
  place : ℕ
  there : slice_get class.methods place ≡ Some m
  found : first (own_method true s.name s.desc) ds ≡ Some (member_at class (length class.fields + place))

own_of : (s : Signature) (d : Class) (m : Member) → chosen selects s d.methods ≡ Some m → (i : ℕ)
    × (slice_get d.methods i ≡ Some m) × (own_method true s.name s.desc d ≡ Some (member_at d (length d.fields + i)))
unfolding own_method
own_of s d m e =
    let r = place-some selects s d.methods m e in
    let own : own_method true s.name s.desc d ≡ Some (member_at d (length d.fields + r.0)) =
    ap (option_map (λ i. member_at d (length d.fields + i))) r.1 in
    let one = own_first true s d (member_at d (length d.fields + r.0)) own in
    let many : length d.fields + r.0 ≡ length d.fields + one.place = ap (λ (f : Found). f.member) one.is in
    let place : r.0 ≡ one.place = omega (arith, many) in
    let same_one : one.method ≡ m = same_some (sym one.is_first ∙ e) in
    (r.0, ap (slice_get d.methods) place ∙ one.there ∙ ap (λ v. Some v) same_one, own)

own_none : (s : Signature) (d : Class) → chosen selects s d.methods ≡ None → own_method true s.name s.desc d ≡ None
unfolding own_method
own_none s d e = ap (option_map (λ i. member_at d (length d.fields + i))) (place-none selects s d.methods e)

first_selected : (s : Signature) (ds : List Class) (m : Member) → first_class (λ (d : Class). chosen selects s
    d.methods)
    ds ≡ Some m → IsFirst s ds m
unfolding first
first_selected s [] m e = absurd cc
first_selected s (d ∷ ds) m e = by (chosen selects s d.methods) refl e (first_selected s ds m)
  where
    by : (o : Option Member) → chosen selects s d.methods ≡ o → or_else o (first_class (λ (d : Class). chosen selects s
        d.methods) ds) ≡ Some m → (first_class (λ (d : Class). chosen selects s d.methods) ds ≡ Some m → IsFirst s ds m)
        → IsFirst s (d ∷ ds) m
    by (Some n) f g rest =
        let r = own_of s d m (f ∙ g) in
        record {
          class = d;
          among = upward.foremost;
          place = r.0;
          there = r.1;
          found = ap (λ o. lookup.or_else o (first (own_method true s.name s.desc) ds)) r.2;
        }
    by None f g rest =
        let r = rest g in
        record {
          class = r.class;
          among = upward.after r.among;
          place = r.place;
          there = r.there;
          found = ap (λ o. lookup.or_else o (first (own_method true s.name s.desc) ds)) (own_none s d f) ∙ r.found;
        }

classes_alike : (s : Signature) → is_special s ≡ false → (ds : List Class) → first_class (λ (d : Class).
    chosen is_virtual s d.methods) ds ≡ first_class (λ (d : Class). chosen selects s d.methods) ds
classes_alike s plain [] = refl
classes_alike s plain (d ∷ ds) = ap (λ o. or_else o (first_class (λ (d : Class). chosen is_virtual s d.methods) ds))
    (plain_chosen s plain d.methods) ∙ ap (or_else (chosen selects s d.methods)) (classes_alike s plain ds)

module _ (p : Package) (facts : Facts p) (solid : IsSolid p.files) where
  abbrev w : List Class
  w = world p

  abbrev q : Pair
  q = written_pair p

  -- what the imported class below selects, the class selects, unless one of the package between has a method
  selects_down : {h : ℕ} {x z : List ℕ} → SaysTower w (naming p) (method_offset p) h x z → (s : Signature) (f : Found)
      → first (own_method true s.name s.desc) (line w z) ≡ Some f → (g : Found)
      × (first (own_method true s.name s.desc) (line w x) ≡ Some g) × ((g ≡ f) ⊎ (g.imported ≡ false))
  selects_down (of_file c known import says) s f e = (f, e, inl refl)
  selects_down {x = x} (of_package c super known own supers tables more) s f e =
      by (own_method true s.name s.desc c) refl (selects_down more s f e)
    where
      test : Class → Option Found
      test = own_method true s.name s.desc

      line_up : line w x ≡ c ∷ line w super
      line_up = line_is p facts x c known ∙ ap (λ ss. c ∷ supertype_trees.upwards (supertypes w ss)) supers
          ∙ ap (λ ds. c ∷ ds) (sym (line_of_names p facts super))

      by : (o : Option Found) → own_method true s.name s.desc c ≡ o → (g : Found)
          × (first (own_method true s.name s.desc) (line w super) ≡ Some g) × ((g ≡ f) ⊎ (g.imported ≡ false))
          → (g : Found) × (first (own_method true s.name s.desc) (line w x) ≡ Some g) × ((g ≡ f)
          ⊎ (g.imported ≡ false))
      by None none r = (
        r.0,
        ap (first (own_method true s.name s.desc)) line_up
            ∙ first_step (own_method true s.name s.desc) c (line w super)
            ∙ ap (λ o. lookup.or_else o (first (own_method true s.name s.desc) (line w super))) none ∙ r.1,
        r.2,
      )
      by (Some g) is r = (
        g,
        ap (first (own_method true s.name s.desc)) line_up
            ∙ first_step (own_method true s.name s.desc) c (line w super)
            ∙ ap (λ o. lookup.or_else o (first (own_method true s.name s.desc) (line w super))) is,
        inr (own_kind s c g is ∙ own),
      )

  -- the first method that export files list is the first that classes have
  pub files_first : (listed : ExportClass → Option ExportMethod) (answer : Class → Option Member)
      → ((k : ℕ) (u : ExportClass) → ((j : ℕ) (m : ExportMethod) → slice_get u.methods j ≡ Some m
      → is_initialiser m.name ≡ true → is_static m.flags ≡ true) → option_map method_of_export (listed u)
      ≡ answer (imported k u)) → (z : List ℕ) (k : Class) (e : class_named w z ≡ Some k)
      (import : k.is_imported ≡ true) → (let h = files.has p facts z k e import in option_map method_of_export
      (first_of listed (exported_line (loaded p) (Some h.entry)))) ≡ first_class answer (k
      ∷ supertype_trees.upwards (supertypes w k.supers))
  files_first listed answer alike z k e import =
      let h = files.has p facts z k e import in
      let of_class = λ (u : ExportClass). option_map method_of_export (listed u) in
      let ups = exports.upwards (exported p) in
      let head : of_class h.entry ≡ answer k = alike h.number h.entry (entry_plain p facts z k e import)
      ∙ ap answer (sym h.class) in
      let supers : (let u = h.entry in u.supers) ≡ k.supers = ap (λ (d : Class). d.supers) (sym h.class) in
      map_first method_of_export listed (exported_line (loaded p) (Some h.entry))
      ∙ first_is of_class (exported_line (loaded p) (Some h.entry))
      ∙ ap (λ o. or_else o (first_file of_class (ups (let u = h.entry in u.supers)))) head
      ∙ ap (λ ss. or_else (answer k) (first_file of_class (ups ss))) supers
      ∙ ap (or_else (answer k)) (upwards_first p facts of_class answer (λ y j u named. alike j u (facts.plain y u
      named)) k.supers (λ y d l f. facts.rules.apart z y k d e import l f))

  -- where selection gives nothing of the package, and nothing abstract, what is listed is not abstract
  pub outward_whole : {h : ℕ} (x z : List ℕ) → SaysTower w (naming p) (method_offset p) h x z → (k : Class)
      → class_named w z ≡ Some k → k.is_imported ≡ true → (s : Signature) → is_special s ≡ false
      → ((f : Found) → selection w x s ≡ Some f → f.imported ≡ true) → ((f : Found) → selection w x s ≡ Some f
      → (hit : ResolvedMember) × (method_hit w f ≡ Some hit) × (is_abstract hit.flags ≡ false))
      → is_abstract_selection q (Outward (event z s)) ≡ false
  outward_whole x z tower k e import s plain abroad whole =
      let h = files.has p facts z k e import in
      let name = class_named-name w z k e in
      ap (λ y. is_abstract_listed (first_of (listed_as (event z s)) (line_found (loaded p)
      (Rattle.cjc_verified_proof.specs.CardSemantics.Machine.Classes.external_named (loaded p) y)))) (sym name)
      ∙ ap (λ o. is_abstract_listed (first_of (listed_as (event z s)) (line_found (loaded p) o))) h.found
      ∙ ap (λ o. is_abstract_listed (first_of (listed_as (event z s)) (exported_line (loaded p) o))) h.there
      ∙ listed_abstract (first_of (listed_as (event z s)) (exported_line (loaded p) (Some h.entry)))
      ∙ ap is_abstract_member (files_first (listed_as (event z s)) (λ (d : Class). chosen is_virtual s d.methods)
      (λ j u all. listed_alike (event z s) u.methods all) z k e import ∙ classes_alike s plain ds)
      ∙ by (first_class (λ (d : Class). chosen selects s d.methods) ds) refl
    where
      ds : List Class
      ds = k ∷ supertype_trees.upwards (supertypes w k.supers)

      by : (o : Option Member) → first_class (λ (d : Class). chosen selects s d.methods) ds ≡ o → is_abstract_member o
          ≡ false
      by None f = refl
      by (Some m) f =
          let r = first_selected s ds m f in
          let d = r.class in
          let g = member_at d (length d.fields + r.place) in
          let on_z = of_line w (let o = solid.ordered in o.acyclic) z d (subst (Has d) (sym (line_is p facts z k e))
          r.among) in
          let named = line_named w z d on_z in
          let down = selects_down tower s g (ap (first (own_method true s.name s.desc)) (line_is p facts z k e)
          ∙ r.found) in
          let same_one : down.0 ≡ g = ⊎_elim (λ one. one) (λ own. clash (let v = down.0 in v.imported) (abroad down.0
          down.1) own) down.2 in
          let hit = whole g (down.1 ∙ ap (λ v. Some v) same_one) in
          let told : Some (record { owner = d; flags = m.flags }) ≡ Some hit.0 =
          sym (hit_is w d r.place m (solid.numbered d.name d named) r.there) ∙ hit.1 in
          ap (λ (v : ResolvedMember). is_abstract v.flags) (same_some told) ∙ hit.2
