-- No class of which objects are made has an abstract method for one of its tokens.
use Rattle.std.proofs.Common.{◌≡◌, ◌⊎◌, ⊎_elim, inl, inr, ℕ, zero, suc, ◌+◌, ◌-◌, ◌≤◌, ◌==◌, refl, sym, ap, subst}
use Rattle.std.proofs.Common.{◌∙◌, arith, Bool, true, false, List, [], ◌∷◌, ◌++◌, drop, length, map, nat_lt}
use Rattle.std.specs.Prelude.{◌&&◌, ◌||◌, not, cond, Option, Some, None, if◌then◌else◌, option_and_then, option_map}
use Rattle.std.specs.Prelude.{option_to_list, slice_get}
use Rattle.std.specs.List.{find}
use Rattle.std.proofs.lemmas.Bool.Decides.{nat_tests}
use Rattle.cjc_verified_proof.specs.Bytes.AccessFlags.{is_abstract, is_interface, is_static}
use Rattle.cjc_verified_proof.proofs.BytesBools.{and_true, clash}
use Rattle.cjc_verified_proof.proofs.BytesGets.{find_got, get_mapped, in_front, mapped_at}
use Rattle.cjc_verified_proof.proofs.BytesNumbers.{number_same}
use Rattle.cjc_verified_proof.proofs.BytesPlain.{same_some}
use Rattle.cjc_verified_proof.proofs.DescribedLaws.{either_part}
use Rattle.cjc_verified_proof.proofs.HoldsLaws.{Holds, hidden_holds, implementing_holds}
use Rattle.cjc_verified_proof.specs.CardSemantics.Bytecode.Machine.{Start}
use Rattle.cjc_verified_proof.specs.CardSemantics.Machine.Classes.{External, depth, or_else}
use Rattle.cjc_verified_proof.specs.CardSemantics.Machine.Dispatch.{At, NotFound, Outward, Selection}
use Rattle.cjc_verified_proof.specs.CardSemantics.Machine.Dispatch.{at_table, dispatched_hidden, dispatched_open}
use Rattle.cjc_verified_proof.specs.CardSemantics.Machine.Dispatch.{dispatched_outward, exported_line, held, in_files}
use Rattle.cjc_verified_proof.specs.CardSemantics.Machine.Dispatch.{outward, tower, tower_from}
use Rattle.cjc_verified_proof.specs.CardSemantics.Machine.Methods.{Code, start_of}
use Rattle.cjc_verified_proof.specs.Components.Descriptor.{as_added, method_in}
use Rattle.cjc_verified_proof.specs.Components.Methods.{method_offset}
use Rattle.cjc_verified_proof.specs.Components.Package.{Package, world}
use Rattle.cjc_verified_proof.specs.ExportFile.declared.tree.ExportClass.{ExportClass}
use Rattle.cjc_verified_proof.specs.ExportFile.declared.tree.ExportMethod.{ExportMethod}
use Rattle.cjc_verified_proof.specs.JvmSemantics.OnePackage.{ResolvedMember, method_hit}
use Rattle.cjc_verified_proof.specs.List.Listed.{ListTree}
use Rattle.cjc_verified_proof.specs.NCode.Lowering.Naming.{Naming}
use Rattle.cjc_verified_proof.specs.TokenProof.Calls.Dispatching.{DispatchAgrees, SaysTower, event, of_file}
use Rattle.cjc_verified_proof.specs.TokenProof.Calls.Dispatching.{of_package, table_entry}
use Rattle.cjc_verified_proof.specs.TokenProof.Tables.Loading.{loaded, naming}
use Rattle.cjc_verified_proof.specs.TokenProof.WrittenCalls.Calls.{KeepsTokens}
use Rattle.cjc_verified_proof.specs.TokenProof.Tables.Sound.{IsSound}
use Rattle.cjc_verified_proof.specs.Verify.Named.{first_of, is_abstract_selection, is_abstract_start}
use Rattle.cjc_verified_proof.specs.Verify.Pairs.{Pair}
use Rattle.cjc_verified_proof.specs.World.Added.{added}
use Rattle.cjc_verified_proof.specs.World.Classes.{Class, Member, class_named, method_of_export}
use Rattle.cjc_verified_proof.specs.World.Order.{methods_of_class}
use Rattle.cjc_verified_proof.specs.World.Supertypes.{Lists, foremost, supertypes}
use Rattle.cjc_verified_proof.specs.World.Supertypes as supertype_trees
use Rattle.cjc_verified_proof.specs.World.declared.found.Found.{Found}
use Rattle.cjc_verified_proof.specs.WorldProof.Calls.Solid.{IsSolid}
use Rattle.cjc_theorem.specs.LowerJudge.declared.judged.Judged.{Judged}
use Rattle.cjc_theorem.specs.ShapeProof.Written.Checked.{IsOfFiles}
use Rattle.cjc_theorem.proofs.AlikeLaws.VirtualCalls.Lines.{hidden_found}
use Rattle.cjc_theorem.proofs.AlikeLaws.VirtualCalls.Objects.{own_kinds}
use Rattle.cjc_verified_proof.proofs.WorldCycles.{class_named-name}
use Rattle.cjc_verified_proof.specs.ExportFile.Supers.{virtual_method}
use Rattle.cjc_verified_proof.specs.ExportFile.Supers as exports
use Rattle.cjc_verified_proof.specs.Tokens.Lines.{Declared, Imported, Line, Nowhere, line_at, line_in, line_of}
use Rattle.cjc_verified_proof.specs.Tokens.Members.{In, Signature, all_methods, is_constructor, is_exposed, is_hidden}
use Rattle.cjc_verified_proof.specs.Tokens.Members.{is_initialiser}
use Rattle.cjc_verified_proof.specs.Tokens.Members.{is_shown, is_virtual, signature_of}
use Rattle.cjc_verified_proof.specs.Tokens.Slots.{hidden_row, hidden_slots, implementing, implementing_hidden, meant_by}
use Rattle.cjc_verified_proof.specs.Tokens.Slots.{new_in, row}
use Rattle.cjc_verified_proof.specs.Tokens.Slots.{slots, token}
use Rattle.cjc_verified_proof.proofs.TokensHeld.{here-has_slot, token-slot}
use Rattle.cjc_verified_proof.proofs.TokensWalks.{supertypes-known}
use Rattle.cjc_theorem.specs.VTable.Calls.{any_method, is_special}
use Rattle.cjc_verified_proof.proofs.TokensFacts.{chosen-passes}
use Rattle.cjc_theorem.specs.VTable.Dispatch.{tower_in, tower_of}
use Rattle.cjc_theorem.specs.VTable.Dispatch as tables
use Rattle.cjc_theorem.specs.VTable.Kept.{Keeps}
use Rattle.cjc_theorem.specs.VTable.Laws.{ImportedCallsAgree, Under, below, itself, selection}
use Rattle.cjc_theorem.specs.VTable.Meant.{PackageTokensMean, TokensMean}
use Rattle.cjc_theorem.specs.VTable.Tables.{base, entries, methods, of_package as own_method_at, table_of}
use Rattle.cjc_theorem.proofs.VTableAgrees.{hidden-virtual, virtual_plain}
use Rattle.cjc_theorem.proofs.VTableCalls.{token-some}
use Rattle.cjc_theorem.proofs.VTableOnce.{hidden_slots-once, slots-once}
use Rattle.cjc_theorem.proofs.VTableTold.{In-behind, In-front}
use Rattle.cjc_theorem.proofs.VTableWorlds.{told-class}
use Rattle.cjc_verified_proof.proofs.TokenProofTowers.{card_file, card_package, tower_on_card}
use Rattle.cjc_verified_proof.proofs.TokenProofWrittenCallsFacts.{Facts}
use Rattle.cjc_verified_proof.proofs.TokenProofWrittenCallsFiles.{file_says, in_at}
use Rattle.cjc_verified_proof.proofs.TokenProofWrittenCallsFiles as files_of
use Rattle.cjc_verified_proof.proofs.TokenProofWrittenCallsTowers.{class_stands, height_fits}
use Rattle.cjc_verified_proof.proofs.TokenProofWrittenCallsFiles.{export_virtual}
use Rattle.cjc_verified_proof.proofs.TokenProofWrittenSendsOrder.{first_class}
use Rattle.cjc_accepted_proof.specs.Accepted.{HasNoAbstract}
use Rattle.cjc_accepted_proof.specs.Written.{written_pair}
use Rattle.cjc_theorem.specs.ShapeProof.Written.LaidOut.{IsLaidOut}
use Rattle.cjc_accepted_theorem.proofs.ConcreteLaws.{hidden_source, selected_whole, slot_means, slot_plain}
use Rattle.cjc_accepted_theorem.proofs.MethodsLaws.{member_is}
use Rattle.cjc_accepted_theorem.proofs.NoAbstractLaws.{no_abstract}
use Rattle.cjc_accepted_theorem.proofs.OutwardLaws.{files_first, outward_whole}

-- ---- tables and their slots

get_dropped : {A : Type 0} (xs : List A) (b k : ℕ) → slice_get (drop b xs) k ≡ slice_get xs (b + k)
get_dropped [] zero k = let z : k ≡ 0 + k = omega arith in ap (slice_get []) z
get_dropped [] (suc b) k = refl
get_dropped (x ∷ xs) zero k = let z : k ≡ 0 + k = omega arith in ap (slice_get (x ∷ xs)) z
get_dropped (x ∷ xs) (suc b) k =
    let z : suc (b + k) ≡ suc b + k = omega arith in
    get_dropped xs b k ∙ ap (slice_get (x ∷ xs)) z

-- a method of a row is that of a slot
slot_of : (f : Signature → Option Found) (all : List (Option Signature)) (t : ℕ) (g : Found)
    → slice_get (map (meant_by f) all) t ≡ Some (Some g) → (s : Signature) × (slice_get all t ≡ Some (Some s))
slot_of f all t g e = by (mapped_at (meant_by f) all t (Some g) e)
  where
    by : (o : Option Signature) × (slice_get all t ≡ Some o) × (meant_by f o ≡ Some g) → (s : Signature)
        × (slice_get all t ≡ Some (Some s))
    by (None, a, b) = absurd cc
    by (Some s, a, b) = (s, a)

-- an entry of a public table is the method of a slot
open_slot : (class : ℕ) (f : Signature → Option Found) (all : List (Option Signature)) (t : ℕ) (g : Found) → (let r =
    map (meant_by f) all in slice_get (entries class r) (t - base class r) ≡ Some (Some g)) → (let r = map (meant_by f)
    all
    in base class r ≤ t) → (s : Signature) × (slice_get all t ≡ Some (Some s))
open_slot class f all t g e le =
    let r = map (meant_by f) all in
    let b = base class r in
    let m = mapped_at own_method_at (drop b r) (t - b) (Some g) e in
    let at : b + (t - b) ≡ t = omega (arith, le) in
    by m.0 (sym (ap (slice_get r) at) ∙ sym (get_dropped r b (t - b)) ∙ m.1) m.2
  where
    by : (o : Option Found) → slice_get (map (meant_by f) all) t ≡ Some o → own_method_at o ≡ Some g → (s : Signature)
        × (slice_get all t ≡ Some (Some s))
    by None h k = absurd cc
    by (Some v) h k = slot_of f all t v h

-- no package-visible slot is empty
hidden_full : (l : Line) (t : ℕ) → slice_get (hidden_slots l) t ≡ Some None → ⊥
hidden_full Nowhere t e = absurd cc
hidden_full (Imported cs) t e = absurd cc
hidden_full (Declared c given above) t e = ⊎_elim (λ a. hidden_full above t a)
    (λ b. (let r = mapped_at (λ (s : Signature). Some s) (new_in (hidden_slots above)
    (Rattle.cjc_verified_proof.specs.Tokens.Members.signatures is_hidden c.methods)) b.0 None b.1 in let clash : Some
    r.0
    ≡ None = r.2
    in absurd cc))
    (either_part (hidden_slots above) (map (λ (s : Signature). Some s) (new_in (hidden_slots above)
    (Rattle.cjc_verified_proof.specs.Tokens.Members.signatures is_hidden c.methods))) t None e)

-- of rows that are methods of the package each has its place among them
row_full : (rows : List (Option Found)) → ((i : ℕ) (o : Option Found) → slice_get rows i ≡ Some o → (f : Found) × (o
    ≡ Some f) × (f.imported ≡ false)) → (j : ℕ) (g : Found) → slice_get (methods (map own_method_at rows)) j ≡ Some g
    → slice_get rows j ≡ Some (Some g)
row_full [] full j g e = absurd cc
row_full (o ∷ rows) full j g e =
    let r = full 0 o refl in
    by r.0 r.1 (ap own_method_at r.1 ∙ own_one r.0 r.2) j e (λ i h. row_full rows (λ k v f. full (suc k) v f) i g h)
  where
    own_one : (f : Found) → f.imported ≡ false → own_method_at (Some f) ≡ Some f
    own_one f h = ap (λ b. if b then None else Some f) h

    by : (f : Found) → o ≡ Some f → own_method_at o ≡ Some f → (j : ℕ) → slice_get (option_to_list (own_method_at o)
        ++ methods (map own_method_at rows)) j ≡ Some g → ((i : ℕ) → slice_get (methods (map own_method_at rows)) i
        ≡ Some g → slice_get rows i ≡ Some (Some g)) → slice_get (o ∷ rows) j ≡ Some (Some g)
    by f is one j h rest = go j (sym (ap (λ v. slice_get (option_to_list v ++ methods (map own_method_at rows)) j) one)
        ∙ h)
      where
        go : (j : ℕ) → slice_get (f ∷ methods (map own_method_at rows)) j ≡ Some g → slice_get (o ∷ rows) j
            ≡ Some (Some g)
        go zero k = ap (λ v. Some v) is ∙ ap (λ v. Some v) k
        go (suc i) k = rest i k

-- ---- methods by token, in export files and in classes

token_alike : (t : ℕ) (ms : List ExportMethod) → ((j : ℕ) (m : ExportMethod) → slice_get ms j ≡ Some m
    → is_initialiser m.name ≡ true → is_static m.flags ≡ true) → option_map method_of_export
    (find (λ (m : ExportMethod). exports.is_virtual m && (m.token == t)) ms)
    ≡ find (λ (m : Member). is_virtual m && (m.token == t)) (map method_of_export ms)
token_alike t [] all = refl
token_alike t (m ∷ ms) all = by (exports.is_virtual m) (is_virtual (method_of_export m)) (m.token == t)
    (export_virtual m (all 0 m refl)) (token_alike t ms (λ j o h. all (suc j) o h))
  where
    found : Option ExportMethod
    found = find (λ (m : ExportMethod). exports.is_virtual m && (m.token == t)) ms

    wanted : Option Member
    wanted = find (λ (m : Member). is_virtual m && (m.token == t)) (map method_of_export ms)

    by : (a b c : Bool) → a ≡ b → option_map method_of_export found ≡ wanted → option_map method_of_export (cond (a &&
        c)
        (Some m) found) ≡ cond (b && c) (Some (method_of_export m)) wanted
    by true true true g rest = refl
    by true true false g rest = rest
    by false false c g rest = rest
    by true false c g rest = absurd cc
    by false true c g rest = absurd cc

-- the first class with such a method has it
first_token : (t : ℕ) (ds : List Class) (m : Member) → first_class (λ (d : Class). find (λ (n : Member). is_virtual n
    && (n.token == t)) d.methods) ds ≡ Some m → In m (all_methods ds) × (is_virtual m ≡ true) × (m.token ≡ t)
first_token t [] m e = absurd cc
first_token t (d ∷ ds) m e = by (find (λ (n : Member). is_virtual n && (n.token == t)) d.methods) refl e
    (first_token t ds m)
  where
    by : (o : Option Member) → find (λ (n : Member). is_virtual n && (n.token == t)) d.methods ≡ o → or_else o
        (first_class (λ (d : Class). find (λ (n : Member). is_virtual n && (n.token == t)) d.methods) ds) ≡ Some m
        → (first_class (λ (d : Class). find (λ (n : Member). is_virtual n && (n.token == t)) d.methods) ds ≡ Some m
        → In m (all_methods ds) × (is_virtual m ≡ true) × (m.token ≡ t)) → In m (d.methods ++ all_methods ds)
        × (is_virtual m ≡ true) × (m.token ≡ t)
    by None f g rest = let r = rest g in (In-behind m d.methods (all_methods ds) r.0, r.1, r.2)
    by (Some n) f g rest =
        let r = find_got (λ (n : Member). is_virtual n && (n.token == t)) d.methods m (f ∙ g) in
        let two = and_true (is_virtual m) (m.token == t) r.2 in (
          In-front m d.methods (all_methods ds) (in_at d.methods r.0 m r.1),
          two.0,
          number_same m.token t two.1,
        )

outward_is : (class : List ℕ) (cs : List ExportClass) (t : ℕ) → dispatched_outward class cs t ≡ outward class (first_of
    (virtual_method t) cs) NotFound
outward_is class [] t = refl
outward_is class (c ∷ cs) t = by (virtual_method t c) (outward_is class cs t)
  where
    by : (o : Option ExportMethod) → dispatched_outward class cs t ≡ outward class (first_of (virtual_method t) cs)
        NotFound → outward class o (dispatched_outward class cs t) ≡ outward class (or_else o (first_of (virtual_method
        t) cs)) NotFound
    by None rest = rest
    by (Some m) rest = refl

module _ (p : Package) (facts : Facts p) where
  abbrev w : List Class
  w = world p

  abbrev n : Naming
  n = naming p

  -- ---- the imported class below

  pub record Foot (x z : List ℕ) : Type 0 where
    pub class : Class
    pub known : class_named w z ≡ Some class
    pub import : class.is_imported ≡ true
    pub plain : is_interface class.flags ≡ false
    pub under : Under w x z

  pub foot_of : {h : ℕ} {x z : List ℕ} → SaysTower w n (method_offset p) h x z → (c : Class) → class_named w x ≡ Some c
      → is_interface c.flags ≡ false → Foot x z
  foot_of (of_file k known import says) c e plain = record {
    class = k;
    known = known;
    import = import;
    plain = ap (λ (v : Class). is_interface v.flags) (same_some (sym known ∙ e)) ∙ plain;
    under = itself;
  }
  foot_of {x = x} (of_package k super known own supers says more) c e plain =
      let u = facts.super_there x super k known own supers in
      let r = foot_of more u.0 u.1 u.2 in
      record {
        class = r.class;
        known = r.known;
        import = r.import;
        plain = r.plain;
        under = below k known (subst (Lists super) (sym supers) foremost) r.under;
      }

  -- ---- public and protected tokens of no slot

  -- no class at or above has a slot
  abbrev IsFree : ℕ → List ℕ → Type 0
  IsFree t x = (y : List ℕ) (d : Class) → Under w x y → class_named w y ≡ Some d → is_interface d.flags ≡ false
      → (s : Signature) → slice_get (slots (line_of w y)) t ≡ Some (Some s) → ⊥

  line_same : (x : List ℕ) (c : Class) → class_named w x ≡ Some c → line_of w x ≡ line_at w c
  line_same x c e = ap (line_in w) (supertypes-known w facts.are_supertypes facts.one_supertypes x c e)

  tower_up : (x super : List ℕ) (c : Class) → class_named w x ≡ Some c → c.is_imported ≡ false → c.supers ≡ super ∷ []
      → tower_of w x ≡ tables.Info (table_of w c) (tower_of w super)
  tower_up x super c e own supers =
      ap (tower_in w) (supertypes-known w facts.are_supertypes facts.one_supertypes x c e)
      ∙ ap (λ b. if b then tables.Exported (c ∷ supertype_trees.upwards (supertypes w c.supers))
      else tables.Info (table_of w c) (tower_in w (supertypes w c.supers))) own
      ∙ ap (λ ss. tables.Info (table_of w c) (tower_in w (supertypes w ss))) supers

  record GoesDown (t : ℕ) (x z : List ℕ) (sel : Selection) : Type 0 where
    card : (sel ≡ NotFound) ⊎ (sel ≡ dispatched_open (tower_on_card n 0 z) t)
    tables : (f : Found) → tables.dispatched (tower_of w x) t ≡ Some f → tables.dispatched (tower_of w z) t ≡ Some f

  open_walk : {h : ℕ} {x z : List ℕ} → SaysTower w n (method_offset p) h x z → (c : Class) → class_named w x ≡ Some c
      → is_interface c.flags ≡ false → (d t : ℕ) → h ≤ d → IsFree t x → GoesDown t x z (dispatched_open (tower_on_card n
      d x) t)
  open_walk {x = x} (of_file k known import says) c e plain d t le free = record {
    card = inr (ap (λ v. dispatched_open v t) (card_file w n (method_offset p) d x k says ∙ sym (card_file w n
        (method_offset p) 0 x k says)));
    tables = λ f g. g;
  }
  open_walk (of_package k super known own supers says more) c e plain zero t le free = absurd (omega (arith, le))
  open_walk {h = suc h} {x = x} {z = z} (of_package k super known own supers says more) c e plain (suc d) t le free =
      let r = row (line_at w k) in
      let b = base k.number r in
      let os = entries k.number r in
      let up = dispatched_open (tower_on_card n d super) t in
      let u = facts.super_there x super k known own supers in
      let on_card : dispatched_open (tower_on_card n (suc d) x) t ≡ at_table n.part b (map (table_entry (method_offset
      p))
      os) t up =
      ap (λ v. dispatched_open v t) (card_package w n (method_offset p) d x super k says)
      ∙ ap (λ v. at_table n.part v (let y = says.entry in y.public_methods) t up) says.public_base
      ∙ ap (λ v. at_table n.part b v t up) says.public_methods in
      let in_tables : tables.dispatched (tower_of w x) t ≡ tables.at_table b os t (tables.dispatched (tower_of w super)
      t) = ap (λ v. tables.dispatched v t) (tower_up x super k known own supers) in
      let rest = open_walk more u.0 u.1 u.2 d t (omega (arith, le)) (λ y v under. free y v (below k known (subst (Lists
      super) (sym supers) foremost) under)) in
      let same = line_same x k known in
      let class_plain : is_interface k.flags ≡ false = ap (λ (v : Class). is_interface v.flags) (same_some (sym known
      ∙ e)) ∙ plain in
      let none = λ (g : Found) (e : slice_get os (t - b) ≡ Some (Some g)) (low : b ≤ t). (let s = open_slot k.number
      (implementing (line_at w k)) (slots (line_at w k)) t g e low in free x k itself known class_plain s.0 (ap (λ v.
      slice_get (slots v) t) same ∙ s.1)) in
      by b os up (tables.dispatched (tower_of w super) t) (dispatched_open (tower_on_card n (suc d) x) t) on_card
      in_tables
      rest.card rest.tables none
    where
      by : (b : ℕ) (os : List (Option Found)) (up : Selection) (over : Option Found) (sel : Selection) → sel ≡ at_table
          n.part b (map (table_entry (method_offset p)) os) t up → tables.dispatched (tower_of w x) t ≡ tables.at_table
          b
          os t over → (up ≡ NotFound) ⊎ (up ≡ dispatched_open (tower_on_card n 0 z) t) → ((f : Found) → over ≡ Some f
          → tables.dispatched (tower_of w z) t ≡ Some f) → ((g : Found) → slice_get os (t - b) ≡ Some (Some g) → b ≤ t
          → ⊥) → GoesDown t x z sel
      by b os up over sel is in_it card above none = below_or (nat_lt t b) refl is in_it
        where
          at_entry : (v : Option (Option Found)) → slice_get os (t - b) ≡ v → nat_lt t b ≡ false → sel ≡ held n.part
              (option_map (table_entry (method_offset p)) v) up → tables.dispatched (tower_of w x) t ≡ tables.held v
              over
              → GoesDown t x z sel
          at_entry None g low h i = record {
            card = inl h;
            tables = λ f j. let clash : None ≡ Some f = sym i ∙ j in absurd cc;
          }
          at_entry (Some None) g low h i = record {
            card = ⊎_elim (λ a. inl (h ∙ a)) (λ a. inr (h ∙ a)) card;
            tables = λ f j. above f (sym i ∙ j);
          }
          at_entry (Some (Some v)) g low h i = absurd (none v g (grind (arith, nat_tests, low)))

          below_or : (v : Bool) → nat_lt t b ≡ v → sel ≡ (if v then up else held n.part (slice_get (map (table_entry
              (method_offset p)) os) (t - b)) up) → tables.dispatched (tower_of w x) t ≡ (if v then over
              else tables.held (slice_get os (t - b)) over) → GoesDown t x z sel
          below_or true g h i = record {
            card = ⊎_elim (λ a. inl (h ∙ a)) (λ a. inr (h ∙ a)) card;
            tables = λ f j. above f (sym i ∙ j);
          }
          below_or false g h i = at_entry (slice_get os (t - b)) refl g (h ∙ ap (λ v. held n.part v up) (get_mapped
              (table_entry (method_offset p)) os (t - b))) i

  -- ---- package-visible tokens of no slot

  -- no class at or above has a package-visible slot
  abbrev IsHiddenFree : ℕ → List ℕ → Type 0
  IsHiddenFree t x = (y : List ℕ) (d : Class) → Under w x y → class_named w y ≡ Some d → is_interface d.flags ≡ false
      → (s : Signature) → slice_get (hidden_slots (line_of w y)) t ≡ Some (Some s) → ⊥

  -- a method of a package-visible table stands at the place of a slot
  hidden_entry : PackageTokensMean w → (x : List ℕ) (c : Class) → class_named w x ≡ Some c → (t : ℕ) (g : Found)
      → (let r = hidden_row (line_at w c) in base c.number r ≤ t) → (let r = hidden_row (line_at w c) in slice_get
      (methods (entries c.number r)) (t - base c.number r) ≡ Some g) → (s : Signature)
      × (slice_get (hidden_slots (line_of w x)) t ≡ Some (Some s))
  hidden_entry mean x c e t g le at =
      let l = line_at w c in
      let r = hidden_row l in
      let b = base c.number r in
      let same = line_same x c e in
      let there = row_full (drop b r) (λ i o h. each (b + i) o (sym (get_dropped r b i) ∙ h)) (t - b) g at in
      let z : b + (t - b) ≡ t = omega (arith, le) in
      let s = slot_of (implementing_hidden l) (hidden_slots l) t g (sym (ap (slice_get r) z) ∙ sym (get_dropped r b (t
      - b)) ∙ there) in
      (s.0, ap (λ v. slice_get (hidden_slots v) t) same ∙ s.1)
    where
      each : (i : ℕ) (o : Option Found) → slice_get (hidden_row (line_at w c)) i ≡ Some o → (f : Found) × (o ≡ Some f)
          × (f.imported ≡ false)
      each i o h = by (mapped_at (meant_by (implementing_hidden (line_at w c))) (hidden_slots (line_at w c)) i o h)
        where
          by : (v : Option Signature) × (slice_get (hidden_slots (line_at w c)) i ≡ Some v)
              × (meant_by (implementing_hidden (line_at w c)) v ≡ o) → (f : Found) × (o ≡ Some f) × (f.imported ≡ false)
          by (None, k, j) = absurd (hidden_full (line_at w c) i k)
          by (Some s, k, j) =
              let same = line_same x c e in
              let here : slice_get (hidden_slots (line_of w x)) i ≡ Some (Some s) = ap (λ v. slice_get (hidden_slots v)
              i) same ∙ k in
              let first_one = token-some (hidden_slots (line_of w x)) s (here-has_slot (hidden_slots (line_of w x)) i s
              here) in
              let m = mean x c e s first_one.0 first_one.1 in
              (m.method, sym j ∙ ap (λ v. implementing_hidden v s) (sym same) ∙ m.nearest, m.own)

  hidden_walk : PackageTokensMean w → {h : ℕ} {x z : List ℕ} → SaysTower w n (method_offset p) h x z → (c : Class)
      → class_named w x ≡ Some c → is_interface c.flags ≡ false → (d t : ℕ) → h ≤ d → IsHiddenFree t x
      → dispatched_hidden (tower_on_card n d x) n.part t ≡ NotFound
  hidden_walk mean {x = x} (of_file k known import says) c e plain d t le free = ap (λ v. dispatched_hidden v n.part t)
      (card_file w n (method_offset p) d x k says)
  hidden_walk mean (of_package k super known own supers says more) c e plain zero t le free = absurd (omega (arith, le))
  hidden_walk mean {h = suc h} {x = x} {z = z} (of_package k super known own supers says more) c e plain (suc d) t le
      free =
      let r = hidden_row (line_at w k) in
      let b = base k.number r in
      let fs = methods (entries k.number r) in
      let up = dispatched_hidden (tower_on_card n d super) n.part t in
      let u = facts.super_there x super k known own supers in
      let class_plain : is_interface k.flags ≡ false = ap (λ (v : Class). is_interface v.flags) (same_some (sym known
      ∙ e)) ∙ plain in
      ap (λ v. dispatched_hidden v n.part t) (card_package w n (method_offset p) d x super k says)
      ∙ ap (λ v. at_table n.part v (let y = says.entry in y.package_methods) t up) says.package_base
      ∙ ap (λ v. at_table n.part b v t up) says.package_methods
      ∙ by b fs up (hidden_walk mean more u.0 u.1 u.2 d t (omega (arith, le)) (λ y v under. free y v (below k known
      (subst
      (Lists super) (sym supers) foremost) under))) (λ g at low. (let s = hidden_entry mean x k known t g low at in free
      x k itself known class_plain s.0 s.1)) (nat_lt t b) refl
    where
      by : (b : ℕ) (fs : List Found) (up : Selection) → up ≡ NotFound → ((g : Found) → slice_get fs (t - b) ≡ Some g
          → b ≤ t → ⊥) → (v : Bool) → nat_lt t b ≡ v → (if v then up else held n.part (slice_get (map (method_offset p)
          fs) (t - b)) up) ≡ NotFound
      by b fs up rest none true low = rest
      by b fs up rest none false low = ap (λ v. held n.part v up) (get_mapped (method_offset p) fs (t - b)) ∙ at
          (slice_get fs (t - b)) refl
        where
          at : (v : Option Found) → slice_get fs (t - b) ≡ v → held n.part (option_map (method_offset p) v) up
              ≡ NotFound
          at None g = refl
          at (Some v) g = absurd (none v g (grind (arith, nat_tests, low)))

-- ---- what begins with code

module _ (p : Package) (facts : Facts p)
    (begun : (d : Class) → class_named (world p) d.name ≡ Some d → d.is_imported ≡ false → is_interface d.flags ≡ false
    → (j : ℕ) (f : Found) → slice_get (methods_of_class (world p) d) j ≡ Some f → (s : Start Code)
    × (start_of (loaded p) 0 (method_offset p f) ≡ Some s) × (s.is_abstract ≡ true → (let m = method_in (world p) d
    f.member in is_abstract m.flags ≡ true))) where
  abbrev pub IsConcrete : Found → Type 0
  IsConcrete f = (hit : ResolvedMember) × (method_hit (world p) f ≡ Some hit) × (is_abstract hit.flags ≡ false)

  -- a method of the package that selection takes begins with code
  pub begins_whole : (x : List ℕ) (s : Signature) (f : Found) → Holds p facts x s f → IsConcrete f
      → is_abstract_selection (written_pair p) (At 0 (method_offset p f)) ≡ false
  begins_whole x s f held hit =
      let d = held.class in
      let b = begun d held.known held.own held.plain held.number f held.listed in
      ap is_abstract_start b.1 ∙ by (let y = b.0 in y.is_abstract) refl (λ a. b.2 a) (slice_get d.methods held.place)
      refl
    where
      told : method_hit (world p) f ≡ option_map (λ (m : Member). record { owner = held.class; flags = m.flags })
          (slice_get (let d = held.class in d.methods) held.place)
      told =
          let d = held.class in
          let left : length d.fields + held.place - length d.fields ≡ held.place = omega arith in
          ap (method_hit (world p)) held.is
          ∙ ap (option_and_then (λ (k : Class). option_map (λ (m : Member). record { owner = k; flags = m.flags })
          (slice_get k.methods (length d.fields + held.place - length k.fields)))) (facts.placed d.name d held.known)
          ∙ ap (λ i. option_map (λ (m : Member). record { owner = d; flags = m.flags }) (slice_get d.methods i)) left

      by : (b : Bool) → (let d = held.class in let b = begun d held.known held.own held.plain held.number f
          held.listed
          in let y = b.0 in y.is_abstract) ≡ b → ((let d = held.class in let b = begun d held.known held.own
          held.plain
          held.number f held.listed in let y = b.0 in y.is_abstract) ≡ true → (let m = method_in (world p) held.class
          f.member in is_abstract m.flags ≡ true)) → (o : Option Member) → slice_get (let d = held.class in d.methods)
          held.place
          ≡ o → (let d = held.class in let b = begun d held.known held.own held.plain held.number f held.listed
          in let y = b.0 in y.is_abstract) ≡ false
      by false g bare o h = g
      by true g bare None h =
          let none : None ≡ Some hit.0 = sym (told ∙ ap (option_map (λ (m : Member). record {
            owner = held.class;
            flags = m.flags;
          })) h) ∙ hit.1 in
          absurd cc
      by true g bare (Some m) h =
          let d = held.class in
          let flags : Some (record { owner = d; flags = m.flags }) ≡ Some hit.0 =
          sym (told ∙ ap (option_map (λ (y : Member). record { owner = d; flags = y.flags })) h) ∙ hit.1 in
          let same : method_in (world p) d f.member ≡ m =
          ap (λ (y : Found). method_in (world p) d y.member) held.is ∙ member_is (world p) d held.place m (in_front
          d.methods (map as_added (added (world p) d)) held.place m h) in
          clash (is_abstract m.flags) (ap (λ (y : Member). is_abstract y.flags) (sym same) ∙ bare g)
          (ap (λ (y : ResolvedMember). is_abstract y.flags) (same_some flags) ∙ hit.2)

-- ---- a class of which objects are made

module _ (list : ListTree) (files : List (List ℕ)) (judged : Judged) (p : Package) (is : IsOfFiles list judged.codes p)
    (laid : IsLaidOut list files judged p) (facts : Facts p) (keeps : Keeps (world p)) (solid : IsSolid p.files)
    (tokens : KeepsTokens (world p))
    (mean : TokensMean (world p)) (mean_here : PackageTokensMean (world p))
    (imported_calls : ImportedCallsAgree (world p)) (agree : (h : ℕ) (x z : List ℕ) → SaysTower (world p) (naming p)
    (method_offset p) h x z → h ≤ depth (loaded p) → DispatchAgrees (world p) (naming p) (method_offset p) x z)
    (begun : (d : Class) → class_named (world p) d.name ≡ Some d → d.is_imported ≡ false → is_interface d.flags ≡ false
    → (j : ℕ) (f : Found) → slice_get (methods_of_class (world p) d) j ≡ Some f → (s : Start Code)
    × (start_of (loaded p) 0 (method_offset p f) ≡ Some s) × (s.is_abstract ≡ true → (let m = method_in (world p) d
    f.member in is_abstract m.flags ≡ true))) where
  abbrev v : List Class
  v = world p

  abbrev q : Pair
  q = written_pair p

  module _ (x : List ℕ) (c : Class) (e : class_named (world p) x ≡ Some c) (own : c.is_imported ≡ false)
      (plain : is_interface c.flags ≡ false) (made : is_abstract c.flags ≡ false) where
    whole : (s : Signature) → is_special s ≡ false → (f : Found) → selection v x s ≡ Some f → IsConcrete p facts begun
        f
    whole s flat = selected_whole list files judged p laid facts keeps solid x c e own plain made s (second
        (is_constructor s.name) (is_initialiser s.name) flat)
      where
        second : (a b : Bool) → (a || b) ≡ false → b ≡ false
        second true b g = absurd cc
        second false b g = g

    -- the token of a slot
    slot_token : (y : List ℕ) (d : Class) → class_named v y ≡ Some d → is_interface d.flags ≡ false → (t : ℕ)
        (s : Signature) → slice_get (slots (line_of v y)) t ≡ Some (Some s) → token (slots (line_of v y)) s ≡ Some t
    slot_token y d named flat t s g =
        let line = line_of v y in
        let told = told-class v facts.are_supertypes facts.one_supertypes facts.rules y d named (λ no. flat) in
        let k = token-some (slots line) s (here-has_slot (slots line) t s g) in
        k.1 ∙ ap (λ i. Some i) (slots-once line told k.0 t s (token-slot (slots line) s k.0 k.1) g)

    hidden_token : (y : List ℕ) (t : ℕ) (s : Signature) → slice_get (hidden_slots (line_of v y)) t ≡ Some (Some s)
        → token (hidden_slots (line_of v y)) s ≡ Some t
    hidden_token y t s g =
        let line = line_of v y in
        let k = token-some (hidden_slots line) s (here-has_slot (hidden_slots line) t s g) in
        k.1 ∙ ap (λ i. Some i) (hidden_slots-once line k.0 t s (token-slot (hidden_slots line) s k.0 k.1) g)

    stands : Rattle.cjc_verified_proof.proofs.TokenProofWrittenCallsTowers.Stands p facts x
    stands = class_stands p facts x c e plain

    foot : Foot p facts x stands.foot
    foot = foot_of p facts stands.tower c e plain

    fits : stands.height ≤ depth (loaded p)
    fits = height_fits p facts x c e stands

    says : DispatchAgrees v (naming p) (method_offset p) x stands.foot
    says = agree stands.height x stands.foot stands.tower fits

    outward_fine : (s : Signature) → is_special s ≡ false → ((f : Found) → selection v x s ≡ Some f → f.imported ≡ true)
        → is_abstract_selection q (Outward (event stands.foot s)) ≡ false
    outward_fine s flat abroad = outward_whole p facts solid x stands.foot stands.tower foot.class foot.known
        foot.import
        s flat abroad (whole s flat)

    -- ---- public and protected tokens

    slot_fine : (t : ℕ) (s : Signature) → slice_get (slots (line_of v x)) t ≡ Some (Some s) → is_abstract_selection q
        (dispatched_open (tower (loaded p) (let n = naming p in n.class x)) t) ≡ false
    slot_fine t s g =
        let tok = slot_token x c e plain t s g in
        let m = mean x c e plain s t tok in
        let f = m.method in
        let has = here-has_slot (slots (line_of v x)) t s g in
        let flat = slot_plain list files judged p laid facts keeps solid x c e own plain made s has in
        let sel : selection v x s ≡ Some f = sym (slot_means list files judged p laid facts keeps solid x c e own plain
        made
        s t tok) ∙ m.by_token in
        ap (is_abstract_selection q) (says.open_method t f s m.by_token m.name) ∙ by f m.nearest flat sel f.imported
        refl
      where
        by : (f : Found) → implementing (line_of v x) s ≡ Some f → is_special s ≡ false → selection v x s ≡ Some f
            → (b : Bool) → f.imported ≡ b → is_abstract_selection q (if b then Outward (event stands.foot s) else At 0
            (method_offset p f)) ≡ false
        by f near flat sel true import = outward_fine s flat (λ h j. ap (λ (y : Found). y.imported) (same_some (sym j
            ∙ sel)) ∙ import)
        by f near flat sel false mine = begins_whole p facts begun x s f (implementing_holds p facts x c e plain s
            f near mine)
            (whole s flat f sel)

    free : (t : ℕ) → ((s : Signature) → slice_get (slots (line_of v x)) t ≡ Some (Some s) → ⊥) → IsFree p facts t x
    free t none y d under named flat s g =
        let once = facts.tokens_once x y c d e plain named under in
        none s (token-slot (slots (line_of v x)) s t (once.inherited s t (slot_token y d named flat t s g)))

    abroad_fine : (t : ℕ) → ((s : Signature) → slice_get (slots (line_of v x)) t ≡ Some (Some s) → ⊥) → ((f : Found)
        → tables.dispatched (tower_of v x) t ≡ Some f → tables.dispatched (tower_of v stands.foot) t ≡ Some f)
        → is_abstract_selection q (dispatched_open (tower_on_card (naming p) 0 stands.foot) t) ≡ false
    abroad_fine t none down =
        let z = stands.foot in
        let k = foot.class in
        let h = files_of.has p facts z k foot.known foot.import in
        let u = h.entry in
        let at : (let n = naming p in n.class z) ≡ External h.file u.token = ap (let n = naming p in n.class) (sym
        (class_named-name v z k foot.known)) ∙ h.on_card in
        ap (λ y. is_abstract_selection q (dispatched_open (tower_from (loaded p) 1 (Some y)) t)) at
        ∙ ap (λ o. is_abstract_selection q (in_files (exported_line (loaded p) o) t)) h.there
        ∙ ap (is_abstract_selection q) (outward_is u.name (exported_line (loaded p) (Some u)) t)
        ∙ by (first_of (virtual_method t) (exported_line (loaded p) (Some u))) refl
      where
        ds : List Class
        ds = (let k = foot.class in k ∷ supertype_trees.upwards (supertypes v k.supers))

        wanted : Class → Option Member
        wanted d = find (λ (m : Member). is_virtual m && (m.token == t)) d.methods

        by : (o : Option ExportMethod) → (let h = files_of.has p facts stands.foot foot.class foot.known foot.import
            in first_of (virtual_method t) (exported_line (loaded p) (Some h.entry)) ≡ o) → (let h = files_of.has p
            facts
            stands.foot foot.class foot.known foot.import in let u = h.entry in is_abstract_selection q (outward u.name
            o
            NotFound) ≡ false)
        by None g = refl
        by (Some m) g =
            let z = stands.foot in
            let k = foot.class in
            let h = files_of.has p facts z k foot.known foot.import in
            let u = h.entry in
            let x_m = method_of_export m in
            let firsts : first_class (λ (d : Class). find (λ (y : Member). is_virtual y && (y.token == t)) d.methods) ds
            ≡ Some x_m =
            sym (files_first p facts solid (virtual_method t) (λ (d : Class). find (λ (y : Member). is_virtual y &&
            (y.token
            == t)) d.methods) (λ j y all. token_alike t y.methods all) z k foot.known foot.import)
            ∙ ap (option_map method_of_export) g in
            let r = first_token t ds x_m firsts in
            let s = signature_of x_m in
            let name : u.name ≡ z = sym (ap (λ (d : Class). d.name) h.class) ∙ class_named-name v z k foot.known in
            ap (λ y. is_abstract_selection q (Outward (event y s))) name
            ∙ outward_fine s (virtual_plain x_m r.1) (λ f sel. far f (down f (ap (tables.dispatched (tower_of v x)) (sym
            r.2) ∙ called x_m r.0 r.1 r.2 ∙ sel)))
          where
            far : (f : Found) → tables.dispatched (tower_of v stands.foot) t ≡ Some f → f.imported ≡ true
            far f i =
                let z = stands.foot in
                let k = foot.class in
                let told = file_says p facts z k foot.known foot.import foot.plain in
                let tower_is : tower_of v z ≡ tables.Exported (k ∷ supertype_trees.upwards (supertypes v k.supers)) =
                ap (tower_in v) (supertypes-known v facts.are_supertypes facts.one_supertypes z k foot.known)
                ∙ ap (λ b. if b then tables.Exported (k ∷ supertype_trees.upwards (supertypes v k.supers))
                else tables.Info (table_of v k) (tower_in v (supertypes v k.supers))) foot.import in
                told.imported t f (sym (ap (λ y. tables.dispatched y t) tower_is) ∙ i)

            called : (y : Member) → In y (all_methods ds) → is_virtual y ≡ true → y.token ≡ t → tables.dispatched
                (tower_of v x) y.token ≡ selection v x (signature_of y)
            called y among virtual_one at = split (is_exposed y.flags) refl
              where
                split : (b : Bool) → is_exposed y.flags ≡ b → tables.dispatched (tower_of v x) y.token ≡ selection v x
                    (signature_of y)
                split false b = imported_calls x stands.foot c foot.class y e plain foot.known foot.import foot.under
                    among (ap (λ a. not a && is_virtual y) b ∙ virtual_one)
                split true b =
                    let once = facts.tokens_once x stands.foot c foot.class e plain foot.known foot.under in
                    let tok = once.listed foot.class y foot.known foot.import among (ap (λ a. a && is_virtual y) b
                    ∙ virtual_one) in
                    absurd (none (signature_of y) (token-slot (slots (line_of v x)) (signature_of y) t (once.inherited
                    (signature_of y) t (tok ∙ ap (λ i. Some i) at))))

    pub open_fine : (t : ℕ) → is_abstract_selection q (dispatched_open (tower (loaded p) (let n = naming p in n.class
        x))
        t) ≡ false
    open_fine t = by (slice_get (slots (line_of v x)) t) refl
      where
        card_fine : (sel beneath : Selection) → (sel ≡ NotFound) ⊎ (sel ≡ beneath) → is_abstract_selection q beneath
            ≡ false → is_abstract_selection q sel ≡ false
        card_fine sel beneath (inl a) has_code = ap (is_abstract_selection q) a
        card_fine sel beneath (inr a) has_code = ap (is_abstract_selection q) a ∙ has_code

        no_slot : ((s : Signature) → slice_get (slots (line_of v x)) t ≡ Some (Some s) → ⊥) → is_abstract_selection q
            (dispatched_open (tower (loaded p) (let n = naming p in n.class x)) t) ≡ false
        no_slot none =
            let r = open_walk p facts stands.tower c e plain (depth (loaded p)) t fits (free t none) in
            card_fine (dispatched_open (tower (loaded p) (let n = naming p in n.class x)) t) (dispatched_open
            (tower_on_card
            (naming p) 0 stands.foot) t) r.card (abroad_fine t none r.tables)

        by : (o : Option (Option Signature)) → slice_get (slots (line_of v x)) t ≡ o → is_abstract_selection q
            (dispatched_open (tower (loaded p) (let n = naming p in n.class x)) t) ≡ false
        by None g = no_slot (λ s h. (let no : None ≡ Some (Some s) = sym g ∙ h in absurd cc))
        by (Some None) g = no_slot (λ s h. (let no : Some None ≡ Some (Some s) = sym g ∙ h in absurd cc))
        by (Some (Some s)) g = slot_fine t s g

    -- ---- package-visible tokens

    hidden_slot_fine : (t : ℕ) (s : Signature) → slice_get (hidden_slots (line_of v x)) t ≡ Some (Some s)
        → is_abstract_selection q (dispatched_hidden (tower (loaded p) (let n = naming p in n.class x)) 0 t) ≡ false
    hidden_slot_fine t s g =
        let tok = hidden_token x t s g in
        let m = mean_here x c e s t tok in
        let f = m.method in
        let has = here-has_slot (hidden_slots (line_of v x)) t s g in
        let source = hidden_source list files judged p laid facts keeps solid x c e s has in
        let finds = hidden_found v facts.are_supertypes facts.one_supertypes facts.rules (own_kinds list judged.codes p
        is
        facts.are_supertypes facts.one_supertypes keeps) x s source in
        let calls = facts.virtual_calls x x c c e plain e itself in
        let r = calls.package_method s finds in
        let same : r.0 ≡ t = same_some (sym r.1 ∙ tok) in
        let sel : selection v x s ≡ Some f = sym r.2 ∙ ap (tables.dispatched_hidden (tower_of v x)) same ∙ m.by_token in
        let flat : is_special s ≡ false = ap is_special (sym (chosen-passes any_method s (let d = source.class
        in d.methods) source.method source.is_first).0) ∙ virtual_plain source.method (hidden-virtual source.method
        source.hidden_one) in
        ap (is_abstract_selection q) (says.package_method t f s m.by_token
        ∙ ap (λ b. if b then Outward (event stands.foot s) else At 0 (method_offset p f)) m.own)
        ∙ begins_whole p facts begun x s f (hidden_holds p facts x c e plain s f m.nearest) (whole s flat f sel)

    pub hidden_fine : (t : ℕ) → is_abstract_selection q (dispatched_hidden (tower (loaded p) (let n = naming p
        in n.class x)) 0 t) ≡ false
    hidden_fine t = by (slice_get (hidden_slots (line_of v x)) t) refl
      where
        no_slot : ((s : Signature) → slice_get (hidden_slots (line_of v x)) t ≡ Some (Some s) → ⊥)
            → is_abstract_selection q (dispatched_hidden (tower (loaded p) (let n = naming p in n.class x)) 0 t) ≡ false
        no_slot none = ap (is_abstract_selection q) (hidden_walk p facts mean_here stands.tower c e plain (depth (loaded
            p)) t fits (λ y d under named flat s g. (let once = facts.tokens_once x y c d e plain named under in none s
            (token-slot (hidden_slots (line_of v x)) s t (once.hidden_inherited s t (hidden_token y t s g))))))

        by : (o : Option (Option Signature)) → slice_get (hidden_slots (line_of v x)) t ≡ o → is_abstract_selection q
            (dispatched_hidden (tower (loaded p) (let n = naming p in n.class x)) 0 t) ≡ false
        by None g = no_slot (λ s h. (let no : None ≡ Some (Some s) = sym g ∙ h in absurd cc))
        by (Some None) g = no_slot (λ s h. (let no : Some None ≡ Some (Some s) = sym g ∙ h in absurd cc))
        by (Some (Some s)) g = hidden_slot_fine t s g

  -- ---- all classes

  pub none_abstract : IsSound list.name p.files → HasNoAbstract p
  none_abstract sound = no_abstract list.name p sound (λ x d e own plain made. open_fine x d e own plain made)
      (λ x d e own plain made. hidden_fine x d e own plain made)
