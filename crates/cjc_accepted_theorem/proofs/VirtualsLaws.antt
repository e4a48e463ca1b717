-- Tokens of virtual methods mean methods of the descriptors that they are tokens of: in a class of the package by its
-- tables, in an imported class by its export file and those of its supers.
use Rattle.std.proofs.Common.{◌≡◌, ℕ, ◌+◌, ◌-◌, ◌<◌, refl, sym, ap, ◌∙◌, arith, true, false, List, []}
use Rattle.std.proofs.Common.{◌∷◌, length, map, nat_lt}
use Rattle.std.specs.Prelude.{Option, Some, None, if◌then◌else◌, option_and_then, option_map, slice_get}
use Rattle.std.proofs.lemmas.Bool.Decides.{nat_tests}
use Rattle.std.proofs.lemmas.Option.{slice_get-map}
use Rattle.cjc_verified_proof.specs.Bytes.AccessFlags.{is_interface}
use Rattle.cjc_verified_proof.specs.Bytes.declared.fault.MemberId.{MemberId}
use Rattle.cjc_verified_proof.specs.CardSemantics.Machine.Classes.{External, external, or_else}
use Rattle.cjc_verified_proof.specs.CardSemantics.Machine.Classes as card
use Rattle.cjc_verified_proof.specs.CardSemantics.Machine.Dispatch.{Outward, dispatched_outward, exported_line, outward}
use Rattle.cjc_verified_proof.specs.Components.Descriptor.{method_in}
use Rattle.cjc_verified_proof.specs.Components.Names.{class_at, token_in}
use Rattle.cjc_verified_proof.specs.Components.Package.{Package, has_applets, world}
use Rattle.cjc_verified_proof.specs.ExportFile.declared.tree.ExportClass.{ExportClass}
use Rattle.cjc_verified_proof.specs.ExportFile.declared.tree.ExportMethod.{ExportMethod}
use Rattle.cjc_verified_proof.specs.World.Classes.{Class, Member, class_named, declared}
use Rattle.cjc_verified_proof.specs.World.Classes as worlds
use Rattle.cjc_verified_proof.specs.World.Files.{Files}
use Rattle.cjc_verified_proof.specs.World.Lookup.{first}
use Rattle.cjc_verified_proof.specs.World.Supertypes.{supertypes, upwards}
use Rattle.cjc_verified_proof.specs.World.declared.found.Found.{Found}
use Rattle.cjc_verified_proof.specs.TokenProof.Calls.Dispatching.{event}
use Rattle.cjc_verified_proof.specs.TokenProof.Calls.Selecting.{signature}
use Rattle.cjc_verified_proof.specs.TokenProof.Tables.Infos.{HasEntry}
use Rattle.cjc_verified_proof.specs.TokenProof.Tables.Loading.{loaded}
use Rattle.cjc_verified_proof.specs.TokenProof.Tables.Sound.{IsSound}
use Rattle.cjc_verified_proof.specs.TokenProof.WrittenCalls.Calls.{IsSought, KeepsTokens, got, hidden, shown}
use Rattle.cjc_verified_proof.specs.Verify.Named.{first_of, found_desc, method_desc, own_virtual_desc}
use Rattle.cjc_verified_proof.specs.Verify.Pairs.{Pair}
use Rattle.cjc_verified_proof.proofs.HoldsLaws.{hidden_holds}
use Rattle.cjc_verified_proof.proofs.TokenLaws.{desc_is}
use Rattle.cjc_verified_proof.proofs.WorldCycles.{class_named-name}
use Rattle.cjc_verified_proof.specs.ExportFile.Supers.{virtual_method}
use Rattle.cjc_verified_proof.specs.Tokens.Lines.{Line, line_at, line_in, line_of}
use Rattle.cjc_verified_proof.specs.Tokens.Members.{Signature}
use Rattle.cjc_verified_proof.specs.Tokens.Methods.{with_high_bit}
use Rattle.cjc_verified_proof.specs.Tokens.Slots.{hidden_row, hidden_slots, implementing, implementing_hidden, meant_by}
use Rattle.cjc_verified_proof.specs.Tokens.Slots.{row}
use Rattle.cjc_verified_proof.specs.Tokens.Slots.{slots}
use Rattle.cjc_verified_proof.specs.Tokens.Slots.{shown_token, token}
use Rattle.cjc_verified_proof.specs.Tokens.Tokens.{OfClass, joined, method_of_token, package_in, public_in}
use Rattle.cjc_verified_proof.proofs.TokensHeld.{token-nil, token-slot}
use Rattle.cjc_verified_proof.proofs.TokensWalks.{supertypes-known}
use Rattle.cjc_theorem.specs.VTable.Calls.{finds_hidden}
use Rattle.cjc_theorem.specs.VTable.Dispatch.{Exported, Info, dispatched, own_by_token, tower_in, tower_of}
use Rattle.cjc_theorem.specs.VTable.Laws.{itself}
use Rattle.cjc_theorem.specs.VTable.Meant.{PackageTokensMean, TokensMean}
use Rattle.cjc_theorem.specs.VTable.Tables.{or_zero, table_of}
use Rattle.cjc_theorem.proofs.VTableAssigned.{package-row, public-row}
use Rattle.cjc_theorem.proofs.VTableWorlds.{shown-place}
use Rattle.cjc_verified_proof.proofs.TokenProofClean.{has_named}
use Rattle.cjc_verified_proof.proofs.TokenProofFiled.{own_filed}
use Rattle.cjc_verified_proof.proofs.TokenProofWrittenCallsFacts.{Facts}
use Rattle.cjc_verified_proof.proofs.TokenProofWrittenCallsFiles.{file_says}
use Rattle.cjc_accepted_proof.specs.Written.{written_pair}
use Rattle.cjc_accepted_theorem.proofs.MethodsLaws.{member_is}

-- what export files select has the descriptor of the method that they select
outward_desc : (class : List ℕ) (cs : List ExportClass) (t : ℕ) (id : MemberId) → dispatched_outward class cs t
    ≡ Outward id → method_desc (first_of (virtual_method t) cs) ≡ Some id.desc
outward_desc class [] t id e = absurd cc
outward_desc class (c ∷ cs) t id e = by (virtual_method t c) e (outward_desc class cs t id)
  where
    by : (o : Option ExportMethod) → outward class o (dispatched_outward class cs t) ≡ Outward id
        → (dispatched_outward class cs t ≡ Outward id → method_desc (first_of (virtual_method t) cs) ≡ Some id.desc)
        → method_desc (or_else o (first_of (virtual_method t) cs)) ≡ Some id.desc
    by None f rest = rest f
    by (Some m) f rest =
        let same : record { class = class; name = m.name; desc = m.desc } ≡ id = cc in
        ap (λ (v : MemberId). Some v.desc) same

-- the method at a place of what is kept of a class
open_of : (o : Option OfClass) (t : ℕ) → option_and_then (λ (k : OfClass). joined (slice_get k.public_methods t)) o
    ≡ joined (slice_get (public_in o) t)
open_of None t = refl
open_of (Some k) t = refl

hidden_of : (o : Option OfClass) (t : ℕ) → option_and_then (λ (k : OfClass). joined (slice_get k.package_methods t)) o
    ≡ joined (slice_get (package_in o) t)
hidden_of None t = refl
hidden_of (Some k) t = refl

-- what stands in a row of the slots of a line
meant_at : (f : Signature → Option Found) (all : List (Option Signature)) (s : Signature) (t : ℕ) → token all s ≡ Some t
    → joined (slice_get (map (meant_by f) all) t) ≡ f s
meant_at f all s t e = ap joined (slice_get-map (meant_by f) all t ∙ ap (option_map (meant_by f)) (token-slot all s t
    e))

module _ (list : List ℕ) (p : Package) (sound : IsSound list p.files) (facts : Facts p) (tokens : KeepsTokens (world p))
    (mean : TokensMean (world p)) (mean_here : PackageTokensMean (world p)) where
  abbrev w : List Class
  w = world p

  abbrev q : Pair
  q = written_pair p

  module _ (x : List ℕ) (d : Class) (known : class_named w x ≡ Some d) (plain : is_interface d.flags ≡ false) where
    -- ---- of the package

    module _ (own : d.is_imported ≡ false) where
      line_same : line_of w x ≡ line_at w d
      line_same = ap (line_in w) (supertypes-known w facts.are_supertypes facts.one_supertypes x d known)

      open_method : (t : ℕ) → t < 128 → method_of_token q.tokens d.number t ≡ joined (slice_get (row (line_of w x)) t)
      open_method t low =
          let files = p.files in
          let f = own_filed files sound.classes sound.exports d (has_named w x d known) own in
          let test : nat_lt t 128 ≡ true = grind (arith, nat_tests, low) in
          let flat : (let c = f.1 in is_interface c.flags) ≡ false = sym (ap (λ (c : Class). is_interface c.flags) f.3)
          ∙ plain in
          let a = q.tokens in
          ap (λ b. if b then option_and_then (λ (k : OfClass). joined (slice_get k.public_methods t)) (slice_get
          a.classes d.number) else option_and_then (λ (k : OfClass). joined (slice_get k.package_methods (t - 128)))
          (slice_get a.classes d.number)) test
          ∙ open_of (slice_get a.classes d.number) t
          ∙ ap (λ (c : Class). joined (slice_get (public_in (slice_get a.classes c.number)) t)) f.3
          ∙ ap (λ r. joined (slice_get r t)) (public-row files (has_applets p) f.0 f.1 f.2 flat a refl)
          ∙ ap (λ (c : Class). joined (slice_get (row (line_at w c)) t)) (sym f.3)
          ∙ ap (λ (l : Line). joined (slice_get (row l) t)) (sym line_same)

      hidden_method : (t : ℕ) → method_of_token q.tokens d.number (t + 128) ≡ joined (slice_get (hidden_row (line_of w
          x)) t)
      hidden_method t =
          let files = p.files in
          let f = own_filed files sound.classes sound.exports d (has_named w x d known) own in
          let test : nat_lt (t + 128) 128 ≡ false = grind (arith, nat_tests) in
          let left : t + 128 - 128 ≡ t = omega arith in
          let flat : (let c = f.1 in is_interface c.flags) ≡ false = sym (ap (λ (c : Class). is_interface c.flags) f.3)
          ∙ plain in
          let a = q.tokens in
          ap (λ b. if b then option_and_then (λ (k : OfClass). joined (slice_get k.public_methods (t + 128))) (slice_get
          a.classes d.number) else option_and_then (λ (k : OfClass). joined (slice_get k.package_methods (t + 128
          - 128))) (slice_get a.classes d.number)) test
          ∙ ap (λ n. option_and_then (λ (k : OfClass). joined (slice_get k.package_methods n)) (slice_get a.classes
          d.number)) left
          ∙ hidden_of (slice_get a.classes d.number) t
          ∙ ap (λ (c : Class). joined (slice_get (package_in (slice_get a.classes c.number)) t)) f.3
          ∙ ap (λ r. joined (slice_get r t)) (package-row files (has_applets p) f.0 f.1 f.2 flat a refl)
          ∙ ap (λ (c : Class). joined (slice_get (hidden_row (line_at w c)) t)) (sym f.3)
          ∙ ap (λ (l : Line). joined (slice_get (hidden_row l) t)) (sym line_same)

      own_open : (s : Signature) (t : ℕ) → token (slots (line_of w x)) s ≡ Some t → own_virtual_desc q t d ≡ Some s.desc
      own_open s t e =
          let m = mean x d known plain s t e in
          ap (option_and_then (found_desc q)) (open_method t (tokens x d s t known plain e)
          ∙ meant_at (implementing (line_of w x)) (slots (line_of w x)) s t e ∙ m.nearest)
          ∙ desc_is q w refl m.method s m.name

      own_hidden : (s : Signature) (t : ℕ) → token (hidden_slots (line_of w x)) s ≡ Some t
          → own_virtual_desc q (t + 128) d ≡ Some s.desc
      own_hidden s t e =
          let m = mean_here x d known s t e in
          let f = m.method in
          let held = hidden_holds p facts x d known plain s f m.nearest in
          let z = held.class in
          ap (option_and_then (found_desc q)) (hidden_method t
          ∙ meant_at (implementing_hidden (line_of w x)) (hidden_slots (line_of w x)) s t e ∙ m.nearest)
          ∙ ap (found_desc q) held.is
          ∙ ap (option_map (λ (c : Class). let v = method_in w c (length z.fields + held.place) in v.desc))
          (facts.placed z.name z held.known)
          ∙ ap (λ (v : Member). Some v.desc) (member_is w z held.place held.item held.there)
          ∙ ap (λ (v : Signature). Some v.desc) held.called

    -- ---- of imported classes

    module _ (import : d.is_imported ≡ true) where
      abbrev there : HasEntry p d
      there = facts.file x d known import

      tower_is : tower_of w x ≡ Exported (d ∷ upwards (supertypes w d.supers))
      tower_is =
          ap (tower_in w) (supertypes-known w facts.are_supertypes facts.one_supertypes x d known)
          ∙ ap (λ b. if b then Exported (d ∷ upwards (supertypes w d.supers)) else Info (table_of w d) (tower_in w
          (supertypes w d.supers))) import

      listed_open : (s : Signature) (t : ℕ) → token (slots (line_of w x)) s ≡ Some t
          → method_desc (first_of (virtual_method t) (exported_line (loaded p) (Some there.entry))) ≡ Some s.desc
      listed_open s t e =
          let m = mean x d known plain s t e in
          let says = file_says p facts x d known import plain in
          let found : first (own_by_token t) (d ∷ upwards (supertypes w d.supers)) ≡ Some m.method =
          sym (ap (λ v. dispatched v t) tower_is) ∙ m.by_token in
          let name = class_named-name w x d known in
          let one : External there.file (let v = there.entry in v.token) ≡ External says.tree says.token =
          sym there.on_card ∙ ap (class_at p) name ∙ says.on_card in
          let same : Some there.entry ≡ Some says.entry = sym there.there ∙ ap (external_of (loaded p)) one
          ∙ says.there in
          ap (λ v. method_desc (first_of (virtual_method t) (exported_line (loaded p) v))) same
          ∙ outward_desc (let v = says.entry in v.name) (exported_line (loaded p) (Some says.entry)) t (event x s)
          (says.methods t m.method s found m.name)
        where
          external_of : Rattle.cjc_verified_proof.specs.CardSemantics.Machine.Loaded.Loaded → card.Class
              → Option ExportClass
          external_of l (card.Own part offset) = None
          external_of l (External tree number) = external l tree number

      none_hidden : (s : Signature) (t : ℕ) → token (hidden_slots (line_of w x)) s ≡ Some t → ⊥
      none_hidden s t e =
          let flat : hidden_slots (line_of w x) ≡ [] =
          ap (λ k. hidden_slots (line_in w k)) (supertypes-known w facts.are_supertypes facts.one_supertypes x d known)
          ∙ ap (λ b. hidden_slots (if b then Rattle.cjc_verified_proof.specs.Tokens.Lines.Imported (d ∷ upwards
          (supertypes w
          d.supers)) else Rattle.cjc_verified_proof.specs.Tokens.Lines.Declared d
          (Rattle.cjc_verified_proof.specs.World.Added.added w
          d) (line_in w (supertypes w d.supers)))) import in
          let clash : None ≡ Some t = sym (token-nil s) ∙ ap (λ all. token all s) (sym flat) ∙ e in
          absurd cc

  -- ---- methods that are sought

  -- a number by which the class of a method has it, as has each line that finds the method alike and keeps its tokens
  pub record HasToken (m : MemberId) (d : Class) (known : class_named w m.class ≡ Some d) : Type 0 where
    pub number : ℕ
    pub own : d.is_imported ≡ false → own_virtual_desc q number d ≡ Some m.desc
    pub listed : (import : d.is_imported ≡ true) → (let r = facts.file m.class d known import
        in method_desc (first_of (virtual_method number) (exported_line (loaded p) (Some r.entry))) ≡ Some m.desc)
    pub is : (line : Line) → finds_hidden line (signature m) ≡ finds_hidden (line_of w m.class) (signature m)
        → ((t : ℕ) → token (slots (line_of w m.class)) (signature m) ≡ Some t → shown_token line (signature m)
        ≡ Some t)
        → ((t : ℕ) → token (hidden_slots (line_of w m.class)) (signature m) ≡ Some t
        → token (hidden_slots line) (signature m) ≡ Some t) → token_in line (signature m) ≡ number

  module _ (m : MemberId) (d : Class) (known : class_named w m.class ≡ Some d) (plain : is_interface d.flags ≡ false)
    where
      open_has : (t : ℕ) → token (slots (line_of w m.class)) (signature m) ≡ Some t
          → finds_hidden (line_of w m.class) (signature m) ≡ false → HasToken m d known
      open_has t e none = record {
        number = t;
        own = λ own. own_open m.class d known plain own (signature m) t e;
        listed = λ import. listed_open m.class d known plain import (signature m) t e;
        is = λ line alike open_same hidden_same. (
            ap (λ b. if b then with_high_bit (or_zero (token (hidden_slots line) (signature m)))
            else or_zero (shown_token line (signature m))) (alike ∙ none) ∙ ap or_zero (open_same t e)
            );
      }

      package_has : (t : ℕ) → token (hidden_slots (line_of w m.class)) (signature m) ≡ Some t
          → finds_hidden (line_of w m.class) (signature m) ≡ true → HasToken m d known
      package_has t e finds = record {
        number = t + 128;
        own = λ own. own_hidden m.class d known plain own (signature m) t e;
        listed = λ import. absurd (none_hidden m.class d known plain import (signature m) t e);
        is = λ line alike open_same hidden_same. (
            ap (λ b. if b then with_high_bit (or_zero (token (hidden_slots line) (signature m)))
            else or_zero (shown_token line (signature m))) (alike ∙ finds)
            ∙ ap (λ o. with_high_bit (or_zero o)) (hidden_same t e)
            );
      }

      pub has_token : IsSought w m → HasToken m d known
      has_token (shown finds none) = let calls = facts.virtual_calls m.class m.class d d known plain known itself
          in let r = calls.open_method (signature m) finds in open_has r.0 r.1 none
      has_token (hidden finds) = let calls = facts.virtual_calls m.class m.class d d known plain known itself in let r =
          calls.package_method (signature m) finds in package_has r.0 r.1 finds
      has_token (got t e none selects) = open_has t e none

  -- the token of a public or protected method is the place of its slot
  pub place : (x : List ℕ) (c : Class) (s : Signature) → class_named w x ≡ Some c → is_interface c.flags ≡ false
      → shown_token (line_of w x) s ≡ token (slots (line_of w x)) s
  place x c s e plain = shown-place w facts.are_supertypes facts.one_supertypes facts.rules x c s e (λ far. plain)
