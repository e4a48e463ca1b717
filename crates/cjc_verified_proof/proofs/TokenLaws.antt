-- The token of an entry of the constant pool reaches, on objects of the class that it names and of its subclasses, a
-- method
-- with the descriptor of the entry.
use Rattle.std.proofs.Common.{◌≡◌, ◌<◌, ◌-◌, ℕ, zero, suc, Bool, true, false, List, [], ◌∷◌, ◌++◌, length, map}
use Rattle.std.proofs.Common.{slice_get}
use Rattle.std.proofs.Common.{Option, Some, None, refl, sym, ap, ◌∙◌, arith, nat_lt}
use Rattle.std.specs.Prelude.{if◌then◌else◌, option_and_then, option_map, unwrap_or}
use Rattle.std.proofs.lemmas.Bool.Decides.{nat_tests}
use Rattle.std.proofs.lemmas.Option.{slice_get-map}
use Rattle.cjc_bytes.specs.AccessFlags.{is_interface}
use Rattle.cjc_check_rules.specs.Complete.{Complete}
use Rattle.cjc_verify.specs.List.Listed.{ListTree}
use Rattle.cjc_world.specs.declared.found.Found.{Found}
use Rattle.cjc_world.specs.declared.image.StaticImage.{StaticImage}
use Rattle.cjc_world.specs.Added.{added}
use Rattle.cjc_world.specs.Classes.{Class, Member, all_classes, class_at, class_named, declared}
use Rattle.cjc_world.specs.Files.{Files}
use Rattle.cjc_tokens.specs.Lines.{Line, line_at, line_in, line_of}
use Rattle.cjc_tokens.specs.Members.{Signature, signature_of}
use Rattle.cjc_tokens.specs.Methods.{interface_row}
use Rattle.cjc_tokens.specs.Slots.{implementing, meant_by, row, slots, token}
use Rattle.cjc_tokens.specs.Tokens.{OfClass, assigned, joined, method_of_token}
use Rattle.cjc_token_proof.specs.VTable.Calls.{IsTold}
use Rattle.cjc_token_proof.specs.VTable.Laws.{Under}
use Rattle.cjc_token_proof.specs.VTable.Naming.{member_named, named}
use Rattle.cjc_components.specs.Descriptor.{as_added, method_in, no_member}
use Rattle.cjc_components.specs.Package.{Package, world}
use Rattle.cjc_components.specs.Paired.Pairs.{ArePaired}
use Rattle.cjc_token_proof.specs.Tables.Sound.{IsSound}
use Rattle.cjc_verify.specs.Named.{found_desc, own_virtual_desc}
use Rattle.cjc_verify.specs.Pairs.{Pair, pair_of}
use Rattle.cjc_verify.specs.Verified.{IsVerified}
use Rattle.cjc_verified_proof.specs.Dispatching.{FilesAgree, IsReachedBy, TablesFit, package_of}
use Rattle.cjc_tokens.proofs.Held.{here-has_slot, token-slot}
use Rattle.cjc_tokens.proofs.Means.{kept-at}
use Rattle.cjc_tokens.proofs.Walks.{supertypes-known}
use Rattle.cjc_components.proofs.VTableCalls.{token-some}
use Rattle.cjc_components.proofs.VTableOnce.{slots-once}
use Rattle.cjc_components.proofs.VTableSlotNames.{implementing-named, seen-line}
use Rattle.cjc_components.proofs.VTableWorlds.{told-class}
use Rattle.cjc_token_proof.proofs.TablesLaws.Clean.{has_named}
use Rattle.cjc_token_proof.proofs.TablesLaws.Filed.{own_filed}
use Rattle.cjc_token_proof.proofs.WrittenCalls.Facts.{Facts}
use Rattle.cjc_verified_proof.proofs.TowerLaws.{facts as facts_of, open_reached}

-- ---- descriptors

desc_at : (ms xs : List Member) (k : ℕ) (s : Signature) → option_map signature_of (slice_get (ms ++ xs) k) ≡ Some s
    → (let m = unwrap_or (slice_get (ms ++ map as_added xs) k) no_member in m.desc) ≡ s.desc
desc_at [] [] k s e = cc
desc_at [] (m ∷ xs) zero s e = let same : signature_of m ≡ s = cc in ap (λ (v : Signature). v.desc) same
desc_at [] (m ∷ xs) (suc k) s e = desc_at [] xs k s e
desc_at (m ∷ ms) xs zero s e = let same : signature_of m ≡ s = cc in ap (λ (v : Signature). v.desc) same
desc_at (m ∷ ms) xs (suc k) s e = desc_at ms xs k s e

member_desc : (w : List Class) (c : Class) (place : ℕ) (s : Signature) → member_named w place c ≡ Some s
    → (let m = method_in w c place in m.desc) ≡ s.desc
member_desc w c place s e = by (nat_lt place (length c.fields)) e
  where
    by : (b : Bool) → (if b then None else option_map signature_of (slice_get (c.methods ++ added w c)
        (place - length c.fields))) ≡ Some s → (let m = method_in w c place in m.desc) ≡ s.desc
    by true h = cc
    by false h = desc_at c.methods (added w c) (place - length c.fields) s h

-- a method that has a name and a descriptor
pub desc_is : (p : Pair) (w : List Class) → w ≡ all_classes p.files → (f : Found) (s : Signature) → named w f ≡ Some s
    → found_desc p f ≡ Some s.desc
unfolding named
desc_is p w is f s e = by (class_at (all_classes p.files) f.imported f.class) (ap (λ v. option_and_then (member_named v
    f.member) (class_at v f.imported f.class)) (sym is) ∙ e)
  where
    by : (o : Option Class) → option_and_then (member_named (all_classes p.files) f.member) o ≡ Some s
        → option_map (λ (c : Class). let m = method_in (all_classes p.files) c f.member in m.desc) o ≡ Some s.desc
    by None h = cc
    by (Some c) h = ap (λ d. Some d) (member_desc (all_classes p.files) c f.member s h)

-- ---- the tokens of a class of the package

module _ (list : List ℕ) (q : Package) (sound : IsSound list q.files) (facts : Facts q) (applets : Bool) (x : List ℕ)
    (c : Class) (known : class_named (world q) x ≡ Some c) (own : c.is_imported ≡ false)
    (class_here : is_interface c.flags ≡ false) where
  abbrev w : List Class
  w = world q

  abbrev line : Line
  line = line_of w x

  told : IsTold line
  told = told-class w facts.are_supertypes facts.one_supertypes facts.rules x c known (λ no. class_here)

  line_same : line ≡ line_at w c
  line_same = ap (line_in w) (supertypes-known w facts.are_supertypes facts.one_supertypes x c known)

  -- the method of a public or protected token
  pub record IsSlot (t : ℕ) (f : Found) : Type 0 where
    pub signature : Signature
    pub token_is : token (slots line) signature ≡ Some t
    pub nearest : implementing line signature ≡ Some f
    pub name : named w f ≡ Some signature

  row_is : (t : ℕ) → t < 128 → method_of_token (assigned applets q.files) c.number t ≡ joined (slice_get (row line) t)
  row_is t low =
      let files = q.files in
      let f = own_filed files sound.classes sound.exports c (has_named w x c known) own in
      let d = declared f.0 f.1 in
      let kept = kept-at files applets f.0 f.1 f.2 in
      let test : nat_lt t 128 ≡ true = grind (arith, nat_tests, low) in
      let no_interface : is_interface d.flags ≡ false = ap (λ (v : Class). is_interface v.flags) (sym f.3)
      ∙ class_here in
      ap (λ (v : Class). method_of_token (assigned applets files) v.number t) f.3
      ∙ ap (λ b. if b then open_of (slice_get (assigned applets files).classes f.0) else hidden_of (slice_get (assigned
      applets files).classes f.0)) test
      ∙ ap open_of kept.1
      ∙ ap (λ b. joined (slice_get (if b then interface_row w d else row (line_at w d)) t)) no_interface
      ∙ ap (λ (v : Class). joined (slice_get (row (line_at w v)) t)) (sym f.3)
      ∙ ap (λ (v : Line). joined (slice_get (row v) t)) (sym line_same)
    where
      open_of : Option OfClass → Option Found
      open_of o = option_and_then (λ k. joined (slice_get k.public_methods t)) o

      hidden_of : Option OfClass → Option Found
      hidden_of o = option_and_then (λ k. joined (slice_get k.package_methods (t - 128))) o

  pub own_slot : (t : ℕ) → t < 128 → (f : Found) → method_of_token (assigned applets q.files) c.number t ≡ Some f
      → IsSlot t f
  own_slot t low f e = by (slice_get (slots line) t) refl (sym (ap joined (slice_get-map (meant_by (implementing line))
      (slots line) t)) ∙ sym (row_is t low) ∙ e)
    where
      by : (o : Option (Option Signature)) → slice_get (slots line) t ≡ o
          → joined (option_map (meant_by (implementing line)) o) ≡ Some f → IsSlot t f
      by None g h = cc
      by (Some None) g h = cc
      by (Some (Some s)) g h =
          let k = token-some (slots line) s (here-has_slot (slots line) t s g) in
          record {
            signature = s;
            token_is = k.1 ∙ ap (λ n. Some n) (slots-once line told k.0 t s (token-slot (slots line) s k.0 k.1) g);
            nearest = h;
            name = implementing-named w line s f (seen-line w facts.placed (x ∷ []) _ (facts.are_supertypes (x ∷ [])))
                h;
          }

-- ---- what it reaches

module _ (name : List ℕ) (list : ListTree) (files : Files) (image : StaticImage) (c : Complete)
    (sound : IsSound name files) (paired : ArePaired files image c)
    (verified : IsVerified (pair_of (nat_lt 0 (length list.applets)) files image c))
    (agree : FilesAgree (package_of list files image))
    (fits : (k : Class) → class_named (all_classes files) k.name ≡ Some k → k.is_imported ≡ false
    → is_interface k.flags ≡ false → TablesFit (pair_of (nat_lt 0 (length list.applets)) files image c)
    (all_classes files) k) (x y : List ℕ) (k d : Class) (named_x : class_named (all_classes files) x ≡ Some k)
    (class_x : is_interface k.flags ≡ false) (named_y : class_named (all_classes files) y ≡ Some d)
    (own : d.is_imported ≡ false) (class_y : is_interface d.flags ≡ false) (under : Under (all_classes files) x y) where
  abbrev p : Pair
  p = pair_of (nat_lt 0 (length list.applets)) files image c

  abbrev q : Package
  q = package_of list files image

  pub entry_reached : (t : ℕ) → t < 128 → (desc : List ℕ) → own_virtual_desc p t d ≡ Some desc
      → (s : Signature) × IsReachedBy p q x t s × (s.desc ≡ desc)
  entry_reached t low desc e = by (method_of_token (assigned (nat_lt 0 (length list.applets)) files) d.number t) refl e
    where
      facts : Facts q
      facts = facts_of name list files image c sound paired verified agree fits

      by : (o : Option Found) → method_of_token (assigned (nat_lt 0 (length list.applets)) files) d.number t ≡ o
          → option_and_then (found_desc p) o ≡ Some desc → (s : Signature) × IsReachedBy p q x t s × (s.desc ≡ desc)
      by None g h = cc
      by (Some f) g h =
          let r = own_slot name q sound facts (nat_lt 0 (length list.applets)) y d named_y own class_y t low f g in
          let s = r.signature in
          let both : Some s.desc ≡ Some desc = sym (desc_is p (all_classes files) refl f s r.name) ∙ h in
          let same : s.desc ≡ desc = cc in (
            s,
            open_reached name list files image c sound paired verified agree fits x y k d named_x class_x named_y under
                s t
                r.token_is,
            same,
          )
