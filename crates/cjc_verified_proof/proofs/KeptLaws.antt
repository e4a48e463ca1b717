-- Where the files keep what dispatch rests on, calls by dispatch and entries on receivers reach methods of the program,
-- so
-- that no run of it is stuck.
use Rattle.std.proofs.Common.{◌≡◌, ℕ, suc, ◌<◌, ◌≤◌, refl, sym, ap, subst, ◌∙◌, true, false, not, List, Some}
use Rattle.cjc_bytes.specs.declared.fault.MemberId.{MemberId}
use Rattle.cjc_bytes.proofs.Bools.{and_true}
use Rattle.cjc_bytes.proofs.Plain.{same_some}
use Rattle.cjc_bytes.specs.AccessFlags.{is_interface}
use Rattle.cjc_token_proof.specs.NCode.Lowering.Naming.{Naming}
use Rattle.cjc_components.specs.Package.{Package, world}
use Rattle.cjc_card_semantics.specs.Script.Sorts.{Shape, OfClass}
use Rattle.cjc_card_semantics.specs.Machine.ByToken.{run}
use Rattle.cjc_card_semantics.specs.Machine.Calls.{dispatched_on, found_token}
use Rattle.cjc_card_semantics.specs.Machine.Classes.{depth, shape_class}
use Rattle.cjc_card_semantics.specs.Machine.Classes as card
use Rattle.cjc_card_semantics.specs.Machine.Dispatch.{Token, dispatched, dispatched_open, tower}
use Rattle.cjc_card_semantics.specs.Machine.Loaded.{Loaded}
use Rattle.cjc_card_acts.specs.CardTypes.{both_of}
use Rattle.cjc_card_semantics.specs.Script.declared.report.Outcome.TheVariants.{Stuck}
use Rattle.cjc_card_semantics.specs.Script.declared.script.Script.{Script}
use Rattle.cjc_tokens.specs.Members.{Signature, is_exposed, is_virtual, signature_of}
use Rattle.cjc_token_proof.specs.Calls.Selecting.{signature}
use Rattle.cjc_token_proof.specs.WrittenCalls.Calls.{KeepsSubtypes}
use Rattle.cjc_token_proof.specs.WrittenSends.Named.{FaultsAreClasses}
use Rattle.cjc_token_proof.proofs.WrittenCalls.Facts.{Facts, exported}
use Rattle.cjc_token_proof.proofs.WrittenCalls.Receivers.{line_found}
use Rattle.cjc_token_proof.proofs.WrittenCalls.Towers.{class_stands, height_fits}
use Rattle.cjc_token_proof.proofs.WrittenSends.Found as sought
use Rattle.cjc_token_proof.proofs.TablesLaws.Above.{says_kinds}
use Rattle.cjc_verify.specs.Named.{is_unmade}
use Rattle.cjc_verify.specs.Pairs.{Pair}
use Rattle.cjc_verify_proof.specs.Frames.{Program}
use Rattle.cjc_verify_proof.specs.Turns.{IsMade}
use Rattle.cjc_token_proof.specs.VTable.Laws.{Under, itself, selection}
use Rattle.cjc_world.specs.ExportFile.declared.tree.ExportClass.{ExportClass}
use Rattle.cjc_world.specs.Classes.{Class, all_classes, class_named, imported, method_of_export}
use Rattle.cjc_verified_proof.specs.Checked.{Checked, HasCode, IsChecked, pair}
use Rattle.cjc_verified_proof.specs.Dispatching.{package_of}
use Rattle.cjc_verified_proof.specs.Kept.{KeepsCalls}
use Rattle.cjc_verified_proof.specs.Programs.{CallsReach, IsProgramOf}
use Rattle.cjc_verified_proof.specs.Selecting.{HasDesc, IsConcrete, IsOf}
use Rattle.cjc_verified_proof.specs.Suited.{HaveCode}
use Rattle.cjc_verified_proof.proofs.CodedLaws as coded
use Rattle.cjc_verified_proof.proofs.ConcreteLaws.{hidden_concrete, open_concrete}
use Rattle.cjc_verified_proof.proofs.FittingLaws.{dispatch_fits}
use Rattle.cjc_verified_proof.proofs.FoundLaws.{HasToken, IsTokenOf, found, of_hidden, of_import, of_open}
use Rattle.cjc_verified_proof.proofs.HoldsLaws.{selection_holds, unbound_virtual, under_on}
use Rattle.cjc_verified_proof.proofs.KindLaws.{made_receives, of_subtype}
use Rattle.cjc_verified_proof.proofs.NamingLaws.{depth_alike, n as names}
use Rattle.cjc_verified_proof.proofs.OrderedLaws.{ordered}
use Rattle.cjc_verified_proof.proofs.ReachedLaws.{Fits, given, hidden_fits, imported_keeps, open_fits, shown_fits}
use Rattle.cjc_verified_proof.proofs.ReachedLaws.{under_plain}
use Rattle.cjc_verified_proof.proofs.SelectedLaws.{facts as facts_of}
use Rattle.cjc_verified_proof.proofs.SentLaws.{sends}

module _ (c : Checked) (ok : IsChecked c) (has : HasCode c) (codes : HaveCode (pair c)) (keep : KeepsCalls c) where
  abbrev p : Pair
  p = pair c

  abbrev l : Loaded
  l = p.loaded

  abbrev w : List Class
  w = all_classes c.files

  abbrev q : Package
  q = package_of c.list c.files c.image

  abbrev n : Naming
  n = names c.name c.list c.files c.image c.components ok.sound ok.paired ok.verified

  abbrev es : List ExportClass
  es = exported q

  abbrev facts : Facts q
  facts = facts_of c ok has keep

  -- ---- tokens that names find

  token_found : (y : List ℕ) (d : Class) → class_named w y ≡ Some d → is_interface d.flags ≡ false → (id : MemberId)
      (t : Token) → found_token l (suc (depth l)) (Some (n.class y)) id ≡ Some (Some t) → HasToken es w y
      (signature id) t
  token_found y d e class_here id t is =
      let s = class_stands q facts y d e class_here in
      let low : s.height ≤ depth l = subst (λ m. s.height ≤ m) (depth_alike c.name c.list c.files c.image c.components
      ok.sound ok.paired ok.verified) (height_fits q facts y d e s) in
      found c.name c.list c.files c.image c.components has.whole
      (ordered c.components ok.described) ok.sound ok.paired ok.verified
      keep.agree facts keep.tokens (let z = keep.sized in z.methods) id s.tower d e class_here (depth l) low t is

  -- ---- what tokens reach on objects of a class

  -- a method of this descriptor, which is not abstract
  record Reaches (x : List ℕ) (desc : List ℕ) (t : Token) : Type 0 where
    fits : Fits c ok has keep x desc (dispatched (tower l (n.class x)) t)
    concrete : IsConcrete p (dispatched (tower l (n.class x)) t)

  module _ (x : List ℕ) (k : Class) (e : class_named w x ≡ Some k) (plain : is_interface k.flags ≡ false)
      (made : k.is_imported ≡ false → is_unmade k.flags ≡ false) where
    reaches : (y : List ℕ) (d : Class) → class_named w y ≡ Some d → is_interface d.flags ≡ false → Under w x y
        → (id : MemberId) (t : Token) → IsTokenOf es w y (signature id) t → Reaches x id.desc t
    reaches y d known class_here under id _ (of_open t is) = record {
      fits = shown_fits c ok has keep x k e plain y d known under (signature id) t is;
      concrete = open_concrete c ok has keep x k e plain made t (keep.tokens y d (signature id) t known class_here is);
    }
    reaches y d known class_here under id _ (of_hidden t low is) = record {
      fits = hidden_fits c ok has keep x k e plain y d known under (signature id) t is;
      concrete = hidden_concrete c ok has keep x k e plain made t low;
    }
    reaches y d known class_here under id _ (of_import j f m there among hidden called g selects v lists) =
        let virtual = (and_true (not (is_exposed m.flags)) (is_virtual m) hidden).1 in
        let a = keep.agree in
        let b = a.calls in
        let alike = b.imported_calls x y k (imported j f) m e plain there refl under among hidden in
        let r = sought.selected_below c.name q ok.sound facts keep.tokens
        (says_kinds c.name q ok.sound) b.imported_calls id
        under g selects in
        let by_name = ap (λ (s : Signature). selection w x s) called ∙ r.1 in
        let one = given c ok has keep y j f there m.token v lists in
        let low = (imported_keeps c ok has keep one.holder one.class one.known one.imported one.place
        (method_of_export v) one.there).1 (under_plain c ok has keep y one.holder one.under
        (imported j f) one.class there (subst (λ (z : Class). is_interface z.flags ≡ false) (same_some (sym known
        ∙ there))
        class_here) one.known) one.virtual in
        record {
          fits = subst (λ (s : Signature). Fits c ok has keep x s.desc (dispatched_open (tower l
              (n.class x)) m.token)) called
              (open_fits c ok has keep x k e plain m.token (signature_of m) r.0 (alike ∙ by_name)
              (line_found q facts true
              m.name m.desc x r.0 by_name) (selection_holds q facts x k e plain (signature_of m)
              (unbound_virtual m virtual).1
              r.0 by_name));
          concrete = open_concrete c ok has keep x k e plain made m.token (subst (λ z. z < 128)
              one.token_is low);
        }

  -- ---- things that are made, and names of methods

  module _ (program : Program) (of : IsProgramOf p program) where
    abbrev AnswersBy : Shape card.Class → List ℕ → Token → Type 0
    AnswersBy kind desc t = HasDesc p desc (dispatched_on l (shape_class l kind) t) × IsOf p kind (dispatched_on l
        (shape_class l kind) t) × IsConcrete p (dispatched_on l (shape_class l kind) t)

    token_fits : (kind : Shape card.Class) → IsMade program kind → (y : List ℕ) (d : Class) → class_named w y ≡ Some d
        → is_interface d.flags ≡ false → (m : MemberId) (t : Token) → HasToken es w y (signature m) t → both_of l
        (Some kind) (Some (OfClass (n.class y))) ≡ true → AnswersBy kind m.desc t
    token_fits kind made y d known class_here m t h is =
        let r = made_receives c.name c.list c.files c.image c.components ok.sound ok.paired ok.verified facts program of
        kind
        made in
        let under = subtypes.climbs r.called y r.class d r.known r.plain known class_here
        (of_subtype c.name c.list c.files
        c.image c.components ok.sound ok.paired ok.verified r.called y r.class d r.known known (sym (r.alike
        (n.class y))
        ∙ is)) in
        let a = reaches r.called r.class r.known r.plain r.concrete h.name h.class h.there h.class_here
        (under_on w r.called
        y h.name under h.under) m t h.is in
        let fits = a.fits in
        let here = fits.is_held r.called r.class r.known itself kind r.alike in
        subst (λ o. HasDesc p m.desc (dispatched_on l o t) × IsOf p kind (dispatched_on l o t) × IsConcrete p
        (dispatched_on
        l o t)) (sym r.on_card) (fits.desc_is, here, a.concrete)
      where
        subtypes : KeepsSubtypes w
        subtypes = keep.subtypes

    pub reach : CallsReach p program
    reach = record {
      fits = dispatch_fits c ok has keep program of;
      sends = λ kind made id. sends c ok has codes program of keep facts
          (dispatch_fits c ok has keep program of) token_fits
          token_found kind made id;
    }

  -- no run of it by token is stuck
  pub goes : FaultsAreClasses (world q) → (script : Script) (n at : ℕ) → (let r = run l script n in r.outcome)
      ≡ Stuck at → ⊥
  goes plain =
      let there = coded.program_there c ok has in
      coded.goes c ok has there.0 there.1 plain codes (reach there.0 there.1)
