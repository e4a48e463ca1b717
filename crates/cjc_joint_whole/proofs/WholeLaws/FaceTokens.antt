-- On an object of a class file below an interface, a method of the interface is dispatched by its place there as by the
-- token that the class has for it; so are the methods of interfaces that code calls.
use Rattle.std.proofs.Common.{◌≡◌, ℕ, sym, ap, ◌∙◌, true, false, List, Some, ⊎_elim}
use Rattle.std.specs.Prelude.{is_some, slice_get, unwrap_or}
use Rattle.cjc_bytes.specs.AccessFlags.{is_interface}
use Rattle.cjc_components.specs.Names.{interface_token}
use Rattle.cjc_components.specs.Package.{Package, world}
use Rattle.cjc_joint_proof.specs.JointPackages.{class_together, files_together}
use Rattle.cjc_joint_proof.specs.JointTables.{world_together}
use Rattle.cjc_joint_proof.specs.JointTowers.{loaded_together}
use Rattle.cjc_joint_proof.specs.Loading.{offset_in}
use Rattle.cjc_joint_proof.proofs.ClassLaws.{own_named, sound_at, together_at}
use Rattle.cjc_joint_theorem.proofs.OrderedLaws.Standing.{class_stands, same_kind}
use Rattle.cjc_token_proof.proofs.TablesLaws.Above.{says_kinds}
use Rattle.cjc_token_proof.proofs.WorldProofTypes.{type_below}
use Rattle.cjc_token_proof.proofs.WrittenCalls.Facts.{Facts}
use Rattle.cjc_token_proof.proofs.WrittenSends.Operations.{call_named}
use Rattle.cjc_token_proof.specs.Calls.Selecting.{signature}
use Rattle.cjc_token_proof.specs.CardSemantics.Machine.Calls as card
use Rattle.cjc_token_proof.specs.CardSemantics.Machine.Classes.{Class as CardClass, Own}
use Rattle.cjc_token_proof.specs.CardSemantics.Machine.Dispatch.{at_index, at_map, dispatched_interface}
use Rattle.cjc_token_proof.specs.CardSemantics.Machine.Dispatch.{dispatched_open, map_of, tower}
use Rattle.cjc_token_proof.specs.CardSemantics.Machine.Loaded.{Loaded}
use Rattle.cjc_token_proof.specs.NCode.ByLabel.{OnInterface}
use Rattle.cjc_token_proof.specs.Script.Sorts.{shape_name}
use Rattle.cjc_token_proof.specs.WrittenCalls.Calls.{IsNamed, on_interface}
use Rattle.cjc_tokens.specs.Lines.{line_of}
use Rattle.cjc_tokens.specs.Members.{Signature}
use Rattle.cjc_tokens.specs.Methods.{interface_methods}
use Rattle.cjc_tokens.specs.Slots.{slots, token}
use Rattle.cjc_vtable.specs.Calls.{is_special}
use Rattle.cjc_vtable.specs.Meant.{AskedHaveTokens}
use Rattle.cjc_world.specs.Classes.{Class, class_named}
use Rattle.cjc_world.specs.Files.{Files}
use Rattle.cjc_world.specs.Lookup.{receiver}
use Rattle.cjc_world.specs.Subtype.{starts}
use Rattle.cjc_world.specs.Supertypes.{Above}
use Rattle.cjc_world.proofs.UpwardLaws.Lines.{same_class}
use Rattle.cjc_joint_whole.specs.Faces.{FacesDispatch, InterfacesAreKnown, MapsGiveTokens, MapsGoUp, MapsTell}
use Rattle.cjc_joint_whole.specs.Selected.{SelectTogether, TokensGoDown, face_selection}
use Rattle.cjc_joint_whole.proofs.WholeLaws.FaceClimbs.{HasMap, has_map}
use Rattle.cjc_joint_whole.proofs.WholeLaws.FaceOrdinary.{face_ordinary}
use Rattle.cjc_joint_whole.proofs.WholeLaws.FixedNamed.{AloneLaws}
use Rattle.cjc_joint_whole.proofs.WholeLaws.InterfacesAbroad.{callee_is, method_there, stays_own}

same_number : {a b : ℕ} → Some a ≡ Some b → a ≡ b
same_number e = cc

module _ (packages : List Package) (is : SelectTogether packages) (facts : (q : ℕ) (p : Package)
    → slice_get packages q ≡ Some p → Facts p) (goes : MapsGoUp packages) (tells : MapsTell packages)
    (asked : (q : ℕ) (p : Package) → slice_get packages q ≡ Some p → AskedHaveTokens (world p))
    (down : TokensGoDown packages) (are_known : InterfacesAreKnown packages) where
  abbrev l : Loaded
  l = loaded_together packages

  module _ (q : ℕ) (p : Package) (it : slice_get packages q ≡ Some p) (y : List ℕ) (i : Class)
      (known_i : class_named (world p) y ≡ Some i) (face : is_interface i.flags ≡ true) (k : ℕ) (s : Signature)
      (row : slice_get (interface_methods (world p) i) k ≡ Some s) (r : ℕ) (e : Package) (at : slice_get packages r
      ≡ Some e) (x : List ℕ) (d : Class) (known_x : class_named (world e) x ≡ Some d) (mine : d.is_imported ≡ false)
      (ground : is_interface d.flags ≡ false) (t : ℕ) (tok : token (slots (line_of (world e) x)) s ≡ Some t) where
    abbrev on_card : CardClass
    on_card = class_together packages x

    abbrev face_on_card : CardClass
    face_on_card = class_together packages y

    ordinary : is_special s ≡ false
    ordinary =
        let f = facts q p it in
        face_ordinary (world p) f.interfaces f.are_supertypes y i known_i face k s row

    own_is : on_card ≡ Own r (offset_in e x)
    own_is = ap (λ o. unwrap_or o (Own 0 0)) (own_named packages is.linked r e at x d known_x mine)

    by_map : HasMap packages is facts goes tells asked are_known q p it y i known_i face k s row x
        → dispatched_interface l (Some on_card) face_on_card k ≡ dispatched_open (tower l on_card) t
    by_map h =
        let its = down r e at x d known_x ground h.part h.holder h.there h.name h.class h.joint h.is_known h.ground
        h.named h.on s ordinary h.its h.its_token in
        let same : h.its ≡ t = same_number (sym its ∙ tok) in
        ap (λ c. dispatched_interface l (Some c) face_on_card k) own_is
        ∙ ap (λ c. at_map (tower l c) (map_of l (tower l c) face_on_card) k) (sym own_is)
        ∙ ap (λ m. at_map (tower l on_card) m k) h.is_map
        ∙ ap (at_index (tower l on_card)) h.at
        ∙ ap (dispatched_open (tower l on_card)) same

  pub faces_dispatch : FacesDispatch packages
  faces_dispatch q p it y i known_i face k s row r e at x d known_x mine ground way t tok =
      let hs = class_stands (files_together packages) is.ordered r e.files (together_at packages is.linked r e at) x d
      known_x in
      let inside = stays_own (files_together packages) r e.files d hs.class hs.stands mine in
      by_map q p it y i known_i face k s row r e at x d known_x mine ground t tok (has_map packages is facts goes tells
      asked are_known q p it y i known_i face k s row r e at x d known_x ground hs.class hs.named inside way)

-- ---- what code calls

module _ (packages : List Package) (is : SelectTogether packages) (each : (q : ℕ) (p : Package)
    → slice_get packages q ≡ Some p → AloneLaws p) (dispatch : FacesDispatch packages) where
  abbrev group : List Files
  group = files_together packages

  abbrev w : List Class
  w = world_together packages

  plain_name : (q : ℕ) (p : Package) → slice_get packages q ≡ Some p → (x : List ℕ) (c : Class)
      → class_named (world p) x ≡ Some c → starts 91 x ≡ false
  plain_name q p it x c known =
      let s = sound_at packages is.linked q p it in
      let k = says_kinds s.list p s.sound in
      k.no_array x (ap is_some known)

  pub maps_give_tokens : MapsGiveTokens packages
  maps_give_tokens q n m kind c hit calls r e at d known_d mine ground t tok =
      let a = each q calls.asker calls.asks in
      let runs = a.runs in
      by (call_named calls.asker runs.named (OnInterface n m) calls.called).0
    where
      by : IsNamed (let p = calls.asker in world p) (OnInterface n m) → face_selection packages q n m (receiver
          (shape_name kind)) ≡ dispatched_open (tower (loaded_together packages) (class_together packages (receiver
          (shape_name kind)))) t
      by (on_interface i k known face plain placed) =
          let p = calls.asker in
          let it = calls.asks in
          ap (λ f. card.selected (loaded_together packages) f (Some (class_together packages (receiver (shape_name
          kind))))) (callee_is packages is
          each q n p it m i k known face placed)
          ∙ dispatch q p it m.class i known face (interface_token p m) (signature m) (method_there packages is each q n p
          it m i k known face placed) r e at (receiver (shape_name kind)) d known_d mine ground way t tok
        where
          kinds : receiver (shape_name kind) ≡ m.class → ⊥
          kinds same =
              let p = calls.asker in
              let hs = class_stands group is.ordered q p.files (together_at packages is.linked q p calls.asks) m.class i
              known in
              let hx = class_stands group is.ordered r e.files (together_at packages is.linked r e at) (receiver
              (shape_name kind)) d known_d in
              let one : hs.class ≡ hx.class = same_class (sym hs.named ∙ ap (class_named w)
              (sym same) ∙ hx.named) in
              let no : true ≡ false = sym (same_kind group q p.files i hs.class hs.stands ∙ face)
              ∙ ap (λ (v : Class). is_interface v.flags) one ∙ same_kind group r e.files d hx.class hx.stands ∙ ground
              in
              cc

          way : Above w (receiver (shape_name kind)) m.class
          way = ⊎_elim (λ same. absurd (kinds same)) (λ far. far) (type_below w (shape_name kind) m.class (plain_name q
              calls.asker calls.asks m.class i known) calls.below)
