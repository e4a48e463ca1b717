-- Each class file below an interface has on the card a map of the interface: its own, or that of the nearest class file
-- above it whose package knows the interface there. At the place of a method it has the token that this class has for the
-- method.
use Rattle.std.proofs.Common.{◌≡◌, ℕ, suc, refl, sym, ap, subst, ◌∙◌, Bool, true, false, List, [], ◌∷◌, map}
use Rattle.std.proofs.Common.{Option, Some, None, inr}
use Rattle.std.specs.Prelude.{is_some, slice_get, if◌then◌else◌}
use Rattle.std.specs.Str.{bytes_eq}
use Rattle.cjc_bytes.specs.AccessFlags.{is_interface}
use Rattle.cjc_components.specs.ExportFile.{export_of}
use Rattle.cjc_components.specs.Package.{Package, world}
use Rattle.cjc_joint_proof.specs.JointPackages.{class_together, files_together}
use Rattle.cjc_joint_proof.specs.JointTables.{world_together}
use Rattle.cjc_joint_proof.specs.JointTowers.{loaded_together}
use Rattle.cjc_joint_proof.proofs.ClassLaws.{sound_at, together_at}
use Rattle.cjc_joint_theorem.proofs.OrderedLaws.Ordered.{ordered}
use Rattle.cjc_joint_theorem.proofs.OrderedLaws.Standing.{class_stands, from_outside, of_member, own_class}
use Rattle.cjc_joint_theorem.proofs.OrderedLaws.Standing.{Stands, same_kind}
use Rattle.cjc_jvm_semantics.specs.Group.{is_of_group}
use Rattle.cjc_token_proof.proofs.ByToken.Members.{bytes_tell}
use Rattle.cjc_token_proof.proofs.TablesLaws.Above.{says_kinds}
use Rattle.cjc_token_proof.proofs.WorldProofTypes.{below_type, receiver_class}
use Rattle.cjc_token_proof.proofs.WrittenCalls.Facts.{Facts}
use Rattle.cjc_token_proof.proofs.WrittenCalls.SupertypeTrees.{interfaces_fine}
use Rattle.cjc_token_proof.specs.CardSemantics.Machine.Classes.{Class as CardClass}
use Rattle.cjc_token_proof.specs.CardSemantics.Machine.Dispatch.{map_of, tower}
use Rattle.cjc_token_proof.specs.CardSemantics.Machine.Loaded.{Loaded}
use Rattle.cjc_token_proof.specs.Tables.Infos.{HasEntry}
use Rattle.cjc_token_proof.specs.WrittenCalls.Calls.{KeepsSubtypes}
use Rattle.cjc_tokens.specs.Lines.{line_at, line_of}
use Rattle.cjc_tokens.specs.Members.{Signature}
use Rattle.cjc_tokens.specs.Methods.{interface_methods, interfaces_at}
use Rattle.cjc_tokens.specs.Slots.{shown_token, slots, token}
use Rattle.cjc_vtable.specs.Laws.{interface_named}
use Rattle.cjc_vtable.specs.Meant.{AskedHaveTokens}
use Rattle.cjc_vtable.specs.Tables.{interface_map}
use Rattle.cjc_world.proofs.UpwardLaws.Lines.{same_class}
use Rattle.cjc_world.specs.Classes.{Class, class_named}
use Rattle.cjc_world.specs.Files.{Files}
use Rattle.cjc_world.specs.Interfaces.{known}
use Rattle.cjc_world.specs.Subtype.{is_subtype, starts}
use Rattle.cjc_world.specs.Supertypes.{Above, Lists, foremost, onwards}
use Rattle.cjc_world.specs.Upwards.{Below, OnLine, here, up}
use Rattle.cjc_world.proofs.Settled.{lists-front}
use Rattle.cjc_joint_whole.specs.Faces.{InterfacesAreKnown, MapsGoUp, MapsTell, map_or}
use Rattle.cjc_joint_whole.specs.Selected.{SelectTogether}
use Rattle.cjc_joint_whole.proofs.WholeLaws.ClimbingPackages.{climbing_packages}
use Rattle.cjc_joint_whole.proofs.WholeLaws.FaceOrigins.{outside_not, rows_agree}
use Rattle.cjc_joint_whole.proofs.WholeLaws.FaceWays.{Begins, Seen, begins, higher, outside_way, seen}

-- ---- maps of a class

-- the place of an interface among these
among_place : (is : List Class) (name : List ℕ) (i : Class) → interface_named is name ≡ Some i → (k : ℕ)
    × (slice_get is k ≡ Some i) × (i.name ≡ name)
among_place [] name i e = cc
among_place (j ∷ is) name i e = by (bytes_eq j.name name) refl e (among_place is name i)
  where
    by : (b : Bool) → bytes_eq j.name name ≡ b → (if b then Some j else interface_named is name) ≡ Some i
        → (interface_named is name ≡ Some i → (k : ℕ) × (slice_get is k ≡ Some i) × (i.name ≡ name)) → (k : ℕ)
        × (slice_get (j ∷ is) k ≡ Some i) × (i.name ≡ name)
    by true f e rest = let one : j ≡ i = cc in (
      0,
      ap (λ (c : Class). Some c) one,
      ap (λ (c : Class). c.name) (sym one) ∙ bytes_tell j.name name f,
    )
    by false f e rest = let r = rest e in (suc r.0, r.1, r.2)

-- maps of none of that name are passed
no_map : (w : List Class) (shown : Signature → Option ℕ) (is : List Class) (name : List ℕ) (over : Option (List ℕ))
    → interface_named is name ≡ None → map_or (map (interface_map w shown) is) name over ≡ over
no_map w shown [] name over e = refl
no_map w shown (j ∷ is) name over e = by (bytes_eq j.name name) e (no_map w shown is name over)
  where
    by : (b : Bool) → (if b then Some j else interface_named is name) ≡ None → (interface_named is name ≡ None
        → map_or (map (interface_map w shown) is) name over ≡ over)
        → (if b then Some (let m = interface_map w shown j in m.index) else map_or (map (interface_map w shown) is) name
        over) ≡ over
    by true e rest = absurd cc
    by false e rest = rest e

module _ (packages : List Package) (is : SelectTogether packages) (facts : (q : ℕ) (p : Package)
    → slice_get packages q ≡ Some p → Facts p) (goes : MapsGoUp packages) (tells : MapsTell packages)
    (asked : (q : ℕ) (p : Package) → slice_get packages q ≡ Some p → AskedHaveTokens (world p))
    (are_known : InterfacesAreKnown packages) where
  abbrev l : Loaded
  l = loaded_together packages

  abbrev group : List Files
  group = files_together packages

  abbrev w : List Class
  w = world_together packages

  -- a class of a class file is of a type that stands above it
  of_type : (q : ℕ) (p : Package) → slice_get packages q ≡ Some p → (x y : List ℕ) (c i : Class)
      → class_named (world p) x ≡ Some c → class_named (world p) y ≡ Some i → Above (world p) x y
      → is_subtype (world p) x y ≡ true
  of_type q p it x y c i known_x known_y way =
      let s = sound_at packages is.linked q p it in
      let k = says_kinds s.list p s.sound in
      let plain_x : starts 91 x ≡ false = k.no_array x (ap is_some known_x) in
      let plain_y : starts 91 y ≡ false = k.no_array y (ap is_some known_y) in
      let far : Below (world p) x y = inr way in
      below_type (world p) x y plain_y (subst (λ z. Below (world p) z y) (sym (receiver_class x plain_x)) far)

  -- ---- a method of an interface that a package knows

  module _ (q0 : ℕ) (p0 : Package) (it0 : slice_get packages q0 ≡ Some p0) (y : List ℕ) (i : Class)
      (known_i : class_named (world p0) y ≡ Some i) (face : is_interface i.flags ≡ true) (k : ℕ) (s : Signature)
      (row : slice_get (interface_methods (world p0) i) k ≡ Some s) where
    abbrev on_card : CardClass
    on_card = class_together packages y

    -- the nearest class with a map, its token there and the map
    pub record HasMap (x : List ℕ) : Type 0 where
      pub part : ℕ
      pub holder : Package
      pub there : slice_get packages part ≡ Some holder
      pub name : List ℕ
      pub class : Class
      pub is_known : class_named (world holder) name ≡ Some class
      pub ground : is_interface class.flags ≡ false
      pub joint : Class
      pub named : class_named w name ≡ Some joint
      pub on : OnLine w x joint
      pub its : ℕ
      pub its_token : token (slots (line_of (world holder) name)) s ≡ Some its
      pub index : List ℕ
      pub is_map : map_of l (tower l (class_together packages x)) on_card ≡ Some index
      pub at : slice_get index k ≡ Some its

    -- So it is of a class file that stands below the interface.
    abbrev pub Climbs : ℕ → Package → List ℕ → Type 0
    Climbs q p x = (d : Class) → class_named w x ≡ Some d → d.is_imported ≡ false → Above w x y → HasMap x

    -- the interface in the joint world
    joint_face : (a : Class) × (class_named w y ≡ Some a) × (is_interface a.flags ≡ true)
    joint_face =
        let hs = class_stands group is.ordered q0 p0.files (together_at packages is.linked q0 p0 it0) y i known_i in
        (hs.class, hs.named, same_kind group q0 p0.files i hs.class hs.stands ∙ face)

    module _ (q : ℕ) (p : Package) (it : slice_get packages q ≡ Some p) (x : List ℕ) (c : Class)
        (known_x : class_named (world p) x ≡ Some c) (mine : c.is_imported ≡ false) (ground : is_interface c.flags
        ≡ false) (super : List ℕ) (supers : c.supers ≡ super ∷ []) (b : Class) (super_is : class_named (world p) super
        ≡ Some b) (super_ground : is_interface b.flags ≡ false) where
      abbrev v : List Class
      v = world p

      files_p : slice_get group q ≡ Some p.files
      files_p = together_at packages is.linked q p it

      abbrev faces : List Class
      faces = known (interfaces_at v c)

      -- an interface of the name is a known interface in the package
      kind_there : (j : Class) → class_named v y ≡ Some j → is_interface j.flags ≡ true
      kind_there j known_j =
          let hs = class_stands group is.ordered q p.files files_p y j known_j in
          let a = joint_face in
          let one : hs.class ≡ a.0 = same_class (sym hs.named ∙ a.1) in
          sym (same_kind group q p.files j hs.class hs.stands) ∙ ap (λ (d : Class). is_interface d.flags) one ∙ a.2

      -- with a map of its own
      of_map : (j : Class) → interface_named faces y ≡ Some j → HasMap x
      of_map j among =
          let r = among_place faces y j among in
          let known_j : class_named v y ≡ Some j = ap (class_named v) (sym r.2) ∙ interfaces_fine v c r.0 j r.1 in
          let kind = kind_there j known_j in
          let its_row = rows_agree packages is facts q0 p0 it0 q p it y i j known_i face known_j kind k s row in
          let t = asked q p it x c known_x mine ground r.0 j r.1 k s its_row in
          let m = tells q p it x c known_x mine ground y j known_j among k s its_row t.0 t.1 in
          let hs = class_stands group is.ordered q p.files files_p x c known_x in
          record {
            part = q;
            holder = p;
            there = it;
            name = x;
            class = c;
            is_known = known_x;
            ground = ground;
            joint = hs.class;
            named = hs.named;
            on = here hs.named;
            its = t.0;
            its_token = t.1;
            index = m.0;
            is_map = m.1;
            at = m.2;
          }

      -- or that of the superclass
      of_super : interface_named faces y ≡ None → HasMap super → HasMap x
      of_super none h =
          let a = joint_face in
          let up_map = goes q p it x c known_x mine ground super supers y a.0 a.1 in
          let passed = no_map v (shown_token (line_at v c)) faces y (map_of l (tower l (class_together packages super))
          on_card) none in
          let hs = class_stands group is.ordered q p.files files_p x c known_x in
          record {
            part = h.part;
            holder = h.holder;
            there = h.there;
            name = h.name;
            class = h.class;
            is_known = h.is_known;
            ground = h.ground;
            joint = h.joint;
            named = h.named;
            on = up hs.class hs.named (joint_super hs.class hs.stands) h.on;
            its = h.its;
            its_token = h.its_token;
            index = h.index;
            is_map = up_map ∙ passed ∙ h.is_map;
            at = h.at;
          }
        where
          joint_super : (d : Class) → Stands group q p.files c d → Lists super d.supers
          joint_super d stands = by stands mine (subst (Lists super) (sym supers) foremost)
            where
              by : {c d : Class} → Stands group q p.files c d → c.is_imported ≡ false → Lists super c.supers
                  → Lists super d.supers
              by (own_class n t own) own_one m = m
              by (of_member n e j o f t lt own name kind) own_one m = absurd cc
              by (from_outside n o e at) own_one m = absurd cc

      -- where the package has the interface above the class it has a map there
      of_seen : Seen packages is facts are_known q p it x y → HasMap x
      of_seen h = by (interface_named faces y) refl
        where
          subtypes : KeepsSubtypes v
          subtypes = let t = is.each q p it in let r = t.runs in let o = r.runnable in o.subtypes

          among : interface_named faces y ≡ Some h.class
          among = subtypes.implements x y c h.class known_x ground h.named (kind_there h.class h.named) (of_type q p it x
              y c h.class known_x h.named h.above)

          by : (o : Option Class) → interface_named faces y ≡ o → HasMap x
          by (Some j) e = of_map j e
          by None e = let no : None ≡ Some h.class = sym e ∙ among in cc

      of_higher : Climbs q p super → Above w super y → HasMap x
      of_higher rest far =
          let hs = class_stands group is.ordered q p.files files_p super b super_is in
          by hs.class hs.named (let d = hs.class in d.is_imported) refl
        where
          by : (d : Class) → class_named w super ≡ Some d → (o : Bool) → d.is_imported ≡ o → HasMap x
          by d joint true import =
              let a = joint_face in
              let h = outside_way packages is facts are_known q p it super y far a.0 a.1 b d super_is joint import in
              of_seen (record {
                above = onwards c known_x (lists-front super c.supers c.interfaces (subst (Lists super) (sym supers)
                    foremost)) h.above;
                class = h.class;
                named = h.named;
              })
          by d joint false inside = on (interface_named faces y) refl
            where
              on : (o : Option Class) → interface_named faces y ≡ o → HasMap x
              on (Some j) e = of_map j e
              on None e = of_super e (rest d joint inside far)

      climbs_own : Climbs q p super → Climbs q p x
      climbs_own rest d joint inside way =
          let a = joint_face in
          by (begins packages is facts are_known q p it x c known_x mine ground super supers y a.0 a.1 a.2
          (λ e named. super_kind e named) way)
        where
          super_kind : (e : Class) → class_named w super ≡ Some e → is_interface e.flags ≡ false
          super_kind e named =
              let hs = class_stands group is.ordered q p.files files_p super b super_is in
              ap (λ (d : Class). is_interface d.flags) (same_class (sym named ∙ hs.named))
              ∙ same_kind group q p.files b hs.class hs.stands ∙ super_ground

          by : Begins packages is facts are_known q p it x y super → HasMap x
          by (seen h) = of_seen h
          by (higher far) = of_higher rest far

    climbs_shared : (q : ℕ) (p : Package) → slice_get packages q ≡ Some p → (x : List ℕ) (c : Class)
        → class_named (world p) x ≡ Some c → c.is_imported ≡ true → is_interface c.flags ≡ false → (h : HasEntry p c)
        → (r : ℕ) (e : Package) → slice_get packages r ≡ Some e → h.tree ≡ export_of e → (o : Class)
        → class_named (world e) x ≡ Some o → o.is_imported ≡ false → is_interface o.flags ≡ false → Climbs r e x
        → Climbs q p x
    climbs_shared q p it x c known_x import ground h r e there same o is_o own kind rest = rest

    climbs_outside : (q : ℕ) (p : Package) → slice_get packages q ≡ Some p → (x : List ℕ) (c : Class)
        → class_named (world p) x ≡ Some c → c.is_imported ≡ true → is_interface c.flags ≡ false → (h : HasEntry p c)
        → is_of_group group (let t = h.tree in t.name) ≡ false → Climbs q p x
    climbs_outside q p it x c known_x import ground h out d joint inside way =
        absurd (outside_not packages is facts q p it x c known_x h out d joint inside)

    pub has_map : (q : ℕ) (p : Package) → slice_get packages q ≡ Some p → (x : List ℕ) (c : Class)
        → class_named (world p) x ≡ Some c → is_interface c.flags ≡ false → Climbs q p x
    has_map q p it x c known_x ground = climbing_packages packages is.linked facts Climbs climbs_own climbs_shared
        climbs_outside q p it x c known_x ground
