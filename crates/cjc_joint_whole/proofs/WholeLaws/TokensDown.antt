-- The token that a class has for a method in a package that knows it is the token of each class below it, in whichever
-- package that is.
use Rattle.std.proofs.Common.{◌≡◌, ℕ, refl, sym, ap, subst, ◌∙◌, Bool, true, false, List, [], ◌∷◌, Some}
use Rattle.std.proofs.Common.{⊎_elim, inl, inr}
use Rattle.std.specs.Prelude.{slice_get, if◌then◌else◌}
use Rattle.cjc_bytes.specs.AccessFlags.{is_interface}
use Rattle.cjc_bytes.proofs.Bools.{both_back}
use Rattle.cjc_components.specs.ExportFile.{export_of}
use Rattle.cjc_components.specs.Package.{Package, world}
use Rattle.cjc_joint_proof.specs.JointPackages.{AreLinked, IsLinked, files_together, to_outside, to_package}
use Rattle.cjc_joint_proof.specs.JointTables.{world_together}
use Rattle.cjc_joint_proof.proofs.AboveLaws.{above_stays}
use Rattle.cjc_joint_proof.proofs.ApartLaws.{packages_apart}
use Rattle.cjc_joint_proof.proofs.ClassLaws.{exported, kept_in, number_in, together_at, token_in}
use Rattle.cjc_joint_proof.proofs.TogetherLaws.{at_home}
use Rattle.cjc_joint_theorem.specs.Ordered.{AreOrdered}
use Rattle.cjc_joint_theorem.proofs.OrderedLaws.Ordered.{ordered}
use Rattle.cjc_joint_theorem.proofs.OrderedLaws.Standing.{Stands, class_stands, from_outside, of_member, own_class}
use Rattle.cjc_joint_theorem.proofs.OrderedLaws.Standing.{same_kind}
use Rattle.cjc_jvm_semantics.specs.Group.{is_of_group}
use Rattle.cjc_theorem.proofs.AlikeLaws.VirtualCalls.MethodKinds.{in_get}
use Rattle.cjc_theorem.proofs.AlikeLaws.VirtualCalls.Ways.{line_class}
use Rattle.cjc_token_proof.proofs.WrittenCalls.Facts.{Facts}
use Rattle.cjc_token_proof.specs.Tables.Infos.{HasEntry}
use Rattle.cjc_tokens.proofs.Held.{listed_slot, token-slot}
use Rattle.cjc_tokens.specs.Lines.{Declared, Imported, line_in, line_of}
use Rattle.cjc_tokens.specs.Members.{In, Signature, all_methods, is_exposed, is_shown, is_virtual}
use Rattle.cjc_tokens.specs.Members.{signature_of}
use Rattle.cjc_tokens.specs.Slots.{slots, token}
use Rattle.cjc_vtable.proofs.Calls.{In-front}
use Rattle.cjc_vtable.proofs.Given.{In-split}
use Rattle.cjc_vtable.specs.Calls.{is_special}
use Rattle.cjc_vtable.specs.Laws.{TokensOnce, below, itself}
use Rattle.cjc_world.proofs.Cycles.{class_named-name}
use Rattle.cjc_world.proofs.Settled.{supertypes-AreSupertypes, supertypes-known}
use Rattle.cjc_world.proofs.UpwardLaws.Lines.{below_abroad, line_below, line_named, line_on, listed_line, no_list}
use Rattle.cjc_world.proofs.UpwardLaws.Lines.{on_line, same_class}
use Rattle.cjc_world.specs.Added.{added}
use Rattle.cjc_world.specs.Classes.{Class, Member, class_named}
use Rattle.cjc_world.specs.Files.{Files}
use Rattle.cjc_world.specs.Supertypes.{Lists, after, foremost, supertypes, upwards}
use Rattle.cjc_world.specs.Upwards.{Below, Has, IsOrdered, OnLine, here, up}
use Rattle.cjc_world.specs.Upwards as ways
use Rattle.cjc_joint_whole.specs.Entries.{MeantAreListed, VirtualAreOwn}
use Rattle.cjc_joint_whole.specs.Selected.{OutsideClassesAgree, SelectTogether, TokensGoDown}
use Rattle.cjc_joint_whole.proofs.WholeLaws.ClimbingPackages.{climbing_packages}
use Rattle.cjc_joint_whole.proofs.WholeLaws.TokenMeans.{ImportsAreExposed, token_means}
use Rattle.cjc_joint_whole.proofs.WholeLaws.TokensThrough.{listed_tokens, meant_tokens}

-- ---- what an imported class lists

-- a method of some classes is one of one of them
in_one : (m : Member) (cs : List Class) → In m (all_methods cs) → (d : Class) × Has d cs × In m d.methods
in_one m [] i = elim i [ ]
in_one m (c ∷ cs) i = ⊎_elim (λ j. (c, ways.foremost, j))
    (λ j. let r = in_one m cs j in (r.0, ways.after r.1, r.2)) (In-split m c.methods (all_methods cs) i)

module _ (p : Package) (its : IsOrdered (world p)) where
  abbrev v : List Class
  v = world p

  -- A class on the line of an imported one lists a public or protected method with its token.
  pub record ListsOne (x : List ℕ) (s : Signature) (t : ℕ) : Type 0 where
    pub class : Class
    pub on : OnLine v x class
    pub named : class_named v class.name ≡ Some class
    pub imported : class.is_imported ≡ true
    pub plain : is_interface class.flags ≡ false
    pub place : ℕ
    pub method : Member
    pub there : slice_get class.methods place ≡ Some method
    pub among : In method class.methods
    pub shown : is_shown method ≡ true
    pub one : signature_of method ≡ s
    pub its_token : method.token ≡ t

  pub lists_one : (x : List ℕ) (c : Class) → class_named v x ≡ Some c → c.is_imported ≡ true
      → is_interface c.flags ≡ false → (s : Signature) (t : ℕ) → token (slots (line_of v x)) s ≡ Some t
      → ListsOne x s t
  lists_one x c known import plain s t e =
      let r = listed_slot (all_methods (c ∷ upwards (supertypes v c.supers))) t s slot in
      let d = in_one r.0 (c ∷ upwards (supertypes v c.supers)) r.1 in
      let on = on_class d.0 d.1 in
      let named = line_named v x d.0 on in
      let at = in_get r.0 (let k = d.0 in k.methods) d.2 in
      record {
        class = d.0;
        on = on;
        named = named;
        imported = below_abroad v its x (let k = d.0 in k.name) c d.0 (line_below v x d.0 on) known import named;
        plain = line_class v its x c d.0 on known plain;
        place = at.0;
        method = r.0;
        there = at.1;
        among = d.2;
        shown = r.2;
        one = r.4;
        its_token = r.3;
      }
    where
      line_is : line_of v x ≡ Imported (c ∷ upwards (supertypes v c.supers))
      line_is = ap (line_in v) (supertypes-known v its.acyclic x c known)
          ∙ ap (λ b. if b then Imported (c ∷ upwards (supertypes v c.supers))
          else Declared c (added v c) (line_in v (supertypes v c.supers))) import

      slot : slice_get (slots (Imported (c ∷ upwards (supertypes v c.supers)))) t ≡ Some (Some s)
      slot = ap (λ l. slice_get (slots l) t) (sym line_is) ∙ token-slot (slots (line_of v x)) s t e

      on_class : (d : Class) → Has d (c ∷ upwards (supertypes v c.supers)) → OnLine v x d
      on_class _ ways.foremost = here known
      on_class d (ways.after h) =
          let l = listed_line v c.supers (supertypes v c.supers) d
          (supertypes-AreSupertypes v its.acyclic c.supers) h in
          up c known l.1 l.2

-- ---- a group

module _ (packages : List Package) (is : SelectTogether packages) (facts : (q : ℕ) (p : Package)
    → slice_get packages q ≡ Some p → Facts p) (exposed : (q : ℕ) (p : Package) → slice_get packages q ≡ Some p
    → ImportsAreExposed p) (outside : OutsideClassesAgree packages) where
  abbrev group : List Files
  group = files_together packages

  abbrev w : List Class
  w = world_together packages

  linked : AreLinked packages
  linked = is.linked

  all : AreOrdered group
  all = is.ordered

  order : IsOrdered w
  order = ordered group all

  its_order : (q : ℕ) (p : Package) → slice_get packages q ≡ Some p → IsOrdered (world p)
  its_order q p it = all.each q p.files (together_at packages linked q p it)

  owns : (q : ℕ) (p : Package) → slice_get packages q ≡ Some p → VirtualAreOwn p
  owns q p it = let s = is.each q p it in s.own

  lists : (q : ℕ) (p : Package) → slice_get packages q ≡ Some p → MeantAreListed p
  lists q p it = let s = is.each q p it in s.meant

  -- a class file is of one package
  one_package : (q r : ℕ) (p e : Package) → slice_get packages q ≡ Some p → slice_get packages r ≡ Some e
      → (x : List ℕ) (c d : Class) → class_named (world p) x ≡ Some c → c.is_imported ≡ false
      → class_named (world e) x ≡ Some d → d.is_imported ≡ false → p ≡ e
  one_package q r p e at there x c d known mine named own =
      let same : q ≡ r = sym (at_home packages linked q p at x (record { class = c; there = known; own = mine }))
      ∙ at_home packages linked r e there x (record { class = d; there = named; own = own }) in
      let both : Some p ≡ Some e = sym at ∙ ap (slice_get packages) same ∙ there in
      cc

  -- ---- one class that tells the token

  -- the token of a class of the package, or that of an entry of an imported one
  data Tells (e : Package) (y : List ℕ) (d : Class) (s : Signature) (t : ℕ) : Type 0 where
    of_class : d.is_imported ≡ false → token (slots (line_of (world e) y)) s ≡ Some t → Tells e y d s t
    of_entry : d.is_imported ≡ true → (i : ℕ) (m : Member) → slice_get d.methods i ≡ Some m → In m d.methods
        → is_shown m ≡ true → signature_of m ≡ s → m.token ≡ t → Tells e y d s t

  -- it is the token of the class
  told : (r : ℕ) (e : Package) → slice_get packages r ≡ Some e → (y : List ℕ) (d : Class)
      → class_named (world e) y ≡ Some d → is_interface d.flags ≡ false → (s : Signature) (t : ℕ) → Tells e y d s t
      → token (slots (line_of (world e) y)) s ≡ Some t
  told r e there y d named plain s t (of_class own is) = is
  told r e there y d named plain s t (of_entry import i m at among shown one tok) =
      let once : TokensOnce (world e) y y = (let f = facts r e there in f.tokens_once y y d d named plain named itself)
      in
      ap (token (slots (line_of (world e) y))) (sym one)
      ∙ once.listed d m named import (In-front m d.methods (all_methods (upwards (supertypes (world e) d.supers)))
      among) shown
      ∙ ap (λ n. Some n) tok

  -- so has each class below it
  abbrev DownAt : ℕ → Package → List ℕ → Type 0
  DownAt q p x = (r : ℕ) (e : Package) → slice_get packages r ≡ Some e → (y : List ℕ) (d k : Class)
      → class_named (world e) y ≡ Some d → is_interface d.flags ≡ false → class_named w y ≡ Some k → OnLine w x k
      → (s : Signature) → is_special s ≡ false → (t : ℕ) → Tells e y d s t
      → token (slots (line_of (world p) x)) s ≡ Some t

  module _ (q : ℕ) (p : Package) (here_it : slice_get packages q ≡ Some p) (x : List ℕ) (c : Class)
      (known : class_named (world p) x ≡ Some c) (plain : is_interface c.flags ≡ false) where
    -- itself
    of_itself : c.is_imported ≡ false → (r : ℕ) (e : Package) → slice_get packages r ≡ Some e → (d : Class)
        → class_named (world e) x ≡ Some d → is_interface d.flags ≡ false → (s : Signature) (t : ℕ) → Tells e x d s t
        → token (slots (line_of (world p) x)) s ≡ Some t
    of_itself mine r e there d named ground s t (of_class own is_token) =
        ap (λ (v : Package). token (slots (line_of (world v) x)) s) (one_package q r p e here_it there x c d known mine
        named own) ∙ is_token
    of_itself mine r e there d named ground s t (of_entry import i m at among shown one tok) =
        by h (linked.imports r h.file e h.tree (record { member = there; file = h.in_list }))
      where
        h : HasEntry e d
        h = let f = facts r e there in f.file x d named import

        by : (h : HasEntry e d) → IsLinked packages r h.tree → token (slots (line_of (world p) x)) s ≡ Some t
        by h (to_package j m' less before_it same) =
            let o = exported packages linked r e there x d named h j m' before_it same in
            ap (λ (v : Package). token (slots (line_of (world v) x)) s) (one_package q j p m' here_it before_it x c
            o.class known mine o.there o.own)
            ∙ ap (token (slots (line_of (world m') x))) (sym one)
            ∙ listed_tokens packages linked r j e m' there before_it x d named import ground h same
            (owns j m' before_it) i m at (both_back (is_exposed m.flags) (is_virtual m) shown)
            ∙ ap (λ n. Some n) tok
        by h (to_outside out) =
            let no = linked.no_own (number_in packages linked r e there x d named h out) q h.tree p c x (let a = h.entry
            in a.token) (kept_in packages linked r e there x d named h out) (token_in packages linked r e there x d
            named h out) here_it known in
            let clash : true ≡ false = sym no ∙ mine in
            absurd (cc)

    -- in the joint world its superclass is the same
    supers_same : (d : Class) → Stands group q p.files c d → c.is_imported ≡ false → d.supers ≡ c.supers
    supers_same d stands mine = by stands mine
      where
        by : {c d : Class} → Stands group q p.files c d → c.is_imported ≡ false → d.supers ≡ c.supers
        by (own_class k t own) f = refl
        by (of_member n e j k m t lt own name kind) f = absurd (cc)
        by (from_outside n k e at) f = absurd (cc)

  only_one : (s super : List ℕ) → Lists s (super ∷ []) → s ≡ super
  only_one _ super foremost = refl
  only_one s super (after l) = no_list l

  down_own : (q : ℕ) (p : Package) → slice_get packages q ≡ Some p → (x : List ℕ) (c : Class)
      → class_named (world p) x ≡ Some c → c.is_imported ≡ false → is_interface c.flags ≡ false → (super : List ℕ)
      → c.supers ≡ super ∷ [] → (b : Class) → class_named (world p) super ≡ Some b → is_interface b.flags ≡ false
      → DownAt q p super → DownAt q p x
  down_own q p it x c known mine plain super supers b super_is ground above r e there y d k named kind joint on s
      ordinary t tells = by on
    where
      by : OnLine w x k → token (slots (line_of (world p) x)) s ≡ Some t
      by (here f) =
          let same : x ≡ y = sym (class_named-name w x k f) ∙ class_named-name w y k joint in
          of_itself q p it x c known plain mine r e there d (ap (class_named (world e)) same ∙ named) kind s t
          (subst (λ z. Tells e z d s t) (sym same) tells)
      by (up {s = z} a f l rest) =
          let hs = class_stands group all q p.files (together_at packages linked q p it) x c known in
          let its_supers : a.supers ≡ super ∷ [] = ap (λ (v : Class). v.supers) (same_class (sym f ∙ hs.named))
          ∙ supers_same q p it x c known plain hs.class hs.stands mine ∙ supers in
          let is_super : z ≡ super = only_one z super (subst (Lists z) its_supers l) in
          let tok = above r e there y d k named kind joint (subst (λ n. OnLine w n k) is_super rest) s ordinary t tells
          in
          let once : TokensOnce (world p) x super = (let f = facts q p it in f.tokens_once x super c b known plain
          super_is (below c known (subst (Lists super) (sym supers) foremost) itself)) in
          once.inherited s t tok

  -- a token of the class in its package is its token where it is imported
  pub shared_token : (q : ℕ) (p : Package) → slice_get packages q ≡ Some p → (x : List ℕ) (c : Class)
      → class_named (world p) x ≡ Some c → c.is_imported ≡ true → is_interface c.flags ≡ false → (h : HasEntry p c)
      → (r : ℕ) (e : Package) → slice_get packages r ≡ Some e → h.tree ≡ export_of e → (k : Class)
      → class_named (world e) x ≡ Some k → is_interface k.flags ≡ false → (s : Signature) → is_special s ≡ false
      → (t : ℕ) → token (slots (line_of (world e) x)) s ≡ Some t → token (slots (line_of (world p) x)) s ≡ Some t
  shared_token q p it x c known import plain h r e there same k is_k kind s ordinary t tok =
      let means = token_means e (its_order r e there) (exposed r e there) x k is_k kind s ordinary t tok in
      let m = means.shown_one in
      ap (token (slots (line_of (world p) x))) (sym m.one)
      ∙ meant_tokens packages linked q r p e it there x c known import plain h same (lists r e there)
      (let f = facts q p it in f.tokens_once) k is_k t means.found m.member means.there m.meant m.shown

  down_shared : (q : ℕ) (p : Package) → slice_get packages q ≡ Some p → (x : List ℕ) (c : Class)
      → class_named (world p) x ≡ Some c → c.is_imported ≡ true → is_interface c.flags ≡ false → (h : HasEntry p c)
      → (r : ℕ) (e : Package) → slice_get packages r ≡ Some e → h.tree ≡ export_of e → (k : Class)
      → class_named (world e) x ≡ Some k → k.is_imported ≡ false → is_interface k.flags ≡ false → DownAt r e x
      → DownAt q p x
  down_shared q p it x c known import plain h r e there same k is_k own kind rest j o at y d a named ground joint on s
      ordinary t tells =
      let tok = rest j o at y d a named ground joint on s ordinary t tells in
      shared_token q p it x c known import plain h r e there same k is_k kind s ordinary t tok

  down_outside : (q : ℕ) (p : Package) → slice_get packages q ≡ Some p → (x : List ℕ) (c : Class)
      → class_named (world p) x ≡ Some c → c.is_imported ≡ true → is_interface c.flags ≡ false → (h : HasEntry p c)
      → is_of_group group (let t = h.tree in t.name) ≡ false → DownAt q p x
  down_outside q p it x c known import plain h out r e there y d k named kind joint on s ordinary t tells =
      let o = outside q p it x c known plain (h, out) in
      o.tokens r e there y d k named kind joint on s ordinary t (told r e there y d named kind s t tells)

  down : (q : ℕ) (p : Package) → slice_get packages q ≡ Some p → (x : List ℕ) (c : Class)
      → class_named (world p) x ≡ Some c → is_interface c.flags ≡ false → DownAt q p x
  down q p it x c known plain = climbing_packages packages linked facts DownAt down_own down_shared down_outside q p it
      x c known plain

  -- ---- each token

  pub tokens_go_down : TokensGoDown packages
  tokens_go_down q p it x c known plain r e there y d k named kind joint on s ordinary t tok = by d.is_imported refl
    where
      by : (b : Bool) → d.is_imported ≡ b → token (slots (line_of (world p) x)) s ≡ Some t
      by false own = down q p it x c known plain r e there y d k named kind joint on s ordinary t (of_class own tok)
      by true import =
          let o = lists_one e (its_order r e there) y d named import kind s t tok in
          let z = o.class in
          let at = together_at packages linked r e there in
          let hs = class_stands group all r e.files at z.name z o.named in
          let its_kind : is_interface (let a = hs.class in a.flags) ≡ false = same_kind group r e.files z hs.class
          hs.stands ∙ o.plain in
          let hy = class_stands group all r e.files at y d named in
          let y_kind : is_interface k.flags ≡ false = ap (λ (a : Class). is_interface a.flags) (same_class (sym joint
          ∙ hy.named)) ∙ same_kind group r e.files d hy.class hy.stands ∙ kind in
          let way : Below w y z.name = ⊎_elim (λ same. inl same) (λ far. inr (above_stays group (packages_apart packages
          linked) all.outside all.imports r e.files at y z.name far)) (line_below (world e) y z o.on) in
          let high = on_line w order y z.name k hs.class way joint y_kind hs.named its_kind in
          down q p it x c known plain r e there z.name z hs.class o.named o.plain hs.named
          (line_on w x k hs.class on (subst (λ n. OnLine w n hs.class) (sym (class_named-name w y k joint)) high)) s
          ordinary t (of_entry o.imported o.place o.method o.there o.among o.shown o.one o.its_token)
