-- Static methods, constructors and private methods that code calls: the joint world has each, and the call reaches the
-- same there, a method with code of its package, or the event of one from outside.
use Rattle.std.proofs.Common.{◌≡◌, ℕ, refl, sym, ap, subst, ◌∙◌, Bool, true, false, List, Some, inl, inr}
use Rattle.std.proofs.Common.{⊎_elim}
use Rattle.std.specs.Prelude.{◌⊎◌, ◌&&◌, ◌||◌, not, option_map, slice_get, if◌then◌else◌}
use Rattle.cjc_bytes.specs.AccessFlags.{is_abstract, is_private, is_static}
use Rattle.cjc_bytes.specs.declared.fault.MemberId.{MemberId}
use Rattle.cjc_components.specs.Bytecode.declared.insn.JOp.TheVariants as jop
use Rattle.cjc_components.specs.Bytecode.declared.method_code.MethodCode.{MethodCode}
use Rattle.cjc_jvm_semantics.specs.Group.{joint, joint_method}
use Rattle.cjc_jvm_semantics.specs.Linked.{Abroad, Callee, Inside, Method}
use Rattle.cjc_jvm_semantics.specs.OnePackage.{ResolvedMember, callee_at, is_constructor, is_initialiser, method_at}
use Rattle.cjc_jvm_semantics.specs.OnePackage.{method_hit, of_class}
use Rattle.cjc_world.specs.Classes.{Class, Member as WorldMember, all_classes, declared}
use Rattle.cjc_world.specs.Files.{Files}
use Rattle.cjc_world.specs.Subtype.{is_subtype}
use Rattle.cjc_world.specs.declared.found.Found.{Found}
use Rattle.cjc_world.proofs.Subtypes.{transitive}
use Rattle.cjc_narrow_proof.specs.Runs.Calls as alone
use Rattle.cjc_narrow_proof.specs.Script.Sorts.{shape_name}
use Rattle.cjc_token_proof.proofs.WorldProofSpecials.{bound_whole}
use Rattle.cjc_token_proof.specs.Types.declared.cell.Cell.{Cell}
use Rattle.cjc_token_proof.specs.Types.declared.state.State.{State}
use Rattle.cjc_token_proof.specs.Types.Rules.{names_private, receiver_class}
use Rattle.cjc_token_proof.specs.Types.Search.{cells_of}
use Rattle.cjc_joint_theorem.specs.Members.{Member, files_of, homes_of, tables_of}
use Rattle.cjc_joint_theorem.specs.Together.Calls as together
use Rattle.cjc_joint_theorem.specs.Together.Homes.{joint_world}
use Rattle.cjc_joint_theorem.proofs.MembersLaws.Worlds.{files_at}
use Rattle.cjc_joint_whole.specs.ModesCalls.{IsChosenIn, IsNamedCallee, IsReachedIn, IsReceiverIn, IsStandingCallee}
use Rattle.cjc_joint_whole.specs.ModesCalls.{IsStaticIn, chooses_import, chooses_method, named_callee, reaches_import}
use Rattle.cjc_joint_whole.specs.ModesCalls.{reaches_method}
use Rattle.cjc_joint_whole.specs.Whole.{AreWhole, AreWholeWith}
use Rattle.cjc_joint_whole.proofs.WholeLaws.Accepted.{receiver_is}
use Rattle.cjc_joint_whole.proofs.WholeLaws.Begun.{static_of}
use Rattle.cjc_joint_whole.proofs.WholeLaws.Coded.{IsReachedOf, class_there, code_reached, found_there, hit_there}
use Rattle.cjc_joint_whole.proofs.WholeLaws.Coded as coded
use Rattle.cjc_joint_whole.proofs.WholeLaws.Exposed.{named_here}
use Rattle.cjc_joint_whole.proofs.WholeLaws.Members.{supers_together, type_together}
use Rattle.cjc_joint_whole.proofs.WholeLaws.Owners.{HasOwner, IsFixed, IsMet, MetInFile, MetOutside, in_file, met_of}
use Rattle.cjc_joint_whole.proofs.WholeLaws.Owners.{outside, owner_of}
use Rattle.cjc_joint_whole.proofs.WholeLaws.Reached.{IsReached}
use Rattle.cjc_joint_whole.proofs.WholeLaws.Solid.{solid_at}
use Rattle.cjc_joint_whole.proofs.WholeLaws.Specials.{private_is}

module _ {K : _} (members : List Member) (is : AreWholeWith K members) where
  abbrev group : List Files
  group = files_of members

  abbrev w : List Class
  w = joint_world group

  module _ (id : MemberId) (initial : is_initialiser id.name ≡ false) (hit : ResolvedMember) where
    -- What the joint world has for the method, and what a call of it reaches there.
    pub record StandsIn (on : Bool) : Type 0 where
      pub there : Found
      pub met : ResolvedMember
      pub stands : joint_method w hit.owner id ≡ Some there
      pub is_met : method_hit w there ≡ Some met
      pub has_flags : met.flags ≡ hit.flags
      pub callee : Callee
      pub reaches : (let o = met.owner in callee_at (joint group) o.name id there) ≡ Some callee
      pub is_reached : IsReachedOf members is id on (let o = hit.owner in o.name) callee

    module _ (on : Bool) (static : is_static hit.flags ≡ not on) (fixed : IsFixed hit.flags id.name) where
      stands_outside : MetOutside members id hit → StandsIn on
      stands_outside x =
          let event = of_class (let m = x.met in let o = m.owner in o.name) id in
          record {
            there = x.there;
            met = x.met;
            stands = x.stands;
            is_met = x.is_met;
            has_flags = x.has_flags;
            callee = Abroad event;
            reaches = ap (λ b. if b then Some (Abroad event)
                else option_map Inside (method_at (joint group) x.there)) x.abroad;
            is_reached = coded.abroad refl;
          }

      stands_here : MetInFile members id hit → StandsIn on
      stands_here x =
          let y = x.it in
          let m = y.member in
          let d = declared y.number y.class in
          let own : IsFixed (let z = y.method in z.flags) id.name = subst (λ g. IsFixed g id.name) (sym x.has_flags)
          fixed in
          let whole = bound_whole m.files (solid_at members is y.part m y.at) d y.place y.method (named_here members is
          y.part m y.at y.number y.class y.file) y.is_method (named_so y.method y.has_name own) in
          let concrete : is_abstract (let z = y.method in z.flags) ≡ false =
          ⊎_elim (λ no. absurd (no_import no)) (λ e. e) whole in
          let to = code_reached members is id y initial on (ap is_static x.has_flags ∙ static) concrete
          (let t = y.class in t.name) in
          record {
            there = found_there y;
            met = record { owner = class_there y; flags = (let z = y.method in z.flags) };
            stands = x.stands;
            is_met = hit_there members is id y;
            has_flags = x.has_flags;
            callee = to.0;
            reaches = to.1;
            is_reached = subst (λ n. IsReachedOf members is id on n to.0) x.same_class to.2;
          }
        where
          no_import : false ≡ true → ⊥
          no_import e = cc

          named_so : (z : WorldMember) → z.name ≡ id.name → IsFixed z.flags id.name → IsFixed z.flags z.name
          named_so z name f = subst (IsFixed z.flags) (sym name) f

      stands_in : IsMet members id hit → StandsIn on
      stands_in (in_file x) = stands_here x
      stands_in (outside x) = stands_outside x

  -- ---- of a call of a package

  module _ (q : ℕ) (p : Member) (at : slice_get members q ≡ Some p) (id : MemberId) (c : IsNamedCallee p.files id)
    where
      abbrev v : List Class
      v = all_classes p.files

      abbrev hit : ResolvedMember
      hit = c.hit

      owned : HasOwner p.files id c.place c.hit
      owned = owner_of p.files (solid_at members is q p at) id c.place c.hit c.found c.is_hit

      pub it_stands : (on : Bool) → is_static hit.flags ≡ not on → IsFixed hit.flags id.name
          → StandsIn id c.no_initialiser c.hit on
      it_stands on static fixed = stands_in id c.no_initialiser c.hit on static fixed
          (met_of members is q p at id c.no_initialiser c.place c.hit c.is_hit owned fixed)

      pub above_together : (let o = hit.owner in is_subtype w id.class o.name) ≡ true
      above_together = supers_together members is q p.files (files_at members q p at) id.class (let o = hit.owner in
          o.name) c.above

      abbrev pub callee_in : {on : Bool} → StandsIn id c.no_initialiser c.hit on → IsStandingCallee group p.files id
      callee_in s = record {
        place = c.place;
        hit = c.hit;
        found = c.found;
        is_hit = c.is_hit;
        again = c.again;
        there = s.there;
        met = s.met;
        stands = s.stands;
        is_met = s.is_met;
        is_above = above_together;
        no_initialiser = c.no_initialiser;
        result = λ kind e. type_together members is q p.files (files_at members q p at) kind (c.result kind e);
      }

  -- ---- static calls

  pub static_reached : (q : ℕ) (p : Member) → slice_get members q ≡ Some p → (id : MemberId)
      (c : IsNamedCallee p.files id) → (let hit = c.hit in is_static hit.flags) ≡ true → is_constructor id.name ≡ false
      → IsStaticIn members id p.files
  static_reached q p at id c static no_constructor =
      let s = it_stands q p at id c false static (inl static) in
      record {
        method = callee_in q p at id c s;
        is_static_one = ap is_static s.has_flags ∙ static;
        no_constructor = no_constructor;
        callee = s.callee;
        reaches = s.reaches;
        is_reached = reached s.callee s.is_reached;
      }
    where
      reached : (callee : Callee) → IsReachedOf members is id false (let h = c.hit in let o = h.owner in o.name) callee
          → IsReachedIn members id callee
      reached _ (coded.inside own same) = reaches_method own
      reached _ (coded.abroad e) = reaches_import e

  -- ---- constructors and private methods

  module _ (q : ℕ) (p : Member) (at : slice_get members q ≡ Some p) (codes : List MethodCode) (m : Method) (t : State)
      (id : MemberId) (r : IsReached p.files codes m (jop.Call 0xB7 id) t) (c : IsNamedCallee p.files id)
      (ground : (let meant = c.hit in is_static meant.flags) ≡ false)
      (special : (let meant = c.hit in is_constructor id.name || is_private meant.flags) ≡ true) where
    abbrev own_world : List Class
    own_world = all_classes p.files

    abbrev meant : ResolvedMember
    meant = c.hit

    abbrev stack : List Cell
    stack = cells_of t.stack

    fixed : IsFixed meant.flags id.name
    fixed = by (is_constructor id.name) (is_private meant.flags) special
      where
        by : (a b : Bool) → (a || b) ≡ true → (is_static meant.flags ≡ true) ⊎ ((b ≡ true) ⊎ (a ≡ true))
        by true b e = inr (inr refl)
        by false b e = inr (inl e)

    s : StandsIn id c.no_initialiser c.hit true
    s = it_stands q p at id c true ground fixed

    -- the receiver is of the class that is named
    receiver_itself : receiver_class own_world r.body 0xB7 id ≡ id.class
    receiver_itself =
        let o = owner_of p.files (solid_at members is q p at) id c.place c.hit c.found c.is_hit in
        let one = is.each q p at in
        let solid = solid_at members is q p at in
        let private = private_is p one id o.class c.place o.at c.found (solid.numbered (let d = o.class in d.name)
        o.class o.named) in
        by (is_constructor id.name) (names_private own_world id) (ap (λ b. is_constructor id.name || b) (private
        ∙ sym (ap (λ (h : ResolvedMember). is_private h.flags) o.is_hit)) ∙ special)
      where
        by : (a b : Bool) → (a || b) ≡ true → (if true && not a && not b then (let y = r.body in y.class)
            else id.class) ≡ id.class
        by true b e = refl
        by false true e = refl
        by false false e = absurd cc

    chosen : (type : List ℕ) → is_subtype w type id.class ≡ true → (callee : Callee)
        → IsReachedOf members is id true (let h = c.hit in let o = h.owner in o.name) callee
        → IsChosenIn members id type callee
    chosen type below _ (coded.inside own same) = chooses_method own (subst (λ y. is_subtype w type y ≡ true) (sym same)
        (transitive w type id.class (let o = meant.owner in o.name) below (above_together q p at id c)))
    chosen type below _ (coded.abroad e) = chooses_import e

    pub itself_stands : (holder : List ℕ) → IsReceiverIn members id p.files holder stack 0xB7
    itself_stands holder = record {
      method = callee_in q p at id c s;
      class = id.class;
      choice = λ type. (let met = s.met in let owner = met.owner in callee_at (joint group) owner.name id s.there);
      form = together.itself (ap is_static s.has_flags ∙ ground) special
          (ap (λ g. is_constructor id.name || is_private g) s.has_flags ∙ special);
      choices = λ names on kind some made. (let below = receiver_is members is q p at codes m t 0xB7 id r
          refl id.class receiver_itself names on kind some in record {
            is_of = below;
            callee = s.callee;
            chooses = s.reaches;
            is_chosen = chosen (shape_name kind) below s.callee s.is_reached;
          });
    }

-- ---- where no method works on int

module _ (members : List Member) (is : AreWhole members) where
  pub static_stands : (q : ℕ) (p : Member) → slice_get members q ≡ Some p → (id : MemberId)
      → alone.IsStaticOn p.files p.tables id
      → together.IsStaticIn (files_of members) (homes_of members) (tables_of members) p.files id
  static_stands q p at id h =
      let c = h.method in
      static_of members is id c.desc p.files (static_reached members is q p at id (named_callee c) h.is_static_one
      h.no_constructor)
