-- A method of a class file of a package, as the group has it: what a call of it reaches.
use Rattle.std.proofs.Common.{◌≡◌, ℕ, ◌+◌, refl, sym, ap, ◌∙◌, Bool, false, List, Some, length, inr}
use Rattle.std.specs.Prelude.{not, option_map, slice_get}
use Rattle.cjc_bytes.specs.AccessFlags.{is_abstract, is_static}
use Rattle.cjc_bytes.specs.declared.fault.MemberId.{MemberId}
use Rattle.cjc_jvm_semantics.specs.Group.{joint}
use Rattle.cjc_jvm_semantics.specs.Linked.{Abroad, Callee, Inside, Method}
use Rattle.cjc_jvm_semantics.specs.OnePackage.{callee_at, is_initialiser, method_hit}
use Rattle.cjc_world.specs.ClassFile.declared.tree.ClassTree.{ClassTree}
use Rattle.cjc_world.specs.Classes.{Class, Member as WorldMember, declared}
use Rattle.cjc_world.specs.Files.{Files}
use Rattle.cjc_world.specs.Lookup.{member_at}
use Rattle.cjc_world.specs.declared.found.Found.{Found}
use Rattle.cjc_shape_proof.specs.WorldProof.Calls.Targets.{IsTarget}
use Rattle.cjc_shape_proof.specs.WorldProof.Calls.Targets as targets
use Rattle.cjc_token_proof.proofs.WorldProofOwn.{hit_is}
use Rattle.cjc_token_proof.proofs.WorldProofSelects.{reaches}
use Rattle.cjc_joint_proof.specs.Worlds.{before}
use Rattle.cjc_joint_proof.proofs.MemberLaws.{method_stays}
use Rattle.cjc_joint_proof.proofs.WorldLaws.{own_at_number}
use Rattle.cjc_joint_theorem.specs.Members.{Member, files_of}
use Rattle.cjc_joint_theorem.specs.Together.Homes.{joint_world}
use Rattle.cjc_joint_whole.specs.ModesCalls.{IsOwnOf}
use Rattle.cjc_joint_whole.specs.Whole.{AreWholeWith}
use Rattle.cjc_joint_whole.proofs.WholeLaws.Exposed.{named_here, own_here}
use Rattle.cjc_joint_whole.proofs.WholeLaws.Solid.{solid_at}

-- A method of this name and descriptor in a class file of a package.
pub record InFile (members : List Member) (id : MemberId) : Type 0 where
  pub part : ℕ
  pub member : Member
  pub at : slice_get members part ≡ Some member
  pub number : ℕ
  pub class : ClassTree
  pub file : (let f = member.files in slice_get f.classes number ≡ Some class)
  pub place : ℕ
  pub method : WorldMember
  pub is_method : slice_get (declared number class).methods place ≡ Some method
  pub has_name : method.name ≡ id.name
  pub has_desc : method.desc ≡ id.desc

-- its class by its number in the joint world
abbrev pub class_there : {members : List Member} {id : MemberId} → InFile members id → Class
class_there {members = members} x = declared (before (files_of members) x.part + x.number) x.class

-- where it is found there
abbrev pub found_there : {members : List Member} {id : MemberId} → InFile members id → Found
found_there x = member_at (class_there x) (length (class_there x).fields + x.place)

module _ {K : _} (members : List Member) (is : AreWholeWith K members) (id : MemberId) where
  abbrev group : List Files
  group = files_of members

  -- A method with code of a package, of a class of this name, or an imported one.
  pub data IsReachedOf (on : Bool) (class : List ℕ) : Callee → Type 0 where
    inside : {m : Method} → IsOwnOf members id on m → (let n = m.id in n.class) ≡ class
        → IsReachedOf on class (Inside m)
    abroad : {event : MemberId} → event.desc ≡ id.desc → IsReachedOf on class (Abroad event)

  module _ (x : InFile members id) where
    abbrev m : Member
    m = x.member

    abbrev d : Class
    d = declared x.number x.class

    pub hit_there : method_hit (joint_world group) (found_there x)
        ≡ Some (record { owner = class_there x; flags = (let y = x.method in y.flags) })
    hit_there = hit_is (joint_world group) (class_there x) x.place x.method (own_at_number group x.part x.number m.files
        x.class (own_here members is x.part m x.at x.number x.class x.file)) x.is_method

    module _ (initial : is_initialiser id.name ≡ false) (on : Bool)
        (static : is_static (let y = x.method in y.flags) ≡ not on)
        (concrete : is_abstract (let y = x.method in y.flags) ≡ false) where
      reached_of : (callee : Callee) → IsTarget m.files id (λ t k. (is_static k.flags
          ≡ is_static (let y = x.method in y.flags)) × (t.name ≡ d.name)) callee
          → IsReachedOf on (let t = x.class in t.name) callee
      reached_of _ (targets.inside {m = n} code holds) =
          let own : IsOwnOf members id on n = record {
            part = x.part;
            member = x.member;
            at = x.at;
            code = code;
            flags = holds.0 ∙ static;
          } in
          inside own (ap (λ (g : Method). let i = g.id in i.class) code.is ∙ holds.1)
      reached_of _ (targets.abroad e) = abroad e

      -- what a call of it reaches
      pub code_reached : (event : List ℕ) → (callee : Callee) × (callee_at (joint group) event id (found_there x)
          ≡ Some callee) × IsReachedOf on (let t = x.class in t.name) callee
      code_reached event =
          let to = reaches m.files (solid_at members is x.part m x.at) event id (λ t k. (is_static k.flags
          ≡ is_static (let y = x.method in y.flags)) × (t.name ≡ d.name)) d x.place x.method
          (member_at d (length d.fields + x.place)) (named_here members is x.part m x.at x.number x.class x.file)
          x.is_method refl x.has_name x.has_desc (inr concrete)
          (λ t k a b same_class same_member. (
            sym (ap (λ (v : WorldMember). is_static v.flags) same_member),
            sym (ap (λ (v : Class). v.name) same_class),
          )) in (
            to.0,
            ap (option_map Inside) (method_stays group x.part x.number m.files x.class (own_here members is x.part m
                x.at x.number x.class x.file) (length d.fields + x.place)) ∙ to.1,
            reached_of to.0 to.2,
          )
