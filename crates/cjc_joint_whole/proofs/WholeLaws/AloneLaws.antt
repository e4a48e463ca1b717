-- What each package of a group has by itself, from the laws on one world.
use Rattle.std.proofs.Common.{◌≡◌, ℕ, List, Some}
use Rattle.std.specs.Prelude.{slice_get}
use Rattle.cjc_components.specs.Package.{Package, world}
use Rattle.cjc_joint_proof.specs.Loading.{AllLead, group_of, member_of}
use Rattle.cjc_joint_proof.proofs.LeadLaws.{all_lead}
use Rattle.cjc_token_proof.proofs.WrittenCalls.Facts.{Facts}
use Rattle.cjc_token_proof.proofs.WrittenCalls.Known.{facts}
use Rattle.cjc_token_proof.proofs.WrittenCalls.Written.{methods_fit}
use Rattle.cjc_vtable.specs.Laws.{InterfaceCallsAgree, KeepsInterfaces, KeepsRules, TokensAreOnce, VirtualCallsAgree}
use Rattle.cjc_world.proofs.Settled.{AreSupertypes-one, supertypes-AreSupertypes}
use Rattle.cjc_world.specs.Classes.{Class}
use Rattle.cjc_joint_whole.specs.Selected.{SelectTogether}
use Rattle.cjc_joint_whole.proofs.WholeLaws.FixedNamed.{AloneLaws}
use Rattle.cjc_joint_whole.proofs.WholeLaws.ImportsExposed.{imports_exposed}
use Rattle.cjc_joint_whole.proofs.WholeLaws.Listed.{lists_methods}
use Rattle.cjc_joint_whole.proofs.WholeLaws.TokenMeans.{ImportsAreExposed}

module _ (virtual_calls : (w : List Class) → KeepsRules w → VirtualCallsAgree w)
    (interface_calls : (w : List Class) → KeepsRules w → KeepsInterfaces w → InterfaceCallsAgree w)
    (tokens_once : (w : List Class) → KeepsRules w → TokensAreOnce w) (packages : List Package)
    (is : SelectTogether packages) where
  pub alone_laws : (q : ℕ) (p : Package) → slice_get packages q ≡ Some p → AloneLaws p
  alone_laws q p it =
      let s = is.each q p it in
      let r = s.runs in
      let k = r.runnable in
      let j = r.joined in
      let keeps = k.keeps in
      let rules = keeps.rules in
      record {
        runs = r;
        facts = facts r.list p k.sound (methods_fit p k.small) j.exports keeps
            (supertypes-AreSupertypes (world p) rules.acyclic) (AreSupertypes-one (world p))
            (virtual_calls (world p) rules) (interface_calls (world p) rules keeps.interfaces)
            (tokens_once (world p) rules);
      }

  -- its imports lead to what they describe
  pub lead_there : (q : ℕ) (p : Package) → slice_get packages q ≡ Some p → AllLead (group_of packages) (member_of p)
  lead_there = all_lead packages is.linked (λ q p it. (let s = is.each q p it in let r = s.runs in lists_methods p
      r.unbound))

  pub facts_there : (q : ℕ) (p : Package) → slice_get packages q ≡ Some p → Facts p
  facts_there q p it = let a = alone_laws q p it in a.facts

  -- what it imports lists no package-visible method
  pub exposed_there : (q : ℕ) (p : Package) → slice_get packages q ≡ Some p → ImportsAreExposed p
  exposed_there = imports_exposed packages is facts_there
