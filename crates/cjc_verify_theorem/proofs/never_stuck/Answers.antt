use Rattle.cjc_theorem.specs.LowerJudge.Rules.{settings_of}
use Rattle.cjc_verified_proof.specs.Dispatching.{package_of}
use Rattle.cjc_verify_theorem.proofs.PassedLaws.{checks, free, sound, unbroken}
use Rattle.cjc_verify_theorem.proofs.never_stuck.Goals as goal
use Rattle.cjc_verified_proof.specs.World.Classes.{all_classes}

pub returns : goal.returns
returns c = λ list files tested judged cap components image is fair.
    let fair_laws = c.fair_exports_are_sound.ensures in
    let dispatch = c.package_laws.ensures in
    let slots = c.tokens_mean_methods.ensures in
    let lookups = c.lookup_laws.ensures in
    let w = judged.world in
    let settings = settings_of list in
    let q = package_of list w image in
    let own = sound list files tested judged cap components image is in
    let none = checks list files tested judged cap components image is in
    let world = unbroken list files tested judged cap components image is in
    let acyclic = lookups.acyclic list.name w world in
    free list files tested judged cap components image is (record {
      sound = fair_laws.sound list.name w judged.codes settings own none;
      plain = fair_laws.plain list.name w judged.codes settings none;
      agree = fair_laws.agree list.name q own fair;
      send = fair_laws.send list.name q judged.codes settings own none;
      acyclic = acyclic;
      are_supertypes = lookups.are_supertypes (all_classes w) acyclic;
      one_supertypes = lookups.one_supertypes (all_classes w);
      none = dispatch.unbroken list.name w judged.codes settings world none;
      keeps = dispatch.keeps list.name w judged.codes settings;
      calls = dispatch.calls list.name w judged.codes settings;
      open_tokens = slots.public (all_classes w);
      hidden_tokens = slots.package_visible (all_classes w);
    })
