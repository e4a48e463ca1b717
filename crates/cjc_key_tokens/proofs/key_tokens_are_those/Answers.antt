use Rattle.cjc_world.specs.Classes.{all_classes}
use Rattle.cjc_key_tokens.proofs.Found.{virtual_is_found}
use Rattle.cjc_key_tokens.proofs.key_tokens_are_those.Goals as goal

pub returns : goal.returns
returns c p m rules h = virtual_is_found p (c.lookup_laws.ensures.is_kin (all_classes p.files) rules.acyclic) (c.lookup_laws.ensures.one_kin (all_classes p.files)) rules m h
