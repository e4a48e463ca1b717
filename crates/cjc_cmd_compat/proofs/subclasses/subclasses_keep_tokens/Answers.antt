use Rattle.cjc_cmd_compat.proofs.SubclassesLaws.Tokens.{tokens-kept}
use Rattle.cjc_cmd_compat.proofs.subclasses.subclasses_keep_tokens.Goals as goal

pub returns : goal.returns
returns c = λ name list old new files place old_tree new_tree versions there before after adds no_final
    no_initialiser one_token applets n c is named plain. tokens-kept files place old new (record {
      name = name;
      list = list;
      old_tree = old_tree;
      new_tree = new_tree;
      versions = versions;
      there = there;
      unbroken = before;
      unbroken_too = after;
      adds = adds;
      no_final = no_final;
      no_initialiser = no_initialiser;
      one_token = one_token;
    }) n c is plain named applets
