use Rattle.std.proofs.Common.{◌∙◌, ap, sym, subst, length, List, ℕ}
use Rattle.std.specs.Prelude.{Option, nat_lt}
use Rattle.cjc_world.specs.Classes.{all_classes}
use Rattle.cjc_tokens.specs.Tokens.{assigned, Assigned, OfClass, classes_from, imports_of}
use Rattle.cjc_tokens.specs.Working.{AreAllTokens, IsKept}
use Rattle.cjc_tokens.proofs.assigning.assign.Goals as goal

pub declared_tokens-requires-clause-kept : goal.declared_tokens-requires-clause-kept
declared_tokens-requires-clause-kept c = subst (IsKept (all_classes c.args.world.now) c.args.world.now.classes)
    (sym c.deref.ensures.value) c.in_ok-kept.ensures

pub returns-clause-tokens : goal.returns-clause-tokens
unfolding assigned
returns-clause-tokens c =
    let all = subst (AreAllTokens (nat_lt 0 (length c.items.result.now)) c.args.world.now) c.in-Ok.is
    c.in_ok-number.ensures in
    c.of.ensures
    ∙ ap (λ q. both q c.in_ok-imports-in-Ok.imports) all.1
    ∙ ap (both (classes_from (all_classes c.args.world.now) (nat_lt 0 (length c.items.result.now)) 0 0
    c.args.world.now.classes)) (c.in_ok-imports-in-Ok.ensures ∙ ap imports_of (c.items-in-Ok.ensures
    ∙ c.exports.ensures))
    ∙ ap (λ q. both (classes_from (all_classes c.args.world.now) (nat_lt 0 (length q)) 0 0 c.args.world.now.classes)
    (imports_of c.args.world.now.exports)) c.items.ensures
  where
    both : List OfClass → List (List (Option ℕ)) → Assigned
    both classes imports = record { classes = classes; imports = imports }
