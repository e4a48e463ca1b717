-- Classes of export files, kept one by one under their names, and found by token.
use Rattle.std.proofs.Common.{◌≡◌, ℕ, List, [], ◌∷◌, refl, ap, ◌∙◌, Bool, true, false, Option, Some, None}
use Rattle.std.specs.Prelude.{option_map, if◌then◌else◌, ◌==◌}
use Rattle.std.specs.List.{find}
use Rattle.std.specs.Str.{bytes_eq}
use Rattle.cjc_card_semantics.specs.ExportFile.declared.tree.ExportClass.{ExportClass}
use Rattle.cjc_card_semantics.specs.Machine.Classes.{Class, External, or_else, token_named, with_token}
use Rattle.cjc_card_frame.specs.declared.heap.class.Class.{Class as ClassData}
use Rattle.cjc_card_frame.specs.Objects.{class_of}
use Rattle.cjc_card_link.proofs.OrElse.{or_map}

by_test : (b : Bool) (class : ClassData) → option_map class_of (if b then Some class else None)
    ≡ (if b then Some (class_of class) else None)
by_test true class = refl
by_test false class = refl

pub class_noted : (b : Bool) (class : ClassData) (old new : Option ClassData) → new ≡ or_else old (if b then Some class
    else None)
    → option_map class_of new ≡ or_else (option_map class_of old) (if b then Some (class_of class) else None)
class_noted b class old new e =
    ap (option_map class_of) e ∙ or_map class_of old (if b then Some class else None)
    ∙ ap (λ (o : Option Class). or_else (option_map class_of old) o) (by_test b class)

by_name : (b : Bool) (tree token : ℕ) (rest : Option ℕ) → option_map (External tree) (if b then Some token else rest)
    ≡ or_else (if b then Some (External tree token) else None) (option_map (External tree) rest)
by_name true tree token rest = refl
by_name false tree token rest = refl

pub one_class : (tree : ℕ) (x : List ℕ) (c : ExportClass) (cs : List ExportClass)
    → option_map (External tree) (token_named (c ∷ cs) x) ≡ or_else (if bytes_eq c.name x
    then Some (External tree c.token) else None) (option_map (External tree) (token_named cs x))
one_class tree x c cs = by_name (bytes_eq c.name x) tree c.token (token_named cs x)

pub with_token_find : (cs : List ExportClass) (token : ℕ) → find (λ c. c.token == token) cs ≡ with_token cs token
with_token_find [] token = refl
with_token_find (c ∷ cs) token = ap (λ (o : Option ExportClass). if c.token == token then Some c
    else o) (with_token_find cs token)
