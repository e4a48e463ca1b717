-- The names of one class of the package beside its class info: its methods, fields and interface methods, by
-- its number.
use Rattle.std.specs.Prelude.{ℕ, ◌+◌, List, [], ◌∷◌, ◌++◌, slice_get, unwrap_or, Option, Some, None, false}
use Rattle.std.specs.Prelude.{if◌then◌else◌, codes}
use Rattle.std.specs.List.{flat_map}
use Rattle.std.specs.Str.{bytes_eq}
use Rattle.cjc_classes.specs.CardSemantics.Machine.Loaded.{MethodName, FieldName, ClassNames}
use Rattle.cjc_classes.specs.ClassFile.declared.tree.ClassTree.{ClassTree}
use Rattle.cjc_classes.specs.ClassFile.declared.tree.FieldTree.{FieldTree}
use Rattle.cjc_classes.specs.ClassFile.declared.tree.MethodTree.{MethodTree}
use Rattle.cjc_classes.specs.LowerComponents.Paired.Naming.{interface_names, signature_name}
use Rattle.cjc_classes.specs.LowerTokens.Fields.{is_instance}
use Rattle.cjc_classes.specs.LowerTokens.Members.{Signature}
use Rattle.cjc_classes.specs.LowerTokens.Tokens.{Assigned, token_of_member}
use Rattle.cjc_card_link.specs.World.Classes.{all_classes, declared}
use Rattle.cjc_card_link.specs.World.Files.{Files}

-- what items give by their places, the first of which has this one
abbrev pub each_from : {A B : Type 0} → (ℕ → A → List B) → (place : ℕ) → List A → List B
each_from f k [] = []
each_from f k (x ∷ xs) = f k x ++ each_from f (k + 1) xs

-- ---- members

-- a method, where it is no class initialiser
abbrev pub name_where : MethodTree → List MethodName
name_where m = if bytes_eq m.name (codes "<clinit>") then [] else record { name = m.name; desc = m.desc } ∷ []

-- the method of a slot
abbrev pub name_in : Option Signature → List MethodName
name_in None = []
name_in (Some s) = signature_name s ∷ []

-- the field at a place of the class of a number, by its token
abbrev pub field_at : Assigned → (number place : ℕ) → FieldTree → FieldName
field_at a n k f = record {
  token = unwrap_or (token_of_member a (record { imported = false; class = n; member = k }))
      0xFF;
  name = f.name;
  desc = f.desc;
}

-- where it is an instance field
abbrev pub field_where : Assigned → (number place : ℕ) → FieldTree → List FieldName
field_where a n k f = if is_instance f then field_at a n k f ∷ [] else []

-- ---- classes

-- the class of a number
abbrev pub names_of : Files → Assigned → (number : ℕ) → ClassTree → ClassNames
names_of files a n c = record {
  name = c.name;
  methods = flat_map name_where c.methods;
  fields = each_from (field_where a n) 0 c.fields;
  interface_methods = interface_names (all_classes files) (declared n c);
}

-- if there is one
abbrev pub names_where : Files → Assigned → (number : ℕ) → Option ClassTree → List ClassNames
names_where files a n None = []
names_where files a n (Some c) = names_of files a n c ∷ []

-- the class of a number among those of the package, if there is one
abbrev pub names_at : Files → Assigned → (number : ℕ) → List ClassNames
names_at files a n = names_where files a n (slice_get files.classes n)
