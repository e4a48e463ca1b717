-- What a look-up found, as it is lent.
use Rattle.std.specs.Prelude.{List, Bool, Option, if◌then◌else◌}
use Rattle.cjc_world.specs.declared.found.Found.{Found}
use Rattle.cjc_world.specs.Classes.{Class}
use Rattle.cjc_world.specs.Working.Known.{class_of}
use Rattle.cjc_jvm_semantics.specs.OnePackage.{ResolvedMember, field_hit, method_hit}
use Rattle.cjc_jvm_link.specs.declared.hits.Owner.{Owner}

-- its class and its flags
abbrev pub hit_of : Owner → ResolvedMember
hit_of owner = record { owner = class_of owner.class; flags = owner.flags }

-- of a field, or of a method
abbrev pub hit_at : (field : Bool) → List Class → Found → Option ResolvedMember
hit_at field w f = if field then field_hit w f else method_hit w f
