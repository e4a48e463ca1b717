-- A member that a look-up found, as the code keeps it, and as definitions have it.
use Rattle.cjc_types.specs.World.Working.Known.{class_of}
use Rattle.cjc_jvm_semantics.specs.OnePackage.{ResolvedMember}
use Rattle.cjc_narrow.specs.declared.rows.hits.ResolvedMember.{ResolvedMember as Met}

-- a method that was found: the class that has it, and its flags
abbrev pub hit_of : Met → ResolvedMember
hit_of h = record { owner = class_of h.owner; flags = h.flags }
