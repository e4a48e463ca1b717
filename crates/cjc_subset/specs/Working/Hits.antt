-- What the code tells of what a look-up finds.
use Rattle.cjc_world.specs.Working.Known.{class_of}
use Rattle.cjc_subset.specs.declared.members.ResolvedMember.{ResolvedMember}
use Rattle.cjc_subset.specs.Members.{ResolvedMember as Met}

-- what is found, with its class as the contracts see it
abbrev pub hit_of : ResolvedMember → Met
hit_of h = record { owner = class_of h.owner; flags = h.flags }
