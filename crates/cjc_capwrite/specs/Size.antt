-- The size item of each component, by which Directory is written and limits are tested.
use Rattle.std.specs.Prelude.{ℕ, ◌-◌, ◌^◌, List, [], min, ◌==◌, if◌then◌else◌}
use Rattle.cjc_capread.specs.declared.tree.CapTree.{CapTree}
use Rattle.cjc_capwrite.specs.Files.{infos_of}

-- a number, or the greatest of 64 bits
abbrev pub capped : ℕ → ℕ
capped n = min n (2 ^ 64 - 1)

-- what stands behind the tag and the size of the component of this tag, no bytes where it is absent
abbrev pub info_of : CapTree → ℕ → List ℕ
info_of t tag =
    let i = infos_of t in
    if tag == 1 then i.header
    else if tag == 2 then i.directory
    else if tag == 3 then i.applet
    else if tag == 4 then i.import
    else if tag == 5 then i.pool
    else if tag == 6 then i.class
    else if tag == 7 then i.method
    else if tag == 8 then i.statics
    else if tag == 9 then i.locations
    else if tag == 10 then i.export
    else if tag == 11 then i.descriptor
    else []
