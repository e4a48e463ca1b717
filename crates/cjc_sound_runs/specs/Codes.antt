-- The narrow code of a package as its machine looks it up.
use Rattle.std.specs.Prelude.{List, [], ◌∷◌, Bool, false, Option, None, Some, if◌then◌else◌}
use Rattle.cjc_by_name.specs.Linked.{Method}
use Rattle.cjc_by_name.specs.OnePackage.{is_initialiser, method_at}
use Rattle.cjc_bytes.specs.declared.fault.MemberId.{MemberId}
use Rattle.cjc_components.specs.Package.{LaidMethod, Package, pool}
use Rattle.cjc_narrow.specs.Package.{code_of}
use Rattle.cjc_narrow.specs.Selected.{near_fields}
use Rattle.cjc_ncode.specs.PoolOrder.{same_member}
use Rattle.cjc_ncode.specs.declared.narrow.NMethod.{NMethod}
use Rattle.cjc_types.specs.declared.state.State.{State}
use Rattle.cjc_world.specs.Files.{Files}

-- a method that was found has this name
abbrev pub is_named : MemberId → Option Method → Bool
is_named id None = false
is_named id (Some m) = same_member m.id id

-- no instruction of any method is reached
abbrev pub no_rows : Method → List (Option State)
no_rows m = []

-- What stands for a method among these, the first of its name; without instructions where none has it.
abbrev pub code_among : Files → (near : List MemberId) → List LaidMethod → Method → NMethod
code_among files near [] x = code_of files near no_rows x
code_among files near (m ∷ methods) x = if is_named x.id (method_at files m.member) then m.code else code_among files near methods x

-- The narrow code of each method of a package: what stands for it in Method. An initialiser, which does not stand there, has no instructions.
abbrev pub laid_code : Package → Method → NMethod
laid_code p x =
    let id = x.id in
    if is_initialiser id.name then code_of p.files (near_fields (pool p)) no_rows x else code_among p.files (near_fields (pool p)) p.methods x
