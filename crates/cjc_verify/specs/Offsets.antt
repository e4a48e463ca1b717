-- Where the methods of the package begin, as code keeps it.
use Rattle.std.specs.Prelude.{ℕ, List, [], ◌∷◌, ◌++◌, option_map, slice_get, unwrap_or, Option, Some, None}
use Rattle.std.specs.List.{find}
use Rattle.cjc_capread.specs.declared.tree.ClassDescriptor.{ClassDescriptor}
use Rattle.cjc_capread.specs.declared.tree.MethodDescriptor.{MethodDescriptor}
use Rattle.cjc_world.specs.ClassFile.declared.tree.ClassTree.{ClassTree}
use Rattle.cjc_world.specs.declared.found.Found.{Found}
use Rattle.cjc_world.specs.Files.{Files}
use Rattle.cjc_world.specs.Classes.{Class, all_classes, declared}
use Rattle.cjc_world.specs.Order.{methods_of_class}
use Rattle.cjc_verify.specs.Pairs.{same_found}
use Rattle.cjc_verify.specs.declared.infos.offsets.MethodAt.{MethodAt}

-- the offset of the first of these that is this method; 0 where there is none
abbrev pub offset_among : List MethodAt → Found → ℕ
offset_among methods f = unwrap_or (option_map (λ (m : MethodAt). m.offset) (find (λ (m : MethodAt). same_found m.found
    f) methods)) 0

-- methods beside their descriptors, as far as there are both
abbrev pub ats_in : List Found → List MethodDescriptor → List MethodAt
ats_in (f ∷ members) (m ∷ methods) = record { found = f; offset = m.offset } ∷ ats_in members methods
ats_in members methods = []

-- the methods of classes beside those of their descriptors
abbrev pub ats_among : List Class → List Class → List ClassDescriptor → List MethodAt
ats_among w (c ∷ order) (d ∷ classes) = ats_in (methods_of_class w c) d.methods ++ ats_among w order classes
ats_among w order classes = []

-- of the class of a number, if there is one
abbrev pub ats_where : Files → (number : ℕ) → ClassDescriptor → Option ClassTree → List MethodAt
ats_where files n d None = []
ats_where files n d (Some c) = ats_in (methods_of_class (all_classes files) (declared n c)) d.methods

-- of the class of a number
abbrev pub ats_at : Files → (number : ℕ) → ClassDescriptor → List MethodAt
ats_at files n d = ats_where files n d (slice_get files.classes n)

-- of the classes of these numbers, as far as there are descriptors
abbrev pub ats_by : Files → List ℕ → List ClassDescriptor → List MethodAt
ats_by files (n ∷ ns) (d ∷ classes) = ats_at files n d ++ ats_by files ns classes
ats_by files ns classes = []
