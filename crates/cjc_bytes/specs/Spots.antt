-- Reading a descriptor byte by byte, and its parts as functions of its bytes.
use Rattle.std.specs.Prelude.{ℕ, suc, ◌-◌, Bool, true, false, ◌==◌, if◌then◌else◌, List, [], ◌∷◌, ◌++◌, map, length}
use Rattle.std.specs.Prelude.{take, Option, Some, None, option_map, unwrap_or}
use Rattle.cjc_bytes.specs.declared.descriptor.Kind.{Kind}
use Rattle.cjc_bytes.specs.declared.descriptor.Kind.TheVariants as kinds
use Rattle.cjc_bytes.specs.declared.descriptor.Role.{Role}
use Rattle.cjc_bytes.specs.declared.descriptor.Role.TheVariants as roles
use Rattle.cjc_bytes.specs.declared.descriptor.ParseState.{ParseState}
use Rattle.cjc_bytes.specs.declared.descriptor.ParseState.TheVariants as spots
use Rattle.cjc_bytes.specs.Descriptor.{Part, Parts, plain, base_kind, is_name_byte}

-- what may stand behind a type
abbrev pub behind_type : Bool → ParseState
behind_type true = spots.Param
behind_type false = spots.End

-- behind the first byte of a type
abbrev pub type_begun : Bool → ℕ → Option ParseState
type_begun is_param b =
    if b == 91 then Some (spots.Element is_param)
    else if b == 76 then Some (spots.NameStart is_param)
    else option_map (λ _. behind_type is_param) (base_kind b)

-- behind a byte that may stand here
unfoldable pub after : ParseState → ℕ → Option ParseState
after spots.Start b = if b == 40 then Some spots.Param else type_begun false b
after spots.Param b = if b == 41 then Some spots.Result else type_begun true b
after spots.Result b = if b == 86 then Some spots.End else type_begun false b
after (spots.Element is_param) b = type_begun is_param b
after (spots.NameStart is_param) b = if is_name_byte b then Some (spots.Name is_param) else None
after (spots.Name is_param) b =
    if b == 59 then Some (behind_type is_param)
    else if b == 47 then Some (spots.NameStart is_param)
    else if is_name_byte b then Some (spots.Name is_param)
    else None
after spots.End b = None

-- how many bytes stand from a byte on before the first bad one, if there is one: none where the byte itself is bad
abbrev pub one_more : Option ParseState → (ParseState → Option ℕ) → Option ℕ
one_more None bad = Some 0
one_more (Some spot) bad = option_map suc (bad spot)

-- where bytes end too soon, at so many
abbrev pub end_at : ParseState → ℕ → Option ℕ
end_at spots.End n = None
end_at _ n = Some n

-- how many bytes stand before the first that may not stand there, if there is one; where more have to follow, all
unfoldable pub bad_at : ParseState → List ℕ → Option ℕ
bad_at spot [] = end_at spot 0
bad_at spot (b ∷ bs) = one_more (after spot b) (λ next. bad_at next bs)

-- what a byte is to the type that it may belong to
abbrev pub role_of : Bool → ℕ → Role
role_of true b = if b == 59 then roles.Last else roles.Inside true
role_of false b =
    if b == 91 then roles.Inside false
    else if b == 76 then roles.Inside true
    else if b == 40 then roles.Between
    else if b == 41 then roles.Between
    else roles.Last

-- the types from a byte on, by its role: it begins or goes on with a type, ends it, or stands between types
abbrev pub cut_by : Role → List ℕ → (List ℕ → Bool → List (List ℕ)) → List (List ℕ)
cut_by roles.Between begun behind = behind [] false
cut_by (roles.Inside in_name) begun behind = behind begun in_name
cut_by roles.Last begun behind = begun ∷ behind [] false

-- the bytes of each type, where one has begun with these and a name may be open
unfoldable pub types_from : List ℕ → Bool → List ℕ → List (List ℕ)
types_from begun in_name [] = []
types_from begun in_name (b ∷ bs) = cut_by (role_of in_name b) (begun ++ b ∷ []) (λ more open_name. types_from more
    open_name bs)

-- the bytes of each type of a descriptor, the result's last
abbrev pub types : List ℕ → List (List ℕ)
types bytes = types_from [] false bytes

-- what the bytes of a type say
abbrev pub part_of : List ℕ → Part
part_of [] = plain kinds.Void
part_of (b ∷ bs) =
    if b == 91 then record { kind = kinds.Ref; class = b ∷ bs }
    else if b == 76 then record { kind = kinds.Ref; class = take (length bs - 1) bs }
    else plain (unwrap_or (base_kind b) kinds.Void)

-- a type by its kind and its class
abbrev pub part_by : Kind → (class : List ℕ) → Part
part_by kind class = record { kind = kind; class = class }

-- the parameters, and the last as the result
abbrev pub gathered : Bool → List Part → Parts
gathered is_method [] = record { is_method = is_method; params = []; result = plain kinds.Void }
gathered is_method (p ∷ []) = record { is_method = is_method; params = []; result = p }
gathered is_method (p ∷ q ∷ ps) = let d = gathered is_method (q ∷ ps) in record {
  is_method = is_method;
  params = p ∷ d.params;
  result = d.result;
}

-- whether the first byte is `(` (40), as in a descriptor of a method and of no field
abbrev pub begins_method : List ℕ → Bool
begins_method [] = false
begins_method (b ∷ bs) = b == 40

-- the parts of a descriptor
unfoldable pub parts_of : List ℕ → Parts
parts_of bytes = gathered (begins_method bytes) (map part_of (types bytes))

-- the parts, where no bad byte was found
abbrev pub where_none : Option ℕ → Parts → Option Parts
where_none None d = Some d
where_none (Some at) d = None

-- the parts, where the bytes are a descriptor
unfoldable pub desc_of : List ℕ → Option Parts
desc_of bytes = where_none (bad_at spots.Start bytes) (parts_of bytes)
