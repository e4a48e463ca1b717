-- Each method that has least tables is whole.
use Rattle.std.proofs.Common.{◌≡◌, ◌+◌, ◌-◌, ℕ, Bool, true, false, List, [], ◌∷◌, ◌++◌, map, length, Some, refl, sym}
use Rattle.std.proofs.Common.{ap, subst, ◌∙◌, arith}
use Rattle.std.specs.Prelude.{if◌then◌else◌}
use Rattle.std.specs.List.{AllByRecursion}
use Rattle.cjc_bytes.specs.AccessFlags.{is_static}
use Rattle.cjc_bytes.specs.Descriptor.{Part}
use Rattle.cjc_bytes.specs.declared.fault.MemberId.{MemberId}
use Rattle.cjc_code.specs.ClassFile.Code.{CodeTree}
use Rattle.cjc_code.specs.ClassFile.declared.tree.ClassTree.{ClassTree}
use Rattle.cjc_code.specs.ClassFile.declared.tree.MethodTree.{MethodTree}
use Rattle.cjc_code.specs.declared.method_code.MethodCode.{MethodCode}
use Rattle.cjc_code.specs.Decoded.{decoded, insns_of, of_code, of_method}
use Rattle.cjc_script.specs.Sorts.{Sort, sort_of}
use Rattle.cjc_script.specs.Sorts as sorts
use Rattle.cjc_card_semantics.specs.Bytecode.Arguments.{width, widths}
use Rattle.cjc_world.specs.Files.{Files}
use Rattle.cjc_world.specs.Classes.{all_classes}
use Rattle.cjc_world.specs.declared.image.StaticImage.{StaticImage}
use Rattle.cjc_types.specs.declared.cell.Cell.{Cell}
use Rattle.cjc_types.specs.declared.cell.Cell.TheVariants.{Refs}
use Rattle.cjc_types.specs.Types.{parts, value_of}
use Rattle.cjc_types.specs.Flow.{Body, body_of, arguments}
use Rattle.cjc_types.specs.Tables.{IsMethodOf, IsLeastTable, Breach}
use Rattle.cjc_types.proofs.Ascending.{insns_ascend}
use Rattle.cjc_types.proofs.Few.{insns_at_most}
use Rattle.cjc_types.proofs.TypeLaws.Standing as standing
use Rattle.cjc_types.proofs.TypeLaws.Lowered.{least_closed}
use Rattle.cjc_jvm_semantics.specs.Linked.{Method}
use Rattle.cjc_jvm_semantics.specs.OnePackage.{method_by}
use Rattle.cjc_jvm_semantics.specs.ByName.{linked}
use Rattle.cjc_narrow_proof.specs.Selection.Rows.{is_word_sort}
use Rattle.cjc_narrow_proof.specs.Tables.Analysis.{Ascend, IsDecoded, IsSound, IsRead, CatchesAreTold, HasRoomToBegin}
use Rattle.cjc_narrow_proof.specs.Tables.Calls.{IsWordDesc, IsWhole}
use Rattle.cjc_narrow_proof.proofs.TablesLaws.Called.{signature_is}
use Rattle.cjc_narrow_proof.proofs.TablesLaws.Spelt.{class_read}
use Rattle.cjc_narrow.specs.Rows.Resolved.{method_found, constant_named, resolution, receiver_words, parameter_words}
use Rattle.cjc_narrow.specs.Rows.Resolved.{argument_words}
use Rattle.cjc_narrow.specs.Rows.Package.{flags_of, named}
use Rattle.cjc_narrow.specs.Pairs.Roles.{with_pairs}
use Rattle.cjc_narrow_proof.proofs.RunsLaws.Pairs.{are_in_pairs}
use Rattle.cjc_narrow_proof.specs.Runs.Tables.{Tables, look_ups, body_in, analysis, HasTables}

-- ---- words of arguments

one_word : (sort : Sort) → is_word_sort sort ≡ true → width sort ≡ 1
one_word sort e = go sort e
  where
    go : (s : Sort) → is_word_sort s ≡ true → width s ≡ 1
    go sorts.Boolean e = refl
    go sorts.Byte e = refl
    go sorts.Short e = refl
    go sorts.Int e = cc
    go (sorts.Reference shape) e = refl
    go sorts.NoValue e = cc

pub words_of_all : (ps : List Part) → AllByRecursion (λ p. is_word_sort (sort_of p) ≡ true) ps → widths (map sort_of ps)
    ≡ length (map value_of ps)
words_of_all [] h = refl
words_of_all (p ∷ ps) h = let first = one_word (sort_of p) h.0 in let more = words_of_all ps h.1
    in omega (arith, first, more)

words_are : (flags : ℕ) (class desc : List ℕ) → IsWordDesc desc → argument_words flags desc
    ≡ length ((if is_static flags then [] else Refs (class ∷ []) ∷ []) ++ map value_of (parts desc).params)
words_are flags class desc word =
    ap (λ o. receiver_words flags + parameter_words o) (signature_is desc word)
    ∙ ap (λ n. receiver_words flags + n) (words_of_all (parts desc).params word.params)
    ∙ go (is_static flags) (map value_of (parts desc).params)
  where
    go : (b : Bool) (cells : List Cell) → (if b then 0 else 1) + length cells
        ≡ length ((if b then [] else Refs (class ∷ []) ∷ []) ++ cells)
    go true cells = omega arith
    go false cells = omega arith

-- ---- a method

module _ (files : Files) (image : StaticImage) (near : List MemberId) (tables : Tables) where
  -- it is read as the machine by name has it, and what is written for it stands in narrow code
  pub is_read : (m : Method) → Ascend m.insns → length (tables.types m) ≡ length m.insns
      → IsRead (analysis files image near tables) m
  is_read m up sized = record {
    insns = refl;
    catches = refl;
    max_stack = refl;
    max_locals = refl;
    class = refl;
    begins = refl;
    code = refl;
    handlers = refl;
    pairs = are_in_pairs (let id = m.id in resolution files near id.class) (body_in files m) (tables.types m) up sized;
    narrow_max_stack = refl;
  }

  module _ (code : MethodCode) (class : ClassTree) (method : MethodTree) (tree : CodeTree) (of_package : IsMethodOf
      files code class method tree) where
    abbrev this : Method
    this = method_by class method (Some tree)

    abbrev body : Body
    body = body_of class method tree code.insns

    insns_are : decoded class method tree ≡ code.insns
    unfolding decoded
    insns_are = ap insns_of (sym (ap (of_code class method) of_package.is_code)
        ∙ sym (ap (of_method class) of_package.is_method) ∙ of_package.insns)

    pub is_decoded : IsDecoded body
    is_decoded = record {
      few = insns_at_most files code class method tree of_package;
      ascend = λ j k x y e f lt. insns_ascend files code class method tree of_package j k x y e f lt;
      next = λ at i e goes. standing.next_there files code class method tree of_package at i e goes;
      targets = λ at i offset e there. standing.target_placed files code class method tree of_package at i offset e
          there;
      handlers = λ h there. standing.handler_placed files code class method tree of_package h there;
      locals = λ at i k e names. standing.local_there files code class method tree of_package at i k e names;
    }

    module _ (found : flags_of (method_found (all_classes files) (record {
      class = class.name;
      name = method.name;
      desc = method.desc;
    })) ≡ method.flags) where
      pub same_body : body_in files this ≡ body
      same_body =
          ap (λ flags. record {
            class = class.name;
            flags = flags;
            desc = method.desc;
            max_stack = tree.max_stack;
            max_locals = tree.max_locals;
            catches = tree.catches;
            insns = decoded class method tree;
          }) found
          ∙ ap (λ insns. record {
            class = class.name;
            flags = method.flags;
            desc = method.desc;
            max_stack = tree.max_stack;
            max_locals = tree.max_locals;
            catches = tree.catches;
            insns = insns;
          })
          insns_are

  pub is_whole : (m : Method) → HasTables files tables m
      → IsWhole (linked files image) (look_ups files image near tables) (all_classes files) (analysis files image near
      tables) m
  unfolding resolution linked named with_pairs
  is_whole m h = subst (λ n. IsWhole (linked files image) (look_ups files image near tables) (all_classes files)
      (analysis files image near tables) n) (sym h.is) whole
    where
      same : body_in files (method_by h.class h.method (Some h.tree)) ≡ body_of h.class h.method h.tree
          (let code = h.code in code.insns)
      same = same_body h.code h.class h.method h.tree h.of_package h.found

      decoded_here : IsDecoded (body_in files (method_by h.class h.method (Some h.tree)))
      decoded_here = subst IsDecoded (sym same) (is_decoded h.code h.class h.method h.tree h.of_package)

      least : IsLeastTable (body_of h.class h.method h.tree (let code = h.code in code.insns)) (tables.types m)
      least = subst (IsLeastTable (body_of h.class h.method h.tree (let code = h.code in code.insns))) (sym h.types)
          (let t = h.is_table in t.stands.least)

      sound_m : IsSound (all_classes files) (constant_named files (all_classes files))
          (record {
            body = body_of h.class h.method h.tree (let code = h.code in code.insns);
            types = tables.types m;
            ranges = tables.ranges m;
          })
      sound_m = record {
        types = least_closed (body_of h.class h.method h.tree (let code = h.code in code.insns)) (tables.types m) least
            (insns_at_most files h.code h.class h.method h.tree h.of_package);
        unbroken = λ place rule breach. (let t = h.is_table
            in t.unbroken place rule (subst (λ rows. Breach (all_classes files) (body_of h.class h.method h.tree
            (let code = h.code in code.insns)) rows place rule) h.types breach));
        ranges = h.ranges.closed;
        passes = h.passes;
      }

      sound_here : IsSound (all_classes files) (constant_named files (all_classes files))
          (record {
            body = body_in files (method_by h.class h.method (Some h.tree));
            types = tables.types (method_by h.class h.method (Some h.tree));
            ranges =
                tables.ranges (method_by h.class h.method (Some h.tree));
          })
      sound_here =
          subst (λ b. IsSound (all_classes files) (constant_named files (all_classes files)) (record {
            body = b;
            types = tables.types (method_by h.class h.method (Some h.tree));
            ranges =
                tables.ranges (method_by h.class h.method (Some h.tree));
          })) (sym same)
          (subst (λ n. IsSound (all_classes files) (constant_named files (all_classes files))
          (record {
            body = body_of h.class h.method h.tree (let code = h.code in code.insns);
            types = tables.types n;
            ranges = tables.ranges n;
          })) h.is sound_m)

      words_here : argument_words (flags_of (method_found (all_classes files) (record {
        class = (let c = h.class
            in c.name);
        name = (let n = h.method in n.name);
        desc = (let n = h.method in n.desc);
      }))) (let n = h.method
          in n.desc) ≡ length (arguments (body_in files (method_by h.class h.method (Some h.tree))))
      words_here = words_are (flags_of (method_found (all_classes files) (record {
        class = (let c = h.class in c.name);
        name = (let n = h.method in n.name);
        desc = (let n = h.method in n.desc);
      }))) (let c = h.class
          in c.name) (let n = h.method in n.desc) h.desc

      sound_by : IsSound (all_classes files) (let r = resolution files near (let c = h.class in c.name)
          in r.constant) (record {
            body = body_in files (method_by h.class h.method (Some h.tree));
            types = tables.types (method_by h.class h.method (Some h.tree));
            ranges =
                tables.ranges (method_by h.class h.method (Some h.tree));
          })
      sound_by = sound_here

      told_here : CatchesAreTold (linked files image) (look_ups files image near tables) (analysis files image near
          tables) (method_by h.class h.method (Some h.tree))
      told_here = record {
        tells = λ kind name. refl;
        throwable = λ kind e. e;
        named = λ c name among e. (let r = class_read name (h.caught c name among e) in r.class);
      }

      whole : IsWhole (linked files image) (look_ups files image near tables) (all_classes files)
          (analysis files image near tables) (method_by h.class h.method (Some h.tree))
      whole = record {
        read = is_read (method_by h.class h.method (Some h.tree)) decoded_here.ascend sound_here.types.sized;
        decoded = decoded_here;
        sound = sound_by;
        told = told_here;
        given = refl;
        begins = subst HasRoomToBegin (sym same) h.begins;
        is_narrowed = record {
          has_code = refl;
          is_written = refl;
          nargs = words_here;
          max_locals = ap (λ n. (let tree = h.tree in tree.max_locals - n)) words_here;
        };
      }
