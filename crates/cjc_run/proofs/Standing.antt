-- Files of a conversion stand in its folder.
use Rattle.std.proofs.Common.{◌≡◌, ℕ, false, List, [], ◌∷◌, ◌++◌, map, Option, Some, None, codes}
use Rattle.std.proofs.Common.{reverse, refl, sym, ap, ◌∙◌, arith}
use Rattle.std.specs.Prelude.{bytes_eq}
use Rattle.std.proofs.lemmas.List.{reverse-append}
use Rattle.std.proofs.lemmas.Bool.{false_from_ne_true}
use Rattle.cjc_shelf.specs.Shelf.{Files}
use Rattle.cjc_shelf.specs.declared.command.status.File.{File}
use Rattle.cjc_shelf.specs.Command.Publish.{written_files, IsNew, AreDistinct, Stand}
use Rattle.cjc_shelf.proofs.CommandLaws.Published.{written_stand}
use Rattle.cjc_cmd_verify.specs.CapWrite.declared.files.CapFiles.{CapFiles}
use Rattle.cjc_cmd_make.specs.CmdConvert.Publication.{below, last_part, files_made}
use Rattle.cjc_shelf.proofs.BytesNumbers.{same_number}
use Rattle.cjc_shelf.proofs.BytesLists.{bytes_true}

-- ---- names

-- a common beginning makes no difference
behind_same : (front a b : List ℕ) → bytes_eq (front ++ a) (front ++ b) ≡ bytes_eq a b
behind_same [] a b = refl
behind_same (c ∷ front) a b = rw (same_number c) (behind_same front a b)

new_below : (dir name : List ℕ) (files : List File) → IsNew name files
    → IsNew (dir ++ codes "/" ++ name) (map (below dir) files)
new_below dir name [] n = tt
new_below dir name (file ∷ files) n = (
  behind_same (dir ++ codes "/") name file.name
      ∙ n.0,
  new_below dir name files n.1,
)

distinct_below : (dir : List ℕ) (files : List File) → AreDistinct files → AreDistinct (map (below dir) files)
distinct_below dir [] d = tt
distinct_below dir (file ∷ files) d = (new_below dir file.name files d.0, distinct_below dir files d.1)

-- ---- the files of a conversion

second : List ℕ → ℕ
second (a ∷ b ∷ rest) = b
second (a ∷ []) = 0
second [] = 0

-- a component's name and an export file's differ in the letter before the last
not_export : (front last : List ℕ) → front ++ codes ".cap" ≡ last ++ codes ".exp" → ⊥
unfolding second
not_export front last e =
    let back = sym (reverse-append front (codes ".cap")) ∙ ap reverse e ∙ reverse-append last (codes ".exp") in
    let letters : ◌≡◌ {A = ℕ} 97 120 = ap second back in
    absurd (omega arith)

apart : (front last : List ℕ) → bytes_eq (front ++ codes ".cap") (last ++ codes ".exp") ≡ false
apart front last = false_from_ne_true _ (λ e. not_export front last (bytes_true _ _ e))

abbrev caps_of : (h d i p c m s l x : List ℕ) (applet exported : Option (List ℕ)) → CapFiles
caps_of h d i p c m s l x applet exported = record {
  header = h;
  directory = d;
  applet = applet;
  import = i;
  pool = p;
  class = c;
  method = m;
  statics = s;
  locations = l;
  export = exported;
  descriptor = x;
}

-- no two files of a conversion have one name
distinct_made : (name h d i p c m s l x export : List ℕ) (applet exported : Option (List ℕ))
    → AreDistinct (files_made name (caps_of h d i p c m s l x applet exported) export)
distinct_made name h d i p c m s l x export None None = (
  (refl, (refl, (refl, (refl, (refl, (refl, (refl, (refl, (apart (codes "Header") (last_part name), tt))))))))),
  (
    (refl, (refl, (refl, (refl, (refl, (refl, (refl, (apart (codes "Directory") (last_part name), tt)))))))),
    (
      (refl, (refl, (refl, (refl, (refl, (refl, (apart (codes "Import") (last_part name), tt))))))),
      (
        (refl, (refl, (refl, (refl, (refl, (apart (codes "ConstantPool") (last_part name), tt)))))),
        (
          (refl, (refl, (refl, (refl, (apart (codes "Class") (last_part name), tt))))),
          (
            (refl, (refl, (refl, (apart (codes "Method") (last_part name), tt)))),
            (
              (refl, (refl, (apart (codes "StaticField") (last_part name), tt))),
              (
                (refl, (apart (codes "RefLocation") (last_part name), tt)),
                (
                  (apart (codes "Descriptor") (last_part name), tt),
                  (tt, tt),
                ),
              ),
            ),
          ),
        ),
      ),
    ),
  ),
)
distinct_made name h d i p c m s l x export None (Some e) = (
  (
    refl,
    (
      refl,
      (refl, (refl, (refl, (refl, (refl, (refl, (refl, (apart (codes "Header") (last_part name), tt)))))))),
    ),
  ),
  (
    (
      refl,
      (
        refl,
        (refl, (refl, (refl, (refl, (refl, (refl, (apart (codes "Directory") (last_part name), tt))))))),
      ),
    ),
    (
      (refl, (refl, (refl, (refl, (refl, (refl, (refl, (apart (codes "Import") (last_part name), tt)))))))),
      (
        (refl, (refl, (refl, (refl, (refl, (refl, (apart (codes "ConstantPool") (last_part name), tt))))))),
        (
          (refl, (refl, (refl, (refl, (refl, (apart (codes "Class") (last_part name), tt)))))),
          (
            (refl, (refl, (refl, (refl, (apart (codes "Method") (last_part name), tt))))),
            (
              (refl, (refl, (refl, (apart (codes "StaticField") (last_part name), tt)))),
              (
                (refl, (refl, (apart (codes "RefLocation") (last_part name), tt))),
                (
                  (refl, (apart (codes "Export") (last_part name), tt)),
                  (
                    (apart (codes "Descriptor") (last_part name), tt),
                    (tt, tt),
                  ),
                ),
              ),
            ),
          ),
        ),
      ),
    ),
  ),
)
distinct_made name h d i p c m s l x export (Some a) None = (
  (
    refl,
    (
      refl,
      (refl, (refl, (refl, (refl, (refl, (refl, (refl, (apart (codes "Header") (last_part name), tt)))))))),
    ),
  ),
  (
    (
      refl,
      (
        refl,
        (refl, (refl, (refl, (refl, (refl, (refl, (apart (codes "Directory") (last_part name), tt))))))),
      ),
    ),
    (
      (refl, (refl, (refl, (refl, (refl, (refl, (refl, (apart (codes "Applet") (last_part name), tt)))))))),
      (
        (refl, (refl, (refl, (refl, (refl, (refl, (apart (codes "Import") (last_part name), tt))))))),
        (
          (refl, (refl, (refl, (refl, (refl, (apart (codes "ConstantPool") (last_part name), tt)))))),
          (
            (refl, (refl, (refl, (refl, (apart (codes "Class") (last_part name), tt))))),
            (
              (refl, (refl, (refl, (apart (codes "Method") (last_part name), tt)))),
              (
                (refl, (refl, (apart (codes "StaticField") (last_part name), tt))),
                (
                  (refl, (apart (codes "RefLocation") (last_part name), tt)),
                  (
                    (apart (codes "Descriptor") (last_part name), tt),
                    (tt, tt),
                  ),
                ),
              ),
            ),
          ),
        ),
      ),
    ),
  ),
)
distinct_made name h d i p c m s l x export (Some a) (Some e) = (
  (
    refl,
    (
      refl,
      (refl, (refl, (refl, (refl, (refl, (refl, (refl, (refl, (apart (codes "Header") (last_part name), tt))))))))),
    ),
  ),
  (
    (
      refl,
      (
        refl,
        (refl, (refl, (refl, (refl, (refl, (refl, (refl, (apart (codes "Directory") (last_part name), tt)))))))),
      ),
    ),
    (
      (refl, (refl, (refl, (refl, (refl, (refl, (refl, (refl, (apart (codes "Applet") (last_part name), tt))))))))),
      (
        (refl, (refl, (refl, (refl, (refl, (refl, (refl, (apart (codes "Import") (last_part name), tt)))))))),
        (
          (refl, (refl, (refl, (refl, (refl, (refl, (apart (codes "ConstantPool") (last_part name), tt))))))),
          (
            (refl, (refl, (refl, (refl, (refl, (apart (codes "Class") (last_part name), tt)))))),
            (
              (refl, (refl, (refl, (refl, (apart (codes "Method") (last_part name), tt))))),
              (
                (refl, (refl, (refl, (apart (codes "StaticField") (last_part name), tt)))),
                (
                  (refl, (refl, (apart (codes "RefLocation") (last_part name), tt))),
                  (
                    (refl, (apart (codes "Export") (last_part name), tt)),
                    (
                      (apart (codes "Descriptor") (last_part name), tt),
                      (tt, tt),
                    ),
                  ),
                ),
              ),
            ),
          ),
        ),
      ),
    ),
  ),
)

-- all files stand in the folder
pub stand_made : (dir name : List ℕ) (files : Files) (caps : CapFiles) (export : List ℕ)
    → Stand (written_files (map (below dir) (files_made name caps export)) files)
    (map (below dir) (files_made name caps export))
stand_made dir name files caps export =
    written_stand (map (below dir) (files_made name caps export)) files
    (distinct_below dir (files_made name caps export)
    (distinct_made name caps.header caps.directory caps.import caps.pool caps.class caps.method caps.statics
    caps.locations caps.descriptor export caps.applet
    caps.export))
