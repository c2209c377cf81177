-- The files of an NHNT pair: opened they are what their names say, and the movie that is read of them is what the pair comes to.
use Rattle.std.proofs.Common.{◌≡◌, ◌<◌, ◌++◌, true, false, true≢false, ℕ, List, [], codes, length, unwrap_or, Option, Some, None, Result, Ok, Err, IfSome, IsSome, IsSomeAnd, get_or, option_and_then, refl, sym, subst, ap, ◌∙◌, arith}
use Rattle.std.proofs.lemmas.List.{append_assoc, append-nil, get_or_append_left, length-append}
use Rattle.std.proofs.lemmas.List.Elements.{All-weaker, recursion_from_All}
use Rattle.mp_ports.specs.declared.fault.ReadFail.{ReadFail}
use Rattle.mp_ports.specs.Folder.{FolderState, HeldFile, OpenedFile, Opens, bytes_under, opened_at}
use Rattle.mp_movie.specs.Placed.{PlacedMovie}
use Rattle.mp_movie.specs.StandsFor.{Reads}
use Rattle.mp_read.specs.Read.{IsStretch, LiesIn}
use Rattle.mp_words.specs.declared.job.Rate.{Rate}
use Rattle.mp_words.specs.declared.name.FileKind.{FileKind}
use Rattle.mp_words.specs.Names.{beside, files_with}
use Rattle.nhnt_import.specs.Pair.{info_bytes, pair_movie}
use Rattle.nhnt_import.specs.Placed.{IsImported, IsUnitPiece, pieces_of, placed_track}
use Rattle.mp4edit.specs.declared.pair.Pair.{Pair}
use Rattle.mp4edit.specs.declared.stop.Stop.{Stop}
use Rattle.mp4edit.specs.Opening.{Finds, FindsFor}
use Rattle.mp4edit.specs.Outcome.{Absent, Outcome, file_input, input_as, pair_input, pair_outcome}
use Rattle.mp4edit.specs.Pair.{IsNamed, IsNamedIfAny, IsPair}
use Rattle.mp4edit.specs.Names.{Wanted, held_name, held_names, is_nhnt}
use Rattle.mp4edit.specs.Reading.{Gives, GivesNone, OpensFiles}
use Rattle.mp4edit.proofs.FilesInTurn.{files_as, find_stops, found_opens, missed_opens, needed_stops, opens_as, opens_on, stops_as, stops_first, stops_on, wants_memory}
use Rattle.mp4edit.proofs.Inputs.{answer, answer_gives}
use Rattle.mp4edit.proofs.ToldFiles.{bytes_at, is_open, no_file, opened_last}

-- a file that was opened is the one of its name
pub opened_named : (s t : FolderState) (name : List ℕ) (file : ℕ) → Opens s t name file → IsNamed t name file
opened_named s t name file opens = record { opened = is_open s t name file opens; told = subst (λ (held : Option (List HeldFile)). IfSome held Holds) (sym (ap (λ (x : FolderState). x.held) opens.state)) (by s.held refl opens.found) }
  where
    Holds : List HeldFile → Type 0
    Holds files = IsSomeAnd (bytes_under name files) (λ bytes. (opened_at t file).bytes ≡ Some bytes)

    found : (bytes : Option (List ℕ)) → IsSome bytes → (opened_at t file).bytes ≡ bytes → IsSomeAnd bytes (λ bytes. (opened_at t file).bytes ≡ Some bytes)
    found None some is = absurd cc
    found (Some bytes) some is = is

    by : (held : Option (List HeldFile)) → s.held ≡ held → IfSome held (λ files. IsSome (bytes_under name files)) → IfSome held Holds
    by None is some = tt
    by (Some files) is some = found (bytes_under name files) some (ap (λ (f : OpenedFile). f.bytes) (opened_last s t name file opens) ∙ ap (λ h. option_and_then (bytes_under name) h) is)

-- it stays that when more files are opened
pub named_still : (t u : FolderState) (more : List OpenedFile) (name : List ℕ) (file : ℕ) → u.opened ≡ t.opened ++ more → u.held ≡ t.held → IsNamed t name file → IsNamed u name file
named_still t u more name file opened held named = record {
  opened = subst (λ (o : List OpenedFile). file < length o) (sym opened) (omega (arith, named.opened, length-append t.opened more));
  told = subst (λ (h : Option (List HeldFile)). IfSome h (λ files. IsSomeAnd (bytes_under name files) (λ bytes. (opened_at u file).bytes ≡ Some bytes))) (sym held)
      (subst (λ (f : OpenedFile). IfSome t.held (λ files. IsSomeAnd (bytes_under name files) (λ bytes. f.bytes ≡ Some bytes))) (sym same) named.told);
}
  where
    same : opened_at u file ≡ opened_at t file
    same = ap (λ (o : List OpenedFile). get_or o file no_file) opened ∙ get_or_append_left t.opened more no_file file named.opened

-- a file that was looked for is the one of its name, or there is none
pub found_named : (s t : FolderState) (name : List ℕ) (found : Option ℕ) → Finds (Ok found) s t name → IsNamedIfAny t name found
found_named s t name (Some file) opens = opened_named s t name file opens
found_named s t name None misses = subst (λ (held : Option (List HeldFile)). IfSome held (λ files. bytes_under name files ≡ None)) (sym (ap (λ (x : FolderState). x.held) misses.state)) (by s.held refl)
  where
    by : (held : Option (List HeldFile)) → s.held ≡ held → IfSome held (λ files. bytes_under name files ≡ None)
    by None is = tt
    by (Some files) is = sym (ap (λ h. option_and_then (bytes_under name) h) is) ∙ misses.missing

-- the names of a pair's files that are held
abbrev Trio : List ℕ → List ℕ → List ℕ → Wanted
Trio table media info files = held_name table files ++ (held_name media files ++ (held_name info files ++ []))

abbrev Duo : List ℕ → List ℕ → Wanted
Duo table media files = held_name table files ++ held_name media files

grouped : (table media info : List ℕ) (files : List HeldFile) → Duo table media files ++ (held_name info files ++ []) ≡ Trio table media info files
grouped table media info files = append_assoc (held_name table files) (held_name media files) (held_name info files ++ [])

-- the table is opened, and there is no memory
pub memory_behind_table : (s t : FolderState) (table media info : List ℕ) (file : ℕ) → Opens s t table file → OpensFiles {A = Pair} (Err Stop.NoMemory) (Trio table media info) 3 ⊥ s t
memory_behind_table s t table media info file opens =
    wants_memory ℕ Pair file (held_name table) (λ files. held_name media files ++ (held_name info files ++ [])) 1 2 ⊥ s t (found_opens ℕ file ⊥ s t table file opens)

-- the `.media` file isn't opened
pub media_stops : (s t u : FolderState) (table media info : List ℕ) (file command : ℕ) (stop : Stop) → Opens s t table file → FindsFor command (Err stop) t u media → OpensFiles {A = Pair} (Err stop) (Trio table media info) 3 ⊥ s u
media_stops s t u table media info file command stop opens finds =
    stops_on ℕ Pair Pair file stop (held_name table) (λ files. held_name media files ++ (held_name info files ++ [])) 1 2 ⊥ s t u (found_opens ℕ file ⊥ s t table file opens)
    (stops_first Pair Pair stop (held_name media) (λ files. held_name info files ++ []) 1 1 ⊥ t u (needed_stops Pair command stop ⊥ t u media finds))

both_open : (s t u : FolderState) (table media : List ℕ) (file other : ℕ) → Opens s t table file → Opens t u media other → OpensFiles {A = Unit} (Ok tt) (Duo table media) 2 ⊥ s u
both_open s t u table media file other opens more =
    opens_on ℕ ℕ Unit file other tt (held_name table) (held_name media) 1 1 ⊥ s t u (found_opens ℕ file ⊥ s t table file opens) (found_opens ℕ other ⊥ t u media other more)

-- both are opened, and there is no memory
pub memory_behind_media : (s t u : FolderState) (table media info : List ℕ) (file other : ℕ) → Opens s t table file → Opens t u media other → OpensFiles {A = Pair} (Err Stop.NoMemory) (Trio table media info) 3 ⊥ s u
memory_behind_media s t u table media info file other opens more =
    stops_as Pair Pair Stop.NoMemory (λ files. Duo table media files ++ (held_name info files ++ [])) (Trio table media info) 3 3 ⊥ ⊥ s u (grouped table media info) (omega arith) (λ n. n)
    (wants_memory Unit Pair tt (Duo table media) (λ files. held_name info files ++ []) 2 1 ⊥ s u (both_open s t u table media file other opens more))

-- the `.info` file isn't opened, though there may be one
pub info_stops : (s t u v : FolderState) (table media info : List ℕ) (file other : ℕ) (stop : Stop) → Opens s t table file → Opens t u media other → Finds (Err stop) u v info → OpensFiles {A = Pair} (Err stop) (Trio table media info) 3 ⊥ s v
info_stops s t u v table media info file other stop opens more finds =
    stops_as Pair Pair stop (λ files. Duo table media files ++ (held_name info files ++ [])) (Trio table media info) 3 3 ⊥ ⊥ s v (grouped table media info) (omega arith) (λ n. n)
    (stops_on Unit Pair Pair tt stop (Duo table media) (λ files. held_name info files ++ []) 2 1 ⊥ s u v (both_open s t u table media file other opens more)
    (stops_first Pair Pair stop (held_name info) (λ files. []) 1 0 ⊥ u v (find_stops Pair stop ⊥ u v info finds)))

info_opens : (A : Type 0) (x : A) (u v : FolderState) (info : List ℕ) (found : Option ℕ) → Finds (Ok found) u v info → OpensFiles {A = A} (Ok x) (held_name info) 1 ⊥ u v
info_opens A x u v info (Some file) opens = found_opens A x ⊥ u v info file opens
info_opens A x u v info None misses = missed_opens A x u v info misses

-- the pair is opened
pub pair_opens : (s t u v : FolderState) (table media info : List ℕ) (file other : ℕ) (found : Option ℕ) (pair : Pair) → Opens s t table file → Opens t u media other → Finds (Ok found) u v info → OpensFiles {A = Pair} (Ok pair) (Trio table media info) 3 ⊥ s v
pair_opens s t u v table media info file other found pair opens more finds =
    opens_as Pair Pair pair pair (λ files. Duo table media files ++ held_name info files) (Trio table media info) 3 3 ⊥ ⊥ s v
    (λ files. ap (λ (l : List (List ℕ)). Duo table media files ++ l) (sym (append-nil (held_name info files))) ∙ grouped table media info files) (omega arith) (λ n. n)
    (opens_on Unit Unit Pair tt tt pair (Duo table media) (held_name info) 2 1 ⊥ s u v (both_open s t u table media file other opens more) (info_opens Unit tt u v info found finds))

-- and its files are those of the names
pub pair_named : (s t u v : FolderState) (table : List ℕ) (file other : ℕ) (found : Option ℕ) → Opens s t table file → Opens t u (beside table (codes ".media")) other → Finds (Ok found) u v (beside table (codes ".info"))
    → IsPair v table (record { table = file; media = other; info = found })
pair_named s t u v table file other found opens more finds =
    let media = beside table (codes ".media") in
    let two = found_opens Unit tt ⊥ t u media other more in
    let three = info_opens Unit tt u v (beside table (codes ".info")) found finds in
    let held_u : u.held ≡ t.held = ap (λ (x : FolderState). x.held) two.rest in
    let held_v : v.held ≡ u.held = ap (λ (x : FolderState). x.held) three.rest in
    record {
      table = named_still u v three.all.files table file three.all.opened held_v (named_still t u two.all.files table file two.all.opened held_u (opened_named s t table file opens));
      media = named_still u v three.all.files media other three.all.opened held_v (opened_named t u media other more);
      info = found_named u v (beside table (codes ".info")) found finds;
    }

-- a table that isn't opened: the pair comes to nothing, or why it wasn't
none_of : (s t : FolderState) (name : List ℕ) (command : ℕ) (stop : Stop) (outcome_by : List HeldFile → Outcome) → ((files : List HeldFile) → bytes_under name files ≡ None → outcome_by files ≡ Absent command)
    → FindsFor command (Err stop) s t name → IfSome s.held (λ files. GivesNone stop (outcome_by files))
none_of s t name command stop outcome_by absent finds = by stop s.held refl finds
  where
    each : (held : Option (List HeldFile)) (P : List HeldFile → Type 0) → ((files : List HeldFile) → P files) → IfSome held P
    each None P all = tt
    each (Some files) P all = all files

    by : (stop : Stop) (held : Option (List HeldFile)) → s.held ≡ held → FindsFor command (Err stop) s t name → IfSome held (λ files. GivesNone stop (outcome_by files))
    by (Stop.Bad bad) held is finds = absurd finds
    by (Stop.Missing number) None is finds = tt
    by (Stop.Missing number) (Some files) is finds =
        absent files (sym (ap (λ h. option_and_then (bytes_under name) h) is) ∙ finds.1.missing) ∙ ap Absent (sym finds.0)
    by Stop.ReadFault held is finds = each held (λ files. Unit) (λ files. tt)
    by Stop.NoMemory held is finds = each held (λ files. Unit) (λ files. tt)

no_table : (command : ℕ) (table media : Option (List ℕ)) (info : List ℕ) → table ≡ None → pair_outcome command table media info ≡ Absent command
no_table command table media info none = rw none refl

no_media : (command : ℕ) (table media : Option (List ℕ)) (info : List ℕ) → media ≡ None → pair_outcome command table media info ≡ Absent command
no_media command None media info none = refl
no_media command (Some table) media info none = rw none refl

pub table_gives : (s t : FolderState) (name : List ℕ) (command : ℕ) (stop : Stop) → FindsFor command (Err stop) s t name → IfSome s.held (λ files. GivesNone stop (pair_input files command name))
table_gives s t name command stop finds =
    none_of s t name command stop (λ files. pair_input files command name) (λ files none. no_table command (bytes_under name files) (bytes_under (beside name (codes ".media")) files) _ none) finds

-- the same of the `.media` file
pub media_gives : (s t u : FolderState) (name media : List ℕ) (command : ℕ) (stop : Stop) → t.held ≡ s.held → media ≡ beside name (codes ".media") → FindsFor command (Err stop) t u media
    → IfSome s.held (λ files. GivesNone stop (pair_input files command name))
media_gives s t u name media command stop held is finds =
    subst (λ (h : Option (List HeldFile)). IfSome h (λ files. GivesNone stop (pair_input files command name))) held
    (none_of t u media command stop (λ files. pair_input files command name)
    (λ files none. no_media command (bytes_under name files) (bytes_under (beside name (codes ".media")) files) _ (subst (λ m. bytes_under m files ≡ None) is none)) finds)

-- and of an `.info` file that could be there
pub info_gives : (s t u : FolderState) (info : List ℕ) (stop : Stop) (outcome_by : List HeldFile → Outcome) → Finds (Err stop) t u info → IfSome s.held (λ files. GivesNone stop (outcome_by files))
info_gives s t u info stop outcome_by finds = by stop s.held finds
  where
    each : (held : Option (List HeldFile)) (P : List HeldFile → Type 0) → ((files : List HeldFile) → P files) → IfSome held P
    each None P all = tt
    each (Some files) P all = all files

    by : (stop : Stop) (held : Option (List HeldFile)) → Finds (Err stop) t u info → IfSome held (λ files. GivesNone stop (outcome_by files))
    by (Stop.Bad bad) held finds = absurd finds
    by (Stop.Missing number) held finds = absurd finds
    by Stop.ReadFault held finds = each held (λ files. Unit) (λ files. tt)
    by Stop.NoMemory held finds = each held (λ files. Unit) (λ files. tt)

-- want of memory gives nothing
pub memory_gives : (s : FolderState) (outcome_by : List HeldFile → Outcome) → IfSome s.held (λ files. GivesNone Stop.NoMemory (outcome_by files))
memory_gives s outcome_by = by s.held
  where
    by : (held : Option (List HeldFile)) → IfSome held (λ files. GivesNone Stop.NoMemory (outcome_by files))
    by None = tt
    by (Some files) = tt

-- what is told of the files of a pair, by what is held under their names
abbrev ReadsPair : FolderState → Pair → Result PlacedMovie ReadFail → Type 0
ReadsPair t pair read =
    IfSome (opened_at t pair.table).bytes (λ rows. IfSome (opened_at t pair.media).bytes (λ bytes. IfSome (info_bytes t pair.info) (λ info. Reads pair.media bytes read (pair_movie rows bytes info))))

info_of : (t : FolderState) (name : List ℕ) (info : Option ℕ) (files : List HeldFile) → t.held ≡ Some files → IsNamedIfAny t name info → info_bytes t info ≡ Some (unwrap_or (bytes_under name files) [])
info_of t name None files is named = rw (subst (λ h. IfSome h (λ files. bytes_under name files ≡ None)) is named) refl
info_of t name (Some file) files is named = by (bytes_under name files) (subst (λ h. IfSome h (λ files. IsSomeAnd (bytes_under name files) (λ bytes. (opened_at t file).bytes ≡ Some bytes))) is named.told)
  where
    by : (bytes : Option (List ℕ)) → IsSomeAnd bytes (λ bytes. (opened_at t file).bytes ≡ Some bytes) → (opened_at t file).bytes ≡ Some (unwrap_or bytes [])
    by None told = absurd told
    by (Some bytes) told = told

-- of a folder that tells
pub pair_gives : (t : FolderState) (name : List ℕ) (pair : Pair) (command : ℕ) (read : Result PlacedMovie ReadFail) → IsPair t name pair → ReadsPair t pair read
    → IfSome t.held (λ files. Gives {A = PlacedMovie} (λ movie. movie) (answer command read) t (pair_input files command name))
pair_gives t name pair command read is reads = of_held t.held refl
  where
    by : (rows bytes : Option (List ℕ)) (info : List ℕ) → IsSomeAnd rows (λ b. (opened_at t pair.table).bytes ≡ Some b) → IsSomeAnd bytes (λ b. (opened_at t pair.media).bytes ≡ Some b) → info_bytes t pair.info ≡ Some info
        → Gives {A = PlacedMovie} (λ movie. movie) (answer command read) t (pair_outcome command rows bytes info)
    by None bytes info e f g = absurd e
    by (Some rows) None info e f g = absurd f
    by (Some rows) (Some bytes) info e f g =
        answer_gives t pair.media command bytes read (pair_movie rows bytes info) (bytes_at t pair.media bytes is.media.opened f)
        (subst (λ i. IfSome i (λ info. Reads pair.media bytes read (pair_movie rows bytes info))) g
        (subst (λ b. IfSome b (λ bytes. IfSome (info_bytes t pair.info) (λ info. Reads pair.media bytes read (pair_movie rows bytes info)))) f
        (subst (λ r. IfSome r (λ rows. IfSome (opened_at t pair.media).bytes (λ bytes. IfSome (info_bytes t pair.info) (λ info. Reads pair.media bytes read (pair_movie rows bytes info))))) e reads)))

    told : (name : List ℕ) (file : ℕ) (files : List HeldFile) → t.held ≡ Some files → IsNamed t name file → IsSomeAnd (bytes_under name files) (λ b. (opened_at t file).bytes ≡ Some b)
    told name file files is named = subst (λ h. IfSome h (λ files. IsSomeAnd (bytes_under name files) (λ b. (opened_at t file).bytes ≡ Some b))) is named.told

    of_held : (held : Option (List HeldFile)) → t.held ≡ held → IfSome held (λ files. Gives {A = PlacedMovie} (λ movie. movie) (answer command read) t (pair_input files command name))
    of_held None e = tt
    of_held (Some files) e =
        by (bytes_under name files) (bytes_under (beside name (codes ".media")) files) (unwrap_or (bytes_under (beside name (codes ".info")) files) [])
        (told name pair.table files e is.table) (told (beside name (codes ".media")) pair.media files e is.media) (info_of t (beside name (codes ".info")) pair.info files e is.info)

-- the movie of a pair lies in its `.media` file
pub units_lie : (file size : ℕ) (movie : PlacedMovie) → IsImported file size movie → LiesIn file size movie
unfolding placed_track
units_lie file size movie imported =
    subst (λ (m : PlacedMovie). LiesIn file size m) (sym imported.is) (
      recursion_from_All (IsStretch file size) (pieces_of file imported.units)
          (All-weaker (IsUnitPiece file size) (IsStretch file size) (λ piece p. record { names = p.names; inside = p.inside; bare = p.bare }) (pieces_of file imported.units) imported.parts.each_one),
      tt,
    )

-- the names of a pair are those of an input of that kind
pub pair_files : (A : Type 0) (read : Result A Stop) (kind : Option FileKind) (name : List ℕ) (s t : FolderState) → is_nhnt kind ≡ true
    → OpensFiles {A = A} read (held_names (files_with (Some FileKind.Nhnt) name)) 3 ⊥ s t → OpensFiles {A = A} read (held_names (files_with kind name)) 3 (is_nhnt kind ≡ false) s t
pair_files A read None name s t is h = absurd (true≢false (sym is))
pair_files A read (Some FileKind.Mp4) name s t is h = absurd (true≢false (sym is))
pair_files A read (Some FileKind.Avc) name s t is h = absurd (true≢false (sym is))
pair_files A read (Some FileKind.Adts) name s t is h = absurd (true≢false (sym is))
pair_files A read (Some FileKind.Nhnt) name s t is h =
    files_as A read (held_names (files_with (Some FileKind.Nhnt) name)) (held_names (files_with (Some FileKind.Nhnt) name)) 3 3 ⊥ (true ≡ false) s t (λ files. refl) (omega arith) (λ no. true≢false no) h

-- and so is what it comes to
pub pair_input_gives : (held : Option (List HeldFile)) (kind : Option FileKind) (name : List ℕ) (rate : Option Rate) (command : ℕ) (read : Result PlacedMovie Stop) (t : FolderState) → is_nhnt kind ≡ true
    → IfSome held (λ files. Gives {A = PlacedMovie} (λ movie. movie) read t (pair_input files command name))
    → IfSome held (λ files. Gives {A = PlacedMovie} (λ movie. movie) read t (input_as kind files command name rate))
pair_input_gives held None name rate command read t is gives = absurd (true≢false (sym is))
pair_input_gives held (Some FileKind.Mp4) name rate command read t is gives = absurd (true≢false (sym is))
pair_input_gives held (Some FileKind.Avc) name rate command read t is gives = absurd (true≢false (sym is))
pair_input_gives held (Some FileKind.Adts) name rate command read t is gives = absurd (true≢false (sym is))
pair_input_gives held (Some FileKind.Nhnt) name rate command read t is gives = gives

pub file_input_gives : (held : Option (List HeldFile)) (kind : Option FileKind) (name : List ℕ) (rate : Option Rate) (command : ℕ) (read : Result PlacedMovie Stop) (t : FolderState) → is_nhnt kind ≡ false
    → IfSome held (λ files. Gives {A = PlacedMovie} (λ movie. movie) read t (file_input files command name rate))
    → IfSome held (λ files. Gives {A = PlacedMovie} (λ movie. movie) read t (input_as kind files command name rate))
file_input_gives held None name rate command read t is gives = gives
file_input_gives held (Some FileKind.Mp4) name rate command read t is gives = gives
file_input_gives held (Some FileKind.Avc) name rate command read t is gives = gives
file_input_gives held (Some FileKind.Adts) name rate command read t is gives = gives
file_input_gives held (Some FileKind.Nhnt) name rate command read t is gives = absurd (true≢false is)

-- that of one file is the only one of any other kind
pub one_file : (A : Type 0) (read : Result A Stop) (kind : Option FileKind) (name : List ℕ) (s t : FolderState) → is_nhnt kind ≡ false
    → OpensFiles {A = A} read (held_name name) 1 Unit s t → OpensFiles {A = A} read (held_names (files_with kind name)) 3 (is_nhnt kind ≡ false) s t
one_file A read kind name s t is h = files_as A read (held_name name) (held_names (files_with kind name)) 1 3 Unit (is_nhnt kind ≡ false) s t (by kind is) (omega arith) (λ n. tt) h
  where
    by : (kind : Option FileKind) → is_nhnt kind ≡ false → (files : List HeldFile) → held_name name files ≡ held_names (files_with kind name) files
    by None is files = sym (append-nil (held_name name files))
    by (Some FileKind.Mp4) is files = sym (append-nil (held_name name files))
    by (Some FileKind.Avc) is files = sym (append-nil (held_name name files))
    by (Some FileKind.Adts) is files = sym (append-nil (held_name name files))
    by (Some FileKind.Nhnt) is files = absurd (true≢false is)
