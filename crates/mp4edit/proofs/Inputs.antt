-- What is read of an option's file is what its input comes to, where the folder tells.
use Rattle.std.proofs.Common.{◌≡◌, ◌≤◌, ℕ, List, [], ◌∷◌, Option, Some, None, Result, Ok, Err, length, take, is_some, refl, sym, subst, ap, ◌∙◌, arith, option_and_then, get_or, IfSome, IsSome, if◌then◌else◌}
use Rattle.std.proofs.lemmas.List.{append-nil}
use Rattle.mp_ports.specs.declared.fault.Bad.{Bad}
use Rattle.mp_ports.specs.declared.fault.ReadFail.{ReadFail}
use Rattle.mp_ports.specs.Folder.{FolderState, HeldFile, OpenedFile, Opens, bytes_under, held_under, opened_at}
use Rattle.mp_timeline.specs.Movie.{MovieRecord}
use Rattle.mp_movie.specs.Placed.{PlacedMovie}
use Rattle.mp_movie.specs.StandsFor.{Reads}
use Rattle.mp_words.specs.declared.job.Rate.{Rate}
use Rattle.mp_words.specs.declared.name.FileKind.{FileKind}
use Rattle.mp_words.specs.Names.{kind_of}
use Rattle.mp4edit.specs.declared.stop.Stop.{Stop}
use Rattle.mp4edit.specs.Names.{OpensAll, OpensFront, held_name, names}
use Rattle.mp4edit.specs.Outcome.{Absent, Outcome, file_input, input_outcome, outcome_of, read_as}
use Rattle.mp4edit.specs.Opening.{FindsFor}
use Rattle.mp4edit.specs.Reading.{Gives, GivesNone, of_read, told_files}
use Rattle.mp4edit.proofs.ToldFiles.{bytes_at, is_open, opened_last}

-- what was read, for the option of that number
abbrev pub answer : {A : Type 0} → ℕ → Result A ReadFail → Result A Stop
answer command (Ok value) = Ok value
answer command (Err fail) = Err (of_read command fail)

-- what was read of a file is what its bytes come to, where they are told
pub answer_gives : (t : FolderState) (file command : ℕ) (bytes : List ℕ) (read : Result PlacedMovie ReadFail) (wanted : Result MovieRecord Bad) → get_or (told_files t) file [] ≡ bytes
    → Reads file bytes read wanted → Gives {A = PlacedMovie} (λ movie. movie) (answer command read) t (outcome_of command wanted)
answer_gives t file command bytes (Ok movie) wanted is reads = ap (λ r. outcome_of command r) (reads (told_files t) is)
answer_gives t file command bytes (Err (ReadFail.Bad bad)) wanted is reads = ap (λ r. outcome_of command r) (reads (told_files t) is)
answer_gives t file command bytes (Err ReadFail.ReadFault) wanted is reads = tt
answer_gives t file command bytes (Err ReadFail.NoMemory) wanted is reads = tt

-- a failure gives the same at any state of the folder
pub fails_give : (t u : FolderState) (held : Option (List HeldFile)) (command : ℕ) (fail : ReadFail) (outcome_by : List HeldFile → Outcome)
    → IfSome held (λ files. Gives {A = PlacedMovie} (λ movie. movie) (Err (of_read command fail)) t (outcome_by files))
    → IfSome held (λ files. Gives {A = PlacedMovie} (λ movie. movie) (Err (of_read command fail)) u (outcome_by files))
fails_give t u held command (ReadFail.Bad bad) outcome_by gives = gives
fails_give t u held command ReadFail.ReadFault outcome_by gives = gives
fails_give t u held command ReadFail.NoMemory outcome_by gives = gives

-- the file is missing, and so has no movie; or why it wasn't opened
pub none_gives : (s t : FolderState) (name : List ℕ) (rate : Option Rate) (command : ℕ) (stop : Stop) → FindsFor command (Err stop) s t name → IfSome s.held (λ files. GivesNone stop (file_input files command name rate))
none_gives s t name rate command stop finds = by stop s.held refl finds
  where
    absent : (bytes : Option (List ℕ)) (number : ℕ) → number ≡ command → bytes ≡ None → input_outcome (kind_of name) rate command bytes ≡ Absent number
    absent bytes number same none = rw (none, same) refl

    each : (held : Option (List HeldFile)) (P : List HeldFile → Type 0) → ((files : List HeldFile) → P files) → IfSome held P
    each None P all = tt
    each (Some files) P all = all files

    by : (stop : Stop) (held : Option (List HeldFile)) → s.held ≡ held → FindsFor command (Err stop) s t name → IfSome held (λ files. GivesNone stop (file_input files command name rate))
    by (Stop.Bad bad) held is finds = absurd finds
    by (Stop.Missing number) None is finds = tt
    by (Stop.Missing number) (Some files) is finds = absent (bytes_under name files) number finds.0 (sym (ap (λ h. option_and_then (bytes_under name) h) is) ∙ finds.1.missing)
    by Stop.ReadFault held is finds = each held (λ files. Unit) (λ files. tt)
    by Stop.NoMemory held is finds = each held (λ files. Unit) (λ files. tt)

-- of a held file
of_bytes : (s t : FolderState) (name bytes : List ℕ) (kind : Option FileKind) (rate : Option Rate) (file command : ℕ) (read : Result PlacedMovie ReadFail) (opens : Opens s t name file)
    → IfSome (opened_at t file).bytes (λ bytes. Reads file bytes read (read_as kind rate bytes)) → held_under name s ≡ Some bytes
    → Gives {A = PlacedMovie} (λ movie. movie) (answer command read) t (outcome_of command (read_as kind rate bytes))
of_bytes s t name bytes kind rate file command read opens reads held =
    answer_gives t file command bytes read (read_as kind rate bytes) (bytes_at t file bytes (is_open s t name file opens) told)
    (subst (λ (b : Option (List ℕ)). IfSome b (λ bytes. Reads file bytes read (read_as kind rate bytes))) told reads)
  where
    told : (opened_at t file).bytes ≡ Some bytes
    told = ap (λ (f : OpenedFile). f.bytes) (opened_last s t name file opens) ∙ held

of_found : (s t : FolderState) (name : List ℕ) (kind : Option FileKind) (rate : Option Rate) (file command : ℕ) (read : Result PlacedMovie ReadFail) (found : Option (List ℕ)) → Opens s t name file
    → IfSome (opened_at t file).bytes (λ bytes. Reads file bytes read (read_as kind rate bytes)) → held_under name s ≡ found → IsSome found
    → Gives {A = PlacedMovie} (λ movie. movie) (answer command read) t (input_outcome kind rate command found)
of_found s t name kind rate file command read None opens reads held none = absurd cc
of_found s t name kind rate file command read (Some bytes) opens reads held some = of_bytes s t name bytes kind rate file command read opens reads held

-- of a folder that tells
read_gives : (s t : FolderState) (name : List ℕ) (rate : Option Rate) (file command : ℕ) (read : Result PlacedMovie ReadFail) → Opens s t name file
    → IfSome (opened_at t file).bytes (λ bytes. Reads file bytes read (read_as (kind_of name) rate bytes))
    → IfSome s.held (λ files. Gives {A = PlacedMovie} (λ movie. movie) (answer command read) t (file_input files command name rate))
read_gives s t name rate file command read opens reads = of_held s.held refl
  where
    of_held : (held : Option (List HeldFile)) → s.held ≡ held → IfSome held (λ files. Gives {A = PlacedMovie} (λ movie. movie) (answer command read) t (file_input files command name rate))
    of_held None e = tt
    of_held (Some files) e =
        of_found s t name (kind_of name) rate file command read (bytes_under name files) opens reads
        (ap (λ h. option_and_then (bytes_under name) h) e) (subst (λ h. IfSome h (λ files. IsSome (bytes_under name files))) e opens.found)

-- the movie that was read
pub movie_gives : (s t u : FolderState) (name : List ℕ) (rate : Option Rate) (file command : ℕ) (movie : PlacedMovie) → Opens s t name file → u ≡ t
    → IfSome (opened_at t file).bytes (λ bytes. Reads file bytes (Ok movie) (read_as (kind_of name) rate bytes))
    → IfSome s.held (λ files. Gives {A = PlacedMovie} (λ movie. movie) (Ok movie) u (file_input files command name rate))
movie_gives s t u name rate file command movie opens same reads =
    subst (λ (x : FolderState). IfSome s.held (λ files. Gives {A = PlacedMovie} (λ movie. movie) (Ok movie) x (file_input files command name rate))) (sym same)
    (read_gives s t name rate file command (Ok movie) opens reads)

-- or why there is none: what a refusal gives speaks of no folder
pub fail_gives : (s t u : FolderState) (name : List ℕ) (rate : Option Rate) (kind : Option FileKind) (file command : ℕ) (fail : ReadFail) → Opens s t name file → kind ≡ kind_of name
    → IfSome (opened_at t file).bytes (λ bytes. Reads file bytes (Err fail) (read_as kind rate bytes))
    → IfSome s.held (λ files. Gives {A = PlacedMovie} (λ movie. movie) (Err (of_read command fail)) u (file_input files command name rate))
fail_gives s t u name rate kind file command fail opens is reads =
    fails_give t u s.held command fail (λ files. file_input files command name rate)
    (read_gives s t name rate file command (Err fail) opens (subst (λ k. IfSome (opened_at t file).bytes (λ bytes. Reads file bytes (Err fail) (read_as k rate bytes))) is reads))

-- the name of the file that was opened is the wanted one
pub opens_all : (s t u : FolderState) (name : List ℕ) (file : ℕ) → Opens s t name file → u.opened ≡ t.opened → OpensAll (held_name name) 1 s u
opens_all s t u name file opens same = record {
  files = record { name = name; size = opens.size; bytes = held_under name s } ∷ [];
  opened = same ∙ ap (λ (x : FolderState). x.opened) opens.state;
  few = omega arith;
  told = of_held s.held opens.found;
}
  where
    found : (bytes : Option (List ℕ)) → IsSome bytes → name ∷ [] ≡ (if is_some bytes then name ∷ [] else [])
    found None none = absurd cc
    found (Some bytes) some = refl

    of_held : (held : Option (List HeldFile)) → IfSome held (λ files. IsSome (bytes_under name files)) → IfSome held (λ files. name ∷ [] ≡ held_name name files)
    of_held None h = tt
    of_held (Some files) h = found (bytes_under name files) h

-- nothing was opened
pub opens_none : (wanted : List HeldFile → List (List ℕ)) (most : ℕ) (s u : FolderState) → u.opened ≡ s.opened → OpensFront wanted most s u
opens_none wanted most s u same = record {
  files = [];
  opened = same ∙ sym (append-nil s.opened);
  few = omega arith;
  told = of_held s.held;
}
  where
    of_held : (held : Option (List HeldFile)) → IfSome held (λ held. (part : ℕ) × (part ≤ length (wanted held)) × (names [] ≡ take part (wanted held)))
    of_held None = tt
    of_held (Some files) = (0, omega arith, refl)
