-- Names that are opened one after another.
use Rattle.std.proofs.Common.{◌≡◌, ℕ, ◌+◌, ◌≤◌, List, [], ◌∷◌, ◌++◌, take, drop, get_or, add-one, zero, suc, ◌<◌, length, IfSome, Option, Some, None, refl, sym, ap, ◌∙◌, arith, subst}
use Rattle.std.proofs.lemmas.List.{append_assoc, append-nil, map-append, length-append, take-append-le}
use Rattle.std.proofs.lemmas.List.Concat.{flat_map-append}
use Rattle.std.proofs.Math.Seq.{take-append-add}
use Rattle.mp_ports.specs.Folder.{FolderState, HeldFile, OpenedFile}
use Rattle.mp_words.specs.Jobs.{CommandRecord}
use Rattle.mp4edit.specs.Names.{OpensAll, OpensFront, Wanted, names, names_of, reads}

-- a fact of what is told
told_by : (held : Option (List HeldFile)) (P Q : List HeldFile → Type 0) → ((files : List HeldFile) → P files → Q files) → IfSome held P → IfSome held Q
told_by None P Q f h = h
told_by (Some files) P Q f h = f files h

told_by_two : (held : Option (List HeldFile)) (P Q R : List HeldFile → Type 0) → ((files : List HeldFile) → P files → Q files → R files) → IfSome held P → IfSome held Q → IfSome held R
told_by_two None P Q R f h k = h
told_by_two (Some files) P Q R f h k = f files h k

take_whole : (xs : List (List ℕ)) → take (length xs) xs ≡ xs
take_whole [] = refl
take_whole (x ∷ xs) = ap (λ (l : List (List ℕ)). x ∷ l) (take_whole xs)

pub front_of_all : (wanted : Wanted) (old new : FolderState) (most : ℕ) → OpensAll wanted most old new → OpensFront wanted most old new
front_of_all wanted old new most h = record {
  files = h.files;
  opened = h.opened;
  few = h.few;
  told = told_by old.held (λ held. names h.files ≡ wanted held) (λ held. (part : ℕ) × (part ≤ length (wanted held)) × (names h.files ≡ take part (wanted held)))
      (λ held e. (length (wanted held), omega arith, e ∙ sym (take_whole (wanted held)))) h.told;
}

pub front_more : (wanted more : Wanted) (old new : FolderState) (most later : ℕ) → OpensFront wanted most old new → OpensFront (λ held. wanted held ++ more held) (most + later) old new
front_more wanted more old new most later h = record {
  files = h.files;
  opened = h.opened;
  few = omega (arith, h.few);
  told = told_by old.held (λ held. (part : ℕ) × (part ≤ length (wanted held)) × (names h.files ≡ take part (wanted held)))
      (λ held. (part : ℕ) × (part ≤ length (wanted held ++ more held)) × (names h.files ≡ take part (wanted held ++ more held)))
      (λ held e. (e.0, omega (arith, e.1, length-append (wanted held) (more held)), e.2 ∙ sym (take-append-le e.0 (wanted held) (more held) e.1))) h.told;
}

joined : (old mid new : FolderState) (one two : List OpenedFile) → mid.opened ≡ old.opened ++ one → new.opened ≡ mid.opened ++ two → new.opened ≡ old.opened ++ (one ++ two)
joined old mid new one two e f = f ∙ (ap (λ (l : List OpenedFile). l ++ two) e ∙ append_assoc old.opened one two)

pub all_then_front : (wanted more : Wanted) (old mid new : FolderState) (most later : ℕ) → mid.held ≡ old.held → OpensAll wanted most old mid → OpensFront more later mid new
    → OpensFront (λ held. wanted held ++ more held) (most + later) old new
all_then_front wanted more old mid new most later same a f = record {
  files = a.files ++ f.files;
  opened = joined old mid new a.files f.files a.opened f.opened;
  few = omega (arith, a.few, f.few, length-append a.files f.files);
  told = told_by_two old.held (λ held. names a.files ≡ wanted held) (λ held. (part : ℕ) × (part ≤ length (more held)) × (names f.files ≡ take part (more held)))
      (λ held. (part : ℕ) × (part ≤ length (wanted held ++ more held)) × (names (a.files ++ f.files) ≡ take part (wanted held ++ more held)))
      (λ held e k. (
        length (wanted held) + k.0,
        omega (arith, k.1, length-append (wanted held) (more held)),
        map-append (λ (file : OpenedFile). file.name) a.files f.files ∙ (ap (λ (l : List (List ℕ)). l ++ names f.files) e ∙ (ap (λ (l : List (List ℕ)). wanted held ++ l) k.2 ∙ sym (take-append-add (wanted held) (more held) k.0))),
      ))
      a.told (subst (λ (held : Option (List HeldFile)). IfSome held (λ held. (part : ℕ) × (part ≤ length (more held)) × (names f.files ≡ take part (more held)))) same f.told);
}

pub all_then_all : (wanted more : Wanted) (old mid new : FolderState) (most later : ℕ) → mid.held ≡ old.held → OpensAll wanted most old mid → OpensAll more later mid new
    → OpensAll (λ held. wanted held ++ more held) (most + later) old new
all_then_all wanted more old mid new most later same a b = record {
  files = a.files ++ b.files;
  opened = joined old mid new a.files b.files a.opened b.opened;
  few = omega (arith, a.few, b.few, length-append a.files b.files);
  told = told_by_two old.held (λ held. names a.files ≡ wanted held) (λ held. names b.files ≡ more held) (λ held. names (a.files ++ b.files) ≡ wanted held ++ more held)
      (λ held e k. map-append (λ (file : OpenedFile). file.name) a.files b.files ∙ (ap (λ (l : List (List ℕ)). l ++ names b.files) e ∙ ap (λ (l : List (List ℕ)). wanted held ++ l) k))
      a.told (subst (λ (held : Option (List HeldFile)). IfSome held (λ held. names b.files ≡ more held)) same b.told);
}

-- the same names, said in another way
pub front_as : (wanted other : Wanted) (old new : FolderState) (most limit : ℕ) → ((files : List HeldFile) → wanted files ≡ other files) → most ≤ limit → OpensFront wanted most old new → OpensFront other limit old new
front_as wanted other old new most limit same le h = record {
  files = h.files;
  opened = h.opened;
  few = omega (arith, h.few, le);
  told = told_by old.held (λ held. (part : ℕ) × (part ≤ length (wanted held)) × (names h.files ≡ take part (wanted held)))
      (λ held. (part : ℕ) × (part ≤ length (other held)) × (names h.files ≡ take part (other held)))
      (λ held e. subst (λ (l : List (List ℕ)). (part : ℕ) × (part ≤ length l) × (names h.files ≡ take part l)) (same held) e) h.told;
}

pub all_as : (wanted other : Wanted) (old new : FolderState) (most limit : ℕ) → ((files : List HeldFile) → wanted files ≡ other files) → most ≤ limit → OpensAll wanted most old new → OpensAll other limit old new
all_as wanted other old new most limit same le h = record {
  files = h.files;
  opened = h.opened;
  few = omega (arith, h.few, le);
  told = told_by old.held (λ held. names h.files ≡ wanted held) (λ held. names h.files ≡ other held) (λ held e. e ∙ same held) h.told;
}

command_at : (commands : List CommandRecord) (done : ℕ) (command : CommandRecord) → done < length commands → command ≡ get_or commands done command → commands ≡ take done commands ++ (command ∷ drop (done + 1) commands)
command_at commands done command lt is = rw (add-one done) (parts commands done lt is)
  where
    parts : (commands : List CommandRecord) (done : ℕ) → done < length commands → command ≡ get_or commands done command → commands ≡ take done commands ++ (command ∷ drop (suc done) commands)
    parts [] done lt is = absurd (omega arith)
    parts (first ∷ commands) zero lt is = rw is refl
    parts (first ∷ commands) (suc done) lt is = ap (λ (l : List CommandRecord). first ∷ l) (parts commands done (omega arith) is)

reads-append : (files : List HeldFile) (commands others : List CommandRecord) → reads (commands ++ others) files ≡ reads commands files ++ reads others files
reads-append files commands others = flat_map-append (λ (command : CommandRecord). names_of command.what files) commands others

-- so far, this command, and the rest
pub reads-at : (files : List HeldFile) (commands : List CommandRecord) (done : ℕ) (command : CommandRecord) → done < length commands → command ≡ get_or commands done command
    → (reads (take done commands) files ++ names_of command.what files) ++ reads (drop (done + 1) commands) files ≡ reads commands files
reads-at files commands done command lt is =
    append_assoc (reads (take done commands) files) (names_of command.what files) (reads (drop (done + 1) commands) files)
    ∙ sym (ap (λ (l : List CommandRecord). reads l files) (command_at commands done command lt is) ∙ reads-append files (take done commands) (command ∷ drop (done + 1) commands))

pub reads-next : (files : List HeldFile) (commands : List CommandRecord) (done : ℕ) (command : CommandRecord) → done < length commands → command ≡ get_or commands done command
    → reads (take done commands) files ++ names_of command.what files ≡ reads (take (done + 1) commands) files
reads-next files commands done command lt is = sym (ap (λ (l : List CommandRecord). reads l files) (taken commands done lt is) ∙ (reads-append files (take done commands) (command ∷ []) ∙ ap (λ (l : List (List ℕ)). reads (take done commands) files ++ l) (append-nil (names_of command.what files))))
  where
    taken : (commands : List CommandRecord) (done : ℕ) → done < length commands → command ≡ get_or commands done command → take (done + 1) commands ≡ take done commands ++ command ∷ []
    taken commands done lt is = rw (add-one done) (by-place commands done lt is)
      where
        by-place : (commands : List CommandRecord) (done : ℕ) → done < length commands → command ≡ get_or commands done command → take (suc done) commands ≡ take done commands ++ command ∷ []
        by-place [] done lt is = absurd (omega arith)
        by-place (first ∷ commands) zero lt is = rw is refl
        by-place (first ∷ commands) (suc done) lt is = ap (λ (l : List CommandRecord). first ∷ l) (by-place commands done (omega arith) is)

pub take_all_commands : (commands : List CommandRecord) (n : ℕ) → length commands ≤ n → take n commands ≡ commands
take_all_commands [] zero le = refl
take_all_commands [] (suc n) le = refl
take_all_commands (command ∷ commands) zero le = absurd (omega arith)
take_all_commands (command ∷ commands) (suc n) le = ap (λ (l : List CommandRecord). command ∷ l) (take_all_commands commands n (omega arith))
