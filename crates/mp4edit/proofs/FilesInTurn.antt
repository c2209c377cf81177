-- Calls that open files, one behind another.
use Rattle.std.proofs.Common.{◌≡◌, ◌+◌, ◌≤◌, ◌⊎◌, ℕ, List, [], ◌∷◌, ◌++◌, is_some, if◌then◌else◌, option_and_then, Option, Some, None, Result, Ok, Err, IfSome, inl, inr, refl, sym, subst, ap, ◌∙◌, arith}
use Rattle.std.proofs.lemmas.List.{append-nil}
use Rattle.mp_ports.specs.declared.fault.Fail.{Fail}
use Rattle.mp_ports.specs.declared.fault.ReadFail.{ReadFail}
use Rattle.mp_ports.specs.Count.{Rose, after_fault}
use Rattle.mp_ports.specs.Folder.{FailsToRead, FolderState, HeldFile, Misses, OpenedFile, Opens, bytes_under}
use Rattle.mp_ports.specs.Reading.{OnlyReads}
use Rattle.mp4edit.specs.declared.stop.Stop.{Stop}
use Rattle.mp4edit.specs.Names.{OpensAll, Wanted, held_name, names}
use Rattle.mp4edit.specs.Opening.{Finds, FindsFor}
use Rattle.mp4edit.specs.Reading.{AllTold, CountsMisses, KeepsMisses, KeepsRest, OpensFiles, named, of_fail}
use Rattle.mp4edit.proofs.Inputs.{answer, opens_all, opens_none}
use Rattle.mp4edit.proofs.NamesInTurn.{all_as, all_then_all, all_then_front, front_as, front_more, front_of_all}
use Rattle.mp4edit.proofs.ToldFiles.{last_told}

-- counts that stay or rise, in turn
rose_twice : (a b c : ℕ) → Rose a b → Rose b c → Rose a c
rose_twice a b c h k = omega (arith, h, k)

misses_in_turn : (needed : Type 0) (s t u : FolderState) → KeepsMisses needed s t → KeepsMisses needed t u → KeepsMisses needed s u
misses_in_turn needed s t u h k = (by h.0 k.0, λ n. k.1 n ∙ h.1 n)
  where
    by : (t.misses ≡ s.misses) ⊎ Rose s.misses t.misses → (u.misses ≡ t.misses) ⊎ Rose t.misses u.misses → (u.misses ≡ s.misses) ⊎ Rose s.misses u.misses
    by (inl e) (inl f) = inl (f ∙ e)
    by (inl e) (inr rose) = inr (subst (λ n. Rose n u.misses) e rose)
    by (inr rose) (inl f) = inr (subst (λ n. Rose s.misses n) (sym f) rose)
    by (inr rose) (inr more) = inr (rose_twice s.misses t.misses u.misses rose more)

misses_then_rise : (needed : Type 0) (s t u : FolderState) → KeepsMisses needed s t → Rose t.misses u.misses → Rose s.misses u.misses
misses_then_rise needed s t u h rose = by h.0
  where
    by : (t.misses ≡ s.misses) ⊎ Rose s.misses t.misses → Rose s.misses u.misses
    by (inl e) = subst (λ n. Rose n u.misses) e rose
    by (inr before) = rose_twice s.misses t.misses u.misses before rose

pub same_misses : (needed : Type 0) (s t : FolderState) → t.misses ≡ s.misses → KeepsMisses needed s t
same_misses needed s t is = (inl is, λ _. is)

-- and where nothing further is missed
pub misses_still : (needed : Type 0) (s t u : FolderState) → KeepsMisses needed s t → u.misses ≡ t.misses → KeepsMisses needed s u
misses_still needed s t u h is = misses_in_turn needed s t u h (same_misses needed t u is)

-- what is told stays told
told_in_turn : (s t u : FolderState) → t.held ≡ s.held → IfSome s.held (λ _. AllTold s → AllTold t) → IfSome t.held (λ _. AllTold t → AllTold u) → IfSome s.held (λ _. AllTold s → AllTold u)
told_in_turn s t u same h k = by s.held h (subst (λ (held : Option (List HeldFile)). IfSome held (λ _. AllTold t → AllTold u)) same k)
  where
    by : (held : Option (List HeldFile)) → IfSome held (λ _. AllTold s → AllTold t) → IfSome held (λ _. AllTold t → AllTold u) → IfSome held (λ _. AllTold s → AllTold u)
    by None h k = tt
    by (Some files) h k = λ told. k (h told)

told_same : (s t : FolderState) → t.opened ≡ s.opened → IfSome s.held (λ _. AllTold s → AllTold t)
told_same s t same = by s.held
  where
    by : (held : Option (List HeldFile)) → IfSome held (λ _. AllTold s → AllTold t)
    by None = tt
    by (Some files) = λ told. subst (λ (opened : List OpenedFile). AllTold (record s { opened = opened })) (sym same) told

-- a call behind another
pub opens_on : (A B C : Type 0) (x : A) (y : B) (z : C) (wanted more : Wanted) (most later : ℕ) (needed : Type 0) (s t u : FolderState)
    → OpensFiles {A = A} (Ok x) wanted most needed s t → OpensFiles {A = B} (Ok y) more later needed t u
    → OpensFiles {A = C} (Ok z) (λ held. wanted held ++ more held) (most + later) needed s u
opens_on A B C x y z wanted more most later needed s t u h k =
    let same : t.held ≡ s.held = ap (λ (x : FolderState). x.held) h.rest in
    let all = all_then_all wanted more s t u most later same h.all k.all in
    record {
      names = front_of_all (λ held. wanted held ++ more held) s u (most + later) all;
      all = all;
      rest = k.rest ∙ ap (λ (x : FolderState). record x { opened = u.opened; misses = u.misses }) h.rest;
      misses = misses_in_turn needed s t u h.misses k.misses;
      told = told_in_turn s t u same h.told k.told;
    }

-- one that stops
pub stops_on : (A B C : Type 0) (x : A) (stop : Stop) (wanted more : Wanted) (most later : ℕ) (needed : Type 0) (s t u : FolderState)
    → OpensFiles {A = A} (Ok x) wanted most needed s t → OpensFiles {A = B} (Err stop) more later needed t u
    → OpensFiles {A = C} (Err stop) (λ held. wanted held ++ more held) (most + later) needed s u
stops_on A B C x stop wanted more most later needed s t u h k =
    let same : t.held ≡ s.held = ap (λ (x : FolderState). x.held) h.rest in
    record {
      names = all_then_front wanted more s t u most later same h.all k.names;
      all = tt;
      rest = rest stop k.rest;
      misses = misses stop k.misses;
      told = told_in_turn s t u same h.told k.told;
    }
  where
    plain : u ≡ record t { opened = u.opened; misses = u.misses } → u ≡ record s { opened = u.opened; misses = u.misses }
    plain is = is ∙ ap (λ (x : FolderState). record x { opened = u.opened; misses = u.misses }) h.rest

    rest : (stop : Stop) → KeepsRest {A = B} (Err stop) t u → KeepsRest {A = C} (Err stop) s u
    rest (Stop.Missing command) is = plain is
    rest (Stop.Bad bad) is = plain is
    rest Stop.ReadFault is = is ∙ ap (λ (x : FolderState). record x { opened = u.opened; misses = u.misses; read_faults = after_fault x.read_faults }) h.rest
    rest Stop.NoMemory is = plain is

    misses : (stop : Stop) → CountsMisses {A = B} needed (Err stop) t u → CountsMisses {A = C} needed (Err stop) s u
    misses (Stop.Missing command) rose = misses_then_rise needed s t u h.misses rose
    misses (Stop.Bad bad) k = misses_in_turn needed s t u h.misses k
    misses Stop.ReadFault k = misses_in_turn needed s t u h.misses k
    misses Stop.NoMemory k = misses_in_turn needed s t u h.misses k

-- the same, said in another way
pub opens_as : (A B : Type 0) (x : A) (y : B) (wanted other : Wanted) (most limit : ℕ) (needed more : Type 0) (s t : FolderState)
    → ((files : List HeldFile) → wanted files ≡ other files) → most ≤ limit → (more → needed)
    → OpensFiles {A = A} (Ok x) wanted most needed s t → OpensFiles {A = B} (Ok y) other limit more s t
opens_as A B x y wanted other most limit needed more s t same le weaker h = record {
  names = front_as wanted other s t most limit same le h.names;
  all = all_as wanted other s t most limit same le h.all;
  rest = h.rest;
  misses = (h.misses.0, λ n. h.misses.1 (weaker n));
  told = h.told;
}

pub stops_as : (A B : Type 0) (stop : Stop) (wanted other : Wanted) (most limit : ℕ) (needed more : Type 0) (s t : FolderState)
    → ((files : List HeldFile) → wanted files ≡ other files) → most ≤ limit → (more → needed)
    → OpensFiles {A = A} (Err stop) wanted most needed s t → OpensFiles {A = B} (Err stop) other limit more s t
stops_as A B stop wanted other most limit needed more s t same le weaker h = record {
  names = front_as wanted other s t most limit same le h.names;
  all = tt;
  rest = rest stop h.rest;
  misses = misses stop h.misses;
  told = h.told;
}
  where
    rest : (stop : Stop) → KeepsRest {A = A} (Err stop) s t → KeepsRest {A = B} (Err stop) s t
    rest (Stop.Missing command) is = is
    rest (Stop.Bad bad) is = is
    rest Stop.ReadFault is = is
    rest Stop.NoMemory is = is

    misses : (stop : Stop) → CountsMisses {A = A} needed (Err stop) s t → CountsMisses {A = B} more (Err stop) s t
    misses (Stop.Missing command) rose = rose
    misses (Stop.Bad bad) k = (k.0, λ n. k.1 (weaker n))
    misses Stop.ReadFault k = (k.0, λ n. k.1 (weaker n))
    misses Stop.NoMemory k = (k.0, λ n. k.1 (weaker n))

-- it stops before the rest is asked for
pub stops_first : (A B : Type 0) (stop : Stop) (wanted more : Wanted) (most later : ℕ) (needed : Type 0) (s t : FolderState)
    → OpensFiles {A = A} (Err stop) wanted most needed s t → OpensFiles {A = B} (Err stop) (λ held. wanted held ++ more held) (most + later) needed s t
stops_first A B stop wanted more most later needed s t h =
    let g = stops_as A B stop wanted wanted most most needed needed s t (λ files. refl) (omega arith) (λ n. n) h in
    record { names = front_more wanted more s t most later h.names; all = tt; rest = g.rest; misses = g.misses; told = g.told }

-- want of memory, behind a call that went on
pub wants_memory : (A B : Type 0) (x : A) (wanted more : Wanted) (most later : ℕ) (needed : Type 0) (s t : FolderState)
    → OpensFiles {A = A} (Ok x) wanted most needed s t → OpensFiles {A = B} (Err Stop.NoMemory) (λ held. wanted held ++ more held) (most + later) needed s t
wants_memory A B x wanted more most later needed s t h = record {
  names = front_more wanted more s t most later h.names;
  all = tt;
  rest = h.rest;
  misses = h.misses;
  told = h.told;
}

-- nothing was opened or missed, and of the other counts only that of the cause rose
stays : (A : Type 0) (stop : Stop) (wanted : Wanted) (most : ℕ) (needed : Type 0) (s t : FolderState) → t.opened ≡ s.opened → KeepsRest {A = A} (Err stop) s t → CountsMisses {A = A} needed (Err stop) s t
    → OpensFiles {A = A} (Err stop) wanted most needed s t
stays A stop wanted most needed s t same rest misses = record {
  names = opens_none wanted most s t same;
  all = tt;
  rest = rest;
  misses = misses;
  told = told_same s t same;
}

-- a file was opened
pub found_opens : (A : Type 0) (x : A) (needed : Type 0) (s t : FolderState) (name : List ℕ) (file : ℕ) → Opens s t name file → OpensFiles {A = A} (Ok x) (held_name name) 1 needed s t
found_opens A x needed s t name file opens =
    let all = opens_all s t t name file opens refl in
    record {
      names = front_of_all (held_name name) s t 1 all;
      all = all;
      rest = subst (λ (x : FolderState). x ≡ record s { opened = x.opened; misses = x.misses }) (sym opens.state) refl;
      misses = same_misses needed s t (ap (λ (x : FolderState). x.misses) opens.state);
      told = last_told s t name file opens;
    }

-- a file was missing, and may be
pub missed_opens : (A : Type 0) (x : A) (s t : FolderState) (name : List ℕ) → Misses s t name → OpensFiles {A = A} (Ok x) (held_name name) 1 ⊥ s t
missed_opens A x s t name misses =
    let same : t.opened ≡ s.opened = ap (λ (x : FolderState). x.opened) misses.state in
    record {
      names = opens_none (held_name name) 1 s t same;
      all = record { files = []; opened = same ∙ sym (append-nil s.opened); few = omega arith; told = none s.held misses.missing };
      rest = subst (λ (x : FolderState). x ≡ record s { opened = x.opened; misses = x.misses }) (sym misses.state) refl;
      misses = (inr (subst (λ (x : FolderState). Rose s.misses x.misses) (sym misses.state) (omega arith)), λ n. absurd n);
      told = told_same s t same;
    }
  where
    not_held : (bytes : Option (List ℕ)) → bytes ≡ None → [] ≡ (if is_some bytes then name ∷ [] else [])
    not_held bytes is = rw is refl

    none : (held : Option (List HeldFile)) → option_and_then (bytes_under name) held ≡ None → IfSome held (λ files. names [] ≡ held_name name files)
    none None is = tt
    none (Some files) is = not_held (bytes_under name files) is

-- a file wasn't opened that must be
pub needed_stops : (A : Type 0) (command : ℕ) (stop : Stop) (needed : Type 0) (s t : FolderState) (name : List ℕ) → FindsFor command (Err stop) s t name → OpensFiles {A = A} (Err stop) (held_name name) 1 needed s t
needed_stops A command (Stop.Bad bad) needed s t name finds = absurd finds
needed_stops A command (Stop.Missing number) needed s t name finds =
    let state = finds.1.state in
    stays A (Stop.Missing number) (held_name name) 1 needed s t (ap (λ (x : FolderState). x.opened) state)
    (subst (λ (x : FolderState). x ≡ record s { opened = x.opened; misses = x.misses }) (sym state) refl)
    (subst (λ (x : FolderState). Rose s.misses x.misses) (sym state) (omega arith))
needed_stops A command Stop.ReadFault needed s t name fails =
    stays A Stop.ReadFault (held_name name) 1 needed s t (ap (λ (x : FolderState). x.opened) fails)
    (subst (λ (x : FolderState). x ≡ record s { opened = x.opened; misses = x.misses; read_faults = after_fault s.read_faults }) (sym fails) refl)
    (same_misses needed s t (ap (λ (x : FolderState). x.misses) fails))
needed_stops A command Stop.NoMemory needed s t name same =
    stays A Stop.NoMemory (held_name name) 1 needed s t (ap (λ (x : FolderState). x.opened) same)
    (subst (λ (x : FolderState). x ≡ record s { opened = x.opened; misses = x.misses }) (sym same) refl)
    (same_misses needed s t (ap (λ (x : FolderState). x.misses) same))

-- nor one that may be missing
pub find_stops : (A : Type 0) (stop : Stop) (needed : Type 0) (s t : FolderState) (name : List ℕ) → Finds (Err stop) s t name → OpensFiles {A = A} (Err stop) (held_name name) 1 needed s t
find_stops A (Stop.Bad bad) needed s t name finds = absurd finds
find_stops A (Stop.Missing number) needed s t name finds = absurd finds
find_stops A Stop.ReadFault needed s t name fails = needed_stops A 0 Stop.ReadFault needed s t name fails
find_stops A Stop.NoMemory needed s t name same = needed_stops A 0 Stop.NoMemory needed s t name same

-- the files that are opened are read
pub then_reads : (A B : Type 0) (x : A) (command : ℕ) (read : Result B ReadFail) (wanted : Wanted) (most : ℕ) (needed : Type 0) (s t u : FolderState)
    → OpensFiles {A = A} (Ok x) wanted most needed s t → OnlyReads read t u → OpensFiles {A = B} (answer command read) wanted most needed s u
then_reads A B x command read wanted most needed s t u h = by read
  where
    unchanged : (stop : Stop) → u ≡ t → KeepsRest {A = B} (Err stop) s t → CountsMisses {A = B} needed (Err stop) s t → OpensFiles {A = B} (Err stop) wanted most needed s u
    unchanged stop same rest misses = subst (λ (x : FolderState). OpensFiles {A = B} (Err stop) wanted most needed s x) (sym same)
        (record { names = h.names; all = tt; rest = rest; misses = misses; told = h.told })

    failed : FailsToRead t u → OpensFiles {A = B} (Err Stop.ReadFault) wanted most needed s u
    failed fails = subst (λ (x : FolderState). OpensFiles {A = B} (Err Stop.ReadFault) wanted most needed s x) (sym fails) (record {
      names = record { files = h.names.files; opened = h.names.opened; few = h.names.few; told = h.names.told };
      all = tt;
      rest = ap (λ (x : FolderState). record x { read_faults = after_fault x.read_faults }) h.rest;
      misses = h.misses;
      told = h.told;
    })

    by : (read : Result B ReadFail) → OnlyReads read t u → OpensFiles {A = B} (answer command read) wanted most needed s u
    by (Ok value) same = subst (λ (x : FolderState). OpensFiles {A = B} (Ok value) wanted most needed s x) (sym same)
        (record { names = h.names; all = h.all; rest = h.rest; misses = h.misses; told = h.told })
    by (Err (ReadFail.Bad bad)) same = unchanged (Stop.Bad (named command bad)) same h.rest h.misses
    by (Err ReadFail.ReadFault) fails = failed fails
    by (Err ReadFail.NoMemory) same = unchanged Stop.NoMemory same h.rest h.misses

-- the same, said in another way, whatever was answered
pub files_as : (A : Type 0) (answered : Result A Stop) (wanted other : Wanted) (most limit : ℕ) (needed more : Type 0) (s t : FolderState)
    → ((files : List HeldFile) → wanted files ≡ other files) → most ≤ limit → (more → needed)
    → OpensFiles {A = A} answered wanted most needed s t → OpensFiles {A = A} answered other limit more s t
files_as A (Ok x) wanted other most limit needed more s t same le weaker h = opens_as A A x x wanted other most limit needed more s t same le weaker h
files_as A (Err stop) wanted other most limit needed more s t same le weaker h = stops_as A A stop wanted other most limit needed more s t same le weaker h

-- what was read is refused by a command, or there is no memory for it
pub then_fails : (A B : Type 0) (x : A) (command : ℕ) (fail : Fail) (wanted : Wanted) (most : ℕ) (needed : Type 0) (s t : FolderState)
    → OpensFiles {A = A} (Ok x) wanted most needed s t → OpensFiles {A = B} (Err (of_fail command fail)) wanted most needed s t
then_fails A B x command (Fail.Bad bad) wanted most needed s t h = record { names = h.names; all = tt; rest = h.rest; misses = h.misses; told = h.told }
then_fails A B x command Fail.NoMemory wanted most needed s t h = record { names = h.names; all = tt; rest = h.rest; misses = h.misses; told = h.told }

-- nothing is opened, and the folder is as it was
pub opens_nothing : (A : Type 0) (x : A) (wanted : Wanted) (most : ℕ) (needed : Type 0) (s : FolderState) → ((files : List HeldFile) → wanted files ≡ []) → OpensFiles {A = A} (Ok x) wanted most needed s s
opens_nothing A x wanted most needed s none = record { names = front_of_all wanted s s most all; all = all; rest = refl; misses = same_misses needed s s refl; told = told_same s s refl }
  where
    told : (held : Option (List HeldFile)) → IfSome held (λ files. names [] ≡ wanted files)
    told None = tt
    told (Some files) = sym (none files)

    all : OpensAll wanted most s s
    all = record { files = []; opened = sym (append-nil s.opened); few = omega arith; told = told s.held }

-- what was told is told of the files that are opened then
pub told_next : (held : Option (List HeldFile)) (s t : FolderState) → s.held ≡ held → IfSome held (λ _. AllTold s) → IfSome s.held (λ _. AllTold s → AllTold t) → IfSome held (λ _. AllTold t)
told_next held s t is told later = by held told (subst (λ (h : Option (List HeldFile)). IfSome h (λ _. AllTold s → AllTold t)) is later)
  where
    by : (held : Option (List HeldFile)) → IfSome held (λ _. AllTold s) → IfSome held (λ _. AllTold s → AllTold t) → IfSome held (λ _. AllTold t)
    by None told later = tt
    by (Some files) told later = later told
