-- Tracks that are read one after another.
use Rattle.std.proofs.Common.{◌≡◌, ℕ, ◌+◌, List, [], ◌∷◌, ◌++◌, map, Option, Some, None, IfSome, Result, Ok, Err, refl, sym, ap, ◌∙◌, arith}
use Rattle.std.specs.Prelude.{codes}
use Rattle.std.proofs.lemmas.List.{append-nil, append_assoc, map-append}
use Rattle.std.proofs.lemmas.List.Sums.{sum_by_push}
use Rattle.mp_ports.specs.declared.fault.Bad.{Bad}
use Rattle.mp_ports.specs.declared.fault.Fail.{Fail}
use Rattle.mp_ports.specs.declared.fault.Fail.TheVariants.{Bad as Refused, NoMemory}
use Rattle.mp_ports.specs.Checks.{first_some, unless}
use Rattle.mp_ports.specs.Gives.{Gives, refusal}
use Rattle.mp_boxes.specs.declared.head.BoxHead.{BoxHead}
use Rattle.mp_boxes.specs.Boxes.{AreLeft, Box, IsContainer, body_place}
use Rattle.mp_boxes.specs.Child.{IsFirstOf, of_kind}
use Rattle.mp_boxes.specs.Reading.{value_or}
use Rattle.mp_movie.specs.Children.{children}
use Rattle.mp_movie.specs.Present.{traks_in}
use Rattle.mp_movie.specs.SampleTable.{count_in}
use Rattle.mp_movie.specs.TrackBoxes.{boxes_of}
use Rattle.mp_movie.specs.Tracks.{track_fault, tracks_fault}
use Rattle.mp_read.specs.Track.{TrackTablesRecord, read_track, samples_in, tables_of}

no_fault : {A : Type 0} (fault : Option Bad) (value got : A) → unless fault value ≡ Ok got → (fault ≡ None) × (value ≡ got)
no_fault None value got e = (refl, cc)
no_fault (Some found) value got e = absurd cc

the_fault : {A : Type 0} (fault : Option Bad) (value : A) (bad : Bad) → unless fault value ≡ Err bad → fault ≡ Some bad
the_fault None value bad e = absurd cc
the_fault (Some found) value bad e = cc

one_left : (fault : Option Bad) → first_some (fault ∷ []) ≡ fault
one_left None = refl
one_left (Some bad) = refl

-- the tracks of the boxes so far were read, and no check of them fails; those that are left stand from `at` on
pub record Walked (file_size base : ℕ) (bytes : List ℕ) (all : List Box) (at : ℕ) (tracks : List TrackTablesRecord) (samples : ℕ) : Type 0 where
  pub done : List Box
  pub left : List Box
  pub cut : AreLeft base at bytes left
  pub both : all ≡ done ++ of_kind (codes "trak") left
  pub tracks_are : tracks ≡ map tables_of done
  pub samples_are : samples ≡ samples_in done
  pub fault : tracks_fault file_size [] all ≡ tracks_fault file_size done (of_kind (codes "trak") left)

pub none_walked : (file_size base : ℕ) (bytes : List ℕ) (box : Box) (tracks : List TrackTablesRecord) → base ≡ body_place box → bytes ≡ box.body → IsContainer (body_place box) box.body → tracks ≡ []
    → Walked file_size base bytes (traks_in box) 0 tracks 0
unfolding children
none_walked file_size base bytes box tracks place body c none = rw (place, body, none)
    (record {
      done = [];
      left = c.children;
      cut = c.left;
      both = rw c.read refl;
      tracks_are = refl;
      samples_are = refl;
      fault = ap (λ (boxes : Result (List Box) Bad). tracks_fault file_size [] (of_kind (codes "trak") (value_or [] boxes))) c.read;
    })

pub one_walked : (file_size base : ℕ) (bytes : List ℕ) (all : List Box) (at : ℕ) (tracks : List TrackTablesRecord) (samples count : ℕ) (track : TrackTablesRecord) (b : BoxHead) (part : Box)
    (w : Walked file_size base bytes all at tracks samples) → (f : IsFirstOf (of_kind (codes "trak")) base bytes w.left b) → part ≡ f.first → read_track file_size w.done part ≡ Ok track → count ≡ count_in (boxes_of part)
    → Walked file_size base bytes all (b.place + b.len) (tracks ++ track ∷ []) (samples + count)
unfolding tracks_fault
one_walked file_size base bytes all at tracks samples count track b part w f same read counted =
    let step = no_fault (track_fault file_size w.done f.first) (tables_of f.first) track (rw same at read) in
    record {
      done = w.done ++ f.first ∷ [];
      left = f.others;
      cut = f.cut;
      both = w.both ∙ ap (λ (rest : List Box). w.done ++ rest) f.both ∙ sym (append_assoc w.done (f.first ∷ []) (of_kind (codes "trak") f.others));
      tracks_are = rw (map-append tables_of w.done (f.first ∷ []), ← w.tracks_are, step.1) refl;
      samples_are = omega (arith, w.samples_are, rw same at counted, sum_by_push (λ (trak : Box). count_in (boxes_of trak)) w.done f.first);
      fault = w.fault ∙ ap (tracks_fault file_size w.done) f.both ∙ rw step.0 (one_left (tracks_fault file_size (w.done ++ f.first ∷ []) (of_kind (codes "trak") f.others)));
    }

pub one_failed : (file_size base : ℕ) (bytes : List ℕ) (all : List Box) (at : ℕ) (tracks : List TrackTablesRecord) (samples : ℕ) (fail : Fail) (b : BoxHead) (part : Box)
    (w : Walked file_size base bytes all at tracks samples) → (f : IsFirstOf (of_kind (codes "trak")) base bytes w.left b) → part ≡ f.first
    → Gives refusal (λ (track : TrackTablesRecord). track) (Err fail) (read_track file_size w.done part) → IfSome (refusal fail) (λ bad. unless (tracks_fault file_size [] all) (map tables_of all) ≡ Err bad)
unfolding tracks_fault
one_failed file_size base bytes all at tracks samples (Refused bad) b part w f same read =
    rw (w.fault ∙ ap (tracks_fault file_size w.done) f.both, the_fault (track_fault file_size w.done f.first) (tables_of f.first) bad (rw same at read)) refl
one_failed file_size base bytes all at tracks samples NoMemory b part w f same read = tt

pub all_walked : (file_size base : ℕ) (bytes : List ℕ) (all : List Box) (at : ℕ) (tracks : List TrackTablesRecord) (samples : ℕ) (w : Walked file_size base bytes all at tracks samples)
    → of_kind (codes "trak") w.left ≡ [] → unless (tracks_fault file_size [] all) (map tables_of all) ≡ Ok tracks
unfolding tracks_fault
all_walked file_size base bytes all at tracks samples w none =
    let same : all ≡ w.done = w.both ∙ (rw none (append-nil w.done)) in
    rw (w.fault ∙ ap (tracks_fault file_size w.done) none) (ap Ok (ap (map tables_of) same ∙ sym w.tracks_are))
