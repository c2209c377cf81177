-- The boxes at the top of a file, of which the heads alone are read (ISO/IEC 14496-12, 4.2 and 8.2.1).
use Rattle.std.specs.Prelude.{◌≡◌, ℕ, ◌+◌, ◌≤◌, List, [], ◌∷◌, length, drop, if◌then◌else◌, Option, Some, None, IfSome, Result, Ok, Err, option_map}
use Rattle.std.specs.Str.{bytes_eq}
use Rattle.mp_ports.specs.declared.fault.Bad.{Bad}
use Rattle.mp_ports.specs.Folder.{FolderState}
use Rattle.mp_pieces.specs.Window.{IsOf, WindowRecord}
use Rattle.mp_boxes.specs.Boxes.{Box, front_box}
use Rattle.mp_boxes.specs.Child.{first_of, of_kind}
use Rattle.mp_movie.specs.Present.{first_fault, moov_in, movie_fault}
use Rattle.mp_read.specs.declared.top.FileBox.{FileBox}
use Rattle.mp_read.specs.declared.top.Seen.{Seen}

-- the box with that head at that place of a file
abbrev pub box_at : List ℕ → FileBox → Box
box_at file found = front_box found.head found.place (drop found.place file)

-- the box ends in a file of so many bytes, and its header in it
pub record IsInFile (size : ℕ) (found : FileBox) : Type 0 where
  pub some : 8 ≤ found.head.head
  pub header : found.head.head ≤ found.head.len
  pub ends : found.place + found.head.len ≤ size

-- the window is one of the same file
pub record IsSameWindow (s : FolderState) (old new : WindowRecord) : Type 0 where
  pub same : new ≡ record old { from = new.from; held = new.held }
  pub part : IsOf s new

-- the second of some boxes
abbrev pub second_of : List Box → Option Box
second_of [] = None
second_of (box ∷ others) = first_of others

-- they are the first two boxes of that type among these of a file
pub record AreSeen (file kind : List ℕ) (boxes : List Box) (seen : Seen) : Type 0 where
  pub kind_is : seen.kind ≡ kind
  pub first : first_of (of_kind kind boxes) ≡ option_map (box_at file) seen.first
  pub second : second_of (of_kind kind boxes) ≡ option_map (box_at file) seen.second

-- those of a type of which none was passed
abbrev pub none_seen : List ℕ → Seen
none_seen kind = record { kind = kind; first = None; second = None }

-- the first two, where one box of the type is passed more
abbrev pub first_two : List ℕ → Option FileBox → Option FileBox → FileBox → Seen
first_two kind None second found = record { kind = kind; first = Some found; second = None }
first_two kind (Some first) None found = record { kind = kind; first = Some first; second = Some found }
first_two kind (Some first) (Some second) found = record { kind = kind; first = Some first; second = Some second }

-- the same where it may be of another type
abbrev pub seen_with : Seen → FileBox → Seen
seen_with seen found = if bytes_eq found.head.kind seen.kind then first_two seen.kind seen.first seen.second found else seen

-- it is the movie box of the file, and none of the checks in front of its own fails
pub record IsMoov (file : List ℕ) (found : FileBox) : Type 0 where
  pub box : moov_in file ≡ box_at file found
  pub fault : first_fault file ≡ movie_fault (length file) (box_at file found)

-- what is found is the movie box of the file, or the refusal that the failure stands for is the first fault of the file
abbrev pub FindsMoov : {E : Type 0} → (E → Option Bad) → List ℕ → Result FileBox E → Type 0
FindsMoov why file (Ok found) = IsMoov file found
FindsMoov why file (Err fail) = IfSome (why fail) (λ bad. first_fault file ≡ Some bad)
