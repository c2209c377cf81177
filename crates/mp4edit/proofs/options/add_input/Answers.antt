use Rattle.std.proofs.Common.{arith, rules, ◌≡◌, false, IfSome, Ok, Err, refl}
use Rattle.mp_movie.specs.StandsFor.{stands_for}
use Rattle.mp4edit.specs.Outcome.{add_outcome, input}
use Rattle.mp4edit.specs.Reading.{Gives, told_files}
use Rattle.mp_movie.specs.Placed.{PlacedMovie}
use Rattle.mp_words.specs.Names.{kind_of}
use Rattle.mp4edit.specs.Names.{input_names, is_nhnt}
use Rattle.mp4edit.proofs.FilesInTurn.{opens_as, stops_as, then_fails, told_next}
use Rattle.mp4edit.proofs.Folds.{added_gives, answered, held_still}
use Rattle.mp4edit.proofs.Rolls.{input_scales}
use Rattle.mp4edit.proofs.options.add_input.Goals as goal

pub returns-clause-movie : goal.returns-clause-movie
returns-clause-movie g c =
    let all = c.in-Ok.ensures.folder.all in
    let s = g.F.Folder.state c.args.folder.now in
    let t = g.F.Folder.state c.read_input.new.folder in
    let gives : IfSome s.held (λ files. Gives {A = Unit} (λ _. c.add_tracks.new.movie) (answered c.args.command (Ok c.in-Ok-add_tracks.field-0)) t (add_outcome files c.args.command c.args.name.now c.args.choice c.args.rate (stands_for (told_files s) c.args.movie.now))) =
    added_gives c.files_may_follow.ensures s t all.files c.args.name.now c.args.rate c.args.command c.args.choice c.in-Ok.other c.args.movie.now c.add_tracks.new.movie (Ok c.in-Ok-add_tracks.field-0)
    all.opened c.requires.told (told_next s.held s t refl c.requires.told c.in-Ok.ensures.folder.told) c.requires.held c.in-Ok.ensures.held c.in-Ok.ensures.movie c.in-Ok-add_tracks.ensures.added in
    search (rules, gives)

pub returns-clause-scales : goal.returns-clause-scales
returns-clause-scales g c =
    let s = g.F.Folder.state c.args.folder.now in
    let t = g.F.Folder.state c.read_input.new.folder in
    input_scales c.parts_stand_for_movies.ensures c.same_movie_is_presented.ensures.scales s.held (λ files. input files c.args.command c.args.name.now c.args.rate) t c.in-Ok.other c.tracks-tracks.ensures.whole c.in-Ok.ensures.movie

pub returns-clause-held : goal.returns-clause-held
returns-clause-held g c =
    let all = c.in-Ok.ensures.folder.all in
    let s = g.F.Folder.state c.args.folder.now in
    let t = g.F.Folder.state c.read_input.new.folder in
    c.in-Ok-add_tracks.ensures.added.held _ (held_still c.files_may_follow.ensures s t all.files c.args.movie.now all.opened c.requires.held) c.in-Ok.ensures.held

pub returns-in-Err-add_tracks-clause-movie : goal.returns-in-Err-add_tracks-clause-movie
returns-in-Err-add_tracks-clause-movie g c =
    let all = c.in-Ok.ensures.folder.all in
    let s = g.F.Folder.state c.args.folder.now in
    let t = g.F.Folder.state c.read_input.new.folder in
    let gives : IfSome s.held (λ files. Gives {A = Unit} (λ _. c.add_tracks.new.movie) (answered c.args.command (Err (c.in-Err-add_tracks.fail, c.in-Err-add_tracks.field-0-1))) t (add_outcome files c.args.command c.args.name.now c.args.choice c.args.rate (stands_for (told_files s) c.args.movie.now))) =
    added_gives c.files_may_follow.ensures s t all.files c.args.name.now c.args.rate c.args.command c.args.choice c.in-Ok.other c.args.movie.now c.add_tracks.new.movie (Err (c.in-Err-add_tracks.fail, c.in-Err-add_tracks.field-0-1))
    all.opened c.requires.told (told_next s.held s t refl c.requires.told c.in-Ok.ensures.folder.told) c.requires.held c.in-Ok.ensures.held c.in-Ok.ensures.movie c.in-Err-add_tracks.ensures.added in
    search (rules, gives)

pub returns-in-Err-clause-folder : goal.returns-in-Err-clause-folder
returns-in-Err-clause-folder g c =
    stops_as PlacedMovie Unit c.in-Err.stop (input_names c.args.name.now) (input_names c.args.name.now) 3 3 (is_nhnt (kind_of c.args.name.now) ≡ false) (is_nhnt (kind_of c.args.name.now) ≡ false) _ _
    (λ files. refl) (omega arith) (λ n. n) c.in-Err.ensures.folder

pub returns-in-Err-add_tracks-clause-folder : goal.returns-in-Err-add_tracks-clause-folder
returns-in-Err-add_tracks-clause-folder g c =
    rw c.of_fail.ensures (then_fails PlacedMovie Unit c.in-Ok.other c.args.command c.in-Err-add_tracks.fail (input_names c.args.name.now) 3 (is_nhnt (kind_of c.args.name.now) ≡ false) _ _ c.in-Ok.ensures.folder)

pub returns-clause-folder : goal.returns-clause-folder
returns-clause-folder g c =
    opens_as PlacedMovie Unit c.in-Ok.other tt (input_names c.args.name.now) (input_names c.args.name.now) 3 3 (is_nhnt (kind_of c.args.name.now) ≡ false) (is_nhnt (kind_of c.args.name.now) ≡ false) _ _
    (λ files. refl) (omega arith) (λ n. n) c.in-Ok.ensures.folder
