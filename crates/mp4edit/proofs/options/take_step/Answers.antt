use Rattle.std.proofs.Common.{rules, ◌≡◌, ◌<◌, ℤ, FitsSigned, w32, to_z, of_z, IfSome, OnOk, refl, sym, subst}
use Rattle.std.proofs.lemmas.Int.{to_z-of_z}
use Rattle.mp_ports.specs.Gives.{refusal}
use Rattle.mp_pieces.specs.Copied.{sizes_of}
use Rattle.mp_movie.specs.StandsFor.{Hold, stands_for}
use Rattle.mp_movie.specs.WellFormed.{AreDistinct}
use Rattle.mp_timeline.specs.Same.{HasScales}
use Rattle.mp_clip.specs.Clipped.{IsRange}
use Rattle.track_ops.specs.Delay.{delay}
use Rattle.track_ops.specs.Does.{Does}
use Rattle.track_ops.specs.Later.{DelaysShown}
use Rattle.track_ops.specs.Numbers.{numbers_of}
use Rattle.track_ops.specs.SeenLaw.{ShowDelayed}
use Rattle.track_ops.specs.SetScales.{set_movie_scale, set_track_scale}
use Rattle.track_ops.specs.Tracks.{remove, set_enabled, set_language}
use Rattle.cut_op.specs.Cut.{cut}
use Rattle.mp_words.specs.Jobs.{Asked, Adds, Cuts, Delays, Enables, Removes, ScalesMovie, ScalesTrack, SetsLanguage}
use Rattle.mp4edit.specs.Names.{NeedsAll, names_of}
use Rattle.mp4edit.specs.Outcome.{applied, step}
use Rattle.mp4edit.specs.Reading.{Gives, OpensFiles, told_files}
use Rattle.mp4edit.proofs.Folds.{done_gives, done_holds, failed_gives, failed_holds, fails_no_file, opens_no_file}
use Rattle.mp4edit.proofs.Rolls.{delay_shows, known, own_numbers}
use Rattle.mp4edit.proofs.options.take_step.Goals as goal

pub returns-in-Add-clause-folder : goal.returns-in-Add-clause-folder
returns-in-Add-clause-folder g c =
    let s = g.F.Folder.state c.args.folder.now in
    let t = g.F.Folder.state c.add_input.new.folder in
    let what = Adds c.deref.result.now c.in-Add.choice c.in-Add.rate in
    let is : c.args.command.now.what ≡ what = search rules in
    let opens : OpensFiles {A = Unit} c.add_input.result (names_of what) 3 (NeedsAll what) s t = c.add_input.ensures.folder in
    subst (λ (w : Asked). OpensFiles {A = Unit} c.add_input.result (names_of w) 3 (NeedsAll w) s t) (sym is) opens

pub returns-in-Rem-clause-movie : goal.returns-in-Rem-clause-movie
returns-in-Rem-clause-movie g c =
    let s = g.F.Folder.state c.args.folder.now in
    let made = remove c.in-Rem.number in
    let gives : IfSome s.held (λ files. Gives {A = Unit} (λ _. c.remove.new.movie) c.of_done.result s (applied c.command.inside.place (made (stands_for (told_files s) c.args.movie.now)))) =
    rw c.of_done.ensures (done_gives s c.command.inside.place made c.args.movie.now c.remove.new.movie c.remove.result c.requires.told c.requires.held c.remove.ensures) in
    search (rules, gives)

pub returns-in-Rem-clause-held : goal.returns-in-Rem-clause-held
returns-in-Rem-clause-held g c =
    let s = g.F.Folder.state c.args.folder.now in
    let held : OnOk c.of_done.result (Hold (sizes_of s) c.remove.new.movie) =
    rw c.of_done.ensures (done_holds (sizes_of s) c.command.inside.place (remove c.in-Rem.number) c.args.movie.now c.remove.new.movie c.remove.result c.requires.held c.remove.ensures) in
    search (rules, held)

pub returns-in-Lang-clause-movie : goal.returns-in-Lang-clause-movie
returns-in-Lang-clause-movie g c =
    let s = g.F.Folder.state c.args.folder.now in
    let made = set_language c.in-Lang.number c.in-Lang.letters in
    let gives : IfSome s.held (λ files. Gives {A = Unit} (λ _. c.set_language.new.movie) c.of_done-in-Lang.result s (applied c.command.inside.place (made (stands_for (told_files s) c.args.movie.now)))) =
    rw c.of_done-in-Lang.ensures (done_gives s c.command.inside.place made c.args.movie.now c.set_language.new.movie c.set_language.result c.requires.told c.requires.held c.set_language.ensures) in
    search (rules, gives)

pub returns-in-Lang-clause-held : goal.returns-in-Lang-clause-held
returns-in-Lang-clause-held g c =
    let s = g.F.Folder.state c.args.folder.now in
    let held : OnOk c.of_done-in-Lang.result (Hold (sizes_of s) c.set_language.new.movie) =
    rw c.of_done-in-Lang.ensures (done_holds (sizes_of s) c.command.inside.place (set_language c.in-Lang.number c.in-Lang.letters) c.args.movie.now c.set_language.new.movie c.set_language.result c.requires.held c.set_language.ensures) in
    search (rules, held)

pub returns-in-Enabled-clause-movie : goal.returns-in-Enabled-clause-movie
returns-in-Enabled-clause-movie g c =
    let s = g.F.Folder.state c.args.folder.now in
    let made = set_enabled c.in-Enabled.number c.in-Enabled.on in
    let gives : IfSome s.held (λ files. Gives {A = Unit} (λ _. c.set_enabled.new.movie) c.of_done-in-Enabled.result s (applied c.command.inside.place (made (stands_for (told_files s) c.args.movie.now)))) =
    rw c.of_done-in-Enabled.ensures (done_gives s c.command.inside.place made c.args.movie.now c.set_enabled.new.movie c.set_enabled.result c.requires.told c.requires.held c.set_enabled.ensures) in
    search (rules, gives)

pub returns-in-Enabled-clause-held : goal.returns-in-Enabled-clause-held
returns-in-Enabled-clause-held g c =
    let s = g.F.Folder.state c.args.folder.now in
    let held : OnOk c.of_done-in-Enabled.result (Hold (sizes_of s) c.set_enabled.new.movie) =
    rw c.of_done-in-Enabled.ensures (done_holds (sizes_of s) c.command.inside.place (set_enabled c.in-Enabled.number c.in-Enabled.on) c.args.movie.now c.set_enabled.new.movie c.set_enabled.result c.requires.held c.set_enabled.ensures) in
    search (rules, held)

pub returns-in-Rem-clause-folder : goal.returns-in-Rem-clause-folder
returns-in-Rem-clause-folder g c =
    let s = g.F.Folder.state c.args.folder.now in
    let what = Removes c.in-Rem.number in
    let is : c.args.command.now.what ≡ what = search rules in
    let opens : OpensFiles {A = Unit} c.of_done.result (names_of what) 3 (NeedsAll what) s s =
    rw c.of_done.ensures (opens_no_file what (NeedsAll what) c.command.inside.place c.remove.result s (λ files. refl)) in
    subst (λ (w : Asked). OpensFiles {A = Unit} c.of_done.result (names_of w) 3 (NeedsAll w) s s) (sym is) opens

pub returns-in-Lang-clause-folder : goal.returns-in-Lang-clause-folder
returns-in-Lang-clause-folder g c =
    let s = g.F.Folder.state c.args.folder.now in
    let what = SetsLanguage c.in-Lang.number c.in-Lang.letters in
    let is : c.args.command.now.what ≡ what = search rules in
    let opens : OpensFiles {A = Unit} c.of_done-in-Lang.result (names_of what) 3 (NeedsAll what) s s =
    rw c.of_done-in-Lang.ensures (opens_no_file what (NeedsAll what) c.command.inside.place c.set_language.result s (λ files. refl)) in
    subst (λ (w : Asked). OpensFiles {A = Unit} c.of_done-in-Lang.result (names_of w) 3 (NeedsAll w) s s) (sym is) opens

pub returns-in-Enabled-clause-folder : goal.returns-in-Enabled-clause-folder
returns-in-Enabled-clause-folder g c =
    let s = g.F.Folder.state c.args.folder.now in
    let what = Enables c.in-Enabled.number c.in-Enabled.on in
    let is : c.args.command.now.what ≡ what = search rules in
    let opens : OpensFiles {A = Unit} c.of_done-in-Enabled.result (names_of what) 3 (NeedsAll what) s s =
    rw c.of_done-in-Enabled.ensures (opens_no_file what (NeedsAll what) c.command.inside.place c.set_enabled.result s (λ files. refl)) in
    subst (λ (w : Asked). OpensFiles {A = Unit} c.of_done-in-Enabled.result (names_of w) 3 (NeedsAll w) s s) (sym is) opens

pub returns-in-Delay-clause-movie : goal.returns-in-Delay-clause-movie
returns-in-Delay-clause-movie g c =
    let s = g.F.Folder.state c.args.folder.now in
    let made = delay c.in-Delay.number c.in-Delay.ms in
    let fits : FitsSigned w32 c.in-Delay.ms = search rules in
    let does : Does {A = Unit} refusal made c.args.movie.now c.delay.new.movie c.delay.result =
    subst (λ (ms : ℤ). Does {A = Unit} refusal (delay c.in-Delay.number ms) c.args.movie.now c.delay.new.movie c.delay.result) (to_z-of_z w32 c.in-Delay.ms fits) c.delay.ensures.delayed in
    let gives : IfSome s.held (λ files. Gives {A = Unit} (λ _. c.delay.new.movie) c.of_failed.result s (applied c.command.inside.place (made (stands_for (told_files s) c.args.movie.now)))) =
    rw c.of_failed.ensures (failed_gives s c.command.inside.place made c.args.movie.now c.delay.new.movie c.delay.result c.requires.told c.requires.held does) in
    search (rules, gives)

pub returns-in-Delay-clause-held : goal.returns-in-Delay-clause-held
returns-in-Delay-clause-held g c =
    let s = g.F.Folder.state c.args.folder.now in
    let ms = to_z w32 (of_z w32 c.in-Delay.ms) in
    let held : OnOk c.of_failed.result (Hold (sizes_of s) c.delay.new.movie) =
    rw c.of_failed.ensures (failed_holds (sizes_of s) c.command.inside.place (delay c.in-Delay.number ms) c.args.movie.now c.delay.new.movie c.delay.result c.requires.held c.delay.ensures.delayed) in
    search (rules, held)

pub returns-in-Delay-clause-folder : goal.returns-in-Delay-clause-folder
returns-in-Delay-clause-folder g c =
    let s = g.F.Folder.state c.args.folder.now in
    let what = Delays c.in-Delay.number c.in-Delay.ms in
    let is : c.args.command.now.what ≡ what = search rules in
    let opens : OpensFiles {A = Unit} c.of_failed.result (names_of what) 3 (NeedsAll what) s s =
    rw c.of_failed.ensures (fails_no_file what (NeedsAll what) c.command.inside.place c.delay.result s (λ files. refl)) in
    subst (λ (w : Asked). OpensFiles {A = Unit} c.of_failed.result (names_of w) 3 (NeedsAll w) s s) (sym is) opens

pub returns-in-Delay-clause-done : goal.returns-in-Delay-clause-done
returns-in-Delay-clause-done g c =
    let s = g.F.Folder.state c.args.folder.now in
    let number = c.in-Delay.number in
    let ms = c.in-Delay.ms in
    let is : c.args.command.now.what ≡ Delays number ms = search rules in
    let fits : FitsSigned w32 ms = search rules in
    let shown : OnOk c.delay.result (DelaysShown number ms c.args.movie.now c.delay.new.movie) =
    subst (λ (ms : ℤ). OnOk c.delay.result (DelaysShown number ms c.args.movie.now c.delay.new.movie)) (to_z-of_z w32 ms fits) c.delay.ensures.shown in
    let done : IfSome s.held (λ files. OnOk c.of_failed.result (ShowDelayed number ms (stands_for (told_files s) c.args.movie.now) (stands_for (told_files s) c.delay.new.movie))) =
    rw c.of_failed.ensures (delay_shows s.held s c.command.inside.place number ms c.args.movie.now c.delay.new.movie c.delay.result c.requires.told c.requires.held shown) in
    search (rules, is, done)

pub returns-in-Cut-clause-movie : goal.returns-in-Cut-clause-movie
returns-in-Cut-clause-movie g c =
    let s = g.F.Folder.state c.args.folder.now in
    let made = cut c.in-Cut.from c.in-Cut.to in
    let gives : IfSome s.held (λ files. Gives {A = Unit} (λ _. c.cut_to.new.movie) c.of_failed-in-Cut.result s (applied c.command.inside.place (made (stands_for (told_files s) c.args.movie.now)))) =
    rw c.of_failed-in-Cut.ensures (failed_gives s c.command.inside.place made c.args.movie.now c.cut_to.new.movie c.cut_to.result c.requires.told c.requires.held c.cut_to.ensures.cut) in
    let is : c.args.command.now.what ≡ Cuts c.in-Cut.from c.in-Cut.to = search rules in
    let steps : IfSome s.held (λ files. Gives {A = Unit} (λ _. c.cut_to.new.movie) c.of_failed-in-Cut.result s (step files c.command.inside.place c.args.command.now.what (stands_for (told_files s) c.args.movie.now))) =
    subst (λ (what : Asked). IfSome s.held (λ files. Gives {A = Unit} (λ _. c.cut_to.new.movie) c.of_failed-in-Cut.result s (step files c.command.inside.place what (stands_for (told_files s) c.args.movie.now)))) (sym is) gives in
    search (rules, steps)

pub returns-in-Cut-clause-held : goal.returns-in-Cut-clause-held
returns-in-Cut-clause-held g c =
    let s = g.F.Folder.state c.args.folder.now in
    let held : OnOk c.of_failed-in-Cut.result (Hold (sizes_of s) c.cut_to.new.movie) =
    rw c.of_failed-in-Cut.ensures (failed_holds (sizes_of s) c.command.inside.place (cut c.in-Cut.from c.in-Cut.to) c.args.movie.now c.cut_to.new.movie c.cut_to.result c.requires.held c.cut_to.ensures.cut) in
    search (rules, held)

pub returns-in-Cut-clause-folder : goal.returns-in-Cut-clause-folder
returns-in-Cut-clause-folder g c =
    let s = g.F.Folder.state c.args.folder.now in
    let what = Cuts c.in-Cut.from c.in-Cut.to in
    let is : c.args.command.now.what ≡ what = search rules in
    let opens : OpensFiles {A = Unit} c.of_failed-in-Cut.result (names_of what) 3 (NeedsAll what) s s =
    rw c.of_failed-in-Cut.ensures (fails_no_file what (NeedsAll what) c.command.inside.place c.cut_to.result s (λ files. refl)) in
    subst (λ (w : Asked). OpensFiles {A = Unit} c.of_failed-in-Cut.result (names_of w) 3 (NeedsAll w) s s) (sym is) opens

pub returns-in-Cut-clause-done : goal.returns-in-Cut-clause-done
returns-in-Cut-clause-done g c =
    let s = g.F.Folder.state c.args.folder.now in
    let what = Cuts c.in-Cut.from c.in-Cut.to in
    let is : c.args.command.now.what ≡ what = search rules in
    let range : IsRange c.in-Cut.from c.in-Cut.to = search rules in
    let done : IfSome s.held (λ files. OnOk c.of_failed-in-Cut.result (IsRange c.in-Cut.from c.in-Cut.to × HasScales (stands_for (told_files s) c.args.movie.now))) =
    known s.held c.of_failed-in-Cut.result _ (range, c.cut_to.ensures.scales (told_files s)) in
    search (rules, is, done)

pub returns-in-TrackScale-clause-movie : goal.returns-in-TrackScale-clause-movie
returns-in-TrackScale-clause-movie g c =
    let s = g.F.Folder.state c.args.folder.now in
    let made = set_track_scale c.in-TrackScale.number c.in-TrackScale.scale in
    let gives : IfSome s.held (λ files. Gives {A = Unit} (λ _. c.set_track_scale.new.movie) c.of_done-in-TrackScale.result s (applied c.command.inside.place (made (stands_for (told_files s) c.args.movie.now)))) =
    rw c.of_done-in-TrackScale.ensures (done_gives s c.command.inside.place made c.args.movie.now c.set_track_scale.new.movie c.set_track_scale.result c.requires.told c.requires.held c.set_track_scale.ensures) in
    search (rules, gives)

pub returns-in-TrackScale-clause-held : goal.returns-in-TrackScale-clause-held
returns-in-TrackScale-clause-held g c =
    let s = g.F.Folder.state c.args.folder.now in
    let held : OnOk c.of_done-in-TrackScale.result (Hold (sizes_of s) c.set_track_scale.new.movie) =
    rw c.of_done-in-TrackScale.ensures (done_holds (sizes_of s) c.command.inside.place (set_track_scale c.in-TrackScale.number c.in-TrackScale.scale) c.args.movie.now c.set_track_scale.new.movie c.set_track_scale.result c.requires.held c.set_track_scale.ensures) in
    search (rules, held)

pub returns-in-TrackScale-clause-folder : goal.returns-in-TrackScale-clause-folder
returns-in-TrackScale-clause-folder g c =
    let s = g.F.Folder.state c.args.folder.now in
    let what = ScalesTrack c.in-TrackScale.number c.in-TrackScale.scale in
    let is : c.args.command.now.what ≡ what = search rules in
    let opens : OpensFiles {A = Unit} c.of_done-in-TrackScale.result (names_of what) 3 (NeedsAll what) s s =
    rw c.of_done-in-TrackScale.ensures (opens_no_file what (NeedsAll what) c.command.inside.place c.set_track_scale.result s (λ files. refl)) in
    subst (λ (w : Asked). OpensFiles {A = Unit} c.of_done-in-TrackScale.result (names_of w) 3 (NeedsAll w) s s) (sym is) opens

pub returns-in-TrackScale-clause-done : goal.returns-in-TrackScale-clause-done
returns-in-TrackScale-clause-done g c =
    let s = g.F.Folder.state c.args.folder.now in
    let what = ScalesTrack c.in-TrackScale.number c.in-TrackScale.scale in
    let is : c.args.command.now.what ≡ what = search rules in
    let some : 0 < c.in-TrackScale.scale = search rules in
    let done : IfSome s.held (λ files. OnOk c.of_done-in-TrackScale.result ((0 < c.in-TrackScale.scale) × AreDistinct (numbers_of (stands_for (told_files s) c.args.movie.now).tracks))) =
    known s.held c.of_done-in-TrackScale.result _ (some, own_numbers c.parts_stand_for_movies.ensures s c.args.movie.now c.tracks-tracks.ensures.whole) in
    search (rules, is, done)

pub returns-in-MovieScale-clause-movie : goal.returns-in-MovieScale-clause-movie
returns-in-MovieScale-clause-movie g c =
    let s = g.F.Folder.state c.args.folder.now in
    let made = set_movie_scale c.in-MovieScale.scale in
    let gives : IfSome s.held (λ files. Gives {A = Unit} (λ _. c.set_movie_scale.new.movie) c.of_done-in-MovieScale.result s (applied c.command.inside.place (made (stands_for (told_files s) c.args.movie.now)))) =
    rw c.of_done-in-MovieScale.ensures (done_gives s c.command.inside.place made c.args.movie.now c.set_movie_scale.new.movie c.set_movie_scale.result c.requires.told c.requires.held c.set_movie_scale.ensures) in
    search (rules, gives)

pub returns-in-MovieScale-clause-held : goal.returns-in-MovieScale-clause-held
returns-in-MovieScale-clause-held g c =
    let s = g.F.Folder.state c.args.folder.now in
    let held : OnOk c.of_done-in-MovieScale.result (Hold (sizes_of s) c.set_movie_scale.new.movie) =
    rw c.of_done-in-MovieScale.ensures (done_holds (sizes_of s) c.command.inside.place (set_movie_scale c.in-MovieScale.scale) c.args.movie.now c.set_movie_scale.new.movie c.set_movie_scale.result c.requires.held c.set_movie_scale.ensures) in
    search (rules, held)

pub returns-in-MovieScale-clause-folder : goal.returns-in-MovieScale-clause-folder
returns-in-MovieScale-clause-folder g c =
    let s = g.F.Folder.state c.args.folder.now in
    let what = ScalesMovie c.in-MovieScale.scale in
    let is : c.args.command.now.what ≡ what = search rules in
    let opens : OpensFiles {A = Unit} c.of_done-in-MovieScale.result (names_of what) 3 (NeedsAll what) s s =
    rw c.of_done-in-MovieScale.ensures (opens_no_file what (NeedsAll what) c.command.inside.place c.set_movie_scale.result s (λ files. refl)) in
    subst (λ (w : Asked). OpensFiles {A = Unit} c.of_done-in-MovieScale.result (names_of w) 3 (NeedsAll w) s s) (sym is) opens

pub returns-in-MovieScale-clause-done : goal.returns-in-MovieScale-clause-done
returns-in-MovieScale-clause-done g c =
    let s = g.F.Folder.state c.args.folder.now in
    let what = ScalesMovie c.in-MovieScale.scale in
    let is : c.args.command.now.what ≡ what = search rules in
    let some : 0 < c.in-MovieScale.scale = search rules in
    let done : IfSome s.held (λ files. OnOk c.of_done-in-MovieScale.result (0 < c.in-MovieScale.scale)) = known s.held c.of_done-in-MovieScale.result _ some in
    search (rules, is, done)
