use Rattle.std.proofs.Common.{◌≡◌, true, false, sym}
use Rattle.mp_movie.specs.Placed.{PlacedMovie}
use Rattle.mp_words.specs.Names.{kind_of}
use Rattle.mp4edit.specs.Names.{is_nhnt}
use Rattle.mp4edit.proofs.Pairs.{file_input_gives, one_file, pair_files, pair_input_gives}
use Rattle.mp4edit.proofs.input.read_input.Goals as goal

pub returns-then-is_nhnt-clause-movie : goal.returns-then-is_nhnt-clause-movie
returns-then-is_nhnt-clause-movie g c =
    let is : is_nhnt (kind_of c.args.name.now) ≡ true = sym c.if-is_nhnt.ensures in
    pair_input_gives _ (kind_of c.args.name.now) c.args.name.now c.args.rate c.args.command c.read_pair.result _ is c.read_pair.ensures.movie

pub returns-then-is_nhnt-clause-folder : goal.returns-then-is_nhnt-clause-folder
returns-then-is_nhnt-clause-folder g c =
    let is : is_nhnt (kind_of c.args.name.now) ≡ true = sym c.if-is_nhnt.ensures in
    pair_files PlacedMovie c.read_pair.result (kind_of c.args.name.now) c.args.name.now _ _ is c.read_pair.ensures.folder

pub returns-clause-movie : goal.returns-clause-movie
returns-clause-movie g c =
    let is : is_nhnt (kind_of c.args.name.now) ≡ false = sym c.if-is_nhnt.ensures in
    file_input_gives _ (kind_of c.args.name.now) c.args.name.now c.args.rate c.args.command c.read_file.result _ is c.read_file.ensures.movie

pub returns-clause-folder : goal.returns-clause-folder
returns-clause-folder g c =
    let is : is_nhnt (kind_of c.args.name.now) ≡ false = sym c.if-is_nhnt.ensures in
    one_file PlacedMovie c.read_file.result (kind_of c.args.name.now) c.args.name.now _ _ is c.read_file.ensures.folder
