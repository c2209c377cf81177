use Rattle.std.proofs.Common.{◌*◌, ℕ, Option, subst}
use Rattle.std.specs.Prelude.{IfSome}
use Rattle.mp_clip.specs.Cut.{IsExact}
use Rattle.mp_clip.proofs.Telling.{tells_empty, tells_media}
use Rattle.mp_clip.proofs.clipping.told.Goals as goal

pub exact-dur-requires-clause-exact : goal.exact-dur-requires-clause-exact
exact-dur-requires-clause-exact c = rw (c.from.ensures, c.from-2.ensures) c.requires.told.length

pub exact-requires-clause-exact : goal.exact-requires-clause-exact
exact-requires-clause-exact c =
    let scales = c.args.scales in
    rw (c.from-in-Some.ensures, c.from-in-Some-2.ensures) (subst (λ (start : Option ℕ). IfSome start (λ start. IsExact c.args.new.back start (scales.media * (scales.movie * scales.from)) c.args.new.media)) c.in-Some.is c.requires.told.start)

pub returns-in-Some : goal.returns-in-Some
returns-in-Some c =
    let dur = rw (c.from.ensures, c.from-2.ensures) at c.exact-dur.ensures in
    let start = rw (c.from-in-Some.ensures, c.from-in-Some-2.ensures) at c.exact.ensures in
    tells_media c.args.scales c.args.new c.requires.unit c.requires.new_media c.requires.new_movie c.args.cut c.in-Some.start c.exact.result c.exact-dur.result c.in-Some.is start dur

pub returns-in-None : goal.returns-in-None
returns-in-None c =
    let dur = rw (c.from.ensures, c.from-2.ensures) at c.exact-dur.ensures in
    tells_empty c.args.scales c.args.new c.requires.unit c.requires.new_media c.requires.new_movie c.args.cut c.exact-dur.result c.in-None.is dur
