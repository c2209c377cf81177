use Rattle.std.proofs.Common.{Err, ap, length, arith}
use Rattle.avc_import.proofs.Filming.{tie_inside}
use Rattle.avc_import.proofs.film.order_in.Goals as goal

pub place_at-place-requires : goal.place_at-place-requires
place_at-place-requires c =
    let tie = c.in-Err-Tie.ensures.tied c.in-Err-Tie.picture (ap Err c.in-Err-Tie.field-0-is) in
    let inside = tie_inside c.deref.result.now c.deref-2.result.now (length c.deref.result.now) c.in-Err-Tie.picture tie in
    omega (arith, inside, ap length c.deref.ensures.value, c.requires.places, ap length c.deref-in-Err-Tie.ensures.value)
