use Rattle.mp_headers.proofs.Handlers.{hdlr-read, name-read}
use Rattle.mp_headers.proofs.MediaHeaders.{mdhd-read}
use Rattle.mp_headers.proofs.MovieHeaders.{mvhd-read}
use Rattle.mp_headers.proofs.TrackHeaders.{tkhd-read}
use Rattle.mp_headers.proofs.law.headers_are_read.Goals as goal

pub returns : goal.returns
returns c =
    let fields = c.fields_are_read.ensures in
    record {
      movie = record { back = mvhd-read fields };
      track = record { back = tkhd-read fields };
      media = record { back = mdhd-read fields };
      handler = λ name. record { back = hdlr-read name };
      name = λ handler name is. name-read handler name is.four;
    }
