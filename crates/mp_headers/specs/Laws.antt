-- What is written is read (ISO/IEC 14496-12, 8.2.2, 8.3.2, 8.4.2 and 8.4.3).
use Rattle.std.specs.Prelude.{◌≡◌, List, ℕ}
use Rattle.mp_boxes.specs.Format.{IsFormat}
use Rattle.mp_headers.specs.MovieHeader.{IsMvhd, mvhd, mvhd_of}
use Rattle.mp_headers.specs.TrackHeader.{IsTkhd, tkhd, tkhd_of}
use Rattle.mp_headers.specs.MediaHeader.{IsMdhd, mdhd, mdhd_of}
use Rattle.mp_headers.specs.Handler.{IsHandler, hdlr, hdlr_of, name_of}

-- the fields that are read are those that were written, in both versions
pub record HeadersAreRead : Type 0 where
  pub movie : IsFormat mvhd mvhd_of IsMvhd
  pub track : IsFormat tkhd tkhd_of IsTkhd
  pub media : IsFormat mdhd mdhd_of IsMdhd
  pub handler : (name : List ℕ) → IsFormat (λ handler. hdlr handler name) hdlr_of IsHandler
  pub name : (handler name : List ℕ) → IsHandler handler → name_of (hdlr handler name).body ≡ name
