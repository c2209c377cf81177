-- The movie of frames of sound: one track, one sample a frame (ISO/IEC 14496-14, 3.1 and 5.6; 14496-3, 4.5.1.1).
use Rattle.std.specs.Prelude.{ℕ, ◌+◌, ◌*◌, pos, true, List, [], ◌∷◌, codes, None}
use Rattle.mp_timeline.specs.Movie.{SampleRecord, TrackRecord, MovieRecord}
use Rattle.mp_timeline.specs.Plain.{plain_movie_head, plain_track_head}
use Rattle.adts_import.specs.declared.header.Configuration.{Configuration}
use Rattle.adts_import.specs.Entry.{frequency, entry_bytes}
use Rattle.adts_import.specs.Frame.{payload}

-- the payload of frame k, from 0: it lasts 1024 samples of sound, and is decoded by itself
abbrev pub sample : ℕ → List ℕ → SampleRecord
sample k bytes = record { bytes = bytes; decode = k * 1024; dur = 1024; comp = pos (k * 1024); sync = true; entry = 1 }

-- the samples of the frames from number k on
unfoldable pub samples_from : ℕ → List (List ℕ) → List SampleRecord
samples_from k [] = []
samples_from k (frame ∷ frames) = sample k (payload frame) ∷ samples_from (k + 1) frames

-- a track of sound with one entry, ticking with the samples of sound
abbrev pub sound_track : Configuration → List SampleRecord → TrackRecord
sound_track configuration samples = record {
  number = 1;
  head = plain_track_head (codes "soun");
  scale = frequency configuration;
  entries = entry_bytes configuration ∷ [];
  samples = samples;
  edits = None;
}

-- a movie of one such track, in milliseconds
unfoldable pub sound_movie : Configuration → List SampleRecord → MovieRecord
sound_movie configuration samples = record { scale = 1000; head = plain_movie_head; tracks = sound_track configuration samples ∷ [] }

-- the movie of frames of one configuration
abbrev pub movie_of : Configuration → List (List ℕ) → MovieRecord
movie_of configuration frames = sound_movie configuration (samples_from 0 frames)
