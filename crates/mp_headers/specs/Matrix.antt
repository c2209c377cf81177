-- The matrix of a movie and of its tracks (ISO/IEC 14496-12, 8.2.2 and 8.3.2).
use Rattle.std.specs.Prelude.{ℕ}

-- the length of a matrix: nine numbers of 32 bits
abbrev pub matrix_len : ℕ
matrix_len = 36
