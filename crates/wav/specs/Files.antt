-- Takes as files (T-02): written into lent space, and read back out of exactly the bytes that a write makes.
use Rattle.std.specs.Prelude.{ℕ, ◌%◌, Bool, true, false, cond, ◌&&◌, List, [], ◌∷◌, ◌++◌, Result, Ok, Err, eqb, leb, ltb, length, take, drop}
use Rattle.word.specs.Place.{word_at}
use Rattle.format.specs.Format.{rates, among}
use Rattle.refusal.specs.declared.Refusal.{Refusal}
use Rattle.refusal.specs.Refusals.{number_of}
use Rattle.wav.specs.declared.Written.{Written}
use Rattle.wav.specs.Header.{header_size, frame_size, header_of}

-- bytes of frames that a file holds at most: the largest whole frames with which the RIFF size fits 32 bits
abbrev pub size_limit : ℕ
size_limit = 4_294_967_256

-- a rate that the format rule yields, and whole frames up to the limit; else 13
abbrev pub storable : ℕ → ℕ → Bool
storable rate size = among rate rates && (eqb (size % frame_size) 0 && leb size size_limit)

-- the file of some frames: the header, and the frames
abbrev pub file_of : ℕ → List ℕ → List ℕ
file_of rate frames = header_of rate (length frames) ++ frames

-- what a file holds: the rate that its header says, and the frames behind the header
abbrev pub rate_in : List ℕ → ℕ
rate_in file = word_at 4 24 file

abbrev pub frames_in : List ℕ → List ℕ
frames_in file = drop header_size file

-- whether two lists have the same numbers
abbrev pub same : List ℕ → List ℕ → Bool
same [] [] = true
same [] (y ∷ ys) = false
same (x ∷ xs) [] = false
same (x ∷ xs) (y ∷ ys) = eqb x y && same xs ys

-- a file of this layout: the header is, byte for byte, the one of its rate and of the frames behind it; else 13
unfoldable pub is_file : List ℕ → Bool
is_file file =
    storable (rate_in file) (length (frames_in file))
    && same (take header_size file) (header_of (rate_in file) (length (frames_in file)))

-- what a call answers: its number, the frames a second of the take, and how many bytes it wrote
pub record Filled : Type 0 where
  pub number : ℕ
  pub rate : ℕ
  pub count : ℕ

-- .. and the lent space after it
pub record Fill : Type 0 where
  pub filled : Filled
  pub into : List ℕ

abbrev pub fill_out : Filled → List ℕ → Fill
fill_out filled into = record { filled = filled; into = into }

abbrev pub filled_of : ℕ → ℕ → ℕ → Filled
filled_of number rate count = record { number = number; rate = rate; count = count }

-- a refusal wrote none and has no rate
abbrev pub filled_by : Result Written Refusal → Filled
filled_by (Ok written) = filled_of 0 written.rate written.count
filled_by (Err refusal) = filled_of (number_of refusal) 0 0

-- a refusal leaves the lent space as it was
abbrev pub refused_of : ℕ → List ℕ → Fill
refused_of number into = fill_out (filled_of number 0 0) into

-- bytes from the start of the lent space on, whose rest stays; 14 where it is too small
abbrev pub fill_of : ℕ → List ℕ → List ℕ → Fill
fill_of rate bytes into =
    cond (ltb (length into) (length bytes)) (refused_of 14 into) (fill_out (filled_of 0 rate (length bytes)) (bytes ++ drop (length bytes) into))

unfoldable pub write_of : ℕ → List ℕ → List ℕ → Fill
write_of rate frames into = cond (storable rate (length frames)) (fill_of rate (file_of rate frames) into) (refused_of 13 into)

unfoldable pub read_of : List ℕ → List ℕ → Fill
read_of file into = cond (is_file file) (fill_of (rate_in file) (frames_in file) into) (refused_of 13 into)
