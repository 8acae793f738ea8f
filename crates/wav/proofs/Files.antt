-- What the code's tests say of a file, and what its copies come to. Assumes nothing.
use Prim.Native.Nat.{ℕ, ◌+◌, ◌-◌, ◌%◌, ◌≤◌, ◌<◌}
use mathlib.Core.Path.{◌≡◌, sym, ap, ◌∙◌}
use mathlib.Core.Bool.{true, false, ◌&&◌, not-eq-not}
use mathlib.Core.List.{List, ◌++◌, append_assoc}
use native.Mathlib.Omega.{arith}
use borrow.Author.Tests.{eqb-true, leb-true, lt-ltb, le-ltb}
use lib.Dec.{eqb, leb, leb→le}
use lib.ListN.{length, take, drop, length-append, length-take, length-drop}
use lib.Seq.{take-length, take-append_seam, drop-append-add, drop-drop}
use Rattle.word.specs.Place.{word_at, put_at}
use Rattle.word.proofs.Choices.{left, right}
use Rattle.format.specs.Format.{rates, among}
use Rattle.format.proofs.Theorems.{on_list}
use Rattle.wav.specs.Header.{header_size, header_of}
use Rattle.wav.specs.Files.{size_limit, storable, file_of, rate_in, frames_in, same, is_file, fill_out, filled_of, refused_of, fill_of, write_of, read_of}
use Rattle.wav.proofs.Headers.{length-header}
use Rattle.wav.proofs.Same.{same→eq}

-- ---- what may be stored

pub record Storable (rate size : ℕ) : Type 0 where
  pub slow : rate ≤ 96_000
  pub whole : size % 4 ≡ 0
  pub small : size ≤ size_limit

pub storable-says : (rate size : ℕ) → storable rate size ≡ true → Storable rate size
storable-says rate size h =
    let listed = left (among rate rates) (eqb (size % 4) 0 && leb size size_limit) h in
    let sized = right (among rate rates) (eqb (size % 4) 0 && leb size size_limit) h in
    record {
      slow = leb→le rate 96_000 (on_list (λ r. leb r 96_000) rate rates tt listed);
      whole = eqb-true (size % 4) 0 (left (eqb (size % 4) 0) (leb size size_limit) sized);
      small = leb-true size size_limit (right (eqb (size % 4) 0) (leb size size_limit) sized);
    }

-- ---- which bytes are a file

-- its header, and what it may hold
pub file-header : (file : List ℕ) → is_file file ≡ true → take header_size file ≡ header_of (rate_in file) (length (frames_in file))
unfolding is_file
file-header file h = same→eq _ _ (right (storable (rate_in file) (length (frames_in file))) _ h)

pub file-allowed : (file : List ℕ) → is_file file ≡ true → storable (rate_in file) (length (frames_in file)) ≡ true
unfolding is_file
file-allowed file h = left (storable (rate_in file) (length (frames_in file))) _ h

pub file-storable : (file : List ℕ) → is_file file ≡ true → Storable (rate_in file) (length (frames_in file))
file-storable file h = storable-says _ _ (file-allowed file h)

pub file-long : (file : List ℕ) → is_file file ≡ true → header_size ≤ length file
file-long file h = omega (arith, ap length (file-header file h), length-header (rate_in file) (length (frames_in file)), length-take header_size file)

pub short-refused : (file : List ℕ) → length file < header_size → false ≡ is_file file
short-refused file short = sym ((not-eq-not {b = false}).0 (λ h. let long = file-long file h in omega arith))

-- the tests of a file that has a header
module _ (file : List ℕ) (rate : ℕ) (said : rate ≡ word_at 4 24 file) where
  pub unstorable-refused : storable rate (length file - header_size) ≡ false → false ≡ is_file file
  unfolding is_file
  unstorable-refused h = rw (← said, length-drop, h)

  pub file-begins : storable rate (length file - header_size) ≡ true → (first : List ℕ) → first ≡ header_of rate (length file - header_size)
      → same (take (length first) file) first ≡ is_file file
  unfolding is_file
  file-begins h first e = rw (← said, length-drop, h, e, length-header)

-- ---- the calls

-- bytes put behind those that fill a space from its start
behind : (first bytes into : List ℕ) → put_at (length first) bytes (first ++ drop (length first) into) ≡ (first ++ bytes) ++ drop (length (first ++ bytes)) into
unfolding put_at
behind first bytes into =
    rw (take-append_seam first, drop-append-add first, drop-drop (length bytes) (length first) into, length-append first bytes, append_assoc)

-- where the space is short, and where it is not
module _ (rate : ℕ) (bytes into : List ℕ) where
  pub fill-short : length into < length bytes → refused_of 14 into ≡ fill_of rate bytes into
  fill-short h = rw (lt-ltb _ _ h)

  pub fill-whole : length bytes ≤ length into → fill_out (filled_of 0 rate (length bytes)) (bytes ++ drop (length bytes) into) ≡ fill_of rate bytes into
  fill-whole h = rw (le-ltb _ _ h)

pub length-file : (rate : ℕ) (frames : List ℕ) → length (file_of rate frames) ≡ header_size + length frames
length-file rate frames = length-append (header_of rate (length frames)) frames ∙ rw length-header

module _ (rate : ℕ) (frames into : List ℕ) where
  pub write-refused : storable rate (length frames) ≡ false → refused_of 13 into ≡ write_of rate frames into
  unfolding write_of
  write-refused h = rw h

  module _ (h : storable rate (length frames) ≡ true) where
    pub write-short : length into < header_size + length frames → refused_of 14 into ≡ write_of rate frames into
    unfolding write_of
    write-short short = rw h (fill-short rate (file_of rate frames) into (omega (arith, length-file rate frames)))

    -- the header copied over the start of the space, and the frames put behind it
    pub write-whole : (first after : List ℕ) → first ≡ header_of rate (length frames) → header_size + length frames ≤ length into
        → after ≡ take (length first) first ++ drop (length first) into
        → fill_out (filled_of 0 rate (header_size + length frames)) (put_at header_size frames after) ≡ write_of rate frames into
    unfolding write_of
    write-whole first after ef room ea =
        let header : List ℕ = header_of rate (length frames) in
        let filled : after ≡ header ++ drop (length header) into = ea ∙ rw (take-length first, ef) in
        let put : put_at header_size frames after ≡ file_of rate frames ++ drop (length (file_of rate frames)) into =
        rw (filled, ← length-header rate (length frames)) (behind header frames into) in
        rw (h, put, ← length-file rate frames) (fill-whole rate (file_of rate frames) into (omega (arith, length-file rate frames)))

module _ (file into : List ℕ) where
  pub read-refused : is_file file ≡ false → refused_of 13 into ≡ read_of file into
  unfolding read_of
  read-refused h = rw h

  module _ (h : is_file file ≡ true) where
    pub read_short : length into < length file - header_size → refused_of 14 into ≡ read_of file into
    unfolding read_of
    read_short short = rw h (fill-short (rate_in file) (frames_in file) into (omega (arith, length-drop header_size file)))

    -- the frames copied over the start of the space
    pub read_whole : (frames after : List ℕ) → frames ≡ frames_in file → length file - header_size ≤ length into
        → after ≡ take (length frames) frames ++ drop (length frames) into
        → fill_out (filled_of 0 (rate_in file) (length file - header_size)) after ≡ read_of file into
    unfolding read_of
    read_whole frames after ef room ea =
        rw (h, ea, take-length frames, ef, ← length-drop header_size file) (fill-whole (rate_in file) (frames_in file) into (omega (arith, length-drop header_size file)))
