-- What the definitions of takes as files come to: each field stands at its place, a file is a RIFF WAVE file, and what was written is read back. Assumes nothing.
use Prim.Native.Nat.{ℕ, ◌+◌, ◌*◌, ◌%◌, ◌^◌, ◌≤◌, ◌<◌}
use mathlib.Core.Path.{◌≡◌, refl, sym, ap, ◌∙◌}
use mathlib.Core.Bool.{Bool, true, ◌&&◌}
use mathlib.Core.List.{List, [], ◌∷◌, ◌++◌, append-nil}
use mathlib.Core.Logic.{◌↔◌}
use native.Mathlib.Omega.{arith}
use borrow.Author.Tests.{leb-true, leb-false, lt-ltb, le-ltb}
use lib.Dec.{eqb, leb, ltb}
use lib.ListN.{length, take, drop, take-append-drop}
use lib.Seq.{take_at, drop_at, take-append_seam}
use Rattle.word.specs.Value.{bytes_of}
use Rattle.word.specs.Place.{word_at, store_at}
use Rattle.format.proofs.Computed.{every}
use Rattle.word.proofs.Value.{value-bytes}
use Rattle.word.proofs.Choices.{by-test, by_first, chosen}
use Rattle.wav.specs.Header.{Field, header_size, channels, sample_bits, fields, header_of}
use Rattle.wav.specs.Files.{size_limit, storable, file_of, rate_in, frames_in, is_file, Fill, fill_out, filled_of, refused_of, fill_of, write_of, read_of}
use Rattle.wav.specs.Riff.{chunk, pcm_format, riff_letters, data_letters, form_of, wave_of}
use Rattle.wav.proofs.Headers.{length-header}
use Rattle.wav.proofs.Same.{same_refl}
use Rattle.wav.proofs.Files.{storable-says, file-header, file-allowed, file-storable, fill-whole, length-file}

-- ---- the header

-- each field begins where the one before it ends, the first at the start and the last up to the end
abbrev tiles : ℕ → List Field → Bool
tiles at [] = eqb at header_size
tiles at (f ∷ fs) = eqb f.place at && tiles (at + f.width) fs

pub tiled : (rate size : ℕ) → tiles 0 (fields rate size) ≡ true
tiled rate size = refl

-- the header is the fields' bytes, one field behind the other
abbrev in_order : List Field → List ℕ
in_order [] = []
in_order (f ∷ fs) = bytes_of f.width f.value ++ in_order fs

pub in_order_lem : (rate size : ℕ) → header_of rate size ≡ in_order (fields rate size)
unfolding header_of store_at
in_order_lem rate size = refl

-- of what may be stored no field is cut
pub uncut : (rate size : ℕ) → storable rate size ≡ true → every (λ f. ltb f.value (256 ^ f.width)) (fields rate size) ≡ true
uncut rate size h =
    let s = storable-says rate size h in
    let slow : rate ≤ 96_000 = s.slow in
    let small : size ≤ size_limit = s.small in
    rw (lt-ltb (36 + size) (2 ^ 32) (omega arith), lt-ltb rate (2 ^ 32) (omega arith), lt-ltb (rate * 4) (2 ^ 32) (omega arith), lt-ltb size (2 ^ 32) (omega arith))

-- the limit is the largest size of whole frames with which the size of the file behind its first eight bytes fits 32 bits
pub limit-exact : (size : ℕ) → size % 4 ≡ 0 → leb size size_limit ≡ ltb (36 + size) (2 ^ 32)
limit-exact size whole =
    by-test (leb size size_limit)
    (λ t. let small : size ≤ size_limit = leb-true _ _ t in t ∙ sym (lt-ltb (36 + size) (2 ^ 32) (omega arith)))
    (λ t. let large : size_limit < size = leb-false _ _ t in t ∙ sym (le-ltb (36 + size) (2 ^ 32) (omega arith)))

-- ---- the file

-- a chunk whose body is even ends with its body
chunk-even : (letters body : List ℕ) → length body % 2 ≡ 0 → chunk letters body ≡ letters ++ (bytes_of 4 (length body) ++ body)
chunk-even letters body even = rw (even, append-nil)

-- a file is RIFF's form WAVE of its frames: 16-bit stereo PCM
pub file-riff : (rate : ℕ) (frames : List ℕ) → storable rate (length frames) ≡ true → file_of rate frames ≡ wave_of channels rate sample_bits frames
unfolding header_of store_at
file-riff rate frames h =
    let whole : length frames % 4 ≡ 0 = (storable-says rate (length frames) h).whole in
    let form : List ℕ → List ℕ = form_of (pcm_format channels rate sample_bits) in
    let samples : List ℕ = data_letters ++ (bytes_of 4 (length frames) ++ frames) in
    let size : length (form samples) ≡ 36 + length frames = omega arith in
    sym
    (ap (λ (chunks : List ℕ). chunk riff_letters (form chunks)) (chunk-even data_letters frames (omega arith))
    ∙ chunk-even riff_letters (form samples) (omega arith)
    ∙ ap (λ (n : ℕ). riff_letters ++ (bytes_of 4 n ++ form samples)) size)

-- a file by hand
pub one-frame : file_of 88_200 (0x34 ∷ 0x12 ∷ 0xcc ∷ 0xff ∷ [])
    ≡ 0x52 ∷ 0x49 ∷ 0x46 ∷ 0x46 ∷ 0x28 ∷ 0 ∷ 0 ∷ 0 ∷ 0x57 ∷ 0x41 ∷ 0x56 ∷ 0x45
    ∷ 0x66 ∷ 0x6d ∷ 0x74 ∷ 0x20 ∷ 0x10 ∷ 0 ∷ 0 ∷ 0 ∷ 1 ∷ 0 ∷ 2 ∷ 0 ∷ 0x88 ∷ 0x58 ∷ 1 ∷ 0 ∷ 0x20 ∷ 0x62 ∷ 5 ∷ 0 ∷ 4 ∷ 0 ∷ 0x10 ∷ 0
    ∷ 0x64 ∷ 0x61 ∷ 0x74 ∷ 0x61 ∷ 4 ∷ 0 ∷ 0 ∷ 0 ∷ 0x34 ∷ 0x12 ∷ 0xcc ∷ 0xff ∷ []
unfolding header_of store_at
one-frame = refl

-- rate and frames of a file are those that were written
pub rate-in : (rate : ℕ) (frames : List ℕ) → rate ≤ 96_000 → rate_in (file_of rate frames) ≡ rate
unfolding header_of store_at word_at
rate-in rate frames slow = value-bytes 4 rate (omega arith)

pub frames-in : (rate : ℕ) (frames : List ℕ) → frames_in (file_of rate frames) ≡ frames
frames-in rate frames = drop_at (header_of rate (length frames)) frames header_size (length-header rate (length frames))

-- .. and what is written of what may be stored is a file
pub written-file : (rate : ℕ) (frames : List ℕ) → storable rate (length frames) ≡ true → is_file (file_of rate frames) ≡ true
unfolding is_file
written-file rate frames h =
    let slow = (storable-says rate (length frames) h).slow in
    rw (rate-in rate frames slow, frames-in rate frames, h, take_at (header_of rate (length frames)) frames header_size (length-header rate (length frames)))
    (same_refl (header_of rate (length frames)))

-- a file is what a write makes of its rate and frames
pub file-again : (file : List ℕ) → is_file file ≡ true → file_of (rate_in file) (frames_in file) ≡ file
file-again file h = rw (← file-header file h) (take-append-drop header_size file)

-- the bytes that are read are exactly the files of what may be stored
pub exact : (file : List ℕ) → (is_file file ≡ true) ↔ ((rate : ℕ) × (frames : List ℕ) × (storable rate (length frames) ≡ true) × (file ≡ file_of rate frames))
exact file = (
  λ h. (rate_in file, frames_in file, file-allowed file h, sym (file-again file h)),
  λ k. let (rate, frames, h, e) = k in rw e (written-file rate frames h),
)

-- ---- the calls

-- what may be stored is written where there is space for it, and a file is read
pub writes : (rate : ℕ) (frames into : List ℕ) → storable rate (length frames) ≡ true → length (file_of rate frames) ≤ length into
    → write_of rate frames into ≡ fill_out (filled_of 0 rate (length (file_of rate frames))) (file_of rate frames ++ drop (length (file_of rate frames)) into)
unfolding write_of
writes rate frames into h room = rw h (sym (fill-whole rate (file_of rate frames) into room))

pub reads : (file into : List ℕ) → is_file file ≡ true → length (frames_in file) ≤ length into
    → read_of file into ≡ fill_out (filled_of 0 (rate_in file) (length (frames_in file))) (frames_in file ++ drop (length (frames_in file)) into)
unfolding read_of
reads file into h room = rw h (sym (fill-whole (rate_in file) (frames_in file) into room))

-- reading what was written gives the same rate and frames, at every listed rate and for every length that is allowed
pub read-written : (rate : ℕ) (frames into back : List ℕ) → storable rate (length frames) ≡ true → length (file_of rate frames) ≤ length into → length frames ≤ length back
    → (let w = write_of rate frames into in read_of (take w.filled.count w.into) back)
    ≡ fill_out (filled_of 0 rate (length frames)) (frames ++ drop (length frames) back)
read-written rate frames into back h room more =
    let file : List ℕ = file_of rate frames in
    let slow = (storable-says rate (length frames) h).slow in
    rw (writes rate frames into h room, take-append_seam file (drop (length file) into))
    (rw (rate-in rate frames slow, frames-in rate frames) at (reads file back (written-file rate frames h) (rw (frames-in rate frames) more)))

-- a file that was read, written out again, is the same bytes
pub written-again : (file into out : List ℕ) → is_file file ≡ true → length (frames_in file) ≤ length into → length file ≤ length out
    → (let r = read_of file into in write_of r.filled.rate (take r.filled.count r.into) out)
    ≡ fill_out (filled_of 0 (rate_in file) (length file)) (file ++ drop (length file) out)
written-again file into out h room more =
    rw (reads file into h room, take-append_seam (frames_in file) (drop (length (frames_in file)) into))
    (rw (file-again file h) at (writes (rate_in file) (frames_in file) out (file-allowed file h) (rw (file-again file h) more)))

-- what is answered: a number of one byte, no more bytes than the largest file has, and no higher rate than the box has
pub record Small (f : Fill) : Type 0 where
  pub number : f.filled.number ≤ 14
  pub count : f.filled.count ≤ header_size + size_limit
  pub rate : f.filled.rate ≤ 96_000

refused-small : (number : ℕ) (into : List ℕ) → number ≤ 14 → Small (refused_of number into)
refused-small number into h = record { number = h; count = omega arith; rate = omega arith }

fill-small : (rate : ℕ) (bytes into : List ℕ) → rate ≤ 96_000 → length bytes ≤ header_size + size_limit → Small (fill_of rate bytes into)
fill-small rate bytes into slow few =
    chosen Small (ltb (length into) (length bytes)) (refused-small 14 into (omega arith)) (record { number = omega arith; count = few; rate = slow })

pub write-small : (rate : ℕ) (frames into : List ℕ) → Small (write_of rate frames into)
unfolding write_of
write-small rate frames into =
    by_first Small (storable rate (length frames))
    (λ h.
    let s = storable-says rate (length frames) h in
    fill-small rate (file_of rate frames) into s.slow (omega (arith, s.small, length-file rate frames)))
    (refused-small 13 into (omega arith))

pub read_small : (file into : List ℕ) → Small (read_of file into)
unfolding read_of
read_small file into =
    by_first Small (is_file file)
    (λ h. let s = file-storable file h in fill-small (rate_in file) (frames_in file) into s.slow (omega (arith, s.small)))
    (refused-small 13 into (omega arith))
