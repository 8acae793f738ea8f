-- What these calls return can be taken apart again: nothing of a take's length and rate is cut off, also of the largest file, whose length needs 33 bits. Assumes nothing.
use Prim.Native.Nat.{ℕ, ◌/◌, ◌%◌, ◌^◌, ◌≤◌, ◌<◌}
use mathlib.Core.Path.{◌≡◌, ap, ◌∙◌}
use mathlib.Core.Bool.{true}
use mathlib.Core.List.{List, ◌++◌}
use native.Mathlib.Omega.{arith}
use lib.ListN.{length, take, drop}
use Rattle.wav.specs.Files.{Filled}
use Rattle.wav.specs.Files as wav
use Rattle.wav.proofs.Files.{length-file}
use Rattle.wav.proofs.Theorems.{Small, write-small, read_small, writes}
use Rattle.wav.proofs.Theorems as files
use Rattle.reply.specs.Replies.{fill_reply_of}
use Rattle.reply.proofs.Theorems.{fill-number-returned, count-returned, rate-returned}
use Rattle.port_wav.specs.Calls.{filled_out, filled_of, write_of, read_of}

-- the parts of a reply, where include/hda.h takes them from: hda_number, hda_wav_bytes, hda_wav_rate
pub record Returned (reply : ℕ) (f : Filled) : Type 0 where
  pub number : reply % 256 ≡ f.number
  pub count : reply / 2 ^ 8 % 2 ^ 36 ≡ f.count
  pub rate : reply / 2 ^ 44 ≡ f.rate

returned : (f : wav.Fill) → Small f → Returned (filled_of f).reply f.filled
returned f s =
    let a = f.filled in
    let named : a.number < 256 = omega (arith, s.number) in
    let counted : a.count < 2 ^ 36 = omega (arith, s.count) in
    let rated : a.rate < 2 ^ 20 = omega (arith, s.rate) in
    record {
      number = fill-number-returned a.number a.count a.rate named counted rated;
      count = count-returned a.number a.count a.rate named counted rated;
      rate = rate-returned a.number a.count a.rate named counted rated;
    }

pub write-returned : (rate : ℕ) (frames into : List ℕ) → Returned (write_of rate frames into).reply (wav.write_of rate frames into).filled
unfolding write_of
write-returned rate frames into = returned (wav.write_of rate frames into) (write-small rate frames into)

pub read-returned : (file into : List ℕ) → Returned (read_of file into).reply (wav.read_of file into).filled
unfolding read_of
read-returned file into = returned (wav.read_of file into) (read_small file into)

-- the largest file
pub largest : (rate : ℕ) (frames into : List ℕ) → wav.storable rate (length frames) ≡ true → length frames ≡ 4_294_967_256 → 4_294_967_300 ≤ length into
    → (write_of rate frames into).reply / 2 ^ 8 % 2 ^ 36 ≡ 4_294_967_300
largest rate frames into h size room =
    let all : length (wav.file_of rate frames) ≡ 4_294_967_300 = omega (arith, length-file rate frames) in
    (write-returned rate frames into).count ∙ ap (λ (f : wav.Fill). f.filled.count) (writes rate frames into h (omega arith)) ∙ all

-- ---- there and back, by what a caller has: the space, of which the reply says how much was filled

pub read-written : (rate : ℕ) (frames into back : List ℕ) → wav.storable rate (length frames) ≡ true → length (wav.file_of rate frames) ≤ length into → length frames ≤ length back
    → (let w = write_of rate frames into in read_of (take (w.reply / 2 ^ 8 % 2 ^ 36) w.into) back)
    ≡ filled_out (fill_reply_of 0 (length frames) rate) (frames ++ drop (length frames) back)
unfolding write_of read_of
read-written rate frames into back h room more =
    rw (write-returned rate frames into).count (ap filled_of (files.read-written rate frames into back h room more))

pub written-again : (file into out : List ℕ) → wav.is_file file ≡ true → length (wav.frames_in file) ≤ length into → length file ≤ length out
    → (let r = read_of file into in write_of (r.reply / 2 ^ 44) (take (r.reply / 2 ^ 8 % 2 ^ 36) r.into) out)
    ≡ filled_out (fill_reply_of 0 (length file) (wav.rate_in file)) (file ++ drop (length file) out)
unfolding write_of read_of
written-again file into out h room more =
    let r = read-returned file into in
    rw (r.rate, r.count) (ap filled_of (files.written-again file into out h room more))
