-- What the definitions of guest memory say, and what a copy out of memory or into it comes to. Assumes nothing.
use Prim.Native.Nat.{ℕ, ◌+◌, ◌%◌, ◌≤◌, ◌<◌}
use mathlib.Core.Path.{◌≡◌, refl, ap, ◌∙◌}
use mathlib.Core.List.{List}
use mathlib.Core.Bool.{Bool, true, false, cond}
use mathlib.Core.Logic.{◌⊎◌}
use native.Mathlib.Omega.{arith}
use borrow.Author.Tests.{leb-true, leb-false, le-leb, lt-leb}
use lib.ListN.{length, take, drop, get_or}
use Rattle.word.specs.Place.{put_at}
use Rattle.word.proofs.Puts.{length-put, put-there, put-part-elsewhere, put-byte-elsewhere}
use Rattle.word.proofs.Place.{word-join, word_byte}
use Rattle.std.specs.Prelude.{None, Some}
use Rattle.memory.specs.Memory.{Access, access_of, inside_of, read_of, write_of, entry_at, descriptor_of}

-- an access inside memory, and one that crosses its end
module _ (m : List ℕ) (address : ℕ) (bs : List ℕ) where
  pub read-inside : address + length bs ≤ length m → read_of m address bs ≡ access_of true (take (length bs) (drop address m))
  unfolding read_of
  read-inside h = rw (le-leb (address + length bs) (length m) h)

  pub read-outside : length m < address + length bs → read_of m address bs ≡ access_of false bs
  unfolding read_of
  read-outside h = rw (lt-leb (address + length bs) (length m) h)

  pub write-inside : address + length bs ≤ length m → write_of m address bs ≡ access_of true (put_at address bs m)
  unfolding write_of
  write-inside h = rw (le-leb (address + length bs) (length m) h)

  pub write-outside : length m < address + length bs → write_of m address bs ≡ access_of false m
  unfolding write_of
  write-outside h = rw (lt-leb (address + length bs) (length m) h)

module _ (m : List ℕ) (address : ℕ) where
  pub descriptor-inside : address + 16 ≤ length m → descriptor_of m address ≡ Some (entry_at m address)
  unfolding descriptor_of
  descriptor-inside h = rw (le-leb (address + 16) (length m) h)

  pub descriptor-outside : length m < address + 16 → descriptor_of m address ≡ None
  unfolding descriptor_of
  descriptor-outside h = rw (lt-leb (address + 16) (length m) h)

  -- the bit that asks for an interrupt is bit 0 of the descriptor's byte 12 (document 01, Stream transfer)
  pub flags-byte : address + 16 ≤ length m → (entry_at m address).flags % 2 ≡ get_or m (address + 12) 0 % 2
  unfolding entry_at
  flags-byte h =
      omega (arith, word-join 1 (address + 12) m (omega arith) 3, word_byte (address + 12) m (omega arith))

-- what holds of both outcomes of a write holds of it
pub write-cases : (m : List ℕ) (address : ℕ) (bs : List ℕ) (P : Access → Type 0)
    → (address + length bs ≤ length m → P (access_of true (put_at address bs m))) → (length m < address + length bs → P (access_of false m))
    → P (write_of m address bs)
unfolding write_of
write-cases m address bs P inside outside = go (inside_of m address (length bs)) refl
  where
    go : (b : Bool) → inside_of m address (length bs) ≡ b → P (cond b (access_of true (put_at address bs m)) (access_of false m))
    go true e = inside (leb-true (address + length bs) (length m) e)
    go false e = outside (leb-false (address + length bs) (length m) e)

module _ (m : List ℕ) (address : ℕ) (bs : List ℕ) where
  pub length-write : length (write_of m address bs).bytes ≡ length m
  length-write = write-cases m address bs (λ x. length x.bytes ≡ length m) (λ h. length-put address bs m h) (λ h. refl)

  -- what was written reads back
  pub read-written : (into : List ℕ) → length into ≡ length bs → address + length bs ≤ length m
      → read_of (write_of m address bs).bytes address into ≡ access_of true bs
  read-written into e h =
      ap (λ (x : Access). read_of x.bytes address into) (write-inside m address bs h)
      ∙ read-inside (put_at address bs m) address into (omega (arith, length-put address bs m h))
      ∙ ap (access_of true) (ap (λ (n : ℕ). take n (drop address (put_at address bs m))) e ∙ put-there address bs m h)

  -- a byte outside what is written stays, and so does a read of bytes outside it
  pub write-elsewhere : (i : ℕ) → (i < address) ⊎ (address + length bs ≤ i) → get_or (write_of m address bs).bytes i 0 ≡ get_or m i 0
  write-elsewhere i h =
      write-cases m address bs (λ x. get_or x.bytes i 0 ≡ get_or m i 0) (λ fits. put-byte-elsewhere address bs m fits i h) (λ _. refl)

  pub read-elsewhere : (i : ℕ) (into : List ℕ) → (i + length into ≤ address) ⊎ (address + length bs ≤ i)
      → read_of (write_of m address bs).bytes i into ≡ read_of m i into
  unfolding read_of
  read-elsewhere i into h =
      write-cases m address bs (λ x. read_of x.bytes i into ≡ read_of m i into)
      (λ fits. rw (length-put address bs m fits, put-part-elsewhere address bs m fits (length into) i h)) (λ _. refl)
