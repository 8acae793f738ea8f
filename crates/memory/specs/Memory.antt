-- Guest memory: one lent buffer from guest address 0 (document 01, Host end, added). An access that crosses its end moves nothing
-- (document 01, Where port and Rust part). Sums are sums of naturals, so an address that would overflow 64 bits is simply outside.
use Rattle.std.specs.Prelude.{ℕ, ◌+◌, List, Bool, true, false, cond, length, take, drop, leb, Option, None, Some}
use Rattle.word.specs.Place.{put_at, word_at}
use Rattle.memory.specs.declared.Descriptor.{Descriptor}

-- what an access leaves: whether it moved, and the bytes that it may write (the reader's for a read, guest memory for a write)
pub record Access : Type 0 where
  pub moved : Bool
  pub bytes : List ℕ

abbrev pub access_of : Bool → List ℕ → Access
access_of moved bytes = record { moved = moved; bytes = bytes }

-- whether `count` bytes from `address` are all there
abbrev pub inside_of : List ℕ → ℕ → ℕ → Bool
inside_of m address count = leb (address + count) (length m)

-- as many bytes from `address` as `into` is long; else `into` as it was (the Rust's `read_slice`)
unfoldable pub read_of : List ℕ → ℕ → List ℕ → Access
read_of m address into =
    cond (inside_of m address (length into)) (access_of true (take (length into) (drop address m))) (access_of false into)

-- memory with `from` at `address`; else memory as it was (the Rust's `write_slice`)
unfoldable pub write_of : List ℕ → ℕ → List ℕ → Access
write_of m address from = cond (inside_of m address (length from)) (access_of true (put_at address from m)) (access_of false m)

-- the sixteen bytes of a buffer descriptor (HDA 1.0a 3.6.3): address of the buffer, its length in bytes, and a word of flags, of which
-- bit 0 asks for an interrupt on completion
unfoldable pub entry_at : List ℕ → ℕ → Descriptor
entry_at m address =
    record { address = word_at 8 address m; length = word_at 4 (address + 8) m; flags = word_at 4 (address + 12) m }

-- the buffer descriptor at `address` (document 01, Stream transfer). `None`: "memory or an address runs out", the transfer fails.
-- `Some`: the descriptor as read for this piece.
unfoldable pub descriptor_of : List ℕ → ℕ → Option Descriptor
descriptor_of m address = cond (inside_of m address 16) (Some (entry_at m address)) None
