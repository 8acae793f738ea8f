-- The digest of bytes and of all that is held after a call. rust/harness computes the same of what the Rust holds.
use Rattle.std.specs.Prelude.{ℕ, ◌+◌, ◌-◌, ◌*◌, ◌%◌, cond, List, [], ◌∷◌, length, take, drop, ◌==◌, nat_lt}
use Rattle.word.specs.Place.{word_at}
use Rattle.stream.specs.Streams.{list_size}

-- a polynomial modulo the largest prime below 2^32
abbrev pub step_of : ℕ → ℕ → ℕ
step_of sum byte = (sum * 16777619 + byte) % 4294967291

unfoldable pub digest_of : ℕ → List ℕ → ℕ
digest_of sum [] = sum
digest_of sum (b ∷ bs) = digest_of (step_of sum b) bs

-- a number of 4 bytes in a record, 0 where the record is too short
unfoldable pub number_of : ℕ → List ℕ → ℕ
number_of at b = cond (nat_lt (length b) 4) 0 (cond (nat_lt (length b - 4) at) 0 (word_at 4 at b))

-- `count` bytes of a space, or none where it does not have them
unfoldable pub part_of : ℕ → ℕ → ℕ → List ℕ → ℕ
part_of from count sum space =
    cond (nat_lt (length space) from) sum
    (cond (nat_lt (length space - from) count) sum
    (digest_of sum (take count (drop from space))))

-- the pending positions of both streams, whose counts are in the device record, and the queued bytes, whose counts are in that of the host end
-- (docs/LAYOUT.md)
abbrev pub pending_of : List ℕ → List ℕ → ℕ → ℕ
pending_of device lists sum = part_of list_size (8 * number_of 744 device) (part_of 0 (8 * number_of 710 device) sum lists) lists

abbrev pub queued_of : List ℕ → List ℕ → ℕ → ℕ
queued_of host queues sum = part_of 2048 (number_of 12 host) (part_of 0 (number_of 7 host) sum queues) queues

-- what a call gave, the records, the positions, the queued bytes
abbrev pub held_of : List ℕ → List ℕ → List ℕ → List ℕ → List ℕ → ℕ
held_of into device host lists queues = queued_of host queues (pending_of device lists (digest_of (digest_of (digest_of 1 into) device) host))

-- kind 3 looks at guest memory
abbrev pub looked_of : ℕ → List ℕ → List ℕ → List ℕ → List ℕ → List ℕ → List ℕ → ℕ
looked_of kind into device host lists queues memory = cond (kind == 3) (digest_of 1 memory) (held_of into device host lists queues)
