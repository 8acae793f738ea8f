-- The recorded answers of the Rust, and what the proved leaves answer: each layout gives the places of what a leaf was handed and of its answer. Numbers stand
-- with the lowest byte first. The letter in front of a record names the leaf, and says which Rust answered.
use Rattle.std.specs.Prelude.{ℕ, ◌+◌, ◌-◌, ◌*◌, Bool, true, false, cond, not, ◌&&◌, List, Option, None, Some, ◌++◌, length, take, drop, ◌==◌, nat_le, nat_lt, slice_index, slice_set}
use Rattle.word.specs.Place.{word_at, store_at}
use Rattle.format.specs.Format.{format_of, rate_of}
use Rattle.gain.specs.Gain.{gain_of, amplified_of}
use Rattle.codec.specs.declared.Outcome.{Outcome}
use Rattle.codec.specs.Codecs.{verb_of, connected_of}
use Rattle.codec.specs.Bytes.{codec_at, store_codec_at}
use Rattle.clock.specs.declared.Clock.{Clock}
use Rattle.clock.specs.Clock.{advance_of}
use Rattle.clock.specs.Frames.{accrue_of}

-- whether bytes are a record, and the record with the leaf's answer in the place of the recorded one
pub record Answered : Type 0 where
  pub known : Bool
  pub bytes : List ℕ

abbrev pub answered : Bool → List ℕ → Answered
answered k b = record { known = k; bytes = b }

-- a record of `n` bytes becomes `own`; any other bytes stay
abbrev pub sized : ℕ → List ℕ → List ℕ → Answered
sized n b own = cond (length b == n) (answered true own) (answered false b)

-- F: word (2 bytes), rate (4)
unfoldable pub format_answer : List ℕ → Answered
format_answer b = sized 6 b (store_at 4 2 (rate_of (format_of (word_at 2 0 b))) b)

-- A: left (1), right (1), length in bytes (2), samples, amplified samples
abbrev pub pcm_of : List ℕ → ℕ
pcm_of b = word_at 2 2 b

abbrev pub samples_of : List ℕ → List ℕ
samples_of b = take (pcm_of b) (drop 4 b)

unfoldable pub gain_answer : List ℕ → Answered
gain_answer b =
    cond (nat_lt (length b) 4) (answered false b)
    (sized (4 + 2 * pcm_of b) b (take (4 + pcm_of b) b ++ amplified_of (gain_of (slice_index b 0)) (gain_of (slice_index b 1)) (samples_of b)))

-- V: codec (144), command (4); how many words are replied (1), the word (4), the codec after it (144)
abbrev pub count_of : Option ℕ → ℕ
count_of None = 0
count_of (Some v) = 1

abbrev pub value_of : Option ℕ → ℕ
value_of None = 0
value_of (Some v) = v

abbrev pub store_outcome : Outcome → List ℕ → List ℕ
store_outcome o b = store_codec_at 153 o.codec (store_at 4 149 (value_of o.reply) (slice_set b 148 (count_of o.reply)))

unfoldable pub verb_answer : List ℕ → Answered
verb_answer b = sized 297 b (store_outcome (verb_of (codec_at 0 b) (word_at 4 144 b)) b)

-- K: codec (144), input (1), tag (1), format word (2); connected (1)
abbrev pub flag_of : Bool → ℕ
flag_of connected = cond connected 1 0

unfoldable pub connected_answer : List ℕ → Answered
connected_answer b =
    sized 149 b (slice_set b 148 (flag_of (connected_of (codec_at 0 b) (not (slice_index b 144 == 0)) (slice_index b 145) (word_at 2 146 b))))

-- C: ticks (8), fraction (8), nanoseconds (8); ticks (8), fraction (8)
abbrev pub store_clock : Clock → List ℕ → List ℕ
store_clock c b = store_at 8 32 c.fraction (store_at 8 24 c.ticks b)

unfoldable pub clock_answer : List ℕ → Answered
clock_answer b = sized 40 b (store_clock (advance_of (record { ticks = word_at 8 0 b; fraction = word_at 8 8 b }) (word_at 8 16 b)) b)

-- T: fraction (8), nanoseconds (8), rate (4); fraction (8)
unfoldable pub time_answer : List ℕ → Answered
time_answer b = sized 28 b (store_at 8 20 (accrue_of (word_at 4 16 b) (word_at 8 8 b) (word_at 8 0 b)) b)

-- by the leaf's letter, a capital
unfoldable pub leaf_answer : ℕ → List ℕ → Answered
leaf_answer leaf b =
    cond (leaf == 0x46) (format_answer b)
    (cond (leaf == 0x41) (gain_answer b)
    (cond (leaf == 0x56) (verb_answer b)
    (cond (leaf == 0x4b) (connected_answer b)
    (cond (leaf == 0x43) (clock_answer b)
    (cond (leaf == 0x54) (time_answer b)
    (answered false b))))))

-- a lower-case letter: the amended Rust, the one with the differences (rust/amended), answered, since the unchanged Rust answers otherwise; the leaf is that
-- of the capital
abbrev pub is_amended : ℕ → Bool
is_amended letter = nat_le 97 letter && nat_le letter 122

abbrev pub leaf_of : ℕ → ℕ
leaf_of letter = cond (is_amended letter) (letter - 32) letter

-- by the letter in front of the record
unfoldable pub answer_of : ℕ → List ℕ → Answered
answer_of letter b = leaf_answer (leaf_of letter) b
