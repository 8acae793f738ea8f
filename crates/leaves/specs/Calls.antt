-- What each C function over a leaf returns and leaves in the bytes lent to it, for any bytes of any lengths.
use Rattle.std.specs.Prelude.{ℕ, cond, not, ◌||◌, List, length, eqb, ltb, Option, None, Some}
use Rattle.word.specs.Place.{word_at, store_at}
use Rattle.gain.specs.Gain.{gain_of, amplified_of, one_pass_of, two_steps_of}
use Rattle.clock.specs.declared.Clock.{Clock}
use Rattle.clock.specs.Clock.{advance_of}
use Rattle.codec.specs.declared.Outcome.{Outcome}
use Rattle.codec.specs.Codecs.{verb_of, connected_of}
use Rattle.codec.specs.Bytes.{codec_at, store_codec_at}

-- document 01's number for lent space: too few bytes are lent, and nothing changes
abbrev pub lent_space : ℕ
lent_space = 10

-- what a call returns, and the bytes lent to it as it leaves them
pub record Call : Type 0 where
  pub number : ℕ
  pub bytes : List ℕ

abbrev pub call_of : ℕ → List ℕ → Call
call_of number bytes = record { number = number; bytes = bytes }

-- ---- frames amplified into other bytes
-- what either form returns, and both buffers as it leaves them
pub record Filled : Type 0 where
  pub number : ℕ
  pub pcm : List ℕ
  pub into : List ℕ

abbrev pub filled_of : ℕ → List ℕ → List ℕ → Filled
filled_of number pcm into = record { number = number; pcm = pcm; into = into }

-- `hda_amplify_into`, in one pass (T-03): the frames before gain stay
unfoldable pub hda_amplify_into_of : List ℕ → List ℕ → ℕ → ℕ → Filled
hda_amplify_into_of pcm into left right =
    cond (ltb (length pcm) (length into)) (filled_of lent_space pcm into) (filled_of 0 pcm (one_pass_of (gain_of left) (gain_of right) pcm (length into)))

-- `hda_amplify_then_copy`, in two steps: the frames are amplified where they stand, and copied
unfoldable pub hda_amplify_then_copy_of : List ℕ → List ℕ → ℕ → ℕ → Filled
hda_amplify_then_copy_of pcm into left right =
    cond (ltb (length pcm) (length into)) (filled_of lent_space pcm into) (filled_of 0 (amplified_of (gain_of left) (gain_of right) pcm) (two_steps_of (gain_of left) (gain_of right) pcm (length into)))

-- ---- the wall clock in 16 bytes: ticks, then fraction, as little-endian words (a saved state has the Rust's `wall_ticks` and `wall_fraction` so)
abbrev pub clock_in : List ℕ → Clock
clock_in l = record { ticks = word_at 8 0 l; fraction = word_at 8 8 l }

abbrev pub store_clock : Clock → List ℕ → List ℕ
store_clock c l = store_at 8 8 c.fraction (store_at 8 0 c.ticks l)

-- `hda_clock_advance`: the clock's part of the Rust's `Hda::advance`
unfoldable pub hda_clock_advance_of : List ℕ → ℕ → Call
hda_clock_advance_of l nanos = cond (ltb (length l) 16) (call_of lent_space l) (call_of 0 (store_clock (advance_of (clock_in l) nanos) l))

-- ---- the codec in 144 bytes
-- what `hda_verb` returns, and both buffers as it leaves them
pub record VerbCall : Type 0 where
  pub number : ℕ
  pub codec : List ℕ
  pub reply : List ℕ

abbrev pub verb_call_of : ℕ → List ℕ → List ℕ → VerbCall
verb_call_of number codec reply = record { number = number; codec = codec; reply = reply }

-- no reply: 0, and the bytes as they were; a reply: 1, and its word in the first four
abbrev pub replied_of : Option ℕ → List ℕ → Call
replied_of None l = call_of 0 l
replied_of (Some v) l = call_of 1 (store_at 4 0 v l)

-- a command's outcome, in the two buffers
abbrev pub answered_of : Outcome → List ℕ → List ℕ → VerbCall
answered_of o codec reply = verb_call_of (replied_of o.reply reply).number (store_codec_at 0 o.codec codec) (replied_of o.reply reply).bytes

-- `hda_verb`: the Rust's `Codec::verb`
unfoldable pub hda_verb_of : List ℕ → ℕ → List ℕ → VerbCall
hda_verb_of codec command reply =
    cond (ltb (length codec) 144 || ltb (length reply) 4) (verb_call_of lent_space codec reply)
    (answered_of (verb_of (codec_at 0 codec) command) codec reply)

-- `hda_connected`: the Rust's `Codec::connected`, 1 or 0; any byte but 0 is the input
unfoldable pub hda_connected_of : List ℕ → ℕ → ℕ → ℕ → ℕ
hda_connected_of codec input tag format =
    cond (ltb (length codec) 144) lent_space (cond (connected_of (codec_at 0 codec) (not (eqb input 0)) tag format) 1 0)
