-- What the definitions of the calls give, by the tests that a call has made. Assumes nothing.
use Prim.Native.Nat.{ℕ, ◌≤◌, ◌<◌}
use mathlib.Core.Path.{◌≡◌}
use mathlib.Core.List.{List}
use borrow.Author.Tests.{lt-ltb, le-ltb}
use lib.ListN.{length}
use Rattle.gain.specs.Gain.{gain_of, amplified_of, one_pass_of, two_steps_of}
use Rattle.clock.specs.Clock.{advance_of}
use Rattle.codec.specs.Codecs.{verb_of}
use Rattle.codec.specs.Bytes.{codec_at}
use Rattle.leaves.specs.Calls.{lent_space, call_of, filled_of, hda_amplify_into_of, hda_amplify_then_copy_of, clock_in, store_clock, hda_clock_advance_of, answered_of, hda_verb_of}

module _ (pcm into : List ℕ) (left right : ℕ) where
  pub into-short : length pcm < length into → filled_of lent_space pcm into ≡ hda_amplify_into_of pcm into left right
  unfolding hda_amplify_into_of
  into-short h = rw (lt-ltb (length pcm) (length into) h)

  pub into-passed : length into ≤ length pcm → filled_of 0 pcm (one_pass_of (gain_of left) (gain_of right) pcm (length into)) ≡ hda_amplify_into_of pcm into left right
  unfolding hda_amplify_into_of
  into-passed h = rw (le-ltb (length pcm) (length into) h)

  pub copy-short : length pcm < length into → filled_of lent_space pcm into ≡ hda_amplify_then_copy_of pcm into left right
  unfolding hda_amplify_then_copy_of
  copy-short h = rw (lt-ltb (length pcm) (length into) h)

  pub copied : length into ≤ length pcm
      → filled_of 0 (amplified_of (gain_of left) (gain_of right) pcm) (two_steps_of (gain_of left) (gain_of right) pcm (length into)) ≡ hda_amplify_then_copy_of pcm into left right
  unfolding hda_amplify_then_copy_of
  copied h = rw (le-ltb (length pcm) (length into) h)

module _ (l : List ℕ) (nanos : ℕ) where
  pub clock-advanced : 16 ≤ length l → call_of 0 (store_clock (advance_of (clock_in l) nanos) l) ≡ hda_clock_advance_of l nanos
  unfolding hda_clock_advance_of
  clock-advanced h = rw (le-ltb (length l) 16 h)

module _ (codec : List ℕ) (command : ℕ) (reply : List ℕ) where
  pub verb-answered : 144 ≤ length codec → 4 ≤ length reply → answered_of (verb_of (codec_at 0 codec) command) codec reply ≡ hda_verb_of codec command reply
  unfolding hda_verb_of
  verb-answered room space = rw (le-ltb (length codec) 144 room, le-ltb (length reply) 4 space)
