-- Takes as files on the bytes that a caller lends: the calls of crate wav, with what they answer as one number.
use Rattle.std.specs.Prelude.{ℕ, List}
use Rattle.wav.specs.Files as wav
use Rattle.reply.specs.Replies.{fill_reply_of}

-- what a call returns, and the lent space as it leaves it
pub record FilledBytes : Type 0 where
  pub reply : ℕ
  pub into : List ℕ

abbrev pub filled_out : ℕ → List ℕ → FilledBytes
filled_out reply into = record { reply = reply; into = into }

abbrev pub reply_of : wav.Filled → ℕ
reply_of f = fill_reply_of f.number f.count f.rate

abbrev pub filled_of : wav.Fill → FilledBytes
filled_of f = filled_out (reply_of f.filled) f.into

unfoldable pub write_of : ℕ → List ℕ → List ℕ → FilledBytes
write_of rate frames into = filled_of (wav.write_of rate frames into)

unfoldable pub read_of : List ℕ → List ℕ → FilledBytes
read_of file into = filled_of (wav.read_of file into)
