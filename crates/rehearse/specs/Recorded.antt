-- A recorded call, and what is made of it.
use Rattle.std.specs.Prelude.{ℕ, ◌+◌, ◌%◌, ◌^◌, Bool, true, cond, ◌&&◌, List, ◌==◌, nat_le, slice_index}
use Rattle.word.specs.Place.{word_at}
use Rattle.rehearse.specs.declared.call.Call.{Call}
use Rattle.rehearse.specs.declared.play.Tally.{Tally}

-- the tag is the kind, and 128 more where the amended Rust answered
unfoldable pub call_at : ℕ → List ℕ → Call
call_at at b = record {
  tag = slice_index b at;
  kind = slice_index b at % 128;
  count = word_at 2 (at + 1) b;
  room = word_at 4 (at + 3) b;
  first = word_at 8 (at + 7) b;
  second = word_at 8 (at + 15) b;
  reply = word_at 8 (at + 23) b;
  digest = word_at 4 (at + 31) b;
}

-- a call is as recorded if it returns the same, and all that is then held has the same digest
abbrev pub agrees_of : Call → ℕ → ℕ → Bool
agrees_of c reply digest = c.reply == reply && c.digest == digest

-- counts have 64 bits
abbrev pub next_if : Bool → ℕ → ℕ
next_if more count = cond more ((count + 1) % 2 ^ 64) count

-- one call more; kind 0 starts a sequence
abbrev pub counted_of : Tally → ℕ → Bool → Tally
counted_of t tag same = record {
  calls = next_if true t.calls;
  sequences = next_if (tag % 128 == 0) t.sequences;
  amended = next_if (nat_le 128 tag) t.amended;
  same = same;
}

-- kind 1 says how long guest memory is from then on
abbrev pub length_of : Call → ℕ → ℕ
length_of c length = cond (c.kind == 1) c.first length
