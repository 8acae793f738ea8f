-- The book computes. Assumes nothing.
use Prim.Native.Nat.{ℕ}
use mathlib.Core.Path.{◌≡◌, refl, sym, ap, ◌∙◌}
use mathlib.Core.Bool.{Bool, true, false, true≢false}
use mathlib.Core.List.{List, [], ◌∷◌}
use lib.ListN.{set, replicate}
use Rattle.word.specs.Place.{word_at, put_at, store_at}
use Rattle.word.specs.Each.{each_of}
use Rattle.std.specs.Prelude.{Option, None, Some}
use Rattle.format.specs.Hda.{pcm_of}
use Rattle.format.specs.Format.{format_of}
use Rattle.stream.specs.Box.{streams}
use Rattle.queue.specs.Queues.{closed}
use Rattle.host.specs.Hosts.{host, open_of}
use Rattle.registers.specs.Places.{gctl, ctl, fmt}
use Rattle.registers.specs.Reset.{reset_of, reset_stream_of}
use Rattle.turn.specs.Turns.{open_stream_of}
use Rattle.device.specs.Devices.{fresh_of, with_regs}
use Rattle.device.specs.Machines.{Machine, machine}
use Rattle.book.specs.Buffers.{Attempt}
use Rattle.book.specs.Corollaries.{Declined}
use Rattle.book.specs.Book.{book, reset, restored, moved, updated, refused, made, note, notes}

-- two flagged descriptors of 8 bytes each, at 0: a cyclic buffer of 16
abbrev memory : List ℕ
memory =
    32 ∷ 0 ∷ 0 ∷ 0 ∷ 0 ∷ 0 ∷ 0 ∷ 0 ∷ 8 ∷ 0 ∷ 0 ∷ 0 ∷ 1 ∷ 0 ∷ 0 ∷ 0 ∷ 40 ∷ 0 ∷ 0 ∷ 0 ∷ 0 ∷ 0 ∷ 0 ∷ 0 ∷ 8 ∷ 0 ∷ 0 ∷ 0 ∷ 1 ∷ 0 ∷ 0 ∷ 0 ∷ []

abbrev piece : ℕ → Attempt
piece left = record { base = 0; cyclic = 16; last = 1; left = left; memory = memory }

-- two flagged ends, the second in two pieces, of which the latency leaves one pending; an opening that is refused adds nothing
played : notes (moved (piece 8) ∷ moved (piece 4) ∷ updated 12 ∷ moved (piece 4) ∷ updated 6 ∷ refused ∷ []) made ≡ book 16 10 (8 ∷ 16 ∷ []) (8 ∷ []) (16 ∷ []) 0 0
unfolding note notes word_at
played = refl

-- from restored positions on, in the midst of a descriptor, and a reset
resumed : notes (restored 20 10 (12 ∷ 20 ∷ []) 1 4 ∷ moved (piece 400) ∷ updated 8 ∷ []) made ≡ book 24 16 (12 ∷ 20 ∷ 24 ∷ []) (12 ∷ []) (20 ∷ 24 ∷ []) 0 0
unfolding note notes word_at
resumed = refl

begun-again : notes (restored 20 10 (12 ∷ 20 ∷ []) 1 4 ∷ reset ∷ moved (piece 8) ∷ []) made ≡ book 8 0 (8 ∷ []) [] (8 ∷ []) 1 0
unfolding note notes word_at
begun-again = refl

-- ---- an opening that the host refuses in `advance`: a capture that runs at 48,000, out of reset, and a host end that is closed and fails to open it
abbrev running : List ℕ
running = set (set (set reset_of (fmt 0) 0x11) (ctl 0) 2) gctl 1

abbrev refusing : Machine
refusing = machine (with_regs (fresh_of true) running) (host false true 0 (replicate streams closed)) [] [] []

supported : Option ℕ → Bool
supported None = false
supported (Some rate) = true

accepted : supported (format_of (word_at 2 (fmt 0) running)) ≡ true
unfolding supported reset_of reset_stream_of store_at put_at each_of word_at format_of pcm_of
accepted = refl

declined : Declined 0 refusing
unfolding reset_of reset_stream_of store_at put_at each_of word_at open_stream_of open_of fresh_of supported
declined = record { runs = refl; format = λ e. true≢false (sym accepted ∙ ap supported e); closed = refl }
