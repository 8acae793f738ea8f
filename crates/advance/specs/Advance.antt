-- `advance`: the clock, the commands, every stream's turn in order, the interrupt (document 01, "`advance`, `write`, configuration, snapshot" and "Numbers
-- returned", 1; the Rust's `Hda::advance`).
use Rattle.std.specs.Prelude.{ℕ, Bool, false, cond, not, ◌||◌, List}
use Rattle.word.specs.Place.{store_at}
use Rattle.clock.specs.declared.Clock.{Clock}
use Rattle.clock.specs.Clock as clock
use Rattle.registers.specs.Places.{gctl, walclk, byte_at, has, dma_of}
use Rattle.device.specs.declared.Hda.{Hda}
use Rattle.device.specs.declared.Answer.{Answer}
use Rattle.device.specs.Devices.{with_regs, with_clock}
use Rattle.device.specs.Machines.{Machine, Done, done_of, unchanged, checked, finished, with_commanded, commanded_of}
use Rattle.record.specs.Loads.{device_at}
use Rattle.serve.specs.Serve.{Turns, turns_of, serve_of}
use Rattle.advance.specs.declared.Advanced.{Advanced}

-- the wall clock, and register 0x30, which shows it
abbrev pub ticked : Hda → Clock → Hda
ticked d c = with_clock (with_regs d (store_at 4 walclk (clock.shown_of c) d.regs)) c

unfoldable pub ticked_of : ℕ → Hda → Hda
ticked_of nanos d = ticked d (clock.advance_of d.clock nanos)

-- 1 where an opening was refused: what the turns did before it stands
abbrev pub number_of : Bool → ℕ
number_of refused = cond refused 1 0

abbrev pub served_of : Turns → Done
served_of w = finished (number_of w.refused) w.machine

-- with the clock and the commands done, the streams where DMA may run
unfoldable pub after_commands : ℕ → Machine → Done
after_commands nanos x = cond (dma_of x.hda.config x.hda.regs) (served_of (serve_of nanos x)) (finished 0 x)

-- paused, or in reset
abbrev pub still_of : Hda → Bool
still_of d = d.paused || not (has 1 (byte_at d.regs gctl))

-- nothing happens then
unfoldable pub advance_step : ℕ → Machine → Done
advance_step nanos x =
    cond (still_of x.hda) (unchanged 0 x)
    (after_commands nanos (with_commanded x x.host (commanded_of (ticked_of nanos x.hda) x.memory)))

unfoldable pub advance_of : ℕ → Machine → Done
advance_of nanos x = checked (advance_step nanos) x

-- ---- on a device in its record
-- the code's answer with the device that stands there, and all that a call leaves
abbrev pub answer_in : Advanced → List ℕ → Answer
answer_in a device = record { number = a.number; level = a.level; msi = a.msi; hda = device_at device; host = a.host }

abbrev pub done_in : Advanced → List ℕ → List ℕ → List ℕ → List ℕ → Done
done_in a device lists queues memory = done_of (answer_in a device) lists queues memory

-- the streams' turns alone
abbrev pub turns_where : ℕ → Machine → Turns
turns_where nanos x = cond (dma_of x.hda.config x.hda.regs) (serve_of nanos x) (turns_of false x)
