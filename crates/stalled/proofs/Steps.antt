-- The callbacks, computed one by one. Assumes nothing.
use Prim.Native.Nat.{ℕ, zero, suc, ◌+◌, ◌≤◌, ◌<◌}
use mathlib.Core.Path.{◌≡◌, refl, sym, ap, subst, ◌∙◌}
use mathlib.Core.Bool.{false}
use native.Mathlib.Omega.{arith}
use borrow.Author.Tests.{ltb-true, ltb-false}
use lib.Dec.{ltb}
use lib.ListN.{replicate}
use Rattle.word.specs.Each.{each_of}
use Rattle.word.specs.Place.{put_at, word_at, store_at}
use Rattle.word.specs.Shift.{shift_of}
use Rattle.word.proofs.Choices.{by-test, Each, by-range}
use Rattle.clock.specs.Clock as clock
use Rattle.clock.specs.Frames.{accrue_of}
use Rattle.format.specs.Hda.{pcm_of}
use Rattle.format.specs.Format.{format_of}
use Rattle.codec.specs.Codecs.{live_of, connected_of}
use Rattle.memory.specs.Memory.{entry_at, descriptor_of}
use Rattle.positions.specs.Positions.{positions_of, rises_of, up_to_of, retire_of}
use Rattle.stream.specs.Streams as stream
use Rattle.stream.specs.Update as update
use Rattle.plan.specs.Plans.{ready_of, end_of, placed_of, entry_of, plan_of}
use Rattle.pieces.specs.Pieces.{done_of, piece_of, pieces_of}
use Rattle.queue.specs.Queues.{capacity, latency_of, put_of, take_of, take_into_of}
use Rattle.host.specs.Hosts as hosts
use Rattle.host.specs.Hosts.{queue_at, open_of}
use Rattle.transfer.specs.Transfers.{playback_of, transfer_of}
use Rattle.driver.specs.Calls.{playback_stream, frame_check_of, pull_of}
use Rattle.registers.specs.Places.{dma_of}
use Rattle.registers.specs.Reset.{reset_stream_of, reset_of}
use Rattle.configuration.specs.Configuration as configuration
use Rattle.rings.specs.Rings.{commands_of}
use Rattle.std.specs.Prelude.{None}
use Rattle.pci.specs.Interrupts as interrupts
use Rattle.turn.specs.Setups.{setup_of}
use Rattle.turn.specs.Engines.{publish_of, updated_of, frames_of, settled_of, round_of, rounds_of, served_of}
use Rattle.turn.specs.Turns.{open_stream_of, store_engine, turn_of}
use Rattle.device.specs.Devices as devices
use Rattle.device.specs.Machines as machines
use Rattle.device.specs.Machines.{Done}
use Rattle.serve.specs.Serve.{turn_at, serve_of}
use Rattle.advance.specs.Advance.{ticked_of, after_commands, advance_step, advance_of}
use Rattle.calls.specs.Calls.{left_of, after}
use Rattle.book.specs.Lists.{run}
use Rattle.catchup.specs.Callbacks.{steps_of, after_pull, before_advance, left_by, deferred_of, Running, Serves, Throughout}
use Rattle.catchup.specs.Claim.{least_pull}
use Rattle.stalled.specs.Stalled.{device_at, holding, queues, stalled_at, callback, callbacks}

-- the definitions that a callback computes through
everything : Unit {0}
unfolding each_of put_at word_at store_at shift_of clock.advance_of accrue_of pcm_of format_of live_of connected_of entry_at descriptor_of positions_of rises_of up_to_of retire_of stream.fresh_of stream.valid_of update.update_of ready_of end_of placed_of entry_of plan_of done_of piece_of pieces_of latency_of put_of take_of take_into_of hosts.valid_of hosts.check_of open_of playback_of transfer_of frame_check_of pull_of dma_of reset_stream_of reset_of configuration.fresh_of commands_of interrupts.sources_of interrupts.pending_of interrupts.level_of interrupts.update_of setup_of publish_of updated_of frames_of settled_of round_of rounds_of served_of open_stream_of store_engine turn_of devices.fresh_of devices.streams_valid devices.valid_of machines.check_of machines.answer_of machines.finish_of machines.commanded_of turn_at serve_of ticked_of after_commands advance_step advance_of after
everything = tt

-- what the `advance` of the callback before leaves
abbrev done_at : ℕ → Done
done_at k =
    let x = stalled_at k in
    machines.done_of (record { number = 0; level = false; msi = None; hda = x.hda; host = x.host }) x.lists x.queues x.memory

abbrev Steps : ℕ → Type 0
Steps k = advance_of 0 (before_advance callback (stalled_at k)) ≡ done_at (k + 1)

-- eight are as many as one declaration may compute
first : Each Steps 0 8
unfolding everything
first = (refl, (refl, (refl, (refl, (refl, (refl, (refl, (refl, tt))))))))

second : Each Steps 8 8
unfolding everything
second = (refl, (refl, (refl, (refl, (refl, (refl, (refl, (refl, tt))))))))

third : Each Steps 16 8
unfolding everything
third = (refl, (refl, (refl, (refl, (refl, (refl, (refl, (refl, tt))))))))

fourth : Each Steps 24 7
unfolding everything
fourth = (refl, (refl, (refl, (refl, (refl, (refl, (refl, tt)))))))

step : (k : ℕ) → k < 31 → Steps k
step k few =
    by-test (ltb k 8) (λ e. by-range Steps 0 8 first k (omega arith) (ltb-true k 8 e))
    (λ e. by-test (ltb k 16) (λ f. by-range Steps 8 8 second k (ltb-false k 8 e) (ltb-true k 16 f))
    (λ f. by-test (ltb k 24) (λ g. by-range Steps 16 8 third k (ltb-false k 16 f) (ltb-true k 24 g)) (λ g. by-range Steps 24 7 fourth k (ltb-false k 24 g) few)))

-- the machine that a callback leaves is the next one
next : (k : ℕ) → k < 31 → left_by callback (stalled_at k) ≡ stalled_at (k + 1)
unfolding after
next k few = ap left_of (step k few)

-- ---- and each serves the stream
taken : (pull_of (holding capacity) queues callback.into).fed.number ≡ 0
unfolding everything
taken = refl

untouched : (k : ℕ) → queue_at callback.advancing.host playback_stream ≡ queue_at (after_pull callback (stalled_at k)).host playback_stream
unfolding everything
untouched k = refl

running : (k : ℕ) → Running playback_stream (device_at k)
unfolding everything
running k = record { awake = refl; dma = refl; runs = refl }

serves : (k : ℕ) → k < 31 → Serves playback_stream least_pull callback (stalled_at k)
unfolding after
serves k few =
    record {
      asks = record { enough = omega arith; taken = taken; untouched = untouched k };
      running = running k;
      answered = ap (λ (r : Done). r.answer.number) (step k few);
    }

-- n of them, from the k-th on
all : (n k : ℕ) → k + n ≤ 31 → let cs = replicate n callback in Throughout playback_stream least_pull cs (stalled_at k) × (run (steps_of cs) (stalled_at k) ≡ stalled_at (k + n))
unfolding run
all zero k few = (tt, ap stalled_at (omega arith))
all (suc n) k few =
    let cs = replicate n callback in
    let e = next k (omega arith) in
    let r = all n (k + 1) (omega arith) in
    ((serves k (omega arith), subst (Throughout playback_stream least_pull cs) (sym e) r.0), ap (run (steps_of cs)) e ∙ r.1 ∙ ap stalled_at (omega arith))

pub throughout : Throughout playback_stream least_pull callbacks (stalled_at 0)
throughout = (all 31 0 (omega arith)).0

pub left : deferred_of playback_stream (run (steps_of callbacks) (stalled_at 0)) ≡ 256
left = ap (deferred_of playback_stream) (all 31 0 (omega arith)).1
