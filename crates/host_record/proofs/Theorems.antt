-- A host end's bytes and the host end in them: each is had back from the other. Assumes nothing.
use Prim.Native.Nat.{ℕ, ◌+◌, ◌≤◌, ◌<◌}
use mathlib.Core.Path.{◌≡◌, refl, sym, ◌∙◌}
use mathlib.Core.Bool.{true, ◌&&◌}
use mathlib.Core.List.{List, [], ◌++◌, append-nil}
use native.Mathlib.Omega.{arith}
use native.Mathlib.Nat.{zero-add}
use borrow.Author.Tests.{eqb-true, eq-eqb}
use lib.Dec.{eqb}
use lib.ListN.{length, drop, drop_of_length-le}
use Rattle.word.proofs.Place.{word_bytes}
use Rattle.word.specs.Value.{Bytes}
use Rattle.word.specs.Place.{word_at}
use Rattle.word.proofs.Choices.{left, right}
use Rattle.stream.specs.Box.{streams}
use Rattle.queue.specs.declared.Queue.{Queue}
use Rattle.queue.specs.Queues.{closed}
use Rattle.host.specs.declared.Host.{Host}
use Rattle.host.specs.Hosts as hosts
use Rattle.record.specs.Devices.{flag}
use Rattle.record.specs.Loads.{flag_at, is_flag_at}
use Rattle.record.specs.Typed.{Fits}
use Rattle.record.proofs.Places.{part-further, word-there, byte-there, flag-value, flag_small, join-run, join-flag, row_at, row_list, row_same, runs-there, runs-join}
use Rattle.host_record.specs.Hosts.{queue_place, host_size, queue_bytes, queues_bytes, host_bytes, queue_at, queues_at, host_at, queues_flagged, is_host}
use Rattle.host_record.specs.Typed.{TypedHost}
use Rattle.host_record.proofs.Scan.{flagged-each, flagged-all}
use Rattle.host_record.proofs.Sizes.{length-host}

-- a queue whose bytes stand there, and the bytes of the queue that stands there
module _ (b : List ℕ) (at : ℕ) where
  queue-there : (q : Queue) → Fits 4 q.length → (rest : List ℕ) → drop at b ≡ queue_bytes q ++ rest → queue_at at b ≡ q
  queue-there q fits rest e =
      rw (byte-there b at (flag q.live) _ e, flag-value q.live, word-there b 4 (at + 1) q.length (part-further b at _ e 1 4) fits)

  join-queue : Bytes b → is_flag_at at b ≡ true → (next : ℕ) (rest : List ℕ) → next ≡ at + 5 → next ≤ length b → rest ≡ drop next b
      → queue_bytes (queue_at at b) ++ rest ≡ drop at b
  join-queue h f next rest p fits r =
      join-flag b at _ (omega arith) f (join-run b 4 (at + 1) next _ rest (word_bytes 4 (at + 1) b (omega arith) h) (omega arith) r)

-- ---- a host end's bytes
module _ (h : Host) where
  at-queues : drop 6 (host_bytes h) ≡ queues_bytes streams 0 h ++ []
  unfolding host_bytes
  at-queues = sym (append-nil (queues_bytes streams 0 h))

  queue-stands : (i : ℕ) → i < streams → (rest : List ℕ) × (drop (queue_place i) (host_bytes h) ≡ queue_bytes (hosts.queue_at h i) ++ rest)
  queue-stands i few =
      runs-there (host_bytes h) (λ (k : ℕ). queue_bytes (hosts.queue_at h k)) 6 5 streams (λ i. refl) streams 0 [] at-queues i (omega arith) (omega arith)

  -- they are a record
  queue-flagged : (i : ℕ) → i < streams → is_flag_at (queue_place i) (host_bytes h) ≡ true
  queue-flagged i few =
      let q : Queue = hosts.queue_at h i in
      rw (byte-there (host_bytes h) (queue_place i) (flag q.live) _ (queue-stands i few).1) (flag_small q.live)

  switches : is_flag_at 0 (host_bytes h) && (is_flag_at 1 (host_bytes h) && queues_flagged streams 0 (host_bytes h)) ≡ queues_flagged streams 0 (host_bytes h)
  unfolding host_bytes
  switches = rw (flag_small h.playback, flag_small h.capture)

  pub host-record : is_host (host_bytes h) ≡ true
  unfolding is_host
  host-record = rw (eq-eqb _ _ (length-host h), switches) (flagged-all (host_bytes h) streams 0 (λ i from to. queue-flagged i (omega arith)))

  -- the host end is the one in its bytes
  module _ (t : TypedHost h) where
    queues-stored : queues_at streams 0 (host_bytes h) ≡ h.queues
    queues-stored =
        row_same (λ (k : ℕ). queue_at (queue_place k) (host_bytes h)) (hosts.queue_at h) streams
        (λ i few. let r = queue-stands i few in queue-there (host_bytes h) (queue_place i) (hosts.queue_at h i) (t.lengths i few) r.0 r.1)
        streams 0 (omega arith)
        ∙ row_list closed h.queues streams 0 (sym t.count)

    settings-stored : (flag_at 0 (host_bytes h) ≡ h.playback) × (flag_at 1 (host_bytes h) ≡ h.capture) × (word_at 4 2 (host_bytes h) ≡ h.downstream)
    unfolding host_bytes
    settings-stored = (flag-value h.playback, flag-value h.capture, word-there (host_bytes h) 4 2 h.downstream refl t.downstream)

    pub host-stored : host_at (host_bytes h) ≡ h
    unfolding host_at
    host-stored = let s = settings-stored in rw (s.0, s.1, s.2, queues-stored)

-- ---- the host end in a record
module _ (b : List ℕ) (r : is_host b ≡ true) (bytes : Bytes b) where
  parts : (length b ≡ host_size) × (is_flag_at 0 b ≡ true) × (is_flag_at 1 b ≡ true) × (queues_flagged streams 0 b ≡ true)
  unfolding is_host
  parts =
      let flags = right (eqb (length b) host_size) _ r in
      let later = right (is_flag_at 0 b) _ flags in (
        eqb-true (length b) host_size (left (eqb (length b) host_size) _ r),
        left (is_flag_at 0 b) _ flags,
        left (is_flag_at 1 b) _ later,
        right (is_flag_at 1 b) _ later,
      )

  size : length b ≡ host_size
  size = parts.0

  join-queues : queues_bytes streams 0 (host_at b) ++ [] ≡ drop 6 b
  unfolding host_at
  join-queues =
      let own : ℕ → Queue = λ k. queue_at (queue_place k) b in
      let none : length b ≤ queue_place streams = omega (arith, size) in
      runs-join b (λ (k : ℕ). queue_bytes (hosts.queue_at (host_at b) k)) 6 5 streams
      (λ i rest few e. rw (row_at closed own streams 0 i few, zero-add i)
      (join-queue b (queue_place i) bytes (flagged-each b streams 0 parts.3 i (omega arith) (omega arith)) (queue_place (i + 1)) rest (omega arith)
      (omega (arith, size)) e))
      streams 0 [] (omega arith) (sym (drop_of_length-le b none))

  -- the bytes are those of the host end in them
  pub host-loaded : host_bytes (host_at b) ≡ b
  unfolding host_bytes host_at
  host-loaded =
      join-flag b 0 _ (omega (arith, size)) parts.1
      (join-flag b 1 _ (omega (arith, size)) parts.2
      (join-run b 4 2 6 _ _ (word_bytes 4 2 b (omega (arith, size)) bytes) refl (sym (append-nil _) ∙ join-queues)))
