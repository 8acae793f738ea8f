-- A feed and a pull keep the length of the lent queue space. Assumes nothing.
use Prim.Native.Nat.{ℕ, ◌+◌, ◌*◌, ◌<◌, ◌≤◌}
use mathlib.Core.Path.{◌≡◌, refl, ◌∙◌}
use mathlib.Core.List.{List}
use native.Mathlib.Omega.{arith}
use borrow.Author.Tests.{eqb-true}
use lib.Dec.{eqb}
use lib.ListN.{length}
use Rattle.word.specs.Parts.{part_of, with_part}
use Rattle.word.proofs.Choices.{by_cond}
use Rattle.word.proofs.Lists.{length_part}
use Rattle.word.proofs.Parts.{length-with-part}
use Rattle.stream.specs.Box.{streams}
use Rattle.queue.specs.Queues.{capacity, put_of, take_of, take_into_of}
use Rattle.queue.proofs.Contents.{length-put-part, length-take-part}
use Rattle.host.specs.declared.Host.{Host}
use Rattle.host.specs.Hosts.{queue_at}
use Rattle.driver.specs.Calls.{capture_stream, playback_stream, frame_check_of, Feed, feed_of, Pull, pull_of}
use Rattle.driver.proofs.Checks.{frames-room, frames-ready}

-- another part, as long as the one in its place
with-part-length : (i : ℕ) (space part : List ℕ) → i < streams → capacity * streams ≤ length space → length part ≡ length (part_of capacity i space)
    → length (with_part capacity i space part) ≡ length space
with-part-length i space part few room e =
    let fits : capacity * i + capacity ≤ length space = omega arith in
    length-with-part capacity i space part (e ∙ length_part capacity (capacity * i) space (omega arith)) fits

module _ (h : Host) (space : List ℕ) where
  pub length-feed : (frames : List ℕ) → length (feed_of h space frames).space ≡ length space
  unfolding feed_of
  length-feed frames =
      let number = frame_check_of h (length space) (length frames) in
      let i = capture_stream in
      by_cond (λ (a : Feed). length a.space ≡ length space) (eqb number 0) _ _
      (λ e.
      let passed = eqb-true number 0 e in
      let ready = frames-ready h space (length frames) passed i (omega arith) in
      with-part-length i space (put_of (queue_at h i) (part_of capacity i space) frames (length frames)).part (omega arith) (frames-room h space (length frames) passed)
      (length-put-part (queue_at h i) (part_of capacity i space) ready.0 ready.1 frames (length frames) (omega arith)))
      (λ _. refl)

  pub length-pull : (into : List ℕ) → length (pull_of h space into).space ≡ length space
  unfolding pull_of take_into_of
  length-pull into =
      let number = frame_check_of h (length space) (length into) in
      let i = playback_stream in
      by_cond (λ (a : Pull). length a.space ≡ length space) (eqb number 0) _ _
      (λ e.
      let passed = eqb-true number 0 e in
      let ready = frames-ready h space (length into) passed i (omega arith) in
      with-part-length i space (take_of (queue_at h i) (part_of capacity i space) (length into)).part (omega arith) (frames-room h space (length into) passed)
      (length-take-part (queue_at h i) (part_of capacity i space) ready.0 ready.1 (length into)))
      (λ _. refl)
