-- A valid host end stays valid: by a feed, a pull and each setting. Assumes nothing.
use Prim.Native.Nat.{ℕ}
use mathlib.Core.Path.{◌≡◌}
use mathlib.Core.List.{List}
use mathlib.Core.Bool.{Bool, true}
use borrow.Author.Tests.{eqb-true}
use lib.ListN.{length}
use lib.Dec.{eqb}
use Rattle.word.specs.Parts.{part_of}
use Rattle.word.proofs.Choices.{right, by_cond}
use Rattle.queue.specs.Queues.{capacity, take_into_of}
use Rattle.queue.proofs.Validity.{put-valid, take-valid}
use Rattle.host.specs.declared.Host.{Host}
use Rattle.host.specs.Hosts.{host, queue_at, valid_downstream, valid_of, check_of}
use Rattle.host.proofs.Checks.{valid-queue}
use Rattle.host.proofs.Validity.{with-queue-valid}
use Rattle.driver.specs.Calls.{Set, capture_stream, playback_stream, frame_check_of, Feed, feed_of, Pull, pull_of, playback_fails_of, capture_fails_of, downstream_of}
use Rattle.driver.proofs.Checks.{frames-checked}

module _ (h : Host) (v : valid_of h ≡ true) where
  pub feed-valid : (space frames : List ℕ) → valid_of (feed_of h space frames).fed.host ≡ true
  unfolding feed_of
  feed-valid space frames =
      let number = frame_check_of h (length space) (length frames) in
      by_cond (λ (a : Feed). valid_of a.fed.host ≡ true) (eqb number 0) _ _
      (λ e. with-queue-valid h capture_stream _ v
      (put-valid (queue_at h capture_stream) (part_of capacity capture_stream space) (length frames) (valid-queue h v capture_stream)
      (frames-checked h (length space) (length frames) (eqb-true number 0 e)).whole frames))
      (λ _. v)

  pub pull-valid : (space into : List ℕ) → valid_of (pull_of h space into).fed.host ≡ true
  unfolding pull_of take_into_of
  pull-valid space into =
      let number = frame_check_of h (length space) (length into) in
      by_cond (λ (a : Pull). valid_of a.fed.host ≡ true) (eqb number 0) _ _
      (λ e. with-queue-valid h playback_stream _ v
      (take-valid (queue_at h playback_stream) (part_of capacity playback_stream space) (length into) (valid-queue h v playback_stream)
      (frames-checked h (length space) (length into) (eqb-true number 0 e)).whole))
      (λ _. v)

  module _ (space : ℕ) where
    switched : (playback capture : Bool) → valid_of (host playback capture h.downstream h.queues) ≡ true
    unfolding valid_of
    switched playback capture = v

    pub playback-valid : (fails : Bool) → valid_of (playback_fails_of h space fails).host ≡ true
    unfolding playback_fails_of
    playback-valid fails = by_cond (λ (s : Set). valid_of s.host ≡ true) (eqb (check_of h space) 0) _ _ (λ _. switched fails h.capture) (λ _. v)

    pub capture-valid : (fails : Bool) → valid_of (capture_fails_of h space fails).host ≡ true
    unfolding capture_fails_of
    capture-valid fails = by_cond (λ (s : Set). valid_of s.host ≡ true) (eqb (check_of h space) 0) _ _ (λ _. switched h.playback fails) (λ _. v)

    pub downstream-valid : (n : ℕ) → valid_of (downstream_of h space n).host ≡ true
    unfolding downstream_of valid_of
    downstream-valid n =
        let P : Set → Type 0 = λ s. valid_of s.host ≡ true in
        by_cond P (eqb (check_of h space) 0) _ _
        (λ _. by_cond P (valid_downstream n) _ _ (λ e. rw (e, right (valid_downstream h.downstream) _ v)) (λ _. v)) (λ _. v)
