-- The calls of the host's sound driver: feed, pull and the three settings (document 01, Host end, added), with the numbers 10, 9, 11 and 12, checked
-- in that order; a refusal changes nothing (document 01, Numbers returned).
use Rattle.std.specs.Prelude.{ℕ, ◌/◌, ◌%◌, Bool, cond, List, length, eqb, Result, Ok, Err}
use Rattle.stream.specs.Box.{streams}
use Rattle.word.specs.Parts.{part_of, with_part}
use Rattle.queue.specs.Queues.{capacity, Moved, Taken, put_of, take_into_of}
use Rattle.refusal.specs.declared.Refusal.{Refusal}
use Rattle.refusal.specs.Refusals.{number_of}
use Rattle.host.specs.declared.Host.{Host}
use Rattle.host.specs.Hosts.{host, valid_downstream, check_of, queue_at, with_queue}

-- the stream that the host feeds, and the one that it pulls from
abbrev pub capture_stream : ℕ
capture_stream = 0

abbrev pub playback_stream : ℕ
playback_stream = streams / 2

-- the check of a host end record, then of frames of so many bytes: 11 where they are no whole frames
unfoldable pub frame_check_of : Host → ℕ → ℕ → ℕ
frame_check_of h space n = cond (eqb (check_of h space) 0) (cond (eqb (n % 4) 0) 0 11) (check_of h space)

-- a number, the frames moved, and the host end
pub record Fed : Type 0 where
  pub number : ℕ
  pub frames : ℕ
  pub host : Host

abbrev pub fed_of : ℕ → ℕ → Host → Fed
fed_of number frames h = record { number = number; frames = frames; host = h }

-- the code's answer with the host end: 0 and the frames moved, or the number of the refusal and none
abbrev pub fed_by : Result ℕ Refusal → Host → Fed
fed_by (Ok frames) h = fed_of 0 frames h
fed_by (Err refusal) h = fed_of (number_of refusal) 0 h

-- what feed leaves: that, and the lent queue space
pub record Feed : Type 0 where
  pub fed : Fed
  pub space : List ℕ

abbrev pub feed_answer : Fed → List ℕ → Feed
feed_answer fed space = record { fed = fed; space = space }

abbrev pub fed_with : Host → ℕ → List ℕ → Moved → Feed
fed_with h i space m = feed_answer (fed_of 0 (m.count / 4) (with_queue h i m.queue)) (with_part capacity i space m.part)

-- frames into the queue of the capture stream, as many as fit
unfoldable pub feed_of : Host → List ℕ → List ℕ → Feed
feed_of h space frames =
    let number = frame_check_of h (length space) (length frames) in
    cond (eqb number 0)
    (fed_with h capture_stream space (put_of (queue_at h capture_stream) (part_of capacity capture_stream space) frames (length frames)))
    (feed_answer (fed_of number 0 h) space)

-- what pull leaves: that, and the caller's buffer, whose rest stays
pub record Pull : Type 0 where
  pub fed : Fed
  pub space : List ℕ
  pub into : List ℕ

abbrev pub pull_answer : Fed → List ℕ → List ℕ → Pull
pull_answer fed space into = record { fed = fed; space = space; into = into }

abbrev pub pulled_with : Host → ℕ → List ℕ → Taken → Pull
pulled_with h i space t =
    pull_answer (fed_of 0 (t.moved.count / 4) (with_queue h i t.moved.queue)) (with_part capacity i space t.moved.part) t.into

-- frames out of the queue of the playback stream, as many as there are
unfoldable pub pull_of : Host → List ℕ → List ℕ → Pull
pull_of h space into =
    let number = frame_check_of h (length space) (length into) in
    cond (eqb number 0)
    (pulled_with h playback_stream space (take_into_of (queue_at h playback_stream) (part_of capacity playback_stream space) into))
    (pull_answer (fed_of number 0 h) space into)

-- what a setting leaves: the number and the host end
pub record Set : Type 0 where
  pub number : ℕ
  pub host : Host

abbrev pub setting_of : ℕ → Host → Set
setting_of number h = record { number = number; host = h }

-- .. where the check passes; else its number, and nothing changes
abbrev pub settled_of : Host → ℕ → Set → Set
settled_of h space set = cond (eqb (check_of h space) 0) set (setting_of (check_of h space) h)

-- the switch that makes openings for playback fail, and the one for capture
unfoldable pub playback_fails_of : Host → ℕ → Bool → Set
playback_fails_of h space fails = settled_of h space (setting_of 0 (host fails h.capture h.downstream h.queues))

unfoldable pub capture_fails_of : Host → ℕ → Bool → Set
capture_fails_of h space fails = settled_of h space (setting_of 0 (host h.playback fails h.downstream h.queues))

-- 12 for a count above 14,336 or no multiple of 4
unfoldable pub downstream_of : Host → ℕ → ℕ → Set
downstream_of h space n =
    settled_of h space (cond (valid_downstream n) (setting_of 0 (host h.playback h.capture n h.queues)) (setting_of 12 h))
