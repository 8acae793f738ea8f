-- A recorded call on all that is lent, whether it is as recorded, and all calls of a file in their order.
use Rattle.std.specs.Prelude.{ℕ, zero, suc, ◌+◌, ◌-◌, Bool, true, false, cond, not, List, ◌++◌, length, take, drop, replicate, ◌==◌, nat_lt}
use Rattle.port_device.specs.Calls.{Lent, lent, Returned, Made, Stored, paused_of}
use Rattle.port_reads.specs.Reads.{Shown}
use Rattle.port_host.specs.Calls.{PulledBytes}
use Rattle.rehearse.specs.declared.call.Call.{Call}
use Rattle.rehearse.specs.declared.play.Tally.{Tally}
use Rattle.rehearse.specs.Calls.{fresh_of, change_of, show_of, host_of, Reached, memory_of}
use Rattle.rehearse.specs.Digest.{looked_of}
use Rattle.rehearse.specs.Recorded.{call_at, agrees_of, counted_of, length_of}

-- what a call returns, what it leaves in all that is lent, and the bytes that it gave
pub record Performed : Type 0 where
  pub reply : ℕ
  pub lent : Lent
  pub into : List ℕ

abbrev pub performed : ℕ → Lent → List ℕ → Performed
performed reply x into = record { reply = reply; lent = x; into = into }

-- each group's outcome, beside what the group is not lent
abbrev pub fresh_in : Lent → List ℕ → Stored → Performed
fresh_in x into s = performed s.reply (lent s.device s.host x.lists x.queues x.memory) into

abbrev pub reached_in : Lent → List ℕ → Reached → Performed
reached_in x into r = performed r.reply (lent x.device x.host x.lists x.queues r.memory) into

abbrev pub paused_in : Lent → List ℕ → Made → Performed
paused_in x into m = performed m.reply (lent m.device x.host x.lists x.queues x.memory) into

abbrev pub changed_in : List ℕ → Returned → Performed
changed_in into r = performed r.reply r.lent into

abbrev pub shown_in : Lent → Shown → Performed
shown_in x s = performed s.reply x s.into

abbrev pub host_in : Lent → PulledBytes → Performed
host_in x p = performed p.kept.reply (lent x.device p.kept.host x.lists p.queues x.memory) p.into

-- the call by its kind: 0 a new device, 1 to 9 guest memory, 15 the pause, else to 19 what changes the device, to 29 what reads it, from 30 on the host end's
unfoldable pub perform_of : Call → List ℕ → Lent → List ℕ → Performed
perform_of c bytes x into =
    cond (c.kind == 0) (fresh_in x into (fresh_of (not (c.first == 0)) x.device x.host (length x.lists) (length x.queues)))
    (cond (nat_lt c.kind 10) (reached_in x into (memory_of c.kind c.first c.second bytes x.memory))
    (cond (c.kind == 15) (paused_in x into (paused_of (not (c.first == 0)) x.device x.host x.lists (length x.queues)))
    (cond (nat_lt c.kind 20) (changed_in into (change_of c.kind c.first c.second bytes x))
    (cond (nat_lt c.kind 30) (shown_in x (show_of c.kind c.first c.second x.device x.host x.lists (length x.queues) into))
    (host_in x (host_of c.kind c.first bytes x.host x.queues into))))))

-- what a call was found to be, and what it left
pub record Judged : Type 0 where
  pub same : Bool
  pub lent : Lent
  pub room : List ℕ

abbrev pub judged : Bool → Lent → List ℕ → Judged
judged same x room = record { same = same; lent = x; room = room }

-- what bytes that a call is to give hold before it
abbrev pub erased_of : List ℕ → List ℕ
erased_of into = replicate (length into) 0xee

abbrev pub digest_after : ℕ → Performed → ℕ
digest_after kind p = looked_of kind p.into p.lent.device p.lent.host p.lent.lists p.lent.queues p.lent.memory

abbrev pub compared_of : Call → Performed → Judged
compared_of c p = judged (agrees_of c p.reply (digest_after c.kind p)) p.lent p.into

unfoldable pub run_of : Call → List ℕ → Lent → List ℕ → Judged
run_of c bytes x into = compared_of c (perform_of c bytes x (erased_of into))

-- a call on the first `n` bytes of guest memory and as many of the room as it says; what is behind these stays
abbrev pub part_in : ℕ → ℕ → Lent → List ℕ → Judged → Judged
part_in n count x room j =
    judged j.same (lent j.lent.device j.lent.host j.lent.lists j.lent.queues (j.lent.memory ++ drop n x.memory)) (j.room ++ drop count room)

unfoldable pub judge_of : Call → List ℕ → ℕ → Lent → List ℕ → Judged
judge_of c bytes n x room =
    cond (nat_lt (length x.memory) n) (judged false x room)
    (cond (nat_lt (length room) c.room) (judged false x room)
    (part_in n c.room x room (run_of c bytes (lent x.device x.host x.lists x.queues (take n x.memory)) (take c.room room))))

-- where a file's calls have come to: the next one's place, how long guest memory is, the tally, and all that is lent
pub record Progress : Type 0 where
  pub at : ℕ
  pub size : ℕ
  pub tally : Tally
  pub lent : Lent
  pub room : List ℕ

abbrev pub progress : ℕ → ℕ → Tally → Lent → List ℕ → Progress
progress at size tally x room = record { at = at; size = size; tally = tally; lent = x; room = room }

abbrev pub head_size : ℕ
head_size = 35

-- bytes that are no whole call count as one that differs, by the tag of no call
abbrev pub cut_of : Progress → Progress
cut_of p = progress p.at p.size (counted_of p.tally 127 false) p.lent p.room

abbrev pub turned_of : Call → ℕ → Tally → Judged → ℕ → Progress
turned_of c size t j end = progress end size (counted_of t c.tag j.same) j.lent j.room

abbrev pub turn_with : Call → List ℕ → Progress → Progress
turn_with c all p =
    let start = p.at + head_size in
    cond (nat_lt (length all - start) c.count) (cut_of p)
    (turned_of c (length_of c p.size) p.tally (judge_of c (take c.count (drop start all)) (length_of c p.size) p.lent p.room) (start + c.count))

unfoldable pub turn_of : List ℕ → Progress → Progress
turn_of all p = cond (nat_lt (length all - p.at) head_size) (cut_of p) (turn_with (call_at p.at all) all p)

-- up to the first call that differs, or the file's end; each call takes at least one byte, so that the file's length is fuel enough
abbrev pub onward : Bool → Progress → (Progress → Progress) → Progress
onward true p k = k p
onward false p k = p

abbrev pub again : Bool → Progress → Progress → (Progress → Progress) → Progress
again true p q k = onward q.tally.same q k
again false p q k = p

unfoldable pub play_from : ℕ → List ℕ → Progress → Progress
play_from zero all p = p
play_from (suc fuel) all p = again (nat_lt p.at (length all)) p (turn_of all p) (play_from fuel all)

-- what the program says of a file, and what its calls leave
pub record Played : Type 0 where
  pub tally : Tally
  pub lent : Lent
  pub room : List ℕ

abbrev pub played : Tally → Lent → List ℕ → Played
played tally x room = record { tally = tally; lent = x; room = room }

abbrev pub played_of : Progress → Played
played_of p = played p.tally p.lent p.room

abbrev pub begun : Tally
begun = record { calls = 0; sequences = 0; amended = 0; same = true }

abbrev pub play_of : List ℕ → Lent → List ℕ → Played
play_of all x room = played_of (play_from (length all) all (progress 0 0 begun x room))
