-- Laws of the verdict on recorded calls: an unknown kind in `perform`, one for each way out of `run`, `judge` and of a turn of `play`, and the turns one after another. Assumes nothing.
use Rattle.std.proofs.Common.{◌≡◌, ℕ, zero, suc, ◌+◌, ◌-◌, ◌<◌, ◌≤◌, Bool, true, false, cond, List, length, take, drop, refl, ap, ◌∙◌, arith, ltb, le-ltb, lt-ltb, ne_eqb}
use Rattle.port_device.specs.Calls.{Lent, lent}
use Rattle.rehearse.specs.declared.call.Call.{Call}
use Rattle.rehearse.specs.declared.play.Tally.{Tally}
use Rattle.rehearse.specs.Calls.{none, change_of, show_of, host_of, memory_of}
use Rattle.rehearse.specs.Kinds.{Unnumbered}
use Rattle.rehearse.specs.Recorded.{call_at, agrees_of, counted_of, length_of}
use Rattle.rehearse.specs.Verdict.{Performed, performed, perform_of, Judged, judged, erased_of, digest_after, run_of, part_in, judge_of, Progress, progress, turn_of, play_from}

module _ (c : Call) (bytes : List ℕ) (x : Lent) (into : List ℕ) where
  pub perform-unknown : Unnumbered c.kind → performed none x into ≡ perform_of c bytes x into
  unfolding perform_of change_of show_of host_of memory_of
  perform-unknown (n0, n1, n2, n3, n10, n11, n12, n13, n14, n15, n16, n17, n20, n21, n22, n23, n30, n31, n32, n33, n34) =
      rw (
        ne_eqb c.kind 0 n0,
        ne_eqb c.kind 1 n1,
        ne_eqb c.kind 2 n2,
        ne_eqb c.kind 3 n3,
        ne_eqb c.kind 10 n10,
        ne_eqb c.kind 11 n11,
        ne_eqb c.kind 12 n12,
        ne_eqb c.kind 13 n13,
        ne_eqb c.kind 14 n14,
        ne_eqb c.kind 15 n15,
        ne_eqb c.kind 16 n16,
        ne_eqb c.kind 17 n17,
        ne_eqb c.kind 20 n20,
        ne_eqb c.kind 21 n21,
        ne_eqb c.kind 22 n22,
        ne_eqb c.kind 23 n23,
        ne_eqb c.kind 30 n30,
        ne_eqb c.kind 31 n31,
        ne_eqb c.kind 32 n32,
        ne_eqb c.kind 33 n33,
        ne_eqb c.kind 34 n34,
      ) (by_range (ltb c.kind 10) (ltb c.kind 20) (ltb c.kind 30))
    where
      nothing : Performed
      nothing = performed none x into

      by_range : (memory device shown : Bool) → nothing ≡ cond memory nothing (cond device nothing (cond shown nothing nothing))
      by_range true _ _ = refl
      by_range false true _ = refl
      by_range false false true = refl
      by_range false false false = refl

  pub run-done : (l : List ℕ) → l ≡ erased_of into → (p : Performed) → p ≡ perform_of c bytes x l → (d : ℕ) → d ≡ digest_after c.kind p
      → (b : Bool) → b ≡ agrees_of c p.reply d → judged b p.lent p.into ≡ run_of c bytes x into
  unfolding run_of
  run-done l el p ep d ed b eb = rw (eb, ed, ep, el)

module _ (c : Call) (bytes : List ℕ) (n : ℕ) (x : Lent) (room : List ℕ) where
  pub judge-outside : length x.memory < n → judged false x room ≡ judge_of c bytes n x room
  unfolding judge_of
  judge-outside h = rw (lt-ltb (length x.memory) n h)

  module _ (within : n ≤ length x.memory) where
    pub judge-narrow : length room < c.room → judged false x room ≡ judge_of c bytes n x room
    unfolding judge_of
    judge-narrow h = rw (le-ltb (length x.memory) n within, lt-ltb (length room) c.room h)

    pub judge-done : c.room ≤ length room → (j : Judged)
        → j ≡ run_of c bytes (lent x.device x.host x.lists x.queues (take n x.memory)) (take c.room room)
        → part_in n c.room x room j ≡ judge_of c bytes n x room
    unfolding judge_of
    judge-done h j e = ap (part_in n c.room x room) e ∙ rw (le-ltb (length x.memory) n within, le-ltb (length room) c.room h)

module _ (all : List ℕ) (at size : ℕ) (t : Tally) (x : Lent) (room : List ℕ) (t' : Tally) where
  pub turn-short : length all - at < 35 → t' ≡ counted_of t 127 false → progress at size t' x room ≡ turn_of all (progress at size t x room)
  unfolding turn_of
  turn-short h e = rw (lt-ltb (length all - at) 35 h, e)

  module _ (c : Call) (ec : c ≡ call_at at all) (whole : 35 ≤ length all - at) where
    pub turn-cut : length all - (at + 35) < c.count → t' ≡ counted_of t 127 false → progress at size t' x room ≡ turn_of all (progress at size t x room)
    unfolding turn_of
    turn-cut h e = rw (le-ltb (length all - at) 35 whole, ← ec, lt-ltb (length all - (at + 35)) c.count h, e)

    pub turn-done : c.count ≤ length all - (at + 35) → (n : ℕ) → n ≡ length_of c size → (count : ℕ) (j : Judged)
        → j ≡ judge_of c (take count (drop (at + 35) all)) n x room → count ≡ c.count → t' ≡ counted_of t c.tag j.same
        → progress (at + 35 + c.count) n t' j.lent j.room ≡ turn_of all (progress at size t x room)
    unfolding turn_of
    turn-done h n en count j ej ek et =
        rw (le-ltb (length all - at) 35 whole, ← ec, le-ltb (length all - (at + 35)) c.count h, et, ej, ek, en)

module _ (all : List ℕ) (p : Progress) where
  pub play-more : (fuel : ℕ) (q : Progress) → p.at < length all → length all - p.at ≤ fuel → q ≡ turn_of all p → q.tally.same ≡ true
      → (k : ℕ) × (suc k ≡ fuel) × (play_from fuel all p ≡ play_from k all q)
  unfolding play_from
  play-more zero q h enough e same = absurd (omega arith)
  play-more (suc k) q h enough e same = (k, refl, rw (lt-ltb p.at (length all) h, ← e, same))

  pub play-stop : (fuel : ℕ) (q : Progress) → p.at < length all → length all - p.at ≤ fuel → q ≡ turn_of all p → q.tally.same ≡ false
      → play_from fuel all p ≡ q
  unfolding play_from
  play-stop zero q h enough e differs = absurd (omega arith)
  play-stop (suc k) q h enough e differs = rw (lt-ltb p.at (length all) h, ← e, differs)

  pub play-end : (fuel : ℕ) → length all ≤ p.at → play_from fuel all p ≡ p
  unfolding play_from
  play-end zero h = refl
  play-end (suc k) h = rw (le-ltb p.at (length all) h)
