-- What a piece leaves, and the pieces of a period one after the other: document 01, "Stream transfer"; the Rust's `transfer`.
use Rattle.std.specs.Prelude.{ℕ, zero, suc, ◌+◌, ◌-◌, ◌^◌, ◌≤◌, ◌<◌, Bool, true, false, cond, List, length, take, drop, ltb, eqb, is_none, Ok, Err}
use Rattle.word.specs.Place.{put_at}
use Rattle.positions.specs.Positions.{push_of}
use Rattle.stream.specs.declared.Stream.{Stream}
use Rattle.stream.specs.declared.Cyclic.{Cyclic}
use Rattle.plan.specs.declared.End.{End}
use Rattle.plan.specs.declared.End.TheVariants.{Inside, Plain, Flagged}
use Rattle.pieces.specs.declared.Step.{Step}
use Rattle.stream.specs.Streams.{places, list_size, period, stream}
use Rattle.plan.specs.Plans.{Plan, by_limit, limited, plan_of}

-- the descriptor after one that has ended: the next, or the first behind the last
abbrev pub following_of : ℕ → ℕ → ℕ
following_of descriptor lvi = cond (eqb descriptor lvi) 0 (descriptor + 1)

-- the stream after a piece of n bytes
abbrev pub next_of : Stream → ℕ → ℕ → End → Stream
next_of s lvi n Inside = stream s.descriptor (s.offset + n) (s.submitted + n) s.consumed s.fraction s.pending
next_of s lvi n Plain = stream (following_of s.descriptor lvi) 0 (s.submitted + n) s.consumed s.fraction s.pending
next_of s lvi n Flagged = stream (following_of s.descriptor lvi) 0 (s.submitted + n) s.consumed s.fraction (s.pending + 1)

-- a flagged end's position, submitted after the piece, goes behind those pending
abbrev pub list_of : List ℕ → Stream → ℕ → End → List ℕ
list_of l s n Inside = l
list_of l s n Plain = l
list_of l s n Flagged = push_of s.pending (s.submitted + n) l

-- a flagged end needs a place for its position
abbrev pub EndOk : Stream → End → Type 0
EndOk s Inside = Unit {0}
EndOk s Plain = Unit {0}
EndOk s Flagged = s.pending < places

-- what the stream after a piece of n bytes requires, so that no field wraps
pub record NextNeeds (s : Stream) (lvi n : ℕ) (end : End) : Type 0 where
  pub listed : s.descriptor ≤ lvi
  pub offset : s.offset + n < 2 ^ 32
  pub submitted : s.submitted + n < 2 ^ 64
  pub room : EndOk s end

-- n bytes between memory at `at` and the samples at `done`: a capture writes memory, a playback reads it
abbrev pub memory_of : Bool → List ℕ → ℕ → List ℕ → ℕ → ℕ → List ℕ
memory_of true m at pcm done n = put_at at (take n (drop done pcm)) m
memory_of false m at pcm done n = m

abbrev pub pcm_of : Bool → List ℕ → ℕ → List ℕ → ℕ → ℕ → List ℕ
pcm_of true m at pcm done n = pcm
pcm_of false m at pcm done n = put_at done (take n (drop at m)) pcm

-- all that the pieces of a period change
pub record State : Type 0 where
  pub stream : Stream
  pub list : List ℕ
  pub memory : List ℕ
  pub pcm : List ℕ
  pub done : ℕ

abbrev pub state_of : Stream → List ℕ → List ℕ → List ℕ → ℕ → State
state_of s l m pcm done = record { stream = s; list = l; memory = m; pcm = pcm; done = done }

-- whether all went well, whether the limit of pending completions stopped it, and what is left; pieces before the failing one stay moved
pub record Out : Type 0 where
  pub ok : Bool
  pub full : Bool
  pub state : State

abbrev pub out_of : Bool → Bool → State → Out
out_of ok full x = record { ok = ok; full = full; state = x }

-- the code's answer with the three lists
abbrev pub step_out : Step → List ℕ → List ℕ → List ℕ → Out
step_out r l m pcm = out_of (is_none r.stop) (limited r.stop) (state_of r.stream l m pcm r.done)

-- what a piece of n bytes at `at` makes of it
abbrev pub moved_of : Cyclic → State → ℕ → ℕ → End → State
moved_of g x at n end =
    state_of (next_of x.stream g.lvi n end) (list_of x.list x.stream n end) (memory_of g.capture x.memory at x.pcm x.done n)
    (pcm_of g.capture x.memory at x.pcm x.done n) (x.done + n)

-- what a plan does
unfoldable pub done_of : Cyclic → State → Plan → Out
done_of g x (Err stop) = out_of false (by_limit stop) x
done_of g x (Ok m) = out_of true false (moved_of g x m.at m.n m.end)

-- one piece of a period of `count` bytes
unfoldable pub piece_of : Cyclic → ℕ → State → Out
piece_of g count x = done_of g x (plan_of g x.stream x.memory (count - x.done))

-- go on where the last piece was moved; the rest is a function, so that nothing is computed ahead
abbrev pub onward : Bool → Out → (State → Out) → Out
onward true o rest = rest o.state
onward false o rest = o

abbrev pub again : Bool → Out → (State → Out) → State → Out
again true o rest x = onward o.ok o rest
again false o rest x = out_of true false x

-- the pieces of a period of `count` bytes; `count` pieces are enough, since each moves a byte or more
unfoldable pub pieces_of : ℕ → Cyclic → ℕ → State → Out
pieces_of zero g count x = out_of true false x
pieces_of (suc fuel) g count x = again (ltb x.done count) (piece_of g count x) (pieces_of fuel g count) x

-- what the pieces of a period of `count` bytes require: a turn to split at, and room for the samples and for every position
pub record PeriodNeeds (g : Cyclic) (count : ℕ) (list pcm : List ℕ) : Type 0 where
  pub cyclic : 0 < g.cbl
  pub short : count ≤ period
  pub room : count ≤ length pcm
  pub long : list_size ≤ length list
