-- What one piece of a transfer is to do, decided from the stream, its cyclic buffer and guest memory as it stands: document 01, "Stream transfer"; the
-- Rust's `transfer`. Sums are sums of naturals, so that an address or a count past 64 bits needs no case of its own.
use Rattle.std.specs.Prelude.{ℕ, ◌+◌, ◌-◌, ◌*◌, ◌/◌, ◌%◌, min, Bool, true, false, cond, List, length, ltb, leb, eqb, Option, Some, None, Result, Ok, Err}
use Rattle.memory.specs.declared.Descriptor.{Descriptor}
use Rattle.memory.specs.Memory.{descriptor_of}
use Rattle.stream.specs.declared.Stream.{Stream}
use Rattle.stream.specs.declared.Cyclic.{Cyclic}
use Rattle.plan.specs.declared.End.{End}
use Rattle.plan.specs.declared.End.TheVariants.{Inside, Plain, Flagged}
use Rattle.plan.specs.declared.Move.{Move}
use Rattle.plan.specs.declared.Stop.{Stop}
use Rattle.plan.specs.declared.Stop.TheVariants.{Failed, Full}
use Rattle.stream.specs.Streams.{places, max_count}

-- what a piece is to do: move, or stop the transfer
abbrev pub Plan : Type 0
Plan = Result Move Stop

abbrev pub move : ℕ → ℕ → End → Plan
move at n end = Ok (record { at = at; n = n; end = end })

abbrev pub failed : Plan
failed = Err Failed

abbrev pub full : Plan
full = Err Full

-- whether it was the limit of pending completions that stopped a transfer, and the same where none need have stopped it
abbrev pub by_limit : Stop → Bool
by_limit Failed = false
by_limit Full = true

abbrev pub limited : Option Stop → Bool
limited None = false
limited (Some stop) = by_limit stop

-- a cyclic buffer that a transfer takes: its length a multiple of 4 and not 0, its last descriptor's index a byte
unfoldable pub ready_of : Cyclic → Bool
ready_of g = cond (eqb g.cbl 0) false (cond (eqb (g.cbl % 4) 0) (leb g.lvi 255) false)

-- where the stream's descriptor stands: the list's address has its low seven bits clear
abbrev pub descriptor_at : Cyclic → Stream → ℕ
descriptor_at g s = g.bdl / 128 * 128 + 16 * s.descriptor

-- the bytes of a piece: what is left of the period, of the descriptor, and of the turn of the cyclic buffer
abbrev pub size_of : Cyclic → Stream → ℕ → ℕ → ℕ
size_of g s left bytes = min (min left (bytes - s.offset)) (g.cbl - s.submitted % g.cbl)

-- how a piece of n bytes ends: a descriptor end is flagged where bit 0 of its flags is set, and a flagged end with 4,352 pending fails
unfoldable pub end_of : Stream → Descriptor → ℕ → Plan
end_of s d n =
    cond (eqb (s.offset + n) d.length)
    (cond (eqb (d.flags % 2) 1)
    (cond (ltb s.pending places) (move (d.address + s.offset) n Flagged) full)
    (move (d.address + s.offset) n Plain))
    (move (d.address + s.offset) n Inside)

-- a piece fails where memory runs out or submitted would pass its largest value
unfoldable pub placed_of : Stream → ℕ → Descriptor → ℕ → Plan
placed_of s size d n =
    cond (leb (d.address + (s.offset + n)) size) (cond (leb (s.submitted + n) max_count) (end_of s d n) failed) failed

-- the descriptor's own rules: a length that is a multiple of 4 and not 0, and the offset inside it
unfoldable pub entry_of : Cyclic → Stream → ℕ → ℕ → Descriptor → Plan
entry_of g s size left d =
    cond (eqb d.length 0) failed
    (cond (eqb (d.length % 4) 0) (cond (ltb s.offset d.length) (placed_of s size d (size_of g s left d.length)) failed) failed)

abbrev pub fetched_of : Cyclic → Stream → ℕ → ℕ → Option Descriptor → Plan
fetched_of g s size left None = failed
fetched_of g s size left (Some d) = entry_of g s size left d

-- with `left` bytes of the period still to move; the descriptor is read anew
unfoldable pub plan_of : Cyclic → Stream → List ℕ → ℕ → Plan
plan_of g s memory left =
    cond (ltb g.lvi s.descriptor) failed (fetched_of g s (length memory) left (descriptor_of memory (descriptor_at g s)))
