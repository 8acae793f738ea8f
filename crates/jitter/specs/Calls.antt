-- The call: its numbers in order, the two counts of each stream in lent space, and the scratch that it is lent (request T-13).
use Rattle.std.specs.Prelude.{ℕ, ◌+◌, ◌*◌, Bool, cond, ◌||◌, List, length, replicate, eqb, ltb}
use Rattle.word.specs.Place.{store_at}
use Rattle.word.specs.Each.{always, each_of}
use Rattle.stream.specs.Box.{streams}
use Rattle.pci.specs.Interrupts.{level_of}
use Rattle.device.specs.declared.Hda.{Hda}
use Rattle.device.specs.Machines as machines
use Rattle.device.specs.Machines.{Machine, check_machine}
use Rattle.jitter.specs.declared.Bounded.{Bounded}
use Rattle.jitter.specs.Bounds.{lowest_of, highest_of}

-- what a caller lends for the copies: space for lists, for queues and for guest memory
pub record Scratch : Type 0 where
  pub lists : List ℕ
  pub queues : List ℕ
  pub memory : List ℕ

abbrev pub scratch : List ℕ → List ℕ → List ℕ → Scratch
scratch lists queues memory = record { lists = lists; queues = queues; memory = memory }

abbrev pub zeros_of : List ℕ → List ℕ
zeros_of l = replicate (length l) 0

abbrev pub cleared_of : Scratch → Scratch
cleared_of s = scratch (zeros_of s.lists) (zeros_of s.queues) (zeros_of s.memory)

-- a stream's lowest and highest count, eight bytes each
abbrev pub row_size : ℕ
row_size = 16

abbrev pub result_size : ℕ
result_size = row_size * streams

-- list and queue space as for a device, memory as long as the guest's; and, as T-02 has it of every result, space for it
abbrev pub short_of : Machine → Scratch → ℕ → Bool
short_of x s into = machines.short_of (length s.lists) (length s.queues) || (ltb (length s.memory) (length x.memory) || ltb into result_size)

-- 21 where the shortest exceeds the longest, then 14 where lent space is short
abbrev pub refusal_of : ℕ → ℕ → Machine → Scratch → ℕ → ℕ
refusal_of shortest longest x s into = cond (ltb longest shortest) 21 (cond (short_of x s into) 14 0)

-- after 10 and 9, which come before anything else
unfoldable pub number_of : ℕ → ℕ → Machine → Scratch → ℕ → ℕ
number_of shortest longest x s into = cond (eqb (check_machine x) 0) (refusal_of shortest longest x s into) (check_machine x)

-- each stream's two counts at 16 times its number; what stands behind the last stays
abbrev pub rows_of : (ℕ → ℕ) → (ℕ → ℕ) → List ℕ → List ℕ
rows_of low high into = each_of always (λ (i : ℕ) (l : List ℕ). store_at 8 (row_size * i + 8) (high i) (store_at 8 (row_size * i) (low i) l)) streams 0 into

unfoldable pub result_of : Machine → ℕ → ℕ → List ℕ → List ℕ
result_of x shortest longest into = rows_of (λ (i : ℕ). lowest_of x i shortest longest) (λ (i : ℕ). highest_of x i shortest longest) into

-- the answer, the scratch and the result's space; the device, its lists, queues and host end, and guest memory are lent to be read alone
pub record Bounding : Type 0 where
  pub bounded : Bounded
  pub scratch : Scratch
  pub into : List ℕ

abbrev pub bounding_of : Bounded → Scratch → List ℕ → Bounding
bounding_of bounded s into = record { bounded = bounded; scratch = s; into = into }

abbrev pub bounded_of : ℕ → Hda → ℕ → Bounded
bounded_of number d count = record { number = number; level = level_of d.config d.regs; count = count }

-- an accepted call leaves all of the scratch zero, a refused one leaves it and the result's space untouched
unfoldable pub bounds_of : ℕ → ℕ → Machine → Scratch → List ℕ → Bounding
bounds_of shortest longest x s into =
    let number = number_of shortest longest x s (length into) in
    cond (eqb number 0) (bounding_of (bounded_of 0 x.hda result_size) (cleared_of s) (result_of x shortest longest into))
    (bounding_of (bounded_of number x.hda 0) s into)
