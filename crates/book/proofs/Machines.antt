-- Stream i of a machine tied to the book, by the streams' records and the lent lists alone: what another stream's change leaves of it, and its own. Assumes nothing.
use Prim.Native.Nat.{ℕ, ◌+◌, ◌*◌, ◌≤◌, ◌<◌}
use mathlib.Core.Path.{◌≡◌, ◌∙◌}
use mathlib.Core.List.{List}
use mathlib.Core.Logic.{◌⊎◌, ◌≢◌, ⊎_elim}
use native.Mathlib.Omega.{arith}
use lib.ListN.{length, get_or, set, length-set}
use lib.Seq.{get_or-set_same, get_or-set_other}
use Rattle.word.specs.Parts.{part_of, with_part}
use Rattle.word.proofs.Lists.{length_part}
use Rattle.word.proofs.Parts.{length-with-part, part_same, part-other}
use Rattle.stream.specs.declared.Stream.{Stream}
use Rattle.stream.specs.Streams.{list_size, fresh_of}
use Rattle.stream.specs.Box.{streams}
use Rattle.book.proofs.Ghosts.{Ghost}
use Rattle.book.proofs.Tied.{Tied}

pub record Held (F : Type 0) (i : ℕ) (ss : List Stream) (lists : List ℕ) (a : Ghost) : Type 0 where
  pub count : length ss ≡ streams
  pub space : list_size * streams ≤ length lists
  pub own : Tied F (get_or ss i fresh_of) (part_of list_size i lists) a

-- stream i's part of long enough lists
pub part-size : (i : ℕ) (lists : List ℕ) → i < streams → list_size * streams ≤ length lists → length (part_of list_size i lists) ≡ list_size
part-size i lists few space = length_part list_size (list_size * i) lists (omega arith)

module _ (F : Type 0) (i : ℕ) (few : i < streams) (ss : List Stream) (lists : List ℕ) (a : Ghost) (h : Held F i ss lists a) where
  -- its own record, with its list as it is or with another
  pub held-own : (s : Stream) (a' : Ghost) → Tied F s (part_of list_size i lists) a' → Held F i (set ss i s) lists a'
  held-own s a' t =
      record {
        count = length-set ss i s ∙ h.count;
        space = h.space;
        own = rw (get_or-set_same ss i s fresh_of (omega (arith, h.count))) t;
      }

  pub held-own-list : (s : Stream) (l : List ℕ) (a' : Ghost) → Tied F s l a' → Held F i (set ss i s) (with_part list_size i lists l) a'
  held-own-list s l a' t =
      let fits : list_size * i + list_size ≤ length lists = omega (arith, h.space) in
      record {
        count = length-set ss i s ∙ h.count;
        space = omega (arith, h.space, length-with-part list_size i lists l t.sized fits);
        own = rw (get_or-set_same ss i s fresh_of (omega (arith, h.count)), part_same list_size i lists l t.sized fits) t;
      }

  -- another stream's
  module _ (j : ℕ) (less : j < streams) (apart : (i < j) ⊎ (j < i)) (s : Stream) where
    other : i ≢ j
    other = ⊎_elim (λ (b : i < j) e. omega arith) (λ (b : j < i) e. omega arith) apart

    pub held-other : Held F i (set ss j s) lists a
    held-other = record { count = length-set ss j s ∙ h.count; space = h.space; own = rw (get_or-set_other ss j i s fresh_of other) h.own }

    pub held-other-list : (l : List ℕ) → length l ≡ list_size → Held F i (set ss j s) (with_part list_size j lists l) a
    held-other-list l sized =
        let fits : list_size * j + list_size ≤ length lists = omega (arith, h.space) in
        record {
          count = length-set ss j s ∙ h.count;
          space = omega (arith, h.space, length-with-part list_size j lists l sized fits);
          own = rw (get_or-set_other ss j i s fresh_of other, part-other list_size j lists l sized fits i apart) h.own;
        }
