-- Two lists of positions with the same ones pending stay so: a position pushed behind them, and those at the front retired. Assumes nothing.
use Prim.Native.Nat.{ℕ, ◌+◌, ◌-◌, ◌*◌, ◌≤◌, ◌<◌}
use mathlib.Core.Path.{◌≡◌, refl, sym, ap, ◌∙◌}
use mathlib.Core.List.{List, ◌++◌}
use native.Mathlib.Omega.{arith}
use lib.ListN.{length, take, drop}
use Rattle.word.specs.Value.{bytes_of}
use Rattle.word.proofs.Lists.{drop-take}
use Rattle.word.proofs.Value.{length-bytes}
use Rattle.word.proofs.Puts.{put_front}
use Rattle.word.proofs.Place.{store-put}
use Rattle.word.proofs.Shifts.{shift-there}
use Rattle.positions.specs.Positions.{positions_of, up_to_of, push_of, retire_of}
use Rattle.positions.proofs.View.{length-positions, positions-take}
use Rattle.positions.proofs.Order.{up-to-bound}
use Rattle.positions.proofs.Change.{length_push, length-retire}
use Rattle.stream.specs.Streams.{places, list_size}
use Rattle.counts.specs.Counts.{Pending}

pub pending-refl : (n : ℕ) (l : List ℕ) → n ≤ places → length l ≡ list_size → Pending n l l
pending-refl n l few long = record { few = few; long = long; long' = long; same = refl }

module _ (n : ℕ) (l l' : List ℕ) (p : Pending n l l') where
  pub pending-positions : positions_of n l ≡ positions_of n l'
  pending-positions = positions-take n l l' p.same

  pub pending-push : (v : ℕ) → n < places → Pending (n + 1) (push_of n v l) (push_of n v l')
  unfolding push_of
  pending-push v room =
      record {
        few = omega arith;
        long = length_push n v l (omega (arith, p.long)) ∙ p.long;
        long' = length_push n v l' (omega (arith, p.long')) ∙ p.long';
        same = front l p.long ∙ ap (λ (k : List ℕ). k ++ bytes_of 8 v) p.same ∙ sym (front l' p.long');
      }
    where
      front : (k : List ℕ) → length k ≡ list_size → take (8 * (n + 1)) (push_of n v k) ≡ take (8 * n) k ++ bytes_of 8 v
      front k long =
          let e : 8 * n + length (bytes_of 8 v) ≡ 8 * (n + 1) = omega (arith, length-bytes 8 v) in
          rw (store-put 8 (8 * n) v k) (rw e at (put_front (8 * n) (bytes_of 8 v) k (omega (arith, length-bytes 8 v))))

  pub pending-retire : (k : ℕ) → k ≤ n → Pending (n - k) (retire_of k n l) (retire_of k n l')
  unfolding retire_of
  pending-retire k less =
      record {
        few = omega (arith, p.few);
        long = length-retire k n l less (omega (arith, p.few, p.long)) ∙ p.long;
        long' = length-retire k n l' less (omega (arith, p.few, p.long')) ∙ p.long';
        same = rest l p.long ∙ ap (drop (8 * k)) p.same ∙ sym (rest l' p.long');
      }
    where
      rest : (m : List ℕ) → length m ≡ list_size → take (8 * (n - k)) (retire_of k n m) ≡ drop (8 * k) (take (8 * n) m)
      rest m long =
          let e : 8 * k + 8 * (n - k) ≡ 8 * n = omega arith in
          shift-there (8 * k) (8 * (n - k)) m (omega (arith, p.few, long)) ∙ sym (rw e at (drop-take (8 * k) (8 * (n - k)) m))

  -- those up to a count retire
  pub pending-update : (c : ℕ) → let k = up_to_of c (positions_of n l) in Pending (n - k) (retire_of k n l) (retire_of k n l')
  pending-update c = pending-retire (up_to_of c (positions_of n l)) (omega (arith, up-to-bound c (positions_of n l), length-positions n l))
