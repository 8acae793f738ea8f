-- What the codec declares is what streams take: a rate is declared exactly where a format word of that rate is accepted, and 16-bit samples alone are declared.
-- So no rate can be added to one of the two alone. Assumes nothing.
use Prim.Native.Nat.{ℕ, ◌/◌, ◌%◌, ◌^◌}
use mathlib.Core.Path.{◌≡◌, refl, sym}
use mathlib.Core.Bool.{Bool, true, false, ◌&&◌, not, ◌||◌, true≢false}
use mathlib.Core.List.{List}
use lib.Dec.{T, eqb, eqb→eq}
use lib.Ieee.Bits.{is_true}
use Rattle.word.proofs.Choices.{both}
use Rattle.format.specs.Format.{rates, among}
use Rattle.format.specs.Accepted.{Accepted}
use Rattle.format.proofs.Computed.{every}
use Rattle.format.proofs.Theorems.{on_list, rates-exact}
use Rattle.node.specs.Parameters.{supported_pcm, parameter_of}
use Rattle.codec_hda.specs.HdaParameters.{sample_rates, sample_sizes, rate_bit, size_bit, declares_rate, declares_size, format_nodes}

implied : (a b : Bool) → a ≡ true → T (not a || b) → T b
implied true b h t = t
implied false b h t = absurd (true≢false (sym h))

-- a table's entries whose bits the reply has are tested, by computation: so the test holds of each that is declared
only-declared : (table : List ℕ) (place : ℕ → ℕ) (p : ℕ → Bool)
    → T (every (λ y. not (eqb (supported_pcm / 2 ^ place y % 2) 1) || p y) table)
    → (x : ℕ) → among x table && eqb (supported_pcm / 2 ^ place x % 2) 1 ≡ true → T (p x)
only-declared table place p t x h =
    let k = both (among x table) (eqb (supported_pcm / 2 ^ place x % 2) 1) h in
    implied _ (p x) k.1 (on_list (λ y. not (eqb (supported_pcm / 2 ^ place y % 2) 1) || p y) x table t k.0)

module _ (node : ℕ) (has : among node format_nodes ≡ true) where
  reply : parameter_of node 0x0a ≡ supported_pcm
  unfolding parameter_of
  reply = eqb→eq _ _ (on_list (λ n. eqb (parameter_of n 0x0a) supported_pcm) node format_nodes tt has)

  pub declared-rates : (r : ℕ)
      → (declares_rate (parameter_of node 0x0a) r ≡ true → Accepted r) × (Accepted r → declares_rate (parameter_of node 0x0a) r ≡ true)
  declared-rates r = rw reply (
    (λ d. (rates-exact r).0 (is_true _ (only-declared sample_rates rate_bit (λ x. among x rates) tt r d))),
    λ a. is_true _ (on_list (declares_rate supported_pcm) r rates tt ((rates-exact r).1 a)),
  )

  pub declared-sizes : (declares_size (parameter_of node 0x0a) 16 ≡ true) × ((s : ℕ) → declares_size (parameter_of node 0x0a) s ≡ true → s ≡ 16)
  declared-sizes = rw reply (refl, λ s d. eqb→eq s 16 (only-declared sample_sizes size_bit (λ x. eqb x 16) tt s d))
