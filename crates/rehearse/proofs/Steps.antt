-- Laws of the calls that take more than one step: a new device behind a new host end, a state that comes back beside guest memory, bytes laid into guest
-- memory, and a part that is lent. Assumes nothing.
use Rattle.std.proofs.Common.{◌≡◌, ℕ, ◌-◌, ◌<◌, ◌≤◌, Bool, ◌≢◌, List, length, replicate, sym, ap, ◌∙◌, le-ltb, lt-ltb, eq-eqb, ne_eqb}
use lib.ListN.{length-replicate}
use Rattle.word.specs.Place.{put_at}
use Rattle.word.proofs.Choices.{cond_map}
use Rattle.port_device.specs.Calls.{Returned, returned, lent, behind, none, restored_by, made, stored_out, new_of}
use Rattle.reply.specs.Replies.{is_machine}
use Rattle.port_host.specs.Calls.{kept}
use Rattle.port_host.specs.Calls as hosts
use Rattle.rehearse.specs.Calls.{fresh_of, reached, poke_of}

module _ (microphone : Bool) (device host : List ℕ) (lists queues : ℕ) (h : ℕ) (end : List ℕ) (e : kept h end ≡ hosts.new_of host queues) where
  pub fresh-refused : h ≢ 0 → stored_out h device end ≡ fresh_of microphone device host lists queues
  unfolding fresh_of
  fresh-refused n = rw (← e, ne_eqb h 0 n)

  pub fresh-done : h ≡ 0 → (d : ℕ) (laid : List ℕ) → made d laid ≡ new_of microphone device lists queues
      → stored_out d laid end ≡ fresh_of microphone device host lists queues
  unfolding fresh_of
  fresh-done z d laid f = rw (← e, eq-eqb h 0 z, ← f)

-- restore is lent no guest memory: what there is stays
module _ (memory : List ℕ) where
  abbrev beside : Returned → Returned
  beside x = returned x.reply (lent x.lent.device x.lent.host x.lent.lists x.lent.queues memory)

  pub restored-beside : (strict : Bool) (state device host lists queues : List ℕ) (r : ℕ) (d h l : List ℕ)
      → returned r (lent d h l queues none) ≡ behind (restored_by strict state) (lent device host lists queues none)
      → returned r (lent d h l queues memory) ≡ behind (restored_by strict state) (lent device host lists queues memory)
  unfolding behind
  restored-beside strict state device host lists queues r d h l e = ap beside e ∙ cond_map beside (is_machine device host) _ _

module _ (address : ℕ) (bytes memory : List ℕ) where
  pub poke-behind : length memory < address → reached 1 memory ≡ poke_of address bytes memory
  unfolding poke_of
  poke-behind h = rw (lt-ltb (length memory) address h)

  pub poke-short : address ≤ length memory → length memory - address < length bytes → reached 1 memory ≡ poke_of address bytes memory
  unfolding poke_of
  poke-short h g = rw (le-ltb (length memory) address h, lt-ltb (length memory - address) (length bytes) g)

  pub poke-done : address ≤ length memory → length bytes ≤ length memory - address → (after : List ℕ) → after ≡ put_at address bytes memory
      → reached 0 after ≡ poke_of address bytes memory
  unfolding poke_of
  poke-done h g after e = rw (le-ltb (length memory) address h, le-ltb (length memory - address) (length bytes) g, e)

-- a law, since checking by computation would count the elements
pub zeros-length : (n : ℕ) → n ≡ length {A = ℕ} (replicate n 0)
zeros-length n = sym (length-replicate n 0)
