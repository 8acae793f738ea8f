-- What a caller learns from a try: left alone, nothing has changed; else all of the call is done, and host end and lent spaces stay. Assumes nothing.
use Prim.Native.Nat.{ℕ, ◌+◌, ◌*◌, ◌^◌}
use mathlib.Core.Path.{◌≡◌, sym, ap, ◌∙◌}
use mathlib.Core.Bool.{Bool, true, false, cond, true≢false, ◌&&◌}
use mathlib.Core.List.{List}
use lib.Dec.{eqb, ltb}
use lib.ListN.{length}
use Rattle.word.proofs.Choices.{left, right, by_cond}
use Rattle.bus.specs.Bus.{plain_write}
use Rattle.device.specs.Machines.{Machine, Done, check_machine, answer_of, finish_of}
use Rattle.settle.specs.Settle.{ports}
use Rattle.write.specs.Writes.{written_of, write_step, write_of}
use Rattle.hda.specs.Calls.{config_write_step, config_write_of}
use Rattle.std.specs.Prelude.{None}
use Rattle.std.specs.Option.{is_some}
use Rattle.fastpath.specs.Quick.{left_alone, Tried, tried, carried_out, quiet_of, write_by, config_write_by}
use Rattle.fastpath.proofs.Quiet.{quiet-tail}

-- a call that leaves the host end and the lent spaces, and answers 0
pub record Light (x : Machine) (z : Done) : Type 0 where
  pub number : z.answer.number ≡ 0
  pub host : z.answer.host ≡ x.host
  pub lists : z.lists ≡ x.lists
  pub queues : z.queues ≡ x.queues

pub record Carried (x : Machine) (z : Done) (y : Tried) : Type 0 where
  pub light : Light x z
  pub whole : y ≡ carried_out z

abbrev Left : List ℕ → List ℕ → Tried → Type 0
Left device memory y = (y.device ≡ device) × (y.memory ≡ memory)

module _ (device : List ℕ) (x : Machine) (z : Done) (y : Tried) where
  left_by : (t : Bool) → y ≡ cond t (carried_out z) (tried left_alone device x.memory) → y.quick ≡ None → Left device x.memory y
  left_by t =
      by_cond (λ (w : Tried). y ≡ w → y.quick ≡ None → Left device x.memory y) t (carried_out z) (tried left_alone device x.memory)
      (λ _ e n. absurd (true≢false (ap is_some (sym (ap (λ (w : Tried). w.quick) e) ∙ n)))) (λ _ e n. (ap (λ (w : Tried). w.device) e, ap (λ (w : Tried). w.memory) e))

  carried-by : (t : Bool) → (t ≡ true → Light x z) → y ≡ cond t (carried_out z) (tried left_alone device x.memory) → is_some y.quick ≡ true → Carried x z y
  carried-by t light =
      by_cond (λ (w : Tried). y ≡ w → is_some y.quick ≡ true → Carried x z y) t (carried_out z) (tried left_alone device x.memory)
      (λ c e n. record { light = light c; whole = e }) (λ _ e n. absurd (true≢false (sym n ∙ ap (λ (w : Tried). is_some w.quick) e)))

-- a write to the registers
module _ (offset : ℕ) (bytes device : List ℕ) (x : Machine) (y : Tried) (e : y ≡ write_by offset bytes device x) where
  abbrev quietly : Bool
  quietly = eqb (check_machine x) 0 && (plain_write offset (length bytes) && quiet_of x.hda.regs (written_of x.hda offset bytes).regs)

  light-write : quietly ≡ true → Light x (write_of offset bytes x)
  unfolding write_of write_step finish_of answer_of
  light-write t =
      let passed = left (eqb (check_machine x) 0) _ t in
      let quiet = right (plain_write offset (length bytes)) _ (right (eqb (check_machine x) 0) _ t) in
      let stays = quiet-tail x.hda.regs (ports (written_of x.hda offset bytes) x.host) quiet in
      record { number = rw (passed); host = rw (passed, stays); lists = rw passed; queues = rw passed }

  pub write_kept : y.quick ≡ None → Left device x.memory y
  unfolding write_by
  write_kept = left_by device x (write_of offset bytes x) y quietly e

  pub write-carried : is_some y.quick ≡ true → Carried x (write_of offset bytes x) y
  unfolding write_by
  write-carried = carried-by device x (write_of offset bytes x) y quietly light-write e

-- a write to the configuration
module _ (register offset : ℕ) (bytes device : List ℕ) (x : Machine) (y : Tried) (e : y ≡ config_write_by register offset bytes device x) where
  abbrev within : Bool
  within = eqb (check_machine x) 0 && ltb (4 * register + offset) (2 ^ 64)

  light-config : within ≡ true → Light x (config_write_of register offset bytes x)
  unfolding config_write_of config_write_step finish_of answer_of
  light-config t =
      let passed = left (eqb (check_machine x) 0) _ t in
      let inside = right (eqb (check_machine x) 0) _ t in
      record { number = rw (passed, inside); host = rw (passed, inside); lists = rw (passed, inside); queues = rw (passed, inside) }

  pub config-kept : y.quick ≡ None → Left device x.memory y
  unfolding config_write_by
  config-kept = left_by device x (config_write_of register offset bytes x) y within e

  pub config-carried : is_some y.quick ≡ true → Carried x (config_write_of register offset bytes x) y
  unfolding config_write_by
  config-carried = carried-by device x (config_write_of register offset bytes x) y within light-config e
