-- Other calls between the callbacks (request T-10 leaves none there): a guest that goes on running, a host that does other things. Any call of demand 3 may come there but those that bring time or another state.
use Rattle.std.specs.Prelude.{ℕ, suc, List, [], ◌∷◌, ◌++◌}
use Rattle.device.specs.Machines.{Machine}
use Rattle.calls.specs.Calls as calls
use Rattle.calls.specs.Calls.{Call, after}
use Rattle.book.specs.Lists.{Step, handed}
use Rattle.catchup.specs.Callbacks.{Callback, left_by, Serves, Sized}

-- a call that brings neither
abbrev pub IsQuiet : Call → Type 0
IsQuiet (calls.advance nanos) = ⊥
IsQuiet (calls.read offset into) = Unit {0}
IsQuiet (calls.write offset bytes) = Unit {0}
IsQuiet (calls.bar_read bar offset into) = Unit {0}
IsQuiet (calls.bar_write bar offset bytes) = Unit {0}
IsQuiet (calls.config_read register) = Unit {0}
IsQuiet (calls.config_write register offset bytes) = Unit {0}
IsQuiet (calls.pin_change node) = Unit {0}
IsQuiet (calls.pause paused) = Unit {0}
IsQuiet (calls.feed frames) = Unit {0}
IsQuiet (calls.pull into) = Unit {0}
IsQuiet (calls.playback_fails fails) = Unit {0}
IsQuiet (calls.capture_fails fails) = Unit {0}
IsQuiet (calls.downstream bytes) = Unit {0}
IsQuiet (calls.save into) = Unit {0}
IsQuiet (calls.restore strict state) = ⊥
IsQuiet (calls.advance_bounds shortest longest lists queues memory into) = Unit {0}

-- a callback, or a call between two: on machines, and on bytes with theirs
pub data Moment (C S : Type 0) : Type 0 where
  callback : C → Moment C S
  between : S → Moment C S

-- the calls, a callback being those that `steps` gives
abbrev pub steps_among : {C S : Type 0} → (C → List S) → List (Moment C S) → List S
steps_among steps [] = []
steps_among steps (callback c ∷ ms) = steps c ++ steps_among steps ms
steps_among steps (between s ∷ ms) = s ∷ steps_among steps ms

abbrev pub callbacks_in : {C S : Type 0} → List (Moment C S) → ℕ
callbacks_in [] = 0
callbacks_in (callback c ∷ ms) = suc (callbacks_in ms)
callbacks_in (between s ∷ ms) = callbacks_in ms

-- what is asked: each callback serves the stream, of a device as its type says, and each other call is quiet
abbrev pub Among : ℕ → ℕ → List (Moment Callback Step) → Machine → Type 0
Among i frames [] x = Unit {0}
Among i frames (callback c ∷ ms) x = Sized x.hda × Serves i frames c x × Among i frames ms (left_by c x)
Among i frames (between s ∷ ms) x = IsQuiet s.call × Among i frames ms (after s.call (handed s x))
