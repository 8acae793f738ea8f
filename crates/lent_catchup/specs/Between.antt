-- Other calls between the callbacks (request T-10 leaves none there), on bytes: any C function on a device or a host end but hda_new, hda_advance and the two that restore.
use Rattle.std.specs.Prelude.{ℕ, List, [], ◌∷◌}
use Rattle.port_device.specs.Calls.{Lent}
use Rattle.lent_calls.specs.Calls.{Call, new, host_new, on, after}
use Rattle.lent_book.specs.Lists.{Step, handed}
use Rattle.catchup.specs.Between as machines
use Rattle.catchup.specs.Between.{Moment, callback, between}
use Rattle.lent_catchup.specs.Callbacks.{Callback, left_by, Serves}

abbrev pub IsQuiet : Call → Type 0
IsQuiet (new microphone) = ⊥
IsQuiet host_new = Unit {0}
IsQuiet (on c) = machines.IsQuiet c

-- what is asked: each callback serves the stream, and each other call is quiet
abbrev pub Among : ℕ → ℕ → List (Moment Callback Step) → Lent → Type 0
Among i frames [] x = Unit {0}
Among i frames (callback c ∷ ms) x = Serves i frames c x × Among i frames ms (left_by c x)
Among i frames (between s ∷ ms) x = IsQuiet s.call × Among i frames ms (after s.call (handed s x))
