-- A function looks at no more than it is handed, and what it leaves there is all that changes: so its contract, which is over that alone, says what it does among all that a caller lends. Assumes nothing.
use Prim.Native.Nat.{ℕ}
use mathlib.Core.Path.{◌≡◌, refl, sym, ap}
use mathlib.Core.Bool.{Bool}
use mathlib.Core.List.{List}
use Rattle.calls.specs.Calls as calls
use Rattle.port_device.specs.Calls.{Lent, lent, none, returned, made}
use Rattle.port_reads.specs.Reads.{shown}
use Rattle.port_host.specs.Calls.{kept, fed_out, pulled_out}
use Rattle.jitter.specs.Calls.{Scratch}
use Rattle.port_jitter.specs.Calls.{bounded_out}
use Rattle.lent_calls.specs.Calls.{Call, new, host_new, on, call_on, call_of, handed_on, handed_to, left_by, after}

on-no-further : (c : calls.Call) (x : Lent) → call_on c x ≡ call_on c (handed_on c x)
on-no-further (calls.advance nanos) x = refl
on-no-further (calls.read offset into) x = refl
on-no-further (calls.write offset bytes) x = refl
on-no-further (calls.bar_read bar offset into) x = refl
on-no-further (calls.bar_write bar offset bytes) x = refl
on-no-further (calls.config_read register) x = refl
on-no-further (calls.config_write register offset bytes) x = refl
on-no-further (calls.pin_change node) x = refl
on-no-further (calls.pause paused) x = refl
on-no-further (calls.feed frames) x = refl
on-no-further (calls.pull into) x = refl
on-no-further (calls.playback_fails fails) x = refl
on-no-further (calls.capture_fails fails) x = refl
on-no-further (calls.downstream bytes) x = refl
on-no-further (calls.save into) x = refl
on-no-further (calls.restore strict state) x = refl
on-no-further (calls.advance_bounds shortest longest lists queues memory into) x = refl

pub looks-no-further : (c : Call) (x : Lent) → call_of c x ≡ call_of c (handed_to c x)
looks-no-further (new microphone) x = refl
looks-no-further host_new x = refl
looks-no-further (on c) x = on-no-further c x

-- ---- what a function's contract says of the bytes at its exit stands in all that is lent after it, and the rest stays: the left side of each contract of crate port
new-stands : (microphone : Bool) (r : ℕ) (x : Lent) (device : List ℕ) → made r device ≡ call_of (new microphone) x → after (new microphone) x ≡ lent device x.host x.lists x.queues x.memory
unfolding after
new-stands microphone r x device e = sym (ap (left_by (new microphone) x) e)

host-new-stands : (r : ℕ) (x : Lent) (host : List ℕ) → kept r host ≡ call_of host_new x → after host_new x ≡ lent x.device host x.lists x.queues x.memory
unfolding after
host-new-stands r x host e = sym (ap (left_by host_new x) e)

advance-stands : (nanos : ℕ) (r : ℕ) (x : Lent) (y : Lent) → returned r y ≡ call_of (on (calls.advance nanos)) x → after (on (calls.advance nanos)) x ≡ y
unfolding after
advance-stands nanos r x y e = sym (ap (left_by (on (calls.advance nanos)) x) e)

read-stands : (offset : ℕ) (into : List ℕ) (r : ℕ) (x : Lent) (shows : List ℕ) → shown r shows ≡ call_of (on (calls.read offset into)) x → after (on (calls.read offset into)) x ≡ x
unfolding after
read-stands offset into r x shows e = sym (ap (left_by (on (calls.read offset into)) x) e)

write-stands : (offset : ℕ) (bytes : List ℕ) (r : ℕ) (x : Lent) (y : Lent) → returned r y ≡ call_of (on (calls.write offset bytes)) x → after (on (calls.write offset bytes)) x ≡ y
unfolding after
write-stands offset bytes r x y e = sym (ap (left_by (on (calls.write offset bytes)) x) e)

bar-read-stands : (bar offset : ℕ) (into : List ℕ) (r : ℕ) (x : Lent) (shows : List ℕ) → shown r shows ≡ call_of (on (calls.bar_read bar offset into)) x → after (on (calls.bar_read bar offset into)) x ≡ x
unfolding after
bar-read-stands bar offset into r x shows e = sym (ap (left_by (on (calls.bar_read bar offset into)) x) e)

bar-write-stands : (bar offset : ℕ) (bytes : List ℕ) (r : ℕ) (x : Lent) (y : Lent) → returned r y ≡ call_of (on (calls.bar_write bar offset bytes)) x → after (on (calls.bar_write bar offset bytes)) x ≡ y
unfolding after
bar-write-stands bar offset bytes r x y e = sym (ap (left_by (on (calls.bar_write bar offset bytes)) x) e)

config-read-stands : (register : ℕ) (r : ℕ) (x : Lent) → r ≡ call_of (on (calls.config_read register)) x → after (on (calls.config_read register)) x ≡ x
unfolding after
config-read-stands register r x e = sym (ap (left_by (on (calls.config_read register)) x) e)

config-write-stands : (register offset : ℕ) (bytes : List ℕ) (r : ℕ) (x : Lent) (y : Lent) → returned r y ≡ call_of (on (calls.config_write register offset bytes)) x → after (on (calls.config_write register offset bytes)) x ≡ y
unfolding after
config-write-stands register offset bytes r x y e = sym (ap (left_by (on (calls.config_write register offset bytes)) x) e)

pin-stands : (node : ℕ) (r : ℕ) (x : Lent) (y : Lent) → returned r y ≡ call_of (on (calls.pin_change node)) x → after (on (calls.pin_change node)) x ≡ y
unfolding after
pin-stands node r x y e = sym (ap (left_by (on (calls.pin_change node)) x) e)

pause-stands : (paused : Bool) (r : ℕ) (x : Lent) (device : List ℕ) → made r device ≡ call_of (on (calls.pause paused)) x → after (on (calls.pause paused)) x ≡ lent device x.host x.lists x.queues x.memory
unfolding after
pause-stands paused r x device e = sym (ap (left_by (on (calls.pause paused)) x) e)

feed-stands : (frames : List ℕ) (r : ℕ) (x : Lent) (host queues : List ℕ) → fed_out r host queues ≡ call_of (on (calls.feed frames)) x → after (on (calls.feed frames)) x ≡ lent x.device host x.lists queues x.memory
unfolding after
feed-stands frames r x host queues e = sym (ap (left_by (on (calls.feed frames)) x) e)

pull-stands : (into : List ℕ) (r : ℕ) (x : Lent) (host queues frames : List ℕ) → pulled_out r host queues frames ≡ call_of (on (calls.pull into)) x → after (on (calls.pull into)) x ≡ lent x.device host x.lists queues x.memory
unfolding after
pull-stands into r x host queues frames e = sym (ap (left_by (on (calls.pull into)) x) e)

playback-stands : (fails : Bool) (r : ℕ) (x : Lent) (host : List ℕ) → kept r host ≡ call_of (on (calls.playback_fails fails)) x → after (on (calls.playback_fails fails)) x ≡ lent x.device host x.lists x.queues x.memory
unfolding after
playback-stands fails r x host e = sym (ap (left_by (on (calls.playback_fails fails)) x) e)

capture-stands : (fails : Bool) (r : ℕ) (x : Lent) (host : List ℕ) → kept r host ≡ call_of (on (calls.capture_fails fails)) x → after (on (calls.capture_fails fails)) x ≡ lent x.device host x.lists x.queues x.memory
unfolding after
capture-stands fails r x host e = sym (ap (left_by (on (calls.capture_fails fails)) x) e)

downstream-stands : (bytes : ℕ) (r : ℕ) (x : Lent) (host : List ℕ) → kept r host ≡ call_of (on (calls.downstream bytes)) x → after (on (calls.downstream bytes)) x ≡ lent x.device host x.lists x.queues x.memory
unfolding after
downstream-stands bytes r x host e = sym (ap (left_by (on (calls.downstream bytes)) x) e)

save-stands : (into : List ℕ) (r : ℕ) (x : Lent) (shows : List ℕ) → shown r shows ≡ call_of (on (calls.save into)) x → after (on (calls.save into)) x ≡ x
unfolding after
save-stands into r x shows e = sym (ap (left_by (on (calls.save into)) x) e)

restore-stands : (strict : Bool) (state : List ℕ) (r : ℕ) (x : Lent) (device host lists queues : List ℕ) → returned r (lent device host lists queues none) ≡ call_of (on (calls.restore strict state)) x → after (on (calls.restore strict state)) x ≡ lent device host lists queues x.memory
unfolding after
restore-stands strict state r x device host lists queues e = sym (ap (left_by (on (calls.restore strict state)) x) e)

bounds-stands : (shortest longest : ℕ) (lists queues memory into : List ℕ) (r : ℕ) (x : Lent) (s : Scratch) (result : List ℕ) → bounded_out r s result ≡ call_of (on (calls.advance_bounds shortest longest lists queues memory into)) x → after (on (calls.advance_bounds shortest longest lists queues memory into)) x ≡ x
unfolding after
bounds-stands shortest longest lists queues memory into r x s result e = sym (ap (left_by (on (calls.advance_bounds shortest longest lists queues memory into)) x) e)
