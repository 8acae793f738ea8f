-- Every C function on a device or a host end as one type of call: what it returns with the bytes that it changes, which is the right side of its contract, and all that a caller lends after it.
use Rattle.std.specs.Prelude.{ℕ, Bool, List, length}
use Rattle.driver.specs.Calls.{playback_fails_of, capture_fails_of, downstream_of}
use Rattle.advance.specs.Advance.{advance_of}
use Rattle.write.specs.Writes.{write_of}
use Rattle.hda.specs.Calls.{bar_write_of, config_write_of, pin_of}
use Rattle.calls.specs.Calls as calls
use Rattle.port_device.specs.Calls.{Lent, lent, Returned, Made, behind, none, restored_by, new_of, paused_of}
use Rattle.port_reads.specs.Reads.{Shown, read_of, bar_read_of, config_read_of, save_of}
use Rattle.port_host.specs.Calls as ends
use Rattle.port_host.specs.Calls.{Kept, FedBytes, PulledBytes, feed_of, pull_of, setting}
use Rattle.jitter.specs.Calls.{scratch}
use Rattle.port_jitter.specs.Calls.{BoundedBytes, bounds_of}

-- hda_new, hda_host_new, and the function of each other call
pub data Call : Type 0 where
  new : (microphone : Bool) → Call
  host_new : Call
  on : calls.Call → Call

-- what a function returns, beside those of the lent bytes that it may change
abbrev pub OutcomeOn : calls.Call → Type 0
OutcomeOn (calls.advance nanos) = Returned
OutcomeOn (calls.read offset into) = Shown
OutcomeOn (calls.write offset bytes) = Returned
OutcomeOn (calls.bar_read bar offset into) = Shown
OutcomeOn (calls.bar_write bar offset bytes) = Returned
OutcomeOn (calls.config_read register) = ℕ
OutcomeOn (calls.config_write register offset bytes) = Returned
OutcomeOn (calls.pin_change node) = Returned
OutcomeOn (calls.pause paused) = Made
OutcomeOn (calls.feed frames) = FedBytes
OutcomeOn (calls.pull into) = PulledBytes
OutcomeOn (calls.playback_fails fails) = Kept
OutcomeOn (calls.capture_fails fails) = Kept
OutcomeOn (calls.downstream n) = Kept
OutcomeOn (calls.save into) = Shown
OutcomeOn (calls.restore strict state) = Returned
OutcomeOn (calls.advance_bounds shortest longest lists queues memory into) = BoundedBytes

abbrev pub Outcome : Call → Type 0
Outcome (new microphone) = Made
Outcome host_new = Kept
Outcome (on c) = OutcomeOn c

-- The call on all that a caller lends, by the definition that says what it does there.
abbrev pub call_on : (c : calls.Call) → Lent → OutcomeOn c
call_on (calls.advance nanos) x = behind (advance_of nanos) x
call_on (calls.read offset into) x = read_of offset x.device x.host x.lists (length x.queues) into
call_on (calls.write offset bytes) x = behind (write_of offset bytes) x
call_on (calls.bar_read bar offset into) x = bar_read_of bar offset x.device x.host x.lists (length x.queues) into
call_on (calls.bar_write bar offset bytes) x = behind (bar_write_of bar offset bytes) x
call_on (calls.config_read register) x = config_read_of register x.device x.host x.lists (length x.queues)
call_on (calls.config_write register offset bytes) x = behind (config_write_of register offset bytes) x
call_on (calls.pin_change node) x = behind (pin_of node) x
call_on (calls.pause paused) x = paused_of paused x.device x.host x.lists (length x.queues)
call_on (calls.feed frames) x = feed_of x.host x.queues frames
call_on (calls.pull into) x = pull_of x.host x.queues into
call_on (calls.playback_fails fails) x = setting (λ h n. playback_fails_of h n fails) x.host (length x.queues)
call_on (calls.capture_fails fails) x = setting (λ h n. capture_fails_of h n fails) x.host (length x.queues)
call_on (calls.downstream bytes) x = setting (λ h n. downstream_of h n bytes) x.host (length x.queues)
call_on (calls.save into) x = save_of x.device x.host x.lists (length x.queues) into
call_on (calls.restore strict state) x = behind (restored_by strict state) (lent x.device x.host x.lists x.queues none)
call_on (calls.advance_bounds shortest longest lists queues memory into) x = bounds_of shortest longest x.device x.host x.lists x.queues x.memory (scratch lists queues memory) into

abbrev pub call_of : (c : Call) → Lent → Outcome c
call_of (new microphone) x = new_of microphone x.device (length x.lists) (length x.queues)
call_of host_new x = ends.new_of x.host (length x.queues)
call_of (on c) x = call_on c x

-- ---- what each function is handed of it, as crate port's contracts have it: none of the rest is looked at (proofs/Laws.antt: `looks-no-further`)
abbrev pub handed_on : calls.Call → Lent → Lent
handed_on (calls.advance nanos) x = x
handed_on (calls.read offset into) x = lent x.device x.host x.lists x.queues none
handed_on (calls.write offset bytes) x = x
handed_on (calls.bar_read bar offset into) x = lent x.device x.host x.lists x.queues none
handed_on (calls.bar_write bar offset bytes) x = x
handed_on (calls.config_read register) x = lent x.device x.host x.lists x.queues none
handed_on (calls.config_write register offset bytes) x = x
handed_on (calls.pin_change node) x = x
handed_on (calls.pause paused) x = lent x.device x.host x.lists x.queues none
handed_on (calls.feed frames) x = lent none x.host none x.queues none
handed_on (calls.pull into) x = lent none x.host none x.queues none
handed_on (calls.playback_fails fails) x = lent none x.host none x.queues none
handed_on (calls.capture_fails fails) x = lent none x.host none x.queues none
handed_on (calls.downstream bytes) x = lent none x.host none x.queues none
handed_on (calls.save into) x = lent x.device x.host x.lists x.queues none
handed_on (calls.restore strict state) x = lent x.device x.host x.lists x.queues none
handed_on (calls.advance_bounds shortest longest lists queues memory into) x = x

abbrev pub handed_to : Call → Lent → Lent
handed_to (new microphone) x = lent x.device none x.lists x.queues none
handed_to host_new x = lent none x.host none x.queues none
handed_to (on c) x = handed_on c x

-- ---- all that a caller lends after a call: what the function changed, in its place
abbrev pub with_device : Lent → List ℕ → Lent
with_device x device = lent device x.host x.lists x.queues x.memory

abbrev pub with_host : Lent → List ℕ → List ℕ → Lent
with_host x host queues = lent x.device host x.lists queues x.memory

abbrev pub with_memory : Lent → List ℕ → Lent
with_memory x memory = lent x.device x.host x.lists x.queues memory

abbrev pub left_on : (c : calls.Call) → Lent → OutcomeOn c → Lent
left_on (calls.advance nanos) x r = r.lent
left_on (calls.read offset into) x r = x
left_on (calls.write offset bytes) x r = r.lent
left_on (calls.bar_read bar offset into) x r = x
left_on (calls.bar_write bar offset bytes) x r = r.lent
left_on (calls.config_read register) x r = x
left_on (calls.config_write register offset bytes) x r = r.lent
left_on (calls.pin_change node) x r = r.lent
left_on (calls.pause paused) x r = with_device x r.device
left_on (calls.feed frames) x r = with_host x r.kept.host r.queues
left_on (calls.pull into) x r = with_host x r.kept.host r.queues
left_on (calls.playback_fails fails) x r = with_host x r.host x.queues
left_on (calls.capture_fails fails) x r = with_host x r.host x.queues
left_on (calls.downstream bytes) x r = with_host x r.host x.queues
left_on (calls.save into) x r = x
left_on (calls.restore strict state) x r = with_memory r.lent x.memory
left_on (calls.advance_bounds shortest longest lists queues memory into) x r = x

abbrev pub left_by : (c : Call) → Lent → Outcome c → Lent
left_by (new microphone) x r = with_device x r.device
left_by host_new x r = with_host x r.host x.queues
left_by (on c) x r = left_on c x r

unfoldable pub after : Call → Lent → Lent
after c x = left_by c x (call_of c x)
