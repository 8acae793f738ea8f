-- What keeps a machine valid: the steps that calls share, and a call behind its check. Assumes nothing.
use Prim.Native.Nat.{ℕ, ◌*◌, ◌<◌, ◌≤◌}
use mathlib.Core.Path.{◌≡◌, refl, ◌∙◌}
use mathlib.Core.Bool.{true}
use mathlib.Core.List.{List}
use native.Mathlib.Omega.{arith}
use lib.Dec.{eqb}
use lib.ListN.{length, drop, take-append-drop}
use Rattle.word.specs.Place.{word_at}
use Rattle.word.specs.Parts.{part_of, with_part}
use Rattle.word.proofs.Choices.{by_cond}
use Rattle.word.proofs.Lists.{length_part}
use Rattle.word.proofs.Each.{each_keeps}
use Rattle.clock.specs.Billionths.{billion}
use Rattle.stream.specs.Box.{streams}
use Rattle.stream.specs.Streams.{list_size}
use Rattle.queue.specs.Queues.{capacity}
use Rattle.host.specs.declared.Host.{Host}
use Rattle.host.specs.Hosts as hosts
use Rattle.registers.specs.Places.{ctl, byte_at, dma_of}
use Rattle.registers.proofs.Files.{File, file-reset}
use Rattle.rings.specs.Rings.{rings_of}
use Rattle.rings.proofs.Facts.{commands-few}
use Rattle.turn.specs.Failures.{Channel}
use Rattle.device.specs.declared.Hda.{Hda}
use Rattle.device.specs.Devices.{with_regs, valid_of}
use Rattle.device.specs.Machines.{Machine, machine, check_machine, answer_of, Done, unchanged, checked, finish_of, finished, Commanded, commanded_of, with_commanded}
use Rattle.device.proofs.Checks.{Valid, device-parts, parts-device, passed, passes}
use Rattle.device.proofs.Facts.{with-stream-valid}
use Rattle.settle.specs.declared.Ports.{Ports}
use Rattle.settle.specs.Settle.{ports, channel_at, with_channel, cleared_of, reset_at, reset_controller_of, settle_at, settle_of}
use Rattle.calls.proofs.Pci.{update_word, update-file}
use Rattle.calls.proofs.Turns.{Whole}
use Rattle.calls.proofs.Control.{reset-whole, settled-whole}
use Rattle.calls.proofs.Rings.{commands-file}

-- a device with another clock, other responses and another configuration within their conditions, and the same streams
pub device-changed : (d e : Hda) (l : List ℕ) → e.clock.fraction < billion → e.link.responses ≤ 255 → word_at 4 0 e.config ≡ word_at 4 0 d.config
    → e.streams ≡ d.streams → valid_of d l ≡ true → valid_of e l ≡ true
device-changed d e l time few identified same valid =
    let v = device-parts d l valid in
    parts-device e l (record { time = time; responses = few; identified = identified ∙ v.identified; streams = λ i less. rw same (v.streams i less) })

-- a register file, a valid device and a valid host end
pub record Holds (l : List ℕ) (x : Ports) : Type 0 where
  pub file : File x.hda.regs
  pub device : valid_of x.hda l ≡ true
  pub host : hosts.valid_of x.host ≡ true

-- another register file
pub with-file : (l : List ℕ) (x : Ports) (regs : List ℕ) → File regs → Holds l x → Holds l (ports (with_regs x.hda regs) x.host)
with-file l x regs f h =
    let v = device-parts x.hda l h.device in
    record { file = f; device = device-changed x.hda (with_regs x.hda regs) l v.time v.responses refl refl h.device; host = h.host }

-- waiting commands, and the end of a call
module _ (l : List ℕ) (d : Hda) (h : Host) (holds : Holds l (ports d h)) where
  v : Valid d l
  v = device-parts d l holds.device

  pub commanded-holds : (m : List ℕ) → Holds l (ports (commanded_of d m).hda h)
  unfolding commanded_of
  commanded-holds m =
      let x = rings_of d.regs d.link m in
      let dma = dma_of d.config d.regs in
      record {
        file = commands-file x holds.file dma;
        device = device-changed d (commanded_of d m).hda l v.time (commands-few x v.responses dma) refl refl holds.device;
        host = holds.host;
      }

  pub finish-holds : (number : ℕ) → Holds l (ports (finish_of number d h).hda (finish_of number d h).host)
  unfolding finish_of answer_of
  finish-holds number =
      record {
        file = update-file d.config d.regs d.asserted holds.file;
        device = device-changed d (finish_of number d h).hda l v.time v.responses (update_word d.config d.regs d.asserted) refl holds.device;
        host = holds.host;
      }

-- a step on one stream
module _ (l : List ℕ) (space : list_size * streams ≤ length l) (i : ℕ) (few : i < streams) where
  pub part-size : length (part_of list_size i l) ≡ list_size
  part-size = length_part list_size (list_size * i) l (omega arith)

  same_lists : with_part list_size i l (part_of list_size i l) ≡ l
  same_lists = rw (take-append-drop list_size (drop (list_size * i) l), take-append-drop (list_size * i) l)

  channel-whole : (x : Ports) → Holds l x → Whole (part_of list_size i l) (channel_at x i)
  channel-whole x h = record { file = h.file; stream = (device-parts x.hda l h.device).streams i few; host = h.host }

  with-channel : (x : Ports) (c : Channel) → Holds l x → Whole (part_of list_size i l) c → Holds l (with_channel x i c)
  with-channel x c h w =
      let d = with-file l x c.regs w.file h in
      record {
        file = w.file;
        device = rw same_lists at
            (with-stream-valid (with_regs x.hda c.regs) l i few c.attached.stream (part_of list_size i l) part-size space d.device w.stream);
        host = w.host;
      }

-- every stream settled, and the controller's reset
module _ (l : List ℕ) (space : list_size * streams ≤ length l) (x : Ports) (h : Holds l x) where
  pub settle-holds : (old : List ℕ) → Holds l (settle_of old x)
  unfolding settle_of
  settle-holds old =
      each_keeps (Holds l) (settle_at old) streams
      (λ i y few k. with-channel l space i few y _ k
      (settled-whole i few (part_of list_size i l) y.hda.microphone (byte_at old (ctl i)) (channel_at y i) (channel-whole l space i few y k)))
      streams 0 x (omega arith) h

  cleared-holds : Holds l (ports (cleared_of x.hda) x.host)
  cleared-holds =
      record {
        file = file-reset;
        device = device-changed x.hda (cleared_of x.hda) l (omega arith) (omega arith) refl refl h.device;
        host = h.host;
      }

  pub reset-holds : Holds l (reset_controller_of x)
  unfolding reset_controller_of
  reset-holds =
      each_keeps (Holds l) reset_at streams
      (λ i y few k. with-channel l space i few y _ k (reset-whole i few (part_of list_size i l) (channel_at y i) (channel-whole l space i few y k)))
      streams 0 _ (omega arith) cleared-holds

-- a machine: its lent spaces are large enough, and its device and host end are as above
pub record Stands (x : Machine) : Type 0 where
  pub lists : list_size * streams ≤ length x.lists
  pub queues : capacity * streams ≤ length x.queues
  pub holds : Holds x.lists (ports x.hda x.host)

pub check-stands : (x : Machine) → check_machine x ≡ 0 → File x.hda.regs → Stands x
check-stands x e f =
    let p = passed x.hda x.host x.lists (length x.queues) e in
    record { lists = p.lists; queues = p.queues; holds = record { file = f; device = p.device; host = p.host } }

pub stands-check : (x : Machine) → Stands x → check_machine x ≡ 0
stands-check x s = passes x.hda x.host x.lists (length x.queues) s.lists s.queues s.holds.device s.holds.host

-- the machine that a call leaves: as it was, at the end of the call, or refused
abbrev pub Leaves : Done → Type 0
Leaves r = Stands (machine r.answer.hda r.answer.host r.lists r.queues r.memory)

module _ (x : Machine) (s : Stands x) where
  pub unchanged-leaves : (number : ℕ) → Leaves (unchanged number x)
  unfolding answer_of
  unchanged-leaves number = record { lists = s.lists; queues = s.queues; holds = s.holds }

  pub finished-leaves : (number : ℕ) → Leaves (finished number x)
  finished-leaves number = record { lists = s.lists; queues = s.queues; holds = finish-holds x.lists x.hda x.host s.holds number }

  pub checked-leaves : (call : Machine → Done) → Leaves (call x) → Leaves (checked call x)
  checked-leaves call h = by_cond Leaves (eqb (check_machine x) 0) (call x) (unchanged (check_machine x) x) (λ _. h) (λ _. unchanged-leaves (check_machine x))

  -- with another device, which the commands' or a pin's response leaves
  pub commanded-stands : (h : Host) (c : Commanded) → Holds x.lists (ports c.hda h) → Stands (with_commanded x h c)
  commanded-stands h c k = record { lists = s.lists; queues = s.queues; holds = k }
