-- A transfer over two memories that agree on the stream's descriptor list does the same, but for what a playback queues. Assumes nothing.
use Prim.Native.Nat.{ℕ}
use mathlib.Core.Path.{◌≡◌, refl, sym, ◌∙◌, subst}
use mathlib.Core.Bool.{Bool, true, false, cond, true≢false}
use mathlib.Core.List.{List}
use Rattle.stream.specs.declared.Stream.{Stream}
use Rattle.stream.specs.declared.Cyclic.{Cyclic}
use Rattle.plan.specs.Plans.{ready_of}
use Rattle.pieces.specs.Pieces.{Out, state_of, pieces_of}
use Rattle.queue.specs.declared.Queue.{Queue}
use Rattle.queue.specs.Queues.{put_of}
use Rattle.transfer.specs.Transfers.{Transfer, transfer_out, with_pieces, silence, taken_of, captured_of, capture_of, heard_of, playback_of, transfer_of}
use Rattle.turn.specs.Engines.{with_fraction}
use Rattle.counts.specs.Counts.{Agree, Pending}
use Rattle.counts.proofs.Pieces.{Listed, OutAlike, pieces-alike}

pub record TransferAlike (P : ℕ → Type 0) (capture : Bool) (f : ℕ) (t t' : Transfer) : Type 0 where
  pub ok : t.transferred.ok ≡ t'.transferred.ok
  pub stream : with_fraction t.transferred.stream f ≡ t'.transferred.stream
  pub queue : t.transferred.queue ≡ t'.transferred.queue
  pub list : Pending t.transferred.stream.pending t.list t'.list
  pub memory : Agree P t.memory t'.memory
  pub part : capture ≡ true → t.part ≡ t'.part

module _ (P : ℕ → Type 0) (g : Cyclic) (f : ℕ) where
  with-pieces : (o o' : Out) (q : Queue) (part part' : List ℕ) → OutAlike P g f o o' → (g.capture ≡ true → part ≡ part')
      → TransferAlike P g.capture f (with_pieces o q part) (with_pieces o' q part')
  with-pieces o o' q part part' a same =
      record { ok = a.ok; stream = a.stream; queue = refl; list = a.list; memory = a.memory; part = same }

  queued-alike : (b b' : Bool) → b ≡ b' → (o o' : Out) (q put : Queue) (part part' new new' : List ℕ) → OutAlike P g f o o' → g.capture ≡ false
      → TransferAlike P g.capture f (cond b (with_pieces o put new) (with_pieces o q part)) (cond b' (with_pieces o' put new') (with_pieces o' q part'))
  queued-alike true true e o o' q put part part' new new' a plays = with-pieces o o' put new new' a (λ c. absurd (true≢false (sym c ∙ plays)))
  queued-alike false false e o o' q put part part' new new' a plays = with-pieces o o' q part part' a (λ c. absurd (true≢false (sym c ∙ plays)))
  queued-alike true false e o o' q put part part' new new' a plays = absurd (true≢false e)
  queued-alike false true e o o' q put part part' new new' a plays = absurd (true≢false (sym e))

  module _ (s : Stream) (q : Queue) (connected : Bool) (left right : ℕ) (l l' part part' m m' : List ℕ) (count : ℕ) (listing : Pending s.pending l l') (a : Agree P m m') where
    capture-alike : Listed P g
        → TransferAlike P g.capture f (capture_of g s q connected left right l part m count) (capture_of g (with_fraction s f) q connected left right l' part m' count)
    unfolding capture_of
    capture-alike listed =
        let taken = taken_of connected q part count in
        let pcm = captured_of connected left right part taken count in
        with-pieces (pieces_of count g count (state_of s l m pcm 0)) (pieces_of count g count (state_of (with_fraction s f) l' m' pcm 0)) taken.queue taken.part taken.part
        (pieces-alike P g listed count f count s l l' m m' pcm pcm 0 listing a (λ _. refl)) (λ _. refl)

    playback-alike : Listed P g → g.capture ≡ false
        → TransferAlike P g.capture f (playback_of g s q connected left right l part m count) (playback_of g (with_fraction s f) q connected left right l' part' m' count)
    unfolding playback_of put_of
    playback-alike listed plays =
        let o = pieces_of count g count (state_of s l m (silence count) 0) in
        let o' = pieces_of count g count (state_of (with_fraction s f) l' m' (silence count) 0) in
        let alike = pieces-alike P g listed count f count s l l' m m' (silence count) (silence count) 0 listing a (λ _. refl) in
        queued-alike o.ok o'.ok alike.ok o o' q (put_of q part (heard_of connected left right o.state.pcm count) count).queue part part' _ _ alike plays

    pub transfer-alike : (ready_of g ≡ true → Listed P g) → (g.capture ≡ true → part ≡ part')
        → TransferAlike P g.capture f (transfer_of g s q connected left right l part m count) (transfer_of g (with_fraction s f) q connected left right l' part' m' count)
    unfolding transfer_of
    transfer-alike listed same = go (ready_of g) refl g.capture refl
      where
        go : (r : Bool) → ready_of g ≡ r → (c : Bool) → g.capture ≡ c → TransferAlike P g.capture f
            (cond r (cond c (capture_of g s q connected left right l part m count) (playback_of g s q connected left right l part m count)) (transfer_out false false s q l part m))
            (cond r (cond c (capture_of g (with_fraction s f) q connected left right l' part' m' count) (playback_of g (with_fraction s f) q connected left right l' part' m' count))
            (transfer_out false false (with_fraction s f) q l' part' m'))
        go true er true ec =
            subst (λ (k : List ℕ). TransferAlike P g.capture f (capture_of g s q connected left right l part m count) (capture_of g (with_fraction s f) q connected left right l' k m' count))
            (same ec) (capture-alike (listed er))
        go true er false ec = playback-alike (listed er) ec
        go false er true ec = record { ok = refl; stream = refl; queue = refl; list = listing; memory = a; part = same }
        go false er false ec = record { ok = refl; stream = refl; queue = refl; list = listing; memory = a; part = same }
