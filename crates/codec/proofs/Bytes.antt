-- Laws of a codec as bytes: it loads as it was stored, what was loaded stores back unchanged, and 144 bytes are a well-formed codec. Assumes nothing.
use Prim.Native.Nat.{ℕ, zero, suc, ◌+◌, ◌*◌, ◌≤◌, ◌<◌}
use mathlib.Core.Path.{◌≡◌, refl, sym, ap, ◌∙◌}
use mathlib.Core.List.{List, [], ◌∷◌, ◌++◌}
use native.Mathlib.Omega.{arith}
use native.Mathlib.Nat.{add_assoc, add-zero, not-suc-le-zero}
use native.Mathlib.Numerals.{add-one}
use lib.ListN.{length, take, drop, get_or, length-append, take-append-drop, drop_of_length-le}
use lib.Seq.{take-add, take-take, take_at, drop-cons, drop-drop}
use Rattle.word.specs.Value.{Bytes}
use Rattle.word.specs.Place.{put_at}
use Rattle.word.proofs.Lists.{bytes_take, bytes_drop, bytes-append, length_part}
use Rattle.word.proofs.Puts.{put_same, length-put, bytes-put, put-there, put-join}
use Rattle.node.specs.declared.Node.{Node}
use Rattle.codec.specs.declared.Codec.{Codec}
use Rattle.codec.specs.Codecs.{absent, node_at}
use Rattle.codec.specs.WellFormed.{WellFormedNode, WellFormed}
use Rattle.codec.specs.Bytes.{record_at, codec_at, joined, records_of, store_codec_at}
use Rattle.codec.proofs.WellFormed.{Each}

-- ---- records one after the other
-- the `n` records from `at` on
abbrev records_from : ℕ → ℕ → List ℕ → List Node
records_from zero at l = []
records_from (suc n) at l = record_at at l ∷ records_from n (at + 24) l

codec-records : (at : ℕ) (l : List ℕ) → codec_at at l ≡ record { nodes = records_from 6 at l }
unfolding codec_at
codec-records at l = simp add_assoc

length-joined : (ns : List Node) → Each ns → length (joined ns) ≡ 24 * length ns
length-joined [] e = refl
length-joined (n ∷ ns) e =
    omega (arith, length-append n.bytes (joined ns), (e 0 (omega arith)).size, length-joined ns (λ i b. e (suc i) (omega arith)))

bytes-joined : (ns : List Node) → Each ns → Bytes (joined ns)
bytes-joined [] e = λ i. omega arith
bytes-joined (n ∷ ns) e = bytes-append n.bytes (joined ns) (e 0 (omega arith)).range (bytes-joined ns (λ i b. e (suc i) (omega arith)))

-- a record put before others
module _ (n : Node) (ns : List Node) (size : length n.bytes ≡ 24) (at : ℕ) (l : List ℕ) where
  put-cons : at + 24 ≤ length l → put_at (at + 24) (joined ns) (put_at at n.bytes l) ≡ put_at at (joined (n ∷ ns)) l
  put-cons fits =
      ap (λ (k : ℕ). put_at (at + k) (joined ns) (put_at at n.bytes l)) (sym size) ∙ put-join at n.bytes l (omega arith) (joined ns)

  -- .. is the record there
  put_first : at + length (joined (n ∷ ns)) ≤ length l → record_at at (put_at at (joined (n ∷ ns)) l) ≡ n
  put_first fits =
      let short : 24 ≤ length (joined (n ∷ ns)) = omega (arith, length-append n.bytes (joined ns)) in
      ap (λ (bs : List ℕ). record { bytes = bs })
      (sym (take-take 24 (length (joined (n ∷ ns))) (drop at (put_at at (joined (n ∷ ns)) l)) short)
      ∙ ap (take 24) (put-there at (joined (n ∷ ns)) l fits)
      ∙ take_at n.bytes (joined ns) 24 size)

-- records put are the records there
records-put : (ns : List Node) → Each ns → (at : ℕ) (l : List ℕ) → at + 24 * length ns ≤ length l → records_from (length ns) at (put_at at (joined ns) l) ≡ ns
records-put [] e at l fits = refl
records-put (n ∷ ns) e at l fits =
    let size = (e 0 (omega arith)).size in
    let first : List ℕ = put_at at n.bytes l in
    let kept : length first ≡ length l = length-put at n.bytes l (omega arith) in
    rw (put_first n ns size at l (omega (arith, length-joined (n ∷ ns) e)), ← put-cons n ns size at l (omega arith))
    (ap (λ (x : List Node). n ∷ x) (records-put ns (λ i b. e (suc i) (omega arith)) (at + 24) first (omega arith)))

-- records found are the bytes there
joined-records : (n at : ℕ) (l : List ℕ) → joined (records_from n at l) ≡ take (24 * n) (drop at l)
joined-records zero at l = refl
joined-records (suc n) at l =
    let more : 24 + 24 * n ≡ 24 * suc n = omega arith in
    ap (λ (x : List ℕ). take 24 (drop at l) ++ x) (joined-records n (at + 24) l ∙ ap (take (24 * n)) (sym (drop-drop 24 at l)))
    ∙ sym (take-add 24 (24 * n) (drop at l))
    ∙ ap (λ (k : ℕ). take k (drop at l)) more

records-place : (n at : ℕ) (l : List ℕ) (i : ℕ) → i < n → get_or (records_from n at l) i absent ≡ record_at (at + 24 * i) l
records-place zero at l i b = absurd (not-suc-le-zero b)
records-place (suc n) at l zero b = rw (add-zero at)
records-place (suc n) at l (suc i) b =
    let place : at + 24 + 24 * i ≡ at + 24 * suc i = omega arith in
    records-place n (at + 24) l i (omega arith) ∙ ap (λ (k : ℕ). record_at k l) place

-- ---- the codec
-- the record of node `i`
pub record-place : (at : ℕ) (l : List ℕ) (i : ℕ) → i < 6 → node_at (codec_at at l) i ≡ record_at (at + 24 * i) l
record-place at l i b = ap (λ (c : Codec). node_at c i) (codec-records at l) ∙ records-place 6 at l i b

record-well-formed : (at : ℕ) (l : List ℕ) → at + 24 ≤ length l → Bytes l → WellFormedNode (record_at at l)
record-well-formed at l fits h =
    record { size = length_part 24 at l (omega arith); range = bytes_take 24 (drop at l) (bytes_drop at l h) }

pub load-well-formed : (at : ℕ) (l : List ℕ) → at + 144 ≤ length l → Bytes l → WellFormed (codec_at at l)
load-well-formed at l fits h =
    record {
      count = ap (λ (c : Codec). length c.nodes) (codec-records at l);
      each = λ i b. rw (record-place at l i b) (record-well-formed (at + 24 * i) l (omega arith) h);
    }

-- what was loaded stores back unchanged
pub store-load : (at : ℕ) (l : List ℕ) → at + 144 ≤ length l → store_codec_at at (codec_at at l) l ≡ l
unfolding store_codec_at
store-load at l fits =
    ap (λ (c : Codec). put_at at (records_of c) l) (codec-records at l)
    ∙ ap (λ (bs : List ℕ). put_at at bs l) (joined-records 6 at l)
    ∙ put_same 144 at l fits

module _ (c : Codec) (w : WellFormed c) where
  nodes-each : Each c.nodes
  nodes-each i b = let six = w.count in w.each i (omega arith)

  pub length-records : length (records_of c) ≡ 144
  length-records = omega (arith, length-joined c.nodes nodes-each, w.count)

  module _ (at : ℕ) (l : List ℕ) (fits : at + 144 ≤ length l) where
    room : at + length (records_of c) ≤ length l
    room = omega (arith, length-records)

    pub length-store : length (store_codec_at at c l) ≡ length l
    unfolding store_codec_at
    length-store = length-put at (records_of c) l room

    pub bytes-store : Bytes l → Bytes (store_codec_at at c l)
    unfolding store_codec_at
    bytes-store = bytes-put at (records_of c) l room (bytes-joined c.nodes nodes-each)

    -- it loads as it was stored
    pub load_store : codec_at at (store_codec_at at c l) ≡ c
    unfolding store_codec_at
    load_store =
        codec-records at (put_at at (records_of c) l)
        ∙ ap (λ (n : ℕ). record { nodes = records_from n at (put_at at (records_of c) l) }) (sym w.count)
        ∙ ap (λ (ns : List Node). record { nodes = ns }) (records-put c.nodes nodes-each at l (omega (arith, w.count)))

-- ---- a codec stored record by record
-- the records from node `i` on, put
abbrev pub put_from : ℕ → ℕ → Codec → List ℕ → List ℕ
put_from i at c l = put_at (at + 24 * i) (joined (drop i c.nodes)) l

-- all of them
pub put_all : (at : ℕ) (c : Codec) (l : List ℕ) → put_from 0 at c l ≡ store_codec_at at c l
unfolding store_codec_at
put_all at c l = rw (add-zero at)

module _ (c : Codec) (w : WellFormed c) (at : ℕ) (l : List ℕ) where
  -- node `i`'s, then the rest
  pub put_next : (i : ℕ) → i < 6 → at + 144 ≤ length l → put_from (i + 1) at c (put_at (at + 24 * i) (node_at c i).bytes l) ≡ put_from i at c l
  put_next i b fits =
      let place : at + 24 * (i + 1) ≡ at + 24 * i + 24 = omega arith in
      rw (place, add-one i, drop-cons c.nodes i absent (omega (arith, w.count)))
      (put-cons (node_at c i) (drop (suc i) c.nodes) (w.each i b).size (at + 24 * i) l (omega arith))

  -- none
  pub put-none : put_from 6 at c l ≡ l
  unfolding put_at
  put-none =
      let six : length c.nodes ≤ 6 = omega (arith, w.count) in
      rw (drop_of_length-le c.nodes six, add-zero, take-append-drop)
