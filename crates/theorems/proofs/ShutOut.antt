-- The definitions that the code is proved against meet what specs/ShutOut asks, and wrong ones do not. What rests on no theorem of proofs/ is proved there.
-- Assumes nothing.
use Rattle.std.specs.Prelude.{◌≡◌, refl, ℕ, zero, suc, ◌≤◌, ◌<◌, Bool, true, false, List, [], ◌∷◌, length, get_or, Err}
use Rattle.std.proofs.Common.{sym, ap, ◌∙◌, not-suc-le-zero, arith}
use Rattle.scheme.specs.Refusals.{CRC}
use Rattle.scheme.specs.Res.{refusal}
use Rattle.scheme.specs.Bytes.{chunk, field}
use Rattle.scheme.specs.Crc.{crc_step, crc_steps, crc_byte, crc_run, crc_of}
use Rattle.scheme.specs.Cells.{Cell, blank, with, at}
use Rattle.scheme.specs.Layout.{tag_ok, layout}
use Rattle.scheme.specs.Bag.{header, numbers, root_list, index, bits, raw_cell, checksum, bag}
use Rattle.scheme.specs.Order.{order_of}
use Rattle.scheme.specs.Write.{cell_bytes, body, bag_bytes, write}
use Rattle.laws.specs.CellRound.{Fit}
use Rattle.theorems.proofs.Cut.{cut_replies}
use Rattle.theorems.proofs.Meaning.{read-means}
use Rattle.theorems.specs.Grammar.{serialized}
use Rattle.theorems.proofs.Accepts.{grammar, accepts_read}
use Rattle.theorems.specs.Written.{listed, head_for}
use Rattle.theorems.proofs.Writing.{writes}
use Rattle.theorems.proofs.Structure.{printed-is-size}
use Rattle.theorems.proofs.Histories.{demand_3}
use Rattle.theorems.specs.ShutOut.{RefusesCut, ReadsGrammar, sum_ignored, bag_reader, no, are-small, empty_bag, empty_read, ReadMeans, AcceptsTexts, refuses_every, used_made_up, reader, sample, sample_got, sample-read, sample-means, Demands3, leaves_of, WritesListing, lists_twice, writes_nothing, writer, pair, pair-low, CountsCells, printed_cells}

-- ---- the bytes of a bag

pub refuses_cut : RefusesCut bag_reader
refuses_cut = cut_replies

pub reads-grammar : ReadsGrammar bag_reader
reads-grammar = grammar

pub sum_ignored_shut_out : ¬ ReadsGrammar sum_ignored
unfolding bag header field chunk tag_ok layout root_list index numbers raw_cell bits checksum crc_of crc_run crc_byte crc_steps crc_step
sum_ignored_shut_out H =
    let b = empty_bag 0x41 (0 ∷ 0 ∷ 0 ∷ 0 ∷ []) in
    let S = are-small b refl in
    let e : bag true 2 1 b ≡ Err (refusal CRC 13) = refl in
    let h = (reads-grammar true 2 1 b empty_read S).1 ((H true 2 1 b empty_read S).0 refl) in
    no cc

-- ---- reading into a store

pub reads_mean : ReadMeans reader
reads_mean = read-means

pub accepts_texts : AcceptsTexts reader
accepts_texts = accepts_read

pub refuses_every_shut_out : ¬ AcceptsTexts refuses_every
refuses_every_shut_out H =
    let S = are-small sample refl in
    let r = (H true 6 1 2 [] sample S).1 ((accepts_texts true 6 1 2 [] sample S).0 (sample_got, sample-read)) in
    let e = r.1 in
    no cc

-- the bytes used are those of the sample's fields, for the definition and for a reader that is to mean the same
pub used-made-up_shut_out : ¬ ReadMeans used_made_up
used-made-up_shut_out H =
    let e = (sample-means _ H).used in
    let M = read-means true 6 1 2 [] sample sample_got (λ i h. absurd (not-suc-le-zero h)) (are-small sample refl) sample-read in
    let f = M.2.used in
    omega arith

-- ---- demand 3

pub demands_3 : Demands3 leaves_of
demands_3 = demand_3

-- ---- writing

pub writes-listing : WritesListing writer
writes-listing = writes

empty-fit : (rs : List ℕ) → length rs ≤ 4 → Fit (with blank rs)
empty-fit rs h = record { flag = omega arith; few = omega arith; many = refl; small = are-small [] refl; clean = λ z. absurd (z refl); arity = h }

pair-fit : (x : ℕ) → x < length pair → Fit (at pair x)
pair-fit zero h = empty-fit [] (omega arith)
pair-fit (suc zero) h = empty-fit (0 ∷ 0 ∷ []) (omega arith)
pair-fit (suc (suc x)) h = absurd (omega arith)

-- what another writer writes that meets the same of the first cell of the pair
same_bytes : (wrote : Bool → Bool → List Cell → ℕ → List ℕ) → WritesListing wrote → wrote false false pair 0 ≡ write false false pair 0
same_bytes wrote H =
    let W = H false false pair 0 pair-low pair-fit (omega arith) (omega arith) in
    let R = writes false false pair 0 pair-low pair-fit (omega arith) (omega arith) in
    let text : List ℕ → List ℕ = λ o. serialized (head_for false false (listed pair o)) (listed pair o) in
    W.text ∙ ap text (W.order ∙ sym R.order) ∙ sym R.text

pub writes-nothing_shut_out : ¬ WritesListing writes_nothing
unfolding write bag_bytes body cell_bytes order_of
writes-nothing_shut_out H =
    let n : ◌≡◌ {A = ℕ} 0 0xb5 = ap (λ (l : List ℕ). get_or l 0 0) (same_bytes writes_nothing H) in
    omega arith

pub lists-twice_shut_out : ¬ WritesListing lists_twice
unfolding write bag_bytes body cell_bytes order_of
lists-twice_shut_out H =
    let n : ◌≡◌ {A = ℕ} 2 1 = ap (λ (l : List ℕ). get_or l 6 0) (same_bytes lists_twice H) in
    omega arith

-- ---- text

pub counts-cells : CountsCells printed_cells
counts-cells = printed-is-size
