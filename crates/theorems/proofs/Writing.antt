-- Writing: what is written is the grammar's text of the listing. The words are in specs/Writing.
-- Assumes nothing.
use Rattle.std.specs.Prelude.{◌≡◌, refl, ℕ, ◌*◌, ◌≤◌, ◌<◌, Bool, leb, ltb, Ok, Err}
use Rattle.std.proofs.Common.{sym, ap, ◌∙◌, arith, leb-true, ltb-true}
use mathlib.Core.List.{List, [], ◌∷◌, map, append-nil, Memᴰ as Mem}
use Rattle.std.proofs.Math.ListN.{length}
use Rattle.std.proofs.lemmas.List.{length-map}
use Rattle.scheme.specs.Res.{Res, then, check, refusal}
use Rattle.scheme.specs.Bytes.{width}
use Rattle.scheme.specs.Cells.{Cell, at}
use Rattle.scheme.specs.Bag.{bag, read_scratch}
use Rattle.scheme.specs.Order.{order_of}
use Rattle.scheme.specs.Refusals.{STORE, SCRATCH, NOCELL, NOROOM}
use Rattle.scheme.specs.Memory.{cells_of, sound, held}
use Rattle.scheme.specs.Calls.{write_out, writing, lent}
use Rattle.scheme.specs.Write.{write, bag_cell, serialized as serialize}
use Rattle.laws.specs.Accept.{Small, then_use, check_inv}
use Rattle.laws.specs.Records.{cells-length, sound-few}
use Rattle.laws.specs.Distinct.{nodup-bound}
use Rattle.laws.specs.CellRound.{Fit}
use Rattle.laws.specs.Lists.{mem-map}
use Rattle.laws.specs.Meaning.{linked-at}
use Rattle.laws.specs.Reach.{listing, reach-held}
use Rattle.laws.specs.WrittenBack.{bag-linked, fit-bag}
use Rattle.laws.specs.Round.{plain_cells}
use Rattle.theorems.specs.Grammar.{RawCell, RawCellOk, cells_text, cell_of, serialized, bag_of}
use Rattle.theorems.proofs.GrammarBack.{accepted}
use Rattle.theorems.specs.Written.{listed, head_for}
use Rattle.theorems.specs.MeaningLaws.{memory-low, memory-fit}
use Rattle.theorems.proofs.WritingLaws.{text-is, raw_at, raw-fine, cells-again, head-fine, listed-short, listed-tree}
use Rattle.theorems.specs.Writing.{Writes, WritesHeld, CallWrites}

-- Writing: what is written of a held cell, in every store of cells that are fit to be stored, with references to lower numbers.
pub writes : WritesHeld
unfolding write head_for
writes idx sum s root S F most h =
    let out = order_of s root in
    let W = listing s S root h in
    let held : (x : ℕ) → Mem x out → x < length s = λ x m. reach-held s S root h (W.sound x m) in
    let G : (x : ℕ) → Mem x out → Fit (bag_cell s out x) = λ x m. fit-bag s out x (F x (held x m)) in
    let cs = listed s out in
    let n : length cs ≡ length out = length-map out (raw_at s out) in
    let few = nodup-bound (length s) out W.once held in
    let some : 1 ≤ length out = rw W.first.1 (omega arith) in
    let again = cells-again s out out G in
    let L = bag-linked s [] out out refl W.once W.later in
    let j : length (plain_cells s out) ≡ length out = length-map out (bag_cell s out) in
    let fine : (c : RawCell) → Mem c cs → RawCellOk c = λ c m. let t = mem-map (raw_at s out) out c m in rw t.2 (raw-fine (bag_cell s out t.0) (G t.0 t.1)) in
    let links : (i : ℕ) → i < length cs → (r : ℕ) → Mem r (at (map cell_of cs) i).refs → (i < r) × (r < length cs) = λ i l r m.
    let z : Mem r (at (plain_cells s out) i).refs = rw again at m in
    let w = linked-at 0 (plain_cells s out) L i (omega arith) r z in
    (omega arith, omega arith) in
    record {
      out = out;
      order = refl;
      lists = W;
      text = sym (text-is idx sum s out G);
      admissible = λ scratch room hs hr.
          head-fine scratch room idx sum cs (omega arith) (omega arith) (omega arith) hr fine links (listed-short s out G)
          (width 8 (length cs)) (width 8 (length (cells_text (width 8 (length cs)) cs))) refl refl (head_for idx sum cs) refl;
      cells = again;
      structure = λ k l. rw again (listed-tree s root out W S h k l);
    }

-- Writing: every reading whose limits allow it accepts what is written, as the listed cells with the first one as the root.
pub written-is-read : (has_idx has_crc : Bool) (s : List Cell) (root : ℕ) (b : List ℕ) → (W : Writes has_idx has_crc s root b)
    → (whole : Bool) (scratch room : ℕ) → read_scratch (length W.out) ≤ scratch → 1 ≤ room
    → bag whole scratch room b ≡ Ok (record { used = length b; cells = map (bag_cell s W.out) W.out; roots = 0 ∷ [] })
unfolding bag_of head_for
written-is-read idx sum s root b W whole scratch room hs hr =
    let cs = listed s W.out in
    let A = accepted whole scratch room (head_for idx sum cs) cs [] (W.admissible scratch room hs hr) (λ w. refl) in
    let B : bag whole scratch room b ≡ Ok (bag_of (head_for idx sum cs) cs) =
    ap (λ (l : List ℕ). bag whole scratch room l) (W.text ∙ sym (append-nil (serialized (head_for idx sum cs) cs))) ∙ A in
    B ∙ ap Ok (λ i. record { used = length (sym W.text i); cells = W.cells i; roots = 0 ∷ [] })

-- Writing, of the call with all memory: an accepted serialize puts the text of the listing at the front of the output, and changes nothing behind it.
pub writing-means : (has_idx has_crc : Bool) (n : ℕ) (t d : List ℕ) (root : ℕ) (scratch out : List ℕ) (len : ℕ) → Small d
    → (writing has_idx has_crc n t d root scratch out).answer ≡ Ok len
    → CallWrites has_idx has_crc n t d root out len (writing has_idx has_crc n t d root scratch out)
unfolding writing lent held serialize
writing-means idx sum n t d root scratch out len B e = go (then (lent 4 n t d root (length scratch)) λ s. serialize idx sum s root (length out)) refl e
  where
    got : (xs : List ℕ) → then (lent 4 n t d root (length scratch)) (λ s. serialize idx sum s root (length out)) ≡ Ok xs → length xs ≡ len
        → CallWrites idx sum n t d root out len (write_out scratch out (Ok xs))
    got xs x q =
        then_use (lent 4 n t d root (length scratch)) _ _ x λ s x₁ e₁.
        then_use (held n t d) _ _ x₁ λ s₁ x₂ e₂.
        then_use (check (sound n t d) (refusal STORE 0)) _ _ x₂ λ u₃ x₃ e₃.
        then_use (check (ltb root (length s₁)) (refusal NOCELL 0)) _ _ e₂ λ u₄ x₄ e₄.
        then_use (check (leb (4 * length s₁) (length scratch)) (refusal SCRATCH (4 * length s₁))) _ _ e₄ λ u₅ x₅ e₅.
        then_use (check (leb (length (write idx sum s root)) (length out)) (refusal NOROOM (length (write idx sum s root)))) _ _ e₁ λ u₆ x₆ e₆.
        let q₁ : cells_of n t d ≡ s₁ = cc in
        let q₂ : s₁ ≡ s = cc in
        let q₃ : write idx sum s root ≡ xs = cc in
        let sd = check_inv (sound n t d) (refusal STORE 0) u₃ x₃ in
        let h : root < length (cells_of n t d) = rw q₁ (ltb-true root (length s₁) (check_inv (ltb root (length s₁)) (refusal NOCELL 0) u₄ x₄)) in
        let f = leb-true (length (write idx sum s root)) (length out) (check_inv (leb (length (write idx sum s root)) (length out)) (refusal NOROOM (length (write idx sum s root))) u₆ x₆) in
        let q₄ : write idx sum (cells_of n t d) root ≡ xs = rw (q₁, q₂) q₃ in
        let W = writes idx sum (cells_of n t d) root (memory-low n t d sd) (memory-fit n t d sd B) (rw (cells-length n t d) (sound-few n t d sd)) h in
        record { bytes = xs; are = rw q₄ at W; written = sym q; room = rw q₃ at f; front = refl }

    go : (r : Res (List ℕ)) → then (lent 4 n t d root (length scratch)) (λ s. serialize idx sum s root (length out)) ≡ r → (write_out scratch out r).answer ≡ Ok len
        → CallWrites idx sum n t d root out len (writing idx sum n t d root scratch out)
    go (Ok xs) x e = rw x (got xs x (cc))
    go (Err r) x e = let z : ◌≡◌ {A = ℕ} 0 1 = cc in absurd (omega arith)
