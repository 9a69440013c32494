-- What is written of a held cell reads back as that cell: the theorems over specs/WrittenBack.
-- Assumes nothing.
use Rattle.std.specs.Prelude.{◌≡◌, refl, ℕ, ◌-◌, ◌*◌, ◌≤◌, ◌<◌, Bool, length, get_or, Ok}
use Rattle.std.proofs.Common.{◌∙◌, arith}
use mathlib.Core.List.{List, [], ◌∷◌, map, Memᴰ as Mem}
use Rattle.std.proofs.lemmas.List.{length-map}
use Rattle.laws.specs.Lists.{mem-map}
use Rattle.laws.specs.Distinct.{nodup-bound}
use Rattle.scheme.specs.Cells.{Cell, at}
use Rattle.laws.specs.Unique.{Sound}
use Rattle.scheme.specs.Order.{order_of}
use Rattle.laws.specs.Reach.{listing, reach-held}
use Rattle.scheme.specs.Write.{bag_cell, bag_cells, write, leveled}
use Rattle.laws.specs.Round.{plain_cells}
use Rattle.laws.proofs.Round.{round_trip}
use Rattle.scheme.specs.Bag.{load, read}
use Rattle.laws.specs.CellRound.{Fit}
use Rattle.laws.specs.BagRound.{plain, Fits, bag-back}
use Rattle.laws.specs.WrittenBack.{bag-linked, fit-bag, crc_small}

plain-bag : (s : List Cell) (out l : List ℕ) → plain (map (leveled s out) l) ≡ map (bag_cell s out) l
plain-bag s out [] = refl
plain-bag s out (x ∷ xs) = rw (plain-bag s out xs)

-- a held cell's bag keeps to the limits of a read into any store s₀ that has room for it
pub bag-fits : (scratch room cap : ℕ) (s₀ s : List Cell) → Sound s → ((x : ℕ) → x < length s → Fit (at s x)) → (root : ℕ) → root < length s
    → length s ≤ 4096 → 2 * length (order_of s root) ≤ scratch → 1 ≤ room → length (load s₀ 0 (plain_cells s (order_of s root))).store ≤ cap
    → Fits scratch room cap s₀ (bag_cells s (order_of s root))
bag-fits scratch room cap s₀ s S F root h hmax hscr hroom free =
    let out = order_of s root in
    let W = listing s S.low root h in
    let held : (x : ℕ) → Mem x out → x < length s = λ x m. reach-held s S.low root h (W.sound x m) in
    let n : length (bag_cells s out) ≡ length out = length-map out (leveled s out) in
    let most = nodup-bound (length s) out W.once held in
    let some : 1 ≤ length out = rw W.first.1 (omega arith) in
    let q = plain-bag s out out in
    record {
      some = omega arith;
      most = omega arith;
      scratch-room = omega arith;
      root-room = hroom;
      fit = λ v m. let t = mem-map (leveled s out) out v m in rw t.2 (fit-bag s out t.0 (F t.0 (held t.0 t.1)), omega arith);
      linked = rw q (bag-linked s [] out out refl W.once W.later);
      free = rw q free;
    }

-- reading the written bag back into the same store answers the same number as the only root, and adds no cell
pub written-reads-back : (whole : Bool) (scratch room cap : ℕ) (idx sum : Bool) (s : List Cell) → Sound s → ((x : ℕ) → x < length s → Fit (at s x))
    → (root : ℕ) → root < length s → length s ≤ cap → cap ≤ 4096 → 2 * length (order_of s root) ≤ scratch → 1 ≤ room
    → read whole scratch room cap s (write idx sum s root)
    ≡ Ok (record { counts = record { used = length (write idx sum s root); cells = length (order_of s root); roots = 1; added = 0 }; names = root ∷ []; store = s })
unfolding write
written-reads-back whole scratch room cap idx sum s S F root h hcap hmax hscr hroom =
    let out = order_of s root in
    let W = listing s S.low root h in
    let n : length (plain_cells s out) ≡ length out = length-map out (bag_cell s out) in
    let z : length s - length s ≡ 0 = omega arith in
    let g : get_or out 0 0 ≡ root = rw W.first.1 in
    let back = round_trip s S root h in
    let q = plain-bag s out out in
    let Q = bag-fits scratch room cap s s S F root h (omega arith) hscr hroom (rw back hcap) in
    bag-back crc_small whole scratch room cap idx sum s (bag_cells s out) Q ∙ rw (q, back, n, z, g)
