-- A text of the grammar is made of bytes.
-- Assumes nothing.
use Rattle.std.specs.Prelude.{refl, ℕ, zero, suc, ◌/◌, ◌%◌, ◌≤◌, ◌<◌, Bool, true, false, cond}
use Rattle.std.proofs.Common.{arith}
use mathlib.Core.List.Memᴰ.{head as here}
use mathlib.Core.List.Memᴰ.{tail as there}
use mathlib.Core.List.{List, [], ◌∷◌, ◌++◌, Memᴰ as Mem}
use Rattle.scheme.specs.Bytes.{be, le}
use Rattle.scheme.specs.Bits.{bit_of}
use Rattle.scheme.specs.Crc.{crc_of}
use Rattle.scheme.specs.Layout.{generic_tag}
use Rattle.scheme.specs.Write.{all_be}
use Rattle.laws.specs.Accept.{Small}
use Rattle.theorems.specs.Grammar.{RawCell, refs_descriptor, cell_text, cells_text, RawCellOk, Head, byte4, unsigned, serialized, Admissible}

small-none : Small []
small-none x m = elim m [ ]

small-cons : (y : ℕ) (l : List ℕ) → y < 256 → Small l → Small (y ∷ l)
small-cons y l h S x (here e) = rw e h
small-cons y l h S x (there m) = S x m

pub small-append : (a b : List ℕ) → Small a → Small b → Small (a ++ b)
small-append [] b S T = T
small-append (y ∷ ys) b S T = small-cons y (ys ++ b) (S y (here refl)) (small-append ys b (λ x m. S x (there m)) T)

small-be : (k n : ℕ) → Small (be k n)
small-be zero n = small-none
small-be (suc k) n = small-append (be k (n / 256)) (n % 256 ∷ []) (small-be k (n / 256)) (small-cons (n % 256) [] (omega arith) small-none)

small-le : (k n : ℕ) → Small (le k n)
small-le zero n = small-none
small-le (suc k) n = small-cons (n % 256) (le k (n / 256)) (omega arith) (small-le k (n / 256))

small_all : (k : ℕ) (xs : List ℕ) → Small (all_be k xs)
small_all k [] = small-none
small_all k (x ∷ xs) = small-append (be k x) (all_be k xs) (small-be k x) (small_all k xs)

bit_most : (t : Bool) → bit_of t ≤ 1
bit_most true = omega arith
bit_most false = omega arith

small-cell : (size : ℕ) (c : RawCell) → RawCellOk c → Small (cell_text size c)
unfolding cell_text refs_descriptor
small-cell size c F =
    small-cons _ _ (omega (arith, F.refs, F.exotic, F.level, bit_most c.has-hashes))
    (small-cons _ _ (omega (arith, F.short)) (small-append c.hashes _ F.hash_bytes (small-append c.content _ F.data_bytes (small_all size c.refs))))

small-cells : (size : ℕ) (cs : List RawCell) → ((c : RawCell) → Mem c cs → RawCellOk c) → Small (cells_text size cs)
small-cells size [] F = small-none
small-cells size (c ∷ cs) F = small-append (cell_text size c) (cells_text size cs) (small-cell size c (F c (here refl))) (small-cells size cs (λ d m. F d (there m)))

-- Demand 2 (docs/DEMANDS.md): a text of the grammar is made of bytes.
pub text-bytes : (scratch room : ℕ) (h : Head) (cs : List RawCell) → Admissible scratch room h cs → Small (serialized h cs)
unfolding serialized unsigned byte4
text-bytes scratch room h cs Q = small-append (unsigned h cs) _ front (sum h.has_crc)
  where
    sum : (has : Bool) → Small (cond has (le 4 (crc_of (unsigned h cs))) [])
    sum true = small-le 4 (crc_of (unsigned h cs))
    sum false = small-none

    front : Small (unsigned h cs)
    front =
        small-append (be 4 generic_tag) _ (small-be 4 generic_tag)
        (small-cons _ _ (omega (arith, Q.size, Q.flags, bit_most h.has_idx, bit_most h.has_crc, bit_most h.has_cache))
        (small-cons _ _ (omega (arith, Q.off))
        (small-append (be h.size _) _ (small-be h.size _)
        (small-append (be h.size _) _ (small-be h.size _)
        (small-append (be h.size h.absent) _ (small-be h.size h.absent)
        (small-append (be h.off h.total) _ (small-be h.off h.total)
        (small-append (all_be h.size h.roots) _ (small_all h.size h.roots)
        (small-append (all_be h.off h.index) _ (small_all h.off h.index) (small-cells h.size cs Q.each)))))))))
