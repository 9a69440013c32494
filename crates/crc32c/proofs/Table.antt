-- The table's entries, from its rule.
-- Assumes nothing.
use mathlib.Core.Path.{◌≡◌, sym, ap, ap₂, ◌∙◌}
use mathlib.Core.List.{List}
use Prim.Native.Nat.{ℕ, zero, suc, ◌+◌, ◌/◌, ◌%◌, ◌<◌}
use native.Mathlib.Nat.{add-zero, zero-add, add-suc, suc-add, le_of_suc-le-suc, not-suc-le-zero, mod-lt}
use lib.Bits.{bit_xor}
use lib.Dec.{lit<}
use lib.ListN.{get_or}
use Rattle.scheme.specs.Crc.{crc_steps, crc_byte}
use Rattle.crc32c.specs.Table.{table_of, crc_table}
use Rattle.crc32c.proofs.Steps.{byte_split}

from : (f : ℕ → ℕ) (n i k : ℕ) → k < n → get_or (table_of f n i) k 0 ≡ f (i + k)
unfolding table_of
from f zero i k h = absurd (not-suc-le-zero h)
from f (suc n) i zero h = rw add-zero
from f (suc n) i (suc k) h = from f n (suc i) k (le_of_suc-le-suc h) ∙ rw (suc-add, add-suc)

pub entry : (k : ℕ) → k < 256 → get_or crc_table k 0 ≡ crc_steps 8 k
unfolding crc_table
entry k h = from (crc_steps 8) 256 0 k h ∙ rw zero-add

-- a byte by the table t, as the code has it: w is the byte, widened
pub by-table : (c b : ℕ) (t : List ℕ) (w : ℕ) → b < 256 → t ≡ crc_table → w ≡ b
    → bit_xor (get_or t (bit_xor c w % 256) 0) (c / 256) ≡ crc_byte c b
by-table c b t w h e f =
    ap₂ (λ (l : List ℕ) (x : ℕ). bit_xor (get_or l (bit_xor c x % 256) 0) (c / 256)) e f
    ∙ ap (λ (x : ℕ). bit_xor x (c / 256)) (entry (bit_xor c b % 256) (mod-lt (bit_xor c b) (lit< tt)))
    ∙ sym (byte_split c b h)
