-- The ways out of `place`, over plain variables. Assumes nothing.
use Rattle.std.specs.Prelude.{Ok, Err}
use Prim.Native.Nat.{ℕ, ◌+◌, ◌-◌, ◌*◌, ◌/◌, ◌<◌, ◌≤◌}
use mathlib.Core.Path.{◌≡◌, sym, ap, ◌∙◌}
use mathlib.Core.List.{List, [], ◌∷◌, ◌++◌, append-nil}
use native.Mathlib.Omega.{arith}
use lib.ListN.{length, take, drop, replicate, length-take, length-drop, drop_of_length-le}
use borrow.Author.Tests.{le-leb, lt-leb}
use Rattle.scheme.specs.Refusals.{FULL}
use Rattle.scheme.specs.Res.{refusal}
use Rattle.scheme.specs.Bits.{bytes_for}
use Rattle.scheme.specs.Cells.{Cell, find, insert}
use Rattle.scheme.specs.Memory.{cells_of, row_of, block_of}
use Rattle.laws.specs.Puts.{puts}
use Rattle.laws.specs.Unique.{find-le, insert-old, insert-new}
use Rattle.laws.specs.Records.{SoundMemory, cells-length}
use Rattle.laws.specs.Lay.{lay-table, lay-bytes, lay-table-put, lay-bytes-put, count-snoc}
use Rattle.store.specs.Paper.{Places, placed}
use Rattle.laws.specs.Lists.{rest-is}

module _ (n : ℕ) (t d : List ℕ) (c : Cell) (s : SoundMemory n t d) where
  -- a cell that is held
  module _ (i : ℕ) (e : i ≡ find (cells_of n t d) c) (h : i < n) where
    old : insert (cells_of n t d) c ≡ cells_of n t d
    old = insert-old (cells_of n t d) c (rw (← e, cells-length n t d) h)

    is_held : placed (length t / 7) (cells_of n t d) c ≡ Ok (record { number = i; store = cells_of n t d })
    unfolding placed
    is_held = rw (old, cells-length n t d, le-leb n (length t / 7) s.held, ← e)

    pub places-held : Places n t d c (Ok i) n t d
    places-held = record {
      answer = rw is_held;
      count = rw is_held (sym (cells-length n t d));
      table = rw is_held (sym (lay-table n t d s));
      bytes = rw is_held
          (sym (lay-bytes n t d s));
    }

  -- a cell that is not
  module _ (m : ℕ) (q : m ≡ find (cells_of n t d) c) (l : n ≤ m) where
    e : n ≡ find (cells_of n t d) c
    e = omega (arith, find-le (cells_of n t d) c, cells-length n t d)

    new : insert (cells_of n t d) c ≡ cells_of n t d ++ c ∷ []
    new = insert-new (cells_of n t d) c (sym e ∙ sym (cells-length n t d))

    is-full : length t / 7 ≤ n → placed (length t / 7) (cells_of n t d) c ≡ Err (refusal FULL 0)
    unfolding placed
    is-full h = rw (new, count-snoc n t d c, lt-leb (n + 1) (length t / 7) (omega arith))

    pub places-full : length t / 7 ≤ n → Places n t d c (Err (refusal FULL 0)) n t d
    places-full h = record { answer = rw (is-full h); count = rw (is-full h); table = rw (is-full h); bytes = rw (is-full h) }

    is-new : n < length t / 7 → placed (length t / 7) (cells_of n t d) c ≡ Ok (record { number = n; store = cells_of n t d ++ c ∷ [] })
    unfolding placed
    is-new h = rw (new, count-snoc n t d c, le-leb (n + 1) (length t / 7) (omega arith), ← e)

    pub places-new : n < length t / 7 → length c.bytes ≤ 128 → (w t' d' : List ℕ) → w ≡ block_of c → t' ≡ puts t (n * 7) (row_of [] c) → d' ≡ puts d (n * 128) w
        → Places n t d c (Ok n) (n + 1) t' d'
    places-new h small w t' d' we te de =
        record {
          answer = rw (is-new h);
          count = rw (is-new h) (sym (count-snoc n t d c));
          table = rw (is-new h) (te ∙ lay-table-put n t d s c h);
          bytes = rw (is-new h) (de ∙ ap (λ (l : List ℕ). puts d (n * 128) l) we ∙ lay-bytes-put n t d s c small h);
        }

-- ---- a part that is cleared to the end, as the code lends it

rest-empty : (p : ℕ) (l : List ℕ) → drop (length l - p) (drop p l) ≡ []
rest-empty p l = drop_of_length-le (drop p l) {i = length l - p} (simp length-drop (omega arith))

rest-count : (p : ℕ) (l : List ℕ) → length (take (length l - p) (drop p l)) ≡ length l - p
rest-count p l = rw (rest-is p l) (length-drop p l)

pub rest-cleared : (p : ℕ) (l ys : List ℕ) → ys ≡ replicate (length (take (length l - p) (drop p l))) 0
    → take p l ++ (ys ++ drop (length l - p) (drop p l)) ≡ take p l ++ replicate (length l - p) 0
rest-cleared p l ys e = rw (rest-empty p l, append-nil ys, e, rest-count p l)

pub bytes_fit : (bits : ℕ) (w : List ℕ) → bits ≤ 1023 → length (take (bytes_for bits) w) ≤ 128
bytes_fit bits w h = rw (length-take (bytes_for bits) w) (omega arith)
