-- The bag by the numbers of the table and the scratch is the bag of the definitions, and each way out is a case of them. Assumes nothing.
use Rattle.std.specs.Prelude.{Ok, Err}
use mathlib.Core.Path.{◌≡◌, refl, sym, ap, ap₂, ◌∙◌}
use mathlib.Core.Bool.{Bool, true, false, cond}
use mathlib.Core.List.Memᴰ.{head as here}
use mathlib.Core.List.Memᴰ.{tail as there}
use mathlib.Core.List.{List, [], ◌∷◌, ◌++◌, map, append_assoc, Memᴰ as Mem}
use Prim.Native.Nat.{ℕ, suc, ◌+◌, ◌-◌, ◌*◌, ◌<◌, ◌≤◌}
use native.Mathlib.Omega.{arith}
use lib.ListN.{length, get_or, replicate, length-append}
use lib.Seq.{slice, length-slice}
use borrow.Author.Tests.{lt-ltb, le-ltb, le-leb, lt-leb}
use Rattle.scheme.specs.Refusals.{STORE, NOCELL, SCRATCH, NOROOM}
use Rattle.scheme.specs.Res.{Res, then, refusal}
use Rattle.scheme.specs.declared.Refusal.{Refusal}
use Rattle.scheme.specs.Bytes.{be, le, width}
use Rattle.scheme.specs.Bits.{bit_of}
use Rattle.scheme.specs.Crc.{crc_of}
use Rattle.scheme.specs.Cells.{Cell, with}
use Rattle.scheme.specs.Memory.{cell_at, cells_of, sound, held}
use Rattle.scheme.specs.Layout.{generic_tag}
use Rattle.scheme.specs.Order.{order_of}
use Rattle.scheme.specs.Write.{place_of, level_of, Leveled, leveled, bag_cells, cell_bytes, all_be, all_bytes, entry, entries, body, bag_bytes, write, serialized}
use Rattle.scheme.specs.Calls.{lent, onto, write_out, writing}
use Rattle.laws.specs.Puts.{puts, puts-start}
use Rattle.laws.specs.Records.{refs_at, CellsOk, cell-refs, cells-length, cells_at_lem}
use Rattle.order.specs.Queue.{Ordered}
use Rattle.writer.specs.declared.BagOfCellsArgs.{BagOfCellsArgs}
use Rattle.writer.specs.Paper.{Writes, Serialized}
use Rattle.writer.specs.Bytes.{cell_size, sizes, index_of, places_of, placed_cell, placed_cells, head_bytes}
use Rattle.writer.specs.Bag.{index_if, body_of, sealed_of, needed_of}
use Rattle.writer.proofs.Data.{cell-length}
use Rattle.writer.proofs.Seal.{sealed_length, index-length-is, head-length}

-- ---- the ways out

module _ (has_idx has_crc : Bool) (n : ℕ) (t d : List ℕ) (root : ℕ) (s o : List ℕ) where
  -- what is written, or the refusal
  abbrev given : Res (List ℕ)
  given = then (lent 4 n t d root (length s)) λ cs. serialized has_idx has_crc cs root (length o)

  refused : (r : Refusal) → given ≡ Err r → Writes has_idx has_crc n t d root s o (Err r) o
  unfolding writing
  refused r e = record { answer = sym (ap (λ (g : Res (List ℕ)). (write_out s o g).answer) e); out = sym (ap (λ (g : Res (List ℕ)). (write_out s o g).out) e) }

  wrote : (xs : List ℕ) → given ≡ Ok xs → Writes has_idx has_crc n t d root s o (Ok (length xs)) (onto xs o)
  unfolding writing
  wrote xs e = record { answer = sym (ap (λ (g : Res (List ℕ)). (write_out s o g).answer) e); out = sym (ap (λ (g : Res (List ℕ)). (write_out s o g).out) e) }

  -- the scratch is all 0 whatever is given
  scratch-zero : (writing has_idx has_crc n t d root s o).scratch ≡ replicate (length s) 0
  unfolding writing
  scratch-zero = go given
    where
      go : (g : Res (List ℕ)) → (write_out s o g).scratch ≡ replicate (length s) 0
      go (Err r) = refl
      go (Ok xs) = refl

  unsound : sound n t d ≡ false → given ≡ Err (refusal STORE 0)
  unfolding lent held
  unsound e = rw e refl

  pub refused-store : sound n t d ≡ false → Writes has_idx has_crc n t d root s o (Err (refusal STORE 0)) o
  refused-store e = refused (refusal STORE 0) (unsound e)

  module _ (e : sound n t d ≡ true) where
    no_cell : n ≤ root → given ≡ Err (refusal NOCELL 0)
    unfolding lent held
    no_cell h = rw (e, cells-length n t d, le-ltb root n h) refl

    pub refused-cell : n ≤ root → Writes has_idx has_crc n t d root s o (Err (refusal NOCELL 0)) o
    refused-cell h = refused (refusal NOCELL 0) (no_cell h)

    module _ (h : root < n) where
      no-scratch : length s < 4 * n → given ≡ Err (refusal SCRATCH (4 * n))
      unfolding lent held
      no-scratch g = rw (e, cells-length n t d, lt-ltb root n h, lt-leb (4 * n) (length s) g) refl

      pub refused-scratch : length s < 4 * n → Writes has_idx has_crc n t d root s o (Err (refusal SCRATCH (4 * n))) o
      refused-scratch g = refused (refusal SCRATCH (4 * n)) (no-scratch g)

      module _ (g : 4 * n ≤ length s) (xs : List ℕ) (x : xs ≡ write has_idx has_crc (cells_of n t d) root) where
        at_last : given ≡ serialized has_idx has_crc (cells_of n t d) root (length o)
        unfolding lent held
        at_last = rw (e, cells-length n t d, lt-ltb root n h, le-leb (4 * n) (length s) g) refl

        no_room : length o < length xs → given ≡ Err (refusal NOROOM (length xs))
        unfolding serialized
        no_room k = at_last ∙ rw (← x, lt-leb (length xs) (length o) k) refl

        pub refused-room : (k : ℕ) → k ≡ length xs → length o < k → Writes has_idx has_crc n t d root s o (Err (refusal NOROOM k)) o
        refused-room k q l = rw q (refused (refusal NOROOM (length xs)) (no_room (rw q at l)))

        room : length xs ≤ length o → given ≡ Ok xs
        unfolding serialized
        room k = at_last ∙ rw (← x, le-leb (length xs) (length o) k) refl

        pub accepted : (k : ℕ) → k ≡ length xs → k ≤ length o → (o' : List ℕ) → o' ≡ puts o 0 xs → Writes has_idx has_crc n t d root s o (Ok k) o'
        accepted k q l o' p = let f : length xs ≤ length o = rw q at l in rw (q, p, puts-start o xs f) (wrote xs (room f))

-- the answer, the output, and the scratch, zeroed last
pub whole : {args : BagOfCellsArgs} {n : ℕ} {t d : List ℕ} {root : ℕ} {s o : List ℕ} {r : Res ℕ} {s' o' : List ℕ}
    → Writes args.has_idx args.has_crc32c n t d root s o r o' → s' ≡ replicate (length s) 0 → Serialized args n t d root s o r s' o'
whole {args} {n} {t} {d} {root} {s} {o} w z = record { answer = w.answer; scratch = z ∙ sym (scratch-zero args.has_idx args.has_crc32c n t d root s o); out = w.out }

-- ---- the cells

places-map : (s out : List ℕ) (n : ℕ) (rs : List ℕ) → ((r : ℕ) → Mem r rs → get_or s (2 * n + r) 0 ≡ place_of r out) → places_of s n rs ≡ map (λ (r : ℕ). place_of r out) rs
unfolding places_of
places-map s out n [] h = refl
places-map s out n (r ∷ rs) h = let p = h r (here refl) in let q = places-map s out n rs (λ x m. h x (there m)) in ap₂ (λ (x : ℕ) (xs : List ℕ). x ∷ xs) p q

sizes-are : (t d s : List ℕ) (n size : ℕ) (l : List ℕ) → CellsOk t d n → ((x : ℕ) → Mem x l → x < n) → sizes t size l ≡ length (all_bytes size (placed_cells t d s n l))
unfolding sizes placed_cells
sizes-are t d s n size [] C h = refl
sizes-are t d s n size (x ∷ l) C h =
    let a = cell-length t d s n size x (C x (h x (here refl))) in
    let b = sizes-are t d s n size l C (λ y m. h y (there m)) in
    sym (length-append (cell_bytes size (placed_cell t d s n x)) (all_bytes size (placed_cells t d s n l)) ∙ ap₂ (λ (u v : ℕ). u + v) a (sym b))

index-are : (t d s : List ℕ) (n size off start : ℕ) (l : List ℕ) → CellsOk t d n → ((x : ℕ) → Mem x l → x < n) → index_of t size off start l ≡ all_be off (entries size start (placed_cells t d s n l))
unfolding index_of placed_cells
index-are t d s n size off start [] C h = refl
index-are t d s n size off start (x ∷ l) C h =
    let a = cell-length t d s n size x (C x (h x (here refl))) in
    rw a (ap (λ (r : List ℕ). be off (entry start (start + cell_size t size x)) ++ r) (index-are t d s n size off (start + cell_size t size x) l C (λ y m. h y (there m))))

placed-length : (t d s : List ℕ) (n : ℕ) (l : List ℕ) → length (placed_cells t d s n l) ≡ length l
unfolding placed_cells
placed-length t d s n [] = refl
placed-length t d s n (x ∷ l) = ap suc (placed-length t d s n l)

module _ (t d : List ℕ) (n root : ℕ) (s : List ℕ) (m : ℕ) (O : Ordered t n root s m) where
  placed_one : (x : ℕ) → Mem x (slice n (n + m) s) → placed_cell t d s n x ≡ leveled (cells_of n t d) (slice n (n + m) s) x
  unfolding placed_cell
  placed_one x i =
      let c : List Cell = cells_of n t d in
      rw (cells_at_lem n t d x (O.below x i), cell-refs t d x)
      (ap (λ (rs : List ℕ). record { level = level_of (cells_of n t d) x; cell = with (cell_at t d x) rs }) (places-map s (slice n (n + m) s) n (refs_at t x) (λ r k. O.places x r i k)))

  placed-all : (l : List ℕ) → ((x : ℕ) → Mem x l → Mem x (slice n (n + m) s)) → placed_cells t d s n l ≡ map (leveled (cells_of n t d) (slice n (n + m) s)) l
  unfolding placed_cells
  placed-all [] k = refl
  placed-all (x ∷ l) k = ap₂ (λ (c : Leveled) (cs : List Leveled). c ∷ cs) (placed_one x (k x (here refl))) (placed-all l (λ y i. k y (there i)))

  placed-bag : placed_cells t d s n (slice n (n + m) s) ≡ bag_cells (cells_of n t d) (order_of (cells_of n t d) root)
  placed-bag = placed-all (slice n (n + m) s) (λ x i. i) ∙ ap (bag_cells (cells_of n t d)) (O.listed d)

-- ---- the bytes

-- the body, with its numbers named
body_by : Bool → Bool → List Leveled → ℕ → ℕ → ℕ → ℕ → List ℕ
body_by has_idx has_crc cs m size total off =
    be 4 generic_tag ++ ((128 * bit_of has_idx + 64 * bit_of has_crc + size) ∷ off ∷ (be size m ++ (be size 1 ++ (be size 0 ++ (be off total
    ++ (be size 0 ++ (cond has_idx (all_be off (entries size 0 cs)) [] ++ all_bytes size cs)))))))

body-by : (has_idx has_crc : Bool) (cs : List Leveled) (m size total off : ℕ) → length cs ≡ m → width 8 m ≡ size → length (all_bytes size cs) ≡ total → width 8 total ≡ off
    → body has_idx has_crc cs ≡ body_by has_idx has_crc cs m size total off
unfolding body_by body
body-by has_idx has_crc cs m size total off p q r o =
    ap (λ (k : ℕ). body_by has_idx has_crc cs k (width 8 k) (length (all_bytes (width 8 k) cs)) (width 8 (length (all_bytes (width 8 k) cs)))) p
    ∙ ap (λ (k : ℕ). body_by has_idx has_crc cs m k (length (all_bytes k cs)) (width 8 (length (all_bytes k cs)))) q
    ∙ ap (λ (k : ℕ). body_by has_idx has_crc cs m size k (width 8 k)) r
    ∙ ap (λ (k : ℕ). body_by has_idx has_crc cs m size total k) o

head-by : (flags m size off total : ℕ) (i c : List ℕ) → head_bytes flags m size off total ++ (i ++ c) ≡ 0xb5 ∷ 0xee ∷ 0x9c ∷ 0x72 ∷ flags ∷ off ∷ (be size m ++ (be size 1 ++ (be size 0 ++ (be off total ++ (be size 0 ++ (i ++ c))))))
unfolding head_bytes
head-by flags m size off total i c = simp append_assoc

index-by : (has_idx : Bool) (t d s : List ℕ) (n size off : ℕ) (l : List ℕ) → CellsOk t d n → ((x : ℕ) → Mem x l → x < n) → index_if has_idx t size off l ≡ cond has_idx (all_be off (entries size 0 (placed_cells t d s n l))) []
unfolding index_if
index-by true t d s n size off l C h = index-are t d s n size off 0 l C h
index-by false t d s n size off l C h = refl

seal_by : (has_idx has_crc : Bool) (b : List ℕ) (cs : List Leveled) → b ≡ body has_idx has_crc cs → sealed_of has_crc b ≡ bag_bytes has_idx has_crc cs
unfolding sealed_of bag_bytes
seal_by has_idx has_crc b cs e = ap (λ (l : List ℕ). l ++ cond has_crc (le 4 (crc_of l)) []) e

module _ (t d : List ℕ) (n root : ℕ) (C : CellsOk t d n) (s : List ℕ) (m : ℕ) (O : Ordered t n root s m) (k : 2 * n ≤ length s) (has_idx has_crc : Bool) (size total off : ℕ) (z : size ≡ width 8 m) (y : total ≡ sizes t size (slice n (n + m) s)) (w : off ≡ width 8 total) where
  list_length : length (slice n (n + m) s) ≡ m
  list_length = let a = O.within in length-slice n (n + m) s (omega arith) ∙ sub n m
    where
      sub : (a b : ℕ) → a + b - a ≡ b
      sub a b = omega arith

  sizes-here : sizes t size (slice n (n + m) s) ≡ length (all_bytes size (placed_cells t d s n (slice n (n + m) s)))
  sizes-here = sizes-are t d s n size (slice n (n + m) s) C O.below

  body_is : body_of has_idx has_crc t d s n m size off ≡ body has_idx has_crc (placed_cells t d s n (slice n (n + m) s))
  unfolding body_of body_by
  body_is =
      rw (index-by has_idx t d s n size off (slice n (n + m) s) C O.below, ← y)
      (head-by (128 * bit_of has_idx + 64 * bit_of has_crc + size) m size off total (cond has_idx (all_be off (entries size 0 (placed_cells t d s n (slice n (n + m) s)))) []) (all_bytes size (placed_cells t d s n (slice n (n + m) s))))
      ∙ sym (body-by has_idx has_crc (placed_cells t d s n (slice n (n + m) s)) m size total off (placed-length t d s n (slice n (n + m) s) ∙ list_length) (sym z) (sym (y ∙ sizes-here)) (sym w))

  -- what is written is what the definition says
  pub bag-is : sealed_of has_crc (body_of has_idx has_crc t d s n m size off) ≡ write has_idx has_crc (cells_of n t d) root
  unfolding write
  bag-is = seal_by has_idx has_crc (body_of has_idx has_crc t d s n m size off) (placed_cells t d s n (slice n (n + m) s)) body_is ∙ ap (bag_bytes has_idx has_crc) (placed-bag t d n root s m O)

  pub needed_is : needed_of has_idx has_crc m size off total ≡ length (sealed_of has_crc (body_of has_idx has_crc t d s n m size off))
  unfolding needed_of body_of
  needed_is =
      let l = slice n (n + m) s in
      let a = sealed_length has_crc (body_of has_idx has_crc t d s n m size off) in
      let b = length-append (head_bytes (128 * bit_of has_idx + 64 * bit_of has_crc + size) m size off (sizes t size l)) (index_if has_idx t size off l ++ all_bytes size (placed_cells t d s n l)) in
      let c = length-append (index_if has_idx t size off l) (all_bytes size (placed_cells t d s n l)) in
      let e = head-length (128 * bit_of has_idx + 64 * bit_of has_crc + size) m size off (sizes t size l) in
      let f : length (index_if has_idx t size off l) ≡ cond has_idx (off * m) 0 = index-length-is has_idx t size off l ∙ ap (λ (k : ℕ). cond has_idx (off * k) 0) list_length in
      let g = y ∙ sizes-here in
      let u : length (body_of has_idx has_crc t d s n m size off) ≡ 6 + 4 * size + off + (cond has_idx (off * m) 0 + total) = omega arith in
      omega arith
